-- What the faults of a seed leave as it was: no node has more than it can bear because of them.
use Rattle.std.specs.Prelude.{◌≡◌, ◌⊎◌, ℕ, ◌≤◌, ◌==◌, List, length, filter, Bool}
use Rattle.ken_script.specs.declared.scripts.DiskCut.{DiskCut}
use Rattle.ken_script.specs.declared.scripts.OutFail.{OutFail}
use Rattle.ken_script.specs.declared.scripts.Script.{Script}
use Rattle.ken_gen.specs.Torments.{tormented}

-- of one kind a list has at most so many items, or just those that an earlier one had
abbrev pub HasFewOrThose : {T : Type 0} → (T → Bool) → ℕ → List T → List T → Type 0
HasFewOrThose is_of most earlier new = (length (filter is_of new) ≤ most) ⊎ (filter is_of new ≡ filter is_of earlier)

-- node v has no more cuts than restarts, or just those of the script; and at most 64 refusals, or just those of the script
pub record AddsFew (seed : ℕ) (script : Script) (v : ℕ) : Type 0 where
  pub cuts : HasFewOrThose (λ (c : DiskCut). c.node == v) script.restarts script.cuts (tormented seed script).cuts
  pub outlets : HasFewOrThose (λ (f : OutFail). f.node == v) 64 script.outlets (tormented seed script).outlets

abbrev pub TormentAddsFew : Type 0
TormentAddsFew = (seed : ℕ) (script : Script) (v : ℕ) → AddsFew seed script v
