-- What `ken soak` writes, and what its world keeps.
use Rattle.std.specs.Prelude.{◌≡◌, ◌⊎◌, ℕ, List, [], Option}
use Rattle.std.specs.Io.KnownBytes.{Appends}
use Rattle.ken_model.specs.History.{IsPrefixOf}
use Rattle.ken_store.specs.declared.disks.Disks.{Disks}
use Rattle.ken_drive.specs.Driven.{Views}
use Rattle.ken_drive.specs.Worlds.{HasKeptNothing}
use Rattle.ken_gen.specs.Summary.{summary}
use Rattle.ken_soak.specs.Soaking.{HasSoaked, IsSoakDown}
use Rattle.ken_top.specs.declared.status.Status.{Status}
use Rattle.ken_top.specs.declared.status.Status.TheVariants as status

module _ {D O U : Type 0} (views : Views D O U) (kept : ℕ → Option (Disks D × O × U)) (seed nodes inputs rounds : ℕ) where
  -- what each status says of the bytes that were written, and of the devices that were kept. No run of a seed is cut
  abbrev pub Wrote : List ℕ → Status → Type 0
  Wrote w status.Settled = (w ≡ summary seed nodes inputs) × HasSoaked views kept seed nodes inputs rounds
  Wrote w (status.Down v) = (w ≡ []) × IsSoakDown views kept seed nodes inputs rounds v
  Wrote w status.Write = IsPrefixOf w (summary seed nodes inputs) × HasSoaked views kept seed nodes inputs rounds
  Wrote w status.Memory = (w ≡ []) × (HasKeptNothing kept ⊎ HasSoaked views kept seed nodes inputs rounds)
  Wrote w status.Usage = ⊥
  Wrote w (status.Script rule index) = ⊥
  Wrote w status.Cut = ⊥
  Wrote w (status.Damaged v disk place) = ⊥
  Wrote w status.Read = ⊥
  Wrote w status.Checked = ⊥
  Wrote w (status.Wrong line) = ⊥
  Wrote w status.Long = ⊥
  Wrote w status.Dumped = ⊥
  Wrote w (status.Open v disk) = ⊥
  Wrote w (status.Device v disk) = ⊥

  -- what was written, with its status
  pub record Soaks (took_old took_new : Option (List ℕ)) (answer : Status) : Type 0 where
    pub written : List ℕ
    pub out : Appends took_old took_new written
    pub wrote : Wrote written answer

-- the run has ended, or memory was short
abbrev pub IsThrough : Status → Type 0
IsThrough answer = (answer ≡ status.Settled) ⊎ (answer ≡ status.Memory)
