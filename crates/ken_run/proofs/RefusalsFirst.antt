-- The failures of an outlet that refused nothing yet.
use Rattle.std.proofs.Common.{◌≡◌, ◌∙◌, ℕ, Option, sym, ap, subst, arith}
use Rattle.ken_disk.specs.Story.{Story}
use Rattle.ken_model.specs.Game.{Game}
use Rattle.ken_store.specs.declared.disks.Disks.{Disks}
use Rattle.ken_ship.specs.Fates.{Fate}
use Rattle.ken_ship.specs.Parts.{Part}
use Rattle.ken_node.specs.declared.stage.Stage.{Stage}
use Rattle.ken_node.specs.Created.{IsNewNode}
use Rattle.ken_node.specs.Stages.{IsUncreated, refusals_in}
use Rattle.ken_run.specs.Accounts.{Terms}
use Rattle.ken_run.specs.declared.station.Station.{Station}
use Rattle.ken_run.specs.Refusals.{HasFailedLast, IsRefused}
use Rattle.ken_run.specs.Devices.{MayFailAt}
use Rattle.ken_run.proofs.Refusals.{failed-none}

-- a node that was created, or couldn't be, was refused no output
pub new-unrefused : {D : Type 0} (told : D → Option Story) (size : D → ℕ) (g : Game) (v : ℕ) (stage : Stage D) → IsNewNode told size g v stage → refusals_in stage ≡ 0
new-unrefused told size g v stage n = ap refusals_in n.stage_is ∙ ap (λ (p : Part). p.refusals) n.new.part

pub uncreated-unrefused : {D : Type 0} (g : Game) (v : ℕ) (disks : Disks D) (stage : Stage D) → IsUncreated g v disks stage → refusals_in stage ≡ 0
uncreated-unrefused g v disks stage u = ap refusals_in u.stage_is ∙ ap (λ (p : Part). p.refusals) u.first.part

-- whatever its outlet is
pub first-refused : {D O U : Type 0} (faults : U → ℕ) (fate : U → Option Fate) (terms : Terms) (v : ℕ) (s : Station D O U) → MayFailAt terms.scripted v (terms.fails v) (fate s.out) → refusals_in s.node.stage ≡ 0 → IsRefused faults fate terms v s
first-refused faults fate terms v s may none = record {
  fails = may;
  few = omega (arith, none);
  failed = subst (λ (k : ℕ). HasFailedLast faults fate k s.out) (sym none) (failed-none faults fate s.out);
}
