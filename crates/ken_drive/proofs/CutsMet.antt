-- The cuts that the disks of a node have met.
use Rattle.std.proofs.Common.{arith, ℕ, ◌+◌, Option}
use Rattle.ken_disk.specs.Fates.{Fate}
use Rattle.ken_store.specs.declared.disks.Disks.{Disks}
use Rattle.ken_node.specs.declared.stage.Stage.{Stage}
use Rattle.ken_node.specs.declared.watched.Watched.{Watched}
use Rattle.ken_run.specs.Accounts.{AreFated, AreRaised, HasFates, HaveFallen, Terms}
use Rattle.ken_drive.specs.Driven.{HaveMet}
use Rattle.ken_drive.specs.Finishing.{unwatched}

module _ {D : Type 0} (fate : Watched D → Option Fate) (terms : Terms) (v often : ℕ) (stage : Stage (Watched D)) where
  -- of a node that is up
  pub raised-met : HasFates fate terms.scripted (AreRaised (terms.cuts v) often) stage → HasFates fate terms.scripted (HaveFallen (terms.cuts v) often) stage
  raised-met fates disks has = let f = fates disks has in record { falls = λ l i s a b c. (f.falls l i s a b c).3; tell = f.tell }

  -- of one that is down
  pub fewer-met : HasFates fate terms.scripted (HaveFallen (terms.cuts v) (often + 1)) stage → HasFates fate terms.scripted (HaveFallen (terms.cuts v) often) stage
  fewer-met fates disks has = let f = fates disks has in record { falls = λ l i s a b c. let most = f.falls l i s a b c in omega (arith, most); tell = f.tell }

-- disks that are given back have met as many
pub unwatched-met : {D : Type 0} (fate : D → Option Fate) (terms : Terms) (v many : ℕ) (disks : Disks (Watched D))
    → AreFated (λ (w : Watched D). fate w.disk) terms.scripted (HaveFallen (terms.cuts v) many) disks → HaveMet fate terms v many (unwatched disks)
unwatched-met fate terms v many disks fated = record {
  falls = fated.falls;
  tell = λ scripted.
      let t = fated.tell scripted in
      record { log = t.log; image = t.image; second = t.second; log_is = t.log_is; image_is = t.image_is; second_is = t.second_is };
}
