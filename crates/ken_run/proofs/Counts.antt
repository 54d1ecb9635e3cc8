-- Restarts let the counts of faults of a node's disks stand, or rise.
use Rattle.std.proofs.Common.{ℕ, inl, inr, Option, Result, Ok, Err, subst, arith}
use Rattle.ken_disk.specs.Fates.{Fate}
use Rattle.ken_disk.specs.Story.{Story}
use Rattle.ken_store.specs.declared.disks.Disks.{Disks}
use Rattle.ken_store.specs.declared.owner.Owner.{Owner}
use Rattle.ken_ship.specs.declared.faults.NodeFault.{NodeFault}
use Rattle.ken_ship.specs.declared.faults.NodeFault.TheVariants.{Disk, Damaged, Outlet, Memory}
use Rattle.ken_node.specs.declared.stage.Stage.{Stage}
use Rattle.ken_node.specs.declared.watched.Watched.{Watched}
use Rattle.ken_node.specs.Down.{MayRestart}
use Rattle.ken_node.specs.Restarts.{AreUnfailed, OneHasFailed, RestartsBy, WereRestarted}
use Rattle.ken_node.proofs.Fresh.{has-one}
use Rattle.ken_run.specs.declared.station.Station.{Station}
use Rattle.ken_run.specs.Counts.{KeepCounts, NoneFell}
use Rattle.ken_run.proofs.AccountsCalls.{HasSome}
use Rattle.ken_run.proofs.StartingNode.{IsDownStill, may-restart-still}

module _ {D : Type 0} (count : D → ℕ) where
  none-fell : (a : Disks D) → NoneFell count a a
  none-fell a = record { log = omega arith; image = omega arith; second = omega arith }

  pub none-fell-then : (a b c : Disks D) → NoneFell count a b → NoneFell count b c → NoneFell count a c
  none-fell-then a b c one two =
      let l = one.log in let i = one.image in let s = one.second in
      let l2 = two.log in let i2 = two.image in let s2 = two.second in
      record { log = omega (arith, l, l2); image = omega (arith, i, i2); second = omega (arith, s, s2) }

  -- of stages
  pub counts-same : (stage : Stage D) → KeepCounts count stage stage
  counts-same stage before after had has = subst (NoneFell count before) (has-one before after stage had has) (none-fell before)

  pub counts-then : (a b c : Stage D) → HasSome b → KeepCounts count a b → KeepCounts count b c → KeepCounts count a c
  counts-then a b c mid one two before after had has = none-fell-then before mid.0 after (one before mid.0 had mid.1) (two mid.0 after mid.1 has)

module _ {D : Type 0} (told : D → Option Story) (count : D → ℕ) (fate : D → Option Fate) where
  -- where no call failed they stand, and where one did its disk's rose
  pub unfailed-kept : (a b : Disks D) → AreUnfailed told count fate a b → NoneFell count a b
  unfailed-kept a b is = let l = is.log.count in let i = is.image.count in let s = is.second.count in record { log = omega (arith, l); image = omega (arith, i); second = omega (arith, s) }

  pub failed-kept : (a b : Disks D) → OneHasFailed told count fate a b → NoneFell count a b
  failed-kept a b (inl f) = let l = f.0.count.0 in let i = f.1.count in let s = f.2.count in record { log = l; image = omega (arith, i); second = omega (arith, s) }
  failed-kept a b (inr (inl f)) = let l = f.0.count in let i = f.1.count.0 in let s = f.2.count in record { log = omega (arith, l); image = i; second = omega (arith, s) }
  failed-kept a b (inr (inr f)) = let l = f.0.count in let i = f.1.count in let s = f.2.count.0 in record { log = omega (arith, l); image = omega (arith, i); second = s }

  restarted-kept : (pick : ℕ) (a b : Disks D) → WereRestarted told count fate pick a b → NoneFell count a b
  restarted-kept pick a b is = let l = is.log.faults in let i = is.image.faults in let s = is.second.faults in record { log = omega (arith, l); image = omega (arith, i); second = omega (arith, s) }

  -- so in a restart, whatever it answers
  pub restart-kept : {T : Type 0} (o : Owner) (pick : ℕ) (result : Result T NodeFault) (a b : Disks D) → RestartsBy told count fate o pick result a b → NoneFell count a b
  restart-kept o pick (Ok x) a b by = none-fell-then count a by.0 b (restarted-kept pick a by.0 by.1.0) (unfailed-kept by.0 b by.1.1.unfailed)
  restart-kept o pick (Err Disk) a b by = none-fell-then count a by.0 b (restarted-kept pick a by.0 by.1.0) (failed-kept by.0 b by.1.1)
  restart-kept o pick (Err Memory) a b by = let l = by.0 in let i = by.1 in let s = by.2 in record { log = omega (arith, l); image = omega (arith, i); second = omega (arith, s) }
  restart-kept o pick (Err Outlet) a b by = absurd by
  restart-kept o pick (Err (Damaged disk place)) a b by = none-fell-then count a by.0 b (restarted-kept pick a by.0 by.1.0) (unfailed-kept by.0 b by.1.1)

-- one restart more of a station that is down still
pub raised-kept : {D O U : Type 0} (told : Watched D → Option Story) (count : Watched D → ℕ) (old mid new : Station D O U) → MayRestart told old.node.stage → IsDownStill told old mid
    → KeepCounts count old.node.stage mid.node.stage → KeepCounts count mid.node.stage new.node.stage → KeepCounts count old.node.stage new.node.stage
raised-kept told count old mid new may is one two =
    let down = (may-restart-still told old mid may is).down in
    counts-then count old.node.stage mid.node.stage new.node.stage (down.disks, down.has) one two
