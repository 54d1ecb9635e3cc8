-- What a round makes of the counts of faults of a node's disks.
use Rattle.std.proofs.Common.{◌≡◌, ℕ, ◌≤◌, ◌⊎◌, inl, inr, true, false, refl, sym, subst, arith}
use Rattle.ken_disk.specs.declared.disk.Disk as disk
use Rattle.ken_disk.specs.Causes.{Rose}
use Rattle.ken_app.specs.declared.oracle.Oracle as oracle
use Rattle.ken_model.specs.Game.{Game}
use Rattle.ken_net.specs.declared.net.Net as net
use Rattle.ken_core.specs.Nodes.{Node}
use Rattle.ken_store.specs.declared.disks.Disks.{Disks}
use Rattle.ken_store.specs.Apart.{disks_apart}
use Rattle.ken_ship.specs.declared.outlet.Outlet as outlet
use Rattle.ken_ship.specs.declared.worker.SendWorker.{SendWorker}
use Rattle.ken_work.specs.declared.patcher.PatchWorker.{PatchWorker}
use Rattle.ken_work.specs.declared.worker.TurnWorker.{TurnWorker}
use Rattle.ken_node.specs.declared.stage.Stage.{Stage}
use Rattle.ken_node.specs.declared.watched.Watched.{Watched}
use Rattle.ken_node.specs.Restarts.{OneHasFailed}
use Rattle.ken_node.specs.Stages.{HasDisks}
use Rattle.ken_run.specs.declared.station.Station.{Station}
use Rattle.ken_run.specs.Counts.{KeepCounts, NoneFell}
use Rattle.ken_run.proofs.AccountsCalls.{HasSome}
use Rattle.ken_run.proofs.Counts.{failed-kept, none-fell-then, unfailed-kept}
use Rattle.ken_threads.specs.declared.crew.Crew.{Crew}
use Rattle.ken_rounds.specs.Crews.{CrewPlayed, HaveFailed, TwoHaveFailed}
use Rattle.ken_rounds.specs.Faults.{has_fallen}
use Rattle.ken_rounds.specs.Manned.{CameBack, IsMannedBy}
use Rattle.ken_rounds.specs.Quota.{CountsRose, OneRose}

-- a count that rose before or after another call, which lets it stand or rise
rose-then : (a b c : ℕ) → Rose a b → b ≤ c → Rose a c
rose-then a b c rose up = omega (arith, rose, up)

then-rose : (a b c : ℕ) → a ≤ b → Rose b c → Rose a c
then-rose a b c up rose = omega (arith, rose, up)

module _ {D : Type 0} (count : D → ℕ) where
  one-rose-then : (a b c : Disks D) → OneRose count a b → NoneFell count b c → OneRose count a c
  one-rose-then a b c (inl rose) up = inl (rose-then (count a.log) (count b.log) (count c.log) rose up.log)
  one-rose-then a b c (inr (inl rose)) up = inr (inl (rose-then (count a.image) (count b.image) (count c.image) rose up.image))
  one-rose-then a b c (inr (inr rose)) up = inr (inr (rose-then (count a.second) (count b.second) (count c.second) rose up.second))

  then-one-rose : (a b c : Disks D) → NoneFell count a b → OneRose count b c → OneRose count a c
  then-one-rose a b c up (inl rose) = inl (then-rose (count a.log) (count b.log) (count c.log) up.log rose)
  then-one-rose a b c up (inr (inl rose)) = inr (inl (then-rose (count a.image) (count b.image) (count c.image) up.image rose))
  then-one-rose a b c up (inr (inr rose)) = inr (inr (then-rose (count a.second) (count b.second) (count c.second) up.second rose))

  -- of stages, the middle one of which has disks
  pub counts-rose-then : (a b c : Stage D) → HasSome b → CountsRose count a b → KeepCounts count b c → CountsRose count a c
  counts-rose-then a b c mid rose up = λ before after had has. one-rose-then before mid.0 after (rose before mid.0 had mid.1) (up mid.0 after mid.1 has)

  pub then-counts-rose : (a b c : Stage D) → HasSome b → KeepCounts count a b → CountsRose count b c → CountsRose count a c
  then-counts-rose a b c mid up rose = λ before after had has. then-one-rose before mid.0 after (up before mid.0 had mid.1) (rose mid.0 after mid.1 has)

module _ {D : Type 0} (d : disk.Ghosts D) where
  one-rose : (a b : Disks D) → OneHasFailed d.told d.faults d.fate a b → OneRose d.faults a b
  one-rose a b (inl f) = inl f.0.count.1
  one-rose a b (inr (inl f)) = inr (inl f.1.count.1)
  one-rose a b (inr (inr f)) = inr (inr f.2.count.1)

  -- where one disk failed, or two did
  last-failed : (a b : Disks D) → OneHasFailed d.told d.faults d.fate a b ⊎ TwoHaveFailed d a b → NoneFell d.faults a b × OneRose d.faults a b
  last-failed a b (inl one) = (failed-kept d.told d.faults d.fate a b one, one-rose a b one)
  last-failed a b (inr two) =
      let second = failed-kept d.told d.faults d.fate two.between b two.second in (
        none-fell-then d.faults a two.between b (failed-kept d.told d.faults d.fate a two.between two.first) second,
        one-rose-then d.faults a two.between b (one-rose a two.between two.first) second,
      )

  have-failed : (a b : Disks D) → HaveFailed d a b → NoneFell d.faults a b × OneRose d.faults a b
  have-failed a b failed =
      let before = unfailed-kept d.told d.faults d.fate a failed.mid failed.before in
      let last = last-failed failed.mid b failed.last in
      (none-fell-then d.faults a failed.mid b before last.0, then-one-rose d.faults a failed.mid b before last.1)

-- ---- a node of a round

module _ {D N O U : Type 0} (d : disk.Ghosts (Watched D)) (e : net.Ghosts N) (o : oracle.Ghosts O) (u : outlet.Ghosts U) (g : Game) (v : ℕ) (n : Node)
    (old new : Crew (Watched D) O U) (acks acks2 mail mail2 : N) (t : TurnWorker (Watched D)) (p : PatchWorker (Watched D)) (s : SendWorker) (a b : Station D O U)
    (played : CrewPlayed d e o u g v n old new acks acks2 mail mail2 t p s) (manned : IsMannedBy old a) (back : CameBack new t p s a b) where
  -- its disks before and after
  abbrev lent : Disks (Watched D)
  lent = disks_apart old.turns.side old.patches.side

  abbrev returned : Disks (Watched D)
  returned = disks_apart t.side p.side

  pub has-returned : HasSome b.node.stage
  has-returned = (returned, subst (HasDisks returned) (sym back.stage) refl)

  -- what is so of these is so of any that it has
  of-any : (P : Disks (Watched D) → Disks (Watched D) → Type 0) → P lent returned → (x y : Disks (Watched D)) → HasDisks x a.node.stage → HasDisks y b.node.stage → P x y
  of-any P is x y had has = subst (λ (z : Disks (Watched D)). P z y) (sym (subst (HasDisks x) manned.stage had)) (subst (λ (z : Disks (Watched D)). P lent z) (sym (subst (HasDisks y) back.stage has)) is)

  pub counts-up : has_fallen new.faults ≡ false → KeepCounts d.faults a.node.stage b.node.stage
  counts-up none = of-any (NoneFell d.faults) (unfailed-kept d.told d.faults d.fate lent returned (played.up none).unfailed)

  pub counts-down : has_fallen new.faults ≡ true → KeepCounts d.faults a.node.stage b.node.stage × CountsRose d.faults a.node.stage b.node.stage
  counts-down some =
      let failed = have-failed d lent returned (played.down some).failed in
      (of-any (NoneFell d.faults) failed.0, of-any (OneRose d.faults) failed.1)
