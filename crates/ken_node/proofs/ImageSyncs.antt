-- What a patch and a sync make of the disk of an image.
use Rattle.std.proofs.Common.{◌≡◌, ℕ, ◌≤◌, List, [], ◌∷◌, length, Option, Some, None, Bool, Result, Ok, Err, sym, ap, subst, arith}
use Rattle.std.specs.Prelude.{OnOk}
use Rattle.ken_disk.proofs.Told.{by_none}
use Rattle.ken_disk.specs.declared.faults.DiskFault.{DiskFault}
use Rattle.ken_disk.specs.declared.faults.DiskFault.TheVariants.{Failed, Memory}
use Rattle.ken_disk.specs.Fates.{Fate}
use Rattle.ken_disk.specs.Steps.{after_syncing, after_writing}
use Rattle.ken_disk.specs.Story.{Story, Follows}
use Rattle.ken_image.specs.Calls.{Call, Called, Sync, Write, after_calls, after_failure}
use Rattle.ken_image.specs.declared.image.Image.{Image}
use Rattle.ken_store.specs.declared.faults.StoreFault.{StoreFault}
use Rattle.ken_store.specs.Patching.{disk_answer, patch_calls}
use Rattle.ken_ship.specs.declared.faults.NodeFault.{NodeFault}
use Rattle.ken_ship.specs.declared.worker.SendWorker.{SendWorker}
use Rattle.ken_work.specs.declared.patcher.PatchWorker.{PatchWorker}
use Rattle.ken_work.specs.declared.worker.TurnWorker.{TurnWorker}
use Rattle.ken_work.specs.Faults.{store_answer}
use Rattle.ken_work.specs.Meeting.{HaveMet}
use Rattle.ken_work.specs.Patches.{PatchesOnce, SettlesOnce, went, no_room}
use Rattle.ken_node.specs.Synced.{HasMadeSync, KeepsStory}

follows-by : {X : Type 0} (R S : X → X → Type 0) → ((a b : X) → R a b → S a b) → (old new : Option X) → Follows R old new → Follows S old new
follows-by R S by (Some x) new follows = (follows.0, follows.1, by x follows.0 follows.2)
follows-by R S by None new follows = follows

-- ---- a call of a disk takes no sync away

calls-sync : (calls : List Call) (h : Story) → h.now.syncs ≤ (after_calls calls h).now.syncs
calls-sync [] h = omega arith
calls-sync (Write at bytes ∷ calls) h = calls-sync calls (after_writing at bytes h)
calls-sync (Sync ∷ calls) h = let rest = calls-sync calls (after_syncing h) in omega (arith, rest)

failure-sync : (call : Call) (h : Story) → h.now.syncs ≤ (after_failure call h).now.syncs
failure-sync (Write at bytes) h = omega arith
failure-sync Sync h = omega arith

called-sync : {T : Type 0} (result : Result T DiskFault) (calls : List Call) (a b : Story) → Called result calls a b → a.now.syncs ≤ b.now.syncs
called-sync (Ok x) calls a b is = subst (λ (h : Story). a.now.syncs ≤ h.now.syncs) (sym is) (calls-sync calls a)
called-sync (Err Failed) calls a b is =
    let stop = is.0 in
    let done = calls-sync stop.done a in
    let last = failure-sync stop.next (after_calls stop.done a) in
    subst (λ (h : Story). a.now.syncs ≤ h.now.syncs) (sym is.1) (omega (arith, done, last))
called-sync (Err Memory) calls a b is = let stop = is.0 in subst (λ (h : Story). a.now.syncs ≤ h.now.syncs) (sym is.1) (calls-sync stop.done a)

-- ---- nor a past state

calls-past : (calls : List Call) (h : Story) → length h.past ≤ length (after_calls calls h).past
calls-past [] h = omega arith
calls-past (Write at bytes ∷ calls) h = let rest = calls-past calls (after_writing at bytes h) in omega (arith, rest)
calls-past (Sync ∷ calls) h = let rest = calls-past calls (after_syncing h) in omega (arith, rest)

failure-past : (call : Call) (h : Story) → length h.past ≤ length (after_failure call h).past
failure-past (Write at bytes) h = omega arith
failure-past Sync h = omega arith

called-past : {T : Type 0} (result : Result T DiskFault) (calls : List Call) (a b : Story) → Called result calls a b → length a.past ≤ length b.past
called-past (Ok x) calls a b is = subst (λ (h : Story). length a.past ≤ length h.past) (sym is) (calls-past calls a)
called-past (Err Failed) calls a b is =
    let stop = is.0 in
    let done = calls-past stop.done a in
    let last = failure-past stop.next (after_calls stop.done a) in
    subst (λ (h : Story). length a.past ≤ length h.past) (sym is.1) (omega (arith, done, last))
called-past (Err Memory) calls a b is = let stop = is.0 in subst (λ (h : Story). length a.past ≤ length h.past) (sym is.1) (calls-past stop.done a)

-- what KeepsStory says of two stories
abbrev Keeps : Story → Story → Type 0
Keeps a b = (a.now.syncs ≤ b.now.syncs) × (length a.past ≤ length b.past)

called-story : {T : Type 0} (result : Result T DiskFault) (calls : List Call) (a b : Story) → Called result calls a b → Keeps a b
called-story result calls a b is = (called-sync result calls a b is, called-past result calls a b is)

same-story : (old new : Option Story) → new ≡ old → KeepsStory old new
same-story old new is = by_none Keeps old new is (λ a. (omega arith, omega arith))

module _ {D : Type 0} (told : D → Option Story) (size count : D → ℕ) (fate : D → Option Fate) where
  patched-story : (result : Result Bool StoreFault) (p p1 : PatchWorker D) → PatchesOnce told size count fate result p p1 → KeepsStory (told p.side.image.disk) (told p1.side.image.disk)
  patched-story result p p1 (went mid takes is patches) =
      subst (λ (i : Image D). KeepsStory (told i.disk) (told p1.side.image.disk)) takes.handed.image
      (follows-by (Called (disk_answer result) (patch_calls mid.side.ahead.items)) Keeps (λ a b. called-story (disk_answer result) (patch_calls mid.side.ahead.items) a b) (told mid.side.image.disk) (told p1.side.image.disk) patches.calls)
  patched-story result p p1 (no_room e takes) = same-story (told p.side.image.disk) (told p1.side.image.disk) (ap (λ (i : Image D). told i.disk) takes.handed.image)

  settled-sync : (result : Result (Unit {0}) NodeFault) (p p1 : PatchWorker D) → SettlesOnce told size count fate (store_answer result) p p1 → OnOk result (HasMadeSync (told p.side.image.disk) (told p1.side.image.disk))
  settled-sync (Ok x) p p1 is = is.calls
  settled-sync (Err fault) p p1 is = tt

  -- ---- and the workers meet

  module _ (t t2 : TurnWorker D) (p p1 p2 : PatchWorker D) (s s2 : SendWorker) (met : HaveMet told size t t2 p1 p2 s s2) where
    pub met-image : told p2.side.image.disk ≡ told p1.side.image.disk
    met-image = ap (λ (i : Image D). told i.disk) met.patches.handed.image

    pub patch-story-met : (result : Result Bool StoreFault) → PatchesOnce told size count fate result p p1 → KeepsStory (told p.side.image.disk) (told p2.side.image.disk)
    patch-story-met result is = subst (λ (o : Option Story). KeepsStory (told p.side.image.disk) o) (sym met-image) (patched-story result p p1 is)

    pub settle-sync-met : (result : Result (Unit {0}) NodeFault) → SettlesOnce told size count fate (store_answer result) p p1 → OnOk result (HasMadeSync (told p.side.image.disk) (told p2.side.image.disk))
    settle-sync-met result is = subst (λ (o : Option Story). OnOk result (HasMadeSync (told p.side.image.disk) o)) (sym met-image) (settled-sync result p p1 is)
