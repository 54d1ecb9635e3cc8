-- What steps do to the disks of a node.
use Rattle.std.proofs.Common.{◌≡◌, List, [], ◌∷◌, Bool, true, false, Option, Result, Ok, Err, IsSome, ⊎_elim, refl, sym, ap, subst, ◌∙◌}
use Rattle.ken_disk.specs.declared.disk.Disk as disk
use Rattle.ken_disk.specs.Fates.{Fate, Suffers}
use Rattle.ken_disk.specs.Story.{Follows}
use Rattle.ken_app.specs.declared.oracle.Oracle as oracle
use Rattle.ken_image.specs.declared.image.Image.{Image}
use Rattle.ken_image.specs.Calls.{Sync, Called}
use Rattle.ken_model.specs.Handler.{Handler}
use Rattle.ken_net.specs.declared.net.Net as net
use Rattle.ken_store.specs.declared.disks.Disks.{Disks}
use Rattle.ken_store.specs.declared.disks.Which.{Which}
use Rattle.ken_store.specs.declared.disks.Which.TheVariants.{First, Second}
use Rattle.ken_store.specs.declared.faults.StoreFault.{StoreFault}
use Rattle.ken_store.specs.declared.faults.StoreFault.TheVariants as store
use Rattle.ken_store.specs.declared.turning.TurnSide.{TurnSide}
use Rattle.ken_store.specs.Answers.{disks_from}
use Rattle.ken_store.specs.Apart.{disks_apart}
use Rattle.ken_store.specs.Creations.{HasFailed, IsUnfailed}
use Rattle.ken_store.specs.Patching.{PatchSuffers, disk_answer, patch_calls}
use Rattle.ken_work.specs.declared.patcher.PatchWorker.{PatchWorker}
use Rattle.ken_work.specs.declared.worker.TurnWorker.{TurnWorker}
use Rattle.ken_node.specs.Down.{AreTold}
use Rattle.ken_work.specs.Patches.{PatchesOnce, SettlesOnce, went, no_room}
use Rattle.ken_node.specs.Restarts.{AreUnfailed, OneHasFailed}
use Rattle.ken_work.specs.Calls.{Drew}
use Rattle.ken_node.proofs.TurnDisks.{turn-told, turn-unfailed}
use Rattle.ken_node.proofs.Up.{all-unfailed, follows-same, image-failed, image-unfailed, still-told, told-image}
use Rattle.ken_weave.specs.Workers.{Steps, none, then}
use Rattle.ken_beside.specs.Seats.{Handling}
use Rattle.ken_beside.specs.Steps.{HandlerStep, PatcherCall, PatcherFault, PatcherStep, patches_once, settles_once, patch_fails, sync_fails, turns_once}

module _ {D : Type 0} (d : disk.Ghosts D) where
  -- a disk tells still
  abbrev pub GoesTold : D → D → Type 0
  GoesTold a b = IsSome (d.told a) → IsSome (d.told b)

  patched-goes : (result : Result Bool StoreFault) (a b : PatchWorker D) → PatchesOnce d.told d.size d.faults d.fate result a b → GoesTold a.side.image.disk b.side.image.disk
  patched-goes result a b (no_room err takes) some = subst (λ (i : Image D). IsSome (d.told i.disk)) (sym takes.handed.image) some
  patched-goes result a b (went mid takes is done) some =
      still-told (Called (disk_answer result) (patch_calls mid.side.ahead.items)) (d.told mid.side.image.disk) (d.told b.side.image.disk) done.calls
      (subst (λ (i : Image D). IsSome (d.told i.disk)) (sym takes.handed.image) some)

  settled-goes : (result : Result (Unit {0}) StoreFault) (a b : PatchWorker D) → SettlesOnce d.told d.size d.faults d.fate result a b → GoesTold a.side.image.disk b.side.image.disk
  settled-goes result a b is some = still-told (Called (disk_answer result) (Sync ∷ [])) (d.told a.side.image.disk) (d.told b.side.image.disk) is.calls some

  step-goes : (a b : PatchWorker D) → PatcherStep d a b → GoesTold a.side.image.disk b.side.image.disk
  step-goes a b (patches_once more same is) some = patched-goes (Ok more) a b is some
  step-goes a b (settles_once same is) some = settled-goes (Ok tt) a b is some

  fault-goes : (a b : PatchWorker D) → PatcherFault d a b → GoesTold a.side.image.disk b.side.image.disk
  fault-goes a b (patch_fails same is) some = patched-goes (Err store.Disk) a b is some
  fault-goes a b (sync_fails same is) some = settled-goes (Err store.Disk) a b is some

  pub image-goes : (a b : PatchWorker D) → PatcherCall d a b → GoesTold a.side.image.disk b.side.image.disk
  image-goes a b call some = ⊎_elim (λ step. step-goes a b step some) (λ fault. fault-goes a b fault some) call

  patches-go : (a c : PatchWorker D) (cs : List (PatchWorker D)) → Steps (PatcherCall d) a cs c → GoesTold a.side.image.disk c.side.image.disk
  patches-go a c cs none some = some
  patches-go a c cs (then {b = b} {bs = bs} one rest) some = patches-go b c bs rest (image-goes a b one some)

  -- that of the image tells, where all of a node do
  pub image-told : (w : Which) (log image other : D) → AreTold d.told (disks_from w log image other) → IsSome (d.told image)
  image-told First log image other tell = tell.1
  image-told Second log image other tell = tell.1

module _ {D N O : Type 0} (d : disk.Ghosts D) (e : net.Ghosts N) (o : oracle.Ghosts O) (h : Handler) where
  -- ---- the handler

  turn-goes : (p : PatchWorker D) (a b : Handling D N O) → HandlerStep d e o h a b → AreTold d.told (disks_apart a.worker.side p.side) → AreTold d.told (disks_apart b.worker.side p.side)
  turn-goes p a b (turns_once took is) tell =
      turn-told d.told d.size d.faults d.fate h (Drew o.telling.clocks o.telling.words h a.oracle b.oracle) (e.given_between a.net b.net) (e.put_between a.net b.net) (e.nones a.net) (e.nones b.net) p.side.image.disk took is.mid b.worker is.takes
      (subst (λ (x : TurnSide D). AreTold d.told (disks_apart x p.side)) (sym (ap (λ (w : TurnWorker D). w.side) is.hears.rest)) tell)

  turns-go : (p : PatchWorker D) (a c : Handling D N O) (cs : List (Handling D N O)) → Steps (HandlerStep d e o h) a cs c → AreTold d.told (disks_apart a.worker.side p.side) → AreTold d.told (disks_apart c.worker.side p.side)
  turns-go p a c cs none tell = tell
  turns-go p a c cs (then {b = b} {bs = bs} one rest) tell = turns-go p b c bs rest (turn-goes p a b one tell)

  -- ---- both

  pub steps-told : (t t2 : Handling D N O) (p p2 : PatchWorker D) (ts : List (Handling D N O)) (ps : List (PatchWorker D)) → Steps (HandlerStep d e o h) t ts t2 → Steps (PatcherCall d) p ps p2
      → AreTold d.told (disks_apart t.worker.side p.side) → AreTold d.told (disks_apart t2.worker.side p2.side)
  steps-told t t2 p p2 ts ps by_t by_p tell =
      let side : TurnSide D = t2.worker.side in
      told-image d.told side.which side.log.disk p.side.image.disk p2.side.image.disk side.other (patches-go d p p2 ps by_p) (turns-go p t t2 ts by_t tell)

  -- ---- no disk failed

  unfailed-next : (a b c : D) → IsUnfailed d.faults d.fate a b → IsUnfailed d.faults d.fate b c → IsUnfailed d.faults d.fate a c
  unfailed-next a b c one two = record { count = two.count ∙ one.count; falls = two.falls ∙ one.falls }

  all-next : (a b c : Disks D) → AreUnfailed d.told d.faults d.fate a b → AreUnfailed d.told d.faults d.fate b c → AreUnfailed d.told d.faults d.fate a c
  all-next a b c one two = record { log = unfailed-next a.log b.log c.log one.log two.log; image = unfailed-next a.image b.image c.image one.image two.image; second = unfailed-next a.second b.second c.second one.second two.second }

  turn-calm : (p : PatchWorker D) (a b : Handling D N O) → HandlerStep d e o h a b → AreUnfailed d.told d.faults d.fate (disks_apart a.worker.side p.side) (disks_apart b.worker.side p.side)
  turn-calm p a b (turns_once took is) =
      subst (λ (x : TurnSide D). AreUnfailed d.told d.faults d.fate (disks_apart x p.side) (disks_apart b.worker.side p.side)) (ap (λ (w : TurnWorker D). w.side) is.hears.rest)
      (turn-unfailed d.told d.size d.faults d.fate h (Drew o.telling.clocks o.telling.words h a.oracle b.oracle) (e.given_between a.net b.net) (e.put_between a.net b.net) (e.nones a.net) (e.nones b.net) p.side.image.disk took is.mid b.worker is.takes)

  turns-calm : (p : PatchWorker D) (a c : Handling D N O) (cs : List (Handling D N O)) → Steps (HandlerStep d e o h) a cs c → AreUnfailed d.told d.faults d.fate (disks_apart a.worker.side p.side) (disks_apart c.worker.side p.side)
  turns-calm p a c cs none = all-unfailed d.told d.faults d.fate (disks_apart a.worker.side p.side)
  turns-calm p a c cs (then {b = b} {bs = bs} one rest) = all-next (disks_apart a.worker.side p.side) (disks_apart b.worker.side p.side) (disks_apart c.worker.side p.side) (turn-calm p a b one) (turns-calm p b c bs rest)

  wrote : (b : Bool) (old new : Option Fate) → Follows (PatchSuffers (Ok b)) old new → new ≡ old
  wrote true old new follows = follows-same (PatchSuffers (Ok true)) old new (λ x y is. is.1) follows
  wrote false old new follows = follows-same (PatchSuffers (Ok false)) old new (λ x y is. is) follows

  patched-calm : (more : Bool) (a b : PatchWorker D) → PatchesOnce d.told d.size d.faults d.fate (Ok more) a b → IsUnfailed d.faults d.fate a.side.image.disk b.side.image.disk
  patched-calm more a b (no_room err takes) = absurd cc
  patched-calm more a b (went mid takes is done) =
      subst (λ (i : Image D). IsUnfailed d.faults d.fate i.disk b.side.image.disk) takes.handed.image (record { count = done.cause; falls = wrote more (d.fate mid.side.image.disk) (d.fate b.side.image.disk) done.fate_of })

  patch-calm : (a b : PatchWorker D) → PatcherStep d a b → IsUnfailed d.faults d.fate a.side.image.disk b.side.image.disk
  patch-calm a b (patches_once more same is) = patched-calm more a b is
  patch-calm a b (settles_once same is) =
      record { count = is.cause; falls = follows-same (Suffers {T = Unit {0}} (Ok tt)) (d.fate a.side.image.disk) (d.fate b.side.image.disk) (λ x y suffers. suffers.1) is.fate_of }

  patches-calm : (a c : PatchWorker D) (cs : List (PatchWorker D)) → Steps (PatcherStep d) a cs c → IsUnfailed d.faults d.fate a.side.image.disk c.side.image.disk
  patches-calm a c cs none = record { count = refl; falls = refl }
  patches-calm a c cs (then {b = b} {bs = bs} one rest) = unfailed-next a.side.image.disk b.side.image.disk c.side.image.disk (patch-calm a b one) (patches-calm b c bs rest)

  pub steps-unfailed : (t t2 : Handling D N O) (p p2 : PatchWorker D) (ts : List (Handling D N O)) (ps : List (PatchWorker D)) → Steps (HandlerStep d e o h) t ts t2 → Steps (PatcherStep d) p ps p2
      → AreUnfailed d.told d.faults d.fate (disks_apart t.worker.side p.side) (disks_apart t2.worker.side p2.side)
  steps-unfailed t t2 p p2 ts ps by_t by_p =
      let side : TurnSide D = t2.worker.side in
      all-next (disks_apart t.worker.side p.side) (disks_apart side p.side) (disks_apart side p2.side) (turns-calm p t t2 ts by_t)
      (image-unfailed d.told d.faults d.fate side.which side.log.disk p.side.image.disk p2.side.image.disk side.other (patches-calm p p2 ps by_p))

-- ---- one disk failed

module _ {D : Type 0} (d : disk.Ghosts D) (t : TurnWorker D) (p p2 : PatchWorker D) where
  image-fell : HasFailed d.faults d.fate p.side.image.disk p2.side.image.disk → OneHasFailed d.told d.faults d.fate (disks_apart t.side p.side) (disks_apart t.side p2.side)
  image-fell has = image-failed d.told d.faults d.fate t.side.which t.side.log.disk p.side.image.disk p2.side.image.disk t.side.other has

  patch-fell : PatchesOnce d.told d.size d.faults d.fate (Err store.Disk) p p2 → OneHasFailed d.told d.faults d.fate (disks_apart t.side p.side) (disks_apart t.side p2.side)
  patch-fell (no_room err takes) = absurd cc
  patch-fell (went mid takes is done) =
      image-fell (subst (λ (i : Image D). HasFailed d.faults d.fate i.disk p2.side.image.disk) takes.handed.image (record { count = done.cause; falls = done.fate_of }))

  pub fault-fell : PatcherFault d p p2 → OneHasFailed d.told d.faults d.fate (disks_apart t.side p.side) (disks_apart t.side p2.side)
  fault-fell (patch_fails same is) = patch-fell is
  fault-fell (sync_fails same is) = image-fell (record { count = is.cause; falls = is.fate_of })
