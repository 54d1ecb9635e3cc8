-- A node on its way, and one whose workers met.
use Rattle.std.proofs.Common.{◌≡◌, ℕ, List, Option, Bool, false, Ok, refl, sym, subst}
use Rattle.ken_disk.specs.Story.{Story}
use Rattle.ken_disk.specs.declared.disk.Disk as disk
use Rattle.ken_core.specs.Nodes.{Node}
use Rattle.ken_model.specs.Game.{Game}
use Rattle.ken_ship.specs.declared.worker.SendWorker.{SendWorker}
use Rattle.ken_work.specs.declared.patcher.PatchWorker.{PatchWorker}
use Rattle.ken_work.specs.declared.worker.TurnWorker.{TurnWorker}
use Rattle.ken_work.specs.Patches.{PatchesOnce, went, no_room}
use Rattle.ken_node.specs.Down.{AreTold}
use Rattle.ken_node.proofs.Up.{AreUp, are-up, met-disks, met-up}
use Rattle.ken_weave.specs.Workers.{Steps, none, then}
use Rattle.ken_whole.proofs.MeetingWhole.{meeting_keeps_whole}
use Rattle.ken_beside.specs.Meetings.{HaveEmptied}
use Rattle.ken_beside.specs.On.{IsOn, MeetingIsUp, UpIsOnAlways}
use Rattle.ken_beside.specs.Steps.{PatcherStep, patches_once, settles_once}

module _ {D : Type 0} (told : D → Option Story) (size : D → ℕ) where
  pub up_is_on : UpIsOnAlways told size
  up_is_on g v n t p s = record {
    on = λ up. let are : AreUp told size g v n t p s = are-up told size g v n t p s up in record { limits = are.limits; known = are.known; whole = are.whole; tell = are.tell };
    empty = λ up. let are : AreUp told size g v n t p s = are-up told size g v n t p s up in are.empty;
    unspent = λ up. let are : AreUp told size g v n t p s = are-up told size g v n t p s up in are.unspent;
    up = λ on empty unspent. record { limits = on.limits; known = on.known; handler = t; patcher = p; sender = s; stage_is = refl; whole = on.whole; empty = empty; unspent = unspent; tell = on.tell };
  }

  pub meeting_is_up : MeetingIsUp told size
  meeting_is_up g v n t t2 p p2 s s2 on same joined met empty unspent = met-up told size t t2 p p2 s s2 met g v n on.limits on.known on.whole unspent on.tell same joined empty

module _ {D : Type 0} (d : disk.Ghosts D) where
  -- it is on its way after any meeting
  pub on-met : (g : Game) (v : ℕ) (n : Node) (t t2 : TurnWorker D) (p p2 : PatchWorker D) (s s2 : SendWorker) → IsOn d.told d.size g v n t p s → HaveEmptied d t t2 p p2 s s2 → IsOn d.told d.size g v n t2 p2 s2
  on-met g v n t t2 p p2 s s2 on meets = record {
    limits = on.limits;
    known = on.known;
    whole = meeting_keeps_whole d.told d.size g v n t t2 p p2 s s2 on.whole meets.same meets.joined meets.met;
    tell = subst (AreTold d.told) (sym (met-disks d.told d.size t t2 p p2 s s2 meets.met)) on.tell;
  }

  -- steps of a patcher that ended well leave it one that may be called
  patched-unspent : (more : Bool) (a b : PatchWorker D) → PatchesOnce d.told d.size d.faults d.fate (Ok more) a b → b.side.image.spent ≡ false
  patched-unspent more a b (went mid over is done) = done.takes.unspent
  patched-unspent more a b (no_room e takes) = absurd cc

  step-unspent : (a b : PatchWorker D) → PatcherStep d a b → b.side.image.spent ≡ false
  step-unspent a b (patches_once more same is) = patched-unspent more a b is
  step-unspent a b (settles_once same is) = is.takes.unspent

  pub steps-unspent : (a c : PatchWorker D) (cs : List (PatchWorker D)) → Steps (PatcherStep d) a cs c → a.side.image.spent ≡ false → c.side.image.spent ≡ false
  steps-unspent a c cs none unspent = unspent
  steps-unspent a c cs (then {b = b} {bs = bs} one rest) unspent = steps-unspent b c bs rest (step-unspent a b one)
