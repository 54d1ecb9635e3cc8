-- A meeting of a whole node, and what its handler hears.
use Rattle.std.proofs.Common.{◌≡◌, ℕ, ◌*◌, List, ◌++◌, Option, sym, ap, subst, ◌∙◌}
use Rattle.ken_disk.specs.Story.{Story}
use Rattle.ken_model.specs.Game.{Game}
use Rattle.ken_core.specs.Nodes.{Node}
use Rattle.ken_links.specs.Rings.{pushed, popped}
use Rattle.ken_store.specs.Apart.{Apart, hand_all}
use Rattle.ken_store.specs.Turning.{turn_pages}
use Rattle.ken_store.specs.declared.turning.TurnSide.{TurnSide}
use Rattle.ken_ship.specs.declared.items.Told.{Told}
use Rattle.ken_ship.specs.declared.items.Sealed.{Sealed}
use Rattle.ken_ship.specs.declared.worker.SendWorker.{SendWorker}
use Rattle.ken_ship.specs.Handing.{with_turns}
use Rattle.ken_ship.specs.Laws.{IsDueOf}
use Rattle.ken_ship.specs.Parts.{Part, part_of}
use Rattle.ken_ship.specs.Parts.{IsSameWorker as IsSameSender}
use Rattle.ken_work.specs.declared.items.Settled.{Settled}
use Rattle.ken_work.specs.declared.items.Frozen.{Frozen}
use Rattle.ken_work.specs.declared.patcher.PatchWorker.{PatchWorker}
use Rattle.ken_work.specs.declared.worker.TurnWorker.{TurnWorker}
use Rattle.ken_work.specs.Meeting.{AreFronts, AreJoined}
use Rattle.ken_work.specs.Patches.{waits_of}
use Rattle.ken_whole.specs.Whole.{HasDue, HasReached, HasTurns, HavePages, IsSettledAt, IsWhole, TellsState, WereTold}
use Rattle.ken_whole.specs.WholeLaws.{MeetingKeepsWhole}
use Rattle.ken_work.specs.Workers.{Working, progress_told, turn_settled}
use Rattle.ken_whole.proofs.Handed.{handed_apart, handed_same}
use Rattle.ken_whole.proofs.Queued.{with_turns-append}
use Rattle.ken_whole.proofs.Rings.{queue-moved}
use Rattle.ken_whole.proofs.Told.{told-heard-by}

module _ {D : Type 0} (told : D → Option Story) (size : D → ℕ) (g : Game) (v : ℕ) (n : Node) where
  -- only the rings' ends and what was told may have changed at the handler
  pub whole-handler : (t t2 : TurnWorker D) (p p2 : PatchWorker D) (s s2 : SendWorker) → IsWhole told size g v n t p s
      → t2 ≡ record t { told = t2.told; pages = t2.pages; sealed = t2.sealed; settled = t2.settled; progress = t2.progress; news = t2.news; room = t2.room } → IsSameSender s s2 → AreJoined t2 p2 s2
      → WereTold turn_settled (IsSettledAt n) (pushed p2.settled) (popped t2.settled) t2.told.settled → WereTold progress_told (HasReached g n) (pushed s2.told) (popped t2.progress) t2.told.progress
      → HasDue g v n t2 s2 → HavePages told size n t2 p2 → IsWhole told size g v n t2 p2 s2
  whole-handler t t2 p p2 s s2 whole rest same joined settled progress due pages =
      let w = whole.workers in
      let mid : TurnWorker D = record t { told = t2.told; pages = t2.pages; sealed = t2.sealed; settled = t2.settled; progress = t2.progress; news = t2.news; room = t2.room } in
      let k = w.working in
      record {
        workers = record {
          of_run = record {
            node = ap (λ (x : TurnWorker D). x.node) rest ∙ w.of_run.node;
            nodes = ap (λ (x : TurnWorker D). x.nodes) rest ∙ w.of_run.nodes;
            cap = ap (λ (x : TurnWorker D). x.cap) rest ∙ w.of_run.cap;
            size = ap (λ (x : TurnWorker D). 256 * x.side.owner.pages) rest ∙ w.of_run.size;
            inputs = ap (λ (x : TurnWorker D). x.inputs.items) rest ∙ w.of_run.inputs;
            sender = same.node ∙ w.of_run.sender;
            receivers = same.nodes ∙ w.of_run.receivers;
          };
          joined = joined;
          working = subst (Working told size g.handler) (sym rest) (record { side = k.side; idle = k.idle; node = k.node; nodes = k.nodes; order = k.order; count = k.count; heap = k.heap });
          turns = subst (HasTurns v n) (sym rest) (record { kept = w.turns.kept; counted = w.turns.counted; reads = w.turns.reads });
          log = subst (TellsState g v n) (sym rest) (record { state = w.log.state; sent = w.log.sent; width = w.log.width; paced = w.log.paced });
          sends = due;
          settled = settled;
          progress = progress;
        };
        pages = pages;
      }

module _ {D : Type 0} (told : D → Option Story) (size : D → ℕ) where
  fronts-of : (g : Game) (v : ℕ) (n : Node) (t : TurnWorker D) (p : PatchWorker D) (s : SendWorker) → IsWhole told size g v n t p s → AreFronts t p s
  fronts-of g v n t p s whole = record {
    pages = (whole.pages.queue, whole.pages.ring);
    sealed = (whole.workers.sends.queue, whole.workers.sends.ring);
    settled = (whole.workers.settled.queue, whole.workers.settled.ring);
    progress = (whole.workers.progress.queue, whole.workers.progress.ring);
  }

  pub meeting_keeps_whole : MeetingKeepsWhole told size
  meeting_keeps_whole g v n t t2 p p2 s s2 whole same joined met =
      let w = whole.workers in
      let pages = whole.pages in
      let d = w.sends in
      let fronts = met.fronts (fronts-of g v n t p s whole) in
      let side : t2.side ≡ t.side = ap (λ (x : TurnWorker D). x.side) met.handler in
      let rest : List Frozen = fronts.pages.0 in
      let parts : pages.queue ≡ met.patches.turns ++ rest = queue-moved (pushed t.pages) (popped p.pages) (popped p2.pages) pages.queue met.patches.turns rest pages.ring met.patches.popped_are (sym met.pages ∙ fronts.pages.1) in
      let late : List Sealed = fronts.sealed.0 in
      let sealed_parts : d.queue ≡ met.sends.turns ++ late = queue-moved (pushed t.sealed) (popped s.sealed) (popped s2.sealed) d.queue met.sends.turns late d.ring met.sends.popped_are (sym met.sealed ∙ fronts.sealed.1) in
      let mine : (part_of s2).due ≡ with_turns v met.sends.turns (part_of s).due = met.sends.waits ∙ ap (λ (k : ℕ). with_turns k met.sends.turns (part_of s).due) w.of_run.sender in
      let due : with_turns v d.queue (part_of s).due ≡ with_turns v late (part_of s2).due =
      ap (λ (q : List Sealed). with_turns v q (part_of s).due) sealed_parts ∙ with_turns-append v met.sends.turns late (part_of s).due ∙ ap (with_turns v late) (sym mine) in
      let told_same : pushed s2.told ≡ pushed s.told = ap (λ (x : Part). x.told) met.rest in
      let apart = handed_apart told size t.side p.side p2.side met.patches.turns rest pages.image (subst (λ (q : List Frozen). Apart told size t.side p.side (waits_of q) pages.image) parts pages.apart) met.patches.handed in
      whole-handler told size g v n t t2 p p2 s s2 whole met.handler same joined
      (told-heard-by turn_settled (IsSettledAt n) (pushed p2.settled) (popped t.settled) (popped t2.settled) t.told.settled t2.told.settled
      (subst (λ (xs : List Settled). WereTold turn_settled (IsSettledAt n) xs (popped t.settled) t.told.settled) (sym met.settles) w.settled) met.settled fronts.settled)
      (told-heard-by progress_told (HasReached g n) (pushed s2.told) (popped t.progress) (popped t2.progress) t.told.progress t2.told.progress
      (subst (λ (xs : List Told). WereTold progress_told (HasReached g n) xs (popped t.progress) t.told.progress) (sym told_same) w.progress) met.progress fronts.progress)
      (record { queue = late; ring = fronts.sealed.1; due = subst (IsDueOf g v n) due d.due; sent = d.sent })
      (record {
        queue = rest;
        ring = fronts.pages.1;
        image = hand_all (waits_of met.patches.turns) pages.image;
        apart = subst (λ (x : TurnSide D). Apart told size x p2.side (waits_of rest) (hand_all (waits_of met.patches.turns) pages.image)) (sym side) apart;
        turning = pages.turning ∙ ap turn_pages (sym side);
        patching = pages.patching ∙ ap (λ (q : List Frozen). hand_all (waits_of q) pages.image) parts ∙ handed_same met.patches.turns rest pages.image;
      })
