-- A node that is down and whose rings meet may be restarted still.
use Rattle.std.proofs.Common.{◌≡◌, ℕ, ◌*◌, sym, ap, ◌∙◌, inr, ⊎_elim, Option}
use Rattle.ken_disk.specs.Story.{Story}
use Rattle.ken_model.specs.Game.{Game}
use Rattle.ken_store.specs.declared.turning.TurnSide.{TurnSide}
use Rattle.ken_store.specs.Answers.{disks_from}
use Rattle.ken_store.specs.Apart.{disks_apart}
use Rattle.ken_ship.specs.declared.worker.SendWorker.{SendWorker}
use Rattle.ken_ship.specs.Parts.{IsSameWorker as IsSameSender}
use Rattle.ken_work.specs.declared.patcher.PatchWorker.{PatchWorker}
use Rattle.ken_work.specs.declared.worker.TurnWorker.{TurnWorker}
use Rattle.ken_node.specs.DownLaws.{MeetingStaysDown}
use Rattle.ken_work.specs.Meeting.{HaveMet}
use Rattle.ken_whole.specs.Whole.{AreOfRun}

module _ {D : Type 0} (told : D → Option Story) (size : D → ℕ) where
  of-run-met : (g : Game) (v : ℕ) (t t2 : TurnWorker D) (p p2 : PatchWorker D) (s s2 : SendWorker) → IsSameSender s s2 → HaveMet told size t t2 p p2 s s2 → AreOfRun g v t s → AreOfRun g v t2 s2
  of-run-met g v t t2 p p2 s s2 same met is =
      let rest = met.handler in
      record {
        node = ap (λ (x : TurnWorker D). x.node) rest ∙ is.node;
        nodes = ap (λ (x : TurnWorker D). x.nodes) rest ∙ is.nodes;
        cap = ap (λ (x : TurnWorker D). x.cap) rest ∙ is.cap;
        size = ap (λ (x : TurnWorker D). 256 * x.side.owner.pages) rest ∙ is.size;
        inputs = ap (λ (x : TurnWorker D). x.inputs.items) rest ∙ is.inputs;
        sender = same.node ∙ is.sender;
        receivers = same.nodes ∙ is.receivers;
      }

  pub meeting_stays_down : MeetingStaysDown told size
  meeting_stays_down g v given n doubt t t2 p p2 s s2 down same joined met =
      let side : t2.side ≡ t.side = ap (λ (x : TurnWorker D). x.side) met.handler in
      let disks : disks_apart t.side p.side ≡ disks_apart t2.side p2.side =
      ap (λ (x : TurnSide D). disks_apart x p.side) (sym side) ∙ ap (λ x. disks_from t2.side.which t2.side.log.disk x.disk t2.side.other) (sym met.patches.handed.image) in
      record {
        limits = down.limits;
        known = down.known;
        of_node = (of-run-met g v t t2 p p2 s s2 same met down.of_node.0, joined);
        turns = ap (λ (x : TurnWorker D). x.turns.items) met.handler ∙ down.turns;
        disks = down.disks;
        has = down.has ∙ disks;
        tell = down.tell;
        leaves = down.leaves;
        either = ⊎_elim (λ none. absurd none) (λ log. inr log) down.either;
      }
