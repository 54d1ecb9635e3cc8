-- A run over packets is one over more.
use Rattle.std.proofs.Common.{ℕ, List, [], ◌∷◌, inl, inr, ⊎_elim}
use Rattle.ken_model.specs.declared.messages.Message.{Message}
use Rattle.ken_model.specs.Game.{Game}
use Rattle.ken_model.specs.Network.{Turn}
use Rattle.ken_record.specs.declared.page.Page.{Page}
use Rattle.ken_core.specs.declared.events.Event.{Event}
use Rattle.ken_core.specs.declared.events.Event.TheVariants.{Seal, SealCut, Patch, SyncImage, Turnover, Send, Ack, TakeAck, Emit, Crash, Recover}
use Rattle.ken_core.specs.Enabled.{Came, MaySeal}
use Rattle.ken_core.specs.Nodes.{Node}
use Rattle.ken_core.specs.Packets.{Packet, Mail, Answer, Outgoing}
use Rattle.ken_core.specs.Runs.{NodeRun}
use Rattle.ken_core.specs.Steps.{NodeStep}
use Rattle.std.proofs.lemmas.List.Elements.{All-contains}
use Rattle.std.specs.List.{Contains}
use Rattle.ken_beside.specs.Beside.{RunIsOver}

module _ (g : Game) (put put2 : Packet → Type 0) (more : (p : Packet) → put p → put2 p) (v : ℕ) where
  came-over : (m : Message) → Came g put v m → Came g put2 v m
  came-over m came = ⊎_elim (λ is. inl (more (Mail m) is)) (λ input. inr input) came

  seal-over : (n : Node) (from : ℕ) (draws : List ℕ) (pages : List Page) (t : Turn) → MaySeal g put v n from draws pages t → MaySeal g put2 v n from draws pages t
  seal-over n from draws pages t may = record {
    up = may.up;
    more = may.more;
    sender = may.sender;
    receiver = may.receiver;
    number = may.number;
    came = came-over t.message may.came;
    value = may.value;
    reads = may.reads;
    drawn = may.drawn;
    made = may.made;
    changed = may.changed;
    stands = may.stands;
  }

  step-over : (n n2 : Node) (e : Event) → NodeStep g put v n e n2 → NodeStep g put2 v n e n2
  step-over n n2 (Seal node from draws pages) s = (s.0, (seal-over n from draws pages s.0 s.1.0, s.1.1))
  step-over n n2 (SealCut node from draws pages landed) s = (s.0, (seal-over n from draws pages s.0 s.1.0, s.1.1))
  step-over n n2 (Patch node page) s = s
  step-over n n2 (SyncImage node) s = s
  step-over n n2 (Turnover node outcome told) s = s
  step-over n n2 (Send node to i) s = s
  step-over n n2 (Ack node from) s = s
  step-over n n2 (TakeAck node from through) s = (s.0, s.1, more (Answer (record { from = from; to = v; through = through })) s.2, s.3)
  step-over n n2 (Emit node) s = s
  step-over n n2 (Crash node pages) s = s
  step-over n n2 (Recover node) s = s

  pub run-over : (n n2 : Node) (es : List Event) (out : Outgoing) → NodeRun g put v n es out n2 → NodeRun g put2 v n es out n2
  run-over n n2 [] out run = run
  run-over n n2 (e ∷ es) out run = (run.0, (run.1.0, (run.1.1.0, step-over n run.0 e run.1.1.1, run.1.1.2, run-over run.0 n2 es run.1.0 run.1.1.3)))

pub run_is_over : (takes : Packet → Type 0) → RunIsOver takes
run_is_over takes g v n given es out n2 all run = run-over g (Contains given) takes (λ packet there. All-contains takes given packet all there) v n n2 es out run
