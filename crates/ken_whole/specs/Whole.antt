-- What a node's three workers stand for together: a node as the core has it.
use Rattle.std.specs.Prelude.{◌≡◌, ℕ, ◌*◌, ◌<◌, ◌≤◌, List, ◌++◌, length, slice_index, Option, Some}
use Rattle.std.specs.List.{AllByRecursion}
use Rattle.ken_disk.specs.Story.{Story}
use Rattle.ken_model.specs.Game.{Game}
use Rattle.ken_model.specs.Network.{inputs_for}
use Rattle.ken_model.specs.Reading.{read_value}
use Rattle.ken_record.specs.declared.effects.Effects.{Effects}
use Rattle.ken_cover.specs.Covers.{MayLeaveOut}
use Rattle.ken_cover.specs.Sides.{ImagePages}
use Rattle.ken_core.specs.Turns.{consumed_from, mails_to, outs_of, stamp_after}
use Rattle.ken_core.specs.Nodes.{Node}
use Rattle.ken_core.specs.Steps.{recovered_node}
use Rattle.ken_order.specs.Consumed.{IsSender, place}
use Rattle.ken_links.specs.Rings.{pushed, popped}
use Rattle.ken_store.specs.declared.numbers.Numbers.{Numbers}
use Rattle.ken_store.specs.Apart.{Apart, hand_all}
use Rattle.ken_store.specs.Turning.{state_in, turn_pages}
use Rattle.ken_ship.specs.declared.items.Progress.{Progress}
use Rattle.ken_ship.specs.declared.items.Sealed.{Sealed}
use Rattle.ken_ship.specs.declared.worker.SendWorker.{SendWorker}
use Rattle.ken_ship.specs.Handing.{with_turns}
use Rattle.ken_ship.specs.Laws.{HasSent, IsDueOf, IsStateOf}
use Rattle.ken_ship.specs.Parts.{part_of}
use Rattle.ken_work.specs.declared.items.Frozen.{Frozen}
use Rattle.ken_work.specs.declared.patcher.PatchWorker.{PatchWorker}
use Rattle.ken_work.specs.declared.worker.TurnWorker.{TurnWorker}
use Rattle.ken_work.specs.Meeting.{AreJoined}
use Rattle.ken_whole.specs.Paced.{IsPaced}
use Rattle.ken_work.specs.Patches.{waits_of}
use Rattle.ken_work.specs.Workers.{Working, progress_told, turn_settled}

-- a handler and an externaliser are those of node v of a run
pub record AreOfRun {D : Type 0} (g : Game) (v : ℕ) (t : TurnWorker D) (s : SendWorker) : Type 0 where
  pub node : t.node ≡ v
  pub nodes : t.nodes ≡ g.nodes
  pub cap : t.cap ≡ g.turns
  pub size : 256 * t.side.owner.pages ≡ g.size
  pub inputs : t.inputs.items ≡ inputs_for g v
  pub sender : s.backlog.node ≡ v
  pub receivers : s.nodes ≡ g.nodes

-- a log's numbers are those that turns of node v come to
pub record AreNumbersOf (v : ℕ) (es : List Effects) (n : Numbers) : Type 0 where
  pub turns : n.turns ≡ length es
  pub stamp : n.stamp ≡ stamp_after 0 es
  pub senders : length n.consumed ≡ 9
  pub consumed : (u : ℕ) → IsSender 8 u → slice_index n.consumed (place u) ≡ consumed_from u es
  pub receivers : length n.sent ≡ 8
  pub sent : (u : ℕ) → slice_index n.sent u ≡ length (mails_to v u es)
  pub outputs : n.outputs ≡ length (outs_of es)

-- the handler keeps the node's turns, and its heap stands for a value
pub record HasTurns {D : Type 0} (v : ℕ) (n : Node) (t : TurnWorker D) : Type 0 where
  pub kept : t.turns.items ≡ n.turning.turns
  pub counted : AreNumbersOf v n.turning.turns t.side.numbers
  pub reads : read_value (turn_pages t.side).heap ≡ Some t.side.objects.value

-- the log tells a state with all that the node sent and output, but for what is retired: what a restart goes on with. It holds few
-- records, and as many turns were made as the logs before it take
pub record TellsState {D : Type 0} (g : Game) (v : ℕ) (n : Node) (t : TurnWorker D) : Type 0 where
  pub state : IsStateOf g v (recovered_node n) (state_in t.side)
  pub sent : HasSent g v (recovered_node n)
  pub width : length n.turning.retired ≡ g.nodes
  pub paced : IsPaced t.side.log.header t.side.records.items

-- the store's two sides have the node's pages, where turns on their way to the patcher count as handed over
pub record HavePages {D : Type 0} (told : D → Option Story) (size : D → ℕ) (n : Node) (t : TurnWorker D) (p : PatchWorker D) : Type 0 where
  pub queue : List Frozen
  pub ring : pushed t.pages ≡ popped p.pages ++ queue
  pub image : ImagePages
  pub apart : Apart told size t.side p.side (waits_of queue) image
  pub turning : n.turning.pages ≡ turn_pages t.side
  pub patching : n.patching ≡ hand_all (waits_of queue) image

-- what waits at the externaliser is what the node has past its acknowledged and emitted numbers, where turns on their way to
-- it count as handed over
pub record HasDue {D : Type 0} (g : Game) (v : ℕ) (n : Node) (t : TurnWorker D) (s : SendWorker) : Type 0 where
  pub queue : List Sealed
  pub ring : pushed t.sealed ≡ popped s.sealed ++ queue
  pub due : IsDueOf g v n (with_turns v queue (part_of s).due)
  pub sent : HasSent g v n

-- a fact of what a worker was told, and of what all says that is on its way to it
pub record WereTold {A B : Type 0} (says : A → B) (P : B → Type 0) (pushed popped : List A) (known : B) : Type 0 where
  pub queue : List A
  pub ring : pushed ≡ popped ++ queue
  pub holds : P known
  pub each : AllByRecursion (λ (x : A). P (says x)) queue

-- a base may leave out the pages that last changed in this turn or before
pub record IsSettledAt (n : Node) (settled : ℕ) : Type 0 where
  pub made : settled ≤ length n.turning.turns
  pub clean : MayLeaveOut settled n.turning.pages n.patching

-- the node has come as far
pub record HasReached (g : Game) (n : Node) (p : Progress) : Type 0 where
  pub acked : (u : ℕ) → u < g.nodes → slice_index p.acked u ≤ slice_index n.sending.acked u
  pub emitted : p.emitted ≤ n.sending.emitted

-- the workers are those of this node, whatever its pages are
pub record AreWorkersOf {D : Type 0} (told : D → Option Story) (size : D → ℕ) (g : Game) (v : ℕ) (n : Node) (t : TurnWorker D) (p : PatchWorker D) (s : SendWorker) : Type 0 where
  pub of_run : AreOfRun g v t s
  pub joined : AreJoined t p s
  pub working : Working told size g.handler t
  pub turns : HasTurns v n t
  pub log : TellsState g v n t
  pub sends : HasDue g v n t s
  pub settled : WereTold turn_settled (IsSettledAt n) (pushed p.settled) (popped t.settled) t.told.settled
  pub progress : WereTold progress_told (HasReached g n) (pushed s.told) (popped t.progress) t.told.progress

-- the workers stand for node v of a run, which is up
pub record IsWhole {D : Type 0} (told : D → Option Story) (size : D → ℕ) (g : Game) (v : ℕ) (n : Node) (t : TurnWorker D) (p : PatchWorker D) (s : SendWorker) : Type 0 where
  pub workers : AreWorkersOf told size g v n t p s
  pub pages : HavePages told size n t p
