-- What the disks of a node recover to: its place in the abstract network.
use Rattle.std.specs.Prelude.{◌≡◌, ℕ, ◌*◌, ◌<◌, ◌≤◌, List, length, drop, take, slice_index, Option, Some}
use Rattle.ken_disk.specs.Story.{Story, IsAtRest, Tells}
use Rattle.ken_model.specs.declared.reports.Emission.{Emission}
use Rattle.ken_model.specs.declared.reports.TurnLine.{TurnLine}
use Rattle.ken_model.specs.declared.states.State.{State}
use Rattle.ken_model.specs.Game.{Game}
use Rattle.ken_model.specs.Laws.{steps_of}
use Rattle.ken_model.specs.Network.{Network, outputs_from}
use Rattle.ken_model.specs.Reading.{read_value}
use Rattle.ken_model.specs.Schedule.{play}
use Rattle.ken_core.specs.Accord.{Accord}
use Rattle.ken_core.specs.Laws.{IsPlayedBy}
use Rattle.ken_core.specs.Nodes.{Node, heap_pages}
use Rattle.ken_order.specs.Consumed.{IsSender, place}
use Rattle.ken_outbox.specs.Waiting.{sent_to}
use Rattle.ken_store.specs.declared.disks.Disks.{Disks}
use Rattle.ken_store.specs.Recovered.{Whole}
use Rattle.ken_store.specs.Standing.{RecoversTo}
use Rattle.ken_node.specs.declared.stage.Stage.{Stage}
use Rattle.ken_whole.specs.New.{owner_of}
use Rattle.ken_node.specs.Stages.{HasDisks}
use Rattle.ken_node.specs.Up.{IsUp}
use Rattle.ken_flow.specs.Groups.{group_of}

-- of a node's messages to another those past a number that was consumed, so all that wait are among them
pub record KeepsWaiting (g : Game) (v u : ℕ) (w : Network) (s : State) : Type 0 where
  pub retired : ℕ
  pub consumed : retired ≤ (w.link v u).taken
  pub messages : sent_to u s.messages ≡ drop retired (w.link v u).sent

-- a state is node v's in a network: its counts, the messages that may still be wanted, and its last outputs
pub record IsStateAt (g : Game) (v : ℕ) (w : Network) (s : State) : Type 0 where
  pub turns : s.turns ≡ (w.place v).turns
  pub stamp : s.stamp ≡ (w.place v).stamp
  pub consumed : (u : ℕ) → IsSender 8 u → slice_index s.consumed (place u) ≡ (w.link u v).taken
  pub sent : (u : ℕ) → u < g.nodes → slice_index s.sent u ≡ length (w.link v u).sent
  pub outputs : s.outputs ≡ length (w.place v).outs
  pub waits : (u : ℕ) → u < g.nodes → KeepsWaiting g v u w s
  pub retired_outs : ℕ
  pub outs : s.outs ≡ drop retired_outs (outputs_from 0 (w.place v).outs)

-- each image that a crash may leave of all of a node's disks together recovers to its value and its state in a network
pub record RecoversAt {D : Type 0} (told : D → Option Story) (g : Game) (v : ℕ) (w : Network) (disks : Disks D) : Type 0 where
  pub state : State
  pub recovers : RecoversTo told (owner_of g v) disks (Whole state (w.place v).value)
  pub is : IsStateAt g v w state

-- the image alone is the node's heap in a network: nothing is pending there, and what a read gives stands for its value
pub record HoldsHeapAt {D : Type 0} (told : D → Option Story) (g : Game) (v : ℕ) (w : Network) (image : D) : Type 0 where
  pub rests : Tells (told image) (λ h. IsAtRest h.now)
  pub reads : Tells (told image) (λ h. read_value (take (256 * heap_pages g) h.now.seen) ≡ Some (w.place v).value)

-- so it is of the disks of a node that is up, in the network that a history of its group in accord plays
abbrev pub UpRecovers : {D : Type 0} → (D → Option Story) → (D → ℕ) → Type 0
UpRecovers {D} told size =
    (g : Game) (v : ℕ) (nodes : ℕ → Node) (emissions : List Emission) (lines : List TurnLine) (stage : Stage D) (disks : Disks D)
    → Accord g (group_of g nodes emissions) → IsPlayedBy g (group_of g nodes emissions) lines → IsUp told size g v (nodes v) stage → HasDisks disks stage
    → RecoversAt told g v (play g (steps_of lines)) disks
