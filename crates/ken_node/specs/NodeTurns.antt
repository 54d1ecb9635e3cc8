-- What a turn of a node comes to, where its workers meet after it.
use Rattle.std.specs.Prelude.{◌≡◌, ℕ, ◌+◌, ◌^◌, ◌<◌, ◌≤◌, ◌⊎◌, List, [], ◌∷◌, ◌++◌, length, Option, Result, Ok, Err}
use Rattle.std.specs.List.{AllByRecursion, Contains}
use Rattle.ken_disk.specs.Story.{Story}
use Rattle.ken_model.specs.declared.messages.Message.{Message}
use Rattle.ken_model.specs.Game.{Game}
use Rattle.ken_model.specs.Network.{inputs_for, outside}
use Rattle.ken_record.specs.declared.effects.Effects.{Effects}
use Rattle.ken_record.specs.declared.page.Page.{Page}
use Rattle.ken_packet.specs.Reading.{packet_of}
use Rattle.ken_net.specs.Counts.{risen}
use Rattle.ken_net.specs.Puts.{Put}
use Rattle.ken_core.specs.declared.events.Event.{Event}
use Rattle.ken_core.specs.declared.events.Told.{Told}
use Rattle.ken_core.specs.Calls.{IsIdle, IsNone, IsTurn, seal, turnover}
use Rattle.ken_core.specs.Nodes.{Node}
use Rattle.ken_core.specs.Packets.{Packet, Mail, Answer, Outgoing, nothing, receipt_of}
use Rattle.ken_core.specs.Turns.{consumed_from, stamp_after}
use Rattle.ken_ship.specs.declared.faults.NodeFault.{NodeFault}
use Rattle.ken_ship.specs.declared.faults.NodeFault.TheVariants.{Disk, Damaged, Outlet, Memory}
use Rattle.ken_ship.specs.declared.hearing.TheConstants.{MOST_TAKEN}
use Rattle.ken_ship.specs.Laws.{packet_from, packets_from}
use Rattle.ken_node.specs.declared.stage.Stage.{Stage}
use Rattle.ken_work.specs.declared.took.Took.{Took}
use Rattle.ken_work.specs.declared.took.Took.TheVariants.{Turn, Idle, Capped}
use Rattle.ken_work.specs.declared.worker.TurnWorker.{TurnWorker}
use Rattle.ken_work.specs.Capped.{IsCapped}
use Rattle.ken_node.specs.NodeCalls.{GoesDown, Steps}
use Rattle.ken_work.specs.Sealing.{is_full}
use Rattle.ken_work.specs.Workers.{HearsNews}

-- a packet that node v, which is n now, can't take as its next mail: a mail to it that isn't the one after those that it has
-- consumed of its sender, or whose stamp has used up half of its range
abbrev pub IsNotNext : ℕ → Node → Packet → Type 0
IsNotNext v n (Mail m) = m.to ≡ v → m.number ≡ consumed_from m.from n.turning.turns + 1 → 2 ^ 63 ≤ m.stamp
IsNotNext v n (Answer a) = Unit {0}

-- one of these puts acknowledges to a node all that node v, which is n now, has consumed of its messages
pub record IsAnsweredIn (g : Game) (v : ℕ) (n : Node) (puts : List Put) (from : ℕ) : Type 0 where
  pub put : Put
  pub one : Contains puts put
  pub packet : packet_from g.nodes (packet_of put.bytes) ≡ Answer (receipt_of v from n) ∷ []
  pub to : put.to ≡ from

-- each mail to node v among these packets that it had consumed before, where it was n, is acknowledged again by one of these puts
abbrev pub AcksAgain : Game → ℕ → Node → List (List ℕ) → List Put → Type 0
AcksAgain g v n given puts =
    (m : Message) → Contains (packets_from g.nodes given) (Mail m) → m.to ≡ v → m.number ≤ consumed_from m.from n.turning.turns
    → IsAnsweredIn g v n puts m.from

-- these packets are one, a next mail of node v, which is n: the one that a turn took
pub record IsMailOf (nodes v : ℕ) (n : Node) (turn : Effects) (packets : List (List ℕ)) : Type 0 where
  pub bytes : List ℕ
  pub alone : packets ≡ bytes ∷ []
  pub mail : Message
  pub is : packet_from nodes (packet_of bytes) ≡ Mail mail ∷ []
  pub to : mail.to ≡ v
  pub next : mail.number ≡ consumed_from mail.from n.turning.turns + 1
  pub from : mail.from ≡ turn.from
  pub number : mail.number ≡ turn.number

-- no more packets were taken: the count of those that weren't given rose, or 4,096 were
abbrev pub NoneIsLeft : ℕ → ℕ → List (List ℕ) → Type 0
NoneIsLeft nones nones2 given = (length given ≡ MOST_TAKEN) ⊎ (risen nones ≤ nones2)

-- mail comes before inputs: packets were taken until one was a next mail, which is the turn's; where none was, it took an input
pub record MailComesFirst (g : Game) (v : ℕ) (n : Node) (nones nones2 : ℕ) (given : List (List ℕ)) (turn : Effects) : Type 0 where
  pub passed : List (List ℕ)
  pub last : List (List ℕ)
  pub parts : given ≡ passed ++ last
  pub most : length given ≤ MOST_TAKEN
  pub none_next : AllByRecursion (IsNotNext v n) (packets_from g.nodes passed)
  pub which : IsMailOf g.nodes v n turn last ⊎ ((turn.from ≡ outside) × (last ≡ []) × NoneIsLeft nones nones2 passed)

module _ {D : Type 0} (told : D → Option Story) (size : D → ℕ) (g : Game) (v : ℕ) (n : Node) (gave : List (List ℕ) → Type 0) (put : List Put → Type 0) where
  -- a call of the handler: its events lead to a node that is up
  pub record HandlerSteps (says : List Event → Type 0) (stage : Stage D) : Type 0 where
    pub given : List (List ℕ)
    pub was_given : gave given
    pub puts : List Put
    pub were_put : put puts
    pub out : Outgoing
    pub steps : Steps told size g v n given puts says out stage

  -- a turn was made, with these draws, of a mail where one came, and else of an input. Mail that was consumed before is acknowledged again
  pub record TurnSteps (drew : List ℕ → Type 0) (nones nones2 : ℕ) (handler : TurnWorker D) (stage : Stage D) : Type 0 where
    pub call : HandlerSteps (IsTurn v (is_full handler.side)) stage
    pub turn : Effects
    pub last : call.steps.after.turning.turns ≡ n.turning.turns ++ turn ∷ []
    pub drawn : drew turn.draws
    pub first : MailComesFirst g v n nones nones2 call.given turn
    pub again : AcksAgain g v n call.given call.puts

  -- nothing waits, of a node with turns to make: none of the packets is a next mail, they were taken until the count of those that weren't given rose or 4,096
  -- were, and all inputs are consumed. Mail that was consumed before is acknowledged again, at most one put was made for each packet,
  -- and the node has the same turns and has come as far with what it sent and output
  pub record IdleSteps (nones nones2 : ℕ) (handler : TurnWorker D) (stage : Stage D) : Type 0 where
    pub call : HandlerSteps (IsIdle v (is_full handler.side)) stage
    pub unmade : length n.turning.turns < g.turns
    pub most : length call.given ≤ MOST_TAKEN
    pub until : NoneIsLeft nones nones2 call.given
    pub none_next : AllByRecursion (IsNotNext v call.steps.after) (packets_from g.nodes call.given)
    pub no_input : length (inputs_for g v) ≤ consumed_from outside call.steps.after.turning.turns
    pub few : length call.puts ≤ length call.given
    pub again : AcksAgain g v n call.given call.puts
    pub same_turns : call.steps.after.turning.turns ≡ n.turning.turns
    pub same_sending : call.steps.after.sending ≡ n.sending

  -- the node makes no more turns, as the handler finds with all that it was told: it has made all its turns, or its stamp has used up
  -- half of its range
  pub record CappedSteps (handler : TurnWorker D) (stage : Stage D) : Type 0 where
    pub none_given : gave []
    pub none_put : put []
    pub steps : Steps told size g v n [] [] IsNone nothing stage
    pub same : steps.after ≡ n
    pub heard : TurnWorker D
    pub hears : HearsNews handler heard
    pub capped : IsCapped heard
    pub over : (g.turns ≤ length n.turning.turns) ⊎ (2 ^ 63 ≤ stamp_after 0 n.turning.turns)

  -- a turnover failed, which is in doubt
  pub record TurnoverFails (stage : Stage D) : Type 0 where
    pub none_given : gave []
    pub none_put : put []
    pub with_news : Told
    pub down : GoesDown told g v n [] [] IsNone nothing (turnover with_news) stage

  -- the seal of a turn with these draws failed, which is in doubt
  pub record SealFails (drew : List ℕ → Type 0) (handler : TurnWorker D) (stage : Stage D) : Type 0 where
    pub given : List (List ℕ)
    pub was_given : gave given
    pub puts : List Put
    pub were_put : put puts
    pub out : Outgoing
    pub from : ℕ
    pub draws : List ℕ
    pub pages : List Page
    pub drawn : drew draws
    pub down : GoesDown told g v n given puts (IsIdle v (is_full handler.side)) out (seal from draws pages) stage

  -- by the answer
  abbrev pub TurnStepsBy : Result Took NodeFault → (List ℕ → Type 0) → ℕ → ℕ → TurnWorker D → Stage D → Type 0
  TurnStepsBy (Ok Turn) drew nones nones2 handler stage = TurnSteps drew nones nones2 handler stage
  TurnStepsBy (Ok Idle) drew nones nones2 handler stage = IdleSteps nones nones2 handler stage
  TurnStepsBy (Ok Capped) drew nones nones2 handler stage = CappedSteps handler stage
  TurnStepsBy (Err Disk) drew nones nones2 handler stage = TurnoverFails stage ⊎ SealFails drew handler stage
  TurnStepsBy (Err Memory) drew nones nones2 handler stage = Unit {0}
  TurnStepsBy (Err Outlet) drew nones nones2 handler stage = ⊥
  TurnStepsBy (Err (Damaged disk place)) drew nones nones2 handler stage = ⊥
