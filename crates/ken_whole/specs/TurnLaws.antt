-- What a call of a node's handler is as events of the node.
use Rattle.std.specs.Prelude.{◌≡◌, ℕ, ◌<◌, ◌⊎◌, List, [], ◌++◌, map, length, slice_index, Option, Result, Ok, Err}
use Rattle.std.specs.List.{Contains, range_with_len}
use Rattle.ken_disk.specs.Fates.{Fate}
use Rattle.ken_disk.specs.Story.{Story}
use Rattle.ken_model.specs.declared.messages.Message.{Message}
use Rattle.ken_model.specs.Effects.{Effect}
use Rattle.ken_model.specs.Game.{Game}
use Rattle.ken_model.specs.Network.{Turn as Made}
use Rattle.ken_record.specs.declared.effects.Effects.{Effects}
use Rattle.ken_net.specs.Puts.{Put}
use Rattle.ken_core.specs.declared.events.Event.{Event}
use Rattle.ken_core.specs.declared.events.Told.{Told}
use Rattle.ken_core.specs.Calls.{Call, IsIdle, IsNone, IsSomeOfTurn, IsTurn}
use Rattle.ken_core.specs.Enabled.{MaySeal, MayTurn}
use Rattle.ken_core.specs.Nodes.{Node}
use Rattle.ken_core.specs.Packets.{Answer, Outgoing, one_after_other, put_by, receipt_of}
use Rattle.ken_ship.specs.declared.faults.NodeFault.{NodeFault}
use Rattle.ken_ship.specs.declared.faults.NodeFault.TheVariants.{Disk, Damaged, Outlet, Memory}
use Rattle.ken_ship.specs.declared.worker.SendWorker.{SendWorker}
use Rattle.ken_ship.specs.Laws.{packets_from}
use Rattle.ken_work.specs.declared.patcher.PatchWorker.{PatchWorker}
use Rattle.ken_work.specs.declared.renewing.TheConstants.{MOST_RECORDS}
use Rattle.ken_work.specs.declared.took.Took.{Took}
use Rattle.ken_work.specs.declared.took.Took.TheVariants.{Turn, Idle, Capped}
use Rattle.ken_work.specs.declared.worker.TurnWorker.{TurnWorker}
use Rattle.ken_work.specs.Calls.{IsSealInDoubt, TakesTurn, Drew}
use Rattle.ken_work.specs.Hearing.{ack_put}
use Rattle.ken_work.specs.Meeting.{AreFronts}
use Rattle.ken_work.specs.Sealing.{coming_pages, is_full}
use Rattle.ken_whole.specs.Whole.{IsWhole}
use Rattle.ken_work.specs.Workers.{HearsNews, IsSameWorker}

-- what node v puts where it acknowledges what it has consumed of these senders
abbrev pub acks_out : ℕ → Node → List ℕ → Outgoing
acks_out v n senders = record { puts = map (λ (from : ℕ). put_by v from n (Answer (receipt_of v from n))) senders; outs = [] }

-- what a handler was told, of the nodes of the run
abbrev pub told_of : {D : Type 0} → Game → TurnWorker D → Told
told_of g t = record { settled = t.told.settled; acked = map (λ (u : ℕ). slice_index t.told.progress.acked u) (range_with_len 0 g.nodes); emitted = t.told.progress.emitted }

-- the turn that a handler made of a message
abbrev pub turn_made : Message → Effects → Effect → Made
turn_made m e effect = record { message = m; draws = e.draws; stamp = e.stamp; effect = effect }

module _ {D : Type 0} (told : D → Option Story) (size : D → ℕ) where
  -- a call of the handler, which was given packets, and acknowledged what it had consumed of senders: of some before its turn, and of
  -- some after. Its events lead to a node that the workers stand for
  pub record HandlerLeadsTo (g : Game) (v : ℕ) (n : Node) (says : List Event → Type 0) (gave : List (List ℕ) → Type 0) (put : List Put → Type 0) (t t2 : TurnWorker D) (p : PatchWorker D) (s : SendWorker) : Type 0 where
    pub given : List (List ℕ)
    pub was_given : gave given
    pub before : List ℕ
    pub last : List ℕ
    pub was_put : put (map (ack_put v t.order) before ++ map (ack_put v t2.order) last)
    pub after : Node
    pub call : Call g v (packets_from g.nodes given) says n (one_after_other (acks_out v n before) (acks_out v after last)) after
    pub whole : IsWhole told size g v after t2 p s

  -- a turnover is in doubt: with what the worker had heard, which stood for the node, it might be made
  pub record DoubtsTurnover (g : Game) (v : ℕ) (n : Node) (gave : List (List ℕ) → Type 0) (put : List Put → Type 0) (mid : TurnWorker D) (p : PatchWorker D) (s : SendWorker) : Type 0 where
    pub was_given : gave []
    pub was_put : put []
    pub whole : IsWhole told size g v n mid p s
    pub may : MayTurn g n (told_of g mid)

  module _ (count : D → ℕ) (fate : D → Option Fate) (drew : List ℕ → Type 0) where
    -- a seal is in doubt: the events before it lead to a node that the workers stood for, and at which the turn might be sealed, since the log has room for its record
    pub record DoubtsSeal (g : Game) (v : ℕ) (n : Node) (gave : List (List ℕ) → Type 0) (put : List Put → Type 0) (t t2 : TurnWorker D) (p : PatchWorker D) (s : SendWorker) : Type 0 where
      pub mid : TurnWorker D
      pub before : HandlerLeadsTo g v n (IsIdle v (is_full t.side)) gave put t mid p s
      pub message : Message
      pub doubt : IsSealInDoubt told size count fate g.handler drew message mid t2
      pub turn : Made
      pub turn_is : turn ≡ turn_made message doubt.effects doubt.made.effect
      pub may : MaySeal g (Contains (packets_from g.nodes before.given)) v before.after message.from doubt.effects.draws (coming_pages doubt.begun) turn
      pub room : length mid.side.records.items < MOST_RECORDS

    -- by the answer
    abbrev pub TookBy : Result Took NodeFault → Game → ℕ → Node → (List (List ℕ) → Type 0) → (List Put → Type 0) → TurnWorker D → TurnWorker D → TurnWorker D → PatchWorker D → SendWorker → Type 0
    TookBy (Ok Turn) g v n gave put t mid t2 p s = HandlerLeadsTo g v n (IsTurn v (is_full t.side)) gave put t t2 p s
    TookBy (Ok Idle) g v n gave put t mid t2 p s = HandlerLeadsTo g v n (IsIdle v (is_full t.side)) gave put t t2 p s
    TookBy (Ok Capped) g v n gave put t mid t2 p s = HandlerLeadsTo g v n IsNone gave put t t2 p s
    TookBy (Err Memory) g v n gave put t mid t2 p s = HandlerLeadsTo g v n (IsSomeOfTurn v (is_full t.side)) gave put t t2 p s
    TookBy (Err Disk) g v n gave put t mid t2 p s = DoubtsTurnover g v n gave put mid p s ⊎ DoubtsSeal g v n gave put t t2 p s
    TookBy (Err Outlet) g v n gave put t mid t2 p s = ⊥
    TookBy (Err (Damaged disk place)) g v n gave put t mid t2 p s = ⊥

-- a call of the handler, with an oracle and an end of a network
abbrev pub TurnKeepsWhole : {D O N : Type 0} → (D → Option Story) → (D → ℕ) → (D → ℕ) → (D → Option Fate) → (O → Option (List ℕ)) → (O → Option (List ℕ)) → (N → N → List (List ℕ) → Type 0) → (N → N → List Put → Type 0) → Type 0
TurnKeepsWhole {D} {O} {N} told size count fate clocks words given_between put_between =
    (g : Game) (v : ℕ) (n : Node) (t mid t2 : TurnWorker D) (p : PatchWorker D) (s : SendWorker) (oracle oracle2 : O) (net net2 : N) (result : Result Took NodeFault) (nones nones2 : ℕ) → IsWhole told size g v n t p s
    → IsSameWorker t t2 → HearsNews t mid → TakesTurn told size count fate g.handler (Drew clocks words g.handler oracle oracle2) result mid t2 (given_between net net2) (put_between net net2) nones nones2 → AreFronts t2 p s
    → TookBy told size count fate (Drew clocks words g.handler oracle oracle2) result g v n (given_between net net2) (put_between net net2) t mid t2 p s
