-- What a call of a node's handler does, by its answer.
use Rattle.std.specs.Prelude.{◌≡◌, ℕ, ◌+◌, ◌⊎◌, ◌==◌, if◌then◌else◌, List, [], ◌∷◌, ◌++◌, slice_set, Option, Some, None, Result, Ok, Err}
use Rattle.ken_disk.specs.Fates.{Fate}
use Rattle.ken_disk.specs.Story.{Story}
use Rattle.ken_model.specs.declared.messages.Message.{Message}
use Rattle.ken_model.specs.Handler.{Handler}
use Rattle.ken_model.specs.Network.{outside}
use Rattle.ken_record.specs.declared.effects.Effects.{Effects}
use Rattle.ken_net.specs.Puts.{Put}
use Rattle.ken_app.specs.Oracles.{Answers}
use Rattle.ken_order.specs.Consumed.{Consumed, place}
use Rattle.ken_links.specs.Rings.{pushed, free}
use Rattle.ken_store.specs.declared.faults.StoreFault.{StoreFault}
use Rattle.ken_store.specs.declared.faults.StoreFault.TheVariants as store
use Rattle.ken_store.specs.declared.turning.TurnSide.{TurnSide}
use Rattle.ken_store.specs.Turning.{IsSameNode, turn_pages}
use Rattle.ken_ship.specs.declared.faults.NodeFault.{NodeFault}
use Rattle.ken_ship.specs.declared.faults.NodeFault.TheVariants.{Disk, Damaged, Outlet, Memory}
use Rattle.ken_ship.specs.declared.items.Sealed.{Sealed}
use Rattle.ken_work.specs.declared.items.Frozen.{Frozen}
use Rattle.ken_work.specs.declared.took.Took.{Took}
use Rattle.ken_work.specs.declared.took.Took.TheVariants.{Turn, Idle, Capped}
use Rattle.ken_work.specs.declared.worker.TurnWorker.{TurnWorker}
use Rattle.ken_work.specs.Capped.{IsCapped}
use Rattle.ken_work.specs.Hearing.{Listened, StoppedListening, ack_put, chosen}
use Rattle.ken_work.specs.Making.{IsHanded, IsMade, frozen_pages_of}
use Rattle.ken_work.specs.Sealing.{Renews, SealsTurn, coming_pages, coming_turn}
use Rattle.ken_work.specs.Workers.{Working}

-- between two states of an oracle it answered what was drawn
abbrev pub Drew : {O : Type 0} → (O → Option (List ℕ)) → (O → Option (List ℕ)) → Handler → O → O → List ℕ → Type 0
Drew clocks words h oracle oracle2 draws = Answers (clocks oracle) (clocks oracle2) (h.clocks draws) × Answers (words oracle) (words oracle2) (h.words draws)

-- what was consumed, with the message of a turn and its stamp
abbrev pub consumed_with : Message → ℕ → Consumed → Consumed
consumed_with m stamp c = record { nodes = c.nodes; stamp = stamp; consumed = slice_set c.consumed (place m.from) m.number }

-- a mail is acknowledged after its turn; an input isn't
abbrev pub answer_puts : ℕ → Consumed → ℕ → List Put
answer_puts v c from = if from == outside then [] else ack_put v c from ∷ []

-- nothing was pushed, and no turn kept; only the side may have changed
pub record IsQuiet {D : Type 0} (old new : TurnWorker D) : Type 0 where
  pub rest : new ≡ record old { side = new.side; turns = new.turns }
  pub turns : new.turns.items ≡ old.turns.items

-- the side has the same pages, records, numbers and value, as after a turn that was taken back
pub record IsSameState {D : Type 0} (old new : TurnSide D) : Type 0 where
  pub pages : turn_pages new ≡ turn_pages old
  pub records : new.records.items ≡ old.records.items
  pub numbers : new.numbers ≡ old.numbers
  pub head : new.log.header ≡ old.log.header
  pub base : new.log.base ≡ old.log.base
  pub base_turns : new.base_turns.items ≡ old.base_turns.items
  pub node : IsSameNode old new
  pub value : new.objects.value ≡ old.objects.value

-- a sealed turn is kept, and handed to the patcher and to the externaliser
pub record IsKept {D : Type 0} (turn : ℕ) (m : Message) (e : Effects) (begun : TurnSide D) (old new : TurnWorker D) : Type 0 where
  pub rest : new ≡ record old { side = new.side; order = new.order; turns = new.turns; pages = new.pages; sealed = new.sealed }
  pub turns : new.turns.items ≡ old.turns.items ++ e ∷ []
  pub order : new.order ≡ consumed_with m e.stamp old.order
  pub frozen : Frozen
  pub pages : pushed new.pages ≡ pushed old.pages ++ frozen ∷ []
  pub frozen_is : frozen_pages_of frozen ≡ (turn, coming_pages begun)
  pub handed : Sealed
  pub sealed : pushed new.sealed ≡ pushed old.sealed ++ handed ∷ []
  pub handed_is : IsHanded turn e handed
  pub slots : (free old.pages ≡ free new.pages + 1) × (free old.sealed ≡ free new.sealed + 1)

-- packets were taken, and the message is the mail that came or the next input; where memory ran out, amid the packets or for the
-- copy of the input
pub data StoppedTaking (v : ℕ) (c : Consumed) (inputs : List Message) (gave : List (List ℕ) → Type 0) (put : List Put → Type 0) (nones nones2 : ℕ) : Type 0 where
  amid_packets : StoppedListening v c gave put → StoppedTaking v c inputs gave put nones nones2
  at_input : (message : Message) → Listened v c gave put nones nones2 None → chosen inputs c None ≡ Some message → StoppedTaking v c inputs gave put nones nones2

pub record TookMessage (v : ℕ) (c : Consumed) (inputs : List Message) (gave : List (List ℕ) → Type 0) (put : List Put → Type 0) (nones nones2 : ℕ) (message : Option Message) : Type 0 where
  pub found : Option Message
  pub listened : Listened v c gave put nones nones2 found
  pub chosen_is : chosen inputs c found ≡ message

abbrev pub TakesMessage : {E : Type 0} → ℕ → Consumed → List Message → (List (List ℕ) → Type 0) → (List Put → Type 0) → ℕ → ℕ → Result (Option Message) E → Type 0
TakesMessage v c inputs gave put nones nones2 (Ok message) = TookMessage v c inputs gave put nones nones2 message
TakesMessage v c inputs gave put nones nones2 (Err fault) = StoppedTaking v c inputs gave put nones nones2

module _ {D : Type 0} (told : D → Option Story) (size count : D → ℕ) (fate : D → Option Fate) (h : Handler) where
  -- the seal of a turn that was made, from the side before it was begun on, by its answer
  abbrev pub Seals : {T : Type 0} → Result T StoreFault → Message → Effects → TurnSide D → TurnWorker D → TurnWorker D → Type 0
  Seals (Ok x) m e before old new = SealsTurn told size count fate {T = Unit {0}} (Ok tt) e old.side new.side × IsKept (coming_turn old.side) m e old.side old new × Working told size h new
  Seals (Err store.Disk) m e before old new = SealsTurn told size count fate {T = Unit {0}} (Err store.Disk) e old.side new.side × IsQuiet old new
  Seals (Err store.Memory) m e before old new = IsSameState before new.side × Working told size h new × IsQuiet old new
  Seals (Err (store.Damaged disk place)) m e before old new = ⊥

module _ {D : Type 0} (told : D → Option Story) (size count : D → ℕ) (fate : D → Option Fate) (h : Handler) (drew : List ℕ → Type 0) where
  -- a turn was made of the message, and sealed
  pub record RanTurn (m : Message) (old new : TurnWorker D) : Type 0 where
    pub effects : Effects
    pub begun : TurnSide D
    pub made : IsMade h m effects old.side begun
    pub drawn : drew effects.draws
    pub seals : SealsTurn told size count fate {T = Unit {0}} (Ok tt) effects begun new.side
    pub kept : IsKept (coming_turn begun) m effects begun old new
    pub working : Working told size h new

  -- it was made, and whether it was sealed is in doubt
  pub record IsSealInDoubt (m : Message) (old new : TurnWorker D) : Type 0 where
    pub effects : Effects
    pub begun : TurnSide D
    pub made : IsMade h m effects old.side begun
    pub drawn : drew effects.draws
    pub seals : SealsTurn told size count fate {T = Unit {0}} (Err store.Disk) effects begun new.side
    pub quiet : IsQuiet old new

  -- memory ran out, and no turn was sealed: the log's disk may have seen calls, but none of them opened a gate
  pub record GaveUp (old new : TurnWorker D) : Type 0 where
    pub state : IsSameState old.side new.side
    pub working : Working told size h new
    pub quiet : IsQuiet old new

  -- the turn of a message, by the answer; after want of memory it may be sealed, and not acknowledged
  abbrev pub Runs : {T : Type 0} → Result T NodeFault → (List Put → Type 0) → Message → TurnWorker D → TurnWorker D → Type 0
  Runs (Ok x) put m old new = RanTurn m old new × put (answer_puts old.node new.order m.from)
  Runs (Err Disk) put m old new = IsSealInDoubt m old new × put []
  Runs (Err Memory) put m old new = (GaveUp old new ⊎ RanTurn m old new) × put []
  Runs (Err Outlet) put m old new = ⊥
  Runs (Err (Damaged disk place)) put m old new = ⊥

  -- before a turn: the log is renewed where it is full, and packets are taken
  pub record BeforeTurn (old : TurnWorker D) (mid : TurnWorker D) (gave : List (List ℕ) → Type 0) (put : List Put → Type 0) (nones nones2 : ℕ) (message : Option Message) : Type 0 where
    pub open_yet : IsCapped old → ⊥
    pub rest : mid ≡ record old { side = mid.side }
    pub renews : Renews told size count fate {T = Unit {0}} (Ok tt) old mid.side
    pub working : Working told size h mid
    pub took : TookMessage old.node old.order old.inputs.items gave put nones nones2 message

  -- a turn
  pub record Turned (old new : TurnWorker D) (gave : List (List ℕ) → Type 0) (put : List Put → Type 0) (nones nones2 : ℕ) : Type 0 where
    pub mid : TurnWorker D
    pub message : Message
    pub came : BeforeTurn old mid gave (λ ps. put (ps ++ answer_puts old.node new.order message.from)) nones nones2 (Some message)
    pub ran : RanTurn message mid new

  -- nothing waits
  pub record Idled (old new : TurnWorker D) (gave : List (List ℕ) → Type 0) (put : List Put → Type 0) (nones nones2 : ℕ) : Type 0 where
    pub came : BeforeTurn old new gave put nones nones2 None

  -- no turn is made any more
  pub record IsOver (old new : TurnWorker D) (gave : List (List ℕ) → Type 0) (put : List Put → Type 0) : Type 0 where
    pub capped : IsCapped old
    pub same : new ≡ old
    pub given : gave []
    pub none : put []

  -- a disk failed: at the turnover, or at the seal
  pub record IsTurnoverInDoubt (old new : TurnWorker D) (gave : List (List ℕ) → Type 0) (put : List Put → Type 0) : Type 0 where
    pub open_yet : IsCapped old → ⊥
    pub rest : new ≡ record old { side = new.side }
    pub renews : Renews told size count fate {T = Unit {0}} (Err store.Disk) old new.side
    pub given : gave []
    pub none : put []

  pub record IsTurnInDoubt (old new : TurnWorker D) (gave : List (List ℕ) → Type 0) (put : List Put → Type 0) (nones nones2 : ℕ) : Type 0 where
    pub mid : TurnWorker D
    pub message : Message
    pub came : BeforeTurn old mid gave put nones nones2 (Some message)
    pub doubt : IsSealInDoubt message mid new

  -- memory ran out: at the turnover, at the message, or at the turn, which may be sealed and not acknowledged
  pub data Stopped (old new : TurnWorker D) (gave : List (List ℕ) → Type 0) (put : List Put → Type 0) (nones nones2 : ℕ) : Type 0 where
    at_turnover : (IsCapped old → ⊥) → new ≡ record old { side = new.side } → Renews told size count fate {T = Unit {0}} (Err store.Memory) old new.side → Working told size h new → gave [] → put [] → Stopped old new gave put nones nones2
    at_message : (IsCapped old → ⊥) → new ≡ record old { side = new.side } → Renews told size count fate {T = Unit {0}} (Ok tt) old new.side → Working told size h new → StoppedTaking old.node old.order old.inputs.items gave put nones nones2 → Stopped old new gave put nones nones2
    at_turn : (mid : TurnWorker D) → (message : Message) → BeforeTurn old mid gave put nones nones2 (Some message) → GaveUp mid new ⊎ RanTurn message mid new → Stopped old new gave put nones nones2

  -- a call, from what the handler knows once it has popped what it was told
  abbrev pub TakesTurn : Result Took NodeFault → TurnWorker D → TurnWorker D → (List (List ℕ) → Type 0) → (List Put → Type 0) → ℕ → ℕ → Type 0
  TakesTurn (Ok Turn) old new gave put nones nones2 = Turned old new gave put nones nones2
  TakesTurn (Ok Idle) old new gave put nones nones2 = Idled old new gave put nones nones2
  TakesTurn (Ok Capped) old new gave put nones nones2 = IsOver old new gave put
  TakesTurn (Err Disk) old new gave put nones nones2 = IsTurnoverInDoubt old new gave put ⊎ IsTurnInDoubt old new gave put nones nones2
  TakesTurn (Err Memory) old new gave put nones nones2 = Stopped old new gave put nones nones2
  TakesTurn (Err Outlet) old new gave put nones nones2 = ⊥
  TakesTurn (Err (Damaged disk place)) old new gave put nones nones2 = ⊥
