-- Calls of a node, told as events: what each answer of a call stands for.
use Rattle.std.specs.Prelude.{◌≡◌, ℕ, ◌-◌, min, List, [], ◌∷◌, ◌++◌, map, length, slice_index, ◌==◌, if◌then◌else◌, Bool, true, false}
use Rattle.std.specs.List.{AllByRecursion, Contains, flat_map, range_with_len}
use Rattle.ken_model.specs.Game.{Game}
use Rattle.ken_model.specs.Network.{outside}
use Rattle.ken_record.specs.declared.page.Page.{Page}
use Rattle.ken_core.specs.declared.events.Event.{Event}
use Rattle.ken_core.specs.declared.events.Event.TheVariants.{Seal, SealCut, Patch, SyncImage, Turnover, Send, Ack, TakeAck, Emit, Crash, Recover}
use Rattle.ken_core.specs.declared.events.Told.{Told}
use Rattle.ken_core.specs.declared.events.Outcome.TheVariants.{Whole, Landed, Lost}
use Rattle.ken_core.specs.Turns.{mails_to}
use Rattle.ken_core.specs.Nodes.{Node}
use Rattle.ken_core.specs.Packets.{Packet, Mail, Answer, Outgoing}
use Rattle.ken_core.specs.Runs.{NodeRun}

-- a call of node v that was given these packets: events that lead from n to n2, of which its answer says something
pub record Call (g : Game) (v : ℕ) (given : List Packet) (says : List Event → Type 0) (n : Node) (out : Outgoing) (n2 : Node) : Type 0 where
  pub events : List Event
  pub run : NodeRun g (Contains given) v n events out n2
  pub which : says events

-- no event
abbrev pub IsNone : List Event → Type 0
IsNone es = es ≡ []

-- an acknowledgement
abbrev pub IsAck : ℕ → Event → Type 0
IsAck v e = (from : ℕ) × (e ≡ Ack v from)

-- a whole turnover where the log is full, and none where it isn't
abbrev pub IsRenewed : ℕ → Bool → List Event → Type 0
IsRenewed v true es = (told : Told) × (es ≡ Turnover v Whole told ∷ [])
IsRenewed v false es = es ≡ []

-- an idle call: the turnover, and acknowledgements again of mail that was consumed before. A seal or a turnover that failed is
-- no event yet
pub record IsIdle (v : ℕ) (full : Bool) (es : List Event) : Type 0 where
  pub renewed : List Event
  pub acks : List Event
  pub parts : es ≡ renewed ++ acks
  pub renews : IsRenewed v full renewed
  pub each : AllByRecursion (IsAck v) acks

-- the acknowledgement of a turn's mail; an input has none
abbrev pub answer_to : ℕ → ℕ → List Event
answer_to v from = if from == outside then [] else Ack v from ∷ []

-- a turn: as an idle call, then the seal, and for a mail its acknowledgement
pub record IsTurn (v : ℕ) (full : Bool) (es : List Event) : Type 0 where
  pub before : List Event
  pub idle : IsIdle v full before
  pub from : ℕ
  pub draws : List ℕ
  pub pages : List Page
  pub parts : es ≡ before ++ Seal v from draws pages ∷ answer_to v from

-- where memory ran out: some of a turn's events, in order
pub data IsSome : List Event → List Event → Type 0 where
  ended : IsSome [] []
  made : {e : Event} {es whole : List Event} → IsSome es whole → IsSome (e ∷ es) (e ∷ whole)
  left_out : {e : Event} {es whole : List Event} → IsSome es whole → IsSome es (e ∷ whole)

pub record IsSomeOfTurn (v : ℕ) (full : Bool) (es : List Event) : Type 0 where
  pub whole : List Event
  pub turn : IsTurn v full whole
  pub some : IsSome es whole

-- a page was written; one whose write failed counts as written
abbrev pub IsPatchOf : ℕ → List Event → Type 0
IsPatchOf v es = (page : ℕ) × (es ≡ Patch v page ∷ [])

abbrev pub IsSync : ℕ → List Event → Type 0
IsSync v es = es ≡ SyncImage v ∷ []

-- the sends of the oldest unacknowledged messages of each receiver, in order and 16 at most
abbrev pub due_to : ℕ → Node → ℕ → ℕ
due_to v n w = min 16 (length (mails_to v w n.turning.turns) - slice_index n.sending.acked w)

abbrev pub sends_of : Game → ℕ → Node → List Event
sends_of g v n = flat_map (λ w. map (λ i. Send v w i) (range_with_len 0 (due_to v n w))) (range_with_len 0 g.nodes)

-- all of them, or after want of memory some
abbrev pub AreSends : Game → ℕ → Node → List Event → Type 0
AreSends g v n es = es ≡ sends_of g v n

abbrev pub AreSomeSends : Game → ℕ → Node → List Event → Type 0
AreSomeSends g v n es = IsSome es (sends_of g v n)

-- the acknowledgements to v among packets that were given
abbrev pub taken_from : ℕ → Packet → List Event
taken_from v (Mail m) = []
taken_from v (Answer a) = if a.to == v then TakeAck v a.from a.through ∷ [] else []

abbrev pub AreTaken : ℕ → List Packet → List Event → Type 0
AreTaken v given es = es ≡ flat_map (taken_from v) given

abbrev pub IsEmit : ℕ → List Event → Type 0
IsEmit v es = es ≡ Emit v ∷ []

-- what was in doubt at a node that went down: nothing, a seal or a turnover
pub data Doubt : Type 0 where
  no_doubt : Doubt
  seal : (from : ℕ) → (draws : List ℕ) → (pages : List Page) → Doubt
  turnover : Told → Doubt

-- the event that a restart finds it to be, as the disks show: landed, or not
abbrev pub found : ℕ → Doubt → Bool → List Event
found v no_doubt landed = []
found v (seal from draws pages) landed = SealCut v from draws pages landed ∷ []
found v (turnover told) true = Turnover v Landed told ∷ []
found v (turnover told) false = Turnover v Lost told ∷ []

-- a restart: what was in doubt, then the crash and the recovery. Creation is no event
pub record IsRestart (v : ℕ) (doubt : Doubt) (es : List Event) : Type 0 where
  pub landed : Bool
  pub torn : List Page
  pub parts : es ≡ found v doubt landed ++ Crash v torn ∷ Recover v ∷ []
