-- What the calls of a node's workers are as events of the node, and that the workers stand for it after each.
use Rattle.std.specs.Prelude.{◌≡◌, ℕ, List, [], ◌∷◌, Option, Bool, true, false, Result, Ok, Err, OnOk}
use Rattle.std.specs.declared.alloc.AllocError.{AllocError}
use Rattle.ken_disk.specs.Fates.{Fate}
use Rattle.ken_disk.specs.Story.{Story, Tells}
use Rattle.ken_model.specs.declared.messages.Out.{Out}
use Rattle.ken_model.specs.Game.{Game}
use Rattle.ken_core.specs.declared.events.Event.{Event}
use Rattle.ken_core.specs.Nodes.{Node}
use Rattle.ken_core.specs.Packets.{Packet, Outgoing, nothing}
use Rattle.ken_core.specs.Calls.{Call, IsNone, IsPatchOf, IsSync, AreSends, AreSomeSends, AreTaken, IsEmit}
use Rattle.ken_net.specs.Puts.{Put}
use Rattle.ken_outbox.specs.Waiting.{Waiting}
use Rattle.ken_store.specs.declared.faults.StoreFault.{StoreFault}
use Rattle.ken_store.specs.declared.faults.StoreFault.TheVariants.{Disk, Memory, Damaged}
use Rattle.ken_links.specs.Rings.{pushed, popped}
use Rattle.ken_ship.specs.declared.emit.Emit.{Emit}
use Rattle.ken_ship.specs.declared.emit.Emit.TheVariants.{Done, Refused, Nothing}
use Rattle.ken_ship.specs.declared.faults.NodeFault.{NodeFault}
use Rattle.ken_ship.specs.declared.worker.SendWorker.{SendWorker}
use Rattle.ken_ship.specs.Emitting.{Emitted}
use Rattle.ken_ship.specs.Handing.{HandedOver}
use Rattle.ken_ship.specs.Laws.{GoNoFurther, IsSending, TakeThese, packets_from}
use Rattle.ken_ship.specs.Parts.{part_of}
use Rattle.ken_ship.specs.Parts.{IsSameWorker as IsSameSender}
use Rattle.ken_ship.specs.Sending.{SentDue, all_due}
use Rattle.ken_ship.specs.Taking.{Heard, TellsRisen, acks_in, acks_taken}
use Rattle.ken_work.specs.declared.patcher.PatchWorker.{PatchWorker}
use Rattle.ken_work.specs.declared.worker.TurnWorker.{TurnWorker}
use Rattle.ken_work.specs.Meeting.{AreFronts, AreJoined, HaveMet}
use Rattle.ken_work.specs.Patches.{IsSamePatcher, PatchesOnce, SettlesOnce}
use Rattle.ken_whole.specs.Whole.{IsWhole}

-- messages were put, and these events of the node send them
pub record SendsMail (g : Game) (v : ℕ) (n : Node) (says : List Event → Type 0) (put : List Put → Type 0) : Type 0 where
  pub puts : List Put
  pub were_put : put puts
  pub sending : IsSending g v n says puts

module _ {D : Type 0} (told : D → Option Story) (size : D → ℕ) where
  -- a call of node v, which was given these packets: its events lead to a node that the workers stand for
  pub record LeadsTo (g : Game) (v : ℕ) (given : List Packet) (says : List Event → Type 0) (n : Node) (out : Outgoing) (t : TurnWorker D) (p : PatchWorker D) (s : SendWorker) : Type 0 where
    pub after : Node
    pub call : Call g v given says n out after
    pub whole : IsWhole told size g v after t p s

  -- by the answer of a patch: a write that failed counts as written, where the disk tells
  abbrev pub PatchedBy : Result Bool StoreFault → Game → ℕ → Node → TurnWorker D → PatchWorker D → SendWorker → Type 0
  PatchedBy (Ok true) g v n t p s = LeadsTo g v [] (IsPatchOf v) n nothing t p s
  PatchedBy (Ok false) g v n t p s = LeadsTo g v [] IsNone n nothing t p s
  PatchedBy (Err Memory) g v n t p s = LeadsTo g v [] IsNone n nothing t p s
  PatchedBy (Err Disk) g v n t p s = Tells (told p.side.image.disk) (λ h. LeadsTo g v [] (IsPatchOf v) n nothing t p s)
  PatchedBy (Err (Damaged disk place)) g v n t p s = ⊥

  -- by the answer of a sync: one that failed is no event
  abbrev pub SyncedBy : Result (Unit {0}) StoreFault → Game → ℕ → Node → TurnWorker D → PatchWorker D → SendWorker → Type 0
  SyncedBy (Ok x) g v n t p s = LeadsTo g v [] (IsSync v) n nothing t p s
  SyncedBy (Err Memory) g v n t p s = LeadsTo g v [] IsNone n nothing t p s
  SyncedBy (Err Disk) g v n t p s = Tells (told p.side.image.disk) (λ h. LeadsTo g v [] IsNone n nothing t p s)
  SyncedBy (Err (Damaged disk place)) g v n t p s = ⊥

  module _ (count : D → ℕ) (fate : D → Option Fate) where
    abbrev pub PatchKeepsWhole : Type 0
    PatchKeepsWhole =
        (g : Game) (v : ℕ) (n : Node) (t : TurnWorker D) (p p2 : PatchWorker D) (s : SendWorker) (result : Result Bool StoreFault) → IsWhole told size g v n t p s
        → IsSamePatcher p p2 → PatchesOnce told size count fate result p p2 → AreFronts t p2 s → PatchedBy result g v n t p2 s

    abbrev pub SyncKeepsWhole : Type 0
    SyncKeepsWhole =
        (g : Game) (v : ℕ) (n : Node) (t : TurnWorker D) (p p2 : PatchWorker D) (s : SendWorker) (result : Result (Unit {0}) StoreFault) → IsWhole told size g v n t p s
        → IsSamePatcher p p2 → SettlesOnce told size count fate result p p2 → SyncedBy result g v n t p2 s

  -- some of what is due was sent; all of it, where nothing was on its way to the externaliser and the call ended well
  pub record Sends (result : Result (Unit {0}) AllocError) (g : Game) (v : ℕ) (n : Node) (put : List Put → Type 0) (t : TurnWorker D) (p : PatchWorker D) (s : SendWorker) : Type 0 where
    pub whole : IsWhole told size g v n t p s
    pub some : SendsMail g v n (AreSomeSends g v n) put
    pub all : popped s.sealed ≡ pushed t.sealed → OnOk result (SendsMail g v n (AreSends g v n) put)

  -- messages are put on an end of a network
  abbrev pub SendsKeepWhole : {N : Type 0} → (N → N → List Put → Type 0) → Type 0
  SendsKeepWhole {N} put_between =
      (g : Game) (v : ℕ) (n : Node) (t : TurnWorker D) (p : PatchWorker D) (s s2 : SendWorker) (net net2 : N) (result : Result (Unit {0}) AllocError) (nones nones2 : ℕ) → IsWhole told size g v n t p s
      → IsSameSender s s2 → s2.told ≡ s.told → HandedOver result s.backlog.node (popped s.sealed) (popped s2.sealed) nones nones2 (part_of s).due (part_of s2).due → SentDue result (put_between net net2) (all_due s.nodes (part_of s2).due.lines)
      → AreFronts t p s2 → Sends result g v n (put_between net net2) t p s2

  -- those acknowledgements were taken that go no further than what the externaliser was handed: all, where none goes further
  pub record Takes (g : Game) (v : ℕ) (n : Node) (given : List (List ℕ)) (w : Waiting) (t : TurnWorker D) (p : PatchWorker D) (s : SendWorker) : Type 0 where
    pub some : LeadsTo g v (packets_from g.nodes given) (TakeThese v (acks_taken (acks_in v g.nodes given) w.lines)) n nothing t p s
    pub all : GoNoFurther w (acks_in v g.nodes given) → LeadsTo g v (packets_from g.nodes given) (AreTaken v (packets_from g.nodes given)) n nothing t p s

  -- acknowledgements are taken from one
  abbrev pub AcksKeepWhole : {N : Type 0} → (N → N → List (List ℕ) → Type 0) → Type 0
  AcksKeepWhole {N} given_between =
      (g : Game) (v : ℕ) (n : Node) (t : TurnWorker D) (p : PatchWorker D) (s s2 : SendWorker) (net net2 : N) (nones nones2 : ℕ) → IsWhole told size g v n t p s
      → IsSameSender s s2 → s2.sealed ≡ s.sealed → (heard : Heard s.backlog.node s.nodes (given_between net net2) nones nones2 (part_of s).due (part_of s2).due) → TellsRisen (part_of s) (part_of s2)
      → Takes g v n heard.packets (part_of s).due t p s2

  -- the oldest output was emitted
  pub record EmitsOldest (number : ℕ) (g : Game) (v : ℕ) (n : Node) (t : TurnWorker D) (p : PatchWorker D) (s s2 : SendWorker) : Type 0 where
    pub out : Out
    pub rest : List Out
    pub oldest : (part_of s).due.outs ≡ out ∷ rest
    pub numbered : out.number ≡ number
    pub comes : LeadsTo g v [] (IsEmit v) n (record { puts = []; outs = out ∷ [] }) t p s2

  -- by the answer of an emission
  abbrev pub EmitsBy : Result Emit NodeFault → Game → ℕ → Node → TurnWorker D → PatchWorker D → SendWorker → SendWorker → Type 0
  EmitsBy (Ok (Done number)) g v n t p s s2 = EmitsOldest number g v n t p s s2
  EmitsBy (Ok Refused) g v n t p s s2 = LeadsTo g v [] IsNone n nothing t p s2
  EmitsBy (Ok Nothing) g v n t p s s2 = LeadsTo g v [] IsNone n nothing t p s2
  EmitsBy (Err fault) g v n t p s s2 = LeadsTo g v [] IsNone n nothing t p s2

  abbrev pub EmissionKeepsWhole : Type 0
  EmissionKeepsWhole =
      (g : Game) (v : ℕ) (n : Node) (t : TurnWorker D) (p : PatchWorker D) (s s2 : SendWorker) (result : Result Emit NodeFault) → IsWhole told size g v n t p s
      → IsSameSender s s2 → s2.sealed ≡ s.sealed → Emitted s.backlog.node result (part_of s) (part_of s2) → EmitsBy result g v n t p s s2

  -- nothing happened, as where memory ran out
  abbrev pub SamePartKeepsWhole : Type 0
  SamePartKeepsWhole =
      (g : Game) (v : ℕ) (n : Node) (t : TurnWorker D) (p : PatchWorker D) (s s2 : SendWorker) → IsWhole told size g v n t p s → IsSameSender s s2 → s2.sealed ≡ s.sealed → part_of s2 ≡ part_of s → IsWhole told size g v n t p s2

  -- what is in the rings comes to its receivers
  abbrev pub MeetingKeepsWhole : Type 0
  MeetingKeepsWhole =
      (g : Game) (v : ℕ) (n : Node) (t t2 : TurnWorker D) (p p2 : PatchWorker D) (s s2 : SendWorker) → IsWhole told size g v n t p s
      → IsSameSender s s2 → AreJoined t2 p2 s2 → HaveMet told size t t2 p p2 s s2 → IsWhole told size g v n t2 p2 s2
