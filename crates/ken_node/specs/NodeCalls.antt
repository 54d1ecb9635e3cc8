-- What a call of a node comes to, where its workers meet after it.
use Rattle.std.specs.Prelude.{◌≡◌, ℕ, ◌+◌, ◌<◌, ◌≤◌, ◌⊎◌, List, [], ◌∷◌, ◌++◌, length, Option, Some, None, IsSome, Bool, true, false, Result, Ok, Err}
use Rattle.std.specs.List.{AllByRecursion}
use Rattle.ken_disk.specs.Fates.{Fate}
use Rattle.ken_disk.specs.Story.{Story}
use Rattle.ken_model.specs.declared.messages.Out.{Out}
use Rattle.ken_model.specs.Game.{Game}
use Rattle.ken_packet.specs.Reading.{packet_of}
use Rattle.ken_net.specs.Counts.{risen}
use Rattle.ken_net.specs.Puts.{Put}
use Rattle.ken_core.specs.declared.events.Event.{Event}
use Rattle.ken_core.specs.Calls.{Call, Doubt, no_doubt, IsNone, IsPatchOf, IsSync, AreSends, AreTaken, IsEmit}
use Rattle.ken_core.specs.Nodes.{Node}
use Rattle.ken_core.specs.Packets.{Packet, Mail, Answer, Outgoing, due, nothing}
use Rattle.ken_core.specs.Packets as core
use Rattle.ken_core.specs.Turns.{mails_to}
use Rattle.ken_store.specs.declared.disks.Disks.{Disks}
use Rattle.ken_ship.specs.declared.emit.Emit.{Emit}
use Rattle.ken_ship.specs.declared.emit.Emit.TheVariants.{Done, Refused, Nothing}
use Rattle.ken_ship.specs.declared.faults.NodeFault.{NodeFault}
use Rattle.ken_ship.specs.declared.faults.NodeFault.TheVariants.{Disk, Damaged, Outlet, Memory}
use Rattle.ken_ship.specs.declared.hearing.TheConstants.{MOST_TAKEN}
use Rattle.ken_ship.specs.declared.worker.TheConstants.{MOST_REFUSALS}
use Rattle.ken_ship.specs.Laws.{packet_from, packets_from}
use Rattle.ken_node.specs.declared.stage.Stage.{Stage}
use Rattle.ken_node.specs.Down.{IsDown}
use Rattle.ken_node.specs.Restarts.{AreUnfailed, OneHasFailed}
use Rattle.ken_node.specs.Stages.{emissions_in, refusals_in}
use Rattle.ken_node.specs.Up.{IsUp}

-- the node that a packet of the core goes to
abbrev pub receiver : Packet → ℕ
receiver (Mail m) = m.to
receiver (Answer a) = a.to

-- what was put on a network is what the core has put there: its bytes spell the packet, and it goes to the packet's receiver
pub record IsSpelled (nodes : ℕ) (put : Put) (event_put : core.Put) : Type 0 where
  pub packet : packet_from nodes (packet_of put.bytes) ≡ event_put.packet ∷ []
  pub to : put.to ≡ receiver event_put.packet

-- each is, in order
abbrev pub AreSpelled : ℕ → List Put → List core.Put → Type 0
AreSpelled nodes [] [] = Unit {0}
AreSpelled nodes (p ∷ ps) (q ∷ qs) = IsSpelled nodes p q × AreSpelled nodes ps qs
AreSpelled nodes [] (q ∷ qs) = ⊥
AreSpelled nodes (p ∷ ps) [] = ⊥

module _ {D : Type 0} (told : D → Option Story) (size : D → ℕ) where
  -- a call of node v, which was given these packets and put these: its events lead to a node that is up
  pub record Steps (g : Game) (v : ℕ) (n : Node) (given : List (List ℕ)) (puts : List Put) (says : List Event → Type 0) (out : Outgoing) (stage : Stage D) : Type 0 where
    pub after : Node
    pub call : Call g v (packets_from g.nodes given) says n out after
    pub spelled : AreSpelled g.nodes puts out.puts
    pub up : IsUp told size g v after stage

-- a call in which a disk failed: its events lead to a node that is down, with this in doubt
pub record GoesDown {D : Type 0} (told : D → Option Story) (g : Game) (v : ℕ) (n : Node) (given : List (List ℕ)) (puts : List Put) (says : List Event → Type 0) (out : Outgoing) (doubt : Doubt) (stage : Stage D) : Type 0 where
  pub after : Node
  pub call : Call g v (packets_from g.nodes given) says n out after
  pub spelled : AreSpelled g.nodes puts out.puts
  pub down : IsDown told g v (packets_from g.nodes given) after doubt stage

-- an acknowledgement to node v goes no further than what the node has sent
abbrev pub GoesNoFurther : ℕ → Node → Packet → Type 0
GoesNoFurther v n (Mail m) = Unit {0}
GoesNoFurther v n (Answer a) = a.to ≡ v → a.through ≤ length (mails_to v a.from n.turning.turns)

-- a fact of a call that didn't end for want of memory
abbrev pub UnlessMemory : {T : Type 0} → Result T NodeFault → Type 0 → Type 0
UnlessMemory (Ok x) P = P
UnlessMemory (Err Disk) P = P
UnlessMemory (Err Memory) P = Unit {0}
UnlessMemory (Err Outlet) P = P
UnlessMemory (Err (Damaged disk place)) P = P

-- what became of a node's disks: after `Disk` one of them failed, and else none did. After want of memory nothing is said
abbrev pub DisksFailBy : {D T : Type 0} → (D → Option Story) → (D → ℕ) → (D → Option Fate) → Result T NodeFault → Disks D → Disks D → Type 0
DisksFailBy told count fate (Ok x) old new = AreUnfailed told count fate old new
DisksFailBy told count fate (Err Disk) old new = OneHasFailed told count fate old new
DisksFailBy told count fate (Err Memory) old new = Unit {0}
DisksFailBy told count fate (Err Outlet) old new = AreUnfailed told count fate old new
DisksFailBy told count fate (Err (Damaged disk place)) old new = ⊥

module _ {D : Type 0} (told : D → Option Story) (size : D → ℕ) where
  -- a page was written to the image, or none is to be; one whose write failed counts as written. Want of memory ends a run
  abbrev pub PatchStepsBy : Result Bool NodeFault → Game → ℕ → Node → Stage D → Type 0
  PatchStepsBy (Ok true) g v n stage = Steps told size g v n [] [] (IsPatchOf v) nothing stage
  PatchStepsBy (Ok false) g v n stage = Steps told size g v n [] [] IsNone nothing stage × (n.patching.ahead ≡ [])
  PatchStepsBy (Err Disk) g v n stage = GoesDown told g v n [] [] (IsPatchOf v) nothing no_doubt stage
  PatchStepsBy (Err Memory) g v n stage = Unit {0}
  PatchStepsBy (Err Outlet) g v n stage = ⊥
  PatchStepsBy (Err (Damaged disk place)) g v n stage = ⊥

  -- the image was synced; a sync that failed is no event
  abbrev pub SettleStepsBy : Result (Unit {0}) NodeFault → Game → ℕ → Node → Stage D → Type 0
  SettleStepsBy (Ok x) g v n stage = Steps told size g v n [] [] (IsSync v) nothing stage
  SettleStepsBy (Err Disk) g v n stage = GoesDown told g v n [] [] IsNone nothing no_doubt stage
  SettleStepsBy (Err Memory) g v n stage = Unit {0}
  SettleStepsBy (Err Outlet) g v n stage = ⊥
  SettleStepsBy (Err (Damaged disk place)) g v n stage = ⊥

  -- all that is due was put
  pub record SendSteps (g : Game) (v : ℕ) (n : Node) (put : List Put → Type 0) (stage : Stage D) : Type 0 where
    pub puts : List Put
    pub were_put : put puts
    pub out : Outgoing
    pub steps : Steps told size g v n [] puts (AreSends g v n) out stage

  -- packets were given until the count of those that weren't rose, or 4,096 were; the acknowledgements among them were taken, where
  -- none goes further than what the node has sent
  pub record HearSteps (g : Game) (v : ℕ) (n : Node) (gave : List (List ℕ) → Type 0) (nones nones2 : ℕ) (stage : Stage D) : Type 0 where
    pub given : List (List ℕ)
    pub was_given : gave given
    pub most : length given ≤ MOST_TAKEN
    pub until : (length given ≡ MOST_TAKEN) ⊎ (risen nones ≤ nones2)
    pub steps : AllByRecursion (GoesNoFurther v n) (packets_from g.nodes given) → Steps told size g v n given [] (AreTaken v (packets_from g.nodes given)) nothing stage

  -- the output that was due was emitted
  pub record EmitSteps (number : ℕ) (g : Game) (v : ℕ) (n : Node) (took : List Out → Type 0) (old new : Stage D) : Type 0 where
    pub out : Out
    pub was_due : due n ≡ Some out
    pub numbered : out.number ≡ number
    pub taken : took (out ∷ [])
    pub steps : Steps told size g v n [] [] (IsEmit v) (record { puts = []; outs = out ∷ [] }) new
    pub emitted : emissions_in new ≡ emissions_in old ++ record { node = v; out = out } ∷ []
    pub refusals : refusals_in new ≡ 0

  -- nothing was
  pub record EmitsNone (g : Game) (v : ℕ) (n : Node) (took : List Out → Type 0) (old new : Stage D) : Type 0 where
    pub taken : took []
    pub steps : Steps told size g v n [] [] IsNone nothing new
    pub emitted : emissions_in new ≡ emissions_in old

  -- by the answer: it was emitted, or refused, once too often or not, or none is due
  abbrev pub EmitStepsBy : Result Emit NodeFault → Game → ℕ → Node → (List Out → Type 0) → Stage D → Stage D → Type 0
  EmitStepsBy (Ok (Done number)) g v n took old new = EmitSteps number g v n took old new
  EmitStepsBy (Ok Refused) g v n took old new = EmitsNone g v n took old new × IsSome (due n) × (refusals_in old < MOST_REFUSALS) × (refusals_in new ≡ refusals_in old + 1)
  EmitStepsBy (Ok Nothing) g v n took old new = EmitsNone g v n took old new × (due n ≡ None) × (refusals_in new ≡ refusals_in old)
  EmitStepsBy (Err Outlet) g v n took old new = EmitsNone g v n took old new × IsSome (due n) × (refusals_in old ≡ MOST_REFUSALS) × (refusals_in new ≡ refusals_in old)
  EmitStepsBy (Err Memory) g v n took old new = Unit {0}
  EmitStepsBy (Err Disk) g v n took old new = ⊥
  EmitStepsBy (Err (Damaged disk place)) g v n took old new = ⊥
