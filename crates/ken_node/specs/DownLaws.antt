-- A node of workers, whether it is up or its call failed, is one that may be restarted.
use Rattle.std.specs.Prelude.{ℕ, ◌<◌, ◌⊎◌, List, Option, Err}
use Rattle.ken_disk.specs.Fates.{Fate}
use Rattle.ken_disk.specs.Story.{Story}
use Rattle.ken_model.specs.Game.{Game}
use Rattle.ken_model.specs.Limits.{IsWithinLimits}
use Rattle.ken_net.specs.Puts.{Put}
use Rattle.ken_core.specs.Calls.{Doubt, no_doubt, seal, turnover}
use Rattle.ken_core.specs.Nodes.{Node, first_node}
use Rattle.ken_core.specs.Packets.{Packet}
use Rattle.ken_store.specs.declared.disks.Disks.{Disks}
use Rattle.ken_store.specs.Answers.{AreAtRest, AreUnformatted}
use Rattle.ken_store.specs.Apart.{disks_apart}
use Rattle.ken_ship.specs.declared.faults.NodeFault.{NodeFault}
use Rattle.ken_ship.specs.declared.faults.NodeFault.TheVariants.{Disk}
use Rattle.ken_ship.specs.declared.worker.SendWorker.{SendWorker}
use Rattle.ken_ship.specs.Laws.{packets_from}
use Rattle.ken_ship.specs.Parts.{IsSameWorker as IsSameSender}
use Rattle.ken_work.specs.declared.patcher.PatchWorker.{PatchWorker}
use Rattle.ken_node.specs.declared.stage.Stage.{Stage}
use Rattle.ken_node.specs.declared.stage.Stage.TheVariants.{Created}
use Rattle.ken_work.specs.declared.worker.TurnWorker.{TurnWorker}
use Rattle.ken_work.specs.Calls.{IsTurnoverInDoubt, TakesTurn, Drew}
use Rattle.ken_node.specs.Created.{IsCreation}
use Rattle.ken_node.specs.Down.{AreTold, IsDown}
use Rattle.ken_work.specs.Meeting.{AreFronts, AreJoined, HaveMet}
use Rattle.ken_work.specs.Sealing.{coming_pages}
use Rattle.ken_whole.specs.TurnLaws.{DoubtsSeal, DoubtsTurnover, told_of}
use Rattle.ken_whole.specs.Whole.{IsWhole}
use Rattle.ken_work.specs.Workers.{HearsNews, IsSameWorker}

module _ {D : Type 0} (told : D → Option Story) (size : D → ℕ) where
  -- a node that is up, with nothing in doubt
  abbrev pub WholeGoesDown : Type 0
  WholeGoesDown =
      (g : Game) (v : ℕ) (given : List Packet) (n : Node) (t : TurnWorker D) (p : PatchWorker D) (s : SendWorker) → IsWithinLimits g → v < g.nodes → IsWhole told size g v n t p s
      → AreTold told (disks_apart t.side p.side) → IsDown told g v given n no_doubt (Created t p s)

  -- a node that may be restarted meets its rings
  abbrev pub MeetingStaysDown : Type 0
  MeetingStaysDown =
      (g : Game) (v : ℕ) (given : List Packet) (n : Node) (doubt : Doubt) (t t2 : TurnWorker D) (p p2 : PatchWorker D) (s s2 : SendWorker) → IsDown told g v given n doubt (Created t p s)
      → IsSameSender s s2 → AreJoined t2 p2 s2 → HaveMet told size t t2 p p2 s s2 → IsDown told g v given n doubt (Created t2 p2 s2)

  -- a node that wasn't created, on disks that were at rest and had no log
  module _ (count : D → ℕ) (fate : D → Option Fate) where
    abbrev pub CreationGoesDown : Type 0
    CreationGoesDown =
        (g : Game) (v : ℕ) (given : List Packet) (fault : NodeFault) (old : Disks D) (stage : Stage D) → (creation : IsCreation {T = Unit {0}} told size count fate g v (Err fault) old stage)
        → AreAtRest told old → AreUnformatted told old → AreTold told old → AreTold told creation.disks → IsDown told g v given (first_node g) no_doubt stage

-- a seal is in doubt: the record landed, or it didn't
abbrev pub SealGoesDown : {D O N : Type 0} → (D → Option Story) → (D → ℕ) → (D → ℕ) → (D → Option Fate) → (O → Option (List ℕ)) → (O → Option (List ℕ)) → (N → N → List (List ℕ) → Type 0) → (N → N → List Put → Type 0) → Type 0
SealGoesDown {D} {O} {N} told size count fate clocks words given_between put_between =
    (g : Game) (v : ℕ) (n : Node) (t t2 : TurnWorker D) (p : PatchWorker D) (s : SendWorker) (oracle oracle2 : O) (net net2 : N) → IsWithinLimits g → v < g.nodes
    → (doubts : DoubtsSeal told size count fate (Drew clocks words g.handler oracle oracle2) g v n (given_between net net2) (put_between net net2) t t2 p s) → AreTold told (disks_apart t2.side p.side)
    → IsDown told g v (packets_from g.nodes doubts.before.given) doubts.before.after (seal doubts.message.from doubts.doubt.effects.draws (coming_pages doubts.doubt.begun)) (Created t2 p s)

-- a turnover is in doubt: the new log landed, or it didn't
abbrev pub TurnoverGoesDown : {D O N : Type 0} → (D → Option Story) → (D → ℕ) → (D → ℕ) → (D → Option Fate) → (O → Option (List ℕ)) → (O → Option (List ℕ)) → (N → N → List (List ℕ) → Type 0) → (N → N → List Put → Type 0) → Type 0
TurnoverGoesDown {D} {O} {N} told size count fate clocks words given_between put_between =
    (g : Game) (v : ℕ) (given : List Packet) (n : Node) (mid t2 : TurnWorker D) (p : PatchWorker D) (s : SendWorker) (oracle oracle2 : O) (net net2 : N) → IsWithinLimits g → v < g.nodes
    → DoubtsTurnover told size g v n (given_between net net2) (put_between net net2) mid p s → IsTurnoverInDoubt told size count fate g.handler (Drew clocks words g.handler oracle oracle2) mid t2 (given_between net net2) (put_between net net2)
    → AreTold told (disks_apart t2.side p.side) → IsDown told g v given n (turnover (told_of g mid)) (Created t2 p s)

-- so a call of the handler whose disk failed leaves a node that may be restarted: a turnover is in doubt, or a seal
pub record TurnoverIsDown {D : Type 0} (told : D → Option Story) (size : D → ℕ) (g : Game) (v : ℕ) (n : Node) (gave : List (List ℕ) → Type 0) (put : List Put → Type 0) (mid t2 : TurnWorker D) (p : PatchWorker D) (s : SendWorker) : Type 0 where
  pub doubts : DoubtsTurnover told size g v n gave put mid p s
  pub down : (given : List Packet) → IsDown told g v given n (turnover (told_of g mid)) (Created t2 p s)

pub record SealIsDown {D : Type 0} (told : D → Option Story) (size count : D → ℕ) (fate : D → Option Fate) (drew : List ℕ → Type 0) (g : Game) (v : ℕ) (n : Node) (gave : List (List ℕ) → Type 0) (put : List Put → Type 0) (t t2 : TurnWorker D) (p : PatchWorker D) (s : SendWorker) : Type 0 where
  pub doubts : DoubtsSeal told size count fate drew g v n gave put t t2 p s
  pub down : IsDown told g v (packets_from g.nodes doubts.before.given) doubts.before.after (seal doubts.message.from doubts.doubt.effects.draws (coming_pages doubts.doubt.begun)) (Created t2 p s)

abbrev pub TurnGoesDown : {D O N : Type 0} → (D → Option Story) → (D → ℕ) → (D → ℕ) → (D → Option Fate) → (O → Option (List ℕ)) → (O → Option (List ℕ)) → (N → N → List (List ℕ) → Type 0) → (N → N → List Put → Type 0) → Type 0
TurnGoesDown {D} {O} {N} told size count fate clocks words given_between put_between =
    (g : Game) (v : ℕ) (n : Node) (t mid t2 : TurnWorker D) (p : PatchWorker D) (s : SendWorker) (oracle oracle2 : O) (net net2 : N) (nones nones2 : ℕ) → IsWithinLimits g → v < g.nodes → IsWhole told size g v n t p s
    → IsSameWorker t t2 → HearsNews t mid → TakesTurn told size count fate g.handler (Drew clocks words g.handler oracle oracle2) (Err Disk) mid t2 (given_between net net2) (put_between net net2) nones nones2 → AreFronts t2 p s
    → AreTold told (disks_apart t2.side p.side)
    → TurnoverIsDown told size g v n (given_between net net2) (put_between net net2) mid t2 p s
    ⊎ SealIsDown told size count fate (Drew clocks words g.handler oracle oracle2) g v n (given_between net net2) (put_between net net2) t t2 p s
