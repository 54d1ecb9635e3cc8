-- A node that is down: what a crash leaves of its disks, and what a restart goes on with.
use Rattle.std.specs.Prelude.{◌≡◌, ◌⊎◌, ℕ, ◌<◌, ◌≤◌, List, [], ◌∷◌, ◌++◌, length, map, replicate, take, Bool, true, false, Option, Some, Ok, IsSome, IsTrue, vec_capacity, vec_len}
use Rattle.std.specs.List.{Contains}
use Rattle.ken_disk.specs.Story.{Story, IsImage}
use Rattle.ken_model.specs.declared.values.Value.{Value}
use Rattle.ken_model.specs.Game.{Game}
use Rattle.ken_model.specs.Limits.{IsWithinLimits}
use Rattle.ken_model.specs.Network.{Turn, inputs_for}
use Rattle.ken_model.specs.Reading.{read_value}
use Rattle.ken_record.specs.declared.base.Base.{Base}
use Rattle.ken_record.specs.declared.header.Header.{Header}
use Rattle.ken_record.specs.declared.page.Page.{Page}
use Rattle.ken_record.specs.declared.record.Record.{Record}
use Rattle.ken_log.specs.Mounts.{mount_of}
use Rattle.ken_log.specs.Mounts as mounts
use Rattle.ken_cover.specs.Covers.{Covers, IsPossible}
use Rattle.ken_cover.specs.Sides.{recounted}
use Rattle.ken_core.specs.declared.events.Told.{Told}
use Rattle.ken_core.specs.Calls.{Doubt, no_doubt, seal, turnover}
use Rattle.ken_core.specs.Enabled.{MaySeal, MayTurn}
use Rattle.ken_core.specs.Nodes.{Node, first_node, heap_pages}
use Rattle.ken_core.specs.Packets.{Packet}
use Rattle.ken_core.specs.Steps.{recovered_node, sealed_node, turned_node}
use Rattle.ken_core.specs.Turns.{sealed}
use Rattle.ken_links.specs.Rings.{IsRing}
use Rattle.ken_store.specs.declared.disks.Disks.{Disks}
use Rattle.ken_store.specs.declared.disks.Which.{Which}
use Rattle.ken_store.specs.declared.numbers.Numbers.{Numbers}
use Rattle.ken_store.specs.declared.owner.Owner.{Owner}
use Rattle.ken_store.specs.Answers.{TellsAll}
use Rattle.ken_store.specs.Kept.{base_pages}
use Rattle.ken_store.specs.Logs.{is_owned, log_on, other_log, front_of}
use Rattle.ken_store.specs.Recovered.{numbers_of, state_of}
use Rattle.ken_store.specs.Turning.{live_layers, IsPassed}
use Rattle.ken_ship.specs.Laws.{HasSent, IsStateOf}
use Rattle.ken_work.specs.declared.parts.Parts.{Parts}
use Rattle.ken_node.specs.declared.stage.Stage.{Stage}
use Rattle.ken_node.specs.declared.stage.Stage.TheVariants.{Uncreated, Created, Moved}
use Rattle.ken_whole.specs.New.{owner_of}
use Rattle.ken_work.specs.First.{AreFirst}
use Rattle.ken_work.specs.Meeting.{AreJoined, IsEmptied}
use Rattle.ken_work.specs.News.{AreInputs}
use Rattle.ken_whole.specs.Paced.{IsPaced}
use Rattle.ken_node.specs.Stages.{HasDisks, turns_in}
use Rattle.ken_whole.specs.Whole.{AreNumbersOf, AreOfRun}
use Rattle.ken_app.specs.Limits.{ComesTo}
use Rattle.ken_work.specs.Parts.{effects_in}

-- ---- what the logs of a node hold

-- a log that mounts: its header, its base, and its records
pub record MountedLog : Type 0 where
  pub head : Header
  pub base : Option Base
  pub records : List Record

-- of the bytes of a node's two logs this one is current: a recovery passes over what the other begins with, whatever lies behind it
pub record Finds (o : Owner) (log second : List ℕ) (k : MountedLog) : Type 0 where
  pub which : Which
  pub mounts : mount_of (log_on which log second) ≡ mounts.Whole k.head k.base k.records
  pub owned : is_owned o k.head ≡ true
  pub other : IsPassed o k.head (front_of (log_on (other_log which) log second))

-- the log tells node v: how far it has come, its live records, and all that it sent and output but for what is retired. It holds few
-- records, and as many turns were made as the logs before it take
pub record TellsNode (g : Game) (v : ℕ) (n : Node) (k : MountedLog) : Type 0 where
  pub numbers : Numbers
  pub numbers_are : numbers_of (owner_of g v) k.head k.base k.records ≡ Ok numbers
  pub counted : AreNumbersOf v n.turning.turns numbers
  pub live : map recounted n.turning.pages.live ≡ live_layers k.head k.base (replicate (length (base_pages k.base)) k.head.turns) k.records
  pub state : IsStateOf g v (recovered_node n) (state_of v numbers k.base k.records)
  pub sent : HasSent g v (recovered_node n)
  pub width : length n.turning.retired ≡ g.nodes
  pub paced : IsPaced k.head k.records

-- node v, which is up, made its turns one after another, and its heap is covered and stands for a value that its handler comes to
pub record IsSound (g : Game) (v : ℕ) (n : Node) : Type 0 where
  pub up : IsTrue n.turning.up
  pub own : List Turn
  pub turns : n.turning.turns ≡ sealed v own
  pub covers : Covers (heap_pages g) true n.turning.pages n.patching
  pub value : Value
  pub reads : read_value n.turning.pages.heap ≡ Some value
  pub comes : ComesTo g.handler v g.nodes g.size value

-- ---- what a crash leaves of them

-- what was in doubt landed, or it didn't: what node n is then, but that it went down
abbrev pub sealed_if : Bool → ℕ → Turn → List Page → Node → Node
sealed_if true v t pages n = sealed_node v t pages n
sealed_if false v t pages n = n

abbrev pub turned_if : Bool → ℕ → Told → Node → Node
turned_if true pages told n = turned_node pages told n
turned_if false pages told n = n

abbrev pub ComesOut : Game → ℕ → List Packet → Node → Doubt → Bool → Node → Type 0
ComesOut g v given n no_doubt landed m = m ≡ n
ComesOut g v given n (seal from draws pages) landed m = (t : Turn) × (MaySeal g (Contains given) v n from draws pages t × (m ≡ sealed_if landed v t pages n))
ComesOut g v given n (turnover told) landed m = MayTurn g n told × (m ≡ turned_if landed (heap_pages g) told n)

-- a turn that landed is the log's last record
abbrev pub HasLanded : Doubt → Bool → Node → Node → List Record → Type 0
HasLanded (seal from draws pages) true n m records = (before : List Record) × ((last : Record) × ((records ≡ before ++ last ∷ []) × (m.turning.turns ≡ n.turning.turns ++ effects_in last ∷ [])))
HasLanded doubt landed n m records = Unit {0}

-- the bytes of the disks of node v, which stood for n when it went down: there is no log, and the node was being created; or a log
-- that tells what came of the doubt, over an image that is possible of it
pub data Left (g : Game) (v : ℕ) (given : List Packet) (n : Node) (doubt : Doubt) (log image second : List ℕ) : Type 0 where
  nothing : n ≡ first_node g → doubt ≡ no_doubt → mount_of log ≡ mounts.Unformatted → mount_of second ≡ mounts.Unformatted → Left g v given n doubt log image second
  a_log : (landed : Bool) → (m : Node) → (k : MountedLog) → ComesOut g v given n doubt landed m → HasLanded doubt landed n m k.records → IsSound g v m → TellsNode g v m k → Finds (owner_of g v) log second k → IsPossible m.patching (take g.size image) → Left g v given n doubt log image second

-- each image that a crash leaves of all disks together is so
abbrev pub LeavesNode : {D : Type 0} → (D → Option Story) → Game → ℕ → List Packet → Node → Doubt → Disks D → Type 0
LeavesNode told g v given n doubt disks =
    TellsAll told disks (λ l i s. (log image second : List ℕ) → IsImage l.now log → IsImage i.now image → IsImage s.now second → Left g v given n doubt log image second)

-- the disks tell what they hold
abbrev pub AreTold : {D : Type 0} → (D → Option Story) → Disks D → Type 0
AreTold told disks = IsSome (told disks.log) × IsSome (told disks.image) × IsSome (told disks.second)

-- ---- what a restart goes on with

-- what the workers of node v are made of, but for its store, with nothing on its way in the rings
pub record AreReady (g : Game) (v : ℕ) (x : Parts) : Type 0 where
  pub node : x.node ≡ v
  pub nodes : x.nodes ≡ g.nodes
  pub size : x.size ≡ heap_pages g
  pub cap : x.cap ≡ g.turns
  pub inputs : x.inputs.items ≡ inputs_for g v
  pub given : AreInputs x.node x.inputs.items
  pub room : (64 ≤ vec_capacity x.news) × (vec_len x.news ≡ 0)
  pub pages : IsRing x.pages.0 x.pages.1 × IsEmptied x.pages.0 x.pages.1
  pub settled : IsRing x.settled.0 x.settled.1 × IsEmptied x.settled.0 x.settled.1
  pub sealed : IsRing x.sealed x.sends.sealed × IsEmptied x.sealed x.sends.sealed
  pub progress : IsRing x.sends.told x.progress × IsEmptied x.sends.told x.progress
  pub sender : x.sends.backlog.node ≡ v
  pub receivers : x.sends.nodes ≡ g.nodes

-- a stage is one of node v of a run
abbrev pub IsOfNode : {D : Type 0} → Game → ℕ → Stage D → Type 0
IsOfNode g v (Uncreated disks parts) = AreReady g v parts
IsOfNode g v (Created t p s) = AreOfRun g v t s × AreJoined t p s
IsOfNode g v Moved = ⊥

-- it was never created: its parts are those of a new node
abbrev pub IsFirst : {D : Type 0} → Game → ℕ → Stage D → Type 0
IsFirst g v (Uncreated disks parts) = AreFirst g v parts
IsFirst g v (Created t p s) = ⊥
IsFirst g v Moved = ⊥

-- whatever a crash leaves of the disks, one of the logs is there
abbrev pub LeavesLog : {D : Type 0} → (D → Option Story) → Disks D → Type 0
LeavesLog told disks =
    TellsAll told disks (λ l i s. (log second : List ℕ) → IsImage l.now log → IsImage s.now second → mount_of log ≡ mounts.Unformatted → mount_of second ≡ mounts.Unformatted → ⊥)

-- node v may be restarted: it stood for n when it went down, with this in doubt, and keeps the turns that were sealed for certain
pub record IsDown {D : Type 0} (told : D → Option Story) (g : Game) (v : ℕ) (given : List Packet) (n : Node) (doubt : Doubt) (stage : Stage D) : Type 0 where
  pub limits : IsWithinLimits g
  pub known : v < g.nodes
  pub of_node : IsOfNode g v stage
  pub turns : turns_in stage ≡ n.turning.turns
  pub disks : Disks D
  pub has : HasDisks disks stage
  pub tell : AreTold told disks
  pub leaves : LeavesNode told g v given n doubt disks
  pub either : IsFirst g v stage ⊎ LeavesLog told disks

-- so it is of some node of a run
pub record MayRestart {D : Type 0} (told : D → Option Story) (stage : Stage D) : Type 0 where
  pub game : Game
  pub node : ℕ
  pub given : List Packet
  pub stood_for : Node
  pub doubt : Doubt
  pub down : IsDown told game node given stood_for doubt stage
