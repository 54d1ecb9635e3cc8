-- The restart of a node.
use Rattle.std.specs.Prelude.{◌≡◌, ℕ, ◌⊎◌, if◌then◌else◌, List, [], length, Option, Result, Ok, Err, false}
use Rattle.ken_disk.specs.Fates.{Fate, Raised}
use Rattle.ken_disk.specs.Steps.{WentDown}
use Rattle.ken_disk.specs.Story.{Story, Follows}
use Rattle.ken_model.specs.Game.{Game}
use Rattle.ken_model.specs.declared.states.State.{State}
use Rattle.ken_model.specs.Network.{inputs_for}
use Rattle.ken_record.specs.declared.effects.Effects.{Effects}
use Rattle.ken_record.specs.declared.record.Record.{Record}
use Rattle.ken_core.specs.declared.events.Event.{Event}
use Rattle.ken_core.specs.Calls.{Call, Doubt, IsRestart}
use Rattle.ken_core.specs.Nodes.{Node, first_node}
use Rattle.ken_core.specs.Packets.{Packet, nothing}
use Rattle.ken_outbox.specs.Waiting.{resumed}
use Rattle.ken_store.specs.declared.disks.Disks.{Disks}
use Rattle.ken_store.specs.declared.owner.Owner.{Owner}
use Rattle.ken_store.specs.declared.store.Store.{Store}
use Rattle.ken_store.specs.Answers.{AreUnformatted}
use Rattle.ken_store.specs.Apart.{disks_apart}
use Rattle.ken_store.specs.Creations.{HasFailed, IsUnfailed}
use Rattle.ken_ship.specs.declared.faults.NodeFault.{NodeFault}
use Rattle.ken_ship.specs.declared.faults.NodeFault.TheVariants.{Disk, Damaged, Outlet, Memory}
use Rattle.ken_ship.specs.declared.worker.SendWorker.{SendWorker}
use Rattle.ken_ship.specs.Parts.{part_of}
use Rattle.ken_work.specs.declared.patcher.PatchWorker.{PatchWorker}
use Rattle.ken_node.specs.declared.stage.Stage.{Stage}
use Rattle.ken_node.specs.declared.stage.Stage.TheVariants.{Created}
use Rattle.ken_node.specs.declared.watched.Watched.{Watched}
use Rattle.ken_work.specs.declared.worker.TurnWorker.{TurnWorker}
use Rattle.ken_work.specs.Parts.{nothing_told, kept_turns}
use Rattle.ken_node.specs.Created.{CallsDisks}
use Rattle.ken_node.specs.Down.{AreTold}
use Rattle.ken_work.specs.Meeting.{AreEmpty, AreJoined}
use Rattle.ken_whole.specs.Whole.{IsWhole}

-- the events of a restart of node v, which stood for n: what was in doubt, the crash and the recovery. Where there was no log the node
-- is created anew, which is no event
abbrev pub AreOfRestart : Game → ℕ → Node → Doubt → List Event → Type 0
AreOfRestart g v n doubt es = IsRestart v doubt es ⊎ ((n ≡ first_node g) × (es ≡ []))

-- workers of node v that go on over a store that was recovered, with nothing on its way in the rings
pub record GoOnFrom {D : Type 0} (g : Game) (v : ℕ) (turns : List Effects) (store : Store D) (state : State) (records : List Record) (t : TurnWorker D) (p : PatchWorker D) (s : SendWorker) : Type 0 where
  pub node : t.node ≡ v
  pub nodes : t.nodes ≡ g.nodes
  pub cap : t.cap ≡ g.turns
  pub inputs : t.inputs.items ≡ inputs_for g v
  pub side : t.side ≡ store.turns
  pub order : t.order ≡ record { nodes = g.nodes; stamp = state.stamp; consumed = state.consumed }
  pub kept : t.turns.items ≡ kept_turns turns state.turns records
  pub told_is : t.told ≡ nothing_told
  pub patches : p.side ≡ store.patches
  pub sender : s.backlog.node ≡ v
  pub receivers : s.nodes ≡ g.nodes
  pub due : (part_of s).due ≡ resumed 8 state
  pub handed : (part_of s).handed ≡ state.turns
  pub joined : AreJoined t p s
  pub empty : AreEmpty t p s

-- the node is up again: its events lead to a node with this many turns, for which its workers stand, and nothing is on its way in the
-- rings
pub record IsUpAgain {D : Type 0} (told : D → Option Story) (size : D → ℕ) (g : Game) (v : ℕ) (given : List Packet) (n : Node) (doubt : Doubt) (turns : ℕ) (stage : Stage D) : Type 0 where
  pub after : Node
  pub call : Call g v given (AreOfRestart g v n doubt) n nothing after
  pub count : turns ≡ length after.turning.turns
  pub handler : TurnWorker D
  pub patcher : PatchWorker D
  pub sender : SendWorker
  pub stage_is : stage ≡ Created handler patcher sender
  pub whole : IsWhole told size g v after handler patcher sender
  pub empty : AreEmpty handler patcher sender
  pub unspent : patcher.side.image.spent ≡ false
  pub tell : AreTold told (disks_apart handler.side patcher.side)

-- the pick for a restart: the one that the lowest disk proposes which has failed since that disk's last restart that
-- answered Ok, or 0
abbrev pub pick_of : {D : Type 0} → (Watched D → ℕ) → Disks (Watched D) → ℕ
pick_of hinted disks = if disks.log.failed then hinted disks.log
    else (if disks.image.failed then hinted disks.image else (if disks.second.failed then hinted disks.second else 0))

module _ {D : Type 0} (told : D → Option Story) (count : D → ℕ) (fate : D → Option Fate) where
  -- a disk was restarted with this pick
  pub record WasRestarted (pick : ℕ) (old new : D) : Type 0 where
    pub story : Follows WentDown (told old) (told new)
    pub falls : Follows (Raised pick) (fate old) (fate new)
    pub faults : count new ≡ count old

  -- all disks of a node were, with one pick
  pub record WereRestarted (pick : ℕ) (old new : Disks D) : Type 0 where
    pub log : WasRestarted pick old.log new.log
    pub image : WasRestarted pick old.image new.image
    pub second : WasRestarted pick old.second new.second

  -- no call of them failed since, or one of one disk did
  pub record AreUnfailed (old new : Disks D) : Type 0 where
    pub log : IsUnfailed count fate old.log new.log
    pub image : IsUnfailed count fate old.image new.image
    pub second : IsUnfailed count fate old.second new.second

  abbrev pub OneHasFailed : Disks D → Disks D → Type 0
  OneHasFailed old new =
      (HasFailed count fate old.log new.log × IsUnfailed count fate old.image new.image × IsUnfailed count fate old.second new.second)
      ⊎ ((IsUnfailed count fate old.log new.log × HasFailed count fate old.image new.image × IsUnfailed count fate old.second new.second)
      ⊎ (IsUnfailed count fate old.log new.log × IsUnfailed count fate old.image new.image × HasFailed count fate old.second new.second))

  -- they tell what they told: nothing was written, and no sync was made
  pub record TellTheSame (old new : Disks D) : Type 0 where
    pub log : told new.log ≡ told old.log
    pub image : told new.image ≡ told old.image
    pub second : told new.second ≡ told old.second

  -- no log was on them, and a store was created: the log and the image saw its calls, and the second log saw none
  pub record WereFormatted (o : Owner) (old new : Disks D) : Type 0 where
    pub none : AreUnformatted told old
    pub calls : CallsDisks {T = Unit {0}} told count o (Ok tt) old new
    pub second : told new.second ≡ told old.second

  -- a node goes on with them, and none failed: it was recovered, and only read them, or it was created anew
  pub record GoOn (o : Owner) (old new : Disks D) : Type 0 where
    pub unfailed : AreUnfailed old new
    pub stories : TellTheSame old new ⊎ WereFormatted o old new

  -- what became of them in a restart with this pick, by the answer: where memory ran out, only that no fault was counted
  abbrev pub RestartsBy : {T : Type 0} → Owner → ℕ → Result T NodeFault → Disks D → Disks D → Type 0
  RestartsBy o pick (Ok x) old new = (mid : Disks D) × (WereRestarted pick old mid × GoOn o mid new)
  RestartsBy o pick (Err Disk) old new = (mid : Disks D) × (WereRestarted pick old mid × OneHasFailed mid new)
  RestartsBy o pick (Err (Damaged n place)) old new = (mid : Disks D) × (WereRestarted pick old mid × AreUnfailed mid new)
  RestartsBy o pick (Err Memory) old new = (count new.log ≡ count old.log) × (count new.image ≡ count old.image) × (count new.second ≡ count old.second)
  RestartsBy o pick (Err Outlet) old new = ⊥
