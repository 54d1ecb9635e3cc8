-- How often the disks of a node's logs were synced with Ok, or failed: its creation takes three of these together, and each turn two.
use Rattle.std.specs.Prelude.{◌≡◌, ℕ, ◌+◌, ◌*◌, ◌≤◌, List, length, Option, Ok}
use Rattle.ken_disk.specs.Steps.{after_syncing}
use Rattle.ken_disk.specs.Story.{Story, Follows, IsImage, Tells}
use Rattle.ken_model.specs.Game.{Game}
use Rattle.ken_core.specs.Nodes.{Node}
use Rattle.ken_store.specs.declared.disks.Disks.{Disks}
use Rattle.ken_store.specs.declared.numbers.Numbers.{Numbers}
use Rattle.ken_store.specs.Recovered.{numbers_of}
use Rattle.ken_store.specs.Work.{HaveWorked}
use Rattle.ken_node.specs.declared.stage.Stage.{Stage}
use Rattle.ken_whole.specs.New.{owner_of}
use Rattle.ken_node.specs.Down.{Finds, MountedLog}
use Rattle.ken_node.specs.Stages.{HasDisks}
use Rattle.ken_node.specs.Up.{IsUp}

module _ {D : Type 0} (told : D → Option Story) (count : D → ℕ) where
  -- the two disks of a node's logs have together at least as many as its creation and so many turns take
  abbrev pub HasSynced : ℕ → Disks D → Type 0
  HasSynced turns disks = HaveWorked told count (3 + 2 * turns) disks.log disks.second

  -- whatever a crash leaves of the disks of node v: where a log is found, they have as many as the turns that it tells take. So
  -- nothing is claimed while no log is there; and a turn that is in doubt counts where it landed
  abbrev pub LeavesSynced : Game → ℕ → Disks D → Type 0
  LeavesSynced g v disks =
      Tells (told disks.log) (λ l. Tells (told disks.second) (λ s. (log second : List ℕ) → IsImage l.now log → IsImage s.now second → (k : MountedLog) → Finds (owner_of g v) log second k
      → (n : Numbers) → numbers_of (owner_of g v) k.head k.base k.records ≡ Ok n → HasSynced n.turns disks))

  -- so it is of the disks of a stage
  abbrev pub IsSynced : Game → ℕ → Stage D → Type 0
  IsSynced g v stage = (disks : Disks D) → HasDisks disks stage → LeavesSynced g v disks

-- a disk has as many Ok syncs as before, or more
abbrev pub KeepsSyncs : Option Story → Option Story → Type 0
KeepsSyncs old new = Follows (λ (a b : Story). a.now.syncs ≤ b.now.syncs) old new

-- and as many past states, or more
abbrev pub KeepsStory : Option Story → Option Story → Type 0
KeepsStory old new = Follows (λ (a b : Story). (a.now.syncs ≤ b.now.syncs) × (length a.past ≤ length b.past)) old new

-- it made a sync that answered Ok, and no other call changed it
abbrev pub HasMadeSync : Option Story → Option Story → Type 0
HasMadeSync old new = Follows (λ (a b : Story). b ≡ after_syncing a) old new

-- so each disk of a node's logs
pub record KeepSyncs {D : Type 0} (told : D → Option Story) (old new : Disks D) : Type 0 where
  pub log : KeepsSyncs (told old.log) (told new.log)
  pub second : KeepsSyncs (told old.second) (told new.second)

-- a node that is up has synced all its sealed turns
abbrev pub UpHasSynced : {D : Type 0} → (D → Option Story) → (D → ℕ) → (D → ℕ) → Type 0
UpHasSynced {D} told size count =
    (g : Game) (v : ℕ) (n : Node) (stage : Stage D) (disks : Disks D) → IsUp told size g v n stage → IsSynced told count g v stage → HasDisks disks stage → HasSynced told count (length n.turning.turns) disks
