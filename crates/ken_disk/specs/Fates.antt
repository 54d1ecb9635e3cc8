-- A disk that fails only at its falls.
use Rattle.std.specs.Prelude.{◌≡◌, ℕ, ◌+◌, ◌≤◌, List, [], ◌∷◌, Bool, true, false, Result, Ok, Err}
use Rattle.ken_disk.specs.declared.faults.DiskFault.{DiskFault}
use Rattle.ken_disk.specs.declared.faults.DiskFault.TheVariants.{Failed, Memory}

-- whose disk it is: its node, which of the node's disks it is, and the calls that it was told to fail, each with the pick that it
-- then proposes for its restart
pub record Origin : Type 0 where
  pub node : ℕ
  pub which : ℕ
  pub cuts : List (ℕ × ℕ)

-- what is ahead of a disk, where it is from, and how it was restarted
pub record Fate : Type 0 where
  -- it fell, and was not restarted since
  pub down : Bool
  -- how many falls it has left
  pub falls : ℕ
  -- no call changes this
  pub origin : Origin
  -- the picks of its restarts that answered Ok, newest first
  pub picks : List ℕ

-- a disk that is up falls, and one that is down has fallen already
abbrev pub fall_of : Bool → ℕ
fall_of true = 0
fall_of false = 1

-- the fate before and after a call, by its answer: Ok comes only of a disk that is up; a failure leaves the disk down, and
-- takes a fall where it was up. Falls may be lost without a failure, as when one call takes two of them. Nothing else changes
abbrev pub Suffers : {T : Type 0} → Result T DiskFault → Fate → Fate → Type 0
Suffers (Ok _) old new = (old.down ≡ false) × (new ≡ old)
Suffers (Err Failed) old new = (new ≡ record old { down = true; falls = new.falls }) × (new.falls + fall_of old.down ≤ old.falls)
Suffers (Err Memory) old new = new ≡ old

-- before and after a restart with this pick
abbrev pub Raised : ℕ → Fate → Fate → Type 0
Raised pick old new = new ≡ record old { down = false; picks = pick ∷ old.picks }

-- a read, a write or a sync with its answer, or a restart that answered Ok, with its pick
pub data Event : Type 0 where
  Called : Result (Unit {0}) DiskFault → Event
  Restarted : ℕ → Event

abbrev pub Befalls : Event → Fate → Fate → Type 0
Befalls (Called result) old new = Suffers result old new
Befalls (Restarted pick) old new = Raised pick old new

-- a run of them, each with the fate after it
abbrev pub IsRun : Fate → List (Event × Fate) → Type 0
IsRun fate [] = Unit {0}
IsRun fate (step ∷ steps) = Befalls step.0 fate step.1 × IsRun step.1 steps

-- a call failed on a disk that was up
abbrev pub fallen : Event → Bool → ℕ
fallen (Called (Err Failed)) down = fall_of down
fallen (Called (Err Memory)) down = 0
fallen (Called (Ok _)) down = 0
fallen (Restarted pick) down = 0

-- how often that was so in a run
abbrev pub all_fallen : Fate → List (Event × Fate) → ℕ
all_fallen fate [] = 0
all_fallen fate (step ∷ steps) = fallen step.0 fate.down + all_fallen step.1 steps
