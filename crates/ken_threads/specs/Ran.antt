-- What workers made in a round.
use Rattle.std.specs.Prelude.{◌≡◌, ℕ, ◌<◌, List, length, Option, Some, None}
use Rattle.ken_ship.specs.declared.faults.NodeFault.{NodeFault}
use Rattle.ken_weave.specs.Workers.{Steps}
use Rattle.ken_threads.specs.declared.works.Seat.{Seat}

-- how steps ended, so many of them: with the sixteenth, or with one more that failed
abbrev pub EndsBy : {W : Type 0} → (NodeFault → W → W → Type 0) → ℕ → W → W → Option NodeFault → Type 0
EndsBy fails count mid new None = (count ≡ 16) × (new ≡ mid)
EndsBy fails count mid new (Some fault) = (count < 16) × fails fault mid new

module _ {W : Type 0} (steps : W → W → Type 0) (fails : NodeFault → W → W → Type 0) where
  -- sixteen steps; or fewer, and one that failed with this fault
  pub record Ran (old new : W) (fault : Option NodeFault) : Type 0 where
    pub states : List W
    pub mid : W
    pub made : Steps steps old states mid
    pub ends : EndsBy fails (length states) mid new fault

  -- so of a worker at its seat
  pub record HasRan (old new : Seat W) : Type 0 where
    pub node : new.node ≡ old.node
    pub ran : Ran old.worker new.worker new.fault
