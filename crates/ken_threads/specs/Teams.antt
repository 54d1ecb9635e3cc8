-- What the workers of nodes made in a round.
use Rattle.std.specs.Prelude.{◌≡◌, ℕ, ◌<◌, List, length, slice_index_or, Result, Ok, Err}
use Rattle.ken_ship.specs.declared.faults.NodeFault.{NodeFault}
use Rattle.ken_threads.specs.declared.team.Team.{Team}
use Rattle.ken_threads.specs.declared.works.Seat.{Seat}
use Rattle.ken_threads.specs.Ran.{HasRan}

-- each of a node's workers may make sixteen steps
pub record MayTeamRun {T P S : Type 0} (t_may : ℕ → T → Type 0) (p_may : ℕ → P → Type 0) (s_may : ℕ → S → Type 0) (team : Team T P S) : Type 0 where
  pub handler : t_may 16 team.handler.worker
  pub patcher : p_may 16 team.patcher.worker
  pub externaliser : s_may 16 team.externaliser.worker

module _ {T P S : Type 0} (t_steps : T → T → Type 0) (t_fails : NodeFault → T → T → Type 0) (p_steps : P → P → Type 0) (p_fails : NodeFault → P → P → Type 0)
    (s_steps : S → S → Type 0) (s_fails : NodeFault → S → S → Type 0) where
  -- each made its steps
  pub record TeamHasRun (old new : Team T P S) : Type 0 where
    pub handler : HasRan t_steps t_fails old.handler new.handler
    pub patcher : HasRan p_steps p_fails old.patcher new.patcher
    pub externaliser : HasRan s_steps s_fails old.externaliser new.externaliser

  -- and so of each node's
  pub record HaveTeamsRun (old new : List (Team T P S)) : Type 0 where
    pub count : length new ≡ length old
    pub each : (k : ℕ) (none : Team T P S) → k < length old → TeamHasRun (slice_index_or old k none) (slice_index_or new k none)

-- a seat's worker was given to a thread, which answers for it; or it has run
abbrev pub HasStarted : {H W : Type 0} → (W → W → Type 0) → (NodeFault → W → W → Type 0) → (H → Seat W) → Seat W → Result H (Seat W) → Type 0
HasStarted steps fails given seat (Ok handle) = given handle ≡ seat
HasStarted steps fails given seat (Err ran) = HasRan steps fails seat ran
