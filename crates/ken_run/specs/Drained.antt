-- The passes of a drain: each visits all nodes, and the run has ended after the last one and after none before it.
use Rattle.std.specs.Prelude.{◌≡◌, ℕ, List, Bool, true, false, Option, Result, Ok, Err}
use Rattle.ken_disk.specs.Story.{Story}
use Rattle.ken_model.specs.declared.messages.Out.{Out}
use Rattle.ken_model.specs.Game.{Game}
use Rattle.ken_model.specs.Handler.{Handler}
use Rattle.ken_node.specs.declared.watched.Watched.{Watched}
use Rattle.ken_flow.specs.Standstill.{HasEnded}
use Rattle.ken_run.specs.declared.drain.PassOutcome.{PassOutcome}
use Rattle.ken_run.specs.declared.drain.PassOutcome.TheVariants.{Ended, Progressed, Idle}
use Rattle.ken_run.specs.declared.faults.RunFault.{RunFault}
use Rattle.ken_run.specs.declared.run.Run.{Run}
use Rattle.ken_run.specs.Patched.{AllVisited}
use Rattle.ken_run.specs.Running.{IsRunning}

module _ {D O U A : Type 0} (told : Watched D → Option Story) (size : Watched D → ℕ) (took : U → Option (List Out)) (handles : A → Handler) where
  -- the run of no game has ended
  abbrev pub HasNotEnded : Run D O U A → Type 0
  HasNotEnded r = (g : Game) (made : ℕ) (is : IsRunning told size took handles g made r) → made ≡ g.nodes → HasEnded g is.emissions is.nodes → ⊥

  -- passes, none or several, after none of which the run has ended
  pub data PassesOn (old : Run D O U A) : Run D O U A → Type 0 where
    none : PassesOn old old
    then : {mid new : Run D O U A} → PassesOn old mid → AllVisited told mid new → HasNotEnded new → PassesOn old new

  -- and one more, the last
  pub record HasDrained (old new : Run D O U A) : Type 0 where
    pub mid : Run D O U A
    pub before : PassesOn old mid
    pub last : AllVisited told mid new

  -- by the answer of passes: after the last the run has ended, or it goes on
  abbrev pub PassesTo : Result PassOutcome RunFault → Run D O U A → Run D O U A → Type 0
  PassesTo (Ok Ended) old new = HasDrained old new
  PassesTo (Ok Progressed) old new = PassesOn old new
  PassesTo (Ok Idle) old new = PassesOn old new
  PassesTo (Err fault) old new = Unit {0}

  -- by whether the run has ended
  abbrev pub DrainsTo : Result Bool RunFault → Run D O U A → Run D O U A → Type 0
  DrainsTo (Ok true) old new = HasDrained old new
  DrainsTo (Ok false) old new = PassesOn old new
  DrainsTo (Err fault) old new = Unit {0}
