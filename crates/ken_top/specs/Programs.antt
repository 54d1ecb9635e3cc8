-- Which scripts a program reads, and what its nodes run.
use Rattle.std.specs.Prelude.{◌≡◌, ℕ, List, Option, Some, None, ⊤}
use Rattle.ken_model.specs.Game.{Game}
use Rattle.ken_model.specs.Handler.{Handler}
use Rattle.ken_model.specs.Kinds.{handler_of}
use Rattle.ken_actors.specs.Decided.{IsDecided}
use Rattle.ken_script.specs.declared.faults.ScriptFault.{ScriptFault}
use Rattle.ken_script.specs.declared.faults.ScriptFault.TheVariants.{Rule, Memory}
use Rattle.ken_script.specs.declared.scripts.Script.{Script}
use Rattle.ken_script.specs.Faults.{Breaks}
use Rattle.ken_script.specs.Says.{Says}
use Rattle.ken_script.specs.Service.{BreaksService, SaysService}
use Rattle.ken_gen.specs.Torments.{tormented}
use Rattle.ken_drive.specs.Starting.{game_by}

-- the program `ken`, whose scripts name a kind; a service of one's own with this handler; or either under the faults of a seed
pub data Program : Type 0 where
  kinds : Program
  service : Handler → Program
  torment : ℕ → Program → Program

-- the script is the one that a text says, with the faults of a seed beside its own
pub record IsTormented (Said : List ℕ → Script → Type 0) (seed : ℕ) (b : List ℕ) (script : Script) : Type 0 where
  pub plain : Script
  pub says : Said b plain
  pub drawn : script ≡ tormented seed plain

-- what a text says to it
abbrev pub SaysTo : Program → List ℕ → Script → Type 0
SaysTo kinds = Says
SaysTo (service h) = SaysService
SaysTo (torment seed program) = IsTormented (SaysTo program) seed

-- which rule a text breaks first, and where
abbrev pub BreaksTo : Program → List ℕ → ℕ → ℕ → Type 0
BreaksTo kinds = Breaks
BreaksTo (service h) = BreaksService
BreaksTo (torment seed program) = BreaksTo program

-- the rule that a fault names is the one that the text breaks, and there
abbrev pub IsFaultTo : Program → List ℕ → ScriptFault → Type 0
IsFaultTo program b (Rule rule index) = BreaksTo program b rule index
IsFaultTo program b Memory = ⊤

-- the handler of the nodes that run a script
abbrev pub handler_in : Program → Script → Handler
handler_in kinds script = handler_of script.facts.kind
handler_in (service h) script = h
handler_in (torment seed program) script = handler_in program script

-- the run that a script is of
abbrev pub game_in : Program → Script → Game
game_in program script = game_by (handler_in program script) script

-- a program under the faults of a seed, where there is one
abbrev pub by_seed : Option ℕ → Program → Program
by_seed None program = program
by_seed (Some seed) program = torment seed program

-- a script with the faults of a seed, where there is one
abbrev pub drawn_by : Option ℕ → Script → Script
drawn_by None script = script
drawn_by (Some seed) script = tormented seed script

-- what it has to hold so that a line which no turn of it spells is told as wrong: its handler's draws are decided. Those of the kinds are
abbrev pub IsSure : Program → Type 0
IsSure kinds = ⊤
IsSure (service h) = IsDecided h
IsSure (torment seed program) = IsSure program
