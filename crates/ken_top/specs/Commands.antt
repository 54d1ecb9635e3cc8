-- What a command reads, and what it leaves alone.
use Rattle.std.specs.Prelude.{ℕ, List, Option, Some, None, ⊤}
use Rattle.ken_script.specs.declared.scripts.TheConstants.{LIMIT}
use Rattle.ken_words.specs.Commands.{command_of}
use Rattle.ken_words.specs.declared.commands.Command.{Command}
use Rattle.ken_words.specs.declared.commands.Command.TheVariants.{Run, Check, Torment, Soak, Save, Dump}
use Rattle.ken_top.specs.declared.checking.TheConstants.{MOST_INPUT}

-- how many bytes of its source a command reads at most, without the one that shows that there are too many
abbrev pub most_read : Option Command → ℕ
most_read (Some (Check size)) = MOST_INPUT
most_read _ = LIMIT

-- a command that reads nothing; words that ask for nothing aren't one
abbrev pub ReadsNothing : Option Command → Type 0
ReadsNothing (Some Run) = ⊥
ReadsNothing (Some (Check size)) = ⊥
ReadsNothing (Some (Torment seed)) = ⊥
ReadsNothing (Some (Soak seed nodes inputs rounds)) = ⊤
ReadsNothing (Some Save) = ⊥
ReadsNothing (Some (Dump node nodes pages)) = ⊤
ReadsNothing None = ⊤

-- one that uses no world
abbrev pub UsesNoWorld : Option Command → Type 0
UsesNoWorld (Some Run) = ⊥
UsesNoWorld (Some (Check size)) = ⊤
UsesNoWorld (Some (Torment seed)) = ⊥
UsesNoWorld (Some (Soak seed nodes inputs rounds)) = ⊥
UsesNoWorld (Some Save) = ⊥
UsesNoWorld (Some (Dump node nodes pages)) = ⊥
UsesNoWorld None = ⊤

-- one that runs a script that it reads, and saves nothing of the run
abbrev pub RunsScript : Option Command → Type 0
RunsScript (Some Run) = ⊤
RunsScript (Some (Check size)) = ⊥
RunsScript (Some (Torment seed)) = ⊤
RunsScript (Some (Soak seed nodes inputs rounds)) = ⊥
RunsScript (Some Save) = ⊥
RunsScript (Some (Dump node nodes pages)) = ⊥
RunsScript None = ⊥

-- what words ask of a service of one's own, which makes no script of itself
abbrev pub for_service : Option Command → Option Command
for_service (Some (Soak seed nodes inputs rounds)) = None
for_service command = command

abbrev pub service_command_of : List (List ℕ) → Option Command
service_command_of words = for_service (command_of words)

-- a command that uses no files
abbrev pub UsesNoFiles : Option Command → Type 0
UsesNoFiles (Some Save) = ⊥
UsesNoFiles (Some (Dump node nodes pages)) = ⊥
UsesNoFiles _ = ⊤

-- one that runs nothing, and so keeps nothing
abbrev pub RunsNothing : Option Command → Type 0
RunsNothing (Some (Check size)) = ⊤
RunsNothing (Some (Dump node nodes pages)) = ⊤
RunsNothing None = ⊤
RunsNothing _ = ⊥
