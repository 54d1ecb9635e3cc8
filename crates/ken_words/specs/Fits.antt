-- What holds of each command that words ask for.
use Rattle.std.specs.Prelude.{ℕ, ◌^◌, ◌<◌, ◌≤◌, ⊤, List, IfSome}
use Rattle.ken_model.specs.declared.facts.TheConstants.{MAX_INPUTS, MAX_NODES, MAX_PAGES}
use Rattle.ken_script.specs.declared.scripts.TheConstants.{LIMIT, MAX_ROUNDS}
use Rattle.ken_words.specs.declared.commands.Command.{Command}
use Rattle.ken_words.specs.declared.commands.Command.TheVariants.{Run, Check, Soak, Torment, Save, Dump}
use Rattle.ken_words.specs.Commands.{command_of}

-- its numbers are in range
abbrev pub Fits : Command → Type 0
Fits Run = ⊤
Fits (Check length) = length ≤ LIMIT
Fits (Torment seed) = seed < 2 ^ 64
Fits (Soak seed nodes inputs rounds) = (0 < nodes) × (nodes ≤ MAX_NODES) × (inputs ≤ MAX_INPUTS) × (rounds ≤ MAX_ROUNDS)
Fits Save = ⊤
Fits (Dump node nodes pages) = (node < nodes) × (nodes ≤ MAX_NODES) × (1 ≤ pages) × (pages ≤ MAX_PAGES)

abbrev pub CommandsFit : Type 0
CommandsFit = (words : List (List ℕ)) → IfSome (command_of words) Fits
