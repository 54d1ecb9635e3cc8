-- A command of the program, as the definitions have it.
use Rattle.std.specs.Prelude.{ℕ, List}
use Rattle.ken_model.specs.declared.commands.Command.{Command as Parsed}
use Rattle.ken_model.specs.declared.commands.Command.TheVariants.{Put as ParsedPut, Get as ParsedGet, Delete as ParsedDelete}
use Rattle.ken_model.specs.declared.commands.Parts.{Parts}
use Rattle.ken_model.specs.KeyValue.{Command, Put, Get, Delete}

-- the command with its bytes
abbrev pub command_view : Parsed → Command
command_view (ParsedPut key pair) = Put key.now pair.now
command_view (ParsedGet key) = Get key.now
command_view (ParsedDelete key) = Delete key.now

abbrev pub parts_view : Parts → List ℕ × List ℕ
parts_view p = (p.before.now, p.after.now)
