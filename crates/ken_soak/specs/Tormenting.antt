-- Faults of a seed bring no node down.
use Rattle.std.specs.Prelude.{ℕ}
use Rattle.ken_script.specs.declared.scripts.Script.{Script}
use Rattle.ken_drive.specs.Sparing.{LetsGoDown}
use Rattle.ken_gen.specs.Torments.{tormented}

-- a node that a script with faults of a seed lets go down is one that the script itself lets go down
abbrev pub TormentSpares : Type 0
TormentSpares = (seed : ℕ) (script : Script) (v : ℕ) → LetsGoDown (tormented seed script) v → LetsGoDown script v
