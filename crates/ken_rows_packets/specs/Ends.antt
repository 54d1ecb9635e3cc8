-- A node's end of a network of eight nodes.
use Rattle.std.specs.Prelude.{◌≡◌, ℕ, length}
use Rattle.ken_net.specs.declared.plain.PlainNet.{PlainNet}

abbrev pub IsEndOf : ℕ → PlainNet → Type 0
IsEndOf node e = (e.node ≡ node) × (length e.takes ≡ 8) × (length e.puts ≡ 8)
