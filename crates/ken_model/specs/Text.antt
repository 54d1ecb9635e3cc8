-- What a byte string keeps of its bytes.
use Rattle.std.specs.Prelude.{ℕ, ◌≤◌, List, take}
use Rattle.std.specs.Arc.{arc_value}
use Rattle.ken_model.specs.declared.octets.Kept.{Kept}
use Rattle.ken_model.specs.declared.octets.Kept.TheVariants.{Own, Shared, Short}

-- the bytes
abbrev pub bytes_in : Kept → List ℕ
bytes_in (Short len bytes) = take len bytes
bytes_in (Own bytes) = bytes.items
bytes_in (Shared bytes) = (arc_value bytes).items

-- those that stand in the value are at most forty-six
abbrev pub HasRoom : Kept → Type 0
HasRoom (Short len bytes) = len ≤ 46
HasRoom (Own bytes) = Unit {0}
HasRoom (Shared bytes) = Unit {0}
