-- The bytes of a page.
use Rattle.std.specs.Prelude.{ℕ, List}
use Rattle.std.specs.Arc.{arc_value}
use Rattle.ken_record.specs.declared.page.Held.{Held}
use Rattle.ken_record.specs.declared.page.Held.TheVariants.{Own, Shared}

abbrev pub bytes_in : Held → List ℕ
bytes_in (Own bytes) = bytes
bytes_in (Shared frame) = arc_value frame
