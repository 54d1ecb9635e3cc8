-- The bytes of a kept page.
use Rattle.std.specs.Prelude.{ℕ, List}
use Rattle.ken_store.specs.declared.kept.Bytes.{Bytes}
use Rattle.ken_store.specs.declared.kept.Bytes.TheVariants.{Frozen, Read}

abbrev pub bytes_in : Bytes → List ℕ
bytes_in (Frozen s) = s.value
bytes_in (Read s) = s.value
