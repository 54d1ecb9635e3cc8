-- A set of numbers, as the code keeps it.
use Rattle.std.specs.Prelude.{ℕ, List, [], Bool, false, slice_index_or}

-- whether a number is in it
abbrev pub has : List Bool → ℕ → Bool
has bits k = slice_index_or bits k false

-- and in one of several sets
abbrev pub has_at : List (List Bool) → ℕ → ℕ → Bool
has_at sets w k = has (slice_index_or sets w []) k
