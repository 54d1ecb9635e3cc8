-- What contracts see of a source and a sink in memory, and what their calls leave.
use Rattle.std.specs.Prelude.{ℕ, ◌-◌, List, ◌++◌, length, take, drop, min}
use Rattle.ken_io.specs.Calls.{CallCounts, after_call, after_fault}

-- the bytes that are left, and the most that one call gives
pub record Reading : Type 0 where
  pub left : List ℕ
  pub piece : ℕ
  pub calls : CallCounts

-- how many bytes a read gives into a buffer of this length
abbrev pub given : Reading → ℕ → ℕ
given s room = min (length s.left) (min s.piece room)

-- a read gave n bytes
abbrev pub after_read : Reading → ℕ → Reading
after_read s n = record s { left = drop n s.left; calls = after_call s.calls }

-- a read failed
abbrev pub after_failed_read : Reading → Reading
after_failed_read s = record s { calls = after_fault (after_call s.calls) }

-- the bytes that were taken, how many there is room for in all, and the most that one call takes
pub record Writing : Type 0 where
  pub took : List ℕ
  pub room : ℕ
  pub piece : ℕ
  pub calls : CallCounts

-- how many of so many bytes a write takes
abbrev pub taken : Writing → ℕ → ℕ
taken s count = min count (min s.piece (s.room - length s.took))

-- a write took the first n of these bytes
abbrev pub after_write : Writing → List ℕ → ℕ → Writing
after_write s bytes n = record s { took = s.took ++ take n bytes; calls = after_call s.calls }

-- a write failed
abbrev pub after_failed_write : Writing → Writing
after_failed_write s = record s { calls = after_fault (after_call s.calls) }
