-- A write with its sync, on a disk at rest.
use Rattle.std.specs.Prelude.{◌≡◌, ℕ, ◌+◌, ◌≤◌, max, List, length, take, drop, Result, OnOk}
use Rattle.ken_disk.specs.declared.faults.DiskFault.{DiskFault}
use Rattle.ken_disk.specs.Bytes.{overwrite}
use Rattle.ken_disk.specs.Story.{DiskState, Story, IsAtRest}
use Rattle.ken_disk.specs.Moments.{Through}

-- a write of n bytes that a crash cuts short: any bytes in its range and past the old end, the old ones elsewhere
pub record Torn (at n : ℕ) (old new : List ℕ) : Type 0 where
  pub before : take at new ≡ take at old
  pub after : drop (at + n) new ≡ drop (at + n) old
  pub no_shorter : length old ≤ length new
  pub no_longer : length new ≤ max (length old) (at + n)

-- the bytes are written and safe
pub record IsWritten (at : ℕ) (bytes : List ℕ) (old new : DiskState) : Type 0 where
  pub seen : new.seen ≡ overwrite at bytes old.seen
  pub rests : IsAtRest new

-- a crash at any moment leaves the old bytes, but for a torn write; after Ok the bytes are written and safe
pub record WroteThrough {T : Type 0} (at : ℕ) (bytes : List ℕ) (result : Result T DiskFault) (old new : Story) : Type 0 where
  pub any_moment : Through (Torn at (length bytes) old.now.seen) old new
  pub ok : OnOk result (IsWritten at bytes old.now new.now)
