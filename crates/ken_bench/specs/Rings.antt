-- A ring whose ends lie in one thread.
use Rattle.std.specs.Prelude.{◌≡◌, ◌≤◌}
use Rattle.ken_links.specs.declared.push_end.PushEnd.{PushEnd}
use Rattle.ken_links.specs.declared.pop_end.PopEnd.{PopEnd}
use Rattle.ken_links.specs.Rings.{pushed, popped, free, IsRing}

-- all that was pushed was popped, and each of its 64 slots is known to be free
abbrev pub IsEmptied : {T : Type 0} → PushEnd T → PopEnd T → Type 0
IsEmptied push pop = IsRing push pop × (popped pop ≡ pushed push) × (64 ≤ free push)
