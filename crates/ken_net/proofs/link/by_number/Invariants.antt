use Rattle.std.proofs.Common.{◌≡◌, ℕ, drop}
use Rattle.std.specs.Ordering.{nat_cmp}
use Rattle.std.specs.BTreeMap.{get}
use Rattle.ken_net.specs.Acts.{act_of}
use Rattle.ken_net.proofs.link.by_number.Given as goal

-- the acts from here on are there
abbrev pub invariant-loop-place : goal.invariant-loop-place
invariant-loop-place l = (n : ℕ) → get nat_cmp l.found n ≡ act_of (drop l.place l.acts) l.from l.to n
