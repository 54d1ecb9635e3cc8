use Rattle.std.proofs.Common.{◌≡◌, ◌+◌, length}
use Rattle.ken_links.specs.Rings.{pushed, free, SamePushEnd}
use Rattle.ken_bench.proofs.rings.push_all.Given as goal

abbrev pub invariant-loop-place : goal.invariant-loop-place
invariant-loop-place l =
    SamePushEnd l.initial.push l.push × (length (pushed l.push) ≡ length (pushed l.initial.push) + l.place)
    × (free l.initial.push ≡ free l.push + l.place)
