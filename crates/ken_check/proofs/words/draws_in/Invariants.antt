use Rattle.std.proofs.Common.{◌≡◌, map, decimal}
use Rattle.std.specs.List.{AllByRecursion}
use Rattle.ken_model.specs.Spelling.{IsWord}
use Rattle.ken_check.proofs.words.draws_in.Given as goal

-- the parts so far are the spellings of the draws so far
abbrev pub invariant-loop-part : goal.invariant-loop-part
invariant-loop-part l = record {
  words : AllByRecursion IsWord l.draws.items;
  parts : map decimal l.draws.items ≡ map (λ part. part.now) l.yielded;
}
