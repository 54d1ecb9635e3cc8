-- What sources and sinks have moved after one call more.
use Rattle.std.proofs.Common.{◌≡◌, ℕ, ◌+◌, ◌-◌, ◌<◌, ◌≤◌, min, List, [], ◌++◌, Option, length, take, drop, subst, sym, ap, ◌∙◌, arith, take-append-drop, length-append, length-take, length-drop}
use Rattle.std.proofs.lemmas.List.{take_rest, drop-drop, drop_all}
use Rattle.std.proofs.Math.Seq.{take-add}
use Rattle.std.specs.Io.KnownBytes.{Appends, Consumes, Keeps}
use Rattle.std.proofs.KnownBytes.{Appends-trans, Appends-kept, Consumes-trans}
use Rattle.ken_io.specs.Transfers.{TakesAtMost, AppendsFront}

-- a source gave some bytes, and then a front of a buffer
pub TakesAtMost-more : (most : ℕ) (old mid new : Option (List ℕ)) (before buf : List ℕ) (n : ℕ) → Consumes old mid before → Consumes mid new (take n buf) → length before + n ≤ most → TakesAtMost most old new
TakesAtMost-more most old mid new before buf n given more few = record {
  taken = before ++ take n buf;
  given = Consumes-trans old mid new before (take n buf) given more;
  few = omega (arith, length-append before (take n buf), length-take n buf);
}

-- a sink took the first n bytes, and then k bytes of the rest
pub Appends-take_more : (old mid new : Option (List ℕ)) (whole : List ℕ) (n k : ℕ) → Appends old mid (take n whole) → Appends mid new (take k (take (length whole - n) (drop n whole))) → Appends old new (take (n + k) whole)
Appends-take_more old mid new whole n k before more =
    let joined : take n whole ++ take k (take (length whole - n) (drop n whole)) ≡ take (n + k) whole =
    ap (λ (l : List ℕ). take n whole ++ take k l) (take_rest whole n) ∙ sym (take-add n k whole) in
    subst (Appends old new) joined (Appends-trans old mid new (take n whole) (take k (take (length whole - n) (drop n whole))) before more)

-- a sink took the first n bytes, and then a call failed
pub AppendsFront-take : (old mid new : Option (List ℕ)) (whole : List ℕ) (n : ℕ) → Appends old mid (take n whole) → Keeps mid new → AppendsFront old new whole
AppendsFront-take old mid new whole n out kept = record {
  front = take n whole;
  rest = drop n whole;
  parts = take-append-drop n whole;
  out = Appends-kept old mid new (take n whole) out kept;
}

-- a list lost its first `at` bytes, and then n more
pub drop-given : (bytes buf : List ℕ) (at n : ℕ) → take (length bytes - at) (drop at bytes) ≡ take n buf ++ drop n (take (length bytes - at) (drop at bytes)) → drop at bytes ≡ take n buf ++ drop (at + n) bytes
drop-given bytes buf at n parts =
    sym (take_rest bytes at) ∙ parts ∙ ap (λ (l : List ℕ). take n buf ++ drop n l) (take_rest bytes at) ∙ ap (λ (l : List ℕ). take n buf ++ l) (drop-drop n at bytes)

-- nothing was given into room, since nothing was left
pub drop-none_given : (bytes : List ℕ) (at n piece room : ℕ) → n ≡ min (length (take (length bytes - at) (drop at bytes))) (min piece room) → 1 ≤ piece → 0 < room → n ≡ 0 → drop (at + n) bytes ≡ []
drop-none_given bytes at n piece room count some is_room none =
    drop_all (at + n) bytes (omega (arith, ap (λ (l : List ℕ). length l) (take_rest bytes at), length-drop at bytes))

-- for a read of a source in memory
pub ruleset given = (drop-given, drop-none_given)

-- for the loops that read or write all
pub ruleset moved = (TakesAtMost-more, Appends-take_more, AppendsFront-take, length-take)
