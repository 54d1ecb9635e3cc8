-- When a number of a node is high, by the places that are looked at.
use Rattle.std.proofs.Common.{◌≡◌, ℕ, ◌<◌, ◌⊎◌, List, length, inl, inr, subst, arith}
use Rattle.std.proofs.lemmas.List.{get_or_past}
use Rattle.std.proofs.lemmas.Bool.{cases_lt}
use Rattle.std.specs.Prelude.{slice_index}
use Rattle.ken_store.specs.declared.numbers.Numbers.{Numbers}
use Rattle.ken_work.specs.Capped.{HasHigh, stamp, consumed, sent, outputs, HasHighCount, IsHigh}

-- a count from or to one of the nodes is high, or the stamp, or the outputs, or the count from the outside
abbrev pub IsHighThere : Numbers → Type 0
IsHighThere n = ((((node : ℕ) × (node < 8) × HasHighCount n node) ⊎ IsHigh n.stamp) ⊎ IsHigh n.outputs) ⊎ IsHigh (slice_index n.consumed 8)

high_within : (xs : List ℕ) (place : ℕ) → IsHigh (slice_index xs place) → place < length xs
high_within xs place high = elim (cases_lt place (length xs)) [ inl within ↦ within | inr past ↦ absurd (omega (arith, get_or_past xs place 0 past)) ]

pub high_there : (n : Numbers) → length n.consumed ≡ 9 → length n.sent ≡ 8 → HasHigh n → IsHighThere n
high_there n nine eight (stamp high) = inl (inl (inr high))
high_there n nine eight (consumed place high) =
    let within = high_within n.consumed place high in
    elim (cases_lt place 8) [
      | inl low ↦ inl (inl (inl (place, low, inl high)))
      | inr past ↦
          let last : place ≡ 8 = omega arith in
          inr (subst (λ (k : ℕ). IsHigh (slice_index n.consumed k)) last high)
    ]
high_there n nine eight (sent place high) =
    let within = high_within n.sent place high in
    inl (inl (inl (place, omega arith, inr high)))
high_there n nine eight (outputs high) = inl (inr high)

pub there_high : (n : Numbers) → IsHighThere n → HasHigh n
there_high n (inl (inl (inl (node, low, inl high)))) = consumed node high
there_high n (inl (inl (inl (node, low, inr high)))) = sent node high
there_high n (inl (inl (inr high))) = stamp high
there_high n (inl (inr high)) = outputs high
there_high n (inr high) = consumed 8 high
