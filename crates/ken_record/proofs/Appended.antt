-- What was appended, up to where memory ran out.
use Rattle.std.proofs.Common.{◌≡◌, ℕ, suc, ◌+◌, ◌≤◌, ◌<◌, List, ◌∷◌, ◌++◌, length, get_or, take, drop, min, sym, ap, subst, ◌∙◌, append_assoc, arith, drop-cons}
use Rattle.std.specs.List.{flat_map}
use Rattle.std.proofs.lemmas.List.{append-nil, take-append-le, take_min, take-append-drop}
use Rattle.std.proofs.lemmas.List.Concat.{flat_map-cons, flat_map-append}
use Rattle.std.proofs.Math.Seq.{take-append-add}
use Rattle.ken_record.specs.Appending.{HasFront}

-- nothing was appended
pub front_none : (old spelled new : List ℕ) → new ≡ old → HasFront old spelled new
front_none old spelled new e = record { count = 0; parts = e ∙ sym (append-nil old) }

-- it ran out within the first part
pub front_first : (old a b new : List ℕ) → HasFront old a new → HasFront old (a ++ b) new
front_first old a b new h =
    let within : min h.count (length a) ≤ length a = omega arith in
    record {
      count = min h.count (length a);
      parts = h.parts ∙ ap (λ (t : List ℕ). old ++ t) (sym (take-append-le (min h.count (length a)) a b within ∙ take_min h.count a));
    }

-- the first part stands, and it ran out behind it
pub front_then : (old a b mid new : List ℕ) → mid ≡ old ++ a → HasFront mid b new → HasFront old (a ++ b) new
front_then old a b mid new e h = record {
  count = length a + h.count;
  parts = h.parts ∙ ap (λ (t : List ℕ). t ++ take h.count b) e ∙ append_assoc old a (take h.count b) ∙ ap (λ (t : List ℕ). old ++ t) (sym (take-append-add a b h.count));
}

pub ruleset appended = (front_first, front_then)

-- some items stand, and it ran out within the next
pub front_item : {A : Type 0} (spell : A → List ℕ) (xs : List A) (i : ℕ) (x : A) (old mid new : List ℕ) → i < length xs → x ≡ get_or xs i x → mid ≡ old ++ flat_map spell (take i xs) → HasFront mid (spell x) new → HasFront old (flat_map spell xs) new
front_item {A = A} spell xs i x old mid new lt is e h =
    let next : drop i xs ≡ x ∷ drop (suc i) xs = drop-cons xs i x lt ∙ ap (λ (y : A). y ∷ drop (suc i) xs) (sym is) in
    let parts : flat_map spell xs ≡ flat_map spell (take i xs) ++ (spell x ++ flat_map spell (drop (suc i) xs)) =
    ap (flat_map spell) (sym (take-append-drop i xs)) ∙ flat_map-append spell (take i xs) (drop i xs)
    ∙ ap (λ (t : List A). flat_map spell (take i xs) ++ flat_map spell t) next ∙ ap (λ (t : List ℕ). flat_map spell (take i xs) ++ t) (flat_map-cons spell x (drop (suc i) xs)) in
    let front = front_first mid (spell x) (flat_map spell (drop (suc i) xs)) new h in
    subst (λ (t : List ℕ). HasFront old t new) (sym parts) (front_then old (flat_map spell (take i xs)) (spell x ++ flat_map spell (drop (suc i) xs)) mid new e front)
