-- Inboxes stay short.
use Rattle.std.proofs.Common.{◌≡◌, ℕ, zero, suc, ◌+◌, ◌≤◌, ◌⊎◌, inl, inr, ⊎_elim, Bool, true, false, nat_lt, if◌then◌else◌, List, [], ◌∷◌, ◌++◌, length, replicate, slice_index_or, slice_set, refl, sym, ap, subst, ◌∙◌, arith, length-append}
use Rattle.std.proofs.lemmas.Bool.{cases_eq, ltb-true}
use Rattle.std.proofs.lemmas.List.{length_push}
use Rattle.ken_net.specs.declared.inbox.TheConstants.{MAX_INBOX}
use Rattle.ken_net.specs.Inboxes.{Gave, all_filed, filed}
use Rattle.ken_net.specs.Puts.{Put}
use Rattle.ken_flow.specs.Standstill.{AreShort}

-- an inbox is no longer where a packet was filed in it than it may be
filed-one : (bytes : List ℕ) (box : List (List ℕ)) → length box ≤ MAX_INBOX → length (filed bytes box) ≤ MAX_INBOX
filed-one bytes box short = by (nat_lt (length box) MAX_INBOX) refl
  where
    by : (b : Bool) → nat_lt (length box) MAX_INBOX ≡ b → length (if b then box ++ bytes ∷ [] else box) ≤ MAX_INBOX
    by true is = let less = ltb-true (length box) MAX_INBOX is in omega (arith, less, length_push box bytes)
    by false is = short

-- one element of a list changed
set-cases : {A : Type 0} (xs : List A) (i : ℕ) (y : A) (j : ℕ) (d : A) → (slice_index_or (slice_set xs i y) j d ≡ y) ⊎ (slice_index_or (slice_set xs i y) j d ≡ slice_index_or xs j d)
set-cases [] i y j d = inr refl
set-cases (x ∷ xs) zero y zero d = inl refl
set-cases (x ∷ xs) zero y (suc j) d = inr refl
set-cases (x ∷ xs) (suc i) y zero d = inr refl
set-cases (x ∷ xs) (suc i) y (suc j) d = set-cases xs i y j d

pub filed-short : (ps : List Put) (boxes : List (List (List ℕ))) → AreShort boxes → AreShort (all_filed ps boxes)
filed-short [] boxes short = short
filed-short (p ∷ ps) boxes short =
    let box : List (List ℕ) = filed p.bytes (slice_index_or boxes p.to []) in
    let few : length box ≤ MAX_INBOX = filed-one p.bytes (slice_index_or boxes p.to []) (short p.to) in
    filed-short ps (slice_set boxes p.to box)
    (λ v. ⊎_elim
    (λ (e : slice_index_or (slice_set boxes p.to box) v [] ≡ box). subst (λ (x : List (List ℕ)). length x ≤ MAX_INBOX) (sym e) few)
    (λ e. subst (λ (x : List (List ℕ)). length x ≤ MAX_INBOX) (sym e) (short v))
    (set-cases boxes p.to box v []))

pub gave-short : (u : ℕ) (boxes boxes2 : List (List (List ℕ))) (given : List (List ℕ)) → Gave u boxes boxes2 given → AreShort boxes → AreShort boxes2
gave-short u boxes boxes2 given gave short v = ⊎_elim
    (λ (same : v ≡ u).
    let all : length (slice_index_or boxes u []) ≡ length given + length (slice_index_or boxes2 u []) = ap (λ (x : List (List ℕ)). length x) gave.front ∙ length-append given (slice_index_or boxes2 u []) in
    let was = short u in
    subst (λ (x : ℕ). length (slice_index_or boxes2 x []) ≤ MAX_INBOX) (sym same) (omega (arith, all, was)))
    (λ other. subst (λ (x : List (List ℕ)). length x ≤ MAX_INBOX) (sym (gave.others v other)) (short v))
    (cases_eq v u)

all-empty : (n v : ℕ) → let none : List (List ℕ) = [] in length (slice_index_or (replicate n none) v none) ≤ 0
all-empty zero v = omega arith
all-empty (suc n) zero = omega arith
all-empty (suc n) (suc v) = all-empty n v

-- empty inboxes are short
pub first-short : (n : ℕ) → AreShort (replicate n [])
first-short n v = let none = all-empty n v in omega (arith, none)
