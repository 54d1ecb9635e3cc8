-- Where as much was heard as was put, nothing was lost.
use Rattle.std.proofs.Common.{◌≡◌, ◌≢◌, ℕ, zero, suc, ◌+◌, ◌<◌, ◌≤◌, List, [], ◌∷◌, ◌++◌, length, refl, sym, ap, subst, ◌∙◌, inl, inr, arith}
use Rattle.std.specs.Prelude.{slice_index_or, sum_by}
use Rattle.std.proofs.lemmas.Bool.{cases_lt, eq-eqb, ne_eqb}
use Rattle.std.proofs.lemmas.List.{append-nil, length-append, nil_from_length}
use Rattle.std.proofs.lemmas.List.Sums.{sum_by-cons}
use Rattle.ken_packet.specs.Reading.{sender_in}
use Rattle.ken_wire.specs.declared.view.Sent.{Sent}
use Rattle.ken_wire.specs.Views.{nothing}
use Rattle.ken_wire.specs.Rule.{of}
use Rattle.ken_wire.specs.Ends.{Carried}

-- the numbers of the nodes below n, added up
upto : ℕ → (ℕ → ℕ) → ℕ
upto zero f = 0
upto (suc n) f = f n + upto n f

upto_none : (n : ℕ) → upto n (λ k. 0) ≡ 0
unfolding upto
upto_none zero = refl
upto_none (suc n) = omega (arith, upto_none n)

upto_same : (n : ℕ) (f g : ℕ → ℕ) → ((k : ℕ) → k < n → f k ≡ g k) → upto n f ≡ upto n g
unfolding upto
upto_same zero f g same = refl
upto_same (suc n) f g same = omega (arith, same n (omega arith), upto_same n f g (λ k low. same k (omega (arith, low))))

upto_one : (n p : ℕ) (f g : ℕ → ℕ) → ((k : ℕ) → k ≢ p → g k ≡ f k) → g p ≡ f p + 1 → p < n → upto n g ≡ upto n f + 1
unfolding upto
upto_one zero p f g others here low = absurd (omega (arith, low))
upto_one (suc n) p f g others here low = elim (cases_lt p n) [
  | inl lt ↦ omega (arith, others n (λ e. omega (arith, lt, e)), upto_one n p f g others here lt)
  | inr le ↦
      let is : p ≡ n = omega (arith, low, le) in
      let last : g n ≡ f n + 1 = subst (λ (k : ℕ). g k ≡ f k + 1) is here in
      omega (arith, last, upto_same n g f (λ k under. others k (λ e. omega (arith, under, e, is))))
]

upto_front : (n : ℕ) (f : ℕ → ℕ) → upto (suc n) f ≡ f 0 + upto n (λ k. f (suc k))
unfolding upto
upto_front zero f = refl
upto_front (suc n) f = omega (arith, upto_front n f)

-- each packet is one of a sender's
all_of : (n : ℕ) (xs : List (List ℕ)) → ((k : ℕ) → n ≤ k → of k xs ≡ []) → upto n (λ k. length (of k xs)) ≡ length xs
all_of n [] nobody = upto_none n
all_of n (x ∷ xs) nobody =
    let p : ℕ = sender_in x in
    let own : of p (x ∷ xs) ≡ x ∷ of p xs = rw (eq-eqb p p refl) refl in
    let other : (k : ℕ) → k ≢ p → of k (x ∷ xs) ≡ of k xs = λ k away. rw (ne_eqb p k (λ e. away (sym e))) refl in
    let low : p < n = elim (cases_lt p n) [
      | inl lt ↦ lt
      | inr le ↦ absurd (omega (arith, ap (λ (l : List (List ℕ)). length l) (sym own ∙ nobody p le)))
    ] in
    let rest : (k : ℕ) → n ≤ k → of k xs ≡ [] = λ k le. sym (other k (λ e. omega (arith, le, low, e))) ∙ nobody k le in
    upto_one n p (λ k. length (of k xs)) (λ k. length (of k (x ∷ xs))) (λ k away. ap (λ (l : List (List ℕ)). length l) (other k away)) (ap (λ (l : List (List ℕ)). length l) own ∙ omega arith) low
    ∙ ap (λ (k : ℕ). k + 1) (all_of n xs rest) ∙ omega arith

all_put : (sents : List Sent) → upto (length sents) (λ k. length (slice_index_or sents k nothing).put) ≡ sum_by (λ (s : Sent). length s.put) sents
unfolding upto
all_put [] = refl
all_put (s ∷ ss) = upto_front (length ss) (λ k. length (slice_index_or (s ∷ ss) k nothing).put) ∙ ap (λ (k : ℕ). length s.put + k) (all_put ss) ∙ sym (sum_by-cons (λ (s : Sent). length s.put) s ss)

pub nothing_is_lost : (to : ℕ) (sents : List Sent) (heard : List (List ℕ)) → Carried to sents heard → length heard ≡ sum_by (λ (s : Sent). length s.put) sents
    → (k : ℕ) → k < length sents → of k heard ≡ (slice_index_or sents k nothing).put
nothing_is_lost to sents heard c all k low =
    let whole : length (heard ++ c.lost) ≡ length heard =
    sym (all_of (length sents) (heard ++ c.lost) c.nobody)
    ∙ upto_same (length sents) (λ k. length (of k (heard ++ c.lost))) (λ k. length (slice_index_or sents k nothing).put) (λ k low. ap (λ (l : List (List ℕ)). length l) (c.in_order k low))
    ∙ all_put sents ∙ sym all in
    let none : c.lost ≡ [] = nil_from_length c.lost (omega (arith, whole, length-append heard c.lost)) in
    sym (ap (of k) (ap (λ (l : List (List ℕ)). heard ++ l) none ∙ append-nil heard)) ∙ c.in_order k low
