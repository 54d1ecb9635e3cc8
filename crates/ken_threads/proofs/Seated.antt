-- Crews that are seated one after the other, the last node's first, and brought back in rising order.
use Rattle.std.proofs.Common.{◌≡◌, ◌∙◌, ℕ, ◌+◌, ◌-◌, ◌<◌, ◌≤◌, List, [], ◌∷◌, ◌++◌, length, sym, ap, subst, ⊎_elim, arith, append_assoc, append-nil}
use Rattle.std.specs.Prelude.{slice_index_or}
use Rattle.std.proofs.lemmas.Bool.{cases_lt}
use Rattle.std.proofs.lemmas.List.{get_or_append_left, length-append}
use Rattle.std.proofs.Math.Seq.{get_or-append_seam}

-- ---- a list of which the last were taken

pub record IsFront {X : Type 0} (old now : List X) : Type 0 where
  pub taken : List X
  pub split : old ≡ now ++ taken

module _ {X : Type 0} where
  pub all_there : (xs : List X) → IsFront xs xs
  all_there xs = record { taken = []; split = sym (append-nil xs) }

  pub one_taken : (old now rest : List X) (x : X) → IsFront old now → now ≡ rest ++ x ∷ [] → IsFront old rest
  one_taken old now rest x is last = record { taken = x ∷ is.taken; split = is.split ∙ ap (λ (l : List X). l ++ is.taken) last ∙ append_assoc rest (x ∷ []) is.taken }

  -- it was the one at that place
  pub taken_at : (old now rest : List X) (x d : X) (k : ℕ) → IsFront old now → now ≡ rest ++ x ∷ [] → k ≡ length rest → slice_index_or old k d ≡ x
  unfolding one_taken
  taken_at old now rest x d k is last at =
      ap (λ (l : List X). slice_index_or l k d) (one_taken old now rest x is last).split ∙ ap (λ (i : ℕ). slice_index_or (rest ++ x ∷ is.taken) i d) at ∙ get_or-append_seam rest x is.taken d

  pub long : (now rest : List X) (x : X) → now ≡ rest ++ x ∷ [] → length now ≡ length rest + 1
  long now rest x last = ap (λ (l : List X). length l) last ∙ length-append rest (x ∷ [])

  -- the last of a list that one was added to, and those before it
  pub added_at : (xs : List X) (x d : X) (k : ℕ) → k ≡ length xs → slice_index_or (xs ++ x ∷ []) k d ≡ x
  added_at xs x d k at = ap (λ (i : ℕ). slice_index_or (xs ++ x ∷ []) i d) at ∙ get_or-append_seam xs x [] d

  pub before_added : (xs : List X) (x d : X) (k : ℕ) → k < length xs → slice_index_or (xs ++ x ∷ []) k d ≡ slice_index_or xs k d
  before_added xs x d k low = get_or_append_left xs (x ∷ []) d k low

-- ---- what holds of each node's, by its place from the end

module _ {T : Type 0} (n : ℕ) (holds : ℕ → T → Type 0) where
  -- of those of the nodes from k on
  abbrev pub FromOn : ℕ → List T → Type 0
  FromOn k teams = (v : ℕ) (none : T) → k ≤ v → v < n → holds v (slice_index_or teams (n - (v + 1)) none)

  pub one_more_from : (k : ℕ) (teams : List T) (team : T) → length teams + (k + 1) ≡ n → FromOn (k + 1) teams → holds k team → FromOn k (teams ++ team ∷ [])
  one_more_from k teams team count before its = λ v none above low.
      ⊎_elim
      (λ (there : k < v).
      subst (holds v) (sym (before_added teams team none (n - (v + 1)) (omega (arith, there, low, count)))) (before v none (omega (arith, there)) low))
      (λ (here : v ≤ k).
      let same : k ≡ v = omega (arith, here, above) in
      subst (λ (i : ℕ). holds i (slice_index_or (teams ++ team ∷ []) (n - (v + 1)) none)) same
      (subst (holds k) (sym (added_at teams team none (n - (v + 1)) (omega (arith, count, same, low)))) its))
      (cases_lt k v)

-- ---- what comes back, in rising order

-- five terms are exchanged for their equals
pub five : {A B C D E : Type 0} (P : A → B → C → D → E → Type 0) {a a2 : A} {b b2 : B} {c c2 : C} {d d2 : D} {e e2 : E} → a ≡ a2 → b ≡ b2 → c ≡ c2 → d ≡ d2 → e ≡ e2 → P a b c d e → P a2 b2 c2 d2 e2
five P {a = a} {a2 = a2} {b = b} {b2 = b2} {c = c} {c2 = c2} {d = d} {d2 = d2} {e = e} {e2 = e2} is_a is_b is_c is_d is_e p =
    subst (λ x. P a2 b2 c2 d2 x) is_e (subst (λ x. P a2 b2 c2 x e) is_d (subst (λ x. P a2 b2 x d e) is_c (subst (λ x. P a2 x c d e) is_b (subst (λ x. P x b c d e) is_a p))))

-- where one was added at the end of a list of n, each place holds what it held, and the last the new one
module _ {X : Type 0} (n v : ℕ) (xs xs2 : List X) (x d : X) (is : xs2 ≡ xs ++ x ∷ []) (count : length xs ≡ n) where
  as_before : v < n → slice_index_or xs v d ≡ slice_index_or xs2 v d
  as_before there = sym (ap (λ (l : List X). slice_index_or l v d) is ∙ before_added xs x d v (omega (arith, there, count)))

  as_added : v ≡ n → x ≡ slice_index_or xs2 v d
  as_added here = sym (ap (λ (l : List X). slice_index_or l v d) is ∙ added_at xs x d v (here ∙ sym count))

module _ {C T S W : Type 0} (holds : C → T → S → T → S → W → Type 0) where
  -- one more of each came back
  pub one_more_back : (crews crews2 : List C) (takes takes2 : List T) (sends sends2 : List S) (acks acks2 : List T) (puts puts2 : List S) (crew : C) (take : T) (send : S) (ack : T) (put : S) (team_of : ℕ → W) (n : ℕ)
      → crews2 ≡ crews ++ crew ∷ [] → takes2 ≡ takes ++ take ∷ [] → sends2 ≡ sends ++ send ∷ [] → acks2 ≡ acks ++ ack ∷ [] → puts2 ≡ puts ++ put ∷ []
      → length crews ≡ n → length takes ≡ n → length sends ≡ n → length acks ≡ n → length puts ≡ n
      → (v : ℕ) (c : C) (t : T) (s : S) → v < n + 1
      → (v < n → holds (slice_index_or crews v c) (slice_index_or takes v t) (slice_index_or sends v s) (slice_index_or acks v t) (slice_index_or puts v s) (team_of v))
      → holds crew take send ack put (team_of n)
      → holds (slice_index_or crews2 v c) (slice_index_or takes2 v t) (slice_index_or sends2 v s) (slice_index_or acks2 v t) (slice_index_or puts2 v s) (team_of v)
  one_more_back crews crews2 takes takes2 sends sends2 acks acks2 puts puts2 crew take send ack put team_of n is_c is_t is_s is_a is_p len_c len_t len_s len_a len_p v c t s low before its =
      ⊎_elim
      (λ (there : v < n).
      five (λ a b x d e. holds a b x d e (team_of v)) (as_before n v crews crews2 crew c is_c len_c there) (as_before n v takes takes2 take t is_t len_t there) (as_before n v sends sends2 send s is_s len_s there)
      (as_before n v acks acks2 ack t is_a len_a there) (as_before n v puts puts2 put s is_p len_p there) (before there))
      (λ (above : n ≤ v).
      let here : v ≡ n = omega (arith, above, low) in
      five (λ a b x d e. holds a b x d e (team_of v)) (as_added n v crews crews2 crew c is_c len_c here) (as_added n v takes takes2 take t is_t len_t here) (as_added n v sends sends2 send s is_s len_s here)
      (as_added n v acks acks2 ack t is_a len_a here) (as_added n v puts puts2 put s is_p len_p here) (subst (λ (k : ℕ). holds crew take send ack put (team_of k)) (sym here) its))
      (cases_lt v n)
