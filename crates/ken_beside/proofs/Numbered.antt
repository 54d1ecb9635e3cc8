-- Turns that a handler pushes after a start, by their numbers, and what who is handed them knows of them.
use Rattle.std.proofs.Common.{◌≡◌, ℕ, ◌+◌, ◌-◌, ◌≤◌, List, [], ◌∷◌, ◌++◌, length, refl, sym, ◌∙◌, subst, arith}
use Rattle.ken_cover.specs.Overlay.{AreWithin}
use Rattle.ken_cover.specs.Sides.{ImagePages, handed_pages, pages_of}
use Rattle.ken_record.specs.declared.page.Page.{Page}
use Rattle.ken_store.specs.Ahead.{frame_pages}
use Rattle.ken_store.specs.Apart.{MayWait, hand_all, known_after}
use Rattle.ken_store.proofs.ApartPages.{first_within}
use Rattle.ken_ship.specs.declared.items.Sealed.{Sealed}
use Rattle.ken_ship.specs.Handing.{last_turn}
use Rattle.ken_work.specs.declared.items.Frozen.{Frozen}
use Rattle.ken_work.specs.Patches.{MayFollow, waits_of}

-- ---- numbers

module _ {A : Type 0} (number : A → ℕ) where
  -- the number of the last of these, or the one before them
  abbrev pub last : ℕ → List A → ℕ
  last known [] = known
  last known (x ∷ xs) = last (number x) xs

  -- these are numbered on, from the one after this
  abbrev pub NumberedOn : ℕ → List A → Type 0
  NumberedOn turn [] = Unit {0}
  NumberedOn turn (x ∷ xs) = (number x ≡ turn + 1) × NumberedOn (turn + 1) xs

  pub numbered-join : (turn : ℕ) (xs ys : List A) → NumberedOn turn xs → NumberedOn (turn + length xs) ys → NumberedOn turn (xs ++ ys)
  numbered-join turn [] ys one two = let same : turn + length {A = A} [] ≡ turn = omega arith in subst (λ (k : ℕ). NumberedOn k ys) same two
  numbered-join turn (x ∷ xs) ys one two =
      let same : turn + length (x ∷ xs) ≡ turn + 1 + length xs = omega arith in
      (one.0, numbered-join (turn + 1) xs ys one.1 (subst (λ (k : ℕ). NumberedOn k ys) same two))

  -- at the start so many were pushed and so many turns were made, and each turn after them is pushed
  module _ (start made : ℕ) where
    -- who was handed so many, and knows of turns up to this number, knows of those that it was handed after the start
    abbrev pub IsKnown : ℕ → ℕ → Type 0
    IsKnown count known = count ≤ (known - made) + start

    -- and so it is after each of these too
    abbrev pub AreKnown : ℕ → ℕ → List A → Type 0
    AreKnown count known [] = IsKnown count known
    AreKnown count known (x ∷ xs) = IsKnown count known × AreKnown (count + 1) (number x) xs

    pub known-now : (count known : ℕ) (xs : List A) → AreKnown count known xs → IsKnown count known
    known-now count known [] all = all
    known-now count known (x ∷ xs) all = all.0

    pub known-later : (count known : ℕ) (xs ys : List A) → AreKnown count known (xs ++ ys) → AreKnown (count + length xs) (last known xs) ys
    known-later count known [] ys all = let same : count + length {A = A} [] ≡ count = omega arith in subst (λ (k : ℕ). AreKnown k known ys) (sym same) all
    known-later count known (x ∷ xs) ys all =
        let same : count + 1 + length xs ≡ count + length (x ∷ xs) = omega arith in
        subst (λ (k : ℕ). AreKnown k (last (number x) xs) ys) same (known-later (count + 1) (number x) xs ys all.1)

    pushes-known : (count known j : ℕ) (xs : List A) → count ≡ start + j → IsKnown count known → NumberedOn (made + j) xs → AreKnown count known xs
    pushes-known count known j [] at here numbered = here
    pushes-known count known j (x ∷ xs) at here numbered =
        let turn = numbered.0 in
        let next : made + j + 1 ≡ made + (j + 1) = omega arith in
        (here, pushes-known (count + 1) (number x) (j + 1) xs (omega (arith, at)) (omega (arith, at, turn)) (subst (λ (k : ℕ). NumberedOn k xs) next numbered.1))

    -- what was pushed before the start, and the turns after it
    pub all-known : (count known : ℕ) (queue xs : List A) → count + length queue ≡ start → NumberedOn made xs → AreKnown count known (queue ++ xs)
    all-known count known [] xs at numbered =
        let none : made + 0 ≡ made = omega arith in
        pushes-known count known 0 xs (omega (arith, at)) (omega (arith, at)) (subst (λ (k : ℕ). NumberedOn k xs) (sym none) numbered)
    all-known count known (x ∷ queue) xs at numbered = (omega (arith, at), all-known (count + 1) (number x) queue xs (omega (arith, at)) numbered)

-- what an externaliser knows
abbrev pub sealed_turn : Sealed → ℕ
sealed_turn s = s.turn

pub last-sealed : (known : ℕ) (xs : List Sealed) → last_turn known xs ≡ last sealed_turn known xs
last-sealed known [] = refl
last-sealed known (x ∷ xs) = last-sealed x.turn xs

-- ---- and pages

abbrev pub frozen_turn : Frozen → ℕ
frozen_turn f = f.turn

pub last-frozen : (known : ℕ) (xs : List Frozen) → known_after known (waits_of xs) ≡ last frozen_turn known xs
last-frozen known [] = refl
last-frozen known (x ∷ xs) = last-frozen x.turn xs

-- these are turns numbered on, each with pages of a heap of so many
abbrev pub FollowOn : ℕ → ℕ → List Frozen → Type 0
FollowOn pages turn [] = Unit {0}
FollowOn pages turn (f ∷ fs) = (f.turn ≡ turn + 1) × AreWithin pages (frame_pages f.pages.items) × FollowOn pages (turn + 1) fs

pub follow-join : (pages turn : ℕ) (xs ys : List Frozen) → FollowOn pages turn xs → FollowOn pages (turn + length xs) ys → FollowOn pages turn (xs ++ ys)
follow-join pages turn [] ys one two = let same : turn + length {A = Frozen} [] ≡ turn = omega arith in subst (λ (k : ℕ). FollowOn pages k ys) same two
follow-join pages turn (x ∷ xs) ys one two =
    let same : turn + length (x ∷ xs) ≡ turn + 1 + length xs = omega arith in
    (one.0, one.1, follow-join pages (turn + 1) xs ys one.2 (subst (λ (k : ℕ). FollowOn pages k ys) same two))

pub follow-numbered : (pages turn : ℕ) (xs : List Frozen) → FollowOn pages turn xs → NumberedOn frozen_turn turn xs
follow-numbered pages turn [] all = tt
follow-numbered pages turn (x ∷ xs) all = (all.0, follow-numbered pages (turn + 1) xs all.2)

follow-may : (pages turn : ℕ) (xs : List Frozen) → FollowOn pages turn xs → MayFollow pages turn xs
follow-may pages turn [] all = tt
follow-may pages turn (x ∷ xs) all =
    let number = all.0 in
    (omega (arith, number), all.1, subst (λ (k : ℕ). MayFollow pages k xs) (sym all.0) (follow-may pages (turn + 1) xs all.2))

-- what is on its way may be handed
queue-may : (pages known : ℕ) (queue : List Frozen) (i : ImagePages) → MayWait known (waits_of queue) → AreWithin pages (pages_of (hand_all (waits_of queue) i).ahead) → MayFollow pages known queue
queue-may pages known [] i waits within = tt
queue-may pages known (f ∷ queue) i waits within =
    let changed : List Page = frame_pages f.pages.items in
    (waits.0, first_within pages f.turn changed (waits_of queue) i within, queue-may pages f.turn queue (handed_pages f.turn changed i) waits.2 within)

may-join : (pages known : ℕ) (xs ys : List Frozen) → MayFollow pages known xs → MayFollow pages (last frozen_turn known xs) ys → MayFollow pages known (xs ++ ys)
may-join pages known [] ys one two = two
may-join pages known (x ∷ xs) ys one two = (one.0, one.1, may-join pages x.turn xs ys one.2 two)

-- and the turns that are pushed after it
pub all-may : (pages known turn : ℕ) (queue xs : List Frozen) (i : ImagePages) → MayWait known (waits_of queue) → AreWithin pages (pages_of (hand_all (waits_of queue) i).ahead) → known_after known (waits_of queue) ≡ turn → FollowOn pages turn xs
    → MayFollow pages known (queue ++ xs)
all-may pages known turn queue xs i waits within last_is follow =
    may-join pages known queue xs (queue-may pages known queue i waits within)
    (subst (λ (k : ℕ). MayFollow pages k xs) (sym last_is ∙ last-frozen known queue) (follow-may pages turn xs follow))

pub may-first : (pages known : ℕ) (xs ys : List Frozen) → MayFollow pages known (xs ++ ys) → MayFollow pages known xs
may-first pages known [] ys all = tt
may-first pages known (x ∷ xs) ys all = (all.0, all.1, may-first pages x.turn xs ys all.2)

pub may-later : (pages known : ℕ) (xs ys : List Frozen) → MayFollow pages known (xs ++ ys) → MayFollow pages (last frozen_turn known xs) ys
may-later pages known [] ys all = all
may-later pages known (x ∷ xs) ys all = may-later pages x.turn xs ys all.2
