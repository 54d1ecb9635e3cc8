-- Lists of views, and seats.
use Rattle.std.proofs.Common.{◌≡◌, ◌≢◌, ℕ, zero, suc, ◌⊎◌, ◌==◌, cond, List, [], ◌∷◌, ◌++◌, length, set, sym, refl, ap, subst, inl, inr, ⊎_elim}
use Rattle.std.proofs.lemmas.Bool.{eq-eqb, ne_eqb}
use mathlib.Core.Option.{Option, some, some-injective, some-ne-none}
use lib.ListN.{get_elem?}
use Rattle.crossbeam_queue.proofs.Lists.{at_set}

module _ {V : Type 0} where
  -- it holds at each place
  abbrev pub Each : (ℕ → V → Type 0) → List V → Type 0
  Each F views = (i : ℕ) (v : V) → get_elem? views i ≡ some v → F i v

  pub each_set : (F : ℕ → V → Type 0) (views : List V) (i : ℕ) (w : V) → F i w → ((j : ℕ) (u : V) → j ≢ i → get_elem? views j ≡ some u → F j u) → Each F (set views i w)
  each_set F views i w mine others j u e = ⊎_elim (λ (x : (j ≡ i) × (w ≡ u)). subst (λ (y : ℕ × V). F y.0 y.1) (λ k. (sym x.0 k, x.1 k)) mine)
      (λ (x : (j ≢ i) × (get_elem? views j ≡ some u)). others j u x.0 x.1) (at_set views i j w u e)

-- one node has another seat
abbrev pub seated : ℕ → Option ℕ → (ℕ → Option ℕ) → ℕ → Option ℕ
seated node at seat p = cond (p == node) at (seat p)

pub seated_here : (node : ℕ) (at : Option ℕ) (seat : ℕ → Option ℕ) → seated node at seat node ≡ at
seated_here node at seat = rw (eq-eqb node node refl) refl

pub seated_else : (node : ℕ) (at : Option ℕ) (seat : ℕ → Option ℕ) (p : ℕ) → p ≢ node → seated node at seat p ≡ seat p
seated_else node at seat p other = rw (ne_eqb p node other) refl

module _ {V : Type 0} where
  -- an element of a list that is longer by one is an element of the shorter, or the last
  pub at_longer : (l : List V) (a b : V) (j : ℕ) → get_elem? (l ++ a ∷ []) j ≡ some b → (get_elem? l j ≡ some b) ⊎ ((j ≡ length l) × (a ≡ b))
  at_longer [] a b zero e = inr (refl, some-injective a b e)
  at_longer [] a b (suc j) e = absurd (some-ne-none b (sym e))
  at_longer (x ∷ xs) a b zero e = inl e
  at_longer (x ∷ xs) a b (suc j) e = ⊎_elim (λ t. inl t) (λ (t : (j ≡ length xs) × (a ≡ b)). inr (ap suc t.0, t.1)) (at_longer xs a b j e)
