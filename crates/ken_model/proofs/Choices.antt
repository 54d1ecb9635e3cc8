-- Which of two values a test chooses.
use Rattle.std.proofs.Common.{◌≡◌, ℕ, suc, ◌<◌, ◌≤◌, Bool, true, false, cond, ltb, ◌⊎◌, inl, inr, sym, ap, subst, arith}
use Rattle.std.proofs.lemmas.Bool.Decides.{leb_tells}

pub lt_cases : (a b : ℕ) → ((ltb a b ≡ true) × (a < b)) ⊎ ((ltb a b ≡ false) × (b ≤ a))
lt_cases a b = elim (leb_tells (suc a) b) [
  | inl t ↦ inl (t.0, omega (arith, t.1))
  | inr f ↦ inr (f.0, omega (arith, f.1))
]

-- the chosen one of two
pub at_true : {X : Type 0} (P : X → Type 0) (t : Bool) (x y : X) → t ≡ true → P x → P (cond t x y)
at_true P t x y e p = subst (λ (s : Bool). P (cond s x y)) (sym e) p

pub at_false : {X : Type 0} (P : X → Type 0) (t : Bool) (x y : X) → t ≡ false → P y → P (cond t x y)
at_false P t x y e p = subst (λ (s : Bool). P (cond s x y)) (sym e) p

pub is_true : {X : Type 0} (t : Bool) (x y : X) → t ≡ true → cond t x y ≡ x
is_true t x y e = ap (λ (s : Bool). cond s x y) e

pub is_false : {X : Type 0} (t : Bool) (x y : X) → t ≡ false → cond t x y ≡ y
is_false t x y e = ap (λ (s : Bool). cond s x y) e
