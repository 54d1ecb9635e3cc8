-- Tests that are joined by an `or`.
use Rattle.std.proofs.Common.{◌≡◌, ℕ, ◌<◌, ◌≤◌, ◌⊎◌, Bool, true, false, not, leb, ltb, eqb, inl, inr, refl, sym, ◌∙◌, subst, arith}
use Rattle.std.specs.Prelude.{◌↔◌, IsTrue}
use Rattle.std.proofs.lemmas.Bool.{false≢true, le-leb, leb-true, lt-ltb, ltb-true, eq-eqb, eqb-true}

-- what joins them, where the first held
pub either_first : (a v : Bool) (P Q : Type 0) → a ≡ true → v ≡ a → IsTrue a ↔ P → IsTrue v ↔ (P ⊎ Q)
either_first a v P Q holds is first = (λ t. inl (first.0 holds), λ x. is ∙ holds)

-- and where it didn't
pub either_second : (a b v : Bool) (P Q : Type 0) → a ≡ false → v ≡ b → IsTrue a ↔ P → IsTrue b ↔ Q → IsTrue v ↔ (P ⊎ Q)
either_second a b v P Q fails is first second = (
  λ t. inr (second.0 (sym is ∙ t)),
  λ x. elim x as (λ y. IsTrue v) [ inl p ↦ absurd (false≢true (sym fails ∙ first.1 p)) | inr q ↦ is ∙ second.1 q ],
)

-- the same fact in other words
pub also_is : (v : Bool) (P Q : Type 0) → IsTrue v ↔ P → (P → Q) → (Q → P) → IsTrue v ↔ Q
also_is v P Q is there back = (λ t. there (is.0 t), λ q. is.1 (back q))

-- tests of a number r, which is n
pub reads_least : (k r n : ℕ) → r ≡ n → IsTrue (leb k r) ↔ (k ≤ n)
reads_least k r n is = (λ t. subst (λ (m : ℕ). k ≤ m) is (leb-true k r t), λ le. le-leb k r (subst (λ (m : ℕ). k ≤ m) (sym is) le))

pub reads_above : (k r n : ℕ) → r ≡ n → IsTrue (ltb k r) ↔ (k < n)
reads_above k r n is = (λ t. subst (λ (m : ℕ). k < m) is (ltb-true k r t), λ lt. lt-ltb k r (subst (λ (m : ℕ). k < m) (sym is) lt))

pub reads_last : (top r n : ℕ) → r ≡ n → r ≤ top → IsTrue (eqb r top) ↔ (top ≤ n)
reads_last top r n is most = (λ t. omega (arith, eqb-true r top t), λ le. eq-eqb r top (omega arith))

pub reads_past : (b : Bool) (n k : ℕ) → IsTrue b ↔ (n < k) → IsTrue (not b) ↔ (k ≤ n)
reads_past true n k is = (λ t. absurd (false≢true t), λ le. absurd (omega (arith, is.0 refl)))
reads_past false n k is = (λ t. not_below n k (λ lt. false≢true (is.1 lt)), λ le. refl)
  where
    not_below : (n k : ℕ) → (n < k → ⊥) → k ≤ n
    not_below n k h = omega (arith, h)
