-- Whole pages of a heap, as frames that are shared.
use Rattle.std.proofs.Common.{ℕ, zero, suc, ◌<◌, List, [], ◌∷◌, length, Bool, true, false, IsTrue, MatchBool, refl, arith}
use Rattle.std.specs.List.{AllWithin, HoldsAt}
use Rattle.std.specs.declared.sync.Arc.{Arc}
use Rattle.ken_cover.specs.Overlay.{AreWithin, IsWithin}
use Rattle.ken_store.specs.Ahead.{frame_page, frame_pages}

module _ {Z : Type 0} where
  -- a frame as a page of a heap of n pages
  abbrev pub Lies : ℕ → ℕ × Arc (List ℕ) Z → Type 0
  Lies n e = IsWithin n (frame_page e)

  abbrev pub LiesOutside : ℕ → ℕ × Arc (List ℕ) Z → Type 0
  LiesOutside n e = Lies n e → ⊥

  all_within : (n : ℕ) (es : List (ℕ × Arc (List ℕ) Z)) → AllWithin (Lies n) es 0 (length es) → AreWithin n (frame_pages es)
  all_within n [] all = tt
  all_within n (e ∷ es) all = (all 0 e (omega arith) (omega arith), all_within n es (λ k d low high. all (suc k) d (omega arith) (omega arith)))

  one_outside : (n : ℕ) (es : List (ℕ × Arc (List ℕ) Z)) (k : ℕ) → k < length es → HoldsAt (LiesOutside n) es k → AreWithin n (frame_pages es) → ⊥
  one_outside n [] k lt out all = absurd (omega arith)
  one_outside n (e ∷ es) zero lt out all = out e all.0
  one_outside n (e ∷ es) (suc k) lt out all = one_outside n es k (omega arith) out all.1

  -- a test of each of them
  pub within_by_cases : (n : ℕ) (es : List (ℕ × Arc (List ℕ) Z)) (r : Bool) → MatchBool r (AllWithin (Lies n) es 0 (length es)) ((k : ℕ) × (k < length es) × HoldsAt (LiesOutside n) es k)
      → (IsTrue r → AreWithin n (frame_pages es)) × (AreWithin n (frame_pages es) → IsTrue r)
  within_by_cases n es true cases = (λ _. all_within n es cases, λ _. refl)
  within_by_cases n es false cases = (λ yes. absurd cc, λ all. absurd (one_outside n es cases.0 cases.1 cases.2 all))
