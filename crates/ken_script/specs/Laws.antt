-- What holds of the words of this crate alone.
use Rattle.std.specs.Prelude.{◌≡◌, ℕ, ◌+◌, List, take}
use Rattle.ken_script.specs.declared.scripts.TheConstants.{LIMIT}
use Rattle.ken_script.specs.declared.scripts.Script.{Script}

-- a language of scripts, by what a text says and by the rule that it breaks, and where. One byte past the longest script tells that a text is
-- too long, so the first bytes up to it tell both. A text that says a script breaks no rule; it breaks one at one place, or says one script
pub record IsLanguage (says : List ℕ → Script → Type 0) (breaks : List ℕ → ℕ → ℕ → Type 0) : Type 0 where
  pub breaks_by_front : (b : List ℕ) (rule index : ℕ) → breaks (take (LIMIT + 1) b) rule index → breaks b rule index
  pub says_by_front : (b : List ℕ) (s : Script) → says (take (LIMIT + 1) b) s → says b s
  pub says_or_breaks : (b : List ℕ) (s : Script) (rule index : ℕ) → says b s → breaks b rule index → ⊥
  pub breaks_once : (b : List ℕ) (rule index rule' index' : ℕ) → breaks b rule index → breaks b rule' index' → (rule ≡ rule') × (index ≡ index')
  pub says_once : (b : List ℕ) (s s' : Script) → says b s → says b s' → s ≡ s'
