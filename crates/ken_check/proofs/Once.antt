-- A report is judged in one way.
use Rattle.std.proofs.Common.{◌≡◌, ◌≢◌, ℕ, ◌+◌, List, [], ◌∷◌, ◌++◌, if◌then◌else◌, refl, sym, ◌∙◌, subst}
use Rattle.ken_model.specs.Game.{Game}
use Rattle.ken_model.specs.Report.{IsOneLine}
use Rattle.ken_check.specs.declared.verdict.Verdict.{Verdict}
use Rattle.ken_check.specs.declared.verdict.Verdict.TheVariants.{Right, Wrong}
use Rattle.ken_check.specs.Judged.{IsJudgedFrom}
use Rattle.ken_check.specs.Judged.IsJudgedFrom.{right, right_line, wrong_line, missing, unfinished}
use Rattle.ken_check.specs.Laws.{JudgedOnce}
use Rattle.ken_check.specs.Right.{IsRightLine, Told}
use Rattle.ken_check.proofs.Splits.{one_split, no_split}
use Rattle.ken_check.proofs.Read.{read}

module _ (g : Game) (most : ℕ) where
  -- at the end of a report
  at_end : (n : ℕ) (told : Told) (bytes : List ℕ) (verdict : Verdict) → IsJudgedFrom g most n told bytes verdict → bytes ≡ [] → verdict ≡ (if told.ended then Right else Wrong n)
  at_end n told bytes verdict (right ended) none = rw ended refl
  at_end n told bytes verdict (right_line text rest one is later) none = absurd (no_split text rest [] tt (sym none))
  at_end n told bytes verdict (wrong_line text rest one never) none = absurd (no_split text rest [] tt (sym none))
  at_end n told bytes verdict (missing not_yet) none = rw not_yet refl
  at_end n told bytes verdict (unfinished one some) none = absurd (some none)

  -- at a line without its line feed
  at_unfinished : (n : ℕ) (told : Told) (bytes : List ℕ) (verdict : Verdict) → IsJudgedFrom g most n told bytes verdict → IsOneLine bytes → bytes ≢ [] → verdict ≡ Wrong n
  at_unfinished n told bytes verdict (right ended) one some = absurd (some refl)
  at_unfinished n told bytes verdict (right_line text rest one' is later) one some = absurd (no_split text rest _ one refl)
  at_unfinished n told bytes verdict (wrong_line text rest one' never) one some = refl
  at_unfinished n told bytes verdict (missing not_yet) one some = refl
  at_unfinished n told bytes verdict (unfinished one' some') one some = refl

  module _ (n : ℕ) (told : Told) (text rest : List ℕ) (one : IsOneLine text) where
    -- at a wrong line
    at_wrong : (bytes : List ℕ) (verdict : Verdict) → IsJudgedFrom g most n told bytes verdict → bytes ≡ text ++ 10 ∷ rest
        → ((told2 : Told) → IsRightLine g most told (text ++ 10 ∷ []) told2 → ⊥) → verdict ≡ Wrong n
    at_wrong bytes verdict (right ended) is never = absurd (no_split text rest [] tt is)
    at_wrong bytes verdict (right_line {told2 = told2} text' rest' one' is' later) is never =
        let same = one_split text' text rest' rest one' one is in
        absurd (never told2 (subst (λ (l : List ℕ). IsRightLine g most told (l ++ 10 ∷ []) told2) same.texts is'))
    at_wrong bytes verdict (wrong_line text' rest' one' never') is never = refl
    at_wrong bytes verdict (missing not_yet) is never = refl
    at_wrong bytes verdict (unfinished one' some) is never = refl

    -- after a right line
    after_right : (told2 : Told) (bytes : List ℕ) (verdict : Verdict) → IsJudgedFrom g most n told bytes verdict → bytes ≡ text ++ 10 ∷ rest
        → IsRightLine g most told (text ++ 10 ∷ []) told2 → IsJudgedFrom g most (n + 1) told2 rest verdict
    after_right told2 bytes verdict (right ended) is line = absurd (no_split text rest [] tt is)
    after_right told2 bytes verdict (right_line {told2 = other} text' rest' one' line' later) is line =
        let same = one_split text' text rest' rest one' one is in
        let line'' = subst (λ (l : List ℕ). IsRightLine g most told (l ++ 10 ∷ []) other) same.texts line' in
        let told_same : other ≡ told2 = read g most told other (text ++ 10 ∷ []) line'' ∙ sym (read g most told told2 (text ++ 10 ∷ []) line) in
        subst (λ (l : List ℕ). IsJudgedFrom g most (n + 1) told2 l verdict) same.rests (subst (λ (t : Told). IsJudgedFrom g most (n + 1) t rest' verdict) told_same later)
    after_right told2 bytes verdict (wrong_line text' rest' one' never) is line =
        let same = one_split text' text rest' rest one' one is in
        absurd (never told2 (subst (λ (l : List ℕ). IsRightLine g most told (l ++ 10 ∷ []) told2) (sym same.texts) line))
    after_right told2 bytes verdict (missing not_yet) is line = absurd (no_split text rest [] tt is)
    after_right told2 bytes verdict (unfinished one' some) is line = absurd (no_split text rest bytes one' is)

  -- by induction over one of two judgements
  once : (n : ℕ) (told : Told) (bytes : List ℕ) (a b : Verdict) → IsJudgedFrom g most n told bytes a → IsJudgedFrom g most n told bytes b → a ≡ b
  once n told bytes a b (right ended) other = sym (at_end n told [] b other refl ∙ rw ended refl)
  once n told bytes a b (right_line {told2 = told2} text rest one line later) other = once (n + 1) told2 rest a b later (after_right n told text rest one told2 bytes b other refl line)
  once n told bytes a b (wrong_line text rest one never) other = sym (at_wrong n told text rest one bytes b other refl never)
  once n told bytes a b (missing not_yet) other = sym (at_end n told [] b other refl ∙ rw not_yet refl)
  once n told bytes a b (unfinished one some) other = sym (at_unfinished n told bytes b other one some)

-- a report is judged in one way
pub judged_once : JudgedOnce
judged_once g most bytes a b = once g most 1 _ bytes a b
