-- What a report is judged as: right, or wrong at its first line that is wrong.
use Rattle.std.specs.Prelude.{◌≡◌, ◌≢◌, ℕ, ◌+◌, List, [], ◌∷◌, ◌++◌, true, false}
use Rattle.ken_model.specs.Game.{Game}
use Rattle.ken_model.specs.Report.{IsOneLine}
use Rattle.ken_actors.specs.Decided.{IsDecided}
use Rattle.ken_check.specs.declared.verdict.Verdict.{Verdict}
use Rattle.ken_check.specs.declared.verdict.Verdict.TheVariants.{Right, Wrong}
use Rattle.ken_check.specs.Right.{IsRightLine, Told, nothing_told}

-- the rest of a report, from line n on, after what its lines told before. It is right where each line is and the end line is the last. A line
-- that is missing is missed in the place of the next; one without a line feed is wrong, and so is one that follows the end
pub data IsJudgedFrom (g : Game) (most : ℕ) : ℕ → Told → List ℕ → Verdict → Type 0 where
  right : {n : ℕ} {told : Told} → told.ended ≡ true → IsJudgedFrom g most n told [] Right
  right_line : {n : ℕ} {told told2 : Told} {verdict : Verdict} → (text rest : List ℕ) → IsOneLine text → IsRightLine g most told (text ++ 10 ∷ []) told2
      → IsJudgedFrom g most (n + 1) told2 rest verdict → IsJudgedFrom g most n told (text ++ 10 ∷ rest) verdict
  wrong_line : {n : ℕ} {told : Told} → (text rest : List ℕ) → IsOneLine text → ((told2 : Told) → IsRightLine g most told (text ++ 10 ∷ []) told2 → ⊥)
      → IsJudgedFrom g most n told (text ++ 10 ∷ rest) (Wrong n)
  missing : {n : ℕ} {told : Told} → told.ended ≡ false → IsJudgedFrom g most n told [] (Wrong n)
  unfinished : {n : ℕ} {told : Told} {text : List ℕ} → IsOneLine text → text ≢ [] → IsJudgedFrom g most n told text (Wrong n)

-- a report of a run of this game, whose nodes may be restarted so often; its lines count from 1
abbrev pub IsJudged : Game → ℕ → List ℕ → Verdict → Type 0
IsJudged g most bytes verdict = IsJudgedFrom g most 1 nothing_told bytes verdict

-- the same as far as a player's run tells: that a line is wrong is said only where the game's handler decides its draws as they are drawn
abbrev pub IsJudgedBy : Game → ℕ → List ℕ → Verdict → Type 0
IsJudgedBy g most bytes Right = IsJudged g most bytes Right
IsJudgedBy g most bytes (Wrong n) = IsDecided g.handler → IsJudged g most bytes (Wrong n)
