-- What is known of a report that is judged while it comes in.
use Rattle.std.specs.Prelude.{◌≡◌, ℕ, ◌+◌, ◌-◌, ◌≤◌, ◌^◌, min, List, [], ◌++◌, length, true, false}
use Rattle.ken_model.specs.Game.{Game}
use Rattle.ken_model.specs.Handler.{Handler}
use Rattle.ken_model.specs.Report.{IsOneLine}
use Rattle.ken_actors.specs.Decided.{IsDecided}
use Rattle.ken_check.specs.declared.judging.Judging.{Judging}
use Rattle.ken_check.specs.declared.verdict.Verdict.{Verdict}
use Rattle.ken_check.specs.declared.verdict.Verdict.TheVariants.{Wrong}
use Rattle.ken_check.specs.Judged.{IsJudged, IsJudgedFrom}
use Rattle.ken_check.specs.Knowing.{Follows}
use Rattle.ken_check.specs.Right.{Told}

-- no line was wrong so far, and line n was begun: as it and what may come are judged, after what was told, so is the whole
pub record IsOpen {P H : Type 0} (handler : P → Handler) (g : Game) (most : ℕ) (seen : List ℕ) (n : ℕ) (j : Judging P H) : Type 0 where
  pub told : Told
  pub follows : Follows handler g most j.reader told
  pub one_line : IsOneLine j.begun.items
  pub judged : (more : List ℕ) (verdict : Verdict) → IsJudgedFrom g most n told (j.begun.items ++ more) verdict → IsJudged g most (seen ++ more) verdict

-- line n was wrong: whatever may come, the whole is judged so, where the handler decides its draws as they are drawn
abbrev pub IsWrongAt : Game → ℕ → List ℕ → ℕ → Type 0
IsWrongAt g most seen n = IsDecided g.handler → (more : List ℕ) → IsJudged g most (seen ++ more) (Wrong n)

-- so much of a report was read, up to a line of that number; the count of lines stands still at its last value
pub record HasRead {P H : Type 0} (handler : P → Handler) (g : Game) (most : ℕ) (seen : List ℕ) (j : Judging P H) : Type 0 where
  pub number : ℕ
  pub few : number ≤ length seen + 1
  pub counted : j.line ≡ min number (2 ^ 64 - 1)
  pub open_yet : j.wrong ≡ false → IsOpen handler g most seen number j
  pub wrong : j.wrong ≡ true → IsWrongAt g most seen number

-- some of a report was
pub record IsUnderWay {P H : Type 0} (handler : P → Handler) (j : Judging P H) : Type 0 where
  pub game : Game
  pub most : ℕ
  pub seen : List ℕ
  pub read : HasRead handler game most seen j

-- ---- on the way to it

-- these bytes are part of the line that is read
pub record IsInLine {P H : Type 0} (bytes : List ℕ) (j : Judging P H) : Type 0 where
  pub right : j.wrong ≡ false
  pub one_line : IsOneLine bytes

-- and they end it
pub record EndsLine {P H : Type 0} (handler : P → Handler) (bytes : List ℕ) (j : Judging P H) : Type 0 where
  pub right : j.wrong ≡ false
  pub one_line : IsOneLine bytes
  pub under_way : IsUnderWay handler j

-- what was read is all of a report that is right
pub record IsWhole {P H : Type 0} (j : Judging P H) : Type 0 where
  pub right : j.wrong ≡ false
  pub ended : j.reader.checker.ended ≡ true
  pub finished : j.begun.items ≡ []
