-- What `check` answers: whether a report is right for its script, or which is its first wrong line.
use Rattle.std.specs.Prelude.{◌≡◌, ℕ, ◌<◌, ◌≤◌, List, [], ◌∷◌, ◌++◌, length, take, drop, Option, codes}
use Rattle.std.specs.Io.KnownBytes.{Appends}
use Rattle.ken_model.specs.History.{IsPrefixOf}
use Rattle.ken_script.specs.declared.scripts.Script.{Script}
use Rattle.ken_check.specs.declared.verdict.Verdict.{Verdict}
use Rattle.ken_check.specs.declared.verdict.Verdict.TheVariants.{Right, Wrong}
use Rattle.ken_check.specs.Judged.{IsJudged}
use Rattle.ken_top.specs.Headline.{AreTold}
use Rattle.ken_top.specs.Programs.{Program, SaysTo, BreaksTo, IsSure, game_in}
use Rattle.ken_top.specs.declared.checking.TheConstants.{MOST_INPUT}
use Rattle.ken_top.specs.declared.status.Status.{Status}
use Rattle.ken_top.specs.declared.status.Status.TheVariants as status

-- what is written of a report that is right
abbrev pub yes : List ℕ
yes = codes "yes" ++ 10 ∷ []

-- a report is judged so: that it is right, or, where the program is sure, which is its first wrong line
abbrev pub IsJudgedTo : Program → Script → List ℕ → Verdict → Type 0
IsJudgedTo program script report Right = IsJudged (game_in program script) script.restarts report Right
IsJudgedTo program script report (Wrong line) = IsSure program → IsJudged (game_in program script) script.restarts report (Wrong line)

-- of these bytes the first `size` are a script, all of them where there are fewer, and the rest is a report
module _ (program : Program) (b : List ℕ) (size : ℕ) where
  -- they aren't too many, the script keeps its rules, and the report is judged so
  pub record IsJudgedAs (verdict : Verdict) : Type 0 where
    pub few : length b ≤ MOST_INPUT
    pub script : Script
    pub says : SaysTo program (take size b) script
    pub judged : IsJudgedTo program script (drop size b) verdict

  -- what each status says of them, and of what was written
  abbrev pub Answers : List ℕ → Status → Type 0
  Answers w status.Checked = (w ≡ yes) × IsJudgedAs Right
  Answers w (status.Wrong line) = (w ≡ []) × IsJudgedAs (Wrong line)
  Answers w status.Long = (w ≡ []) × (MOST_INPUT < length b)
  Answers w (status.Script rule index) = (w ≡ []) × (length b ≤ MOST_INPUT) × BreaksTo program (take size b) rule index
  Answers w status.Read = w ≡ []
  Answers w status.Write = IsPrefixOf w yes × IsJudgedAs Right
  Answers w status.Memory = w ≡ []
  Answers w status.Settled = ⊥
  Answers w status.Cut = ⊥
  Answers w status.Usage = ⊥
  Answers w (status.Damaged v disk place) = ⊥
  Answers w (status.Down v) = ⊥
  Answers w status.Dumped = ⊥
  Answers w (status.Open v disk) = ⊥
  Answers w (status.Device v disk) = ⊥

-- what was there to read, and what was written
pub record Checks (program : Program) (size : ℕ) (left took_old took_new : Option (List ℕ)) (answer : Status) : Type 0 where
  pub read : List ℕ
  pub written : List ℕ
  pub told : AreTold left read
  pub out : Appends took_old took_new written
  pub answers : Answers program read size written answer

-- ---- on the way to it

-- the report that a source gives is judged so
pub record IsJudgedOf (program : Program) (size : ℕ) (left : Option (List ℕ)) (verdict : Verdict) : Type 0 where
  pub read : List ℕ
  pub told : AreTold left read
  pub judged : IsJudgedAs program read size verdict

-- why it isn't judged
abbrev pub IsRefused : Program → ℕ → Option (List ℕ) → Status → Type 0
IsRefused program size left answer = (b : List ℕ) × AreTold left b × Answers program b size [] answer
