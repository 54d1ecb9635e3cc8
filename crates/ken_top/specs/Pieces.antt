-- What is read of the input of a check, piece by piece, and what is answered of it.
use Rattle.std.specs.Prelude.{◌≡◌, ℕ, ◌+◌, ◌-◌, ◌<◌, ◌≤◌, List, ◌++◌, length, Option, ⊤}
use Rattle.std.specs.Io.KnownBytes.{Consumes, IsAtEnd}
use Rattle.ken_model.specs.Game.{Game}
use Rattle.ken_model.specs.Handler.{Handler}
use Rattle.ken_script.specs.declared.faults.ScriptFault.{ScriptFault}
use Rattle.ken_script.specs.declared.scripts.Script.{Script}
use Rattle.ken_check.specs.declared.judging.Judging.{Judging}
use Rattle.ken_check.specs.declared.verdict.Verdict.{Verdict}
use Rattle.ken_check.specs.Incoming.{HasRead}
use Rattle.ken_top.specs.Checked.{IsJudgedTo}
use Rattle.ken_top.specs.Programs.{Program}
use Rattle.ken_top.specs.Statuses.{of_script}
use Rattle.ken_top.specs.declared.checking.TheConstants.{MOST_INPUT}
use Rattle.ken_top.specs.declared.status.Status.{Status}
use Rattle.ken_top.specs.declared.status.Status.TheVariants as status

-- a source gave these bytes, and fewer than `room` only where no more are left
pub record HasGivenThese (room : ℕ) (old new : Option (List ℕ)) (bytes : List ℕ) : Type 0 where
  pub given : Consumes old new bytes
  pub ended : length bytes < room → IsAtEnd new

-- a source gave so many bytes
pub record HasCome (old new : Option (List ℕ)) (count : ℕ) : Type 0 where
  pub bytes : List ℕ
  pub given : Consumes old new bytes
  pub counted : length bytes ≡ count

-- and they were judged
pub record HasJudged {P H : Type 0} (handler : P → Handler) (old new : Option (List ℕ)) (before now : Judging P H) (count : ℕ) : Type 0 where
  pub bytes : List ℕ
  pub given : Consumes old new bytes
  pub counted : length bytes ≡ count
  pub judged : (g : Game) (most : ℕ) (seen : List ℕ) → HasRead handler g most seen before → HasRead handler g most (seen ++ bytes) now

-- how many bytes are to be read behind a script of so many, where `size` were asked for: none where the input has ended, and else all that
-- may be checked, and one
pub record IsRoomBehind (count size room : ℕ) : Type 0 where
  pub ended : count < size → room ≡ 0
  pub open_yet : size ≤ count → room + count ≡ MOST_INPUT + 1

-- what was left is a report of a run of this script, which is judged so, and doesn't take all the room
pub record IsReportJudged (program : Program) (script : Script) (room : ℕ) (old new : Option (List ℕ)) (verdict : Verdict) : Type 0 where
  pub report : List ℕ
  pub given : HasGivenThese room old new report
  pub few : length report ≤ room - 1
  pub judged : IsJudgedTo program script report verdict

-- it takes all the room
pub record IsLong (room : ℕ) (old new : Option (List ℕ)) : Type 0 where
  pub bytes : List ℕ
  pub given : HasGivenThese room old new bytes
  pub some : 0 < room
  pub long : room ≤ length bytes

-- why it isn't judged
abbrev pub IsReportRefused : ℕ → Option (List ℕ) → Option (List ℕ) → Status → Type 0
IsReportRefused room old new status.Read = ⊤
IsReportRefused room old new status.Memory = ⊤
IsReportRefused room old new status.Long = IsLong room old new
IsReportRefused room old new _ = ⊥

-- nor is it where the script has this fault
pub data IsScriptRefused (fault : ScriptFault) (room : ℕ) (old new : Option (List ℕ)) : Status → Type 0 where
  unread : IsScriptRefused fault room old new status.Read
  long : IsLong room old new → IsScriptRefused fault room old new status.Long
  faulty : (bytes : List ℕ) → HasGivenThese room old new bytes → length bytes ≤ room - 1 → IsScriptRefused fault room old new (of_script fault)
