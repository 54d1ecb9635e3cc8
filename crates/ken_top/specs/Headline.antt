-- What a whole run of a program reads and writes, and what its world keeps.
use Rattle.std.specs.Prelude.{◌≡◌, ◌≢◌, ◌≤◌, ◌⊎◌, ℕ, List, [], ◌++◌, Option, Some, None, ⊤}
use Rattle.std.specs.Io.KnownBytes.{Appends}
use Rattle.ken_model.specs.declared.reports.Ending.{Ending}
use Rattle.ken_model.specs.declared.reports.Ending.TheVariants.{Settled, Cut}
use Rattle.ken_model.specs.declared.reports.Lines.{Lines}
use Rattle.ken_model.specs.Emissions.{AreLegalEmissions, AreByNode}
use Rattle.ken_model.specs.Ending.{Ends}
use Rattle.ken_model.specs.Report.{report, text}
use Rattle.ken_model.specs.Schedule.{IsLegal, play}
use Rattle.ken_model.specs.Spelling.{spell}
use Rattle.ken_model.specs.Restarts.{AreRestartsByNode}
use Rattle.ken_check.specs.declared.verdict.Verdict.TheVariants.{Right}
use Rattle.ken_check.specs.Judged.{IsJudged}
use Rattle.ken_io.specs.Transfers.{AppendsFront}
use Rattle.ken_script.specs.declared.scripts.Script.{Script}
use Rattle.ken_store.specs.declared.disks.Disks.{Disks}
use Rattle.ken_drive.specs.Driven.{HasDriven, HasGoneDown, KeepsRun, MadeRounds, Views}
use Rattle.ken_drive.specs.Sparing.{IsSpared, LetsGoDown}
use Rattle.ken_drive.specs.Starting.{terms_of}
use Rattle.ken_drive.specs.Worlds.{HasKeptNothing}
use Rattle.ken_io.specs.Causes.{Rose}
use Rattle.ken_top.specs.Programs.{Program, SaysTo, BreaksTo, handler_in, game_in}
use Rattle.ken_top.specs.declared.status.Status.{Status}
use Rattle.ken_top.specs.declared.status.Status.TheVariants as status

-- the bytes that a source gives, where it tells them
abbrev pub AreTold : Option (List ℕ) → List ℕ → Type 0
AreTold None b = ⊤
AreTold (Some xs) b = b ≡ xs

module _ {D O U : Type 0} (program : Program) (made : ℕ → ℕ) (views : Views D O U)
    (kept : ℕ → Option (Disks D × O × U)) where
  -- w is the report of a failure-free run of what b says. The run is the one that w spells: its schedule is legal, its
  -- turns, heaps and ending are those of playing the schedule, its emissions are legal and stand node by node, and so do its
  -- restarts, which are of nodes of the run; the devices that are kept show it, and the rounds that were made of those that
  -- the script asks for; and each line is right, as a check judges them
  pub record IsReport (b : List ℕ) (ending : Ending) (w : List ℕ) : Type 0 where
    pub script : Script
    pub says : SaysTo program b script
    pub text : w ≡ report (game_in program script) (spell w).schedule (spell w).emissions (spell w).restarts ending
    pub legal : IsLegal (game_in program script) (spell w).schedule
    pub emissions : AreLegalEmissions (game_in program script) (play (game_in program script) (spell w).schedule) (spell w).emissions
    pub by_node : AreByNode 0 (spell w).emissions
    pub restarts : AreRestartsByNode script.facts.nodes 0 (spell w).restarts
    pub ends : Ends (game_in program script) (play (game_in program script) (spell w).schedule) (spell w).emissions ending
    pub keeps : KeepsRun views (game_in program script) (terms_of views.scripted script) (spell w).schedule (spell w).emissions (spell w).restarts kept
    pub rounds : MadeRounds views.told (made script.rounds) (spell w).restarts kept
    pub right : IsJudged (game_in program script) script.restarts w Right

  -- w is a front of such a report
  pub record IsFront (b w : List ℕ) : Type 0 where
    pub rest : List ℕ
    pub ending : Ending
    pub whole : IsReport b ending (w ++ rest)

  -- node v of what b says has gone down, as its devices show, and those of each node that was made are kept
  pub record IsDown (b : List ℕ) (v : ℕ) : Type 0 where
    pub script : Script
    pub says : SaysTo program b script
    pub down : HasGoneDown views (game_in program script) (terms_of views.scripted script) v kept

  -- what each status says of the bytes that were read, of those that were written, and of the devices that were kept. The disks of a
  -- world keep the model of a disk, so none is ever damaged, and no file is used
  abbrev pub Wrote : List ℕ → List ℕ → Status → Type 0
  Wrote b w status.Settled = IsReport b Settled w
  Wrote b w status.Cut = IsReport b Cut w
  Wrote b w (status.Script rule index) = (w ≡ []) × HasKeptNothing kept × BreaksTo program b rule index
  Wrote b w status.Usage = (w ≡ []) × HasKeptNothing kept
  Wrote b w (status.Damaged v disk place) = ⊥
  Wrote b w (status.Down v) = (w ≡ []) × IsDown b v
  Wrote b w status.Read = (w ≡ []) × HasKeptNothing kept
  Wrote b w status.Write = IsFront b w
  Wrote b w status.Memory = ((w ≡ []) × HasKeptNothing kept) ⊎ IsFront b w
  Wrote b w status.Checked = ⊥
  Wrote b w (status.Wrong line) = ⊥
  Wrote b w status.Long = ⊥
  Wrote b w status.Dumped = ⊥
  Wrote b w (status.Open v disk) = ⊥
  Wrote b w (status.Device v disk) = ⊥

  -- what a run of the program had to read, what it wrote, and what its world kept
  pub record Ran (left took_old took_new : Option (List ℕ)) (status : Status) : Type 0 where
    pub read : List ℕ
    pub written : List ℕ
    pub told : AreTold left read
    pub out : Appends took_old took_new written
    pub wrote : Wrote read written status

  -- the lines of the run that the bytes of a source say
  pub record IsRunOfSource (left : Option (List ℕ)) (l : Lines) : Type 0 where
    pub read : List ℕ
    pub told : AreTold left read
    pub script : Script
    pub says : SaysTo program read script
    pub driven : HasDriven views (handler_in program script) script (made script.rounds) kept l

  -- why there are none
  abbrev pub IsRefusal : Option (List ℕ) → Status → Type 0
  IsRefusal left (status.Script rule index) = (b : List ℕ) × AreTold left b × BreaksTo program b rule index × HasKeptNothing kept
  IsRefusal left (status.Down v) = (b : List ℕ) × AreTold left b × IsDown b v
  IsRefusal left status.Read = HasKeptNothing kept
  IsRefusal left status.Memory = HasKeptNothing kept
  IsRefusal left status.Settled = ⊥
  IsRefusal left status.Cut = ⊥
  IsRefusal left (status.Damaged v disk place) = ⊥
  IsRefusal left status.Usage = ⊥
  IsRefusal left status.Write = ⊥
  IsRefusal left status.Checked = ⊥
  IsRefusal left (status.Wrong line) = ⊥
  IsRefusal left status.Long = ⊥
  IsRefusal left status.Dumped = ⊥
  IsRefusal left (status.Open v disk) = ⊥
  IsRefusal left (status.Device v disk) = ⊥

-- ---- on the way to it

-- the script that the bytes of a source say
pub record IsScriptOf (program : Program) (left : Option (List ℕ)) (script : Script) : Type 0 where
  pub read : List ℕ
  pub told : AreTold left read
  pub says : SaysTo program read script

-- why there is none
abbrev pub IsUnsaid : Program → Option (List ℕ) → Status → Type 0
IsUnsaid program left (status.Script rule index) = (b : List ℕ) × AreTold left b × BreaksTo program b rule index
IsUnsaid program left status.Read = ⊤
IsUnsaid program left status.Memory = ⊤
IsUnsaid program left _ = ⊥

-- what was read says a script that lets node v go down
pub record IsLetDown (program : Program) (left : Option (List ℕ)) (v : ℕ) : Type 0 where
  pub read : List ℕ
  pub told : AreTold left read
  pub script : Script
  pub says : SaysTo program read script
  pub lets : LetsGoDown script v

-- so where a status tells a node as down
abbrev pub IsLet : Program → Option (List ℕ) → Status → Type 0
IsLet program left (status.Down v) = IsLetDown program left v
IsLet program left _ = ⊤

-- a status with which nothing is written
abbrev pub IsQuiet : Status → Type 0
IsQuiet status.Usage = ⊤
IsQuiet (status.Script rule index) = ⊤
IsQuiet (status.Damaged v disk place) = ⊤
IsQuiet (status.Down v) = ⊤
IsQuiet status.Read = ⊤
IsQuiet status.Settled = ⊥
IsQuiet status.Cut = ⊥
IsQuiet status.Write = ⊥
IsQuiet status.Memory = ⊥
IsQuiet status.Checked = ⊥
IsQuiet (status.Wrong line) = ⊤
IsQuiet status.Long = ⊤
IsQuiet status.Dumped = ⊥
IsQuiet (status.Open v disk) = ⊤
IsQuiet (status.Device v disk) = ⊤

-- a status with which a run has ended, or memory was short
abbrev pub IsEnd : Status → Type 0
IsEnd status.Settled = ⊤
IsEnd status.Cut = ⊤
IsEnd status.Memory = ⊤
IsEnd _ = ⊥

-- if a source tells a script that lets no node go down, its run ends, or memory is short
abbrev pub IsComplete : Program → Option (List ℕ) → Status → Type 0
IsComplete program None s = ⊤
IsComplete program (Some b) s = (script : Script) → SaysTo program b script → IsSpared script → IsEnd s

-- a report is out as its run ended, or a front of it
abbrev pub IsOut : Option (List ℕ) → Option (List ℕ) → Lines → Status → Type 0
IsOut old new l status.Settled = (l.ending ≡ Settled) × Appends old new (text l)
IsOut old new l status.Cut = (l.ending ≡ Cut) × Appends old new (text l)
IsOut old new l status.Write = AppendsFront old new (text l)
IsOut old new l status.Memory = AppendsFront old new (text l)
IsOut old new l _ = ⊥

-- a text is out, with this status, or a front of it
abbrev pub IsTextOut : List ℕ → Status → Option (List ℕ) → Option (List ℕ) → Status → Type 0
IsTextOut text done old new answer =
    ((answer ≡ done) × Appends old new text) ⊎ ((answer ≡ status.Write) × AppendsFront old new text)

-- why reading or writing failed, by the counts of faults of a source and a sink: each never falls, and rises in a call that answers so, and in no
-- other
pub record HasCauses (source source2 sink sink2 : ℕ) (s : Status) : Type 0 where
  pub read : s ≡ status.Read → Rose source source2
  pub write : s ≡ status.Write → Rose sink sink2
  pub source_rises : source ≤ source2
  pub sink_rises : sink ≤ sink2
  pub no_failed_read : s ≢ status.Read → source2 ≡ source
  pub no_failed_write : s ≢ status.Write → sink2 ≡ sink
