-- What a call of a program does, by the command that its words ask for.
use Rattle.std.specs.Prelude.{◌≡◌, ◌≢◌, ◌⊎◌, ℕ, ◌+◌, ◌≤◌, List, Bool, true, Option, Some, None, Result, IfOk, IfErr, OnOk, IsErrOf}
use Rattle.ken_io.specs.declared.sinks.Sink as sink
use Rattle.ken_io.specs.declared.sources.Source as source
use Rattle.ken_io.specs.Causes.{Rose}
use Rattle.ken_io.specs.Transfers.{TakesAtMost}
use Rattle.ken_model.specs.declared.reports.Lines.{Lines}
use Rattle.ken_script.specs.declared.scripts.TheConstants.{LIMIT}
use Rattle.ken_words.specs.declared.commands.Command.{Command}
use Rattle.ken_words.specs.declared.commands.Command.TheVariants.{Run, Check, Torment, Soak, Save, Dump}
use Rattle.ken_files.specs.Filing.{FileViews, Filing, KeepsRoom}
use Rattle.ken_store.specs.declared.disks.Disks.{Disks}
use Rattle.ken_store.specs.declared.owner.Owner.{Owner}
use Rattle.ken_drive.specs.Driven.{Views}
use Rattle.ken_drive.specs.Saving.{AreSaved}
use Rattle.ken_top.specs.declared.status.Status.{Status}
use Rattle.ken_top.specs.declared.status.Status.TheVariants as status
use Rattle.ken_top.specs.Checked.{Checks}
use Rattle.ken_top.specs.Commands.{ReadsNothing, RunsNothing, RunsScript, UsesNoFiles, UsesNoWorld, most_read}
use Rattle.ken_top.specs.Dumped.{DumpsNode}
use Rattle.ken_top.specs.Headline.{HasCauses, IsComplete, IsLet, IsOut, IsQuiet, IsRefusal, IsRunOfSource, Ran}
use Rattle.ken_top.specs.Programs.{Program, torment}
use Rattle.ken_top.specs.Saved.{IsNotOpened, IsUnsaved, RanAndSaved}
use Rattle.ken_top.specs.Soaks.{IsThrough, Soaks}

-- how many rounds a call makes where so many are asked for: all of them, or none
abbrev pub all_rounds : ℕ → ℕ
all_rounds rounds = rounds

abbrev pub no_rounds : ℕ → ℕ
no_rounds rounds = 0

-- what a call leaves of its source, its sink and its world, of which contracts see this
module _ {S K W D O U F : Type 0} (s : source.Ghosts S) (k : sink.Ghosts K) (views : Views D O U) (files : FileViews F)
    (kept : W → ℕ → Option (Disks D × O × U)) (filing : W → Filing F) where
  -- by the command and the prefix of its files, what is read, run, saved and written, and how the call ends
  pub record Does (program : Program) (made : ℕ → ℕ) (command : Option Command) (prefix : List ℕ)
      (from from2 : S) (to to2 : K) (world world2 : W) (result : Status) : Type 0 where
    pub usage : result ≡ status.Usage → command ≡ None
    pub plain : command ≡ None → (result ≡ status.Usage) ⊎ (result ≡ status.Memory)
    pub runs : command ≡ Some Run → Ran program made views (kept world2) (s.left from) (k.took to) (k.took to2) result
    pub checks : (size : ℕ) → command ≡ Some (Check size)
        → Checks program size (s.left from) (k.took to) (k.took to2) result
    pub torments : (seed : ℕ) → command ≡ Some (Torment seed)
        → Ran (torment seed program) made views (kept world2) (s.left from) (k.took to) (k.took to2) result
    pub soaks : (seed nodes inputs rounds : ℕ) → command ≡ Some (Soak seed nodes inputs rounds)
        → Soaks views (kept world2) seed nodes inputs (made rounds) (k.took to) (k.took to2) result
    pub saves : command ≡ Some Save → RanAndSaved program made views files prefix (filing world) (filing world2) (kept world2)
        (s.left from) (k.took to) (k.took to2) result
    pub dumps : (node nodes pages : ℕ) → command ≡ Some (Dump node nodes pages)
        → DumpsNode files (record { node = node; nodes = nodes; pages = pages }) prefix (filing world) (filing world2)
        (k.took to) (k.took to2) result
    pub down : views.scripted ≡ true → IsLet program (s.left from) result
    pub complete : RunsScript command → views.scripted ≡ true → (Rose (s.faults from) (s.faults from2) → ⊥)
        → (Rose (k.faults to) (k.faults to2) → ⊥) → IsComplete program (s.left from) result
    pub complete_save : command ≡ Some Save → views.scripted ≡ true → (Rose (s.faults from) (s.faults from2) → ⊥)
        → (Rose (k.faults to) (k.faults to2) → ⊥) → IsComplete program (s.left from) result ⊎ IsNotOpened result
    pub through : (seed nodes inputs rounds : ℕ) → command ≡ Some (Soak seed nodes inputs rounds)
        → views.scripted ≡ true → (Rose (k.faults to) (k.faults to2) → ⊥) → IsThrough result
    pub causes : HasCauses (s.faults from) (s.faults from2) (k.faults to) (k.faults to2) result
    pub taken : TakesAtMost (most_read command + 1) (s.left from) (s.left from2)
    pub unread : ReadsNothing command → from2 ≡ from
    pub unwritten : IsQuiet result → to2 ≡ to
    pub silent : command ≡ None → to2 ≡ to
    pub unused : UsesNoWorld command → world2 ≡ world
    pub unfiled : UsesNoFiles command → filing world2 ≡ filing world
    pub unkept : RunsNothing command → (v : ℕ) → kept world2 v ≡ kept world v

-- ---- on the way to it

-- what a call that reads a script leaves of its source, by what came of the script
pub record ReadsScript {S : Type 0} (s : source.Ghosts S) (program : Program) (scripted : Bool) (from from2 : S)
    (result : Result Lines Status) : Type 0 where
  pub lets : scripted ≡ true → IfErr result (IsLet program (s.left from))
  pub read : IsErrOf result status.Read → Rose (s.faults from) (s.faults from2)
  pub no_failed_read : (IsErrOf result status.Read → ⊥) → s.faults from2 ≡ s.faults from
  pub taken : TakesAtMost (LIMIT + 1) (s.left from) (s.left from2)
  pub rises : s.faults from ≤ s.faults from2

-- a script was read and run, by the answer
pub record PlaysSource {S D O U : Type 0} (s : source.Ghosts S) (program : Program) (made : ℕ → ℕ)
    (views : Views D O U) (kept : ℕ → Option (Disks D × O × U)) (from from2 : S)
    (result : Result Lines Status) : Type 0 where
  pub ran : IfOk result (IsRunOfSource program made views kept (s.left from))
  pub refused : IfErr result (IsRefusal program made views kept (s.left from))
  pub reads : ReadsScript s program views.scripted from from2 result

-- and its disks were saved
pub record SavesSource {S D O U F : Type 0} (s : source.Ghosts S) (program : Program) (made : ℕ → ℕ)
    (views : Views D O U) (files : FileViews F) (prefix : List ℕ) (old new : Filing F)
    (kept : ℕ → Option (Disks D × O × U)) (from from2 : S) (result : Result Lines Status) : Type 0 where
  pub ran : IfOk result (IsRunOfSource program made views kept (s.left from))
  pub saved : OnOk result (files.tells ≡ true → AreSaved views files prefix old new kept)
  pub refused : IfErr result (IsUnsaved program made views files prefix old new kept (s.left from))
  pub rooms : KeepsRoom old new
  pub reads : ReadsScript s program views.scripted from from2 result

-- the report of its run is out, or a front of it, or there is none
pub record WritesReport {K : Type 0} (k : sink.Ghosts K) (run : Result Lines Status) (to to2 : K) (result : Status) : Type 0 where
  pub out : IfOk run (λ l. IsOut (k.took to) (k.took to2) l result)
  pub refused : IfErr run (λ answer. (result ≡ answer) × (to2 ≡ to))
  pub write : OnOk run (result ≡ status.Write → Rose (k.faults to) (k.faults to2))
  pub no_failed_write : OnOk run (result ≢ status.Write → k.faults to2 ≡ k.faults to)
  pub rises : k.faults to ≤ k.faults to2

-- so a call ends that reads a script and writes a report
pub record EndsScript {S K : Type 0} (s : source.Ghosts S) (k : sink.Ghosts K) (program : Program) (scripted : Bool)
    (from from2 : S) (to to2 : K) (result : Status) : Type 0 where
  pub plain : result ≢ status.Usage
  pub down : scripted ≡ true → IsLet program (s.left from) result
  pub causes : HasCauses (s.faults from) (s.faults from2) (k.faults to) (k.faults to2) result
  pub taken : TakesAtMost (LIMIT + 1) (s.left from) (s.left from2)
  pub unwritten : IsQuiet result → to2 ≡ to

-- that of a run
pub record ReportsSource {S K D O U : Type 0} (s : source.Ghosts S) (k : sink.Ghosts K) (program : Program)
    (made : ℕ → ℕ) (views : Views D O U) (kept : ℕ → Option (Disks D × O × U)) (from from2 : S) (to to2 : K)
    (result : Status) : Type 0 where
  pub ends : EndsScript s k program views.scripted from from2 to to2 result
  pub runs : Ran program made views kept (s.left from) (k.took to) (k.took to2) result
  pub complete : views.scripted ≡ true → (Rose (s.faults from) (s.faults from2) → ⊥)
      → (Rose (k.faults to) (k.faults to2) → ⊥) → IsComplete program (s.left from) result

-- or of one whose disks were saved
pub record ReportsSaving {S K D O U F : Type 0} (s : source.Ghosts S) (k : sink.Ghosts K) (program : Program)
    (made : ℕ → ℕ) (views : Views D O U) (files : FileViews F) (prefix : List ℕ) (old new : Filing F)
    (kept : ℕ → Option (Disks D × O × U)) (from from2 : S) (to to2 : K) (result : Status) : Type 0 where
  pub ends : EndsScript s k program views.scripted from from2 to to2 result
  pub saves : RanAndSaved program made views files prefix old new kept (s.left from) (k.took to) (k.took to2) result
  pub complete : views.scripted ≡ true → (Rose (s.faults from) (s.faults from2) → ⊥)
      → (Rose (k.faults to) (k.faults to2) → ⊥) → IsComplete program (s.left from) result ⊎ IsNotOpened result

-- what a call that writes a text leaves of its sink
pub record EndsText {K : Type 0} (k : sink.Ghosts K) (to to2 : K) (result : Status) : Type 0 where
  pub write : result ≡ status.Write → Rose (k.faults to) (k.faults to2)
  pub no_failed_write : result ≢ status.Write → k.faults to2 ≡ k.faults to
  pub rises : k.faults to ≤ k.faults to2
  pub unwritten : IsQuiet result → to2 ≡ to

-- the script of these numbers was run, and summed up
pub record SumsUp {K D O U : Type 0} (k : sink.Ghosts K) (views : Views D O U)
    (kept : ℕ → Option (Disks D × O × U)) (seed nodes inputs rounds : ℕ) (to to2 : K) (result : Status) : Type 0 where
  pub soaks : Soaks views kept seed nodes inputs rounds (k.took to) (k.took to2) result
  pub lets : views.scripted ≡ true → result ≢ status.Write → IsThrough result
  pub ends : EndsText k to to2 result

-- a node's files were dumped, and what they recover to was written
pub record TellsNode {K F : Type 0} (k : sink.Ghosts K) (files : FileViews F) (o : Owner) (prefix : List ℕ) (old new : Filing F)
    (to to2 : K) (result : Status) : Type 0 where
  pub dumps : DumpsNode files o prefix old new (k.took to) (k.took to2) result
  pub ends : EndsText k to to2 result
