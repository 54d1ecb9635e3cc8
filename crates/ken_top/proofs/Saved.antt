-- What a call does that runs a script which it reads and saves its disks, and what it does then.
use Rattle.std.proofs.Common.{◌≡◌, ◌≢◌, ◌⊎◌, inl, inr, ℕ, ◌+◌, ◌≤◌, true, List, [], Option, Result, Ok, Err, refl, sym, ap, subst}
use Rattle.std.proofs.KnownBytes.{Appends-nil}
use Rattle.ken_io.specs.declared.sinks.Sink as sink
use Rattle.ken_io.specs.declared.sources.Source as source
use Rattle.ken_io.specs.Causes.{Rose}
use Rattle.ken_io.specs.Transfers.{TakesAtMost}
use Rattle.ken_files.specs.Filing.{FileViews, Filing, KeepsRoom}
use Rattle.ken_model.specs.declared.reports.Lines.{Lines}
use Rattle.ken_model.specs.Handler.{Handler}
use Rattle.ken_script.specs.declared.scripts.Script.{Script}
use Rattle.ken_script.specs.declared.scripts.TheConstants.{LIMIT}
use Rattle.ken_store.specs.declared.disks.Disks.{Disks}
use Rattle.ken_run.specs.declared.faults.RunFault.TheVariants as running
use Rattle.ken_drive.specs.declared.saving.SavingFault.{SavingFault}
use Rattle.ken_drive.specs.declared.saving.SavingFault.TheVariants as saving
use Rattle.ken_drive.specs.Driven.{Views}
use Rattle.ken_drive.specs.Saving as drive
use Rattle.ken_drive.specs.Saving.{HasEnded, IsLetSaving, SavesBy, SavesRun}
use Rattle.ken_drive.specs.Worlds.{HasKeptNothing}
use Rattle.ken_top.specs.declared.status.Status.{Status}
use Rattle.ken_top.specs.declared.status.Status.TheVariants as status
use Rattle.ken_top.specs.Does.{ReportsSaving, SavesSource, WritesReport}
use Rattle.ken_top.specs.Headline.{AreTold, IsComplete, IsFront, IsLet, IsOut, IsScriptOf, IsUnsaid, Ran, Wrote}
use Rattle.ken_top.specs.Programs.{Program, handler_in}
use Rattle.ken_top.specs.Saved.{HasNoRun, IsNotOpened, IsNotSaved, IsUnsaved, IsWritten, RanAndSaved, WroteSaving}
use Rattle.ken_top.specs.Statuses.{of_saving}
use Rattle.ken_top.proofs.Complete.{complete_refused, complete_written, ended}
use Rattle.ken_top.proofs.Played.{ends-script}
use Rattle.ken_top.proofs.Reading.{reads-none, reads-refused, reads-run}
use Rattle.ken_top.proofs.Reported.{front_unwritten, let_of-run, ran_refused, ran_written, refusal_by, refusal_of-run, run_by}

-- the fault of a saving isn't the source's
fault-not-read : (fault : SavingFault) → of_saving fault ≢ status.Read
fault-not-read (saving.Run (running.Damaged v disk place)) is = absurd (cc)
fault-not-read (saving.Run (running.Down v)) is = absurd (cc)
fault-not-read (saving.Run running.Memory) is = absurd (cc)
fault-not-read (saving.Open v disk) is = absurd (cc)
fault-not-read (saving.Device v disk) is = absurd (cc)

-- the node that is down in a run is one that what the source gives lets go down
let_of-saving : (program : Program) (left : Option (List ℕ)) (s : Script) (fault : SavingFault) → IsScriptOf program left s → IsLetSaving s fault → IsLet program left (of_saving fault)
let_of-saving program left s (saving.Run fault) said lets = let_of-run program left s fault said lets
let_of-saving program left s (saving.Open v disk) said lets = tt
let_of-saving program left s (saving.Device v disk) said lets = tt

-- a report that is out is of a run
out_of-run : (old new : Option (List ℕ)) (l : Lines) (s : Status) → IsOut old new l s → HasNoRun s → ⊥
out_of-run old new l status.Settled out none = none
out_of-run old new l status.Cut out none = none
out_of-run old new l status.Write out none = none
out_of-run old new l status.Memory out none = none
out_of-run old new l s out none = out

module _ {D O U F : Type 0} (program : Program) (made : ℕ → ℕ) (views : Views D O U) (files : FileViews F) (prefix : List ℕ) (old new : Filing F) (kept : ℕ → Option (Disks D × O × U)) where
  -- a run that has ended, and of which nothing is written
  front_of-ended : (left : Option (List ℕ)) (s : Script) (h : Handler) → handler_in program s ≡ h → IsScriptOf program left s → HasEnded views files prefix old new kept h s (made s.rounds)
      → (b : List ℕ) × AreTold left b × IsFront program made views kept b []
  front_of-ended left s h same said ended =
      let run = run_by program made views kept left s ended.lines h same said ended.driven in
      (run.read, run.told, front_unwritten program made views kept left ended.lines run)

  -- a disk that isn't saved
  unsaved_disk : (left : Option (List ℕ)) (s : Script) (h : Handler) (v disk : ℕ) → handler_in program s ≡ h → IsScriptOf program left s → drive.IsNotSaved views files prefix old new kept h s (made s.rounds) v disk
      → (b : List ℕ) × AreTold left b × IsNotSaved program made views files prefix old new kept b v disk
  unsaved_disk left s h v disk same said (drive.IsNotSaved.by_file ended spoilt) = (let front = front_of-ended left s h same said ended in (front.0, front.1, inl (front.2, spoilt)))
  unsaved_disk left s h v disk same said (drive.IsNotSaved.by_disk failed) = (said.read, said.told, inr failed)

  -- why a script that was run has no report
  unsaved_of-run : (left : Option (List ℕ)) (s : Script) (fault : SavingFault) (h : Handler) → handler_in program s ≡ h → IsScriptOf program left s → SavesBy views files prefix old new kept h s (made s.rounds) (Err fault)
      → IsUnsaved program made views files prefix old new kept left (of_saving fault)
  unsaved_of-run left s (saving.Run (running.Damaged v disk place)) h same said saves = absurd saves.0
  unsaved_of-run left s (saving.Run (running.Down v)) h same said saves = (refusal_of-run program made views kept left s (running.Down v) h same said saves.0, saves.1)
  unsaved_of-run left s (saving.Run running.Memory) h same said (inl none) = inl none
  unsaved_of-run left s (saving.Run running.Memory) h same said (inr ended) = inr (front_of-ended left s h same said ended)
  unsaved_of-run left s (saving.Open v disk) h same said saves = (let front = front_of-ended left s h same said saves.2 in (front.0, front.1, saves.1, front.2, saves.3))
  unsaved_of-run left s (saving.Device v disk) h same said saves = (let why = unsaved_disk left s h v disk same said saves.2 in (why.0, why.1, saves.1, why.2))

  -- what a run says of its bytes
  wrote_of-run : (b w : List ℕ) (s : Status) → Wrote program made views kept b w s → WroteSaving program made views files prefix old new kept b w s
  wrote_of-run b w (status.Open v disk) wrote = absurd wrote
  wrote_of-run b w (status.Device v disk) wrote = absurd wrote
  wrote_of-run b w s wrote = wrote

  -- so of an answer of a run
  saved_by : (left took_old took_new : Option (List ℕ)) (s : Status) → Ran program made views kept left took_old took_new s → (IsWritten s → files.tells ≡ true → drive.AreSaved views files prefix old new kept)
      → (HasNoRun s → new ≡ old) → KeepsRoom old new → RanAndSaved program made views files prefix old new kept left took_old took_new s
  saved_by left took_old took_new s ran saved untouched rooms = record {
    read = ran.read;
    written = ran.written;
    told = ran.told;
    out = ran.out;
    wrote = wrote_of-run ran.read ran.written s ran.wrote;
    saved = saved;
    untouched = untouched;
    rooms = rooms;
  }

  -- an answer of a saving, where nothing is written
  unsaved_by : (left took : Option (List ℕ)) (b : List ℕ) (s : Status) → AreTold left b → WroteSaving program made views files prefix old new kept b [] s → (IsWritten s → ⊥) → (HasNoRun s → ⊥) → KeepsRoom old new
      → RanAndSaved program made views files prefix old new kept left took took s
  unsaved_by left took b s told wrote unwritten some rooms = record {
    read = b;
    written = [];
    told = told;
    out = Appends-nil took;
    wrote = wrote;
    saved = λ is. absurd (unwritten is);
    untouched = λ is. absurd (some is);
    rooms = rooms;
  }

  -- and where there is no report
  pub ran_unsaved : (left took : Option (List ℕ)) (s : Status) → IsUnsaved program made views files prefix old new kept left s → KeepsRoom old new → RanAndSaved program made views files prefix old new kept left took took s
  ran_unsaved left took (status.Script rule index) why rooms =
      saved_by left took took (status.Script rule index) (ran_refused program made views kept left took (status.Script rule index) why.0) (λ is. absurd is) (λ is. why.1) rooms
  ran_unsaved left took (status.Down v) why rooms = saved_by left took took (status.Down v) (ran_refused program made views kept left took (status.Down v) why.0) (λ is. absurd is) (λ is. why.1) rooms
  ran_unsaved left took status.Read why rooms = saved_by left took took status.Read (ran_refused program made views kept left took status.Read why.0) (λ is. absurd is) (λ is. why.1) rooms
  ran_unsaved left took status.Memory (inl none) rooms =
      saved_by left took took status.Memory (ran_refused program made views kept left took status.Memory none) (λ is. absurd is) (λ is. absurd is) rooms
  ran_unsaved left took status.Memory (inr why) rooms = unsaved_by left took why.0 status.Memory why.1 (inr why.2) (λ is. is) (λ is. is) rooms
  ran_unsaved left took (status.Open v disk) why rooms = unsaved_by left took why.0 (status.Open v disk) why.1 (refl, why.2, why.3, why.4) (λ is. is) (λ is. is) rooms
  ran_unsaved left took (status.Device v disk) why rooms = unsaved_by left took why.0 (status.Device v disk) why.1 (refl, why.2, why.3) (λ is. is) (λ is. is) rooms
  ran_unsaved left took s why rooms = absurd why.0

  -- if a source tells a script that lets no node go down, its run ends, or memory is short, or a disk isn't saved
  complete_unsaved : (left : Option (List ℕ)) (s : Status) (rose : Type 0) → IsUnsaved program made views files prefix old new kept left s → IsLet program left s → (s ≡ status.Read → rose) → (rose → ⊥)
      → IsComplete program left s ⊎ IsNotOpened s
  complete_unsaved left status.Memory rose why lets failed none = inl (ended program left status.Memory tt)
  complete_unsaved left (status.Open v disk) rose why lets failed none = inr tt
  complete_unsaved left (status.Device v disk) rose why lets failed none = inr tt
  complete_unsaved left s rose why lets failed none = inl (complete_refused program made views kept left s rose why.0 lets failed none)

  module _ {S : Type 0} (s : source.Ghosts S) (from from2 : S) where
    -- a run with lines, whose disks are saved
    pub saved : (h : Handler) (script : Script) (l : Lines) → handler_in program script ≡ h → IsScriptOf program (s.left from) script → SavesRun views files prefix old new kept h script (made script.rounds) (Ok l)
        → s.faults from2 ≡ s.faults from → TakesAtMost (LIMIT + 1) (s.left from) (s.left from2) → SavesSource s program made views files prefix old new kept from from2 (Ok l)
    saved h script l same said saves still taken = record {
      ran = run_by program made views kept (s.left from) script l h same said saves.saves.0;
      saved = saves.saves.1;
      refused = tt;
      rooms = saves.rooms;
      reads = reads-run s program views.scripted from from2 l still taken;
    }

    -- one without, or whose disks aren't
    pub not-saved : (h : Handler) (script : Script) (fault : SavingFault) → handler_in program script ≡ h → IsScriptOf program (s.left from) script → SavesRun views files prefix old new kept h script (made script.rounds) (Err fault)
        → s.faults from2 ≡ s.faults from → TakesAtMost (LIMIT + 1) (s.left from) (s.left from2) → SavesSource s program made views files prefix old new kept from from2 (Err (of_saving fault))
    not-saved h script fault same said saves still taken = record {
      ran = tt;
      saved = tt;
      refused = unsaved_of-run (s.left from) script fault h same said saves.saves;
      rooms = saves.rooms;
      reads = reads-refused s program views.scripted from from2 (of_saving fault) (fault-not-read fault) (λ so. let_of-saving program (s.left from) script fault said (saves.lets so)) still taken;
    }

    module _ {K : Type 0} (k : sink.Ghosts K) (to to2 : K) where
      saves : (run : Result Lines Status) (result : Status) → SavesSource s program made views files prefix old new kept from from2 run → WritesReport k run to to2 result
          → RanAndSaved program made views files prefix old new kept (s.left from) (k.took to) (k.took to2) result
      saves (Ok l) result is writes =
          saved_by (s.left from) (k.took to) (k.took to2) result (ran_written program made views kept (s.left from) (k.took to) (k.took to2) l result is.ran writes.out)
          (λ written. is.saved) (λ none. absurd (out_of-run (k.took to) (k.took to2) l result writes.out none)) is.rooms
      saves (Err answer) result is writes =
          subst (λ x. RanAndSaved program made views files prefix old new kept (s.left from) (k.took to) (k.took x) result) (sym writes.refused.1)
          (subst (RanAndSaved program made views files prefix old new kept (s.left from) (k.took to) (k.took to)) (sym writes.refused.0) (ran_unsaved (s.left from) (k.took to) answer is.refused is.rooms))

      completes : (run : Result Lines Status) (result : Status) → SavesSource s program made views files prefix old new kept from from2 run → WritesReport k run to to2 result
          → views.scripted ≡ true → (Rose (s.faults from) (s.faults from2) → ⊥) → (Rose (k.faults to) (k.faults to2) → ⊥) → IsComplete program (s.left from) result ⊎ IsNotOpened result
      completes (Ok l) result is writes so unread unwritten = inl (complete_written program (s.left from) (k.took to) (k.took to2) l result _ writes.out writes.write unwritten)
      completes (Err answer) result is writes so unread unwritten =
          subst (λ x. IsComplete program (s.left from) x ⊎ IsNotOpened x) (sym writes.refused.0)
          (complete_unsaved (s.left from) answer _ is.refused (is.reads.lets so) (λ read. is.reads.read (ap Err read)) unread)

      -- the report of a run that was to be saved is written, where there is one
      pub reports-saving : (run : Result Lines Status) (result : Status) → SavesSource s program made views files prefix old new kept from from2 run → WritesReport k run to to2 result
          → ReportsSaving s k program made views files prefix old new kept from from2 to to2 result
      reports-saving run result is writes = record {
        ends = ends-script s k program views.scripted (IsUnsaved program made views files prefix old new kept (s.left from)) (λ why. why.0) (λ why. why.0) from from2 to to2 run result is.reads is.refused writes;
        saves = saves run result is writes;
        complete = completes run result is writes;
      }

-- there was no script to run: no file was touched
module _ {S D O U F : Type 0} (s : source.Ghosts S) (program : Program) (made : ℕ → ℕ) (views : Views D O U) (files : FileViews F) (prefix : List ℕ) (old : Filing F) (kept : ℕ → Option (Disks D × O × U)) (from from2 : S) where
  unsaved_unsaid : (answer : Status) → IsUnsaid program (s.left from) answer → HasKeptNothing kept → IsUnsaved program made views files prefix old old kept (s.left from) answer
  unsaved_unsaid (status.Script rule index) why none = (refusal_by program made views kept (s.left from) (status.Script rule index) why none, refl)
  unsaved_unsaid status.Read why none = (none, refl)
  unsaved_unsaid status.Memory why none = inl none
  unsaved_unsaid answer why none = absurd why

  pub unsaid-saving : (answer : Status) → IsUnsaid program (s.left from) answer → HasKeptNothing kept → (answer ≡ status.Read → Rose (s.faults from) (s.faults from2)) → (answer ≢ status.Read → s.faults from2 ≡ s.faults from)
      → TakesAtMost (LIMIT + 1) (s.left from) (s.left from2) → s.faults from ≤ s.faults from2 → SavesSource s program made views files prefix old old kept from from2 (Err answer)
  unsaid-saving answer why none read still taken rises = record {
    ran = tt;
    saved = tt;
    refused = unsaved_unsaid answer why none;
    rooms = λ p room. room;
    reads = reads-none s program views.scripted from from2 answer why read still taken rises;
  }
