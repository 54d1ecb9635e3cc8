-- What a call does that runs a script which it reads, and what it does then.
use Rattle.std.proofs.Common.{◌≡◌, ◌≢◌, ℕ, ◌+◌, ◌≤◌, Bool, true, Option, Result, Ok, Err, IfErr, refl, sym, ap, subst, arith}
use Rattle.ken_io.specs.declared.sinks.Sink as sink
use Rattle.ken_io.specs.declared.sources.Source as source
use Rattle.ken_io.specs.Causes.{Rose}
use Rattle.ken_io.specs.Transfers.{TakesAtMost}
use Rattle.ken_model.specs.declared.reports.Lines.{Lines}
use Rattle.ken_model.specs.Handler.{Handler}
use Rattle.ken_script.specs.declared.scripts.Script.{Script}
use Rattle.ken_script.specs.declared.scripts.TheConstants.{LIMIT}
use Rattle.ken_store.specs.declared.disks.Disks.{Disks}
use Rattle.ken_run.specs.declared.faults.RunFault.{RunFault}
use Rattle.ken_run.specs.declared.faults.RunFault.TheVariants as running
use Rattle.ken_drive.specs.Driven.{Drives, Views}
use Rattle.ken_drive.specs.Worlds.{HasKeptNothing}
use Rattle.ken_top.specs.declared.status.Status.{Status}
use Rattle.ken_top.specs.declared.status.Status.TheVariants as status
use Rattle.ken_top.specs.Does.{EndsScript, PlaysSource, ReadsScript, ReportsSource, WritesReport}
use Rattle.ken_top.specs.Headline.{IsComplete, IsOut, IsRefusal, IsScriptOf, IsUnsaid, Ran}
use Rattle.ken_top.specs.Programs.{Program, handler_in}
use Rattle.ken_top.specs.Statuses.{of_running}
use Rattle.ken_top.proofs.Complete.{complete_refused, complete_written, let_written}
use Rattle.ken_top.proofs.Reading.{err-same, reads-none, reads-refused, reads-run}
use Rattle.ken_top.proofs.Reported.{let_of-run, out_is_told, ran_refused, ran_written, refusal_by, refusal_of-run, run_by}

-- the fault of a run isn't the source's
fault-not-read : (fault : RunFault) → of_running fault ≢ status.Read
fault-not-read (running.Damaged v disk place) is = absurd (cc)
fault-not-read (running.Down v) is = absurd (cc)
fault-not-read running.Memory is = absurd (cc)

module _ {S D O U : Type 0} (s : source.Ghosts S) (program : Program) (made : ℕ → ℕ) (views : Views D O U) (kept : ℕ → Option (Disks D × O × U)) (from from2 : S) where
  -- a run with lines
  pub played : (h : Handler) (script : Script) (l : Lines) → handler_in program script ≡ h → IsScriptOf program (s.left from) script → Drives views h script (made script.rounds) kept (Ok l)
      → s.faults from2 ≡ s.faults from → TakesAtMost (LIMIT + 1) (s.left from) (s.left from2) → PlaysSource s program made views kept from from2 (Ok l)
  played h script l same said drives still taken = record {
    ran = run_by program made views kept (s.left from) script l h same said drives.drives;
    refused = tt;
    reads = reads-run s program views.scripted from from2 l still taken;
  }

  -- one without
  pub not-played : (h : Handler) (script : Script) (fault : RunFault) → handler_in program script ≡ h → IsScriptOf program (s.left from) script → Drives views h script (made script.rounds) kept (Err fault)
      → s.faults from2 ≡ s.faults from → TakesAtMost (LIMIT + 1) (s.left from) (s.left from2) → PlaysSource s program made views kept from from2 (Err (of_running fault))
  not-played h script fault same said drives still taken = record {
    ran = tt;
    refused = refusal_of-run program made views kept (s.left from) script fault h same said drives.drives;
    reads = reads-refused s program views.scripted from from2 (of_running fault) (fault-not-read fault) (λ so. let_of-run program (s.left from) script fault said (drives.lets so)) still taken;
  }

  -- or there was no script
  pub unsaid : (answer : Status) → IsUnsaid program (s.left from) answer → HasKeptNothing kept → (answer ≡ status.Read → Rose (s.faults from) (s.faults from2)) → (answer ≢ status.Read → s.faults from2 ≡ s.faults from)
      → TakesAtMost (LIMIT + 1) (s.left from) (s.left from2) → s.faults from ≤ s.faults from2 → PlaysSource s program made views kept from from2 (Err answer)
  unsaid answer why none read still taken rises = record {
    ran = tt;
    refused = refusal_by program made views kept (s.left from) answer why none;
    reads = reads-none s program views.scripted from from2 answer why read still taken rises;
  }

-- how a call ends then whose report is written, where no refusal is of the words or of the sink
pub ends-script : {S K : Type 0} (s : source.Ghosts S) (k : sink.Ghosts K) (program : Program) (scripted : Bool) (Refused : Status → Type 0) → (Refused status.Usage → ⊥) → (Refused status.Write → ⊥)
    → (from from2 : S) (to to2 : K) (run : Result Lines Status) (result : Status) → ReadsScript s program scripted from from2 run → IfErr run Refused → WritesReport k run to to2 result → EndsScript s k program scripted from from2 to to2 result
ends-script s k program scripted Refused no_usage no_write from from2 to to2 (Ok l) result reads refused writes = record {
  plain = λ is. subst (IsOut (k.took to) (k.took to2) l) is writes.out;
  down = λ so. let_written program (s.left from) (k.took to) (k.took to2) l result writes.out;
  causes = record {
    read = λ is. absurd (subst (IsOut (k.took to) (k.took to2) l) is writes.out);
    write = writes.write;
    source_rises = reads.rises;
    sink_rises = writes.rises;
    no_failed_read = λ other. reads.no_failed_read (λ is. absurd (cc));
    no_failed_write = writes.no_failed_write;
  };
  taken = reads.taken;
  unwritten = λ quiet. absurd (out_is_told (k.took to) (k.took to2) l result writes.out quiet);
}
ends-script s k program scripted Refused no_usage no_write from from2 to to2 (Err answer) result reads refused writes =
    let same : to2 ≡ to = writes.refused.1 in
    subst (EndsScript s k program scripted from from2 to to2) (sym writes.refused.0)
    (subst (λ x. EndsScript s k program scripted from from2 to x answer) (sym same)
    (record {
      plain = λ is. no_usage (subst Refused is refused);
      down = reads.lets;
      causes = record {
        read = λ is. reads.read (ap Err is);
        write = λ is. absurd (no_write (subst Refused is refused));
        source_rises = reads.rises;
        sink_rises = omega arith;
        no_failed_read = λ other. reads.no_failed_read (λ is. other (err-same answer status.Read (Err answer) refl is));
        no_failed_write = λ other. refl;
      };
      taken = reads.taken;
      unwritten = λ quiet. refl;
    }))

module _ {S K D O U : Type 0} (s : source.Ghosts S) (k : sink.Ghosts K) (program : Program) (made : ℕ → ℕ) (views : Views D O U) (kept : ℕ → Option (Disks D × O × U)) (from from2 : S) (to to2 : K) where
  runs : (run : Result Lines Status) (result : Status) → PlaysSource s program made views kept from from2 run → WritesReport k run to to2 result → Ran program made views kept (s.left from) (k.took to) (k.took to2) result
  runs (Ok l) result plays writes = ran_written program made views kept (s.left from) (k.took to) (k.took to2) l result plays.ran writes.out
  runs (Err answer) result plays writes =
      subst (λ x. Ran program made views kept (s.left from) (k.took to) (k.took x) result) (sym writes.refused.1)
      (subst (Ran program made views kept (s.left from) (k.took to) (k.took to)) (sym writes.refused.0) (ran_refused program made views kept (s.left from) (k.took to) answer plays.refused))

  completes : (run : Result Lines Status) (result : Status) → PlaysSource s program made views kept from from2 run → WritesReport k run to to2 result
      → views.scripted ≡ true → (Rose (s.faults from) (s.faults from2) → ⊥) → (Rose (k.faults to) (k.faults to2) → ⊥) → IsComplete program (s.left from) result
  completes (Ok l) result plays writes so unread unwritten = complete_written program (s.left from) (k.took to) (k.took to2) l result _ writes.out writes.write unwritten
  completes (Err answer) result plays writes so unread unwritten =
      subst (IsComplete program (s.left from)) (sym writes.refused.0)
      (complete_refused program made views kept (s.left from) answer _ plays.refused (plays.reads.lets so) (λ is. plays.reads.read (ap Err is)) unread)

  pub reports : (run : Result Lines Status) (result : Status) → PlaysSource s program made views kept from from2 run → WritesReport k run to to2 result → ReportsSource s k program made views kept from from2 to to2 result
  reports run result plays writes = record {
    ends = ends-script s k program views.scripted (IsRefusal program made views kept (s.left from)) (λ is. is) (λ is. is) from from2 to to2 run result plays.reads plays.refused writes;
    runs = runs run result plays writes;
    complete = completes run result plays writes;
  }
