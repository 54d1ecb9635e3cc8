-- What a call that reads a script leaves of its source.
use Rattle.std.proofs.Common.{◌≡◌, ◌≢◌, ◌+◌, ◌≤◌, Bool, true, Result, Ok, Err, refl, ap, arith}
use Rattle.ken_io.specs.declared.sources.Source as source
use Rattle.ken_io.specs.Causes.{Rose}
use Rattle.ken_io.specs.Transfers.{TakesAtMost}
use Rattle.ken_model.specs.declared.reports.Lines.{Lines}
use Rattle.ken_script.specs.declared.scripts.TheConstants.{LIMIT}
use Rattle.ken_top.specs.declared.status.Status.{Status}
use Rattle.ken_top.specs.declared.status.Status.TheVariants as status
use Rattle.ken_top.specs.Does.{ReadsScript}
use Rattle.ken_top.specs.Headline.{IsLet, IsUnsaid}
use Rattle.ken_top.specs.Programs.{Program}
use Rattle.ken_top.proofs.Reported.{let_unsaid}

-- the error of a run is one
pub err-same : (a b : Status) (run : Result Lines Status) → run ≡ Err a → run ≡ Err b → a ≡ b
err-same a b run one two = cc

module _ {S : Type 0} (s : source.Ghosts S) (program : Program) (scripted : Bool) (from from2 : S) where
  -- a script was read, and run
  pub reads-run : (l : Lines) → s.faults from2 ≡ s.faults from → TakesAtMost (LIMIT + 1) (s.left from) (s.left from2) → ReadsScript s program scripted from from2 (Ok l)
  reads-run l still taken = record {
    lets = λ so. tt;
    read = λ is. absurd (cc);
    no_failed_read = λ other. still;
    taken = taken;
    rises = omega (arith, still);
  }

  -- or not, for another reason than its source
  pub reads-refused : (answer : Status) → answer ≢ status.Read → (scripted ≡ true → IsLet program (s.left from) answer) → s.faults from2 ≡ s.faults from → TakesAtMost (LIMIT + 1) (s.left from) (s.left from2)
      → ReadsScript s program scripted from from2 (Err answer)
  reads-refused answer other lets still taken = record {
    lets = lets;
    read = λ is. absurd (other (err-same answer status.Read (Err answer) refl is));
    no_failed_read = λ none. still;
    taken = taken;
    rises = omega (arith, still);
  }

  -- or there was none
  pub reads-none : (answer : Status) → IsUnsaid program (s.left from) answer → (answer ≡ status.Read → Rose (s.faults from) (s.faults from2)) → (answer ≢ status.Read → s.faults from2 ≡ s.faults from)
      → TakesAtMost (LIMIT + 1) (s.left from) (s.left from2) → s.faults from ≤ s.faults from2 → ReadsScript s program scripted from from2 (Err answer)
  reads-none answer why read still taken rises = record {
    lets = λ so. let_unsaid program (s.left from) answer why;
    read = λ is. read (err-same answer status.Read (Err answer) refl is);
    no_failed_read = λ other. still (λ is. other (ap Err is));
    taken = taken;
    rises = rises;
  }
