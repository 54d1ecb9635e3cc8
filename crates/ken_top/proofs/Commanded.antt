-- What a call does, by what is done for its command.
use Rattle.std.proofs.Common.{◌≡◌, ◌≢◌, ◌⊎◌, inl, inr, ℕ, List, [], Option, Some, refl, subst, arith}
use Rattle.std.proofs.KnownBytes.{Appends-nil, Consumes-nil}
use Rattle.ken_io.specs.declared.sinks.Sink as sink
use Rattle.ken_io.specs.declared.sources.Source as source
use Rattle.ken_io.specs.Transfers.{TakesAtMost}
use Rattle.ken_files.specs.Filing.{FileViews, Filing}
use Rattle.ken_words.specs.declared.commands.Command.{Command}
use Rattle.ken_words.specs.declared.commands.Command.TheVariants.{Torment}
use Rattle.ken_store.specs.declared.disks.Disks.{Disks}
use Rattle.ken_drive.specs.Driven.{Views}
use Rattle.ken_drive.specs.Worlds.{HasKeptNothing}
use Rattle.ken_soak.specs.Tormenting.{TormentSpares}
use Rattle.ken_top.specs.declared.status.Status.{Status}
use Rattle.ken_top.specs.declared.status.Status.TheVariants as status
use Rattle.ken_top.specs.Commands.{RunsNothing}
use Rattle.ken_top.specs.Does.{Does, ReportsSource}
use Rattle.ken_top.specs.Headline.{HasCauses, Ran}
use Rattle.ken_top.specs.Programs.{Program, torment}
use Rattle.ken_top.proofs.Complete.{ended}
use Rattle.ken_top.proofs.Plain.{plain_complete, plain_let}
use Rattle.ken_top.proofs.Reported.{any_told, ran_refused}
use Rattle.ken_top.proofs.Saved.{ran_unsaved}

none-taken : (most : ℕ) (left : Option (List ℕ)) → TakesAtMost most left left
none-taken most left = record { taken = []; given = Consumes-nil left; few = omega arith }

-- no fault was counted
none-risen : (source sink : ℕ) (s : Status) → s ≢ status.Read → s ≢ status.Write → HasCauses source source sink sink s
none-risen source sink s no_read no_write = record {
  read = λ is. absurd (no_read is);
  write = λ is. absurd (no_write is);
  source_rises = omega arith;
  sink_rises = omega arith;
  no_failed_read = λ other. refl;
  no_failed_write = λ other. refl;
}

-- a command that runs something is asked of a world that has kept nothing
none_kept : {K : Type 0} (command asked : Option Command) (kept : ℕ → Option K) → command ≡ asked → (RunsNothing asked → ⊥) → RunsNothing command ⊎ HasKeptNothing kept → HasKeptNothing kept
none_kept command asked kept is runs (inl nothing) = absurd (runs (subst RunsNothing is nothing))
none_kept command asked kept is runs (inr none) = none

module _ {S K W D O U F : Type 0} (s : source.Ghosts S) (k : sink.Ghosts K) (views : Views D O U) (files : FileViews F) (kept : W → ℕ → Option (Disks D × O × U)) (filing : W → Filing F) (program : Program) (made : ℕ → ℕ) where
  -- the faults of a seed bring no node down that the script wouldn't
  pub torment-does : TormentSpares → (seed : ℕ) (prefix : List ℕ) (from from2 : S) (to to2 : K) (world world2 : W) (result : Status) → ReportsSource s k (torment seed program) made views (kept world2) from from2 to to2 result
      → filing world2 ≡ filing world → Does s k views files kept filing program made (Some (Torment seed)) prefix from from2 to to2 world world2 result
  torment-does spares seed prefix from from2 to to2 world world2 result is same = record {
    usage = λ e. absurd (is.ends.plain e);
    plain = λ e. absurd (cc);
    runs = λ e. absurd (cc);
    checks = λ size e. absurd (cc);
    torments = λ other e. (let one : seed ≡ other = cc in subst (λ (n : ℕ). Ran (torment n program) made views (kept world2) (s.left from) (k.took to) (k.took to2) result) one is.runs);
    soaks = λ other nodes inputs rounds e. absurd (cc);
    saves = λ e. absurd (cc);
    dumps = λ node nodes pages e. absurd (cc);
    down = λ scripted. plain_let spares seed program (s.left from) result (is.ends.down scripted);
    complete = λ runs scripted unread unwritten. plain_complete spares seed program (s.left from) result (is.complete scripted unread unwritten);
    complete_save = λ e. absurd (cc);
    through = λ other nodes inputs rounds e. absurd (cc);
    causes = is.ends.causes;
    taken = is.ends.taken;
    unread = λ none. absurd none;
    unwritten = is.ends.unwritten;
    silent = λ e. absurd (cc);
    unused = λ none. absurd none;
    unfiled = λ none. same;
    unkept = λ none. absurd none;
  }

  -- memory was short for the words: nothing was read, written or kept
  pub short-does : (command : Option Command) (prefix : List ℕ) (from : S) (to : K) (world : W) → RunsNothing command ⊎ HasKeptNothing (kept world)
      → Does s k views files kept filing program made command prefix from from to to world world status.Memory
  short-does command prefix from to world may = record {
    usage = λ e. absurd (cc);
    plain = λ e. inr refl;
    runs = λ e. ran_refused program made views (kept world) (s.left from) (k.took to) status.Memory (none_kept command _ (kept world) e (λ runs. runs) may);
    checks = λ size e. (let read = any_told (s.left from) in record { read = read.0; written = []; told = read.1; out = Appends-nil (k.took to); answers = refl });
    torments = λ seed e. ran_refused (torment seed program) made views (kept world) (s.left from) (k.took to) status.Memory (none_kept command _ (kept world) e (λ runs. runs) may);
    soaks = λ seed nodes inputs rounds e. record { written = []; out = Appends-nil (k.took to); wrote = (refl, inl (none_kept command _ (kept world) e (λ runs. runs) may)) };
    saves = λ e. ran_unsaved program made views files prefix (filing world) (filing world) (kept world) (s.left from) (k.took to) status.Memory (inl (none_kept command _ (kept world) e (λ runs. runs) may)) (λ p room. room);
    dumps = λ node nodes pages e. record { written = []; out = Appends-nil (k.took to); wrote = refl; same = λ tells p. refl; rooms = λ p room. room };
    down = λ scripted. tt;
    complete = λ runs scripted unread unwritten. ended program (s.left from) status.Memory tt;
    complete_save = λ e scripted unread unwritten. inl (ended program (s.left from) status.Memory tt);
    through = λ seed nodes inputs rounds e scripted unwritten. inr refl;
    causes = none-risen (s.faults from) (k.faults to) status.Memory (λ is. absurd (cc)) (λ is. absurd (cc));
    taken = none-taken _ (s.left from);
    unread = λ reads. refl;
    unwritten = λ quiet. refl;
    silent = λ e. refl;
    unused = λ uses. refl;
    unfiled = λ uses. refl;
    unkept = λ runs v. refl;
  }
