-- What a soak run says, and what is said where it has no summary.
use Rattle.std.proofs.Common.{◌≡◌, ◌≢◌, ◌∙◌, inl, inr, ℕ, ◌≤◌, List, [], Option, Result, Ok, Err, refl, sym, ap, subst}
use Rattle.std.specs.Prelude.{IfOk, IfErr, OnOk}
use Rattle.std.proofs.KnownBytes.{Appends-nil}
use Rattle.ken_io.specs.declared.sinks.Sink as sink
use Rattle.ken_io.specs.Causes.{Rose}
use Rattle.ken_store.specs.declared.disks.Disks.{Disks}
use Rattle.ken_run.specs.declared.faults.RunFault.{RunFault}
use Rattle.ken_run.specs.declared.faults.RunFault.TheVariants as running
use Rattle.ken_drive.specs.Driven.{Views}
use Rattle.ken_soak.specs.Soaking.{Soaked, SoaksBy}
use Rattle.ken_top.specs.declared.status.Status.{Status}
use Rattle.ken_top.specs.declared.status.Status.TheVariants as status
use Rattle.ken_top.specs.Does.{SumsUp}
use Rattle.ken_top.specs.Headline.{IsTextOut}
use Rattle.ken_top.specs.Soaks.{IsThrough, Soaks}
use Rattle.ken_top.specs.Statuses.{of_running}
use Rattle.ken_top.proofs.Written.{ends-refused, ends-text}

fault-not-write : (fault : RunFault) → of_running fault ≢ status.Write
fault-not-write (running.Damaged v disk place) is = absurd (cc)
fault-not-write (running.Down v) is = absurd (cc)
fault-not-write running.Memory is = absurd (cc)

module _ {K D O U : Type 0} (k : sink.Ghosts K) (views : Views D O U) (kept : ℕ → Option (Disks D × O × U)) (seed nodes inputs rounds : ℕ) (to to2 : K) where
  refused : (took : Option (List ℕ)) (fault : RunFault) → SoaksBy views kept seed nodes inputs rounds (Err fault) → Soaks views kept seed nodes inputs rounds took took (of_running fault)
  refused took (running.Damaged v disk place) soaked = absurd soaked
  refused took (running.Down v) soaked = record { written = []; out = Appends-nil took; wrote = (refl, soaked) }
  refused took running.Memory soaked = record { written = []; out = Appends-nil took; wrote = (refl, soaked) }

  summed : (text : List ℕ) (result : Status) → Soaked views kept seed nodes inputs rounds (Ok text) → IsTextOut text status.Settled (k.took to) (k.took to2) result → Soaks views kept seed nodes inputs rounds (k.took to) (k.took to2) result
  summed text result soaked (inl out) = subst (Soaks views kept seed nodes inputs rounds (k.took to) (k.took to2)) (sym out.0) (record { written = text; out = out.1; wrote = soaked.soaks })
  summed text result soaked (inr out) =
      subst (Soaks views kept seed nodes inputs rounds (k.took to) (k.took to2)) (sym out.0)
      (record { written = out.1.front; out = out.1.out; wrote = ((out.1.rest, sym soaked.soaks.0 ∙ sym out.1.parts), soaked.soaks.1) })

  through-summed : (text : List ℕ) (old new : Option (List ℕ)) (result : Status) → IsTextOut text status.Settled old new result → result ≢ status.Write → IsThrough result
  through-summed text old new result (inl out) other = inl out.0
  through-summed text old new result (inr out) other = absurd (other out.0)

  pub sums-up : (soak : Result (List ℕ) RunFault) (result : Status) → Soaked views kept seed nodes inputs rounds soak
      → IfOk soak (λ text. IsTextOut text status.Settled (k.took to) (k.took to2) result) → IfErr soak (λ fault. (result ≡ of_running fault) × (to2 ≡ to))
      → OnOk soak (result ≡ status.Write → Rose (k.faults to) (k.faults to2)) → OnOk soak (result ≢ status.Write → k.faults to2 ≡ k.faults to) → k.faults to ≤ k.faults to2
      → SumsUp k views kept seed nodes inputs rounds to to2 result
  sums-up (Ok text) result soaked out why write still rises = record {
    soaks = summed text result soaked out;
    lets = λ scripted other. through-summed text (k.took to) (k.took to2) result out other;
    ends = ends-text k text status.Settled (λ quiet. quiet) to to2 result out write still rises;
  }
  sums-up (Err fault) result soaked out why write still rises =
      subst (SumsUp k views kept seed nodes inputs rounds to to2) (sym why.0)
      (subst (λ (x : K). SumsUp k views kept seed nodes inputs rounds to x (of_running fault)) (sym why.1)
      (record {
        soaks = refused (k.took to) fault soaked.soaks;
        lets = λ scripted other. inr (ap of_running (soaked.lets scripted));
        ends = ends-refused k to (of_running fault) (fault-not-write fault);
      }))
