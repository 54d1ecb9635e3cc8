-- What a call that writes a text leaves of its sink.
use Rattle.std.proofs.Common.{◌≡◌, ◌≢◌, inl, inr, ℕ, ◌≤◌, List, refl, subst, arith}
use Rattle.ken_io.specs.declared.sinks.Sink as sink
use Rattle.ken_io.specs.Causes.{Rose}
use Rattle.ken_top.specs.declared.status.Status.{Status}
use Rattle.ken_top.specs.declared.status.Status.TheVariants as status
use Rattle.ken_top.specs.Does.{EndsText}
use Rattle.ken_top.specs.Headline.{IsQuiet, IsTextOut}

-- where it is out, or a front of it
pub ends-text : {K : Type 0} (k : sink.Ghosts K) (text : List ℕ) (done : Status) → (IsQuiet done → ⊥) → (to to2 : K) (result : Status) → IsTextOut text done (k.took to) (k.took to2) result
    → (result ≡ status.Write → Rose (k.faults to) (k.faults to2)) → (result ≢ status.Write → k.faults to2 ≡ k.faults to) → k.faults to ≤ k.faults to2 → EndsText k to to2 result
ends-text k text done loud to to2 result out write still rises = record {
  write = write;
  no_failed_write = still;
  rises = rises;
  unwritten = λ quiet. absurd (told out quiet);
}
  where
    told : IsTextOut text done (k.took to) (k.took to2) result → IsQuiet result → ⊥
    told (inl is) quiet = loud (subst IsQuiet is.0 quiet)
    told (inr is) quiet = subst IsQuiet is.0 quiet

-- where there is none
pub ends-refused : {K : Type 0} (k : sink.Ghosts K) (to : K) (result : Status) → result ≢ status.Write → EndsText k to to result
ends-refused k to result other = record {
  write = λ is. absurd (other is);
  no_failed_write = λ is. refl;
  rises = omega arith;
  unwritten = λ quiet. refl;
}
