-- Falls, and the calls that take them.
use Rattle.std.proofs.Common.{◌≡◌, ◌+◌, ◌≤◌, List, [], ◌∷◌, refl, ap, subst, ◌∙◌, arith, Option, Some, None, Result, Ok, Err}
use Rattle.ken_disk.specs.declared.faults.DiskFault.{DiskFault}
use Rattle.ken_disk.specs.declared.faults.DiskFault.TheVariants.{Failed, Memory}
use Rattle.ken_disk.specs.Story.{Follows}
use Rattle.ken_disk.proofs.Told.{by_none}
use Rattle.ken_disk.specs.Fates.{Fate, Event, Called, Restarted, Suffers, Befalls, IsRun, fallen, all_fallen}

-- a call that answered Ok leaves the fate as it was
pub suffers_more : {T U : Type 0} (x : U) (r : Result T DiskFault) (a b c : Fate) → Suffers {T = U} (Ok x) a b → Suffers r b c → Suffers r a c
suffers_more {T = T} x r a b c first second = subst (λ (f : Fate). Suffers r f c) first.1 second

-- each step takes as many falls as calls failed in it
taken : (event : Event) (old new : Fate) → Befalls event old new → fallen event old.down + new.falls ≤ old.falls
taken (Called (Ok x)) old new is = let same = ap (λ (f : Fate). f.falls) is.1 in omega (arith, same)
taken (Called (Err Failed)) old new is = omega (arith, is.1)
taken (Called (Err Memory)) old new is = let same = ap (λ (f : Fate). f.falls) is in omega (arith, same)
taken (Restarted pick) old new is = let same = ap (λ (f : Fate). f.falls) is in omega (arith, same)

pub all_taken : (start : Fate) (run : List (Event × Fate)) → IsRun start run → all_fallen start run ≤ start.falls
all_taken start [] is = omega arith
all_taken start (step ∷ run) is =
    let here = taken step.0 start step.1 is.0 in
    let later = all_taken step.1 run is.1 in
    omega (arith, here, later)

-- ---- as fates are told

pub fate_same : {T : Type 0} (x : T) (old new : Option Fate) → Follows (Suffers (Ok x)) old new → new ≡ old
fate_same x None new follows = follows
fate_same x (Some f) new follows = follows.1 ∙ ap (λ (g : Fate). Some g) follows.2.1

pub fate_kept : (T : Type 0) (old new : Option Fate) → new ≡ old → Follows (Suffers {T = T} (Err Memory)) old new
fate_kept T old new same = by_none (Suffers {T = T} (Err Memory)) old new same (λ f. refl)
