-- Passes one after the other.
use Rattle.std.proofs.Common.{arith, ◌≡◌, ◌∙◌, ◌<◌, sym, inl, inr, length, slice_index_or, Some, None, [], ◌∷◌, ◌++◌, ℕ, List, Bool, true, false, Option, Result, Ok, Err, refl, subst}
use Rattle.std.specs.List.{AllByRecursion}
use Rattle.std.specs.Result.{IsErrAnd}
use Rattle.ken_disk.specs.Story.{Story}
use Rattle.ken_model.specs.declared.messages.Out.{Out}
use Rattle.ken_model.specs.Handler.{Handler}
use Rattle.ken_node.specs.declared.watched.Watched.{Watched}
use Rattle.ken_run.specs.declared.drain.PassOutcome.{PassOutcome}
use Rattle.ken_run.specs.declared.drain.PassOutcome.TheVariants.{Ended, Progressed, Idle}
use Rattle.ken_run.specs.declared.faults.RunFault.{RunFault}
use Rattle.ken_run.specs.declared.run.Run.{Run}
use Rattle.ken_run.specs.Drained.{DrainsTo, HasDrained, HasNotEnded, PassesOn, PassesTo, none, then}
use Rattle.ken_run.specs.declared.station.Station.{Station}
use Rattle.ken_disk.specs.Story.{Follows, IsAtRest, Tells}
use Rattle.ken_node.specs.Stages.{image_told, turns_in}
use Rattle.ken_run.specs.Patched.{AllVisited, HasGoneOn, HasItsImage, HaveImages, SyncsOn, WasVisited}

-- nothing is pending after a sync
rests-now : (old new : Option Story) → Follows SyncsOn old new → Tells new (λ h. IsAtRest h.now)
rests-now (Some a) new follows = λ h is. let both : Some follows.0 ≡ Some h = sym follows.1 ∙ is in let same : follows.0 ≡ h = cc in subst (λ (x : Story). IsAtRest x.now) same follows.2.0
rests-now None new follows = λ h is. let no : None ≡ Some h = sym follows ∙ is in absurd (cc)

last-too : (P : ℕ → Type 0) (ns : List ℕ) (n : ℕ) → AllByRecursion P (ns ++ n ∷ []) → P n
last-too P [] n all = all.0
last-too P (x ∷ ns) n all = last-too P ns n all.1

-- a node that was visited, and made a turn after its last restart, has its image
has-image : {D O U : Type 0} (told : Watched D → Option Story) (old new : Station D O U) → WasVisited told old new → HasGoneOn new → HasItsImage told new
has-image told old new (inl again) on =
    let turns = length (turns_in new.node.stage) in
    let more = last-too (λ n. n < turns) old.lines.items turns (subst (AllByRecursion (λ n. n < turns)) again.line on) in
    absurd (omega (arith, more))
has-image told old new (inr done) on =
    let since = done.1 in
    record { patched = since.patched; rests = rests-now (image_told told old.node.stage) (image_told told new.node.stage) since.synced }

module _ {D O U A : Type 0} (told : Watched D → Option Story) (size : Watched D → ℕ) (took : U → Option (List Out)) (handles : A → Handler) where
  pub passes-then : (old mid new : Run D O U A) → PassesOn told size took handles old mid → PassesOn told size took handles mid new → PassesOn told size took handles old new
  passes-then old mid new one none = one
  passes-then old mid new one (then {mid = last} {new = end} two visited goes_on) = then (passes-then old mid last one two) visited goes_on

  -- the first pass
  pub pass-first : (old new : Run D O U A) → AllVisited told old new → HasNotEnded told size took handles new → PassesOn told size took handles old new
  pass-first old new visited goes_on = then none visited goes_on

  pub pass-last : (old new : Run D O U A) → AllVisited told old new → HasDrained told size took handles old new
  pass-last old new visited = record { mid = old; before = none; last = visited }

  drained-then : (old mid new : Run D O U A) → PassesOn told size took handles old mid → HasDrained told size took handles mid new → HasDrained told size took handles old new
  drained-then old mid new one two = record { mid = two.mid; before = passes-then old mid two.mid one two.before; last = two.last }

  -- more after passes that went on
  pub outcome-after : (old mid new : Run D O U A) (result : Result PassOutcome RunFault) → PassesOn told size took handles old mid → PassesTo told size took handles result mid new → PassesTo told size took handles result old new
  outcome-after old mid new (Ok Ended) one two = drained-then old mid new one two
  outcome-after old mid new (Ok Progressed) one two = passes-then old mid new one two
  outcome-after old mid new (Ok Idle) one two = passes-then old mid new one two
  outcome-after old mid new (Err fault) one two = tt

  pub outcome-to : (old new : Run D O U A) (outcome outcome2 : PassOutcome) → outcome ≡ outcome2 → PassesTo told size took handles (Ok outcome) old new → PassesTo told size took handles (Ok outcome2) old new
  outcome-to old new outcome outcome2 same is = subst (λ (x : PassOutcome). PassesTo told size took handles (Ok x) old new) same is

  pub ended-after : (old mid new : Run D O U A) (outcome : PassOutcome) → outcome ≡ Ended → PassesOn told size took handles old mid → PassesTo told size took handles (Ok outcome) mid new → HasDrained told size took handles old new
  ended-after old mid new outcome same one two = drained-then old mid new one (outcome-to mid new outcome Ended same two)

  pub on-after : (old mid new : Run D O U A) (outcome : PassOutcome) → (outcome ≡ Ended → ⊥) → PassesOn told size took handles old mid → PassesTo told size took handles (Ok outcome) mid new → PassesOn told size took handles old new
  on-after old mid new Ended other one two = absurd (other refl)
  on-after old mid new Progressed other one two = passes-then old mid new one two
  on-after old mid new Idle other one two = passes-then old mid new one two

  -- a fault that is handed on
  pub outcome-broken : (old new : Run D O U A) (result : Result PassOutcome RunFault) (fault : RunFault) → IsErrAnd result (λ e. e ≡ fault) → PassesTo told size took handles result old new
  outcome-broken old new (Ok x) fault same = absurd same
  outcome-broken old new (Err e) fault same = tt

  pub progress-broken : (old new : Run D O U A) (result : Result Bool RunFault) (fault : RunFault) → IsErrAnd result (λ e. e ≡ fault) → DrainsTo told size took handles result old new
  progress-broken old new (Ok x) fault same = absurd same
  progress-broken old new (Err e) fault same = tt

  pub drained-after : (old mid new : Run D O U A) (ended : Bool) → ended ≡ true → PassesOn told size took handles old mid → DrainsTo told size took handles (Ok ended) mid new → HasDrained told size took handles old new
  drained-after old mid new true same one two = drained-then old mid new one two
  drained-after old mid new false same one two = absurd (cc)

  pub going-on : (old mid new : Run D O U A) (ended : Bool) → ended ≡ false → PassesOn told size took handles old mid → DrainsTo told size took handles (Ok ended) mid new → PassesOn told size took handles old new
  going-on old mid new true same one two = absurd (cc)
  going-on old mid new false same one two = passes-then old mid new one two

  -- so has each node of a run that was drained
  pub have_images : (old new : Run D O U A) → HasDrained told size took handles old new → HaveImages told new
  have_images old new drained = λ v d low on.
      let last = drained.last in
      has-image told (slice_index_or drained.mid.stations.items v d) (slice_index_or new.stations.items v d) (last.each v d (subst (λ (n : ℕ). v < n) last.width low)) on
