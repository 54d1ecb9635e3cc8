-- Nodes of which one after another is looked at.
use Rattle.std.proofs.Common.{◌≡◌, ◌≢◌, ◌∙◌, ℕ, ◌+◌, ◌<◌, ◌≤◌, List, length, slice_index_or, slice_set, Option, Result, Ok, Err, sym, ap, subst, inl, inr, arith}
use Rattle.std.specs.Prelude.{Some, None}
use Rattle.std.specs.Result.{IsErrAnd}
use Rattle.std.proofs.lemmas.Bool.{cases_lt}
use Rattle.std.proofs.lemmas.List.{get_or_default, get_or-set_other, get_or-set_same, length-set}
use Rattle.ken_disk.specs.declared.disk.Disk as disk
use Rattle.ken_app.specs.declared.oracle.Oracle as oracle
use Rattle.ken_ship.specs.declared.faults.NodeFault.{NodeFault}
use Rattle.ken_ship.specs.declared.faults.NodeFault.TheVariants as node_faults
use Rattle.ken_run.specs.declared.faults.RunFault.{RunFault}
use Rattle.ken_run.specs.declared.faults.RunFault.TheVariants.{Damaged, Down, Memory}
use Rattle.ken_run.specs.declared.station.Station.{Station}
use Rattle.ken_rounds.specs.Lending.{station_at}
use Rattle.ken_rounds.specs.Raising.{GoesOn, GoOnBelow, IsOut, IsOutAt, MayAllRise, MayRise, RaisesBy, RisesBy, WasRaised}

module _ {D O U : Type 0} where
  -- those from v on weren't looked at
  abbrev pub AreAsBefore : ℕ → List (Station D O U) → List (Station D O U) → Type 0
  AreAsBefore v old new = (u : ℕ) (none : Station D O U) → v ≤ u → station_at u new none ≡ station_at u old none

  -- node v is looked at, the next one
  module _ (old mid : List (Station D O U)) (v k : ℕ) (s s2 : Station D O U) (at : k ≡ v) (low : v < length old) (count : length mid ≡ length old) (after : AreAsBefore v old mid) (is : s ≡ slice_index_or mid k s) where
    was : (none : Station D O U) → station_at v old none ≡ s
    was none = get_or_default old v none s low ∙ sym (after v s (omega arith)) ∙ ap (λ (i : ℕ). slice_index_or mid i s) (sym at) ∙ sym is

    comes : (none : Station D O U) → station_at v (slice_set mid k s2) none ≡ s2
    comes none = ap (λ (i : ℕ). slice_index_or (slice_set mid i s2) v none) at ∙ get_or-set_same mid v s2 none (omega (arith, low, count))

    others : (u : ℕ) (none : Station D O U) → u ≢ v → station_at u (slice_set mid k s2) none ≡ station_at u mid none
    others u none other = ap (λ (i : ℕ). slice_index_or (slice_set mid i s2) u none) at ∙ get_or-set_other mid v u s2 none other

    own : (how : Station D O U → Station D O U → Type 0) → how s s2 → (none : Station D O U) → how (station_at v old none) (station_at v (slice_set mid k s2) none)
    own how holds none = subst (λ (x : Station D O U). how (station_at v old none) x) (sym (comes none)) (subst (λ (x : Station D O U). how x s2) (sym (was none)) holds)

    pub all_counted : length (slice_set mid k s2) ≡ length old
    all_counted = length-set mid k s2 ∙ count

    pub rest_as_before : AreAsBefore (v + 1) old (slice_set mid k s2)
    rest_as_before u none above = others u none (λ same. omega (arith, above, same)) ∙ after u none (omega (arith, above))

    module _ (d : disk.Ghosts D) (faults : List (Option NodeFault)) where
      pub may_rise : MayAllRise d faults old → MayRise d (slice_index_or faults k None) s
      may_rise may = subst (λ (x : Station D O U). MayRise d (slice_index_or faults k None) x) (was s) (subst (λ (i : ℕ). MayRise d (slice_index_or faults i None) (station_at v old s)) (sym at) (may v s low))

      module _ (o : oracle.Ghosts O) (most : ℕ) (before : GoOnBelow d o most v faults old mid) where
        still_before : GoOnBelow d o most v faults old (slice_set mid k s2)
        still_before u none below = subst (λ (x : Station D O U). GoesOn d o most (slice_index_or faults u None) (station_at u old none) x) (sym (others u none (λ same. omega (arith, below, same)))) (before u none below)

        pub one_more_goes_on : GoesOn d o most (slice_index_or faults k None) s s2 → GoOnBelow d o most (v + 1) faults old (slice_set mid k s2)
        one_more_goes_on goes u none below = elim (cases_lt u v) [
          | inl lt ↦ still_before u none lt
          | inr le ↦
              let here : v ≡ u = omega (arith, le, below) in
              subst (λ (w : ℕ). GoesOn d o most (slice_index_or faults w None) (station_at w old none) (station_at w (slice_set mid k s2) none)) here
              (own (GoesOn d o most (slice_index_or faults v None)) (subst (λ (i : ℕ). GoesOn d o most (slice_index_or faults i None) s s2) at goes) none)
        ]

        pub looks_end : (fault : RunFault) → RisesBy d o most v (slice_index_or faults k None) (Err fault) s s2 → RaisesBy d o most faults (Err fault) old (slice_set mid k s2)
        looks_end (Down node) goes = subst (λ (w : ℕ). IsOutAt d o most w faults old (slice_set mid k s2)) (sym goes.0) (record {
          known = low;
          count = all_counted;
          before = still_before;
          own = own (IsOut d o most (slice_index_or faults v None)) (subst (λ (i : ℕ). IsOut d o most (slice_index_or faults i None) s s2) at goes.1);
          after = λ u none above. rest_as_before u none (omega (arith, above));
        })
        looks_end Memory goes = all_counted
        looks_end (Damaged node disk place) goes = record {
          node = v;
          known = low;
          own = λ none. (subst (λ (i : ℕ). slice_index_or faults i None ≡ Some node_faults.Disk) at goes.0, own (WasRaised d o most (Err (node_faults.Damaged disk place))) goes.1 none);
        }

-- an error that is handed on is the same
pub raises_handed_on : {D O U : Type 0} (d : disk.Ghosts D) (o : oracle.Ghosts O) (most : ℕ) (faults : List (Option NodeFault)) (result : Result (Unit {0}) RunFault) (fault : RunFault) (old new : List (Station D O U))
    → IsErrAnd result (λ e. e ≡ fault) → RaisesBy d o most faults (Err fault) old new → RaisesBy d o most faults result old new
raises_handed_on d o most faults (Ok x) fault old new same is = absurd same
raises_handed_on d o most faults (Err e) fault old new same is = subst (λ (x : RunFault). RaisesBy d o most faults (Err x) old new) (sym same) is
