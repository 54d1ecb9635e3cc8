-- How the flow of a run moves over several calls, and how much work each leaves.
use Rattle.std.proofs.Common.{◌≡◌, ℕ, ◌+◌, ◌-◌, ◌*◌, ◌^◌, ◌<◌, ◌≤◌, inl, inr, ⊎_elim, List, length, slice_index_or, slice_set, take, Option, Result, Ok, Err, refl, sym, ap, subst, ◌∙◌, arith}
use Rattle.std.specs.Prelude.{IsErrOf, OnOk}
use Rattle.std.specs.Result.{IsErrAnd}
use Rattle.std.specs.List.{sum_by}
use Rattle.std.proofs.lemmas.List.{take_all}
use Rattle.std.proofs.lemmas.List.Sums.{sum_by-set, sum_by_more}
use Rattle.ken_disk.specs.Story.{Story}
use Rattle.ken_model.specs.declared.messages.Out.{Out}
use Rattle.ken_model.specs.Game.{Game}
use Rattle.ken_model.specs.Handler.{Handler}
use Rattle.ken_ship.specs.declared.faults.NodeFault.{NodeFault}
use Rattle.ken_ship.specs.declared.faults.NodeFault.TheVariants.{Disk}
use Rattle.ken_node.specs.declared.watched.Watched.{Watched}
use Rattle.ken_node.specs.Remaining.{turns_to_make}
use Rattle.ken_flow.specs.Standstill.{Flow}
use Rattle.ken_run.specs.declared.run.Run.{Run}
use Rattle.ken_run.specs.declared.station.Station.{Station}
use Rattle.ken_run.specs.Flowing.{Moved, Moves, flow_of, work_at, work_left}
use Rattle.ken_run.specs.Running.{IsRunning, MayWork}

-- ---- how much work is left, after one node was called

pub work-set : {D O U : Type 0} (most : ℕ) (items : List (Station D O U)) (v : ℕ) (s s2 : Station D O U) → v < length items → slice_index_or items v s ≡ s
    → sum_by (work_at most) (slice_set items v s2) + work_at most s ≡ sum_by (work_at most) items + work_at most s2
work-set {D} {O} {U} most items v s s2 low is = ap (λ (x : Station D O U). sum_by (work_at most) (slice_set items v s2) + work_at most x) (sym is) ∙ sum_by-set (work_at most) items v s2 s low

module _ {D O U A : Type 0} (r r2 : Run D O U A) (v : ℕ) (s s2 : Station D O U) (low : v < length r.stations.items) (is : slice_index_or r.stations.items v s ≡ s) (same : r2.restarts ≡ r.restarts) (stations : r2.stations.items ≡ slice_set r.stations.items v s2) where
  work-both : work_left r2 + work_at r.restarts s ≡ work_left r + work_at r.restarts s2
  work-both =
      ap (λ (most : ℕ). sum_by (work_at most) r2.stations.items + work_at r.restarts s) same
      ∙ ap (λ (items : List (Station D O U)). sum_by (work_at r.restarts) items + work_at r.restarts s) stations
      ∙ work-set r.restarts r.stations.items v s s2 low is

  -- it has as many turns left and was restarted as often
  pub work-same : s2.restarts ≡ s.restarts → turns_to_make s2.node.stage ≡ turns_to_make s.node.stage → work_left r2 ≡ work_left r
  work-same tries turns =
      let both = work-both in
      let one : work_at r.restarts s2 ≡ work_at r.restarts s = ap (λ (n : ℕ). (r.restarts - n) + turns_to_make s2.node.stage) tries ∙ ap (λ (n : ℕ). (r.restarts - s.restarts) + n) turns in
      omega (arith, both, one)

  -- or it made a turn
  pub work-turn : s2.restarts ≡ s.restarts → turns_to_make s2.node.stage < turns_to_make s.node.stage → work_left r2 < work_left r
  work-turn tries turns =
      let both = work-both in
      let one : work_at r.restarts s2 ≡ (r.restarts - s.restarts) + turns_to_make s2.node.stage = ap (λ (n : ℕ). (r.restarts - n) + turns_to_make s2.node.stage) tries in
      omega (arith, both, one, turns)

  -- or it was restarted once more, as it may be
  pub work-try : s.restarts < r.restarts → s2.restarts ≡ s.restarts + 1 → turns_to_make s2.node.stage ≤ turns_to_make s.node.stage → work_left r2 < work_left r
  work-try may tries turns =
      let both = work-both in
      let one : work_at r.restarts s2 ≡ (r.restarts - (s.restarts + 1)) + turns_to_make s2.node.stage = ap (λ (n : ℕ). (r.restarts - n) + turns_to_make s2.node.stage) tries in
      omega (arith, both, one, turns, may)

-- ---- how much work is left, node by node

pub left-more : {D O U : Type 0} (most : ℕ) (items items2 : List (Station D O U)) (i left one : ℕ) (s : Station D O U) → items2 ≡ items → i < length items2 → s ≡ slice_index_or items2 i s → one ≡ work_at most s
    → left ≡ sum_by (work_at most) (take i items) → left + one ≡ sum_by (work_at most) (take (i + 1) items)
left-more {D} {O} {U} most items items2 i left one s same low is one_is sum =
    let within : i < length items = subst (λ (xs : List (Station D O U)). i < length xs) same low in
    let here : s ≡ slice_index_or items i s = is ∙ ap (λ (xs : List (Station D O U)). slice_index_or xs i s) same in
    let work : one ≡ work_at most (slice_index_or items i s) = one_is ∙ ap (work_at most) here in
    let more = sum_by_more (work_at most) items i s within in
    omega (arith, more, work, sum)

pub few-more : (i left one : ℕ) → left ≤ i * 2 ^ 65 → one < 2 ^ 65 → left + one ≤ (i + 1) * 2 ^ 65
few-more i left one few less = omega (arith, few, less)

pub left-all : {D O U : Type 0} (most : ℕ) (items items2 : List (Station D O U)) (i left : ℕ) → items2 ≡ items → length items2 ≤ i → left ≡ sum_by (work_at most) (take i items) → left ≡ sum_by (work_at most) items
left-all {D} {O} {U} most items items2 i left same past sum = sum ∙ ap (λ (xs : List (Station D O U)). sum_by (work_at most) xs) (take_all i items (subst (λ (xs : List (Station D O U)). length xs ≤ i) same past))

-- ---- one call after another

pub on-ok-with : {T E : Type 0} {A B : Type 0} (result : Result T E) → OnOk result A → (A → B) → OnOk result B
on-ok-with (Ok x) a f = f a
on-ok-with (Err e) a f = tt

-- a fault that is handed on is the same
pub same-fault : {T : Type 0} (result : Result T NodeFault) (fault : NodeFault) → IsErrAnd result (λ e. e ≡ fault) → IsErrOf result Disk → fault ≡ Disk
same-fault (Ok x) fault same is = absurd same
same-fault (Err e) fault same is = cc

-- an error after calls that left no more work
pub less-err : {D O U A T : Type 0} (old mid new : Run D O U A) (result : Result T NodeFault) (fault : NodeFault) → work_left mid ≤ work_left old
    → IsErrAnd result (λ e. e ≡ fault) → (fault ≡ Disk → work_left new ≤ work_left mid) → IsErrOf result Disk → work_left new ≤ work_left old
less-err old mid new result fault before same less was = let here = less (same-fault result fault same was) in omega (arith, before, here)

module _ {D O U A : Type 0} (told : Watched D → Option Story) (size : Watched D → ℕ) (took : U → Option (List Out)) (handles : A → Handler) where
  pub now-less : (how : Flow → Flow → Type 0) (g : Game) (made : ℕ) (old new : Run D O U A) (was : IsRunning told size took handles g made old) → Moved told size took handles how g made old new was → work_left new ≤ work_left old
  now-less how g made old new was m = ⊎_elim (λ less. omega (arith, less)) (λ (x : (work_left new ≡ work_left old) × how (flow_of was.nodes old) (flow_of m.now.nodes new)). let e = x.0 in omega (arith, e)) m.moved

  pub moves-less : (how : Game → Flow → Flow → Type 0) (v : ℕ) (old new : Run D O U A) → Moves told size took handles how v old new → MayWork told size took handles v old → work_left new ≤ work_left old
  moves-less how v old new moves may = now-less (how may.game) may.game may.made old new may.running (moves may.game may.made may.running may.known)

  pub moved-less : (how : Flow → Flow → Type 0) (g : Game) (made : ℕ) (old new : Run D O U A) (was : IsRunning told size took handles g made old) → IsRunning told size took handles g made new → work_left new < work_left old → Moved told size took handles how g made old new was
  moved-less how g made old new was now less = record { now = now; moved = inl less }

  pub moved-then : (one two both : Flow → Flow → Type 0) (g : Game) (made : ℕ) (old mid new : Run D O U A) (was : IsRunning told size took handles g made old) → ((f f2 f3 : Flow) → one f f2 → two f2 f3 → both f f3)
      → Moved told size took handles one g made old mid was → ((now : IsRunning told size took handles g made mid) → Moved told size took handles two g made mid new now) → Moved told size took handles both g made old new was
  moved-then one two both g made old mid new was join first second =
      let next = second first.now in
      let few = now-less two g made mid new first.now next in
      record {
        now = next.now;
        moved = ⊎_elim
            (λ less. inl (omega (arith, few, less)))
            (λ (x : (work_left mid ≡ work_left old) × one (flow_of was.nodes old) (flow_of first.now.nodes mid)). ⊎_elim
            (λ less. let e = x.0 in inl (omega (arith, e, less)))
            (λ (y : (work_left new ≡ work_left mid) × two (flow_of first.now.nodes mid) (flow_of next.now.nodes new)). inr (y.0 ∙ x.0, join (flow_of was.nodes old) (flow_of first.now.nodes mid) (flow_of next.now.nodes new) x.1 y.1))
            next.moved)
            first.moved;
      }

  pub moves-then : (one two both : Game → Flow → Flow → Type 0) (v : ℕ) (old mid new : Run D O U A) → ((g : Game) (f f2 f3 : Flow) → one g f f2 → two g f2 f3 → both g f f3)
      → Moves told size took handles one v old mid → Moves told size took handles two v mid new → Moves told size took handles both v old new
  moves-then one two both v old mid new join first second g made was low =
      moved-then (one g) (two g) (both g) g made old mid new was (join g) (first g made was low) (λ now. second g made now low)

  -- nothing moved yet
  pub moves-none : (how : Game → Flow → Flow → Type 0) (v : ℕ) (r : Run D O U A) → ((g : Game) (f : Flow) → how g f f) → Moves told size took handles how v r r
  moves-none how v r same g made was low = record { now = was; moved = inr (refl, same g (flow_of was.nodes r)) }

  -- what holds of each game where a call answers Ok
  pub moves-from : {T E : Type 0} (how : Game → Flow → Flow → Type 0) (v : ℕ) (old new : Run D O U A) (result : Result T E)
      → ((g : Game) (made : ℕ) (was : IsRunning told size took handles g made old) → v < made → OnOk result (Moved told size took handles (how g) g made old new was)) → OnOk result (Moves told size took handles how v old new)
  moves-from how v old new (Ok x) each = each
  moves-from how v old new (Err e) each = tt
