-- The calls of a visit, and visits, one after another.
use Rattle.std.proofs.Common.{◌≡◌, ℕ, ◌+◌, ◌<◌, ◌≤◌, ◌⊎◌, inl, inr, ⊎_elim, List, length, slice_set, Option, Result, Ok, Err, refl, ap, subst, ◌∙◌, arith}
use Rattle.std.proofs.lemmas.List.{set-set}
use Rattle.std.specs.Prelude.{IsErrOf, OnOk, slice_index}
use Rattle.std.specs.Result.{IsErrAnd}
use Rattle.ken_disk.specs.Story.{Story}
use Rattle.ken_model.specs.declared.messages.Out.{Out}
use Rattle.ken_model.specs.Game.{Game}
use Rattle.ken_model.specs.Handler.{Handler}
use Rattle.ken_core.specs.Nodes.{Node}
use Rattle.ken_core.specs.Turns.{outs_of}
use Rattle.ken_ship.specs.declared.faults.NodeFault.{NodeFault}
use Rattle.ken_ship.specs.declared.faults.NodeFault.TheVariants.{Disk}
use Rattle.ken_node.specs.declared.watched.Watched.{Watched}
use Rattle.ken_flow.specs.Standstill.{Emits, Flow, Heard, MakesNoTurn, Passed, Posted, Rested, Visited, VisitedTo, Written, none, open_outs, then}
use Rattle.ken_run.specs.declared.faults.RunFault.{RunFault}
use Rattle.ken_run.specs.declared.run.Run.{Run}
use Rattle.ken_run.specs.Flowing.{AllMoved, Moved, Moves, flow_of, work_left}
use Rattle.ken_run.specs.Running.{IsRunning, LeavesRunBy, MayWork, StaysUp}
use Rattle.ken_run.proofs.Moves.{moved-then, moves-less, moves-then, same-fault}

-- ---- what several calls of one sort come to

no-turns : (v : ℕ) (n n2 n3 : ℕ → Node) → MakesNoTurn v n n2 → MakesNoTurn v n2 n3 → MakesNoTurn v n n3
no-turns v n n2 n3 a b = record { turns = b.turns ∙ a.turns; others = λ u ne. b.others u ne ∙ a.others u ne }

pub written-none : (v : ℕ) (f : Flow) → Written v f f
written-none v f = record { no_turn = record { turns = refl; others = λ u ne. refl }; sending = refl; flow = refl }

pub written-then : (v : ℕ) (f f2 f3 : Flow) → Written v f f2 → Written v f2 f3 → Written v f f3
written-then v f f2 f3 a b = record {
  no_turn = no-turns v f.nodes f2.nodes f3.nodes a.no_turn b.no_turn;
  sending = b.sending ∙ a.sending;
  flow = b.flow ∙ ap (λ (x : Flow). record x { nodes = f3.nodes }) a.flow;
}

-- fewer, or as many and all are emitted
abbrev EmitsFewer : ℕ → Flow → Flow → Type 0
EmitsFewer v f f2 = (open_outs f2 v < open_outs f v) ⊎ ((open_outs f2 v ≡ open_outs f v) × (length (outs_of (f2.nodes v).turning.turns) ≤ (f2.nodes v).sending.emitted))

fewer-then : (v : ℕ) (f f2 f3 : Flow) → EmitsFewer v f f2 → EmitsFewer v f2 f3 → EmitsFewer v f f3
fewer-then v f f2 f3 (inl a) (inl b) = inl (omega (arith, a, b))
fewer-then v f f2 f3 (inl a) (inr b) = inl (let e = b.0 in omega (arith, a, e))
fewer-then v f f2 f3 (inr a) (inl b) = inl (let e = a.0 in omega (arith, b, e))
fewer-then v f f2 f3 (inr a) (inr b) = inr (b.0 ∙ a.0, b.1)

emits-then : (v : ℕ) (f f2 f3 : Flow) → Emits v f f2 → Emits v f2 f3 → Emits v f f3
emits-then v f f2 f3 a b = record {
  no_turn = no-turns v f.nodes f2.nodes f3.nodes a.no_turn b.no_turn;
  acked = b.acked ∙ a.acked;
  how = fewer-then v f f2 f3 a.how b.how;
  flow = b.flow ∙ ap (λ (x : Flow). record x { nodes = f3.nodes; refusals = slice_set x.refusals v (slice_index f3.refusals v) }) a.flow
      ∙ ap (λ (rs : List ℕ). record f { nodes = f3.nodes; refusals = rs }) (set-set f.refusals v (slice_index f2.refusals v) (slice_index f3.refusals v));
}

-- nothing was emitted yet, or something was
abbrev pub MayEmit : ℕ → Flow → Flow → Type 0
MayEmit v f f2 = (f2 ≡ f) ⊎ Emits v f f2

pub may-emit-then : (v : ℕ) (f f2 f3 : Flow) → MayEmit v f f2 → Emits v f2 f3 → Emits v f f3
may-emit-then v f f2 f3 (inl same) b = subst (λ (x : Flow). Emits v x f3) same b
may-emit-then v f f2 f3 (inr a) b = emits-then v f f2 f3 a b

pub rested-then : (g : Game) (v : ℕ) (f f2 f3 : Flow) → f2 ≡ f → Rested g v f2 f3 → Rested g v f f3
rested-then g v f f2 f3 same b = subst (λ (x : Flow). Rested g v x f3) same b

-- one after the other
abbrev pub Both : (Flow → Flow → Type 0) → (Flow → Flow → Type 0) → Flow → Flow → Type 0
Both one two f f3 = (mid : Flow) × (one f mid × two mid f3)

module _ {D O U A : Type 0} (told : Watched D → Option Story) (size : Watched D → ℕ) (took : U → Option (List Out)) (handles : A → Handler) where
  -- where less work is left, nothing is asked of the flow
  pub moves-worked : (one how : Game → Flow → Flow → Type 0) (v : ℕ) (old mid new : Run D O U A) → Moves told size took handles one v old mid → StaysUp told size took handles v mid new → work_left new < work_left mid → Moves told size took handles how v old new
  moves-worked one how v old mid new moves stays less g made was low =
      let x = moves g made was low in
      let few = ⊎_elim (λ (a : work_left mid < work_left old). let r : work_left mid ≤ work_left old = omega (arith, a) in r) (λ (a : (work_left mid ≡ work_left old) × one g (flow_of was.nodes old) (flow_of x.now.nodes mid)). let e = a.0 in let r : work_left mid ≤ work_left old = omega (arith, e) in r) x.moved in
      record { now = stays g made x.now low; moved = inl (omega (arith, few, less)) }

  -- an error after calls that left no more work
  pub less-then : {T : Type 0} (how : Game → Flow → Flow → Type 0) (v : ℕ) (old mid new : Run D O U A) (result : Result T NodeFault) (fault : NodeFault) → Moves told size took handles how v old mid → MayWork told size took handles v old
      → IsErrAnd result (λ e. e ≡ fault) → (fault ≡ Disk → work_left new ≤ work_left mid) → IsErrOf result Disk → work_left new ≤ work_left old
  less-then how v old mid new result fault moves may same less was =
      let before = moves-less told size took handles how v old mid moves may in
      let here = less (same-fault result fault same was) in
      omega (arith, before, here)

  -- ---- the calls of a visit

  pub then-both : (one two : Game → Flow → Flow → Type 0) (v : ℕ) (old mid new : Run D O U A) → Moves told size took handles one v old mid → Moves told size took handles two v mid new → Moves told size took handles (λ g. Both (one g) (two g)) v old new
  then-both one two v old mid new first second = moves-then told size took handles one two (λ g. Both (one g) (two g)) v old mid new (λ g f f2 f3 a b. (f2, (a, b))) first second

  pub visit-moves : (v : ℕ) (r1 r2 r3 r4 r5 r6 r7 : Run D O U A) → Moves told size took handles (λ g. Rested g v) v r1 r2 → Moves told size took handles (λ g. Written v) v r2 r3 → Moves told size took handles (λ g. Written v) v r3 r4 → Moves told size took handles (λ g. Posted g v) v r4 r5 → Moves told size took handles (λ g. Heard g v) v r5 r6
      → Moves told size took handles (λ g. Emits v) v r6 r7 → Moves told size took handles (λ g. Visited g v) v r1 r7
  visit-moves v r1 r2 r3 r4 r5 r6 r7 a b c d e f =
      let bc : Moves told size took handles (λ g. Written v) v r2 r4 = moves-then told size took handles (λ g. Written v) (λ g. Written v) (λ g. Written v) v r2 r3 r4 (λ g. written-then v) b c in
      let ef = then-both (λ g. Heard g v) (λ g. Emits v) v r5 r6 r7 e f in
      let df = then-both (λ g. Posted g v) (λ g. Both (Heard g v) (Emits v)) v r4 r5 r7 d ef in
      let bf = then-both (λ g. Written v) (λ g. Both (Posted g v) (Both (Heard g v) (Emits v))) v r2 r4 r7 bc df in
      moves-then told size took handles (λ g. Rested g v) (λ g. Both (Written v) (Both (Posted g v) (Both (Heard g v) (Emits v)))) (λ g. Visited g v) v r1 r2 r7
      (λ g x x2 x3 rests rest. record { rested = x2; written = rest.0; posted = rest.1.1.0; heard = rest.1.1.1.1.0; rests = rests; writes = rest.1.0; posts = rest.1.1.1.0; hears = rest.1.1.1.1.1.0; emits = rest.1.1.1.1.1.1 })
      a bf

  -- a restart after a visit that was broken off
  pub restarted-moves : (how : Game → Flow → Flow → Type 0) (v : ℕ) (old mid new : Run D O U A) (result : Result (Unit {0}) RunFault) → ((g : Game) (made : ℕ) → IsRunning told size took handles g made old → v < made → LeavesRunBy told size took handles result g made new)
      → OnOk result (work_left new < work_left mid) → work_left mid ≤ work_left old → OnOk result (Moves told size took handles how v old new)
  restarted-moves how v old mid new (Ok x) leaves worked less = λ g made was low. record { now = leaves g made was low; moved = inl (omega (arith, worked, less)) }
  restarted-moves how v old mid new (Err e) leaves worked less = tt

  -- ---- a pass

  pub pass-none : (r : Run D O U A) → AllMoved told size took handles (λ g. VisitedTo g 0 0) r r
  pass-none r g made was all = record { now = was; moved = inr (refl, none (flow_of was.nodes r)) }

  pub pass-more : (v : ℕ) (old mid new : Run D O U A) → AllMoved told size took handles (λ g. VisitedTo g 0 v) old mid → Moves told size took handles (λ g. Visited g v) v mid new → ((g : Game) (made : ℕ) → IsRunning told size took handles g made old → v < made) → AllMoved told size took handles (λ g. VisitedTo g 0 (v + 1)) old new
  pass-more v old mid new first second low g made was all =
      moved-then told size took handles (VisitedTo g 0 v) (Visited g v) (VisitedTo g 0 (v + 1)) g made old mid new was (λ f f2 f3 a b. then a b) (first g made was all) (λ now. second g made now (low g made was))

  pub pass-all : (v : ℕ) (old new : Run D O U A) → AllMoved told size took handles (λ g. VisitedTo g 0 v) old new → ((g : Game) (made : ℕ) → IsRunning told size took handles g made old → v ≡ made) → AllMoved told size took handles Passed old new
  pass-all v old new first end g made was all = subst (λ (u : ℕ). Moved told size took handles (VisitedTo g 0 u) g made old new was) (end g made was ∙ all) (first g made was all)
