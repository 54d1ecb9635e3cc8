use Rattle.std.proofs.Common.{◌≡◌, ℕ, ◌≤◌, ◌*◌, List, length, Some, refl, sym, ap, subst, ◌∙◌, arith}
use Rattle.std.proofs.lemmas.Result.{IfOk-weaker}
use Rattle.ken_alloc.specs.Objects.{FramedHeap, heap_in}
use Rattle.ken_app.specs.Oracles.{Answers}
use Rattle.ken_model.specs.declared.messages.Message.{Message}
use Rattle.ken_model.specs.Effects.{Effect}
use Rattle.ken_model.specs.Handler.{Handler}
use Rattle.ken_model.specs.Layout.{StandsFor}
use Rattle.ken_record.specs.declared.effects.Effects.{Effects}
use Rattle.ken_record.specs.Grammar.{AtMost, IsWord}
use Rattle.ken_work.specs.Making.{effects_in}
use Rattle.ken_app.specs.Limits.{ComesTo}
use Rattle.ken_work.proofs.Handled.{both_ok, call_of, long_as_before, turn_handled}
use Rattle.ken_work.proofs.SameWorker.{same_worker}
use Rattle.ken_work.proofs.Sealable.{low_sent}
use Rattle.ken_work.proofs.worker.TurnWorker.work.Goals as goal

pub effects-requires-clause-sends : goal.effects-requires-clause-sends
effects-requires-clause-sends g c =
    let h : Handler = g.A.App.handler c.args.app.now in
    let s = c.args.self.now in
    let made = c.in_ok-made.field-0 in
    let effect : Effect = record { value = c.take_turn-made.new.objects.value; sends = made.sends.items; outs = made.outs.items } in
    let before : FramedHeap = c.objects-objects.result.now in
    let comes = subst (λ (x : FramedHeap). ComesTo h s.node s.nodes (256 * s.side.owner.pages) x.value) (sym c.objects-objects.ensures.heap) c.requires.heap in
    let call = call_of s.side.owner s.order c.args.message.now made.draws.items s.node s.nodes c.requires.turning.owner c.requires.node.0 c.requires.node.1 c.requires.order c.requires.message c.in_ok-made.ensures.drawn in
    let turn = turn_handled h s.node s.nodes (256 * s.side.owner.pages) c.args.message.now (heap_in before) made.draws.items effect c.requires.keeps comes call c.in_ok-made.ensures.handled in
    let few : length made.sends.items ≤ 16 = turn.allowed.few_sends in
    λ w. let low = low_sent s.side.numbers c.requires.more.numbers w in omega arith

pub returns-clause-rest : goal.returns-clause-rest
returns-clause-rest g c = same_worker _ _ _ _ _

pub returns-clause-made : goal.returns-clause-made
returns-clause-made g c =
    let h : Handler = g.A.App.handler c.args.app.now in
    let s = c.args.self.now in
    let m : Message = c.args.message.now in
    let made = c.in_ok-made.field-0 in
    let heap : FramedHeap = c.take_turn-made.new.objects in
    let effect : Effect = record { value = heap.value; sends = made.sends.items; outs = made.outs.items } in
    let before : FramedHeap = c.objects-objects.result.now in
    let is : before ≡ s.side.objects = c.objects-objects.ensures.heap in
    let comes = subst (λ (x : FramedHeap). ComesTo h s.node s.nodes (256 * s.side.owner.pages) x.value) (sym is) c.requires.heap in
    let call = call_of s.side.owner s.order m made.draws.items s.node s.nodes c.requires.turning.owner c.requires.node.0 c.requires.node.1 c.requires.order c.requires.message c.in_ok-made.ensures.drawn in
    let turn = turn_handled h s.node s.nodes (256 * s.side.owner.pages) m (heap_in before) made.draws.items effect c.requires.keeps comes call c.in_ok-made.ensures.handled in
    let after : h.after s.node s.nodes s.side.objects.value m made.draws.items ≡ Some effect = subst (λ (x : FramedHeap). h.after s.node s.nodes x.value m made.draws.items ≡ Some effect) is turn.after in
    let begun : heap.begun ≡ Some s.side.objects.bytes = c.in_ok-made.ensures.begun ∙ ap (λ (x : FramedHeap). x.begun) is ∙ c.requires.begun in
    let P : Effects → Type 0 = λ e. e ≡ effects_in s.side.owner.node s.side.numbers m made.draws.items effect in
    both_ok c.effects.result P (λ e. AtMost 16 IsWord e.draws) _
    (λ e kept drawn.
    let draws : e.draws ≡ made.draws.items = ap (λ (x : Effects). x.draws) kept in
    record {
      same = record { owner = refl; log = refl; which = refl; other = refl; numbers = refl; base_turns = refl; records = refl };
      stood = subst (λ (x : FramedHeap). StandsFor x.bytes x.value) is c.stands.ensures.now;
      begun = begun;
      pages = long_as_before s.side.owner.pages (heap_in s.side.objects) (heap_in heap) c.requires.turning.heap.bytes begun c.stands-2.ensures.long;
      stands = c.stands-2.ensures.now;
      effect = effect;
      made = rw (c.requires.node.0, c.requires.node.1, draws) after;
      value = refl;
      effects = kept ∙ ap (λ (d : List ℕ). effects_in s.side.owner.node s.side.numbers m d effect) (sym draws);
      words = drawn.1;
    })
    (c.effects.ensures.kept s.side.owner.node heap.value) c.effects.ensures.draws

pub returns-clause-clocks : goal.returns-clause-clocks
returns-clause-clocks g c =
    let h : Handler = g.A.App.handler c.args.app.now in
    let made = c.in_ok-made.field-0 in
    IfOk-weaker c.effects.result _ _
    (λ e kept. subst (λ d. Answers (g.O.Oracle.telling.clocks c.args.oracle.now) (g.O.Oracle.telling.clocks c.take_turn-made.new.oracle) (h.clocks d)) (sym (ap (λ (x : Effects). x.draws) kept)) c.in_ok-made.ensures.clocks)
    (c.effects.ensures.kept 0 c.take_turn-made.new.objects.value)

pub returns-clause-words : goal.returns-clause-words
returns-clause-words g c =
    let h : Handler = g.A.App.handler c.args.app.now in
    let made = c.in_ok-made.field-0 in
    IfOk-weaker c.effects.result _ _
    (λ e kept. subst (λ d. Answers (g.O.Oracle.telling.words c.args.oracle.now) (g.O.Oracle.telling.words c.take_turn-made.new.oracle) (h.words d)) (sym (ap (λ (x : Effects). x.draws) kept)) c.in_ok-made.ensures.words)
    (c.effects.ensures.kept 0 c.take_turn-made.new.objects.value)
