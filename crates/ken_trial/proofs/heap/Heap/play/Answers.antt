use Rattle.std.proofs.Common.{◌≡◌, ◌≢◌, Result, Some, Ok, sym, subst, ap, ◌∙◌}
use Rattle.std.specs.Cmp.Lexicographic.{other_text}
use Rattle.ken_alloc.specs.Objects.{FramedHeap}
use Rattle.ken_model.specs.declared.values.Value.{Value}
use Rattle.ken_model.specs.Effects.{Effect}
use Rattle.ken_model.specs.Handler.{Handler}
use Rattle.ken_app.specs.declared.turn.Made.{Made}
use Rattle.ken_app.specs.Limited.{limited}
use Rattle.ken_trial.proofs.Decided.{sends_few, sends_known, others_undefined}
use Rattle.ken_trial.proofs.Restored.{restored}
use Rattle.ken_trial.proofs.heap.Heap.play.Goals as goal

same_ok : {A E : Type 0} (r : Result A E) (a b : A) → r ≡ Ok a → r ≡ Ok b → a ≡ b
same_ok r a b one two = cc

pub returns-in-Ok-clause-known : goal.returns-in-Ok-clause-known
returns-in-Ok-clause-known g c = rw c.new.ensures (sends_known (g.S.Service.handler c.args.service.now) c.args.node c.args.nodes c.begin.new.self.value c.args.message.now c.in-Ok.made.draws.items _ c.in-Ok.ensures.handled)

pub returns-in-Ok-clause-few : goal.returns-in-Ok-clause-few
returns-in-Ok-clause-few g c = rw c.new.ensures (sends_few (g.S.Service.handler c.args.service.now) c.args.node c.args.nodes c.begin.new.self.value c.args.message.now c.in-Ok.made.draws.items _ c.in-Ok.ensures.handled)

pub returns-in-Ok-2-clause-undefined : goal.returns-in-Ok-2-clause-undefined
returns-in-Ok-2-clause-undefined g c _ decided =
    let same : c.in-Ok.made ≡ c.in-Ok-2._other = same_ok c.turn_by.result c.in-Ok.made c.in-Ok-2._other c.in-Ok.is c.in-Ok-2.is in
    let other : c.as_slice.result.now ≢ c.args.draws.now = other_text _ _ (sym c.if-eq.false ∙ c.eq.ensures) in
    let at : c.begin.new.self.value ≡ c.args.self.now = ap (λ (h : FramedHeap). h.value) c.begin.ensures ∙ c.self.view_is in
    let h : Handler = limited (g.S.Service.handler c.args.service.now) in
    let e : Effect = record { value = c.turn_by.new.objects.value; sends = c.in-Ok-2._other.sends.items; outs = c.in-Ok-2._other.outs.items } in
    others_undefined h c.args.node c.args.nodes c.args.self.now c.args.message.now e c.in-Ok-2.ensures.drawn.0 c.args.draws.now c.in-Ok-2._other.draws.items decided c.in-Ok-2.ensures.drawn.1
    (λ is. other (c.as_slice.ensures.value ∙ ap (λ (m : Made). m.draws.items) same ∙ is))
    (subst (λ (v : Value). h.after c.args.node c.args.nodes v c.args.message.now c.in-Ok-2._other.draws.items ≡ Some e) at c.in-Ok-2.ensures.handled)

pub returns-in-Ok-2-clause-unchanged : goal.returns-in-Ok-2-clause-unchanged
returns-in-Ok-2-clause-unchanged g c _ =
    let begun : c.turn_by.new.objects.begun ≡ Some c.self.inside.objects.bytes = cc in
    restored c.self.inside.objects c.turn_by.new.objects c.abort.new.self c.stands.ensures.now begun c.abort.ensures.begun ∙ c.self.view_is

pub returns-in-Err-clause-err : goal.returns-in-Err-clause-err
returns-in-Err-clause-err g c =
    let begun : c.turn_by.new.objects.begun ≡ Some c.self.inside.objects.bytes = cc in
    restored c.self.inside.objects c.turn_by.new.objects c.abort-in-Err.new.self c.stands.ensures.now begun c.abort-in-Err.ensures.begun ∙ c.self.view_is
