use Rattle.std.proofs.Common.{◌≡◌, ◌<◌, Some, None, option_map, sym, ap, ◌∙◌, subst}
use Rattle.std.specs.List.{AllByRecursion}
use Rattle.ken_model.specs.declared.messages.Send.{Send}
use Rattle.ken_model.specs.declared.messages.Message.{Message}
use Rattle.ken_model.specs.declared.values.Value.{Value}
use Rattle.ken_model.specs.Kinds.{after}
use Rattle.ken_model.specs.Tasks.{task_of, effect_of}
use Rattle.ken_model.specs.Answers.{changed}
use Rattle.ken_model.proofs.Tasks.{after-task}
use Rattle.ken_num.specs.Numbers.{num}
use Rattle.ken_model.proofs.kinds.Kind.react.Goals as goal

pub returns-in_default-clause-effect : goal.returns-in_default-clause-effect
returns-in_default-clause-effect c =
    let m : Message = c.args.message.now in
    let none : task_of c.args.self (num m.bytes) c.args.draws.now ≡ None = ap (λ b. task_of c.args.self (num b) c.args.draws.now) (sym c.as_slice.ensures) ∙ sym c.in_default.ensures.task in
    sym (after-task c.args.self c.args.node c.args.nodes c.args.value m c.args.draws.now ∙ ap (option_map (effect_of c.args.node c.args.nodes c.args.value m)) none)

pub returns-clause-effect : goal.returns-clause-effect
returns-clause-effect c =
    let m : Message = c.args.message.now in
    let v : Value = c.args.value in
    let some : task_of c.args.self (num m.bytes) c.args.draws.now ≡ Some c.in-Some.task = ap (λ b. task_of c.args.self (num b) c.args.draws.now) (sym c.as_slice.ensures) ∙ sym c.in-Some.ensures.task in
    let whole : after c.args.self c.args.node c.args.nodes v m c.args.draws.now ≡ Some (effect_of c.args.node c.args.nodes v m c.in-Some.task) = after-task c.args.self c.args.node c.args.nodes v m c.args.draws.now ∙ ap (option_map (effect_of c.args.node c.args.nodes v m)) some in
    ap (λ (x : Value). Some (record { value = record { size = x.size; root = c.in_ok-root.field-0.root; blocks = x.blocks }; sends = c.new.result; outs = c.new-2.result })) c.in_ok-change.ensures.ok
    ∙ ap (λ ss. Some (record { value = record v { root = c.in_ok-root.field-0.root; blocks = changed c.in_ok-root.field-0.blocks v.blocks }; sends = ss; outs = c.new-2.result })) c.new.ensures
    ∙ ap (λ os. Some (record { value = record v { root = c.in_ok-root.field-0.root; blocks = changed c.in_ok-root.field-0.blocks v.blocks }; sends = c.in_ok-root.field-0.sends.items; outs = os })) c.new-2.ensures
    ∙ sym (whole ∙ ap (λ e. Some e) c.in_ok-root.ensures.effect)

pub returns-clause-known : goal.returns-clause-known
returns-clause-known c = subst (λ ss. AllByRecursion (λ (s : Send). s.to < c.args.nodes) ss) (sym c.new.ensures) c.in_ok-root.ensures.known
