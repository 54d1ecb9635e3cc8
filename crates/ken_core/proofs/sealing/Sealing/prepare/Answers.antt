use Rattle.std.proofs.Common.{◌≡◌, ◌<◌, Option, Some, IfSome, option_map, length, refl, sym, ap, subst, ◌∙◌, arith}
use Rattle.std.specs.List.{AllByRecursion}
use Rattle.ken_model.specs.declared.messages.Send.{Send}
use Rattle.ken_model.specs.declared.reactions.Reaction.{Reaction}
use Rattle.ken_model.specs.declared.values.Value.{Value}
use Rattle.ken_model.specs.Effects.{Effect}
use Rattle.ken_model.specs.Kinds.{handler_of}
use Rattle.ken_model.specs.Game.{Game, game_of}
use Rattle.ken_model.specs.Reactions.{effect_in}
use Rattle.ken_model.specs.Reading.{read_value}
use Rattle.ken_cover.specs.Overlay.{overlay}
use Rattle.ken_core.specs.Enabled.{AreChanged}
use Rattle.ken_core.specs.Groups.{node_in}
use Rattle.ken_core.specs.declared.machine.Machine.{Machine}
use Rattle.ken_core.specs.Sealings.{Keeps}
use Rattle.ken_core.proofs.Preparing.{unreacted, differing, reacts, known_sends, sealing_is}
use Rattle.ken_core.proofs.sealing.Sealing.prepare.Goals as goal
use Rattle.ken_core.proofs.sealing.Sealing.prepare.Goals.{In-Some, In-Some-reaction, In-Some-2}

reads : (c : In-Some) → read_value c.args.machine.now.pages.heap ≡ Some c.in-Some.value
reads c = sym c.in_ok-value.ensures.value ∙ c.in-Some.is

pub returns-in_default-reaction-clause-none : goal.returns-in_default-reaction-clause-none
returns-in_default-reaction-clause-none c = λ t makes.
    unreacted (game_of c.args.facts.now) c.args.node (node_in c.args.machine.now) c.args.message.now c.args.draws.now c.args.pages.now t makes c.in-Some.value (reads (goal.at.returns-in_default-reaction-clause-none c).In-Some)
    (ap (option_map effect_in) (sym c.in_default-reaction.is) ∙ c.in_ok-reaction.ensures.effect) c.in_ok-reaction.ensures.words

reaction : (c : In-Some-reaction) → Some (effect_in c.in-Some-reaction.reaction) ≡ (handler_of c.args.facts.now.kind).after c.args.node c.args.facts.now.nodes c.in-Some.value c.args.message.now c.args.draws.now
reaction c = ap (option_map effect_in) (sym c.in-Some-reaction.is) ∙ c.in_ok-reaction.ensures.effect

laid : (c : In-Some-2) → read_value (overlay c.args.machine.now.pages.heap c.args.pages.now) ≡ Some c.in-Some-2.now
laid c = ap (λ bytes. read_value (overlay bytes c.args.pages.now)) (sym c.take_value.ensures.same) ∙ sym c.in_ok-now.ensures.value ∙ c.in-Some-2.is

pub returns-then-not-is_same-clause-none : goal.returns-then-not-is_same-clause-none
returns-then-not-is_same-clause-none c = λ t makes.
    let at = goal.at.returns-then-not-is_same-clause-none c in
    differing (game_of c.args.facts.now) c.args.node (node_in c.args.machine.now) c.args.message.now c.args.draws.now c.args.pages.now t makes c.in-Some.value c.in-Some-2.now (effect_in c.in-Some-reaction.reaction) (reads at.In-Some) (reaction at.In-Some-reaction) c.in_ok-reaction.ensures.words (laid at.In-Some-2)
    (λ same. let holds = c.is_same.ensures.1 same in absurd cc)

known : (c : In-Some-reaction) → AllByRecursion (λ (s : Send). s.to < c.args.facts.now.nodes) c.in-Some-reaction.reaction.sends
known c = subst (λ (o : Option Reaction). IfSome o (λ x. AllByRecursion (λ (s : Send). s.to < c.args.facts.now.nodes) x.sends)) c.in-Some-reaction.is c.in_ok-reaction.ensures.known

pub of-requires-clause-known : goal.of-requires-clause-known
of-requires-clause-known c =
    let at = goal.at.of-requires-clause-known c in
    known_sends c.args.facts.now.nodes (length c.args.machine.now.ledger.sent.items) c.as_slice-2.result.now c.in-Some-reaction.reaction.sends (sym c.requires.kept.1.ledger.sent_width) c.as_slice-2.ensures (known at.In-Some-reaction)

pub returns-clause-some : goal.returns-clause-some
returns-clause-some c =
    let at = goal.at.returns-clause-some c in
    let g : Game = game_of c.args.facts.now in
    let e : Effect = effect_in c.in-Some-reaction.reaction in
    let changed : AreChanged c.args.machine.now.pages.heap c.args.pages.now = subst (λ bytes. AreChanged bytes c.args.pages.now) c.as_slice.ensures (c.are_changed.ensures.0 c.if-not-are_changed.false) in
    sealing_is (game_of c.args.facts.now) c.requires.kept.0 c.args.node c.args.machine.now c.args.message.now c.args.draws.now c.args.pages.now c.in-Some-2.now c.as_slice-2.result.now c.as_slice-3.result.now e c.in_ok-sealing.sealing c.requires.kept.1
    (subst (λ (k : Machine). Keeps c.args.node k c.args.message.now c.args.draws.now c.args.pages.now c.in-Some-2.now c.as_slice-2.result.now c.as_slice-3.result.now c.in_ok-sealing.sealing)
    (ap (λ bytes. record c.args.machine.now { pages = record c.args.machine.now.pages { heap = bytes } }) (c.value_under.ensures.same ∙ c.take_value.ensures.same)) c.in_ok-sealing.ensures)
    c.as_slice-2.ensures c.as_slice-3.ensures (c.is_same.ensures.0 c.if-not-is_same.false) (known at.In-Some-reaction) c.requires.early
    (record {
      up = c.if-not-machine.false;
      more = omega (arith, c.if-len-facts.false, c.len.ensures, c.args.machine.now.ledger.turns.ok.0);
      takes = refl;
      drawn = refl;
      value = c.in-Some.value;
      reads = reads at.In-Some;
      made = reacts (game_of c.args.facts.now) c.args.node (node_in c.args.machine.now) c.in-Some.value c.args.message.now c.args.draws.now (Some e) (reaction at.In-Some-reaction) c.in_ok-reaction.ensures.words;
      changed = changed;
      stands = laid at.In-Some-2 ∙ ap (λ (x : Value). Some x) (c.is_same.ensures.0 c.if-not-is_same.false);
    })
