use Rattle.std.proofs.Common.{◌≡◌, List, length, slice_get, Some, refl, ap, subst, ◌∙◌, arith}
use Rattle.std.proofs.lemmas.List.{length_push}
use Rattle.ken_model.specs.declared.reports.Emission.{Emission}
use Rattle.ken_model.specs.Game.{game_of}
use Rattle.ken_core.specs.declared.machine.Machine.{Machine}
use Rattle.ken_core.specs.Groups.{group_of}
use Rattle.ken_core.proofs.Firsts.{pushed_each, first_group}
use Rattle.ken_core.proofs.group.Group.start.Goals as goal

pub loop-node-preserved : goal.loop-node-preserved
loop-node-preserved c = record {
  width = omega (arith, ap length c.in_ok-push.ensures.items, length_push c.loop-node.machines.items c.in_ok-first.field-0, c.loop-node.invariant.width);
  each = λ v m is. pushed_each (game_of c.args.facts.now) c.loop-node.machines.items c.loop-node.node c.in_ok-first.field-0 c.loop-node.invariant.width c.loop-node.invariant.each c.in_ok-first.ensures v m (subst (λ (ms : List Machine). slice_get ms v ≡ Some m) c.in_ok-push.ensures.items is);
}

pub returns : goal.returns
returns c =
    let width : length c.loop-node.machines.items ≡ c.args.facts.now.nodes = omega (arith, c.loop-node.invariant.width, c.loop-node-test.false, c.loop-node.auto.node-end) in
    let first = first_group (game_of c.args.facts.now) c.loop-node.machines.items c.requires width c.loop-node.invariant.each in
    record {
      facts = refl;
      kept = first.0;
      start = ap (λ (es : List Emission). group_of (game_of c.args.facts.now) c.loop-node.machines.items es) c.new.ensures.items ∙ first.1;
    }
