use Rattle.std.proofs.Common.{◌≡◌, ◌<◌}
use Rattle.std.specs.List.{AllByRecursion}
use Rattle.ken_model.specs.declared.messages.Send.{Send}
use Rattle.ken_model.specs.Kinds.{to_others}
use Rattle.ken_model.proofs.handler.to_others.Given as goal

-- the nodes so far have their messages
abbrev pub invariant-loop-to : goal.invariant-loop-to
invariant-loop-to l = record {
  sends : l.sends.items ≡ to_others l.node l.to l.text;
  known : AllByRecursion (λ (s : Send). s.to < l.nodes) l.sends.items;
}
