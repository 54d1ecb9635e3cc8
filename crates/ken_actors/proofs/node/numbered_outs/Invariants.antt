use Rattle.std.proofs.Common.{◌≡◌, ◌+◌, ◌++◌, drop, vec_len}
use Rattle.ken_model.specs.Network.{outputs_from}
use Rattle.ken_actors.proofs.node.numbered_outs.Given as goal

-- what is numbered, and what numbering the rest would add, are what numbering all would give
abbrev pub invariant-loop-text : goal.invariant-loop-text
invariant-loop-text l = record {
  made : l.outs.items ++ outputs_from (l.before + vec_len l.outs) (drop l.text-index l.texts) ≡ outputs_from l.before l.texts;
  count : vec_len l.outs ≡ l.text-index;
}
