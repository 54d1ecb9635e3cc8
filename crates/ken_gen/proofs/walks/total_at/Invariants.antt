use Rattle.std.proofs.Common.{◌≡◌, ◌*◌, ◌^◌, ◌≤◌, take}
use Rattle.ken_gen.specs.Shares.{counted_of}
use Rattle.ken_gen.proofs.walks.total_at.Given as goal

-- what the inputs so far count
abbrev pub invariant-loop-input : goal.invariant-loop-input
invariant-loop-input l = record {
  turns : l.turns ≡ counted_of (λ v. 1) l.nodes l.place (take l.input-index l.inputs);
  root : l.root ≡ counted_of (λ v. v.left) l.nodes l.place (take l.input-index l.inputs);
  few : l.turns ≤ l.input-index * 30;
  small : l.root ≤ l.input-index * 10 ^ 9;
}
