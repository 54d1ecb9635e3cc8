use Rattle.std.proofs.Common.{◌≡◌, ◌+◌, ◌≤◌, map, vec_len, vec_capacity}
use Rattle.std.specs.List.{AllWithin}
use Rattle.ken_actors.proofs.node.reserve.Given as goal

abbrev pub invariant-loop-list : goal.invariant-loop-list
invariant-loop-list l = record {
  same : map (λ v. v.items) l.sent ≡ map (λ v. v.items) l.fn.sent;
  room : AllWithin (λ v. vec_len v + l.count ≤ vec_capacity v) l.sent 0 l.list-index;
}
