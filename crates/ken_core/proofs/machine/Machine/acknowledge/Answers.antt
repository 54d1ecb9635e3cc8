use Rattle.std.proofs.Common.{◌≡◌, ◌==◌, ◌<◌, ℕ, List, length, get_or, slice_index, ap, ◌∙◌, arith}
use Rattle.std.proofs.lemmas.List.Sums.{count_by-le-length}
use Rattle.ken_record.specs.declared.effects.Effects.{Effects}
use Rattle.ken_core.proofs.machine.Machine.acknowledge.Goals as goal

pub add_at-requires-clause-small : goal.add_at-requires-clause-small
add_at-requires-clause-small c =
    let ledger = c.requires.1.1.1.ledger in
    let within : c.args.from < c.requires.0.nodes = omega (arith, c.in-Some.ensures.lookup.3.0, ap length c.deref.ensures.value, c.from.ensures, ledger.consumed_width) in
    let is : c.in-Some.count.now ≡ slice_index c.args.self.now.ledger.consumed.items c.args.from = c.in-Some.ensures.lookup.3.1 0 ∙ ap (λ (xs : List ℕ). get_or xs c.from.result 0) c.deref.ensures.value ∙ ap (λ k. get_or c.args.self.now.ledger.consumed.items k 0) c.from.ensures in
    let count = ledger.consumed c.args.from within in
    let most = count_by-le-length (λ (e : Effects). e.from == c.args.from) c.args.self.now.ledger.turns.items in
    omega (arith, c.args.self.now.ledger.turns.ok, c.args.self.now.ledger.turns.small)
