use Rattle.std.proofs.Common.{◌≡◌, ◌-◌, Some, length, slice_get, List, sym, subst}
use Rattle.ken_record.specs.declared.effects.Effects.{Effects}
use Rattle.ken_core.proofs.Ledgers.{stamp_last}
use Rattle.ken_core.proofs.ledger.Ledger.stamp.Goals as goal

pub returns-in-Some : goal.returns-in-Some
returns-in-Some c =
    let last : slice_get c.args.self.now.turns.items (length c.args.self.now.turns.items - 1) ≡ Some c.in-Some.turn.now = subst (λ (ts : List Effects). slice_get ts (length ts - 1) ≡ Some c.in-Some.turn.now) c.deref.ensures.value (sym c.in-Some.ensures.value) in
    sym (stamp_last 0 c.args.self.now.turns.items c.in-Some.turn.now last)
