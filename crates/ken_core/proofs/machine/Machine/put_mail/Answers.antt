use Rattle.std.proofs.Common.{◌≡◌, ◌+◌, ◌<◌, ◌&&◌, ◌||◌, ◌==◌, ℕ, List, length, get_or, slice_index, ap, ◌∙◌, refl, arith}
use Rattle.std.specs.Vec.{with_items}
use Rattle.std.proofs.lemmas.List.{with_items_is}
use Rattle.ken_core.specs.Sets.{has_at}
use Rattle.ken_core.specs.Ledgers.{sent_to}
use Rattle.ken_core.specs.Marking.{place_past}
use Rattle.ken_core.proofs.Results.{on_err}
use Rattle.ken_core.proofs.Ledgers.{sent_short, found_within, found_past}
use Rattle.ken_core.proofs.machine.Machine.put_mail.Goals as goal
use Rattle.ken_core.proofs.machine.Machine.put_mail.Goals.{In-Some, After-deref_mut}

acked_is : (c : In-Some) → c.in-Some.acked.now ≡ slice_index c.args.self.now.acked.items c.args.to
acked_is c = c.in-Some.ensures.lookup.3.1 0 ∙ ap (λ (xs : List ℕ). get_or xs c.from.result 0) c.deref.ensures.value ∙ ap (λ k. get_or c.args.self.now.acked.items k 0) c.from.ensures

place_is : (c : After-deref_mut) → c.in-Some-checked_add.place ≡ place_past c.args.to c.args.i c.args.self.now
place_is c = c.in-Some-checked_add.ensures.1 ∙ ap (λ k. k + c.args.i) (c.in-Some.ensures.lookup.3.1 0 ∙ ap (λ (xs : List ℕ). get_or xs c.from.result 0) c.deref.ensures.value ∙ ap (λ k. get_or c.args.self.now.acked.items k 0) c.from.ensures)

within : (c : After-deref_mut) → c.in-Some-checked_add.place < length (sent_to c.args.self.now.ledger c.args.to)
within c = found_within (sent_to c.args.self.now.ledger c.args.to) c.in-Some-checked_add.place c.sent_at.result c.sent_at.ensures c.if-is_none.ensures

pub returns-in_default-checked_add-clause-none : goal.returns-in_default-checked_add-clause-none
returns-in_default-checked_add-clause-none c = λ _ known.
    let is = acked_is (goal.at.returns-in_default-checked_add-clause-none c).In-Some in
    let short = sent_short c.args.self.now.ledger c.args.to in
    let past = c.in_default-checked_add.ensures in
    omega (arith, past)

pub returns-then-is_none-clause-none : goal.returns-then-is_none-clause-none
returns-then-is_none-clause-none c = λ _ known.
    let is = acked_is (goal.at.returns-then-is_none-clause-none c).In-Some in
    let past = found_past (sent_to c.args.self.now.ledger c.args.to) c.in-Some-checked_add.place c.sent_at.result c.sent_at.ensures c.if-is_none.ensures in
    let place = c.in-Some-checked_add.ensures.1 in
    omega arith

pub overflow_add-place : goal.overflow_add-place
overflow_add-place c =
    let short = sent_short c.args.self.now.ledger c.args.to in
    let there = within c in
    omega arith

pub add_at-requires-clause-small : goal.add_at-requires-clause-small
add_at-requires-clause-small c =
    let short = sent_short c.args.self.now.ledger c.args.to in
    let there = within c in
    omega arith

-- the sets after the call, as a list
pub returns-in_err-add_at-clause-err : goal.returns-in_err-add_at-clause-err
returns-in_err-add_at-clause-err c =
    let whole : (with_items c.args.self.now.mailed c.add_at.new.sets).items ≡ c.args.self.now.mailed.items = with_items_is c.args.self.now.mailed c.add_at.new.sets (omega (arith, c.add_at.auto.sets, c.deref_mut.ensures.len)) ∙ c.in_err-add_at.ensures.err ∙ c.deref_mut.ensures.value in
    on_err _ c.from_residual.result (refl, whole)

pub returns-clause-made : goal.returns-clause-made
returns-clause-made c = λ _.
    let at = (goal.at.returns-clause-made c).After-deref_mut in
    let place = place_is at in
    let there = within at in
    let whole : (with_items c.args.self.now.mailed c.add_at.new.sets).items ≡ c.add_at.new.sets = with_items_is c.args.self.now.mailed c.add_at.new.sets (omega (arith, c.add_at.auto.sets, c.deref_mut.ensures.len)) in
    record {
      known = omega (arith, c.in-Some.ensures.lookup.3.0, ap length c.deref.ensures.value, c.from.ensures);
      sent = omega arith;
      rest = refl;
      width = ap length whole ∙ c.add_at.auto.sets ∙ ap length c.deref_mut.ensures.value;
      all = λ w number. ap (λ sets. has_at sets w number) whole ∙ c.in_ok-add_at.ensures.ok w number
          ∙ ap (λ k. ((c.args.to == w) && (k + 1 == number)) || has_at c.deref_mut.result.now w number) place
          ∙ ap (λ sets. ((c.args.to == w) && (place_past c.args.to c.args.i c.args.self.now + 1 == number)) || has_at sets w number) c.deref_mut.ensures.value;
    }
