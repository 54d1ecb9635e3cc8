use Rattle.std.proofs.Common.{Some, sym, ◌∙◌, List, ℕ, length, Result, ap, subst, arith}
use Rattle.ken_record.specs.declared.faults.RecordFault.{RecordFault}
use Rattle.ken_record.specs.declared.item.Item.{Item}
use Rattle.std.proofs.lemmas.Result.{err_from_is_err_and}
use Rattle.ken_record.specs.Versions.{One}
use Rattle.ken_record.specs.Items.{Reads, spelling}
use Rattle.ken_record.proofs.Fronts.{item_takes, front_long, front_rest, front_at, read_nothing, read_one}
use Rattle.ken_record.proofs.item.decode.Goals as goal

pub returns-in_err-item-clause-only : goal.returns-in_err-item-clause-only
returns-in_err-item-clause-only c =
    let p = err_from_is_err_and c.from_residual.result c.from_residual.ensures.1 in
    λ item rest is s. rw (p.1, p.2) (read_nothing One c.in_err-item.field-0.0 c.args.kind c.args.bytes.now item rest c.in_err-item.ensures is s)

pub returns-in_err-item-clause-bad : goal.returns-in_err-item-clause-bad
returns-in_err-item-clause-bad c =
    λ bad item rest is s. subst (λ (r : Result (Item × ℕ) RecordFault). Reads One r item) bad (returns-in_err-item-clause-only c item rest is s)

pub overflow_sub-result : goal.overflow_sub-result
overflow_sub-result c =
    let front = item_takes One c.args.kind c.args.bytes.now c.in_ok-item.item c.in_ok-item.rest.now (λ i. omega (arith, c.type_inv.bytes i)) c.in_ok-item.ensures in
    omega (arith, front_long One _ _ _ front.spells)

pub returns-clause-kind : goal.returns-clause-kind
returns-clause-kind c =
    let front = item_takes One c.args.kind c.args.bytes.now c.in_ok-item.item c.in_ok-item.rest.now (λ i. omega (arith, c.type_inv.bytes i)) c.in_ok-item.ensures in
    front.kind_is

pub returns-clause-length : goal.returns-clause-length
returns-clause-length c =
    let front = item_takes One c.args.kind c.args.bytes.now c.in_ok-item.item c.in_ok-item.rest.now (λ i. omega (arith, c.type_inv.bytes i)) c.in_ok-item.ensures in
    omega (arith, front_long One _ _ _ front.spells)

pub returns-clause-found : goal.returns-clause-found
returns-clause-found c =
    let front = item_takes One c.args.kind c.args.bytes.now c.in_ok-item.item c.in_ok-item.rest.now (λ i. omega (arith, c.type_inv.bytes i)) c.in_ok-item.ensures in
    front_at One _ _ _ front.spells

pub returns-clause-only : goal.returns-clause-only
returns-clause-only c =
    let bytes : List ℕ = c.args.bytes.now in
    let front = item_takes One c.args.kind bytes c.in_ok-item.item c.in_ok-item.rest.now (λ i. omega (arith, c.type_inv.bytes i)) c.in_ok-item.ensures in
    λ item rest is s.
    let same = read_one One c.args.kind bytes c.in_ok-item.item item c.in_ok-item.rest.now rest c.in_ok-item.ensures is s in
    (same.0, omega (arith, front_long One bytes c.in_ok-item.item c.in_ok-item.rest.now front.spells, ap (λ i. length (spelling One i)) same.0))

pub returns-clause-exact : goal.returns-clause-exact
returns-clause-exact c =
    let bytes : List ℕ = c.args.bytes.now in
    let front = item_takes One c.args.kind bytes c.in_ok-item.item c.in_ok-item.rest.now (λ i. omega (arith, c.type_inv.bytes i)) c.in_ok-item.ensures in
    c.in_ok-item.ensures ∙ ap (λ (rest : List ℕ). Some (c.in_ok-item.item, rest)) (sym (front_rest One bytes c.in_ok-item.item c.in_ok-item.rest.now front.spells))
