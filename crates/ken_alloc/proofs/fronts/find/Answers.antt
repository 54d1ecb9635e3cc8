use Rattle.std.proofs.Common.{◌+◌, ◌-◌, ◌<◌, ◌≤◌, length, sym, ◌∙◌, arith}
use Rattle.ken_alloc.proofs.Walks.{IsCell, read_cell, cell_ends, quest_on, quest_found, quest_end}
use Rattle.ken_alloc.proofs.fronts.find.Goals as goal

pub begins-requires-clause-within : goal.begins-requires-clause-within
begins-requires-clause-within c =
    let xs = c.args.pages.now.bytes in
    let q = c.loop-at.invariant.quest in
    let head = c.of-cell.result in
    let cell : IsCell xs c.loop-at.at head.span head.len = read_cell xs c.loop-at.rest.now c.loop-at.at head.span head.len q.rest q.walk c.loop-at.invariant.rest (omega arith) c.of-cell.ensures.span c.of-cell.ensures.len in
    let ends : (16 + head.len ≤ head.span) × (c.loop-at.at + head.span ≤ length xs) = cell_ends xs c.loop-at.at head.span head.len q.rest q.walk cell in
    omega (arith, ends.0, ends.1)

pub returns-then-begins : goal.returns-then-begins
returns-then-begins c =
    let xs = c.args.pages.now.bytes in
    let q = c.loop-at.invariant.quest in
    let head = c.of-cell.result in
    let cell : IsCell xs c.loop-at.at head.span head.len = read_cell xs c.loop-at.rest.now c.loop-at.at head.span head.len q.rest q.walk c.loop-at.invariant.rest (omega arith) c.of-cell.ensures.span c.of-cell.ensures.len in
    quest_found xs c.args.key.now c.args.behind c.loop-at.at head.span head.len _ q cell (sym c.begins.ensures ∙ c.if-begins.true)

pub past-rest-requires-clause-within : goal.past-rest-requires-clause-within
past-rest-requires-clause-within c =
    let xs = c.args.pages.now.bytes in
    let q = c.loop-at.invariant.quest in
    let head = c.of-cell.result in
    let cell : IsCell xs c.loop-at.at head.span head.len = read_cell xs c.loop-at.rest.now c.loop-at.at head.span head.len q.rest q.walk c.loop-at.invariant.rest (omega arith) c.of-cell.ensures.span c.of-cell.ensures.len in
    let ends : (16 + head.len ≤ head.span) × (c.loop-at.at + head.span ≤ length xs) = cell_ends xs c.loop-at.at head.span head.len q.rest q.walk cell in
    omega (arith, ends.1, c.from-span.ensures)

pub loop-at-smaller : goal.loop-at-smaller
loop-at-smaller c =
    let xs = c.args.pages.now.bytes in
    let q = c.loop-at.invariant.quest in
    let head = c.of-cell.result in
    let cell : IsCell xs c.loop-at.at head.span head.len = read_cell xs c.loop-at.rest.now c.loop-at.at head.span head.len q.rest q.walk c.loop-at.invariant.rest (omega arith) c.of-cell.ensures.span c.of-cell.ensures.len in
    let ends : (16 + head.len ≤ head.span) × (c.loop-at.at + head.span ≤ length xs) = cell_ends xs c.loop-at.at head.span head.len q.rest q.walk cell in
    let less : length xs - (c.loop-at.at + c.from-span.result) < length xs - c.loop-at.at = omega (arith, ends.0, ends.1, c.from-span.ensures) in
    less

pub loop-at-preserved : goal.loop-at-preserved
loop-at-preserved c =
    let xs = c.args.pages.now.bytes in
    let q = c.loop-at.invariant.quest in
    let head = c.of-cell.result in
    let span = c.from-span.result in
    let cell : IsCell xs c.loop-at.at span head.len = read_cell xs c.loop-at.rest.now c.loop-at.at span head.len q.rest q.walk c.loop-at.invariant.rest (omega arith) (c.from-span.ensures ∙ c.of-cell.ensures.span) c.of-cell.ensures.len in
    record { quest = quest_on xs c.args.key.now c.args.behind c.loop-at.at span head.len _ q cell (sym c.begins.ensures ∙ c.if-begins.false); rest = c.past-rest.ensures }

pub returns : goal.returns
returns c = quest_end c.args.pages.now.bytes c.args.key.now c.args.behind c.loop-at.at _ c.loop-at.invariant.quest (omega arith)
