use Rattle.std.proofs.Common.{◌≡◌, ◌+◌, ◌-◌, ◌<◌, ◌≤◌, length, refl, ◌∙◌, arith}
use Rattle.ken_model.specs.Heap.{rounded}
use Rattle.ken_model.specs.Reading.{value_of}
use Rattle.ken_alloc.proofs.Walks.{IsCell, walk_all, none_fits, read_cell, gap_here, cell_ends, search_on, search_found, search_end}
use Rattle.ken_alloc.proofs.walk.first_fit.Goals as goal
use Rattle.ken_alloc.proofs.walk.first_fit.Goals.{else-cell-eq0-via-then-cell-eq0+else-span-room, else-cell-eq0-via-else-cell-eq0}

pub returns-then-len-size : goal.returns-then-len-size
returns-then-len-size c =
    let xs = c.args.pages.now.bytes in
    none_fits xs c.args.len 16 (value_of xs).blocks (walk_all xs (value_of xs) c.requires) (omega arith)

pub returns-then-span-room : goal.returns-then-span-room
returns-then-span-room c =
    let xs = c.args.pages.now.bytes in
    let s = c.loop-at.invariant.search in
    let at = c.loop-at.at in
    let span = c.from-span.result in
    let cell : IsCell xs at span c.of-cell.result.len = read_cell xs c.loop-at.rest.now at span c.of-cell.result.len s.rest s.walk c.loop-at.invariant.rest (omega arith) (c.from-span.ensures ∙ c.of-cell.ensures.span) c.of-cell.ensures.len in
    search_found xs c.args.len at span (at + span) _ s (gap_here xs at span c.of-cell.result.len s.rest s.walk cell c.if-cell-eq0.true) refl (omega arith)

pub past-rest-requires-clause-within : goal.past-rest-requires-clause-within
past-rest-requires-clause-within c =
    let xs = c.args.pages.now.bytes in
    let s = c.loop-at.invariant.search in
    let at = c.loop-at.at in
    let span = c.from-span.result in
    let cell : IsCell xs at span c.of-cell.result.len = read_cell xs c.loop-at.rest.now at span c.of-cell.result.len s.rest s.walk c.loop-at.invariant.rest (omega arith) (c.from-span.ensures ∙ c.of-cell.ensures.span) c.of-cell.ensures.len in
    (cell_ends xs at span c.of-cell.result.len s.rest s.walk cell).1

pub loop-at-smaller : goal.loop-at-smaller
loop-at-smaller c =
    let xs = c.args.pages.now.bytes in
    let s = c.loop-at.invariant.search in
    let at = c.loop-at.at in
    let span = c.from-span.result in
    let cell : IsCell xs at span c.of-cell.result.len = read_cell xs c.loop-at.rest.now at span c.of-cell.result.len s.rest s.walk c.loop-at.invariant.rest (omega arith) (c.from-span.ensures ∙ c.of-cell.ensures.span) c.of-cell.ensures.len in
    let ends : (16 + c.of-cell.result.len ≤ span) × (at + span ≤ length xs) = cell_ends xs at span c.of-cell.result.len s.rest s.walk cell in
    let less : length xs - (at + span) < length xs - at = omega (arith, ends.0, ends.1) in
    less

pub loop-at-preserved : goal.loop-at-preserved
loop-at-preserved c =
    let xs = c.args.pages.now.bytes in
    let s = c.loop-at.invariant.search in
    let at = c.loop-at.at in
    let span = c.from-span.result in
    let len = c.of-cell.result.len in
    let cell : IsCell xs at span len = read_cell xs c.loop-at.rest.now at span len s.rest s.walk c.loop-at.invariant.rest (omega arith) (c.from-span.ensures ∙ c.of-cell.ensures.span) c.of-cell.ensures.len in
    let narrow : len ≡ 0 → span < 16 + rounded c.args.len = elim c.else-cell-eq0.branch [
      | else-cell-eq0-via-then-cell-eq0+else-span-room w ↦ λ e. omega (arith, w.if-span-room.false, c.rounded-room.ensures)
      | else-cell-eq0-via-else-cell-eq0 w ↦ λ e. absurd (w.if-cell-eq0.false e)
    ]
    in
    record { search = search_on xs c.args.len at span len _ s cell narrow; rest = c.past-rest.ensures }

pub returns : goal.returns
returns c = search_end c.args.pages.now.bytes c.args.len c.loop-at.at _ c.loop-at.invariant.search (omega arith)
