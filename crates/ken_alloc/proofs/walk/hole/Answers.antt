use Rattle.std.proofs.Common.{◌+◌, ◌-◌, ◌<◌, ◌≤◌, length, sym, ◌∙◌, subst, arith, ℕ}
use Rattle.ken_model.specs.Reading.{value_of}
use Rattle.ken_alloc.specs.Walk.{hole_from}
use Rattle.ken_alloc.proofs.Walks.{IsCell, IsHunt, IsBlockCell, can_walk, read_cell, gap_here, block_here, cell_ends, hunt_gap, hunt_on, hunt_found, hunt_end}
use Rattle.ken_alloc.proofs.walk.hole.Goals as goal
use Rattle.ken_alloc.proofs.walk.hole.Goals.{then-cell-gt0+else-at-place, else-cell-gt0}

pub gap_end-to-requires : goal.gap_end-to-requires
gap_end-to-requires c =
    let xs = c.args.pages.now.bytes in
    let s = c.loop-at.invariant.hunt in
    let at = c.loop-at.at in
    let span = c.from-span.result in
    let len = c.of-cell.result.len in
    let cell : IsCell xs at span len = read_cell xs c.loop-at.rest.now at span len s.rest s.walk c.loop-at.invariant.rest (omega arith) (c.from-span.ensures ∙ c.of-cell.ensures.span) c.of-cell.ensures.len in
    let block : IsBlockCell xs at span len s.rest = block_here xs at span len s.rest s.walk cell (λ e. absurd (omega (arith, e, c.if-cell-gt0.true))) in
    can_walk xs (at + span) block.others block.walk

pub returns-then-at-place : goal.returns-then-at-place
returns-then-at-place c =
    let xs = c.args.pages.now.bytes in
    let s = c.loop-at.invariant.hunt in
    let at = c.loop-at.at in
    let span = c.from-span.result in
    let len = c.of-cell.result.len in
    let cell : IsCell xs at span len = read_cell xs c.loop-at.rest.now at span len s.rest s.walk c.loop-at.invariant.rest (omega arith) (c.from-span.ensures ∙ c.of-cell.ensures.span) c.of-cell.ensures.len in
    let block : IsBlockCell xs at span len s.rest = block_here xs at span len s.rest s.walk cell (λ e. absurd (omega (arith, e, c.if-cell-gt0.true))) in
    hunt_found xs c.args.place c.loop-at.from at span len _ s block c.gap_end-to.result c.if-at-place.true (c.gap_end-to.ensures block.others block.walk)

pub past-rest-requires-clause-within : goal.past-rest-requires-clause-within
past-rest-requires-clause-within c =
    let xs = c.args.pages.now.bytes in
    let s = c.loop-at.invariant.hunt in
    let at = c.loop-at.at in
    let span = c.from-span.result in
    let len = c.of-cell.result.len in
    let cell : IsCell xs at span len = read_cell xs c.loop-at.rest.now at span len s.rest s.walk c.loop-at.invariant.rest (omega arith) (c.from-span.ensures ∙ c.of-cell.ensures.span) c.of-cell.ensures.len in
    (cell_ends xs at span len s.rest s.walk cell).1

pub loop-at-smaller : goal.loop-at-smaller
loop-at-smaller c =
    let xs = c.args.pages.now.bytes in
    let s = c.loop-at.invariant.hunt in
    let at = c.loop-at.at in
    let span = c.from-span.result in
    let len = c.of-cell.result.len in
    let cell : IsCell xs at span len = read_cell xs c.loop-at.rest.now at span len s.rest s.walk c.loop-at.invariant.rest (omega arith) (c.from-span.ensures ∙ c.of-cell.ensures.span) c.of-cell.ensures.len in
    let ends : (16 + len ≤ span) × (at + span ≤ length xs) = cell_ends xs at span len s.rest s.walk cell in
    let less : length xs - (at + span) < length xs - at = omega (arith, ends.0, ends.1) in
    less

pub loop-at-preserved : goal.loop-at-preserved
loop-at-preserved c =
    let xs = c.args.pages.now.bytes in
    let s = c.loop-at.invariant.hunt in
    let at = c.loop-at.at in
    let span = c.from-span.result in
    let len = c.of-cell.result.len in
    let cell : IsCell xs at span len = read_cell xs c.loop-at.rest.now at span len s.rest s.walk c.loop-at.invariant.rest (omega arith) (c.from-span.ensures ∙ c.of-cell.ensures.span) c.of-cell.ensures.len in
    let target = hole_from 16 (length xs) c.args.place (value_of xs).blocks in
    let hunt : IsHunt xs c.args.place c.if-cell-gt0.from (at + span) target = elim c.if-cell-gt0.branch [
      | then-cell-gt0+else-at-place w ↦
          subst (λ (k : ℕ). IsHunt xs c.args.place k (at + span) target) (sym w.from-is) (hunt_on xs c.args.place c.loop-at.from at span len target s (block_here xs at span len s.rest s.walk cell (λ e. absurd (omega (arith, e, w.if-cell-gt0.true)))) w.if-at-place.false)
      | else-cell-gt0 w ↦
          subst (λ (k : ℕ). IsHunt xs c.args.place k (at + span) target) (sym w.from-is) (hunt_gap xs c.args.place c.loop-at.from at span target s (gap_here xs at span len s.rest s.walk cell (omega (arith, w.if-cell-gt0.false))))
    ]
    in
    record { hunt = hunt; rest = c.past-rest.ensures }

pub returns : goal.returns
returns c = hunt_end c.args.pages.now.bytes c.args.place c.loop-at.from c.loop-at.at _ c.loop-at.invariant.hunt (omega arith)
