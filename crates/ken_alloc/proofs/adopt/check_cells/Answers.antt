use Rattle.std.proofs.Common.{◌≡◌, ℕ, ◌+◌, ◌-◌, Bool, List, [], ◌++◌, length, refl, sym, ap, subst, arith}
use Rattle.ken_model.specs.Layout.{part}
use Rattle.ken_model.specs.Checks.{IsCell, block_in}
use Rattle.ken_model.proofs.Walked.{checked_none, checked_more, checked_all}
use Rattle.ken_model.proofs.Stuck.{breaks_there}
use Rattle.ken_model.proofs.Unique.{StandsFor-value}
use Rattle.ken_alloc.proofs.adopt.check_cells.Goals as goal

pub loop-at-init : goal.loop-at-init
loop-at-init c = ([], checked_none c.args.pages.now.bytes c.requires)

-- the same 16 bytes
same_cell : (bytes bytes' : List ℕ) (size size' at span len : ℕ) (after_gap : Bool) → bytes ≡ bytes' → size ≡ size' → IsCell bytes (size - at) span len after_gap → IsCell bytes' (size' - at) span len after_gap
same_cell bytes bytes' size size' at span len after_gap is long cell = subst (λ (k : ℕ). IsCell bytes' (k - at) span len after_gap) long (subst (λ (ws : List ℕ). IsCell ws (size - at) span len after_gap) is cell)

pub returns-in_default-clause-place : goal.returns-in_default-clause-place
returns-in_default-clause-place c =
    let xs = c.args.pages.now.bytes in
    let s = c.loop-at.invariant in
    breaks_there xs c.loop-at.at c.loop-at.after_gap s.0 s.1
    (λ span len (cell : IsCell (part c.loop-at.at 16 xs) (length xs - c.loop-at.at) span len c.loop-at.after_gap). c.in_default.ensures.none span len (same_cell (part c.loop-at.at 16 xs) c.read.new.buf (length xs) c.size-size.result c.loop-at.at span len c.loop-at.after_gap (sym c.read.ensures) (sym c.size-size.ensures) cell))
    c.requires (omega arith)

pub loop-at-preserved : goal.loop-at-preserved
loop-at-preserved c =
    let xs = c.args.pages.now.bytes in
    let head = c.in-Some.head in
    let s = c.loop-at.invariant in
    let cell = same_cell c.read.new.buf (part c.loop-at.at 16 xs) c.size-size.result (length xs) c.loop-at.at head.span head.len c.loop-at.after_gap c.read.ensures c.size-size.ensures c.in-Some.ensures.some in
    (s.0 ++ block_in xs c.loop-at.at head.len, checked_more xs c.loop-at.at head.span head.len c.loop-at.after_gap s.0 s.1 cell _ _ (ap (λ (k : ℕ). c.loop-at.at + k) c.from-at.ensures) refl)

pub returns-clause-stands : goal.returns-clause-stands
returns-clause-stands c =
    let s = c.loop-at.invariant in
    StandsFor-value c.args.pages.now.bytes _ (checked_all c.args.pages.now.bytes c.loop-at.at c.loop-at.after_gap s.0 c.requires s.1 (omega arith))
