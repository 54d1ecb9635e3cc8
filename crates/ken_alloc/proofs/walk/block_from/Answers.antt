use Rattle.std.proofs.Common.{◌≡◌, ◌≢◌, ℕ, ◌+◌, ◌≤◌, length, ap, sym, ◌∙◌, arith}
use Rattle.ken_alloc.specs.Walk.{start_of}
use Rattle.ken_alloc.proofs.Walks.{head_within, over_gap, at_block, no_first, first_found, start_within, start_even}
use Rattle.ken_alloc.proofs.walk.block_from.Goals as goal

pub read-first-requires-clause-within : goal.read-first-requires-clause-within
read-first-requires-clause-within c =
    head_within c.args.pages.now.bytes c.args.from c.requires.rest c.requires.walk (λ e. c.if-from-size.false (e ∙ sym c.size-size.ensures))

pub returns-then-first-gt0 : goal.returns-then-first-gt0
returns-then-first-gt0 c = λ rest walk.
    let xs = c.args.pages.now.bytes in
    let from = c.args.from in
    let head = c.read-first.result in
    let before : from ≢ length xs = λ e. c.if-from-size.false (e ∙ sym c.size-size.ensures) in
    let some : head.len ≢ 0 = λ e. absurd (omega (arith, e, c.if-first-gt0.true)) in
    first_found xs from from head.len rest walk (at_block xs from head.span head.len c.read-first.ensures.span c.read-first.ensures.len rest walk before some) before c.read-first.ensures.len

pub returns-then-at-size : goal.returns-then-at-size
returns-then-at-size c = λ rest walk.
    let xs = c.args.pages.now.bytes in
    let from = c.args.from in
    let head = c.read-first.result in
    let before : from ≢ length xs = λ e. c.if-from-size.false (e ∙ sym c.size-size.ensures) in
    let start : from + c.from.result ≡ start_of (length xs) rest = ap (λ (k : ℕ). from + k) c.from.ensures ∙ over_gap xs from head.span head.len c.read-first.ensures.span c.read-first.ensures.len rest walk before (omega (arith, c.if-first-gt0.false)) in
    no_first xs from (from + c.from.result) rest walk start (c.if-at-size.true ∙ c.size-size.ensures)

pub overflow_add-result : goal.overflow_add-result
overflow_add-result c =
    let xs = c.args.pages.now.bytes in
    let from = c.args.from in
    let head = c.read-first.result in
    let rest = c.requires.rest in
    let walk = c.requires.walk in
    let before : from ≢ length xs = λ e. c.if-from-size.false (e ∙ sym c.size-size.ensures) in
    let start : from + c.from.result ≡ start_of (length xs) rest = ap (λ (k : ℕ). from + k) c.from.ensures ∙ over_gap xs from head.span head.len c.read-first.ensures.span c.read-first.ensures.len rest walk before (omega (arith, c.if-first-gt0.false)) in
    let within : from + c.from.result + 16 ≤ length xs = start_within xs from (from + c.from.result) rest walk start (λ e. c.if-at-size.false (e ∙ sym c.size-size.ensures)) in
    omega (arith, within, walk.small)

pub read-requires-clause-even : goal.read-requires-clause-even
read-requires-clause-even c =
    let xs = c.args.pages.now.bytes in
    let from = c.args.from in
    let head = c.read-first.result in
    let rest = c.requires.rest in
    let walk = c.requires.walk in
    let before : from ≢ length xs = λ e. c.if-from-size.false (e ∙ sym c.size-size.ensures) in
    let start : from + c.from.result ≡ start_of (length xs) rest = ap (λ (k : ℕ). from + k) c.from.ensures ∙ over_gap xs from head.span head.len c.read-first.ensures.span c.read-first.ensures.len rest walk before (omega (arith, c.if-first-gt0.false)) in
    start_even xs from (from + c.from.result) rest walk start

pub read-requires-clause-within : goal.read-requires-clause-within
read-requires-clause-within c =
    let xs = c.args.pages.now.bytes in
    let from = c.args.from in
    let head = c.read-first.result in
    let rest = c.requires.rest in
    let walk = c.requires.walk in
    let before : from ≢ length xs = λ e. c.if-from-size.false (e ∙ sym c.size-size.ensures) in
    let start : from + c.from.result ≡ start_of (length xs) rest = ap (λ (k : ℕ). from + k) c.from.ensures ∙ over_gap xs from head.span head.len c.read-first.ensures.span c.read-first.ensures.len rest walk before (omega (arith, c.if-first-gt0.false)) in
    start_within xs from (from + c.from.result) rest walk start (λ e. c.if-at-size.false (e ∙ sym c.size-size.ensures))

pub returns : goal.returns
returns c = λ rest walk.
    let xs = c.args.pages.now.bytes in
    let from = c.args.from in
    let head = c.read-first.result in
    let before : from ≢ length xs = λ e. c.if-from-size.false (e ∙ sym c.size-size.ensures) in
    let start : from + c.from.result ≡ start_of (length xs) rest = ap (λ (k : ℕ). from + k) c.from.ensures ∙ over_gap xs from head.span head.len c.read-first.ensures.span c.read-first.ensures.len rest walk before (omega (arith, c.if-first-gt0.false)) in
    first_found xs from (from + c.from.result) c.read.result.len rest walk start (λ e. c.if-at-size.false (e ∙ sym c.size-size.ensures)) c.read.ensures.len
