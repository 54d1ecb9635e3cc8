use Rattle.ken_alloc.proofs.Walks.{head_within, over_gap}
use Rattle.std.proofs.Common.{ℕ, ◌+◌, ap, sym, ◌∙◌}
use Rattle.ken_alloc.proofs.walk.gap_end.Goals as goal

pub read-head-requires-clause-even : goal.read-head-requires-clause-even
read-head-requires-clause-even c = c.requires.walk.even

pub read-head-requires-clause-within : goal.read-head-requires-clause-within
read-head-requires-clause-within c =
    head_within c.args.pages.now.bytes c.args.from c.requires.rest c.requires.walk (λ e. c.if-from-size.false (e ∙ sym c.size.ensures))

pub returns-then-head-eq0 : goal.returns-then-head-eq0
returns-then-head-eq0 c = λ rest walk.
    ap (λ (k : ℕ). c.args.from + k) c.from.ensures ∙ over_gap c.args.pages.now.bytes c.args.from c.read-head.result.span c.read-head.result.len c.read-head.ensures.span c.read-head.ensures.len rest walk (λ e. c.if-from-size.false (e ∙ sym c.size.ensures)) c.if-head-eq0.true
