use Rattle.std.proofs.Common.{◌∙◌}
use Rattle.ken_alloc.proofs.Rests.{rest_span, rest_len}
use Rattle.ken_alloc.proofs.head.read.Goals as goal

pub returns-clause-span : goal.returns-clause-span
returns-clause-span c = c.of.ensures.span ∙ rest_span c.args.pages.now.bytes c.rest.result.now c.args.at c.rest.ensures.bytes c.requires.even

pub returns-clause-len : goal.returns-clause-len
returns-clause-len c = c.of.ensures.len ∙ rest_len c.args.pages.now.bytes c.rest.result.now c.args.at c.rest.ensures.bytes c.requires.even
