use Rattle.std.proofs.Common.{◌∙◌}
use Rattle.ken_model.proofs.Headers.{wrong_name, wrong_pages}
use Rattle.ken_model.proofs.header.wrong_header.Goals as goal

pub returns-then-ne-clause-wrong : goal.returns-then-ne-clause-wrong
returns-then-ne-clause-wrong c =
    wrong_name c.args.bytes.now c.as_slice.result.now c.args.pages c.ne.result c.ne.ensures c.if-ne.true c.as_slice.ensures

pub returns-then-ne-2-clause-wrong : goal.returns-then-ne-2-clause-wrong
returns-then-ne-2-clause-wrong c =
    wrong_pages c.args.bytes.now c.as_slice.result.now c.as_slice-2.result.now c.args.pages c.ne.result c.ne-2.result c.requires c.ne.ensures c.if-ne.false c.as_slice.ensures c.ne-2.ensures c.if-ne-2.true (c.as_slice-2.ensures ∙ c.write_u32.ensures)
