use Rattle.std.proofs.Common.{arith}
use Rattle.ken_store.proofs.Longest.{dues-few}
use Rattle.ken_store.proofs.short_base.longest_dues.Goals as goal

pub returns-clause-longest : goal.returns-clause-longest
returns-clause-longest c = λ acked. omega (arith, dues-few acked c.args.base.now c.args.records.now c.requires.base c.requires.records)
