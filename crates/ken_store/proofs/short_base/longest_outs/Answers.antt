use Rattle.std.proofs.Common.{arith}
use Rattle.ken_store.proofs.Longest.{outs-few}
use Rattle.ken_store.proofs.short_base.longest_outs.Goals as goal

pub returns-clause-longest : goal.returns-clause-longest
returns-clause-longest c = λ emitted. omega (arith, outs-few emitted c.args.base.now c.args.records.now c.requires.base c.requires.records)
