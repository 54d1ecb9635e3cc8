use Rattle.std.proofs.Common.{arith}
use Rattle.ken_log.proofs.Taken.{based_long, based_lies}
use Rattle.ken_log.proofs.mount.log_behind.Goals as goal

pub records_in-requires : goal.records_in-requires
records_in-requires c =
    let long = based_long c.args.header c.args.bytes.now c.in-Ok.front.0 c.in-Ok.front.1.now c.requires.header c.in-Ok.ensures.found in
    omega (arith, long, c.from-gate.ensures, c.requires.most)

pub returns-clause-lies : goal.returns-clause-lies
returns-clause-lies c =
    based_lies c.args.header c.args.bytes.now c.in-Ok.front.0 c.in-Ok.front.1.now c.requires.header c.in-Ok.ensures.found c.in_ok-records.records.items c.in_ok-records.end (rw c.from-gate.ensures at c.in_ok-records.ensures.lies)
