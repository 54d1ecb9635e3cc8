use Rattle.std.proofs.Common.{arith}
use Rattle.std.proofs.lemmas.Result.{err_from_is_err_and}
use Rattle.ken_disk.proofs.Made.{write_failed, write_and_sync, wrote_story}
use Rattle.ken_disk.proofs.writes.write_through.Goals as goal

pub returns-in_err-write-clause-calls : goal.returns-in_err-write-clause-calls
returns-in_err-write-clause-calls g c =
    let p = err_from_is_err_and c.from_residual.result c.from_residual.ensures.1 in
    rw (p.1, p.2) (write_failed c.args.at c.args.bytes.now (Unit {0}) _ _ _ _ c.in_err-write.was c.write.ensures.story)

pub returns-in_err-write-clause-story : goal.returns-in_err-write-clause-story
returns-in_err-write-clause-story g c =
    let p = err_from_is_err_and c.from_residual.result c.from_residual.ensures.1 in
    rw (p.1, p.2) (wrote_story c.args.at c.args.bytes.now _ _ _ (λ h told. let size = g.met.D.Disk.sized _ h told in omega (arith, size, c.requires.place))
    (write_failed c.args.at c.args.bytes.now (Unit {0}) _ _ _ _ c.in_err-write.was c.write.ensures.story))

pub returns-clause-calls : goal.returns-clause-calls
returns-clause-calls g c =
    write_and_sync c.args.at c.args.bytes.now _ _ _ _ _ _ c.in_ok-write.was (λ want. c.sync.ensures.ready c.in_ok-write.ensures.ready want) c.write.ensures.story c.sync.ensures.story

pub returns-clause-story : goal.returns-clause-story
returns-clause-story g c =
    wrote_story c.args.at c.args.bytes.now _ _ _ (λ h told. let size = g.met.D.Disk.sized _ h told in omega (arith, size, c.requires.place))
    (write_and_sync c.args.at c.args.bytes.now _ _ _ _ _ _ c.in_ok-write.was (λ want. c.sync.ensures.ready c.in_ok-write.ensures.ready want) c.write.ensures.story c.sync.ensures.story)
