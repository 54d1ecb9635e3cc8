use Rattle.ken_drive.specs.Clauses.{files_of}
use Rattle.ken_top.proofs.Dumped.{tells-fault, tells-node}
use Rattle.ken_top.proofs.dumping.dumped.Goals as goal

pub returns-in-Ok-clause-tells : goal.returns-in-Ok-clause-tells
returns-in-Ok-clause-tells g c = tells-node g.K.Sink (files_of g.W.File.Disk g.W.Files.tells) (record { node = c.args.node; nodes = c.args.nodes; pages = c.args.pages }) c.args.prefix.now (g.W.Files.filing c.args.world.now) (g.W.Files.filing c.dump.new.files) c.args.sink.now c.written.new.sink c.in-Ok.text c.written.result c.in-Ok.ensures.dumps
    (rw c.as_slice.ensures at c.written.ensures.out) c.written.ensures.write c.written.ensures.no_failed_write c.written.ensures.faults

pub returns-in-Err-clause-tells : goal.returns-in-Err-clause-tells
returns-in-Err-clause-tells g c =
    rw c.not_dumped.ensures (tells-fault g.K.Sink (files_of g.W.File.Disk g.W.Files.tells) (record { node = c.args.node; nodes = c.args.nodes; pages = c.args.pages }) c.args.prefix.now (g.W.Files.filing c.args.world.now) (g.W.Files.filing c.dump.new.files) c.args.sink.now c.in-Err.fault c.in-Err.ensures.dumps)
