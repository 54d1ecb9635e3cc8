use Rattle.std.proofs.Common.{◌<◌, arith}
use Rattle.ken_dump.proofs.Apart.{paths_apart}
use Rattle.ken_dump.proofs.Dumps.{Dumps-told}
use Rattle.ken_dump.proofs.dumping.dump.Goals as goal

pub open-requires : goal.open-requires
open-requires g c =
    let few : c.args.node < 10 = omega arith in
    paths_apart few c.in_ok-paths.ensures

pub returns-clause-dumps : goal.returns-clause-dumps
returns-clause-dumps g c =
    let few : c.args.node < 10 = omega arith in
    Dumps-told
    (record { tells = g.W.Files.tells; told = g.W.File.Disk.told; size = g.W.File.Disk.size; faults = g.W.File.Disk.faults })
    (record { node = c.args.node; nodes = c.args.nodes; pages = c.args.pages })
    c.args.prefix.now c.in_ok-paths.paths c.in_ok-paths.ensures few
    (g.W.Files.filing c.args.files.now) (g.W.Files.filing c.open.new.files)
    c.in_ok-disks.disks c.in_ok-disks.ensures.opens.0 c.in_ok-disks.ensures.opens.1
    c.tell-told.result.1 c.tell-told.ensures.unwritten
    (g.W.Files.filing c.put_back.new.self) (g.W.Files.filing c.put_back-2.new.self) (g.W.Files.filing c.put_back-3.new.self)
    (rw c.as_str.ensures.value at c.put_back.ensures.puts)
    (rw c.as_str-2.ensures.value at c.put_back-2.ensures.puts)
    (rw c.as_str-3.ensures.value at c.put_back-3.ensures.puts)
    c.tell-told.result.0 c.tell-told.ensures.told c.tell-told.ensures.blame c.in_ok-disks.ensures.opens.2
