use Rattle.std.proofs.Common.{arith}
use Rattle.std.proofs.lemmas.Bool.{le-leb, leb-true}
use Rattle.ken_node.proofs.UpNumbers.{up_whole}
use Rattle.ken_node.proofs.node.Node.is_full.Goals as goal

pub returns : goal.returns
returns g c = λ game v n up.
    let whole = up_whole g.D.Disk.told g.D.Disk.size game v n c.args.self.now.stage c.in-Created.turns c.in-Created.field-1 c.in-Created.field-2 c.in-Created.is up in
    let cap = whole.workers.of_run.cap in
    let made = whole.workers.turns.counted.turns in
    let turns = c.turns.ensures in (
      λ test. let most = leb-true c.in-Created.turns.cap c.turns.result test in omega (arith, most, cap, made, turns),
      λ most. le-leb c.in-Created.turns.cap c.turns.result (omega (arith, most, cap, made, turns)),
    )
