use Rattle.std.proofs.Common.{ap, arith}
use Rattle.std.proofs.lemmas.Bool.{lt-ltb, ltb-true}
use Rattle.ken_ship.specs.Last.{last_of}
use Rattle.ken_node.specs.Stages.{emissions_in}
use Rattle.ken_node.proofs.UpNumbers.{up_numbers}
use Rattle.ken_node.proofs.node.Node.has_unemitted.Goals as goal

pub returns : goal.returns
returns g c = λ game v n up.
    let outputs = (up_numbers g.D.Disk.told g.D.Disk.size game v n c.args.self.now.stage c.in-Created.turns c.in-Created.field-1 c.in-Created.sends c.in-Created.is up).outputs in
    let emissions = ap (λ s. last_of (emissions_in s)) c.in-Created.is in
    let last = c.last_emitted.ensures in
    let all = c.outputs.ensures in (
      λ test. let less = ltb-true c.last_emitted.result c.outputs.result test in omega (arith, less, emissions, outputs, last, all),
      λ less. lt-ltb c.last_emitted.result c.outputs.result (omega (arith, less, emissions, outputs, last, all)),
    )
