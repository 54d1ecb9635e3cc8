use Rattle.std.proofs.Common.{List, ◌<◌, length, ap, arith}
use Rattle.std.proofs.lemmas.List.{length-map}
use Rattle.ken_outbox.specs.declared.line.Line.{Line}
use Rattle.ken_outbox.specs.Waiting.{Unacked, Waiting}
use Rattle.ken_outbox.specs.Lines.{shown}
use Rattle.ken_outbox.proofs.Sends.{acks}
use Rattle.ken_outbox.proofs.outbox.Outbox.acked.Goals as goal

pub returns : goal.returns
returns c =
    let lines : List Line = c.self.inside.lines.items in
    let long = length-map lines shown in
    let same = ap (λ (w : Waiting). length w.lines) c.self.view_is in
    let low : c.from.result < length lines = omega (arith, c.from.ensures, c.requires, long, same) in
    let with : List Unacked → Waiting = λ ls. record { lines = ls; emitted = c.self.inside.emitted; outs = c.self.inside.outs.items } in
    let step = acks lines c.from.result c.index_mut.result.now c.acknowledge.new.self c.args.through low c.index_mut.ensures.value c.acknowledge.ensures.acked c.acknowledge.ensures.messages in
    rw (← c.self.view_is, ← c.from.ensures) (ap with step)
