use Rattle.std.proofs.Common.{true, sym, ◌∙◌, slice_set, arith}
use Rattle.ken_model.specs.Game.{game_of}
use Rattle.ken_core.specs.declared.events.Event.TheVariants.{TakeAck}
use Rattle.ken_core.specs.declared.machine.Machine.{Machine}
use Rattle.ken_core.proofs.Moves.{read_at, kept_at}
use Rattle.ken_core.proofs.Repaged.{IsPlayed, acked_played}
use Rattle.ken_core.proofs.group.Group.take_ack.Goals as goal
use Rattle.ken_core.proofs.group.Group.take_ack.Goals.{After-take_ack}

pub take_ack-requires : goal.take_ack-requires
take_ack-requires c =
    let mine = kept_at (game_of c.args.self.now.facts.now) c.args.self.now.machines.items c.args.node c.from.result c.index_mut-machine.result.now c.requires.kept c.from.ensures c.requires.known c.index_mut-machine.ensures.value in
    let there = c.has_answered.ensures.known c.if-not-has_answered.false in
    omega (arith, mine.acked)

played : (c : After-take_ack) → IsPlayed (game_of c.args.self.now.facts.now) c.args.self.now.machines.items (slice_set c.args.self.now.machines.items c.from.result c.take_ack.new.self) c.args.self.now.emissions.items c.args.self.now.emissions.items (TakeAck c.args.node c.args.from c.args.through) true
played c =
    let m : Machine = c.index_mut-machine.result.now in
    let is = read_at (game_of c.args.self.now.facts.now) c.args.self.now.machines.items c.args.node c.from.result m c.requires.kept c.from.ensures c.requires.known c.index_mut-machine.ensures.value in
    acked_played (game_of c.args.self.now.facts.now) c.args.self.now.machines.items c.args.self.now.emissions.items c.args.node c.from.result c.args.from c.args.through m c.take_ack.new.self c.requires.kept is c.from.ensures c.requires.known c.if-not-machine.false
    (c.has_answered.ensures.known c.if-not-has_answered.false) (sym c.has_answered.ensures.answer ∙ c.if-not-has_answered.false) c.take_ack.ensures.rest c.take_ack.ensures.acked

pub returns-clause-plays : goal.returns-clause-plays
returns-clause-plays c = (played (goal.at.returns-clause-plays c).After-take_ack).plays

pub returns-clause-kept : goal.returns-clause-kept
returns-clause-kept c = (played (goal.at.returns-clause-kept c).After-take_ack).kept
