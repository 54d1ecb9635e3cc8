use Rattle.std.proofs.Common.{◌≡◌, IfOk, IsTrue, false, slice_get, slice_set, Some}
use Rattle.ken_model.specs.Game.{game_of}
use Rattle.ken_core.specs.declared.events.Event.TheVariants.{Ack}
use Rattle.ken_core.specs.Groups.{group_of, AreKept, made_by}
use Rattle.ken_core.specs.Marking.{Acknowledges, HasConsumedNone, IsAlike}
use Rattle.ken_core.proofs.Moves.{read_at, kept_at}
use Rattle.ken_core.proofs.Results.{ok_then, ok_then3, err_then, either}
use Rattle.ken_core.proofs.Repaged.{IsPlayed}
use Rattle.ken_core.proofs.Putting.{alike_played, ack_played}
use Rattle.ken_core.proofs.group.Group.acknowledge.Goals as goal
use Rattle.ken_core.proofs.group.Group.acknowledge.Goals.{After-acknowledge}

pub acknowledge-requires : goal.acknowledge-requires
acknowledge-requires c = (game_of c.args.self.now.facts.now, (made_by c.args.self.now.machines.items, (c.args.node, kept_at (game_of c.args.self.now.facts.now) c.args.self.now.machines.items c.args.node c.from.result c.index_mut-machine.result.now c.requires.kept c.from.ensures c.requires.known c.index_mut-machine.ensures.value)))

there : (c : After-acknowledge) → slice_get c.args.self.now.machines.items c.args.node ≡ Some c.index_mut-machine.result.now
there c = read_at (game_of c.args.self.now.facts.now) c.args.self.now.machines.items c.args.node c.from.result c.index_mut-machine.result.now c.requires.kept c.from.ensures c.requires.known c.index_mut-machine.ensures.value

played : (c : After-acknowledge) → IfOk c.acknowledge.result (λ b. IsPlayed (game_of c.args.self.now.facts.now) c.args.self.now.machines.items (slice_set c.args.self.now.machines.items c.from.result c.acknowledge.new.self) c.args.self.now.emissions.items c.args.self.now.emissions.items (Ack c.args.node c.args.from) b)
played c =
    ok_then3 (λ b. IsTrue b → Acknowledges c.args.from c.index_mut-machine.result.now c.acknowledge.new.self) (λ b. b ≡ false → HasConsumedNone c.args.from c.index_mut-machine.result.now) (λ b. b ≡ false → IsAlike c.index_mut-machine.result.now c.acknowledge.new.self)
    (λ b. IsPlayed (game_of c.args.self.now.facts.now) c.args.self.now.machines.items (slice_set c.args.self.now.machines.items c.from.result c.acknowledge.new.self) c.args.self.now.emissions.items c.args.self.now.emissions.items (Ack c.args.node c.args.from) b)
    c.acknowledge.result
    (ack_played (game_of c.args.self.now.facts.now) c.args.self.now.machines.items c.args.self.now.emissions.items c.args.node c.from.result c.args.from c.index_mut-machine.result.now c.acknowledge.new.self c.requires.kept (there c) c.from.ensures c.requires.known c.if-not-machine.false)
    c.acknowledge.ensures.made c.acknowledge.ensures.none c.acknowledge.ensures.same

unchanged : (c : After-acknowledge) → IsAlike c.index_mut-machine.result.now c.acknowledge.new.self → (group_of (game_of c.args.self.now.facts.now) (slice_set c.args.self.now.machines.items c.from.result c.acknowledge.new.self) c.args.self.now.emissions.items ≡ group_of (game_of c.args.self.now.facts.now) c.args.self.now.machines.items c.args.self.now.emissions.items) × AreKept (game_of c.args.self.now.facts.now) (slice_set c.args.self.now.machines.items c.from.result c.acknowledge.new.self)
unchanged c same = alike_played (game_of c.args.self.now.facts.now) c.args.self.now.machines.items c.args.self.now.emissions.items c.args.node c.from.result c.index_mut-machine.result.now c.acknowledge.new.self c.requires.kept (there c) c.from.ensures same

pub returns-clause-plays : goal.returns-clause-plays
returns-clause-plays c = let at = (goal.at.returns-clause-plays c).After-acknowledge in ok_then _ _ c.acknowledge.result (λ b p. p.plays) (played at)

pub returns-clause-err : goal.returns-clause-err
returns-clause-err c = let at = (goal.at.returns-clause-err c).After-acknowledge in err_then _ _ c.acknowledge.result (λ same. (unchanged at same).0) c.acknowledge.ensures.err

pub returns-clause-kept : goal.returns-clause-kept
returns-clause-kept c =
    let at = (goal.at.returns-clause-kept c).After-acknowledge in
    either _ c.acknowledge.result (ok_then _ _ c.acknowledge.result (λ b p. p.kept) (played at)) (err_then _ _ c.acknowledge.result (λ same. (unchanged at same).1) c.acknowledge.ensures.err)
