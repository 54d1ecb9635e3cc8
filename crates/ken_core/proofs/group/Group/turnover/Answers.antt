use Rattle.std.proofs.Common.{◌≡◌, arith, IfOk, IsTrue, false, slice_get, slice_set, Some}
use Rattle.ken_model.specs.Game.{game_of}
use Rattle.ken_core.specs.declared.events.Event.TheVariants.{Turnover}
use Rattle.ken_core.specs.Groups.{group_of, AreKept, made_by}
use Rattle.ken_core.specs.Turnovers.{TurnsOver, MayNotTurn}
use Rattle.ken_core.proofs.Moves.{read_at, kept_at}
use Rattle.ken_core.proofs.Results.{ok_then, ok_then3, err_then, either}
use Rattle.ken_core.proofs.Repaged.{IsPlayed, unmoved_kept}
use Rattle.ken_core.proofs.Turning.{turned_played, few_pages}
use Rattle.ken_core.proofs.group.Group.turnover.Goals as goal
use Rattle.ken_core.proofs.group.Group.turnover.Goals.{After-turn_over}

pub turn_over-requires-clause-kept : goal.turn_over-requires-clause-kept
turn_over-requires-clause-kept c = (game_of c.args.self.now.facts.now, (made_by c.args.self.now.machines.items, (c.args.node, kept_at (game_of c.args.self.now.facts.now) c.args.self.now.machines.items c.args.node c.from.result c.index_mut-machine.result.now c.requires.kept c.from.ensures c.requires.known c.index_mut-machine.ensures.value)))

pub turn_over-requires-clause-few : goal.turn_over-requires-clause-few
turn_over-requires-clause-few c =
    let mine = kept_at (game_of c.args.self.now.facts.now) c.args.self.now.machines.items c.args.node c.from.result c.index_mut-machine.result.now c.requires.kept c.from.ensures c.requires.known c.index_mut-machine.ensures.value in
    let size = c.requires.kept.limits.pages in
    let few = few_pages (game_of c.args.self.now.facts.now) size.0 size.2 size.3 in
    omega (arith, mine.pages.unclean)

there : (c : After-turn_over) → slice_get c.args.self.now.machines.items c.args.node ≡ Some c.index_mut-machine.result.now
there c = read_at (game_of c.args.self.now.facts.now) c.args.self.now.machines.items c.args.node c.from.result c.index_mut-machine.result.now c.requires.kept c.from.ensures c.requires.known c.index_mut-machine.ensures.value

played : (c : After-turn_over) → IfOk c.turn_over.result (λ b. IsPlayed (game_of c.args.self.now.facts.now) c.args.self.now.machines.items (slice_set c.args.self.now.machines.items c.from.result c.turn_over.new.self) c.args.self.now.emissions.items c.args.self.now.emissions.items (Turnover c.args.node c.args.outcome c.args.told.now) b)
played c =
    ok_then3 (λ b. IsTrue b → TurnsOver c.args.outcome c.args.told.now c.index_mut-machine.result.now c.turn_over.new.self) (λ b. b ≡ false → MayNotTurn c.args.told.now c.index_mut-machine.result.now) (λ b. b ≡ false → c.turn_over.new.self ≡ c.index_mut-machine.result.now)
    (λ b. IsPlayed (game_of c.args.self.now.facts.now) c.args.self.now.machines.items (slice_set c.args.self.now.machines.items c.from.result c.turn_over.new.self) c.args.self.now.emissions.items c.args.self.now.emissions.items (Turnover c.args.node c.args.outcome c.args.told.now) b)
    c.turn_over.result
    (turned_played (game_of c.args.self.now.facts.now) c.args.self.now.machines.items c.args.self.now.emissions.items c.args.node c.from.result c.args.told.now c.index_mut-machine.result.now c.turn_over.new.self c.requires.kept (there c) c.from.ensures c.requires.known c.args.outcome)
    c.turn_over.ensures.made c.turn_over.ensures.none c.turn_over.ensures.same

unchanged : (c : After-turn_over) → c.turn_over.new.self ≡ c.index_mut-machine.result.now → (group_of (game_of c.args.self.now.facts.now) (slice_set c.args.self.now.machines.items c.from.result c.turn_over.new.self) c.args.self.now.emissions.items ≡ group_of (game_of c.args.self.now.facts.now) c.args.self.now.machines.items c.args.self.now.emissions.items) × AreKept (game_of c.args.self.now.facts.now) (slice_set c.args.self.now.machines.items c.from.result c.turn_over.new.self)
unchanged c same = unmoved_kept (game_of c.args.self.now.facts.now) c.args.self.now.machines.items c.args.self.now.emissions.items c.args.node c.from.result c.index_mut-machine.result.now c.turn_over.new.self c.requires.kept (there c) c.from.ensures same

pub returns-clause-plays : goal.returns-clause-plays
returns-clause-plays c = let at = (goal.at.returns-clause-plays c).After-turn_over in ok_then _ _ c.turn_over.result (λ b p. p.plays) (played at)

pub returns-clause-err : goal.returns-clause-err
returns-clause-err c = let at = (goal.at.returns-clause-err c).After-turn_over in err_then _ _ c.turn_over.result (λ same. (unchanged at same).0) c.turn_over.ensures.err

pub returns-clause-kept : goal.returns-clause-kept
returns-clause-kept c =
    let at = (goal.at.returns-clause-kept c).After-turn_over in
    either _ c.turn_over.result (ok_then _ _ c.turn_over.result (λ b p. p.kept) (played at)) (err_then _ _ c.turn_over.result (λ same. (unchanged at same).1) c.turn_over.ensures.err)
