use Rattle.std.proofs.Common.{◌≡◌, IfOk, IsTrue, false, slice_get, slice_set, Some}
use Rattle.ken_model.specs.Game.{game_of}
use Rattle.ken_core.specs.declared.events.Event.TheVariants.{Send}
use Rattle.ken_core.specs.Groups.{group_of, AreKept, made_by}
use Rattle.ken_core.specs.Marking.{PutsMail, HasNoMail, IsSame}
use Rattle.ken_core.proofs.Moves.{read_at, kept_at}
use Rattle.ken_core.proofs.Results.{ok_then, ok_then3, err_then, either}
use Rattle.ken_core.proofs.Repaged.{IsPlayed}
use Rattle.ken_core.proofs.Putting.{same_played, sent_played}
use Rattle.ken_core.proofs.group.Group.send.Goals as goal
use Rattle.ken_core.proofs.group.Group.send.Goals.{After-put_mail}

pub put_mail-requires : goal.put_mail-requires
put_mail-requires c = (game_of c.args.self.now.facts.now, (made_by c.args.self.now.machines.items, (c.args.node, kept_at (game_of c.args.self.now.facts.now) c.args.self.now.machines.items c.args.node c.from.result c.index_mut-machine.result.now c.requires.kept c.from.ensures c.requires.known c.index_mut-machine.ensures.value)))

there : (c : After-put_mail) → slice_get c.args.self.now.machines.items c.args.node ≡ Some c.index_mut-machine.result.now
there c = read_at (game_of c.args.self.now.facts.now) c.args.self.now.machines.items c.args.node c.from.result c.index_mut-machine.result.now c.requires.kept c.from.ensures c.requires.known c.index_mut-machine.ensures.value

played : (c : After-put_mail) → IfOk c.put_mail.result (λ b. IsPlayed (game_of c.args.self.now.facts.now) c.args.self.now.machines.items (slice_set c.args.self.now.machines.items c.from.result c.put_mail.new.self) c.args.self.now.emissions.items c.args.self.now.emissions.items (Send c.args.node c.args.to c.args.i) b)
played c =
    ok_then3 (λ b. IsTrue b → PutsMail c.args.to c.args.i c.index_mut-machine.result.now c.put_mail.new.self) (λ b. b ≡ false → HasNoMail c.args.to c.args.i c.index_mut-machine.result.now) (λ b. b ≡ false → IsSame c.index_mut-machine.result.now c.put_mail.new.self)
    (λ b. IsPlayed (game_of c.args.self.now.facts.now) c.args.self.now.machines.items (slice_set c.args.self.now.machines.items c.from.result c.put_mail.new.self) c.args.self.now.emissions.items c.args.self.now.emissions.items (Send c.args.node c.args.to c.args.i) b)
    c.put_mail.result
    (sent_played (game_of c.args.self.now.facts.now) c.args.self.now.machines.items c.args.self.now.emissions.items c.args.node c.from.result c.args.to c.args.i c.index_mut-machine.result.now c.put_mail.new.self c.requires.kept (there c) c.from.ensures c.requires.known c.if-not-machine.false)
    c.put_mail.ensures.made c.put_mail.ensures.none c.put_mail.ensures.same

unchanged : (c : After-put_mail) → IsSame c.index_mut-machine.result.now c.put_mail.new.self → (group_of (game_of c.args.self.now.facts.now) (slice_set c.args.self.now.machines.items c.from.result c.put_mail.new.self) c.args.self.now.emissions.items ≡ group_of (game_of c.args.self.now.facts.now) c.args.self.now.machines.items c.args.self.now.emissions.items) × AreKept (game_of c.args.self.now.facts.now) (slice_set c.args.self.now.machines.items c.from.result c.put_mail.new.self)
unchanged c same = same_played (game_of c.args.self.now.facts.now) c.args.self.now.machines.items c.args.self.now.emissions.items c.args.node c.from.result c.index_mut-machine.result.now c.put_mail.new.self c.requires.kept (there c) c.from.ensures same

pub returns-clause-plays : goal.returns-clause-plays
returns-clause-plays c = let at = (goal.at.returns-clause-plays c).After-put_mail in ok_then _ _ c.put_mail.result (λ b p. p.plays) (played at)

pub returns-clause-err : goal.returns-clause-err
returns-clause-err c = let at = (goal.at.returns-clause-err c).After-put_mail in err_then _ _ c.put_mail.result (λ same. (unchanged at same).0) c.put_mail.ensures.err

pub returns-clause-kept : goal.returns-clause-kept
returns-clause-kept c =
    let at = (goal.at.returns-clause-kept c).After-put_mail in
    either _ c.put_mail.result (ok_then _ _ c.put_mail.result (λ b p. p.kept) (played at)) (err_then _ _ c.put_mail.result (λ same. (unchanged at same).1) c.put_mail.ensures.err)
