use Rattle.std.proofs.Common.{◌≡◌, true, ap, refl, ◌∙◌, slice_set}
use Rattle.std.proofs.lemmas.List.{set-get_or}
use Rattle.ken_model.specs.Game.{game_of}
use Rattle.ken_core.specs.declared.events.Event.TheVariants.{Recover}
use Rattle.ken_core.specs.declared.machine.Machine.{Machine}
use Rattle.ken_core.specs.Groups.{group_of, node_in, made_by, AreKept}
use Rattle.ken_core.proofs.Moves.{read_at, kept_at, barred}
use Rattle.ken_core.proofs.Results.{on_err}
use Rattle.ken_core.proofs.Repaged.{IsPlayed, recovered_played, renoded_same}
use Rattle.ken_core.proofs.group.Group.recover.Goals as goal
use Rattle.ken_core.proofs.group.Group.recover.Goals.{In_ok-recover, In_err-recover}

pub returns-then-not-has_none_open-clause-plays : goal.returns-then-not-has_none_open-clause-plays
returns-then-not-has_none_open-clause-plays c =
    let m : Machine = c.index_mut-machine.result.now in
    let is = read_at (game_of c.args.self.now.facts.now) c.args.self.now.machines.items c.args.node c.from.result m c.requires.kept c.from.ensures c.requires.known c.index_mut-machine.ensures.value in (
      barred (game_of c.args.self.now.facts.now) c.args.self.now.machines.items c.args.node m m is c.args.self.now.emissions.items c.args.self.now.emissions.items (Recover c.args.node) refl (λ n2 step. let holds = c.has_none_open.ensures.1 step.1 in absurd cc),
      ap (λ ms. group_of (game_of c.args.self.now.facts.now) ms c.args.self.now.emissions.items) (ap (slice_set c.args.self.now.machines.items c.from.result) c.index_mut-machine.ensures.value ∙ set-get_or c.args.self.now.machines.items c.from.result m),
    )

pub recover-requires : goal.recover-requires
recover-requires c = (game_of c.args.self.now.facts.now, (made_by c.args.self.now.machines.items, (c.args.node, kept_at (game_of c.args.self.now.facts.now) c.args.self.now.machines.items c.args.node c.from.result c.index_mut-machine.result.now c.requires.kept c.from.ensures c.requires.known c.index_mut-machine.ensures.value)))

still : (c : In_err-recover) → (group_of (game_of c.args.self.now.facts.now) (slice_set c.args.self.now.machines.items c.from.result c.recover.new.self) c.args.self.now.emissions.items ≡ group_of (game_of c.args.self.now.facts.now) c.args.self.now.machines.items c.args.self.now.emissions.items) × AreKept (game_of c.args.self.now.facts.now) (slice_set c.args.self.now.machines.items c.from.result c.recover.new.self)
still c =
    let m : Machine = c.index_mut-machine.result.now in
    let is = read_at (game_of c.args.self.now.facts.now) c.args.self.now.machines.items c.args.node c.from.result m c.requires.kept c.from.ensures c.requires.known c.index_mut-machine.ensures.value in
    renoded_same (game_of c.args.self.now.facts.now) c.args.self.now.machines.items c.args.self.now.emissions.items c.args.node c.from.result m c.recover.new.self (node_in m) c.requires.kept is c.from.ensures c.in_err-recover.ensures.err c.recover.ensures.rest refl

pub returns-in_err-recover-clause-err : goal.returns-in_err-recover-clause-err
returns-in_err-recover-clause-err c = on_err _ c.from_residual.result (still (goal.at.returns-in_err-recover-clause-err c).In_err-recover).0

pub returns-in_err-recover-clause-kept : goal.returns-in_err-recover-clause-kept
returns-in_err-recover-clause-kept c = (still (goal.at.returns-in_err-recover-clause-kept c).In_err-recover).1

played : (c : In_ok-recover) → IsPlayed (game_of c.args.self.now.facts.now) c.args.self.now.machines.items (slice_set c.args.self.now.machines.items c.from.result c.recover.new.self) c.args.self.now.emissions.items c.args.self.now.emissions.items (Recover c.args.node) true
played c =
    let m : Machine = c.index_mut-machine.result.now in
    let is = read_at (game_of c.args.self.now.facts.now) c.args.self.now.machines.items c.args.node c.from.result m c.requires.kept c.from.ensures c.requires.known c.index_mut-machine.ensures.value in
    recovered_played (game_of c.args.self.now.facts.now) c.args.self.now.machines.items c.args.self.now.emissions.items c.args.node c.from.result m c.recover.new.self c.requires.kept is c.from.ensures c.requires.known c.if-machine.false (c.has_none_open.ensures.0 c.if-not-has_none_open.false) c.in_ok-recover.ensures.ok c.recover.ensures.rest

pub returns-clause-plays : goal.returns-clause-plays
returns-clause-plays c = (played (goal.at.returns-clause-plays c).In_ok-recover).plays

pub returns-clause-kept : goal.returns-clause-kept
returns-clause-kept c = (played (goal.at.returns-clause-kept c).In_ok-recover).kept
