use Rattle.std.proofs.Common.{◌≡◌, ◌+◌, ◌++◌, ◌∷◌, [], List, slice_get, slice_set, Some, true, ap, sym, subst, ◌∙◌, arith}
use Rattle.std.proofs.lemmas.List.{set-get_or}
use Rattle.ken_model.specs.declared.messages.Out.{Out}
use Rattle.ken_model.specs.Game.{game_of}
use Rattle.ken_core.specs.declared.events.Event.TheVariants.{Emit}
use Rattle.ken_core.specs.declared.machine.Machine.{Machine}
use Rattle.ken_core.specs.Groups.{made_by, AreKept}
use Rattle.ken_core.proofs.Moves.{read_at, kept_at}
use Rattle.ken_core.proofs.Repaged.{IsPlayed}
use Rattle.ken_core.proofs.Putting.{emit_played, emitted_small}
use Rattle.ken_core.proofs.group.Group.emit.Goals as goal
use Rattle.ken_core.proofs.group.Group.emit.Goals.{In-Some, In_ok-push}

pub due-requires : goal.due-requires
due-requires c = (game_of c.args.self.now.facts.now, (made_by c.args.self.now.machines.items, (c.args.node, kept_at (game_of c.args.self.now.facts.now) c.args.self.now.machines.items c.args.node c.from.result c.index_mut-machine.result.now c.requires.kept c.from.ensures c.requires.known c.index_mut-machine.ensures.value)))

pub returns-in_err-push-clause-kept : goal.returns-in_err-push-clause-kept
returns-in_err-push-clause-kept c =
    subst (λ (ms : List Machine). AreKept (game_of c.args.self.now.facts.now) ms)
    (sym (ap (slice_set c.args.self.now.machines.items c.from.result) c.index_mut-machine.ensures.value ∙ set-get_or c.args.self.now.machines.items c.from.result c.index_mut-machine.result.now))
    c.requires.kept

there : (c : In-Some) → slice_get c.args.self.now.machines.items c.args.node ≡ Some c.index_mut-machine.result.now
there c = read_at (game_of c.args.self.now.facts.now) c.args.self.now.machines.items c.args.node c.from.result c.index_mut-machine.result.now c.requires.kept c.from.ensures c.requires.known c.index_mut-machine.ensures.value

pub overflow_add-machine : goal.overflow_add-machine
overflow_add-machine c =
    let at = (goal.at.overflow_add-machine c).In-Some in
    let small = emitted_small (game_of c.args.self.now.facts.now) c.args.self.now.machines.items c.args.self.now.emissions.items c.push.new.self.items c.args.node c.from.result c.index_mut-machine.result.now c.in-Some.due.now c.requires.kept (there at) c.from.ensures c.requires.known c.if-not-machine.false (sym c.in-Some.ensures) in
    omega arith

played : (c : In_ok-push) → IsPlayed (game_of c.args.self.now.facts.now) c.args.self.now.machines.items (slice_set c.args.self.now.machines.items c.from.result (record c.index_mut-machine.result.now { emitted = c.index_mut-machine.result.now.emitted + 1 })) c.args.self.now.emissions.items c.push.new.self.items (Emit c.args.node) true
played c =
    let is = read_at (game_of c.args.self.now.facts.now) c.args.self.now.machines.items c.args.node c.from.result c.index_mut-machine.result.now c.requires.kept c.from.ensures c.requires.known c.index_mut-machine.ensures.value in
    emit_played (game_of c.args.self.now.facts.now) c.args.self.now.machines.items c.args.self.now.emissions.items c.push.new.self.items c.args.node c.from.result c.index_mut-machine.result.now c.in-Some.due.now c.requires.kept is c.from.ensures c.requires.known c.if-not-machine.false (sym c.in-Some.ensures)
    (c.in_ok-push.ensures.items ∙ ap (λ (o : Out). c.args.self.now.emissions.items ++ record { node = c.args.node; out = o } ∷ []) c.in_ok-out.ensures)

pub returns-clause-plays : goal.returns-clause-plays
returns-clause-plays c = (played (goal.at.returns-clause-plays c).In_ok-push).plays

pub returns-clause-kept : goal.returns-clause-kept
returns-clause-kept c = (played (goal.at.returns-clause-kept c).In_ok-push).kept
