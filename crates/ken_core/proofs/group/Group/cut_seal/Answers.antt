use Rattle.std.proofs.Common.{List, Option, IfSome, true, false, slice_set, sym, subst, arith, ◌∙◌}
use Rattle.std.specs.Option.{IfNone}
use Rattle.ken_record.specs.declared.page.Page.{Page}
use Rattle.ken_model.specs.Game.{game_of}
use Rattle.ken_core.specs.declared.events.Event.TheVariants.{SealCut}
use Rattle.ken_core.specs.declared.sealing.Sealing.{Sealing}
use Rattle.ken_core.specs.Groups.{group_of, Plays}
use Rattle.ken_core.specs.Clusters.{Cluster, IsBarred}
use Rattle.ken_core.specs.Next.{IsReady, IsUnready}
use Rattle.ken_core.proofs.Moves.{read_at}
use Rattle.ken_core.proofs.Ledgers.{get_some}
use Rattle.ken_core.proofs.Results.{on_err}
use Rattle.ken_core.proofs.Repaged.{IsPlayed}
use Rattle.ken_core.proofs.Played.{cut_played, lost_played, uncut_barred, roomier_same}
use Rattle.ken_core.proofs.Sealable.{CanSeal, can_seal}
use Rattle.ken_core.proofs.group.Group.cut_seal.Goals as goal
use Rattle.ken_core.proofs.group.Group.cut_seal.Goals.{In_default, In-Some, After-index_mut-machine, After-make_room, In_ok-make_room, After-seal}

unready : (c : In_default) → IsUnready (game_of c.args.self.now.facts.now) c.sealing.new.self.machines.items c.sealing.new.self.emissions.items c.args.node c.args.from c.args.draws.now c.args.pages.now
unready c =
    let none = subst (λ (o : Option Sealing). IfNone o (IsUnready (game_of c.args.self.now.facts.now) c.sealing.new.self.machines.items c.sealing.new.self.emissions.items c.args.node c.args.from c.as_slice.result.now c.as_slice-2.result.now)) c.in_default.is c.in_ok-sealing.ensures.none in
    subst (λ ds. IsUnready (game_of c.args.self.now.facts.now) c.sealing.new.self.machines.items c.sealing.new.self.emissions.items c.args.node c.args.from ds c.args.pages.now) c.as_slice.ensures
    (subst (λ (ps : List Page). IsUnready (game_of c.args.self.now.facts.now) c.sealing.new.self.machines.items c.sealing.new.self.emissions.items c.args.node c.args.from c.as_slice.result.now ps) c.as_slice-2.ensures none)

ready : (c : In-Some) → IsReady (game_of c.args.self.now.facts.now) c.sealing.new.self.machines.items c.sealing.new.self.emissions.items c.args.node c.args.from c.args.draws.now c.args.pages.now c.in-Some.sealing
ready c =
    let some = subst (λ (o : Option Sealing). IfSome o (IsReady (game_of c.args.self.now.facts.now) c.sealing.new.self.machines.items c.sealing.new.self.emissions.items c.args.node c.args.from c.as_slice.result.now c.as_slice-2.result.now)) c.in-Some.is c.in_ok-sealing.ensures.some in
    subst (λ ds. IsReady (game_of c.args.self.now.facts.now) c.sealing.new.self.machines.items c.sealing.new.self.emissions.items c.args.node c.args.from ds c.args.pages.now c.in-Some.sealing) c.as_slice.ensures
    (subst (λ (ps : List Page). IsReady (game_of c.args.self.now.facts.now) c.sealing.new.self.machines.items c.sealing.new.self.emissions.items c.args.node c.args.from c.as_slice.result.now ps c.in-Some.sealing) c.as_slice-2.ensures some)

pub returns-in_default-clause-plays : goal.returns-in_default-clause-plays
returns-in_default-clause-plays c =
    let some = get_some c.sealing.new.self.machines.items c.args.node (omega (arith, c.requires.known, c.sealing.ensures.kept.width)) in
    (subst (λ (w : Cluster). IsBarred (game_of c.args.self.now.facts.now) w (SealCut c.args.node c.args.from c.args.draws.now c.args.pages.now c.args.landed)) c.sealing.ensures.same (uncut_barred (game_of c.args.self.now.facts.now) c.sealing.new.self.machines.items c.sealing.new.self.emissions.items c.args.node c.args.from c.args.draws.now c.args.pages.now c.args.landed some.0 some.1 (unready c)), c.sealing.ensures.same)

pub returns-in_err-make_room-clause-err : goal.returns-in_err-make_room-clause-err
returns-in_err-make_room-clause-err c =
    let is = read_at (game_of c.args.self.now.facts.now) c.sealing.new.self.machines.items c.args.node c.from.result c.index_mut-machine.result.now c.sealing.ensures.kept c.from.ensures c.requires.known c.index_mut-machine.ensures.value in
    on_err _ c.from_residual-in_err-make_room.result ((roomier_same (game_of c.args.self.now.facts.now) c.sealing.new.self.machines.items c.sealing.new.self.emissions.items c.args.node c.from.result c.index_mut-machine.result.now c.make_room.new.self c.sealing.ensures.kept is c.from.ensures c.make_room.ensures.same).0 ∙ c.sealing.ensures.same)

pub returns-in_err-make_room-clause-kept : goal.returns-in_err-make_room-clause-kept
returns-in_err-make_room-clause-kept c =
    let is = read_at (game_of c.args.self.now.facts.now) c.sealing.new.self.machines.items c.args.node c.from.result c.index_mut-machine.result.now c.sealing.ensures.kept c.from.ensures c.requires.known c.index_mut-machine.ensures.value in
    (roomier_same (game_of c.args.self.now.facts.now) c.sealing.new.self.machines.items c.sealing.new.self.emissions.items c.args.node c.from.result c.index_mut-machine.result.now c.make_room.new.self c.sealing.ensures.kept is c.from.ensures c.make_room.ensures.same).1

can : (c : In_ok-make_room) → IsReady (game_of c.args.self.now.facts.now) c.sealing.new.self.machines.items c.sealing.new.self.emissions.items c.args.node c.args.from c.args.draws.now c.args.pages.now c.in-Some.sealing → CanSeal c.in-Some.sealing c.make_room.new.self
can c ready =
    let is = read_at (game_of c.args.self.now.facts.now) c.sealing.new.self.machines.items c.args.node c.from.result c.index_mut-machine.result.now c.sealing.ensures.kept c.from.ensures c.requires.known c.index_mut-machine.ensures.value in
    can_seal (game_of c.args.self.now.facts.now) c.sealing.new.self.machines.items c.sealing.new.self.emissions.items c.args.node c.from.result c.args.from c.args.draws.now c.args.pages.now c.in-Some.sealing c.index_mut-machine.result.now c.make_room.new.self c.sealing.ensures.kept is c.from.ensures c.requires.known ready c.make_room.ensures.same

pub seal-requires-clause-known : goal.seal-requires-clause-known
seal-requires-clause-known c = let at = goal.at.seal-requires-clause-known c in (can at.In_ok-make_room (ready at.In-Some)).known

pub seal-requires-clause-waits : goal.seal-requires-clause-waits
seal-requires-clause-waits c = let at = goal.at.seal-requires-clause-waits c in (can at.In_ok-make_room (ready at.In-Some)).waits

pub seal-requires-clause-sender : goal.seal-requires-clause-sender
seal-requires-clause-sender c = let at = goal.at.seal-requires-clause-sender c in (can at.In_ok-make_room (ready at.In-Some)).sender

pub seal-requires-clause-fit : goal.seal-requires-clause-fit
seal-requires-clause-fit c = let at = goal.at.seal-requires-clause-fit c in (can at.In_ok-make_room (ready at.In-Some)).fit

pub seal-requires-clause-value : goal.seal-requires-clause-value
seal-requires-clause-value c = let at = goal.at.seal-requires-clause-value c in (can at.In_ok-make_room (ready at.In-Some)).value

pub seal-requires-clause-within : goal.seal-requires-clause-within
seal-requires-clause-within c = let at = goal.at.seal-requires-clause-within c in (can at.In_ok-make_room (ready at.In-Some)).within

played : (c : After-seal) → IsReady (game_of c.args.self.now.facts.now) c.sealing.new.self.machines.items c.sealing.new.self.emissions.items c.args.node c.args.from c.args.draws.now c.args.pages.now c.in-Some.sealing → IsPlayed (game_of c.args.self.now.facts.now) c.sealing.new.self.machines.items (slice_set c.sealing.new.self.machines.items c.from.result (record c.seal.new.self { up = false })) c.sealing.new.self.emissions.items c.sealing.new.self.emissions.items (SealCut c.args.node c.args.from c.args.draws.now c.args.pages.now true) true
played c ready =
    let is = read_at (game_of c.args.self.now.facts.now) c.sealing.new.self.machines.items c.args.node c.from.result c.index_mut-machine.result.now c.sealing.ensures.kept c.from.ensures c.requires.known c.index_mut-machine.ensures.value in
    cut_played (game_of c.args.self.now.facts.now) c.sealing.new.self.machines.items c.sealing.new.self.emissions.items c.args.node c.from.result c.args.from c.args.draws.now c.args.pages.now c.in-Some.sealing c.index_mut-machine.result.now c.sealing.ensures.kept is c.from.ensures c.requires.known ready c.make_room.new.self c.seal.new.self c.make_room.ensures.same c.seal.ensures

pub returns-clause-plays : goal.returns-clause-plays
returns-clause-plays c =
    let at = goal.at.returns-clause-plays c in
    subst (λ (w : Cluster). Plays (game_of c.args.self.now.facts.now) w (SealCut c.args.node c.args.from c.args.draws.now c.args.pages.now c.args.landed) (group_of (game_of c.args.self.now.facts.now) (slice_set c.sealing.new.self.machines.items c.from.result (record c.seal.new.self { up = false })) c.sealing.new.self.emissions.items) true) c.sealing.ensures.same
    (subst (λ b. Plays (game_of c.args.self.now.facts.now) (group_of (game_of c.args.self.now.facts.now) c.sealing.new.self.machines.items c.sealing.new.self.emissions.items) (SealCut c.args.node c.args.from c.args.draws.now c.args.pages.now b) (group_of (game_of c.args.self.now.facts.now) (slice_set c.sealing.new.self.machines.items c.from.result (record c.seal.new.self { up = false })) c.sealing.new.self.emissions.items) true) (sym c.if-not-landed.false) (played at.After-seal (ready at.In-Some)).plays)

pub returns-clause-kept : goal.returns-clause-kept
returns-clause-kept c = let at = goal.at.returns-clause-kept c in (played at.After-seal (ready at.In-Some)).kept

lost : (c : After-index_mut-machine) → IsReady (game_of c.args.self.now.facts.now) c.sealing.new.self.machines.items c.sealing.new.self.emissions.items c.args.node c.args.from c.args.draws.now c.args.pages.now c.in-Some.sealing → IsPlayed (game_of c.args.self.now.facts.now) c.sealing.new.self.machines.items (slice_set c.sealing.new.self.machines.items c.from.result (record c.index_mut-machine.result.now { up = false })) c.sealing.new.self.emissions.items c.sealing.new.self.emissions.items (SealCut c.args.node c.args.from c.args.draws.now c.args.pages.now false) true
lost c ready =
    let is = read_at (game_of c.args.self.now.facts.now) c.sealing.new.self.machines.items c.args.node c.from.result c.index_mut-machine.result.now c.sealing.ensures.kept c.from.ensures c.requires.known c.index_mut-machine.ensures.value in
    lost_played (game_of c.args.self.now.facts.now) c.sealing.new.self.machines.items c.sealing.new.self.emissions.items c.args.node c.from.result c.args.from c.args.draws.now c.args.pages.now c.in-Some.sealing c.index_mut-machine.result.now c.sealing.ensures.kept is c.from.ensures c.requires.known ready

pub returns-then-not-landed-clause-plays : goal.returns-then-not-landed-clause-plays
returns-then-not-landed-clause-plays c =
    let at = goal.at.returns-then-not-landed-clause-plays c in
    subst (λ (w : Cluster). Plays (game_of c.args.self.now.facts.now) w (SealCut c.args.node c.args.from c.args.draws.now c.args.pages.now c.args.landed) (group_of (game_of c.args.self.now.facts.now) (slice_set c.sealing.new.self.machines.items c.from.result (record c.index_mut-machine.result.now { up = false })) c.sealing.new.self.emissions.items) true) c.sealing.ensures.same
    (subst (λ b. Plays (game_of c.args.self.now.facts.now) (group_of (game_of c.args.self.now.facts.now) c.sealing.new.self.machines.items c.sealing.new.self.emissions.items) (SealCut c.args.node c.args.from c.args.draws.now c.args.pages.now b) (group_of (game_of c.args.self.now.facts.now) (slice_set c.sealing.new.self.machines.items c.from.result (record c.index_mut-machine.result.now { up = false })) c.sealing.new.self.emissions.items) true) (sym c.if-not-landed.true) (lost at.After-index_mut-machine (ready at.In-Some)).plays)

pub returns-then-not-landed-clause-kept : goal.returns-then-not-landed-clause-kept
returns-then-not-landed-clause-kept c =
    let at = goal.at.returns-then-not-landed-clause-kept c in
    (lost at.After-index_mut-machine (ready at.In-Some)).kept
