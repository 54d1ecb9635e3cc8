use Rattle.std.proofs.Common.{slice_set}
use Rattle.ken_model.specs.Game.{game_of}
use Rattle.ken_core.specs.declared.events.Event.TheVariants.{Patch}
use Rattle.ken_core.specs.declared.machine.Machine.{Machine}
use Rattle.ken_core.specs.Nodes.{heap_pages}
use Rattle.ken_core.proofs.Moves.{read_at, kept_at}
use Rattle.ken_core.proofs.Repaged.{IsPlayed, patch_played, with_pages_in}
use Rattle.ken_core.proofs.group.Group.patch.Goals as goal
use Rattle.ken_core.proofs.group.Group.patch.Goals.{After-patch}

pub patch-requires : goal.patch-requires
patch-requires c = (heap_pages (game_of c.args.self.now.facts.now), (c.index_mut-machine.result.now.up, (kept_at (game_of c.args.self.now.facts.now) c.args.self.now.machines.items c.args.node c.from.result c.index_mut-machine.result.now c.requires.kept c.from.ensures c.requires.known c.index_mut-machine.ensures.value).pages))

played : (c : After-patch) → IsPlayed (game_of c.args.self.now.facts.now) c.args.self.now.machines.items (slice_set c.args.self.now.machines.items c.from.result (with_pages_in c.index_mut-machine.result.now.up c.patch.new.self c.index_mut-machine.result.now)) c.args.self.now.emissions.items c.args.self.now.emissions.items (Patch c.args.node c.args.page) c.patch.result
played c =
    let m : Machine = c.index_mut-machine.result.now in
    let there = read_at (game_of c.args.self.now.facts.now) c.args.self.now.machines.items c.args.node c.from.result m c.requires.kept c.from.ensures c.requires.known c.index_mut-machine.ensures.value in
    patch_played (game_of c.args.self.now.facts.now) c.args.self.now.machines.items c.args.self.now.emissions.items c.args.node c.from.result c.args.page m c.patch.new.self c.patch.result c.requires.kept there c.from.ensures c.requires.known c.if-not-machine.false
    c.patch.ensures.made c.patch.ensures.none c.patch.ensures.same c.patch.ensures.turning c.patch.ensures.widths

pub returns-clause-plays : goal.returns-clause-plays
returns-clause-plays c = (played (goal.at.returns-clause-plays c).After-patch).plays

pub returns-clause-kept : goal.returns-clause-kept
returns-clause-kept c = (played (goal.at.returns-clause-kept c).After-patch).kept
