use Rattle.std.proofs.Common.{◌∙◌, false, refl, ap, subst, slice_set}
use Rattle.ken_model.specs.Game.{game_of}
use Rattle.ken_cover.specs.Covers.{AreTorn}
use Rattle.ken_cover.specs.Sides.{crashed_pages}
use Rattle.ken_cover.proofs.Keeps.{crash_keeps_coverage}
use Rattle.ken_core.specs.declared.events.Event.TheVariants.{Crash}
use Rattle.ken_core.specs.declared.machine.Machine.{Machine}
use Rattle.ken_core.specs.Nodes.{heap_pages}
use Rattle.ken_core.specs.Machines.{turn_pages, image_pages}
use Rattle.ken_core.proofs.Moves.{read_at, kept_at}
use Rattle.ken_core.proofs.Repaged.{IsMoved, repaged_moved, with_pages_in}
use Rattle.ken_core.proofs.group.Group.crash.Goals as goal
use Rattle.ken_core.proofs.group.Group.crash.Goals.{After-crash}

pub crash-requires-clause-paged : goal.crash-requires-clause-paged
crash-requires-clause-paged c = (heap_pages (game_of c.args.self.now.facts.now), (c.index_mut-machine.result.now.up, (kept_at (game_of c.args.self.now.facts.now) c.args.self.now.machines.items c.args.node c.from.result c.index_mut-machine.result.now c.requires.kept c.from.ensures c.requires.known c.index_mut-machine.ensures.value).pages))

moved : (c : After-crash) → IsMoved (game_of c.args.self.now.facts.now) c.args.self.now.machines.items (slice_set c.args.self.now.machines.items c.from.result (with_pages_in false c.crash.new.self c.index_mut-machine.result.now)) c.args.self.now.emissions.items c.args.self.now.emissions.items (Crash c.args.node c.args.pages.now)
moved c =
    let m : Machine = c.index_mut-machine.result.now in
    let there = read_at (game_of c.args.self.now.facts.now) c.args.self.now.machines.items c.args.node c.from.result m c.requires.kept c.from.ensures c.requires.known c.index_mut-machine.ensures.value in
    let torn : AreTorn (image_pages m.pages) c.args.pages.now = subst (λ ps. AreTorn (image_pages m.pages) ps) c.as_slice.ensures (c.in_ok-are_torn.ensures.0 c.if-not-branch.false) in
    let image = c.crash.ensures.image ∙ ap (λ ps. crashed_pages ps (image_pages m.pages)) c.as_slice-2.ensures in
    let covers = (c.requires.kept.each c.args.node m there).pages.covers in
    repaged_moved (game_of c.args.self.now.facts.now) c.args.self.now.machines.items c.args.self.now.emissions.items (Crash c.args.node c.args.pages.now) c.args.node c.from.result m false c.crash.new.self (turn_pages m.pages) (crashed_pages c.args.pages.now (image_pages m.pages)) c.requires.kept there c.from.ensures c.requires.known refl refl
    c.crash.ensures.turning image c.crash.ensures.widths (torn, refl) (crash_keeps_coverage (heap_pages (game_of c.args.self.now.facts.now)) m.up (turn_pages m.pages) (image_pages m.pages) c.args.pages.now torn covers)

pub returns-clause-plays : goal.returns-clause-plays
returns-clause-plays c = (moved (goal.at.returns-clause-plays c).After-crash).step

pub returns-clause-kept : goal.returns-clause-kept
returns-clause-kept c = (moved (goal.at.returns-clause-kept c).After-crash).kept
