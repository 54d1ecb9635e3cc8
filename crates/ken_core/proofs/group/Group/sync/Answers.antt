use Rattle.std.proofs.Common.{◌≡◌, true, slice_set, refl, sym, subst}
use Rattle.ken_model.specs.Game.{game_of}
use Rattle.ken_cover.specs.Covers.{Covers}
use Rattle.ken_cover.specs.Sides.{synced_pages}
use Rattle.ken_cover.proofs.Keeps.{sync_keeps_coverage}
use Rattle.ken_core.specs.declared.events.Event.TheVariants.{SyncImage}
use Rattle.ken_core.specs.declared.machine.Machine.{Machine}
use Rattle.ken_core.specs.Nodes.{heap_pages}
use Rattle.ken_core.specs.Machines.{turn_pages, image_pages}
use Rattle.ken_core.proofs.Moves.{read_at, kept_at}
use Rattle.ken_core.proofs.Repaged.{IsMoved, repaged_moved, with_pages_in}
use Rattle.ken_core.proofs.group.Group.sync.Goals as goal
use Rattle.ken_core.proofs.group.Group.sync.Goals.{After-sync}

pub sync-requires : goal.sync-requires
sync-requires c = (heap_pages (game_of c.args.self.now.facts.now), (c.index_mut-machine.result.now.up, (kept_at (game_of c.args.self.now.facts.now) c.args.self.now.machines.items c.args.node c.from.result c.index_mut-machine.result.now c.requires.kept c.from.ensures c.requires.known c.index_mut-machine.ensures.value).pages))

moved : (c : After-sync) → IsMoved (game_of c.args.self.now.facts.now) c.args.self.now.machines.items (slice_set c.args.self.now.machines.items c.from.result (with_pages_in c.index_mut-machine.result.now.up c.sync.new.self c.index_mut-machine.result.now)) c.args.self.now.emissions.items c.args.self.now.emissions.items (SyncImage c.args.node)
moved c =
    let m : Machine = c.index_mut-machine.result.now in
    let there = read_at (game_of c.args.self.now.facts.now) c.args.self.now.machines.items c.args.node c.from.result m c.requires.kept c.from.ensures c.requires.known c.index_mut-machine.ensures.value in
    let mine = c.requires.kept.each c.args.node m there in
    let up : m.up ≡ true = c.if-not-machine.false in
    let covers = subst (λ b. Covers (heap_pages (game_of c.args.self.now.facts.now)) b (turn_pages m.pages) (image_pages m.pages)) up mine.pages.covers in
    repaged_moved (game_of c.args.self.now.facts.now) c.args.self.now.machines.items c.args.self.now.emissions.items (SyncImage c.args.node) c.args.node c.from.result m m.up c.sync.new.self (turn_pages m.pages) (synced_pages (image_pages m.pages)) c.requires.kept there c.from.ensures c.requires.known refl refl c.sync.ensures.turning c.sync.ensures.image c.sync.ensures.widths (up, refl)
    (subst (λ b. Covers (heap_pages (game_of c.args.self.now.facts.now)) b (turn_pages m.pages) (synced_pages (image_pages m.pages))) (sym up) (sync_keeps_coverage (heap_pages (game_of c.args.self.now.facts.now)) (turn_pages m.pages) (image_pages m.pages) covers))

pub returns-clause-plays : goal.returns-clause-plays
returns-clause-plays c = (moved (goal.at.returns-clause-plays c).After-sync).step

pub returns-clause-kept : goal.returns-clause-kept
returns-clause-kept c = (moved (goal.at.returns-clause-kept c).After-sync).kept
