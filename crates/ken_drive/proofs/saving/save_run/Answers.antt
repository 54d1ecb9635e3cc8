-- The disks of one station after the other.
use Rattle.std.proofs.Common.{◌∙◌, sym, ap, subst, arith, ⊎_elim, inl, inr, Ok}
use Rattle.ken_drive.specs.Clauses.{files_of, views_of}
use Rattle.ken_drive.proofs.Giving.{AreGiven, all-given, none-given}
use Rattle.ken_drive.proofs.SavingStations.{SavesSoFar, all-saved, next-kept, next-saved, none-so-far}
use Rattle.ken_drive.proofs.saving.save_run.Goals as goal

pub loop-node-init : goal.loop-node-init
loop-node-init g c =
    let is = c.into_iter-node-iterator.ensures.into_iter_gives in
    let items = ap (λ i. i.b.rest.items) is ∙ c.zip-node-items.ensures.second.0 ∙ ap (λ s. s.items) c.into_stations.ensures in
    let count = ap (λ i. i.a.start) is ∙ ap (λ r. r.start) c.zip-node-items.ensures.first in (
      subst (λ xs. AreGiven (λ s k. Unit {0}) c.args.run.stations.items xs c.into_iter-node-iterator.result.a.start (g.W.World.kept c.args.world.now) (g.W.World.kept c.args.world.now)) (sym items)
          (subst (λ n. AreGiven (λ s k. Unit {0}) c.args.run.stations.items c.args.run.stations.items n (g.W.World.kept c.args.world.now) (g.W.World.kept c.args.world.now)) (sym count)
          (none-given (λ s k. Unit {0}) c.args.run.stations.items (g.W.World.kept c.args.world.now))),
      subst (λ xs. SavesSoFar (views_of g.W.Dev.Disk g.W.Luck.Oracle g.W.Out.Outlet g.W.World.scripted) (files_of g.W.File.Disk g.W.Files.tells) c.args.prefix.now c.args.run.stations.items xs c.into_iter-node-iterator.result.a.start (g.W.World.kept c.args.world.now) (g.W.World.kept c.args.world.now) (g.W.Files.filing c.args.world.now) (g.W.Files.filing c.args.world.now) (Ok tt)) (sym items)
          (subst (λ n. SavesSoFar (views_of g.W.Dev.Disk g.W.Luck.Oracle g.W.Out.Outlet g.W.World.scripted) (files_of g.W.File.Disk g.W.Files.tells) c.args.prefix.now c.args.run.stations.items c.args.run.stations.items n (g.W.World.kept c.args.world.now) (g.W.World.kept c.args.world.now) (g.W.Files.filing c.args.world.now) (g.W.Files.filing c.args.world.now) (Ok tt)) (sym count)
          (none-so-far (views_of g.W.Dev.Disk g.W.Luck.Oracle g.W.Out.Outlet g.W.World.scripted) (files_of g.W.File.Disk g.W.Files.tells) c.args.prefix.now c.args.run.stations.items (g.W.World.kept c.args.world.now) (g.W.Files.filing c.args.world.now))),
    )

pub loop-node-preserved-then-is_ok : goal.loop-node-preserved-then-is_ok
loop-node-preserved-then-is_ok g c =
    let steps = c.in-Some.ensures.steps in
    next-saved (views_of g.W.Dev.Disk g.W.Luck.Oracle g.W.Out.Outlet g.W.World.scripted) (files_of g.W.File.Disk g.W.Files.tells) c.args.prefix.now
    c.args.run.stations.items c.loop-node.node-iterator.b.rest.items c.next.new.self.b.rest.items c.in-Some.station c.loop-node.node-iterator.a.start c.in-Some.node c.next.new.self.a.start
    (g.W.World.kept c.args.world.now) (g.W.World.kept c.loop-node.world) (g.W.World.kept c.save_station-saved.new.world) c.save_station-saved.ensures.others
    (g.W.Files.filing c.args.world.now) (g.W.Files.filing c.loop-node.world) (g.W.Files.filing c.save_station-saved.new.world) c.loop-node.saved
    steps.1.0 steps.0.0 steps.0.1 c.loop-node.invariant.0 c.loop-node.invariant.1 c.save_station-saved.result c.requires (sym c.if-is_ok.ensures.value) c.save_station-saved.ensures.saves

pub loop-node-preserved : goal.loop-node-preserved
loop-node-preserved g c =
    let steps = c.in-Some.ensures.steps in
    next-kept (views_of g.W.Dev.Disk g.W.Luck.Oracle g.W.Out.Outlet g.W.World.scripted) (files_of g.W.File.Disk g.W.Files.tells) c.args.prefix.now
    c.args.run.stations.items c.loop-node.node-iterator.b.rest.items c.next.new.self.b.rest.items c.in-Some.station c.loop-node.node-iterator.a.start c.in-Some.node c.next.new.self.a.start
    (g.W.World.kept c.args.world.now) (g.W.World.kept c.loop-node.world) (g.W.World.kept c.keep_station.new.world) c.keep_station.ensures.others
    (g.W.Files.filing c.args.world.now) (g.W.Files.filing c.loop-node.world) (g.W.Files.filing c.keep_station.new.world) c.loop-node.saved
    steps.1.0 steps.0.0 steps.0.1 c.loop-node.invariant.0 c.loop-node.invariant.1 (sym c.if-is_ok.ensures.value) c.keep_station.ensures.given c.keep_station.ensures.files

pub returns : goal.returns
returns g c =
    let rest = c.loop-node.node-iterator.b.rest in
    all-saved (views_of g.W.Dev.Disk g.W.Luck.Oracle g.W.Out.Outlet g.W.World.scripted) (files_of g.W.File.Disk g.W.Files.tells) c.args.prefix.now
    c.args.run rest.items c.loop-node.node-iterator.a.start (g.W.World.kept c.args.world.now) (g.W.World.kept c.loop-node.world) (g.W.Files.filing c.args.world.now) (g.W.Files.filing c.loop-node.world) c.loop-node.saved
    (all-given (λ s k. Unit {0}) c.args.run.stations.items rest.items c.loop-node.node-iterator.a.start 8 (g.W.World.kept c.args.world.now) (g.W.World.kept c.loop-node.world) c.loop-node.invariant.0 c.requires (omega arith) (⊎_elim (λ full. inl full.1.0) (λ none. inr (sym rest.ok.0 ∙ none.1.0)) c.in-None.ensures.steps))
    c.loop-node.invariant.1
