-- A node of a run.
use Rattle.std.proofs.Common.{◌≡◌, ◌∙◌, slice_index_or, sym, ap}
use Rattle.ken_model.specs.Emissions.{emitted_by}
use Rattle.ken_node.specs.Stages.{emissions_in}
use Rattle.ken_run.proofs.AtEnd.{last-of-node, up-created}
use Rattle.ken_run.proofs.Leaving.{up-before}
use Rattle.ken_run.proofs.run.Run.node_at.Goals as goal

pub returns-clause-up : goal.returns-clause-up
returns-clause-up g c = λ game made running low.
    let is : slice_index_or c.args.self.now.stations.items c.args.node c.index.result.now ≡ c.index.result.now = sym (c.index.ensures ∙ ap (λ k. slice_index_or c.args.self.now.stations.items k c.index.result.now) c.from.ensures) in
    up-before (λ w. g.D.Disk.told w.disk) (λ w. g.D.Disk.size w.disk) g.U.Outlet.took g.A.App.handler game made c.args.self.now c.args.node c.index.result.now running low is

pub returns-clause-created : goal.returns-clause-created
returns-clause-created g c =
    let may = c.requires in
    let is : slice_index_or c.args.self.now.stations.items c.args.node c.index.result.now ≡ c.index.result.now = sym (c.index.ensures ∙ ap (λ k. slice_index_or c.args.self.now.stations.items k c.index.result.now) c.from.ensures) in
    up-created (λ w. g.D.Disk.told w.disk) (λ w. g.D.Disk.size w.disk) may.game c.args.node (may.running.nodes c.args.node) c.index.result.now.node.stage (up-before (λ w. g.D.Disk.told w.disk) (λ w. g.D.Disk.size w.disk) g.U.Outlet.took g.A.App.handler may.game may.made c.args.self.now c.args.node c.index.result.now may.running may.known is)

pub returns-clause-emitted : goal.returns-clause-emitted
returns-clause-emitted g c = λ game made running low.
    let is : slice_index_or c.args.self.now.stations.items c.args.node c.index.result.now ≡ c.index.result.now = sym (c.index.ensures ∙ ap (λ k. slice_index_or c.args.self.now.stations.items k c.index.result.now) c.from.ensures) in
    last-of-node c.args.node (emitted_by c.args.node running.emissions) (emissions_in c.index.result.now.node.stage)
    (sym (ap (λ s. emissions_in s.node.stage) is) ∙ (running.stands.each c.args.node c.index.result.now low).emitted.kept)
