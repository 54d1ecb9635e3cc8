-- How often a node was restarted.
use Rattle.std.proofs.Common.{◌∙◌, slice_index_or, sym, ap}
use Rattle.ken_run.proofs.Leaving.{tries-is}
use Rattle.ken_run.proofs.run.Run.tries.Goals as goal

pub returns : goal.returns
returns g c =
    sym (tries-is c.args.self.now.stations.items c.args.node c.index.result.now c.requires
    ∙ ap (λ x. x.restarts) (sym (c.index.ensures ∙ ap (λ k. slice_index_or c.args.self.now.stations.items k c.index.result.now) c.from.ensures)))
