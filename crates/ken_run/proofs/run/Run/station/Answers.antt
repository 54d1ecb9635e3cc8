-- A node of a run, whichever node stands in for one that isn't there.
use Rattle.std.proofs.Common.{◌∙◌, slice_index_or, sym, ap}
use Rattle.std.proofs.lemmas.List.{get_or_default}
use Rattle.ken_run.proofs.run.Run.station.Goals as goal

pub returns : goal.returns
returns g c = λ d.
    get_or_default c.args.self.now.stations.items c.args.node d c.index.result.now c.requires
    ∙ sym (c.index.ensures ∙ ap (λ k. slice_index_or c.args.self.now.stations.items k c.index.result.now) c.from.ensures)
