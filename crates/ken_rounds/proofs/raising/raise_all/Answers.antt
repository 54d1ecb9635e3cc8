-- One look after another.
use Rattle.std.proofs.Common.{◌<◌, length, slice_set, refl, arith}
use Rattle.ken_rounds.proofs.Risen.{all_counted, looks_end, may_rise, one_more_goes_on, raises_handed_on, rest_as_before}
use Rattle.ken_rounds.proofs.raising.raise_all.Goals as goal

pub loop-node-init : goal.loop-node-init
loop-node-init g c = record { count = refl; before = λ u none low. absurd (omega (arith, low)); after = λ u none above. refl }

pub rise-requires : goal.rise-requires
rise-requires g c =
    let l = c.loop-node in
    let low : l.node < length c.args.stations.now.items = omega (arith, c.loop-node-test.true, c.len-node-end.ensures, c.args.stations.now.ok.0) in
    may_rise c.args.stations.now.items l.stations.items l.node c.from-index.result c.index_mut.result.now c.index_mut.result.now c.from-index.ensures low l.invariant.count l.invariant.after c.index_mut.ensures.value g.D.Disk c.args.faults.now c.requires.may

pub returns-in_err-rise : goal.returns-in_err-rise
returns-in_err-rise g c =
    let l = c.loop-node in
    let low : l.node < length c.args.stations.now.items = omega (arith, c.loop-node-test.true, c.len-node-end.ensures, c.args.stations.now.ok.0) in
    raises_handed_on g.D.Disk g.O.Oracle c.args.most c.args.faults.now c.from_residual.result c.in_err-rise.field-0.0 c.args.stations.now.items (slice_set l.stations.items c.from-index.result c.rise.new.station) c.from_residual.ensures.1
    (looks_end c.args.stations.now.items l.stations.items l.node c.from-index.result c.index_mut.result.now c.rise.new.station c.from-index.ensures low l.invariant.count l.invariant.after c.index_mut.ensures.value g.D.Disk c.args.faults.now g.O.Oracle c.args.most l.invariant.before c.in_err-rise.field-0.0 c.in_err-rise.ensures)

pub loop-node-preserved : goal.loop-node-preserved
loop-node-preserved g c =
    let l = c.loop-node in
    let low : l.node < length c.args.stations.now.items = omega (arith, c.loop-node-test.true, c.len-node-end.ensures, c.args.stations.now.ok.0) in
    record {
      count = all_counted c.args.stations.now.items l.stations.items l.node c.from-index.result c.index_mut.result.now c.rise.new.station c.from-index.ensures low l.invariant.count l.invariant.after c.index_mut.ensures.value;
      before = one_more_goes_on c.args.stations.now.items l.stations.items l.node c.from-index.result c.index_mut.result.now c.rise.new.station c.from-index.ensures low l.invariant.count l.invariant.after c.index_mut.ensures.value g.D.Disk c.args.faults.now g.O.Oracle c.args.most l.invariant.before c.in_ok-rise.ensures;
      after = rest_as_before c.args.stations.now.items l.stations.items l.node c.from-index.result c.index_mut.result.now c.rise.new.station c.from-index.ensures low l.invariant.count l.invariant.after c.index_mut.ensures.value;
    }

pub returns : goal.returns
returns g c =
    let l = c.loop-node in
    let size = c.args.stations.now.ok.0 in
    (l.invariant.count, λ u none low. l.invariant.before u none (omega (arith, low, c.loop-node-test.false, c.len-node-end.ensures, size)))
