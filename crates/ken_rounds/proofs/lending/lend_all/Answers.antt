-- One crew after another.
use Rattle.std.proofs.Common.{◌≡◌, ◌∙◌, length, refl, sym, subst, arith}
use Rattle.std.specs.Vec.Iter.{into_iter_items}
use Rattle.ken_node.specs.Stages.{IsCreated}
use Rattle.ken_rounds.specs.Lending.{IsTallied, KeepOwn}
use Rattle.ken_rounds.specs.Manned.{IsMannedBy}
use Rattle.ken_rounds.proofs.Taken.{all_taken, longer, none_made, none_taken, one_more_made, one_taken, taken_at, taken_low}
use Rattle.ken_rounds.proofs.lending.lend_all.Goals as goal

pub loop-station-init : goal.loop-station-init
loop-station-init g c =
    let empty : length c.args.crews.now.items ≡ 0 = sym c.args.crews.now.ok.0 ∙ c.requires.crews.0 in
    record {
      stations = none_taken (length c.args.crews.now.items) c.args.stations.items (into_iter_items c.into_iter-station-iterator.result) empty c.into_iter-station-iterator.ensures.into_iter_gives.0;
      tallied = sym c.args.tallies.now.ok.0 ∙ c.requires.tallies.0 ∙ sym empty;
      room = (c.requires.crews.1, c.requires.tallies.1);
      lent = none_made (λ s _ c t. IsMannedBy c s × IsTallied t s × KeepOwn s) (length c.args.crews.now.items) c.args.stations.items c.args.stations.items c.args.crews.now.items c.args.tallies.now.items empty;
    }

pub lend-crew-requires : goal.lend-crew-requires
lend-crew-requires g c =
    let l = c.loop-station in
    let n = length l.crews.items in
    let all = c.args.stations.items in
    let left = into_iter_items l.station-iterator in
    let rest = into_iter_items c.next.new.self in
    let first = c.in-Some.ensures.steps.0 in
    subst (λ s. IsCreated s.node.stage) (taken_at n all left rest c.in-Some.station l.invariant.stations first c.in-Some.station)
    (c.requires.created n c.in-Some.station (taken_low n all left rest c.in-Some.station l.invariant.stations first))

pub push_reserved-requires : goal.push_reserved-requires
push_reserved-requires g c =
    let l = c.loop-station in
    let low = taken_low (length l.crews.items) c.args.stations.items (into_iter_items l.station-iterator) (into_iter_items c.next.new.self) c.in-Some.station l.invariant.stations c.in-Some.ensures.steps.0 in
    omega (arith, low, l.invariant.room.0, l.crews.ok.0)

pub push_reserved-requires-in-loop-station : goal.push_reserved-requires-in-loop-station
push_reserved-requires-in-loop-station g c =
    let l = c.loop-station in
    let low = taken_low (length l.crews.items) c.args.stations.items (into_iter_items l.station-iterator) (into_iter_items c.next.new.self) c.in-Some.station l.invariant.stations c.in-Some.ensures.steps.0 in
    omega (arith, low, l.invariant.room.1, l.invariant.tallied, l.tallies.ok.0)

pub loop-station-preserved : goal.loop-station-preserved
loop-station-preserved g c =
    let l = c.loop-station in
    let n = length l.crews.items in
    let all = c.args.stations.items in
    let left = into_iter_items l.station-iterator in
    let rest = into_iter_items c.next.new.self in
    let first = c.in-Some.ensures.steps.0 in
    let station = c.in-Some.station in
    let crew = c.lend-crew.result.0 in
    let tally = c.lend-crew.result.1 in
    let crews = c.push_reserved.new.self.items in
    let tallies = c.push_reserved-in-loop-station.new.self.items in
    let more = longer l.crews.items crews crew c.push_reserved.ensures.items in
    let tallied = longer l.tallies.items tallies tally c.push_reserved-in-loop-station.ensures.items in
    let at = taken_at n all left rest station l.invariant.stations first in
    record {
      stations = one_taken n all left rest station l.invariant.stations first (length crews) more;
      tallied = omega (arith, tallied, more, l.invariant.tallied);
      room = (omega (arith, l.invariant.room.0, c.push_reserved.ensures.capacity), omega (arith, l.invariant.room.1, c.push_reserved-in-loop-station.ensures.capacity));
      lent =
          one_more_made (λ s _ c t. IsMannedBy c s × IsTallied t s × KeepOwn s) n (length crews) all all l.crews.items crews l.tallies.items tallies station station crew tally more
          at at c.push_reserved.ensures.items refl c.push_reserved-in-loop-station.ensures.items l.invariant.tallied l.invariant.lent (c.lend-crew.ensures.crew, c.lend-crew.ensures.tally, c.lend-crew.ensures.own);
    }

pub returns : goal.returns
returns g c =
    let l = c.loop-station in
    let left = l.station-iterator.rest in
    let all = all_taken (length l.crews.items) c.args.stations.items left.items l.invariant.stations (sym left.ok.0 ∙ c.in-None.ensures.steps.0) in
    record { count = sym all; tallied = l.invariant.tallied ∙ sym all; each = λ v station crew tally low. l.invariant.lent v station station crew tally (omega (arith, low, all)) }
