-- One crew after another.
use Rattle.std.proofs.Common.{◌≡◌, ◌∙◌, length, refl, sym, ap, subst, arith, ⊎_elim}
use Rattle.std.specs.Prelude.{None}
use Rattle.ken_node.specs.contracts.watched.WatchedDisk.TheImpl as watched_disk
use Rattle.ken_work.specs.Meeting.{AreJoined}
use Rattle.ken_rounds.specs.Lending.{HasCome}
use Rattle.ken_rounds.proofs.Taken.{all_taken, longer, none_made, none_taken, one_more_made, one_taken, taken_at, taken_low}
use Rattle.ken_rounds.proofs.lending.bring_all_back.Goals as goal

pub loop-crew-init : goal.loop-crew-init
loop-crew-init g c =
    let empty : length c.args.stations.now.items ≡ 0 = sym c.args.stations.now.ok.0 ∙ c.requires.stations.0 in
    let is = c.into_iter-crew-iterator.ensures.into_iter_gives in
    let zipped = c.zip-crew-items.ensures in
    record {
      crews = none_taken (length c.args.stations.now.items) c.args.crews.items c.into_iter-crew-iterator.result.a.rest.items empty (ap (λ i. i.a.rest.items) is ∙ ap (λ i. i.rest.items) zipped.first ∙ c.into_iter.ensures.rest);
      tallies = none_taken (length c.args.stations.now.items) c.args.tallies.items c.into_iter-crew-iterator.result.b.rest.items empty (ap (λ i. i.b.rest.items) is ∙ zipped.second.0);
      told = sym c.args.faults.now.ok.0 ∙ c.requires.faults.0 ∙ sym empty;
      room = (c.requires.stations.1, c.requires.faults.1);
      come = none_made (HasCome (watched_disk.ghosts g.row.D g.D.Disk g.D.Disk-dict)) (length c.args.stations.now.items) c.args.crews.items c.args.tallies.items c.args.stations.now.items c.args.faults.now.items empty;
    }

pub bring_back-station-requires : goal.bring_back-station-requires
bring_back-station-requires g c =
    let l = c.loop-crew in
    let n = length l.stations.items in
    let all = c.args.crews.items in
    let left = l.crew-iterator.a.rest.items in
    let rest = c.next.new.self.a.rest.items in
    let crew = c.in-Some.crew in
    let first = c.in-Some.ensures.steps.0.0 in
    subst (λ x. AreJoined x.turns x.patches x.sends) (taken_at n all left rest crew l.invariant.crews first crew) (c.requires.joined n crew (taken_low n all left rest crew l.invariant.crews first))

pub push_reserved-requires : goal.push_reserved-requires
push_reserved-requires g c =
    let l = c.loop-crew in
    let low = taken_low (length l.stations.items) c.args.crews.items l.crew-iterator.a.rest.items c.next.new.self.a.rest.items c.in-Some.crew l.invariant.crews c.in-Some.ensures.steps.0.0 in
    omega (arith, low, l.invariant.room.0, l.stations.ok.0)

pub push_reserved-requires-in-loop-crew : goal.push_reserved-requires-in-loop-crew
push_reserved-requires-in-loop-crew g c =
    let l = c.loop-crew in
    let low = taken_low (length l.stations.items) c.args.crews.items l.crew-iterator.a.rest.items c.next.new.self.a.rest.items c.in-Some.crew l.invariant.crews c.in-Some.ensures.steps.0.0 in
    omega (arith, low, l.invariant.room.1, l.invariant.told, l.faults.ok.0)

pub loop-crew-preserved : goal.loop-crew-preserved
loop-crew-preserved g c =
    let l = c.loop-crew in
    let n = length l.stations.items in
    let left = l.crew-iterator in
    let rest = c.next.new.self in
    let first = c.in-Some.ensures.steps.0.0 in
    let second = c.in-Some.ensures.steps.1.0 in
    let station = c.bring_back-station.result.0 in
    let fault = c.bring_back-station.result.1 in
    let stations = c.push_reserved.new.self.items in
    let faults = c.push_reserved-in-loop-crew.new.self.items in
    let more = longer l.stations.items stations station c.push_reserved.ensures.items in
    let told = longer l.faults.items faults fault c.push_reserved-in-loop-crew.ensures.items in
    record {
      crews = one_taken n c.args.crews.items left.a.rest.items rest.a.rest.items c.in-Some.crew l.invariant.crews first (length stations) more;
      tallies = one_taken n c.args.tallies.items left.b.rest.items rest.b.rest.items c.in-Some.tally l.invariant.tallies second (length stations) more;
      told = omega (arith, told, more, l.invariant.told);
      room = (omega (arith, l.invariant.room.0, c.push_reserved.ensures.capacity), omega (arith, l.invariant.room.1, c.push_reserved-in-loop-crew.ensures.capacity));
      come =
          one_more_made (HasCome (watched_disk.ghosts g.row.D g.D.Disk g.D.Disk-dict)) n (length stations) c.args.crews.items c.args.tallies.items l.stations.items stations l.faults.items faults c.in-Some.crew c.in-Some.tally station fault more
          (taken_at n c.args.crews.items left.a.rest.items rest.a.rest.items c.in-Some.crew l.invariant.crews first) (taken_at n c.args.tallies.items left.b.rest.items rest.b.rest.items c.in-Some.tally l.invariant.tallies second)
          c.push_reserved.ensures.items refl c.push_reserved-in-loop-crew.ensures.items l.invariant.told l.invariant.come c.bring_back-station.ensures;
    }

pub returns : goal.returns
returns g c =
    let l = c.loop-crew in
    let n = length l.stations.items in
    let crews = l.crew-iterator.a.rest in
    let tallies = l.crew-iterator.b.rest in
    let all : length c.args.crews.items ≡ n =
    ⊎_elim (λ none. all_taken n c.args.crews.items crews.items l.invariant.crews (sym crews.ok.0 ∙ none.1.0)) (λ none. sym c.requires.tallies ∙ all_taken n c.args.tallies.items tallies.items l.invariant.tallies (sym tallies.ok.0 ∙ none.1.0)) c.in-None.ensures.steps in
    record { count = sym all; told = l.invariant.told ∙ sym all; each = λ v crew tally station low. l.invariant.come v crew tally station None (omega (arith, low, all)) }
