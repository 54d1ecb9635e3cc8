use Rattle.std.proofs.Common.{true, refl, sym, ap, ◌∙◌, arith}
use Rattle.std.specs.BTreeSet.{contains, Updates}
use Rattle.std.proofs.Common.{subst}
use Rattle.ken_script.specs.Lists.{Spot}
use Rattle.ken_script.proofs.Lists.{spot_cmp, had, had_not, too_many, none_here, again_here, walk_on, none_wrong}
use Rattle.ken_script.proofs.mishaps.mishaps_of.Goals as goal

pub returns-then-place-room-clause-wrong : goal.returns-then-place-room-clause-wrong
returns-then-place-room-clause-wrong g c =
    rw c.at.ensures (refl, too_many (g.T.Mishap.said c.args.nodes) g.T.Mishap.spot c.args.room c.args.items.now c.loop-place.spots c.loop-place.place c.loop-place.mishaps.items c.loop-place.invariant c.loop-place-test.true c.if-place-room.true)

pub returns-in_default-clause-wrong : goal.returns-in_default-clause-wrong
returns-in_default-clause-wrong g c =
    rw c.at-in_default.ensures (refl, none_here (g.T.Mishap.said c.args.nodes) g.T.Mishap.spot c.args.room c.args.items.now c.loop-place.spots c.loop-place.place c.loop-place.mishaps.items c.loop-place.invariant c.index-items-place.result c.loop-place-test.true c.index-items-place.is (omega arith) (sym c.in_default.ensures))

pub returns-then-not-fresh-clause-wrong : goal.returns-then-not-fresh-clause-wrong
returns-then-not-fresh-clause-wrong g c =
    let again = ap (contains spot_cmp c.loop-place.spots) (sym c.spot.ensures) ∙ had (contains spot_cmp c.loop-place.spots c.spot.result) c.in_ok-fresh.fresh c.in_ok-fresh.ensures.added c.if-not-fresh.true in
    rw c.at-then-not-fresh.ensures (refl, again_here (g.T.Mishap.said c.args.nodes) g.T.Mishap.spot c.args.room c.args.items.now c.loop-place.spots c.loop-place.place c.loop-place.mishaps.items c.loop-place.invariant c.index-items-place.result c.loop-place-test.true c.index-items-place.is c.in-Some.mishap c.in-Some.ensures (omega arith) again)

pub loop-place-preserved : goal.loop-place-preserved
loop-place-preserved g c =
    let fresh = ap (contains spot_cmp c.loop-place.spots) (sym c.spot.ensures) ∙ had_not (contains spot_cmp c.loop-place.spots c.spot.result) c.in_ok-fresh.fresh c.in_ok-fresh.ensures.added c.if-not-fresh.false in
    let updates = subst (λ (s : Spot). Updates spot_cmp c.loop-place.spots c.insert.new.self s true) c.spot.ensures c.in_ok-fresh.ensures.updates in
    rw c.in_ok-push.ensures.items (walk_on (g.T.Mishap.said c.args.nodes) g.T.Mishap.spot c.args.room c.args.items.now c.loop-place.spots c.loop-place.place c.loop-place.mishaps.items c.loop-place.invariant c.index-items-place.result c.loop-place-test.true c.index-items-place.is c.in-Some.mishap c.in-Some.ensures c.insert.new.self (omega arith) fresh updates)

pub returns-clause-right : goal.returns-clause-right
returns-clause-right g c =
    none_wrong (g.T.Mishap.said c.args.nodes) g.T.Mishap.spot c.args.room c.args.items.now c.loop-place.spots c.loop-place.place c.loop-place.mishaps.items c.loop-place.invariant (omega arith)
