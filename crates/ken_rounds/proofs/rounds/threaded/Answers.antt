-- One round after another.
use Rattle.std.proofs.Common.{◌∙◌, length, refl, sym, arith}
use Rattle.std.proofs.lemmas.Result.{err_from_is_err_and}
use Rattle.ken_run.specs.declared.run.Run.{Run}
use Rattle.ken_run.specs.Clauses.{Drains}
use Rattle.ken_run.proofs.AccountsCalls.{up-has}
use Rattle.ken_rounds.specs.Clauses.{KeepsRest}
use Rattle.ken_rounds.proofs.Growth.{all-grown-then, grown-more, grown-none, grows-then}
use Rattle.ken_rounds.proofs.Heeded.{all-heeded-then, fault-heeded-then, heeded-none}
use Rattle.ken_rounds.proofs.Served.{served-fewer, served-none, served-then}
use Rattle.ken_rounds.proofs.States.{all-added-fewer, all-added-none, all-added-then}
use Rattle.ken_rounds.proofs.rounds.threaded.Goals as goal

rest-then : {D O U A : Type 0} {a b c : Run D O U A} → KeepsRest a b → KeepsRest b c → KeepsRest a c
rest-then one two = record { nodes = two.nodes ∙ one.nodes; app = two.app ∙ one.app; restarts = two.restarts ∙ one.restarts; waiting = two.waiting ∙ one.waiting }

pub loop-round-init : goal.loop-round-init
loop-round-init g c = record {
  leaves = λ game made up whole. up;
  accounts = λ terms game made up whole accounted. accounted;
  refused = λ terms game made up whole are. are;
  quota = λ game made up whole v d low. served-none (λ w. g.D.Disk.faults w.disk) game _;
  growth = λ v d low. grown-none _;
  states = all-added-none (λ w. g.D.Disk.told w.disk) c.args.run.now;
  heeds = λ v d low. heeded-none g.U.Outlet _;
  within = omega arith;
  rest = record { nodes = refl; app = refl; restarts = refl; waiting = refl };
}

pub one_round-requires : goal.one_round-requires
one_round-requires g c =
    let is = c.requires in
    let of_types = c.type_bounds in
    let drains : Drains g.D.Disk g.U.Outlet g.A.App c.loop-round.run =
    record { game = is.game; made = is.made; running = c.loop-round.invariant.leaves is.game is.made is.running is.all; all = is.all } in
    (of_types.send-D, (of_types.send-O, (of_types.send-U, (of_types.sync-R, (of_types.sync-A, (of_types.sync-G, drains))))))

pub loop-round-preserved : goal.loop-round-preserved
loop-round-preserved g c =
    let before = c.loop-round.invariant in
    let one = c.in_ok-one_round.ensures in
    let wide = (before.leaves c.requires.game c.requires.made c.requires.running c.requires.all).stands.width ∙ sym c.requires.running.stands.width in
    record {
      leaves = λ game made up whole. one.leaves game made (before.leaves game made up whole) whole;
      accounts = λ terms game made up whole accounted. one.accounts terms game made (before.leaves game made up whole) whole (before.accounts terms game made up whole accounted);
      refused = λ terms game made up whole are. one.refused terms game made (before.leaves game made up whole) whole (before.refused terms game made up whole are);
      quota = λ game made up whole v d low.
          let mid = before.leaves game made up whole in
          served-then (λ w. g.D.Disk.faults w.disk) game c.loop-round._round _ _ _ (up-has (λ w. g.D.Disk.told w.disk) (λ w. g.D.Disk.size w.disk) game v (mid.nodes v) _ (mid.up v d low))
          (before.quota game made up whole v d low) (one.quota game made (before.leaves game made up whole) whole v d low);
      growth = all-grown-then c.args.run.now c.loop-round.run c.one_round.new.run wide c.loop-round._round before.growth one.growth;
      states = all-added-then (λ w. g.D.Disk.told w.disk) c.loop-round._round c.args.run.now c.loop-round.run c.one_round.new.run before.states one.states;
      heeds = all-heeded-then g.U.Outlet c.args.run.now c.loop-round.run c.one_round.new.run wide before.heeds (length c.args.run.now.stations.items) (omega (arith, wide))
          (λ v d low. one.heeds v d (omega (arith, wide, low)));
      within = let more = c.loop-round-test.true in omega (arith, more);
      rest = rest-then before.rest one.rest;
    }

pub returns-in_err-one_round-clause-leaves : goal.returns-in_err-one_round-clause-leaves
returns-in_err-one_round-clause-leaves g c = λ game made up whole.
    let p = err_from_is_err_and c.from_residual.result c.from_residual.ensures.1 in
    let before = c.loop-round.invariant in
    rw (p.1, p.2) (c.in_err-one_round.ensures.leaves game made (before.leaves game made up whole) whole)

pub returns-in_err-one_round-clause-accounts : goal.returns-in_err-one_round-clause-accounts
returns-in_err-one_round-clause-accounts g c = λ terms game made up whole accounted.
    let p = err_from_is_err_and c.from_residual.result c.from_residual.ensures.1 in
    let before = c.loop-round.invariant in
    rw (p.1, p.2) (c.in_err-one_round.ensures.accounts terms game made (before.leaves game made up whole) whole (before.accounts terms game made up whole accounted))

pub returns-in_err-one_round-clause-refused : goal.returns-in_err-one_round-clause-refused
returns-in_err-one_round-clause-refused g c = λ terms game made up whole are.
    let p = err_from_is_err_and c.from_residual.result c.from_residual.ensures.1 in
    let before = c.loop-round.invariant in
    rw (p.1, p.2) (c.in_err-one_round.ensures.refused terms game made (before.leaves game made up whole) whole (before.refused terms game made up whole are))

pub returns-in_err-one_round-clause-stops : goal.returns-in_err-one_round-clause-stops
returns-in_err-one_round-clause-stops g c = λ terms game made up whole accounted are.
    let p = err_from_is_err_and c.from_residual.result c.from_residual.ensures.1 in
    let before = c.loop-round.invariant in
    rw (p.1, p.2)
    (c.in_err-one_round.ensures.stops terms game made (before.leaves game made up whole) whole (before.accounts terms game made up whole accounted) (before.refused terms game made up whole are))

pub returns-clause-leaves : goal.returns-clause-leaves
returns-clause-leaves g c = c.loop-round.invariant.leaves

pub returns-clause-accounts : goal.returns-clause-accounts
returns-clause-accounts g c = c.loop-round.invariant.accounts

pub returns-clause-refused : goal.returns-clause-refused
returns-clause-refused g c = c.loop-round.invariant.refused

pub returns-in_err-one_round-clause-quota : goal.returns-in_err-one_round-clause-quota
returns-in_err-one_round-clause-quota g c = λ game made up whole.
    let p = err_from_is_err_and c.from_residual.result c.from_residual.ensures.1 in
    rw p.1 tt

pub returns-in_err-one_round-clause-rest : goal.returns-in_err-one_round-clause-rest
returns-in_err-one_round-clause-rest g c = rest-then c.loop-round.invariant.rest c.in_err-one_round.ensures.rest

pub returns-clause-quota : goal.returns-clause-quota
returns-clause-quota g c = λ game made up whole v d low.
    let past = c.loop-round-test.false in
    served-fewer (λ w. g.D.Disk.faults w.disk) game _ _ _ _ (omega (arith, past)) (c.loop-round.invariant.quota game made up whole v d low)

pub returns-clause-rest : goal.returns-clause-rest
returns-clause-rest g c = c.loop-round.invariant.rest

pub returns-in_err-one_round-clause-growth : goal.returns-in_err-one_round-clause-growth
returns-in_err-one_round-clause-growth g c =
    let p = err_from_is_err_and c.from_residual.result c.from_residual.ensures.1 in
    let before = c.loop-round.invariant in
    let wide = (before.leaves c.requires.game c.requires.made c.requires.running c.requires.all).stands.width ∙ sym c.requires.running.stands.width in
    let more = c.loop-round-test.true in
    rw (p.1, p.2) (grows-then c.args.run.now c.loop-round.run c.one_round.new.run wide c.loop-round._round c.args.rounds (omega (arith, more)) before.growth c.in_err-one_round.field-0.0 c.in_err-one_round.ensures.growth)

pub returns-clause-growth : goal.returns-clause-growth
returns-clause-growth g c = λ v d low.
    let within = c.loop-round.invariant.within in
    grown-more _ _ _ _ (omega (arith, within)) (c.loop-round.invariant.growth v d low)

pub returns-in_err-one_round-clause-states : goal.returns-in_err-one_round-clause-states
returns-in_err-one_round-clause-states g c =
    let p = err_from_is_err_and c.from_residual.result c.from_residual.ensures.1 in
    rw p.1 tt

pub returns-clause-states : goal.returns-clause-states
returns-clause-states g c =
    let past = c.loop-round-test.false in
    all-added-fewer (λ w. g.D.Disk.told w.disk) c.args.rounds c.loop-round._round c.args.run.now c.loop-round.run (omega (arith, past)) c.loop-round.invariant.states

pub returns-in_err-one_round-clause-heeds : goal.returns-in_err-one_round-clause-heeds
returns-in_err-one_round-clause-heeds g c =
    let p = err_from_is_err_and c.from_residual.result c.from_residual.ensures.1 in
    let before = c.loop-round.invariant in
    let wide = (before.leaves c.requires.game c.requires.made c.requires.running c.requires.all).stands.width ∙ sym c.requires.running.stands.width in
    rw (p.1, p.2) (fault-heeded-then g.U.Outlet c.args.run.now c.loop-round.run c.one_round.new.run wide before.heeds c.in_err-one_round.field-0.0 c.in_err-one_round.ensures.heeds)

pub returns-clause-heeds : goal.returns-clause-heeds
returns-clause-heeds g c = c.loop-round.invariant.heeds
