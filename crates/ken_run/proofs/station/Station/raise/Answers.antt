-- Restarts until one answers.
use Rattle.std.proofs.Common.{Err, subst, ◌∙◌, arith}
use Rattle.ken_run.specs.Accounts.{AccountsStation}
use Rattle.ken_run.specs.Stations.{RestartsStation}
use Rattle.ken_run.proofs.Counts.{counts-same, raised-kept}
use Rattle.ken_run.proofs.StartingNode.{down-again, down-at-first, held-at-first, may-restart-still, raised}
use Rattle.ken_run.proofs.station.Station.raise.Goals as goal

pub restart-requires-clause-may : goal.restart-requires-clause-may
restart-requires-clause-may g c = may-restart-still (λ w. g.D.Disk.told w.disk) c.args.self.now c.tries.self c.requires c.tries.invariant.0

pub returns-in-Ok-clause-back : goal.returns-in-Ok-clause-back
returns-in-Ok-clause-back g c =
    raised (λ w. g.D.Disk.told w.disk) (λ w. g.D.Disk.size w.disk) c.args.self.now c.tries.self c.restart.new.self c.requires c.tries.invariant.0 c.restart.ensures.emissions c.restart.ensures.rest c.args.most c.tries-test.true c.in-Ok.ensures.back

pub tries-smaller : goal.tries-smaller
tries-smaller g c =
    let more = (down-again (λ w. g.D.Disk.told w.disk) (λ w. g.D.Disk.size w.disk) c.args.self.now c.tries.self c.restart.new.self c.requires c.tries.invariant.0 c.restart.ensures.emissions c.restart.ensures.rest
    (λ game v given n doubt down. subst (λ x. RestartsStation (λ w. g.D.Disk.told w.disk) (λ w. g.D.Disk.size w.disk) (Err x) game v given n doubt c.tries.self c.restart.new.self) c.in-Err-Disk.field-0-is (c.in-Err-Disk.ensures.back game v given n doubt down))).1 in
    let left = c.tries-test.true in
    omega (arith, more, left)

pub tries-init : goal.tries-init
tries-init g c = (
  down-at-first (λ w. g.D.Disk.told w.disk) c.args.self.now,
  held-at-first (λ w. g.D.Disk.told w.disk) (λ w. g.D.Disk.faults w.disk) (λ w. g.D.Disk.fate w.disk) g.O.Oracle.telling c.args.most c.args.self.now,
  counts-same (λ w. g.D.Disk.faults w.disk) c.args.self.now.node.stage,
)

pub returns-in-Ok-clause-accounts : goal.returns-in-Ok-clause-accounts
returns-in-Ok-clause-accounts g c = λ terms game v held few. let left = c.tries-test.true in c.in-Ok.ensures.accounts terms game v (c.tries.invariant.1.held terms game v few held) (omega (arith, left, few))

pub returns-in-Ok-clause-refusals : goal.returns-in-Ok-clause-refusals
returns-in-Ok-clause-refusals g c = c.in-Ok.ensures.refusals

pub returns-in-Err-Damaged-clause-refusals : goal.returns-in-Err-Damaged-clause-refusals
returns-in-Err-Damaged-clause-refusals g c = c.in-Err-Damaged.ensures.refusals ∙ c.tries.invariant.1.refusals

pub returns-in-Err-clause-refusals : goal.returns-in-Err-clause-refusals
returns-in-Err-clause-refusals g c = c.in-Err.ensures.refusals ∙ c.tries.invariant.1.refusals

pub returns-clause-accounts : goal.returns-clause-accounts
returns-clause-accounts g c = λ terms game v held few. c.tries.invariant.1.held terms game v few held

pub returns-clause-refusals : goal.returns-clause-refusals
returns-clause-refusals g c = c.tries.invariant.1.refusals

pub tries-preserved : goal.tries-preserved
tries-preserved g c = (
  (down-again (λ w. g.D.Disk.told w.disk) (λ w. g.D.Disk.size w.disk) c.args.self.now c.tries.self c.restart.new.self c.requires c.tries.invariant.0 c.restart.ensures.emissions c.restart.ensures.rest
      (λ game v given n doubt down. subst (λ x. RestartsStation (λ w. g.D.Disk.told w.disk) (λ w. g.D.Disk.size w.disk) (Err x) game v given n doubt c.tries.self c.restart.new.self) c.in-Err-Disk.field-0-is (c.in-Err-Disk.ensures.back game v given n doubt down))).0,
  record {
    held = λ terms game v few held.
        let left = c.tries-test.true in
        subst (λ x. AccountsStation (λ w. g.D.Disk.told w.disk) (λ w. g.D.Disk.faults w.disk) (λ w. g.D.Disk.fate w.disk) g.O.Oracle.telling terms game (Err x) v c.restart.new.self) c.in-Err-Disk.field-0-is
        (c.in-Err-Disk.ensures.accounts terms game v (c.tries.invariant.1.held terms game v few held) (omega (arith, left, few)));
    refusals = c.in-Err-Disk.ensures.refusals ∙ c.tries.invariant.1.refusals;
  },
  raised-kept (λ w. g.D.Disk.told w.disk) (λ w. g.D.Disk.faults w.disk) c.args.self.now c.tries.self c.restart.new.self c.requires c.tries.invariant.0 c.tries.invariant.2 c.restart.ensures.counts,
)

pub returns-clause-back : goal.returns-clause-back
returns-clause-back g c = λ game v given n doubt down.
    let is = c.tries.invariant.0 in
    (is.down game v given n doubt down, is.lines, c.tries-test.false)

pub returns-in-Err-Damaged-clause-back : goal.returns-in-Err-Damaged-clause-back
returns-in-Err-Damaged-clause-back g c = λ game v given n doubt down.
    subst (λ x. RestartsStation (λ w. g.D.Disk.told w.disk) (λ w. g.D.Disk.size w.disk) (Err x) game v given n doubt c.tries.self c.restart.new.self) c.in-Err-Damaged.field-0-is (c.in-Err-Damaged.ensures.back game v given n doubt (c.tries.invariant.0.down game v given n doubt down))

pub returns-in-Ok-clause-counts : goal.returns-in-Ok-clause-counts
returns-in-Ok-clause-counts g c = raised-kept (λ w. g.D.Disk.told w.disk) (λ w. g.D.Disk.faults w.disk) c.args.self.now c.tries.self c.restart.new.self c.requires c.tries.invariant.0 c.tries.invariant.2 c.restart.ensures.counts

pub returns-in-Err-Damaged-clause-counts : goal.returns-in-Err-Damaged-clause-counts
returns-in-Err-Damaged-clause-counts g c = raised-kept (λ w. g.D.Disk.told w.disk) (λ w. g.D.Disk.faults w.disk) c.args.self.now c.tries.self c.restart.new.self c.requires c.tries.invariant.0 c.tries.invariant.2 c.restart.ensures.counts

pub returns-in-Err-clause-counts : goal.returns-in-Err-clause-counts
returns-in-Err-clause-counts g c = raised-kept (λ w. g.D.Disk.told w.disk) (λ w. g.D.Disk.faults w.disk) c.args.self.now c.tries.self c.restart.new.self c.requires c.tries.invariant.0 c.tries.invariant.2 c.restart.ensures.counts

pub returns-clause-counts : goal.returns-clause-counts
returns-clause-counts g c = c.tries.invariant.2
