-- One node after the other.
use mir.Syntax.{of_param}
use Rattle.std.proofs.Common.{◌∙◌, ℕ, refl, subst, arith}
use Rattle.ken_run.specs.Accounts.{AreAccounted}
use Rattle.ken_run.specs.Refusals.{AreRefused}
use Rattle.ken_drive.specs.Starting.{game_by, terms_of}
use Rattle.ken_drive.proofs.StartingAll.{accounts-filled, all-have-started, born-of, down-at, failed-not-ok, fills-handed-on, memory-fills, next-accounts, none-have-started, next-joins, next-joined, next-failed, own-fails}
use Rattle.ken_run.specs.declared.faults.RunFault.TheVariants.{Memory}
use Rattle.ken_drive.proofs.starting.fill.Goals as goal

pub loop-node-init : goal.loop-node-init
loop-node-init g c = (none-have-started (λ w. g.W.Dev.Disk.told w.disk) (λ w. g.W.Dev.Disk.size w.disk) g.W.Out.Outlet.took g.A.App.handler g.W.World.scripted g.W.Luck.Oracle.telling g.W.Out.Outlet.faults g.W.Out.Outlet.fate (g.A.App.handler c.args.run.now.app) c.args.script.now c.args.run.now c.requires.started c.requires.most, λ v. refl, record { most = c.requires.most; each = λ v d below. absurd (omega (arith, below)) }, record { each = λ v d below. absurd (omega (arith, below)) }, refl)

pub station-requires : goal.station-requires
station-requires g c = (record { owned = c.type_bounds.send-W-Dev.owned; leaving = λ k. c.type_bounds.send-W-Dev.leaving (λ _. k (of_param 1)) }, (record { owned = c.type_bounds.send-W-Luck.owned; leaving = λ k. c.type_bounds.send-W-Luck.leaving (λ _. k (of_param 2)) }, (record { owned = c.type_bounds.send-W-Out.owned; leaving = λ k. c.type_bounds.send-W-Out.leaving (λ _. k (of_param 3)) }, (c.requires.limits, c.loop-node-test.true))))

pub join-requires : goal.join-requires
join-requires g c = record {
  game = game_by (g.A.App.handler c.args.run.now.app) c.args.script.now;
  made = c.loop-node.node;
  joins = (next-joins (λ w. g.W.Dev.Disk.told w.disk) (λ w. g.W.Dev.Disk.size w.disk) g.W.Out.Outlet.took g.A.App.handler g.W.World.scripted g.W.Luck.Oracle.telling g.W.Out.Outlet.faults g.W.Out.Outlet.fate (g.A.App.handler c.args.run.now.app) c.args.script.now c.loop-node.node c.in_ok-station.field-0 c.loop-node.run c.loop-node.invariant.0 c.loop-node-test.true c.in_ok-station.ensures.own c.requires.modest c.in_ok-station.ensures.born);
}

pub loop-node-preserved : goal.loop-node-preserved
loop-node-preserved g c = (
  next-joined (λ w. g.W.Dev.Disk.told w.disk) (λ w. g.W.Dev.Disk.size w.disk) g.W.Out.Outlet.took g.A.App.handler g.W.World.scripted g.W.Luck.Oracle.telling g.W.Out.Outlet.faults g.W.Out.Outlet.fate (g.A.App.handler c.args.run.now.app) c.args.script.now c.loop-node.node c.in_ok-station.field-0 c.loop-node.run c.loop-node.invariant.0 c.loop-node-test.true c.in_ok-station.ensures.own c.join.new.self c.in_ok-join.ensures.most c.in_ok-join.ensures.adds
      (c.in_ok-join.ensures.joins (game_by (g.A.App.handler c.args.run.now.app) c.args.script.now) c.loop-node.node (next-joins (λ w. g.W.Dev.Disk.told w.disk) (λ w. g.W.Dev.Disk.size w.disk) g.W.Out.Outlet.took g.A.App.handler g.W.World.scripted g.W.Luck.Oracle.telling g.W.Out.Outlet.faults g.W.Out.Outlet.fate (g.A.App.handler c.args.run.now.app) c.args.script.now c.loop-node.node c.in_ok-station.field-0 c.loop-node.run c.loop-node.invariant.0 c.loop-node-test.true c.in_ok-station.ensures.own c.requires.modest c.in_ok-station.ensures.born)),
  λ v. c.in_ok-station.ensures.kept v ∙ c.loop-node.invariant.1 v,
  c.in_ok-join.ensures.accounts (terms_of g.W.World.scripted c.args.script.now) (game_by (g.A.App.handler c.args.run.now.app) c.args.script.now) c.loop-node.node (next-joins (λ w. g.W.Dev.Disk.told w.disk) (λ w. g.W.Dev.Disk.size w.disk) g.W.Out.Outlet.took g.A.App.handler g.W.World.scripted g.W.Luck.Oracle.telling g.W.Out.Outlet.faults g.W.Out.Outlet.fate (g.A.App.handler c.args.run.now.app) c.args.script.now c.loop-node.node c.in_ok-station.field-0 c.loop-node.run c.loop-node.invariant.0 c.loop-node-test.true c.in_ok-station.ensures.own c.requires.modest c.in_ok-station.ensures.born) (c.in_ok-station.ensures.fresh (born-of (λ w. g.W.Dev.Disk.told w.disk) (g.A.App.handler c.args.run.now.app) c.args.script.now c.loop-node.node c.in_ok-station.field-0 (next-joins (λ w. g.W.Dev.Disk.told w.disk) (λ w. g.W.Dev.Disk.size w.disk) g.W.Out.Outlet.took g.A.App.handler g.W.World.scripted g.W.Luck.Oracle.telling g.W.Out.Outlet.faults g.W.Out.Outlet.fate (g.A.App.handler c.args.run.now.app) c.args.script.now c.loop-node.node c.in_ok-station.field-0 c.loop-node.run c.loop-node.invariant.0 c.loop-node-test.true c.in_ok-station.ensures.own c.requires.modest c.in_ok-station.ensures.born).born)) c.in_ok-station.ensures.own.oracle c.loop-node.invariant.2,
  c.in_ok-join.ensures.refused (terms_of g.W.World.scripted c.args.script.now) (game_by (g.A.App.handler c.args.run.now.app) c.args.script.now) c.loop-node.node (next-joins (λ w. g.W.Dev.Disk.told w.disk) (λ w. g.W.Dev.Disk.size w.disk) g.W.Out.Outlet.took g.A.App.handler g.W.World.scripted g.W.Luck.Oracle.telling g.W.Out.Outlet.faults g.W.Out.Outlet.fate (g.A.App.handler c.args.run.now.app) c.args.script.now c.loop-node.node c.in_ok-station.field-0 c.loop-node.run c.loop-node.invariant.0 c.loop-node-test.true c.in_ok-station.ensures.own c.requires.modest c.in_ok-station.ensures.born) (own-fails (λ w. g.W.Dev.Disk.told w.disk) (λ w. g.W.Dev.Disk.size w.disk) g.W.Out.Outlet.took g.A.App.handler g.W.World.scripted g.W.Luck.Oracle.telling g.W.Out.Outlet.faults g.W.Out.Outlet.fate (g.A.App.handler c.args.run.now.app) c.args.script.now c.loop-node.node c.in_ok-station.field-0 c.in_ok-station.ensures.own) c.loop-node.invariant.3,
  c.in_ok-station.ensures.files ∙ c.loop-node.invariant.4,
)

pub returns : goal.returns
returns g c = record {
  fills = all-have-started (λ w. g.W.Dev.Disk.told w.disk) (λ w. g.W.Dev.Disk.size w.disk) g.W.Out.Outlet.took g.A.App.handler g.W.World.scripted g.W.Luck.Oracle.telling g.W.Out.Outlet.faults g.W.Out.Outlet.fate (g.A.App.handler c.args.run.now.app) c.args.script.now c.loop-node.node c.loop-node.run c.loop-node.invariant.0 c.loop-node-test.false;
  accounts = subst (λ (k : ℕ). AreAccounted (λ w. g.W.Dev.Disk.told w.disk) (λ w. g.W.Dev.Disk.faults w.disk) (λ w. g.W.Dev.Disk.fate w.disk) g.W.Luck.Oracle.telling (terms_of g.W.World.scripted c.args.script.now) (game_by (g.A.App.handler c.args.run.now.app) c.args.script.now) k c.loop-node.run) (let few = c.loop-node.invariant.0.started.stands.few in let above = c.loop-node-test.false in omega (arith, few, above)) c.loop-node.invariant.2;
  refused = subst (λ (k : ℕ). AreRefused g.W.Out.Outlet.faults g.W.Out.Outlet.fate (terms_of g.W.World.scripted c.args.script.now) k c.loop-node.run) (let few = c.loop-node.invariant.0.started.stands.few in let above = c.loop-node-test.false in omega (arith, few, above)) c.loop-node.invariant.3;
  kept = c.loop-node.invariant.1;
  files = c.loop-node.invariant.4;
}

pub returns-in_err-join : goal.returns-in_err-join
returns-in_err-join g c = record {
  fills =
      fills-handed-on (λ w. g.W.Dev.Disk.told w.disk) (λ w. g.W.Dev.Disk.size w.disk) g.W.Out.Outlet.took g.A.App.handler g.W.World.scripted g.W.Luck.Oracle.telling g.W.Out.Outlet.faults g.W.Out.Outlet.fate (g.A.App.handler c.args.run.now.app) c.args.script.now c.from_residual-in_err-join.result c.in_err-join.field-0.0 c.join.new.self c.from_residual-in_err-join.ensures.1
      (next-failed (λ w. g.W.Dev.Disk.told w.disk) (λ w. g.W.Dev.Disk.size w.disk) g.W.Out.Outlet.took g.A.App.handler g.W.World.scripted g.W.Luck.Oracle.telling g.W.Out.Outlet.faults g.W.Out.Outlet.fate (g.A.App.handler c.args.run.now.app) c.args.script.now c.loop-node.node c.in_ok-station.field-0 c.loop-node.run c.loop-node.invariant.0 c.loop-node-test.true c.in_ok-station.ensures.own c.join.new.self c.in_err-join.field-0.0 c.in_err-join.ensures.adds
      (c.in_err-join.ensures.joins (game_by (g.A.App.handler c.args.run.now.app) c.args.script.now) c.loop-node.node (next-joins (λ w. g.W.Dev.Disk.told w.disk) (λ w. g.W.Dev.Disk.size w.disk) g.W.Out.Outlet.took g.A.App.handler g.W.World.scripted g.W.Luck.Oracle.telling g.W.Out.Outlet.faults g.W.Out.Outlet.fate (g.A.App.handler c.args.run.now.app) c.args.script.now c.loop-node.node c.in_ok-station.field-0 c.loop-node.run c.loop-node.invariant.0 c.loop-node-test.true c.in_ok-station.ensures.own c.requires.modest c.in_ok-station.ensures.born)));
  accounts =
      accounts-filled (λ w. g.W.Dev.Disk.told w.disk) (λ w. g.W.Dev.Disk.faults w.disk) (λ w. g.W.Dev.Disk.fate w.disk) g.W.Luck.Oracle.telling (terms_of g.W.World.scripted c.args.script.now) (game_by (g.A.App.handler c.args.run.now.app) c.args.script.now) c.from_residual-in_err-join.result c.in_err-join.field-0.0 c.join.new.self c.from_residual-in_err-join.ensures.1
      (next-accounts (λ w. g.W.Dev.Disk.told w.disk) (λ w. g.W.Dev.Disk.faults w.disk) (λ w. g.W.Dev.Disk.fate w.disk) g.W.Luck.Oracle.telling (terms_of g.W.World.scripted c.args.script.now) (game_by (g.A.App.handler c.args.run.now.app) c.args.script.now) c.loop-node.node c.join.new.self c.in_err-join.field-0.0
      (down-at (λ w. g.W.Dev.Disk.told w.disk) (λ w. g.W.Dev.Disk.size w.disk) g.W.Out.Outlet.took g.A.App.handler (game_by (g.A.App.handler c.args.run.now.app) c.args.script.now) c.loop-node.node c.join.new.self c.in_err-join.field-0.0 (c.in_err-join.ensures.joins (game_by (g.A.App.handler c.args.run.now.app) c.args.script.now) c.loop-node.node (next-joins (λ w. g.W.Dev.Disk.told w.disk) (λ w. g.W.Dev.Disk.size w.disk) g.W.Out.Outlet.took g.A.App.handler g.W.World.scripted g.W.Luck.Oracle.telling g.W.Out.Outlet.faults g.W.Out.Outlet.fate (g.A.App.handler c.args.run.now.app) c.args.script.now c.loop-node.node c.in_ok-station.field-0 c.loop-node.run c.loop-node.invariant.0 c.loop-node-test.true c.in_ok-station.ensures.own c.requires.modest c.in_ok-station.ensures.born)))
      (c.in_err-join.ensures.accounts (terms_of g.W.World.scripted c.args.script.now) (game_by (g.A.App.handler c.args.run.now.app) c.args.script.now) c.loop-node.node (next-joins (λ w. g.W.Dev.Disk.told w.disk) (λ w. g.W.Dev.Disk.size w.disk) g.W.Out.Outlet.took g.A.App.handler g.W.World.scripted g.W.Luck.Oracle.telling g.W.Out.Outlet.faults g.W.Out.Outlet.fate (g.A.App.handler c.args.run.now.app) c.args.script.now c.loop-node.node c.in_ok-station.field-0 c.loop-node.run c.loop-node.invariant.0 c.loop-node-test.true c.in_ok-station.ensures.own c.requires.modest c.in_ok-station.ensures.born) (c.in_ok-station.ensures.fresh (born-of (λ w. g.W.Dev.Disk.told w.disk) (g.A.App.handler c.args.run.now.app) c.args.script.now c.loop-node.node c.in_ok-station.field-0 (next-joins (λ w. g.W.Dev.Disk.told w.disk) (λ w. g.W.Dev.Disk.size w.disk) g.W.Out.Outlet.took g.A.App.handler g.W.World.scripted g.W.Luck.Oracle.telling g.W.Out.Outlet.faults g.W.Out.Outlet.fate (g.A.App.handler c.args.run.now.app) c.args.script.now c.loop-node.node c.in_ok-station.field-0 c.loop-node.run c.loop-node.invariant.0 c.loop-node-test.true c.in_ok-station.ensures.own c.requires.modest c.in_ok-station.ensures.born).born)) c.in_ok-station.ensures.own.oracle c.loop-node.invariant.2));
  refused = failed-not-ok _ _ c.from_residual-in_err-join.result c.from_residual-in_err-join.ensures.1;
  kept = λ v. c.in_ok-station.ensures.kept v ∙ c.loop-node.invariant.1 v;
  files = c.in_ok-station.ensures.files ∙ c.loop-node.invariant.4;
}

pub returns-in_err-station-clause-fills : goal.returns-in_err-station-clause-fills
returns-in_err-station-clause-fills g c = memory-fills (λ w. g.W.Dev.Disk.told w.disk) (λ w. g.W.Dev.Disk.size w.disk) g.W.Out.Outlet.took g.A.App.handler g.W.World.scripted g.W.Luck.Oracle.telling g.W.Out.Outlet.faults g.W.Out.Outlet.fate (g.A.App.handler c.args.run.now.app) c.args.script.now c.from_residual.result c.loop-node.run c.from_residual.ensures.1

pub returns-in_err-station-clause-kept : goal.returns-in_err-station-clause-kept
returns-in_err-station-clause-kept g c = λ v. c.in_err-station.ensures.kept v ∙ c.loop-node.invariant.1 v

pub returns-in_err-station-clause-files : goal.returns-in_err-station-clause-files
returns-in_err-station-clause-files g c = c.in_err-station.ensures.files ∙ c.loop-node.invariant.4

pub returns-in_err-station-clause-accounts : goal.returns-in_err-station-clause-accounts
returns-in_err-station-clause-accounts g c = accounts-filled (λ w. g.W.Dev.Disk.told w.disk) (λ w. g.W.Dev.Disk.faults w.disk) (λ w. g.W.Dev.Disk.fate w.disk) g.W.Luck.Oracle.telling (terms_of g.W.World.scripted c.args.script.now) (game_by (g.A.App.handler c.args.run.now.app) c.args.script.now) c.from_residual.result Memory c.loop-node.run c.from_residual.ensures.1 tt

pub returns-in_err-station-clause-refused : goal.returns-in_err-station-clause-refused
returns-in_err-station-clause-refused g c = failed-not-ok _ _ c.from_residual.result c.from_residual.ensures.1
