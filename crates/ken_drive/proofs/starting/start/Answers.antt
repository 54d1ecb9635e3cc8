-- All nodes have started, or what was made is given back.
use Rattle.std.proofs.Common.{◌∙◌, Ok, Err, arith, subst, sym}
use Rattle.ken_run.specs.declared.faults.RunFault.TheVariants.{Down}
use Rattle.ken_drive.specs.Starting.{FillsAccountsBy, FillsBy, StartsAccountsBy, StartsBy, game_by, terms_of}
use Rattle.ken_run.specs.Creating.{IsStarted}
use Rattle.ken_drive.proofs.StartingAll.{failed-not-ok, given-back, kept-down, kept-no-other, memory-started, memory-starts}
use Rattle.ken_drive.proofs.starting.start.Goals as goal

pub fill-requires : goal.fill-requires
fill-requires g c =
    let started = subst (λ h. IsStarted (λ w. g.W.Dev.Disk.told w.disk) (λ w. g.W.Dev.Disk.size w.disk) g.W.Out.Outlet.took g.A.App.handler (game_by h c.args.script.now) 0 c.in_ok-run.run') (sym c.in_ok-run.ensures.started.stands.handler) c.in_ok-run.ensures.started in
    (c.type_bounds.send-W-Dev, (c.type_bounds.send-W-Luck, (c.type_bounds.send-W-Out, (c.requires.limits, (c.requires.modest, (started, c.in_ok-run.ensures.most))))))

pub finish-requires : goal.finish-requires
finish-requires g c =
    let failed = subst (λ x. FillsBy (λ w. g.W.Dev.Disk.told w.disk) (λ w. g.W.Dev.Disk.size w.disk) g.W.Out.Outlet.took g.A.App.handler g.W.World.scripted g.W.Luck.Oracle.telling g.W.Out.Outlet.faults g.W.Out.Outlet.fate (g.A.App.handler c.in_ok-run.run'.app) c.args.script.now (Err x) c.fill.new.run) c.in-Err-Down.field-0-is c.in-Err-Down.ensures.fills in
    let width = failed.width in
    let known = failed.known in
    let few = c.requires.limits.few_nodes in
    (c.type_bounds.send-W-Dev, (c.type_bounds.send-W-Luck, (c.type_bounds.send-W-Out, omega (arith, width, known, few))))

pub returns-in-Ok : goal.returns-in-Ok
returns-in-Ok g c = record {
  starts = subst (λ h. StartsBy (λ w. g.W.Dev.Disk.told w.disk) (λ w. g.W.Dev.Disk.size w.disk) g.W.Out.Outlet.took g.A.App.handler g.W.World.scripted g.W.Luck.Oracle.telling g.W.Out.Outlet.faults g.W.Out.Outlet.fate h c.args.script.now (Ok c.fill.new.run) (g.W.World.kept c.fill.new.world)) c.in_ok-run.ensures.started.stands.handler (c.in-Ok.ensures.fills, λ v. c.in-Ok.ensures.kept v ∙ c.requires.none v);
  accounts = subst (λ h. StartsAccountsBy (λ w. g.W.Dev.Disk.told w.disk) (λ w. g.W.Dev.Disk.faults w.disk) (λ w. g.W.Dev.Disk.fate w.disk) g.W.Luck.Oracle.telling (terms_of g.W.World.scripted c.args.script.now) (game_by h c.args.script.now) (Ok c.fill.new.run) (g.W.World.kept c.fill.new.world)) c.in_ok-run.ensures.started.stands.handler c.in-Ok.ensures.accounts;
  refused = c.in-Ok.ensures.refused;
  files = c.in-Ok.ensures.files;
}

pub returns-in-Err-Down-clause-starts : goal.returns-in-Err-Down-clause-starts
returns-in-Err-Down-clause-starts g c =
    let failed = subst (λ x. FillsBy (λ w. g.W.Dev.Disk.told w.disk) (λ w. g.W.Dev.Disk.size w.disk) g.W.Out.Outlet.took g.A.App.handler g.W.World.scripted g.W.Luck.Oracle.telling g.W.Out.Outlet.faults g.W.Out.Outlet.fate (g.A.App.handler c.in_ok-run.run'.app) c.args.script.now (Err x) c.fill.new.run) c.in-Err-Down.field-0-is c.in-Err-Down.ensures.fills in
    subst (λ h. StartsBy (λ w. g.W.Dev.Disk.told w.disk) (λ w. g.W.Dev.Disk.size w.disk) g.W.Out.Outlet.took g.A.App.handler g.W.World.scripted g.W.Luck.Oracle.telling g.W.Out.Outlet.faults g.W.Out.Outlet.fate h c.args.script.now (Err (Down c.in-Err-Down.node)) (g.W.World.kept c.finish.new.world)) c.in_ok-run.ensures.started.stands.handler
    (failed.known, given-back (λ w. g.W.Dev.Disk.told w.disk) (λ w. g.W.Dev.Disk.size w.disk) g.W.Out.Outlet.took g.A.App.handler g.W.World.scripted g.W.Luck.Oracle.telling g.W.Out.Outlet.faults g.W.Out.Outlet.fate (g.A.App.handler c.in_ok-run.run'.app) c.args.script.now c.in-Err-Down.node c.fill.new.run failed (g.W.World.kept c.args.world.now) (g.W.World.kept c.fill.new.world) (g.W.World.kept c.finish.new.world) c.requires.none c.in-Err-Down.ensures.kept c.finish.ensures.given c.finish.ensures.others, kept-no-other (λ w. g.W.Dev.Disk.told w.disk) (λ w. g.W.Dev.Disk.size w.disk) g.W.Out.Outlet.took g.A.App.handler g.W.World.scripted g.W.Luck.Oracle.telling g.W.Out.Outlet.faults g.W.Out.Outlet.fate (g.A.App.handler c.in_ok-run.run'.app) c.args.script.now c.in-Err-Down.node c.fill.new.run failed (g.W.World.kept c.args.world.now) (g.W.World.kept c.fill.new.world) (g.W.World.kept c.finish.new.world) c.requires.none c.in-Err-Down.ensures.kept c.finish.ensures.given c.finish.ensures.others)

pub returns-in-Err-Memory-clause-starts : goal.returns-in-Err-Memory-clause-starts
returns-in-Err-Memory-clause-starts g c = λ v. c.in-Err-Memory.ensures.kept v ∙ c.requires.none v

pub returns-in_err-run-clause-starts : goal.returns-in_err-run-clause-starts
returns-in_err-run-clause-starts g c = memory-starts (λ w. g.W.Dev.Disk.told w.disk) (λ w. g.W.Dev.Disk.size w.disk) g.W.Out.Outlet.took g.A.App.handler g.W.World.scripted g.W.Luck.Oracle.telling g.W.Out.Outlet.faults g.W.Out.Outlet.fate (g.A.App.handler c.args.app) c.args.script.now c.from_residual.result (g.W.World.kept c.args.world.now) c.from_residual.ensures.1 c.requires.none

pub returns-in_err-run-clause-accounts : goal.returns-in_err-run-clause-accounts
returns-in_err-run-clause-accounts g c = memory-started (λ w. g.W.Dev.Disk.told w.disk) (λ w. g.W.Dev.Disk.faults w.disk) (λ w. g.W.Dev.Disk.fate w.disk) g.W.Luck.Oracle.telling (terms_of g.W.World.scripted c.args.script.now) (game_by (g.A.App.handler c.args.app) c.args.script.now) c.from_residual.result (g.W.World.kept c.args.world.now) c.from_residual.ensures.1

pub returns-in_err-run-clause-refused : goal.returns-in_err-run-clause-refused
returns-in_err-run-clause-refused g c = failed-not-ok _ _ c.from_residual.result c.from_residual.ensures.1

pub returns-in-Err-Down-clause-accounts : goal.returns-in-Err-Down-clause-accounts
returns-in-Err-Down-clause-accounts g c =
    let failed = subst (λ x. FillsBy (λ w. g.W.Dev.Disk.told w.disk) (λ w. g.W.Dev.Disk.size w.disk) g.W.Out.Outlet.took g.A.App.handler g.W.World.scripted g.W.Luck.Oracle.telling g.W.Out.Outlet.faults g.W.Out.Outlet.fate (g.A.App.handler c.in_ok-run.run'.app) c.args.script.now (Err x) c.fill.new.run) c.in-Err-Down.field-0-is c.in-Err-Down.ensures.fills in
    let accounts = subst (λ x. FillsAccountsBy (λ w. g.W.Dev.Disk.told w.disk) (λ w. g.W.Dev.Disk.faults w.disk) (λ w. g.W.Dev.Disk.fate w.disk) g.W.Luck.Oracle.telling (terms_of g.W.World.scripted c.args.script.now) (game_by (g.A.App.handler c.in_ok-run.run'.app) c.args.script.now) (Err x) c.fill.new.run) c.in-Err-Down.field-0-is c.in-Err-Down.ensures.accounts in
    let width = failed.width in
    subst (λ h. StartsAccountsBy (λ w. g.W.Dev.Disk.told w.disk) (λ w. g.W.Dev.Disk.faults w.disk) (λ w. g.W.Dev.Disk.fate w.disk) g.W.Luck.Oracle.telling (terms_of g.W.World.scripted c.args.script.now) (game_by h c.args.script.now) {A = g.row.A.Denot} (Err (Down c.in-Err-Down.node)) (g.W.World.kept c.finish.new.world)) c.in_ok-run.ensures.started.stands.handler
    (kept-down (λ w. g.W.Dev.Disk.told w.disk) (λ w. g.W.Dev.Disk.faults w.disk) (λ w. g.W.Dev.Disk.fate w.disk) g.W.Luck.Oracle.telling (terms_of g.W.World.scripted c.args.script.now) (game_by (g.A.App.handler c.in_ok-run.run'.app) c.args.script.now) c.in-Err-Down.node c.fill.new.run (g.W.World.kept c.finish.new.world) accounts (omega (arith, width)) c.finish.ensures.given)

pub finish-requires-in-Err-Damaged : goal.finish-requires-in-Err-Damaged
finish-requires-in-Err-Damaged g c = absurd (subst (λ x. FillsBy (λ w. g.W.Dev.Disk.told w.disk) (λ w. g.W.Dev.Disk.size w.disk) g.W.Out.Outlet.took g.A.App.handler g.W.World.scripted g.W.Luck.Oracle.telling g.W.Out.Outlet.faults g.W.Out.Outlet.fate (g.A.App.handler c.in_ok-run.run'.app) c.args.script.now (Err x) c.fill.new.run) c.in-Err-Damaged.field-0-is c.in-Err-Damaged.ensures.fills)

pub returns-in-Err-Damaged-clause-starts : goal.returns-in-Err-Damaged-clause-starts
returns-in-Err-Damaged-clause-starts g c = subst (λ x. FillsBy (λ w. g.W.Dev.Disk.told w.disk) (λ w. g.W.Dev.Disk.size w.disk) g.W.Out.Outlet.took g.A.App.handler g.W.World.scripted g.W.Luck.Oracle.telling g.W.Out.Outlet.faults g.W.Out.Outlet.fate (g.A.App.handler c.in_ok-run.run'.app) c.args.script.now (Err x) c.fill.new.run) c.in-Err-Damaged.field-0-is c.in-Err-Damaged.ensures.fills
