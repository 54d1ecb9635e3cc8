use Rattle.std.proofs.Common.{Ok, Err}
use Rattle.std.proofs.lemmas.Result.{err_from_is_err_and}
use Rattle.ken_drive.specs.Clauses.{views_of}
use Rattle.ken_soak.proofs.Answered.{has_run, its_rounds, no_script, not_run, not_summed, summed}
use Rattle.ken_soak.proofs.soaking.soak.Goals as goal

pub summed_up-requires : goal.summed_up-requires
summed_up-requires g c = (c.args.nodes, has_run (views_of g.W.Dev.Disk g.W.Luck.Oracle g.W.Out.Outlet g.W.World.scripted) (g.W.World.kept c.drive_kind.new.world) c.args.seed c.args.nodes c.args.inputs c.args.rounds c.in_ok-script.script c.in_ok-script.ensures.made c.requires.some c.requires.few_nodes c.requires.few_inputs c.in_ok-lines.lines (its_rounds (views_of g.W.Dev.Disk g.W.Luck.Oracle g.W.Out.Outlet g.W.World.scripted) (g.W.World.kept c.drive_kind.new.world) c.args.seed c.args.nodes c.args.inputs c.args.rounds c.in_ok-script.script c.in_ok-script.ensures.made (Ok c.in_ok-lines.lines) c.in_ok-lines.ensures.drives))

pub returns-clause-soaks : goal.returns-clause-soaks
returns-clause-soaks g c = summed (views_of g.W.Dev.Disk g.W.Luck.Oracle g.W.Out.Outlet g.W.World.scripted) (g.W.World.kept c.drive_kind.new.world) c.args.seed c.args.nodes c.args.inputs c.args.rounds c.in_ok-script.script c.in_ok-script.ensures.made c.requires.some c.requires.few_nodes c.requires.few_inputs c.in_ok-lines.lines (its_rounds (views_of g.W.Dev.Disk g.W.Luck.Oracle g.W.Out.Outlet g.W.World.scripted) (g.W.World.kept c.drive_kind.new.world) c.args.seed c.args.nodes c.args.inputs c.args.rounds c.in_ok-script.script c.in_ok-script.ensures.made (Ok c.in_ok-lines.lines) c.in_ok-lines.ensures.drives) c.in_ok-summed_up.field-0 (c.in_ok-summed_up.ensures c.args.nodes (has_run (views_of g.W.Dev.Disk g.W.Luck.Oracle g.W.Out.Outlet g.W.World.scripted) (g.W.World.kept c.drive_kind.new.world) c.args.seed c.args.nodes c.args.inputs c.args.rounds c.in_ok-script.script c.in_ok-script.ensures.made c.requires.some c.requires.few_nodes c.requires.few_inputs c.in_ok-lines.lines (its_rounds (views_of g.W.Dev.Disk g.W.Luck.Oracle g.W.Out.Outlet g.W.World.scripted) (g.W.World.kept c.drive_kind.new.world) c.args.seed c.args.nodes c.args.inputs c.args.rounds c.in_ok-script.script c.in_ok-script.ensures.made (Ok c.in_ok-lines.lines) c.in_ok-lines.ensures.drives)))

pub returns-in_err-script-clause-soaks : goal.returns-in_err-script-clause-soaks
returns-in_err-script-clause-soaks g c =
    let p = err_from_is_err_and c.from_residual.result c.from_residual.ensures.1 in
    rw (p.1, p.2) (no_script (views_of g.W.Dev.Disk g.W.Luck.Oracle g.W.Out.Outlet g.W.World.scripted) (g.W.World.kept c.args.world.now) c.args.seed c.args.nodes c.args.inputs c.args.rounds c.requires.none)

pub returns-in_err-lines-clause-soaks : goal.returns-in_err-lines-clause-soaks
returns-in_err-lines-clause-soaks g c =
    let p = err_from_is_err_and c.from_residual-in_err-lines.result c.from_residual-in_err-lines.ensures.1 in
    rw (p.1, p.2) (not_run (views_of g.W.Dev.Disk g.W.Luck.Oracle g.W.Out.Outlet g.W.World.scripted) (g.W.World.kept c.drive_kind.new.world) c.args.seed c.args.nodes c.args.inputs c.args.rounds c.in_ok-script.script c.in_ok-script.ensures.made c.in_err-lines.field-0.0 (its_rounds (views_of g.W.Dev.Disk g.W.Luck.Oracle g.W.Out.Outlet g.W.World.scripted) (g.W.World.kept c.drive_kind.new.world) c.args.seed c.args.nodes c.args.inputs c.args.rounds c.in_ok-script.script c.in_ok-script.ensures.made (Err c.in_err-lines.field-0.0) c.in_err-lines.ensures.drives))

-- memory may be short once the run has ended
pub returns-in_err-summed_up-clause-soaks : goal.returns-in_err-summed_up-clause-soaks
returns-in_err-summed_up-clause-soaks g c =
    let p = err_from_is_err_and c.from_residual-in_err-summed_up.result c.from_residual-in_err-summed_up.ensures.1 in
    rw (p.1, p.2) (not_summed (views_of g.W.Dev.Disk g.W.Luck.Oracle g.W.Out.Outlet g.W.World.scripted) (g.W.World.kept c.drive_kind.new.world) c.args.seed c.args.nodes c.args.inputs c.args.rounds c.in_ok-script.script c.in_ok-script.ensures.made c.requires.some c.requires.few_nodes c.requires.few_inputs c.in_ok-lines.lines (its_rounds (views_of g.W.Dev.Disk g.W.Luck.Oracle g.W.Out.Outlet g.W.World.scripted) (g.W.World.kept c.drive_kind.new.world) c.args.seed c.args.nodes c.args.inputs c.args.rounds c.in_ok-script.script c.in_ok-script.ensures.made (Ok c.in_ok-lines.lines) c.in_ok-lines.ensures.drives))
