-- A run that has started may go on.
use Rattle.std.proofs.Common.{refl}
use Rattle.ken_model.specs.Kinds.{handler_of}
use Rattle.ken_drive.specs.Starting.{game_by}
use Rattle.ken_run.specs.Creating.{running_of}
use Rattle.ken_rounds_tests.proofs.runs.started.Goals as goal

pub returns : goal.returns
returns c =
    let script = c.in_ok-script.script in
    record { game = game_by (handler_of script.facts.kind) script; made = script.facts.nodes; running = running_of _ _ _ _ _ _ _ c.in_ok-start.ensures.starts.0.started; all = refl }
