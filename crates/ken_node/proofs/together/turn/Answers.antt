use Rattle.std.proofs.Common.{sym, subst}
use Rattle.ken_store.specs.declared.disks.Disks.{Disks}
use Rattle.ken_node.specs.NodeCalls.{UnlessMemory}
use Rattle.ken_node.specs.Synced.{LeavesSynced}
use Rattle.ken_node.proofs.TurnSynced.{taken-synced_by}
use Rattle.ken_node.proofs.TurnSteps.{handled-by, handled-disks-by, joined-handler}
use Rattle.ken_node.proofs.Up.{are-up, handler-is, met-disks, met-fronts}
use Rattle.ken_node.proofs.together.turn.Goals as goal

pub meet-requires : goal.meet-requires
meet-requires g c =
    let takes = c.requires in
    let up = are-up g.D.Disk.told g.D.Disk.size takes.game (g.N.Net.node c.args.net.now) takes.stands_for c.args.turns.now c.args.patches.now c.args.sends.now takes.up in
    joined-handler c.args.turns.now c.turn_once-answer.new.self c.args.patches.now c.args.sends.now up.whole.workers.joined c.turn_once-answer.ensures.same

pub returns-clause-steps : goal.returns-clause-steps
returns-clause-steps g c = λ game v n was of_run.
    let up = are-up g.D.Disk.told g.D.Disk.size game v n c.args.turns.now c.args.patches.now c.args.sends.now was in
    let taken = c.turn_once-answer.ensures in
    let met = c.in_ok-meet.ensures in
    handled-by g.D.Disk.told g.D.Disk.size g.D.Disk.faults g.D.Disk.fate g.O.Oracle.telling.clocks g.O.Oracle.telling.words g.N.Net.given_between g.N.Net.put_between game v n c.args.turns.now taken.takes.0 c.turn_once-answer.new.self c.meet.new.turns c.args.patches.now c.meet.new.patches
    c.args.sends.now c.meet.new.sends up met.met met.joined met.sends met.ok taken.same taken.takes.1 c.args.oracle.now c.turn_once-answer.new.oracle c.args.net.now c.turn_once-answer.new.net _ _ (g.A.App.handler c.args.app.now) of_run was.handler
    (handler-is g.D.Disk.told g.D.Disk.size game v n c.args.turns.now c.args.patches.now c.args.sends.now was) c.turn_once-answer.result taken.takes.2

pub returns-clause-disks : goal.returns-clause-disks
returns-clause-disks g c =
    let requires = c.requires in
    let game = requires.game in
    let v = g.N.Net.node c.args.net.now in
    let n = requires.stands_for in
    let up = are-up g.D.Disk.told g.D.Disk.size game v n c.args.turns.now c.args.patches.now c.args.sends.now requires.up in
    let taken = c.turn_once-answer.ensures in
    let met = c.in_ok-meet.ensures in
    handled-disks-by g.D.Disk.told g.D.Disk.size g.D.Disk.faults g.D.Disk.fate g.O.Oracle.telling.clocks g.O.Oracle.telling.words g.N.Net.given_between g.N.Net.put_between game v n c.args.turns.now taken.takes.0 c.turn_once-answer.new.self c.meet.new.turns c.args.patches.now c.meet.new.patches
    c.args.sends.now c.meet.new.sends up met.met met.joined met.sends met.ok taken.same taken.takes.1 c.args.oracle.now c.turn_once-answer.new.oracle c.args.net.now c.turn_once-answer.new.net _ _ (g.A.App.handler c.args.app.now) requires.of_run c.turn_once-answer.result taken.takes.2

pub returns-clause-synced : goal.returns-clause-synced
returns-clause-synced g c = λ game v n was of_run before.
    let up = are-up g.D.Disk.told g.D.Disk.size game v n c.args.turns.now c.args.patches.now c.args.sends.now was in
    let taken = c.turn_once-answer.ensures in
    let met = c.in_ok-meet.ensures in
    let fronts = met-fronts g.D.Disk.told g.D.Disk.size c.turn_once-answer.new.self c.meet.new.turns c.args.patches.now c.meet.new.patches c.args.sends.now c.meet.new.sends met.met met.ok in
    subst (λ (d : Disks g.row.D.Denot). UnlessMemory c.turn_once-answer.result (LeavesSynced g.D.Disk.told g.D.Disk.faults game v d))
    (sym (met-disks g.D.Disk.told g.D.Disk.size c.turn_once-answer.new.self c.meet.new.turns c.args.patches.now c.meet.new.patches c.args.sends.now c.meet.new.sends met.met))
    (taken-synced_by g.D.Disk.told g.D.Disk.size g.D.Disk.faults g.D.Disk.fate g.O.Oracle.telling.clocks g.O.Oracle.telling.words g.N.Net.given_between g.N.Net.put_between game v n c.args.turns.now taken.takes.0 c.turn_once-answer.new.self c.args.patches.now c.args.sends.now up taken.same taken.takes.1 fronts
    c.args.oracle.now c.turn_once-answer.new.oracle c.args.net.now c.turn_once-answer.new.net _ _ before (g.A.App.handler c.args.app.now) of_run c.turn_once-answer.result taken.takes.2)
