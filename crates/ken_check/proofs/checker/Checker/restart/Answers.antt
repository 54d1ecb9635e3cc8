use Rattle.std.proofs.Common.{◌≡◌, Some, None}
use Rattle.ken_check.specs.Kinds.{IsRestartLine, IsRestartOf}
use Rattle.ken_check.proofs.Hearing.{heard_as}
use Rattle.ken_check.proofs.LineWords.{restart_node, restart_turns}
use Rattle.ken_check.proofs.KnowsRestart.{small_node}
use Rattle.ken_check.proofs.LastRestart.{same_restart}
use Rattle.ken_check.proofs.checker.Checker.restart.Goals as goal

pub returns-in-Some-Some : goal.returns-in-Some-Some
returns-in-Some-Some c = λ g most.
    let text = c.args.text.now in
    let node = c.in-Some-Some.node in
    let turns = c.in-Some-Some.turns in
    let named = IsRestartOf g most (record { node = node; turns = turns }) in
    heard_as g most named (IsRestartLine g most) c.args.self.now c.restart_at.new.self text c.restart_at.result
    (λ told told2 is. is.0)
    (λ told told2 knows l.
    let r = l.restart in
    let small = small_node g most c.args.self.now told knows _ told2 l in
    let same_node : Some node ≡ Some r.node = c.in-Some-Some.ensures r.node small (restart_node text r l.printable l.text) in
    let word = restart_turns text r l.printable l.text in
    let same_turns : Some turns ≡ Some r.turns = c.in-Some-Some.ensures' r.turns l.printable.1 word in
    (l, same_restart r node turns (cc) (cc)))
    (c.restart_at.ensures g most)

pub returns-in_default : goal.returns-in_default
returns-in_default c = λ g most told knows told2 l.
    let r = l.restart in
    let word = restart_turns c.args.text.now r l.printable l.text in
    let read : None ≡ Some r.turns = c.in_default.ensures' r.turns l.printable.1 word in
    absurd cc

pub returns-in_default-2 : goal.returns-in_default-2
returns-in_default-2 c = λ g most told knows told2 l.
    let r = l.restart in
    let small = small_node g most c.args.self.now told knows _ told2 l in
    let read : c.node_at.result ≡ Some r.node = c.node_at.ensures r.node small (restart_node c.args.text.now r l.printable l.text) in
    absurd cc
