use Rattle.std.proofs.Common.{◌++◌, sym, ap, ◌∙◌, arith}
use Rattle.ken_model.specs.Report.{line, restart_words}
use Rattle.ken_check.proofs.Kept.{read_at}
use Rattle.ken_check.proofs.KnowsRestart.{names_node, names_turns, is_right, is_known}
use Rattle.ken_check.proofs.checker.Checker.restart_at.Goals as goal
use Rattle.ken_check.proofs.checker.Checker.restart_at.Goals.{then-restart-self-via-then-restart-self, then-restart-self-via-else-restart-self+then-restart-self-2}

pub returns-then-restart-self : goal.returns-then-restart-self
returns-then-restart-self c = λ g most told knows told2 is.
    let named = names_node g most c.args.self.now told knows c.args.restart _ told2 is in
    elim c.then-restart-self.branch [
      | then-restart-self-via-then-restart-self w ↦ omega (arith, w.if-restart-self.true, named)
      | then-restart-self-via-else-restart-self+then-restart-self-2 w ↦ omega (arith, w.if-restart-self-2.true, named)
    ]

pub returns-then-not-may_restart : goal.returns-then-not-may_restart
returns-then-not-may_restart c = λ g most told knows told2 is.
    let at = read_at _ _ _ _ c.index_mut-known.ensures.value c.from.ensures in
    let named = names_turns g most c.args.self.now told knows c.args.restart _ told2 is _ at in
    let yes = c.may_restart.ensures.1 named in
    let no = c.if-not-may_restart.true in
    absurd cc

pub returns : goal.returns
returns c = λ g most told knows.
    let r = c.args.restart in
    let at = read_at _ _ _ _ c.index_mut-known.ensures.value c.from.ensures in
    let shown = c.as_slice.ensures.value ∙ c.in_ok-put_restart.ensures ∙ ap (λ bs. bs ++ line (restart_words r)) c.clear.ensures.items in
    let spelled = sym (c.is_line.ensures.0 c.if-not-is_line.false) ∙ shown in
    let allowed = c.may_restart.ensures.0 c.if-not-may_restart.false in (
      _,
      is_right g most c.args.self.now told knows r _ c.if-restart-self.false c.if-restart-self-2.false at allowed c.args.text.now
          c.requires.before (omega (arith, c.if-restart-self.false, knows.limits.few_nodes), omega arith) spelled,
      is_known g most c.args.self.now told knows r _ c.if-restart-self.false c.if-restart-self-2.false at allowed
          c.from.result c.from.ensures (record c.args.self.now { buffer = c.put_restart.new.out }),
    )
