use Rattle.std.proofs.Common.{refl, ◌∙◌, arith}
use Rattle.ken_check.proofs.Pieces.{heard_as, read_right, read_wrong}
use Rattle.ken_check.proofs.judging.Judging.end_line.Goals as goal

pub returns-then-branch : goal.returns-then-branch
returns-then-branch gen c = λ g most seen read.
    let heard = heard_as gen.P.Player.handler g most _ _ _ _ _ _ c.in_ok-is_right.was c.if-branch.true (c.is_right.ensures.heard g most) in
    read_right c.args.part.now _ read c.requires.open_yet.right (c.is_right.ensures.wrong ∙ c.requires.open_yet.right) c.requires.open_yet.one_line heard (omega (arith, c.saturating_add-self.ensures, c.is_right.ensures.line)) c.clear.ensures.items

pub returns-else-branch : goal.returns-else-branch
returns-else-branch gen c = λ g most seen read.
    let heard = heard_as gen.P.Player.handler g most _ _ _ _ _ _ c.in_ok-is_right.was c.if-branch.false (c.is_right.ensures.heard g most) in
    read_wrong c.args.part.now _ read c.requires.open_yet.right refl c.requires.open_yet.one_line heard c.is_right.ensures.line
