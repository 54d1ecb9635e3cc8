use Rattle.std.proofs.Common.{◌≡◌, ◌++◌, ℕ, List, [], sym, ap, subst, ◌∙◌, arith, eqb-true, vec_len}
use Rattle.std.proofs.lemmas.List.{nil_from_length}
use Rattle.ken_check.specs.Knowing.{IsAnswered}
use Rattle.ken_check.specs.Right.{IsRightLine}
use Rattle.ken_check.proofs.judging.Judging.is_right.Goals as goal

pub returns-then-is_empty-clause-heard : goal.returns-then-is_empty-clause-heard
returns-then-is_empty-clause-heard gen c = λ g most.
    let begun = c.args.self.now.begun.items in
    let none : begun ≡ [] = nil_from_length begun (omega (arith, eqb-true (vec_len c.args.self.now.begun) 0 (sym c.is_empty.ensures ∙ c.if-is_empty.true), c.args.self.now.begun.ok.0)) in
    subst (λ (l : List ℕ). IsAnswered gen.P.Player.handler g most (IsRightLine g most) c.args.self.now.reader c.line.new.self l c.line.result) (ap (λ (l : List ℕ). l ++ c.args.part.now) (sym none)) (c.line.ensures g most)

pub returns-clause-heard : goal.returns-clause-heard
returns-clause-heard gen c = λ g most.
    subst (λ (l : List ℕ). IsAnswered gen.P.Player.handler g most (IsRightLine g most) c.args.self.now.reader c.line-2.new.self l c.line-2.result) (c.as_slice.ensures.value ∙ c.in_ok-extend_from_slice.ensures.items) (c.line-2.ensures g most)
