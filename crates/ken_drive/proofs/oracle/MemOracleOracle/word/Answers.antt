use Rattle.std.proofs.Common.{◌≡◌, ℕ, suc, ◌-◌, ◌<◌, ◌^◌, ◌∷◌, [], ◌++◌, arith, subst, ap, sym, ◌∙◌}
use Rattle.ken_num.specs.Generator.{next_state, answer_of, answers, state_after}
use Rattle.ken_num.proofs.Answers.{answers-push, state_after-push}
use Rattle.ken_app.specs.Oracles.{Answers}
use Rattle.ken_drive.specs.Oracles.{Answered, start_of, words_told, told}
use Rattle.ken_drive.proofs.Oracles.{told_next, length-answers}
use Rattle.ken_drive.proofs.oracle.MemOracleOracle.word.Goals as goal
use Rattle.ken_drive.proofs.oracle.MemOracleOracle.word.Goals.{After-next}

start : (c : After-next) → ℕ
start c = start_of (record { node = c.self.inside.node; seed = c.self.inside.seed })

-- as long as the count is exact, it is one more, and the generator was in the state after as many answers
one_more : (c : After-next) → c.saturating_add-self-inside.result < 2 ^ 64 - 1 → c.saturating_add-self-inside.result ≡ suc c.self.inside.words
one_more c less = omega (arith, c.saturating_add-self-inside.ensures)

was : (c : After-next) → c.saturating_add-self-inside.result < 2 ^ 64 - 1 → c.self.inside.generator ≡ state_after c.self.inside.words (start c)
unfolding start
was c less = c.self.invariant (omega (arith, one_more c less))

pub invariant_of-self : goal.invariant_of-self
unfolding start
invariant_of-self c = λ less. c.next.ensures.state ∙ ap next_state (was c less) ∙ sym (state_after-push c.self.inside.words (start c)) ∙ ap (λ k. state_after k (start c)) (sym (one_more c less))

pub returns-clause-words : goal.returns-clause-words
unfolding start
returns-clause-words c =
    let n = c.self.inside.words in
    let now = c.saturating_add-self-inside.result in
    subst (λ (o : Answered). Answers (words_told o) (told now (answers now (start c))) (c.next.result ∷ [])) c.self.view_is
    (told_next n now (answers n (start c)) (answers now (start c)) c.next.result (length-answers n (start c)) c.saturating_add-self-inside.ensures
    (λ less. ap (λ k. answers k (start c)) (one_more c less) ∙ answers-push n (start c)
    ∙ ap (λ w. answers n (start c) ++ w ∷ []) (ap (λ x. answer_of (next_state x)) (sym (was c less)) ∙ ap answer_of (sym c.next.ensures.state) ∙ sym c.next.ensures.answer)))
