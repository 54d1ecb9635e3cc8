use Rattle.std.proofs.Common.{suc, ◌+◌, arith, subst, ap, ◌∙◌, ◌≡◌, ◌∷◌, [], ◌++◌}
use Rattle.std.specs.List.{range_with_len}
use Rattle.std.proofs.lemmas.List.FromFn.{length-range_with_len}
use Rattle.ken_app.specs.Oracles.{Answers}
use Rattle.ken_drive.specs.Oracles.{Answered, clocks_told, told}
use Rattle.ken_drive.proofs.Oracles.{told_next, range-push}
use Rattle.ken_drive.proofs.oracle.MemOracleOracle.clock.Goals as goal

pub returns-clause-clocks : goal.returns-clause-clocks
returns-clause-clocks c =
    let n = c.self.inside.readings in
    let now = c.saturating_add-self-inside.result in
    subst (λ (o : Answered). Answers (clocks_told o) (told now (range_with_len 1 now)) (now ∷ [])) c.self.view_is
    (told_next n now (range_with_len 1 n) (range_with_len 1 now) now (length-range_with_len 1 n) c.saturating_add-self-inside.ensures (λ less. let one_more : now ≡ suc n = omega (arith, c.saturating_add-self-inside.ensures) in
    let its_number : 1 + n ≡ now = omega arith in
    ap (range_with_len 1) one_more ∙ range-push 1 n ∙ ap (λ k. range_with_len 1 n ++ k ∷ []) its_number))
