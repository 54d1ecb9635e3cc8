-- Teams that have run, and one more of the last node.
use Rattle.std.proofs.Common.{◌≡◌, ◌∙◌, ℕ, ◌+◌, ◌<◌, ◌≤◌, List, [], ◌∷◌, ◌++◌, length, sym, ap, subst, ⊎_elim, arith}
use Rattle.std.specs.Prelude.{slice_index_or}
use Rattle.std.proofs.lemmas.Bool.{cases_lt}
use Rattle.std.proofs.lemmas.List.{get_or_append_left, length-append}
use Rattle.std.proofs.Math.Seq.{get_or-append_seam}
use Rattle.ken_ship.specs.declared.faults.NodeFault.{NodeFault}
use Rattle.ken_threads.specs.declared.team.Team.{Team}
use Rattle.ken_threads.specs.Teams.{HaveTeamsRun, TeamHasRun}

last_at : {X : Type 0} (teams : List X) (team none : X) (k : ℕ) → k ≡ length teams → slice_index_or (teams ++ team ∷ []) k none ≡ team
last_at {X} teams team none k at = ap (λ (i : ℕ). slice_index_or (teams ++ team ∷ []) i none) at ∙ get_or-append_seam teams team [] none

module _ {T P S : Type 0} {t_steps : T → T → Type 0} {t_fails : NodeFault → T → T → Type 0} {p_steps : P → P → Type 0} {p_fails : NodeFault → P → P → Type 0}
    {s_steps : S → S → Type 0} {s_fails : NodeFault → S → S → Type 0} where
  pub one_more_ran : (olds news : List (Team T P S)) (old new : Team T P S)
      → HaveTeamsRun t_steps t_fails p_steps p_fails s_steps s_fails olds news → TeamHasRun t_steps t_fails p_steps p_fails s_steps s_fails old new
      → HaveTeamsRun t_steps t_fails p_steps p_fails s_steps s_fails (olds ++ old ∷ []) (news ++ new ∷ [])
  one_more_ran olds news old new have has =
      let long : length (olds ++ old ∷ []) ≡ length olds + 1 = length-append olds (old ∷ []) in
      let long_new : length (news ++ new ∷ []) ≡ length news + 1 = length-append news (new ∷ []) in
      record {
        count = omega (arith, long_new, have.count, long);
        each = λ k none low.
            ⊎_elim
            (λ (before : k < length olds).
            let at_old = get_or_append_left olds (old ∷ []) none k before in
            let at_new = get_or_append_left news (new ∷ []) none k (omega (arith, before, have.count)) in
            subst (λ (a : Team T P S). TeamHasRun t_steps t_fails p_steps p_fails s_steps s_fails a (slice_index_or (news ++ new ∷ []) k none)) (sym at_old)
            (subst (λ (b : Team T P S). TeamHasRun t_steps t_fails p_steps p_fails s_steps s_fails (slice_index_or olds k none) b) (sym at_new) (have.each k none before)))
            (λ (past : length olds ≤ k).
            let last : k ≡ length olds = omega (arith, past, low, long) in
            let last_new : k ≡ length news = omega (arith, last, have.count) in
            subst (λ (a : Team T P S). TeamHasRun t_steps t_fails p_steps p_fails s_steps s_fails a (slice_index_or (news ++ new ∷ []) k none)) (sym (last_at olds old none k last))
            (subst (λ (b : Team T P S). TeamHasRun t_steps t_fails p_steps p_fails s_steps s_fails old b) (sym (last_at news new none k last_new)) has))
            (cases_lt k (length olds));
      }
