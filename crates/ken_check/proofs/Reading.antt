-- The step that a right turn line names is read from it.
use Rattle.std.proofs.Common.{◌≡◌, ℕ, ◌<◌, ◌^◌, ◌⊎◌, List, [], ◌∷◌, ◌++◌, Bool, true, false, Option, None, Some, Result, Ok, Err, slice_get, refl, ap, ◌∙◌, arith, ⊎_elim}
use Rattle.std.specs.declared.alloc.AllocError.{AllocError}
use Rattle.ken_model.specs.declared.messages.Step.{Step}
use Rattle.ken_model.specs.declared.reports.TurnLine.{TurnLine}
use Rattle.ken_model.specs.Game.{Game}
use Rattle.ken_model.specs.Handler.{Handler}
use Rattle.ken_model.specs.Network.{outside, start}
use Rattle.ken_model.specs.Report.{line, turn_words}
use Rattle.ken_model.specs.Schedule.{play, turn_line}
use Rattle.ken_model.specs.Spelling.{IsPrintableTurn, parts_at}
use Rattle.ken_model.proofs.Parts.{parts_at-join_with_byte}
use Rattle.ken_model.proofs.WordsFree.{each_free, ink_turn_words}
use Rattle.ken_check.specs.declared.checker.Checker.{Checker}
use Rattle.ken_check.specs.declared.reader.Reader.{Reader}
use Rattle.ken_check.specs.Kinds.{IsTurnLine, IsTurnOf}
use Rattle.ken_check.specs.Knowing.{IsAnswered, Knows}
use Rattle.ken_check.specs.Right.{Told}
use Rattle.ken_check.specs.Words.{HasStepWords}
use Rattle.ken_check.proofs.Naming.{text_of_line}
use Rattle.ken_check.proofs.Turning.{is_next, sender_of_turn, tidy_played, tidy_start}

-- the words of a turn line
turn_parts : (text : List ℕ) (l : TurnLine) → IsPrintableTurn l → text ++ 10 ∷ [] ≡ line (turn_words l) → parts_at 32 text ≡ turn_words l
turn_parts text l printable is = ap (parts_at 32) (text_of_line text (turn_words l) is) ∙ parts_at-join_with_byte 32 _ _ (each_free 32 (omega arith) (turn_words l) (ink_turn_words l printable))

small_sender : (u nodes : ℕ) → nodes < 9 → (u ≡ outside) ⊎ (u < nodes) → u < 2 ^ 8
small_sender u nodes few from = ⊎_elim (λ (e : u ≡ outside). omega (arith, e)) (λ (node : u < nodes). omega (arith, node, few)) from

pub step_words : (g : Game) (most : ℕ) (c : Checker) (told : Told) (text : List ℕ) (told2 : Told) → Knows g most c told → (l : IsTurnLine g told (text ++ 10 ∷ []) told2) → HasStepWords text l.step
step_words g most c told text told2 knows l =
    let parts = turn_parts text (turn_line l.step l.turn) l.printable l.text in
    let next = is_next g most c told l.step (text ++ 10 ∷ []) told2 knows (l, refl) in
    let from = sender_of_turn g (play g told.schedule) l.step l.turn (tidy_played g (start g) 0 0 told.schedule c.stamp c.node knows.legal (tidy_start g)) l.made in
    record {
      small = (omega (arith, next.known, knows.limits.few_nodes), small_sender l.step.from g.nodes (omega (arith, knows.limits.few_nodes)) from);
      words = l.printable.draws;
      node = ap (λ (ps : List (List ℕ)). slice_get ps 2) parts;
      from = ap (λ (ps : List (List ℕ)). slice_get ps 3) parts;
      draws = ap (λ (ps : List (List ℕ)). slice_get ps 5) parts;
    }

-- an answer about lines of the step that was read is one about turn lines
pub heard_step : {A H : Type 0} (h : A → Handler) (g : Game) (most : ℕ) (old new : Reader A H) (text : List ℕ) (s : Step) (r : Result Bool AllocError) → ((x : Step) → HasStepWords text x → Some s ≡ Some x) → IsAnswered h g most (IsTurnOf g s) old new text r → IsAnswered h g most (IsTurnLine g) old new text r
heard_step h g most old new text s (Ok true) read heard = λ told follows. (let next = heard told follows in (next.0, next.1.0, next.2))
heard_step h g most old new text s (Ok false) read heard = λ decided told follows told2 l.
    let same : Some s ≡ Some l.step = read l.step (step_words g most old.checker told text told2 follows.knows l) in
    let is : l.step ≡ s = cc in
    heard decided told follows told2 (l, is)
heard_step h g most old new text s (Err e) read heard = tt

-- where none was read no turn line is right
pub heard_no_step : {A H : Type 0} (h : A → Handler) (g : Game) (most : ℕ) (old new : Reader A H) (text : List ℕ) (none : Option Step) → none ≡ None → ((x : Step) → HasStepWords text x → none ≡ Some x) → IsAnswered h g most (IsTurnLine g) old new text (Ok false)
heard_no_step h g most old new text none is read = λ decided told follows told2 l. (let some : none ≡ Some l.step = read l.step (step_words g most old.checker told text told2 follows.knows l) in absurd cc)
