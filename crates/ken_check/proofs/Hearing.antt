-- An answer to lines of one kind is an answer to those of another, where a reader who knows what was told takes both alike.
use Rattle.std.proofs.Common.{◌≡◌, ℕ, List, [], ◌∷◌, ◌++◌, Bool, true, false, Result, Ok, Err, sym, ap, subst, ◌∙◌}
use Rattle.std.specs.declared.alloc.AllocError.{AllocError}
use Rattle.ken_model.specs.Game.{Game}
use Rattle.ken_model.specs.Handler.{Handler}
use Rattle.ken_model.specs.Schedule.{play}
use Rattle.ken_actors.specs.Actors.{AreAlike}
use Rattle.ken_actors.specs.Held.{HeldRun, playing_of}
use Rattle.ken_check.specs.declared.checker.Checker.{Checker}
use Rattle.ken_check.specs.declared.reader.Reader.{Reader}
use Rattle.ken_check.specs.Knowing.{Follows, IsAnswered, IsHeard, Knows}
use Rattle.ken_check.specs.Right.{Told}

pub heard_as : (g : Game) (most : ℕ) (P Q : Told → List ℕ → Told → Type 0) (old new : Checker) (text : List ℕ) (answer : Result Bool AllocError)
    → ((told told2 : Told) → P told (text ++ 10 ∷ []) told2 → Q told (text ++ 10 ∷ []) told2)
    → ((told told2 : Told) → Knows g most old told → Q told (text ++ 10 ∷ []) told2 → P told (text ++ 10 ∷ []) told2)
    → IsHeard g most P old new text answer → IsHeard g most Q old new text answer
heard_as g most P Q old new text (Ok true) to from is = λ told knows. let next = is told knows in (next.0, to told next.0 next.1, next.2)
heard_as g most P Q old new text (Ok false) to from is = λ told knows told2 line. is told knows told2 (from told told2 knows line)
heard_as g most P Q old new text (Err _) to from is = tt

module _ {A H : Type 0} (h : A → Handler) (g : Game) (most : ℕ) (P Q : Told → List ℕ → Told → Type 0) (old new : Reader A H) (text : List ℕ) where
  -- the same of a reader with its actors
  pub answered_as : (answer : Result Bool AllocError)
      → ((told told2 : Told) → P told (text ++ 10 ∷ []) told2 → Q told (text ++ 10 ∷ []) told2)
      → ((told told2 : Told) → Follows h g most old told → Q told (text ++ 10 ∷ []) told2 → P told (text ++ 10 ∷ []) told2)
      → IsAnswered h g most P old new text answer → IsAnswered h g most Q old new text answer
  answered_as (Ok true) to from is = λ told follows. let next = is told follows in (next.0, to told next.0 next.1, next.2)
  answered_as (Ok false) to from is = λ decided told follows told2 line. is decided told follows told2 (from told told2 follows line)
  answered_as (Err _) to from is = tt

  -- and of a line that its actors have no part in
  pub answered_beside : (answer : Result Bool AllocError) → new.actors ≡ old.actors
      → ((told told2 : Told) → P told (text ++ 10 ∷ []) told2 → Q told (text ++ 10 ∷ []) told2 × (told2.schedule ≡ told.schedule))
      → ((told told2 : Told) → Q told (text ++ 10 ∷ []) told2 → P told (text ++ 10 ∷ []) told2)
      → IsHeard g most P old.checker new.checker text answer → IsAnswered h g most Q old new text answer
  answered_beside (Ok true) same to from is = λ told follows.
      let next = is told follows.knows in
      let line = to told next.0 next.1 in (
        next.0,
        line.0,
        record {
          knows = next.2;
          game = ap (λ (r : HeldRun A). (playing_of h r).game) same ∙ follows.game;
          alike = subst (λ (r : HeldRun A). AreAlike (playing_of h r).network (play g next.0.schedule)) (sym same) (subst (λ ss. AreAlike (playing_of h old.actors).network (play g ss)) (sym line.1) follows.alike);
        },
      )
  answered_beside (Ok false) same to from is = λ decided told follows told2 line. is told follows.knows told2 (from told told2 line)
  answered_beside (Err _) same to from is = tt
