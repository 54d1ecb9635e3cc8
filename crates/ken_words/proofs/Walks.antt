-- What `clap` makes of words in a subcommand that don't begin with a dash: each goes to the next positional.
use Rattle.std.proofs.Common.{◌≡◌, ◌∙◌, ℕ, false, refl, sym, ap, ap₂, List, [], ◌∷◌, ◌++◌, None}
use Rattle.std.specs.List.{fold}
use Rattle.clap.specs.Words.{Kinds, Rule, Shape, Text}
use Rattle.clap.specs.Walk.{Held, Walk, after_step, arg_by_index, idle, to_positional, value, walked, word_met}
use Rattle.clap.specs.Faults.{step_fault, turn_fault, walk_fault}
use Rattle.clap.specs.Kinds.{or_else}
use Rattle.ken_words.proofs.Dashes.{AreUndashed, IsUndashed, no_dashes, no_long, no_short}

-- a walk between two words, with no flag and no `--` before
abbrev pub at : Held → ℕ → Walk
at h position = record { held = h; waiting = idle; position = position; is_trailing = false; stopped = None }

-- the walk after one more word
abbrev pub next : Shape → Walk → Text → Walk
next s w word = to_positional s.rules (arg_by_index s.rules w.position) word w w.held

-- after each word it is between two words again
abbrev pub Goes : Shape → Walk → List Text → Type 0
Goes s w [] = Unit {0}
Goes s w (word ∷ rest) = (w ≡ at w.held w.position) × Goes s (next s w word) rest

-- the faults at words, and after them the last
abbrev pub steps : Shape → Walk → List Text → Kinds → Kinds
steps s w [] last = last
steps s w (word ∷ rest) last = or_else (step_fault s w.position w.held value) (steps s (next s w word) rest last)

-- ---- one word

met : (rules : List Rule) (h : Held) (position : ℕ) (word : Text) → IsUndashed word
    → word_met rules [] false idle position word h ≡ (h, value)
met rules h position word plain = rw (no_dashes word plain, no_long word plain, no_short word plain) refl

goes_on : (s : Shape) (w : Walk) (word : Text) → IsUndashed word → w ≡ at w.held w.position → walked s.rules [] w word ≡ next s w word
unfolding walked
goes_on s w word plain is =
    ap (λ w. walked s.rules [] w word) is
    ∙ ap (λ p. after_step s.rules word (at w.held w.position) p.0 p.1) (met s.rules w.held w.position word plain)
    ∙ ap (λ v. to_positional s.rules (arg_by_index s.rules w.position) word v w.held) (sym is)

-- it is a fault only where no positional takes it
fails : (s : Shape) (w : Walk) (word : Text) → IsUndashed word → w ≡ at w.held w.position
    → turn_fault s [] w word ≡ step_fault s w.position w.held value
fails s w word plain is =
    let here : turn_fault s [] (at w.held w.position) word ≡ step_fault s w.position w.held value =
    rw (no_dashes word plain, no_long word plain, no_short word plain) refl in
    ap (λ w. turn_fault s [] w word) is ∙ here

-- ---- and more

pub walk_of : (s : Shape) (w : Walk) (words rest : List Text) → AreUndashed words → Goes s w words
    → fold (walked s.rules []) w (words ++ rest) ≡ fold (walked s.rules []) (fold (next s) w words) rest
walk_of s w [] rest plain goes = refl
walk_of s w (word ∷ words) rest plain goes =
    ap (λ v. fold (walked s.rules []) v (words ++ rest)) (goes_on s w word plain.0 goes.0)
    ∙ walk_of s (next s w word) words rest plain.1 goes.1

pub way_of : (s : Shape) (w : Walk) (words rest : List Text) → AreUndashed words → Goes s w words
    → walk_fault s [] w (words ++ rest) ≡ steps s w words (walk_fault s [] (fold (next s) w words) rest)
unfolding walk_fault
way_of s w [] rest plain goes = refl
way_of s w (word ∷ words) rest plain goes =
    ap₂ (λ k v. or_else k (walk_fault s [] v (words ++ rest))) (fails s w word plain.0 goes.0) (goes_on s w word plain.0 goes.0)
    ∙ ap (or_else (step_fault s w.position w.held value)) (way_of s (next s w word) words rest plain.1 goes.1)
