-- What `clap` makes of the word after the program's name: it enters the subcommand of that name, and else none.
use Rattle.std.proofs.Common.{◌≡◌, ◌∙◌, ◌&&◌, ℕ, Bool, cond, zero, suc, true, false, refl, sym, ap, ap₂, subst, List, [], ◌∷◌, ◌++◌, length, Option, Some, None, is_some, option_map, codes}
use Rattle.std.specs.Prelude.{slice_get}
use Rattle.std.specs.List.{find, fold}
use Rattle.std.specs.Option.{option_map_or}
use Rattle.std.specs.Str.{bytes_eq, chars}
use Rattle.std.proofs.lemmas.Slice.Eq.{bytes_eq-Decides}
use Rattle.clap.specs.Lexer.{long_of, short_of}
use Rattle.clap.specs.Words.{App, Kinds, Shape, Text, built, fault_of, subcommand_of}
use Rattle.clap.specs.Walk.{Held, Names, Outcome, Walk, after_flag, after_step, answers_to, bundle_met, bundle_step, finished, idle, long_or_other, nothing_held, plain, settled, short_or_plain, subcommand_met, subcommand_or_other, walked}
use Rattle.clap.specs.Simple.{entered, label_of, names_of, rows_at}
use Rattle.clap.specs.Faults.{bundle_fault, bundle_step_fault, check_fault, defaults_fault, entered_fault, flag_word_fault, flags_fault, other_fault, settle_fault, step_fault, turn_fault, walk_fault}
use Rattle.clap.specs.Kinds.{or_else}
use Rattle.clap.specs.declared.error.kind.ErrorKind.TheVariants.{DisplayHelp, InvalidSubcommand}
use Rattle.clap.proofs.WalkLemmas.{walk_stopped}
use Rattle.ken_words.specs.Parser.{ken}
use Rattle.ken_words.proofs.Leaves.{faults}

-- the program as a parse has it
abbrev top : App
top = built ken

abbrev names : Names
names = names_of top

abbrev pub met : Text → Option Text
met word = subcommand_met names idle word

abbrev pub found : Text → Option Shape
found name = find (λ s. answers_to name (label_of s)) top.subs

-- a walk that has met no subcommand
abbrev loose : Bool → Walk
loose is_trailing = record { held = nothing_held; waiting = idle; position = 1; is_trailing = is_trailing; stopped = None }

-- ---- a subcommand's name

abbrev stopped : Text → List Text → Walk
stopped name words = record (loose false) { stopped = Some (name, words) }

entered_walk : (name : Text) (words : List Text) → met name ≡ Some name → fold (walked [] names) (loose false) (name ∷ words) ≡ stopped name words
unfolding walked
entered_walk name words is =
    ap (λ o. let m = subcommand_or_other [] o idle 1 name nothing_held in fold (walked [] names) (after_step [] name (loose false) m.0 m.1) words) is
    ∙ sym (walk_stopped [] names (loose false) name [] words)

stopped_way : (name : Text) (seen words : List Text) → walk_fault top.top names (stopped name seen) words ≡ []
unfolding walk_fault walked
stopped_way name seen [] = refl
stopped_way name seen (x ∷ xs) = stopped_way name (seen ++ x ∷ []) xs

entered_way : (name : Text) (words : List Text) → met name ≡ Some name → bytes_eq name (codes "help") ≡ false
    → walk_fault top.top names (loose false) (name ∷ words) ≡ []
unfolding walk_fault walked
entered_way name words is other =
    ap (λ o. let m = subcommand_or_other [] o idle 1 name nothing_held in
    or_else (or_else (other_fault top.top o name nothing_held) (step_fault top.top 1 m.0 m.1)) (walk_fault top.top names (after_step [] name (loose false) m.0 m.1) words)) is
    ∙ ap₂ (λ b k. or_else (or_else (cond (b && false) (DisplayHelp ∷ InvalidSubcommand ∷ []) []) []) k) other (stopped_way name [] words)

-- the faults of the program, where a walk ended so and was a fault so on the way
abbrev ended : Walk → Kinds → Kinds
ended w on_the_way = or_else on_the_way (or_else (entered_fault top w.stopped) (or_else (settle_fault [] false w.held)
    (or_else (defaults_fault (settled [] w.held).rows []) (check_fault top.top (finished [] w.held) (is_some (entered top w.stopped))))))

abbrev ended_in : List Text → Option Shape → Kinds
ended_in words o = or_else (option_map_or (λ s. faults s words) o []) (check_fault top.top [] (is_some (option_map (λ s. rows_at s words) o)))

-- then its faults are the subcommand's
pub entered_faults : (program name : Text) (words : List Text) (s : Shape) → met name ≡ Some name → bytes_eq name (codes "help") ≡ false → found name ≡ Some s
    → fault_of ken (program ∷ name ∷ words) ≡ or_else (faults s words) []
unfolding defaults_fault
entered_faults program name words s is other sub =
    ap₂ ended (entered_walk name words is) (entered_way name words is other) ∙ ap (ended_in words) sub

pub entered_rows : (program name : Text) (words : List Text) (s : Shape) → met name ≡ Some name → found name ≡ Some s
    → subcommand_of ken (program ∷ name ∷ words) ≡ Some (rows_at s words)
entered_rows program name words s is sub =
    ap (λ (w : Walk). entered top w.stopped) (entered_walk name words is) ∙ ap (option_map (λ s. rows_at s words)) sub

-- ---- any other word

-- a walk after `--` meets no subcommand
trailing_on : (words : List Text) → fold (walked [] names) (loose true) words ≡ loose true
unfolding walked
trailing_on [] = refl
trailing_on (word ∷ rest) = trailing_on rest

-- the faults at a word that is no subcommand's name
abbrev bundle_way : Text → Held × Outcome → Kinds → Kinds
bundle_way word p fault = let m = after_flag [] idle word p.0 p.1 in or_else fault (step_fault top.top 1 m.0 m.1)

abbrev short_way : Text → Option Text → Kinds
short_way word o = let m = short_or_plain [] idle word o nothing_held in
    or_else (option_map_or (λ flags. bundle_fault [] false flags nothing_held) o []) (step_fault top.top 1 m.0 m.1)

abbrev long_way : Text → Option (Text × Option Text) → Kinds
long_way word o = let m = long_or_other [] idle word o nothing_held in
    or_else (flag_word_fault [] false o word nothing_held) (step_fault top.top 1 m.0 m.1)

-- a bundle of flags, of which there is none
bundle_fails : (word : Text) (k : ℕ) (flags : Text)
    → bundle_way word (bundle_met [] k flags 0 plain nothing_held) (flags_fault [] false k flags 0 nothing_held) ≡ [] → ⊥
unfolding bundle_met flags_fault
bundle_fails word zero flags e = absurd cc
bundle_fails word (suc k) flags e = go (slice_get (chars flags) 0) e
  where
    go : (o : Option ℕ) → bundle_way word (bundle_step [] o flags 0 plain nothing_held (bundle_met [] k))
        (bundle_step_fault [] false o flags 0 nothing_held (flags_fault [] false k)) ≡ [] → ⊥
    go None e = absurd cc
    go (Some x) e = absurd cc

short_fails : (word : Text) (o : Option Text) → short_way word o ≡ [] → ⊥
short_fails word None e = absurd cc
short_fails word (Some flags) e = bundle_fails word (length flags) flags e

long_fails : (word : Text) (o : Option (Text × Option Text)) → long_way word o ≡ [] → ⊥
long_fails word (Some p) e = absurd cc
long_fails word None e = short_fails word (short_of word) e

or_else-none : (k rest : Kinds) → or_else k rest ≡ [] → k ≡ []
or_else-none [] rest e = refl
or_else-none (x ∷ xs) rest e = absurd cc

-- so where there is no fault, the word is `--`, and no subcommand is entered
pub enters_none : (program word : Text) (words : List Text) → met word ≡ None → fault_of ken (program ∷ word ∷ words) ≡ []
    → subcommand_of ken (program ∷ word ∷ words) ≡ None
unfolding walk_fault walked
enters_none program word words none fault = go (bytes_eq word (45 ∷ 45 ∷ [])) refl
  where
    go : (b : Bool) → bytes_eq word (45 ∷ 45 ∷ []) ≡ b → subcommand_of ken (program ∷ word ∷ words) ≡ None
    go true is =
        subst (λ w. subcommand_of ken (program ∷ w ∷ words) ≡ None) (sym ((bytes_eq-Decides word (45 ∷ 45 ∷ [])).0 is))
        (ap (λ (w : Walk). entered top w.stopped) (trailing_on words))
    go false is =
        let here : turn_fault top.top names (loose false) word ≡ long_way word (long_of word) = rw (none, is) refl in
        let turn = or_else-none (turn_fault top.top names (loose false) word) _ (or_else-none _ _ fault) in
        absurd (long_fails word (long_of word) (sym here ∙ turn))
