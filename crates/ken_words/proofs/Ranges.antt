-- The numbers of each command that words ask for are in range, and none of its words begins with a dash.
use Rattle.std.proofs.Common.{◌≡◌, ◌≤◌, ◌-◌, ◌^◌, ◌&&◌, ℕ, Bool, cond, true, false, refl, sym, ◌∙◌, List, [], ◌∷◌, drop, length, Option, Some, None, option_map, nat_le, nat_lt, leb-true, ltb-true, true≢false, arith}
use Rattle.std.specs.Prelude.{IfSome, codes}
use Rattle.std.specs.List.{list_all}
use Rattle.std.specs.Str.{all_ascii_digits, bytes_eq}
use Rattle.clap.proofs.WalkLemmas.{both}
use Rattle.ken_num.specs.Numbers.{value_from}
use Rattle.ken_model.specs.declared.facts.TheConstants.{MAX_INPUTS, MAX_NODES, MAX_PAGES}
use Rattle.ken_script.specs.declared.scripts.TheConstants.{LIMIT, MAX_ROUNDS}
use Rattle.ken_words.specs.declared.commands.Command.{Command}
use Rattle.ken_words.specs.declared.commands.Command.TheVariants.{Run, Check, Torment, Save, Dump}
use Rattle.ken_words.specs.Commands.{command_of, dump_of, inputs_in, is_prefix, is_undashed, length_in, node_in, nodes_in, pages_in, rounds_in, seed_in, soak_of}
use Rattle.ken_words.specs.Fits.{CommandsFit, Fits}
use Rattle.ken_words.specs.Numbers.{is_number, number_in}
use Rattle.ken_words.proofs.Dashes.{IsUndashed, digits_undashed}

abbrev InRange : ℕ → ℕ → List ℕ → Option ℕ → Type 0
InRange least most word o = IfSome o (λ n. (least ≤ n) × (n ≤ most) × IsUndashed word)

in_range : (least most : ℕ) (word : List ℕ) → InRange least most word (number_in least most word)
in_range least most word = go (is_number word && nat_le least n && nat_le n most) refl
  where
    n : ℕ
    n = value_from 0 word

    go : (b : Bool) → (is_number word && nat_le least n && nat_le n most) ≡ b → InRange least most word (cond b (Some n) None)
    go false e = tt
    go true e =
        let p = both (is_number word && nat_le least n) (nat_le n most) e in
        let q = both (is_number word) (nat_le least n) p.0 in
        let digits = (both (nat_lt 0 (length word) && nat_le (length word) 20) (all_ascii_digits word) q.0).1 in
        (leb-true least n q.1, leb-true n most p.1, digits_undashed word digits)

prefix_undashed : (word : List ℕ) → is_prefix word ≡ true → IsUndashed word
prefix_undashed word e = (both (nat_lt 0 (length word) && nat_le (length word) 200) (is_undashed word) e).1

-- a command of these words
abbrev IsFit : List (List ℕ) → Option Command → Type 0
IsFit words o = IfSome o (λ c. Fits c × (list_all is_undashed words ≡ true))

check_fits : (word : List ℕ) (o : Option ℕ) → InRange 0 LIMIT word o → IsFit (word ∷ []) (option_map Check o)
check_fits word None h = tt
check_fits word (Some n) h = (h.1, rw h.2 refl)

torment_fits : (word : List ℕ) (o : Option ℕ) → InRange 0 (2 ^ 64 - 1) word o → IsFit (word ∷ []) (option_map Torment o)
torment_fits word None h = tt
torment_fits word (Some n) h = (omega (arith, h.1), rw h.2 refl)

save_fits : (word : List ℕ) (p : Bool) → is_prefix word ≡ p → IsFit (word ∷ []) (cond p (Some Save) None)
save_fits word false e = tt
save_fits word true e = (tt, rw (prefix_undashed word e) refl)

abbrev Four : Type 0
Four = List ℕ × List ℕ × List ℕ × List ℕ

abbrev AreFit : Four → Option Command → Type 0
AreFit words = IsFit (words.0 ∷ words.1 ∷ words.2 ∷ words.3 ∷ [])

soak_fits : (words : Four) (a b c d : Option ℕ) → InRange 0 (2 ^ 64 - 1) words.0 a → InRange 1 MAX_NODES words.1 b
    → InRange 0 MAX_INPUTS words.2 c → InRange 0 MAX_ROUNDS words.3 d → AreFit words (soak_of a b c d)
soak_fits words None b c d g h k l = tt
soak_fits words (Some seed) None c d g h k l = tt
soak_fits words (Some seed) (Some nodes) None d g h k l = tt
soak_fits words (Some seed) (Some nodes) (Some inputs) None g h k l = tt
soak_fits words (Some seed) (Some nodes) (Some inputs) (Some rounds) g h k l = ((h.0, h.1, k.1, l.1), rw (g.2, h.2, k.2, l.2) refl)

dump_fits : (words : Four) (p : Bool) (b c d : Option ℕ) → is_prefix words.0 ≡ p → InRange 0 (MAX_NODES - 1) words.1 b
    → InRange 1 MAX_NODES words.2 c → InRange 1 MAX_PAGES words.3 d → AreFit words (dump_of p b c d)
dump_fits words false b c d g h k l = tt
dump_fits words true None c d g h k l = tt
dump_fits words true (Some node) None d g h k l = tt
dump_fits words true (Some node) (Some nodes) None g h k l = tt
dump_fits words true (Some node) (Some nodes) (Some pages) g h k l = go (nat_lt node nodes) refl
  where
    go : (b : Bool) → nat_lt node nodes ≡ b → AreFit words (cond b (Some (Dump node nodes pages)) None)
    go false e = tt
    go true e = ((ltb-true node nodes e, k.1, l.0, l.1), rw (prefix_undashed words.0 g, h.2, k.2, l.2) refl)

or_else : (words : List (List ℕ)) (b : Bool) (o other : Option Command) → IsFit words o → IsFit words other → IsFit words (cond b o other)
or_else words true o other h k = h
or_else words false o other h k = k

fit : (words : List (List ℕ)) → IsFit (drop 2 words) (command_of words)
fit [] = tt
fit (name ∷ []) = tt
fit (name ∷ word ∷ []) = or_else [] (bytes_eq word (codes "run")) (Some Run) None (tt, refl) tt
fit (name ∷ word ∷ value ∷ []) =
    let also = or_else (value ∷ []) in
    also (bytes_eq word (codes "check")) _ _ (check_fits value (length_in value) (in_range 0 LIMIT value))
    (also (bytes_eq word (codes "torment")) _ _ (torment_fits value (seed_in value) (in_range 0 (2 ^ 64 - 1) value))
    (also (bytes_eq word (codes "save")) _ None (save_fits value (is_prefix value) refl) tt))
fit (name ∷ word ∷ a ∷ b ∷ []) = tt
fit (name ∷ word ∷ a ∷ b ∷ c ∷ []) = tt
fit (name ∷ word ∷ a ∷ b ∷ c ∷ d ∷ []) =
    let also = or_else (a ∷ b ∷ c ∷ d ∷ []) in
    also (bytes_eq word (codes "soak")) _ _
    (soak_fits (a, b, c, d) (seed_in a) (nodes_in b) (inputs_in c) (rounds_in d)
    (in_range 0 (2 ^ 64 - 1) a) (in_range 1 MAX_NODES b) (in_range 0 MAX_INPUTS c) (in_range 0 MAX_ROUNDS d))
    (also (bytes_eq word (codes "dump")) _ None
    (dump_fits (a, b, c, d) (is_prefix a) (node_in b) (nodes_in c) (pages_in d) refl
    (in_range 0 (MAX_NODES - 1) b) (in_range 1 MAX_NODES c) (in_range 1 MAX_PAGES d)) tt)
fit (name ∷ word ∷ a ∷ b ∷ c ∷ d ∷ e ∷ rest) = tt

pub commands_fit : CommandsFit
commands_fit words = go (command_of words) (fit words)
  where
    go : (o : Option Command) → IsFit (drop 2 words) o → IfSome o Fits
    go None h = tt
    go (Some command) h = h.0

-- words that begin with a dash ask for nothing
pub dashed_none : (words : List (List ℕ)) → list_all is_undashed (drop 2 words) ≡ false → command_of words ≡ None
dashed_none words dashed = go (command_of words) (fit words)
  where
    go : (o : Option Command) → IsFit (drop 2 words) o → o ≡ None
    go None h = refl
    go (Some command) h = absurd (true≢false (sym h.1 ∙ dashed))
