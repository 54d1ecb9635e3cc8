-- What `clap` makes of a word that doesn't begin with a dash: it is no flag and no `--`.
use Rattle.std.proofs.Common.{◌≡◌, ◌∙◌, ◌==◌, true, false, refl, ap, List, [], ◌∷◌, None, map, drop, String, string_bytes, Global, ne_eqb, arith}
use Rattle.std.specs.Prelude.{option_and_then}
use Rattle.std.specs.List.{AllByRecursion, list_all}
use Rattle.std.specs.Str.{all_ascii_digits, bytes_eq}
use Rattle.std.proofs.lemmas.Bool.{not-true}
use Rattle.std.proofs.lemmas.List.{drop-map}
use Rattle.std.proofs.lemmas.List.Folds.{list_all-map}
use Rattle.std.proofs.lemmas.Str.Parse.{tells_all_ascii_digits}
use Rattle.clap.specs.Lexer.{long_of, long_of_rest, short_of, short_of_rest, strip_byte}
use Rattle.clap.specs.Words.{Text}
use Rattle.clap.proofs.WalkLemmas.{both}
use Rattle.ken_words.specs.Commands.{is_undashed}

abbrev pub IsUndashed : Text → Type 0
IsUndashed word = is_undashed word ≡ true

abbrev pub AreUndashed : List Text → Type 0
AreUndashed = AllByRecursion IsUndashed

nothing_stripped : (word : Text) → IsUndashed word → strip_byte 45 word ≡ None
nothing_stripped [] h = refl
nothing_stripped (x ∷ xs) h = rw (not-true (x == 45) h) refl

pub no_long : (word : Text) → IsUndashed word → long_of word ≡ None
no_long word h = ap (λ o. option_and_then long_of_rest (option_and_then (strip_byte 45) o)) (nothing_stripped word h)

pub no_short : (word : Text) → IsUndashed word → short_of word ≡ None
no_short word h = ap (option_and_then short_of_rest) (nothing_stripped word h)

pub no_dashes : (word : Text) → IsUndashed word → bytes_eq word (45 ∷ 45 ∷ []) ≡ false
no_dashes [] h = refl
no_dashes (x ∷ xs) h = rw (not-true (x == 45) h) refl

pub each_undashed : (words : List Text) → list_all is_undashed words ≡ true → AreUndashed words
each_undashed [] h = tt
each_undashed (word ∷ rest) h =
    let p = both (is_undashed word) _ h in
    (p.0, each_undashed rest p.1)

-- the test of the words from the third on, as bytes
pub undashed_bytes : (words : List (String Global))
    → list_all is_undashed (drop 2 (map string_bytes words)) ≡ list_all (λ word. is_undashed (string_bytes word)) (drop 2 words)
undashed_bytes words = ap (list_all is_undashed) (drop-map string_bytes 2 words) ∙ list_all-map is_undashed string_bytes (drop 2 words)

-- digits don't begin with one
pub digits_undashed : (word : Text) → all_ascii_digits word ≡ true → IsUndashed word
digits_undashed [] h = refl
digits_undashed (x ∷ xs) h = rw (ne_eqb x 45 (λ e. omega (arith, (tells_all_ascii_digits.parts x xs h).0, e))) refl
