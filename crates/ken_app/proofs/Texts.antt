-- Texts that are within the limits of a turn.
use Rattle.std.proofs.Common.{◌≡◌, ℕ, ◌<◌, ◌^◌, List, [], ◌∷◌, length, Bool, true, false, ◌==◌, ◌&&◌, not, nat_le, decimal, refl, ap, arith, ne_eqb, le-leb}
use Rattle.std.specs.List.{AllByRecursion, list_all}
use Rattle.std.specs.Int.{IsInRange}
use Rattle.std.proofs.lemmas.Fmt.{length-decimal-le}
use Rattle.std.proofs.lemmas.List.Elements.{recursion_from_All}
use Rattle.ken_model.specs.declared.facts.TheConstants.{MAX_TEXT}
use Rattle.ken_num.proofs.Decimals.{All-decimal}
use Rattle.ken_app.specs.Limited.{is_line, is_text}

both_true : (a b : Bool) → a ≡ true → b ≡ true → a && b ≡ true
both_true true b a_is b_is = b_is
both_true false b a_is b_is = absurd cc

all_true : {X : Type 0} (p : X → Bool) (xs : List X) → AllByRecursion (λ x. p x ≡ true) xs → list_all p xs ≡ true
all_true p [] all = refl
all_true p (x ∷ xs) all = both_true (p x) (list_all p xs) all.0 (all_true p xs all.1)

not_feed : (b : ℕ) → IsInRange 48 57 b → not (b == 10) ≡ true
not_feed b digit = ap not (ne_eqb b 10 (λ e. omega arith))

pub decimal_is_line : (n : ℕ) → n < 2 ^ 64 → is_line (decimal n) ≡ true
decimal_is_line n word = all_true (λ b. not (b == 10)) (decimal n) (recursion_from_All (λ b. not (b == 10) ≡ true) (decimal n) (All-decimal (λ b. not (b == 10) ≡ true) not_feed n word))

-- a number of 64 bits is one line, and short
pub decimal_is_text : (n : ℕ) → n < 2 ^ 64 → is_text (decimal n) ≡ true
decimal_is_text n word =
    let short = length-decimal-le 20 n (omega arith) (omega (arith, word)) word in
    both_true (nat_le (length (decimal n)) MAX_TEXT) (is_line (decimal n)) (le-leb (length (decimal n)) MAX_TEXT (omega (arith, short))) (decimal_is_line n word)
