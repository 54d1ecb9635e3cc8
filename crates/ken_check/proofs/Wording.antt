-- Words of a line, read back.
use Rattle.std.proofs.Common.{◌≡◌, ℕ, ◌<◌, ◌^◌, List, [], ◌∷◌, ◌++◌, Bool, true, false, ◌==◌, if◌then◌else◌, codes, decimal, map, Option, Some, None, MatchOption, IfSome, refl, sym, ap, ◌∙◌, arith, ne_eqb, length, get_or, suc, zero}
use Rattle.std.specs.List.{AllByRecursion}
use Rattle.std.proofs.lemmas.List.{same_from_push}
use Rattle.std.proofs.lemmas.Fmt.{decimal_injective}
use Rattle.ken_model.specs.Network.{outside}
use Rattle.ken_model.specs.Report.{sender_word, draws_word}
use Rattle.ken_model.specs.Spelling.{IsWord, draws_of, parts_at, sender_of}
use Rattle.ken_model.proofs.NumbersRead.{draws_of-draws_word, each_decimal, sender_of-sender_word}
use Rattle.ken_model.proofs.Parts.{IsFree, parts_at-join_with_byte}

-- a number is read from its digits
pub decimal_read : (n : ℕ) → n < 2 ^ 64 → (bytes : List ℕ) → decimal n ≡ bytes → (r : Option ℕ) → IfSome r (λ m. m < 2 ^ 64) → MatchOption r ((m : ℕ) → m < 2 ^ 64 → decimal m ≡ bytes → ⊥) (λ m. decimal m ≡ bytes) → r ≡ Some n
decimal_read n small bytes digits None few read = absurd (read n small digits)
decimal_read n small bytes digits (Some m) few read = ap (λ (k : ℕ). Some k) (decimal_injective m n few small (read ∙ sym digits))

-- `out` is the outside
pub sender_of_out : (n : ℕ) → n < 2 ^ 8 → sender_word n ≡ codes "out" → n ≡ 255
sender_of_out n small is = let word : IsWord n = omega arith in sym (sender_of-sender_word n word) ∙ ap sender_of is

by_choice : (n : ℕ) (b : Bool) → ((if b then codes "out" else decimal n) ≡ codes "out" → ⊥) → (if b then codes "out" else decimal n) ≡ decimal n
by_choice n true other = absurd (other refl)
by_choice n false other = refl

-- any other sender is a number
pub sender_of_number : (n : ℕ) → (sender_word n ≡ codes "out" → ⊥) → sender_word n ≡ decimal n
sender_of_number n other = by_choice n (n == outside) other

-- `-` is no draws
pub draws_of_none : (ds : List ℕ) → AllByRecursion IsWord ds → draws_word ds ≡ codes "-" → ds ≡ []
draws_of_none ds words is = sym (draws_of-draws_word ds words) ∙ ap draws_of is

-- what stands at a place is one thing
pub same_word : (o : Option (List ℕ)) (v w : List ℕ) → Some v ≡ o → o ≡ Some w → w ≡ v
same_word o v w a b = cc

-- a text and a line feed end one way
pub same_line : (line text front : List ℕ) (last : ℕ) → line ≡ front ++ last ∷ [] → line ≡ text ++ 10 ∷ [] → (front ≡ text) × (last ≡ 10)
same_line line text front last a b = same_from_push front text last 10 (sym a ∙ b)

by_draws : (ds : List ℕ) → AllByRecursion IsWord ds → (draws_word ds ≡ codes "-" → ⊥) → parts_at 44 (draws_word ds) ≡ map decimal ds
by_draws [] words other = absurd (other refl)
by_draws (d ∷ ds) words other =
    let free : AllByRecursion (IsFree 44) (map decimal (d ∷ ds)) = each_decimal (λ b. (b == 44) ≡ false) (λ b digit. ne_eqb b 44 (λ e. omega arith)) (d ∷ ds) words in
    parts_at-join_with_byte 44 (decimal d) (map decimal ds) free

-- other draws are numbers, each a part round the commas
pub parts_of_draws : (ds : List ℕ) → AllByRecursion IsWord ds → (word : List ℕ) → word ≡ draws_word ds → (word ≡ codes "-" → ⊥) → parts_at 44 word ≡ map decimal ds
parts_of_draws ds words word is other = ap (parts_at 44) is ∙ by_draws ds words (λ none. other (is ∙ none))

-- numbers come back from their spellings
pub same_numbers : (xs ds : List ℕ) → AllByRecursion IsWord xs → AllByRecursion IsWord ds → map decimal xs ≡ map decimal ds → xs ≡ ds
same_numbers [] [] few words same = refl
same_numbers [] (d ∷ ds) few words same = absurd cc
same_numbers (x ∷ xs) [] few words same = absurd cc
same_numbers (x ∷ xs) (d ∷ ds) few words same =
    let first : decimal x ≡ decimal d = cc in
    let others : map decimal xs ≡ map decimal ds = cc in
    let head = decimal_injective x d few.0 words.0 first in
    let tail = same_numbers xs ds few.1 words.1 others in
    cc

-- each part of draws is the spelling of a number
pub part_is_number : (ds : List ℕ) → AllByRecursion IsWord ds → (k : ℕ) (w : List ℕ) → k < length (map decimal ds) → w ≡ get_or (map decimal ds) k w → ((m : ℕ) → m < 2 ^ 64 → decimal m ≡ w → ⊥) → ⊥
part_is_number [] words k w within is none = omega (arith, within)
part_is_number (d ∷ ds) words zero w within is none = none d words.0 (sym is)
part_is_number (d ∷ ds) words (suc k) w within is none = part_is_number ds words.1 k w (omega (arith, within)) is none
