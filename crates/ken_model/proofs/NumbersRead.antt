-- Numbers, senders and draws read back from their words.
use Rattle.std.proofs.Common.{◌≡◌, ℕ, ◌≤◌, List, [], ◌∷◌, map, All, Bool, true, false, ◌==◌, if◌then◌else◌, ◌≢◌, bytes_eq, codes, decimal, refl, subst, sym, arith, eqb-true, ne_eqb}
use Rattle.std.specs.Int.{IsInRange}
use Rattle.std.specs.List.{AllByRecursion}
use Rattle.std.proofs.lemmas.Bool.{false_from_ne_true}
use Rattle.std.proofs.lemmas.List.Elements.{All-head}
use Rattle.std.proofs.lemmas.Slice.Eq.{bytes_eq-Decides}
use Rattle.ken_num.specs.Numbers.{value_from}
use Rattle.ken_num.proofs.Decimals.{value_from-decimal, All-decimal}
use Rattle.ken_model.specs.Network.{outside}
use Rattle.ken_model.specs.Report.{sender_word, draws_word}
use Rattle.ken_model.specs.Spelling.{sender_of, draws_of, IsWord}
use Rattle.ken_model.proofs.Parts.{IsFree, All-join_with_byte, parts_at-join_with_byte}

-- so do many
map_value_from-map_decimal : (ns : List ℕ) → AllByRecursion IsWord ns → map (value_from 0) (map decimal ns) ≡ ns
map_value_from-map_decimal [] words = refl
map_value_from-map_decimal (n ∷ ns) words = let first = value_from-decimal n words.0 in let others = map_value_from-map_decimal ns words.1 in cc

-- and of each byte of many
pub each_decimal : (P : ℕ → Type 0) → ((b : ℕ) → IsInRange 48 57 b → P b) → (ns : List ℕ) → AllByRecursion IsWord ns → AllByRecursion (All P) (map decimal ns)
each_decimal P digit [] words = tt
each_decimal P digit (n ∷ ns) words = (All-decimal P digit n words.0, each_decimal P digit ns words.1)

-- a word differs from one that begins with a byte which it doesn't hold
bytes_eq-other : (P : ℕ → Type 0) (word : List ℕ) (b : ℕ) (bs : List ℕ) → All P word → (P b → ⊥) → bytes_eq word (b ∷ bs) ≡ false
bytes_eq-other P word b bs each never = false_from_ne_true _ (λ same. never (All-head P b bs (subst (All P) ((bytes_eq-Decides word (b ∷ bs)).0 same) each)))

-- a number isn't `out`, which begins with byte 111
sender_of-choice : (u : ℕ) (t : Bool) → (u == outside) ≡ t → IsWord u → sender_of (if t then codes "out" else decimal u) ≡ u
sender_of-choice u true is word = sym (eqb-true u outside is)
sender_of-choice u false is word = rw (bytes_eq-other (λ b. b ≤ 57) (decimal u) 111 _ (All-decimal (λ b. b ≤ 57) (λ b digit. digit.1) u word) (λ small. omega arith)) (value_from-decimal u word)

-- a sender comes back from its word
pub sender_of-sender_word : (u : ℕ) → IsWord u → sender_of (sender_word u) ≡ u
sender_of-sender_word u word = sender_of-choice u (u == outside) refl word

-- draws come back from their word: numbers and commas aren't `-`, which is byte 45
pub draws_of-draws_word : (draws : List ℕ) → AllByRecursion IsWord draws → draws_of (draws_word draws) ≡ draws
draws_of-draws_word [] words = refl
draws_of-draws_word (d ∷ ds) words =
    let differ : AllByRecursion (All (λ b. b ≢ 45)) (map decimal (d ∷ ds)) = each_decimal (λ b. b ≢ 45) (λ b digit. omega arith) (d ∷ ds) words in
    let free : AllByRecursion (IsFree 44) (map decimal (d ∷ ds)) = each_decimal (λ b. (b == 44) ≡ false) (λ b digit. ne_eqb b 44 (λ e. omega arith)) (d ∷ ds) words in
    let whole = All-join_with_byte (λ b. b ≢ 45) 44 (λ e. omega arith) (map decimal (d ∷ ds)) differ in
    rw (bytes_eq-other (λ b. b ≢ 45) (draws_word (d ∷ ds)) 45 [] whole (λ differs. differs refl), parts_at-join_with_byte 44 (decimal d) (map decimal ds) free) (map_value_from-map_decimal (d ∷ ds) words)
