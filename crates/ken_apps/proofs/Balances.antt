-- Another balance, written over the old one in its block.
use Rattle.std.proofs.Common.{◌≡◌, ℕ, suc, ◌+◌, ◌<◌, List, [], ◌∷◌, ◌++◌, length, take, drop, get_or, Bool, true, false, ◌==◌, if◌then◌else◌, Option, Some, None, option_map, refl, ap, ◌∙◌, arith, append_assoc, take-suc}
use Rattle.std.specs.List.{position}
use Rattle.std.proofs.lemmas.Bool.Decides.{nat_tests}
use Rattle.std.proofs.lemmas.List.{length-take, append-nil}
use Rattle.std.proofs.lemmas.List.Quantifiers.{position-Some}
use Rattle.std.proofs.lemmas.Slice.Eq.{bytes_eq-Decides}
use Rattle.std.proofs.Math.ListN.{drop_of_length-le}
use Rattle.byteorder.specs.Endian.{big_bytes}
use Rattle.byteorder.specs.Numbers.{length-bytes_high_first}
use Rattle.ken_alloc.specs.Objects.{rewritten}
use Rattle.ken_model.specs.declared.values.Block.{Block}
use Rattle.ken_model.specs.Bank.{account}
use Rattle.ken_model.specs.Heap.{block_at, with_bytes}
use Rattle.ken_model.specs.KeyValue.{at_space, is_key}

-- bytes over those from a place on
abbrev over : ℕ → List ℕ → List ℕ → List ℕ
over at ys xs = take at xs ++ (ys ++ drop (at + length ys) xs)

-- a write into a block makes it the block that is wanted
rewritten_is : (place at : ℕ) (ys zs old : List ℕ) (bs : List Block) → block_at place bs ≡ Some old → over at ys old ≡ zs → rewritten place at ys bs ≡ with_bytes place zs bs
rewritten_is place at ys zs old [] stands is = absurd cc
rewritten_is place at ys zs old (b ∷ bs) stands is = go (b.place == place) (λ later. rewritten_is place at ys zs old bs later is) stands
  where
    go : (t : Bool) → (block_at place bs ≡ Some old → rewritten place at ys bs ≡ with_bytes place zs bs) → (if t then Some b.bytes else block_at place bs) ≡ Some old → (if t then record b { bytes = over at ys b.bytes } ∷ bs else b ∷ rewritten place at ys bs) ≡ (if t then record b { bytes = zs } ∷ bs else b ∷ with_bytes place zs bs)
    go true rest here =
        let same : b.bytes ≡ old = cc in
        ap (λ (x : List ℕ). (let c : Block = record b { bytes = x } in c ∷ bs)) (ap (λ (x : List ℕ). over at ys x) same ∙ is)
    go false rest later = ap (λ (l : List Block). b ∷ l) (rest later)

-- a pair begins with its key and a space
key_front : (name bytes : List ℕ) → is_key name (at_space bytes) ≡ true → take (length name + 1) bytes ≡ name ++ 32 ∷ []
key_front name bytes holds = go (position (λ b. b == 32) bytes) refl holds
  where
    go : (o : Option ℕ) → position (λ b. b == 32) bytes ≡ o → is_key name (option_map (λ i. (take i bytes, drop (i + 1) bytes)) o) ≡ true → take (length name + 1) bytes ≡ name ++ 32 ∷ []
    go None e h = absurd cc
    go (Some i) e h =
        let found = position-Some (λ b. b == 32) bytes i 0 e in
        let within : i < length bytes = found.0 in
        let space : get_or bytes i 0 ≡ 32 = grind (arith, nat_tests, found.1) in
        let same : take i bytes ≡ name = (bytes_eq-Decides (take i bytes) name).0 h in
        let long : length name + 1 ≡ suc i = omega (arith, ap length same, length-take i bytes, within) in
        ap (λ n. take n bytes) long ∙ take-suc bytes i 0 within ∙ ap (λ (s : List ℕ). s ++ (get_or bytes i 0 ∷ [])) same ∙ ap (λ (b : ℕ). name ++ b ∷ []) space

-- the 8 bytes of a balance over those of an account
balance_over : (name bytes : List ℕ) (balance : ℕ) → is_key name (at_space bytes) ≡ true → length bytes ≡ length name + 9 → over (length name + 1) (big_bytes 8 balance) bytes ≡ account name balance
balance_over name bytes balance key long =
    let eight = length-bytes_high_first 8 balance in
    let gone : drop (length name + 1 + length (big_bytes 8 balance)) bytes ≡ [] = drop_of_length-le bytes (omega (arith, eight, long)) in
    rw (gone, key_front name bytes key) (ap (λ (s : List ℕ). (name ++ 32 ∷ []) ++ s) (append-nil (big_bytes 8 balance)) ∙ append_assoc name (32 ∷ []) (big_bytes 8 balance))

pub new_balance : (place : ℕ) (name old : List ℕ) (balance : ℕ) (bs : List Block) → block_at place bs ≡ Some old → is_key name (at_space old) ≡ true → length old ≡ length name + 9 → rewritten place (length name + 1) (big_bytes 8 balance) bs ≡ with_bytes place (account name balance) bs
new_balance place name old balance bs stands key long = rewritten_is place (length name + 1) (big_bytes 8 balance) (account name balance) old bs stands (balance_over name old balance key long)
