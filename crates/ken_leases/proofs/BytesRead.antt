-- A lease is read back from its bytes.
use Rattle.std.proofs.Common.{◌≡◌, ℕ, suc, ◌+◌, ◌^◌, ◌<◌, List, [], ◌∷◌, ◌++◌, length, take, drop, false, ◌==◌, bytes_eq, Option, Some, None, option_map, refl, sym, ◌∙◌, ap, arith, append-nil, eq-eqb, ne_eqb, ⊎_elim}
use Rattle.std.specs.List.{position}
use Rattle.std.proofs.lemmas.Bool.{cases_eq}
use Rattle.std.proofs.lemmas.List.{drop_at}
use Rattle.std.proofs.Math.Nat.{mod-eq_of_lt}
use Rattle.byteorder.specs.Endian.{big_bytes, big_number}
use Rattle.byteorder.specs.Numbers.{length-bytes_high_first, big_from-bytes}
use Rattle.ken_model.specs.KeyValue.{at_space, is_key}
use Rattle.ken_apps.proofs.MoneyRead.{drop_front}
use Rattle.ken_leases.specs.declared.blocks.Lease.{Lease}
use Rattle.ken_leases.specs.Leases.{lease_bytes, lease_in}

-- ---- the name before the space

abbrev space_in : List ℕ → Option ℕ
space_in bytes = position (λ b. b == 32) bytes

later_space : (b : ℕ) (bs : List ℕ) → (b == 32) ≡ false → space_in (b ∷ bs) ≡ option_map suc (space_in bs)
later_space b bs other = grind (arith, other)

none_later : (o : Option ℕ) → option_map suc o ≡ None → o ≡ None
none_later None is = refl
none_later (Some i) is = absurd cc

space_past : (word rest : List ℕ) → space_in word ≡ None → space_in (word ++ 32 ∷ rest) ≡ Some (length word)
space_past [] rest none = grind arith
space_past (b ∷ bs) rest none = ⊎_elim
    (λ e. absurd (let here : space_in (b ∷ bs) ≡ Some 0 = grind (arith, eq-eqb b 32 e) in cc))
    (λ ne. let other = ne_eqb b 32 ne in
    let before = none_later (space_in bs) (sym (later_space b bs other) ∙ none) in
    later_space b (bs ++ 32 ∷ rest) other ∙ ap (λ o. option_map suc o) (space_past bs rest before))
    (cases_eq b 32)

take_front : (xs ys : List ℕ) → take (length xs) (xs ++ ys) ≡ xs
take_front [] ys = refl
take_front (x ∷ xs) ys = ap (λ l. x ∷ l) (take_front xs ys)

abbrev parts_at : List ℕ → Option ℕ → Option (List ℕ × List ℕ)
parts_at bytes o = option_map (λ i. (take i bytes, drop (i + 1) bytes)) o

no_space : (bytes : List ℕ) (o : Option ℕ) → parts_at bytes o ≡ None → o ≡ None
no_space bytes None is = refl
no_space bytes (Some i) is = absurd cc

name_before : (name rest : List ℕ) → at_space name ≡ None → at_space (name ++ 32 ∷ rest) ≡ Some (name, rest)
name_before name rest none =
    let place = space_past name rest (no_space name (space_in name) none) in
    let front = take_front name (32 ∷ rest) in
    let back = drop_front name 32 rest (length name + 1) refl in
    rw place (rw (front, back) refl)

-- the key of a lease's bytes is its name
pub key_of_lease : (name other : List ℕ) (lease : Lease) → at_space name ≡ None → is_key other (at_space (lease_bytes name lease)) ≡ bytes_eq name other
key_of_lease name other lease none = ap (is_key other) (name_before name (lease.holder ∷ (big_bytes 8 lease.from ++ big_bytes 8 lease.until)) none)

-- ---- the fields behind it

number_back : (n : ℕ) (rest : List ℕ) → n < 2 ^ 64 → big_number 8 (big_bytes 8 n ++ rest) ≡ n
number_back n rest word = big_from-bytes 8 n rest ∙ mod-eq_of_lt word

fields_back : (holder from until : ℕ) → from < 2 ^ 64 → until < 2 ^ 64 → lease_in (holder ∷ (big_bytes 8 from ++ big_bytes 8 until)) ≡ record { holder = holder; from = from; until = until }
fields_back holder from until first last =
    let begins : big_number 8 (big_bytes 8 from ++ big_bytes 8 until) ≡ from = number_back from (big_bytes 8 until) first in
    let rest : drop 8 (big_bytes 8 from ++ big_bytes 8 until) ≡ big_bytes 8 until = drop_at (big_bytes 8 from) (big_bytes 8 until) 8 (sym (length-bytes_high_first 8 from)) in
    let ends : big_number 8 (drop 8 (big_bytes 8 from ++ big_bytes 8 until)) ≡ until = ap (big_number 8) (rest ∙ sym (append-nil (big_bytes 8 until))) ∙ number_back until [] last in
    ap (λ (x : ℕ). (let l : Lease = record { holder = holder; from = x; until = big_number 8 (drop 8 (big_bytes 8 from ++ big_bytes 8 until)) } in l)) begins
    ∙ ap (λ (x : ℕ). (let l : Lease = record { holder = holder; from = from; until = x } in l)) ends

pub lease_back : (name : List ℕ) (lease : Lease) → lease.from < 2 ^ 64 → lease.until < 2 ^ 64 → lease_in (drop (length name + 1) (lease_bytes name lease)) ≡ lease
lease_back name lease first last = ap lease_in (drop_front name 32 (lease.holder ∷ (big_bytes 8 lease.from ++ big_bytes 8 lease.until)) (length name + 1) refl) ∙ fields_back lease.holder lease.from lease.until first last
