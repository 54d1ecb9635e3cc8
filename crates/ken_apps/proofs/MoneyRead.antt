-- What a bank reads of the words of an order, and that the credit which a move sends is read back.
use Rattle.std.proofs.Common.{◌≡◌, ℕ, zero, suc, ◌+◌, ◌<◌, ◌^◌, List, [], ◌∷◌, ◌++◌, length, take, drop, Bool, true, false, ◌==◌, ◌&&◌, nat_le, nat_lt, if◌then◌else◌, Option, Some, None, IfSome, option_map, bytes_eq, codes, decimal, refl, sym, ◌∙◌, ap, subst, arith, eq-eqb, ne_eqb, ⊎_elim}
use Rattle.std.specs.Prelude.{option_and_then}
use Rattle.std.specs.List.{position}
use Rattle.std.proofs.lemmas.Bool.{cases_eq}
use Rattle.ken_num.specs.Numbers.{num}
use Rattle.ken_num.proofs.ReadBack.{num_decimal}
use Rattle.ken_num.proofs.Small.{num-lt}
use Rattle.ken_model.specs.KeyValue.{at_space}
use Rattle.ken_model.specs.Bank.{Order, Open, Move, Credit, name_in, name_of, at_name, at_num, named_amount, move_of, order_in, order_of, credit_text}

-- ---- a word before a space

abbrev space_in : List ℕ → Option ℕ
space_in bytes = position (λ b. b == 32) bytes

first_space : (b : ℕ) (bs : List ℕ) → (b == 32) ≡ true → space_in (b ∷ bs) ≡ Some 0
first_space b bs is = grind (arith, is)

later_space : (b : ℕ) (bs : List ℕ) → (b == 32) ≡ false → space_in (b ∷ bs) ≡ option_map suc (space_in bs)
later_space b bs other = grind (arith, other)

none_later : (o : Option ℕ) → option_map suc o ≡ None → o ≡ None
none_later None is = refl
none_later (Some i) is = absurd cc

space_past : (word rest : List ℕ) → space_in word ≡ None → space_in (word ++ 32 ∷ rest) ≡ Some (length word)
space_past [] rest none = first_space 32 rest refl
space_past (b ∷ bs) rest none =
    ⊎_elim
    (λ e. absurd (let here = first_space b bs (eq-eqb b 32 e) in cc))
    (λ ne. let other = ne_eqb b 32 ne in
    let before = none_later (space_in bs) (sym (later_space b bs other) ∙ none) in
    later_space b (bs ++ 32 ∷ rest) other ∙ ap (λ o. option_map suc o) (space_past bs rest before))
    (cases_eq b 32)

take_front : (xs ys : List ℕ) → take (length xs) (xs ++ ys) ≡ xs
take_front [] ys = refl
take_front (x ∷ xs) ys = ap (λ l. x ∷ l) (take_front xs ys)

pub drop_front : (xs : List ℕ) (y : ℕ) (ys : List ℕ) (n : ℕ) → n ≡ length xs + 1 → drop n (xs ++ y ∷ ys) ≡ ys
drop_front xs y ys zero is = absurd (omega (arith, is))
drop_front [] y ys (suc n) is = let none : n ≡ 0 = omega (arith, is) in ap (λ k. drop k ys) none
drop_front (x ∷ xs) y ys (suc n) is = drop_front xs y ys n (omega (arith, is))

abbrev parts_at : List ℕ → Option ℕ → Option (List ℕ × List ℕ)
parts_at bytes o = option_map (λ i. (take i bytes, drop (i + 1) bytes)) o

no_space : (bytes : List ℕ) (o : Option ℕ) → parts_at bytes o ≡ None → o ≡ None
no_space bytes None is = refl
no_space bytes (Some i) is = absurd cc

at_space_past : (word rest : List ℕ) → at_space word ≡ None → at_space (word ++ 32 ∷ rest) ≡ Some (word, rest)
at_space_past word rest none =
    let place = space_past word rest (no_space word (space_in word) none) in
    let front = take_front word (32 ∷ rest) in
    let back = drop_front word 32 rest (length word + 1) refl in
    rw place (rw (front, back) refl)

-- ---- a name is read as itself

named : (bytes : List ℕ) (b : Bool) (name : List ℕ) → (if b then Some bytes else None) ≡ Some name → bytes ≡ name
named bytes true name is = cc
named bytes false name is = absurd cc

name_parts : (bytes : List ℕ) (o : Option (List ℕ × List ℕ)) (name : List ℕ) → at_space bytes ≡ o → name_in bytes o ≡ Some name → (bytes ≡ name) × (o ≡ None)
name_parts bytes None name space is = (named bytes (nat_lt 0 (length bytes) && nat_le (length bytes) 32) name is, refl)
name_parts bytes (Some parts) name space is = absurd cc

-- a name has no space
pub name_spaceless : (bytes name : List ℕ) → name_of bytes ≡ Some name → at_space name ≡ None
name_spaceless bytes name is = let read = name_parts bytes (at_space bytes) name refl is in subst (λ k. at_space k ≡ None) read.0 read.1

pub name_again : (bytes name : List ℕ) → name_of bytes ≡ Some name → name_of name ≡ Some name
name_again bytes name is = let read = name_parts bytes (at_space bytes) name refl is in subst (λ k. name_of k ≡ Some name) read.0 is

-- ---- a credit is read as itself

named_amount_again : (name : List ℕ) (n : ℕ) → name_of name ≡ Some name → n < 10 ^ 9 → named_amount (name ++ 32 ∷ decimal n) ≡ Some (name, n)
named_amount_again name n named small =
    let split = at_space_past name (decimal n) (name_spaceless name name named) in
    let amount = num_decimal n small in
    rw split (rw named (rw amount refl))

pub credit_again : (name : List ℕ) (n : ℕ) → name_of name ≡ Some name → n < 10 ^ 9 → order_of (credit_text name n) ≡ Some (Credit name n)
credit_again name n named small =
    let split : at_space (credit_text name n) ≡ Some (codes "credit", name ++ 32 ∷ decimal n) = at_space_past (codes "credit") (name ++ 32 ∷ decimal n) refl in
    ap order_in split ∙ ap (λ o. option_map (λ (p : List ℕ × ℕ). Credit p.0 p.1) o) (named_amount_again name n named small)

-- ---- amounts are small, and the other's name is one

-- what holds of all that an option may be holds of it
if_some : {A : Type 0} (P : A → Type 0) (o : Option A) → ((x : A) → o ≡ Some x → P x) → IfSome o P
if_some P None each = tt
if_some P (Some x) each = each x refl

map_some : {A B : Type 0} (Q : A → Type 0) (P : B → Type 0) (f : A → B) (o : Option A) → IfSome o Q → ((x : A) → Q x → P (f x)) → IfSome (option_map f o) P
map_some Q P f None from each = tt
map_some Q P f (Some x) from each = each x from

then_some : {A B : Type 0} (Q : A → Type 0) (P : B → Type 0) (f : A → Option B) (o : Option A) → IfSome o Q → ((x : A) → Q x → IfSome (f x) P) → IfSome (option_and_then f o) P
then_some Q P f None from each = tt
then_some Q P f (Some x) from each = each x from

any_some : {A : Type 0} (o : Option A) → IfSome o (λ x. Unit {0})
any_some None = tt
any_some (Some x) = tt

either_some : {A : Type 0} (P : A → Type 0) (b : Bool) (x y : Option A) → IfSome x P → IfSome y P → IfSome (if b then x else y) P
either_some P true x y first other = first
either_some P false x y first other = other

-- a name that an order gives
abbrev pub IsName : List ℕ → Type 0
IsName name = name_of name ≡ Some name

-- an order's amount is small, and its names are names
abbrev pub IsRead : Order → Type 0
IsRead (Open name amount) = (amount < 10 ^ 9) × IsName name
IsRead (Move name amount to other) = (amount < 10 ^ 9) × IsName name × IsName other
IsRead (Credit name amount) = (amount < 10 ^ 9) × IsName name

num_small : (bytes : List ℕ) → IfSome (num bytes) (λ n. n < 10 ^ 9)
num_small bytes = if_some (λ n. n < 10 ^ 9) (num bytes) (num-lt bytes)

name_read : (bytes : List ℕ) → IfSome (name_of bytes) IsName
name_read bytes = if_some IsName (name_of bytes) (name_again bytes)

at_name_read : (bytes : List ℕ) → IfSome (at_name bytes) (λ (p : List ℕ × List ℕ). IsName p.0)
at_name_read bytes = then_some (λ p. Unit {0}) _ _ (at_space bytes) (any_some (at_space bytes)) (λ parts any. map_some IsName _ _ (name_of parts.0) (name_read parts.0) (λ name named. named))

at_num_small : (bytes : List ℕ) → IfSome (at_num bytes) (λ (p : ℕ × List ℕ). p.0 < 10 ^ 9)
at_num_small bytes = then_some (λ p. Unit {0}) _ _ (at_space bytes) (any_some (at_space bytes)) (λ parts any. map_some (λ n. n < 10 ^ 9) _ _ (num parts.0) (num_small parts.0) (λ n small. small))

named_read : (bytes : List ℕ) → IfSome (named_amount bytes) (λ (p : List ℕ × ℕ). (p.1 < 10 ^ 9) × IsName p.0)
named_read bytes = then_some (λ (p : List ℕ × List ℕ). IsName p.0) _ _ (at_name bytes) (at_name_read bytes) (λ name named. map_some (λ n. n < 10 ^ 9) _ _ (num name.1) (num_small name.1) (λ n small. (small, named)))

move_read : (bytes : List ℕ) → IfSome (move_of bytes) IsRead
move_read bytes =
    then_some (λ (p : List ℕ × List ℕ). IsName p.0) IsRead _ (at_name bytes) (at_name_read bytes) (λ name named.
    then_some (λ (p : ℕ × List ℕ). p.0 < 10 ^ 9) IsRead _ (at_num name.1) (at_num_small name.1) (λ amount small.
    then_some (λ p. Unit {0}) IsRead _ (at_num amount.1) (any_some (at_num amount.1)) (λ to any.
    map_some IsName IsRead _ (name_of to.1) (name_read to.1) (λ other other_named. (small, named, other_named)))))

order_in_read : (o : Option (List ℕ × List ℕ)) → IfSome (order_in o) IsRead
order_in_read None = tt
order_in_read (Some parts) =
    let P : List ℕ × ℕ → Type 0 = λ p. (p.1 < 10 ^ 9) × IsName p.0 in
    either_some IsRead (bytes_eq parts.0 (codes "open")) _ _ (map_some P IsRead _ (named_amount parts.1) (named_read parts.1) (λ p read. read))
    (either_some IsRead (bytes_eq parts.0 (codes "move")) _ _ (move_read parts.1)
    (either_some IsRead (bytes_eq parts.0 (codes "credit")) _ _ (map_some P IsRead _ (named_amount parts.1) (named_read parts.1) (λ p read. read)) tt))

pub order_read : (payload : List ℕ) → IfSome (order_of payload) IsRead
order_read payload = order_in_read (at_space payload)
