-- What the names and the amount of an order are.
use Rattle.std.proofs.Common.{◌≡◌, ℕ, ◌+◌, ◌<◌, ◌≤◌, ◌^◌, List, length, take, drop, Bool, true, false, ◌&&◌, ◌==◌, nat_lt, nat_le, if◌then◌else◌, bytes_eq, codes, Option, Some, None, IfSome, option_map, option_and_then, refl, subst, arith}
use Rattle.std.specs.List.{position}
use Rattle.std.proofs.lemmas.Bool.Decides.{nat_tests}
use Rattle.ken_num.specs.Numbers.{num}
use Rattle.ken_num.proofs.Small.{num-lt}
use Rattle.ken_model.specs.Bank.{Order, Open, Move, Credit, name_in, name_of, at_name, at_num, named_amount, move_of, order_in, order_of}
use Rattle.ken_model.specs.KeyValue.{at_space}

-- a name, of which something holds
pub record IsNamed (P : List ℕ → Type 0) (name : List ℕ) : Type 0 where
  pub some : 0 < length name
  pub few : length name ≤ 32
  pub holds : P name

abbrev pub OrderHas : (List ℕ → Type 0) → Order → Type 0
OrderHas P (Open name amount) = IsNamed P name × (amount < 10 ^ 9)
OrderHas P (Move name amount to other) = IsNamed P name × IsNamed P other × (amount < 10 ^ 9)
OrderHas P (Credit name amount) = IsNamed P name × (amount < 10 ^ 9)

and_then-has : {A B : Type 0} (Q : B → Type 0) (f : A → Option B) (o : Option A) → ((a : A) → o ≡ Some a → IfSome (f a) Q) → IfSome (option_and_then f o) Q
and_then-has Q f None some = tt
and_then-has Q f (Some a) some = some a refl

map-has : {A B : Type 0} (Q : B → Type 0) (f : A → B) (o : Option A) → ((a : A) → o ≡ Some a → Q (f a)) → IfSome (option_map f o) Q
map-has Q f None some = tt
map-has Q f (Some a) some = some a refl

of_some : {A : Type 0} (Q : A → Type 0) (o : Option A) (a : A) → o ≡ Some a → IfSome o Q → Q a
of_some Q o a is has = subst (λ x. IfSome x Q) is has

either : {A : Type 0} (Q : A → Type 0) (c : Bool) (x y : Option A) → IfSome x Q → IfSome y Q → IfSome (if c then x else y) Q
either Q true x y p q = p
either Q false x y p q = q

-- what holds of a payload and of its parts holds of the names in it
module _ (P : List ℕ → Type 0) (front : (n : ℕ) (bytes : List ℕ) → P bytes → P (take n bytes)) (back : (n : ℕ) (bytes : List ℕ) → P bytes → P (drop n bytes)) where
  parts-have : (bytes : List ℕ) (parts : List ℕ × List ℕ) → P bytes → at_space bytes ≡ Some parts → P parts.0 × P parts.1
  parts-have bytes parts p is = go (position (λ b. b == 32) bytes) is
    where
      go : (o : Option ℕ) → option_map (λ i. (take i bytes, drop (i + 1) bytes)) o ≡ Some parts → P parts.0 × P parts.1
      go None e = absurd cc
      go (Some i) e =
          let same : (take i bytes, drop (i + 1) bytes) ≡ parts = cc in
          subst (λ (x : List ℕ × List ℕ). P x.0 × P x.1) same (front i bytes p, back (i + 1) bytes p)

  name-has : (bytes : List ℕ) → P bytes → IfSome (name_of bytes) (IsNamed P)
  name-has bytes p = go (at_space bytes)
    where
      fits : (t : Bool) → (t ≡ true → (0 < length bytes) × (length bytes ≤ 32)) → IfSome (if t then Some bytes else None) (IsNamed P)
      fits true is = (let long = is refl in record { some = long.0; few = long.1; holds = p })
      fits false is = tt

      go : (o : Option (List ℕ × List ℕ)) → IfSome (name_in bytes o) (IsNamed P)
      go None = fits (nat_lt 0 (length bytes) && nat_le (length bytes) 32) (λ e. (grind (arith, nat_tests, e), grind (arith, nat_tests, e)))
      go (Some parts) = tt

  at_name-has : (bytes : List ℕ) → P bytes → IfSome (at_name bytes) (λ x. IsNamed P x.0 × P x.1)
  at_name-has bytes p = and_then-has (λ (x : List ℕ × List ℕ). IsNamed P x.0 × P x.1) (λ parts. option_map (λ name. (name, parts.1)) (name_of parts.0)) (at_space bytes)
      (λ parts is. (let held = parts-have bytes parts p is in
      map-has (λ (x : List ℕ × List ℕ). IsNamed P x.0 × P x.1) (λ name. (name, parts.1)) (name_of parts.0) (λ name named. (of_some (IsNamed P) (name_of parts.0) name named (name-has parts.0 held.0), held.1))))

  at_num-has : (bytes : List ℕ) → P bytes → IfSome (at_num bytes) (λ x. (x.0 < 10 ^ 9) × P x.1)
  at_num-has bytes p = and_then-has (λ (x : ℕ × List ℕ). (x.0 < 10 ^ 9) × P x.1) (λ parts. option_map (λ n. (n, parts.1)) (num parts.0)) (at_space bytes)
      (λ parts is. (let held = parts-have bytes parts p is in
      map-has (λ (x : ℕ × List ℕ). (x.0 < 10 ^ 9) × P x.1) (λ n. (n, parts.1)) (num parts.0) (λ n small. (num-lt parts.0 n small, held.1))))

  named_amount-has : (bytes : List ℕ) → P bytes → IfSome (named_amount bytes) (λ x. IsNamed P x.0 × (x.1 < 10 ^ 9))
  named_amount-has bytes p = and_then-has (λ (x : List ℕ × ℕ). IsNamed P x.0 × (x.1 < 10 ^ 9)) (λ name. option_map (λ n. (name.0, n)) (num name.1)) (at_name bytes)
      (λ name is. map-has (λ (x : List ℕ × ℕ). IsNamed P x.0 × (x.1 < 10 ^ 9)) (λ n. (name.0, n)) (num name.1) (λ n small. ((of_some (λ (x : List ℕ × List ℕ). IsNamed P x.0 × P x.1) (at_name bytes) name is (at_name-has bytes p)).0, num-lt name.1 n small)))

  move-has : (bytes : List ℕ) → P bytes → IfSome (move_of bytes) (OrderHas P)
  move-has bytes p =
      and_then-has (OrderHas P) (λ name. option_and_then (λ amount. option_and_then (λ to. option_map (λ other. Move name.0 amount.0 to.0 other) (name_of to.1)) (at_num amount.1)) (at_num name.1)) (at_name bytes)
      (λ name named. (let n = of_some (λ (x : List ℕ × List ℕ). IsNamed P x.0 × P x.1) (at_name bytes) name named (at_name-has bytes p) in
      and_then-has (OrderHas P) (λ amount. option_and_then (λ to. option_map (λ other. Move name.0 amount.0 to.0 other) (name_of to.1)) (at_num amount.1)) (at_num name.1)
      (λ amount counted. (let a = of_some (λ (x : ℕ × List ℕ). (x.0 < 10 ^ 9) × P x.1) (at_num name.1) amount counted (at_num-has name.1 n.1) in
      and_then-has (OrderHas P) (λ to. option_map (λ other. Move name.0 amount.0 to.0 other) (name_of to.1)) (at_num amount.1)
      (λ to placed. (let t = of_some (λ (x : ℕ × List ℕ). (x.0 < 10 ^ 9) × P x.1) (at_num amount.1) to placed (at_num-has amount.1 a.1) in
      map-has (OrderHas P) (λ other. Move name.0 amount.0 to.0 other) (name_of to.1) (λ other is. (n.0, of_some (IsNamed P) (name_of to.1) other is (name-has to.1 t.1), a.0))))))))

  pub order-has : (payload : List ℕ) → P payload → IfSome (order_of payload) (OrderHas P)
  order-has payload p = go (at_space payload) (λ parts is. parts-have payload parts p is)
    where
      go : (o : Option (List ℕ × List ℕ)) → ((parts : List ℕ × List ℕ) → o ≡ Some parts → P parts.0 × P parts.1) → IfSome (order_in o) (OrderHas P)
      go None held = tt
      go (Some parts) held =
          let rest = (held parts refl).1 in
          let amounts = named_amount-has parts.1 rest in
          either (OrderHas P) (bytes_eq parts.0 (codes "open")) _ _
          (map-has (OrderHas P) (λ x. Open x.0 x.1) (named_amount parts.1) (λ x is. of_some (λ (y : List ℕ × ℕ). IsNamed P y.0 × (y.1 < 10 ^ 9)) (named_amount parts.1) x is amounts))
          (either (OrderHas P) (bytes_eq parts.0 (codes "move")) _ _ (move-has parts.1 rest)
          (either (OrderHas P) (bytes_eq parts.0 (codes "credit")) _ _
          (map-has (OrderHas P) (λ x. Credit x.0 x.1) (named_amount parts.1) (λ x is. of_some (λ (y : List ℕ × ℕ). IsNamed P y.0 × (y.1 < 10 ^ 9)) (named_amount parts.1) x is amounts))
          tt))
