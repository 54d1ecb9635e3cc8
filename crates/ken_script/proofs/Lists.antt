-- A list of items, in a loop over them.
use Rattle.std.proofs.Common.{◌≡◌, ℕ, suc, ◌+◌, ◌<◌, ◌≤◌, ◌==◌, ◌&&◌, ◌||◌, List, [], ◌∷◌, ◌++◌, length, map, get_or, take, drop, Bool, true, false, not, cond, if◌then◌else◌, nat_lt, Option, Some, None, option_map, option_and_then, refl, ap, sym, ◌∙◌, arith}
use Rattle.std.specs.List.{AllByRecursion, list_any, prefix_len}
use Rattle.std.specs.Ordering.{is_eq, ordering_then, nat_cmp}
use Rattle.std.specs.declared.cmp.Ordering.{Ordering}
use Rattle.std.specs.declared.cmp.Ordering.TheVariants.{Less, Equal, Greater}
use Rattle.std.specs.BTreeSet.{BTreeSet, contains, Updates}
use Rattle.std.proofs.lemmas.List.{take_more, take_all, drop_all, length-map}
use Rattle.std.proofs.Math.Seq.{drop-cons}
use Rattle.std.proofs.lemmas.Bool.Decides.{nat_tests}
use Rattle.serde_json.specs.Data.{Data}
use Rattle.serde_json.specs.View.{view, items_view}
use Rattle.serde_json.specs.declared.value.Value.{Value}
use Rattle.ken_script.specs.Keys.{listed}
use Rattle.ken_script.specs.Lists.{both, four, all_of, least, Spot, is_same, strikes_at, with_earlier, is_wrong, wrong_item}

-- an item that isn't a list of two is no pair
pub both-other : (vs : List Value) → (length vs ≡ 2 → ⊥) → both (items_view vs) ≡ None
both-other [] h = refl
both-other (a ∷ []) h = refl
both-other (a ∷ b ∷ []) h = absurd (h refl)
both-other (a ∷ b ∷ c ∷ vs) h = refl

-- the same of four
pub four-other : (vs : List Value) → (length vs ≡ 4 → ⊥) → four (items_view vs) ≡ None
four-other [] h = refl
four-other (a ∷ []) h = refl
four-other (a ∷ b ∷ []) h = refl
four-other (a ∷ b ∷ c ∷ []) h = refl
four-other (a ∷ b ∷ c ∷ d ∷ []) h = absurd (h refl)
four-other (a ∷ b ∷ c ∷ d ∷ e ∷ vs) h = refl

-- the first of what is said and the rest of it
pub record First {T : Type 0} (first : Option T) (rest : Option (List T)) (xs : List T) : Type 0 where
  pub one : T
  pub others : List T
  pub first_is : first ≡ Some one
  pub rest_is : rest ≡ Some others
  pub all : xs ≡ one ∷ others

first_of_all : {T : Type 0} (first : Option T) (rest : Option (List T)) (xs : List T) → option_and_then (λ x. option_map (λ more. x ∷ more) rest) first ≡ Some xs → First first rest xs
first_of_all None rest xs e = absurd cc
first_of_all (Some x) None xs e = absurd cc
first_of_all (Some x) (Some more) xs e = record { one = x; others = more; first_is = refl; rest_is = refl; all = cc }

pub length-listed : (vs : List Value) → length (listed (items_view vs)) ≡ length vs
length-listed [] = refl
length-listed (v ∷ vs) = ap suc (length-listed vs)

-- the first wrong item of so many, and the first past the room
unfoldable pub first_place : ℕ → ℕ → ℕ → Option ℕ
first_place wrong all room = least (if nat_lt wrong all then Some wrong else None) (if nat_lt room all then Some room else None)

pub at_wrong : (wrong all room i : ℕ) → wrong ≡ i → i < all → i < room → first_place wrong all room ≡ Some i
unfolding first_place
at_wrong wrong all room i here within roomy = grind (arith, nat_tests)

pub at_room : (wrong all room : ℕ) → room ≤ wrong → room < all → first_place wrong all room ≡ Some room
unfolding first_place
at_room wrong all room later past = grind (arith, nat_tests)

pub at_none : (wrong all room : ℕ) → wrong ≡ all → all ≤ room → first_place wrong all room ≡ None
unfolding first_place
at_none wrong all room whole roomy = grind (arith, nat_tests)

module _ {T : Type 0} (said : Data → Option T) where
  pub all_of-cons : (d : Data) (ds : List Data) (xs : List T) → all_of said (d ∷ ds) ≡ Some xs → First (said d) (all_of said ds) xs
  all_of-cons d ds xs e = first_of_all (said d) (all_of said ds) xs e

  -- one more item
  all_of-push : (vs : List Value) (v : Value) (xs : List T) (x : T) → all_of said (listed (items_view vs)) ≡ Some xs → said (view v) ≡ Some x → all_of said (listed (items_view (vs ++ v ∷ []))) ≡ Some (xs ++ x ∷ [])
  all_of-push [] v xs x e is = let none : xs ≡ [] = cc in rw (is, none)
  all_of-push (w ∷ vs) v xs x e is =
      let f = all_of-cons (view w) (listed (items_view vs)) xs e in
      rw (f.first_is, all_of-push vs v f.others x f.rest_is is) (ap (λ ys. Some (ys ++ x ∷ [])) (sym f.all))

  pub all_of-more : (vs : List Value) (i : ℕ) (v : Value) (xs : List T) (x : T) → i < length vs → v ≡ get_or vs i v → all_of said (listed (items_view (take i vs))) ≡ Some xs → said (view v) ≡ Some x
      → all_of said (listed (items_view (take (i + 1) vs))) ≡ Some (xs ++ x ∷ [])
  all_of-more vs i v xs x within here e is = rw (take_more vs i v within, sym here) (all_of-push (take i vs) v xs x e is)

  pub length-all_of : (ds : List Data) (xs : List T) → all_of said ds ≡ Some xs → length xs ≡ length ds
  length-all_of [] xs e = let none : xs ≡ [] = cc in rw none
  length-all_of (d ∷ ds) xs e =
      let f = all_of-cons d ds xs e in
      ap length f.all ∙ ap suc (length-all_of ds f.others f.rest_is)

  module _ (P : T → Type 0) (each : (d : Data) (x : T) → said d ≡ Some x → P x) where
    -- what holds of each item that says something
    pub all_of-each : (ds : List Data) (xs : List T) → all_of said ds ≡ Some xs → AllByRecursion P xs
    all_of-each [] xs e = let none : xs ≡ [] = cc in rw none tt
    all_of-each (d ∷ ds) xs e =
        let f = all_of-cons d ds xs e in
        rw f.all (each d f.one f.first_is, all_of-each ds f.others f.rest_is)

    pub all_said : (items : Option (List Data)) (xs : List T) → option_and_then (all_of said) items ≡ Some xs → AllByRecursion P xs
    all_said None xs e = absurd cc
    all_said (Some ds) xs e = all_of-each ds xs e

pub false_of_not : (b : Bool) → not b ≡ true → b ≡ false
false_of_not true e = sym e
false_of_not false e = refl

pub true_of_not : (b : Bool) → not b ≡ false → b ≡ true
true_of_not true e = refl
true_of_not false e = sym e

-- what `insert` answers tells whether the set had the key
pub had : (b fresh : Bool) → fresh ≡ not b → fresh ≡ false → b ≡ true
had true fresh e old = refl
had false fresh e old = sym old ∙ e

pub had_not : (b fresh : Bool) → fresh ≡ not b → fresh ≡ true → b ≡ false
had_not true fresh e new = sym new ∙ e
had_not false fresh e new = refl

-- spots in the order of their parts
abbrev pub spot_cmp : Spot → Spot → Ordering
spot_cmp s t = ordering_then (ordering_then (nat_cmp s.0 t.0) (nat_cmp s.1 t.1)) (nat_cmp s.2 t.2)

equal_numbers : (x y : ℕ) → is_eq (nat_cmp x y) ≡ (x == y)
equal_numbers x y = grind (arith, nat_tests)

both_equal : (a b : Ordering) → is_eq (ordering_then a b) ≡ is_eq a && is_eq b
both_equal Less b = refl
both_equal Equal b = refl
both_equal Greater b = refl

equal_spots : (s t : Spot) → is_eq (spot_cmp s t) ≡ is_same s t
equal_spots s t =
    both_equal (ordering_then (nat_cmp s.0 t.0) (nat_cmp s.1 t.1)) (nat_cmp s.2 t.2)
    ∙ ap (λ b. b && is_eq (nat_cmp s.2 t.2)) (both_equal (nat_cmp s.0 t.0) (nat_cmp s.1 t.1))
    ∙ (λ i. (equal_numbers s.0 t.0 i && equal_numbers s.1 t.1 i) && equal_numbers s.2 t.2 i)

same_spots : (s t : Spot) → is_same s t ≡ is_same t s
same_spots s t = grind (arith, nat_tests)

length-with_earlier : {S : Type 0} (earlier : List S) (ss : List S) → length (with_earlier earlier ss) ≡ length ss
length-with_earlier earlier [] = refl
length-with_earlier earlier (s ∷ ss) = ap suc (length-with_earlier (s ∷ earlier) ss)

-- one more spot that was met
met_more : (a b : Bool) → cond a true b ≡ (a || b)
met_more true b = refl
met_more false b = refl

module _ {T : Type 0} (said : Data → Option T) (spot : T → Spot) where
  -- where the items strike
  pub struck : List Value → List (Option Spot)
  struck vs = map (λ d. option_map spot (said d)) (listed (items_view vs))

  -- how many of the items are right, from the first on, after the earlier ones
  pub right_after : List (Option Spot) → List Value → ℕ
  right_after earlier vs = prefix_len (λ p. not (is_wrong p.0 p.1)) (with_earlier earlier (struck vs))

  as_place : (room : ℕ) (vs : List Value) → wrong_item said spot room (listed (items_view vs)) ≡ first_place (right_after [] vs) (length vs) room
  unfolding first_place right_after struck
  as_place room vs =
      let fronts : length (with_earlier [] (struck vs)) ≡ length vs = length-with_earlier [] (struck vs) ∙ length-map (listed (items_view vs)) (λ d. option_map spot (said d)) ∙ length-listed vs in
      let all = length-listed vs in
      λ i. least (if nat_lt (right_after [] vs) (fronts i) then Some (right_after [] vs) else None) (if nat_lt room (all i) then Some room else None)

  -- the items before a place say these mishaps, and no two of them strike at one place; the set has the places at which they do
  pub record Walk (room : ℕ) (vs : List Value) (met : BTreeSet Spot) (i : ℕ) (xs : List T) : Type 0 where
    pub earlier : List (Option Spot)
    pub spots : (s : Spot) → contains spot_cmp met s ≡ list_any (strikes_at s) earlier
    pub right : right_after [] vs ≡ i + right_after earlier (drop i vs)
    pub all : all_of said (listed (items_view (take i vs))) ≡ Some xs
    pub roomy : i ≤ room

  -- how many are right after one more
  right_on : (all i first : ℕ) (after : List Value → ℕ) (vs : List Value) → all ≡ i + first → first ≡ 1 + after (drop (suc i) vs) → all ≡ (i + 1) + after (drop (i + 1) vs)
  right_on all i first after vs so one =
      let next : suc i ≡ i + 1 = omega arith in
      let later : after (drop (suc i) vs) ≡ after (drop (i + 1) vs) = ap (λ n. after (drop n vs)) next in
      omega (arith, so, one, later)

  wrong_none : (earlier : List (Option Spot)) (v : Value) (vs : List Value) → said (view v) ≡ None → right_after earlier (v ∷ vs) ≡ 0
  unfolding right_after struck
  wrong_none earlier v vs none = rw none

  wrong_again : (earlier : List (Option Spot)) (v : Value) (vs : List Value) (x : T) → said (view v) ≡ Some x → list_any (strikes_at (spot x)) earlier ≡ true → right_after earlier (v ∷ vs) ≡ 0
  unfolding right_after struck
  wrong_again earlier v vs x is again = rw (is, again)

  right_one : (earlier : List (Option Spot)) (v : Value) (vs : List Value) (x : T) → said (view v) ≡ Some x → list_any (strikes_at (spot x)) earlier ≡ false → right_after earlier (v ∷ vs) ≡ 1 + right_after (Some (spot x) ∷ earlier) vs
  unfolding right_after struck
  right_one earlier v vs x is fresh = rw (is, fresh)

  nothing : (earlier : List (Option Spot)) → right_after earlier [] ≡ 0
  unfolding right_after struck
  nothing earlier = refl

  pub walk_start : (room : ℕ) (vs : List Value) (met : BTreeSet Spot) → met.keys ≡ [] → Walk room vs met 0 []
  walk_start room vs met none = record { earlier = []; spots = λ s. ap (list_any (λ k. is_eq (spot_cmp s k))) none; right = omega arith; all = refl; roomy = omega arith }

  module _ (room : ℕ) (vs : List Value) (met : BTreeSet Spot) (i : ℕ) (xs : List T) (walk : Walk room vs met i xs) where
    module _ (v : Value) (within : i < length vs) (here : v ≡ get_or vs i v) where
      next : drop i vs ≡ v ∷ drop (suc i) vs
      next = drop-cons vs i v within ∙ ap (λ w. w ∷ drop (suc i) vs) (sym here)

      wrong_at : i < room → right_after walk.earlier (v ∷ drop (suc i) vs) ≡ 0 → wrong_item said spot room (listed (items_view vs)) ≡ Some i
      wrong_at fits wrong =
          let first : right_after walk.earlier (drop i vs) ≡ 0 = ap (right_after walk.earlier) next ∙ wrong in
          as_place room vs ∙ at_wrong (right_after [] vs) (length vs) room i (omega (arith, first, walk.right)) within fits

      -- the first item that says nothing
      pub none_here : i < room → said (view v) ≡ None → wrong_item said spot room (listed (items_view vs)) ≡ Some i
      none_here fits none = wrong_at fits (wrong_none walk.earlier v (drop (suc i) vs) none)

      module _ (x : T) (is : Some x ≡ said (view v)) where
        -- the first item that strikes where an earlier one does
        pub again_here : i < room → contains spot_cmp met (spot x) ≡ true → wrong_item said spot room (listed (items_view vs)) ≡ Some i
        again_here fits again = wrong_at fits (wrong_again walk.earlier v (drop (suc i) vs) x (sym is) (sym (walk.spots (spot x)) ∙ again))

        -- one more item
        pub walk_on : (new : BTreeSet Spot) → i < room → contains spot_cmp met (spot x) ≡ false → Updates spot_cmp met new (spot x) true → Walk room vs new (i + 1) (xs ++ x ∷ [])
        walk_on new fits fresh updates =
            let one : right_after walk.earlier (drop i vs) ≡ 1 + right_after (Some (spot x) ∷ walk.earlier) (drop (suc i) vs) = ap (right_after walk.earlier) next ∙ right_one walk.earlier v (drop (suc i) vs) x (sym is) (sym (walk.spots (spot x)) ∙ fresh) in
            record {
              earlier = Some (spot x) ∷ walk.earlier;
              spots = λ s. updates.0 s ∙ met_more (is_eq (spot_cmp (spot x) s)) (contains spot_cmp met s) ∙ (λ j. (equal_spots (spot x) s ∙ same_spots (spot x) s) j || walk.spots s j);
              right = right_on (right_after [] vs) i (right_after walk.earlier (drop i vs)) (right_after (Some (spot x) ∷ walk.earlier)) vs walk.right one;
              all = all_of-more said vs i v xs x within here walk.all (sym is);
              roomy = omega (arith, fits);
            }

    -- the first item past the room
    pub too_many : i < length vs → i ≡ room → wrong_item said spot room (listed (items_view vs)) ≡ Some i
    too_many past full =
        as_place room vs ∙ at_room (right_after [] vs) (length vs) room (omega (arith, walk.right, full)) (omega (arith, past, full)) ∙ ap Some (sym full)

    pub none_wrong : i ≡ length vs → wrong_item said spot room (listed (items_view vs)) ≡ None
    none_wrong end =
        let rest : right_after walk.earlier (drop i vs) ≡ 0 = ap (right_after walk.earlier) (drop_all i vs (omega (arith, end))) ∙ nothing walk.earlier in
        as_place room vs ∙ at_none (right_after [] vs) (length vs) room (omega (arith, rest, walk.right, end)) (omega (arith, walk.roomy, end))

    pub said_all : i ≡ length vs → all_of said (listed (items_view vs)) ≡ Some xs
    said_all end = ap (λ ws. all_of said (listed (items_view ws))) (sym (take_all i vs (omega (arith, end)))) ∙ walk.all
