-- Nothing is passed on or kept that wasn't put.
use Rattle.std.proofs.Common.{◌≡◌, ◌∙◌, ℕ, zero, suc, ◌+◌, ◌-◌, ◌⊎◌, inl, inr, Bool, true, false, cond, nat_le, List, [], ◌∷◌, ◌++◌, slice_index_or, slice_set, Option, Some, None, refl, sym, ap, subst, arith}
use Rattle.std.specs.Prelude.{map}
use Rattle.std.specs.List.{Contains}
use Rattle.std.proofs.lemmas.List.Elements.{Contains-append_cases, Contains-append_right}
use Rattle.ken_net.specs.declared.act.Act.{Act}
use Rattle.ken_net.specs.declared.act.Act.TheVariants.{Lose, Repeat, Hold}
use Rattle.ken_net.specs.declared.link.Kept.{Kept}
use Rattle.ken_net.specs.Acts.{copies, held}
use Rattle.ken_net.specs.Puts.{Put, alone}
use Rattle.ken_net.specs.Standings.{Standing, no_link, link_to, next_act, due, still, after_put, passed, after_puts, all_passed}
use Rattle.ken_net.specs.Origins.{WasPut, IsKept, WasThere, ComesFrom}

-- ---- members

none_in : {A : Type 0} (x : A) → Contains [] x → ⊥
none_in x (k, low, is) = omega (arith, low)

pub first_in : {A : Type 0} (x : A) (xs : List A) → Contains (x ∷ xs) x
first_in x xs = (0, omega arith, refl)

pub later_in : {A : Type 0} (x : A) (xs : List A) (y : A) → Contains xs y → Contains (x ∷ xs) y
later_in x xs y there = Contains-append_right (x ∷ []) xs y there

one_in : {A : Type 0} (x y : A) → Contains (x ∷ []) y → x ≡ y
one_in x y (zero, low, is) = is
one_in x y (suc k, low, is) = absurd (omega (arith, low))

pub in_front : {A : Type 0} (x : A) (xs : List A) (y : A) → Contains (x ∷ xs) y → (x ≡ y) ⊎ Contains xs y
in_front x xs y (zero, low, is) = inl is
in_front x xs y (suc k, low, is) = inr (k, omega (arith, low), is)

in_map : {A B : Type 0} (f : A → B) (xs : List A) (y : B) → Contains (map f xs) y → (x : A) × Contains xs x × (f x ≡ y)
in_map f [] y there = absurd (none_in y there)
in_map f (x ∷ xs) y there = elim (in_front (f x) (map f xs) y there) [
  | inl is ↦ (x, first_in x xs, is)
  | inr on ↦ let found = in_map f xs y on in (found.0, later_in x xs found.0 found.1, found.2)
]

-- ---- one put

copy_is : (act : Option Act) (bytes b : List ℕ) → Contains (copies act bytes) b → bytes ≡ b
copy_is None bytes b there = one_in bytes b there
copy_is (Some Lose) bytes b there = absurd (none_in b there)
copy_is (Some Repeat) bytes b there = elim (in_front bytes (bytes ∷ []) b there) [ inl is ↦ is | inr on ↦ one_in bytes b on ]
copy_is (Some (Hold k)) bytes b there = absurd (none_in b there)

held_is : (act : Option Act) (bytes : List ℕ) (k : Kept) → Contains (held act bytes) k → bytes ≡ k.bytes
held_is None bytes k there = absurd (none_in k there)
held_is (Some Lose) bytes k there = absurd (none_in k there)
held_is (Some Repeat) bytes k there = absurd (none_in k there)
held_is (Some (Hold n)) bytes k there = ap (λ (x : Kept). x.bytes) (one_in (record { wait = n + 1; bytes = bytes }) k there)

-- a packet is among those of a list
abbrev IsOf : List Kept → List ℕ → Type 0
IsOf ks bytes = (k : Kept) × Contains ks k × (k.bytes ≡ bytes)

of_later : (k : Kept) (ks : List Kept) (bytes : List ℕ) → IsOf ks bytes → IsOf (k ∷ ks) bytes
of_later k ks bytes (x, there, is) = (x, later_in k ks x there, is)

due_one : (b : Bool) (k : Kept) (ks : List Kept) (bytes : List ℕ) → (Contains (due ks) bytes → IsOf ks bytes) → Contains (cond b (k.bytes ∷ due ks) (due ks)) bytes → IsOf (k ∷ ks) bytes
due_one true k ks bytes rest there = elim (in_front k.bytes (due ks) bytes there) [
  | inl is ↦ (k, first_in k ks, is)
  | inr on ↦ of_later k ks bytes (rest on)
]
due_one false k ks bytes rest there = of_later k ks bytes (rest there)

due_of : (ks : List Kept) (bytes : List ℕ) → Contains (due ks) bytes → IsOf ks bytes
due_of [] bytes there = absurd (none_in bytes there)
due_of (k ∷ ks) bytes there = due_one (nat_le k.wait 1) k ks bytes (due_of ks bytes) there

still_one : (b : Bool) (n : ℕ) (k : Kept) (ks : List Kept) (bytes : List ℕ) → (IsOf (still ks) bytes → IsOf ks bytes) → IsOf (cond b (still ks) (record k { wait = n } ∷ still ks)) bytes → IsOf (k ∷ ks) bytes
still_one true n k ks bytes rest there = of_later k ks bytes (rest there)
still_one false n k ks bytes rest (x, there, is) = elim (in_front (record k { wait = n }) (still ks) x there) [
  | inl same ↦ (k, first_in k ks, ap (λ (y : Kept). y.bytes) same ∙ is)
  | inr on ↦ of_later k ks bytes (rest (x, on, is))
]

still_of : (ks : List Kept) (bytes : List ℕ) → IsOf (still ks) bytes → IsOf ks bytes
still_of [] bytes there = there
still_of (k ∷ ks) bytes there = still_one (nat_le k.wait 1) (k.wait - 1) k ks bytes (still_of ks bytes) there

-- of what is kept with what is held anew
of_both : (act : Option Act) (kept : List Kept) (bytes b : List ℕ) → IsOf (kept ++ held act bytes) b → (bytes ≡ b) ⊎ IsOf kept b
of_both act kept bytes b (k, there, is) = elim (Contains-append_cases kept (held act bytes) k there) [
  | inl old ↦ inr (k, old, is)
  | inr new ↦ inl (held_is act bytes k new ∙ is)
]

-- what a put passes on is it, or a packet that is or was kept
passed_from : (p : Put) (s : Standing) (x : Put) → Contains (passed p s) x → (p ≡ x) ⊎ ((b : List ℕ) × (alone p.to b ≡ x) × ((p.bytes ≡ b) ⊎ IsOf s.kept b))
passed_from p s x there =
    let again : List ℕ → Put = λ b. record p { bytes = b } in
    elim (Contains-append_cases (map again (copies (next_act s) p.bytes)) (map (alone p.to) (due (s.kept ++ held (next_act s) p.bytes))) x there) [
      | inl now ↦ let m = in_map again (copies (next_act s) p.bytes) x now in inl (ap again (copy_is (next_act s) p.bytes m.0 m.1) ∙ m.2)
      | inr later ↦ let m = in_map (alone p.to) (due (s.kept ++ held (next_act s) p.bytes)) x later in inr (m.0, m.2, of_both (next_act s) s.kept p.bytes m.0 (due_of (s.kept ++ held (next_act s) p.bytes) m.0 m.1))
    ]

-- ---- the links after one put

set_cases : {A : Type 0} (xs : List A) (i : ℕ) (y : A) (j : ℕ) (d : A) → ((i ≡ j) × (slice_index_or (slice_set xs i y) j d ≡ y)) ⊎ (slice_index_or (slice_set xs i y) j d ≡ slice_index_or xs j d)
set_cases [] i y j d = inr refl
set_cases (x ∷ xs) zero y zero d = inl (refl, refl)
set_cases (x ∷ xs) zero y (suc j) d = inr refl
set_cases (x ∷ xs) (suc i) y zero d = inr refl
set_cases (x ∷ xs) (suc i) y (suc j) d = elim (set_cases xs i y j d) [
  | inl same ↦ inl (ap (λ (n : ℕ). suc n) same.0, same.1)
  | inr other ↦ inr other
]

abbrev one : Put → List Standing → List Standing
one p links = slice_set links p.to (after_put p (link_to p.to links))

kept_one : (p : Put) (links : List Standing) (v : ℕ) (bytes : List ℕ) → IsKept v bytes (one p links) → ((p.to ≡ v) × (p.bytes ≡ bytes)) ⊎ IsKept v bytes links
kept_one p links v bytes kept = elim (set_cases links p.to (after_put p (link_to p.to links)) v no_link) [
  | inl same ↦
      let there : IsOf (still ((link_to p.to links).kept ++ held (next_act (link_to p.to links)) p.bytes)) bytes = subst (λ (s : Standing). IsOf s.kept bytes) same.1 kept in
      elim (of_both (next_act (link_to p.to links)) (link_to p.to links).kept p.bytes bytes (still_of ((link_to p.to links).kept ++ held (next_act (link_to p.to links)) p.bytes) bytes there)) [
        | inl new ↦ inl (same.0, new)
        | inr old ↦ inr (subst (λ (u : ℕ). IsOf (link_to u links).kept bytes) same.0 old)
      ]
  | inr other ↦ inr (subst (λ (s : Standing). IsOf s.kept bytes) other kept)
]

-- ---- all puts

put_later : (p : Put) (ps : List Put) (v : ℕ) (bytes : List ℕ) → WasPut v bytes ps → WasPut v bytes (p ∷ ps)
put_later p ps v bytes (q, there, to, is) = (q, later_in p ps q there, to, is)

there_before : (p : Put) (ps : List Put) (links : List Standing) (v : ℕ) (bytes : List ℕ) → WasThere v bytes ps (one p links) → WasThere v bytes (p ∷ ps) links
there_before p ps links v bytes was = elim was [
  | inl put ↦ inl (put_later p ps v bytes put)
  | inr kept ↦ elim (kept_one p links v bytes kept) [
    | inl new ↦ inl (p, first_in p ps, new.0, new.1)
    | inr old ↦ inr old
  ]
]

pub was_there : (links : List Standing) (puts : List Put) (v : ℕ) (bytes : List ℕ) → IsKept v bytes (after_puts puts links) → WasThere v bytes puts links
was_there links [] v bytes kept = inr kept
was_there links (p ∷ ps) v bytes kept = there_before p ps links v bytes (was_there (one p links) ps v bytes kept)

from_one : (p : Put) (ps : List Put) (links : List Standing) (x : Put) → Contains (passed p (link_to p.to links)) x → ComesFrom x (p ∷ ps) links
from_one p ps links x there = elim (passed_from p (link_to p.to links) x there) [
  | inl is ↦ inl (subst (Contains (p ∷ ps)) is (first_in p ps))
  | inr (b, is, from) ↦
      let to : p.to ≡ x.to = ap (λ (y : Put). y.to) is in
      let bytes : b ≡ x.bytes = ap (λ (y : Put). y.bytes) is in
      let of_itself : x ≡ alone x.to x.bytes = sym is ∙ ap (λ (v : ℕ). alone v b) to ∙ ap (alone x.to) bytes in
      inr (
        of_itself,
        elim from [
          | inl put ↦ inl (p, first_in p ps, to, put ∙ bytes)
          | inr kept ↦ inr (subst (λ (v : ℕ). IsKept v x.bytes links) to (subst (λ (c : List ℕ). IsKept p.to c links) bytes kept))
        ],
      )
]

pub comes_from : (links : List Standing) (puts : List Put) (x : Put) → Contains (all_passed puts links) x → ComesFrom x puts links
comes_from links [] x there = absurd (none_in x there)
comes_from links (p ∷ ps) x there = elim (Contains-append_cases (passed p (link_to p.to links)) (all_passed ps (one p links)) x there) [
  | inl now ↦ from_one p ps links x now
  | inr later ↦ elim (comes_from (one p links) ps x later) [
    | inl put ↦ inl (later_in p ps x put)
    | inr own ↦ inr (own.0, there_before p ps links x.to x.bytes own.1)
  ]
]
