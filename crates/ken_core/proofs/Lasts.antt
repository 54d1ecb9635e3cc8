-- The turn that last changed each page.
use Rattle.std.proofs.Common.{◌≡◌, ℕ, ◌+◌, ◌<◌, ◌≤◌, map, List, [], ◌∷◌, ◌++◌, take, get_or, length, slice_set, slice_index_or, Option, Some, None, option_map, if◌then◌else◌, ◌==◌, refl, sym, ap, ◌∙◌, subst, ⊎_elim, arith, eq-eqb, ne_eqb, append-nil, zero-add}
use Rattle.std.specs.Option.{option_or}
use Rattle.std.specs.List.{flat_map, range_with_len}
use Rattle.std.proofs.lemmas.List.FromFn.{map-range_with_len_more}
use Rattle.std.proofs.lemmas.Bool.{cases_eq}
use Rattle.std.proofs.lemmas.List.{take_more, map-id, get_or-set_same, get_or-set_other}
use Rattle.std.proofs.lemmas.List.Concat.{flat_map-append}
use Rattle.ken_cover.specs.declared.layers.Change.{Change}
use Rattle.ken_cover.specs.declared.layers.Layer.{Layer}
use Rattle.ken_cover.specs.Overlay.{newest_by, AreWithin}
use Rattle.ken_cover.specs.Sides.{changes_of, pages_of, last_change}
use Rattle.ken_cover.proofs.Newest.{newest_by-append}

or_map : (a b : Option Change) → option_map (λ (c : Change). c.turn) (option_or a b) ≡ option_or (option_map (λ (c : Change). c.turn) a) (option_map (λ (c : Change). c.turn) b)
or_map None b = refl
or_map (Some x) b = refl

or_assoc : (a b c : Option ℕ) → option_or a (option_or b c) ≡ option_or (option_or a b) c
or_assoc None b c = refl
or_assoc (Some x) b c = refl

newest_more : (p : ℕ) (cs : List Change) (i : ℕ) (c : Change) → i < length cs → c ≡ get_or cs i c → newest_by (λ (x : Change). x.page) p (take (i + 1) cs) ≡ option_or (if c.page.page == p then Some c else None) (newest_by (λ (x : Change). x.page) p (take i cs))
newest_more p cs i c within is =
    ap (newest_by (λ (x : Change). x.page) p) (take_more cs i c within ∙ ap (λ x. take i cs ++ x ∷ []) (sym is))
    ∙ newest_by-append (λ (x : Change). x.page) p (take i cs) (c ∷ [])

-- one change more
pub noted_more : (p : ℕ) (last : List (Option ℕ)) (first : Option ℕ) (cs : List Change) (i : ℕ) (c : Change) → i < length cs → c ≡ get_or cs i c → c.page.page < length last
    → slice_index_or last p None ≡ option_or (option_map (λ (x : Change). x.turn) (newest_by (λ (x : Change). x.page) p (take i cs))) first
    → slice_index_or (slice_set last c.page.page (Some c.turn)) p None ≡ option_or (option_map (λ (x : Change). x.turn) (newest_by (λ (x : Change). x.page) p (take (i + 1) cs))) first
noted_more p last first cs i c within is room so =
    let more = newest_more p cs i c within is in
    ⊎_elim
    (λ (same : c.page.page ≡ p).
    let now : option_map (λ (x : Change). x.turn) (newest_by (λ (x : Change). x.page) p (take (i + 1) cs)) ≡ Some c.turn = ap (option_map (λ (x : Change). x.turn)) (more ∙ ap (λ b. option_or (if b then Some c else None) (newest_by (λ (x : Change). x.page) p (take i cs))) (eq-eqb c.page.page p same)) in
    subst (λ k. slice_index_or (slice_set last c.page.page (Some c.turn)) k None ≡ Some c.turn) same (get_or-set_same last c.page.page (Some c.turn) None room)
    ∙ ap (λ o. option_or o first) (sym now))
    (λ (other : c.page.page ≡ p → ⊥).
    let now : newest_by (λ (x : Change). x.page) p (take (i + 1) cs) ≡ newest_by (λ (x : Change). x.page) p (take i cs) = more ∙ ap (λ b. option_or (if b then Some c else None) (newest_by (λ (x : Change). x.page) p (take i cs))) (ne_eqb c.page.page p other) in
    get_or-set_other last c.page.page p (Some c.turn) None (λ e. other (sym e)) ∙ so ∙ ap (λ o. option_or (option_map (λ (x : Change). x.turn) o) first) (sym now))
    (cases_eq c.page.page p)

-- one layer more
pub lasts_more : (p : ℕ) (now old : Option ℕ) (ls : List Layer) (i : ℕ) (l : Layer) (cs : List Change) → i < length ls → l ≡ get_or ls i l → cs ≡ l.changes → now ≡ option_or (option_map (λ (c : Change). c.turn) (newest_by (λ (c : Change). c.page) p cs)) old → old ≡ option_map (λ (c : Change). c.turn) (last_change p (take i ls)) → now ≡ option_map (λ (c : Change). c.turn) (last_change p (take (i + 1) ls))
lasts_more p now old ls i l cs within is changes noted so =
    let here : changes_of (take (i + 1) ls) ≡ changes_of (take i ls) ++ l.changes =
    ap changes_of (take_more ls i l within ∙ ap (λ x. take i ls ++ x ∷ []) (sym is)) ∙ flat_map-append (λ (x : Layer). x.changes) (take i ls) (l ∷ []) ∙ ap (λ x. changes_of (take i ls) ++ x) (append-nil l.changes) in
    let newest : last_change p (take (i + 1) ls) ≡ option_or (newest_by (λ (c : Change). c.page) p cs) (last_change p (take i ls)) =
    ap (newest_by (λ (c : Change). c.page) p) here ∙ newest_by-append (λ (c : Change). c.page) p (changes_of (take i ls)) l.changes ∙ ap (λ x. option_or (newest_by (λ (c : Change). c.page) p x) (last_change p (take i ls))) (sym changes) in
    noted ∙ ap (λ o. option_or (option_map (λ (c : Change). c.turn) (newest_by (λ (c : Change). c.page) p cs)) o) so ∙ sym (ap (option_map (λ (c : Change). c.turn)) newest ∙ or_map (newest_by (λ (c : Change). c.page) p cs) (last_change p (take i ls)))

-- one page more of a base
range_more : (a n : ℕ) → range_with_len a (n + 1) ≡ range_with_len a n ++ (a + n) ∷ []
range_more a n = sym (map-id (range_with_len a (n + 1))) ∙ map-range_with_len_more (λ x. x) a n (a + n) refl ∙ ap (λ xs. xs ++ (a + n) ∷ []) (map-id (range_with_len a n))

pub base_more : (f : ℕ → List Change) (n : ℕ) (old new : List Change) → old ≡ flat_map f (range_with_len 0 n) → new ≡ old ++ f n → new ≡ flat_map f (range_with_len 0 (n + 1))
base_more f n old new so is =
    is ∙ ap (λ xs. xs ++ f n) so ∙ ap (λ xs. flat_map f (range_with_len 0 n) ++ xs) (sym (append-nil (f n)))
    ∙ ap (λ k. flat_map f (range_with_len 0 n) ++ (f k ++ [])) (sym (zero-add n))
    ∙ sym (flat_map-append f (range_with_len 0 n) ((0 + n) ∷ [])) ∙ ap (flat_map f) (sym (range_more 0 n))

-- the last change of a page, where it has one, lies in the heap
pub none_past : (n p : ℕ) (ls : List Layer) → AreWithin n (pages_of ls) → n ≤ p → last_change p ls ≡ None
none_past n p ls all past = at (changes_of ls) all
  where
    at : (cs : List Change) → AreWithin n (map (λ (c : Change). c.page) cs) → newest_by (λ (c : Change). c.page) p cs ≡ None
    at [] h = refl
    at (c ∷ cs) h =
        let within = h.0.0 in
        let other : c.page.page ≡ p → ⊥ = λ e. omega arith in
        ap (λ o. option_or o (if c.page.page == p then Some c else None)) (at cs h.1) ∙ ap (λ b. if b then Some c else None) (ne_eqb c.page.page p other)
