-- The turn that last changed each page, and the pages of a base.
use Rattle.std.proofs.Common.{◌≡◌, ℕ, suc, zero, ◌+◌, ◌<◌, map, List, [], ◌∷◌, ◌++◌, take, get_or, length, slice_set, slice_index_or, Option, Some, None, option_map, if◌then◌else◌, ◌==◌, refl, sym, ap, ◌∙◌, subst, ⊎_elim, arith, eq-eqb, ne_eqb, append-nil, append_assoc}
use Rattle.std.specs.Option.{option_or}
use Rattle.std.specs.List.{flat_map, range_with_len, zip}
use Rattle.std.proofs.lemmas.Bool.{cases_eq}
use Rattle.std.proofs.lemmas.List.{map-append, take_more, get_or-set_same, get_or-set_other}
use Rattle.std.proofs.lemmas.List.Concat.{flat_map-append}
use Rattle.ken_record.specs.declared.page.Page.{Page}
use Rattle.ken_record.specs.declared.record.Record.{Record}
use Rattle.ken_cover.specs.declared.layers.Change.{Change}
use Rattle.ken_cover.specs.Overlay.{newest_by}
use Rattle.ken_cover.specs.Sides.{changes_at}
use Rattle.ken_cover.proofs.Newest.{newest_by-append}
use Rattle.ken_store.specs.Turning.{changed_in}
use Rattle.ken_store.specs.Turnovers.{page_in, turn_in}
use Rattle.ken_store.proofs.Lists.{flat_map-range_more}

or_map : (a b : Option Change) → option_map turn_in (option_or a b) ≡ option_or (option_map turn_in a) (option_map turn_in b)
or_map None b = refl
or_map (Some x) b = refl

or_assoc : (a b c : Option ℕ) → option_or a (option_or b c) ≡ option_or (option_or a b) c
or_assoc None b c = refl
or_assoc (Some x) b c = refl

newest_more : (p : ℕ) (cs : List Change) (i : ℕ) (c : Change) → i < length cs → c ≡ get_or cs i c → newest_by page_in p (take (i + 1) cs) ≡ option_or (if c.page.page == p then Some c else None) (newest_by page_in p (take i cs))
newest_more p cs i c within is =
    ap (newest_by page_in p) (take_more cs i c within ∙ ap (λ x. take i cs ++ x ∷ []) (sym is))
    ∙ newest_by-append page_in p (take i cs) (c ∷ [])

-- one change more
pub noted_more : (p : ℕ) (last : List (Option ℕ)) (first : Option ℕ) (cs : List Change) (i : ℕ) (c : Change) → i < length cs → c ≡ get_or cs i c → c.page.page < length last
    → slice_index_or last p None ≡ option_or (option_map turn_in (newest_by page_in p (take i cs))) first
    → slice_index_or (slice_set last c.page.page (Some c.turn)) p None ≡ option_or (option_map turn_in (newest_by page_in p (take (i + 1) cs))) first
noted_more p last first cs i c within is room so =
    let more = newest_more p cs i c within is in
    ⊎_elim
    (λ (same : c.page.page ≡ p).
    let now : option_map turn_in (newest_by page_in p (take (i + 1) cs)) ≡ Some c.turn = ap (option_map turn_in) (more ∙ ap (λ b. option_or (if b then Some c else None) (newest_by page_in p (take i cs))) (eq-eqb c.page.page p same)) in
    subst (λ k. slice_index_or (slice_set last c.page.page (Some c.turn)) k None ≡ Some c.turn) same (get_or-set_same last c.page.page (Some c.turn) None room)
    ∙ ap (λ o. option_or o first) (sym now))
    (λ (other : c.page.page ≡ p → ⊥).
    let now : newest_by page_in p (take (i + 1) cs) ≡ newest_by page_in p (take i cs) = more ∙ ap (λ b. option_or (if b then Some c else None) (newest_by page_in p (take i cs))) (ne_eqb c.page.page p other) in
    get_or-set_other last c.page.page p (Some c.turn) None (λ e. other (sym e)) ∙ so ∙ ap (λ o. option_or (option_map turn_in o) first) (sym now))
    (cases_eq c.page.page p)

-- of a record and of a base the change at a place
pub change_at : (turn : ℕ) (pages : List Page) (i : ℕ) (e : Page) (d : Change) → i < length pages → get_or (changes_at turn pages) i d ≡ record { turn = turn; page = get_or pages i e }
change_at turn [] i e d lt = absurd (omega (arith, lt))
change_at turn (x ∷ xs) zero e d lt = refl
change_at turn (x ∷ xs) (suc i) e d lt = change_at turn xs i e d (omega (arith, lt))

pub changed_at : (turns : List ℕ) (pages : List Page) (i : ℕ) (e : Page) (d : Change) → length turns ≡ length pages → i < length pages → get_or (map changed_in (zip turns pages)) i d ≡ record { turn = get_or turns i 0; page = get_or pages i e }
changed_at [] [] i e d same lt = absurd (omega (arith, lt))
changed_at [] (x ∷ xs) i e d same lt = absurd (omega (arith, same))
changed_at (t ∷ ts) [] i e d same lt = absurd (omega (arith, lt))
changed_at (t ∷ ts) (x ∷ xs) zero e d same lt = refl
changed_at (t ∷ ts) (x ∷ xs) (suc i) e d same lt = changed_at ts xs i e d (omega (arith, same)) (omega (arith, lt))

pub length-changes_at : (turn : ℕ) (pages : List Page) → length (changes_at turn pages) ≡ length pages
length-changes_at turn [] = refl
length-changes_at turn (x ∷ xs) = ap (λ (n : ℕ). suc n) (length-changes_at turn xs)

pub length-changed : (turns : List ℕ) (pages : List Page) → length turns ≡ length pages → length (map changed_in (zip turns pages)) ≡ length pages
length-changed [] [] same = refl
length-changed [] (x ∷ xs) same = absurd (omega (arith, same))
length-changed (t ∷ ts) [] same = absurd (omega (arith, same))
length-changed (t ∷ ts) (x ∷ xs) same = ap (λ (n : ℕ). suc n) (length-changed ts xs (omega (arith, same)))

abbrev pub changes_in : Record → List Change
changes_in r = changes_at r.turn r.pages

-- one record more
pub lasts_more : (p : ℕ) (now old : Option ℕ) (first : List Change) (rs : List Record) (i : ℕ) (r : Record) (pages : List Page) → i < length rs → r ≡ get_or rs i r → pages ≡ r.pages
    → now ≡ option_or (option_map turn_in (newest_by page_in p (changes_at r.turn pages))) old
    → old ≡ option_map turn_in (newest_by page_in p (first ++ flat_map changes_in (take i rs)))
    → now ≡ option_map turn_in (newest_by page_in p (first ++ flat_map changes_in (take (i + 1) rs)))
lasts_more p now old first rs i r pages within is same noted so =
    let here : flat_map changes_in (take (i + 1) rs) ≡ flat_map changes_in (take i rs) ++ changes_at r.turn pages =
    ap (flat_map changes_in) (take_more rs i r within ∙ ap (λ x. take i rs ++ x ∷ []) (sym is)) ∙ flat_map-append changes_in (take i rs) (r ∷ []) ∙ ap (λ x. flat_map changes_in (take i rs) ++ x) (append-nil (changes_in r)) ∙ ap (λ (es : List Page). flat_map changes_in (take i rs) ++ changes_at r.turn es) (sym same) in
    let newest : newest_by page_in p (first ++ flat_map changes_in (take (i + 1) rs)) ≡ option_or (newest_by page_in p (changes_at r.turn pages)) (newest_by page_in p (first ++ flat_map changes_in (take i rs))) =
    ap (λ (x : List Change). newest_by page_in p (first ++ x)) here ∙ ap (newest_by page_in p) (sym (append_assoc first (flat_map changes_in (take i rs)) (changes_at r.turn pages))) ∙ newest_by-append page_in p (first ++ flat_map changes_in (take i rs)) (changes_at r.turn pages) in
    noted ∙ ap (λ o. option_or (option_map turn_in (newest_by page_in p (changes_at r.turn pages))) o) so ∙ sym (ap (option_map turn_in) newest ∙ or_map (newest_by page_in p (changes_at r.turn pages)) (newest_by page_in p (first ++ flat_map changes_in (take i rs))))

-- one page more
pub pieces_more : {B : Type 0} (g : Change → B) (f : ℕ → List Change) (n : ℕ) (old new : List B) → old ≡ map g (flat_map f (range_with_len 0 n)) → new ≡ old ++ map g (f n) → new ≡ map g (flat_map f (range_with_len 0 (n + 1)))
pieces_more g f n old new so is =
    is ∙ ap (λ xs. xs ++ map g (f n)) so ∙ sym (map-append g (flat_map f (range_with_len 0 n)) (f n)) ∙ ap (map g) (sym (flat_map-range_more f n))

-- one record more, over what was noted before
pub noted_all_more : (p : ℕ) (now old before : Option ℕ) (first : List Change) (rs : List Record) (i : ℕ) (r : Record) (pages : List Page) → i < length rs → r ≡ get_or rs i r → pages ≡ r.pages
    → now ≡ option_or (option_map turn_in (newest_by page_in p (changes_at r.turn pages))) old
    → old ≡ option_or (option_map turn_in (newest_by page_in p (first ++ flat_map changes_in (take i rs)))) before
    → now ≡ option_or (option_map turn_in (newest_by page_in p (first ++ flat_map changes_in (take (i + 1) rs)))) before
noted_all_more p now old before first rs i r pages within is same noted so =
    let all = lasts_more p (option_or (option_map turn_in (newest_by page_in p (changes_at r.turn pages))) (option_map turn_in (newest_by page_in p (first ++ flat_map changes_in (take i rs))))) (option_map turn_in (newest_by page_in p (first ++ flat_map changes_in (take i rs)))) first rs i r pages within is same refl refl in
    noted ∙ ap (λ o. option_or (option_map turn_in (newest_by page_in p (changes_at r.turn pages))) o) so
    ∙ or_assoc (option_map turn_in (newest_by page_in p (changes_at r.turn pages))) (option_map turn_in (newest_by page_in p (first ++ flat_map changes_in (take i rs)))) before
    ∙ ap (λ o. option_or o before) all
