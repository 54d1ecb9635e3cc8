-- What each event makes of what is to patch, and of what was told as settled.
use Rattle.std.proofs.Common.{◌≡◌, ℕ, ◌+◌, ◌<◌, ◌≤◌, zero, suc, List, [], ◌∷◌, ◌++◌, map, Bool, true, false, ◌==◌, ◌||◌, if◌then◌else◌, Option, Some, None, option_map, is_some, refl, sym, ap, subst, ◌∙◌, ◌⊎◌, inl, inr, ⊎_elim, arith, eq-eqb, ne_eqb}
use Rattle.std.specs.Prelude.{nat_lt}
use Rattle.std.specs.List.{AllByRecursion, flat_map, range_with_len}
use Rattle.std.specs.Option.{option_or}
use Rattle.std.proofs.lemmas.Bool.{false≢true, cases_eq, cases_lt, lt-ltb}
use Rattle.std.proofs.lemmas.Grind.{flat_map-append}
use Rattle.std.proofs.lemmas.List.{append-nil}
use Rattle.ken_pages.specs.Paged.{page_of}
use Rattle.ken_record.specs.declared.page.Page.{Page}
use Rattle.ken_cover.specs.declared.layers.Change.{Change}
use Rattle.ken_cover.specs.declared.layers.Layer.{Layer}
use Rattle.ken_cover.specs.Overlay.{numbers, among, newest_by}
use Rattle.ken_cover.specs.Sides.{TurnPages, ImagePages, changes_of, pages_of, changes_at, onto, without_page, with_pages, recounted, last_change, stays, base_change, base_changes, sealed_pages, turned_pages}
use Rattle.ken_cover.specs.Covers.{Covers, MayLeaveOut}
use Rattle.ken_cover.proofs.Newest.{newest_by-append, newest-map, among-newest, option_or-none}
use Rattle.ken_cover.proofs.Bases.{among-without}
use Rattle.ken_cover.proofs.Keeps.{known, live_below}
use Rattle.ken_store.specs.PatchLaws.{layer_pages, IsBehind, LayersRise, StartIsAhead, SealKeepsAhead, SealAloneKeepsAhead, HandKeepsAhead, PatchKeepsAhead, SyncKeepsAhead, TurnoverKeepsAhead, RecoveryIsAhead, SealKeepsSettled, SealAloneKeepsSettled, HandKeepsSettled, PatchKeepsSettled, SyncKeepsSettled, TurnoverKeepsSettled}
use Rattle.ken_store.proofs.Patches.{all_last}
use Rattle.ken_store.proofs.PatchLaws.{among-first}

abbrev page_in : Change → Page
page_in c = c.page

or_left : (a b : Bool) → a ≡ true → (a || b) ≡ true
or_left true b h = refl
or_left false b h = absurd (false≢true h)

or_right : (a b : Bool) → b ≡ true → (a || b) ≡ true
or_right true b h = refl
or_right false b h = h

not_both : {A : Type 0} → (b : Bool) → b ≡ true → b ≡ false → A
not_both true h k = absurd (false≢true (sym k))
not_both false h k = absurd (false≢true h)

-- ---- the newest change of a page

-- has what all have
pub newest_all : (P : Change → Type 0) (p : ℕ) (cs : List Change) (c : Change) → AllByRecursion P cs → newest_by page_in p cs ≡ Some c → P c
newest_all P p [] c all e = absurd cc
newest_all P p (d ∷ cs) c all e = here (d.page.page == p) (newest_by page_in p cs) (newest_all P p cs c all.1) e
  where
    here : (b : Bool) (o : Option Change) → (o ≡ Some c → P c) → option_or o (if b then Some d else None) ≡ Some c → P c
    here b (Some x) later e = later e
    here true None later e = let it : d ≡ c = cc in subst P it all.0
    here false None later e = absurd cc

-- is there where the page is among those that changed
there : (o : Option Change) → is_some (option_map page_in o) ≡ true → (c : Change) × (o ≡ Some c)
there None h = absurd (false≢true h)
there (Some c) h = (c, refl)

newest_some : (p : ℕ) (cs : List Change) → among (numbers (map page_in cs)) p ≡ true → (c : Change) × (newest_by page_in p cs ≡ Some c)
newest_some p cs h = there (newest_by page_in p cs) (ap is_some (sym (newest-map page_in p cs)) ∙ among-newest p (map page_in cs) ∙ h)

-- and not elsewhere
newest_none : (p : ℕ) (cs : List Change) → newest_by page_in p cs ≡ None → among (numbers (map page_in cs)) p ≡ false
newest_none p cs e = sym (among-newest p (map page_in cs)) ∙ ap is_some (newest-map page_in p cs) ∙ ap (λ (o : Option Change). is_some (option_map page_in o)) e

last_change-first : (p : ℕ) (l : Layer) (ls : List Layer) → last_change p (l ∷ ls) ≡ option_or (last_change p ls) (newest_by page_in p l.changes)
last_change-first p l ls = newest_by-append page_in p l.changes (changes_of ls)

pub last_change-last : (p : ℕ) (ls : List Layer) (l : Layer) → last_change p (ls ++ l ∷ []) ≡ option_or (newest_by page_in p l.changes) (last_change p ls)
last_change-last p ls l =
    ap (newest_by page_in p) (flat_map-append (λ (x : Layer). x.changes) ls (l ∷ []))
    ∙ newest_by-append page_in p (changes_of ls) (l.changes ++ [])
    ∙ ap (λ (cs : List Change). option_or (newest_by page_in p cs) (last_change p ls)) (append-nil l.changes)

one_layer : (p turn : ℕ) (cs : List Change) → last_change p (record { turn = turn; changes = cs } ∷ []) ≡ newest_by page_in p cs
one_layer p turn cs = ap (newest_by page_in p) (append-nil cs)

pub all_at : (turn : ℕ) (es : List Page) → AllByRecursion (λ (c : Change). c.turn ≡ turn) (changes_at turn es)
all_at turn [] = tt
all_at turn (e ∷ es) = (refl, all_at turn es)

same_pages : (turn : ℕ) (es : List Page) → map page_in (changes_at turn es) ≡ es
same_pages turn [] = refl
same_pages turn (e ∷ es) = ap (λ (xs : List Page). e ∷ xs) (same_pages turn es)

-- ---- a seal

module _ (turn : ℕ) (pages : List Page) where
  abbrev new_layer : Layer
  new_layer = record { turn = turn; changes = changes_at turn pages }

  behind_sealed : (live : List Layer) (l : Layer) → ((p : ℕ) (c : Change) → last_change p live ≡ Some c → c.turn < turn) → IsBehind live l → IsBehind (live ++ new_layer ∷ []) l
  behind_sealed live l before behind p h = by_new (newest_by page_in p (changes_at turn pages)) refl
    where
      by_new : (o : Option Change) → newest_by page_in p (changes_at turn pages) ≡ o → (c : Change) × (last_change p (live ++ new_layer ∷ []) ≡ Some c) × (l.turn ≤ c.turn)
      by_new None e =
          let d = behind p h in
          (d.0, last_change-last p live new_layer ∙ ap (λ (o : Option Change). option_or o (last_change p live)) e ∙ d.1, d.2)
      by_new (Some c) e =
          let d = behind p h in
          let low = before p d.0 d.1 in
          let at = newest_all (λ (x : Change). x.turn ≡ turn) p (changes_at turn pages) c (all_at turn pages) e in
          (c, last_change-last p live new_layer ∙ ap (λ (o : Option Change). option_or o (last_change p live)) e, omega (arith, low, at, d.2))

  all_sealed : (live ls : List Layer) → ((p : ℕ) (c : Change) → last_change p live ≡ Some c → c.turn < turn) → AllByRecursion (IsBehind live) ls → AllByRecursion (IsBehind (live ++ new_layer ∷ [])) ls
  all_sealed live [] before all = tt
  all_sealed live (l ∷ ls) before all = (behind_sealed live l before all.0, all_sealed live ls before all.1)

  new_behind : (live : List Layer) → IsBehind (live ++ new_layer ∷ []) new_layer
  new_behind live p h =
      let d = newest_some p (changes_at turn pages) h in
      let at = newest_all (λ (x : Change). x.turn ≡ turn) p (changes_at turn pages) d.0 (all_at turn pages) d.1 in
      (d.0, last_change-last p live new_layer ∙ ap (λ (o : Option Change). option_or o (last_change p live)) d.1, omega (arith, at))

all_onto : (P : Layer → Type 0) (ls : List Layer) (turn : ℕ) (cs : List Change) → AllByRecursion P ls → P (record { turn = turn; changes = cs }) → AllByRecursion P (ls ++ onto turn cs [])
all_onto P ls turn [] all one = subst (AllByRecursion P) (sym (append-nil ls)) all
all_onto P ls turn (c ∷ cs) all one = all_last P ls (record { turn = turn; changes = c ∷ cs }) all one

pub start_is_ahead : StartIsAhead
start_is_ahead heap = tt

pub seal_alone_keeps_ahead : SealAloneKeepsAhead
seal_alone_keeps_ahead turn pages t i before behind = all_sealed turn pages t.live i.ahead before behind

pub hand_keeps_ahead : HandKeepsAhead
hand_keeps_ahead turn pages t i one behind = all_onto (IsBehind t.live) i.ahead turn (changes_at turn pages) behind one

pub seal_keeps_ahead : SealKeepsAhead
seal_keeps_ahead turn pages t i before behind =
    all_onto (IsBehind (t.live ++ new_layer turn pages ∷ [])) i.ahead turn (changes_at turn pages) (all_sealed turn pages t.live i.ahead before behind) (new_behind turn pages t.live)

-- ---- a patch and a sync

less_behind : (live : List Layer) (l : Layer) (p : ℕ) → IsBehind live l → IsBehind live (record { turn = l.turn; changes = without_page p l.changes })
less_behind live l p behind q h = behind q (among-without p q l.changes h)

onto_first : (P : Layer → Type 0) (ls : List Layer) (turn : ℕ) (cs : List Change) → AllByRecursion P ls → P (record { turn = turn; changes = cs }) → AllByRecursion P (onto turn cs ls)
onto_first P ls turn [] all one = all
onto_first P ls turn (c ∷ cs) all one = (one, all)

pub patch_keeps_ahead : PatchKeepsAhead
patch_keeps_ahead t i p first rest c is behind =
    let all : AllByRecursion (IsBehind t.live) (first ∷ rest) = subst (AllByRecursion (IsBehind t.live)) is.oldest behind in
    onto_first (IsBehind t.live) rest first.turn (without_page c.page.page first.changes) all.1 (less_behind t.live first c.page.page all.0)

pub sync_keeps_ahead : SyncKeepsAhead
sync_keeps_ahead t i behind = behind

-- ---- a recovery

module _ (p : ℕ) where
  all_recounted : (turn : ℕ) (cs : List Change) → AllByRecursion (λ (c : Change). c.turn ≡ turn) (map (λ (c : Change). record c { turn = turn }) cs)
  all_recounted turn [] = tt
  all_recounted turn (c ∷ cs) = (refl, all_recounted turn cs)

  -- what changed last in layers that rise
  from_least : (least : ℕ) (ls : List Layer) (c : Change) → LayersRise least ls → last_change p (map recounted ls) ≡ Some c → least ≤ c.turn
  from_least least [] c rise e = absurd cc
  from_least least (l ∷ ls) c rise e = by_later (from_least l.turn ls c rise.1) (last_change p (map recounted ls)) refl
    where
      by_later : (last_change p (map recounted ls) ≡ Some c → l.turn ≤ c.turn) → (o : Option Change) → last_change p (map recounted ls) ≡ o → least ≤ c.turn
      by_later later None is =
          let e2 : newest_by page_in p (recounted l).changes ≡ Some c = ap (λ (o : Option Change). option_or o (newest_by page_in p (recounted l).changes)) (sym is) ∙ sym (last_change-first p (recounted l) (map recounted ls)) ∙ e in
          let at = newest_all (λ (x : Change). x.turn ≡ l.turn) p (recounted l).changes c (all_recounted l.turn l.changes) e2 in
          omega (arith, at, rise.0)
      by_later later (Some d) is =
          let e2 : Some d ≡ Some c = ap (λ (o : Option Change). option_or o (newest_by page_in p (recounted l).changes)) (sym is) ∙ sym (last_change-first p (recounted l) (map recounted ls)) ∙ e in
          let it : d ≡ c = cc e2 in
          let low = later (is ∙ ap (λ (x : Change). Some x) it) in
          omega (arith, low, rise.0)

first_behind : (l : Layer) (ls : List Layer) → LayersRise l.turn ls → IsBehind (map recounted (l ∷ ls)) (recounted l)
first_behind l ls rise p h = by_later (last_change p (map recounted ls)) refl
  where
    by_later : (o : Option Change) → last_change p (map recounted ls) ≡ o → (c : Change) × (last_change p (map recounted (l ∷ ls)) ≡ Some c) × (l.turn ≤ c.turn)
    by_later None is =
        let d = newest_some p (recounted l).changes h in
        let at = newest_all (λ (x : Change). x.turn ≡ l.turn) p (recounted l).changes d.0 (all_recounted p l.turn l.changes) d.1 in
        (d.0, last_change-first p (recounted l) (map recounted ls) ∙ ap (λ (o : Option Change). option_or o (newest_by page_in p (recounted l).changes)) is ∙ d.1, omega (arith, at))
    by_later (Some c) is =
        (c, last_change-first p (recounted l) (map recounted ls) ∙ ap (λ (o : Option Change). option_or o (newest_by page_in p (recounted l).changes)) is, from_least p l.turn ls c rise is)

behind_more : (x l : Layer) (live : List Layer) → IsBehind live l → IsBehind (x ∷ live) l
behind_more x l live behind p h =
    let d = behind p h in
    (d.0, last_change-first p x live ∙ ap (λ (o : Option Change). option_or o (newest_by page_in p x.changes)) d.1, d.2)

all_more : (x : Layer) (live ls : List Layer) → AllByRecursion (IsBehind live) ls → AllByRecursion (IsBehind (x ∷ live)) ls
all_more x live [] all = tt
all_more x live (l ∷ ls) all = (behind_more x l live all.0, all_more x live ls all.1)

all_recovered : (least : ℕ) (ls : List Layer) → LayersRise least ls → AllByRecursion (IsBehind (map recounted ls)) (with_pages (map recounted ls))
all_recovered least [] rise = tt
all_recovered least (l ∷ ls) rise =
    onto_first (IsBehind (map recounted (l ∷ ls))) (with_pages (map recounted ls)) l.turn (recounted l).changes
    (all_more (recounted l) (map recounted ls) (with_pages (map recounted ls)) (all_recovered l.turn ls rise.1))
    (first_behind l ls rise.1)

pub recovery_is_ahead : RecoveryIsAhead
recovery_is_ahead image t i rise = all_recovered 0 t.live rise

-- ---- a turnover

module _ (settled : ℕ) (t : TurnPages) (p : ℕ) where
  abbrev piece : ℕ → List Change
  piece q = base_change settled t.heap q (last_change q t.live)

  other_piece : (q : ℕ) (o : Option Change) → (q ≡ p → ⊥) → newest_by page_in p (base_change settled t.heap q o) ≡ None
  other_piece q None apart = refl
  other_piece q (Some c) apart = by_stays (stays settled c.turn)
    where
      by_stays : (b : Bool) → newest_by page_in p (if b then record { turn = c.turn; page = record { page = q; bytes = page_of t.heap q } } ∷ [] else []) ≡ None
      by_stays true = rw (ne_eqb q p apart) refl
      by_stays false = refl

  none_piece : (a k : ℕ) → ((q : ℕ) → a ≤ q → q < a + k → q ≡ p → ⊥) → newest_by page_in p (flat_map piece (range_with_len a k)) ≡ None
  none_piece a zero apart = refl
  none_piece a (suc k) apart =
      newest_by-append page_in p (piece a) (flat_map piece (range_with_len (a + 1) k))
      ∙ ap (λ (o : Option Change). option_or o (newest_by page_in p (piece a))) (none_piece (a + 1) k (λ q low high. apart q (omega (arith, low)) (omega (arith, high))))
      ∙ other_piece a (last_change a t.live) (apart a (omega arith) (omega arith))

  at_piece : (a k : ℕ) → a ≤ p → p < a + k → newest_by page_in p (flat_map piece (range_with_len a k)) ≡ newest_by page_in p (piece p)
  at_piece a zero low high = absurd (omega arith)
  at_piece a (suc k) low high =
      newest_by-append page_in p (piece a) (flat_map piece (range_with_len (a + 1) k))
      ∙ ⊎_elim
      (λ (same : a ≡ p).
      ap (λ (o : Option Change). option_or o (newest_by page_in p (piece a))) (none_piece (a + 1) k (λ q from to is. omega (arith, from, is, same)))
      ∙ ap (λ (q : ℕ). newest_by page_in p (piece q)) same)
      (λ (apart : a ≡ p → ⊥).
      ap (λ (o : Option Change). option_or (newest_by page_in p (flat_map piece (range_with_len (a + 1) k))) o) (other_piece a (last_change a t.live) apart)
      ∙ option_or-none (newest_by page_in p (flat_map piece (range_with_len (a + 1) k)))
      ∙ at_piece (a + 1) k (omega (arith, apart)) (omega (arith, high)))
      (cases_eq a p)

  module _ (n turn : ℕ) where
    -- a page of the base
    turned_change : (c : Change) → p < n → last_change p t.live ≡ Some c → stays settled c.turn ≡ true → last_change p (turned_pages n settled turn t).live ≡ Some (record { turn = c.turn; page = record { page = p; bytes = page_of t.heap p } })
    turned_change c lt e h =
        one_layer p turn (base_changes n settled t)
        ∙ at_piece 0 n (omega arith) (omega (arith, lt))
        ∙ ap (λ (o : Option Change). newest_by page_in p (base_change settled t.heap p o)) e
        ∙ ap (λ (b : Bool). newest_by page_in p (if b then record { turn = c.turn; page = record { page = p; bytes = page_of t.heap p } } ∷ [] else [])) h
        ∙ rw (eq-eqb p p refl) refl

    -- keeps the turn that last changed it
    pub was_changed : (c : Change) → last_change p (turned_pages n settled turn t).live ≡ Some c → (d : Change) × (last_change p t.live ≡ Some d) × (c.turn ≡ d.turn)
    was_changed c e = by_place (cases_lt p n)
      where
        of_piece : (o : Option Change) → newest_by page_in p (base_change settled t.heap p o) ≡ Some c → (d : Change) × (o ≡ Some d) × (c.turn ≡ d.turn)
        of_piece None h = absurd cc
        of_piece (Some d) h = (d, refl, newest_all (λ (x : Change). x.turn ≡ d.turn) p (base_change settled t.heap p (Some d)) c (by_stays (stays settled d.turn)) h)
          where
            by_stays : (b : Bool) → AllByRecursion (λ (x : Change). x.turn ≡ d.turn) (if b then record { turn = d.turn; page = record { page = p; bytes = page_of t.heap p } } ∷ [] else [])
            by_stays true = (refl, tt)
            by_stays false = tt

        by_place : (p < n) ⊎ (n ≤ p) → (d : Change) × (last_change p t.live ≡ Some d) × (c.turn ≡ d.turn)
        by_place (inl lt) = of_piece (last_change p t.live) (sym (at_piece 0 n (omega arith) (omega (arith, lt))) ∙ sym (one_layer p turn (base_changes n settled t)) ∙ e)
        by_place (inr past) =
            let no : None ≡ Some c = sym (none_piece 0 n (λ q low high is. omega (arith, high, is, past))) ∙ sym (one_layer p turn (base_changes n settled t)) ∙ e in
            absurd cc

module _ (n settled turn : ℕ) (t : TurnPages) (i : ImagePages) (may : MayLeaveOut settled t i) (c : Covers n true t i) where
  behind_turned : (l : Layer) → ((p : ℕ) → among (numbers (layer_pages l)) p ≡ true → i.unclean p ≡ true) → IsBehind t.live l → IsBehind (turned_pages n settled turn t).live l
  behind_turned l comes behind p h =
      let d = behind p h in
      let unclean = comes p h in
      let lt = live_below n true t i c p (c.covered p unclean) in
      let stay : stays settled d.0.turn ≡ true = ⊎_elim (λ yes. yes) (λ no. not_both (i.unclean p) unclean (may p d.0 d.1 no)) (known (stays settled d.0.turn)) in
      (record { turn = d.0.turn; page = record { page = p; bytes = page_of t.heap p } }, turned_change settled t p n turn d.0 lt d.1 stay, d.2)

  all_turned : (ls : List Layer) → ((p : ℕ) → among (numbers (pages_of ls)) p ≡ true → i.unclean p ≡ true) → AllByRecursion (IsBehind t.live) ls → AllByRecursion (IsBehind (turned_pages n settled turn t).live) ls
  all_turned [] comes all = tt
  all_turned (l ∷ ls) comes all =
      (behind_turned l (λ p h. comes p (among-first l ls p ∙ or_left _ _ h)) all.0, all_turned ls (λ p h. comes p (among-first l ls p ∙ or_right _ _ h)) all.1)

pub turnover_keeps_ahead : TurnoverKeepsAhead
turnover_keeps_ahead n settled turn t i may c behind = all_turned n settled turn t i may c i.ahead c.coming behind

-- ---- what was told as settled

-- a change in a later turn stays in a base
later_stays : {A : Type 0} → (settled turn : ℕ) → settled < turn → stays settled turn ≡ false → A
later_stays settled turn later gone = not_both (stays settled turn) (or_right (settled == 0) (nat_lt settled turn) (lt-ltb settled turn later)) gone

-- what goes at a seal went before, and wasn't sealed now
pub record WentBefore (settled turn : ℕ) (pages : List Page) (t : TurnPages) (p : ℕ) (c : Change) : Type 0 where
  pub old : last_change p t.live ≡ Some c
  pub other : among (numbers pages) p ≡ false

went_before : (settled turn : ℕ) (pages : List Page) (t : TurnPages) → settled < turn → (p : ℕ) (c : Change) → last_change p (sealed_pages turn pages t).live ≡ Some c → stays settled c.turn ≡ false → WentBefore settled turn pages t p c
went_before settled turn pages t later p c e gone = by_new (newest_by page_in p (changes_at turn pages)) refl
  where
    by_new : (o : Option Change) → newest_by page_in p (changes_at turn pages) ≡ o → WentBefore settled turn pages t p c
    by_new None is = record {
      old = ap (λ (o : Option Change). option_or o (last_change p t.live)) (sym is) ∙ sym (last_change-last p t.live (new_layer turn pages)) ∙ e;
      other = ap (λ (es : List Page). among (numbers es) p) (sym (same_pages turn pages)) ∙ newest_none p (changes_at turn pages) is;
    }
    by_new (Some d) is =
        let it : Some d ≡ Some c = ap (λ (o : Option Change). option_or o (last_change p t.live)) (sym is) ∙ sym (last_change-last p t.live (new_layer turn pages)) ∙ e in
        let same : d ≡ c = cc it in
        let at = newest_all (λ (x : Change). x.turn ≡ turn) p (changes_at turn pages) d (all_at turn pages) is in
        later_stays settled c.turn (subst (λ (k : ℕ). settled < k) (sym at ∙ ap (λ (x : Change). x.turn) same) later) gone

pub seal_keeps_settled : SealKeepsSettled
seal_keeps_settled settled turn pages t i later may p c e gone =
    let b = went_before settled turn pages t later p c e gone in
    ap (λ (x : Bool). x || i.unclean p) b.other ∙ may p c b.old gone

pub seal_alone_keeps_settled : SealAloneKeepsSettled
seal_alone_keeps_settled settled turn pages t i later may p c e gone = may p c (went_before settled turn pages t later p c e gone).old gone

pub hand_keeps_settled : HandKeepsSettled
hand_keeps_settled settled turn pages t i later behind may p c e gone =
    ⊎_elim
    (λ (is : among (numbers pages) p ≡ true).
    let d = behind p (ap (λ (es : List Page). among (numbers es) p) (same_pages turn pages) ∙ is) in
    let was = d.1 in
    let it : Some d.0 ≡ Some c = sym was ∙ e in
    let same : d.0 ≡ c = cc it in
    let turns : d.0.turn ≡ c.turn = ap (λ (x : Change). x.turn) same in
    later_stays settled c.turn (omega (arith, later, d.2, turns)) gone)
    (λ (other : among (numbers pages) p ≡ false). ap (λ (x : Bool). x || i.unclean p) other ∙ may p c e gone)
    (known (among (numbers pages) p))

pub patch_keeps_settled : PatchKeepsSettled
patch_keeps_settled settled t i p first rest c is may = may

contrary : (a b : Bool) → (a ≡ true → b ≡ true) → b ≡ false → a ≡ false
contrary true b more h = not_both b (more refl) h
contrary false b more h = refl

pub sync_keeps_settled : SyncKeepsSettled
sync_keeps_settled n settled t i c may p d e gone = contrary (among (numbers (pages_of i.ahead)) p) (i.unclean p) (c.coming p) (may p d e gone)

pub turnover_keeps_settled : TurnoverKeepsSettled
turnover_keeps_settled n settled turn told t i may p c e gone =
    let d = was_changed settled t p n turn c e in
    may p d.0 d.1 (subst (λ (k : ℕ). stays told k ≡ false) d.2 gone)
