-- The pages of layers, and of a base.
use Rattle.std.proofs.Common.{◌≡◌, ℕ, ◌+◌, ◌*◌, ◌<◌, ◌≤◌, zero, suc, List, [], ◌∷◌, ◌++◌, map, length, drop, not, Bool, true, false, ◌==◌, ◌||◌, if◌then◌else◌, Option, Some, None, refl, sym, ap, ◌∙◌, subst, ◌⊎◌, inl, inr, ⊎_elim, eq-eqb, ne_eqb, arith, length-take, length-drop}
use Rattle.std.specs.List.{AllByRecursion, flat_map, range_with_len}
use Rattle.std.specs.Option.{option_or}
use Rattle.std.proofs.lemmas.Bool.{cases_eq, eqb-true}
use Rattle.std.proofs.lemmas.Grind.{flat_map-append}
use Rattle.std.proofs.lemmas.List.{map-append, append-nil}
use Rattle.ken_pages.specs.Paged.{page_of}
use Rattle.ken_record.specs.declared.page.Page.{Page}
use Rattle.ken_cover.specs.Overlay.{overlay, numbers, among, newest_by, newest, IsWithin, AreWithin}
use Rattle.ken_cover.specs.declared.layers.Change.{Change}
use Rattle.ken_cover.specs.declared.layers.Layer.{Layer}
use Rattle.ken_cover.specs.Sides.{TurnPages, changes_of, pages_of, changes_at, onto, without_page, with_pages, recounted, last_change, stays, base_change, base_changes}
use Rattle.ken_cover.proofs.Newest.{bytes_or, among-append, page_of-overlay, length-overlay, option_or-none}
use Rattle.ken_cover.proofs.Bytes.{same_pages}

abbrev pub page_in : Change → Page
page_in c = c.page

pub pages_of-append : (a b : List Layer) → pages_of (a ++ b) ≡ pages_of a ++ pages_of b
pages_of-append a b = ap (map page_in) (flat_map-append (λ (l : Layer). l.changes) a b) ∙ map-append page_in (changes_of a) (changes_of b)

pub pages_of-first : (l : Layer) (ls : List Layer) → pages_of (l ∷ ls) ≡ map page_in l.changes ++ pages_of ls
pages_of-first l ls = map-append page_in l.changes (changes_of ls)

pub pages_of-onto : (turn : ℕ) (cs : List Change) (ls : List Layer) → pages_of (onto turn cs ls) ≡ map page_in cs ++ pages_of ls
pages_of-onto turn [] ls = refl
pages_of-onto turn (c ∷ cs) ls = pages_of-first (record { turn = turn; changes = c ∷ cs }) ls

pub pages_of-with_pages : (ls : List Layer) → pages_of (with_pages ls) ≡ pages_of ls
pages_of-with_pages [] = refl
pages_of-with_pages (l ∷ ls) =
    pages_of-onto l.turn l.changes (with_pages ls) ∙ ap (λ es. map page_in l.changes ++ es) (pages_of-with_pages ls) ∙ sym (pages_of-first l ls)

pages-recounted : (turn : ℕ) (cs : List Change) → map page_in (map (λ (c : Change). record c { turn = turn }) cs) ≡ map page_in cs
pages-recounted turn [] = refl
pages-recounted turn (c ∷ cs) = ap (λ es. c.page ∷ es) (pages-recounted turn cs)

pub pages_of-recounted : (ls : List Layer) → pages_of (map recounted ls) ≡ pages_of ls
pages_of-recounted [] = refl
pages_of-recounted (l ∷ ls) =
    pages_of-first (recounted l) (map recounted ls)
    ∙ ap (λ es. es ++ pages_of (map recounted ls)) (pages-recounted l.turn l.changes)
    ∙ ap (λ es. map page_in l.changes ++ es) (pages_of-recounted ls)
    ∙ sym (pages_of-first l ls)

pub pages-changes_at : (turn : ℕ) (es : List Page) → map page_in (changes_at turn es) ≡ es
pages-changes_at turn [] = refl
pages-changes_at turn (e ∷ es) = ap (λ x. e ∷ x) (pages-changes_at turn es)

-- the layer of a sealed turn, after others
pub pages_of-sealed : (ls : List Layer) (turn : ℕ) (es : List Page) → pages_of (ls ++ record { turn = turn; changes = changes_at turn es } ∷ []) ≡ pages_of ls ++ es
pages_of-sealed ls turn es =
    pages_of-append ls (record { turn = turn; changes = changes_at turn es } ∷ [])
    ∙ ap (λ x. pages_of ls ++ x) (pages_of-first (record { turn = turn; changes = changes_at turn es }) [] ∙ append-nil (map page_in (changes_at turn es)) ∙ pages-changes_at turn es)

pub pages_of-handed : (ls : List Layer) (turn : ℕ) (es : List Page) → pages_of (ls ++ onto turn (changes_at turn es) []) ≡ pages_of ls ++ es
pages_of-handed ls turn es =
    pages_of-append ls (onto turn (changes_at turn es) [])
    ∙ ap (λ x. pages_of ls ++ x) (pages_of-onto turn (changes_at turn es) [] ∙ append-nil (map page_in (changes_at turn es)) ∙ pages-changes_at turn es)

pub AreWithin-left : (n : ℕ) (es fs : List Page) → AreWithin n (es ++ fs) → AreWithin n es
AreWithin-left n [] fs all = tt
AreWithin-left n (e ∷ es) fs all = (all.0, AreWithin-left n es fs all.1)

pub AreWithin-right : (n : ℕ) (es fs : List Page) → AreWithin n (es ++ fs) → AreWithin n fs
AreWithin-right n [] fs all = all
AreWithin-right n (e ∷ es) fs all = AreWithin-right n es fs all.1

-- the newest change of a page is one of that page, and lies where all lie
pub record IsFound (n p : ℕ) (c : Change) : Type 0 where
  pub page : c.page.page ≡ p
  pub within : IsWithin n c.page

pub newest_found : (n p : ℕ) (cs : List Change) (c : Change) → AreWithin n (map page_in cs) → newest_by page_in p cs ≡ Some c → IsFound n p c
newest_found n p [] c all e = absurd cc
newest_found n p (d ∷ cs) c all e = here (d.page.page == p) (newest_by page_in p cs) (λ t. eqb-true d.page.page p t) (newest_found n p cs c all.1) e
  where
    here : (b : Bool) (o : Option Change) → (b ≡ true → d.page.page ≡ p) → (o ≡ Some c → IsFound n p c) → option_or o (if b then Some d else None) ≡ Some c → IsFound n p c
    here b (Some x) same later e = later e
    here true None same later e = let it : d ≡ c = cc in subst (λ (x : Change). IsFound n p x) it (record { page = same refl; within = all.0 })
    here false None same later e = absurd cc

-- without a page
pub AreWithin-without : (n p : ℕ) (cs : List Change) → AreWithin n (map page_in cs) → AreWithin n (map page_in (without_page p cs))
AreWithin-without n p [] all = tt
AreWithin-without n p (c ∷ cs) all = elim (c.page.page == p) as (λ b. AreWithin n (map page_in (if not b then c ∷ without_page p cs else without_page p cs))) [ true ↦ AreWithin-without n p cs all.1 | false ↦ (all.0, AreWithin-without n p cs all.1) ]

kept_or : (p q : ℕ) (c : Change) (cs : List Change) (b : Bool) → among (numbers (map page_in (if not b then c ∷ cs else cs))) q ≡ (if b then among (numbers (map page_in cs)) q else ((c.page.page == q) || among (numbers (map page_in cs)) q))
kept_or p q c cs true = refl
kept_or p q c cs false = refl

wider : (b d x y : Bool) → (x ≡ true → y ≡ true) → (if b then x else (d || x)) ≡ true → (d || y) ≡ true
wider b true x y more h = refl
wider true false x y more h = more h
wider false false x y more h = more h

pub among-without : (p q : ℕ) (cs : List Change) → among (numbers (map page_in (without_page p cs))) q ≡ true → among (numbers (map page_in cs)) q ≡ true
among-without p q [] h = h
among-without p q (c ∷ cs) h =
    wider (c.page.page == p) (c.page.page == q) _ _ (among-without p q cs) (sym (kept_or p q c (without_page p cs) (c.page.page == p)) ∙ h)

pub newest-without_same : (p : ℕ) (cs : List Change) → newest p (map page_in (without_page p cs)) ≡ None
newest-without_same p [] = refl
newest-without_same p (c ∷ cs) =
    ⊎_elim
    (λ (same : c.page.page ≡ p). rw (eq-eqb c.page.page p same) (newest-without_same p cs))
    (λ other. rw (ne_eqb c.page.page p other) (rw (newest-without_same p cs, ne_eqb c.page.page p other) refl))
    (cases_eq c.page.page p)

pub newest-without_other : (p q : ℕ) (cs : List Change) → (p ≡ q → ⊥) → newest q (map page_in (without_page p cs)) ≡ newest q (map page_in cs)
newest-without_other p q [] ne = refl
newest-without_other p q (c ∷ cs) ne =
    ⊎_elim
    (λ (same : c.page.page ≡ p). let no : c.page.page ≡ q → ⊥ = λ e. ne (sym same ∙ e) in rw (eq-eqb c.page.page p same, ne_eqb c.page.page q no) (newest-without_other p q cs ne ∙ sym (option_or-none (newest q (map page_in cs)))))
    (λ other. rw (ne_eqb c.page.page p other) (ap (λ o. option_or o (if c.page.page == q then Some c.page else None)) (newest-without_other p q cs ne)))
    (cases_eq c.page.page p)

-- pages as they are in the heap
abbrev pub AreOwn : ℕ → List ℕ → List Page → Type 0
AreOwn n heap es = AllByRecursion (λ (e : Page). (e.page < n) × (e.bytes ≡ page_of heap e.page)) es

pub length-page_of : (n p : ℕ) (heap : List ℕ) → length heap ≡ 256 * n → p < n → length (page_of heap p) ≡ 256
length-page_of n p heap size lt = omega (arith, length-take 256 (drop (256 * p) heap), length-drop (256 * p) heap)

module _ (n : ℕ) (heap : List ℕ) (size : length heap ≡ 256 * n) where
  pub AreWithin-own : (es : List Page) → AreOwn n heap es → AreWithin n es
  AreWithin-own [] own = tt
  AreWithin-own (e ∷ es) own = ((own.0.0, ap length own.0.1 ∙ length-page_of n e.page heap size own.0.0), AreWithin-own es own.1)

  own_newest : (es : List Page) (p : ℕ) → AreOwn n heap es → bytes_or (page_of heap p) (newest p es) ≡ page_of heap p
  own_newest [] p own = refl
  own_newest (e ∷ es) p own = here (newest p es) (e.page == p) (λ t. own.0.1 ∙ ap (page_of heap) (eqb-true e.page p t)) (own_newest es p own.1)
    where
      here : (o : Option Page) (b : Bool) → (b ≡ true → e.bytes ≡ page_of heap p) → bytes_or (page_of heap p) o ≡ page_of heap p → bytes_or (page_of heap p) (option_or o (if b then Some e else None)) ≡ page_of heap p
      here (Some x) b own h = h
      here None true own h = own refl
      here None false own h = refl

  -- laid over the heap they change nothing
  pub overlay-own : (es : List Page) → AreOwn n heap es → overlay heap es ≡ heap
  overlay-own es own =
      let within = AreWithin-own es own in
      same_pages n (overlay heap es) heap (length-overlay n heap es size within) size (λ p lt. page_of-overlay n heap es p size within ∙ own_newest es p own)

-- the pages of a base
pub AreOwn-append : (n : ℕ) (heap : List ℕ) (es fs : List Page) → AreOwn n heap es → AreOwn n heap fs → AreOwn n heap (es ++ fs)
AreOwn-append n heap [] fs one other = other
AreOwn-append n heap (e ∷ es) fs one other = (one.0, AreOwn-append n heap es fs one.1 other)

AreOwn-base_change : (n settled p : ℕ) (heap : List ℕ) (o : Option Change) → p < n → AreOwn n heap (map page_in (base_change settled heap p o))
AreOwn-base_change n settled p heap None lt = tt
AreOwn-base_change n settled p heap (Some c) lt = elim (stays settled c.turn) as (λ b. AreOwn n heap (map page_in (if b then record { turn = c.turn; page = record { page = p; bytes = page_of heap p } } ∷ [] else []))) [ true ↦ ((lt, refl), tt) | false ↦ tt ]

among-base_change : (settled p : ℕ) (heap : List ℕ) (o : Option Change) (c : Change) → o ≡ Some c → stays settled c.turn ≡ true → among (numbers (map page_in (base_change settled heap p o))) p ≡ true
among-base_change settled p heap None c e h = absurd cc
among-base_change settled p heap (Some d) c e h =
    let it : c ≡ d = cc in
    let there : stays settled d.turn ≡ true = subst (λ (x : Change). stays settled x.turn ≡ true) it h in
    rw (there, eq-eqb p p refl) refl

abbrev pub piece : ℕ → TurnPages → ℕ → List Change
piece settled t p = base_change settled t.heap p (last_change p t.live)

AreOwn-pieces : (n settled : ℕ) (t : TurnPages) (a k : ℕ) → a + k ≤ n → AreOwn n t.heap (map page_in (flat_map (piece settled t) (range_with_len a k)))
AreOwn-pieces n settled t a zero le = tt
AreOwn-pieces n settled t a (suc k) le =
    subst (AreOwn n t.heap) (sym (map-append page_in (piece settled t a) (flat_map (piece settled t) (range_with_len (a + 1) k))))
    (AreOwn-append n t.heap _ _ (AreOwn-base_change n settled a t.heap (last_change a t.live) (omega arith)) (AreOwn-pieces n settled t (a + 1) k (omega arith)))

pub AreOwn-base : (n settled : ℕ) (t : TurnPages) → AreOwn n t.heap (map page_in (base_changes n settled t))
AreOwn-base n settled t = AreOwn-pieces n settled t 0 n (omega arith)

either_true : (a b : Bool) → (a ≡ true) ⊎ (b ≡ true) → (a || b) ≡ true
either_true true b h = refl
either_true false true h = refl
either_true false false h = ⊎_elim (λ x. x) (λ y. y) h

among-pieces : (settled : ℕ) (t : TurnPages) (p : ℕ) (c : Change) (a k : ℕ) → a ≤ p → p < a + k → last_change p t.live ≡ Some c → stays settled c.turn ≡ true → among (numbers (map page_in (flat_map (piece settled t) (range_with_len a k)))) p ≡ true
among-pieces settled t p c a zero low high e h = absurd (omega arith)
among-pieces settled t p c a (suc k) low high e h =
    let rest = flat_map (piece settled t) (range_with_len (a + 1) k) in
    let parts : numbers (map page_in (piece settled t a ++ rest)) ≡ numbers (map page_in (piece settled t a)) ++ numbers (map page_in rest) = ap numbers (map-append page_in (piece settled t a) rest) ∙ map-append (λ (x : Page). x.page) (map page_in (piece settled t a)) (map page_in rest) in
    ap (λ ps. among ps p) parts ∙ among-append p (numbers (map page_in (piece settled t a))) (numbers (map page_in rest))
    ∙ either_true _ _
    (⊎_elim
    (λ (same : p ≡ a). inl (subst (λ q. among (numbers (map page_in (piece settled t q))) p ≡ true) same (among-base_change settled p t.heap (last_change p t.live) c e h)))
    (λ other. inr (among-pieces settled t p c (a + 1) k (omega arith) (omega arith) e h))
    (cases_eq p a))

pub among-base : (n settled : ℕ) (t : TurnPages) (p : ℕ) (c : Change) → p < n → last_change p t.live ≡ Some c → stays settled c.turn ≡ true → among (numbers (map page_in (base_changes n settled t))) p ≡ true
among-base n settled t p c lt e h = among-pieces settled t p c 0 n (omega arith) (omega arith) e h
