-- What is to patch is behind the live records, and what was told as settled holds for ever after.
use Rattle.std.proofs.Common.{◌≡◌, ℕ, ◌+◌, ◌≤◌, List, [], ◌∷◌, Bool, true, false, ◌==◌, ◌||◌, Some, refl, sym, ap, subst, ◌∙◌, ◌⊎◌, inl, inr, ⊎_elim, arith}
use Rattle.std.specs.Prelude.{nat_lt}
use Rattle.std.specs.List.{AllByRecursion}
use Rattle.std.proofs.lemmas.Bool.{false≢true, eqb-false, ltb-false}
use Rattle.std.proofs.lemmas.List.{map-append}
use Rattle.ken_record.specs.declared.page.Page.{Page}
use Rattle.ken_cover.specs.declared.layers.Change.{Change}
use Rattle.ken_cover.specs.declared.layers.Layer.{Layer}
use Rattle.ken_cover.specs.Overlay.{numbers, among}
use Rattle.ken_cover.specs.Sides.{pages_of, last_change, stays}
use Rattle.ken_cover.proofs.Newest.{among-append}
use Rattle.ken_cover.proofs.Bases.{pages_of-first}
use Rattle.ken_cover.proofs.Keeps.{known}
use Rattle.ken_store.specs.declared.patching.Ahead.{Ahead}
use Rattle.ken_store.specs.declared.patching.Origin.{Origin}
use Rattle.ken_store.specs.declared.patching.Origin.TheVariants.{Base, Record}
use Rattle.ken_store.specs.Ahead.{ahead_layers}
use Rattle.ken_store.specs.Patching.{RiseWithin, origin_before, settled_before}
use Rattle.ken_store.specs.PatchLaws.{layer_pages, IsBehind, SettledPagesAreClean}

-- ---- a page of some layers is one of a layer

pub or_cases : (a b : Bool) → (a || b) ≡ true → (a ≡ true) ⊎ (b ≡ true)
or_cases true b h = inl refl
or_cases false b h = inr h

pub neither : (a b : Bool) → (a || b) ≡ false → (a ≡ false) × (b ≡ false)
neither true b h = absurd (false≢true (sym h))
neither false b h = (refl, h)

pub among-first : (l : Layer) (ls : List Layer) (p : ℕ) → among (numbers (pages_of (l ∷ ls))) p ≡ (among (numbers (layer_pages l)) p || among (numbers (pages_of ls)) p)
among-first l ls p =
    ap (λ (es : List Page). among (numbers es) p) (pages_of-first l ls)
    ∙ ap (λ (ps : List ℕ). among ps p) (map-append (λ (e : Page). e.page) (layer_pages l) (pages_of ls))
    ∙ among-append p (numbers (layer_pages l)) (numbers (pages_of ls))

-- so it last changed no earlier than the least of their turns
pub changed_since : (least : ℕ) (live ls : List Layer) → AllByRecursion (IsBehind live) ls → AllByRecursion (λ (l : Layer). least ≤ l.turn) ls → (p : ℕ) → among (numbers (pages_of ls)) p ≡ true → (c : Change) → last_change p live ≡ Some c → least ≤ c.turn
changed_since least live [] behind from p h c e = absurd (false≢true h)
changed_since least live (l ∷ ls) behind from p h c e =
    ⊎_elim
    (λ (here : among (numbers (layer_pages l)) p ≡ true).
    let d = behind.0 p here in
    let same : c ≡ d.0 = let was = d.1 in cc (e, was) in
    let turn : c.turn ≡ d.0.turn = ap (λ (x : Change). x.turn) same in
    omega (arith, from.0, d.2, turn))
    (λ later. changed_since least live ls behind.1 from.1 p later c e)
    (or_cases _ _ (sym (among-first l ls p) ∙ h))

-- ---- what is told as settled

from_least : (least last : ℕ) (items : List Ahead) → RiseWithin least last items → AllByRecursion (λ (l : Layer). least ≤ l.turn) (ahead_layers items)
from_least least last [] h = tt
from_least least last (a ∷ rest) h = (h.0, lower least (a.turn + 1) (omega (arith, h.0)) (ahead_layers rest) (from_least (a.turn + 1) last rest h.2))
  where
    lower : (m k : ℕ) → m ≤ k → (ls : List Layer) → AllByRecursion (λ (l : Layer). k ≤ l.turn) ls → AllByRecursion (λ (l : Layer). m ≤ l.turn) ls
    lower m k le [] all = tt
    lower m k le (l ∷ ls) all = (omega (arith, all.0), lower m k le ls all.1)

-- what doesn't stay is settled, and not by 0
gone : (settled turn : ℕ) → stays settled turn ≡ false → (1 ≤ settled) × (turn ≤ settled)
gone settled turn h =
    let none = neither (settled == 0) (nat_lt settled turn) h in
    let some = eqb-false settled 0 none.0 in
    let until = ltb-false settled turn none.1 in
    (omega (arith, some), until)

-- no page that is to patch changed so early
first_unsettled : (o : Origin) (first turn : ℕ) → (o ≡ Record → 1 ≤ first) → first ≤ turn → 1 ≤ origin_before o first → turn ≤ origin_before o first → ⊥
first_unsettled Base first turn from le one until = absurd (omega arith)
first_unsettled Record first turn from le one until = let f : 1 ≤ first = from refl in omega arith

pub settled_clean : SettledPagesAreClean
settled_clean last [] t i order ahead behind p c e h = ap (λ (ls : List Layer). among (numbers (pages_of ls)) p) (sym ahead)
settled_clean last (a ∷ rest) t i order ahead behind p c e h =
    ⊎_elim
    (λ (is : among (numbers (pages_of i.ahead)) p ≡ true).
    let least : a.turn ≤ c.turn = changed_since a.turn t.live i.ahead behind (subst (AllByRecursion (λ (l : Layer). a.turn ≤ l.turn)) ahead (from_least a.turn last (a ∷ rest) (omega arith, order.rising.1, order.rising.2))) p is c e in
    let out = gone (settled_before a) c.turn h in
    absurd (first_unsettled a.origin a.turn c.turn order.each.0.turn least out.0 out.1))
    (λ is. is)
    (known (among (numbers (pages_of i.ahead)) p))
