-- What is ahead of the image, in order.
use Rattle.std.proofs.Common.{◌≡◌, ℕ, ◌+◌, ◌<◌, ◌≤◌, List, [], ◌∷◌, ◌++◌, IsTrue, Option, refl, sym, ap, subst, ◌∙◌, arith}
use Rattle.std.specs.List.{AllByRecursion}
use Rattle.std.specs.declared.sync.Arc.{Arc}
use Rattle.std.proofs.lemmas.List.{map-append, append-nil}
use Rattle.ken_disk.specs.Story.{DiskState, Story, Tells}
use Rattle.ken_record.specs.declared.page.Page.{Page}
use Rattle.ken_record.specs.Grammar.{rise_from, page_rank}
use Rattle.ken_cover.specs.declared.layers.Layer.{Layer}
use Rattle.ken_cover.specs.Overlay.{AreWithin}
use Rattle.ken_cover.specs.Sides.{ImagePages, pages_of, changes_at, onto, handed_pages}
use Rattle.ken_cover.proofs.Newest.{AreWithin-append}
use Rattle.ken_cover.proofs.Bases.{pages_of-handed}
use Rattle.ken_image.specs.Whole.{HasAllPages}
use Rattle.ken_store.specs.declared.patching.Ahead.{Ahead}
use Rattle.ken_store.specs.declared.patching.Origin.TheVariants.{Record}
use Rattle.ken_store.specs.declared.patching.PatchSide.{PatchSide}
use Rattle.ken_store.specs.Ahead.{ahead_layer, ahead_layers, frame_pages}
use Rattle.ken_store.specs.Patching.{HoldsImage, RiseWithin, IsRecordAhead, FollowOneBase, IsToPatch, IsInOrder, IsPatchSide, TakesPatches, Patching, IsRecordOf, Grows}

-- ---- one more at the end

pub all_last : {A : Type 0} → (P : A → Type 0) (xs : List A) (x : A) → AllByRecursion P xs → P x → AllByRecursion P (xs ++ x ∷ [])
all_last P [] x all one = (one, tt)
all_last P (y ∷ xs) x all one = (all.0, all_last P xs x all.1 one)

rise_last : (least last turn : ℕ) (items : List Ahead) (b : Ahead) → RiseWithin least last items → least ≤ last + 1 → last < turn → b.turn ≡ turn → RiseWithin least turn (items ++ b ∷ [])
rise_last least last turn [] b h le lt is = (omega arith, omega arith, tt)
rise_last least last turn (a ∷ rest) b h le lt is =
    (h.0, omega (arith, h.1), rise_last (a.turn + 1) last turn rest b h.2 (omega (arith, h.1)) lt is)

rise_further : (least last turn : ℕ) (items : List Ahead) → RiseWithin least last items → last ≤ turn → RiseWithin least turn items
rise_further least last turn [] h le = tt
rise_further least last turn (a ∷ rest) h le = (h.0, omega (arith, h.1), rise_further (a.turn + 1) last turn rest h.2 le)

follow_last : (items : List Ahead) (b : Ahead) → FollowOneBase items → IsRecordAhead b → FollowOneBase (items ++ b ∷ [])
follow_last [] b h is = tt
follow_last (a ∷ rest) b h is = all_last IsRecordAhead rest b h is

pub in_order_further : (last turn : ℕ) (items : List Ahead) → IsInOrder last items → last < turn → IsInOrder turn items
in_order_further last turn items o lt = record { rising = rise_further 0 last turn items o.rising (omega arith); base = o.base; each = o.each }

module _ (last turn : ℕ) (items : List Ahead) (b : Ahead) (o : IsInOrder last items) (later : last < turn) (same : b.turn ≡ turn) (is : b.origin ≡ Record) where
  pub in_order_last : (b.pages.items ≡ [] → ⊥) → IsTrue (rise_from page_rank 0 (frame_pages b.pages.items)) → IsInOrder turn (items ++ b ∷ [])
  in_order_last some rising = record {
    rising = rise_last 0 last turn items b o.rising (omega arith) later same;
    base = follow_last items b o.base is;
    each = all_last IsToPatch items b o.each (record { some = some; rising = rising; turn = λ _. omega (arith, later, same) });
  }

-- the layers then
module _ (turn : ℕ) (items : List Ahead) (b : Ahead) (same : b.turn ≡ turn) (some : b.pages.items ≡ [] → ⊥) where
  pub layers-last : ahead_layers (items ++ b ∷ []) ≡ ahead_layers items ++ onto turn (changes_at turn (frame_pages b.pages.items)) []
  layers-last =
      map-append ahead_layer items (b ∷ [])
      ∙ ap (λ (l : List Layer). ahead_layers items ++ l) (by_turn turn same ∙ one b.pages.items some)
    where
      by_turn : (t : ℕ) → b.turn ≡ t → ahead_layer b ∷ [] ≡ record { turn = t; changes = changes_at t (frame_pages b.pages.items) } ∷ []
      by_turn t e = ap (λ (k : ℕ). record { turn = k; changes = changes_at k (frame_pages b.pages.items) } ∷ []) e

      one : {Z : Type 0} (es : List (ℕ × Arc (List ℕ) Z)) → (es ≡ [] → ⊥) → record { turn = turn; changes = changes_at turn (frame_pages es) } ∷ [] ≡ onto turn (changes_at turn (frame_pages es)) []
      one {Z = Z} [] full = absurd (full refl)
      one {Z = Z} (e ∷ es) full = refl

pub layers-none : (turn : ℕ) (ls : List Layer) → ls ≡ ls ++ onto turn (changes_at turn []) []
layers-none turn ls = sym (append-nil ls)

-- ---- a record is handed

pub holds_handed : (n turn : ℕ) (pages : List Page) (i : ImagePages) (s : DiskState) → HoldsImage n i s → HoldsImage n (handed_pages turn pages i) s
holds_handed n turn pages i s h = record { seen = h.seen; left = λ image is. let q = h.left image is in record { size = q.size; same = q.same } }

module _ {D : Type 0} (told : D → Option Story) (size : D → ℕ) (old new : PatchSide D) (turn : ℕ) (pages : List Page) where
  -- what a call has done to a side
  pub record Hands : Type 0 where
    pub image : new.image ≡ old.image
    pub order : IsInOrder old.known old.ahead.items → IsInOrder new.known new.ahead.items
    pub ahead : ahead_layers new.ahead.items ≡ ahead_layers old.ahead.items ++ onto turn (changes_at turn pages) []
    pub within : AreWithin old.image.pages pages

  side_handed : Hands → IsPatchSide told size old → IsPatchSide told size new
  side_handed h t = record {
    image = subst (HasAllPages told size) (sym h.image) t.image;
    order = h.order t.order;
    within = subst (λ (n : ℕ). AreWithin n (pages_of (ahead_layers new.ahead.items))) (ap (λ x. x.pages) (sym h.image))
        (subst (AreWithin old.image.pages) (sym (ap pages_of h.ahead ∙ pages_of-handed (ahead_layers old.ahead.items) turn pages))
        (AreWithin-append old.image.pages (pages_of (ahead_layers old.ahead.items)) pages t.within h.within));
  }

  pub takes_handed : Hands → TakesPatches told size old → TakesPatches told size new
  takes_handed h t = record { side = side_handed h t.side; unspent = ap (λ x. x.spent) h.image ∙ t.unspent }

  pub stands_handed : Hands → (i : ImagePages) → Patching told size old i → Patching told size new (handed_pages turn pages i)
  stands_handed h i p = record {
    takes = side_handed h p.takes;
    ahead = h.ahead ∙ ap (λ (l : List Layer). l ++ onto turn (changes_at turn pages) []) p.ahead;
    holds = subst (λ x. Tells (told x.disk) (λ s. HoldsImage x.pages (handed_pages turn pages i) s.now)) (sym h.image)
        (λ s is. holds_handed old.image.pages turn pages i s.now (p.holds s is));
  }

-- a record with pages, and one without
module _ {D : Type 0} (told : D → Option Story) (size : D → ℕ) (old mid : PatchSide D) (turn : ℕ) (pages : List Page) (image : mid.image ≡ old.image) (later : old.known < turn) (within : AreWithin old.image.pages pages) where
  pub hands_some : (b : Ahead) → mid.ahead.items ≡ old.ahead.items ++ b ∷ [] → b.turn ≡ turn → b.origin ≡ Record → frame_pages b.pages.items ≡ pages → (b.pages.items ≡ [] → ⊥) → IsTrue (rise_from page_rank 0 pages)
      → Hands told size old (record mid { known = turn }) turn pages
  hands_some b ahead same is holds some rising = record {
    image = image;
    order = λ o. subst (IsInOrder turn) (sym ahead) (in_order_last old.known turn old.ahead.items b o later same is some (subst (λ (es : List Page). IsTrue (rise_from page_rank 0 es)) (sym holds) rising));
    ahead = ap ahead_layers ahead ∙ layers-last turn old.ahead.items b same some ∙ ap (λ (es : List Page). ahead_layers old.ahead.items ++ onto turn (changes_at turn es) []) holds;
    within = within;
  }

  pub hands_none : mid.ahead.items ≡ old.ahead.items → pages ≡ [] → Hands told size old (record mid { known = turn }) turn pages
  hands_none ahead none = record {
    image = image;
    order = λ o. subst (IsInOrder turn) (sym ahead) (in_order_further old.known turn old.ahead.items o later);
    ahead = ap ahead_layers ahead ∙ subst (λ (es : List Page). ahead_layers old.ahead.items ≡ ahead_layers old.ahead.items ++ onto turn (changes_at turn es) []) (sym none) (layers-none turn (ahead_layers old.ahead.items));
    within = within;
  }

-- what is to patch then
pub grows_some : (turn : ℕ) (pages : List Page) (items new : List Ahead) (b : Ahead) → new ≡ items ++ b ∷ [] → IsRecordOf turn pages b → (b.pages.items ≡ [] → ⊥) → Grows turn pages items new
grows_some turn [] items new b is of some = absurd (some (none b.pages.items of.pages_are))
  where
    none : {Z : Type 0} (es : List (ℕ × Arc (List ℕ) Z)) → frame_pages es ≡ [] → es ≡ []
    none [] e = refl
    none (x ∷ xs) e = absurd cc
grows_some turn (e ∷ es) items new b is of some = (b, of, is)

pub grows_none : (turn : ℕ) (pages : List Page) (items new : List Ahead) → new ≡ items → pages ≡ [] → Grows turn pages items new
grows_none turn pages items new is none = subst (λ (es : List Page). Grows turn es items new) (sym none) is
