-- The next page is written.
use Rattle.std.proofs.Common.{◌≡◌, ℕ, ◌+◌, ◌-◌, ◌*◌, ◌<◌, ◌≤◌, List, [], ◌∷◌, length, get_or, take, drop, Bool, true, false, ◌==◌, ◌||◌, ◌&&◌, IsTrue, Some, None, refl, sym, ap, subst, ◌∙◌, inr, ⊎_elim, arith, eq-eqb, ne_eqb, length-take, length-drop}
use Rattle.std.specs.Prelude.{nat_le}
use Rattle.std.specs.List.{AllByRecursion}
use Rattle.std.specs.declared.sync.Arc.{Arc}
use Rattle.std.specs.Arc.{arc_value}
use Rattle.std.proofs.lemmas.Bool.{false≢true, cases_lt, eqb-false, leb-true, le-leb}
use Rattle.std.proofs.lemmas.List.{ext_get_or, get_or-take, get_or-drop, get_or_past}
use Rattle.ken_disk.specs.Bytes.{overwrite}
use Rattle.ken_disk.specs.Story.{Story}
use Rattle.ken_disk.specs.Moments.{Through}
use Rattle.ken_disk.specs.Steps.{after_writing}
use Rattle.ken_disk.specs.Through.{Torn}
use Rattle.ken_disk.proofs.Since.{now_too, weaker}
use Rattle.ken_disk.proofs.Overwrites.{length-overwrite, get_or-overwrite_before, get_or-overwrite_in, get_or-overwrite_behind}
use Rattle.ken_pages.specs.Paged.{page_of}
use Rattle.ken_record.specs.declared.page.Page.{Page}
use Rattle.ken_record.specs.Grammar.{rise_from, page_rank}
use Rattle.ken_cover.specs.declared.layers.Change.{Change}
use Rattle.ken_cover.specs.declared.layers.Layer.{Layer}
use Rattle.ken_cover.specs.Overlay.{with_page, newest_by, IsWithin}
use Rattle.ken_cover.specs.Sides.{ImagePages, changes_at, onto, without_page, patched_page}
use Rattle.ken_cover.specs.Covers.{IsPossible}
use Rattle.ken_cover.proofs.Bytes.{length-with_page, page_of-with_page_other}
use Rattle.ken_image.specs.Calls.{Write}
use Rattle.ken_image.specs.Pages.{place_of, IsTornPage}
use Rattle.ken_image.specs.Whole.{Keeps}
use Rattle.ken_store.specs.declared.patching.Ahead.{Ahead}
use Rattle.ken_store.specs.Ahead.{frame_pages, ahead_layers}
use Rattle.ken_store.specs.Patching.{HoldsImage, RiseWithin, IsRecordAhead, FollowOneBase, IsInOrder, Patched, MayBePatched, page_calls, first_number, IsLessOnePage, Leaves, GoesOn}

or_false_left : (a b : Bool) → (a || b) ≡ false → a ≡ false
or_false_left true b h = absurd (false≢true (sym h))
or_false_left false b h = refl

or_false_right : (a b : Bool) → (a || b) ≡ false → b ≡ false
or_false_right true b h = absurd (false≢true (sym h))
or_false_right false b h = h

-- ---- the first of some pages

pub record FirstOf {Z : Type 0} (xs : List (ℕ × Arc (List ℕ) Z)) : Type 0 where
  pub page : Page
  pub others : List Page
  pub all : frame_pages xs ≡ page ∷ others
  pub left : frame_pages (drop 1 xs) ≡ others
  pub calls : page_calls xs ≡ Write (place_of page.page) page.bytes ∷ []
  pub number : first_number xs ≡ page.page

pub first_of : {Z : Type 0} (xs : List (ℕ × Arc (List ℕ) Z)) → (xs ≡ [] → ⊥) → FirstOf xs
first_of [] some = absurd (some refl)
first_of (x ∷ xs) some = record { page = record { page = x.0; bytes = arc_value x.1 }; others = frame_pages xs; all = refl; left = refl; calls = refl; number = refl }

-- ---- pages that rise

abbrev pub page_in : Change → Page
page_in c = c.page

and_left : (a b : Bool) → IsTrue (a && b) → a ≡ true
and_left true b h = refl
and_left false b h = absurd (false≢true h)

and_right : (a b : Bool) → IsTrue (a && b) → IsTrue b
and_right true b h = h
and_right false b h = absurd (false≢true h)

other_newest : (turn p low : ℕ) (es : List Page) → p < low → IsTrue (rise_from page_rank low es) → newest_by page_in p (changes_at turn es) ≡ None
other_newest turn p low [] lt rise = refl
other_newest turn p low (e ∷ es) lt rise =
    let from : low ≤ e.page = leb-true low e.page (and_left (nat_le low e.page) (rise_from page_rank (e.page + 1) es) rise) in
    let apart : e.page ≡ p → ⊥ = λ is. omega (arith, is, from) in
    rw (other_newest turn p (e.page + 1) es (omega (arith, from)) (and_right (nat_le low e.page) (rise_from page_rank (e.page + 1) es) rise), ne_eqb e.page p apart) refl

others_stay : (turn p low : ℕ) (es : List Page) → p < low → IsTrue (rise_from page_rank low es) → without_page p (changes_at turn es) ≡ changes_at turn es
others_stay turn p low [] lt rise = refl
others_stay turn p low (e ∷ es) lt rise =
    let from : low ≤ e.page = leb-true low e.page (and_left (nat_le low e.page) (rise_from page_rank (e.page + 1) es) rise) in
    let apart : e.page ≡ p → ⊥ = λ is. omega (arith, is, from) in
    rw (ne_eqb e.page p apart) (ap (λ (cs : List Change). record { turn = turn; page = e } ∷ cs) (others_stay turn p (e.page + 1) es (omega (arith, from)) (and_right (nat_le low e.page) (rise_from page_rank (e.page + 1) es) rise)))

module _ (turn : ℕ) (e : Page) (es : List Page) (rise : IsTrue (rise_from page_rank 0 (e ∷ es))) where
  above : IsTrue (rise_from page_rank (e.page + 1) es)
  above = and_right (nat_le 0 e.page) (rise_from page_rank (e.page + 1) es) rise

  -- its change is the newest of that page, and the other changes are of other pages
  pub newest_first : newest_by page_in e.page (changes_at turn (e ∷ es)) ≡ Some (record { turn = turn; page = e })
  newest_first = rw (other_newest turn e.page (e.page + 1) es (omega arith) above, eq-eqb e.page e.page refl) refl

  pub without_first : without_page e.page (changes_at turn (e ∷ es)) ≡ changes_at turn es
  without_first = rw (eq-eqb e.page e.page refl) (others_stay turn e.page (e.page + 1) es (omega arith) above)

  pub rise_less : IsTrue (rise_from page_rank 0 es)
  rise_less = lower es above
    where
      lower : (xs : List Page) → IsTrue (rise_from page_rank (e.page + 1) xs) → IsTrue (rise_from page_rank 0 xs)
      lower [] h = refl
      lower (x ∷ xs) h = rw (le-leb 0 x.page (omega arith)) (and_right (nat_le (e.page + 1) x.page) (rise_from page_rank (x.page + 1) xs) h)

-- ---- what is ahead, less one page

leaves_more : {Z : Type 0} (a b : Ahead) (rest new : List Ahead) (es : List (ℕ × Arc (List ℕ) Z)) → (es ≡ [] → ⊥) → IsLessOnePage a b → new ≡ b ∷ rest → Leaves a rest es new
leaves_more a b rest new [] some less is = absurd (some refl)
leaves_more a b rest new (e ∷ es) some less is = (b, less, is)

pub goes_more : (a b : Ahead) (rest items new : List Ahead) → items ≡ a ∷ rest → IsLessOnePage a b → (b.pages.items ≡ [] → ⊥) → new ≡ b ∷ rest → GoesOn items new
goes_more a b rest items new is less some new_is =
    subst (λ (l : List Ahead). GoesOn l new) (sym is) (leaves_more a b rest new (drop 1 a.pages.items) (λ none. some (less.pages ∙ none)) less new_is)

rise_lower : (m k last : ℕ) (items : List Ahead) → m ≤ k → RiseWithin k last items → RiseWithin m last items
rise_lower m k last [] le h = tt
rise_lower m k last (a ∷ rest) le h = (omega (arith, h.0), h.1, h.2)

follow_rest : (items : List Ahead) → AllByRecursion IsRecordAhead items → FollowOneBase items
follow_rest [] all = tt
follow_rest (a ∷ rest) all = all.1

pub record IsPassed (last : ℕ) (a : Ahead) (rest : List Ahead) (others : List Page) (new : List Ahead) : Type 0 where
  pub in_order : IsInOrder last new
  pub layers : ahead_layers new ≡ onto a.turn (changes_at a.turn others) (ahead_layers rest)

module _ (last : ℕ) (a : Ahead) (rest new : List Ahead) (order : IsInOrder last (a ∷ rest)) (one : FirstOf a.pages.items) where
  pub rises : IsTrue (rise_from page_rank 0 (one.page ∷ one.others))
  rises = subst (λ (es : List Page). IsTrue (rise_from page_rank 0 es)) one.all order.each.0.rising

  by_left : {Z : Type 0} (es : List (ℕ × Arc (List ℕ) Z)) → frame_pages es ≡ one.others → (drop 1 a.pages.items ≡ [] → es ≡ []) → Leaves a rest es new → IsPassed last a rest one.others new
  by_left [] left none is = record {
    in_order = subst (IsInOrder last) (sym is) (record { rising = rise_lower 0 (a.turn + 1) last rest (omega arith) order.rising.2; base = follow_rest rest order.base; each = order.each.1 });
    layers = ap ahead_layers is ∙ ap (λ (xs : List Page). onto a.turn (changes_at a.turn xs) (ahead_layers rest)) left;
  }
  by_left (e ∷ es) left none is =
      let b = is.0 in
      let less = is.1 in
      let holds : frame_pages b.pages.items ≡ one.others = ap frame_pages less.pages ∙ one.left in
      record {
        in_order = subst (IsInOrder last) (sym is.2) (record {
          rising = (omega arith, omega (arith, less.turn, order.rising.1), subst (λ (k : ℕ). RiseWithin (k + 1) last rest) (sym less.turn) order.rising.2);
          base = order.base;
          each = (
            record {
              some = λ empty. absurd (let no : ⊥ = cc (none (sym less.pages ∙ empty)) in no);
              rising = subst (λ (xs : List Page). IsTrue (rise_from page_rank 0 xs)) (sym holds) (rise_less a.turn one.page one.others rises);
              turn = λ r. let from : 1 ≤ a.turn = order.each.0.turn (sym less.origin ∙ r) in omega (arith, less.turn, from);
            },
            order.each.1,
          );
        });
        layers = ap ahead_layers is.2
            ∙ ap (λ (k : ℕ). record { turn = k; changes = changes_at k (frame_pages b.pages.items) } ∷ ahead_layers rest) less.turn
            ∙ ap (λ (xs : List Page). record { turn = a.turn; changes = changes_at a.turn xs } ∷ ahead_layers rest) (holds ∙ sym left)
            ∙ ap (λ (xs : List Page). onto a.turn (changes_at a.turn xs) (ahead_layers rest)) left;
      }

  pub passed : GoesOn (a ∷ rest) new → IsPassed last a rest one.others new
  passed is = by_left (drop 1 a.pages.items) one.left (λ none. none) is

-- ---- the disk then

page_same : (x y : List ℕ) (p : ℕ) → length x ≡ length y → ((place : ℕ) → 256 * p ≤ place → place < 256 * p + 256 → get_or x place 0 ≡ get_or y place 0) → page_of x p ≡ page_of y p
page_same x y p long same =
    ext_get_or 0 (page_of x p) (page_of y p)
    (omega (arith, long, length-take 256 (drop (256 * p) x), length-take 256 (drop (256 * p) y), length-drop (256 * p) x, length-drop (256 * p) y))
    (λ k lt.
    let near : k < 256 = omega (arith, length-take 256 (drop (256 * p) x)) in
    get_or-take 256 (drop (256 * p) x) k 0 near
    ∙ get_or-drop (256 * p) x k 0
    ∙ same (256 * p + k) (omega arith) (omega (arith, near))
    ∙ sym (get_or-drop (256 * p) y k 0)
    ∙ sym (get_or-take 256 (drop (256 * p) y) k 0 near))

-- bytes that agree outside a range
torn_same : (at m : ℕ) (old new : List ℕ) → Torn at m old new → (place : ℕ) → (at ≤ place → place < at + m → ⊥) → get_or new place 0 ≡ get_or old place 0
torn_same at m old new torn place outside =
    ⊎_elim
    (λ before. sym (get_or-take at new place 0 before) ∙ ap (λ (l : List ℕ). get_or l place 0) torn.before ∙ get_or-take at old place 0 before)
    (λ from. ⊎_elim
    (λ to. absurd (outside from to))
    (λ (behind : at + m ≤ place).
    let there : at + m + (place - (at + m)) ≡ place = omega arith in
    ap (λ (k : ℕ). get_or new k 0) (sym there)
    ∙ sym (get_or-drop (at + m) new (place - (at + m)) 0)
    ∙ ap (λ (l : List ℕ). get_or l (place - (at + m)) 0) torn.after
    ∙ get_or-drop (at + m) old (place - (at + m)) 0
    ∙ ap (λ (k : ℕ). get_or old k 0) there)
    (cases_lt place (at + m)))
    (cases_lt place at)

module _ (n : ℕ) (e : Page) (inside : IsWithin n e) where
  at_end : place_of e.page + 256 ≤ 256 * n
  at_end = omega (arith, inside.0)

  -- of a disk that is longer than the image, the page is written in the image
  take-overwrite : (x : List ℕ) → 256 * n ≤ length x → take (256 * n) (overwrite (place_of e.page) e.bytes x) ≡ with_page (take (256 * n) x) e
  take-overwrite x long =
      let at = place_of e.page in
      let short = take (256 * n) x in
      let size : length short ≡ 256 * n = omega (arith, long, length-take (256 * n) x) in
      let all = length-overwrite at e.bytes x (omega (arith, long, at_end)) in
      let part = length-overwrite at e.bytes short (omega (arith, size, at_end)) in
      ext_get_or 0 (take (256 * n) (overwrite at e.bytes x)) (with_page short e)
      (omega (arith, long, size, all, part, inside.1, at_end, length-take (256 * n) (overwrite at e.bytes x)))
      (λ k lt.
      let near : k < 256 * n = omega (arith, length-take (256 * n) (overwrite at e.bytes x)) in
      get_or-take (256 * n) (overwrite at e.bytes x) k 0 near
      ∙ ⊎_elim
      (λ (before : k < at). get_or-overwrite_before at e.bytes x (omega (arith, long, at_end)) k before ∙ sym (get_or-take (256 * n) x k 0 near) ∙ sym (get_or-overwrite_before at e.bytes short (omega (arith, size, at_end)) k before))
      (λ (from : at ≤ k). ⊎_elim
      (λ (to : k < at + length e.bytes). get_or-overwrite_in at e.bytes x (omega (arith, long, at_end)) k from to ∙ sym (get_or-overwrite_in at e.bytes short (omega (arith, size, at_end)) k from to))
      (λ (behind : at + length e.bytes ≤ k). get_or-overwrite_behind at e.bytes x (omega (arith, long, at_end)) k behind ∙ sym (get_or-take (256 * n) x k 0 near) ∙ sym (get_or-overwrite_behind at e.bytes short (omega (arith, size, at_end)) k behind))
      (cases_lt k (at + length e.bytes)))
      (cases_lt k at))

module _ (n : ℕ) (i : ImagePages) (first : Layer) (rest : List Layer) (c : Change) (inside : IsWithin n c.page) (h : Story) (keeps : Keeps n h.now) (holds : HoldsImage n i h.now) where
  abbrev pub i2 : ImagePages
  i2 = patched_page first rest c i

  image_long : length i.image ≡ 256 * n
  image_long = ap length (sym holds.seen) ∙ omega (arith, keeps.long, keeps.seen.no_shorter, length-take (256 * n) h.now.seen)

  -- what a crash may have left, but for the page
  torn_possible : (image : List ℕ) → IsTornPage c.page.page h.now image → IsPossible i2 (take (256 * n) image)
  torn_possible image t =
      let was = holds.left t.before t.is in
      let long : 256 * n ≤ length t.before = omega (arith, keeps.long, t.is.no_shorter) in
      let all : length (take (256 * n) image) ≡ 256 * n = omega (arith, long, t.torn.no_shorter, length-take (256 * n) image) in
      let part : length (take (256 * n) t.before) ≡ 256 * n = omega (arith, long, length-take (256 * n) t.before) in
      record {
        size = all ∙ sym (length-with_page n i.image c.page image_long inside ∙ image_long);
        same = λ q shut.
            let apart : c.page.page ≡ q → ⊥ = λ is. eqb-false c.page.page q (or_false_left (c.page.page == q) (i.«open» q) shut) is in
            page_same (take (256 * n) image) (take (256 * n) t.before) q (all ∙ sym part)
            (λ place from to.
            ⊎_elim
            (λ (near : place < 256 * n).
            get_or-take (256 * n) image place 0 near
            ∙ torn_same (place_of c.page.page) 256 t.before image t.torn place (λ low high. apart (omega (arith, from, to, low, high)))
            ∙ sym (get_or-take (256 * n) t.before place 0 near))
            (λ (past : 256 * n ≤ place). get_or_past (take (256 * n) image) place 0 (omega (arith, all, past)) ∙ sym (get_or_past (take (256 * n) t.before) place 0 (omega (arith, part, past))))
            (cases_lt place (256 * n)))
            ∙ was.same q (or_false_right (c.page.page == q) (i.«open» q) shut)
            ∙ sym (page_of-with_page_other n i.image c.page image_long inside q apart);
      }

  module _ (s : Story) (through : Through (IsTornPage c.page.page h.now) h s) where
    pub through_patch : Patched i i2 → Through (λ image. MayBePatched i (take (256 * n) image)) h s
    through_patch is = weaker (IsTornPage c.page.page h.now) (λ image. MayBePatched i (take (256 * n) image)) h s (λ image t. inr (i2, (is, torn_possible image t))) through

    pub holds_patched : s ≡ after_writing (place_of c.page.page) c.page.bytes h → HoldsImage n i2 s.now
    holds_patched is = record {
      seen = ap (λ (x : Story). take (256 * n) x.now.seen) is ∙ take-overwrite n c.page inside h.now.seen (omega (arith, keeps.long, keeps.seen.no_shorter)) ∙ ap (λ (x : List ℕ). with_page x c.page) holds.seen;
      left = λ image left. torn_possible image (through.each image (now_too h s image through.on left));
    }
