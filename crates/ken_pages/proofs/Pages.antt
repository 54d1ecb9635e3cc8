-- Lists of pages, and one of them changed.
use Rattle.std.proofs.Common.{◌≡◌, ℕ, ◌+◌, ◌*◌, ◌<◌, ◌≤◌, suc, zero, List, [], ◌∷◌, length, map, get_or, set, Bool, true, false, refl, sym, ap, subst, ◌∙◌, arith, Result, Ok, Err}
use Rattle.std.specs.Prelude.{OnOk, OnErr, IfOk, IfSome}
use Rattle.ken_pages.specs.declared.page.Page.{Page}
use Rattle.ken_pages.specs.Layout.{AreWhole, ArePages, now_of, was_of, is_own, is_kept, now_bytes, was_bytes, SameTurn, paged_of}
use Rattle.ken_pages.specs.Paged.{Paged}
use Rattle.ken_pages.proofs.Flat.{AreWhole-set, length-frame, length-concat_whole, written_in_frame}
use Rattle.ken_frame.specs.Written.{written}
use Rattle.std.specs.List.{concat}

-- what is read of a page is that at its place among what is read of all
pub at_map : {X Y : Type 0} (f : X → Y) (xs : List X) (p : ℕ) (d : X) (e : Y) → p < length xs → get_or (map f xs) p e ≡ f (get_or xs p d)
at_map f [] p d e below = absurd (omega arith)
at_map f (x ∷ xs) zero d e below = refl
at_map f (x ∷ xs) (suc p) d e below = at_map f xs p d e (omega arith)

pub map_set : {X Y : Type 0} (f : X → Y) (xs : List X) (p : ℕ) (x : X) → map f (set xs p x) ≡ set (map f xs) p (f x)
map_set f [] p x = refl
map_set f (y ∷ xs) zero x = refl
map_set f (y ∷ xs) (suc p) x = ap (λ ys. f y ∷ ys) (map_set f xs p x)

-- a page that reads alike changes nothing of what is read
pub map_same : {X Y : Type 0} (f : X → Y) (xs : List X) (p : ℕ) (x d : X) → p < length xs → f x ≡ f (get_or xs p d) → map f (set xs p x) ≡ map f xs
map_same f [] p x d below same = absurd (omega arith)
map_same f (y ∷ xs) zero x d below same = ap (λ z. z ∷ map f xs) same
map_same f (y ∷ xs) (suc p) x d below same = ap (λ ys. f y ∷ ys) (map_same f xs p x d (omega arith) same)

pub length_map : {X Y : Type 0} (f : X → Y) (xs : List X) → length (map f xs) ≡ length xs
length_map f [] = refl
length_map f (x ∷ xs) = ap suc (length_map f xs)

-- a page's bytes are whole
pub length_now : (ps : List Page) (p : ℕ) (d : Page) → ArePages ps → p < length ps → length (now_of (get_or ps p d)) ≡ 256
length_now ps p d pages below = ap length (sym (at_map now_of ps p d [] below)) ∙ length-frame (map now_of ps) p [] pages.now (omega (arith, length_map now_of ps))

-- one page changed, that was whole when the turn began
pub ArePages-set : (ps : List Page) (p : ℕ) (x : Page) → ArePages ps → length (now_of x) ≡ 256 → length (was_of x) ≡ 256 → ArePages (set ps p x)
ArePages-set ps p x pages now was = record {
  now = subst AreWhole (sym (map_set now_of ps p x)) (AreWhole-set (map now_of ps) p (now_of x) pages.now now);
  was = subst AreWhole (sym (map_set was_of ps p x)) (AreWhole-set (map was_of ps) p (was_of x) pages.was was);
}

pub length_was : (ps : List Page) (p : ℕ) (d : Page) → ArePages ps → p < length ps → length (was_of (get_or ps p d)) ≡ 256
length_was ps p d pages below = ap length (sym (at_map was_of ps p d [] below)) ∙ length-frame (map was_of ps) p [] pages.was (omega (arith, length_map was_of ps))

pub length_pages : (ps : List Page) → ArePages ps → length (now_bytes ps) ≡ 256 * length ps
length_pages ps pages = length-concat_whole (map now_of ps) pages.now ∙ ap (λ n. 256 * n) (length_map now_of ps)

pub length_begun : (ps : List Page) → ArePages ps → length (was_bytes ps) ≡ 256 * length ps
length_begun ps pages = length-concat_whole (map was_of ps) pages.was ∙ ap (λ n. 256 * n) (length_map was_of ps)

-- bytes of one page written
pub now_bytes-written : (ps : List Page) (p off at : ℕ) (ys : List ℕ) (x d : Page) → ArePages ps → p < length ps → off + length ys ≤ 256 → at ≡ 256 * p + off → now_of x ≡ written (now_of (get_or ps p d)) off ys → now_bytes (set ps p x) ≡ written (now_bytes ps) at ys
now_bytes-written ps p off at ys x d pages below fits is new =
    let here : now_of x ≡ written (get_or (map now_of ps) p []) off ys = new ∙ ap (λ f. written f off ys) (sym (at_map now_of ps p d [] below)) in
    ap concat (map_set now_of ps p x) ∙ ap (λ f. concat (set (map now_of ps) p f)) here ∙ written_in_frame (map now_of ps) p off at ys [] pages.now (omega (arith, length_map now_of ps)) fits is

-- the others are as before, and so is what the turn has of it
pub SameTurn-set : (ps : List Page) (p : ℕ) (x d : Page) → p < length ps → is_own x ≡ is_own (get_or ps p d) → is_kept x ≡ is_kept (get_or ps p d) → was_of x ≡ was_of (get_or ps p d) → SameTurn ps (set ps p x)
SameTurn-set ps p x d below own kept was = record {
  own = map_same is_own ps p x d below own;
  kept = map_same is_kept ps p x d below kept;
  was = map_same was_of ps p x d below was;
}

-- how long the bytes are that the pages stand for
pub length_view : (begun : Bool) (ps : List Page) (shelf : List (List ℕ)) (v : Paged) → ArePages ps → paged_of begun ps shelf ≡ v → length v.bytes ≡ 256 * length ps
length_view begun ps shelf v pages is = ap (λ (w : Paged). length w.bytes) (sym is) ∙ length_pages ps pages

pub own_view : (begun : Bool) (ps : List Page) (shelf : List (List ℕ)) (v : Paged) → paged_of begun ps shelf ≡ v → length v.own ≡ length ps
own_view begun ps shelf v is = ap (λ (w : Paged). length w.own) (sym is) ∙ length_map is_own ps

pub begun_view : (begun : Bool) (ps : List Page) (shelf : List (List ℕ)) (v : Paged) → ArePages ps → paged_of begun ps shelf ≡ v → IfSome v.begun (λ before. length before ≡ 256 * length ps)
begun_view true ps shelf v pages is = subst (λ (w : Paged). IfSome w.begun (λ before. length before ≡ 256 * length ps)) is (length_begun ps pages)
begun_view false ps shelf v pages is = subst (λ (w : Paged). IfSome w.begun (λ before. length before ≡ 256 * length ps)) is tt

pub SameTurn-trans : (a b c : List Page) → SameTurn a b → SameTurn b c → SameTurn a c
SameTurn-trans a b c s t = record {
  own = t.own ∙ s.own;
  kept = t.kept ∙ s.kept;
  was = t.was ∙ s.was;
}

-- a page that reads alike
pub ArePages-same : (ps : List Page) (p : ℕ) (x d : Page) → p < length ps → now_of x ≡ now_of (get_or ps p d) → was_of x ≡ was_of (get_or ps p d) → ArePages ps → ArePages (set ps p x)
ArePages-same ps p x d below now was pages = record {
  now = subst AreWhole (sym (map_same now_of ps p x d below now)) pages.now;
  was = subst AreWhole (sym (map_same was_of ps p x d below was)) pages.was;
}

pub on_ok : {X E : Type 0} {P Q : Type 0} (r : Result X E) → (P → Q) → OnOk r P → OnOk r Q
on_ok (Ok x) f p = f p
on_ok (Err e) f p = tt

pub if_ok : {X E : Type 0} {P Q : X → Type 0} (r : Result X E) → ((x : X) → P x → Q x) → IfOk r P → IfOk r Q
if_ok (Ok x) f p = f x p
if_ok (Err e) f p = tt

pub on_err : {X E : Type 0} {P Q : Type 0} (r : Result X E) → (P → Q) → OnErr r P → OnErr r Q
on_err (Ok x) f p = tt
on_err (Err e) f p = f p

-- what holds after both
pub either : {X E : Type 0} {P Q R : Type 0} (r : Result X E) → (P → R) → (Q → R) → OnOk r P → OnErr r Q → R
either (Ok x) f g p q = f p
either (Err e) f g p q = g q
