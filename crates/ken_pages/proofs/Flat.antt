-- Whole frames one after the other.
use Rattle.std.proofs.Common.{◌≡◌, ℕ, ◌+◌, ◌*◌, ◌<◌, ◌≤◌, suc, zero, List, [], ◌∷◌, ◌++◌, length, take, drop, get_or, set, replicate, refl, sym, ap, ◌∙◌, arith, length-append, length-drop, take_all}
use Rattle.std.specs.List.{concat}
use Rattle.std.proofs.Math.Seq.{drop-append-add}
use Rattle.std.proofs.lemmas.List.{append-nil, take-append-le, drop-append-le, replicate-append-replicate}
use Rattle.std.proofs.lemmas.List.Folds.{concat-append}
use Rattle.ken_frame.specs.Written.{written}
use Rattle.ken_pages.specs.Paged.{page_of}
use Rattle.ken_pages.specs.Layout.{AreWhole}
use Rattle.ken_frame.proofs.Written.{written-append_left, written-append_right}

pub length-concat_whole : (fs : List (List ℕ)) → AreWhole fs → length (concat fs) ≡ 256 * length fs
length-concat_whole [] whole = refl
length-concat_whole (f ∷ fs) whole =
    let rest : length (concat fs) ≡ 256 * length fs = length-concat_whole fs whole.1 in
    rw length-append (omega (arith, whole.0))

-- the frame at a place is whole
pub length-frame : (fs : List (List ℕ)) (p : ℕ) (d : List ℕ) → AreWhole fs → p < length fs → length (get_or fs p d) ≡ 256
length-frame [] p d whole below = absurd (omega arith)
length-frame (f ∷ fs) zero d whole below = whole.0
length-frame (f ∷ fs) (suc p) d whole below = length-frame fs p d whole.1 (omega arith)

pub AreWhole-set : (fs : List (List ℕ)) (p : ℕ) (g : List ℕ) → AreWhole fs → length g ≡ 256 → AreWhole (set fs p g)
AreWhole-set [] p g whole one = tt
AreWhole-set (f ∷ fs) zero g whole one = (one, whole.1)
AreWhole-set (f ∷ fs) (suc p) g whole one = (whole.0, AreWhole-set fs p g whole.1 one)

pub AreWhole-push : (fs : List (List ℕ)) (g : List ℕ) → AreWhole fs → length g ≡ 256 → AreWhole (fs ++ g ∷ [])
AreWhole-push [] g whole one = (one, tt)
AreWhole-push (f ∷ fs) g whole one = (whole.0, AreWhole-push fs g whole.1 one)

-- bytes of one frame, read
pub part_of_frame : (fs : List (List ℕ)) (p off at n : ℕ) (d : List ℕ) → AreWhole fs → p < length fs → off + n ≤ 256 → at ≡ 256 * p + off → take n (drop at (concat fs)) ≡ take n (drop off (get_or fs p d))
part_of_frame [] p off at n d whole below fits is = absurd (omega arith)
part_of_frame (f ∷ fs) zero off at n d whole below fits is =
    let here : at ≡ off = omega arith in
    let start : off ≤ length f = omega (arith, whole.0) in
    let end : n ≤ length (drop off f) = omega (arith, whole.0, length-drop off f) in
    rw (here, drop-append-le, take-append-le)
part_of_frame (f ∷ fs) (suc p) off at n d whole below fits is =
    let there : at ≡ length f + (256 * p + off) = omega (arith, whole.0) in
    rw (there, drop-append-add) (part_of_frame fs p off (256 * p + off) n d whole.1 (omega arith) fits refl)

-- bytes of one frame, written
pub written_in_frame : (fs : List (List ℕ)) (p off at : ℕ) (ys d : List ℕ) → AreWhole fs → p < length fs → off + length ys ≤ 256 → at ≡ 256 * p + off → concat (set fs p (written (get_or fs p d) off ys)) ≡ written (concat fs) at ys
written_in_frame [] p off at ys d whole below fits is = absurd (omega arith)
written_in_frame (f ∷ fs) zero off at ys d whole below fits is =
    let here : at ≡ off = omega arith in
    rw here (sym (written-append_left f (concat fs) ys off (omega (arith, whole.0))))
written_in_frame (f ∷ fs) (suc p) off at ys d whole below fits is =
    ap (λ bs. f ++ bs) (written_in_frame fs p off (256 * p + off) ys d whole.1 (omega arith) fits refl) ∙ sym (written-append_right f (concat fs) ys (256 * p + off) at (omega (arith, whole.0)))

-- a page is a frame
pub page_of-concat : (fs : List (List ℕ)) (p : ℕ) → AreWhole fs → p < length fs → page_of (concat fs) p ≡ get_or fs p []
page_of-concat fs p whole below =
    part_of_frame fs p 0 (256 * p) 256 [] whole below (omega arith) (omega arith) ∙ take_all 256 (get_or fs p []) (omega (arith, length-frame fs p [] whole below))

-- one more frame of zeros
pub concat_zeros_more : (fs : List (List ℕ)) (f : List ℕ) (i : ℕ) → concat fs ≡ replicate (256 * i) 0 → f ≡ replicate 256 0 → concat (fs ++ f ∷ []) ≡ replicate (256 * (i + 1)) 0
concat_zeros_more fs f i before zeros =
    let long : 256 * i + 256 ≡ 256 * (i + 1) = omega arith in
    concat-append fs (f ∷ []) ∙ ap (λ xs. concat fs ++ xs) (append-nil f) ∙ ap (λ xs. concat fs ++ xs) zeros ∙ ap (λ xs. xs ++ replicate 256 0) before ∙ replicate-append-replicate (256 * i) 256 0 ∙ ap (λ n. replicate n 0) long
