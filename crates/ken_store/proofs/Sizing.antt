-- How long the base of the next log is.
use Rattle.std.proofs.Common.{◌≡◌, ℕ, suc, zero, ◌+◌, ◌*◌, ◌<◌, ◌≤◌, List, [], ◌∷◌, ◌++◌, length, map, take, get_or, cond, Bool, true, false, Option, Some, None, refl, sym, ap, ◌∙◌, arith, length-append, append_assoc, append-nil}
use Rattle.std.specs.Prelude.{if◌then◌else◌, replicate}
use Rattle.std.specs.List.{AllByRecursion, filter, flat_map, range_with_len}
use Rattle.std.specs.Option.{option_or}
use Rattle.std.proofs.lemmas.List.{map-append, take_more}
use Rattle.std.proofs.lemmas.List.Concat.{flat_map-append}
use Rattle.std.proofs.lemmas.List.Elements.{filter-append}
use Rattle.ken_disk.specs.Story.{Story}
use Rattle.ken_record.specs.declared.base.Base.{Base}
use Rattle.ken_record.specs.declared.page.Page.{Page}
use Rattle.ken_record.specs.declared.record.Record.{Record}
use Rattle.ken_record.specs.Spelling.{number, due, out, page, counts, kept, base_bytes}
use Rattle.ken_record.specs.Versions.{One}
use Rattle.ken_record.proofs.Sizes.{number_long}
use Rattle.ken_cover.specs.declared.layers.Change.{Change}
use Rattle.ken_cover.specs.Overlay.{AreWithin}
use Rattle.ken_store.specs.declared.turning.TurnSide.{TurnSide}
use Rattle.ken_store.specs.Turning.{Turning, sealed_bytes, turn_pages}
use Rattle.ken_store.specs.Turnovers.{page_in}
use Rattle.ken_store.proofs.Lists.{flat_map-range_more}

module _ {A : Type 0} (spell : A → List ℕ) where
  spelled-append : (xs ys : List A) → length (flat_map spell (xs ++ ys)) ≡ length (flat_map spell xs) + length (flat_map spell ys)
  spelled-append xs ys = ap length (flat_map-append spell xs ys) ∙ length-append (flat_map spell xs) (flat_map spell ys)

  module _ (p : A → Bool) where
    pub kept-append : (xs ys : List A) → length (flat_map spell (filter p (xs ++ ys))) ≡ length (flat_map spell (filter p xs)) + length (flat_map spell (filter p ys))
    kept-append xs ys = ap (λ (l : List A). length (flat_map spell l)) (filter-append p xs ys) ∙ spelled-append (filter p xs) (filter p ys)

    kept_one : (y : A) (n : ℕ) → length (spell y) ≡ n → length (flat_map spell (filter p (y ∷ []))) ≡ (if p y then n else 0)
    kept_one y n long = elim (p y) as (λ b. length (flat_map spell (cond b (y ∷ []) [])) ≡ (if b then n else 0)) [ true ↦ ap length (append-nil (spell y)) ∙ long | false ↦ refl ]

    -- one more of the items
    pub kept_more : (xs : List A) (i : ℕ) (x : A) (n : ℕ) → i < length xs → x ≡ get_or xs i x → length (spell x) ≡ n → length (flat_map spell (filter p (take (i + 1) xs))) ≡ length (flat_map spell (filter p (take i xs))) + (if p x then n else 0)
    kept_more xs i x n within is long =
        ap (λ (l : List A). length (flat_map spell (filter p l))) (take_more xs i x within ∙ ap (λ (y : A). take i xs ++ y ∷ []) (sym is))
        ∙ kept-append (take i xs) (x ∷ []) ∙ ap (λ (k : ℕ). length (flat_map spell (filter p (take i xs))) + k) (kept_one x n long)

    pub kept_more_of : {B : Type 0} (f : B → A) (xs : List B) (i : ℕ) (x : B) (n : ℕ) → i < length xs → x ≡ get_or xs i x → length (spell (f x)) ≡ n → length (flat_map spell (filter p (map f (take (i + 1) xs)))) ≡ length (flat_map spell (filter p (map f (take i xs)))) + (if p (f x) then n else 0)
    kept_more_of {B} f xs i x n within is long =
        ap (λ (l : List B). length (flat_map spell (filter p (map f l)))) (take_more xs i x within ∙ ap (λ (y : B). take i xs ++ y ∷ []) (sym is))
        ∙ ap (λ (l : List A). length (flat_map spell (filter p l))) (map-append f (take i xs) (x ∷ []))
        ∙ kept-append (map f (take i xs)) (f x ∷ []) ∙ ap (λ (k : ℕ). length (flat_map spell (filter p (map f (take i xs)))) + k) (kept_one (f x) n long)

    -- one more of the records
    pub kept_record : (base : List A) (f : Record → List A) (rs : List Record) (i : ℕ) (r : Record) → i < length rs → r ≡ get_or rs i r → length (flat_map spell (filter p (base ++ flat_map f (take (i + 1) rs)))) ≡ length (flat_map spell (filter p (base ++ flat_map f (take i rs)))) + length (flat_map spell (filter p (f r)))
    kept_record base f rs i r within is =
        let more : flat_map f (take (i + 1) rs) ≡ flat_map f (take i rs) ++ f r = ap (flat_map f) (take_more rs i r within ∙ ap (λ (y : Record). take i rs ++ y ∷ []) (sym is)) ∙ flat_map-append f (take i rs) (r ∷ []) ∙ ap (λ (l : List A). flat_map f (take i rs) ++ l) (append-nil (f r)) in
        ap (λ (l : List A). length (flat_map spell (filter p (base ++ l)))) more
        ∙ ap (λ (l : List A). length (flat_map spell (filter p l))) (sym (append_assoc base (flat_map f (take i rs)) (f r)))
        ∙ kept-append (base ++ flat_map f (take i rs)) (f r)

  -- one group more
  pub group_more : (g : ℕ → List A) (n : ℕ) → length (flat_map spell (flat_map g (range_with_len 0 (n + 1)))) ≡ length (flat_map spell (flat_map g (range_with_len 0 n))) + length (flat_map spell (g n))
  group_more g n = ap (λ (l : List A). length (flat_map spell l)) (flat_map-range_more g n) ∙ spelled-append (flat_map g (range_with_len 0 n)) (g n)

pub count_more : (g : ℕ → List Change) (n : ℕ) → length (flat_map g (range_with_len 0 (n + 1))) ≡ length (flat_map g (range_with_len 0 n)) + length (g n)
count_more g n = ap length (flat_map-range_more g n) ∙ length-append (flat_map g (range_with_len 0 n)) (g n)

-- ---- all of it

words_long : (ns : List ℕ) → length (flat_map (number 8) ns) ≡ 8 * length ns
words_long [] = refl
words_long (n ∷ ns) = omega (arith, length-append (number 8 n) (flat_map (number 8) ns), number_long 8 n, words_long ns)

pages_long : (n : ℕ) (es : List Page) → AreWithin n es → length (flat_map page es) ≡ 260 * length es
pages_long n [] within = refl
pages_long n (e ∷ es) within = omega (arith, length-append (page e) (flat_map page es), length-append (number 4 e.page) e.bytes, number_long 4 e.page, within.0.1, pages_long n es within.1)

pub base_size : (n : ℕ) (b : Base) → length b.consumed ≡ 9 → length b.sent ≡ 8 → AreWithin n b.pages → length (base_bytes One b) ≡ 162 + length (flat_map due b.messages) + length (flat_map out b.outs) + 260 * length b.pages
base_size n b consumed sent within =
    let cs : List ℕ = flat_map (number 8) b.consumed in
    let ss : List ℕ = flat_map (number 8) b.sent in
    let ms : List ℕ = flat_map due b.messages in
    let os : List ℕ = flat_map out b.outs in
    let ps : List ℕ = flat_map page b.pages in
    let m : List ℕ = number 4 (length b.messages) ++ ms in
    let o : List ℕ = number 4 (length b.outs) ++ os in
    let p : List ℕ = number 2 (length b.pages) ++ ps in
    let one : length (base_bytes One b) ≡ length (counts b) + length (kept b) = length-append (counts b) (kept b) in
    let two : length (kept b) ≡ length m + length (o ++ p) = length-append m (o ++ p) in
    let three : length (o ++ p) ≡ length o + length p = length-append o p in
    let four : length m ≡ length (number 4 (length b.messages)) + length ms = length-append (number 4 (length b.messages)) ms in
    let five : length o ≡ length (number 4 (length b.outs)) + length os = length-append (number 4 (length b.outs)) os in
    let six : length p ≡ length (number 2 (length b.pages)) + length ps = length-append (number 2 (length b.pages)) ps in
    let seven : length (counts b) ≡ length (number 8 b.stamp) + length (cs ++ (ss ++ number 8 b.outputs)) = length-append (number 8 b.stamp) (cs ++ (ss ++ number 8 b.outputs)) in
    let eight : length (cs ++ (ss ++ number 8 b.outputs)) ≡ length cs + length (ss ++ number 8 b.outputs) = length-append cs (ss ++ number 8 b.outputs) in
    let nine : length (ss ++ number 8 b.outputs) ≡ length ss + length (number 8 b.outputs) = length-append ss (number 8 b.outputs) in
    let c8 : length cs ≡ 72 = omega (arith, words_long b.consumed, consumed) in
    let s8 : length ss ≡ 64 = omega (arith, words_long b.sent, sent) in
    let pages : length ps ≡ 260 * length b.pages = pages_long n b.pages within in
    omega (arith, one, two, three, four, five, six, seven, eight, nine, c8, s8, pages, number_long 8 b.stamp, number_long 8 b.outputs, number_long 4 (length b.messages), number_long 4 (length b.outs), number_long 2 (length b.pages))

-- ---- of a side

pub or_none : (a : Option ℕ) → option_or a None ≡ a
or_none None = refl
or_none (Some x) = refl

pub nones_at : (n p : ℕ) → ◌≡◌ {A = Option ℕ} (get_or (replicate n None) p None) None
nones_at zero p = refl
nones_at (suc n) zero = refl
nones_at (suc n) (suc p) = nones_at n p

pub wider : (n m : ℕ) (es : List Page) → n ≤ m → AllByRecursion (λ (e : Page). e.page < n) es → AllByRecursion (λ (e : Page). e.page < m) es
wider n m [] le all = tt
wider n m (e ∷ es) le all = (omega (arith, all.0), wider n m es le all.1)

pub each_wider : (n m : ℕ) (rs : List Record) → n ≤ m → AllByRecursion (λ (r : Record). AllByRecursion (λ (e : Page). e.page < n) r.pages) rs → AllByRecursion (λ (r : Record). AllByRecursion (λ (e : Page). e.page < m) r.pages) rs
each_wider n m [] le all = tt
each_wider n m (r ∷ rs) le all = (wider n m r.pages le all.0, each_wider n m rs le all.1)

pub length-pages : (cs : List Change) → length (map page_in cs) ≡ length cs
length-pages [] = refl
length-pages (c ∷ cs) = ap (λ (n : ℕ). suc n) (length-pages cs)

pub heap_long : {D : Type 0} (told : D → Option Story) (size : D → ℕ) (side : TurnSide D) → Turning told size side → length (turn_pages side).heap ≡ 256 * side.owner.pages
heap_long told size side is = at side.objects.begun refl
  where
    at : (begun : Option (List ℕ)) → side.objects.begun ≡ begun → length (sealed_bytes side.objects.bytes begun) ≡ 256 * side.owner.pages
    at None same = is.heap.bytes
    at (Some before) same = is.heap.before before same

pub sized : (x y z m o p n : ℕ) → x ≡ m → y ≡ o → z ≡ p → n ≡ 162 + m + o + 260 * p → 162 + x + y + 260 * z ≡ n
sized x y z m o p n one two three four = omega (arith, one, two, three, four)
