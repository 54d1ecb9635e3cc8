-- What bytes begin with.
use Rattle.std.proofs.Common.{◌≡◌, ℕ, suc, ◌+◌, ◌-◌, ◌%◌, ◌<◌, ◌≤◌, List, [], ◌∷◌, ◌++◌, length, take, drop, get_or, Bool, true, false, true≢false, not, ◌&&◌, ◌==◌, eq-eqb, ne_eqb, refl, sym, ap, ap₂, ◌∙◌, arith, length-drop, length-take, take-add}
use Rattle.std.specs.Prelude.{bytes_eq}
use Rattle.std.proofs.lemmas.List.{take-take, drop-drop, get_or-take, get_or-drop}
use Rattle.std.proofs.lemmas.Slice.Eq.{bytes_eq-Decides}
use Rattle.ken_model.specs.Layout.{part}
use Rattle.ken_model.proofs.Heads.{part_of_part}
use Rattle.ken_alloc.specs.Objects.{has_front}
use Rattle.ken_alloc.specs.Walk.{page_rest}
use Rattle.ken_alloc.proofs.Rests.{rest_past}

swap_and : (a b c : Bool) → a && (b && c) ≡ b && (a && c)
swap_and true b c = refl
swap_and false true c = refl
swap_and false false c = refl

-- the key, and the byte behind it
front_is : (key bytes : List ℕ) (behind : ℕ) → length key < length bytes → has_front key behind bytes ≡ (get_or bytes (length key) 0 == behind) && bytes_eq (take (length key) bytes) key
front_is key [] behind less = absurd (omega (arith, less))
front_is [] (b ∷ bs) behind less = refl
front_is (k ∷ ks) (b ∷ bs) behind less =
    ap (λ (t : Bool). (b == k) && t) (front_is ks bs behind (omega (arith, less))) ∙ swap_and (b == k) (get_or bs (length ks) 0 == behind) (bytes_eq (take (length ks) bs) ks)

pub front_true : (key bytes : List ℕ) (behind : ℕ) (r : Bool) → length key < length bytes → get_or bytes (length key) 0 ≡ behind → r ≡ bytes_eq (take (length key) bytes) key → r ≡ has_front key behind bytes
front_true key bytes behind r less is same =
    same ∙ ap (λ (t : Bool). t && bytes_eq (take (length key) bytes) key) (sym (eq-eqb (get_or bytes (length key) 0) behind is)) ∙ sym (front_is key bytes behind less)

pub front_false : (key bytes : List ℕ) (behind : ℕ) → length key < length bytes → (get_or bytes (length key) 0 ≡ behind → ⊥) → false ≡ has_front key behind bytes
front_false key bytes behind less ne =
    ap (λ (t : Bool). t && bytes_eq (take (length key) bytes) key) (sym (ne_eqb (get_or bytes (length key) 0) behind ne)) ∙ sym (front_is key bytes behind less)

-- bytes that are too few
pub front_short : (key bytes : List ℕ) (behind : ℕ) → length bytes ≤ length key → false ≡ has_front key behind bytes
front_short [] [] behind few = refl
front_short [] (b ∷ bs) behind few = absurd (omega (arith, few))
front_short (k ∷ ks) [] behind few = refl
front_short (k ∷ ks) (b ∷ bs) behind few = none (b == k) ∙ ap (λ (t : Bool). (b == k) && t) (front_short ks bs behind (omega (arith, few)))
  where
    none : (t : Bool) → false ≡ t && false
    none true = refl
    none false = refl

-- a front that is longer tells it
front_take : (key bytes : List ℕ) (behind n : ℕ) → length key < n → has_front key behind (take n bytes) ≡ has_front key behind bytes
front_take key bytes behind n less = ap (λ (ws : List ℕ). bytes_eq ws (key ++ behind ∷ [])) (take-take (suc (length key)) n bytes (omega (arith, less)))

-- a block's front in the page where its cell begins
pub front_here : (xs ws key : List ℕ) (at len behind : ℕ) → ws ≡ page_rest at xs → 16 + length key < length ws → length key < len → has_front key behind (take (length ws - 16) (drop 16 ws)) ≡ has_front key behind (part (at + 16) len xs)
front_here xs ws key at len behind is here less =
    let long : length ws ≡ length (page_rest at xs) = ap length is in
    let room : 16 + length key < 256 - at % 256 = omega (arith, here, long, length-take (256 - at % 256) (drop at xs)) in
    front_take key (drop 16 ws) behind (length ws - 16) (omega (arith, here)) ∙ ap (λ (zs : List ℕ). has_front key behind (drop 16 zs)) is ∙ ap (has_front key behind) (rest_past xs at 16 (omega (arith, here, long)))
    ∙ front_take key (drop (at + 16) xs) behind (256 - (at + 16) % 256) (omega (arith, room)) ∙ sym (front_take key (drop (at + 16) xs) behind len less)

-- a byte of a block, as the first up to its page's end
pub byte_here : (xs ws : List ℕ) (place count len : ℕ) → ws ≡ page_rest (place + count) xs → count < len → get_or (part place len xs) count 0 ≡ get_or ws 0 0
byte_here xs ws place count len is less =
    let start : place + count ≡ place + count + 0 = omega arith in
    get_or-take len (drop place xs) count 0 less ∙ get_or-drop place xs count 0 ∙ ap (λ (k : ℕ). get_or xs k 0) start ∙ sym (get_or-drop (place + count) xs 0 0)
    ∙ sym (get_or-take (256 - (place + count) % 256) (drop (place + count) xs) 0 0 (omega arith)) ∙ ap (λ (zs : List ℕ). get_or zs 0 0) (sym is)

pub length_part : (xs : List ℕ) (place len : ℕ) → place + len ≤ length xs → length (part place len xs) ≡ len
length_part xs place len within = omega (arith, within, length-take len (drop place xs), length-drop place xs)

-- a part more that is the same
pub same_more : (xs ys ws : List ℕ) (at done count m k : ℕ) → part at done xs ≡ take done ys → ws ≡ take k (drop (at + done) xs) → count ≤ k → m ≡ count → not (bytes_eq (take count ws) (take m (drop done ys))) ≡ false → part at (done + count) xs ≡ take (done + count) ys
same_more xs ys ws at done count m k before is le m_is same =
    let here : take count ws ≡ take m (drop done ys) = (bytes_eq-Decides (take count ws) (take m (drop done ys))).0 (not_false (bytes_eq (take count ws) (take m (drop done ys))) same) in
    take-add done count (drop at xs)
    ∙ ap₂ (λ (a b : List ℕ). a ++ b) before (ap (take count) (drop-drop done at xs) ∙ sym (take-take count k (drop (at + done) xs) le) ∙ sym (ap (take count) is) ∙ here ∙ ap (λ (n : ℕ). take n (drop done ys)) m_is)
    ∙ sym (take-add done count ys)
  where
    not_false : (t : Bool) → not t ≡ false → t ≡ true
    not_false true e = refl
    not_false false e = absurd cc

-- a part that differs
pub part_differs : (xs ys ws : List ℕ) (at done count m k : ℕ) → ws ≡ take k (drop (at + done) xs) → count ≤ k → m ≡ count → done + count ≤ length ys → not (bytes_eq (take count ws) (take m (drop done ys))) ≡ true → false ≡ bytes_eq (part at (length ys) xs) ys
part_differs xs ys ws at done count m k is le m_is fits differs = go (bytes_eq (part at (length ys) xs) ys) refl
  where
    go : (t : Bool) → bytes_eq (part at (length ys) xs) ys ≡ t → false ≡ t
    go false e = refl
    go true e =
        let whole : part at (length ys) xs ≡ ys = (bytes_eq-Decides (part at (length ys) xs) ys).0 e in
        let here : take count ws ≡ take m (drop done ys) =
        ap (take count) is ∙ take-take count k (drop (at + done) xs) le ∙ part_of_part xs at (length ys) done count fits ∙ ap (λ (zs : List ℕ). take count (drop done zs)) whole ∙ ap (λ (n : ℕ). take n (drop done ys)) (sym m_is)
        in
        let same : bytes_eq (take count ws) (take m (drop done ys)) ≡ true = (bytes_eq-Decides (take count ws) (take m (drop done ys))).1 here in
        absurd (true≢false (sym differs ∙ ap not same))
