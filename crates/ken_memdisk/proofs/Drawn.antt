-- A torn image that is drawn range by range, the ranges by their starts.
use Rattle.std.proofs.Common.{◌≡◌, ⊎_elim, ℕ, zero, suc, ◌+◌, ◌-◌, ◌<◌, ◌≤◌, List, [], ◌∷◌, ◌++◌, length, get_or, set, drop, replicate, reverse, inl, inr, refl, sym, ap, subst, ◌∙◌, Bool, true, false, arith, length-append}
use Rattle.std.specs.List.Sorted.{IsPermutation, IsNonDecreasingBy}
use Rattle.std.proofs.lemmas.List.{append-nil, append_assoc, get_or_at, set_at, drop_more, drop_all, get_or_append_left, get_or-append_right, get_or-replicate, get_or_past, length-replicate}
use Rattle.std.proofs.lemmas.List.Sorted.{IsNonDecreasingBy-drop, IsPermutation-sym, list_any-IsPermutation}
use Rattle.std.proofs.lemmas.Bool.{cases_lt, false_from_ne_true}
use Rattle.ken_num.specs.Generator.{next_state}
use Rattle.ken_disk.specs.Bytes.{IsIn}
use Rattle.ken_memdisk.specs.Picks.{is_within, is_written, drawn, after_draw, byte_of, generator_after, Drawing, draw_place, draw_places, torn_length, torn}
use Rattle.ken_memdisk.proofs.Images.{draw_places-more, length-draw_places, torn_length-between}
use Rattle.ken_memdisk.proofs.Ranges.{Decides-is_written, is_written-reverse}

-- the places below this one are drawn, and the others have the safe bytes
pub record IsDrawn (seen safe : List ℕ) (ranges : List (ℕ × ℕ)) (x place words : ℕ) (image : List ℕ) : Type 0 where
  pub generator : (draw_places seen safe ranges x place).generator ≡ words
  pub bytes : image ≡ (draw_places seen safe ranges x place).bytes ++ drop place safe

-- a place that is in a range and not below this one is in one that is left
abbrev pub IsAhead : List (ℕ × ℕ) → List (ℕ × ℕ) → ℕ → ℕ → Type 0
IsAhead ranges left next len = (place : ℕ) → next ≤ place → place < len → IsIn place ranges → IsIn place left

module _ (seen safe : List ℕ) (ranges : List (ℕ × ℕ)) (x : ℕ) where
  abbrev so_far : ℕ → Drawing
  so_far place = draw_places seen safe ranges x place

  pub drawn_none : IsDrawn seen safe ranges x 0 x safe
  drawn_none = record { generator = refl; bytes = refl }

  -- at the end all are drawn
  pub drawn_all : (place words : ℕ) (image : List ℕ) → place ≡ length safe → IsDrawn seen safe ranges x place words image → image ≡ (so_far (length safe)).bytes
  drawn_all place words image end is =
      is.bytes
      ∙ ap (λ (l : List ℕ). (so_far place).bytes ++ l) (drop_all place safe (omega (arith, end)))
      ∙ append-nil (so_far place).bytes
      ∙ ap (λ (n : ℕ). (so_far n).bytes) end

  module _ (place words : ℕ) (image : List ℕ) (within : place < length safe) (is : IsDrawn seen safe ranges x place words image) where
    -- what is left begins with the safe byte of the place
    parts : image ≡ (so_far place).bytes ++ get_or safe place 0 ∷ drop (place + 1) safe
    parts = is.bytes ∙ ap (λ (l : List ℕ). (so_far place).bytes ++ l) (drop_more safe place 0 within)

    pub safe_at : get_or image place 0 ≡ get_or safe place 0
    safe_at =
        ap (λ (l : List ℕ). get_or l place 0) parts
        ∙ get_or_at (so_far place).bytes (get_or safe place 0) (drop (place + 1) safe) 0 place (length-draw_places seen safe ranges x place)

    -- one place more, which is in a range or is not
    one_more : (is_in : Bool) (words' : ℕ) (image' : List ℕ) → is_written ranges place ≡ is_in → words' ≡ generator_after is_in words
        → image' ≡ (so_far place).bytes ++ byte_of is_in (get_or safe place 0) (get_or seen place 0) words ∷ drop (place + 1) safe
        → IsDrawn seen safe ranges x (place + 1) words' image'
    one_more is_in words' image' which words_is image_is =
        let more = draw_places-more seen safe ranges x place in
        record {
          generator = ap (λ (d : Drawing). d.generator) more ∙ rw (which, is.generator, words_is) refl;
          bytes = image_is ∙ sym (
              ap (λ (d : Drawing). d.bytes ++ drop (place + 1) safe) more
              ∙ append_assoc (so_far place).bytes (byte_of (is_written ranges place) (get_or safe place 0) (get_or seen place 0) (so_far place).generator ∷ []) (drop (place + 1) safe)
              ∙ rw (which, is.generator) refl);
        }

    pub drawn_more : (byte words' : ℕ) (image' : List ℕ) → IsIn place ranges
        → byte ≡ drawn (get_or image place 0) (get_or seen place 0) words → words' ≡ after_draw words → image' ≡ set image place byte
        → IsDrawn seen safe ranges x (place + 1) words' image'
    drawn_more byte words' image' among byte_is words_is image_is =
        one_more true words' image' ((Decides-is_written place ranges).1 among) words_is (
        image_is
        ∙ ap (λ (l : List ℕ). set l place byte) parts
        ∙ set_at (so_far place).bytes (get_or safe place 0) (drop (place + 1) safe) byte place (length-draw_places seen safe ranges x place)
        ∙ ap (λ (b : ℕ). (so_far place).bytes ++ b ∷ drop (place + 1) safe) (byte_is ∙ ap (λ (b : ℕ). drawn b (get_or seen place 0) words) safe_at))

    drawn_past : (IsIn place ranges → ⊥) → IsDrawn seen safe ranges x (place + 1) words image
    drawn_past outside =
        one_more false words image (false_from_ne_true (is_written ranges place) (λ in_one. outside ((Decides-is_written place ranges).0 in_one))) refl parts

  -- places that are in no range are passed by
  pub drawn_on : (count from to words : ℕ) (image : List ℕ) → from + count ≡ to → to ≤ length safe
      → ((place : ℕ) → from ≤ place → place < to → IsIn place ranges → ⊥)
      → IsDrawn seen safe ranges x from words image → IsDrawn seen safe ranges x to words image
  drawn_on zero from to words image there within outside is =
      let same : from ≡ to = omega (arith, there) in
      subst (λ (n : ℕ). IsDrawn seen safe ranges x n words image) same is
  drawn_on (suc count) from to words image there within outside is =
      drawn_on count (from + 1) to words image (omega (arith, there)) within (λ place low high. outside place (omega (arith, low)) high)
      (drawn_past from words image (omega (arith, there, within)) is (outside from (omega arith) (omega (arith, there))))

-- no place below the first start is in a range
pub starts_below : (ranges : List (ℕ × ℕ)) (place : ℕ) → IsNonDecreasingBy (λ (r : ℕ × ℕ). r.0) ranges → IsIn place ranges → (get_or ranges 0 (0, 0)).0 ≤ place
starts_below [] place rising among = absurd among
starts_below (r ∷ []) place rising among = ⊎_elim (λ here. here.0) (λ none. absurd none) among
starts_below (r ∷ (s ∷ ranges)) place rising among = ⊎_elim
    (λ here. here.0)
    (λ there. let next = starts_below (s ∷ ranges) place (IsNonDecreasingBy-drop (λ (r : ℕ × ℕ). r.0) 1 (r ∷ (s ∷ ranges)) rising) there in
    let up = rising 0 1 (0, 0) (omega arith) (omega arith) in
    omega (arith, next, up))
    among

module _ (ranges : List (ℕ × ℕ)) (i len : ℕ) (inside : i < length ranges) where
  abbrev here : ℕ × ℕ
  here = get_or ranges i (0, 0)

  -- places between what is drawn and the next start are in no range
  pub none_between : (next : ℕ) → IsNonDecreasingBy (λ (r : ℕ × ℕ). r.0) ranges → IsAhead ranges (drop i ranges) next len
      → (place : ℕ) → next ≤ place → place < len → place < here.0 → IsIn place ranges → ⊥
  none_between next rising ahead place low within before among =
      let left = drop_more ranges i (0, 0) inside in
      let least = starts_below (drop i ranges) place (IsNonDecreasingBy-drop (λ (r : ℕ × ℕ). r.0) i ranges rising) (ahead place low within among) in
      let first : (get_or (drop i ranges) 0 (0, 0)).0 ≡ here.0 = ap (λ (l : List (ℕ × ℕ)). (get_or l 0 (0, 0)).0) left in
      omega (arith, least, first, before)

  -- behind a range that is drawn only the later ones are left
  pub ahead_more : (next to : ℕ) → next ≤ to → ((place : ℕ) → to ≤ place → place < len → here.0 + here.1 ≤ place)
      → IsAhead ranges (drop i ranges) next len → IsAhead ranges (drop (i + 1) ranges) to len
  ahead_more next to up behind ahead place low within among =
      ⊎_elim
      (λ here. absurd (let past = behind place low within in let never : ⊥ = omega (arith, past, here.1) in never))
      (λ later. later)
      (subst (IsIn place) (drop_more ranges i (0, 0) inside) (ahead place (omega (arith, up, low)) within among))

  -- a place of the range is in one of them
  pub in_here : (place : ℕ) → here.0 ≤ place → place < here.0 + here.1 → IsIn place ranges
  in_here = in_at ranges i inside
    where
      in_at : (ranges : List (ℕ × ℕ)) (i : ℕ) → i < length ranges → (place : ℕ) → (get_or ranges i (0, 0)).0 ≤ place → place < (get_or ranges i (0, 0)).0 + (get_or ranges i (0, 0)).1 → IsIn place ranges
      in_at [] i within place low high = absurd (let never : ⊥ = omega arith in never)
      in_at (r ∷ ranges) zero within place low high = inl (low, high)
      in_at (r ∷ ranges) (suc i) within place low high = inr (in_at ranges i (omega arith) place low high)

-- behind the last range none is left
pub none_left : (ranges : List (ℕ × ℕ)) (i len next : ℕ) → length ranges ≤ i → IsAhead ranges (drop i ranges) next len → (place : ℕ) → next ≤ place → place < len → IsIn place ranges → ⊥
none_left ranges i len next past ahead place low within among =
    subst (IsIn place) (drop_all i ranges past) (ahead place low within among)

abbrev zeros : ℕ → List ℕ
zeros n = replicate n 0

-- zeros behind the bytes are what a look past their end gives
get_or-zeros : (n k : ℕ) → get_or (zeros n) k 0 ≡ 0
get_or-zeros n k = ⊎_elim
    (λ low. get_or-replicate n k 0 0 low)
    (λ high. get_or_past (zeros n) k 0 (omega (arith, high, length-replicate {A = ℕ} n 0)))
    (cases_lt k n)

get_or-filled : (bytes : List ℕ) (n place : ℕ) → get_or (bytes ++ zeros n) place 0 ≡ get_or bytes place 0
get_or-filled bytes n place = ⊎_elim
    (λ before. get_or_append_left bytes (zeros n) 0 place before)
    (λ behind. get_or-append_right bytes (zeros n) (length bytes) place 0 refl behind
    ∙ get_or-zeros n (place - length bytes)
    ∙ sym (get_or_past bytes place 0 behind))
    (cases_lt place (length bytes))

-- the drawing by other lists that say the same
draw_places-same : (seen a b : List ℕ) (ra rb : List (ℕ × ℕ)) → ((place : ℕ) → get_or a place 0 ≡ get_or b place 0) → ((place : ℕ) → is_written ra place ≡ is_written rb place)
    → (x count : ℕ) → draw_places seen a ra x count ≡ draw_places seen b rb x count
draw_places-same seen a b ra rb safe written x zero = refl
draw_places-same seen a b ra rb safe written x (suc count) =
    ap (draw_place seen a ra count) (draw_places-same seen a b ra rb safe written x count)
    ∙ rw (safe count, written count) refl

-- a drawing over the synced bytes and zeros, by the sorted ranges, is a torn image
pub torn_is : (seen synced : List ℕ) (ranges sorted : List (ℕ × ℕ)) (pick : ℕ) (filled image : List ℕ) → length synced ≤ length seen → IsPermutation ranges sorted
    → filled ≡ synced ++ zeros (torn_length seen synced (reverse ranges) pick - length synced)
    → image ≡ (draw_places seen filled sorted (next_state pick) (length filled)).bytes
    → image ≡ torn seen synced (reverse ranges) pick
torn_is seen synced ranges sorted pick filled image low same filled_is image_is =
    let len = torn_length seen synced (reverse ranges) pick in
    let between = torn_length-between seen synced (reverse ranges) pick low in
    let long : length filled ≡ len = omega (arith, between.0, ap length filled_is, length-append synced (zeros (len - length synced)), length-replicate {A = ℕ} (len - length synced) 0) in
    image_is
    ∙ ap (λ (n : ℕ). (draw_places seen filled sorted (next_state pick) n).bytes) long
    ∙ ap (λ (d : Drawing). d.bytes) (draw_places-same seen filled synced sorted (reverse ranges)
    (λ place. ap (λ (l : List ℕ). get_or l place 0) filled_is ∙ get_or-filled synced (len - length synced) place)
    (λ place. list_any-IsPermutation (is_within place) sorted ranges (IsPermutation-sym ranges sorted same) ∙ sym (is_written-reverse place ranges))
    (next_state pick) len)
