-- Blocks put in and taken away by their index.
use Rattle.std.proofs.Common.{◌≡◌, ℕ, suc, ◌+◌, ◌<◌, ◌≤◌, List, [], ◌∷◌, length, set, Bool, true, false, ◌==◌, not, if◌then◌else◌, nat_lt, Some, None, unwrap_or, refl, sym, ap, ◌∙◌, arith, drop, slice_index_or, add-one}
use Rattle.std.specs.List.{position, position_or_len, insert, remove, find}
use Rattle.std.proofs.Math.Seq.{drop-cons}
use Rattle.std.proofs.lemmas.Bool.{ltb-false}
use Rattle.std.proofs.lemmas.Bool.Decides.{nat_tests}
use Rattle.std.proofs.lemmas.List.Sums.{prefix_len-le-length}
use Rattle.ken_model.specs.declared.values.Block.{Block}
use Rattle.ken_model.specs.declared.values.Value.{Value}
use Rattle.ken_model.specs.Heap.{with_block, with_bytes, without_block}
use Rattle.ken_model.specs.KeyValue.{pair_of, is_key, at_space}
use Rattle.ken_model.proofs.Heaps.{pair-long}

within-length : {A : Type 0} (p : A → Bool) (xs : List A) → position_or_len p xs ≤ length xs
within-length p xs = prefix_len-le-length (λ x. not (p x)) xs

first_or_length : {A : Type 0} (p : A → Bool) (xs : List A) → unwrap_or (position p xs) (length xs) ≡ position_or_len p xs
first_or_length p xs =
    let le = within-length p xs in
    go (nat_lt (position_or_len p xs) (length xs)) (λ q. (let h = ltb-false (position_or_len p xs) (length xs) q in omega arith))
  where
    go : (t : Bool) → (t ≡ false → length xs ≡ position_or_len p xs) → unwrap_or (if t then Some (position_or_len p xs) else None) (length xs) ≡ position_or_len p xs
    go true e = refl
    go false e = e refl

-- the index before which a block goes
abbrev pub index_past : ℕ → List Block → ℕ
index_past place bs = unwrap_or (position (λ (b : Block). nat_lt place b.place) bs) (length bs)

pub index_within : (place : ℕ) (bs : List Block) → index_past place bs ≤ length bs
index_within place bs = let e = first_or_length (λ (b : Block). nat_lt place b.place) bs in let le = within-length (λ (b : Block). nat_lt place b.place) bs in omega arith

insert-later : (b new : Block) (bs : List Block) (k : ℕ) → b ∷ insert bs k new ≡ insert (b ∷ bs) (1 + k) new
insert-later b new bs k = let e : 1 + k ≡ suc k = omega arith in rw e refl

remove-later : (b : Block) (bs : List Block) (k : ℕ) → b ∷ remove bs k ≡ remove (b ∷ bs) (1 + k)
remove-later b bs k = let e : 1 + k ≡ suc k = omega arith in rw e refl

insert_at_first : (new : Block) (bs : List Block) → with_block new bs ≡ insert bs (position_or_len (λ (b : Block). nat_lt new.place b.place) bs) new
insert_at_first new [] = refl
insert_at_first new (b ∷ bs) = go (nat_lt new.place b.place) (position_or_len (λ (x : Block). nat_lt new.place x.place) bs) (insert_at_first new bs)
  where
    go : (t : Bool) (k : ℕ) → with_block new bs ≡ insert bs k new → (if t then new ∷ b ∷ bs else b ∷ with_block new bs) ≡ insert (b ∷ bs) (if not t then 1 + k else 0) new
    go true k e = refl
    go false k e = ap (λ l. b ∷ l) e ∙ insert-later b new bs k

pub insert_past : (bs : List Block) (k : ℕ) (new : Block) → k ≡ index_past new.place bs → insert bs k new ≡ with_block new bs
insert_past bs k new e = ap (λ i. insert bs i new) (e ∙ first_or_length (λ (b : Block). nat_lt new.place b.place) bs) ∙ sym (insert_at_first new bs)

-- where some block stands at the place, the first of them goes
pub remove_first : (place : ℕ) (bs : List Block) → position_or_len (λ (b : Block). b.place == place) bs < length bs → without_block place bs ≡ remove bs (position_or_len (λ (b : Block). b.place == place) bs)
remove_first place [] within = absurd (omega arith)
remove_first place (b ∷ bs) within = go (b.place == place) (position_or_len (λ (x : Block). x.place == place) bs) (remove_first place bs) within
  where
    go : (t : Bool) (k : ℕ) → (k < length bs → without_block place bs ≡ remove bs k) → (if not t then 1 + k else 0) < length (b ∷ bs) → (if t then bs else b ∷ without_block place bs) ≡ remove (b ∷ bs) (if not t then 1 + k else 0)
    go true k e less = refl
    go false k e less = ap (λ l. b ∷ l) (e (omega arith)) ∙ remove-later b bs k

-- where none does, none goes
pub remove_none : (place : ℕ) (bs : List Block) → length bs ≤ position_or_len (λ (b : Block). b.place == place) bs → without_block place bs ≡ bs
remove_none place [] past = refl
remove_none place (b ∷ bs) past = go (b.place == place) (position_or_len (λ (x : Block). x.place == place) bs) (remove_none place bs) past
  where
    go : (t : Bool) (k : ℕ) → (length bs ≤ k → without_block place bs ≡ bs) → length (b ∷ bs) ≤ (if not t then 1 + k else 0) → (if t then bs else b ∷ without_block place bs) ≡ b ∷ bs
    go true k e less = absurd (omega arith)
    go false k e less = ap (λ l. b ∷ l) (e (omega arith))

set-later : (b new : Block) (bs : List Block) (k : ℕ) → b ∷ set bs k new ≡ set (b ∷ bs) (1 + k) new
set-later b new bs k = let e : 1 + k ≡ suc k = omega arith in rw e refl

-- where some block stands at the place, the first of them gets the bytes
pub rewrite_first : (place : ℕ) (bytes : List ℕ) (bs : List Block) → position_or_len (λ (b : Block). b.place == place) bs < length bs → with_bytes place bytes bs ≡ set bs (position_or_len (λ (b : Block). b.place == place) bs) (record { place = place; bytes = bytes })
rewrite_first place bytes [] within = absurd (omega arith)
rewrite_first place bytes (b ∷ bs) within = go (b.place == place) (λ is. grind (arith, nat_tests, is)) (position_or_len (λ (x : Block). x.place == place) bs) (rewrite_first place bytes bs) within
  where
    go : (t : Bool) → (t ≡ true → b.place ≡ place) → (k : ℕ) → (k < length bs → with_bytes place bytes bs ≡ set bs k (record { place = place; bytes = bytes })) → (if not t then 1 + k else 0) < length (b ∷ bs) → (if t then record b { bytes = bytes } ∷ bs else b ∷ with_bytes place bytes bs) ≡ set (b ∷ bs) (if not t then 1 + k else 0) (record { place = place; bytes = bytes })
    go true is k e less = ap (λ (p : ℕ). (let x : Block = record { place = p; bytes = bytes } in x ∷ bs)) (is refl)
    go false is k e less = ap (λ l. b ∷ l) (e (omega arith)) ∙ set-later b (record { place = place; bytes = bytes }) bs k

-- where none does, none does
pub rewrite_none : (place : ℕ) (bytes : List ℕ) (bs : List Block) → length bs ≤ position_or_len (λ (b : Block). b.place == place) bs → with_bytes place bytes bs ≡ bs
rewrite_none place bytes [] past = refl
rewrite_none place bytes (b ∷ bs) past = go (b.place == place) (position_or_len (λ (x : Block). x.place == place) bs) (rewrite_none place bytes bs) past
  where
    go : (t : Bool) (k : ℕ) → (length bs ≤ k → with_bytes place bytes bs ≡ bs) → length (b ∷ bs) ≤ (if not t then 1 + k else 0) → (if t then record b { bytes = bytes } ∷ bs else b ∷ with_bytes place bytes bs) ≡ b ∷ bs
    go true k e less = absurd (omega arith)
    go false k e less = ap (λ l. b ∷ l) (e (omega arith))

pub pair_found : (key : List ℕ) (bs : List Block) → pair_of key bs ≡ find (λ (b : Block). is_key key (at_space b.bytes)) bs
pair_found key [] = refl
pair_found key (b ∷ bs) = ap (λ o. if is_key key (at_space b.bytes) then Some b else o) (pair_found key bs)

-- the block at an index, and those after it
pub block_next : (k : ℕ) (bs : List Block) (b : Block) → k < length bs → b ≡ slice_index_or bs k b → drop k bs ≡ b ∷ drop (k + 1) bs
block_next k bs b within is = rw add-one (drop-cons bs k b within) ∙ ap (λ x. x ∷ drop (k + 1) bs) (sym is)

-- the pair that was found is longer than its key
pub found_long : (key : List ℕ) (value : Value) (pair : Block) → Some pair ≡ find (λ (b : Block). is_key key (at_space b.bytes)) value.blocks → length key + 1 ≤ length pair.bytes
found_long key value pair found = pair-long key value.blocks pair (pair_found key value.blocks ∙ sym found)
