-- A walk over blocks finds the pair of a key.
use Rattle.std.proofs.Common.{◌≡◌, ℕ, ◌+◌, ◌-◌, ◌^◌, ◌<◌, ◌≤◌, List, [], ◌∷◌, ◌++◌, length, Bool, true, false, not, ◌&&◌, ◌==◌, nat_lt, if◌then◌else◌, Option, Some, None, IsSome, IfSome, take, drop, refl, sym, ap, ◌∙◌, arith, eq-eqb, ne_eqb, ⊎_elim, subst}
use Rattle.std.proofs.lemmas.Bool.{cases_eq}
use Rattle.std.proofs.lemmas.List.{append-nil}
use Rattle.std.proofs.Math.ListN.{drop_of_length-le}
use Rattle.ken_alloc.specs.Objects.{rewritten, has_front, place_of_front}
use Rattle.ken_model.specs.declared.values.Block.{Block}
use Rattle.ken_model.specs.declared.values.Value.{Value}
use Rattle.ken_model.specs.Heap.{AreBlocks, end_of, block_at, place_past, with_block, first_gap_from}
use Rattle.ken_model.specs.KeyValue.{at_space, is_key, pair_of}
use Rattle.ken_model.proofs.Choices.{is_true, is_false}
use Rattle.ken_apps.proofs.Keys.{has_space, key_front}
use Rattle.ken_apps.specs.Found.{IsPairAt, with_pair}

-- the pair of a key among the blocks from place q on
abbrev pub pair_from : List ℕ → ℕ → List Block → Option Block
pair_from key q [] = None
pair_from key q (b ∷ bs) = if nat_lt b.place q then pair_from key q bs else pair_of key (b ∷ bs)

-- what is sought is what is found from a block on, or nothing
abbrev pub Seeks : List ℕ → List Block → Option Block → Option ℕ → Type 0
Seeks key bs found None = found ≡ None
Seeks key bs found (Some q) = (found ≡ pair_from key q bs) × IsSome (block_at q bs)

-- a block stands behind where the blocks begin
pub at_least : (q from size : ℕ) (bs : List Block) → AreBlocks from size bs → IsSome (block_at q bs) → from + 16 ≤ q
at_least q from size [] blocks is = absurd cc
at_least q from size (b ∷ bs) blocks is = grind (arith, is, blocks, at_least q (end_of b) size bs blocks.3)

pub first_seeks : (key : List ℕ) (from size : ℕ) (bs : List Block) → AreBlocks from size bs → Seeks key bs (pair_of key bs) (place_past 0 bs)
first_seeks key from size [] blocks = refl
first_seeks key from size (b ∷ bs) blocks = grind (arith, blocks)

-- past a place before all blocks is the first
past_first : (q from size : ℕ) (c : Block) (cs : List Block) → AreBlocks from size (c ∷ cs) → q < from + 16 → place_past q (c ∷ cs) ≡ Some c.place
past_first q from size c cs blocks before = grind (arith, blocks, before)

-- the block is the pair
pair_here : (key : List ℕ) (q from size : ℕ) (bs : List Block) (x : List ℕ) → AreBlocks from size bs → block_at q bs ≡ Some x → is_key key (at_space x) ≡ true → pair_from key q bs ≡ Some (record { place = q; bytes = x })
pair_here key q from size [] x blocks is key_is = absurd cc
pair_here key q from size (b ∷ bs) x blocks is key_is = ⊎_elim
    (λ (e : b.place ≡ q). (
    let here : (b.place == q) ≡ true = eq-eqb b.place q e in
    let same : Some b.bytes ≡ Some x = rw here at is in
    grind (arith, e, same, key_is)))
    (λ ne. (
    let there : (b.place == q) ≡ false = ne_eqb b.place q ne in
    let left : block_at q bs ≡ Some x = rw there at is in
    let far = at_least q (end_of b) size bs blocks.3 (rw left refl) in
    let rest = pair_here key q (end_of b) size bs x blocks.3 left key_is in
    grind (arith, far, rest)))
    (cases_eq b.place q)

pub found_here : (key : List ℕ) (q from size : ℕ) (bs : List Block) (o : Option (List ℕ)) → AreBlocks from size bs → block_at q bs ≡ o → IsSome o → IfSome o (λ x. is_key key (at_space x) ≡ true) → pair_of key bs ≡ pair_from key q bs → IsPairAt key bs q
found_here key q from size bs None blocks at is key_is same = absurd cc
found_here key q from size bs (Some x) blocks at is key_is same = record { bytes = x; stands = at; pair = same ∙ pair_here key q from size bs x blocks at key_is; key_is = key_is }

-- what is found past a block, told of blocks with one more before them
more_seeks : (key : List ℕ) (b : Block) (size : ℕ) (bs : List Block) (found : Option Block) (o : Option ℕ) → AreBlocks (end_of b) size bs → Seeks key bs found o → Seeks key (b ∷ bs) found o
more_seeks key b size bs found None blocks seeks = seeks
more_seeks key b size bs found (Some r) blocks seeks =
    let far : end_of b + 16 ≤ r = at_least r (end_of b) size bs blocks seeks.1 in
    grind (arith, far, seeks.0, seeks.1)

-- the next block begins what is left
next_seeks : (key : List ℕ) (b : Block) (size : ℕ) (bs : List Block) → AreBlocks (end_of b) size bs → Seeks key (b ∷ bs) (pair_of key bs) (place_past b.place bs)
next_seeks key b size [] blocks = refl
next_seeks key b size (c ∷ cs) blocks = grind (arith, blocks)

-- the first block left is another pair
walks_here : (key : List ℕ) (b : Block) (size : ℕ) (bs : List Block) → AreBlocks (end_of b) size bs → is_key key (at_space b.bytes) ≡ false → Seeks key (b ∷ bs) (pair_from key b.place (b ∷ bs)) (place_past b.place (b ∷ bs))
walks_here key b size bs blocks other =
    let f : pair_from key b.place (b ∷ bs) ≡ pair_of key bs = grind (arith, other) in
    let o : place_past b.place (b ∷ bs) ≡ place_past b.place bs = grind arith in
    subst (λ x. Seeks key (b ∷ bs) x (place_past b.place (b ∷ bs))) (sym f) (subst (λ y. Seeks key (b ∷ bs) (pair_of key bs) y) (sym o) (next_seeks key b size bs blocks))

-- a block further on is another pair
walks_on : (key : List ℕ) (q : ℕ) (b : Block) (size : ℕ) (bs : List Block) → AreBlocks (end_of b) size bs → end_of b + 16 ≤ q → Seeks key bs (pair_from key q bs) (place_past q bs) → Seeks key (b ∷ bs) (pair_from key q (b ∷ bs)) (place_past q (b ∷ bs))
walks_on key q b size bs blocks far seeks =
    let f : pair_from key q (b ∷ bs) ≡ pair_from key q bs = grind (arith, far) in
    let o : place_past q (b ∷ bs) ≡ place_past q bs = grind (arith, far) in
    subst (λ x. Seeks key (b ∷ bs) x (place_past q (b ∷ bs))) (sym f) (subst (λ y. Seeks key (b ∷ bs) (pair_from key q bs) y) (sym o) (more_seeks key b size bs (pair_from key q bs) (place_past q bs) blocks seeks))

-- the block is another pair: what is sought is found past it
pub walks : (key : List ℕ) (q from size : ℕ) (bs : List Block) → AreBlocks from size bs → IsSome (block_at q bs) → IfSome (block_at q bs) (λ x. is_key key (at_space x) ≡ false) → Seeks key bs (pair_from key q bs) (place_past q bs)
walks key q from size [] blocks is other = absurd cc
walks key q from size (b ∷ bs) blocks is other = ⊎_elim
    (λ (e : b.place ≡ q). (
    let here : (b.place == q) ≡ true = eq-eqb b.place q e in
    subst (λ p. Seeks key (b ∷ bs) (pair_from key p (b ∷ bs)) (place_past p (b ∷ bs))) e (walks_here key b size bs blocks.3 (rw here at other))))
    (λ ne. (
    let there : (b.place == q) ≡ false = ne_eqb b.place q ne in
    let left = rw there at is in
    walks_on key q b size bs blocks.3 (at_least q (end_of b) size bs blocks.3 left) (walks key q (end_of b) size bs blocks.3 left (rw there at other))))
    (cases_eq b.place q)

-- what a test of a block's bytes says
pub tested : (key : List ℕ) (o : Option (List ℕ)) (r v : Bool) → IfSome o (λ x. r ≡ is_key key (at_space x)) → r ≡ v → IfSome o (λ x. is_key key (at_space x) ≡ v)
tested key None r v tells is = tt
tested key (Some x) r v tells is = cc

-- the next block is further on
pub past_more : (q : ℕ) (bs : List Block) → IfSome (place_past q bs) (λ r. q < r)
past_more q [] = tt
past_more q (b ∷ bs) = grind (arith, past_more q bs)

blocks_room : (from size : ℕ) (bs : List Block) → AreBlocks from size bs → from ≤ size
blocks_room from size [] blocks = blocks
blocks_room from size (b ∷ bs) blocks = let rest = blocks_room (end_of b) size bs blocks.3 in omega (arith, rest, blocks.0)

-- a block stands within the size
pub at_most : (q from size : ℕ) (bs : List Block) → AreBlocks from size bs → IsSome (block_at q bs) → q ≤ size
at_most q from size [] blocks is = absurd cc
at_most q from size (b ∷ bs) blocks is = grind (arith, is, blocks, blocks_room (end_of b) size bs blocks.3, at_most q (end_of b) size bs blocks.3)

-- how far the next block is from the end of all places
abbrev pub to_end : Option ℕ → ℕ
to_end None = 0
to_end (Some place) = 2 ^ 64 - place

pub falls : (place : ℕ) (o : Option ℕ) → place < 2 ^ 64 → IfSome o (λ r. place < r) → to_end o < to_end (Some place)
falls place None small more = omega (arith, small)
falls place (Some r) small more = omega (arith, small, more)

pub some_is : {A : Type 0} {x y : A} → Some x ≡ Some y → x ≡ y
some_is same = cc

-- where no block begins with the key and a space, none is its pair
pub no_front : (key : List ℕ) (bs : List Block) → None ≡ place_of_front key 32 bs → pair_of key bs ≡ None
no_front key [] none = refl
no_front key (b ∷ bs) none = go (has_front key 32 b.bytes) refl (no_front key bs) none
  where
    go : (t : Bool) → has_front key 32 b.bytes ≡ t → (None ≡ place_of_front key 32 bs → pair_of key bs ≡ None) → None ≡ (if t then Some b.place else place_of_front key 32 bs) → pair_of key (b ∷ bs) ≡ None
    go true is rest e = absurd cc
    go false is rest e = is_false (is_key key (at_space b.bytes)) (Some b) (pair_of key bs) (key_front key b.bytes ∙ ap (λ t. t && not (has_space key)) is) ∙ rest e

-- a key with a space has no pair
pub no_spaced : (key : List ℕ) (bs : List Block) → has_space key ≡ true → pair_of key bs ≡ None
no_spaced key [] spaced = refl
no_spaced key (b ∷ bs) spaced =
    is_false (is_key key (at_space b.bytes)) (Some b) (pair_of key bs) (key_front key b.bytes ∙ ap (λ t. has_front key 32 b.bytes && not t) spaced ∙ none (has_front key 32 b.bytes)) ∙ no_spaced key bs spaced
  where
    none : (t : Bool) → t && false ≡ false
    none true = refl
    none false = refl

-- the first block that begins with a key without a space, and a space, is its pair
pub front_found : (key : List ℕ) (q from size : ℕ) (bs : List Block) → AreBlocks from size bs → has_space key ≡ false → Some q ≡ place_of_front key 32 bs → IsPairAt key bs q
front_found key q from size [] blocks plain is = absurd cc
front_found key q from size (b ∷ bs) blocks plain is = go (has_front key 32 b.bytes) refl (front_found key q (end_of b) size bs blocks.3 plain) is
  where
    key_is : (t : Bool) → has_front key 32 b.bytes ≡ t → is_key key (at_space b.bytes) ≡ t
    key_is t e = key_front key b.bytes ∙ ap (λ s. has_front key 32 b.bytes && not s) plain ∙ ap (λ s. s && true) e ∙ same t
      where
        same : (s : Bool) → s && true ≡ s
        same true = refl
        same false = refl

    go : (t : Bool) → has_front key 32 b.bytes ≡ t → (Some q ≡ place_of_front key 32 bs → IsPairAt key bs q) → Some q ≡ (if t then Some b.place else place_of_front key 32 bs) → IsPairAt key (b ∷ bs) q
    go true e rest here =
        let place : q ≡ b.place = some_is here in
        record {
          bytes = b.bytes;
          stands = is_true (b.place == q) (Some b.bytes) (block_at q bs) (eq-eqb b.place q (sym place));
          pair = is_true (is_key key (at_space b.bytes)) (Some b) (pair_of key bs) (key_is true e) ∙ ap (λ (p : ℕ). let c : Block = record { place = p; bytes = b.bytes } in Some c) (sym place);
          key_is = key_is true e;
        }
    go false e rest later =
        let r : IsPairAt key bs q = rest later in
        let far : end_of b + 16 ≤ q = at_least q (end_of b) size bs blocks.3 (rw r.stands refl) in
        record {
          bytes = r.bytes;
          stands = is_false (b.place == q) (Some b.bytes) (block_at q bs) (ne_eqb b.place q (λ same. absurd (omega (arith, same, far)))) ∙ r.stands;
          pair = is_false (is_key key (at_space b.bytes)) (Some b) (pair_of key bs) (key_is false e) ∙ r.pair;
          key_is = r.key_is;
        }

-- a block more leaves the others
pub still_there : (q : ℕ) (new : Block) (bs : List Block) → IsSome (block_at q bs) → IsSome (block_at q (with_block new bs))
still_there q new [] is = absurd cc
still_there q new (b ∷ bs) is = grind (arith, is, still_there q new bs)

-- a gap is behind where it was looked for
gap_far : (n from size p : ℕ) (bs : List Block) → AreBlocks from size bs → first_gap_from from size bs n ≡ Some p → from + 16 ≤ p
gap_far n from size p [] blocks is = grind (arith, is)
gap_far n from size p (b ∷ bs) blocks is = grind (arith, is, blocks, gap_far n (end_of b) size p bs blocks.3)

-- bytes over all of a block
over_all : (xs ys : List ℕ) → length ys ≡ length xs → take 0 xs ++ (ys ++ drop (0 + length ys) xs) ≡ ys
over_all xs ys same = let gone : drop (0 + length ys) xs ≡ [] = drop_of_length-le xs (omega (arith, same)) in rw gone (append-nil ys)

-- a block in a gap is there, and may be written whole
pub put_in : (n from size p : ℕ) (zs ys : List ℕ) (bs : List Block) → AreBlocks from size bs → first_gap_from from size bs n ≡ Some p → length ys ≡ length zs
    → (block_at p (with_block (record { place = p; bytes = zs }) bs) ≡ Some zs) × (rewritten p 0 ys (with_block (record { place = p; bytes = zs }) bs) ≡ with_block (record { place = p; bytes = ys }) bs)
put_in n from size p zs ys [] blocks is same = let all = over_all zs ys same in grind (arith, all)
put_in n from size p zs ys (b ∷ bs) blocks is same =
    let all = over_all zs ys same in
    grind (arith, all, is, blocks, gap_far n (end_of b) size p bs blocks.3, put_in n (end_of b) size p zs ys bs blocks.3)

-- a pair more leaves the blocks
pub still_with : (q : ℕ) (o : Option ℕ) (pair : List ℕ) (v : Value) → IsSome (block_at q v.blocks) → IsSome (block_at q (with_pair o pair v).blocks)
still_with q None pair v is = is
still_with q (Some place) pair v is = still_there q (record { place = place; bytes = pair }) v.blocks is
