-- What stands in the pages of a heap, and what stands there after a change.
use Rattle.std.proofs.Common.{◌≡◌, ℕ, ◌+◌, ◌-◌, ◌/◌, ◌%◌, ◌^◌, ◌<◌, ◌≤◌, List, length, drop, replicate, Option, Some, None, Result, Ok, Err, IsSome, IsSomeAnd, IfSome, is_some, IfOk, OnOk, OnErr, refl, sym, ap, ◌∙◌, subst, arith}
use Rattle.std.specs.Prelude.{option_map}
use Rattle.std.specs.declared.alloc.AllocError.{AllocError}
use Rattle.std.proofs.lemmas.List.{length-replicate}
use Rattle.byteorder.specs.Endian.{big_number, big_bytes}
use Rattle.byteorder.specs.Numbers.{length-bytes_high_first}
use Rattle.ken_frame.specs.Written.{written}
use Rattle.ken_pages.specs.Paged.{Paged}
use Rattle.ken_model.specs.declared.values.Block.{Block}
use Rattle.ken_model.specs.declared.values.Value.{Value}
use Rattle.ken_model.specs.Heap.{rounded, end_of, block_at, place_past, with_block, without_block, first_gap_from}
use Rattle.ken_alloc.specs.declared.walk.Found.{Found}
use Rattle.ken_alloc.specs.declared.walk.Gap.{Gap}
use Rattle.ken_model.specs.Layout.{part, head_bytes, HasHead, IsGap, IsLaid, AreCells, StandsFor}
use Rattle.ken_alloc.specs.Changes.{room_start, room_end, with_zeros_at, after_free}
use Rattle.ken_model.specs.Reading.{value_of}
use Rattle.ken_alloc.specs.Objects.{FramedHeap, heap_of, IsHeld, IsBlock, rewritten}
use Rattle.ken_alloc.specs.Kept.{KeepsOutside}
use Rattle.ken_alloc.specs.Walk.{IsWalk, first_of, fit_from, hole_from}
use Rattle.ken_alloc.proofs.Kept.{KeepsOutside-same, KeepsOutside-wider, KeepsOutside-after, part_after}
use Rattle.ken_model.proofs.Heads.{IsRead, IsRead-from_head}
use Rattle.ken_model.proofs.Walked.{AreCells-le}
use Rattle.ken_alloc.proofs.Cells.{AreCells-above, AreCells-with_block, AreCells-inside, AreCells-without_block, IsRoom, IsRoom-fit, IsRoom-hole}
use Rattle.ken_alloc.proofs.Blocks.{StandsAt, stands_at, next_place, AreCells-rewritten, place_of_fit, is_some-hole}
use Rattle.ken_alloc.proofs.Carved.{KeepsOutside-carved, HasHead-carved, zeros-carved, IsGap-carved}
use Rattle.ken_alloc.proofs.Rooms.{room_end-fit, room-hole}
use Rattle.ken_model.proofs.Unique.{IsSized, IsSized-from_stands, StandsFor-value}
use Rattle.ken_alloc.proofs.Walks.{walk_all}

pub stands_seen : (p : Paged) (h : FramedHeap) → IsHeld p → heap_of p ≡ h → StandsFor p.bytes h.value
stands_seen p h held is = subst (λ (g : FramedHeap). StandsFor p.bytes g.value) is held.now

-- a block of a heap, and the cells after it
pub record IsSeen (xs : List ℕ) (place : ℕ) (bs : List Block) : Type 0 where
  pub bytes : List ℕ
  pub found : block_at place bs ≡ Some bytes
  pub past : 32 ≤ place
  pub ends : place + rounded (length bytes) ≤ length xs
  pub small : length xs < 2 ^ 32
  pub stands : part place (length bytes) xs ≡ bytes
  pub len_is : big_number 4 (drop (place - 16 + 4) xs) ≡ length bytes
  pub rest : List Block
  pub after : IsWalk xs (place + rounded (length bytes)) rest
  pub next : place_past place bs ≡ option_map (λ (f : Found). f.place) (first_of rest)

pub block_seen : (xs : List ℕ) (v : Value) (place : ℕ) → StandsFor xs v → IsBlock v place → IsSeen xs place v.blocks
block_seen xs v place stands some =
    let walk : IsWalk xs 16 v.blocks = walk_all xs v stands in
    let s : StandsAt xs (length xs) 16 place v.blocks = stands_at xs (length xs) place 16 v.blocks walk.cells some in
    let le : place + rounded (length s.bytes) ≤ length xs = AreCells-le xs (place + rounded (length s.bytes)) (length xs) s.rest s.after in
    let small : length xs < 2 ^ 32 = walk.small in
    let read : IsRead xs (place - 16) (16 + rounded (length s.bytes)) (length s.bytes) = IsRead-from_head xs (place - 16) (16 + rounded (length s.bytes)) (length s.bytes) (omega (arith, s.past)) (omega (arith, s.past)) s.laid.2 in
    record {
      bytes = s.bytes;
      found = s.found;
      past = omega (arith, s.past);
      ends = le;
      small = small;
      stands = s.laid.3;
      len_is = read.len_is;
      rest = s.rest;
      after = record { even = omega (arith, s.laid.1); whole = walk.whole; small = walk.small; cells = s.after };
      next = s.next ∙ next_place xs (length xs) place (place + rounded (length s.bytes)) s.rest (omega arith) s.after;
    }

some_and : (o : Option (List ℕ)) (P : List ℕ → Type 0) → IsSomeAnd o P → IsSome o
some_and None P h = absurd h
some_and (Some x) P h = refl

at_found : (o : Option (List ℕ)) (P : List ℕ → Type 0) (x : List ℕ) → o ≡ Some x → IsSomeAnd o P → P x
at_found None P x is h = absurd h
at_found (Some y) P x is h = let e : y ≡ x = cc in subst P e h

-- a part of a block
pub record IsWithin (xs : List ℕ) (place at n : ℕ) (bs : List Block) : Type 0 where
  pub seen : IsSeen xs place bs
  pub fits : at + n ≤ length seen.bytes
  pub within : place + at + n ≤ length xs

pub part_seen : (xs : List ℕ) (v : Value) (place at n : ℕ) → StandsFor xs v → IsSomeAnd (block_at place v.blocks) (λ bytes. at + n ≤ length bytes) → IsWithin xs place at n v.blocks
part_seen xs v place at n stands some =
    let seen : IsSeen xs place v.blocks = block_seen xs v place stands (some_and (block_at place v.blocks) (λ bytes. at + n ≤ length bytes) some) in
    let fits : at + n ≤ length seen.bytes = at_found (block_at place v.blocks) (λ bytes. at + n ≤ length bytes) seen.bytes seen.found some in
    record { seen = seen; fits = fits; within = omega (arith, seen.ends) }

-- a change past the first 16 bytes
pub StandsFor-cells : (xs ys : List ℕ) (v : Value) (lo hi : ℕ) (bs : List Block) → KeepsOutside lo hi xs ys → 16 ≤ lo → StandsFor xs v → AreCells ys 16 v.size bs → StandsFor ys (record v { blocks = bs })
StandsFor-cells xs ys v lo hi bs kept past stands cells = record {
  size = kept.long ∙ stands.size;
  pages = stands.pages;
  small = stands.small;
  root = kept.below 0 8 (omega arith) ∙ stands.root;
  name = kept.below 8 4 (omega arith) ∙ stands.name;
  count = kept.below 12 4 (omega arith) ∙ stands.count ∙ ap (λ (k : ℕ). big_bytes 4 (k / 256)) (sym kept.long);
  cells = cells;
}

module _ (xs : List ℕ) (v : Value) (stands : StandsFor xs v) where
  whole : v.size % 16 ≡ 0
  whole = let sized : IsSized xs = IsSized-from_stands xs v stands in omega (arith, stands.size)

  fit_at_size : (n : ℕ) (gap : Gap) → Some gap ≡ fit_from 16 (length xs) v.blocks n → fit_from 16 v.size v.blocks n ≡ Some gap
  fit_at_size n gap fit = ap (λ (k : ℕ). fit_from 16 k v.blocks n) (sym stands.size) ∙ sym fit

  -- where there is room
  pub room_seen : (n : ℕ) (gap : Gap) → Some gap ≡ fit_from 16 (length xs) v.blocks n → IsRoom (length xs) (16 + rounded n) 16 gap
  room_seen n gap fit =
      subst (λ (k : ℕ). IsRoom k (16 + rounded n) 16 gap) (sym stands.size) (IsRoom-fit xs v.size n gap whole 16 v.blocks refl stands.cells (fit_at_size n gap fit))

  -- a block more
  pub stands_with : (ys : List ℕ) (n : ℕ) (gap : Gap) → 1 ≤ n → Some gap ≡ fit_from 16 (length xs) v.blocks n → ys ≡ with_zeros_at (gap.from + 16) n gap.to xs → StandsFor ys (record v { blocks = with_block (record { place = gap.from + 16; bytes = replicate n 0 }) v.blocks })
  stands_with ys n gap some fit is =
      let room : IsRoom (length xs) (16 + rounded n) 16 gap = room_seen n gap fit in
      let fits : gap.from + 16 + rounded n ≤ gap.to = omega (arith, room.fits) in
      let even : (gap.to - (gap.from + 16 + rounded n)) % 16 ≡ 0 = omega (arith, room.even, room.even_to) in
      let kept : KeepsOutside gap.from gap.to xs ys = KeepsOutside-carved xs ys gap.from gap.to n fits even room.within is in
      let head : HasHead ys gap.from (16 + rounded n) n = HasHead-carved xs ys gap.from gap.to n fits even room.within is in
      let zeros : part (gap.from + 16) n ys ≡ replicate n 0 = zeros-carved xs ys gap.from gap.to n fits even room.within is in
      let rest : IsGap ys (gap.from + 16 + rounded n) gap.to = IsGap-carved xs ys gap.from gap.to n fits even room.within is in
      let long : length {A = ℕ} (replicate n 0) ≡ n = length-replicate {A = ℕ} n 0 in
      let new : Block = record { place = gap.from + 16; bytes = replicate n 0 } in
      let start : gap.from ≡ gap.from + 16 - 16 = omega arith in
      let laid : IsLaid ys new = (
        omega (arith, long),
        omega (arith, room.even),
        subst (λ (k : ℕ). HasHead ys (gap.from + 16 - 16) (16 + rounded k) k) (sym long) (subst (λ (k : ℕ). HasHead ys k (16 + rounded n) n) start head),
        subst (λ (k : ℕ). part (gap.from + 16) k ys ≡ replicate n 0) (sym long) zeros,
      ) in
      let after : IsGap ys (end_of new) gap.to = subst (λ (k : ℕ). IsGap ys (gap.from + 16 + rounded k) gap.to) (sym long) rest in
      let ends : end_of new ≤ gap.to = omega (arith, room.fits, long) in
      StandsFor-cells xs ys v gap.from gap.to (with_block new v.blocks) kept room.past stands
      (AreCells-with_block xs ys v.size n gap new kept refl ends laid after whole 16 v.blocks refl stands.cells (fit_at_size n gap fit))

  -- its room ends where the gap does
  pub room_end_seen : (n : ℕ) (gap : Gap) → Some gap ≡ fit_from 16 (length xs) v.blocks n → room_end v (gap.from + 16) ≡ gap.to
  room_end_seen n gap fit = room_end-fit xs v.size n gap whole 16 v.blocks refl stands.cells (fit_at_size n gap fit)

  -- a gap whose inside changed
  pub stands_inside : (ys : List ℕ) (n : ℕ) (gap : Gap) → Some gap ≡ fit_from 16 (length xs) v.blocks n → KeepsOutside (gap.from + 16) gap.to xs ys → StandsFor ys v
  stands_inside ys n gap fit kept =
      let room : IsRoom (length xs) (16 + rounded n) 16 gap = room_seen n gap fit in
      StandsFor-cells xs ys v (gap.from + 16) gap.to v.blocks kept (omega (arith, room.past)) stands
      (AreCells-inside xs ys v.size n gap kept whole 16 v.blocks refl stands.cells (fit_at_size n gap fit))

  hole_at_size : (place : ℕ) (gap : Gap) → Some gap ≡ hole_from 16 (length xs) place v.blocks → hole_from 16 v.size place v.blocks ≡ Some gap
  hole_at_size place gap hole = ap (λ (k : ℕ). hole_from 16 k place v.blocks) (sym stands.size) ∙ sym hole

  pub hole_seen : (place : ℕ) (gap : Gap) → Some gap ≡ hole_from 16 (length xs) place v.blocks → IsRoom (length xs) 32 16 gap × (length xs < 2 ^ 32)
  hole_seen place gap hole =
      let sized : IsSized xs = IsSized-from_stands xs v stands in (
        subst (λ (k : ℕ). IsRoom k 32 16 gap) (sym stands.size) (IsRoom-hole xs v.size place gap whole 16 v.blocks refl stands.cells (hole_at_size place gap hole)),
        omega arith,
      )

  -- it is the room of the block that stood there
  pub room_seen_hole : (place : ℕ) (gap : Gap) → Some gap ≡ hole_from 16 (length xs) place v.blocks → (room_start v place ≡ gap.from) × (room_end v place ≡ gap.to)
  room_seen_hole place gap hole = room-hole xs v.size place gap 16 v.blocks stands.cells (hole_at_size place gap hole)

  -- a block less
  pub stands_without : (ys : List ℕ) (place : ℕ) (gap : Gap) → Some gap ≡ hole_from 16 (length xs) place v.blocks → ys ≡ written xs gap.from (head_bytes (gap.to - gap.from) 0) → StandsFor ys (record v { blocks = without_block place v.blocks })
  stands_without ys place gap hole is =
      let r : IsRoom (length xs) 32 16 gap = (hole_seen place gap hole).0 in
      let fits : gap.from + 16 ≤ length xs = omega (arith, r.fits, r.within) in
      let kept : KeepsOutside gap.from (gap.from + 16) xs ys = KeepsOutside-after xs ys (head_bytes (gap.to - gap.from) 0) gap.from 16 refl fits is in
      let head : HasHead ys gap.from (gap.to - gap.from) 0 = part_after xs ys (head_bytes (gap.to - gap.from) 0) gap.from 16 refl fits is in
      let even : (gap.to - gap.from) % 16 ≡ 0 = omega (arith, r.even, r.even_to) in
      StandsFor-cells xs ys v gap.from (gap.from + 16) (without_block place v.blocks) kept r.past stands
      (AreCells-without_block xs ys v.size place gap kept head even whole 16 v.blocks refl stands.cells (hole_at_size place gap hole))

  -- bytes of a block written
  pub stands_rewritten : (ys zs : List ℕ) (place at : ℕ) (w : IsWithin xs place at (length zs) v.blocks) → ys ≡ written xs (place + at) zs → StandsFor ys (record v { blocks = rewritten place at zs v.blocks })
  stands_rewritten ys zs place at w is =
      let kept : KeepsOutside (place + at) (place + at + length zs) xs ys = KeepsOutside-after xs ys zs (place + at) (length zs) refl w.within is in
      StandsFor-cells xs ys v (place + at) (place + at + length zs) (rewritten place at zs v.blocks) kept (omega (arith, w.seen.past)) stands
      (subst (λ (ws : List ℕ). AreCells ws 16 v.size (rewritten place at zs v.blocks)) (sym is) (AreCells-rewritten xs zs v.size place at stands.size 16 v.blocks w.seen.bytes stands.cells w.seen.found w.fits))

  -- the root written
  pub stands_rooted : (ys zs : List ℕ) (root : ℕ) → root < 2 ^ 64 → zs ≡ big_bytes 8 root → ys ≡ written xs 0 zs → StandsFor ys (record v { root = root })
  stands_rooted ys zs root small zs_is is =
      let sized : IsSized xs = IsSized-from_stands xs v stands in
      let long : length zs ≡ 8 = ap length zs_is ∙ length-bytes_high_first 8 root in
      let fits : 0 + 8 ≤ length xs = omega arith in
      let kept : KeepsOutside 0 (0 + 8) xs ys = KeepsOutside-after xs ys zs 0 8 long fits is in
      record {
        size = kept.long ∙ stands.size;
        pages = stands.pages;
        small = small;
        root = part_after xs ys zs 0 8 long fits is ∙ zs_is;
        name = kept.above 8 4 (omega arith) ∙ stands.name;
        count = kept.above 12 4 (omega arith) ∙ stands.count ∙ ap (λ (k : ℕ). big_bytes 4 (k / 256)) (sym kept.long);
        cells = AreCells-above 0 (0 + 8) xs ys kept 16 v.size v.blocks (omega arith) stands.cells;
      }

-- a head is written, or nothing
pub KeepsOutside-gap : {X : Type 0} (r : Result X AllocError) (old new : Paged) (ys : List ℕ) (from to : ℕ) → length ys ≡ 16 → from + 16 ≤ to → to ≤ length old.bytes → OnOk r (new.bytes ≡ written old.bytes from ys) → OnErr r (new.bytes ≡ old.bytes) → KeepsOutside from to old.bytes new.bytes
KeepsOutside-gap (Ok x) old new ys from to long fits within ok err = KeepsOutside-wider from (from + 16) from to old.bytes new.bytes (omega arith) fits (KeepsOutside-after old.bytes new.bytes ys from 16 long (omega arith) ok)
KeepsOutside-gap (Err e) old new ys from to long fits within ok err = subst (λ (ws : List ℕ). KeepsOutside from to old.bytes ws) (sym err) (KeepsOutside-same from to old.bytes)

-- the pages are those of a heap after a change
pub held_after : {X : Type 0} → (r : Result X AllocError) (old new : Paged) (v : Value) → IsHeld old → IfOk r (λ _. StandsFor new.bytes v) → OnErr r (StandsFor new.bytes (value_of new.bytes)) → new.begun ≡ old.begun → IsHeld new
held_after (Ok x) old new v held ok err begun = record { now = StandsFor-value new.bytes v ok; before = subst (λ (o : Option (List ℕ)). IfSome o (λ b. StandsFor b (value_of b))) (sym begun) held.before }
held_after (Err e) old new v held ok err begun = record { now = err; before = subst (λ (o : Option (List ℕ)). IfSome o (λ b. StandsFor b (value_of b))) (sym begun) held.before }

-- an error that changed no byte
pub err_same : {X : Type 0} → (r : Result X AllocError) (old new : Paged) → IsHeld old → OnErr r (new.bytes ≡ old.bytes) → OnErr r (StandsFor new.bytes (value_of new.bytes))
err_same (Ok x) old new held same = same
err_same (Err e) old new held same = subst (λ (ws : List ℕ). StandsFor ws (value_of ws)) (sym same) held.now

pub if_found : (o : Option (List ℕ)) (P : List ℕ → Type 0) (x : List ℕ) → o ≡ Some x → IfSome o P → P x
if_found o P x is h = subst (λ (q : Option (List ℕ)). IfSome q P) is h

-- where a block that was found ends
pub end_seen : (xs : List ℕ) (place : ℕ) (bs : List Block) (s : IsSeen xs place bs) (f : Found) → IfSome (block_at place bs) (λ bytes. f ≡ (let g : Found = record { place = place; len = length bytes } in g)) → f.place + rounded f.len ≡ place + rounded (length s.bytes)
end_seen xs place bs s f h =
    let e : f ≡ (let g : Found = record { place = place; len = length s.bytes } in g) = if_found (block_at place bs) (λ bytes. f ≡ (let g : Found = record { place = place; len = length bytes } in g)) s.bytes s.found h in
    ap (λ (g : Found). g.place + rounded g.len) e

pub held_by : (old new : Paged) (v : Value) → IsHeld old → StandsFor new.bytes v → new.begun ≡ old.begun → IsHeld new
held_by old new v held stands begun = record { now = StandsFor-value new.bytes v stands; before = subst (λ (o : Option (List ℕ)). IfSome o (λ b. StandsFor b (value_of b))) (sym begun) held.before }

pub on_err_any : {X E : Type 0} → (r : Result X E) (P : Type 0) → P → OnErr r P
on_err_any (Ok x) P p = tt
on_err_any (Err e) P p = p

-- the value that is seen is the one that is held
pub value_seen : (p : Paged) (h : FramedHeap) → heap_of p ≡ h → value_of p.bytes ≡ h.value
value_seen p h is = ap (λ (g : FramedHeap). g.value) is

-- a gap that was found
pub fit_seen : (xs : List ℕ) (v : Value) (n : ℕ) (r : Option Gap) (gap : Gap) → value_of xs ≡ v → r ≡ Some gap → r ≡ fit_from 16 (length xs) (value_of xs).blocks n → Some gap ≡ fit_from 16 (length xs) v.blocks n
fit_seen xs v n r gap same some is = sym some ∙ is ∙ ap (λ (w : Value). fit_from 16 (length xs) w.blocks n) same

pub hole_found : (xs : List ℕ) (v : Value) (place : ℕ) (r : Option Gap) (gap : Gap) → value_of xs ≡ v → r ≡ Some gap → r ≡ hole_from 16 (length xs) place (value_of xs).blocks → Some gap ≡ hole_from 16 (length xs) place v.blocks
hole_found xs v place r gap same some is = sym some ∙ is ∙ ap (λ (w : Value). hole_from 16 (length xs) place w.blocks) same

pub place_of_first : (xs : List ℕ) (v : Value) (n : ℕ) (r : Option Gap) → StandsFor xs v → value_of xs ≡ v → r ≡ fit_from 16 (length xs) (value_of xs).blocks n → option_map (λ (g : Gap). g.from + 16) r ≡ first_gap_from 16 v.size v.blocks n
place_of_first xs v n r stands same is =
    ap (λ (o : Option Gap). option_map (λ (g : Gap). g.from + 16) o) (is ∙ ap (λ (w : Value). fit_from 16 (length xs) w.blocks n) same)
    ∙ place_of_fit (length xs) n 16 v.blocks ∙ ap (λ (k : ℕ). first_gap_from 16 k v.blocks n) stands.size

pub is_some_seen : (xs : List ℕ) (v : Value) (place : ℕ) (r : Option Gap) → value_of xs ≡ v → r ≡ hole_from 16 (length xs) place (value_of xs).blocks → is_some r ≡ is_some (block_at place v.blocks)
is_some_seen xs v place r same is =
    ap (λ (o : Option Gap). is_some o) (is ∙ ap (λ (w : Value). hole_from 16 (length xs) place w.blocks) same) ∙ is_some-hole (length xs) place 16 v.blocks

pub freed : {X : Type 0} (xs : List ℕ) (v : Value) (stands : StandsFor xs v) (ys : List ℕ) (place : ℕ) (gap : Gap) → Some gap ≡ hole_from 16 (length xs) place v.blocks → (r : Result X AllocError) → OnOk r (ys ≡ written xs gap.from (head_bytes (gap.to - gap.from) 0)) → OnOk r (StandsFor ys (record v { blocks = without_block place v.blocks }))
freed xs v stands ys place gap hole (Ok x) is = stands_without xs v stands ys place gap hole is
freed xs v stands ys place gap hole (Err e) is = tt

-- the bytes that it leaves
pub freed_bytes : (xs : List ℕ) (v : Value) (stands : StandsFor xs v) (ys : List ℕ) (place : ℕ) (gap : Gap) → Some gap ≡ hole_from 16 (length xs) place v.blocks → ys ≡ written xs gap.from (head_bytes (gap.to - gap.from) 0) → ys ≡ after_free place v xs
freed_bytes xs v stands ys place gap hole is =
    let room = room_seen_hole xs v stands place gap hole in
    is ∙ ap (λ (k : ℕ). written xs k (head_bytes (gap.to - k) 0)) (sym room.0) ∙ ap (λ (k : ℕ). written xs (room_start v place) (head_bytes (k - room_start v place) 0)) (sym room.1)
