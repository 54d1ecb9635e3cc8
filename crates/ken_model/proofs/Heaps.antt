-- Blocks of a heap: what putting one and taking one away keep.
use Rattle.std.proofs.Common.{◌≡◌, ℕ, ◌+◌, ◌-◌, ◌/◌, ◌%◌, ◌<◌, ◌≤◌, ◌^◌, ◌⊎◌, List, [], ◌∷◌, length, take, drop, Bool, true, false, ◌==◌, if◌then◌else◌, nat_lt, bytes_eq, codes, Option, Some, None, IfSome, option_map, inl, inr, ⊎_elim, refl, sym, ap, subst, ◌∙◌, arith}
use Rattle.std.specs.List.{All, AllByRecursion, Contains, position}
use Rattle.std.proofs.lemmas.Bool.{ltb-false}
use Rattle.std.proofs.lemmas.Bool.Decides.{nat_tests}
use Rattle.std.proofs.lemmas.List.{length-take, length-append}
use Rattle.std.proofs.lemmas.List.Elements.{All-contains, Contains-append_right}
use Rattle.std.proofs.lemmas.List.Quantifiers.{position-Some}
use Rattle.std.proofs.lemmas.Slice.Eq.{bytes_eq-Decides}
use Rattle.byteorder.specs.Endian.{big_bytes}
use Rattle.byteorder.specs.Numbers.{length-bytes_high_first}
use Rattle.ken_model.specs.declared.kinds.Kind.{Kind}
use Rattle.ken_model.specs.declared.kinds.Kind.TheVariants.{Ring, Tally, Share, Mix, Kv, Bank}
use Rattle.ken_model.specs.declared.messages.Message.{Message}
use Rattle.ken_model.specs.declared.values.Block.{Block}
use Rattle.ken_model.specs.declared.values.Value.{Value}
use Rattle.ken_model.specs.Effects.{Effect, refused}
use Rattle.ken_model.specs.Heap.{IsHeap, rounded, end_of, AreBlocks, first_gap_from, first_gap, with_block, with_bytes, without_block, block_at}
use Rattle.ken_model.specs.KeyValue.{Command, Put, Get, Delete, at_space, put_of, key_of, command_in, command_of, pair_of, is_key, without_pair, put_at, get_from, delete_from, kv}
use Rattle.ken_model.specs.Bank.{Order, Open, Move, Credit, account, account_of, balance_of, of_length, opened, moved, with_account, with_balance, with_credit, bank, order_of}
use Rattle.ken_model.specs.Kinds.{after, ring, tally, share, mix, mix_counts, without_draws}
use Rattle.ken_num.specs.Numbers.{num}

-- which of two gave a value
pub if_some : {A : Type 0} (b : Bool) (x y : Option A) (p : A) → (if b then x else y) ≡ Some p → ((b ≡ true) × (x ≡ Some p)) ⊎ ((b ≡ false) × (y ≡ Some p))
if_some true x y p e = inl (refl, e)
if_some false x y p e = inr (refl, e)

-- blocks that begin later begin at an earlier place too
pub blocks-earlier : (from later size : ℕ) (bs : List Block) → from ≤ later → AreBlocks later size bs → AreBlocks from size bs
blocks-earlier from later size [] le h = omega arith
blocks-earlier from later size (b ∷ bs) le h = (omega (arith, h.0), h.1, h.2, h.3)

-- a block in the first gap
pub record IsPlaced (from size : ℕ) (new : Block) (bs : List Block) : Type 0 where
  pub past : from + 16 ≤ new.place
  pub blocks : AreBlocks from size (with_block new bs)

placed-first : (from size n : ℕ) (bs : List Block) (new b : Block) → from + 16 ≡ new.place → from % 16 ≡ 0 → 0 < n → n ≡ length new.bytes → from + 16 + rounded n + 16 ≤ b.place → AreBlocks from size (b ∷ bs) → AreBlocks from size (new ∷ b ∷ bs)
placed-first from size n bs new b place even some long far h =
    let end : end_of new ≡ from + 16 + rounded n = ap (λ k. k + rounded (length new.bytes)) (sym place) ∙ ap (λ k. from + 16 + rounded k) (sym long) in
    (omega arith, omega arith, omega arith, (omega arith, h.1, h.2, h.3))

pub with_gap : (from size n : ℕ) (bs : List Block) (new : Block) → from % 16 ≡ 0 → AreBlocks from size bs → 0 < n → n ≡ length new.bytes → first_gap_from from size bs n ≡ Some new.place → IsPlaced from size new bs
with_gap from size n [] new even h some long gap =
    ⊎_elim
    (λ full. absurd cc)
    (λ fits. let place : from + 16 ≡ new.place = cc in
    let le : from + 16 + rounded n ≤ size = ltb-false size (from + 16 + rounded n) fits.0 in
    record { past = omega arith; blocks = (omega arith, omega arith, omega arith, omega arith) })
    (if_some (nat_lt size (from + 16 + rounded n)) None (Some (from + 16)) new.place gap)
with_gap from size n (b ∷ bs) new even h some long gap =
    ⊎_elim
    (λ past. let rest = with_gap (end_of b) size n bs new (omega (arith, h.1)) h.3 some long past.1 in
    let q : nat_lt new.place b.place ≡ false = grind (arith, nat_tests, rest.past) in
    record { past = omega (arith, rest.past, h.0); blocks = rw q (h.0, h.1, h.2, rest.blocks) })
    (λ fits. let place : from + 16 ≡ new.place = cc in
    let le : from + 32 + rounded n ≤ b.place = ltb-false b.place (from + 32 + rounded n) fits.0 in
    let q : nat_lt new.place b.place ≡ true = grind (arith, nat_tests) in
    let far : from + 16 + rounded n + 16 ≤ b.place = omega arith in
    let first : AreBlocks from size (new ∷ b ∷ bs) = placed-first from size n bs new b (omega arith) even some long far h in
    record { past = omega arith; blocks = rw q first })
    (if_some (nat_lt b.place (from + 32 + rounded n)) (first_gap_from (end_of b) size bs n) (Some (from + 16)) new.place gap)

-- one block less leaves a larger gap
pub without_gap : (place from size : ℕ) (bs : List Block) → AreBlocks from size bs → AreBlocks from size (without_block place bs)
without_gap place from size [] h = h
without_gap place from size (b ∷ bs) h = go (b.place == place) (without_gap place (end_of b) size bs h.3)
  where
    go : (t : Bool) → AreBlocks (end_of b) size (without_block place bs) → AreBlocks from size (if t then bs else b ∷ without_block place bs)
    go true rest = blocks-earlier from (end_of b) size bs (omega (arith, h.0)) h.3
    go false rest = (h.0, h.1, h.2, rest)

pub blocks-from : (from size : ℕ) (bs : List Block) → AreBlocks from size bs → from ≤ size
blocks-from from size [] h = h
blocks-from from size (b ∷ bs) h = omega (arith, h.0, blocks-from (end_of b) size bs h.3)

-- other bytes of the same length leave each gap as it is
pub with_bytes-blocks : (place : ℕ) (bytes : List ℕ) (from size : ℕ) (bs : List Block) → AreBlocks from size bs → IfSome (block_at place bs) (λ old. length bytes ≡ length old) → AreBlocks from size (with_bytes place bytes bs)
with_bytes-blocks place bytes from size [] h same = h
with_bytes-blocks place bytes from size (b ∷ bs) h same = go (b.place == place) same (with_bytes-blocks place bytes (end_of b) size bs h.3)
  where
    go : (t : Bool) → IfSome (if t then Some b.bytes else block_at place bs) (λ old. length bytes ≡ length old) → (IfSome (block_at place bs) (λ old. length bytes ≡ length old) → AreBlocks (end_of b) size (with_bytes place bytes bs)) → AreBlocks from size (if t then record b { bytes = bytes } ∷ bs else b ∷ with_bytes place bytes bs)
    go true long rest = (h.0, h.1, omega (arith, h.2, long), subst (λ (n : ℕ). AreBlocks (b.place + rounded n) size bs) (sym long) h.3)
    go false long rest = (h.0, h.1, h.2, rest long)

-- each block lies within the size
pub blocks-within : (from size : ℕ) (bs : List Block) → AreBlocks from size bs → AllByRecursion (λ (b : Block). b.place + length b.bytes ≤ size) bs
blocks-within from size [] h = tt
blocks-within from size (b ∷ bs) h = (omega (arith, blocks-from (end_of b) size bs h.3), blocks-within (end_of b) size bs h.3)

-- the pair of a key is among the blocks
pub pair-among : (key : List ℕ) (bs : List Block) (b : Block) → pair_of key bs ≡ Some b → Contains bs b
pair-among key [] b found = absurd cc
pair-among key (x ∷ xs) b found =
    ⊎_elim
    (λ here. let same : x ≡ b = cc in subst (Contains (x ∷ xs)) same (0, omega arith, refl))
    (λ later. Contains-append_right (x ∷ []) xs b (pair-among key xs b later.1))
    (if_some (is_key key (at_space x.bytes)) (Some x) (pair_of key xs) b found)

pub pair-all : (P : Block → Type 0) (key : List ℕ) (bs : List Block) (b : Block) → All P bs → pair_of key bs ≡ Some b → P b
pair-all P key bs b all found = All-contains P bs b all (pair-among key bs b found)

past_all : (from size : ℕ) (bs : List Block) (key : List ℕ) (b : Block) → AreBlocks from size bs → pair_of key bs ≡ Some b → from < b.place
past_all from size [] key b h found = absurd cc
past_all from size (x ∷ xs) key b h found =
    ⊎_elim
    (λ here. let same : x ≡ b = cc in subst (λ (y : Block). from < y.place) same (omega (arith, h.0)))
    (λ later. omega (arith, h.0, past_all (end_of x) size xs key b h.3 later.1))
    (if_some (is_key key (at_space x.bytes)) (Some x) (pair_of key xs) b found)

-- and stands at its place
pub pair-at : (from size : ℕ) (key : List ℕ) (bs : List Block) (b : Block) → AreBlocks from size bs → pair_of key bs ≡ Some b → block_at b.place bs ≡ Some b.bytes
pair-at from size key [] b h found = absurd cc
pair-at from size key (x ∷ xs) b h found =
    ⊎_elim
    (λ here. let same : x ≡ b = cc in
    let q : (x.place == b.place) ≡ true = grind (arith, nat_tests, ap (λ (y : Block). y.place) same) in
    rw q (ap (λ (y : Block). Some y.bytes) same))
    (λ later. let past = past_all (end_of x) size xs key b h.3 later.1 in
    let q : (x.place == b.place) ≡ false = grind (arith, nat_tests) in
    rw q (pair-at (end_of x) size key xs b h.3 later.1))
    (if_some (is_key key (at_space x.bytes)) (Some x) (pair_of key xs) b found)

-- and its key is that key
pub pair-holds : (key : List ℕ) (bs : List Block) (b : Block) → pair_of key bs ≡ Some b → is_key key (at_space b.bytes) ≡ true
pair-holds key [] b found = absurd cc
pair-holds key (x ∷ xs) b found =
    ⊎_elim
    (λ here. let same : x ≡ b = cc in subst (λ (y : Block). is_key key (at_space y.bytes) ≡ true) same here.0)
    (λ later. pair-holds key xs b later.1)
    (if_some (is_key key (at_space x.bytes)) (Some x) (pair_of key xs) b found)

-- a pair is longer than its key
pub key-long : (key bytes : List ℕ) → is_key key (at_space bytes) ≡ true → length key + 1 ≤ length bytes
key-long key bytes holds = go (position (λ b. b == 32) bytes) refl holds
  where
    go : (o : Option ℕ) → position (λ b. b == 32) bytes ≡ o → is_key key (option_map (λ i. (take i bytes, drop (i + 1) bytes)) o) ≡ true → length key + 1 ≤ length bytes
    go None e h = absurd cc
    go (Some i) e h =
        let within = (position-Some (λ b. b == 32) bytes i 0 e).0 in
        let same : take i bytes ≡ key = (bytes_eq-Decides (take i bytes) key).0 h in
        omega (arith, ap length same, length-take i bytes)

pub pair-long : (key : List ℕ) (bs : List Block) (b : Block) → pair_of key bs ≡ Some b → length key + 1 ≤ length b.bytes
pair-long key bs b found = key-long key b.bytes (pair-holds key bs b found)

-- what holds of both holds of the one that a test picks
either-holds : {A : Type 0} (P : A → Type 0) (b : Bool) (x y : A) → P x → P y → P (if b then x else y)
either-holds P true x y p q = p
either-holds P false x y p q = q

-- a pair that is to be put has some byte
abbrev HasPair : Option Command → Type 0
HasPair (Some (Put key pair)) = 0 < length pair
HasPair (Some (Get key)) = Unit {0}
HasPair (Some (Delete key)) = Unit {0}
HasPair None = Unit {0}

put-full : (pair : List ℕ) (o : Option (List ℕ × List ℕ)) → 0 < length pair → HasPair (put_of pair o)
put-full pair None some = tt
put-full pair (Some parts) some = either-holds HasPair (nat_lt 0 (length parts.0)) (Some (Put parts.0 pair)) None some tt

put-pair : (pair : List ℕ) → HasPair (put_of pair (at_space pair))
put-pair [] = tt
put-pair (x ∷ xs) = put-full (x ∷ xs) (at_space (x ∷ xs)) (omega arith)

get-pair : (o : Option (List ℕ)) → HasPair (option_map (λ k. Get k) o)
get-pair None = tt
get-pair (Some k) = tt

delete-pair : (o : Option (List ℕ)) → HasPair (option_map (λ k. Delete k) o)
delete-pair None = tt
delete-pair (Some k) = tt

command-pair : (o : Option (List ℕ × List ℕ)) → HasPair (command_in o)
command-pair None = tt
command-pair (Some parts) =
    either-holds HasPair (bytes_eq parts.0 (codes "put")) _ _ (put-pair parts.1)
    (either-holds HasPair (bytes_eq parts.0 (codes "get")) _ _ (get-pair (key_of parts.1 (at_space parts.1)))
    (either-holds HasPair (bytes_eq parts.0 (codes "del")) _ _ (delete-pair (key_of parts.1 (at_space parts.1))) tt))

-- other blocks in the heap
blocks-heap : (v : Value) (bs : List Block) → IsHeap v → AreBlocks 16 v.size bs → IsHeap (record v { blocks = bs })
blocks-heap v bs h blocks = record { pages = h.pages; root = h.root; blocks = blocks }

-- another root
root-heap : (v : Value) (root : ℕ) → IsHeap v → root < 2 ^ 64 → IsHeap (record v { root = root })
root-heap v root h word = record { pages = h.pages; root = word; blocks = h.blocks }

without-pair : (size : ℕ) (old : Option Block) (bs : List Block) → AreBlocks 16 size bs → AreBlocks 16 size (without_pair old bs)
without-pair size None bs h = h
without-pair size (Some b) bs h = without_gap b.place 16 size bs h

put-heap : (v : Value) (pair : List ℕ) (old : Option Block) (o : Option ℕ) → IsHeap v → 0 < length pair → first_gap v (length pair) ≡ o → IsHeap (put_at v pair old o).value
put-heap v pair old None h some gap = h
put-heap v pair old (Some place) h some gap =
    let new : Block = record { place = place; bytes = pair } in
    let placed = with_gap 16 v.size (length pair) v.blocks new (omega arith) h.blocks some refl gap in
    blocks-heap v (without_pair old (with_block new v.blocks)) h (without-pair v.size old (with_block new v.blocks) placed.blocks)

get-heap : (v : Value) (key : List ℕ) (o : Option Block) → IsHeap v → IsHeap (get_from v key o).value
get-heap v key None h = h
get-heap v key (Some b) h = h

delete-heap : (v : Value) (o : Option Block) → IsHeap v → IsHeap (delete_from v o).value
delete-heap v None h = h
delete-heap v (Some b) h = blocks-heap v (without_block b.place v.blocks) h (without_gap b.place 16 v.size v.blocks h.blocks)

kv-heap : (v : Value) (o : Option Command) → IsHeap v → HasPair o → IsHeap (kv v o).value
kv-heap v None h some = h
kv-heap v (Some (Put key pair)) h some = put-heap v pair (pair_of key v.blocks) (first_gap v (length pair)) h some refl
kv-heap v (Some (Get key)) h some = get-heap v key (pair_of key v.blocks) h
kv-heap v (Some (Delete key)) h some = delete-heap v (pair_of key v.blocks) h

-- the bytes of an account are 9 more than its name's
pub account-length : (name : List ℕ) (balance : ℕ) → length (account name balance) ≡ length name + 9
account-length name balance = length-append name (32 ∷ big_bytes 8 balance) ∙ omega (arith, length-bytes_high_first 8 balance)

-- the account of a name is its pair, and as long as an account
pub record IsAccount (name : List ℕ) (blocks : List Block) (b : Block) : Type 0 where
  pub pair : pair_of name blocks ≡ Some b
  pub long : length b.bytes ≡ length name + 9

pub account-is : (name : List ℕ) (blocks : List Block) (b : Block) → account_of name blocks ≡ Some b → IsAccount name blocks b
account-is name blocks b found = go (pair_of name blocks) refl found
  where
    go : (o : Option Block) → pair_of name blocks ≡ o → of_length (length name + 9) o ≡ Some b → IsAccount name blocks b
    go None e is = absurd cc
    go (Some x) e is =
        ⊎_elim
        (λ fits. record { pair = e ∙ fits.1; long = (let same : x ≡ b = cc in grind (arith, nat_tests, fits.0, ap (λ (y : Block). length y.bytes) same)) })
        (λ other. absurd cc)
        (if_some (length x.bytes == length name + 9) (Some x) None b is)

account-heap : (v : Value) (name : List ℕ) (balance place : ℕ) → IsHeap v → first_gap v (length name + 9) ≡ Some place → IsHeap (with_account place name balance v)
account-heap v name balance place h gap =
    let new : Block = record { place = place; bytes = account name balance } in
    let placed = with_gap 16 v.size (length name + 9) v.blocks new (omega arith) h.blocks (omega arith) (sym (account-length name balance)) gap in
    blocks-heap v (with_block new v.blocks) h placed.blocks

balance-heap : (v : Value) (name : List ℕ) (balance : ℕ) (b : Block) → IsHeap v → account_of name v.blocks ≡ Some b → IsHeap (with_balance b.place name balance v)
balance-heap v name balance b h found =
    let is = account-is name v.blocks b found in
    let at = pair-at 16 v.size name v.blocks b h.blocks is.pair in
    let long : length (account name balance) ≡ length b.bytes = account-length name balance ∙ sym is.long in
    blocks-heap v (with_bytes b.place (account name balance) v.blocks) h (with_bytes-blocks b.place (account name balance) 16 v.size v.blocks h.blocks (subst (λ o. IfSome o (λ old. length (account name balance) ≡ length old)) (sym at) long))

open-heap : (v : Value) (name : List ℕ) (amount : ℕ) (a : Option Block) (o : Option ℕ) → IsHeap v → first_gap v (length name + 9) ≡ o → IsHeap (opened v name amount a o).value
open-heap v name amount (Some b) o h gap = h
open-heap v name amount None None h gap = h
open-heap v name amount None (Some place) h gap = account-heap v name amount place h gap

move-heap : (v : Value) (name : List ℕ) (amount to : ℕ) (other : List ℕ) (a : Option Block) → IsHeap v → account_of name v.blocks ≡ a → IsHeap (moved v name amount to other a).value
move-heap v name amount to other None h found = h
move-heap v name amount to other (Some b) h found = either-holds (λ (e : Effect). IsHeap e.value) (nat_lt (balance_of b.bytes) amount) _ _ h (balance-heap v name (balance_of b.bytes - amount) b h found)

credit-heap : (v : Value) (name : List ℕ) (amount : ℕ) (a : Option Block) (o : Option ℕ) → IsHeap v → account_of name v.blocks ≡ a → first_gap v (length name + 9) ≡ o → IsHeap (with_credit v name amount a o)
credit-heap v name amount (Some b) o h found gap = balance-heap v name ((balance_of b.bytes + amount) % 2 ^ 64) b h found
credit-heap v name amount None (Some place) h found gap = account-heap v name amount place h gap
credit-heap v name amount None None h found gap = root-heap v ((v.root + amount) % 2 ^ 64) h (omega arith)

bank-heap : (nodes : ℕ) (v : Value) (m : Message) (o : Option Order) → IsHeap v → IsHeap (bank nodes v m o).value
bank-heap nodes v m None h = h
bank-heap nodes v m (Some (Open name amount)) h = open-heap v name amount (account_of name v.blocks) (first_gap v (length name + 9)) h refl
bank-heap nodes v m (Some (Move name amount to other)) h = either-holds (λ (e : Effect). IsHeap e.value) (nat_lt to nodes) _ _ (move-heap v name amount to other (account_of name v.blocks) h refl) h
bank-heap nodes v m (Some (Credit name amount)) h = either-holds (λ (e : Effect). IsHeap e.value) (m.from == 255) _ _ h (credit-heap v name amount (account_of name v.blocks) (first_gap v (length name + 9)) h refl refl)

ring-heap : (node nodes : ℕ) (v : Value) (n : Option ℕ) → IsHeap v → IsHeap (ring node nodes v n).value
ring-heap node nodes v None h = h
ring-heap node nodes v (Some n) h = root-heap v ((v.root + 1) % 2 ^ 64) h (omega arith)

tally-heap : (node nodes : ℕ) (v : Value) (m : Message) (n : Option ℕ) → IsHeap v → IsHeap (tally node nodes v m n).value
tally-heap node nodes v m None h = h
tally-heap node nodes v m (Some n) h = root-heap v ((v.root + n) % 2 ^ 64) h (omega arith)

share-heap : (node nodes : ℕ) (v : Value) (n : Option ℕ) → IsHeap v → IsHeap (share node nodes v n).value
share-heap node nodes v None h = h
share-heap node nodes v (Some n) h = root-heap v ((v.root + (n - n / 2)) % 2 ^ 64) h (omega arith)

without-heap : (draws : List ℕ) (x e : Effect) → IsHeap x.value → without_draws draws x ≡ Some e → IsHeap e.value
without-heap [] x e h is = let same : x ≡ e = cc in subst (λ (y : Effect). IsHeap y.value) same h
without-heap (d ∷ ds) x e h is = absurd cc

mix-heap : (nodes : ℕ) (v : Value) (n : Option ℕ) (draws : List ℕ) (e : Effect) → IsHeap v → AllByRecursion (λ d. d < 2 ^ 64) draws → mix nodes v n draws ≡ Some e → IsHeap e.value
mix-heap nodes v None draws e h words is = without-heap draws (refused v) e h is
mix-heap nodes v (Some n) [] e h words is = absurd cc
mix-heap nodes v (Some n) (x ∷ []) e h words is = absurd cc
mix-heap nodes v (Some n) (x ∷ y ∷ []) e h words is = let same : mix_counts nodes v n x y ≡ e = cc in subst (λ (y : Effect). IsHeap y.value) same (root-heap v x h words.0)
mix-heap nodes v (Some n) (x ∷ y ∷ z ∷ zs) e h words is = absurd cc

-- a turn's heap is one, where its draws are words
pub heap_after : (kind : Kind) (node nodes : ℕ) (v : Value) (m : Message) (draws : List ℕ) (e : Effect) → IsHeap v → AllByRecursion (λ d. d < 2 ^ 64) draws → after kind node nodes v m draws ≡ Some e → IsHeap e.value
unfolding after
heap_after Ring node nodes v m draws e h words is = without-heap draws _ e (ring-heap node nodes v (num m.bytes) h) is
heap_after Tally node nodes v m draws e h words is = without-heap draws _ e (tally-heap node nodes v m (num m.bytes) h) is
heap_after Share node nodes v m draws e h words is = without-heap draws _ e (share-heap node nodes v (num m.bytes) h) is
heap_after Mix node nodes v m draws e h words is = mix-heap nodes v (num m.bytes) draws e h words is
heap_after Kv node nodes v m draws e h words is = without-heap draws _ e (kv-heap v (command_of m.bytes) h (command-pair (at_space m.bytes))) is
heap_after Bank node nodes v m draws e h words is = without-heap draws _ e (bank-heap nodes v m (order_of m.bytes) h) is
