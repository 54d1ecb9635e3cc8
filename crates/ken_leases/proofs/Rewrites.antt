-- A lease written over another, and in a gap.
use Rattle.std.proofs.Common.{◌≡◌, ℕ, ◌+◌, ◌≤◌, List, [], ◌∷◌, ◌++◌, length, take, drop, Bool, true, false, ◌==◌, if◌then◌else◌, Some, refl, sym, ap, ◌∙◌, arith, eq-eqb, ne_eqb, length-append}
use Rattle.std.proofs.lemmas.List.{append-nil}
use Rattle.std.proofs.Math.ListN.{drop_of_length-le}
use Rattle.byteorder.specs.Endian.{big_bytes}
use Rattle.byteorder.specs.Numbers.{length-bytes_high_first}
use Rattle.ken_alloc.specs.Objects.{rewritten}
use Rattle.ken_model.specs.declared.values.Block.{Block}
use Rattle.ken_model.specs.Heap.{AreBlocks, end_of}
use Rattle.ken_model.specs.KeyValue.{at_space, is_key, pair_of}
use Rattle.ken_model.proofs.Heaps.{pair-at}
use Rattle.ken_apps.proofs.Walks.{at_least}
use Rattle.ken_leases.specs.declared.blocks.Lease.{Lease}
use Rattle.ken_leases.specs.Leases.{lease_bytes, rewritten_pair}

pub length-lease_bytes : (name : List ℕ) (lease : Lease) → length (lease_bytes name lease) ≡ length name + 18
length-lease_bytes name lease =
    let from = length-bytes_high_first 8 lease.from in
    let until = length-bytes_high_first 8 lease.until in
    length-append name (32 ∷ lease.holder ∷ (big_bytes 8 lease.from ++ big_bytes 8 lease.until)) ∙ omega (arith, from, until, length-append (big_bytes 8 lease.from) (big_bytes 8 lease.until))

-- bytes over all of a block
over_all : (xs ys : List ℕ) → length ys ≡ length xs → take 0 xs ++ (ys ++ drop (0 + length ys) xs) ≡ ys
over_all xs ys same = let gone : drop (0 + length ys) xs ≡ [] = drop_of_length-le xs (omega (arith, same)) in rw gone (append-nil ys)

-- a write over the whole pair of a name
pub rewritten_is : (name zs : List ℕ) (from size place : ℕ) (old : List ℕ) (bs : List Block) → AreBlocks from size bs → pair_of name bs ≡ Some (record { place = place; bytes = old }) → length zs ≡ length old → rewritten place 0 zs bs ≡ rewritten_pair name zs bs
rewritten_is name zs from size place old [] blocks found long = absurd cc
rewritten_is name zs from size place old (b ∷ bs) blocks found long = go (is_key name (at_space b.bytes)) found (λ later. rewritten_is name zs (end_of b) size place old bs blocks.3 later long)
  where
    go : (t : Bool) → (if t then Some b else pair_of name bs) ≡ Some (record { place = place; bytes = old }) → (pair_of name bs ≡ Some (record { place = place; bytes = old }) → rewritten place 0 zs bs ≡ rewritten_pair name zs bs)
        → rewritten place 0 zs (b ∷ bs) ≡ (if t then record b { bytes = zs } ∷ bs else b ∷ rewritten_pair name zs bs)
    go true is rest =
        let same : b ≡ record { place = place; bytes = old } = cc in
        let here : (b.place == place) ≡ true = eq-eqb b.place place (ap (λ (x : Block). x.place) same) in
        let whole : take 0 b.bytes ++ (zs ++ drop (0 + length zs) b.bytes) ≡ zs = over_all b.bytes zs (long ∙ sym (ap (λ (x : Block). length x.bytes) same)) in
        rw here (ap (λ (x : List ℕ). (let c : Block = record b { bytes = x } in c ∷ bs)) whole)
    go false is rest =
        let stands = pair-at (end_of b) size name bs (record { place = place; bytes = old }) blocks.3 is in
        let past : end_of b + 16 ≤ place = at_least place (end_of b) size bs blocks.3 (rw stands refl) in
        let there : (b.place == place) ≡ false = ne_eqb b.place place (λ e. omega (arith, e, past)) in
        rw there (ap (λ (l : List Block). b ∷ l) (rest is))
