-- The balances in blocks.
use Rattle.std.proofs.Common.{◌≡◌, ℕ, ◌+◌, ◌-◌, ◌%◌, ◌^◌, List, [], ◌∷◌, length, Bool, true, false, ◌==◌, nat_lt, if◌then◌else◌, Some, sym, ap, ◌∙◌, arith, append-nil}
use Rattle.std.specs.Prelude.{sum_by}
use Rattle.std.proofs.lemmas.List.Sums.{sum_by-cons}
use Rattle.byteorder.specs.Endian.{big_bytes, big_number}
use Rattle.byteorder.specs.Numbers.{big_from-bytes}
use Rattle.ken_model.specs.declared.values.Block.{Block}
use Rattle.ken_model.specs.Heap.{AreBlocks, with_block, with_bytes, block_at}
use Rattle.ken_model.proofs.Heaps.{pair-at, account-length, account-is}
use Rattle.ken_model.specs.Bank.{account, balance_of, account_of}
use Rattle.ken_apps.proofs.MoneyRead.{drop_front}

-- a balance is read back from its 8 bytes
pub balance_account : (name : List ℕ) (n : ℕ) → balance_of (account name n) ≡ n % 2 ^ 64
balance_account name n =
    let last = drop_front name 32 (big_bytes 8 n) (length (account name n) - 8) (omega (arith, account-length name n)) in
    ap (big_number 8) (last ∙ sym (append-nil (big_bytes 8 n))) ∙ big_from-bytes 8 n []

-- all balances of blocks
abbrev pub balances : List Block → ℕ
balances bs = sum_by (λ (b : Block). balance_of b.bytes) bs

balances_cons : (b : Block) (bs : List Block) → balances (b ∷ bs) ≡ balance_of b.bytes + balances bs
balances_cons b bs = sum_by-cons (λ (x : Block). balance_of x.bytes) b bs

-- a new block adds its own
pub balances_with : (new : Block) (bs : List Block) → balances (with_block new bs) ≡ balance_of new.bytes + balances bs
balances_with new [] = balances_cons new []
balances_with new (b ∷ bs) = go (nat_lt new.place b.place) (balances_with new bs)
  where
    go : (t : Bool) → balances (with_block new bs) ≡ balance_of new.bytes + balances bs → balances (if t then new ∷ b ∷ bs else b ∷ with_block new bs) ≡ balance_of new.bytes + balances (b ∷ bs)
    go true rest = balances_cons new (b ∷ bs)
    go false rest = omega (arith, balances_cons b (with_block new bs), balances_cons b bs, rest)

-- other bytes in a block leave the others' balances
pub balances_changed : (place : ℕ) (old bytes : List ℕ) (bs : List Block) → block_at place bs ≡ Some old → balances (with_bytes place bytes bs) + balance_of old ≡ balances bs + balance_of bytes
balances_changed place old bytes [] stands = absurd cc
balances_changed place old bytes (b ∷ bs) stands = go (b.place == place) (balances_changed place old bytes bs) stands
  where
    go : (t : Bool) → (block_at place bs ≡ Some old → balances (with_bytes place bytes bs) + balance_of old ≡ balances bs + balance_of bytes) → (if t then Some b.bytes else block_at place bs) ≡ Some old → balances (if t then record b { bytes = bytes } ∷ bs else b ∷ with_bytes place bytes bs) + balance_of old ≡ balances (b ∷ bs) + balance_of bytes
    go true rest is =
        let same : balance_of b.bytes ≡ balance_of old = ap balance_of (let e : b.bytes ≡ old = cc in e) in
        omega (arith, balances_cons (record b { bytes = bytes }) bs, balances_cons b bs, same)
    go false rest is = omega (arith, balances_cons b (with_bytes place bytes bs), balances_cons b bs, rest is)

-- an account that was found stands at its place
pub account_stands : (size : ℕ) (name : List ℕ) (bs : List Block) (b : Block) → AreBlocks 16 size bs → account_of name bs ≡ Some b → block_at b.place bs ≡ Some b.bytes
account_stands size name bs b blocks found = pair-at 16 size name bs b blocks (account-is name bs b found).pair
