-- A pair and an account that were found among the blocks.
use Rattle.std.specs.Prelude.{◌≡◌, ℕ, ◌+◌, List, length, Option, Some, None, true}
use Rattle.ken_model.specs.declared.values.Block.{Block}
use Rattle.ken_model.specs.declared.values.Value.{Value}
use Rattle.ken_model.specs.Heap.{block_at, with_block}
use Rattle.ken_model.specs.KeyValue.{at_space, is_key, pair_of}
use Rattle.ken_model.specs.Bank.{account_of, balance_of}
use Rattle.ken_apps.specs.declared.accounts.Account.{Account}

-- the block at the place is the key's pair
pub record IsPairAt (key : List ℕ) (blocks : List Block) (place : ℕ) : Type 0 where
  pub bytes : List ℕ
  pub stands : block_at place blocks ≡ Some bytes
  pub pair : pair_of key blocks ≡ Some (record { place = place; bytes = bytes })
  pub key_is : is_key key (at_space bytes) ≡ true

-- the pair in a block at a place, where there is one
abbrev pub with_pair : Option ℕ → List ℕ → Value → Value
with_pair None pair v = v
with_pair (Some place) pair v = record v { blocks = with_block (record { place = place; bytes = pair }) v.blocks }

-- the block at its place is the name's account, with its balance
pub record IsAccountAt (name : List ℕ) (blocks : List Block) (account : Account) : Type 0 where
  pub bytes : List ℕ
  pub stands : block_at account.place blocks ≡ Some bytes
  pub found : account_of name blocks ≡ Some (record { place = account.place; bytes = bytes })
  pub balance : account.balance ≡ balance_of bytes
  pub long : length bytes ≡ length name + 9
  pub key_is : is_key name (at_space bytes) ≡ true
