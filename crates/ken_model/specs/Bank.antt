-- The orders of kind bank, and what its handler makes of them. An account is a block: its name, a space, and its balance in
-- 8 bytes, the highest first.
use Rattle.std.specs.Prelude.{ℕ, ◌+◌, ◌-◌, ◌%◌, ◌^◌, ◌++◌, List, [], ◌∷◌, length, drop, ◌&&◌, ◌==◌, nat_lt, nat_le, if◌then◌else◌, bytes_eq, Option, Some, None, option_map, option_and_then, codes, decimal}
use Rattle.byteorder.specs.Endian.{big_number, big_bytes}
use Rattle.ken_num.specs.Numbers.{num}
use Rattle.ken_model.specs.declared.messages.Message.{Message}
use Rattle.ken_model.specs.declared.messages.TheConstants.{OUTSIDE}
use Rattle.ken_model.specs.declared.values.Block.{Block}
use Rattle.ken_model.specs.declared.values.Value.{Value}
use Rattle.ken_model.specs.Effects.{Effect, answered, refused}
use Rattle.ken_model.specs.Heap.{first_gap, with_block, with_bytes}
use Rattle.ken_model.specs.KeyValue.{at_space, pair_of}

-- to open an account with an amount; to move an amount from an account to one of a node; to credit an account with an amount
pub data Order : Type 0 where
  Open : List ℕ → ℕ → Order
  Move : List ℕ → ℕ → ℕ → List ℕ → Order
  Credit : List ℕ → ℕ → Order

-- a name is 1 to 32 bytes without a space
abbrev pub name_in : List ℕ → Option (List ℕ × List ℕ) → Option (List ℕ)
name_in bytes None = if nat_lt 0 (length bytes) && nat_le (length bytes) 32 then Some bytes else None
name_in bytes (Some parts) = None

abbrev pub name_of : List ℕ → Option (List ℕ)
name_of bytes = name_in bytes (at_space bytes)

-- a name before the first space, and what stands after it
abbrev pub at_name : List ℕ → Option (List ℕ × List ℕ)
at_name bytes = option_and_then (λ parts. option_map (λ name. (name, parts.1)) (name_of parts.0)) (at_space bytes)

-- a number before the first space, and what stands after it
abbrev pub at_num : List ℕ → Option (ℕ × List ℕ)
at_num bytes = option_and_then (λ parts. option_map (λ n. (n, parts.1)) (num parts.0)) (at_space bytes)

-- `NAME AMOUNT`
abbrev pub named_amount : List ℕ → Option (List ℕ × ℕ)
named_amount bytes = option_and_then (λ name. option_map (λ n. (name.0, n)) (num name.1)) (at_name bytes)

-- `NAME AMOUNT NODE OTHER`
abbrev pub move_of : List ℕ → Option Order
move_of bytes = option_and_then (λ name. option_and_then (λ amount. option_and_then (λ to. option_map (λ other. Move name.0 amount.0 to.0 other) (name_of to.1)) (at_num amount.1)) (at_num name.1)) (at_name bytes)

-- the order of a first word and the rest
abbrev pub order_in : Option (List ℕ × List ℕ) → Option Order
order_in None = None
order_in (Some parts) = if bytes_eq parts.0 (codes "open") then option_map (λ p. Open p.0 p.1) (named_amount parts.1) else if bytes_eq parts.0 (codes "move") then move_of parts.1 else if bytes_eq parts.0 (codes "credit") then option_map (λ p. Credit p.0 p.1) (named_amount parts.1) else None

-- the order that a payload is
abbrev pub order_of : List ℕ → Option Order
order_of payload = order_in (at_space payload)

-- the bytes of an account
abbrev pub account : List ℕ → ℕ → List ℕ
account name balance = name ++ 32 ∷ big_bytes 8 balance

-- the balance in an account's bytes: the last 8 of them
abbrev pub balance_of : List ℕ → ℕ
balance_of bytes = big_number 8 (drop (length bytes - 8) bytes)

abbrev pub of_length : ℕ → Option Block → Option Block
of_length n None = None
of_length n (Some b) = if length b.bytes == n then Some b else None

-- the account of a name: the pair of that key, if it is as long as an account
abbrev pub account_of : List ℕ → List Block → Option Block
account_of name blocks = of_length (length name + 9) (pair_of name blocks)

-- a new account at a place
abbrev pub with_account : ℕ → List ℕ → ℕ → Value → Value
with_account place name balance value = record value { blocks = with_block (record { place = place; bytes = account name balance }) value.blocks }

-- another balance in the account at a place
abbrev pub with_balance : ℕ → List ℕ → ℕ → Value → Value
with_balance place name balance value = record value { blocks = with_bytes place (account name balance) value.blocks }

-- open makes an account where the name has none, in the first gap that it fits into
abbrev pub opened : Value → List ℕ → ℕ → Option Block → Option ℕ → Effect
opened value name amount (Some b) gap = answered value (codes "there")
opened value name amount None None = answered value (codes "full")
opened value name amount None (Some place) = answered (with_account place name amount value) (codes "ok")

-- `credit NAME AMOUNT`
abbrev pub credit_text : List ℕ → ℕ → List ℕ
credit_text name amount = codes "credit " ++ name ++ 32 ∷ decimal amount

-- move takes an amount from an account that has as much, and sends it on as a credit
abbrev pub moved_from : Value → List ℕ → ℕ → ℕ → List ℕ → Block → Effect
moved_from value name amount to other b = if nat_lt (balance_of b.bytes) amount then answered value (codes "short") else record {
  value = with_balance b.place name (balance_of b.bytes - amount) value;
  sends = record { to = to; bytes = credit_text other amount } ∷ [];
  outs = codes "ok" ∷ [];
}

abbrev pub moved : Value → List ℕ → ℕ → ℕ → List ℕ → Option Block → Effect
moved value name amount to other None = answered value (codes "none")
moved value name amount to other (Some b) = moved_from value name amount to other b

-- credit adds to an account, or makes it, or adds to the root where no gap fits
abbrev pub with_credit : Value → List ℕ → ℕ → Option Block → Option ℕ → Value
with_credit value name amount (Some b) gap = with_balance b.place name ((balance_of b.bytes + amount) % 2 ^ 64) value
with_credit value name amount None (Some place) = with_account place name amount value
with_credit value name amount None None = record value { root = (value.root + amount) % 2 ^ 64 }

-- an order to a node that isn't there and a credit from outside are refused
abbrev pub bank : ℕ → Value → Message → Option Order → Effect
bank nodes value message None = refused value
bank nodes value message (Some (Open name amount)) = opened value name amount (account_of name value.blocks) (first_gap value (length name + 9))
bank nodes value message (Some (Move name amount to other)) = if nat_lt to nodes then moved value name amount to other (account_of name value.blocks) else refused value
bank nodes value message (Some (Credit name amount)) = if message.from == OUTSIDE then refused value else answered (with_credit value name amount (account_of name value.blocks) (first_gap value (length name + 9))) (codes "got")
