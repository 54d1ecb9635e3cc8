-- The commands of kind kv, and what its handler makes of them. A pair is a block: a key, a space, and its text. A key is
-- some bytes without a space.
use Rattle.std.specs.Prelude.{ℕ, ◌+◌, List, [], ◌∷◌, length, take, drop, ◌==◌, nat_lt, if◌then◌else◌, bytes_eq, Bool, false, Option, Some, None, option_map, codes}
use Rattle.std.specs.List.{position}
use Rattle.ken_model.specs.declared.values.Block.{Block}
use Rattle.ken_model.specs.declared.values.Value.{Value}
use Rattle.ken_model.specs.Effects.{Effect, answered, refused}
use Rattle.ken_model.specs.Heap.{first_gap, with_block, without_block}

-- what stands before the first space and what stands after it, where there is a space
abbrev pub at_space : List ℕ → Option (List ℕ × List ℕ)
at_space bytes = option_map (λ i. (take i bytes, drop (i + 1) bytes)) (position (λ b. b == 32) bytes)

-- put has a key and the pair to be kept for it, get and delete have a key
pub data Command : Type 0 where
  Put : List ℕ → List ℕ → Command
  Get : List ℕ → Command
  Delete : List ℕ → Command

-- `put KEY TEXT`: the pair is all after the first space
abbrev pub put_of : List ℕ → Option (List ℕ × List ℕ) → Option Command
put_of pair None = None
put_of pair (Some parts) = if nat_lt 0 (length parts.0) then Some (Put parts.0 pair) else None

-- a key alone
abbrev pub key_of : List ℕ → Option (List ℕ × List ℕ) → Option (List ℕ)
key_of bytes None = if nat_lt 0 (length bytes) then Some bytes else None
key_of bytes (Some parts) = None

-- the command of a first word and the rest
abbrev pub command_in : Option (List ℕ × List ℕ) → Option Command
command_in None = None
command_in (Some parts) = if bytes_eq parts.0 (codes "put") then put_of parts.1 (at_space parts.1) else if bytes_eq parts.0 (codes "get") then option_map (λ k. Get k) (key_of parts.1 (at_space parts.1)) else if bytes_eq parts.0 (codes "del") then option_map (λ k. Delete k) (key_of parts.1 (at_space parts.1)) else None

-- the command that a payload is
abbrev pub command_of : List ℕ → Option Command
command_of payload = command_in (at_space payload)

-- a block is the pair of a key
abbrev pub is_key : List ℕ → Option (List ℕ × List ℕ) → Bool
is_key key None = false
is_key key (Some parts) = bytes_eq parts.0 key

-- the pair of a key
abbrev pub pair_of : List ℕ → List Block → Option Block
pair_of key [] = None
pair_of key (b ∷ bs) = if is_key key (at_space b.bytes) then Some b else pair_of key bs

-- the blocks without a pair that was found
abbrev pub without_pair : Option Block → List Block → List Block
without_pair None bs = bs
without_pair (Some b) bs = without_block b.place bs

-- a new pair goes into the first gap that it fits into, and only then the key's old pair goes
abbrev pub put_at : Value → List ℕ → Option Block → Option ℕ → Effect
put_at value pair old None = answered value (codes "full")
put_at value pair old (Some place) = answered (record value { blocks = without_pair old (with_block (record { place = place; bytes = pair }) value.blocks) }) (codes "ok")

abbrev pub get_from : Value → List ℕ → Option Block → Effect
get_from value key None = answered value (codes "none")
get_from value key (Some b) = answered value (drop (length key + 1) b.bytes)

abbrev pub delete_from : Value → Option Block → Effect
delete_from value None = answered value (codes "none")
delete_from value (Some b) = answered (record value { blocks = without_block b.place value.blocks }) (codes "ok")

abbrev pub kv : Value → Option Command → Effect
kv value None = refused value
kv value (Some (Put key pair)) = put_at value pair (pair_of key value.blocks) (first_gap value (length pair))
kv value (Some (Get key)) = get_from value key (pair_of key value.blocks)
kv value (Some (Delete key)) = delete_from value (pair_of key value.blocks)
