-- Leases of names, each at the node that keeps the name. A lease is a block: its name, a space, its holder, and from when and
-- until when it is held, in 8 bytes each, the highest first.
use Rattle.std.specs.Prelude.{ℕ, ◌+◌, ◌%◌, ◌^◌, max, ◌++◌, List, [], ◌∷◌, length, drop, slice_index, Bool, false, ◌==◌, ◌&&◌, ◌||◌, nat_lt, nat_le, if◌then◌else◌, bytes_eq, Option, Some, None, option_map, option_and_then, codes, decimal}
use Rattle.byteorder.specs.Endian.{big_number, big_bytes}
use Rattle.ken_model.specs.declared.messages.Message.{Message}
use Rattle.ken_model.specs.declared.messages.TheConstants.{OUTSIDE}
use Rattle.ken_model.specs.declared.values.Block.{Block}
use Rattle.ken_model.specs.declared.values.Value.{Value}
use Rattle.ken_model.specs.Bank.{name_of, named_amount, of_length}
use Rattle.ken_model.specs.Effects.{Effect, answered, refused}
use Rattle.ken_model.specs.Handler.{Handler}
use Rattle.ken_model.specs.Heap.{first_gap, with_block}
use Rattle.ken_model.specs.KeyValue.{at_space, is_key, pair_of}
use Rattle.ken_model.specs.Kinds.{without_draws}
use Rattle.ken_leases.specs.declared.commands.Action.{Action}
use Rattle.ken_leases.specs.declared.commands.Action.TheVariants.{Acquire, Renew, Release}
use Rattle.ken_leases.specs.declared.blocks.Lease.{Lease}

-- ---- what is asked

-- `NAME TERM`, where the term isn't 0
abbrev pub named_term : List ℕ → Option (List ℕ × ℕ)
named_term text = option_and_then (λ p. if nat_lt 0 p.1 then Some p else None) (named_amount text)

-- `acquire NAME TERM`, `renew NAME TERM`, `release NAME`
abbrev pub command_in : Option (List ℕ × List ℕ) → Option (List ℕ × Action)
command_in None = None
command_in (Some parts) = if bytes_eq parts.0 (codes "acquire") then option_map (λ p. (p.0, Acquire p.1)) (named_term parts.1) else if bytes_eq parts.0 (codes "renew") then option_map (λ p. (p.0, Renew p.1)) (named_term parts.1) else if bytes_eq parts.0 (codes "release") then option_map (λ name. (name, Release)) (name_of parts.1) else None

abbrev pub command_of : List ℕ → Option (List ℕ × Action)
command_of text = command_in (at_space text)

-- the node that keeps a name
abbrev pub keeper_of : ℕ → List ℕ → ℕ
keeper_of nodes name = slice_index name 0 % nodes

-- ---- the lease of a name

-- the bytes of a lease
abbrev pub lease_bytes : List ℕ → Lease → List ℕ
lease_bytes name lease = name ++ 32 ∷ lease.holder ∷ (big_bytes 8 lease.from ++ big_bytes 8 lease.until)

-- the lease in what stands after the name and the space
abbrev pub lease_in : List ℕ → Lease
lease_in fields = record { holder = slice_index fields 0; from = big_number 8 (drop 1 fields); until = big_number 8 (drop 9 fields) }

-- the lease of a name: in the pair of that key, if it is as long as a lease
abbrev pub lease_of : List ℕ → List Block → Option Lease
lease_of name blocks = option_map (λ (b : Block). lease_in (drop (length name + 1) b.bytes)) (of_length (length name + 18) (pair_of name blocks))

-- the blocks with other bytes in the pair of a name
abbrev pub rewritten_pair : List ℕ → List ℕ → List Block → List Block
rewritten_pair name bytes [] = []
rewritten_pair name bytes (b ∷ bs) = if is_key name (at_space b.bytes) then record b { bytes = bytes } ∷ bs else b ∷ rewritten_pair name bytes bs

-- another lease of a name that has one
abbrev pub with_lease : List ℕ → Lease → Value → Value
with_lease name lease value = record value { blocks = rewritten_pair name (lease_bytes name lease) value.blocks }

-- the first lease of a name
abbrev pub with_first : ℕ → List ℕ → Lease → Value → Value
with_first place name lease value = record value { blocks = with_block (record { place = place; bytes = lease_bytes name lease }) value.blocks }

-- a node holds a lease at a reading of the clock
abbrev pub is_held : ℕ → ℕ → Lease → Bool
is_held node reading lease = lease.holder == node && (nat_le lease.from reading && nat_lt reading lease.until)

-- ---- what is answered

abbrev pub granted : List ℕ → Lease → List ℕ
granted name lease = codes "granted " ++ name ++ 32 ∷ (decimal lease.from ++ 32 ∷ decimal lease.until)

abbrev pub held : List ℕ → ℕ → List ℕ
held name until = codes "held " ++ name ++ 32 ∷ decimal until

abbrev pub lost : List ℕ → List ℕ
lost name = codes "lost " ++ name

abbrev pub released : List ℕ → List ℕ
released name = codes "released " ++ name

abbrev pub full : List ℕ → List ℕ
full name = codes "full " ++ name

-- a text is one of these by its first word
abbrev pub is_answer : Option (List ℕ × List ℕ) → Bool
is_answer None = false
is_answer (Some parts) = bytes_eq parts.0 (codes "granted") || bytes_eq parts.0 (codes "held") || bytes_eq parts.0 (codes "lost") || bytes_eq parts.0 (codes "released") || bytes_eq parts.0 (codes "full")

-- ---- what the keeper decides: the heap's new value and its answer

-- the first lease goes into the first gap that it fits into
abbrev pub opened : Value → List ℕ → Lease → Option ℕ → Value × List ℕ
opened value name lease None = (value, full name)
opened value name lease (Some place) = (with_first place name lease value, granted name lease)

-- a later one is written over the one before
abbrev pub replaced : Value → List ℕ → Lease → Value × List ℕ
replaced value name lease = (with_lease name lease value, granted name lease)

-- a lease is granted where there is none, or from the end of the one before on, if 64 bits hold its own end
abbrev pub acquired : Value → List ℕ → Lease → Option Lease → Value × List ℕ
acquired value name lease None = if nat_lt lease.until (2 ^ 64) then opened value name lease (first_gap value (length name + 18)) else (value, full name)
acquired value name lease (Some old) = if nat_lt lease.from old.until then (value, held name old.until) else if nat_lt lease.until (2 ^ 64) then replaced value name lease else (value, full name)

-- a lease until a time, if it doesn't end later
abbrev pub prolonged : Value → List ℕ → Lease → ℕ → Value × List ℕ
prolonged value name old end = replaced value name (record old { until = max old.until end })

-- its holder has it for a term from now on, if 64 bits hold its end
abbrev pub renewed : Value → List ℕ → ℕ → ℕ → ℕ → Option Lease → Value × List ℕ
renewed value name node reading term None = (value, lost name)
renewed value name node reading term (Some old) = if is_held node reading old then (if nat_lt (reading + term) (2 ^ 64) then prolonged value name old (reading + term) else (value, full name)) else (value, lost name)

-- its holder gives it back now
abbrev pub given_back : Value → List ℕ → ℕ → ℕ → Option Lease → Value × List ℕ
given_back value name node reading None = (value, lost name)
given_back value name node reading (Some old) = if is_held node reading old then (with_lease name (record old { until = reading }) value, released name) else (value, lost name)

abbrev pub decided : Value → ℕ → ℕ → List ℕ → Action → Value × List ℕ
decided value node reading name (Acquire term) = acquired value name (record { holder = node; from = reading; until = reading + term }) (lease_of name value.blocks)
decided value node reading name (Renew term) = renewed value name node reading term (lease_of name value.blocks)
decided value node reading name Release = given_back value name node reading (lease_of name value.blocks)

-- ---- a turn

-- a text to a node
abbrev pub sent : Value → ℕ → List ℕ → Effect
sent value to text = record { value = value; sends = record { to = to; bytes = text } ∷ []; outs = [] }

-- what is asked from outside goes to the name's keeper
abbrev pub asked : ℕ → Value → List ℕ → Option (List ℕ × Action) → Effect
asked nodes value text None = refused value
asked nodes value text (Some command) = sent value (keeper_of nodes command.0) text

-- the keeper draws a reading of the clock, and answers the node that asks; an answer is output as it is
abbrev pub taken : Value → ℕ → List ℕ → Option (List ℕ × Action) → List ℕ → Option Effect
taken value node text None draws = without_draws draws (if is_answer (at_space text) then answered value text else refused value)
taken value node text (Some command) (reading ∷ []) = let decision = decided value node reading command.0 command.1 in Some (sent decision.0 node decision.1)
taken value node text (Some command) _ = None

unfoldable pub leases_after : ℕ → ℕ → Value → Message → List ℕ → Option Effect
leases_after node nodes value message draws = if message.from == OUTSIDE then without_draws draws (asked nodes value message.bytes (command_of message.bytes)) else taken value message.from message.bytes (command_of message.bytes) draws

abbrev pub clocks_in : List ℕ → List ℕ
clocks_in draws = draws

abbrev pub words_in : List ℕ → List ℕ
words_in draws = []

-- the handler of leases
abbrev pub leases : Handler
leases = record { after = leases_after; clocks = clocks_in; words = words_in }
