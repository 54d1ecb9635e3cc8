-- The handlers of the kinds: what each makes of a message and of what it draws.
use Rattle.std.specs.Prelude.{ℕ, ◌+◌, ◌-◌, ◌/◌, ◌%◌, ◌^◌, List, [], ◌∷◌, map, filter, ◌==◌, not, if◌then◌else◌, nat_lt, bytes_eq, Option, Some, None, codes, decimal}
use Rattle.std.specs.List.{range_with_len}
use Rattle.ken_model.specs.declared.kinds.Kind.{Kind}
use Rattle.ken_model.specs.declared.kinds.Kind.TheVariants.{Ring, Tally, Share, Mix, Kv, Bank}
use Rattle.ken_model.specs.declared.values.Value.{Value}
use Rattle.ken_model.specs.declared.messages.Message.{Message}
use Rattle.ken_model.specs.declared.messages.Send.{Send}
use Rattle.ken_model.specs.declared.messages.TheConstants.{OUTSIDE}
use Rattle.ken_num.specs.Numbers.{num}
use Rattle.ken_model.specs.Effects.{Effect, refused}
use Rattle.ken_model.specs.Handler.{Handler}
use Rattle.ken_model.specs.KeyValue.{kv, command_of}
use Rattle.ken_model.specs.Bank.{bank, order_of}

-- the kind of a name
abbrev pub kind_of : List ℕ → Option Kind
kind_of name = if bytes_eq name (codes "ring") then Some Ring else if bytes_eq name (codes "tally") then Some Tally else if bytes_eq name (codes "share") then Some Share else if bytes_eq name (codes "mix") then Some Mix else if bytes_eq name (codes "kv") then Some Kv else if bytes_eq name (codes "bank") then Some Bank else None

-- a handler that draws nothing isn't defined at any draws
abbrev pub without_draws : List ℕ → Effect → Option Effect
without_draws [] e = Some e
without_draws (_ ∷ _) e = None

-- ring takes a count: it adds 1 to the root, and sends what is left of the count on to the next node
abbrev pub ring_counts : ℕ → ℕ → Value → ℕ → Effect
ring_counts node nodes value n = record {
  value = record value { root = (value.root + 1) % 2 ^ 64 };
  sends = if nat_lt 0 n then record { to = (node + 1) % nodes; bytes = decimal (n - 1) } ∷ [] else [];
  outs = decimal n ∷ [];
}

abbrev pub ring : ℕ → ℕ → Value → Option ℕ → Effect
ring node nodes value None = refused value
ring node nodes value (Some n) = ring_counts node nodes value n

-- a text for each node but one, rising
abbrev pub to_others : ℕ → ℕ → List ℕ → List Send
to_others node nodes bytes = map (λ v. record { to = v; bytes = bytes }) (filter (λ v. not (v == node)) (range_with_len 0 nodes))

-- tally takes a number: it adds it to the root, and one from outside goes on to all other nodes as it came
abbrev pub tally_counts : ℕ → ℕ → Value → Message → ℕ → Effect
tally_counts node nodes value message n = record {
  value = record value { root = (value.root + n) % 2 ^ 64 };
  sends = if message.from == OUTSIDE then to_others node nodes message.bytes else [];
  outs = decimal ((value.root + n) % 2 ^ 64) ∷ [];
}

abbrev pub tally : ℕ → ℕ → Value → Message → Option ℕ → Effect
tally node nodes value message None = refused value
tally node nodes value message (Some n) = tally_counts node nodes value message n

-- share takes a number: the smaller half goes on to the next node, if it isn't 0, and the rest is added to the root
abbrev pub share_counts : ℕ → ℕ → Value → ℕ → Effect
share_counts node nodes value n = record {
  value = record value { root = (value.root + (n - n / 2)) % 2 ^ 64 };
  sends = if nat_lt 0 (n / 2) then record { to = (node + 1) % nodes; bytes = decimal (n / 2) } ∷ [] else [];
  outs = decimal n ∷ [];
}

abbrev pub share : ℕ → ℕ → Value → Option ℕ → Effect
share node nodes value None = refused value
share node nodes value (Some n) = share_counts node nodes value n

-- mix takes a count too: the root becomes a reading of the clock, and what is left of the count goes on to a node that a
-- random word picks
abbrev pub mix_counts : ℕ → Value → ℕ → ℕ → ℕ → Effect
mix_counts nodes value n clock word = record {
  value = record value { root = clock };
  sends = if nat_lt 0 n then record { to = word % nodes; bytes = decimal (n - 1) } ∷ [] else [];
  outs = decimal (word % 1000) ∷ [];
}

-- it draws a reading of the clock and then a word, and nothing for a payload that it doesn't know
abbrev pub mix : ℕ → Value → Option ℕ → List ℕ → Option Effect
mix nodes value None draws = without_draws draws (refused value)
mix nodes value (Some n) (clock ∷ word ∷ []) = Some (mix_counts nodes value n clock word)
mix nodes value (Some n) _ = None

-- what a kind makes of a message: nothing where the number of draws isn't the kind's
unfoldable pub after : Kind → ℕ → ℕ → Value → Message → List ℕ → Option Effect
after Ring node nodes value message draws = without_draws draws (ring node nodes value (num message.bytes))
after Tally node nodes value message draws = without_draws draws (tally node nodes value message (num message.bytes))
after Share node nodes value message draws = without_draws draws (share node nodes value (num message.bytes))
after Mix node nodes value message draws = mix nodes value (num message.bytes) draws
after Kv node nodes value message draws = without_draws draws (kv value (command_of message.bytes))
after Bank node nodes value message draws = without_draws draws (bank nodes value message (order_of message.bytes))

-- which of a kind's draws are readings of the clock
abbrev pub clocks_in : Kind → List ℕ → List ℕ
clocks_in Mix (clock ∷ word ∷ []) = clock ∷ []
clocks_in kind draws = []

-- and which are random words
abbrev pub words_in : Kind → List ℕ → List ℕ
words_in Mix (clock ∷ word ∷ []) = word ∷ []
words_in kind draws = []

-- the handler of a kind
abbrev pub handler_of : Kind → Handler
handler_of kind = record { after = after kind; clocks = clocks_in kind; words = words_in kind }
