-- Which base a recovery doesn't refuse, and the numbers that it tells.
use Rattle.std.specs.Prelude.{ℕ, ◌+◌, ◌-◌, ◌*◌, ◌==◌, ◌&&◌, ◌||◌, nat_lt, nat_le, List, [], ◌∷◌, length, take, drop, replicate, sum, slice_index_or, slice_set, Bool, true}
use Rattle.std.specs.List.{list_all, zip}
use Rattle.ken_model.specs.declared.messages.Out.{Out}
use Rattle.ken_record.specs.declared.due.Due.{Due}
use Rattle.ken_record.specs.declared.header.Header.{Header}
use Rattle.ken_record.specs.declared.base.Base.{Base}
use Rattle.ken_store.specs.declared.owner.Owner.{Owner}
use Rattle.ken_store.specs.declared.numbers.Numbers.{Numbers}
use Rattle.ken_store.specs.Numbers.{outs_follow, outputs_after, are_within}

abbrev pub base_numbers : Header → Base → Numbers
base_numbers head b = record { turns = head.turns; stamp = b.stamp; consumed = b.consumed; sent = b.sent; outputs = b.outputs }

-- the entries of nodes that aren't of the run are 0; there are eight nodes
abbrev pub are_unused : ℕ → List ℕ → Bool
are_unused nodes counts = list_all (λ n. n == 0) (take (8 - nodes) (drop nodes counts))

-- a number goes on from the last one of its link by one, or is a first one; 0 stands for none
abbrev pub goes_on : ℕ → ℕ → Bool
goes_on last number = nat_lt 0 number && (last == 0 || number == last + 1)

-- each message goes to a node of the run, has a stamp from 1 to the base's, and goes on with the numbers of its link. The last
-- numbers of the links stand in a list
abbrev pub messages_follow : ℕ → ℕ → List ℕ → List Due → Bool
messages_follow nodes stamp last [] = true
messages_follow nodes stamp last (m ∷ ms) =
    nat_lt m.to nodes && nat_lt 0 m.stamp && nat_le m.stamp stamp && goes_on (slice_index_or last m.to 0) m.number && messages_follow nodes stamp (slice_set last m.to m.number) ms

abbrev pub last_after : List ℕ → List Due → List ℕ
last_after last [] = last
last_after last (m ∷ ms) = last_after (slice_set last m.to m.number) ms

-- the last message of each link that has one is the last that was sent
abbrev pub reach : List ℕ → List ℕ → Bool
reach last sent = list_all (λ p. p.0 == 0 || p.0 == p.1) (zip last sent)

abbrev pub messages_stand : ℕ → Base → Bool
messages_stand nodes b = messages_follow nodes b.stamp (replicate 8 0) b.messages && reach (last_after (replicate 8 0) b.messages) b.sent

-- the outputs go up by one, from 1 at least, to the last
abbrev pub outs_stand : ℕ → List Out → Bool
outs_stand outputs [] = true
outs_stand outputs (o ∷ os) = nat_lt 0 o.number && (outs_follow o.number os && (outputs_after o.number os == outputs))

-- a turn sends and outputs at most 16 times
abbrev pub counts_stand : Owner → Header → Base → Bool
counts_stand o head b = are_unused o.nodes b.consumed && are_unused o.nodes b.sent && nat_le b.outputs (16 * head.turns) && nat_le (sum b.sent) (16 * head.turns)

-- no message and no output has more than 512 bytes
abbrev pub is_short_due : Due → Bool
is_short_due m = nat_le (length m.bytes) 512

abbrev pub is_short_out : Out → Bool
is_short_out o = nat_le (length o.text) 512

abbrev pub texts_stand : Base → Bool
texts_stand b = list_all is_short_due b.messages && list_all is_short_out b.outs

-- a base that a recovery doesn't refuse
abbrev pub base_stands : Owner → Header → Base → Bool
base_stands o head b = counts_stand o head b && are_within o.pages b.pages && messages_stand o.nodes b && outs_stand b.outputs b.outs && texts_stand b
