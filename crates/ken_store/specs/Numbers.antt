-- The numbers that a node's records come to, and which record may follow them.
use Rattle.std.specs.Prelude.{ℕ, ◌+◌, ◌==◌, ◌&&◌, ◌||◌, nat_lt, if◌then◌else◌, List, [], ◌∷◌, length, replicate, slice_index_or, slice_set, Bool, true, Result, Ok, Err}
use Rattle.std.specs.List.{list_all}
use Rattle.ken_model.specs.declared.messages.Out.{Out}
use Rattle.ken_record.specs.declared.sent.Sent.{Sent}
use Rattle.ken_record.specs.declared.page.Page.{Page}
use Rattle.ken_record.specs.declared.record.Record.{Record}
use Rattle.ken_record.specs.Versions.{One}
use Rattle.ken_record.specs.Spelling.{record_bytes}
use Rattle.ken_store.specs.declared.owner.Owner.{Owner}
use Rattle.ken_store.specs.declared.numbers.Numbers.{Numbers}

-- of a node that made no turn
abbrev pub no_numbers : Numbers
no_numbers = record { turns = 0; stamp = 0; consumed = replicate 9 0; sent = replicate 8 0; outputs = 0 }

-- where a sender stands among those that are counted: the nodes 0 to 7, and then the outside
abbrev pub sender_index : ℕ → ℕ
sender_index from = if from == 255 then 8 else from

-- sends go to nodes of the run, and go on with the numbers of their links
abbrev pub sends_follow : ℕ → List ℕ → List Sent → Bool
sends_follow nodes sent [] = true
sends_follow nodes sent (s ∷ ss) = nat_lt s.to nodes && (s.number == slice_index_or sent s.to 0 + 1) && sends_follow nodes (slice_set sent s.to s.number) ss

abbrev pub sent_after : List ℕ → List Sent → List ℕ
sent_after sent [] = sent
sent_after sent (s ∷ ss) = sent_after (slice_set sent s.to s.number) ss

-- outputs go on with their numbers
abbrev pub outs_follow : ℕ → List Out → Bool
outs_follow last [] = true
outs_follow last (o ∷ os) = (o.number == last + 1) && outs_follow o.number os

abbrev pub outputs_after : ℕ → List Out → ℕ
outputs_after last [] = last
outputs_after last (o ∷ os) = outputs_after o.number os

-- pages of a heap of so many
abbrev pub are_within : ℕ → List Page → Bool
are_within pages es = list_all (λ (e : Page). nat_lt e.page pages) es

-- the turn is the next one, its stamp is greater, and its message is the next one of a sender of the run
abbrev pub comes_next : Owner → Numbers → Record → Bool
comes_next o n r =
    (r.turn == n.turns + 1) && nat_lt n.stamp r.stamp && (nat_lt r.from o.nodes || r.from == 255) && (r.number == slice_index_or n.consumed (sender_index r.from) 0 + 1)

-- a record that a recovery doesn't refuse after these numbers
abbrev pub follows : Owner → Numbers → Record → Bool
follows o n r = comes_next o n r && sends_follow o.nodes n.sent r.sends && outs_follow n.outputs r.outs && are_within o.pages r.pages

abbrev pub after_record : Numbers → Record → Numbers
after_record n r = record {
  turns = r.turn;
  stamp = r.stamp;
  consumed = slice_set n.consumed (sender_index r.from) r.number;
  sent = sent_after n.sent r.sends;
  outputs = outputs_after n.outputs r.outs;
}

-- the gate's place behind records, the first of which has its gate at a place
abbrev pub place_after : ℕ → List Record → ℕ
place_after place [] = place
place_after place (r ∷ rs) = place_after (place + (1 + length (record_bytes One r))) rs

-- the numbers after records, the first at a gate's place, oldest first; or the place of the first that is refused
abbrev pub after_records : Owner → ℕ → Numbers → List Record → Result Numbers ℕ
after_records o place n [] = Ok n
after_records o place n (r ∷ rs) = if follows o n r then after_records o (place + (1 + length (record_bytes One r))) (after_record n r) rs else Err place
