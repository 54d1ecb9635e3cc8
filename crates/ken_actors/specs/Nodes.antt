-- A node as a program holds it, and its turn.
use Rattle.std.specs.Prelude.{◌≡◌, ℕ, ◌+◌, List, [], ◌++◌, length, map, replicate, ◌==◌, if◌then◌else◌}
use Rattle.ken_model.specs.declared.messages.Message.{Message}
use Rattle.ken_model.specs.declared.messages.Send.{Send}
use Rattle.ken_model.specs.declared.values.Value.{Value}
use Rattle.ken_model.specs.declared.facts.Facts.{Facts}
use Rattle.ken_actors.specs.declared.node.Node.{Node}
use Rattle.ken_actors.specs.declared.node.Made.{Made}
use Rattle.ken_model.specs.Network.{numbered, outputs_from}
use Rattle.ken_model.specs.Posted.{posted_after}
use Rattle.ken_actors.specs.Held.{Held, HeldRun, sent_to, taken_from}

abbrev pub held_of : Node → Held
held_of n = record {
  stamp = n.stamp;
  turns = n.turns;
  outs = n.outs.items;
  sent = map (λ v. v.items) n.sent.items;
  taken = n.taken.items;
  inputs = n.inputs.items;
  inputs_taken = n.inputs_taken;
}

-- the run that heaps and nodes hold
abbrev pub held_run : {P : Type 0} → P → Facts → List Value → List Node → HeldRun P
held_run player f values ns = record { player = player; facts = f; values = values; nodes = map held_of ns }

-- a node of `nodes` that has made no turn, with its inputs
abbrev pub new_node : ℕ → List Message → Held
new_node nodes inputs = record { stamp = 0; turns = 0; outs = []; sent = replicate nodes []; taken = replicate nodes 0; inputs = inputs; inputs_taken = 0 }

-- a node that has made no turn has its inputs so far, and `left` to come, which are `all` in order
pub record IsGiven (nodes : ℕ) (h : Held) (left all : List Message) : Type 0 where
  pub fresh : h ≡ new_node nodes h.inputs
  pub inputs : h.inputs ++ left ≡ all

-- node v made a turn with that stamp: its sends and outputs come after those before
pub record IsMade (v from stamp : ℕ) (sends : List Send) (outs : List (List ℕ)) (old new : Held) (made : Made) : Type 0 where
  pub stamped : new.stamp ≡ stamp
  pub turns : new.turns ≡ old.turns + 1
  pub told : new.outs ≡ old.outs ++ outs
  pub sent : (w : ℕ) → sent_to new w ≡ sent_to old w ++ numbered v w (length (sent_to old w)) stamp sends
  pub taken : (u : ℕ) → taken_from new u ≡ (if u == from then taken_from old u + 1 else taken_from old u)
  pub inputs : new.inputs ≡ old.inputs
  pub widths : (length new.sent ≡ length old.sent) × (length new.taken ≡ length old.taken)
  pub done_sends : made.sends.items ≡ posted_after v stamp (λ w. length (sent_to old w)) sends
  pub done_outs : made.outs.items ≡ outputs_from (length old.outs) outs
