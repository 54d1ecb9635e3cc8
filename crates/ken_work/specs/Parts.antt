-- What a node's workers are made of: workers of these over a store, and these of workers that are taken apart.
use Rattle.std.specs.Prelude.{◌≡◌, ℕ, ◌-◌, nat_lt, if◌then◌else◌, List, ◌∷◌, [], ◌++◌, length, map, drop, replicate, Option, Some, None, Result, Ok, Err, vec_capacity, vec_len}
use Rattle.ken_model.specs.declared.states.State.{State}
use Rattle.ken_record.specs.declared.effects.Effects.{Effects}
use Rattle.ken_record.specs.declared.record.Record.{Record}
use Rattle.ken_order.specs.Consumed.{Consumed}
use Rattle.ken_outbox.specs.Waiting.{resumed}
use Rattle.ken_store.specs.declared.store.Store.{Store}
use Rattle.ken_ship.specs.declared.items.Progress.{Progress}
use Rattle.ken_ship.specs.declared.worker.SendWorker.{SendWorker}
use Rattle.ken_ship.specs.Parts.{part_of}
use Rattle.ken_work.specs.declared.items.Feedback.{Feedback}
use Rattle.ken_work.specs.declared.parts.Parts.{Parts}
use Rattle.ken_work.specs.declared.patcher.PatchWorker.{PatchWorker}
use Rattle.ken_work.specs.declared.worker.TurnWorker.{TurnWorker}

-- a handler that was told of nothing
abbrev pub nothing_told : Feedback
nothing_told = let none : Progress = record { acked = replicate 8 0; emitted = 0 } in record { settled = 0; progress = none }

-- the workers that are made of these parts, over a store, which judge mail by this order
pub record AreOver {D : Type 0} (x : Parts) (store : Store D) (o : Consumed) (t : TurnWorker D) (p : PatchWorker D) (s : SendWorker) : Type 0 where
  pub node : t.node ≡ x.node
  pub nodes : t.nodes ≡ x.nodes
  pub cap : t.cap ≡ x.cap
  pub inputs : t.inputs.items ≡ x.inputs.items
  pub side : t.side ≡ store.turns
  pub order : t.order ≡ o
  pub turns : t.turns.items ≡ x.turns.items
  pub told : t.told ≡ nothing_told
  pub rings : (t.pages ≡ x.pages.0) × (t.sealed ≡ x.sealed) × (t.settled ≡ x.settled.1) × (t.progress ≡ x.progress)
  pub patches : p ≡ record { side = store.patches; pages = x.pages.1; settled = x.settled.0 }
  pub sends : s ≡ x.sends

-- a handler, a patcher and an externaliser are made of these, and of a store
pub record ArePartsOf {D : Type 0} (t : TurnWorker D) (p : PatchWorker D) (s : SendWorker) (x : Parts) : Type 0 where
  pub node : x.node ≡ t.node
  pub nodes : x.nodes ≡ t.nodes
  pub size : x.size ≡ t.side.owner.pages
  pub cap : x.cap ≡ t.cap
  pub inputs : x.inputs.items ≡ t.inputs.items
  pub turns : x.turns.items ≡ t.turns.items
  pub news : (vec_capacity x.news ≡ vec_capacity t.news) × (vec_len x.news ≡ vec_len t.news)
  pub pages : x.pages ≡ (t.pages, p.pages)
  pub settled : x.settled ≡ (p.settled, t.settled)
  pub sealed : x.sealed ≡ t.sealed
  pub progress : x.progress ≡ t.progress
  pub sends : x.sends ≡ s

-- what a node keeps of the turn of a record
abbrev pub effects_in : Record → Effects
effects_in r = record { from = r.from; number = r.number; stamp = r.stamp; draws = r.draws; sends = r.sends; outs = r.outs }

-- the turns of a node that goes on from a recovered state: those that it keeps, and the one of the last record where that was in
-- doubt and landed
abbrev pub kept_turns : List Effects → ℕ → List Record → List Effects
kept_turns turns count records = if nat_lt (length turns) count then turns ++ map effects_in (drop (length records - 1) records) else turns

-- with one turn more, where there is one
abbrev pub with_turn : List Effects → Option Effects → List Effects
with_turn turns (Some e) = turns ++ e ∷ []
with_turn turns None = turns

-- only the turns and what waits at the externaliser may have changed
pub record IsSameParts (old new : Parts) : Type 0 where
  pub rest : new ≡ record old { turns = new.turns; sends = new.sends }
  pub sender : new.sends.backlog.node ≡ old.sends.backlog.node
  pub receivers : new.sends.nodes ≡ old.sends.nodes
  pub sealed : new.sends.sealed ≡ old.sends.sealed
  pub told : new.sends.told ≡ old.sends.told
  pub emissions : (part_of new.sends).emissions ≡ (part_of old.sends).emissions

-- neither did, though there may be more room
pub record AreUnchanged (old new : Parts) : Type 0 where
  pub same : IsSameParts old new
  pub turns : new.turns.items ≡ old.turns.items
  pub part : part_of new.sends ≡ part_of old.sends

-- how often the output that is due was refused, before and after what may go on from a state: the count begins anew, and after an error
-- it is as it was
abbrev pub CountsAnew : {T E : Type 0} → Result T E → ℕ → ℕ → Type 0
CountsAnew (Ok x) old new = new ≡ 0
CountsAnew (Err fault) old new = new ≡ old

-- they are what a state and the records of its log tell
pub record HaveResumed (state : State) (records : List Record) (old new : Parts) : Type 0 where
  pub turns : new.turns.items ≡ kept_turns old.turns.items state.turns records
  pub due : (part_of new.sends).due ≡ resumed 8 state
  pub handed : (part_of new.sends).handed ≡ state.turns
