-- How what is known of nodes moves.
use Rattle.std.specs.Prelude.{◌≡◌, ℕ, ◌+◌, ◌<◌, ◌≤◌, ◌^◌, ◌==◌, if◌then◌else◌, List, [], ◌++◌, length, count_by, get_or}
use Rattle.ken_model.specs.declared.facts.Facts.{Facts}
use Rattle.ken_model.specs.declared.facts.Input.{Input}
use Rattle.ken_model.specs.declared.messages.Done.{Done}
use Rattle.ken_model.specs.declared.messages.Message.{Message}
use Rattle.ken_check.specs.declared.known.Known.{Known}

-- a node of which no line told, and for which so many inputs came
pub record IsFresh (count : ℕ) (k : Known) : Type 0 where
  pub outs : k.outs.items ≡ []
  pub turns : k.turns ≡ 0
  pub came : k.came ≡ count
  pub emitted : k.emitted ≡ 0
  pub restarts : k.restarts ≡ 0
  pub recovered : k.recovered ≡ 0

-- so many such nodes, by how many inputs came for each
pub record AreFresh (count : ℕ) (came : ℕ → ℕ) (ks : List Known) : Type 0 where
  pub width : length ks ≡ count
  pub each : (v : ℕ) → v < count → (none : Known) → IsFresh (came v) (get_or ks v none)

-- those of a run before its first turn
abbrev pub AreFirst : Facts → List Known → Type 0
AreFirst f ks = AreFresh f.nodes (λ v. count_by (λ (i : Input). i.node == v) f.inputs) ks

-- so many more may come for each node: the counts have 64 bits
abbrev pub HaveRoom : ℕ → List Known → Type 0
HaveRoom more ks = (v : ℕ) → v < length ks → (none : Known) → (get_or ks v none).came + more < 2 ^ 64

-- and each may make a turn more
abbrev pub MayTurn : List Known → Type 0
MayTurn ks = (v : ℕ) → v < length ks → (none : Known) → (get_or ks v none).turns + 1 < 2 ^ 64

-- so many more came for each node, and nothing else changed
pub record Counted (more : ℕ → ℕ) (old new : List Known) : Type 0 where
  pub width : length new ≡ length old
  pub each : (v : ℕ) → v < length old → (none : Known) → get_or new v none ≡ record (get_or old v none) { came = (get_or old v none).came + more v }

-- what a turn of a node did is known of node v
pub record HasTurned (node : ℕ) (done : Done) (v : ℕ) (old new : Known) : Type 0 where
  pub outs : new.outs.items ≡ (if node == v then old.outs.items ++ done.outs else old.outs.items)
  pub turns : new.turns ≡ (if node == v then old.turns + 1 else old.turns)
  pub came : new.came ≡ old.came + count_by (λ (m : Message). m.to == v) done.sends
  pub emitted : new.emitted ≡ old.emitted
  pub restarts : new.restarts ≡ old.restarts
  pub recovered : new.recovered ≡ old.recovered

-- and of all nodes
pub record HaveTurned (node : ℕ) (done : Done) (old new : List Known) : Type 0 where
  pub width : length new ≡ length old
  pub each : (v : ℕ) → v < length old → (none : Known) → HasTurned node done v (get_or old v none) (get_or new v none)

-- a node that may be restarted so often may be restarted once more, and go on with so many turns
pub record IsAllowed (most turns : ℕ) (k : Known) : Type 0 where
  pub few : k.restarts < most
  pub from : k.recovered ≤ turns
  pub to : turns ≤ k.turns
