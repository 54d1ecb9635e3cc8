-- The turns of each node by itself. Nothing here says in which order turns of different nodes were made.
use Rattle.std.specs.Prelude.{◌≡◌, ℕ, ◌+◌, ◌<◌, ◌≤◌, List, [], ◌∷◌, ◌++◌, map, length, ◌==◌, if◌then◌else◌, Some, filter}
use Rattle.ken_model.specs.declared.messages.Message.{Message}
use Rattle.ken_model.specs.declared.messages.Step.{Step}
use Rattle.ken_model.specs.declared.reports.TurnLine.{TurnLine}
use Rattle.ken_model.specs.Game.{Game}
use Rattle.ken_model.specs.Network.{Place, Network, Turn, outside, first_place, inputs_for, numbered, turn_at, place_after}
use Rattle.ken_model.specs.Schedule.{ComesBefore, turn_line}

-- each turn is the node's turn at its message and draws, after the turns before it, and there are at most `g.turns`
unfoldable pub AreTurns : Game → ℕ → Place → List Turn → Type 0
AreTurns g v p [] = Unit {0}
AreTurns g v p (t ∷ ts) = (p.turns < g.turns) × (turn_at g v p t.draws t.message ≡ Some t) × AreTurns g v (place_after p t) ts

-- the node after turns
abbrev pub places : Place → List Turn → Place
places p [] = p
places p (t ∷ ts) = places (place_after p t) ts

abbrev pub place_of : Game → List Turn → Place
place_of g ts = places (first_place g) ts

-- the messages that turns took from u, in order
abbrev pub consumed : ℕ → List Turn → List Message
consumed u ts = filter (λ (m : Message). m.from == u) (map (λ (t : Turn). t.message) ts)

-- the messages that turns of u sent to v, numbered on from n
unfoldable pub sent_by : ℕ → ℕ → ℕ → List Turn → List Message
sent_by u v n [] = []
sent_by u v n (t ∷ ts) = numbered u v n t.stamp t.effect.sends ++ sent_by u v (n + length (numbered u v n t.stamp t.effect.sends)) ts

-- all messages of the link (u, v): inputs, or what the turns of u sent
unfoldable pub messages : Game → (ℕ → List Turn) → ℕ → ℕ → List Message
messages g h u v = if u == outside then inputs_for g v else sent_by u v 0 (h u)

-- a list is the front of another
abbrev pub IsPrefixOf : {A : Type 0} → List A → List A → Type 0
IsPrefixOf {A} xs whole = (rest : List A) × (whole ≡ xs ++ rest)

-- the nodes' turns agree: each node's are its own, from each sender it took the front of what was sent, in order, and only nodes
-- of the game have any; the outside is none of them
pub record InAccord (g : Game) (h : ℕ → List Turn) : Type 0 where
  pub turns : (v : ℕ) → AreTurns g v (first_place g) (h v)
  pub few : g.nodes ≤ outside
  pub nobody : (v : ℕ) → g.nodes ≤ v → h v ≡ []
  pub order : (u v : ℕ) → IsPrefixOf (consumed u (h v)) (messages g h u v)

-- a turn of node v, as a step of a schedule
abbrev pub step_at : ℕ → Turn → Step
step_at v t = record { node = v; from = t.message.from; draws = t.draws }

-- and as a line of the report
abbrev pub line_at : ℕ → Turn → TurnLine
line_at v t = turn_line (step_at v t) t

-- the lines of node v
abbrev pub lines_by : ℕ → List TurnLine → List TurnLine
lines_by v lines = filter (λ (l : TurnLine). l.step.node == v) lines

-- the pairs (stamp, node) rise strictly
unfoldable pub Rises : ℕ → ℕ → List TurnLine → Type 0
Rises stamp node [] = Unit {0}
Rises stamp node (l ∷ ls) = ComesBefore stamp node l.stamp l.step.node × Rises l.stamp l.step.node ls

-- the lines are all nodes' turns, in the order of (stamp, node)
pub record IsHistory (h : ℕ → List Turn) (lines : List TurnLine) : Type 0 where
  pub parts : (v : ℕ) → lines_by v lines ≡ map (line_at v) (h v)
  pub rises : Rises 0 0 lines

-- the network shows what the nodes' turns show
pub record Shows (g : Game) (h : ℕ → List Turn) (w : Network) : Type 0 where
  pub place : (v : ℕ) → w.place v ≡ place_of g (h v)
  pub sent : (u v : ℕ) → (w.link u v).sent ≡ messages g h u v
  pub taken : (u v : ℕ) → (w.link u v).taken ≡ length (consumed u (h v))
