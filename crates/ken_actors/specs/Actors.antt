-- A step of a run that is played plainly, and why none was made.
use Rattle.std.specs.Prelude.{◌≡◌, ℕ, ◌<◌, ◌≤◌, length, Some, None}
use Rattle.ken_model.specs.declared.messages.Message.{Message}
use Rattle.ken_model.specs.declared.messages.Step.{Step}
use Rattle.ken_model.specs.declared.messages.Done.{Done}
use Rattle.ken_model.specs.Network.{Network, Turn, front, outputs_from, handled, turn_of, applied}
use Rattle.ken_model.specs.Posted.{posted_after}
use Rattle.ken_actors.specs.Playing.{Playing}

-- two networks that agree in each place and on each link
pub record AreAlike (w w' : Network) : Type 0 where
  pub place : (v : ℕ) → w.place v ≡ w'.place v
  pub link : (u v : ℕ) → w.link u v ≡ w'.link u v

-- the step is defined, its turn was made, and `done` tells the turn
pub record IsStep (before now : Playing) (s : Step) (done : Done) : Type 0 where
  pub turn : Turn
  pub defined : turn_of before.game before.network s ≡ Some turn
  pub game : now.game ≡ before.game
  pub network : AreAlike now.network (applied before.network s turn)
  pub stamp : done.stamp ≡ turn.stamp
  pub number : done.number ≡ turn.message.number
  pub sends : done.sends ≡ posted_after s.node turn.stamp (λ w. length (before.network.link s.node w).sent) turn.effect.sends
  pub outs : done.outs ≡ outputs_from (length (before.network.place s.node).outs) turn.effect.outs

-- the node has made all its turns
abbrev pub IsCapped : Playing → Step → Type 0
IsCapped p s = p.game.turns ≤ (p.network.place s.node).turns

-- no message waits on the link of the step, for a node that has turns left
abbrev pub HasNoMessage : Playing → Step → Type 0
HasNoMessage p s = ((p.network.place s.node).turns < p.game.turns) × (front (p.network.link s.from s.node) ≡ None)

-- a message waits, and the handler isn't defined at the draws, or one of them is no word
pub record HasWrongDraws (p : Playing) (s : Step) : Type 0 where
  pub turns_left : (p.network.place s.node).turns < p.game.turns
  pub message : Message
  pub waits : front (p.network.link s.from s.node) ≡ Some message
  pub undefined : handled p.game s.node (p.network.place s.node).value message s.draws ≡ None
