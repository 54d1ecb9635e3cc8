-- What holds of visits in which no node makes a turn.
use Rattle.std.specs.Prelude.{ℕ, ◌*◌, ◌^◌, ◌<◌, ◌≤◌, List, length}
use Rattle.std.specs.List.{AllByRecursion}
use Rattle.ken_model.specs.declared.messages.Message.{Message}
use Rattle.ken_model.specs.declared.facts.TheConstants.{MAX_NODES, MAX_TURNS}
use Rattle.ken_model.specs.declared.reports.Emission.{Emission}
use Rattle.ken_model.specs.Game.{Game}
use Rattle.ken_model.specs.Limits.{IsWithinLimits}
use Rattle.ken_record.specs.declared.effects.Effects.{Effects}
use Rattle.ken_core.specs.Accord.{Accord}
use Rattle.ken_core.specs.Nodes.{Node}
use Rattle.ken_core.specs.Turns.{mails_to}
use Rattle.ken_flow.specs.Groups.{group_of}
use Rattle.ken_flow.specs.Standstill.{Flow, HasPlaces, AreShort, open_in, Visited, VisitedTo, Passed, HasEnded}

-- each node has its places, no inbox has more than it may, and no more is open than before
pub record IsNoMore (g : Game) (f f2 : Flow) : Type 0 where
  pub places : HasPlaces g f2
  pub mail : AreShort f.mail → AreShort f2.mail
  pub acks : AreShort f.acks → AreShort f2.acks
  pub less : open_in g f2 ≤ open_in g f

-- so it is after a visit, after visits of the first nodes, and after a pass
pub record StaysSo (g : Game) (f : Flow) : Type 0 where
  pub visit : (v : ℕ) (f2 : Flow) → Visited g v f f2 → IsNoMore g f f2
  pub visits : (u : ℕ) (f2 : Flow) → VisitedTo g 0 u f f2 → IsNoMore g f f2
  pub pass : (f2 : Flow) → Passed g f f2 → IsNoMore g f f2

abbrev pub NeverMoreOpen : Type 0
NeverMoreOpen = (g : Game) (f : Flow) → HasPlaces g f → StaysSo g f

-- no stamp of a message that a node of the run has sealed comes near the last stamp
abbrev pub AreLow : Game → (ℕ → Node) → Type 0
AreLow g nodes = (u v : ℕ) → u < g.nodes → AllByRecursion (λ (m : Message). m.stamp < 2 ^ 63) (mails_to u v (nodes u).turning.turns)

-- no node makes more turns than it may, and no stamp is past the number of all turns
pub record AreEarly (g : Game) (nodes : ℕ → Node) : Type 0 where
  pub turns : (v : ℕ) → length (nodes v).turning.turns ≤ g.turns
  pub stamps : (v : ℕ) → AllByRecursion (λ (e : Effects). e.stamp ≤ MAX_NODES * MAX_TURNS) (nodes v).turning.turns
  pub mails : AreLow g nodes

abbrev pub StampsAreLow : Type 0
StampsAreLow = (g : Game) (nodes : ℕ → Node) (emissions : List Emission) → IsWithinLimits g → Accord g (group_of g nodes emissions) → AreEarly g nodes

-- three passes in which nothing that is open fell
pub record Stands (g : Game) (f a b c : Flow) : Type 0 where
  pub first : Passed g f a
  pub second : Passed g a b
  pub third : Passed g b c
  pub same : open_in g f ≤ open_in g c

-- then the run has ended, by all that its nodes have emitted in accord with them
abbrev pub StandstillEnds : Type 0
StandstillEnds = (g : Game) (emissions : List Emission) (f a b c : Flow) → IsWithinLimits g → HasPlaces g f → AreShort f.mail → AreShort f.acks
    → Accord g (group_of g f.nodes emissions) → Stands g f a b c
    → (emissions2 : List Emission) → Accord g (group_of g c.nodes emissions2) → HasEnded g emissions2 c.nodes
