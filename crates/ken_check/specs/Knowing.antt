-- What a reader of a report keeps, and how it answers to a line.
use Rattle.std.specs.Prelude.{◌≡◌, ◌≢◌, ◌↔◌, ℕ, ◌+◌, ◌*◌, ◌<◌, ◌≤◌, ◌^◌, List, [], ◌∷◌, ◌++◌, length, sum_by, get_or, Bool, true, false, Some, Result, Ok, Err}
use Rattle.std.specs.declared.alloc.AllocError.{AllocError}
use Rattle.ken_model.specs.declared.facts.TheConstants.{MAX_INPUTS}
use Rattle.ken_model.specs.declared.messages.Step.{Step}
use Rattle.ken_model.specs.declared.reports.Emission.{Emission}
use Rattle.ken_model.specs.declared.reports.RestartLine.{RestartLine}
use Rattle.ken_actors.specs.Actors.{AreAlike}
use Rattle.ken_actors.specs.Decided.{IsDecided}
use Rattle.ken_actors.specs.Held.{playing_of}
use Rattle.ken_actors.specs.Playing.{game_for}
use Rattle.ken_model.specs.Emissions.{emitted_by, largest_of}
use Rattle.ken_model.specs.Ending.{nodes_of, waiting_on}
use Rattle.ken_model.specs.Game.{Game}
use Rattle.ken_model.specs.Handler.{Handler}
use Rattle.ken_model.specs.Limits.{IsWithinLimits}
use Rattle.ken_model.specs.Network.{Network, Turn, applied, outputs_from, outside, start, turn_of}
use Rattle.ken_model.specs.Restarts.{restarts_of}
use Rattle.ken_model.specs.Schedule.{ComesBefore, play}
use Rattle.ken_check.specs.declared.checker.Checker.{Checker}
use Rattle.ken_check.specs.declared.known.Known.{Known}
use Rattle.ken_check.specs.declared.reader.Reader.{Reader}
use Rattle.ken_check.specs.Right.{AreEmissionsSoFar, AreRestartsSoFar, Told}

-- a legal schedule whose last turn has that stamp and node
unfoldable pub IsLegalTo : Game → Network → ℕ → ℕ → List Step → ℕ → ℕ → Type 0
IsLegalTo g w stamp node [] last_stamp last_node = (stamp ≡ last_stamp) × (node ≡ last_node)
IsLegalTo g w stamp node (s ∷ ss) last_stamp last_node = (t : Turn) × (turn_of g w s ≡ Some t) × (s.node < g.nodes) × ComesBefore stamp node t.stamp s.node × IsLegalTo g (applied w s t) t.stamp s.node ss last_stamp last_node

-- the node of the last emission, or of the last restart
abbrev pub last_emitter : ℕ → List Emission → ℕ
last_emitter node [] = node
last_emitter node (e ∷ es) = last_emitter e.node es

abbrev pub last_restarted : ℕ → List RestartLine → ℕ
last_restarted node [] = node
last_restarted node (r ∷ rs) = last_restarted r.node rs

-- the last of some numbers
abbrev pub last_of : ℕ → List ℕ → ℕ
last_of last [] = last
last_of last (x ∷ xs) = last_of x xs

-- what is known of node v
pub record KnowsNode (g : Game) (told : Told) (v : ℕ) (k : Known) : Type 0 where
  pub outs : k.outs.items ≡ outputs_from 0 ((play g told.schedule).place v).outs
  pub turns : k.turns ≡ ((play g told.schedule).place v).turns
  pub few : k.came ≤ MAX_INPUTS + 2 ^ 32 * length told.schedule
  pub came : k.came ≡ k.turns + sum_by (λ u. waiting_on ((play g told.schedule).link u v)) (outside ∷ nodes_of g)
  pub emitted : k.emitted ≡ largest_of 0 (emitted_by v told.emissions)
  pub restarts : k.restarts ≡ length (restarts_of v told.restarts)
  pub recovered : k.recovered ≡ last_of 0 (restarts_of v told.restarts)

-- no message was sent to a number past the nodes, nor from one
pub record HasOnlyNodes (g : Game) (w : Network) : Type 0 where
  pub nowhere : (u v : ℕ) → g.nodes ≤ v → (w.link u v).sent ≡ []
  pub strangers : (u v : ℕ) → g.nodes ≤ u → u ≢ outside → (w.link u v).sent ≡ []

-- what is kept of a run of this game after such lines
pub record Knows (g : Game) (most : ℕ) (c : Checker) (told : Told) : Type 0 where
  pub limits : IsWithinLimits g
  pub game : game_for g.handler c.facts.now ≡ g
  pub limit : c.most ≡ most
  pub width : length c.nodes.items ≡ g.nodes
  pub each : (v : ℕ) → v < g.nodes → (none : Known) → KnowsNode g told v (get_or c.nodes.items v none)
  pub turns : c.turns ≡ length told.schedule
  pub only : HasOnlyNodes g (play g told.schedule)
  pub legal : IsLegalTo g (start g) 0 0 told.schedule c.stamp c.node
  pub no_emission : (c.has_emissions ≡ false) ↔ (told.emissions ≡ [])
  pub emitter : c.emitter ≡ last_emitter 0 told.emissions
  pub emissions : AreEmissionsSoFar g told.schedule told.emissions
  pub no_restart : (c.has_restarts ≡ false) ↔ (told.restarts ≡ [])
  pub restarted : c.restarted ≡ last_restarted 0 told.restarts
  pub restarts : AreRestartsSoFar g most told.schedule told.restarts
  pub heaps : c.heaps ≡ told.heaps
  pub ended : c.ended ≡ told.ended

-- something is known
pub record IsReading (c : Checker) : Type 0 where
  pub game : Game
  pub most : ℕ
  pub told : Told
  pub knows : Knows game most c told

-- no line but of turns was read
pub record IsBeforeEmissions (c : Checker) : Type 0 where
  pub open_yet : c.ended ≡ false
  pub heaps : c.heaps ≡ 0
  pub no_restart : c.has_restarts ≡ false
  pub no_emission : c.has_emissions ≡ false

-- no line but of turns and emissions was read
pub record IsBeforeRestarts (c : Checker) : Type 0 where
  pub open_yet : c.ended ≡ false
  pub heaps : c.heaps ≡ 0
  pub no_restart : c.has_restarts ≡ false

-- no line but of turns, emissions and restarts was read
pub record IsBeforeHeaps (c : Checker) : Type 0 where
  pub open_yet : c.ended ≡ false
  pub heaps : c.heaps ≡ 0

-- the answer to a line, which is given without its line feed: true where it is right, and what it told is known too; false where no such
-- line is right. Where memory was short nothing is said
abbrev pub IsHeard : (g : Game) (most : ℕ) → (Told → List ℕ → Told → Type 0) → Checker → Checker → List ℕ → Result Bool AllocError → Type 0
IsHeard g most IsRight old new text (Ok true) = (told : Told) → Knows g most old told → (told2 : Told) × IsRight told (text ++ 10 ∷ []) told2 × Knows g most new told2
IsHeard g most IsRight old new text (Ok false) = (told : Told) → Knows g most old told → (told2 : Told) → IsRight told (text ++ 10 ∷ []) told2 → ⊥
IsHeard g most IsRight old new text (Err _) = Unit {0}

-- the same of any game that a reader may know
abbrev pub Hears : ((g : Game) (most : ℕ) → Told → List ℕ → Told → Type 0) → Checker → Checker → List ℕ → Result Bool AllocError → Type 0
Hears IsRight old new text answer = (g : Game) (most : ℕ) → IsHeard g most (IsRight g most) old new text answer

-- ---- with the actors

-- a reader's actors play the run that the lines told
pub record Follows {P H : Type 0} (handler : P → Handler) (g : Game) (most : ℕ) (r : Reader P H) (told : Told) : Type 0 where
  pub knows : Knows g most r.checker told
  pub game : (playing_of handler r.actors).game ≡ g
  pub alike : AreAlike (playing_of handler r.actors).network (play g told.schedule)

pub record IsFollowing {P H : Type 0} (handler : P → Handler) (r : Reader P H) : Type 0 where
  pub game : Game
  pub most : ℕ
  pub told : Told
  pub follows : Follows handler game most r told

-- a reader's answer to a line: as above, but that no such line is right is said only where the game's handler decides its draws as they are drawn
abbrev pub IsAnswered : {P H : Type 0} → (P → Handler) → (g : Game) (most : ℕ) → (Told → List ℕ → Told → Type 0) → Reader P H → Reader P H → List ℕ → Result Bool AllocError → Type 0
IsAnswered handler g most IsRight old new text (Ok true) = (told : Told) → Follows handler g most old told → (told2 : Told) × IsRight told (text ++ 10 ∷ []) told2 × Follows handler g most new told2
IsAnswered handler g most IsRight old new text (Ok false) = IsDecided g.handler → (told : Told) → Follows handler g most old told → (told2 : Told) → IsRight told (text ++ 10 ∷ []) told2 → ⊥
IsAnswered handler g most IsRight old new text (Err _) = Unit {0}

abbrev pub Answers : {P H : Type 0} → (P → Handler) → ((g : Game) (most : ℕ) → Told → List ℕ → Told → Type 0) → Reader P H → Reader P H → List ℕ → Result Bool AllocError → Type 0
Answers handler IsRight old new text answer = (g : Game) (most : ℕ) → IsAnswered handler g most (IsRight g most) old new text answer
