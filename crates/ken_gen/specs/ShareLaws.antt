-- What a run of kind share comes to, whatever its schedule.
use Rattle.std.specs.Prelude.{◌≡◌, ℕ, ◌<◌, ◌≤◌, ◌%◌, ◌^◌, List, Option, Some, None, sum_by}
use Rattle.std.specs.List.{AllByRecursion, range_with_len}
use Rattle.ken_model.specs.declared.facts.Input.{Input}
use Rattle.ken_model.specs.declared.kinds.Kind.TheVariants.{Share}
use Rattle.ken_model.specs.declared.messages.Step.{Step}
use Rattle.ken_model.specs.Ending.{IsSettled}
use Rattle.ken_model.specs.Game.{Game}
use Rattle.ken_model.specs.Kinds.{handler_of}
use Rattle.ken_model.specs.Network.{Network, outside}
use Rattle.ken_model.specs.Schedule.{IsLegal, play}
use Rattle.ken_num.specs.Numbers.{num}
use Rattle.ken_gen.specs.Shares.{visits, left}

-- a game of kind share, whose inputs are at nodes of the game; the outside is no node
pub record IsShareGame (g : Game) : Type 0 where
  pub handler : g.handler ≡ handler_of Share
  pub few : g.nodes ≤ outside
  pub inputs : AllByRecursion (λ (i : Input). i.node < g.nodes) g.inputs

-- each node made a turn for each visit, and its root is what was left there, in 64 bits
pub record IsShared (g : Game) (w : Network) : Type 0 where
  pub turns : (v : ℕ) → v < g.nodes → (w.place v).turns ≡ visits g.nodes v g.inputs
  pub roots : (v : ℕ) → v < g.nodes → (w.place v).value.root ≡ left g.nodes v g.inputs % 2 ^ 64

-- so it is after each legal schedule that leaves nothing to wait
abbrev pub SharesComeOut : Type 0
SharesComeOut = (g : Game) (schedule : List Step) → IsShareGame g → IsLegal g schedule → IsSettled (play g schedule) → IsShared g (play g schedule)

-- the number that an input's text is; a text that is none counts nothing
abbrev pub number_or_none : Option ℕ → ℕ
number_or_none None = 0
number_or_none (Some n) = n

-- what is left at all nodes is the sum of the inputs
abbrev pub SharesAddUp : Type 0
SharesAddUp = (nodes : ℕ) (inputs : List Input) → AllByRecursion (λ (i : Input). i.node < nodes) inputs
    → sum_by (λ v. left nodes v inputs) (range_with_len 0 nodes) ≡ sum_by (λ (i : Input). number_or_none (num i.text)) inputs
