-- How a run ends, by the network after it and its emissions.
use Rattle.std.specs.Prelude.{◌≡◌, ℕ, ◌-◌, ◌<◌, List, ◌∷◌, length, sum_by}
use Rattle.std.specs.List.{range_with_len}
use Rattle.ken_model.specs.declared.reports.Emission.{Emission}
use Rattle.ken_model.specs.declared.reports.Ending.{Ending}
use Rattle.ken_model.specs.declared.reports.Ending.TheVariants.{Settled, Cut}
use Rattle.ken_model.specs.Game.{Game}
use Rattle.ken_model.specs.Network.{Network, Link, outside}
use Rattle.ken_model.specs.Emissions.{AreAllEmitted}

-- how many messages of a link wait
abbrev pub waiting_on : Link → ℕ
waiting_on l = length l.sent - l.taken

-- the nodes of a run
abbrev pub nodes_of : Game → List ℕ
nodes_of g = range_with_len 0 g.nodes

-- how many messages and inputs wait
unfoldable pub waiting : Game → Network → ℕ
waiting g w = sum_by (λ v. sum_by (λ u. waiting_on (w.link u v)) (outside ∷ nodes_of g)) (nodes_of g)

-- nothing waits
abbrev pub IsSettled : Network → Type 0
IsSettled w = (u v : ℕ) → waiting_on (w.link u v) ≡ 0

-- something waits, and each that waits is for a node that has made all its turns
pub record IsCut (g : Game) (w : Network) : Type 0 where
  pub some : (u : ℕ) × (v : ℕ) × (0 < waiting_on (w.link u v))
  pub each : (u v : ℕ) → 0 < waiting_on (w.link u v) → (w.place v).turns ≡ g.turns

abbrev pub Ends : Game → Network → List Emission → Ending → Type 0
Ends g w es Settled = AreAllEmitted g w es × IsSettled w
Ends g w es Cut = AreAllEmitted g w es × IsCut g w
