-- What a call of a worker makes of its end of the network.
use Rattle.std.specs.Prelude.{◌≡◌, ℕ, List}
use Rattle.ken_net.specs.Inboxes.{Taking, all_filed}
use Rattle.ken_net.specs.Puts.{Put}
use Rattle.ken_net.specs.Standings.{Leaving, after_puts, all_passed, link_to}
use Rattle.ken_flow.specs.Standstill.{AreModestActs}

-- node v was given these packets of its inbox, by an end that then had counted so many takes which gave nothing
abbrev pub WereGiven : ℕ → ℕ → List (List (List ℕ)) → List (List (List ℕ)) → List (List ℕ) → Type 0
WereGiven v nones old new given = Taking v 0 nones old new given

-- these were put on the links, and what these passed on went to the inboxes
pub record WerePut (links links2 : Leaving) (old new : List (List (List ℕ))) (puts : List Put) : Type 0 where
  pub links_are : links2 ≡ record links { links = after_puts puts links.links }
  pub passed_on : new ≡ all_filed (all_passed puts links.links) old

-- the acts of each of these links are modest
abbrev pub AreModest : Leaving → Type 0
AreModest l = (w : ℕ) → AreModestActs (link_to w l.links)
