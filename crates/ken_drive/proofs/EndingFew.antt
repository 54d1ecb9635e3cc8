-- What waits in a group in accord is little: its turns have a history.
use Rattle.std.proofs.Common.{◌≡◌, ℕ, ◌<◌, ◌≤◌, ◌^◌, length, true, ◌==◌, ap, ◌∙◌, ⊎_elim, arith, refl, length-append, eq-eqb, ne_eqb}
use Rattle.std.proofs.lemmas.Bool.{cases_eq}
use Rattle.ken_model.specs.Game.{Game}
use Rattle.ken_model.specs.History.{consumed, messages}
use Rattle.ken_model.specs.Limits.{IsWithinLimits}
use Rattle.ken_model.specs.Network.{outside}
use Rattle.ken_core.specs.Accord.{Accord}
use Rattle.ken_core.specs.Clusters.{Cluster}
use Rattle.ken_core.specs.Turns.{consumed_from, mails_to}
use Rattle.ken_core.proofs.Histories.{some_history}
use Rattle.ken_core.proofs.Numbers.{consumed-sealed, mails_to-sealed}
use Rattle.ken_flow.specs.Standstill.{sent_on}
use Rattle.ken_app.specs.Limits.{KeepsLimits}
use Rattle.ken_drive.specs.Ended.{waits_in}
use Rattle.ken_drive.proofs.EndingTold.{waiting-few}

module _ (g : Game) (c : Cluster) (accord : Accord g c) where
  -- a node has consumed no more than was sent to it
  pub consumed-few : (u v : ℕ) → consumed_from u (c.node v).turning.turns ≤ length (sent_on g c.node u v)
  unfolding messages
  consumed-few u v =
      let h = accord.history in
      let front = (accord.made.nodes v).order u in
      let took : consumed_from u (c.node v).turning.turns ≡ length (consumed u (h v)) = ap (consumed_from u) (accord.made.nodes v).turns ∙ consumed-sealed u v (h v) in
      let sent : sent_on g c.node u v ≡ messages g h u v = ⊎_elim
      (λ (e : u ≡ outside). let q : (u == outside) ≡ true = eq-eqb u outside e in rw q refl)
      (λ ne. rw (ne_eqb u outside ne) (ap (mails_to u v) (accord.made.nodes u).turns ∙ mails_to-sealed u v (h u)))
      (cases_eq u outside) in
      omega (arith, took, ap length sent, ap length front.1, length-append (consumed u (h v)) front.0)

  -- and what waits is little
  pub waits-little : IsWithinLimits g → KeepsLimits g.nodes g.size g.handler → waits_in g c.node < 2 ^ 64
  waits-little limits keeps = let history = some_history g c accord in waiting-few g c history.0 limits keeps accord history.1
