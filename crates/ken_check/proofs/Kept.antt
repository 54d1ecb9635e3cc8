-- What is kept of each node, and what a line changes in it.
use Rattle.std.proofs.Common.{◌≡◌, ℕ, ◌<◌, List, get_or, sym, ap, ◌∙◌, subst, arith, get_or-set_other}
use Rattle.std.proofs.lemmas.Grind.{get_or-set_at}
use Rattle.std.proofs.Math.ListN.{set}
use Rattle.ken_model.specs.Game.{Game}
use Rattle.ken_model.proofs.Elements.{with_others}
use Rattle.ken_check.specs.declared.checker.Checker.{Checker}
use Rattle.ken_check.specs.declared.known.Known.{Known}
use Rattle.ken_check.specs.Knowing.{Knows, KnowsNode}
use Rattle.ken_check.specs.Right.{Told}

-- what was read at a place that is the node's
pub read_at : (ks : List Known) (i node : ℕ) (k : Known) → k ≡ get_or ks i k → i ≡ node → k ≡ get_or ks node k
read_at ks i node k is place = is ∙ ap (λ j. get_or ks j k) place

module _ (g : Game) (most : ℕ) (c : Checker) (told : Told) (knows : Knows g most c told) where
  pub count_of_nodes : g.nodes ≡ c.facts.now.nodes
  count_of_nodes = ap (λ (h : Game). h.nodes) (sym knows.game)

  -- what was read of a node is known of it
  pub known_of : (v : ℕ) (k : Known) → v < g.nodes → k ≡ get_or c.nodes.items v k → KnowsNode g told v k
  known_of v k few at = subst (KnowsNode g told v) (sym at) (knows.each v few k)

  -- where one node is written
  pub known_with : (told2 : Told) (node i : ℕ) (now : Known) → i ≡ node → KnowsNode g told2 node now
      → ((v : ℕ) → (v ≡ node → ⊥) → v < g.nodes → (none : Known) → KnowsNode g told2 v (get_or c.nodes.items v none))
      → (v : ℕ) → v < g.nodes → (none : Known) → KnowsNode g told2 v (get_or (set c.nodes.items i now) v none)
  known_with told2 node i now place own others = with_others
      (λ v. v < g.nodes → (none : Known) → KnowsNode g told2 v (get_or (set c.nodes.items i now) v none))
      node
      (λ few none. rw (get_or-set_at c.nodes.items i node now none (sym place) (omega (arith, place, few, knows.width))) own)
      (λ v other few none. rw (get_or-set_other c.nodes.items i v now none (λ is. other (is ∙ place))) (others v other few none))
