-- The summary of a soak run: what each node came to.
use Rattle.std.specs.Prelude.{ℕ, ◌+◌, List, [], ◌∷◌, ◌++◌, map, length, codes, decimal, sum_by}
use Rattle.std.specs.List.{range_with_len}
use Rattle.ken_model.specs.declared.facts.Input.{Input}
use Rattle.ken_model.specs.Game.{Game}
use Rattle.ken_model.specs.Network.{Network}
use Rattle.ken_model.specs.Ending.{nodes_of}
use Rattle.ken_model.specs.Report.{line}
use Rattle.ken_gen.specs.declared.soaks.NodeTotal.{NodeTotal}
use Rattle.ken_gen.specs.Inputs.{inputs_from}
use Rattle.ken_gen.specs.Shares.{visits, left}

-- the line of a node
abbrev pub node_line : ℕ → NodeTotal → List ℕ
node_line node t = line (codes "node" ∷ decimal node ∷ decimal t.turns ∷ decimal t.root ∷ [])

-- the lines of nodes, from that one on
unfoldable pub node_lines : ℕ → List NodeTotal → List ℕ
node_lines node [] = []
node_lines node (t ∷ ts) = node_line node t ++ node_lines (node + 1) ts

abbrev pub all_turns : List NodeTotal → ℕ
all_turns totals = sum_by (λ (t : NodeTotal). t.turns) totals

abbrev pub all_roots : List NodeTotal → ℕ
all_roots totals = sum_by (λ (t : NodeTotal). t.root) totals

-- the text, from the words of the run and what each node came to
unfoldable pub summary_of : ℕ → ℕ → List NodeTotal → List ℕ
summary_of seed inputs totals =
    line (codes "soak" ∷ decimal seed ∷ decimal (length totals) ∷ decimal inputs ∷ [])
    ++ node_lines 0 totals
    ++ line (codes "turns" ∷ decimal (all_turns totals) ∷ [])
    ++ line (codes "sum" ∷ decimal (all_roots totals) ∷ [])
    ++ line (codes "settled" ∷ [])

-- what the nodes of a network came to
abbrev pub totals_in : Game → Network → List NodeTotal
totals_in g w = map (λ v. record { turns = (w.place v).turns; root = (w.place v).value.root }) (nodes_of g)

-- what the paths of inputs count at a node
abbrev pub total_by : ℕ → List Input → ℕ → NodeTotal
total_by nodes inputs v = record { turns = visits nodes v inputs; root = left nodes v inputs }

-- the text of a seed, so many nodes and so many inputs
unfoldable pub summary : ℕ → ℕ → ℕ → List ℕ
summary seed nodes inputs = summary_of seed inputs (map (total_by nodes (inputs_from nodes inputs seed)) (range_with_len 0 nodes))
