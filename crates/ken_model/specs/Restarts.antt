-- Restart lines: which nodes went on after a restart, and with how many turns.
use Rattle.std.specs.Prelude.{ℕ, ◌<◌, ◌≤◌, List, [], ◌∷◌, map, ◌==◌, filter}
use Rattle.ken_model.specs.declared.reports.RestartLine.{RestartLine}

-- with how many turns node v went on, each time that it was restarted
abbrev pub restarts_of : ℕ → List RestartLine → List ℕ
restarts_of v lines = map (λ (l : RestartLine). l.turns) (filter (λ (l : RestartLine). l.node == v) lines)

-- numbers from one to another that never fall
abbrev pub NeverFall : ℕ → List ℕ → ℕ → Type 0
NeverFall low [] high = low ≤ high
NeverFall low (x ∷ xs) high = (low ≤ x) × NeverFall x xs high

-- restart lines stand node by node, from that node on, each of a node below so many
unfoldable pub AreRestartsByNode : ℕ → ℕ → List RestartLine → Type 0
AreRestartsByNode nodes node [] = Unit {0}
AreRestartsByNode nodes node (r ∷ rs) = (node ≤ r.node) × (r.node < nodes) × AreRestartsByNode nodes r.node rs
