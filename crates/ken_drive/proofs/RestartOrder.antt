-- Restart lines stand node by node.
use Rattle.std.proofs.Common.{ℕ, ◌+◌, ◌<◌, ◌≤◌, List, [], ◌∷◌, ◌++◌, length, arith}
use Rattle.ken_model.specs.declared.reports.RestartLine.{RestartLine}
use Rattle.ken_model.specs.Restarts.{AreRestartsByNode}
use Rattle.ken_run.specs.declared.station.Station.{Station}
use Rattle.ken_drive.specs.Ended.{restart_lines, restarts_from}

-- those of later nodes
later : (nodes low high : ℕ) (rs : List RestartLine) → low ≤ high → AreRestartsByNode nodes high rs → AreRestartsByNode nodes low rs
unfolding AreRestartsByNode
later nodes low high [] le order = tt
later nodes low high (r ∷ rs) le order = (omega (arith, le, order.0), order.1, order.2)

-- those of one node before them
before : (nodes v : ℕ) (turns : List ℕ) (rest : List RestartLine) → v < nodes → AreRestartsByNode nodes v rest → AreRestartsByNode nodes v (restart_lines v turns ++ rest)
unfolding AreRestartsByNode
before nodes v [] rest low order = order
before nodes v (n ∷ ns) rest low order = (omega arith, low, before nodes v ns rest low order)

pub restarts_by_node : {D O U : Type 0} (nodes v : ℕ) (ss : List (Station D O U)) → v + length ss ≤ nodes → AreRestartsByNode nodes v (restarts_from v ss)
unfolding AreRestartsByNode
restarts_by_node nodes v [] few = tt
restarts_by_node nodes v (s ∷ ss) few =
    before nodes v s.lines.items (restarts_from (v + 1) ss) (omega (arith, few))
    (later nodes v (v + 1) (restarts_from (v + 1) ss) (omega arith) (restarts_by_node nodes (v + 1) ss (omega (arith, few))))
