-- Packets that nodes heard, as ones that were put before or come from runs of all nodes.
use Rattle.std.specs.Prelude.{ℕ, ◌<◌, ◌⊎◌, List}
use Rattle.std.specs.List.{All, Contains}
use Rattle.ken_model.specs.declared.messages.Message.{Message}
use Rattle.ken_model.specs.declared.reports.Emission.{Emission}
use Rattle.ken_model.specs.Game.{Game}
use Rattle.ken_net.specs.Puts.{MayPut}
use Rattle.ken_core.specs.Clusters.{Cluster, WasPut}
use Rattle.ken_core.specs.Nodes.{Node}
use Rattle.ken_core.specs.Packets.{Packet, Mail, Answer, Outgoing}
use Rattle.ken_core.specs.Runs.{IsPut}
use Rattle.ken_ship.specs.Laws.{packets_from}
use Rattle.ken_flow.specs.Groups.{group_of}
use Rattle.ken_beside.specs.Rounds.{ComesOf}

-- what a node handed in for another stands for packets that were put before, or that its run put
pub record StandsForPut (w : Cluster) (out : Outgoing) (from to : ℕ) (sealed : List Message) (consumed : List (ℕ × ℕ)) : Type 0 where
  pub mail : (m : Message) → Contains sealed m → WasPut w (Mail m) ⊎ IsPut (Mail m) out.puts
  pub answer : (through : ℕ) → Contains consumed (to, through)
      → WasPut w (Answer (record { from = from; to = to; through = through })) ⊎ ((by : ℕ) × IsPut (Answer (record { from = by; to = to; through = through })) out.puts)

-- where each packet that a node heard stands in what another handed in for it, it was put before, or comes from their runs
abbrev pub HeardCome : Type 0
HeardCome =
    (g : Game) (nodes : ℕ → Node) (emissions : List Emission) (out : ℕ → Outgoing) (to : ℕ) (sealed : ℕ → List Message) (consumed : ℕ → List (ℕ × ℕ)) (heard : List (List ℕ))
    → ((k : ℕ) → k < g.nodes → StandsForPut (group_of g nodes emissions) (out k) k to (sealed k) (consumed k))
    → ((bytes : List ℕ) → Contains heard bytes → (k : ℕ) × (k < g.nodes) × MayPut k to (sealed k) (consumed k) bytes)
    → All (λ (p : Packet). WasPut (group_of g nodes emissions) p ⊎ ComesOf g.nodes out p) (packets_from g.nodes heard)
