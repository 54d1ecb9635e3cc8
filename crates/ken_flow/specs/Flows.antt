-- What is on its way between the nodes of a run: each packet was put by its sender.
use Rattle.std.specs.Prelude.{ℕ, List, [], slice_index_or}
use Rattle.std.specs.List.{All}
use Rattle.ken_model.specs.Game.{Game}
use Rattle.ken_packet.specs.Reading.{packet_of}
use Rattle.ken_net.specs.declared.link.Kept.{Kept}
use Rattle.ken_net.specs.Puts.{Put}
use Rattle.ken_net.specs.Standings.{Standing, link_to}
use Rattle.ken_core.specs.Clusters.{Cluster, WasPut}
use Rattle.ken_ship.specs.Laws.{packet_from}

-- the packet that bytes are, where it is one from a node of the run, was put
abbrev pub IsKnown : Game → Cluster → List ℕ → Type 0
IsKnown g w bytes = All (WasPut w) (packet_from g.nodes (packet_of bytes))

-- so is each that waits in an inbox of any node
abbrev pub AreKnown : Game → Cluster → List (List (List ℕ)) → Type 0
AreKnown g w boxes = (v : ℕ) → All (IsKnown g w) (slice_index_or boxes v [])

-- each of these puts
abbrev pub PutsAreKnown : Game → Cluster → List Put → Type 0
PutsAreKnown g w puts = All (λ (p : Put). IsKnown g w p.bytes) puts

-- and each that links keep
abbrev pub KeepKnown : Game → Cluster → List Standing → Type 0
KeepKnown g w links = (v : ℕ) → All (λ (k : Kept). IsKnown g w k.bytes) (link_to v links).kept
