-- Where what is passed on, and what is kept, comes from.
use Rattle.std.specs.Prelude.{◌≡◌, ◌⊎◌, ℕ, List}
use Rattle.std.specs.List.{Contains}
use Rattle.ken_net.specs.declared.link.Kept.{Kept}
use Rattle.ken_net.specs.Puts.{Put, alone}
use Rattle.ken_net.specs.Standings.{Standing, link_to}

-- a packet was put for a node
abbrev pub WasPut : ℕ → List ℕ → List Put → Type 0
WasPut v bytes puts = (p : Put) × Contains puts p × (p.to ≡ v) × (p.bytes ≡ bytes)

-- a packet is kept on the link to a node
abbrev pub IsKept : ℕ → List ℕ → List Standing → Type 0
IsKept v bytes links = (k : Kept) × Contains (link_to v links).kept k × (k.bytes ≡ bytes)

-- a packet of that link was put, or kept before
abbrev pub WasThere : ℕ → List ℕ → List Put → List Standing → Type 0
WasThere v bytes puts links = WasPut v bytes puts ⊎ IsKept v bytes links

-- what is passed on is one of the puts as it is, or it was put or kept before, and hands in no more than its own packet
abbrev pub ComesFrom : Put → List Put → List Standing → Type 0
ComesFrom x puts links = Contains puts x ⊎ ((x ≡ alone x.to x.bytes) × WasThere x.to x.bytes puts links)
