-- What the oracle and the outlet of a node tell, where they do.
use Rattle.std.specs.Prelude.{◌≡◌, ◌↔◌, ℕ, List, [], Bool, true, false, Option, Some, None, IfSome, ⊤}
use Rattle.std.specs.List.{Contains}
use Rattle.ken_model.specs.declared.messages.Out.{Out}
use Rattle.ken_app.specs.Oracles.{Telling}
use Rattle.ken_ship.specs.Fates as ship

-- P holds of what is told; in a scripted world something is
abbrev pub IsTold : {X : Type 0} → Bool → Option X → (X → Type 0) → Type 0
IsTold scripted (Some x) P = P x
IsTold true None P = ⊥
IsTold false None P = ⊤

-- the outlet of a node, which may fail at just these calls, as far as it tells
abbrev pub MayFailAt : Bool → ℕ → List ℕ → Option ship.Fate → Type 0
MayFailAt scripted node fails fate = IsTold scripted fate (λ f. (f.node ≡ node) × ((call : ℕ) → Contains f.fails call ↔ Contains fails call))

-- an outlet took nothing, as far as it tells
abbrev pub TellsNothing : Option (List Out) → Type 0
TellsNothing told = IfSome told (λ outs. outs ≡ [])

-- an oracle is that node's of a run with that seed, as far as it tells
abbrev pub IsOf : {O : Type 0} → Bool → Telling O → O → ℕ → ℕ → Type 0
IsOf scripted telling oracle node seed = IsTold scripted (telling.origin oracle) (λ origin. origin ≡ record { node = node; seed = seed })

-- so of one that has answered nothing
pub record IsNewOracle {O : Type 0} (scripted : Bool) (telling : Telling O) (oracle : O) (node seed : ℕ) : Type 0 where
  pub origin : IsOf scripted telling oracle node seed
  pub clocks : IsTold scripted (telling.clocks oracle) (λ told. told ≡ [])
  pub words : IsTold scripted (telling.words oracle) (λ told. told ≡ [])
