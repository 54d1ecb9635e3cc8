-- Bytes are written behind a closed gate, and then the gate is opened.
use Rattle.std.specs.Prelude.{◌≡◌, ℕ, List, ◌∷◌, ◌++◌}
use Rattle.ken_log.specs.Mounts.{Mounted, mount_of}

-- a closed gate stands behind this front
pub record IsClosedBehind (front seen : List ℕ) : Type 0 where
  pub gate : ℕ
  pub free : List ℕ
  pub parts : seen ≡ front ++ gate ∷ free
  pub closed : gate ≡ 165 → ⊥

-- what a closed gate behind the front mounts as, whatever follows, and what an open gate with these bytes behind it does
pub record IsGateOf (front body : List ℕ) (before after : Mounted) : Type 0 where
  pub closed : (gate : ℕ) (free : List ℕ) → (gate ≡ 165 → ⊥) → mount_of (front ++ gate ∷ free) ≡ before
  pub opened : (free : List ℕ) → mount_of (front ++ 165 ∷ (body ++ free)) ≡ after
