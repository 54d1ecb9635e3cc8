-- Share paths: where an input of kind share goes, and what it leaves there.
use Rattle.std.specs.Prelude.{ℕ, zero, suc, ◌+◌, ◌-◌, ◌/◌, ◌%◌, List, [], ◌∷◌, nat_lt, ◌==◌, if◌then◌else◌, Option, Some, None, sum_by}
use Rattle.ken_model.specs.declared.facts.Input.{Input}
use Rattle.ken_num.specs.Numbers.{num}

-- a visit: at which node, and what is left there
pub record Visit : Type 0 where
  pub node : ℕ
  pub left : ℕ

-- n leaves its larger half at a node, and the smaller one goes on to the next node, until that is 0: at most so many visits
abbrev pub path : ℕ → ℕ → ℕ → ℕ → List Visit
path zero nodes node n = []
path (suc most) nodes node n = record { node = node; left = n - n / 2 } ∷ (if nat_lt 0 (n / 2) then path most nodes ((node + 1) % nodes) (n / 2) else [])

-- the path of a payload: a number is below 2 ^ 30, so 30 visits are enough; a text that is none makes one, and leaves nothing
abbrev pub path_of : ℕ → ℕ → Option ℕ → List Visit
path_of nodes node None = record { node = node; left = 0 } ∷ []
path_of nodes node (Some n) = path 30 nodes node n

-- what a node's visits among those of a path count, each by f
abbrev pub counted : (Visit → ℕ) → ℕ → List Visit → ℕ
counted f node visits = sum_by (λ (v : Visit). if v.node == node then f v else 0) visits

-- and among those of all inputs' paths
unfoldable pub counted_of : (Visit → ℕ) → ℕ → ℕ → List Input → ℕ
counted_of f nodes node inputs = sum_by (λ (i : Input). counted f node (path_of nodes i.node (num i.text))) inputs

-- how many visits a node has
abbrev pub visits : ℕ → ℕ → List Input → ℕ
visits nodes node inputs = counted_of (λ v. 1) nodes node inputs

-- and what all of them leave there
abbrev pub left : ℕ → ℕ → List Input → ℕ
left nodes node inputs = counted_of (λ v. v.left) nodes node inputs
