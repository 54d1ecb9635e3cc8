-- A node at the start, as the code keeps it.
use Rattle.std.specs.Prelude.{◌≡◌, ℕ, false}
use Rattle.ken_model.specs.Game.{Game}
use Rattle.ken_core.specs.declared.machine.Machine.{Machine}
use Rattle.ken_core.specs.Nodes.{first_node}
use Rattle.ken_core.specs.Sets.{has_at}
use Rattle.ken_core.specs.Groups.{node_in, IsKept}

pub record IsFirst (g : Game) (v : ℕ) (m : Machine) : Type 0 where
  pub node : node_in m ≡ first_node g
  pub kept : IsKept g 0 v m
  pub unput : (w number : ℕ) → has_at m.mailed.items w number ≡ false
  pub unanswered : (w through : ℕ) → has_at m.answered.items w through ≡ false
