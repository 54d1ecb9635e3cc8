-- What puts make of a base.
use Rattle.std.specs.Prelude.{◌≡◌, ℕ, List, []}
use Rattle.ken_net.specs.Puts.{Put}

-- from one state to another exactly these were put, nothing was given, and no take gave nothing
pub record Went {S : Type 0} (node nodes nones : S → ℕ) (put_between : S → S → List Put → Type 0) (given_between : S → S → List (List ℕ) → Type 0) (old new : S) (puts : List Put) : Type 0 where
  pub node_is : node new ≡ node old
  pub nodes_is : nodes new ≡ nodes old
  pub nones_is : nones new ≡ nones old
  pub put : put_between old new puts
  pub gave : given_between old new []
