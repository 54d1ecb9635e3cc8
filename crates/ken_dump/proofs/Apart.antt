-- The paths of a node's disks are different.
use Rattle.std.proofs.Common.{◌≡◌, ℕ, ◌<◌, List, lit<, sym, ◌∙◌}
use Rattle.ken_files.proofs.Apart.{paths_differ}
use Rattle.ken_files.specs.Filing.{path_of}
use Rattle.ken_dump.specs.declared.opening.Paths.{Paths}
use Rattle.ken_dump.specs.Out.{AreApart, ArePaths}

pub paths_apart : {prefix : List ℕ} {node : ℕ} {paths : Paths} → node < 10 → ArePaths prefix node paths → AreApart paths
paths_apart {prefix} {node} few are = record {
  image = λ same. differ 1 0 (lit< tt) (lit< tt) (λ e. cc) (sym are.image ∙ same ∙ are.log);
  second = λ same. differ 2 1 (lit< tt) (lit< tt) (λ e. cc) (sym are.second ∙ same ∙ are.image);
  third = λ same. differ 2 0 (lit< tt) (lit< tt) (λ e. cc) (sym are.second ∙ same ∙ are.log);
}
  where
    differ : (a b : ℕ) → a < 10 → b < 10 → (a ≡ b → ⊥) → path_of prefix node a ≡ path_of prefix node b → ⊥
    differ a b a_few b_few ne = paths_differ prefix node node a b few few a_few b_few (λ h. ne h.1)
