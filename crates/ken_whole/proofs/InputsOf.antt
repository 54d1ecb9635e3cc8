-- The inputs of a node, as messages.
use Rattle.std.proofs.Common.{◌≡◌, ℕ, zero, suc, ◌+◌, ◌≤◌, ◌<◌, ◌==◌, List, [], ◌∷◌, length, slice_get, Some, Bool, true, false, if◌then◌else◌, refl, subst, arith}
use Rattle.std.specs.List.{AllByRecursion}
use Rattle.std.proofs.lemmas.Bool.{eqb-true}
use Rattle.ken_model.specs.declared.facts.Input.{Input}
use Rattle.ken_model.specs.declared.facts.TheConstants.{MAX_TEXT}
use Rattle.ken_model.specs.declared.messages.Message.{Message}
use Rattle.ken_model.specs.Game.{Game}
use Rattle.ken_model.specs.Limits.{IsWithinLimits}
use Rattle.ken_model.specs.Network.{inputs_for, inputs_from, input_at}
use Rattle.ken_work.specs.Workers.{AreInputs, IsInput}

abbrev IsFitting : ℕ → Input → Type 0
IsFitting nodes i = (i.node < nodes) × (length i.text ≤ MAX_TEXT)

input_is : (nodes v n : ℕ) (is : List Input) → AllByRecursion (IsFitting nodes) is → (k : ℕ) (m : Message) → slice_get (inputs_from v n is) k ≡ Some m → IsInput v (n + k + 1) m
input_is nodes v n [] fit k m at = absurd cc
input_is nodes v n (i ∷ is) fit k m at = one (i.node == v) refl at (λ l. input_is nodes v (n + 1) is fit.1 l m) (input_is nodes v n is fit.1 k m)
  where
    first : (j : ℕ) → i.node ≡ v → slice_get (input_at (n + 1) i ∷ inputs_from v (n + 1) is) j ≡ Some m → ((l : ℕ) → slice_get (inputs_from v (n + 1) is) l ≡ Some m → IsInput v (n + 1 + l + 1) m) → IsInput v (n + j + 1) m
    first zero to h later =
        let same : input_at (n + 1) i ≡ m = cc in
        let number : n + 1 ≡ n + 0 + 1 = omega arith in
        subst (IsInput v (n + 0 + 1)) same (record { from = refl; to = to; counted = number; stamp = refl; short = fit.0.1 })
    first (suc j) to h later = let number : n + 1 + j + 1 ≡ n + suc j + 1 = omega arith in subst (λ (x : ℕ). IsInput v x m) number (later j h)

    one : (b : Bool) → (i.node == v) ≡ b → slice_get (if b then input_at (n + 1) i ∷ inputs_from v (n + 1) is else inputs_from v n is) k ≡ Some m → ((l : ℕ) → slice_get (inputs_from v (n + 1) is) l ≡ Some m → IsInput v (n + 1 + l + 1) m) → (slice_get (inputs_from v n is) k ≡ Some m → IsInput v (n + k + 1) m) → IsInput v (n + k + 1) m
    one true e h later other = first k (eqb-true i.node v e) h later
    one false e h later other = other h

-- those of a game within its limits
pub inputs_are : (g : Game) (v : ℕ) → IsWithinLimits g → AreInputs v (inputs_for g v)
inputs_are g v limits k m at = let number : 0 + k + 1 ≡ k + 1 = omega arith in subst (λ (x : ℕ). IsInput v x m) number (input_is g.nodes v 0 g.inputs limits.inputs k m at)
