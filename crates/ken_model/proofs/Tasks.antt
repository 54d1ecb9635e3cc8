-- A handler in two parts is the handler.
use Rattle.std.proofs.Common.{◌≡◌, ℕ, List, [], ◌∷◌, Option, Some, None, option_map, refl}
use Rattle.ken_model.specs.declared.kinds.Kind.{Kind}
use Rattle.ken_model.specs.declared.kinds.Kind.TheVariants.{Ring, Tally, Share, Mix, Kv, Bank}
use Rattle.ken_model.specs.declared.values.Value.{Value}
use Rattle.ken_model.specs.declared.messages.Message.{Message}
use Rattle.ken_model.specs.Kinds.{after, ring, tally, share, mix, without_draws}
use Rattle.ken_model.specs.Effects.{Effect}
use Rattle.ken_model.specs.KeyValue.{kv, command_of}
use Rattle.ken_model.specs.Bank.{bank, order_of}
use Rattle.ken_model.specs.Tasks.{task_of, effect_of}
use Rattle.ken_num.specs.Numbers.{num}

after_by : Kind → ℕ → ℕ → Value → Message → Option ℕ → List ℕ → Option Effect
after_by Ring node nodes value m count draws = without_draws draws (ring node nodes value count)
after_by Tally node nodes value m count draws = without_draws draws (tally node nodes value m count)
after_by Share node nodes value m count draws = without_draws draws (share node nodes value count)
after_by Mix node nodes value m count draws = mix nodes value count draws
after_by Kv node nodes value m count draws = without_draws draws (kv value (command_of m.bytes))
after_by Bank node nodes value m count draws = without_draws draws (bank nodes value m (order_of m.bytes))

by_task : (kind : Kind) (node nodes : ℕ) (value : Value) (m : Message) (count : Option ℕ) (draws : List ℕ) → after_by kind node nodes value m count draws ≡ option_map (effect_of node nodes value m) (task_of kind count draws)
unfolding after_by
by_task Ring node nodes value m None [] = refl
by_task Ring node nodes value m None (x ∷ xs) = refl
by_task Ring node nodes value m (Some n) [] = refl
by_task Ring node nodes value m (Some n) (x ∷ xs) = refl
by_task Tally node nodes value m None [] = refl
by_task Tally node nodes value m None (x ∷ xs) = refl
by_task Tally node nodes value m (Some n) [] = refl
by_task Tally node nodes value m (Some n) (x ∷ xs) = refl
by_task Share node nodes value m None [] = refl
by_task Share node nodes value m None (x ∷ xs) = refl
by_task Share node nodes value m (Some n) [] = refl
by_task Share node nodes value m (Some n) (x ∷ xs) = refl
by_task Mix node nodes value m None [] = refl
by_task Mix node nodes value m None (x ∷ xs) = refl
by_task Mix node nodes value m (Some n) [] = refl
by_task Mix node nodes value m (Some n) (x ∷ []) = refl
by_task Mix node nodes value m (Some n) (x ∷ y ∷ []) = refl
by_task Mix node nodes value m (Some n) (x ∷ y ∷ z ∷ xs) = refl
by_task Kv node nodes value m None [] = refl
by_task Kv node nodes value m None (x ∷ xs) = refl
by_task Kv node nodes value m (Some n) [] = refl
by_task Kv node nodes value m (Some n) (x ∷ xs) = refl
by_task Bank node nodes value m None [] = refl
by_task Bank node nodes value m None (x ∷ xs) = refl
by_task Bank node nodes value m (Some n) [] = refl
by_task Bank node nodes value m (Some n) (x ∷ xs) = refl

pub after-task : (kind : Kind) (node nodes : ℕ) (value : Value) (m : Message) (draws : List ℕ) → after kind node nodes value m draws ≡ option_map (effect_of node nodes value m) (task_of kind (num m.bytes) draws)
unfolding after after_by
after-task Ring node nodes value m draws = by_task Ring node nodes value m (num m.bytes) draws
after-task Tally node nodes value m draws = by_task Tally node nodes value m (num m.bytes) draws
after-task Share node nodes value m draws = by_task Share node nodes value m (num m.bytes) draws
after-task Mix node nodes value m draws = by_task Mix node nodes value m (num m.bytes) draws
after-task Kv node nodes value m draws = by_task Kv node nodes value m (num m.bytes) draws
after-task Bank node nodes value m draws = by_task Bank node nodes value m (num m.bytes) draws
