-- A handler's work in two parts: what a message asks for, and what is done about it.
use Rattle.std.specs.Prelude.{ℕ, List, [], ◌∷◌, Option, Some, None}
use Rattle.ken_model.specs.declared.kinds.Kind.{Kind}
use Rattle.ken_model.specs.declared.kinds.Kind.TheVariants.{Ring as OfRing, Tally as OfTally, Share as OfShare, Mix as OfMix, Kv as OfKv, Bank as OfBank}
use Rattle.ken_model.specs.declared.values.Value.{Value}
use Rattle.ken_model.specs.declared.messages.Message.{Message}
use Rattle.ken_model.specs.declared.handler.Task.{Task}
use Rattle.ken_model.specs.declared.handler.Task.TheVariants.{Refuse, Ring, Tally, Share, Mix, KeyValue, Bank}
use Rattle.ken_model.specs.Kinds.{ring_counts, tally_counts, share_counts, mix_counts}
use Rattle.ken_model.specs.Effects.{Effect, refused}
use Rattle.ken_model.specs.KeyValue.{kv, command_of}
use Rattle.ken_model.specs.Bank.{bank, order_of}

-- the task of a payload's number and draws: none where the number of draws isn't the kind's. The kinds kv and bank read
-- the payload later
abbrev pub task_of : Kind → Option ℕ → List ℕ → Option Task
task_of OfKv count [] = Some KeyValue
task_of OfBank count [] = Some Bank
task_of kind None [] = Some Refuse
task_of OfRing (Some count) [] = Some (Ring count)
task_of OfTally (Some amount) [] = Some (Tally amount)
task_of OfShare (Some amount) [] = Some (Share amount)
task_of OfMix (Some count) (clock ∷ word ∷ []) = Some (Mix count clock word)
task_of _ _ _ = None

-- what is done about it
abbrev pub effect_of : ℕ → ℕ → Value → Message → Task → Effect
effect_of node nodes value message Refuse = refused value
effect_of node nodes value message (Ring count) = ring_counts node nodes value count
effect_of node nodes value message (Tally amount) = tally_counts node nodes value message amount
effect_of node nodes value message (Share amount) = share_counts node nodes value amount
effect_of node nodes value message (Mix count clock word) = mix_counts nodes value count clock word
effect_of node nodes value message KeyValue = kv value (command_of message.bytes)
effect_of node nodes value message Bank = bank nodes value message (order_of message.bytes)
