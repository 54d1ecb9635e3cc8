-- What a handler's answer comes to.
use Rattle.std.specs.Prelude.{ℕ, List, Option, Some, None}
use Rattle.ken_model.specs.declared.handler.Answer.{Answer}
use Rattle.ken_model.specs.declared.handler.BlockChange.{BlockChange}
use Rattle.ken_model.specs.declared.handler.BlockChange.TheVariants.{Keep, Put, Delete, Rewrite}
use Rattle.ken_model.specs.declared.values.Block.{Block}
use Rattle.ken_model.specs.declared.values.Value.{Value}
use Rattle.ken_model.specs.Effects.{Effect}
use Rattle.ken_model.specs.Heap.{with_block, with_bytes, without_block}

-- the blocks without the one at a place that was found
abbrev pub without_old : Option ℕ → List Block → List Block
without_old None bs = bs
without_old (Some place) bs = without_block place bs

-- the blocks after a change
abbrev pub changed : BlockChange → List Block → List Block
changed Keep bs = bs
changed (Put place bytes old) bs = without_old old (with_block (record { place = place; bytes = bytes }) bs)
changed (Delete place) bs = without_block place bs
changed (Rewrite place bytes) bs = with_bytes place bytes bs

-- the heap after an answer
abbrev pub value_after : Value → Answer → Value
value_after value a = record value { root = a.root; blocks = changed a.blocks value.blocks }

-- the effect that an answer is
abbrev pub effect_by : Value → Answer → Effect
effect_by value a = record { value = value_after value a; sends = a.sends.items; outs = a.outs.items }
