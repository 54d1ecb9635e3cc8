-- A handler's effect as a program has it.
use Rattle.ken_model.specs.declared.reactions.Reaction.{Reaction}
use Rattle.ken_model.specs.Effects.{Effect}

abbrev pub effect_in : Reaction → Effect
effect_in r = record { value = r.value; sends = r.sends; outs = r.outs }
