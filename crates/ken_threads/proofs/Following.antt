-- A step after others.
use Rattle.std.proofs.Common.{List, [], ◌∷◌, ◌++◌}
use Rattle.ken_weave.specs.Workers.{Steps, none, then}

pub one_more : {W : Type 0} {step : W → W → Type 0} {a b c : W} {bs : List W} → Steps step a bs b → step b c → Steps step a (bs ++ c ∷ []) c
one_more none next = then next none
one_more (then first rest) next = then first (one_more rest next)
