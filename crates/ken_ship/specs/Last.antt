-- The last output that was emitted, over restarts.
use Rattle.std.specs.Prelude.{ℕ, List, map}
use Rattle.ken_model.specs.declared.messages.Out.{Out}
use Rattle.ken_model.specs.declared.reports.Emission.{Emission}
use Rattle.ken_model.specs.Emissions.{largest_of}

-- what these emitted
abbrev pub outs_emitted : List Emission → List Out
outs_emitted es = map (λ (e : Emission). e.out) es

-- the largest number among them, 0 for none
abbrev pub last_of : List Emission → ℕ
last_of es = largest_of 0 (outs_emitted es)
