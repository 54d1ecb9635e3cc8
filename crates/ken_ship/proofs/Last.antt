-- The last output that was emitted.
use Rattle.std.proofs.Common.{◌≡◌, ◌∷◌, ◌++◌, [], List, max, ap, ◌∙◌}
use Rattle.std.proofs.lemmas.List.{map-append}
use Rattle.ken_model.specs.declared.reports.Emission.{Emission}
use Rattle.ken_model.specs.Emissions.{largest_of}
use Rattle.ken_core.proofs.Sent.{largest_of-push}
use Rattle.ken_ship.specs.Last.{last_of, outs_emitted}

-- one more emission
pub last_of_push : (es : List Emission) (e : Emission) → last_of (es ++ e ∷ []) ≡ max (last_of es) e.out.number
last_of_push es e = ap (largest_of 0) (map-append (λ (x : Emission). x.out) es (e ∷ [])) ∙ largest_of-push 0 (outs_emitted es) e.out
