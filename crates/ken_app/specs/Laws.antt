-- What holds of every limited handler.
use Rattle.std.specs.Prelude.{ℕ}
use Rattle.ken_model.specs.Handler.{Handler}
use Rattle.ken_app.specs.Limits.{KeepsLimits}
use Rattle.ken_app.specs.Lines.{KeepsLines}
use Rattle.ken_app.specs.Limited.{limited}

-- nodes can run it
abbrev pub LimitedKeepsLimits : Type 0
LimitedKeepsLimits = (h : Handler) (nodes size : ℕ) → KeepsLimits nodes size (limited h)

-- and its report can be printed
abbrev pub LimitedKeepsLines : Type 0
LimitedKeepsLines = (h : Handler) (nodes size : ℕ) → KeepsLines nodes size (limited h)
