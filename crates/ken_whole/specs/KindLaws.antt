-- The kinds keep the limits of a turn.
use Rattle.std.specs.Prelude.{ℕ}
use Rattle.ken_model.specs.declared.kinds.Kind.{Kind}
use Rattle.ken_model.specs.Kinds.{handler_of}
use Rattle.ken_app.specs.Limits.{KeepsLimits}

-- at each node of a run, whatever the kind's handler comes to
abbrev pub KindsKeepLimits : Type 0
KindsKeepLimits = (kind : Kind) (nodes size : ℕ) → KeepsLimits nodes size (handler_of kind)
