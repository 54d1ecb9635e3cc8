-- What holds of every handler that is decided.
use Rattle.ken_model.specs.Handler.{Handler}
use Rattle.ken_actors.specs.Decided.{IsDecided}
use Rattle.ken_app.specs.Limited.{limited}

-- so is it within the limits
abbrev pub LimitedIsDecided : Type 0
LimitedIsDecided = (h : Handler) → IsDecided h → IsDecided (limited h)
