-- Where the items of a list that never changes stand.
use Rattle.std.specs.Prelude.{List, Option, None, Some, [], ◌∷◌}
use Rattle.std.specs.Arc.{arc_value}
use Rattle.ken_model.specs.declared.shared.Kept.{Kept}
use Rattle.ken_model.specs.declared.shared.Kept.TheVariants.{Empty, One, Many}

abbrev pub items_in : {T : Type 0} → Kept T → List T
items_in Empty = []
items_in (One item) = item ∷ []
items_in (Many items) = (arc_value items).items

-- of a list in the making: the first item and those behind it
abbrev pub listed : {T : Type 0} → Option T → List T → List T
listed None more = more
listed (Some first) more = first ∷ more
