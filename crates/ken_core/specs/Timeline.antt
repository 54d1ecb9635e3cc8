-- The lines of several nodes' turns, merged in the order of their stamps.
use Rattle.std.specs.Prelude.{ℕ, ◌<◌, ◌==◌, ◌||◌, ◌&&◌, nat_lt, Bool, List, [], ◌∷◌, ◌++◌, take, drop}
use Rattle.std.specs.List.{prefix_len}
use Rattle.ken_model.specs.declared.reports.TurnLine.{TurnLine}

-- each stamp is larger than the one before, and the first larger than `stamp`
abbrev pub StampsRise : ℕ → List TurnLine → Type 0
StampsRise stamp [] = Unit {0}
StampsRise stamp (l ∷ ls) = (stamp < l.stamp) × StampsRise l.stamp ls

-- a line comes before another: by stamp, and at equal stamps by node
abbrev pub is_before : TurnLine → TurnLine → Bool
is_before a b = nat_lt a.stamp b.stamp || ((a.stamp == b.stamp) && nat_lt a.step.node b.step.node)

-- how many lines, from the first on, come before l
abbrev pub count_before : TurnLine → List TurnLine → ℕ
count_before l ts = prefix_len (λ (t : TurnLine). is_before t l) ts

-- two lists of lines as one: before each line of the first stand those of the second that come before it
abbrev pub merged : List TurnLine → List TurnLine → List TurnLine
merged [] ts = ts
merged (l ∷ ls) ts = take (count_before l ts) ts ++ l ∷ merged ls (drop (count_before l ts) ts)
