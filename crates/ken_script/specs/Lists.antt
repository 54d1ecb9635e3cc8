-- Lists of a script, and the first item at which a rule of its list is broken.
use Rattle.std.specs.Prelude.{ℕ, ◌==◌, ◌&&◌, List, [], ◌∷◌, length, map, Bool, true, false, if◌then◌else◌, min, position, nat_lt, Option, Some, None, option_map, option_and_then}
use Rattle.std.specs.List.{list_any}
use Rattle.serde_json.specs.Data.{Data, Items, no_items, item}

-- the items of a list of two
abbrev pub both : Items → Option (Data × Data)
both (item a (item b no_items)) = Some (a, b)
both _ = None

-- the items of a list of four
abbrev pub four : Items → Option (Data × Data × Data × Data)
four (item a (item b (item c (item d no_items)))) = Some (a, b, c, d)
four _ = None

-- what the items say, if each says something
abbrev pub all_of : {T : Type 0} → (Data → Option T) → List Data → Option (List T)
all_of said [] = Some []
all_of said (d ∷ ds) = option_and_then (λ first. option_map (λ rest. first ∷ rest) (all_of said ds)) (said d)

-- the least of the places that there are
abbrev pub least : Option ℕ → Option ℕ → Option ℕ
least None j = j
least (Some i) None = Some i
least (Some i) (Some j) = Some (min i j)

-- the first place past the room of a list, where the list has it
abbrev pub overflow : {T : Type 0} → ℕ → List T → Option ℕ
overflow room xs = if nat_lt room (length xs) then Some room else None

-- where an item strikes: a node, which of its disks or links, and at which call or put
abbrev pub Spot : Type 0
Spot = ℕ × ℕ × ℕ

-- the same spot
abbrev pub is_same : Spot → Spot → Bool
is_same s t = (s.0 == t.0) && (s.1 == t.1) && (s.2 == t.2)

-- the item strikes at that spot
abbrev pub strikes_at : Spot → Option Spot → Bool
strikes_at s None = false
strikes_at s (Some t) = is_same s t

-- each of a list with those that stand before it
abbrev pub with_earlier : {T : Type 0} → List T → List T → List (List T × T)
with_earlier earlier [] = []
with_earlier earlier (x ∷ xs) = (earlier, x) ∷ with_earlier (x ∷ earlier) xs

-- an item is wrong if it says nothing, or strikes where an earlier one does
abbrev pub is_wrong : List (Option Spot) → Option Spot → Bool
is_wrong earlier None = true
is_wrong earlier (Some spot) = list_any (strikes_at spot) earlier

-- the first item that is wrong, or that is one too many
abbrev pub wrong_item : {T : Type 0} → (Data → Option T) → (T → Spot) → ℕ → List Data → Option ℕ
wrong_item said spot room ds = least (position (λ p. is_wrong p.0 p.1) (with_earlier [] (map (λ d. option_map spot (said d)) ds))) (overflow room ds)
