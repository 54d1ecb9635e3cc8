-- What comes to a node's handler: its inputs, and what it is told by its rings.
use Rattle.std.specs.Prelude.{◌≡◌, ℕ, ◌+◌, ◌<◌, ◌≤◌, ◌⊎◌, List, [], ◌∷◌, ◌++◌, length, slice_get, Some}
use Rattle.std.specs.List.{AllByRecursion}
use Rattle.ken_model.specs.declared.messages.Message.{Message}
use Rattle.ken_model.specs.Network.{outside}
use Rattle.ken_app.specs.Turning.{IsShortText}
use Rattle.ken_links.specs.Counts.{Rose}
use Rattle.ken_links.specs.Rings.{popped, nones, known as in_ring}
use Rattle.ken_links.specs.declared.pop_end.PopEnd.{PopEnd}
use Rattle.ken_ship.specs.declared.items.Progress.{Progress}
use Rattle.ken_ship.specs.declared.items.Told.{Told}
use Rattle.ken_work.specs.declared.items.Settled.{Settled}

-- the inputs of node v, as messages of the outside that are numbered from 1
pub record IsInput (v number : ℕ) (m : Message) : Type 0 where
  pub from : m.from ≡ outside
  pub to : m.to ≡ v
  pub counted : m.number ≡ number
  pub stamp : m.stamp ≡ 0
  pub short : IsShortText m.bytes

abbrev pub AreInputs : ℕ → List Message → Type 0
AreInputs v ms = (k : ℕ) (m : Message) → slice_get ms k ≡ Some m → IsInput v (k + 1) m

-- what the last of these says, or what was known before
abbrev pub latest : {A B : Type 0} → (A → B) → B → List A → B
latest says old [] = old
latest says old (x ∷ xs) = latest says (says x) xs

-- the settled turn that a patcher tells, and with how many turns it stands
abbrev pub turn_settled : Settled → ℕ
turn_settled news = news.turn

abbrev pub settled_by : Settled → ℕ
settled_by news = news.by

-- how far messages and outputs came, as an externaliser tells, and with how many turns it stands
abbrev pub progress_told : Told → Progress
progress_told news = news.progress

abbrev pub told_by : Told → ℕ
told_by news = news.by

-- each of these stands with no more turns than were made
abbrev pub AreRipe : {A : Type 0} → (A → ℕ) → ℕ → List A → Type 0
AreRipe {A} by made items = AllByRecursion (λ (x : A). by x ≤ made) items

-- the first of these stands with more
abbrev pub IsFromFurther : {A : Type 0} → (A → ℕ) → ℕ → List A → Type 0
IsFromFurther by made [] = ⊥
IsFromFurther by made (x ∷ xs) = made < by x

-- a ring gave items, none of which stands with more turns than were made, until the count of its pops that gave none rose, or 64 were
-- given, or the next one stands with more: what the last of them says is known now
pub record TakesNews {A B : Type 0} (by : A → ℕ) (says : A → B) (made : ℕ) (ring ring2 : PopEnd A) (old new : B) : Type 0 where
  pub items : List A
  pub popped_are : popped ring2 ≡ popped ring ++ items
  pub most : length items ≤ 64
  pub ripe : AreRipe by made items
  pub until : (length items ≡ 64) ⊎ (Rose (nones ring) (nones ring2) ⊎ IsFromFurther by made (in_ring ring2))
  pub known : new ≡ latest says old items
