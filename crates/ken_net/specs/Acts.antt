-- What becomes of each put of a link.
use Rattle.std.specs.Prelude.{ℕ, ◌+◌, ◌==◌, ◌&&◌, Bool, List, [], ◌∷◌, Option, Some, None}
use Rattle.std.specs.List.{find}
use Rattle.std.specs.Option.{option_map}
use Rattle.ken_net.specs.declared.act.Act.{Act}
use Rattle.ken_net.specs.declared.act.Act.TheVariants.{Lose, Repeat, Hold}
use Rattle.ken_net.specs.declared.act.LinkAct.{LinkAct}
use Rattle.ken_net.specs.declared.link.Kept.{Kept}

-- whether an act is for the link from one node to another
abbrev pub is_on : ℕ → ℕ → LinkAct → Bool
is_on from to a = (a.from == from) && (a.to == to)

-- the act for put number n of that link: of several on a list the first
abbrev pub act_of : List LinkAct → ℕ → ℕ → ℕ → Option Act
act_of acts from to n = option_map (λ (a : LinkAct). a.act) (find (λ (a : LinkAct). is_on from to a && (a.n == n)) acts)

-- what is passed on of a packet at its own put
abbrev pub copies : Option Act → List ℕ → List (List ℕ)
copies None bytes = bytes ∷ []
copies (Some Lose) bytes = []
copies (Some Repeat) bytes = bytes ∷ bytes ∷ []
copies (Some (Hold k)) bytes = []

-- what is kept of it, and how many puts it waits for, its own among them
abbrev pub held : Option Act → List ℕ → List Kept
held None bytes = []
held (Some Lose) bytes = []
held (Some Repeat) bytes = []
held (Some (Hold k)) bytes = record { wait = k + 1; bytes = bytes } ∷ []

-- a repeat and a hold want memory, and no other act does
abbrev pub WantsMemory : Option Act → Type 0
WantsMemory None = ⊥
WantsMemory (Some Lose) = ⊥
WantsMemory (Some Repeat) = Unit {0}
WantsMemory (Some (Hold k)) = Unit {0}
