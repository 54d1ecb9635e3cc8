-- What acts make of all puts of a node, told by the numbers of the puts.
use Rattle.std.specs.Prelude.{◌≡◌, ℕ, ◌+◌, ◌<◌, ◌==◌, if◌then◌else◌, Bool, false, List, [], ◌∷◌, ◌++◌, length, map, Option, Some, None}
use Rattle.std.specs.List.{AllByRecursion, filter}
use Rattle.ken_net.specs.declared.act.Act.{Act}
use Rattle.ken_net.specs.declared.act.Act.TheVariants.{Lose, Repeat, Hold}
use Rattle.ken_net.specs.declared.act.LinkAct.{LinkAct}
use Rattle.ken_net.specs.Acts.{act_of, copies}
use Rattle.ken_net.specs.Puts.{Put, alone}
use Rattle.ken_net.specs.Standings.{Leaving, link_to, act_at}

-- whether put number n of a link is held until put number m
abbrev pub is_until : Option Act → ℕ → ℕ → Bool
is_until None n m = false
is_until (Some Lose) n m = false
is_until (Some Repeat) n m = false
is_until (Some (Hold k)) n m = n + k == m

-- the packets that are held until put number m of a link, in the order of their puts, which are numbered from n
abbrev pub held_until : (ℕ → Option Act) → ℕ → ℕ → List Put → List (List ℕ)
held_until act m n [] = []
held_until act m n (p ∷ ps) = if is_until (act n) n m then p.bytes ∷ held_until act m (n + 1) ps else held_until act m (n + 1) ps

-- the puts for a node
abbrev pub puts_for : ℕ → List Put → List Put
puts_for v puts = filter (λ (p : Put). p.to == v) puts

-- what is passed on at put number n of its link, after the node's puts so far: first by its own act, then each packet
-- that is held until this put
abbrev pub passed_at : (ℕ → Option Act) → ℕ → List Put → Put → List Put
passed_at act n so_far p = map (λ (bytes : List ℕ). record p { bytes = bytes }) (copies (act n) p.bytes) ++ map (alone p.to) (held_until act n 1 (puts_for p.to (so_far ++ p ∷ [])))

-- what is passed on at all puts of a list, after those so far, by the acts for each node
abbrev pub passed_by : (ℕ → ℕ → Option Act) → List Put → List Put → List Put
passed_by act so_far [] = []
passed_by act so_far (p ∷ ps) = passed_at (act p.to) (length (puts_for p.to so_far) + 1) so_far p ++ passed_by act (so_far ++ p ∷ []) ps

-- the links of a node to so many, of which nothing was put, with these acts
pub record AreNew (from nodes : ℕ) (acts : List LinkAct) (l : Leaving) : Type 0 where
  pub from_is : l.from ≡ from
  pub count : length l.links ≡ nodes
  pub acts_are : (v n : ℕ) → v < nodes → act_at n (link_to v l.links) ≡ act_of acts from v n
  pub no_puts : (v : ℕ) → (link_to v l.links).puts ≡ 0
  pub no_kept : (v : ℕ) → (link_to v l.links).kept ≡ []

-- each goes to one of so many nodes
abbrev pub AreFor : ℕ → List Put → Type 0
AreFor nodes puts = AllByRecursion (λ (p : Put). p.to < nodes) puts
