-- The counts of a run fit 64 bits.
use Rattle.std.proofs.Common.{◌≡◌, ℕ, ◌+◌, ◌*◌, ◌<◌, ◌≤◌, ◌^◌, ◌-◌, List, [], ◌∷◌, length, sum_by, get_or, Bool, true, false, ◌==◌, if◌then◌else◌, refl, sym, subst, arith, eqb-true}
use Rattle.std.specs.List.{All}
use Rattle.std.proofs.Math.Nat.{mul-le-mul}
use Rattle.std.proofs.lemmas.List.Elements.{All-from_get_or}
use Rattle.std.proofs.lemmas.List.FromFn.{length-range_with_len}
use Rattle.std.proofs.lemmas.List.Sums.{sum_by-le}
use Rattle.ken_model.specs.declared.messages.Step.{Step}
use Rattle.ken_model.specs.Ending.{nodes_of}
use Rattle.ken_model.specs.Game.{Game}
use Rattle.ken_model.specs.Network.{Network, Place, Turn, applied, place_after, start}
use Rattle.ken_check.specs.declared.checker.Checker.{Checker}
use Rattle.ken_check.specs.declared.known.Known.{Known}
use Rattle.ken_check.specs.Counts.{HaveRoom, MayTurn}
use Rattle.ken_check.specs.Knowing.{IsLegalTo, Knows}
use Rattle.ken_check.specs.Right.{Told}
use Rattle.ken_check.proofs.Turning.{sum_in, sum_none, sum_two, turn_opened}

-- no node made more turns than it may
abbrev HaveTurnsLeft : Game → Network → Type 0
HaveTurnsLeft g w = (v : ℕ) → (w.place v).turns ≤ g.turns

turns_after : (b : Bool) (p : Place) (t : Turn) (most : ℕ) → p.turns ≤ most → (b ≡ true → p.turns < most) → (if b then place_after p t else p).turns ≤ most
turns_after true p t most few less = omega (arith, less refl)
turns_after false p t most few less = few

one_turn_more : (b : Bool) (p : Place) (t : Turn) → (if b then place_after p t else p).turns + 0 ≡ p.turns + (if b then 1 else 0)
one_turn_more true p t = omega arith
one_turn_more false p t = omega arith

within : (g : Game) (w : Network) (a b : ℕ) (ss : List Step) (c d : ℕ) → IsLegalTo g w a b ss c d → HaveTurnsLeft g w → length ss + sum_by (λ v. (w.place v).turns) (nodes_of g) ≤ g.nodes * g.turns
unfolding IsLegalTo
within g w a b [] c d legal few =
    let each : All (λ v. (w.place v).turns ≤ g.turns) (nodes_of g) = All-from_get_or (λ v. (w.place v).turns ≤ g.turns) (nodes_of g) 0 (λ i below. few (get_or (nodes_of g) i 0)) in
    let all : sum_by (λ v. (w.place v).turns) (nodes_of g) ≤ g.nodes * g.turns = subst (λ (n : ℕ). sum_by (λ v. (w.place v).turns) (nodes_of g) ≤ n * g.turns) (length-range_with_len 0 g.nodes) (sum_by-le (λ v. (w.place v).turns) g.turns (nodes_of g) each) in
    omega (arith, all)
within g w a b (x ∷ ss) c d (t, made, known, before, rest) few =
    let left = (turn_opened g w x t made).0 in
    let next : HaveTurnsLeft g (applied w x t) = λ v. turns_after (v == x.node) (w.place v) t g.turns (few v) (λ is. subst (λ (u : ℕ). (w.place u).turns < g.turns) (sym (eqb-true v x.node is)) left) in
    let others = within g (applied w x t) t.stamp x.node ss c d rest next in
    let moved = sum_two (λ v. ((applied w x t).place v).turns) (λ v. 0) (λ v. (w.place v).turns) (λ v. if v == x.node then 1 else 0) (nodes_of g) (λ v. one_turn_more (v == x.node) (w.place v) t) in
    omega (arith, others, moved, sum_none (nodes_of g), sum_in x.node 1 0 g.nodes (omega arith) (omega (arith, known)))

module _ (g : Game) (most : ℕ) (c : Checker) (told : Told) (knows : Knows g most c told) where
  -- how many turns there are
  pub few_turns : length told.schedule ≤ 800000
  few_turns =
      let all = within g (start g) 0 0 told.schedule c.stamp c.node knows.legal (λ v. omega arith) in
      let most_turns : g.nodes * g.turns ≤ 8 * 100000 = mul-le-mul knows.limits.few_nodes knows.limits.few_turns in
      omega (arith, all, most_turns)

  -- what came for each node, and a few more
  pub room_for : (more : ℕ) → more < 2 ^ 32 → HaveRoom more c.nodes.items
  room_for more few v known none = omega (arith, (knows.each v (omega (arith, known, knows.width)) none).few, few_turns, few)

  pub may_turn : MayTurn c.nodes.items
  may_turn v known none = (let k = knows.each v (omega (arith, known, knows.width)) none in omega (arith, k.few, k.came, few_turns))

  -- what waits
  pub few_wait : sum_by (λ (k : Known). k.came - k.turns) c.nodes.items < 2 ^ 64
  few_wait =
      let each : All (λ (k : Known). k.came - k.turns ≤ 3435973836810000) c.nodes.items = λ v none known. (let k = knows.each v (omega (arith, known, knows.width)) none in omega (arith, k.few, few_turns)) in
      omega (arith, sum_by-le (λ (k : Known). k.came - k.turns) 3435973836810000 c.nodes.items each, knows.width, knows.limits.few_nodes)
