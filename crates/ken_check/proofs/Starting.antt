-- What a reader knows before the first line.
use Rattle.std.proofs.Common.{◌≡◌, ℕ, ◌+◌, ◌≤◌, List, [], ◌∷◌, length, sum_by, count_by, Bool, true, false, ◌==◌, if◌then◌else◌, zero, suc, refl, sym, ap, ◌∙◌, arith, ne_eqb}
use Rattle.std.specs.List.{range_with_len}
use Rattle.std.proofs.lemmas.List.Sums.{count_by-le-length, sum_by-cons}
use Rattle.ken_model.specs.declared.facts.Facts.{Facts}
use Rattle.ken_model.specs.declared.facts.Input.{Input}
use Rattle.ken_model.specs.Emissions.{AreByNode, AreEmitted}
use Rattle.ken_model.specs.Ending.{nodes_of, waiting_on}
use Rattle.ken_actors.specs.Actors.{AreAlike}
use Rattle.ken_actors.specs.Held.{playing_of}
use Rattle.ken_actors.specs.Playing.{game_for}
use Rattle.ken_model.specs.Game.{Game}
use Rattle.ken_model.specs.Handler.{Handler}
use Rattle.ken_model.specs.Limits.{IsWithinLimits}
use Rattle.ken_model.specs.Network.{input_at, inputs_from, outputs_from, outside, start}
use Rattle.ken_model.specs.Restarts.{AreRestartsByNode}
use Rattle.ken_model.specs.Schedule.{played}
use Rattle.ken_check.specs.declared.checker.Checker.{Checker}
use Rattle.ken_check.specs.declared.reader.Reader.{Reader}
use Rattle.ken_check.specs.Counts.{AreFirst}
use Rattle.ken_check.specs.Knowing.{Follows, IsLegalTo, Knows}
use Rattle.ken_check.specs.Right.{nothing_told}
use Rattle.ken_check.proofs.Beyond.{only_at_start}

length_first : (b : Bool) (v n : ℕ) (i : Input) (is : List Input) (m : ℕ) → length (inputs_from v (n + 1) is) ≡ m → length (inputs_from v n is) ≡ m → length (if b then input_at (n + 1) i ∷ inputs_from v (n + 1) is else inputs_from v n is) ≡ (if b then 1 else 0) + m
length_first true v n i is m a b = omega (arith, a)
length_first false v n i is m a b = omega (arith, b)

-- how many inputs a node has
length_inputs : (v n : ℕ) (is : List Input) → length (inputs_from v n is) ≡ count_by (λ (i : Input). i.node == v) is
length_inputs v n [] = refl
length_inputs v n (i ∷ is) = length_first (i.node == v) v n i is _ (length_inputs v (n + 1) is) (length_inputs v n is) ∙ sym (sum_by-cons (λ (x : Input). if x.node == v then 1 else 0) i is)

-- nothing waits from nodes
sum_quiet : (g : Game) (v a n : ℕ) → a + n ≤ 8 → sum_by (λ u. waiting_on ((start g).link u v)) (range_with_len a n) ≡ 0
sum_quiet g v a zero few = refl
sum_quiet g v a (suc n) few =
    let head = rw (ne_eqb a outside (λ e. omega (arith, e, few))) at (sum_by-cons (λ u. waiting_on ((start g).link u v)) a (range_with_len (a + 1) n)) in
    omega (arith, head, sum_quiet g v (a + 1) n (omega (arith, few)))

came_first : (g : Game) (v : ℕ) → g.nodes ≤ 8 → sum_by (λ u. waiting_on ((start g).link u v)) (outside ∷ nodes_of g) ≡ count_by (λ (i : Input). i.node == v) g.inputs
came_first g v few =
    let head = sum_by-cons (λ u. waiting_on ((start g).link u v)) outside (nodes_of g) in
    omega (arith, head, sum_quiet g v 0 g.nodes (omega (arith, few)), length_inputs v 0 g.inputs)

pub start_known : (h : Handler) (f : Facts) (most : ℕ) (c : Checker) → IsWithinLimits (game_for h f) → c.facts.now ≡ f → c.most ≡ most
    → AreFirst f c.nodes.items
    → c.turns ≡ 0 → c.stamp ≡ 0 → c.node ≡ 0 → c.has_emissions ≡ false → c.emitter ≡ 0 → c.has_restarts ≡ false → c.restarted ≡ 0 → c.heaps ≡ 0 → c.ended ≡ false
    → Knows (game_for h f) most c nothing_told
unfolding played IsLegalTo AreByNode AreEmitted AreRestartsByNode outputs_from
start_known h f most c limits facts limit fresh turns stamp node has_emissions emitter has_restarts restarted heaps ended = record {
  limits = limits;
  game = ap (game_for h) facts;
  limit = limit;
  width = fresh.width;
  each = λ v known none. (let k = fresh.each v known none in record {
    outs = k.outs;
    turns = k.turns;
    few = omega (arith, k.came, count_by-le-length (λ (i : Input). i.node == v) f.inputs, limits.few_inputs);
    came = omega (arith, k.came, k.turns, came_first (game_for h f) v limits.few_nodes);
    emitted = k.emitted;
    restarts = k.restarts;
    recovered = k.recovered;
  });
  turns = turns;
  only = only_at_start (game_for h f) limits;
  legal = (sym stamp, sym node);
  no_emission = (λ is. refl, λ is. has_emissions);
  emitter = emitter;
  emissions = record { known = tt; by_node = tt; each = λ v known. tt };
  no_restart = (λ is. refl, λ is. has_restarts);
  restarted = restarted;
  restarts = record { by_node = tt; few = λ v known. omega arith; rise = λ v known. omega arith };
  heaps = heaps;
  ended = ended;
}

-- and with the actors at the start
pub follows_start : {P H : Type 0} (h : P → Handler) (f : Facts) (player : P) (most : ℕ) (r : Reader P H) → Knows (game_for (h player) f) most r.checker nothing_told → r.actors.player ≡ player → r.actors.facts ≡ f
    → AreAlike (playing_of h r.actors).network (start (game_for (h player) f)) → Follows h (game_for (h player) f) most r nothing_told
unfolding played
follows_start {P} h f player most r knows same facts alike = record {
  knows = knows;
  game = ap (λ (p : P). game_for (h p) r.actors.facts) same ∙ ap (game_for (h player)) facts;
  alike = alike;
}
