-- A step that is defined, and one that isn't.
use Rattle.std.proofs.Common.{◌≡◌, ℕ, ◌+◌, ◌<◌, max, List, length, map, slice_index_or, slice_set, Bool, true, false, if◌then◌else◌, nat_lt, Option, Some, None, refl, sym, ap, subst, ◌∙◌, arith}
use Rattle.std.specs.List.{AllByRecursion}
use Rattle.std.proofs.lemmas.Bool.Decides.{nat_tests}
use Rattle.std.proofs.lemmas.List.{get_or-map, length-map, length-set, map-set}
use Rattle.std.proofs.lemmas.List.Elements.{All-get_or}
use Rattle.ken_model.specs.declared.facts.Facts.{Facts}
use Rattle.ken_model.specs.declared.messages.Done.{Done}
use Rattle.ken_model.specs.declared.messages.Message.{Message}
use Rattle.ken_model.specs.declared.messages.Send.{Send}
use Rattle.ken_model.specs.declared.messages.Step.{Step}
use Rattle.ken_model.specs.declared.values.Value.{Value}
use Rattle.ken_model.specs.Game.{Game}
use Rattle.ken_model.specs.Effects.{Effect}
use Rattle.ken_model.specs.Handler.{Handler}
use Rattle.ken_model.specs.Network.{Network, Turn, are_words, empty_heap, front, handled, turn_of, turn_at}
use Rattle.ken_model.specs.Spelling.{IsWord}
use Rattle.ken_model.proofs.Handled.{handled-words}
use Rattle.ken_actors.specs.declared.node.Node.{Node}
use Rattle.ken_actors.specs.declared.node.Made.{Made}
use Rattle.ken_actors.specs.Playing.{Playing, game_for}
use Rattle.ken_actors.specs.Actors.{HasWrongDraws, IsStep}
use Rattle.ken_actors.specs.Held.{Held, held_at, no_node, network_of, playing_of, IsOfRun, AreHeld, IsHeldRun}
use Rattle.ken_actors.specs.Nodes.{held_of, held_run, IsMade}
use Rattle.ken_actors.specs.Next.{IsNext}
use Rattle.ken_actors.proofs.Moved.{IsTurnMade, nodes_moved, step_told}
use Rattle.ken_actors.proofs.Waiting.{held_node}

-- the turn with that effect
abbrev pub turn_with : Network → Step → Message → Effect → Turn
turn_with w s m e = record { message = m; draws = s.draws; stamp = max (w.place s.node).stamp m.stamp + 1; effect = e }

pub turn_of-after : (g : Game) (w : Network) (s : Step) (m : Message) (e : Effect) → (w.place s.node).turns < g.turns → front (w.link s.from s.node) ≡ Some m → AllByRecursion IsWord s.draws
    → g.handler.after s.node g.nodes (w.place s.node).value m s.draws ≡ Some e → turn_of g w s ≡ Some (turn_with w s m e)
unfolding turn_at
turn_of-after g w s m e more waits words is =
    let q : nat_lt (w.place s.node).turns g.turns ≡ true = grind (arith, nat_tests) in
    let made : handled g s.node (w.place s.node).value m s.draws ≡ Some e = handled-words g s.node (w.place s.node).value m s.draws words ∙ is in
    rw (q, waits, made) refl

-- nothing comes of nothing, whatever is drawn
none_handled : (b : Bool) (o : Option Effect) → o ≡ None → (if b then o else None) ≡ None
none_handled true o none = none
none_handled false o none = refl

pub wrong_draws : (p : Playing) (s : Step) (m : Message) → (p.network.place s.node).turns < p.game.turns → front (p.network.link s.from s.node) ≡ Some m
    → p.game.handler.after s.node p.game.nodes (p.network.place s.node).value m s.draws ≡ None → HasWrongDraws p s
wrong_draws p s m more waits none = record {
  turns_left = more;
  message = m;
  waits = waits;
  undefined = none_handled (are_words s.draws) _ none;
}

-- ---- the node of a step

-- it is there, and has a list and a count for each node
pub record IsAt (f : Facts) (ns : List Node) (s : Step) (n : Node) : Type 0 where
  pub within : s.node < length ns
  pub is : held_at (map held_of ns) s.node ≡ held_of n
  pub sent : length n.sent.items ≡ f.nodes
  pub taken : length n.taken.items ≡ f.nodes

pub node_at : (f : Facts) (ns : List Node) (s : Step) (k : ℕ) (n : Node) → AreHeld f (map held_of ns) → s.node < f.nodes → k ≡ s.node → n ≡ slice_index_or ns k n → IsAt f ns s n
node_at f ns s k n held known at is =
    let within : s.node < length ns = omega (arith, held.width, length-map ns held_of, known) in
    let here : held_at (map held_of ns) s.node ≡ held_of n = held_node ns s.node n within (subst (λ (j : ℕ). n ≡ slice_index_or ns j n) at is) in
    let of_run : IsOfRun f (held_of n) = subst (IsOfRun f) here (All-get_or (IsOfRun f) (map held_of ns) s.node no_node (omega (arith, within, length-map ns held_of)) held.each) in
    record {
      within = within;
      is = here;
      sent = sym (length-map n.sent.items _) ∙ of_run.sent;
      taken = of_run.taken;
    }

-- one heap is another
pub heaps_kept : {H : Type 0} (value : H → Value) (hs : List H) (k : ℕ) (h : H) (nodes : ℕ) → length (map value hs) ≡ nodes → length (map value (slice_set hs k h)) ≡ nodes
heaps_kept value hs k h nodes width = length-map (slice_set hs k h) value ∙ length-set hs k h ∙ sym (length-map hs value) ∙ width

-- ---- a step that was made

module _ {H P : Type 0} (value : H → Value) (player : P) (handler : P → Handler) (f : Facts) (hs : List H) (ns : List Node) (s : Step) (m : Message)
    (run : IsHeldRun (held_run player f (map value hs) ns)) (next : IsNext f (map held_of ns) s m) (words : AllByRecursion IsWord s.draws)
    (kh k : ℕ) (x y : H) (n new : Node) (heap_at : kh ≡ s.node) (at : k ≡ s.node) (heap_is : x ≡ slice_index_or hs kh x) (is : n ≡ slice_index_or ns k n)
    (stamp : ℕ) (sends : List Send) (outs : List (List ℕ)) (made : Made) (stamped : stamp ≡ max n.stamp m.stamp + 1)
    (played : (handler player).after s.node f.nodes (value x) m s.draws ≡ Some (record { value = value y; sends = sends; outs = outs }))
    (moved : IsMade s.node s.from stamp sends outs (held_of n) (held_of new) made) where
  abbrev vs : List Value
  vs = map value hs

  abbrev held : List Held
  held = map held_of ns

  there : IsAt f ns s n
  there = node_at f ns s k n run.nodes next.known at is

  nodes_are : map held_of (slice_set ns k new) ≡ slice_set held s.node (held_of new)
  nodes_are = ap (λ (j : ℕ). map held_of (slice_set ns j new)) at ∙ map-set held_of ns s.node new

  heaps_are : map value (slice_set hs kh y) ≡ slice_set vs s.node (value y)
  heaps_are = ap (λ (j : ℕ). map value (slice_set hs j y)) heap_at ∙ map-set value hs s.node y

  moved_there : IsMade s.node s.from stamp sends outs (held_at held s.node) (held_of new) made
  moved_there = subst (λ (h : Held). IsMade s.node s.from stamp sends outs h (held_of new) made) (sym there.is) moved

  within_held : s.node < length held
  within_held = omega (arith, there.within, length-map ns held_of)

  stamp_there : stamp ≡ max (held_at held s.node).stamp m.stamp + 1
  stamp_there = stamped ∙ ap (λ (h : Held). max h.stamp m.stamp + 1) (sym there.is)

  pub run_stepped : IsHeldRun (held_run player f (map value (slice_set hs kh y)) (slice_set ns k new))
  run_stepped = record {
    limits = run.limits;
    heaps = heaps_kept value hs kh y f.nodes run.heaps;
    nodes = subst (AreHeld f) (sym nodes_are) (nodes_moved f held s stamp sends outs (held_of new) made run.nodes within_held next.more (omega (arith, stamp_there, next.early)) moved_there);
  }

  abbrev w : Network
  w = network_of f.size vs held

  abbrev effect : Effect
  effect = record { value = value y; sends = sends; outs = outs }

  within_heaps : s.node < length vs
  within_heaps = omega (arith, run.heaps, next.known)

  value_is : slice_index_or vs s.node (empty_heap f.size) ≡ value x
  value_is =
      get_or-map value hs s.node x (empty_heap f.size) (omega (arith, within_heaps, length-map hs value)) ∙ ap value (sym (subst (λ (j : ℕ). x ≡ slice_index_or hs j x) heap_at heap_is))

  defined : turn_of (game_for (handler player) f) w s ≡ Some (turn_with w s m effect)
  defined =
      turn_of-after (game_for (handler player) f) w s m effect next.more next.waits words
      (ap (λ (v : Value). (handler player).after s.node f.nodes v m s.draws) value_is ∙ played)

  pub is_step : (done : Done) → done.stamp ≡ stamp → done.number ≡ m.number → done.sends ≡ made.sends.items → done.outs ≡ made.outs.items
      → IsStep (playing_of handler (held_run player f vs ns)) (playing_of handler (held_run player f (map value (slice_set hs kh y)) (slice_set ns k new))) s done
  is_step done its_stamp its_number its_sends its_outs =
      let g : Game = game_for (handler player) f in
      let turn : IsTurnMade s (turn_with w s m effect) (value y) (held_at held s.node) (held_of new) made = record {
        stamp = stamp;
        sends = sends;
        outs = outs;
        is_stamp = stamp_there;
        effect = refl;
        moved = moved_there;
      } in
      let told = step_told g f.size vs held s (turn_with w s m effect) (value y) (held_of new) made done within_heaps within_held (omega (arith, next.known, run.limits.few_nodes)) defined turn (its_stamp ∙ stamp_there) its_number its_sends its_outs in
      let After : List Value → List Held → Type 0 = λ vs2 hs2. IsStep (record { game = g; network = w }) (record { game = g; network = network_of f.size vs2 hs2 }) s done in
      subst (λ (l : List Value). After l (map held_of (slice_set ns k new))) (sym heaps_are) (subst (After (slice_set vs s.node (value y))) (sym nodes_are) told)
