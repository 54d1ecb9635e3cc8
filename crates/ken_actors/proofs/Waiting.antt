-- What waits on links, and for whom.
use Rattle.std.proofs.Common.{◌≡◌, ℕ, ◌+◌, ◌<◌, ◌≤◌, List, [], length, map, slice_index_or, Bool, true, false, ◌==◌, if◌then◌else◌, Option, Some, None, IfOk, IfSome, option_copied, Bor, ◌^◌, sym, ap, subst, ◌∙◌, ⊎_elim, arith}
use Rattle.std.specs.List.{All}
use Rattle.std.specs.Option.{ok_or}
use Rattle.std.proofs.lemmas.Bool.{cases_lt}
use Rattle.std.proofs.lemmas.List.{get_or-map, get_or_past}
use Rattle.std.proofs.lemmas.List.Elements.{All-nil, All-get_or, All-weaker}
use Rattle.std.proofs.lemmas.List.Sums.{sum_by-le}
use Rattle.std.proofs.lemmas.Option.{slice_get_past, slice_get_within, get_or_from_slice_get}
use Rattle.ken_model.specs.declared.messages.Message.{Message}
use Rattle.ken_model.specs.declared.messages.Step.{Step}
use Rattle.ken_model.specs.declared.facts.Facts.{Facts}
use Rattle.ken_actors.specs.declared.faults.StepFault.TheVariants.{NoMessage}
use Rattle.ken_actors.specs.Next.{IsNext}
use Rattle.ken_model.specs.Game.{game_of}
use Rattle.ken_model.specs.Limits.{IsWithinLimits}
use Rattle.ken_model.specs.Network.{front, outside}
use Rattle.ken_actors.specs.declared.node.Node.{Node}
use Rattle.ken_actors.specs.Held.{Held, held_at, no_node, sent_on, sent_to, taken_from, link_of, turns_made, AreEarly, IsOfRun, AreHeld}
use Rattle.ken_actors.specs.Nodes.{held_of}

-- nothing is sent to a node past those of the run
sent_past : (f : Facts) (hs : List Held) (u v : ℕ) → AreHeld f hs → f.nodes ≤ v → sent_to (held_at hs u) v ≡ []
sent_past f hs u v held past =
    ⊎_elim
    (λ within. get_or_past (held_at hs u).sent v [] (omega (arith, (All-get_or (IsOfRun f) hs u no_node within held.each).sent)))
    (λ out. ap (λ h. sent_to h v) (get_or_past hs u no_node out))
    (cases_lt u (length hs))

pub front_past : (f : Facts) (hs : List Held) (u v : ℕ) → AreHeld f hs → f.nodes ≤ v → front (link_of hs u v) ≡ None
front_past f hs u v held past =
    let here : held_at hs v ≡ no_node = get_or_past hs v no_node (omega (arith, held.width)) in
    let k : ℕ = taken_from (held_at hs v) u in
    let empty : sent_on hs u v ≡ [] = none (u == outside) _ _ (ap (λ (h : Held). h.inputs) here) (sent_past f hs u v held past) in
    let short : length (sent_on hs u v) ≤ k = omega (arith, ap length empty) in
    slice_get_past (sent_on hs u v) k short
  where
    none : (b : Bool) (xs ys : List Message) → xs ≡ [] → ys ≡ [] → (if b then xs else ys) ≡ []
    none true xs ys e e' = e
    none false xs ys e e' = e'

no_node_early : (t : ℕ) → AreEarly t no_node
no_node_early t = record { stamp = omega arith; sent = λ w. All-nil (λ (m : Message). m.stamp ≤ t); inputs = All-nil (λ (m : Message). m.stamp ≤ t) }

pub early_at : (f : Facts) (hs : List Held) (v : ℕ) → AreHeld f hs → AreEarly (turns_made hs) (held_at hs v)
early_at f hs v held =
    ⊎_elim
    (λ within. All-get_or (AreEarly (turns_made hs)) hs v no_node within held.early)
    (λ out. subst (AreEarly (turns_made hs)) (sym (get_or_past hs v no_node out)) (no_node_early (turns_made hs)))
    (cases_lt v (length hs))

-- what waits was sent in a turn that was made
pub early_front : (f : Facts) (hs : List Held) (u v : ℕ) (m : Message) → AreHeld f hs → front (link_of hs u v) ≡ Some m → m.stamp ≤ turns_made hs
early_front f hs u v m held waits =
    let P : Message → Type 0 = λ x. x.stamp ≤ turns_made hs in
    let all : All P (sent_on hs u v) = either (u == outside) _ _ (early_at f hs v held).inputs ((early_at f hs u held).sent v) in
    let k : ℕ = taken_from (held_at hs v) u in
    subst P (get_or_from_slice_get (sent_on hs u v) k m m waits) (all k m (slice_get_within (sent_on hs u v) k m waits))
  where
    either : (b : Bool) (xs ys : List Message) → All (λ (x : Message). x.stamp ≤ turns_made hs) xs → All (λ (x : Message). x.stamp ≤ turns_made hs) ys → All (λ (x : Message). x.stamp ≤ turns_made hs) (if b then xs else ys)
    either true xs ys a b = a
    either false xs ys a b = b

-- a node of the program is the one that a contract names
pub held_node : (ns : List Node) (k : ℕ) (n : Node) → k < length ns → n ≡ slice_index_or ns k n → held_at (map held_of ns) k ≡ held_of n
held_node ns k n within is = get_or-map held_of ns k n no_node within ∙ ap held_of (sym is)

-- few turns in all
pub few_made : (f : Facts) (hs : List Held) → IsWithinLimits (game_of f) → AreHeld f hs → turns_made hs ≤ 800000
few_made f hs limits held =
    let most = sum_by-le (λ (h : Held). h.turns) 100000 hs (All-weaker (IsOfRun f) (λ (h : Held). h.turns ≤ 100000) (λ h each. omega (arith, each.turns, limits.few_turns)) hs held.each) in
    omega (arith, most, held.width, limits.few_nodes)

-- what a step takes, where something waits
pub front_next : (f : Facts) (hs : List Held) (s : Step) (count : ℕ) → count ≡ f.nodes → (held_at hs s.node).turns < f.turns → s.node < f.nodes → IsWithinLimits (game_of f) → AreHeld f hs
    → (o : Option (Bor Message)) → option_copied o ≡ front (link_of hs s.from s.node) → IfSome o (λ _. s.from < 255 → s.from < count) → IfSome o (λ _. taken_from (held_at hs s.node) s.from + 1 < 2 ^ 64)
    → IfOk (ok_or o NoMessage) (λ m. IsNext f hs s m.now)
front_next f hs s count nodes more known limits held None waits sender room = tt
front_next f hs s count nodes more known limits held (Some m) waits sender room = record {
  waits = sym waits;
  more = more;
  known = known;
  sender = λ node. (let below = sender node in omega (arith, below, nodes));
  room = room;
  few = few_made f hs limits held;
  early = (early_front f hs s.from s.node m.now held (sym waits), (early_at f hs s.node held).stamp);
}
