-- What the turn of one node changes in the network.
use Rattle.std.proofs.Common.{◌≡◌, ℕ, ◌+◌, ◌<◌, ◌≤◌, List, ◌∷◌, ◌++◌, [], length, slice_index_or, slice_set, Bool, true, false, ◌&&◌, ◌==◌, if◌then◌else◌, Some, refl, sym, ap, subst, ◌∙◌, ⊎_elim, arith, eq-eqb, ne_eqb}
use Rattle.std.specs.List.{All, AllByRecursion}
use Rattle.std.proofs.lemmas.Bool.{cases_eq}
use Rattle.std.proofs.lemmas.List.{length-set, get_or-set_same, get_or-set_other}
use Rattle.std.proofs.lemmas.List.Elements.{All-set, All-same, All-append, All-weaker, All-get_or, All-from_recursion}
use Rattle.std.proofs.lemmas.List.Sums.{sum_by-set}
use Rattle.ken_model.specs.declared.messages.Message.{Message}
use Rattle.ken_model.specs.declared.messages.Send.{Send}
use Rattle.ken_model.specs.declared.messages.Step.{Step}
use Rattle.ken_model.specs.declared.messages.Done.{Done}
use Rattle.ken_model.specs.declared.facts.Facts.{Facts}
use Rattle.ken_model.specs.declared.values.Value.{Value}
use Rattle.ken_model.specs.Game.{Game}
use Rattle.ken_model.specs.Effects.{Effect}
use Rattle.ken_model.specs.Network.{Place, Link, Turn, empty_heap, outside, numbered, outputs_from, place_after, applied, turn_of}
use Rattle.ken_model.specs.Posted.{posted_after}
use Rattle.ken_model.proofs.Posting.{posted_after-cong}
use Rattle.ken_actors.specs.declared.node.Made.{Made}
use Rattle.ken_actors.specs.Actors.{AreAlike, IsStep}
use Rattle.ken_actors.specs.Held.{Held, held_at, no_node, place_of, sent_on, sent_to, taken_from, network_of, turns_made, AreEarly, IsOfRun, AreHeld}
use Rattle.ken_actors.specs.Nodes.{IsMade}

-- a turn, and what the code made of it
pub record IsTurnMade (s : Step) (t : Turn) (value : Value) (old new : Held) (made : Made) : Type 0 where
  pub stamp : ℕ
  pub sends : List Send
  pub outs : List (List ℕ)
  pub is_stamp : stamp ≡ t.stamp
  pub effect : t.effect ≡ record { value = value; sends = sends; outs = outs }
  pub moved : IsMade s.node s.from stamp sends outs old new made

now_place : (s : Step) (t : Turn) (before value : Value) (old new : Held) (made : Made) → IsTurnMade s t value old new made → place_of value new ≡ place_after (place_of before old) t
now_place s t before value old new made is =
    let place : ℕ → ℕ → List (List ℕ) → Place = λ k n o. record { value = value; stamp = k; turns = n; outs = o } in
    let after : Effect → Place = λ e. record { value = e.value; stamp = t.stamp; turns = old.turns + 1; outs = old.outs ++ e.outs } in
    ap (λ k. place k new.turns new.outs) (is.moved.stamped ∙ is.is_stamp) ∙ ap (λ n. place t.stamp n new.outs) is.moved.turns ∙ ap (place t.stamp (old.turns + 1)) is.moved.told ∙ ap after (sym is.effect)

now_sent : (s : Step) (t : Turn) (value : Value) (old new : Held) (made : Made) → IsTurnMade s t value old new made → (w : ℕ) → sent_to new w ≡ sent_to old w ++ numbered s.node w (length (sent_to old w)) t.stamp t.effect.sends
now_sent s t value old new made is w =
    is.moved.sent w ∙ ap (λ k. sent_to old w ++ numbered s.node w (length (sent_to old w)) k is.sends) is.is_stamp ∙ ap (λ (e : Effect). sent_to old w ++ numbered s.node w (length (sent_to old w)) t.stamp e.sends) (sym is.effect)

-- one of two, by a test
yes_is : {A : Type 0} (b : Bool) (x y z : A) → b ≡ true → x ≡ y → x ≡ (if b then y else z)
yes_is true x y z q e = e
yes_is false x y z q e = absurd cc

no_is : {A : Type 0} (b : Bool) (x y z : A) → b ≡ false → x ≡ z → x ≡ (if b then y else z)
no_is true x y z q e = absurd cc
no_is false x y z q e = e

either_is : {A : Type 0} (b : Bool) (x y z w : A) → x ≡ z → y ≡ w → (if b then x else y) ≡ (if b then z else w)
either_is true x y z w e e' = e
either_is false x y z w e e' = e'

and_true : (b : Bool) (c : Bool) (x y z : ℕ) → c ≡ true → x ≡ (if b then y else z) → x ≡ (if b && c then y else z)
and_true true c x y z q e = rw q e
and_true false c x y z q e = e

and_false : (b : Bool) (c : Bool) (x y z : ℕ) → c ≡ false → x ≡ z → x ≡ (if b && c then y else z)
and_false true c x y z q e = rw q e
and_false false c x y z q e = e

-- the network of the nodes after it
pub alike_moved : (size : ℕ) (vs : List Value) (hs : List Held) (s : Step) (t : Turn) (value : Value) (new : Held) (made : Made) → s.node < length vs → s.node < length hs → s.node < 255 → IsTurnMade s t value (held_at hs s.node) new made
    → AreAlike (network_of size (slice_set vs s.node value) (slice_set hs s.node new)) (applied (network_of size vs hs) s t)
alike_moved size vs hs s t value new made heap within node is =
    let hs' : List Held = slice_set hs s.node new in
    let vs' : List Value = slice_set vs s.node value in
    let value_at : List Value → ℕ → Value = λ l v. slice_index_or l v (empty_heap size) in
    let old : Held = held_at hs s.node in
    let same : held_at hs' s.node ≡ new = get_or-set_same hs s.node new no_node within in
    let others : (v : ℕ) → (v ≡ s.node → ⊥) → held_at hs' v ≡ held_at hs v = λ v ne. get_or-set_other hs s.node v new no_node ne in
    let same_value : value_at vs' s.node ≡ value = get_or-set_same vs s.node value (empty_heap size) heap in
    let other_values : (v : ℕ) → (v ≡ s.node → ⊥) → value_at vs' v ≡ value_at vs v = λ v ne. get_or-set_other vs s.node v value (empty_heap size) ne in
    let at : ℕ → Place = λ v. place_of (value_at vs v) (held_at hs v) in
    let at' : ℕ → Place = λ v. place_of (value_at vs' v) (held_at hs' v) in
    let here : at' s.node ≡ place_after (at s.node) t = ap (λ x. place_of x (held_at hs' s.node)) same_value ∙ ap (place_of value) same ∙ now_place s t (value_at vs s.node) value old new made is in
    let place : (v : ℕ) → at' v ≡ (if v == s.node then place_after (at v) t else at v) =
    λ v. ⊎_elim
    (λ e. yes_is (v == s.node) _ _ _ (eq-eqb v s.node e) (subst (λ k. at' k ≡ place_after (at k) t) (sym e) here))
    (λ ne. no_is (v == s.node) _ _ _ (ne_eqb v s.node ne) (ap (λ x. place_of x (held_at hs' v)) (other_values v ne) ∙ ap (place_of (value_at vs v)) (others v ne)))
    (cases_eq v s.node) in
    let inputs : (v : ℕ) → (held_at hs' v).inputs ≡ (held_at hs v).inputs =
    λ v. ⊎_elim
    (λ e. ap (λ k. (held_at hs' k).inputs) e ∙ ap (λ (h : Held). h.inputs) same ∙ is.moved.inputs ∙ ap (λ k. (held_at hs k).inputs) (sym e))
    (λ ne. ap (λ (h : Held). h.inputs) (others v ne))
    (cases_eq v s.node) in
    let no_input : (s.node == outside) ≡ false = ne_eqb s.node outside (λ e. omega arith) in
    let sent_here : (v : ℕ) → sent_on hs' s.node v ≡ sent_on hs s.node v ++ numbered s.node v (length (sent_on hs s.node v)) t.stamp t.effect.sends =
    λ v. rw no_input (ap (λ h. sent_to h v) same ∙ now_sent s t value old new made is v) in
    let sent : (u v : ℕ) → sent_on hs' u v ≡ (if u == s.node then sent_on hs u v ++ numbered u v (length (sent_on hs u v)) t.stamp t.effect.sends else sent_on hs u v) =
    λ u v. ⊎_elim
    (λ e. yes_is (u == s.node) _ _ _ (eq-eqb u s.node e) (subst (λ k. sent_on hs' k v ≡ sent_on hs k v ++ numbered k v (length (sent_on hs k v)) t.stamp t.effect.sends) (sym e) (sent_here v)))
    (λ ne. no_is (u == s.node) _ _ _ (ne_eqb u s.node ne) (either_is (u == outside) _ _ _ _ (inputs v) (ap (λ h. sent_to h v) (others u ne))))
    (cases_eq u s.node) in
    let taken : (u v : ℕ) → taken_from (held_at hs' v) u ≡ (if (u == s.from) && (v == s.node) then taken_from (held_at hs v) u + 1 else taken_from (held_at hs v) u) =
    λ u v. ⊎_elim
    (λ e. and_true (u == s.from) (v == s.node) _ _ _ (eq-eqb v s.node e) (subst (λ k. taken_from (held_at hs' k) u ≡ (if u == s.from then taken_from (held_at hs k) u + 1 else taken_from (held_at hs k) u)) (sym e) (ap (λ h. taken_from h u) same ∙ is.moved.taken u)))
    (λ ne. and_false (u == s.from) (v == s.node) _ _ _ (ne_eqb v s.node ne) (ap (λ h. taken_from h u) (others v ne)))
    (cases_eq v s.node) in
    let link : List Message → ℕ → Link = λ l k. record { sent = l; taken = k } in
    record { place = place; link = λ u v. ap (λ l. link l (taken_from (held_at hs' v) u)) (sent u v) ∙ ap (link _) (taken u v) }

numbered_early : (u v n stamp t : ℕ) (ss : List Send) → stamp ≤ t → AllByRecursion (λ (m : Message). m.stamp ≤ t) (numbered u v n stamp ss)
numbered_early u v n stamp t [] early = tt
numbered_early u v n stamp t (x ∷ xs) early = go (x.to == v) (numbered_early u v (n + 1) stamp t xs early) (numbered_early u v n stamp t xs early)
  where
    go : (b : Bool) → AllByRecursion (λ (m : Message). m.stamp ≤ t) (numbered u v (n + 1) stamp xs) → AllByRecursion (λ (m : Message). m.stamp ≤ t) (numbered u v n stamp xs) → AllByRecursion (λ (m : Message). m.stamp ≤ t) (if b then record { from = u; to = v; number = n + 1; stamp = stamp; bytes = x.bytes } ∷ numbered u v (n + 1) stamp xs else numbered u v n stamp xs)
    go true more same = (early, more)
    go false more same = same

later_is_early : (a b : ℕ) → a ≤ b → (h : Held) → AreEarly a h → AreEarly b h
later_is_early a b le h early =
    let weaker : (ms : List Message) → All (λ (m : Message). m.stamp ≤ a) ms → All (λ (m : Message). m.stamp ≤ b) ms = λ ms all. All-weaker (λ (m : Message). m.stamp ≤ a) (λ (m : Message). m.stamp ≤ b) (λ m at. omega arith) ms all in
    record { stamp = omega (arith, early.stamp); sent = λ w. weaker _ (early.sent w); inputs = weaker _ early.inputs }

-- the nodes go on
pub nodes_moved : (f : Facts) (hs : List Held) (s : Step) (stamp : ℕ) (sends : List Send) (outs : List (List ℕ)) (new : Held) (made : Made) → AreHeld f hs → s.node < length hs
    → (held_at hs s.node).turns < f.turns → stamp ≤ turns_made hs + 1 → IsMade s.node s.from stamp sends outs (held_at hs s.node) new made
    → AreHeld f (slice_set hs s.node new)
nodes_moved f hs s stamp sends outs new made held within more early is =
    let old : Held = held_at hs s.node in
    let turns : new.turns ≡ old.turns + 1 = is.turns in
    let later : turns_made (slice_set hs s.node new) ≡ turns_made hs + 1 = omega (arith, sum_by-set (λ (h : Held). h.turns) hs s.node new no_node within) in
    let old_early = All-get_or (AreEarly (turns_made hs)) hs s.node no_node within held.early in
    let old_of_run = All-get_or (IsOfRun f) hs s.node no_node within held.each in
    let was : AreEarly (turns_made hs + 1) old = later_is_early (turns_made hs) (turns_made hs + 1) (omega arith) old old_early in
    let P : Message → Type 0 = λ m. m.stamp ≤ turns_made hs + 1 in
    let now : AreEarly (turns_made hs + 1) new = record {
      stamp = omega (arith, is.stamped);
      sent = λ w. All-same P (sent_to new w) _ (is.sent w) (All-append P (sent_to old w) _ (was.sent w) (All-from_recursion P _ (numbered_early s.node w (length (sent_to old w)) stamp (turns_made hs + 1) sends early)));
      inputs = All-same P new.inputs old.inputs is.inputs was.inputs;
    } in
    record {
      width = length-set hs s.node new ∙ held.width;
      each = All-set (IsOfRun f) hs s.node new (record { sent = is.widths.0 ∙ old_of_run.sent; taken = is.widths.1 ∙ old_of_run.taken; turns = omega arith }) held.each;
      early = subst (λ k. All (AreEarly k) (slice_set hs s.node new)) (sym later) (All-set (AreEarly (turns_made hs + 1)) hs s.node new now (All-weaker (AreEarly (turns_made hs)) (AreEarly (turns_made hs + 1)) (later_is_early (turns_made hs) (turns_made hs + 1) (omega arith)) hs held.early));
    }

-- what is told of it
pub step_told : (g : Game) (size : ℕ) (vs : List Value) (hs : List Held) (s : Step) (t : Turn) (value : Value) (new : Held) (made : Made) (done : Done) → s.node < length vs → s.node < length hs → s.node < 255
    → turn_of g (network_of size vs hs) s ≡ Some t → IsTurnMade s t value (held_at hs s.node) new made
    → done.stamp ≡ t.stamp → done.number ≡ t.message.number → done.sends ≡ made.sends.items → done.outs ≡ made.outs.items
    → IsStep (record { game = g; network = network_of size vs hs }) (record { game = g; network = network_of size (slice_set vs s.node value) (slice_set hs s.node new) }) s done
step_told g size vs hs s t value new made done heap within node defined is stamp number sends outs =
    let old : Held = held_at hs s.node in
    let no_input : (s.node == outside) ≡ false = ne_eqb s.node outside (λ e. omega arith) in
    let counts : (w : ℕ) → length (sent_to old w) ≡ length (sent_on hs s.node w) = λ w. rw no_input refl in
    record {
      turn = t;
      defined = defined;
      game = refl;
      network = alike_moved size vs hs s t value new made heap within node is;
      stamp = stamp;
      number = number;
      sends = sends ∙ is.moved.done_sends ∙ ap (λ k. posted_after s.node k (λ w. length (sent_to old w)) is.sends) is.is_stamp
          ∙ ap (λ (e : Effect). posted_after s.node t.stamp (λ w. length (sent_to old w)) e.sends) (sym is.effect) ∙ posted_after-cong s.node t.stamp _ _ t.effect.sends counts;
      outs = outs ∙ is.moved.done_outs ∙ ap (λ (e : Effect). outputs_from (length old.outs) e.outs) (sym is.effect);
    }

-- each message that is sent is posted
pub length_posted : (u stamp : ℕ) (counts : ℕ → ℕ) (ss : List Send) → length (posted_after u stamp counts ss) ≡ length ss
length_posted u stamp counts [] = refl
length_posted u stamp counts (x ∷ ss) = omega (arith, length_posted u stamp (λ (w : ℕ). if w == x.to then counts w + 1 else counts w) ss)

pub known_posted : (nodes u stamp : ℕ) (counts : ℕ → ℕ) (ss : List Send) → AllByRecursion (λ (s : Send). s.to < nodes) ss → AllByRecursion (λ (m : Message). m.to < nodes) (posted_after u stamp counts ss)
known_posted nodes u stamp counts [] known = tt
known_posted nodes u stamp counts (x ∷ ss) known = (known.0, known_posted nodes u stamp (λ (w : ℕ). if w == x.to then counts w + 1 else counts w) ss known.1)
