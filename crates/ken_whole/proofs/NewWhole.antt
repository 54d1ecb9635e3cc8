-- New workers are a whole node.
use Rattle.std.proofs.Common.{◌≡◌, ℕ, ◌*◌, ◌<◌, ◌≤◌, List, [], ◌++◌, replicate, slice_index, Option, Some, None, refl, sym, ap, subst, ◌∙◌, ⊎_elim, arith}
use Rattle.std.proofs.lemmas.Bool.{cases_lt}
use Rattle.std.proofs.lemmas.List.{get_or-replicate, get_or_past, length-replicate}
use Rattle.ken_disk.specs.Story.{Story}
use Rattle.ken_model.specs.declared.values.Value.{Value}
use Rattle.ken_model.specs.Game.{Game}
use Rattle.ken_model.specs.Layout.{first_heap}
use Rattle.ken_model.specs.Limits.{IsWithinLimits}
use Rattle.ken_model.specs.Network.{empty_heap}
use Rattle.ken_model.specs.Reading.{read_value}
use Rattle.ken_model.proofs.First.{first_is_empty}
use Rattle.ken_model.proofs.ReadBack.{read_some}
use Rattle.ken_record.specs.declared.base.Base.{Base}
use Rattle.ken_record.specs.declared.record.Record.{Record}
use Rattle.ken_cover.specs.Sides.{first_image_pages}
use Rattle.ken_core.specs.Nodes.{Node, first_node, heap_pages}
use Rattle.ken_core.specs.Steps.{recovered_node}
use Rattle.ken_links.specs.Rings.{pushed, popped}
use Rattle.ken_order.specs.Consumed.{place}
use Rattle.ken_store.specs.declared.numbers.Numbers.{Numbers}
use Rattle.ken_store.specs.declared.owner.Owner.{Owner}
use Rattle.ken_store.specs.Numbers.{no_numbers}
use Rattle.ken_store.specs.Recovered.{state_of}
use Rattle.ken_store.specs.Turning.{live_layers, state_in, turn_pages}
use Rattle.ken_ship.specs.Laws.{HasSent, IsDueOf, IsStateOf}
use Rattle.ken_ship.specs.Parts.{Part}
use Rattle.ken_ship.proofs.Emissions.{nothing_is_due_first}
use Rattle.ken_ship.proofs.Numbered.{drop_nothing}
use Rattle.ken_work.specs.News.{progress_told, turn_settled}
use Rattle.ken_work.specs.declared.items.Feedback.{Feedback}
use Rattle.ken_work.specs.Parts.{nothing_told}
use Rattle.ken_whole.specs.New.{owner_of}
use Rattle.ken_whole.specs.NewLaws.{NewAreWhole}
use Rattle.ken_whole.specs.Whole.{AreNumbersOf, HasReached, IsSettledAt, WereTold}
use Rattle.ken_whole.proofs.Paced.{paced-new}

-- zeros
pub zero-at : (n u : ℕ) → slice_index (replicate n 0) u ≡ 0
zero-at n u =
    let long = length-replicate {A = ℕ} n 0 in
    ⊎_elim (λ (low : u < n). get_or-replicate n u 0 0 low) (λ (high : n ≤ u). get_or_past (replicate n 0) u 0 (omega (arith, long, high))) (cases_lt u n)

pub none-counted : (v : ℕ) → AreNumbersOf v [] no_numbers
none-counted v = record {
  turns = refl;
  stamp = refl;
  senders = length-replicate {A = ℕ} 9 0;
  consumed = λ u is. zero-at 9 (place u);
  receivers = length-replicate {A = ℕ} 8 0;
  sent = λ u. zero-at 8 u;
  outputs = refl;
}

none-told : {A B : Type 0} (says : A → B) (P : B → Type 0) (pushed popped : List A) (known first : B) → pushed ≡ [] → popped ≡ [] → known ≡ first → P first → WereTold says P pushed popped known
none-told {A} says P pushed popped known first no_push no_pop is holds = record { queue = []; ring = no_push ∙ sym (ap (λ (xs : List A). xs ++ []) no_pop); holds = subst P (sym is) holds; each = tt }

-- a heap of a run has pages, and not too many
pub heap-sized : (g : Game) → IsWithinLimits g → (0 < heap_pages g) × (heap_pages g ≤ 4096) × (g.size ≡ 256 * heap_pages g)
heap-sized g limits =
    let is = limits.pages in
    let many : heap_pages g ≡ is.0 = let e = is.3 in omega (arith, e) in
    (let some = is.1 in omega (arith, some, many), let most = is.2 in omega (arith, most, many), let e = is.3 in omega (arith, e, many))

-- the first heap is the empty one
pub first-reads : (g : Game) → IsWithinLimits g → read_value (first_heap (heap_pages g)) ≡ Some (empty_heap g.size)
first-reads g limits =
    let some = heap-sized g limits in
    read_some (first_heap (heap_pages g)) (empty_heap (256 * heap_pages g)) (first_is_empty (heap_pages g) some.0 some.1)
    ∙ ap (λ (k : ℕ). Some (empty_heap k)) (sym some.2)

-- a log with no record tells a node at its start
pub first-state : (g : Game) (v : ℕ) → IsStateOf g v (recovered_node (first_node g)) (state_of v no_numbers None [])
first-state g v = record {
  width = length-replicate {A = ℕ} 8 0;
  sent = λ u low. zero-at 8 u;
  messages = λ u low. sym (drop_nothing (slice_index (replicate g.nodes 0) u));
  outputs = refl;
  outs = refl;
}

pub first-sent : (g : Game) (v : ℕ) → HasSent g v (recovered_node (first_node g))
first-sent g v = record { acked = λ u low. let zero_is = zero-at g.nodes u in omega (arith, zero_is); emitted = omega arith }

module _ {D : Type 0} (told : D → Option Story) (size : D → ℕ) where
  pub new_are_whole : NewAreWhole told size
  new_are_whole g v t p s limits new =
      let n : Node = first_node g in
      let owner = new.new.owner in
      let pages : ℕ = heap_pages g in
      let some : (0 < pages) × (pages ≤ 4096) × (g.size ≡ 256 * pages) = heap-sized g limits in
      let owner_pages : t.side.owner.pages ≡ pages = ap (λ (o : Owner). o.pages) owner in
      let covers = new.stands.covers in
      let heap : (turn_pages t.side).heap ≡ first_heap pages = sym (covers.goal refl) in
      let live : (turn_pages t.side).live ≡ [] = no-live in
      let turning : n.turning.pages ≡ turn_pages t.side = ap (λ (h : List ℕ). record { heap = h; live = [] }) (sym heap) ∙ ap (λ ls. record { heap = (turn_pages t.side).heap; live = ls }) (sym live) in
      let state : state_in t.side ≡ state_of v no_numbers None [] = no-state in
      let settled : IsSettledAt n 0 = record { made = omega arith; clean = λ q c e gone. absurd cc } in
      record {
        workers = record {
          of_run = record { node = new.node; nodes = new.nodes; cap = new.cap; size = let is = some.2 in omega (arith, owner_pages, is); inputs = new.inputs; sender = new.sender; receivers = new.receivers };
          joined = record { pages = new.pages.ring; sealed = new.sealed.ring; settled = new.settled.ring; progress = new.progress.ring };
          working = new.working g.handler;
          turns = record {
            kept = new.turns;
            counted = subst (AreNumbersOf v []) (sym new.new.numbers) (none-counted v);
            reads = ap read_value heap ∙ first-reads g limits ∙ ap (λ (x : Value). Some x) (sym new.value);
          };
          log = record {
            state = subst (IsStateOf g v (recovered_node n)) (sym state) (first-state g v);
            sent = first-sent g v;
            width = length-replicate {A = ℕ} g.nodes 0;
            paced = paced-new (owner_of g v) t.side new.new;
          };
          sends = record {
            queue = [];
            ring = new.sealed.none_pushed ∙ sym (ap (λ xs. xs ++ []) new.sealed.none_popped);
            due = subst (λ (x : Part). IsDueOf g v n x.due) (sym new.part) (nothing_is_due_first g v limits.few_nodes);
            sent = record { acked = λ u low. let zero_is = zero-at g.nodes u in omega (arith, zero_is); emitted = omega arith };
          };
          settled = none-told turn_settled (IsSettledAt n) (pushed p.settled) (popped t.settled) t.told.settled 0 new.settled.none_pushed new.settled.none_popped (ap (λ (x : Feedback). x.settled) new.told_is) settled;
          progress = none-told progress_told (HasReached g n) (pushed s.told) (popped t.progress) t.told.progress nothing_told.progress new.progress.none_pushed new.progress.none_popped (ap (λ (x : Feedback). x.progress) new.told_is)
              (record { acked = λ u low. let zero_is = zero-at 8 u in omega (arith, zero_is); emitted = omega arith });
        };
        pages = record {
          queue = [];
          ring = new.pages.none_pushed ∙ sym (ap (λ xs. xs ++ []) new.pages.none_popped);
          image = first_image_pages (first_heap pages);
          apart = record {
            turns = new.stands.takes.turns;
            patches = new.stands.patches;
            count = new.stands.takes.count;
            waits = tt;
            known = new.stands.takes.known;
            covers = covers;
            behind = new.stands.behind;
            before = new.stands.before;
          };
          turning = turning;
          patching = refl;
        };
      }
    where
      no-live : (turn_pages t.side).live ≡ []
      no-live =
          ap (λ (x : Option Base). live_layers t.side.log.header x t.side.base_turns.items t.side.records.items) new.new.base
          ∙ ap (λ (rs : List Record). live_layers t.side.log.header None t.side.base_turns.items rs) new.new.records

      no-state : state_in t.side ≡ state_of v no_numbers None []
      no-state =
          ap (λ (o : Owner). state_of o.node t.side.numbers t.side.log.base t.side.records.items) new.new.owner
          ∙ ap (λ (k : Numbers). state_of v k t.side.log.base t.side.records.items) new.new.numbers
          ∙ ap (λ (x : Option Base). state_of v no_numbers x t.side.records.items) new.new.base
          ∙ ap (λ (rs : List Record). state_of v no_numbers None rs) new.new.records
