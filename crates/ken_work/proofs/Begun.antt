-- A side on which a turn is begun, and what it is once the turn is taken back.
use Rattle.std.proofs.Common.{◌≡◌, ℕ, List, length, Vec, Global, Option, Some, None, refl, sym, ap, subst, ◌∙◌}
use Rattle.ken_alloc.specs.Objects.{Heap, heap_in}
use Rattle.ken_disk.specs.Story.{Story}
use Rattle.ken_model.proofs.Unique.{value_of-unique}
use Rattle.ken_model.specs.declared.messages.Message.{Message}
use Rattle.ken_model.specs.Handler.{Handler}
use Rattle.ken_model.specs.Layout.{StandsFor}
use Rattle.ken_record.specs.declared.effects.Effects.{Effects}
use Rattle.ken_store.proofs.Sealing.{pages_are}
use Rattle.ken_store.proofs.SealMeanwhile.{undone_pages}
use Rattle.ken_store.specs.declared.owner.Owner.{Owner}
use Rattle.ken_store.specs.declared.turning.TurnSide.{TurnSide}
use Rattle.ken_store.specs.Turning.{HasPages, IsSameNode, IsUndone, KeepsLog, Turning, begun_on, sealed_bytes, turn_pages, undone, undone_from}
use Rattle.ken_work.specs.declared.worker.TurnWorker.{TurnWorker}
use Rattle.ken_work.specs.Calls.{IsSameState}
use Rattle.ken_work.specs.Making.{IsMade}
use Rattle.ken_work.specs.Workers.{Working}

-- a side with another heap of as many pages takes calls
pub turning_on : {D : Type 0} (told : D → Option Story) (size : D → ℕ) (old new : TurnSide D) → Turning told size old → KeepsLog old new → HasPages old.owner.pages (heap_in new.objects) → Turning told size new
turning_on told size old new is same heap = record {
  owner = rw same.owner is.owner;
  log = rw same.log is.log;
  mounts = rw (same.log, same.records) is.mounts;
  count = rw (same.log, same.records) is.count;
  items = rw same.records is.items;
  numbers = rw (same.owner, same.log, same.records, same.numbers) is.numbers;
  heap = rw same.owner heap;
  turns = rw (same.base_turns, same.log) is.turns;
  rests = rw same.other is.rests;
  other = rw (same.log, same.other, same.owner) is.other;
}

-- the pages after the sealed turns are as before the begin
pub pages_begun : {D : Type 0} (old new : TurnSide D) → KeepsLog old new → old.objects.begun ≡ None → new.objects.begun ≡ Some old.objects.bytes → turn_pages new ≡ turn_pages old
pages_begun old new same idle begun =
    let before : sealed_bytes new.objects.bytes new.objects.begun ≡ old.objects.bytes = ap (sealed_bytes new.objects.bytes) begun in
    let now : sealed_bytes old.objects.bytes old.objects.begun ≡ old.objects.bytes = ap (sealed_bytes old.objects.bytes) idle in
    pages_are _ _ _ _ (before ∙ sym now) (rw (same.log, same.base_turns, same.records) refl)

pub joined : {D : Type 0} (a b c : TurnSide D) → KeepsLog a b → KeepsLog b c → KeepsLog a c
joined a b c one two = record {
  owner = two.owner ∙ one.owner;
  log = two.log ∙ one.log;
  which = two.which ∙ one.which;
  other = two.other ∙ one.other;
  numbers = two.numbers ∙ one.numbers;
  base_turns = two.base_turns ∙ one.base_turns;
  records = two.records ∙ one.records;
}

-- a turn that is made of a side on which it was begun is one of the side before
pub made_since : {D : Type 0} (h : Handler) (m : Message) (e : Effects) (old begun new : TurnSide D) → KeepsLog old begun → heap_in begun.objects ≡ begun_on (heap_in old.objects) → IsMade h m e begun new → IsMade h m e old new
made_since h m e old begun new same is made = record {
  same = joined old begun new same made.same;
  stood = subst (λ (x : Heap). StandsFor x.bytes x.value) is made.stood;
  begun = made.begun ∙ ap (λ (x : Heap). Some x.bytes) is;
  pages = subst (λ (o : Owner). HasPages o.pages (heap_in new.objects)) same.owner made.pages;
  stands = made.stands;
  effect = made.effect;
  made = let value : begun.objects.value ≡ old.objects.value = ap (λ (x : Heap). x.value) is in rw (same.owner, value) at made.made;
  value = made.value;
  effects = rw (same.owner, same.numbers) at made.effects;
  words = made.words;
}

pub node_kept : {D : Type 0} (old new : TurnSide D) → KeepsLog old new → IsSameNode old new
node_kept old new same = record { owner = same.owner; which = same.which; other = same.other }

-- ---- a turn that is taken back

pub undone_by_abort : {D : Type 0} (old new : TurnSide D) → KeepsLog old new → heap_in new.objects ≡ undone (heap_in old.objects) → IsUndone old new
undone_by_abort old new same objects = record {
  objects = objects;
  live = undone_pages old new same objects;
  records = same.records;
  numbers = same.numbers;
  head = rw same.log refl;
  base = rw same.log refl;
  base_turns = same.base_turns;
}

-- the heap is the one before the begin
heap_undone : (before begun now : Heap) → StandsFor before.bytes before.value → before.begun ≡ None → begun.begun ≡ Some before.bytes → now ≡ undone begun → now ≡ before
heap_undone before begun now stands idle is e =
    e ∙ ap (undone_from begun) is
    ∙ ap (λ v. record { value = v; bytes = before.bytes; begun = None }) (value_of-unique before.bytes before.value stands)
    ∙ ap (λ (b : Option (List ℕ)). record { value = before.value; bytes = before.bytes; begun = b }) (sym idle)

module _ {D : Type 0} (old begun new : TurnSide D) (same : KeepsLog old begun) (idle : old.objects.begun ≡ None) (is_begun : begun.objects.begun ≡ Some old.objects.bytes) (stands : StandsFor old.objects.bytes old.objects.value) (is : IsUndone begun new) (node : IsSameNode begun new) where
  pub heap_before : heap_in new.objects ≡ heap_in old.objects
  heap_before = heap_undone (heap_in old.objects) (heap_in begun.objects) (heap_in new.objects) stands idle is_begun is.objects

  pub state_undone : IsSameState old new
  state_undone = record {
    pages = is.live ∙ pages_begun old begun same idle is_begun;
    records = is.records ∙ same.records;
    numbers = is.numbers ∙ same.numbers;
    head = is.head ∙ rw same.log refl;
    base = is.base ∙ rw same.log refl;
    base_turns = is.base_turns ∙ same.base_turns;
    node = record { owner = node.owner ∙ same.owner; which = node.which ∙ same.which; other = node.other ∙ same.other };
    value = ap (λ (h : Heap). h.value) heap_before;
  }

  -- its worker takes calls again
  pub working_undone : (told : D → Option Story) (size : D → ℕ) (h : Handler) (w : TurnWorker D) (turns : Vec Effects Global) → Working told size h (record w { side = old }) → Turning told size new → turns.items ≡ w.turns.items → Working told size h (record w { side = new; turns = turns })
  working_undone told size h w turns working turning kept =
      let state = state_undone in
      record {
        side = turning;
        idle = ap (λ (x : Heap). x.begun) heap_before ∙ idle;
        node = rw state.node.owner working.node;
        nodes = rw state.node.owner working.nodes;
        order = rw state.numbers working.order;
        count = ap length kept ∙ rw state.numbers working.count;
        heap = rw (state.node.owner, state.value) working.heap;
      }
