-- A turn that a node makes and seals, of a whole node.
use Rattle.std.proofs.Common.{◌≡◌, ℕ, ◌+◌, ◌*◌, ◌^◌, ◌<◌, ◌≤◌, max, Bool, true, ◌&&◌, if◌then◌else◌, option_map, lt-ltb, List, [], ◌∷◌, ◌++◌, map, length, drop, slice_index, Option, Some, None, IsSome, refl, sym, ap, subst, ◌∙◌, arith, append_assoc}
use Rattle.std.specs.List.{AllByRecursion}
use Rattle.std.proofs.Math.Path.{fun_ext}
use Rattle.std.proofs.lemmas.List.{drop-append-le, length-append, length_push, map-append}
use Rattle.ken_disk.specs.Story.{Story}
use Rattle.ken_alloc.specs.Objects.{Heap, heap_in}
use Rattle.ken_model.specs.declared.messages.Message.{Message}
use Rattle.ken_model.specs.declared.messages.Out.{Out}
use Rattle.ken_model.specs.declared.messages.Send.{Send}
use Rattle.ken_model.specs.declared.values.Value.{Value}
use Rattle.ken_model.specs.Posted.{posted_after}
use Rattle.ken_model.specs.Effects.{Effect}
use Rattle.ken_model.specs.Game.{Game}
use Rattle.ken_model.specs.Network.{Turn, are_words, handled, outputs_from, turn_at}
use Rattle.ken_model.specs.Reading.{read_value}
use Rattle.ken_model.proofs.ReadBack.{read_some}
use Rattle.ken_record.specs.declared.base.Base.{Base}
use Rattle.ken_record.specs.declared.effects.Effects.{Effects}
use Rattle.ken_record.specs.declared.page.Page.{Page}
use Rattle.ken_record.specs.declared.record.Record.{Record}
use Rattle.ken_cover.specs.Overlay.{overlay}
use Rattle.ken_cover.specs.Sides.{TurnPages, handed_pages, sealed_pages}
use Rattle.ken_core.specs.Enabled.{AreChanged, Came, IsChanged, MaySeal, place_at}
use Rattle.ken_core.specs.Nodes.{Node}
use Rattle.ken_core.specs.Packets.{Packet}
use Rattle.ken_core.specs.Steps.{recovered_node, sealed_node}
use Rattle.ken_core.specs.Turns.{consumed_from, effects_of, mails_in, mails_to, outs_of, sealed, sent_of}
use Rattle.ken_core.proofs.Numbers.{mails_to-push, sealed-push}
use Rattle.ken_links.specs.Rings.{pushed, popped}
use Rattle.ken_outbox.specs.Waiting.{sent_to}
use Rattle.ken_store.specs.declared.numbers.Numbers.{Numbers}
use Rattle.ken_store.specs.declared.owner.Owner.{Owner}
use Rattle.ken_store.specs.declared.turning.TurnSide.{TurnSide}
use Rattle.ken_store.specs.Apart.{Apart, hand_all}
use Rattle.ken_store.specs.Numbers.{after_record}
use Rattle.ken_store.specs.Recovered.{state_of}
use Rattle.ken_store.specs.Kept.{messages_in, messages_to}
use Rattle.ken_store.specs.Turning.{IsChangedPage, IsSealed, KeepsLog, HasPages, MaySeal as MaySealOn, Turning, record_of, sealed_bytes, state_in, turn_pages}
use Rattle.ken_store.proofs.AheadLaws.{seal_keeps_settled}
use Rattle.ken_store.proofs.ApartLaws.{seal_keeps_apart, turn_keeps_apart}
use Rattle.ken_store.proofs.ApartPages.{hand_all-last}
use Rattle.ken_store.proofs.Sealing.{Comes, comes, pages_are}
use Rattle.ken_ship.specs.declared.worker.SendWorker.{SendWorker}
use Rattle.ken_ship.specs.Handing.{with_turns}
use Rattle.ken_ship.specs.Laws.{HasSent, IsDueOf, IsStateOf, IsTurnOf}
use Rattle.ken_ship.specs.Parts.{part_of}
use Rattle.ken_ship.proofs.Emissions.{handed_over_is_due}
use Rattle.ken_work.specs.declared.patcher.PatchWorker.{PatchWorker}
use Rattle.ken_work.specs.declared.worker.TurnWorker.{TurnWorker}
use Rattle.ken_work.specs.Calls.{IsKept}
use Rattle.ken_work.specs.Making.{IsMade, frozen_pages_of}
use Rattle.ken_work.specs.Meeting.{AreJoined}
use Rattle.ken_work.specs.Patches.{waits_of}
use Rattle.ken_work.specs.Sealing.{coming_pages, coming_turn}
use Rattle.ken_whole.specs.TurnLaws.{turn_made}
use Rattle.ken_whole.specs.Whole.{AreNumbersOf, HasReached, IsSettledAt, IsWhole, WereTold}
use Rattle.ken_work.specs.Workers.{Working, progress_told, turn_settled}
use Rattle.ken_whole.proofs.NumbersAfter.{numbers-after, outs-push}
use Rattle.ken_whole.proofs.Paced.{paced-sealed}
use Rattle.ken_whole.proofs.Queued.{with_turns-append}
use Rattle.ken_whole.proofs.StateAfter.{messages-one, messages-push, state-outs-push}
use Rattle.ken_whole.proofs.Told.{all_by, told-by}

-- a side with another heap of as many pages takes calls
begun-turns : {D : Type 0} (told : D → Option Story) (size : D → ℕ) (old new : TurnSide D) → Turning told size old → KeepsLog old new → HasPages old.owner.pages (heap_in new.objects) → Turning told size new
begun-turns told size old new is same heap = record {
  owner = rw same.owner is.owner;
  log = rw same.log is.log;
  mounts = rw (same.log, same.records) is.mounts;
  count = rw (same.log, same.records) is.count;
  items = rw same.records is.items;
  numbers = rw (same.owner, same.log, same.records, same.numbers) is.numbers;
  heap = rw same.owner heap;
  turns = rw (same.base_turns, same.log) is.turns;
  rests = rw same.other is.rests;
  other = rw (same.log, same.other, same.owner) is.other;
}

-- its pages are those before the turn
begun-pages : {D : Type 0} (old new : TurnSide D) → KeepsLog old new → old.objects.begun ≡ None → new.objects.begun ≡ Some old.objects.bytes → turn_pages new ≡ turn_pages old
begun-pages old new same idle begun =
    let now : sealed_bytes new.objects.bytes new.objects.begun ≡ old.objects.bytes = ap (sealed_bytes new.objects.bytes) begun in
    let was : sealed_bytes old.objects.bytes old.objects.begun ≡ old.objects.bytes = ap (sealed_bytes old.objects.bytes) idle in
    pages_are _ _ _ _ (now ∙ sym was) (rw (same.log, same.base_turns, same.records) refl)

words-are : (draws : List ℕ) → AllByRecursion (λ (d : ℕ). d < 2 ^ 64) draws → are_words draws ≡ true
words-are [] all = refl
words-are (d ∷ draws) all = ap (λ (b : Bool). b && are_words draws) (lt-ltb d (2 ^ 64) all.0) ∙ words-are draws all.1

-- a message that a node may take next: it came, and follows what the node has consumed of its sender
pub record IsNextOf (g : Game) (put : Packet → Type 0) (v : ℕ) (n : Node) (m : Message) : Type 0 where
  pub to : m.to ≡ v
  pub number : m.number ≡ consumed_from m.from n.turning.turns + 1
  pub came : Came g put v m

module _ {D : Type 0} (told : D → Option Story) (size : D → ℕ) (g : Game) (v : ℕ) (n : Node) (t : TurnWorker D) (p : PatchWorker D) (s : SendWorker) (whole : IsWhole told size g v n t p s) (m : Message) (e : Effects) (begun : TurnSide D) (made : IsMade g.handler m e t.side begun)
    (may : MaySealOn begun e) where
  -- the turn that its worker made, as its node has it
  abbrev pub turn : Turn
  turn = turn_made m e made.effect

  owner-node : t.side.owner.node ≡ v
  owner-node = whole.workers.working.node ∙ whole.workers.of_run.node

  owner-nodes : t.side.owner.nodes ≡ g.nodes
  owner-nodes = whole.workers.working.nodes ∙ whole.workers.of_run.nodes

  stamp-is : e.stamp ≡ max t.side.numbers.stamp m.stamp + 1
  stamp-is = ap (λ (x : Effects). x.stamp) made.effects

  -- what is kept of it is what the node keeps
  pub effects-are : e ≡ effects_of v n.turning.turns turn
  effects-are =
      let counted = whole.workers.turns.counted in
      let sends : List Send = made.effect.sends in
      let stamped : ℕ = max t.side.numbers.stamp m.stamp + 1 in
      let sent : (λ (w : ℕ). slice_index t.side.numbers.sent w) ≡ (λ (w : ℕ). length (mails_to v w n.turning.turns)) = fun_ext counted.sent in
      let with_sends : ℕ → ℕ → (ℕ → ℕ) → ℕ → Effects = λ (node stamp : ℕ) (counts : ℕ → ℕ) (outs : ℕ). record {
        from = m.from;
        number = m.number;
        stamp = stamp;
        draws = e.draws;
        sends = map sent_of (posted_after node stamp counts sends);
        outs = outputs_from outs made.effect.outs;
      } in
      made.effects
      ∙ ap (λ (k : ℕ). with_sends k stamped (λ (w : ℕ). slice_index t.side.numbers.sent w) t.side.numbers.outputs) owner-node
      ∙ ap (λ (k : ℕ). with_sends v k (λ (w : ℕ). slice_index t.side.numbers.sent w) t.side.numbers.outputs) (sym stamp-is)
      ∙ ap (λ (f : ℕ → ℕ). with_sends v e.stamp f t.side.numbers.outputs) sent
      ∙ ap (λ (k : ℕ). with_sends v e.stamp (λ (w : ℕ). length (mails_to v w n.turning.turns)) k) counted.outputs

  pub begun-heap : (turn_pages begun).heap ≡ n.turning.pages.heap
  begun-heap = ap (λ (x : TurnPages). x.heap) (begun-pages t.side begun made.same whole.workers.working.idle made.begun ∙ sym whole.pages.turning)

  -- what the handler makes of the message
  pub handler-made : g.handler.after v g.nodes t.side.objects.value m e.draws ≡ Some made.effect
  handler-made =
      ap (λ (k : ℕ). g.handler.after k g.nodes t.side.objects.value m e.draws) (sym owner-node)
      ∙ ap (λ (k : ℕ). g.handler.after t.side.owner.node k t.side.objects.value m e.draws) (sym owner-nodes)
      ∙ made.made

  -- and the turn
  turn-made : turn_at g v (place_at n t.side.objects.value) turn.draws m ≡ Some turn
  unfolding turn_at
  turn-made =
      let value : Value = t.side.objects.value in
      let words : are_words e.draws ≡ true = words-are e.draws made.words in
      let does : handled g v value m e.draws ≡ Some made.effect = ap (λ (b : Bool). if b then g.handler.after v g.nodes value m e.draws else None) words ∙ handler-made in
      let stamp : max (place_at n value).stamp m.stamp + 1 ≡ e.stamp = ap (λ (k : ℕ). max k m.stamp + 1) (sym whole.workers.turns.counted.stamp) ∙ sym stamp-is in
      ap (option_map (λ (x : Effect). record { message = m; draws = e.draws; stamp = max (place_at n value).stamp m.stamp + 1; effect = x })) does
      ∙ ap (λ (k : ℕ). Some (record { message = m; draws = e.draws; stamp = k; effect = made.effect })) stamp

  -- the pages that the turn changed, which laid over the heap make it the one that the turn leaves
  pub comes-of : Comes begun.owner begun.numbers (begun.numbers.turns + 1) e begun.objects.begun begun.objects.bytes
  comes-of =
      let same : t.side.owner.pages ≡ begun.owner.pages = ap (λ (o : Owner). o.pages) (sym made.same.owner) in
      let most : begun.owner.pages ≤ 4096 = let few = whole.workers.working.side.owner.most in omega (arith, same, few) in
      let sizes : HasPages begun.owner.pages (heap_in begun.objects) = subst (λ (k : ℕ). HasPages k (heap_in begun.objects)) same made.pages in
      comes begun.owner begun.numbers (begun.numbers.turns + 1) e begun.objects.bytes most may.fits may.follows sizes.bytes begun.objects.begun sizes.before (is-some begun.objects.begun made.begun)
    where
      is-some : (o : Option (List ℕ)) → o ≡ Some t.side.objects.bytes → IsSome o
      is-some None e = absurd cc
      is-some (Some b) e = refl

  pages-changed : AreChanged n.turning.pages.heap (coming_pages begun)
  pages-changed =
      let are = comes-of.changed in
      subst (λ (heap : List ℕ). AreChanged heap (coming_pages begun)) begun-heap
      (record { rising = are.rising; each = all_by (IsChangedPage (turn_pages begun).heap) (IsChanged (turn_pages begun).heap) (λ x is. record { within = is.within; bytes = is.bytes; differs = is.differs }) (coming_pages begun) are.each })

  -- and stands for its value
  pub stands-after : read_value (overlay n.turning.pages.heap (coming_pages begun)) ≡ Some made.effect.value
  stands-after =
      ap (λ (heap : List ℕ). read_value (overlay heap (coming_pages begun))) (sym begun-heap)
      ∙ ap read_value comes-of.laid
      ∙ read_some begun.objects.bytes begun.objects.value made.stands
      ∙ ap (λ (x : Value). Some x) made.value

  -- the node may seal the turn
  pub may-seal : (put : Packet → Type 0) → length n.turning.turns < g.turns → IsNextOf g put v n m → MaySeal g put v n m.from e.draws (coming_pages begun) turn
  may-seal put few next = record {
    up = whole.workers.sends.due.up;
    more = few;
    sender = refl;
    receiver = next.to;
    number = next.number;
    came = next.came;
    value = t.side.objects.value;
    reads = ap (λ (x : TurnPages). read_value x.heap) whole.pages.turning ∙ whole.workers.turns.reads;
    drawn = refl;
    made = turn-made;
    changed = pages-changed;
    stands = stands-after;
  }

  -- ---- what its record tells

  abbrev pub coming : Record
  coming = record_of (coming_turn begun) e (coming_pages begun)

  abbrev pub after : Node
  after = sealed_node v turn (coming_pages begun) n

  pub turns-are : after.turning.turns ≡ n.turning.turns ++ e ∷ []
  turns-are = ap (λ (x : Effects). n.turning.turns ++ x ∷ []) (sym effects-are)

  pub own-after : after.turning.turns ≡ sealed v (whole.workers.sends.due.own ++ turn ∷ [])
  own-after = ap (λ es. es ++ effects_of v es turn ∷ []) whole.workers.sends.due.turns ∙ sym (sealed-push v whole.workers.sends.due.own turn)

  pub number-is : coming_turn begun ≡ length n.turning.turns + 1
  number-is = ap (λ (x : Numbers). x.turns + 1) made.same.numbers ∙ ap (λ (k : ℕ). k + 1) whole.workers.turns.counted.turns

  pub counted-after : AreNumbersOf v after.turning.turns (after_record begun.numbers coming)
  counted-after =
      let nodes : begun.owner.nodes ≤ 8 = subst (λ (o : Owner). o.nodes ≤ 8) (sym made.same.owner) whole.workers.working.side.owner.nodes in
      let before : AreNumbersOf v n.turning.turns begun.numbers = subst (AreNumbersOf v n.turning.turns) (sym made.same.numbers) whole.workers.turns.counted in
      subst (λ es. AreNumbersOf v es (after_record begun.numbers coming)) (sym turns-are) (numbers-after v begun.owner begun.numbers n.turning.turns e (coming_turn begun) (coming_pages begun) nodes may.follows refl before)

  mails-push : (u : ℕ) → mails_to v u after.turning.turns ≡ mails_to v u n.turning.turns ++ mails_in v u e
  mails-push u = ap (mails_to v u) turns-are ∙ mails_to-push v u n.turning.turns e

  outs-more : outs_of after.turning.turns ≡ outs_of n.turning.turns ++ e.outs
  outs-more = ap outs_of turns-are ∙ outs-push n.turning.turns e

  more-mails : (u : ℕ) → length (mails_to v u n.turning.turns) ≤ length (mails_to v u after.turning.turns)
  more-mails u = let count = ap length (mails-push u) ∙ length-append (mails_to v u n.turning.turns) (mails_in v u e) in omega (arith, count)

  more-outs : length (outs_of n.turning.turns) ≤ length (outs_of after.turning.turns)
  more-outs = let count = ap length outs-more ∙ length-append (outs_of n.turning.turns) e.outs in omega (arith, count)

  -- with it the log tells the state with the turn
  pub state-after : IsStateOf g v (recovered_node after) (state_of v (after_record begun.numbers coming) t.side.log.base (t.side.records.items ++ coming ∷ []))
  state-after =
      let w = whole.workers in
      let old = w.log.state in
      let counted = counted-after in
      record {
        width = counted.receivers;
        sent = λ u low. counted.sent u;
        messages = λ u low.
            let few : u < 8 = let nodes = owner-nodes in let most = w.working.side.owner.nodes in omega (arith, low, nodes, most) in
            let a : ℕ = slice_index n.turning.retired u in
            let mails : List Message = mails_to v u n.turning.turns in
            let before : messages_to v t.side.log.base t.side.records.items u ≡ drop a mails =
            sym (messages-one v t.side.log.base t.side.records.items u few) ∙ ap (λ (k : ℕ). sent_to u (messages_in k t.side.log.base t.side.records.items)) (sym owner-node) ∙ old.messages u low in
            messages-one v t.side.log.base (t.side.records.items ++ coming ∷ []) u few
            ∙ messages-push v t.side.log.base t.side.records.items (coming_turn begun) e (coming_pages begun) u
            ∙ ap (λ (ms : List Message). ms ++ mails_in v u e) before
            ∙ sym (drop-append-le a mails (mails_in v u e) (w.log.sent.acked u low))
            ∙ ap (drop a) (sym (mails-push u));
        outputs = counted.outputs;
        outs =
            state-outs-push t.side.log.base t.side.records.items (coming_turn begun) e (coming_pages begun)
            ∙ ap (λ (os : List Out). os ++ e.outs) old.outs
            ∙ sym (drop-append-le n.turning.retired_outs (outs_of n.turning.turns) e.outs w.log.sent.emitted)
            ∙ ap (drop n.turning.retired_outs) (sym outs-more);
      }

  pub sent-after : HasSent g v (recovered_node after)
  sent-after =
      let old = whole.workers.log.sent in
      record { acked = λ u low. let before = old.acked u low in let more = more-mails u in omega (arith, before, more); emitted = let before = old.emitted in let more = more-outs in omega (arith, before, more) }

  -- ---- and it was sealed

  module _ (t2 : TurnWorker D) (room : length t.side.records.items < 32) (is : IsSealed e begun (coming_turn begun) (coming_pages begun) t2.side) (owner : t2.side.owner ≡ begun.owner) (kept : IsKept (coming_turn begun) m e begun t t2) (working : Working told size g.handler t2) (joined : AreJoined t2 p s) where
    owner-is : t2.side.owner ≡ t.side.owner
    owner-is = owner ∙ made.same.owner

    state-then : state_in t2.side ≡ state_of v (after_record begun.numbers coming) t.side.log.base (t.side.records.items ++ coming ∷ [])
    state-then =
        let node : t2.side.owner.node ≡ v = ap (λ (o : Owner). o.node) owner-is ∙ owner-node in
        let base : t2.side.log.base ≡ t.side.log.base = is.base ∙ ap (λ x. x.base) made.same.log in
        let items : t2.side.records.items ≡ t.side.records.items ++ coming ∷ [] = is.records ∙ ap (λ (rs : List Record). rs ++ coming ∷ []) made.same.records in
        ap (λ (k : ℕ). state_of k t2.side.numbers t2.side.log.base t2.side.records.items) node
        ∙ ap (λ (k : Numbers). state_of v k t2.side.log.base t2.side.records.items) is.numbers
        ∙ ap (λ (x : Option Base). state_of v (after_record begun.numbers coming) x t2.side.records.items) base
        ∙ ap (λ (rs : List Record). state_of v (after_record begun.numbers coming) t.side.log.base rs) items

    -- the two sides, with the turn on its way to the patcher
    apart-after : Apart told size t2.side p.side (waits_of whole.pages.queue ++ (coming_turn begun, coming_pages begun) ∷ []) whole.pages.image
    apart-after =
        let h = whole.pages in
        let w = whole.workers in
        let turns : Turning told size begun = begun-turns told size t.side begun w.working.side made.same made.pages in
        let start : Apart told size begun p.side (waits_of h.queue) h.image =
        turn_keeps_apart told size t.side begun p.side (waits_of h.queue) h.image h.apart turns (begun-pages t.side begun made.same w.working.idle made.begun) made.same.owner made.same.numbers in
        seal_keeps_apart told size begun t2.side p.side (waits_of h.queue) h.image e (coming_turn begun) (coming_pages begun) start working.side is comes-of.changed owner

    waits-after : waits_of (whole.pages.queue ++ kept.frozen ∷ []) ≡ waits_of whole.pages.queue ++ (coming_turn begun, coming_pages begun) ∷ []
    waits-after = map-append frozen_pages_of whole.pages.queue (kept.frozen ∷ []) ∙ ap (λ (x : ℕ × List Page). waits_of whole.pages.queue ++ x ∷ []) kept.frozen_is

    due-after : IsDueOf g v after (with_turns v (whole.workers.sends.queue ++ kept.handed ∷ []) (part_of s).due)
    due-after =
        let d = whole.workers.sends in
        let of_turn : IsTurnOf kept.handed e = record { stamp = kept.handed_is.stamp; sends = kept.handed_is.sends; outs = kept.handed_is.outs } in
        subst (IsDueOf g v after) (sym (with_turns-append v d.queue (kept.handed ∷ []) (part_of s).due))
        (handed_over_is_due g v n after (with_turns v d.queue (part_of s).due) kept.handed e (d.due.own ++ turn ∷ []) d.due d.sent d.due.up turns-are own-after refl of_turn)

    pub whole-sealed : IsWhole told size g v after t2 p s
    whole-sealed =
        let w = whole.workers in
        let h = whole.pages in
        let rest = kept.rest in
        let live : turn_pages t2.side ≡ after.turning.pages =
        is.live
        ∙ ap (sealed_pages (coming_turn begun) (coming_pages begun)) (begun-pages t.side begun made.same w.working.idle made.begun ∙ sym h.turning)
        ∙ ap (λ (k : ℕ). sealed_pages k (coming_pages begun) n.turning.pages) number-is in
        let waits : List (ℕ × List Page) = waits_of h.queue in
        record {
          workers = record {
            of_run = record {
              node = ap (λ (x : TurnWorker D). x.node) rest ∙ w.of_run.node;
              nodes = ap (λ (x : TurnWorker D). x.nodes) rest ∙ w.of_run.nodes;
              cap = ap (λ (x : TurnWorker D). x.cap) rest ∙ w.of_run.cap;
              size = ap (λ (o : Owner). 256 * o.pages) owner-is ∙ w.of_run.size;
              inputs = ap (λ (x : TurnWorker D). x.inputs.items) rest ∙ w.of_run.inputs;
              sender = w.of_run.sender;
              receivers = w.of_run.receivers;
            };
            joined = joined;
            working = working;
            turns = record {
              kept = kept.turns ∙ ap (λ es. es ++ e ∷ []) w.turns.kept ∙ sym turns-are;
              counted = subst (AreNumbersOf v after.turning.turns) (sym is.numbers) counted-after;
              reads =
                  ap (λ (x : TurnPages). read_value x.heap) is.live
                  ∙ ap read_value comes-of.laid
                  ∙ read_some begun.objects.bytes begun.objects.value made.stands
                  ∙ ap (λ (x : Heap). Some x.value) (sym is.objects);
            };
            log = record {
              state = subst (IsStateOf g v (recovered_node after)) (sym state-then) state-after;
              sent = sent-after;
              width = w.log.width;
              paced = paced-sealed t.side begun t2.side e (coming_pages begun) w.log.paced room made.same is;
            };
            sends = record {
              queue = w.sends.queue ++ kept.handed ∷ [];
              ring = kept.sealed ∙ ap (λ xs. xs ++ kept.handed ∷ []) w.sends.ring ∙ append_assoc (popped s.sealed) w.sends.queue (kept.handed ∷ []);
              due = due-after;
              sent = record { acked = λ u low. let old = w.sends.sent.acked u low in let more = more-mails u in omega (arith, old, more); emitted = let old = w.sends.sent.emitted in let more = more-outs in omega (arith, old, more) };
            };
            settled = subst (λ (x : TurnWorker D). WereTold turn_settled (IsSettledAt after) (pushed p.settled) (popped x.settled) x.told.settled) (sym rest)
                (told-by turn_settled (IsSettledAt n) (IsSettledAt after) (pushed p.settled) (popped t.settled) t.told.settled settled-after w.settled);
            progress = subst (λ (x : TurnWorker D). WereTold progress_told (HasReached g after) (pushed s.told) (popped x.progress) x.told.progress) (sym rest)
                (told-by progress_told (HasReached g n) (HasReached g after) (pushed s.told) (popped t.progress) t.told.progress (λ x at. record { acked = at.acked; emitted = at.emitted }) w.progress);
          };
          pages = record {
            queue = h.queue ++ kept.frozen ∷ [];
            ring = kept.pages ∙ ap (λ xs. xs ++ kept.frozen ∷ []) h.ring ∙ append_assoc (popped p.pages) h.queue (kept.frozen ∷ []);
            image = h.image;
            apart = subst (λ (ws : List (ℕ × List Page)). Apart told size t2.side p.side ws h.image) (sym waits-after) apart-after;
            turning = sym live;
            patching =
                ap (λ (k : ℕ). handed_pages k (coming_pages begun) n.patching) (sym number-is)
                ∙ ap (handed_pages (coming_turn begun) (coming_pages begun)) h.patching
                ∙ sym (hand_all-last waits (coming_turn begun) (coming_pages begun) h.image)
                ∙ ap (λ (ws : List (ℕ × List Page)). hand_all ws h.image) (sym waits-after);
          };
        }
      where
        settled-after : (x : ℕ) → IsSettledAt n x → IsSettledAt after x
        settled-after x at = record {
          made = let count = length_push n.turning.turns (effects_of v n.turning.turns turn) in let old = at.made in omega (arith, count, old);
          clean = seal_keeps_settled x (length n.turning.turns + 1) (coming_pages begun) n.turning.pages n.patching (let old = at.made in omega (arith, old)) at.clean;
        }
