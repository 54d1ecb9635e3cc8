-- A whole node where its handler's side is as it was, and after a turnover.
use Rattle.std.proofs.Common.{◌≡◌, ℕ, zero, suc, ◌+◌, ◌*◌, ◌<◌, ◌≤◌, max, List, [], ◌∷◌, ◌++◌, length, drop, slice_index, IsTrue, true, Option, Some, refl, sym, ap, subst, ◌∙◌, ⊎_elim, arith, zero-add}
use Rattle.std.proofs.lemmas.Bool.{cases_lt}
use Rattle.std.proofs.lemmas.List.{get_or_past}
use Rattle.std.proofs.lemmas.List.FromFn.{get_or-map-range_with_len, length-map-range_with_len}
use Rattle.ken_disk.specs.Story.{Story}
use Rattle.ken_model.specs.declared.messages.Message.{Message}
use Rattle.ken_model.specs.declared.values.Value.{Value}
use Rattle.ken_model.specs.Game.{Game}
use Rattle.ken_model.specs.History.{place_of}
use Rattle.ken_model.specs.Reading.{read_value}
use Rattle.ken_record.specs.declared.base.Base.{Base}
use Rattle.ken_record.specs.declared.record.Record.{Record}
use Rattle.ken_cover.specs.Covers.{MayLeaveOut}
use Rattle.ken_cover.specs.Sides.{TurnPages, turned_pages}
use Rattle.ken_core.specs.Enabled.{MayTurn}
use Rattle.ken_core.specs.Nodes.{Node, heap_pages}
use Rattle.ken_core.specs.Steps.{raised, recovered_node, turned_node}
use Rattle.ken_core.specs.Turns.{mails_to, outs_of}
use Rattle.ken_core.proofs.Numbers.{IsPlace-sealed}
use Rattle.ken_links.specs.Rings.{pushed, popped}
use Rattle.ken_store.specs.declared.numbers.Numbers.{Numbers}
use Rattle.ken_store.specs.declared.owner.Owner.{Owner}
use Rattle.ken_store.specs.declared.turning.TurnSide.{TurnSide}
use Rattle.ken_store.specs.Apart.{hand_all}
use Rattle.ken_store.specs.Recovered.{state_of}
use Rattle.ken_store.specs.Turning.{state_in, turn_pages}
use Rattle.ken_store.specs.Turnovers.{IsTurned, without_told}
use Rattle.ken_store.proofs.AheadLaws.{turnover_keeps_settled}
use Rattle.ken_store.proofs.ApartLaws.{turn_keeps_apart, turnover_keeps_apart}
use Rattle.ken_ship.specs.declared.worker.SendWorker.{SendWorker}
use Rattle.ken_ship.specs.Laws.{HasSent, IsStateOf}
use Rattle.ken_ship.proofs.Emissions.{others_keep_due}
use Rattle.ken_ship.proofs.Numbered.{AreFrom, drop_from, mails_are_from}
use Rattle.ken_work.specs.declared.patcher.PatchWorker.{PatchWorker}
use Rattle.ken_work.specs.declared.worker.TurnWorker.{TurnWorker}
use Rattle.ken_work.specs.Meeting.{AreJoined}
use Rattle.ken_work.specs.Patches.{waits_of}
use Rattle.ken_whole.specs.TurnLaws.{told_of}
use Rattle.ken_work.specs.Sealing.{is_full}
use Rattle.ken_whole.specs.Whole.{AreNumbersOf, AreOfRun, AreWorkersOf, HasReached, HasTurns, HavePages, IsSettledAt, IsWhole, TellsState, WereTold}
use Rattle.ken_work.specs.Workers.{Working, progress_told, turn_settled}
use Rattle.ken_whole.proofs.StateAfter.{outs-left, waiting-left}
use Rattle.ken_whole.proofs.Paced.{paced-still, paced-turned}
use Rattle.ken_whole.proofs.Told.{told-by}

-- what a log tells depends on these alone
pub state-same : {D : Type 0} (a b : TurnSide D) → b.owner ≡ a.owner → b.numbers ≡ a.numbers → b.log.base ≡ a.log.base → b.records.items ≡ a.records.items → state_in b ≡ state_in a
state-same a b owner numbers base records =
    ap (λ (o : Owner). state_of o.node b.numbers b.log.base b.records.items) owner
    ∙ ap (λ (n : Numbers). state_of a.owner.node n b.log.base b.records.items) numbers
    ∙ ap (λ (x : Option Base). state_of a.owner.node a.numbers x b.records.items) base
    ∙ ap (λ (rs : List Record). state_of a.owner.node a.numbers a.log.base rs) records

module _ {D : Type 0} (told : D → Option Story) (size : D → ℕ) (g : Game) (v : ℕ) where
  -- ---- only the side and the list of turns may be others

  module _ (t t2 : TurnWorker D) (rest : t2 ≡ record t { side = t2.side; turns = t2.turns }) where
    pub of-run-side : (s : SendWorker) → t2.side.owner ≡ t.side.owner → AreOfRun g v t s → AreOfRun g v t2 s
    of-run-side s owner is = record {
      node = ap (λ (x : TurnWorker D). x.node) rest ∙ is.node;
      nodes = ap (λ (x : TurnWorker D). x.nodes) rest ∙ is.nodes;
      cap = ap (λ (x : TurnWorker D). x.cap) rest ∙ is.cap;
      size = ap (λ (o : Owner). 256 * o.pages) owner ∙ is.size;
      inputs = ap (λ (x : TurnWorker D). x.inputs.items) rest ∙ is.inputs;
      sender = is.sender;
      receivers = is.receivers;
    }

    pub joined-side : (p : PatchWorker D) (s : SendWorker) → AreJoined t p s → AreJoined t2 p s
    joined-side p s j = subst (λ (x : TurnWorker D). AreJoined x p s) (sym rest) (record { pages = j.pages; sealed = j.sealed; settled = j.settled; progress = j.progress })

    -- the node's turns and its sends are the same
    workers-side : (n n2 : Node) (p : PatchWorker D) (s : SendWorker) → AreWorkersOf told size g v n t p s → t2.side.owner ≡ t.side.owner → Working told size g.handler t2 → IsTrue n2.turning.up → n2.turning.turns ≡ n.turning.turns → n2.sending ≡ n.sending
        → HasTurns v n2 t2 → TellsState g v n2 t2 → ((settled : ℕ) → IsSettledAt n settled → IsSettledAt n2 settled) → AreWorkersOf told size g v n2 t2 p s
    workers-side n n2 p s w owner working up same_turns sends turns log settled =
        let acks : n2.sending.acked ≡ n.sending.acked = ap (λ x. x.acked) sends in
        let emits : n2.sending.emitted ≡ n.sending.emitted = ap (λ x. x.emitted) sends in
        record {
          of_run = of-run-side s owner w.of_run;
          joined = joined-side p s w.joined;
          working = working;
          turns = turns;
          log = log;
          sends = record {
            queue = w.sends.queue;
            ring = ap (λ (x : TurnWorker D). pushed x.sealed) rest ∙ w.sends.ring;
            due = others_keep_due g v n n2 _ w.sends.due up same_turns sends;
            sent = record {
              acked = λ u low. let old = w.sends.sent.acked u low in let number = ap (λ (ns : List ℕ). slice_index ns u) acks in let mails = ap (λ es. length (mails_to v u es)) same_turns in omega (arith, old, number, mails);
              emitted = let old = w.sends.sent.emitted in let outs = ap (λ es. length (outs_of es)) same_turns in omega (arith, old, emits, outs);
            };
          };
          settled = subst (λ (x : TurnWorker D). WereTold turn_settled (IsSettledAt n2) (pushed p.settled) (popped x.settled) x.told.settled) (sym rest) (told-by turn_settled (IsSettledAt n) (IsSettledAt n2) (pushed p.settled) (popped t.settled) t.told.settled settled w.settled);
          progress = subst (λ (x : TurnWorker D). WereTold progress_told (HasReached g n2) (pushed s.told) (popped x.progress) x.told.progress) (sym rest)
              (told-by progress_told (HasReached g n) (HasReached g n2) (pushed s.told) (popped t.progress) t.told.progress
              (λ x is. record { acked = λ u low. let old = is.acked u low in let number = ap (λ (ns : List ℕ). slice_index ns u) acks in omega (arith, old, number); emitted = let old = is.emitted in omega (arith, old, emits) }) w.progress);
        }

    pages-ring : (n : Node) (p : PatchWorker D) (pages : HavePages told size n t p) → pushed t2.pages ≡ popped p.pages ++ pages.queue
    pages-ring n p pages = ap (λ (x : TurnWorker D). pushed x.pages) rest ∙ pages.ring

    -- the side tells the same
    pub whole-still : (n : Node) (p : PatchWorker D) (s : SendWorker) → IsWhole told size g v n t p s → t2.turns.items ≡ t.turns.items → turn_pages t2.side ≡ turn_pages t.side → t2.side.objects.value ≡ t.side.objects.value → t2.side.owner ≡ t.side.owner
        → t2.side.numbers ≡ t.side.numbers → t2.side.log.header ≡ t.side.log.header → t2.side.log.base ≡ t.side.log.base → t2.side.records.items ≡ t.side.records.items → Working told size g.handler t2 → IsWhole told size g v n t2 p s
    whole-still n p s whole turns pages value owner numbers head base records working =
        let w = whole.workers in
        let h = whole.pages in
        record {
          workers = workers-side n n p s w owner working w.sends.due.up refl refl
              (record {
                kept = turns ∙ w.turns.kept;
                counted = subst (AreNumbersOf v n.turning.turns) (sym numbers) w.turns.counted;
                reads = ap (λ (x : TurnPages). read_value x.heap) pages ∙ w.turns.reads ∙ ap (λ (x : Value). Some x) (sym value);
              })
              (record { state = subst (IsStateOf g v (recovered_node n)) (sym (state-same t.side t2.side owner numbers base records)) w.log.state; sent = w.log.sent; width = w.log.width; paced = paced-still t.side t2.side head records w.log.paced })
              (λ x is. is);
          pages = record {
            queue = h.queue;
            ring = pages-ring n p h;
            image = h.image;
            apart = turn_keeps_apart told size t.side t2.side p.side (waits_of h.queue) h.image h.apart working.side pages owner numbers;
            turning = h.turning ∙ sym pages;
            patching = h.patching;
          };
        }

  -- ---- a turnover

  -- numbers that are raised
  pub raised-long : (ns xs : List ℕ) → length (raised ns xs) ≡ length ns
  raised-long [] xs = refl
  raised-long (n ∷ ns) [] = refl
  raised-long (n ∷ ns) (x ∷ xs) = ap suc (raised-long ns xs)

  raised-at : (ns xs : List ℕ) (u : ℕ) → u < length ns → slice_index (raised ns xs) u ≡ max (slice_index ns u) (slice_index xs u)
  raised-at [] xs u low = absurd (omega (arith, low))
  raised-at (n ∷ ns) [] u low = let none : slice_index [] u ≡ 0 = get_or_past [] u 0 (omega arith) in omega (arith, none)
  raised-at (n ∷ ns) (x ∷ xs) zero low = refl
  raised-at (n ∷ ns) (x ∷ xs) (suc u) low = raised-at ns xs u (omega (arith, low))

  -- of a node of the run what was told is the externaliser's number
  told-at : (t : TurnWorker D) (u : ℕ) → u < g.nodes → slice_index (told_of g t).acked u ≡ slice_index t.told.progress.acked u
  told-at t u low = get_or-map-range_with_len (λ (k : ℕ). slice_index t.told.progress.acked k) 0 g.nodes u u 0 low (zero-add u)

  -- the node may make the turnover
  pub may-turn : (n : Node) (t : TurnWorker D) (p : PatchWorker D) (s : SendWorker) → IsWhole told size g v n t p s → MayTurn g n (told_of g t)
  may-turn n t p s whole =
      let w = whole.workers in
      let long : length (told_of g t).acked ≡ g.nodes = length-map-range_with_len (λ (k : ℕ). slice_index t.told.progress.acked k) 0 g.nodes in
      record {
        up = w.sends.due.up;
        width = long;
        acked = λ u.
            ⊎_elim
            (λ (low : u < g.nodes). let here = told-at t u low in let most = w.progress.holds.acked u low in omega (arith, here, most))
            (λ (high : g.nodes ≤ u). let none : slice_index (told_of g t).acked u ≡ 0 = get_or_past (told_of g t).acked u 0 (omega (arith, long, high)) in omega (arith, none))
            (cases_lt u g.nodes);
        emitted = w.progress.holds.emitted;
        clean = w.settled.holds.clean;
      }

  module _ (n : Node) (t t2 : TurnWorker D) (p : PatchWorker D) (s : SendWorker) (whole : IsWhole told size g v n t p s) where
    abbrev pub turned : Node
    turned = turned_node (heap_pages g) (told_of g t) n

    retired-at : (u : ℕ) → u < g.nodes → slice_index turned.turning.retired u ≡ max (slice_index n.turning.retired u) (slice_index t.told.progress.acked u)
    retired-at u low =
        let width = whole.workers.log.width in
        let at = told-at t u low in
        raised-at n.turning.retired (told_of g t).acked u (omega (arith, width, low)) ∙ ap (max (slice_index n.turning.retired u)) at

    -- the state without what is retired
    pub state-turned : IsStateOf g v (recovered_node turned) (without_told t.told.progress.acked t.told.progress.emitted (state_in t.side))
    state-turned =
        let w = whole.workers in
        let old = w.log.state in
        let own = w.sends.due.own in
        let is = w.sends.due.turns in
        record {
          width = old.width;
          sent = old.sent;
          messages = λ u low.
              let mails : List Message = mails_to v u n.turning.turns in
              let a : ℕ = slice_index n.turning.retired u in
              let start : 0 + a ≡ a = zero-add a in
              let from : AreFrom v u a (drop a mails) = subst (λ (k : ℕ). AreFrom v u k (drop a mails)) start (drop_from v u 0 a mails (mails_are_from v u n.turning.turns own is)) in
              waiting-left t.told.progress.acked v u a mails (state_in t.side).messages from (old.messages u low) ∙ ap (λ (k : ℕ). drop k mails) (sym (retired-at u low));
          outputs = old.outputs;
          outs = outs-left t.told.progress.emitted n.turning.retired_outs (place_of g own).outs (state_in t.side).outs (outs_of n.turning.turns) (ap outs_of is ∙ (IsPlace-sealed g v own).outs) old.outs;
        }

    pub sent-turned : HasSent g v (recovered_node turned)
    sent-turned =
        let w = whole.workers in
        record {
          acked = λ u low.
              let at = retired-at u low in
              let old = w.log.sent.acked u low in
              let reached = w.progress.holds.acked u low in
              let most = w.sends.sent.acked u low in
              omega (arith, at, old, reached, most);
          emitted = let old = w.log.sent.emitted in let reached = w.progress.holds.emitted in let most = w.sends.sent.emitted in omega (arith, old, reached, most);
        }

    pub whole-turned : is_full t.side ≡ true → t2 ≡ record t { side = t2.side; turns = t2.turns } → t2.turns.items ≡ t.turns.items → IsTurned t.told.settled t.told.progress.acked t.told.progress.emitted t.side t2.side → Working told size g.handler t2 → IsWhole told size g v turned t2 p s
    whole-turned full rest kept is working =
        let w = whole.workers in
        let h = whole.pages in
        let count : heap_pages g ≡ t.side.owner.pages = let sized = w.of_run.size in omega (arith, sized) in
        let turns : t.side.numbers.turns ≡ length n.turning.turns = w.turns.counted.turns in
        let live : turn_pages t2.side ≡ turned.turning.pages =
        is.live
        ∙ ap (λ (k : ℕ). turned_pages k t.told.settled t.side.numbers.turns (turn_pages t.side)) (sym count)
        ∙ ap (λ (k : ℕ). turned_pages (heap_pages g) t.told.settled k (turn_pages t.side)) turns
        ∙ ap (turned_pages (heap_pages g) t.told.settled (length n.turning.turns)) (sym h.turning) in
        let clean : MayLeaveOut t.told.settled (turn_pages t.side) (hand_all (waits_of h.queue) h.image) =
        subst (λ (x : TurnPages). MayLeaveOut t.told.settled x (hand_all (waits_of h.queue) h.image)) h.turning (subst (MayLeaveOut t.told.settled n.turning.pages) h.patching w.settled.holds.clean) in
        record {
          workers = workers-side t t2 rest n turned p s w is.owner working w.sends.due.up refl refl
              (record {
                kept = kept ∙ w.turns.kept;
                counted = subst (AreNumbersOf v n.turning.turns) (sym is.numbers) w.turns.counted;
                reads = ap (λ (x : TurnPages). read_value x.heap) is.live ∙ w.turns.reads ∙ ap (λ x. Some x.value) (sym is.objects);
              })
              (record { state = subst (IsStateOf g v (recovered_node turned)) (sym is.state) state-turned; sent = sent-turned; width = raised-long n.turning.retired (told_of g t).acked ∙ w.log.width; paced = paced-turned t.side t2.side t.told.settled t.told.progress.acked t.told.progress.emitted w.log.paced full is })
              (λ x at. record { made = at.made; clean = turnover_keeps_settled (heap_pages g) t.told.settled (length n.turning.turns) x n.turning.pages n.patching at.clean });
          pages = record {
            queue = h.queue;
            ring = pages-ring t t2 rest n p h;
            image = h.image;
            apart = turnover_keeps_apart told size t.side t2.side p.side (waits_of h.queue) h.image t.told.settled h.apart clean working.side is.live is.owner is.numbers;
            turning = sym live;
            patching = h.patching;
          };
        }
