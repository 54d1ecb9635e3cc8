-- A node that was recovered stands for what came of it.
use Rattle.std.proofs.Common.{◌≡◌, ℕ, ◌*◌, ◌<◌, inl, inr, ◌⊎◌, ⊎_elim, List, [], ◌∷◌, ◌++◌, length, map, replicate, take, Bool, true, refl, sym, ap, subst, ◌∙◌, arith, Option, Some, Ok}
use Rattle.std.proofs.lemmas.List.{append-nil}
use Rattle.ken_disk.specs.Story.{Story}
use Rattle.ken_disk.proofs.Images.{image_at_rest}
use Rattle.ken_model.specs.declared.states.State.{State}
use Rattle.ken_model.specs.declared.values.Value.{Value}
use Rattle.ken_model.specs.Game.{Game}
use Rattle.ken_model.specs.Limits.{IsWithinLimits}
use Rattle.ken_model.specs.Reading.{read_value}
use Rattle.ken_record.specs.declared.base.Base.{Base}
use Rattle.ken_record.specs.declared.header.Header.{Header}
use Rattle.ken_record.specs.declared.page.Page.{Page}
use Rattle.ken_record.specs.declared.record.Record.{Record}
use Rattle.ken_log.specs.Mounts.{mount_of}
use Rattle.ken_log.specs.Mounts as mounts
use Rattle.ken_cover.specs.declared.layers.Change.{Change}
use Rattle.ken_cover.specs.declared.layers.Layer.{Layer}
use Rattle.ken_cover.specs.Covers.{Covers, IsPossible}
use Rattle.ken_cover.specs.Laws.{IsLeft}
use Rattle.ken_cover.specs.Overlay.{among, numbers, overlay}
use Rattle.ken_cover.specs.Sides.{ImagePages, TurnPages, crashed_pages, pages_of, recounted, recovered_image_pages, with_pages}
use Rattle.ken_cover.proofs.Bases.{pages_of-recounted, pages_of-with_pages}
use Rattle.ken_cover.proofs.Left.{images_are_left}
use Rattle.ken_core.specs.Calls.{Call, Doubt}
use Rattle.ken_core.specs.Laws.{restarted_node}
use Rattle.ken_core.specs.Nodes.{Node, heap_pages}
use Rattle.ken_core.specs.Packets.{Packet, nothing}
use Rattle.ken_core.specs.Steps.{recovered_node}
use Rattle.ken_core.proofs.Doubt.{restart_keeps_heap}
use Rattle.ken_links.specs.declared.pop_end.PopEnd.{PopEnd}
use Rattle.ken_links.specs.declared.push_end.PushEnd.{PushEnd}
use Rattle.ken_links.specs.Rings.{pushed, popped}
use Rattle.ken_order.specs.Consumed.{Consumed}
use Rattle.ken_store.specs.declared.disks.Disks.{Disks}
use Rattle.ken_store.specs.declared.disks.Which.{Which}
use Rattle.ken_store.specs.declared.disks.Which.TheVariants.{First, Second}
use Rattle.ken_store.specs.declared.owner.Owner.{Owner}
use Rattle.ken_store.specs.declared.patching.PatchSide.{PatchSide}
use Rattle.ken_store.specs.declared.store.Store.{Store}
use Rattle.ken_store.specs.declared.turning.TurnSide.{TurnSide}
use Rattle.ken_store.specs.Answers.{AreAtRest, disks_from, disks_in}
use Rattle.ken_store.specs.Apart.{Apart}
use Rattle.ken_store.specs.Kept.{base_pages}
use Rattle.ken_store.specs.Logs.{is_owned, log_on, other_log}
use Rattle.ken_store.specs.Patching.{HoldsImage}
use Rattle.ken_store.specs.Recovered.{Whole, numbers_of, recovered, state_of}
use Rattle.ken_store.specs.Standing.{IsReadyStore, Standing}
use Rattle.ken_store.specs.Turning.{IsPassed, live_layers, turn_pages}
use Rattle.ken_store.proofs.Mounted.{front_whole}
use Rattle.ken_store.proofs.Recovering.{seen_on}
use Rattle.ken_ship.specs.declared.worker.SendWorker.{SendWorker}
use Rattle.ken_ship.specs.Laws.{HasSent, IsDueOf, IsStateOf}
use Rattle.ken_ship.proofs.Resumed.{resumed_is_due}
use Rattle.ken_work.specs.declared.items.Feedback.{Feedback}
use Rattle.ken_work.specs.declared.patcher.PatchWorker.{PatchWorker}
use Rattle.ken_work.specs.declared.worker.TurnWorker.{TurnWorker}
use Rattle.ken_whole.specs.New.{owner_of}
use Rattle.ken_node.specs.Down.{Left, MountedLog}
use Rattle.ken_work.specs.Meeting.{IsEmptied}
use Rattle.ken_whole.specs.Paced.{IsPaced}
use Rattle.ken_node.specs.Restarts.{AreOfRestart, GoOnFrom}
use Rattle.ken_work.specs.Parts.{kept_turns}
use Rattle.ken_whole.specs.Whole.{AreNumbersOf, HasReached, IsSettledAt, IsWhole, WereTold}
use Rattle.ken_app.specs.Limits.{ComesTo}
use Rattle.ken_work.specs.Workers.{Working, progress_told, turn_settled}
use Rattle.ken_node.proofs.Creation.{size_is}
use Rattle.ken_node.proofs.FoundAgain.{HasLog, log-is-found, whole-has-log}
use Rattle.ken_whole.proofs.NewWhole.{zero-at}
use Rattle.ken_node.proofs.RestartEvents.{restart-call, turns-kept}

-- ---- pages that are recovered

recount-twice : (turn : ℕ) (cs : List Change) → map (λ (c : Change). record c { turn = turn }) (map (λ (c : Change). record c { turn = turn }) cs) ≡ map (λ (c : Change). record c { turn = turn }) cs
recount-twice turn [] = refl
recount-twice turn (c ∷ cs) = ap (λ l. record c { turn = turn } ∷ l) (recount-twice turn cs)

recounted-twice : (ls : List Layer) → map recounted (map recounted ls) ≡ map recounted ls
recounted-twice [] = refl
recounted-twice (l ∷ ls) =
    ap (λ cs. record { turn = l.turn; changes = cs } ∷ map recounted (map recounted ls)) (recount-twice l.turn l.changes) ∙ ap (λ rest. recounted l ∷ rest) (recounted-twice ls)

-- to recover by layers that are recounted is to recover
image-recounted : (live : List Layer) (i : ImagePages) → recovered_image_pages (map recounted live) i ≡ recovered_image_pages live i
image-recounted live i =
    ap (λ ls. record i { ahead = with_pages ls; unclean = λ p. among (numbers (pages_of (map recounted live))) p }) (recounted-twice live)
    ∙ ap (λ es. record i { ahead = with_pages (map recounted live); unclean = λ p. among (numbers es) p }) (pages_of-recounted live)

-- what is to patch, laid over the image, is the heap that is recovered
recovered-heap : (live : List Layer) (i : ImagePages) (heap : List ℕ) → overlay (recovered_image_pages live i).image (pages_of (recovered_image_pages live i).ahead) ≡ heap → overlay i.image (pages_of live) ≡ heap
recovered-heap live i heap goal = ap (overlay i.image) (sym (pages_of-with_pages (map recounted live) ∙ pages_of-recounted live)) ∙ goal

-- ---- the disks of a store

module _ {D : Type 0} (told : D → Option Story) where
  image-of : (which : Which) (log image other : D) → (disks_from which log image other).image ≡ image
  image-of First log image other = refl
  image-of Second log image other = refl

  logs-told : (which : Which) (log image other : D) (l s : Story) → told (disks_from which log image other).log ≡ Some l → told (disks_from which log image other).second ≡ Some s
      → (told log ≡ Some (log_on which l s)) × (told other ≡ Some (log_on (other_log which) l s))
  logs-told First log image other l s first second = (first, second)
  logs-told Second log image other l s first second = (second, first)

-- a log that isn't the current one is the other
one-or-other : (a b : Which) → (a ≡ b) ⊎ ((b ≡ other_log a) × (a ≡ other_log b))
one-or-other First First = inl refl
one-or-other First Second = inr (refl, refl)
one-or-other Second First = inr (refl, refl)
one-or-other Second Second = inl refl

-- ---- rings in which nothing is on its way

ring-empty : {A : Type 0} (push : PushEnd A) (pop : PopEnd A) → IsEmptied push pop → pushed push ≡ popped pop ++ []
ring-empty push pop empty = sym empty.all ∙ sym (append-nil (popped pop))

none-on-way : {A B : Type 0} (says : A → B) (P : B → Type 0) (push : PushEnd A) (pop : PopEnd A) (known : B) → IsEmptied push pop → P known → WereTold says P (pushed push) (popped pop) known
none-on-way says P push pop known empty holds = record { queue = []; ring = ring-empty push pop empty; holds = holds; each = tt }

-- ---- a node that goes on

module _ {D : Type 0} (told : D → Option Story) (size : D → ℕ) (g : Game) (v : ℕ) (limits : IsWithinLimits g) (given : List Packet) (n : Node) (doubt : Doubt) (disks : Disks D) (l i s : Story) (log_told : told disks.log ≡ Some l) (image_told : told disks.image ≡ Some i)
    (second_told : told disks.second ≡ Some s) (rests : AreAtRest told disks) (left : HasLog g v given n doubt l.now.seen i.now.seen s.now.seen) (state : State) (records : List Record) (t : TurnWorker D) (p : PatchWorker D) (sender : SendWorker) where
  abbrev store : Store D
  store = record { turns = t.side; patches = p.side }

  abbrev m : Node
  m = left.node

  abbrev k : MountedLog
  k = left.mounted

  module _ (answers : recovered (owner_of g v) l.now.seen i.now.seen s.now.seen ≡ Whole state t.side.objects.value) (mounted : mount_of (log_on t.side.which l.now.seen s.now.seen) ≡ mounts.Whole t.side.log.header t.side.log.base records)
      (ready : IsReadyStore told size (owner_of g v) store state)
      (same : (told (disks_in store).log ≡ told disks.log) × (told (disks_in store).image ≡ told disks.image) × (told (disks_in store).second ≡ told disks.second)) where
    image-now : told p.side.image.disk ≡ Some i
    image-now = ap told (sym (image-of told t.side.which t.side.log.disk p.side.image.disk t.side.other)) ∙ same.1 ∙ image_told

    logs-now : (told t.side.log.disk ≡ Some (log_on t.side.which l s)) × (told t.side.other ≡ Some (log_on (other_log t.side.which) l s))
    logs-now = logs-told told t.side.which t.side.log.disk p.side.image.disk t.side.other l s (same.0 ∙ log_told) (same.2 ∙ second_told)

    -- ---- the store's log is the one that was left: the other has a smaller generation

    not-other : left.finds.which ≡ other_log t.side.which → t.side.which ≡ other_log left.finds.which → ⊥
    not-other is back =
        let passes = ready.takes.store.turns.other (log_on t.side.which l s) logs-now.0 (log_on (other_log t.side.which) l s) logs-now.1 in
        let whole : mount_of (log_on (other_log t.side.which) l s).now.seen ≡ mounts.Whole k.head k.base k.records =
        ap mount_of (seen_on (other_log t.side.which) l s) ∙ ap (λ (w : Which). mount_of (log_on w l.now.seen s.now.seen)) (sym is) ∙ left.finds.mounts in
        let passed : (k.head.generation < t.side.log.header.generation) × (is_owned t.side.owner k.head ≡ true) =
        subst (IsPassed t.side.owner t.side.log.header) (front_whole (log_on (other_log t.side.which) l s).now.seen k.head k.base k.records whole) passes.passed in
        let there : mount_of (log_on (other_log left.finds.which) l.now.seen s.now.seen) ≡ mounts.Whole t.side.log.header t.side.log.base records =
        ap (λ (w : Which). mount_of (log_on w l.now.seen s.now.seen)) (sym back) ∙ mounted in
        let older : (t.side.log.header.generation < k.head.generation) × (is_owned (owner_of g v) t.side.log.header ≡ true) =
        subst (IsPassed (owner_of g v) k.head) (front_whole (log_on (other_log left.finds.which) l.now.seen s.now.seen) t.side.log.header t.side.log.base records there) left.finds.other in
        let one = passed.0 in
        let two = older.0 in
        omega (arith, one, two)

    which-is : t.side.which ≡ left.finds.which
    which-is = ⊎_elim (λ e. e) (λ both. absurd (not-other both.0 both.1)) (one-or-other t.side.which left.finds.which)

    log-is : mounts.Whole t.side.log.header t.side.log.base records ≡ mounts.Whole k.head k.base k.records
    log-is = sym mounted ∙ ap (λ (w : Which). mount_of (log_on w l.now.seen s.now.seen)) which-is ∙ left.finds.mounts

    head-is : t.side.log.header ≡ k.head
    head-is = cc log-is

    base-is : t.side.log.base ≡ k.base
    base-is = cc log-is

    records-are : records ≡ k.records
    records-are = cc log-is

    items-are : t.side.records.items ≡ k.records
    items-are =
        let side = ready.takes.store.turns.mounts (log_on t.side.which l s) logs-now.0 in
        let whole : mounts.Whole t.side.log.header t.side.log.base t.side.records.items ≡ mounts.Whole t.side.log.header t.side.log.base records = sym side ∙ ap mount_of (seen_on t.side.which l s) ∙ mounted in
        let items : t.side.records.items ≡ records = cc whole in
        items ∙ records-are

    numbers-are : t.side.numbers ≡ left.tells.numbers
    numbers-are =
        let there : Ok t.side.numbers ≡ Ok left.tells.numbers =
        sym ready.takes.store.turns.numbers
        ∙ ap (λ (o : Owner). numbers_of o t.side.log.header t.side.log.base t.side.records.items) ready.owner
        ∙ ap (λ (h : Header). numbers_of (owner_of g v) h t.side.log.base t.side.records.items) head-is
        ∙ ap (λ (b : Option Base). numbers_of (owner_of g v) k.head b t.side.records.items) base-is
        ∙ ap (λ (rs : List Record). numbers_of (owner_of g v) k.head k.base rs) items-are
        ∙ left.tells.numbers_are in
        cc there

    -- ---- what it tells

    found : Whole state t.side.objects.value ≡ Whole (state_of v left.tells.numbers k.base k.records) left.sound.value
    found = sym answers ∙ log-is-found g v limits m k l.now.seen i.now.seen s.now.seen left.sound left.tells left.finds left.possible

    state-is : state ≡ state_of v left.tells.numbers k.base k.records
    state-is = cc found

    value-is : t.side.objects.value ≡ left.sound.value
    value-is = cc found

    live-is : (turn_pages t.side).live ≡ map recounted m.turning.pages.live
    live-is =
        ap (λ (ts : List ℕ). live_layers t.side.log.header t.side.log.base ts t.side.records.items) ready.counted
        ∙ ap (λ (h : Header). live_layers h t.side.log.base (replicate (length (base_pages t.side.log.base)) h.turns) t.side.records.items) head-is
        ∙ ap (λ (b : Option Base). live_layers k.head b (replicate (length (base_pages b)) k.head.turns) t.side.records.items) base-is
        ∙ ap (λ (rs : List Record). live_layers k.head k.base (replicate (length (base_pages k.base)) k.head.turns) rs) items-are
        ∙ sym left.tells.live

    -- ---- the node after the crash, which left the image as it is

    is-left : IsLeft m.patching (take g.size i.now.seen)
    is-left = images_are_left (heap_pages g) true m.turning.pages m.patching (take g.size i.now.seen) left.sound.covers left.possible

    abbrev torn : List Page
    torn = is-left.pages

    abbrev after : Node
    after = restarted_node torn m

    abbrev shut : ImagePages
    shut = crashed_pages torn m.patching

    holds : HoldsImage t.side.owner.pages shut i.now
    holds =
        let seen : take (256 * heap_pages g) i.now.seen ≡ shut.image = ap (λ (count : ℕ). take count i.now.seen) (size_is g limits) ∙ sym is-left.leaves in
        subst (λ (o : Owner). HoldsImage o.pages shut i.now) (sym ready.owner)
        (record {
          seen = seen;
          left = λ image is.
              let still = image_at_rest i.now (rests.image i image_told) image is in
              let here : take (256 * heap_pages g) image ≡ shut.image = ap (take (256 * heap_pages g)) still ∙ seen in
              subst (IsPossible shut) (sym here) (record { size = refl; same = λ page closed. refl });
        })

    stands : Standing told size store after.patching
    stands = subst (Standing told size store) (ap (λ (ls : List Layer). recovered_image_pages ls shut) live-is ∙ image-recounted m.turning.pages.live shut) (ready.again i image-now shut (λ page. refl) holds)

    pages-are : after.turning.pages ≡ turn_pages t.side
    pages-are =
        ap (λ (heap : List ℕ). record { heap = heap; live = map recounted m.turning.pages.live }) (recovered-heap m.turning.pages.live shut (turn_pages t.side).heap (stands.covers.goal refl))
        ∙ ap (λ (ls : List Layer). record { heap = (turn_pages t.side).heap; live = ls }) (sym live-is)

    reads-value : read_value (turn_pages t.side).heap ≡ Some t.side.objects.value
    reads-value =
        let kept = restart_keeps_heap g m torn (subst (λ (up : Bool). Covers (heap_pages g) up m.turning.pages m.patching) (sym left.sound.up) left.sound.covers) is-left.torn in
        ap (λ (x : TurnPages). read_value x.heap) (sym pages-are) ∙ ap read_value kept ∙ left.sound.reads ∙ ap (λ (x : Value). Some x) (sym value-is)

    apart : Apart told size t.side p.side [] after.patching
    apart = record {
      turns = stands.takes.turns;
      patches = stands.patches;
      count = stands.takes.count;
      waits = tt;
      known = stands.takes.known;
      covers = stands.covers;
      behind = stands.behind;
      before = stands.before;
    }

    -- what the log tells of it doesn't depend on its pages
    tells-state : IsStateOf g v after state
    tells-state =
        let is = subst (IsStateOf g v (recovered_node m)) (sym state-is) left.tells.state in
        record { width = is.width; sent = is.sent; messages = is.messages; outputs = is.outputs; outs = is.outs }

    has-sent : HasSent g v after
    has-sent = let is = left.tells.sent in record { acked = is.acked; emitted = is.emitted }

    module _ (go : GoOnFrom g v n.turning.turns store state records t p sender) where
      counted : AreNumbersOf v m.turning.turns t.side.numbers
      counted = subst (AreNumbersOf v m.turning.turns) (sym numbers-are) left.tells.counted

      kept : t.turns.items ≡ m.turning.turns
      kept =
          go.kept
          ∙ ap (kept_turns n.turning.turns state.turns) records-are
          ∙ turns-kept g v given n doubt left.landed m state.turns k.records left.comes left.newest (ap (λ (x : State). x.turns) state-is ∙ left.tells.counted.turns)

      working : Working told size g.handler t
      working = record {
        side = ready.takes.store.turns;
        idle = ready.idle;
        node = ap (λ (o : Owner). o.node) ready.owner ∙ sym go.node;
        nodes = ap (λ (o : Owner). o.nodes) ready.owner ∙ sym go.nodes;
        order =
            go.order
            ∙ ap (λ (x : State). let c : Consumed = record { nodes = g.nodes; stamp = x.stamp; consumed = x.consumed } in c) ready.tells
            ∙ ap (λ (nodes : ℕ). let c : Consumed = record { nodes = nodes; stamp = t.side.numbers.stamp; consumed = t.side.numbers.consumed } in c) (sym go.nodes);
        count = ap length kept ∙ sym counted.turns;
        heap =
            subst (λ (x : Value). ComesTo g.handler t.node t.nodes (256 * t.side.owner.pages) x) (sym value-is)
            (subst (λ (count : ℕ). ComesTo g.handler t.node t.nodes count left.sound.value) (sym heap-size)
            (subst (λ (nodes : ℕ). ComesTo g.handler t.node nodes g.size left.sound.value) (sym go.nodes)
            (subst (λ (node : ℕ). ComesTo g.handler node g.nodes g.size left.sound.value) (sym go.node) left.sound.comes)));
      }
        where
          heap-size : 256 * t.side.owner.pages ≡ g.size
          heap-size = ap (λ (o : Owner). 256 * o.pages) ready.owner ∙ size_is g limits

      stands-again : IsWhole told size g v after t p sender
      stands-again = record {
        workers = record {
          of_run = record {
            node = go.node;
            nodes = go.nodes;
            cap = go.cap;
            size = ap (λ (o : Owner). 256 * o.pages) ready.owner ∙ size_is g limits;
            inputs = go.inputs;
            sender = go.sender;
            receivers = go.receivers;
          };
          joined = go.joined;
          working = working;
          turns = record { kept = kept; counted = counted; reads = reads-value };
          log = record {
            state =
                let is = subst (IsStateOf g v after) ready.tells tells-state in
                record { width = is.width; sent = is.sent; messages = is.messages; outputs = is.outputs; outs = is.outs };
            sent = record { acked = has-sent.acked; emitted = has-sent.emitted };
            width = left.tells.width;
            paced = subst (λ (h : Header). IsPaced h t.side.records.items) (sym head-is) (subst (IsPaced k.head) (sym items-are) left.tells.paced);
          };
          sends = record {
            queue = [];
            ring = ring-empty t.sealed sender.sealed go.empty.sealed;
            due = subst (IsDueOf g v after) (sym go.due) (resumed_is_due g v after state left.sound.own limits.few_nodes refl left.sound.turns left.tells.width has-sent tells-state);
            sent = has-sent;
          };
          settled = none-on-way turn_settled (IsSettledAt after) p.settled t.settled t.told.settled go.empty.settled
              (subst (λ (x : Feedback). IsSettledAt after x.settled) (sym go.told_is) (record { made = omega arith; clean = λ page c is gone. absurd cc }));
          progress = none-on-way progress_told (HasReached g after) sender.told t.progress t.told.progress go.empty.progress
              (subst (λ (x : Feedback). HasReached g after x.progress) (sym go.told_is) (record { acked = λ u low. let none = zero-at 8 u in omega (arith, none); emitted = omega arith }));
        };
        pages = record {
          queue = [];
          ring = ring-empty t.pages p.pages go.empty.pages;
          image = after.patching;
          apart = apart;
          turning = pages-are;
          patching = refl;
        };
      }

      pub comes-up : (x : Node) × (Call g v given (AreOfRestart g v n doubt) n nothing x × (length t.turns.items ≡ length x.turning.turns) × IsWhole told size g v x t p sender)
      comes-up = (after, (restart-call g v given torn n doubt left.landed m left.comes is-left.torn, ap length kept, stands-again))

module _ {D : Type 0} (told : D → Option Story) (size : D → ℕ) (g : Game) (v : ℕ) (given : List Packet) (n : Node) (doubt : Doubt) (limits : IsWithinLimits g) where
  -- workers that go on over what was recovered stand for the node that its events lead to
  pub up-again : (disks : Disks D) (l i s : Story) → told disks.log ≡ Some l → told disks.image ≡ Some i → told disks.second ≡ Some s → AreAtRest told disks → Left g v given n doubt l.now.seen i.now.seen s.now.seen
      → (store : Store D) (state : State) (records : List Record) → recovered (owner_of g v) l.now.seen i.now.seen s.now.seen ≡ Whole state store.turns.objects.value
      → mount_of (log_on store.turns.which l.now.seen s.now.seen) ≡ mounts.Whole store.turns.log.header store.turns.log.base records → IsReadyStore told size (owner_of g v) store state
      → (told (disks_in store).log ≡ told disks.log) × (told (disks_in store).image ≡ told disks.image) × (told (disks_in store).second ≡ told disks.second)
      → (t : TurnWorker D) (p : PatchWorker D) (sender : SendWorker) → GoOnFrom g v n.turning.turns store state records t p sender
      → (after : Node) × (Call g v given (AreOfRestart g v n doubt) n nothing after × (length t.turns.items ≡ length after.turning.turns) × IsWhole told size g v after t p sender)
  up-again disks l i s log_told image_told second_told rests is_left store state records answers mounted ready same t p sender go =
      let log = whole-has-log g v limits given n doubt l.now.seen i.now.seen s.now.seen state store.turns.objects.value is_left answers in
      let here : store ≡ record { turns = t.side; patches = p.side } = ap (λ (x : TurnSide D). record store { turns = x }) (sym go.side) ∙ ap (λ (x : PatchSide D). record { turns = t.side; patches = x }) (sym go.patches) in
      let answers2 = subst (λ (x : Store D). recovered (owner_of g v) l.now.seen i.now.seen s.now.seen ≡ Whole state x.turns.objects.value) here answers in
      let mounted2 = subst (λ (x : Store D). mount_of (log_on x.turns.which l.now.seen s.now.seen) ≡ mounts.Whole x.turns.log.header x.turns.log.base records) here mounted in
      let ready2 = subst (λ (x : Store D). IsReadyStore told size (owner_of g v) x state) here ready in
      let same2 = subst (λ (x : Store D). (told (disks_in x).log ≡ told disks.log) × (told (disks_in x).image ≡ told disks.image) × (told (disks_in x).second ≡ told disks.second)) here same in
      let go2 = subst (λ (x : Store D). GoOnFrom g v n.turning.turns x state records t p sender) here go in
      comes-up told size g v limits given n doubt disks l i s log_told image_told second_told rests log state records t p sender answers2 mounted2 ready2 same2 go2
