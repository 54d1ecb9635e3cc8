-- A node over a store that was created for it.
use Rattle.std.proofs.Common.{◌≡◌, ℕ, ◌*◌, ◌<◌, [], length, Option, None, Result, Ok, Err, refl, sym, ap, subst, ◌∙◌, arith}
use Rattle.std.specs.Prelude.{OnOk, OnErr}
use Rattle.ken_disk.specs.Fates.{Fate}
use Rattle.ken_disk.specs.Story.{Story, Tells}
use Rattle.ken_model.specs.Game.{Game}
use Rattle.ken_model.specs.Handler.{Handler}
use Rattle.ken_model.specs.Layout.{first_heap}
use Rattle.ken_model.specs.Limits.{IsWithinLimits}
use Rattle.ken_model.specs.Network.{empty_heap}
use Rattle.ken_cover.specs.Sides.{first_image_pages}
use Rattle.ken_core.specs.Nodes.{heap_pages}
use Rattle.ken_store.specs.declared.disks.Disks.{Disks}
use Rattle.ken_store.specs.declared.faults.StoreFault.{StoreFault}
use Rattle.ken_store.specs.declared.faults.StoreFault.TheVariants.{Disk, Memory, Damaged}
use Rattle.ken_store.specs.declared.numbers.Numbers.{Numbers}
use Rattle.ken_store.specs.declared.owner.Owner.{Owner}
use Rattle.ken_store.specs.declared.patching.PatchSide.{PatchSide}
use Rattle.ken_store.specs.declared.store.Store.{Store}
use Rattle.ken_store.specs.declared.turning.TurnSide.{TurnSide}
use Rattle.ken_store.specs.Answers.{TellsAll, disks_in}
use Rattle.ken_store.specs.Apart.{disks_apart}
use Rattle.ken_store.specs.Creations.{Creates, FailsBy, IsNew, TellsStill}
use Rattle.ken_store.specs.Numbers.{no_numbers}
use Rattle.ken_store.specs.Standing.{Standing, TakesCalls}
use Rattle.ken_store.specs.Turning.{Turning}
use Rattle.ken_order.specs.Consumed.{Consumed}
use Rattle.ken_links.specs.declared.pop_end.PopEnd.{PopEnd}
use Rattle.ken_links.specs.declared.push_end.PushEnd.{PushEnd}
use Rattle.ken_ship.specs.declared.worker.SendWorker.{SendWorker}
use Rattle.ken_ship.specs.Parts.{part_of}
use Rattle.ken_work.specs.declared.parts.Parts.{Parts}
use Rattle.ken_work.specs.declared.patcher.PatchWorker.{PatchWorker}
use Rattle.ken_node.specs.declared.stage.Stage.TheVariants.{Uncreated, Created}
use Rattle.ken_work.specs.declared.worker.TurnWorker.{TurnWorker}
use Rattle.ken_whole.specs.New.{AreNew, owner_of}
use Rattle.ken_work.specs.Parts.{AreOver}
use Rattle.ken_node.specs.Created.{CallsDisks, IsCreation, IsNewNode, first_order}
use Rattle.ken_work.specs.Faults.{node_answer, store_answer}
use Rattle.ken_work.specs.First.{AreFirst, IsNewRing}
use Rattle.ken_node.specs.Stages.{IsUncreated, owner_in}
use Rattle.ken_app.specs.Limits.{ComesTo, first}
use Rattle.ken_work.specs.Workers.{Working}
use Rattle.ken_work.proofs.StoreAnswers.{store_answer-node_answer}
use Rattle.ken_node.proofs.CreationCalls.{calls-unit}

owner_is : (g : Game) (v : ℕ) (x : Parts) → AreFirst g v x → owner_in x ≡ owner_of g v
owner_is g v x is =
    ap (λ (n : ℕ). let o : Owner = record { node = n; nodes = x.nodes; pages = x.size } in o) is.node
    ∙ ap (λ (n : ℕ). let o : Owner = record { node = v; nodes = n; pages = x.size } in o) is.nodes
    ∙ ap (λ (n : ℕ). let o : Owner = record { node = v; nodes = g.nodes; pages = n } in o) is.size

-- the heap has whole pages
pub size_is : (g : Game) → IsWithinLimits g → 256 * heap_pages g ≡ g.size
size_is g limits = let is = limits.pages in let whole = is.3 in omega arith

-- a store's fault is an error of the worker
not_ok : (P : Type 0) (fault : StoreFault) → OnOk (node_answer {T = Unit {0}} (Err fault)) P
not_ok P Disk = tt
not_ok P Memory = tt
not_ok P (Damaged disk place) = tt

is_err : (P : Type 0) (fault : StoreFault) → P → OnErr (node_answer {T = Unit {0}} (Err fault)) P
is_err P Disk p = p
is_err P Memory p = p
is_err P (Damaged disk place) p = p

-- a ring whose ends are these
ring_at : {T : Type 0} (push push2 : PushEnd T) (pop pop2 : PopEnd T) → push2 ≡ push → pop2 ≡ pop → IsNewRing push pop → IsNewRing push2 pop2
ring_at push push2 pop pop2 e f is = subst (λ x. IsNewRing x pop2) (sym e) (subst (IsNewRing push) (sym f) is)

module _ {D : Type 0} (told : D → Option Story) (size : D → ℕ) where
  -- a handler over a new store, for any handler function
  works : (h : Handler) (x : Parts) (store : Store D) (t : TurnWorker D) (p : PatchWorker D) (s : SendWorker) → x.turns.items ≡ [] → AreOver x store (first_order x.nodes) t p s → Turning told size store.turns → store.turns.objects.begun ≡ None
      → store.turns.objects.value ≡ empty_heap (256 * x.size) → IsNew (owner_in x) store.turns → Working told size h t
  works h x store t p s none over turning idle value new =
      let is : IsNew (owner_in x) t.side = subst (IsNew (owner_in x)) (sym over.side) new in
      let node : t.side.owner.node ≡ x.node = ap (λ (o : Owner). o.node) is.owner in
      let nodes : t.side.owner.nodes ≡ x.nodes = ap (λ (o : Owner). o.nodes) is.owner in
      let stamp : t.side.numbers.stamp ≡ 0 = ap (λ (n : Numbers). n.stamp) is.numbers in
      let heap : t.side.objects.value ≡ empty_heap (256 * t.side.owner.pages) =
      ap (λ (y : TurnSide D). y.objects.value) over.side ∙ value ∙ ap (λ (n : ℕ). empty_heap (256 * n)) (sym (ap (λ (o : Owner). o.pages) is.owner)) in
      record {
        side = subst (Turning told size) (sym over.side) turning;
        idle = ap (λ (y : TurnSide D). y.objects.begun) over.side ∙ idle;
        node = node ∙ sym over.node;
        nodes = nodes ∙ sym over.nodes;
        order = over.order ∙ ap (λ (n : ℕ). let c : Consumed = record { nodes = n; stamp = 0; consumed = no_numbers.consumed } in c) (sym over.nodes)
            ∙ ap (λ (n : Numbers). let c : Consumed = record { nodes = t.nodes; stamp = n.stamp; consumed = n.consumed } in c) (sym is.numbers);
        count = ap length over.turns ∙ ap length none ∙ sym (ap (λ (n : Numbers). n.turns) is.numbers);
        heap = subst (ComesTo h t.node t.nodes (256 * t.side.owner.pages)) (sym heap) first;
      }

  -- the workers that are made of these parts
  new_workers : (g : Game) (v : ℕ) (x : Parts) (store : Store D) (t : TurnWorker D) (p : PatchWorker D) (s : SendWorker) → IsWithinLimits g → AreFirst g v x → AreOver x store (first_order x.nodes) t p s → Standing told size store (first_image_pages (first_heap x.size)) → TakesCalls told size store → store.turns.objects.begun ≡ None
      → store.turns.objects.value ≡ empty_heap (256 * x.size) → IsNew (owner_in x) store.turns → AreNew told size g v t p s
  new_workers g v x store t p s limits is over standing takes idle value new =
      let patches : p.side ≡ store.patches = ap (λ (w : PatchWorker D). w.side) over.patches in
      record {
        node = over.node ∙ is.node;
        nodes = over.nodes ∙ is.nodes;
        cap = over.cap ∙ is.cap;
        inputs = over.inputs ∙ is.inputs;
        sender = ap (λ (w : SendWorker). w.backlog.node) over.sends ∙ is.sender;
        receivers = ap (λ (w : SendWorker). w.nodes) over.sends ∙ is.receivers;
        pages = ring_at x.pages.0 t.pages x.pages.1 p.pages over.rings.0 (ap (λ (w : PatchWorker D). w.pages) over.patches) is.pages;
        settled = ring_at x.settled.0 p.settled x.settled.1 t.settled (ap (λ (w : PatchWorker D). w.settled) over.patches) over.rings.2 is.settled;
        sealed = ring_at x.sealed t.sealed x.sends.sealed s.sealed over.rings.1 (ap (λ (w : SendWorker). w.sealed) over.sends) is.sealed;
        progress = ring_at x.sends.told s.told x.progress t.progress (ap (λ (w : SendWorker). w.told) over.sends) over.rings.3 is.progress;
        working = λ h. works h x store t p s is.turns over standing.takes.turns idle value new;
        stands =
            subst (λ (n : ℕ). let both : Store D = record { turns = t.side; patches = p.side } in Standing told size both (first_image_pages (first_heap n))) is.size
            (subst (λ (y : PatchSide D). let both : Store D = record { turns = t.side; patches = y } in Standing told size both (first_image_pages (first_heap x.size))) (sym patches)
            (subst (λ (y : TurnSide D). let both : Store D = record { turns = y; patches = store.patches } in Standing told size both (first_image_pages (first_heap x.size))) (sym over.side) standing));
        unspent = ap (λ (y : PatchSide D). y.image.spent) patches ∙ takes.unspent;
        new = subst (λ (o : Owner). IsNew o t.side) (owner_is g v x is) (subst (IsNew (owner_in x)) (sym over.side) new);
        value = ap (λ (y : TurnSide D). y.objects.value) over.side ∙ value ∙ ap (λ (n : ℕ). empty_heap (256 * n)) is.size ∙ ap empty_heap (size_is g limits);
        turns = over.turns ∙ is.turns;
        told_is = over.told;
        part = ap part_of over.sends ∙ is.part;
      }

  module _ (count : D → ℕ) (fate : D → Option Fate) where
    pub created_ok : (g : Game) (v : ℕ) (x : Parts) (old : Disks D) (store : Store D) (t : TurnWorker D) (p : PatchWorker D) (s : SendWorker) → IsWithinLimits g → AreFirst g v x → AreOver x store (first_order x.nodes) t p s
        → Standing told size store (first_image_pages (first_heap x.size)) → TakesCalls told size store → store.turns.objects.begun ≡ None → store.turns.objects.value ≡ empty_heap (256 * x.size) → IsNew (owner_in x) store.turns
        → TellsAll told old (λ l i s. Tells (told (disks_in store).log) (λ l2. Tells (told (disks_in store).image) (λ i2. Creates {T = Store D} (owner_in x) (Ok store) l i s l2 i2)))
        → CallsDisks {T = Store D} told count (owner_in x) (Ok store) old (disks_in store)
        → TellsStill (told old.log) (told (disks_in store).log) × TellsStill (told old.image) (told (disks_in store).image)
        → (disks_in store).second ≡ old.second → FailsBy count fate {T = Store D} (Ok store) old (disks_in store)
        → IsCreation {T = Unit {0}} told size count fate g v (Ok tt) old (Created t p s)
    created_ok g v x old store t p s limits is over standing takes idle value new creates calls tells second faults = record {
      ok = record { turns = t; patches = p; sends = s; stage_is = refl; new = new_workers g v x store t p s limits is over standing takes idle value new };
      disks = disks_in store;
      has = ap (λ (y : TurnSide D). disks_apart y store.patches) (sym over.side) ∙ ap (λ (y : PatchSide D). disks_apart t.side y) (sym (ap (λ (w : PatchWorker D). w.side) over.patches));
      err = tt;
      creates = λ l el i ei s es l2 el2 i2 ei2.
          let made = creates l el i ei s es l2 el2 i2 ei2 in
          subst (λ (o : Owner). Creates {T = Unit {0}} o (Ok tt) l i s l2 i2) (owner_is g v x is) (record { before = made.before; order = made.order; logs = made.logs; any_moment = made.any_moment; memory = tt; ok = made.ok });
      calls = subst (λ (o : Owner). CallsDisks {T = Unit {0}} told count o (Ok tt) old (disks_in store)) (owner_is g v x is) (calls-unit {T = Store D} told count (owner_in x) (Ok store) old (disks_in store) calls);
      tells = tells;
      second = second;
      faults = faults;
    }

    -- what a fault does to the disks, whatever else the answer might be
    fails_as : (fault : StoreFault) (old new : Disks D) → FailsBy count fate {T = Store D} (Err fault) old new → FailsBy count fate {T = Unit {0}} (Err fault) old new
    fails_as Disk old new fails = fails
    fails_as Memory old new fails = fails
    fails_as (Damaged disk place) old new fails = fails

    pub created_err : (g : Game) (v : ℕ) (x : Parts) (old disks : Disks D) (fault : StoreFault) → IsWithinLimits g → v < g.nodes → AreFirst g v x
        → TellsAll told old (λ l i s. Tells (told disks.log) (λ l2. Tells (told disks.image) (λ i2. Creates {T = Store D} (owner_in x) (Err fault) l i s l2 i2)))
        → CallsDisks {T = Store D} told count (owner_in x) (Err fault) old disks
        → TellsStill (told old.log) (told disks.log) × TellsStill (told old.image) (told disks.image)
        → disks.second ≡ old.second → FailsBy count fate {T = Store D} (Err fault) old disks
        → IsCreation {T = Unit {0}} told size count fate g v (node_answer (Err fault)) old (Uncreated disks x)
    created_err g v x old disks fault limits known is creates calls tells second faults =
        let answer : Result (Unit {0}) StoreFault = Err fault in
        let back : answer ≡ store_answer (node_answer answer) = sym (store_answer-node_answer answer) in
        record {
          ok = not_ok (IsNewNode told size g v (Uncreated disks x)) fault;
          disks = disks;
          has = refl;
          err = is_err (IsUncreated g v disks (Uncreated disks x)) fault (record { limits = limits; known = known; parts = x; stage_is = refl; first = is });
          creates = λ l el i ei s es l2 el2 i2 ei2.
              let made = creates l el i ei s es l2 el2 i2 ei2 in
              subst (λ (r : Result (Unit {0}) StoreFault). Creates (owner_of g v) r l i s l2 i2) back
              (subst (λ (o : Owner). Creates o answer l i s l2 i2) (owner_is g v x is) (record { before = made.before; order = made.order; logs = made.logs; any_moment = made.any_moment; memory = made.memory; ok = tt }));
          calls =
              subst (λ (r : Result (Unit {0}) StoreFault). CallsDisks told count (owner_of g v) r old disks) back
              (subst (λ (o : Owner). CallsDisks told count o answer old disks) (owner_is g v x is) (calls-unit {T = Store D} told count (owner_in x) (Err fault) old disks calls));
          tells = tells;
          second = second;
          faults = subst (λ (r : Result (Unit {0}) StoreFault). FailsBy count fate r old disks) back (fails_as fault old disks faults);
        }
