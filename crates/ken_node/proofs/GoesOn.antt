-- Workers that go on over a recovered store.
use Rattle.std.proofs.Common.{◌≡◌, ℕ, List, refl, sym, ap, subst, ◌∙◌}
use Rattle.ken_model.specs.Game.{Game}
use Rattle.ken_model.specs.declared.states.State.{State}
use Rattle.ken_record.specs.declared.record.Record.{Record}
use Rattle.ken_order.specs.Consumed.{Consumed}
use Rattle.ken_store.specs.declared.store.Store.{Store}
use Rattle.ken_ship.specs.declared.worker.SendWorker.{SendWorker}
use Rattle.ken_ship.specs.Parts.{part_of}
use Rattle.ken_work.specs.declared.parts.Parts.{Parts}
use Rattle.ken_work.specs.declared.patcher.PatchWorker.{PatchWorker}
use Rattle.ken_work.specs.declared.worker.TurnWorker.{TurnWorker}
use Rattle.ken_work.specs.Parts.{AreOver, HaveResumed, IsSameParts}
use Rattle.ken_node.specs.Down.{AreReady}
use Rattle.ken_node.specs.Restarts.{GoOnFrom}
use Rattle.ken_whole.proofs.Rings.{bare_at}

-- parts that are the same but for turns and what waits are ready as they were
pub same-ready : (g : Game) (v : ℕ) (x y : Parts) → IsSameParts x y → AreReady g v x → AreReady g v y
same-ready g v x y same ready =
    let mid : Parts = record x { turns = y.turns; sends = y.sends } in
    subst (AreReady g v) (sym same.rest) (record {
      node = ready.node;
      nodes = ready.nodes;
      size = ready.size;
      cap = ready.cap;
      inputs = ready.inputs;
      given = ready.given;
      room = ready.room;
      pages = ready.pages;
      settled = ready.settled;
      sealed = bare_at x.sealed x.sealed x.sends.sealed y.sends.sealed refl same.sealed ready.sealed;
      progress = bare_at x.sends.told y.sends.told x.progress x.progress same.told refl ready.progress;
      sender = same.sender ∙ ready.sender;
      receivers = same.receivers ∙ ready.receivers;
    })

module _ {D : Type 0} where
  -- they go on from a state
  pub goes-on : (g : Game) (v : ℕ) (x y : Parts) (store : Store D) (state : State) (records : List Record) (order : Consumed) (t : TurnWorker D) (p : PatchWorker D) (s : SendWorker) → AreReady g v x → IsSameParts x y → HaveResumed state records x y
      → order ≡ record { nodes = y.nodes; stamp = state.stamp; consumed = state.consumed } → AreOver y store order t p s → GoOnFrom g v x.turns.items store state records t p s
  goes-on g v x y store state records order t p s before same resumes is over =
      let ready = same-ready g v x y same before in
      let patcher : p.pages ≡ y.pages.1 = ap (λ (w : PatchWorker D). w.pages) over.patches in
      let settles : p.settled ≡ y.settled.0 = ap (λ (w : PatchWorker D). w.settled) over.patches in
      let pages = bare_at y.pages.0 t.pages y.pages.1 p.pages over.rings.0 patcher ready.pages in
      let sealed = bare_at y.sealed t.sealed y.sends.sealed s.sealed over.rings.1 (ap (λ (w : SendWorker). w.sealed) over.sends) ready.sealed in
      let settled = bare_at y.settled.0 p.settled y.settled.1 t.settled settles over.rings.2 ready.settled in
      let progress = bare_at y.sends.told s.told y.progress t.progress (ap (λ (w : SendWorker). w.told) over.sends) over.rings.3 ready.progress in
      record {
        node = over.node ∙ ready.node;
        nodes = over.nodes ∙ ready.nodes;
        cap = over.cap ∙ ready.cap;
        inputs = over.inputs ∙ ready.inputs;
        side = over.side;
        order = over.order ∙ is ∙ ap (λ (k : ℕ). let c : Consumed = record { nodes = k; stamp = state.stamp; consumed = state.consumed } in c) ready.nodes;
        kept = over.turns ∙ resumes.turns;
        told_is = over.told;
        patches = ap (λ (w : PatchWorker D). w.side) over.patches;
        sender = ap (λ (w : SendWorker). w.backlog.node) over.sends ∙ ready.sender;
        receivers = ap (λ (w : SendWorker). w.nodes) over.sends ∙ ready.receivers;
        due = ap (λ (w : SendWorker). (part_of w).due) over.sends ∙ resumes.due;
        handed = ap (λ (w : SendWorker). (part_of w).handed) over.sends ∙ resumes.handed;
        joined = record { pages = pages.0; sealed = sealed.0; settled = settled.0; progress = progress.0 };
        empty = record { pages = pages.1; sealed = sealed.1; settled = settled.1; progress = progress.1 };
      }
