-- A step leaves a worker that may make another.
use Rattle.std.proofs.Common.{◌≡◌, ℕ, ◌+◌, ◌*◌, ◌≤◌, List, ◌++◌, length, Bool, Ok, inl, sym, ap, subst, ◌∙◌, arith}
use Rattle.ken_disk.specs.declared.disk.Disk as disk
use Rattle.ken_app.specs.declared.oracle.Oracle as oracle
use Rattle.ken_app.specs.Limits.{KeepsLimits}
use Rattle.ken_model.specs.Handler.{Handler}
use Rattle.ken_net.specs.declared.net.Net as net
use Rattle.ken_links.specs.Rings.{free, pushed}
use Rattle.ken_store.specs.declared.owner.Owner.{Owner}
use Rattle.ken_ship.specs.declared.items.Told.{Told}
use Rattle.ken_ship.specs.declared.outlet.Outlet as outlet
use Rattle.ken_ship.specs.declared.worker.SendWorker.{SendWorker}
use Rattle.ken_ship.specs.Parts.{SameSlots}
use Rattle.ken_work.specs.declared.patcher.PatchWorker.{PatchWorker}
use Rattle.ken_work.specs.declared.took.Took.{Took}
use Rattle.ken_work.specs.declared.took.Took.TheVariants.{Turn, Idle, Capped}
use Rattle.ken_work.specs.declared.worker.TurnWorker.{TurnWorker}
use Rattle.ken_work.specs.Patches.{PatchesOnce, went, no_room}
use Rattle.ken_work.specs.Workers.{Working}
use Rattle.ken_beside.specs.GoingOn.{HandlerGoesOn, PatcherGoesOn, PatchesOn, SenderGoesOn}
use Rattle.ken_beside.specs.Seats.{Handling}
use Rattle.ken_beside.specs.Steps.{TurnsOnce, turns_once, patches_once, settles_once, sends_due, takes_acks, emits_once}
use Rattle.ken_beside.proofs.Handled.{did-turn, longer}
use Rattle.ken_beside.proofs.Sent.{was-handed}

module _ {D N O : Type 0} (d : disk.Ghosts D) (e : net.Ghosts N) (o : oracle.Ghosts O) (h : Handler) where
  record HasRun (t t2 : Handling D N O) : Type 0 where
    working : Working d.told d.size h t2.worker
    pages : free t.worker.pages ≤ free t2.worker.pages + 1
    sealed : free t.worker.sealed ≤ free t2.worker.sealed + 1

  -- what it was told changes nothing of it
  heard-working : (t mid : TurnWorker D) → mid ≡ record t { told = mid.told; settled = mid.settled; progress = mid.progress } → Working d.told d.size h t → Working d.told d.size h mid
  heard-working t mid rest w =
      subst (Working d.told d.size h) (sym rest) (record { side = w.side; idle = w.idle; node = w.node; nodes = w.nodes; order = w.order; count = w.count; heap = w.heap })

  ran : (took : Took) (t t2 : Handling D N O) → TurnsOnce d e o h (Ok took) t t2 → Working d.told d.size h t.worker → HasRun t t2
  ran Turn t t2 is working =
      let pages : free is.takes.mid.pages ≡ free t.worker.pages = ap (λ (w : TurnWorker D). free w.pages) is.takes.came.rest ∙ ap (λ (w : TurnWorker D). free w.pages) is.hears.rest in
      let sealed : free is.takes.mid.sealed ≡ free t.worker.sealed = ap (λ (w : TurnWorker D). free w.sealed) is.takes.came.rest ∙ ap (λ (w : TurnWorker D). free w.sealed) is.hears.rest in
      let slots = is.takes.ran.kept.slots in
      let one = slots.0 in
      let two = slots.1 in
      record { working = is.takes.ran.working; pages = omega (arith, pages, one); sealed = omega (arith, sealed, two) }
  ran Idle t t2 is working =
      let pages : free t2.worker.pages ≡ free t.worker.pages = ap (λ (w : TurnWorker D). free w.pages) is.takes.came.rest ∙ ap (λ (w : TurnWorker D). free w.pages) is.hears.rest in
      let sealed : free t2.worker.sealed ≡ free t.worker.sealed = ap (λ (w : TurnWorker D). free w.sealed) is.takes.came.rest ∙ ap (λ (w : TurnWorker D). free w.sealed) is.hears.rest in
      record { working = is.takes.came.working; pages = omega (arith, pages); sealed = omega (arith, sealed) }
  ran Capped t t2 is working =
      let pages : free t2.worker.pages ≡ free t.worker.pages = ap (λ (w : TurnWorker D). free w.pages) is.takes.same ∙ ap (λ (w : TurnWorker D). free w.pages) is.hears.rest in
      let sealed : free t2.worker.sealed ≡ free t.worker.sealed = ap (λ (w : TurnWorker D). free w.sealed) is.takes.same ∙ ap (λ (w : TurnWorker D). free w.sealed) is.hears.rest in
      record {
        working = subst (Working d.told d.size h) (sym is.takes.same) (heard-working t.worker is.mid is.hears.rest working);
        pages = omega (arith, pages);
        sealed = omega (arith, sealed);
      }

  pub handler_goes_on : HandlerGoesOn d e o h
  handler_goes_on t t2 (turns_once took is) may =
      let has = ran took t t2 is may.working in
      let owner : t2.worker.side.owner ≡ t.worker.side.owner = (did-turn d e o h t t2 (turns_once took is)).pushes.owner in
      record {
        may = record {
          working = has.working;
          keeps =
              subst (λ (k : ℕ). KeepsLimits k (256 * t2.worker.side.owner.pages) h) (sym is.same.nodes) (subst (λ (x : Owner). KeepsLimits t.worker.nodes (256 * x.pages) h) (sym owner) may.keeps);
          node = is.end.node ∙ may.node ∙ sym is.same.node;
          nodes = is.end.nodes ∙ may.nodes ∙ sym is.same.nodes;
        };
        pages = has.pages;
        sealed = has.sealed;
      }

module _ {D : Type 0} (d : disk.Ghosts D) where
  patched-on : (more : Bool) (p p2 : PatchWorker D) → PatchesOnce d.told d.size d.faults d.fate (Ok more) p p2 → PatchesOn d p p2
  patched-on more p p2 (no_room err takes) = absurd cc
  patched-on more p p2 (went mid over rest is) =
      let same : free p2.settled ≡ free p.settled = ap (λ (w : PatchWorker D). free w.settled) rest ∙ ap (λ x. free x) over.settled in
      record { may = is.takes; settled = omega (arith, same) }

  pub patcher_goes_on : PatcherGoesOn d
  patcher_goes_on p p2 (patches_once more same is) may = patched-on more p p2 is
  patcher_goes_on p p2 (settles_once same is) may = let slot = is.slot in record { may = is.takes; settled = omega (arith, slot) }

module _ {N U : Type 0} (e : net.Ghosts N) (u : outlet.Ghosts U) where
  -- at most one item was pushed
  slots-left : (s s2 : SendWorker) (news : List Told) → SameSlots s.told s2.told → pushed s2.told ≡ pushed s.told ++ news → length news ≤ 1 → free s.told ≤ free s2.told + 1
  slots-left s s2 news same told few = let size = longer (pushed s.told) news (pushed s2.told) told in omega (arith, same, size, few)

  pub sender_goes_on : SenderGoesOn e u
  sender_goes_on s s2 (sends_due is) may = record {
    may = record { node = is.end.node ∙ may.node ∙ sym is.same.node; nodes = is.end.nodes ∙ may.nodes ∙ sym is.same.nodes };
    told = let same : free s2.worker.told ≡ free s.worker.told = ap (λ x. free x) is.told in omega (arith, same);
  }
  sender_goes_on s s2 (takes_acks is) may =
      let has = was-handed e u s s2 (inl (takes_acks is)) in
      record {
        may = record { node = is.end.node ∙ may.node ∙ sym is.same.node; nodes = is.end.nodes ∙ may.nodes ∙ sym is.same.nodes };
        told = slots-left s.worker s2.worker has.news is.slots has.told has.few;
      }
  sender_goes_on s s2 (emits_once answer is) may =
      let has = was-handed e u s s2 (inl (emits_once answer is)) in
      record {
        may = record { node = ap e.node is.net ∙ may.node ∙ sym is.same.node; nodes = ap e.nodes is.net ∙ may.nodes ∙ sym is.same.nodes };
        told = slots-left s.worker s2.worker has.news is.slots has.told has.few;
      }
