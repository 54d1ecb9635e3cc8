-- A node that is taken apart.
use Rattle.std.proofs.Common.{◌≡◌, ℕ, ◌*◌, ◌≤◌, List, inr, ⊎_elim, sym, ap, subst, ◌∙◌, arith, Option}
use Rattle.ken_disk.specs.Story.{Story}
use Rattle.ken_model.specs.Game.{Game}
use Rattle.ken_model.specs.Limits.{IsWithinLimits}
use Rattle.ken_model.specs.Network.{inputs_for}
use Rattle.ken_core.specs.Calls.{Doubt}
use Rattle.ken_core.specs.Nodes.{Node}
use Rattle.ken_core.specs.Packets.{Packet}
use Rattle.ken_links.specs.declared.pop_end.PopEnd.{PopEnd}
use Rattle.ken_links.specs.declared.push_end.PushEnd.{PushEnd}
use Rattle.ken_store.specs.declared.disks.Disks.{Disks}
use Rattle.ken_store.specs.declared.owner.Owner.{Owner}
use Rattle.ken_store.specs.declared.turning.TurnSide.{TurnSide}
use Rattle.ken_store.specs.Apart.{disks_apart}
use Rattle.ken_ship.specs.declared.worker.SendWorker.{SendWorker}
use Rattle.ken_ship.specs.Parts.{IsSameWorker as IsSameSender}
use Rattle.ken_work.specs.declared.items.Settled.{Settled}
use Rattle.ken_work.specs.declared.items.Frozen.{Frozen}
use Rattle.ken_work.specs.declared.parts.Parts.{Parts}
use Rattle.ken_work.specs.declared.patcher.PatchWorker.{PatchWorker}
use Rattle.ken_node.specs.declared.stage.Stage.{Stage}
use Rattle.ken_node.specs.declared.stage.Stage.TheVariants.{Created}
use Rattle.ken_work.specs.declared.worker.TurnWorker.{TurnWorker}
use Rattle.ken_node.specs.Down.{AreReady, IsDown, IsOfNode}
use Rattle.ken_work.specs.Meeting.{AreEmpty, AreJoined, HaveMet}
use Rattle.ken_work.specs.News.{AreInputs}
use Rattle.ken_work.specs.Parts.{ArePartsOf}
use Rattle.ken_node.specs.Stages.{HasDisks, owner_in, turns_in, worker_owner}
use Rattle.ken_whole.specs.Whole.{AreOfRun}
use Rattle.ken_work.specs.Workers.{IsSameWorker}
use Rattle.ken_node.proofs.Creation.{size_is}
use Rattle.ken_whole.proofs.InputsOf.{inputs_are}
use Rattle.ken_whole.proofs.Rings.{bare_at}

-- the inputs of a node of a run
pub are_given : (g : Game) (v : ℕ) (x : Parts) → IsWithinLimits g → x.node ≡ v → x.inputs.items ≡ inputs_for g v → AreInputs x.node x.inputs.items
are_given g v x limits node inputs = subst (λ (u : ℕ). AreInputs u x.inputs.items) (sym node) (subst (AreInputs v) (sym inputs) (inputs_are g v limits))

module _ {D : Type 0} (told : D → Option Story) (size : D → ℕ) where
  -- workers that met are of the run still
  pub met-of_run : (g : Game) (v : ℕ) (t t2 : TurnWorker D) (p p2 : PatchWorker D) (s s2 : SendWorker) → AreOfRun g v t s → IsSameWorker t t2 → IsSameSender s s2 → HaveMet told size t t2 p p2 s s2 → AreOfRun g v t2 s2
  met-of_run g v t t2 p p2 s s2 run same sender met = record {
    node = same.node ∙ run.node;
    nodes = same.nodes ∙ run.nodes;
    cap = same.cap ∙ run.cap;
    size = ap (λ (x : TurnWorker D). 256 * x.side.owner.pages) met.handler ∙ run.size;
    inputs = ap (λ (x : TurnWorker D). x.inputs.items) met.handler ∙ run.inputs;
    sender = sender.node ∙ run.sender;
    receivers = sender.nodes ∙ run.receivers;
  }

  -- the store's side is the same
  pub met-side : (t t2 : TurnWorker D) (p p2 : PatchWorker D) (s s2 : SendWorker) → HaveMet told size t t2 p p2 s s2 → t2.side ≡ t.side
  met-side t t2 p p2 s s2 met = ap (λ (x : TurnWorker D). x.side) met.handler

module _ {D : Type 0} (t t2 : TurnWorker D) where
  -- and so is whose disks they are, also where they are taken apart
  pub owner-met : IsSameWorker t t2 → t2.side ≡ t.side → worker_owner t2 ≡ worker_owner t
  owner-met same side =
      ap (λ (n : ℕ). let o : Owner = record { node = n; nodes = t2.nodes; pages = t2.side.owner.pages } in o) same.node
      ∙ ap (λ (n : ℕ). let o : Owner = record { node = t.node; nodes = n; pages = t2.side.owner.pages } in o) same.nodes
      ∙ ap (λ (x : TurnSide D). let o : Owner = record { node = t.node; nodes = t.nodes; pages = x.owner.pages } in o) side

  pub owner-parted : (p : PatchWorker D) (s : SendWorker) (x : Parts) → IsSameWorker t t2 → t2.side ≡ t.side → ArePartsOf t2 p s x → owner_in x ≡ worker_owner t
  owner-parted p s x same side parts =
      ap (λ (n : ℕ). let o : Owner = record { node = n; nodes = x.nodes; pages = x.size } in o) parts.node
      ∙ ap (λ (n : ℕ). let o : Owner = record { node = t2.node; nodes = n; pages = x.size } in o) parts.nodes
      ∙ ap (λ (n : ℕ). let o : Owner = record { node = t2.node; nodes = t2.nodes; pages = n } in o) parts.size
      ∙ owner-met same side

-- and where they met, what they are made of is ready
pub parts-ready : {D : Type 0} (g : Game) (v : ℕ) (t : TurnWorker D) (p : PatchWorker D) (s : SendWorker) (x : Parts) → IsWithinLimits g → AreOfRun g v t s → AreJoined t p s → AreEmpty t p s → ArePartsOf t p s x → AreReady g v x
parts-ready {D} g v t p s x limits run joined empty parts =
    let node : x.node ≡ v = parts.node ∙ run.node in
    let inputs : x.inputs.items ≡ inputs_for g v = parts.inputs ∙ run.inputs in
    record {
      node = node;
      nodes = parts.nodes ∙ run.nodes;
      size = let of_run = run.size in let whole = size_is g limits in let is = parts.size in omega (arith, of_run, whole, is);
      cap = parts.cap ∙ run.cap;
      inputs = inputs;
      given = are_given g v x limits node inputs;
      room = (subst (λ (k : ℕ). 64 ≤ k) (sym parts.news.0) t.room.0, parts.news.1 ∙ t.room.1);
      pages = bare_at t.pages x.pages.0 p.pages x.pages.1 (ap (λ (q : PushEnd Frozen × PopEnd Frozen). q.0) parts.pages) (ap (λ (q : PushEnd Frozen × PopEnd Frozen). q.1) parts.pages) (joined.pages, empty.pages);
      settled = bare_at p.settled x.settled.0 t.settled x.settled.1 (ap (λ (q : PushEnd Settled × PopEnd Settled). q.0) parts.settled) (ap (λ (q : PushEnd Settled × PopEnd Settled). q.1) parts.settled) (joined.settled, empty.settled);
      sealed = bare_at t.sealed x.sealed s.sealed x.sends.sealed parts.sealed (ap (λ (w : SendWorker). w.sealed) parts.sends) (joined.sealed, empty.sealed);
      progress = bare_at s.told x.sends.told t.progress x.progress (ap (λ (w : SendWorker). w.told) parts.sends) parts.progress (joined.progress, empty.progress);
      sender = ap (λ (w : SendWorker). w.backlog.node) parts.sends ∙ run.sender;
      receivers = ap (λ (w : SendWorker). w.nodes) parts.sends ∙ run.receivers;
    }

-- a node that was created is down still, whatever its stage is then
pub parted-down : {D : Type 0} (told : D → Option Story) (g : Game) (v : ℕ) (given : List Packet) (n : Node) (doubt : Doubt) (t : TurnWorker D) (p : PatchWorker D) (s : SendWorker) (stage : Stage D) → IsDown told g v given n doubt (Created t p s)
    → IsOfNode g v stage → turns_in stage ≡ t.turns.items → HasDisks (disks_apart t.side p.side) stage → IsDown told g v given n doubt stage
parted-down {D} told g v given n doubt t p s stage d of_node turns has = record {
  limits = d.limits;
  known = d.known;
  of_node = of_node;
  turns = turns ∙ d.turns;
  disks = d.disks;
  has = subst (λ (y : Disks D). HasDisks y stage) (sym d.has) has;
  tell = d.tell;
  leaves = d.leaves;
  either = ⊎_elim (λ first. absurd first) (λ log. inr log) d.either;
}
