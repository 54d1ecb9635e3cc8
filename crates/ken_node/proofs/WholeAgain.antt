-- A node that goes on from a recovered store, or is put back where memory ran out.
use Rattle.std.proofs.Common.{◌≡◌, ℕ, List, inl, inr, ⊎_elim, sym, ap, subst, ◌∙◌, Option, Result, Ok, Err}
use Rattle.std.specs.Prelude.{IfOk, IsSome, OnErr, OnOk}
use Rattle.ken_disk.specs.Fates.{Fate}
use Rattle.ken_disk.specs.Story.{Story}
use Rattle.ken_model.specs.declared.states.State.{State}
use Rattle.ken_model.specs.Game.{Game}
use Rattle.ken_record.specs.declared.effects.Effects.{Effects}
use Rattle.ken_record.specs.declared.record.Record.{Record}
use Rattle.ken_log.specs.Mounts.{mount_of}
use Rattle.ken_log.specs.Mounts as mounts
use Rattle.ken_core.specs.Calls.{Doubt}
use Rattle.ken_core.specs.Nodes.{Node}
use Rattle.ken_core.specs.Packets.{Packet}
use Rattle.ken_store.specs.declared.disks.Disks.{Disks}
use Rattle.ken_store.specs.declared.owner.Owner.{Owner}
use Rattle.ken_store.specs.declared.patching.PatchSide.{PatchSide}
use Rattle.ken_store.specs.declared.store.Store.{Store}
use Rattle.ken_store.specs.declared.turning.TurnSide.{TurnSide}
use Rattle.ken_store.specs.Answers.{AreAtRest, TellsAll, disks_in}
use Rattle.ken_store.specs.Apart.{disks_apart}
use Rattle.ken_store.specs.Logs.{log_on}
use Rattle.ken_store.specs.Reads.{AreSame}
use Rattle.ken_store.specs.Recovered.{Whole, recovered}
use Rattle.ken_store.specs.Standing.{IsReadyStore}
use Rattle.ken_ship.specs.declared.faults.NodeFault.{NodeFault}
use Rattle.ken_work.specs.declared.parts.Parts.{Parts}
use Rattle.ken_node.specs.declared.stage.Stage.{Stage}
use Rattle.ken_node.specs.declared.stage.Stage.TheVariants.{Uncreated}
use Rattle.ken_node.specs.Down.{AreTold, IsDown}
use Rattle.ken_work.specs.First.{AreFirst, IsNewRing}
use Rattle.ken_work.specs.Parts.{AreUnchanged}
use Rattle.ken_node.specs.Restarting.{GoesOn, IsPutBack}
use Rattle.ken_node.specs.Stages.{owner_in}
use Rattle.ken_node.specs.Restarts.{IsUpAgain}
use Rattle.ken_node.proofs.GoesOn.{same-ready}
use Rattle.ken_node.proofs.Recovered.{left-now, owner-ready, read-less, tell-now}
use Rattle.ken_node.proofs.Restarted.{down-on}
use Rattle.ken_node.proofs.UpAgain.{up-again}

-- parts that are unchanged are those of a new node still
first-unchanged : (g : Game) (v : ℕ) (x y : Parts) → AreUnchanged x y → AreFirst g v x → AreFirst g v y
first-unchanged g v x y un first =
    subst (AreFirst g v) (sym un.same.rest) (record {
      node = first.node;
      nodes = first.nodes;
      size = first.size;
      cap = first.cap;
      inputs = first.inputs;
      turns = un.turns ∙ first.turns;
      room = first.room;
      pages = first.pages;
      settled = first.settled;
      sealed = subst (IsNewRing x.sealed) (sym un.same.sealed) first.sealed;
      progress = subst (λ q. IsNewRing q x.progress) (sym un.same.told) first.progress;
      sender = un.same.sender ∙ first.sender;
      receivers = un.same.receivers ∙ first.receivers;
      part = un.part ∙ first.part;
    })

module _ {D : Type 0} (told : D → Option Story) (size count : D → ℕ) (fate : D → Option Fate) (g : Game) (v : ℕ) (given : List Packet) (n : Node) (doubt : Doubt) (disks : Disks D) (x : Parts) (d : IsDown told g v given n doubt (Uncreated disks x)) where
  -- the disks of a store on them tell
  tells-in : (store : Store D) → AreSame told count fate disks (disks_in store) → AreTold told (disks_in store)
  tells-in store same =
      let was = tell-now told g v given n doubt disks x d in
      (subst (λ (o : Option Story). IsSome o) (sym same.log.story) was.0, subst (λ (o : Option Story). IsSome o) (sym same.image.story) was.1, subst (λ (o : Option Story). IsSome o) (sym same.second.story) was.2)

  -- it is up again
  pub whole-up : (rests : AreAtRest told disks) (store : Store D) (state : State) (records : List Record)
      → TellsAll told disks (λ l i s. recovered (owner_in x) l.now.seen i.now.seen s.now.seen ≡ Whole state store.turns.objects.value)
      → TellsAll told disks (λ l i s. mount_of (log_on store.turns.which l.now.seen s.now.seen) ≡ mounts.Whole store.turns.log.header store.turns.log.base records)
      → IsReadyStore told size (owner_in x) store state → AreSame told count fate disks (disks_in store)
      → (stage : Stage D) (answer : Result ℕ NodeFault) → IfOk answer (λ turns. turns ≡ state.turns) → OnOk answer (GoesOn g v x.turns.items store state records stage)
      → IfOk answer (λ turns. IsUpAgain told size g v given n doubt turns stage)
  whole-up rests store state records answers mounted ready same stage (Err fault) is goes = tt
  whole-up rests store state records answers mounted ready same stage (Ok turns) is goes =
      let h = left-now told g v given n doubt disks x d rests in
      let owner = owner-ready g v x d.of_node in
      let of_turns = d.turns in
      let go = subst (λ (es : List Effects). GoesOn g v es store state records stage) of_turns goes in
      let t = go.handler in
      let up = up-again told size g v given n doubt d.limits disks h.log h.image h.second h.log_told h.image_told h.second_told rests h.left store state records
      (subst (λ (o : Owner). recovered o h.log.now.seen h.image.now.seen h.second.now.seen ≡ Whole state store.turns.objects.value) owner (answers h.log h.log_told h.image h.image_told h.second h.second_told))
      (mounted h.log h.log_told h.image h.image_told h.second h.second_told)
      (subst (λ (o : Owner). IsReadyStore told size o store state) owner ready)
      (same.log.story, same.image.story, same.second.story) t go.patcher go.sender go.goes in
      record {
        after = up.0;
        call = up.1.0;
        count = is ∙ ap (λ (s : State). s.turns) ready.tells ∙ ap (λ (y : TurnSide D). y.numbers.turns) (sym go.goes.side) ∙ sym up.1.2.workers.working.count ∙ up.1.1;
        handler = t;
        patcher = go.patcher;
        sender = go.sender;
        stage_is = go.stage_is;
        whole = up.1.2;
        empty = go.goes.empty;
        unspent = ap (λ (y : PatchSide D). y.image.spent) go.goes.patches ∙ ready.takes.unspent;
        tell = subst (λ (y : TurnSide D). AreTold told (disks_apart y go.patcher.side)) (sym go.goes.side) (subst (λ (y : PatchSide D). AreTold told (disks_apart store.turns y)) (sym go.goes.patches) (tells-in store same));
      }

  -- a node that was put back is down as it was
  pub back-down : (new : Disks D) (stage : Stage D) → AreSame told count fate disks new → IsPutBack x new stage → IsDown told g v given n doubt stage
  back-down new stage same back =
      let y : Parts = back.parts in
      let e = down-on told g v given n doubt disks new x (read-less told count fate {T = Unit {0}} (Ok tt) disks new same) d in
      subst (IsDown told g v given n doubt) (sym back.stage_is) (record {
        limits = e.limits;
        known = e.known;
        of_node = same-ready g v x y back.same.same e.of_node;
        turns = back.same.turns ∙ e.turns;
        disks = e.disks;
        has = e.has;
        tell = e.tell;
        leaves = e.leaves;
        either = ⊎_elim (λ first. inl (first-unchanged g v x y back.same first)) (λ log. inr log) e.either;
      })

  pub backs-down : (new : Disks D) (stage : Stage D) (answer : Result ℕ NodeFault) → AreSame told count fate disks new → OnErr answer (IsPutBack x new stage) → OnErr answer (IsDown told g v given n doubt stage)
  backs-down new stage (Ok turns) same back = tt
  backs-down new stage (Err fault) same back = back-down new stage same back
