-- What a recovery of a node that is down finds.
use Rattle.std.proofs.Common.{◌≡◌, ℕ, List, ⊎_elim, refl, sym, ap, subst, ◌∙◌, arith, Option, Some, None, Result, Ok, Err}
use Rattle.std.specs.Prelude.{IsSome, OnErr}
use Rattle.std.specs.List.{All}
use Rattle.ken_disk.specs.Fates.{Fate}
use Rattle.ken_disk.specs.Story.{Story}
use Rattle.ken_disk.proofs.Images.{image-seen_at_rest}
use Rattle.ken_model.specs.declared.states.State.{State}
use Rattle.ken_model.specs.Game.{Game}
use Rattle.ken_core.specs.Calls.{Doubt, no_doubt}
use Rattle.ken_core.specs.Nodes.{Node, first_node}
use Rattle.ken_core.specs.Packets.{Packet}
use Rattle.ken_store.specs.declared.disks.Disks.{Disks}
use Rattle.ken_store.specs.declared.faults.StoreFault.{StoreFault}
use Rattle.ken_store.specs.declared.faults.StoreFault.TheVariants as store
use Rattle.ken_store.specs.declared.owner.Owner.{Owner}
use Rattle.ken_store.specs.declared.store.Recovered.{Recovered}
use Rattle.ken_store.specs.declared.store.Store.{Store}
use Rattle.ken_store.specs.Answers.{Answers, AreAtRest, Mounts, TellsAll, disks_of}
use Rattle.ken_store.specs.Recovered.{Fresh, Recovery, recovered}
use Rattle.ken_store.specs.Reads.{AreSame, ReadsDisks}
use Rattle.ken_store.specs.Standing.{IsReady, IsReadyStore}
use Rattle.ken_ship.specs.Fits.{IsMailFrom}
use Rattle.ken_work.specs.declared.parts.Parts.{Parts}
use Rattle.ken_node.specs.declared.stage.Stage.TheVariants.{Uncreated}
use Rattle.ken_whole.specs.New.{owner_of}
use Rattle.ken_node.specs.Down.{AreReady, AreTold, IsDown, LeavesLog, LeavesNode, Left}
use Rattle.ken_work.specs.Faults.{IsFaultOfWorker, node_answer}
use Rattle.ken_work.specs.First.{AreFirst}
use Rattle.ken_work.specs.Parts.{CountsAnew}
use Rattle.ken_node.specs.Restarting.{LeaveLess}
use Rattle.ken_node.specs.Stages.{owner_in}
use Rattle.ken_node.proofs.FoundAgain.{fresh-is-first, left-is-sound}
use Rattle.ken_node.proofs.Mails.{log-mails}
use Rattle.ken_node.proofs.Restarted.{same-less}

pub owner-ready : (g : Game) (v : ℕ) (x : Parts) → AreReady g v x → owner_in x ≡ owner_of g v
owner-ready g v x is =
    ap (λ (n : ℕ). let o : Owner = record { node = n; nodes = x.nodes; pages = x.size } in o) is.node
    ∙ ap (λ (n : ℕ). let o : Owner = record { node = v; nodes = n; pages = x.size } in o) is.nodes
    ∙ ap (λ (n : ℕ). let o : Owner = record { node = v; nodes = g.nodes; pages = n } in o) is.size

pub some-is : {X : Type 0} (o : Option X) → IsSome o → (x : X) × (o ≡ Some x)
some-is None some = absurd (let no : ⊥ = cc some in no)
some-is (Some x) some = (x, refl)

-- what the disks of a node hold that nothing is pending on
pub record HasLeft {D : Type 0} (told : D → Option Story) (g : Game) (v : ℕ) (given : List Packet) (n : Node) (doubt : Doubt) (disks : Disks D) : Type 0 where
  pub log : Story
  pub image : Story
  pub second : Story
  pub log_told : told disks.log ≡ Some log
  pub image_told : told disks.image ≡ Some image
  pub second_told : told disks.second ≡ Some second
  pub left : Left g v given n doubt log.now.seen image.now.seen second.now.seen

module _ {D : Type 0} (told : D → Option Story) (g : Game) (v : ℕ) (given : List Packet) (n : Node) (doubt : Doubt) (disks : Disks D) (x : Parts) (d : IsDown told g v given n doubt (Uncreated disks x)) where
  pub tell-now : AreTold told disks
  tell-now = subst (AreTold told) d.has d.tell

  pub left-now : AreAtRest told disks → HasLeft told g v given n doubt disks
  left-now rests =
      let l = some-is (told disks.log) tell-now.0 in
      let i = some-is (told disks.image) tell-now.1 in
      let s = some-is (told disks.second) tell-now.2 in
      let leaves : LeavesNode told g v given n doubt disks = subst (LeavesNode told g v given n doubt) d.has d.leaves in
      record {
        log = l.0;
        image = i.0;
        second = s.0;
        log_told = l.1;
        image_told = i.1;
        second_told = s.1;
        left = leaves l.0 l.1 i.0 i.1 s.0 s.1 l.0.now.seen i.0.now.seen s.0.now.seen (image-seen_at_rest l.0.now (rests.log l.0 l.1)) (image-seen_at_rest i.0.now (rests.image i.0 i.1)) (image-seen_at_rest s.0.now (rests.second s.0 s.1));
      }

  -- what the bytes stand for, by the answer of a recovery
  answered-now : (rests : AreAtRest told disks) (P : Recovery → Type 0) → TellsAll told disks (λ l i s. P (recovered (owner_in x) l.now.seen i.now.seen s.now.seen))
      → let h = left-now rests in P (recovered (owner_of g v) h.log.now.seen h.image.now.seen h.second.now.seen)
  answered-now rests P answers =
      let h = left-now rests in
      subst (λ (o : Owner). P (recovered o h.log.now.seen h.image.now.seen h.second.now.seen)) (owner-ready g v x d.of_node) (answers h.log h.log_told h.image h.image_told h.second h.second_told)

  -- where nothing is found the node was being created, and its parts are those of a new one
  pub fresh-first : AreAtRest told disks → TellsAll told disks (λ l i s. recovered (owner_in x) l.now.seen i.now.seen s.now.seen ≡ Fresh) → (n ≡ first_node g) × (doubt ≡ no_doubt) × AreFirst g v x
  fresh-first rests answers =
      let h = left-now rests in
      let none = fresh-is-first g v d.limits given n doubt h.log.now.seen h.image.now.seen h.second.now.seen h.left (answered-now rests (λ (r : Recovery). r ≡ Fresh) answers) in (
        none.0,
        none.1,
        ⊎_elim (λ first. first)
            (λ log. let leaves : LeavesLog told disks = subst (LeavesLog told) d.has log in
            absurd (leaves h.log h.log_told h.image h.image_told h.second h.second_told h.log.now.seen h.second.now.seen (image-seen_at_rest h.log.now (rests.log h.log h.log_told)) (image-seen_at_rest h.second.now (rests.second h.second h.second_told)) none.2 none.3)) d.either,
      )

  -- nothing is refused
  pub recovers-sound : AreAtRest told disks → (fault : StoreFault) → TellsAll told disks (λ l i s. Answers {D = D} (Err fault) (recovered (owner_in x) l.now.seen i.now.seen s.now.seen)) → IsFaultOfWorker {T = ℕ} (node_answer (Err fault))
  recovers-sound rests store.Disk answers = tt
  recovers-sound rests store.Memory answers = tt
  recovers-sound rests (store.Damaged disk place) answers =
      let h = left-now rests in
      left-is-sound g v d.limits given n doubt h.log.now.seen h.image.now.seen h.second.now.seen h.left disk place (answered-now rests (Answers {D = D} (Err (store.Damaged disk place))) answers)

  -- the messages of a state that is found are mails of the node
  pub state-mails : (size : D → ℕ) (store : Store D) (state : State) → IsReadyStore told size (owner_in x) store state → All (IsMailFrom x.sends.backlog.node) state.messages
  state-mails size store state ready =
      let t = store.turns in
      let turning = ready.takes.store.turns in
      let r : AreReady g v x = d.of_node in
      let owner : t.owner.node ≡ x.node = ap (λ (o : Owner). o.node) ready.owner in
      let node : t.owner.node ≡ x.sends.backlog.node = owner ∙ r.node ∙ sym r.sender in
      let few = turning.owner.nodes in
      let below = turning.owner.node in
      let mails = log-mails t.owner.node (omega (arith, few, below)) t.owner t.log.header t.log.base t.records.items t.numbers few turning.log.header turning.items turning.numbers in
      subst (λ (u : ℕ). All (IsMailFrom u) state.messages) node (subst (λ (s : State). All (IsMailFrom t.owner.node) s.messages) (sym ready.tells) mails)

-- after an error of the store the count of refusals is as it was
pub counts-still : (fault : StoreFault) (k : ℕ) → CountsAnew {T = ℕ} (node_answer (Err fault)) k k
counts-still store.Disk k = refl
counts-still store.Memory k = refl
counts-still (store.Damaged disk place) k = refl

pub on-err : {T E : Type 0} (r : Result T E) (P : Type 0) → P → OnErr r P
on-err (Ok x) P holds = tt
on-err (Err e) P holds = holds

-- ---- disks that were read

module _ {D : Type 0} (told : D → Option Story) (count : D → ℕ) (fate : D → Option Fate) where
  same-leave : (old new : Disks D) → AreSame told count fate old new → LeaveLess told old new
  same-leave old new same = record {
    log = same-less (told old.log) (told new.log) same.log.story;
    image = same-less (told old.image) (told new.image) same.image.story;
    second = same-less (told old.second) (told new.second) same.second.story;
  }

  pub read-less : {T : Type 0} (r : Result T StoreFault) (old new : Disks D) → ReadsDisks told count fate r old new → LeaveLess told old new
  read-less (Ok x) old new reads = same-leave old new reads
  read-less (Err (store.Damaged disk place)) old new reads = same-leave old new reads
  read-less (Err store.Memory) old new reads = same-leave old new reads
  read-less (Err store.Disk) old new reads = ⊎_elim
      (λ a. record { log = same-less (told old.log) (told new.log) a.0.story; image = same-less (told old.image) (told new.image) a.1.story; second = same-less (told old.second) (told new.second) a.2.story })
      (λ b. ⊎_elim
      (λ a. record { log = same-less (told old.log) (told new.log) a.0.story; image = same-less (told old.image) (told new.image) a.1.story; second = same-less (told old.second) (told new.second) a.2.story })
      (λ a. record { log = same-less (told old.log) (told new.log) a.0.story; image = same-less (told old.image) (told new.image) a.1.story; second = same-less (told old.second) (told new.second) a.2.story })
      b) reads

-- ---- what was found

pub record IsFound {D : Type 0} (told : D → Option Story) (size count : D → ℕ) (fate : D → Option Fate) (disks : Disks D) (x : Parts) (found : Recovered D) : Type 0 where
  pub answers : TellsAll told disks (λ l i s. Answers (Ok found) (recovered (owner_in x) l.now.seen i.now.seen s.now.seen))
  pub records : TellsAll told disks (λ l i s. Mounts (Ok found) l.now.seen s.now.seen)
  pub ready : IsReady told size (owner_in x) (Ok found)
  pub reads : AreSame told count fate disks (disks_of (Ok found))
