-- A node that is up is recovered at its place of the network.
use Rattle.std.proofs.Common.{arith, ◌≡◌, ◌≢◌, ◌∙◌, ◌*◌, ℕ, ◌<◌, ◌≤◌, List, [], length, drop, take, slice_index, Option, Some, refl, sym, ap, subst}
use Rattle.std.proofs.lemmas.List.{append_cancel_left, append-nil}
use Rattle.ken_cover.specs.Sides.{pages_of}
use Rattle.ken_cover.specs.Overlay.{overlay}
use Rattle.ken_disk.specs.Story.{Story, IsAtRest, Tells}
use Rattle.ken_model.specs.declared.reports.Emission.{Emission}
use Rattle.ken_model.specs.declared.reports.TurnLine.{TurnLine}
use Rattle.ken_model.specs.Game.{Game}
use Rattle.ken_model.specs.Laws.{steps_of}
use Rattle.ken_model.specs.History.{consumed}
use Rattle.ken_model.specs.Network.{Network, Turn, outside}
use Rattle.ken_model.specs.Reading.{read_value}
use Rattle.ken_model.specs.Schedule.{play}
use Rattle.ken_core.specs.Accord.{Accord}
use Rattle.ken_core.specs.Laws.{IsPlayedBy}
use Rattle.ken_core.specs.Nodes.{Node, heap_pages}
use Rattle.ken_core.specs.Turns.{consumed_from, sealed}
use Rattle.ken_core.proofs.Numbers.{consumed-sealed, length-outputs_from}
use Rattle.ken_store.specs.declared.disks.Disks.{Disks}
use Rattle.ken_store.specs.declared.owner.Owner.{Owner}
use Rattle.ken_store.specs.Ahead.{ahead_layers}
use Rattle.ken_store.specs.Answers.{disks_from}
use Rattle.ken_store.specs.Apart.{ApartRecovers, disks_apart, hand_all}
use Rattle.ken_store.specs.declared.disks.Which.{Which}
use Rattle.ken_store.specs.declared.disks.Which.TheVariants.{First, Second}
use Rattle.ken_store.specs.Recovered.{Whole}
use Rattle.ken_store.specs.Standing.{RecoversTo}
use Rattle.ken_store.specs.Turning.{state_in, turn_pages}
use Rattle.ken_node.specs.declared.stage.Stage.{Stage}
use Rattle.ken_node.specs.declared.stage.Stage.TheVariants.{Created, Moved, Uncreated}
use Rattle.ken_whole.specs.New.{owner_of}
use Rattle.ken_work.specs.Patches.{waits_of}
use Rattle.ken_work.specs.declared.items.Frozen.{Frozen}
use Rattle.ken_node.specs.Stages.{HasDisks, image_told}
use Rattle.ken_node.specs.Up.{IsUp}
use Rattle.ken_node.proofs.GoesDown.{owner-is}
use Rattle.ken_flow.specs.Groups.{group_of}
use Rattle.ken_run.specs.Patched.{IsPatched}
use Rattle.ken_drive.specs.Recovering.{HoldsHeapAt, IsStateAt, KeepsWaiting, RecoversAt}

-- what a node has consumed is counted by its turns as it keeps them
taken-of : (u v : ℕ) (n : Node) (ts : List Turn) → n.turning.turns ≡ sealed v ts → consumed_from u n.turning.turns ≡ length (consumed u ts)
taken-of u v n ts are = ap (consumed_from u) are ∙ consumed-sealed u v ts

-- where the disks of a store have its image
image-from : {D : Type 0} (which : Which) (current image other : D) → (disks_from which current image other).image ≡ image
image-from First current image other = refl
image-from Second current image other = refl

-- and what it tells
pub image-of : {D : Type 0} (told : D → Option Story) (disks : Disks D) (stage : Stage D) → HasDisks disks stage → image_told told stage ≡ told disks.image
image-of {D} told disks (Uncreated own parts) has = ap (λ (ds : Disks D). told ds.image) (sym has)
image-of {D} told disks (Created t p s) has = ap told (sym (ap (λ (ds : Disks D). ds.image) has ∙ image-from t.side.which t.side.log.disk p.side.image.disk t.side.other))
image-of told disks Moved has = absurd has

module _ {D : Type 0} (told : D → Option Story) (size : D → ℕ) (g : Game) (v : ℕ) (nodes : ℕ → Node) (emissions : List Emission) (lines : List TurnLine) (stage : Stage D)
    (accord : Accord g (group_of g nodes emissions)) (played : IsPlayedBy g (group_of g nodes emissions) lines) (up : IsUp told size g v (nodes v) stage)
    (apart : ApartRecovers told size) where
  abbrev w : Network
  w = play g (steps_of lines)

  abbrev n : Node
  n = nodes v

  no-outside : v ≢ outside
  no-outside same = let few = up.limits.few_nodes in let known = up.known in omega (arith, same, few, known)

  -- what the log tells is the node's place
  waits : (u : ℕ) → u < g.nodes → KeepsWaiting g v u w (state_in up.handler.side)
  waits u low =
      let here = accord.made.nodes v in
      let there = accord.made.nodes u in
      let most : slice_index n.turning.retired u ≤ length (consumed v (accord.history u)) = here.retired.most u in
      let count : ((w.link v u).taken ≡ length (consumed v (accord.history u))) = sym (played.taken v u) ∙ taken-of v u (nodes u) (accord.history u) there.turns in
      record {
        retired = slice_index n.turning.retired u;
        consumed = omega (arith, most, count);
        messages = up.whole.workers.log.state.messages u low ∙ ap (drop (slice_index n.turning.retired u)) (played.sent v u no-outside);
      }

  is-state : IsStateAt g v w (state_in up.handler.side)
  is-state =
      let counted = up.whole.workers.turns.counted in
      let at = played.place v in
      record {
        turns = counted.turns ∙ at.turns;
        stamp = counted.stamp ∙ at.stamp;
        consumed = λ u is. counted.consumed u is ∙ played.taken u v;
        sent = λ u low. up.whole.workers.log.state.sent u low ∙ ap length (played.sent v u no-outside);
        outputs = counted.outputs ∙ ap length at.outs ∙ length-outputs_from 0 (w.place v).outs;
        waits = waits;
        retired_outs = n.turning.retired_outs;
        outs = up.whole.workers.log.state.outs ∙ ap (drop n.turning.retired_outs) at.outs;
      }

  -- the value of the node's heap is that of its place
  reads : read_value (turn_pages up.handler.side).heap ≡ Some (w.place v).value
  reads = ap (λ pages. read_value pages.heap) (sym up.whole.pages.turning) ∙ played.value v

  pub up-recovers : (disks : Disks D) → HasDisks disks stage → RecoversAt told g v w disks
  up-recovers disks has =
      let pages = up.whole.pages in
      let are : disks ≡ disks_apart up.handler.side up.patcher.side = subst (λ (s : Stage D). HasDisks disks s) up.stage_is has in
      let owner = owner-is told size g v n up.handler up.patcher up.sender up.whole.workers pages.turning in
      let recovers = apart up.handler.side up.patcher.side (waits_of pages.queue) pages.image (w.place v).value pages.apart reads in
      record {
        state = state_in up.handler.side;
        recovers = subst (λ (ds : Disks D). RecoversTo told (owner_of g v) ds (Whole (state_in up.handler.side) (w.place v).value)) (sym are) (subst (λ (o : Owner). RecoversTo told o (disks_apart up.handler.side up.patcher.side) (Whole (state_in up.handler.side) (w.place v).value)) owner recovers);
        is = is-state;
      }

  -- nothing is on its way to the patcher
  no-queue : up.whole.pages.queue ≡ []
  no-queue =
      let pages = up.whole.pages in
      append_cancel_left _ pages.queue [] (sym pages.ring ∙ sym up.empty.pages.all ∙ sym (append-nil _))

  -- where no page waits, the image has the heap's bytes
  module _ (patched : up.patcher.side.ahead.items ≡ []) where
    image-is : up.whole.pages.image.image ≡ (turn_pages up.handler.side).heap
    image-is =
        let pages = up.whole.pages in
        let none : pages.image.ahead ≡ [] = sym pages.apart.patches.ahead ∙ ap ahead_layers patched in
        let goal : overlay (hand_all (waits_of pages.queue) pages.image).image (pages_of (hand_all (waits_of pages.queue) pages.image).ahead) ≡ (turn_pages up.handler.side).heap = pages.apart.covers.goal refl in
        let now : overlay pages.image.image (pages_of pages.image.ahead) ≡ (turn_pages up.handler.side).heap =
        subst (λ (q : List Frozen). overlay (hand_all (waits_of q) pages.image).image (pages_of (hand_all (waits_of q) pages.image).ahead) ≡ (turn_pages up.handler.side).heap) no-queue goal in
        subst (λ a. overlay pages.image.image (pages_of a) ≡ (turn_pages up.handler.side).heap) none now

    count-is : up.patcher.side.image.pages ≡ heap_pages g
    count-is =
        let pages = up.whole.pages in
        let owner = owner-is told size g v n up.handler up.patcher up.sender up.whole.workers pages.turning in
        pages.apart.count ∙ ap (λ (o : Owner). o.pages) owner

    heap-read : (h : Story) → told up.patcher.side.image.disk ≡ Some h → read_value (take (256 * heap_pages g) h.now.seen) ≡ Some (w.place v).value
    heap-read h is =
        let holds = up.whole.pages.apart.patches.holds h is in
        ap (λ (pages : ℕ). read_value (take (256 * pages) h.now.seen)) (sym count-is)
        ∙ ap read_value (holds.seen ∙ image-is)
        ∙ reads

  -- the image of a node whose pages are all in it
  pub up-image : (disks : Disks D) → HasDisks disks stage → IsPatched stage → Tells (image_told told stage) (λ h. IsAtRest h.now) → HoldsHeapAt told g v w disks.image
  up-image disks has patched rests =
      let are : disks ≡ disks_apart up.handler.side up.patcher.side = subst (λ (s : Stage D). HasDisks disks s) up.stage_is has in
      let image : disks.image ≡ up.patcher.side.image.disk = ap (λ (ds : Disks D). ds.image) are ∙ image-from up.handler.side.which up.handler.side.log.disk up.patcher.side.image.disk up.handler.side.other in
      let none : up.patcher.side.ahead.items ≡ [] = subst IsPatched up.stage_is patched in
      let still : Tells (told up.patcher.side.image.disk) (λ h. IsAtRest h.now) = subst (λ (s : Stage D). Tells (image_told told s) (λ h. IsAtRest h.now)) up.stage_is rests in
      subst (HoldsHeapAt told g v w) (sym image) (record { rests = still; reads = heap-read none })
