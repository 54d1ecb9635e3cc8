-- A call of a node's workers, and the meeting after it.
use Rattle.std.proofs.Common.{◌≡◌, ℕ, ◌<◌, Option, Some, None, IsSome, false, inl, inr, refl, sym, ap, subst, ◌∙◌}
use Rattle.std.proofs.lemmas.Bool.{false≢true}
use Rattle.ken_disk.specs.Fates.{Fate}
use Rattle.ken_disk.specs.Story.{Story, Follows}
use Rattle.ken_image.specs.declared.image.Image.{Image}
use Rattle.ken_model.specs.Game.{Game}
use Rattle.ken_model.specs.Limits.{IsWithinLimits}
use Rattle.ken_core.specs.Nodes.{Node}
use Rattle.ken_store.specs.declared.disks.Disks.{Disks}
use Rattle.ken_store.specs.declared.disks.Which.{Which}
use Rattle.ken_store.specs.declared.disks.Which.TheVariants.{First, Second}
use Rattle.ken_store.specs.declared.turning.TurnSide.{TurnSide}
use Rattle.ken_store.specs.Answers.{disks_from}
use Rattle.ken_store.specs.Apart.{disks_apart}
use Rattle.ken_store.specs.Creations.{HasFailed, IsUnfailed}
use Rattle.ken_ship.specs.declared.worker.SendWorker.{SendWorker}
use Rattle.ken_ship.specs.Parts.{Part}
use Rattle.ken_ship.specs.Parts.{IsSameWorker as IsSameSender}
use Rattle.ken_work.specs.declared.patcher.PatchWorker.{PatchWorker}
use Rattle.ken_node.specs.declared.stage.Stage.{Stage}
use Rattle.ken_node.specs.declared.stage.Stage.TheVariants.{Uncreated, Created, Moved}
use Rattle.ken_work.specs.declared.worker.TurnWorker.{TurnWorker}
use Rattle.ken_node.specs.Down.{AreTold}
use Rattle.ken_work.specs.Meeting.{AreEmpty, AreFronts, AreJoined, HaveMet}
use Rattle.ken_node.specs.Restarts.{AreUnfailed, OneHasFailed}
use Rattle.ken_node.specs.Up.{IsUp}
use Rattle.ken_whole.specs.Whole.{IsWhole}
use Rattle.ken_whole.proofs.MeetingWhole.{meeting_keeps_whole}

-- ---- the disks of a node

-- where something was told it is told still
pub still-told : {X : Type 0} (R : X → X → Type 0) (old new : Option X) → Follows R old new → IsSome old → IsSome new
still-told R (Some x) new follows some = subst IsSome (sym follows.1) refl
still-told R None new follows some = absurd (false≢true some)

-- what follows as the same is the same
pub follows-same : {X : Type 0} (R : X → X → Type 0) (old new : Option X) → ((x y : X) → R x y → y ≡ x) → Follows R old new → new ≡ old
follows-same R (Some x) new same follows = follows.1 ∙ ap Some (same x follows.0 follows.2)
follows-same R None new same follows = follows

module _ {D : Type 0} where
  -- the three disks are told, whichever of the logs is current
  pub told-image : (told : D → Option Story) (w : Which) (log image image2 other : D) → (IsSome (told image) → IsSome (told image2)) → AreTold told (disks_from w log image other) → AreTold told (disks_from w log image2 other)
  told-image told First log image image2 other goes tell = (tell.0, goes tell.1, tell.2)
  told-image told Second log image image2 other goes tell = (tell.0, goes tell.1, tell.2)

  module _ (told : D → Option Story) (count : D → ℕ) (fate : D → Option Fate) where
    pub unfailed-still : (disk : D) → IsUnfailed count fate disk disk
    unfailed-still disk = record { count = refl; falls = refl }

    pub all-unfailed : (disks : Disks D) → AreUnfailed told count fate disks disks
    all-unfailed disks = record { log = unfailed-still disks.log; image = unfailed-still disks.image; second = unfailed-still disks.second }

    -- only the image's disk was called
    pub image-unfailed : (w : Which) (log image image2 other : D) → IsUnfailed count fate image image2 → AreUnfailed told count fate (disks_from w log image other) (disks_from w log image2 other)
    image-unfailed First log image image2 other is = record { log = unfailed-still log; image = is; second = unfailed-still other }
    image-unfailed Second log image image2 other is = record { log = unfailed-still other; image = is; second = unfailed-still log }

    pub image-failed : (w : Which) (log image image2 other : D) → HasFailed count fate image image2 → OneHasFailed told count fate (disks_from w log image other) (disks_from w log image2 other)
    image-failed First log image image2 other has = inr (inl (unfailed-still log, has, unfailed-still other))
    image-failed Second log image image2 other has = inr (inl (unfailed-still other, has, unfailed-still log))

-- ---- a node that is up

module _ {D : Type 0} (told : D → Option Story) (size : D → ℕ) where
  -- the same of its workers
  pub record AreUp (g : Game) (v : ℕ) (n : Node) (t : TurnWorker D) (p : PatchWorker D) (s : SendWorker) : Type 0 where
    pub limits : IsWithinLimits g
    pub known : v < g.nodes
    pub whole : IsWhole told size g v n t p s
    pub empty : AreEmpty t p s
    pub unspent : p.side.image.spent ≡ false
    pub tell : AreTold told (disks_apart t.side p.side)

  abbrev AreUpIn : Game → ℕ → Node → Stage D → Type 0
  AreUpIn g v n (Uncreated disks parts) = ⊥
  AreUpIn g v n (Created t p s) = AreUp g v n t p s
  AreUpIn g v n Moved = ⊥

  pub are-up : (g : Game) (v : ℕ) (n : Node) (t : TurnWorker D) (p : PatchWorker D) (s : SendWorker) → IsUp told size g v n (Created t p s) → AreUp g v n t p s
  are-up g v n t p s up =
      subst (AreUpIn g v n) (sym up.stage_is) (record { limits = up.limits; known = up.known; whole = up.whole; empty = up.empty; unspent = up.unspent; tell = up.tell })

  -- the handler of a stage
  abbrev handler_or : TurnWorker D → Stage D → TurnWorker D
  handler_or w (Uncreated disks parts) = w
  handler_or w (Created t p s) = t
  handler_or w Moved = w

  pub handler-is : (g : Game) (v : ℕ) (n : Node) (t : TurnWorker D) (p : PatchWorker D) (s : SendWorker) → (up : IsUp told size g v n (Created t p s)) → t ≡ up.handler
  handler-is g v n t p s up = ap (handler_or t) up.stage_is

  module _ (t t2 : TurnWorker D) (p p2 : PatchWorker D) (s s2 : SendWorker) (met : HaveMet told size t t2 p p2 s s2) where
    -- where the rings are empty after a meeting, only a front of what was pushed had left them before
    pub met-fronts : AreEmpty t2 p2 s2 → AreFronts t p s
    met-fronts empty = record {
      pages = (met.patches.turns, sym met.pages ∙ sym empty.pages.all ∙ met.patches.popped_are);
      sealed = (met.sends.turns, sym met.sealed ∙ sym empty.sealed.all ∙ met.sends.popped_are);
      settled = (met.settled.items, sym met.settles ∙ sym empty.settled.all ∙ met.settled.popped_are);
      progress = (met.progress.items, sym (ap (λ (x : Part). x.told) met.rest) ∙ sym empty.progress.all ∙ met.progress.popped_are);
    }

    met-side : t2.side ≡ t.side
    met-side = ap (λ (w : TurnWorker D). w.side) met.handler

    -- a meeting calls no disk
    pub met-disks : disks_apart t2.side p2.side ≡ disks_apart t.side p.side
    met-disks = ap (λ (x : TurnSide D). disks_apart x p2.side) met-side ∙ ap (λ (i : Image D). disks_from t.side.which t.side.log.disk i.disk t.side.other) met.patches.handed.image

    -- the node is up still
    pub met-up : (g : Game) (v : ℕ) (n : Node) → IsWithinLimits g → v < g.nodes → IsWhole told size g v n t p s → p.side.image.spent ≡ false → AreTold told (disks_apart t.side p.side)
        → IsSameSender s s2 → AreJoined t2 p2 s2 → AreEmpty t2 p2 s2 → IsUp told size g v n (Created t2 p2 s2)
    met-up g v n limits known whole unspent tell same joined empty = record {
      limits = limits;
      known = known;
      handler = t2;
      patcher = p2;
      sender = s2;
      stage_is = refl;
      whole = meeting_keeps_whole told size g v n t t2 p p2 s s2 whole same joined met;
      empty = empty;
      unspent = ap (λ (i : Image D). i.spent) met.patches.handed.image ∙ unspent;
      tell = subst (AreTold told) (sym met-disks) tell;
    }
