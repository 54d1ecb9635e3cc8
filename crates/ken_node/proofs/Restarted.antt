-- Disks that were restarted, and a node on them.
use Rattle.std.proofs.Common.{◌≡◌, ℕ, List, inl, inr, ⊎_elim, refl, sym, subst, ◌∙◌, Option, Some, None, Result, Ok, Err}
use Rattle.std.specs.Prelude.{IsSome}
use Rattle.ken_disk.specs.Fates.{Fate}
use Rattle.ken_disk.specs.Story.{Story, IsImage}
use Rattle.ken_disk.proofs.Told.{by_none, some_is}
use Rattle.ken_model.specs.Game.{Game}
use Rattle.ken_core.specs.Calls.{Doubt}
use Rattle.ken_core.specs.Nodes.{Node}
use Rattle.ken_core.specs.Packets.{Packet}
use Rattle.ken_store.specs.declared.disks.Disks.{Disks}
use Rattle.ken_store.specs.declared.owner.Owner.{Owner}
use Rattle.ken_ship.specs.declared.faults.NodeFault.{NodeFault}
use Rattle.ken_ship.specs.declared.faults.NodeFault.TheVariants.{Disk, Damaged, Outlet, Memory}
use Rattle.ken_work.specs.declared.parts.Parts.{Parts}
use Rattle.ken_node.specs.declared.stage.Stage.TheVariants.{Uncreated}
use Rattle.ken_node.specs.Down.{AreTold, IsDown, LeavesLog, LeavesNode}
use Rattle.ken_node.specs.Restarting.{LeaveLess, LeavesLess, RecoversBy}
use Rattle.ken_node.specs.Restarts.{RestartsBy, WereRestarted}

-- ---- what a crash leaves then

-- of one that saw no call
pub same-less : (old new : Option Story) → new ≡ old → LeavesLess old new
same-less old new is = by_none (λ (a b : Story). (image : List ℕ) → IsImage b.now image → IsImage a.now image) old new is (λ a image left. left)

less-told : (old new : Option Story) → LeavesLess old new → IsSome old → IsSome new
less-told None new less some = absurd (let no : ⊥ = cc some in no)
less-told (Some h) new less some = subst (λ (o : Option Story). IsSome o) (sym less.1) refl

-- the story before
pub was-told : (old new : Option Story) → LeavesLess old new → (h : Story) → new ≡ Some h → (b : Story) × ((old ≡ Some b) × ((image : List ℕ) → IsImage h.now image → IsImage b.now image))
was-told None new less h is = absurd (let no : ⊥ = cc in no)
was-told (Some b) new less h is =
    (b, (refl, subst (λ (x : Story). (image : List ℕ) → IsImage x.now image → IsImage b.now image) (some_is less.0 h (sym less.1 ∙ is)) less.2))

module _ {D : Type 0} (told : D → Option Story) where
  less-told_all : (old new : Disks D) → LeaveLess told old new → AreTold told old → AreTold told new
  less-told_all old new less tell =
      (less-told (told old.log) (told new.log) less.log tell.0, less-told (told old.image) (told new.image) less.image tell.1, less-told (told old.second) (told new.second) less.second tell.2)

  less-node : (g : Game) (v : ℕ) (given : List Packet) (n : Node) (doubt : Doubt) (old new : Disks D) → LeaveLess told old new → LeavesNode told g v given n doubt old → LeavesNode told g v given n doubt new
  less-node g v given n doubt old new less leaves = λ l el i ei s es log image second at_log at_image at_second.
      let a = was-told (told old.log) (told new.log) less.log l el in
      let b = was-told (told old.image) (told new.image) less.image i ei in
      let c = was-told (told old.second) (told new.second) less.second s es in
      leaves a.0 a.1.0 b.0 b.1.0 c.0 c.1.0 log image second (a.1.1 log at_log) (b.1.1 image at_image) (c.1.1 second at_second)

  less-log : (old new : Disks D) → LeaveLess told old new → LeavesLog told old → LeavesLog told new
  less-log old new less leaves = λ l el i ei s es log second at_log at_second.
      let a = was-told (told old.log) (told new.log) less.log l el in
      let b = was-told (told old.image) (told new.image) less.image i ei in
      let c = was-told (told old.second) (told new.second) less.second s es in
      leaves a.0 a.1.0 b.0 b.1.0 c.0 c.1.0 log second (a.1.1 log at_log) (c.1.1 second at_second)

  -- a node that isn't created is down on its restarted disks still
  pub down-on : (g : Game) (v : ℕ) (given : List Packet) (n : Node) (doubt : Doubt) (old new : Disks D) (x : Parts) → LeaveLess told old new → IsDown told g v given n doubt (Uncreated old x) → IsDown told g v given n doubt (Uncreated new x)
  down-on g v given n doubt old new x less d =
      let same : d.disks ≡ old = d.has in
      record {
        limits = d.limits;
        known = d.known;
        of_node = d.of_node;
        turns = d.turns;
        disks = new;
        has = refl;
        tell = less-told_all old new less (subst (AreTold told) same d.tell);
        leaves = less-node g v given n doubt old new less (subst (LeavesNode told g v given n doubt) same d.leaves);
        either = ⊎_elim (λ first. inl first) (λ log. inr (less-log old new less (subst (LeavesLog told) same log))) d.either;
      }

  module _ (count : D → ℕ) (fate : D → Option Fate) where
    -- what becomes of the disks in a restart
    pub restarts-by : {T : Type 0} (o : Owner) (pick : ℕ) (r : Result T NodeFault) (old mid new : Disks D) → WereRestarted told count fate pick old mid → RecoversBy told count fate o r mid new → RestartsBy told count fate o pick r old new
    restarts-by o pick (Ok x) old mid new were by = (mid, (were, by))
    restarts-by o pick (Err Disk) old mid new were by = (mid, (were, by))
    restarts-by o pick (Err (Damaged n place)) old mid new were by = (mid, (were, by))
    restarts-by o pick (Err Memory) old mid new were by = (by.log.count ∙ were.log.faults, by.image.count ∙ were.image.faults, by.second.count ∙ were.second.faults)
    restarts-by o pick (Err Outlet) old mid new were by = by
