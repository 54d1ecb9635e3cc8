-- A node on its way: its workers stand for it, with whatever is in their rings.
use Rattle.std.specs.Prelude.{◌≡◌, ℕ, ◌<◌, Option, false}
use Rattle.ken_disk.specs.Story.{Story}
use Rattle.ken_model.specs.Game.{Game}
use Rattle.ken_model.specs.Limits.{IsWithinLimits}
use Rattle.ken_core.specs.Nodes.{Node}
use Rattle.ken_store.specs.Apart.{disks_apart}
use Rattle.ken_ship.specs.declared.worker.SendWorker.{SendWorker}
use Rattle.ken_ship.specs.Parts.{IsSameWorker as IsSameSender}
use Rattle.ken_work.specs.declared.patcher.PatchWorker.{PatchWorker}
use Rattle.ken_node.specs.declared.stage.Stage.TheVariants.{Created}
use Rattle.ken_work.specs.declared.worker.TurnWorker.{TurnWorker}
use Rattle.ken_node.specs.Down.{AreTold}
use Rattle.ken_work.specs.Meeting.{AreEmpty, AreJoined, HaveMet}
use Rattle.ken_node.specs.Up.{IsUp}
use Rattle.ken_whole.specs.Whole.{IsWhole}

module _ {D : Type 0} (told : D → Option Story) (size : D → ℕ) where
  -- node v of a run: what stands of one that is up stands, but that its rings need not be empty. Its patcher may be called
  -- only where no call of the image's disk failed
  pub record IsOn (g : Game) (v : ℕ) (n : Node) (t : TurnWorker D) (p : PatchWorker D) (s : SendWorker) : Type 0 where
    pub limits : IsWithinLimits g
    pub known : v < g.nodes
    pub whole : IsWhole told size g v n t p s
    pub tell : AreTold told (disks_apart t.side p.side)

  -- a node that is up is on its way, with empty rings and a patcher that may be called; and such a one is up
  pub record UpIsOn (g : Game) (v : ℕ) (n : Node) (t : TurnWorker D) (p : PatchWorker D) (s : SendWorker) : Type 0 where
    pub on : IsUp told size g v n (Created t p s) → IsOn g v n t p s
    pub empty : IsUp told size g v n (Created t p s) → AreEmpty t p s
    pub unspent : IsUp told size g v n (Created t p s) → p.side.image.spent ≡ false
    pub up : IsOn g v n t p s → AreEmpty t p s → p.side.image.spent ≡ false → IsUp told size g v n (Created t p s)

  abbrev pub UpIsOnAlways : Type 0
  UpIsOnAlways = (g : Game) (v : ℕ) (n : Node) (t : TurnWorker D) (p : PatchWorker D) (s : SendWorker) → UpIsOn g v n t p s

  -- after a meeting that empties the rings the node is up, where no call of its image's disk failed
  abbrev pub MeetingIsUp : Type 0
  MeetingIsUp =
      (g : Game) (v : ℕ) (n : Node) (t t2 : TurnWorker D) (p p2 : PatchWorker D) (s s2 : SendWorker) → IsOn g v n t p s
      → IsSameSender s s2 → AreJoined t2 p2 s2 → HaveMet told size t t2 p p2 s s2 → AreEmpty t2 p2 s2
      → p.side.image.spent ≡ false → IsUp told size g v n (Created t2 p2 s2)
