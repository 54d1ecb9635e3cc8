-- The crew of a node that is up may make a round.
use Rattle.std.proofs.Common.{◌≡◌, ◌∙◌, ℕ, ◌*◌, length, sym, ap, subst, arith}
use Rattle.ken_disk.specs.declared.disk.Disk as disk
use Rattle.ken_app.specs.Limits.{KeepsLimits}
use Rattle.ken_model.specs.Game.{Game}
use Rattle.ken_model.specs.Handler.{Handler}
use Rattle.ken_net.specs.Standings.{Leaving}
use Rattle.ken_core.specs.Nodes.{Node}
use Rattle.ken_node.specs.declared.watched.Watched.{Watched}
use Rattle.ken_node.specs.Stages.{IsCreated}
use Rattle.ken_node.specs.Up.{IsUp}
use Rattle.ken_node.proofs.Up.{are-up, AreUp}
use Rattle.ken_work.specs.Meeting.{AreJoined}
use Rattle.ken_work.specs.Workers.{Working}
use Rattle.ken_run.specs.declared.station.Station.{Station}
use Rattle.ken_threads.specs.declared.crew.Crew.{Crew}
use Rattle.ken_threads.specs.Rounds.{IsReady}
use Rattle.ken_rounds.specs.Manned.{IsMannedBy}

-- a node that is up is created
pub up-created : {D : Type 0} (d : disk.Ghosts D) (g : Game) (v : ℕ) (n : Node) (stage : _) → IsUp d.told d.size g v n stage → IsCreated stage
up-created d g v n stage up = record { turns = up.handler; patches = up.patcher; sends = up.sender; stage_is = up.stage_is }

module _ {D O U : Type 0} (d : disk.Ghosts (Watched D)) (g : Game) (made v : ℕ) (whole : made ≡ g.nodes) (n : Node) (h : Handler) (of_game : h ≡ g.handler) (s : Station D O U) (c : Crew (Watched D) O U)
    (manned : IsMannedBy c s) (up : IsUp d.told d.size g v n s.node.stage) where
  upright : AreUp d.told d.size g v n c.turns c.patches c.sends
  upright = are-up d.told d.size g v n c.turns c.patches c.sends (subst (IsUp d.told d.size g v n) manned.stage up)

  pub crew-joined : AreJoined c.turns c.patches c.sends
  crew-joined = upright.whole.workers.joined

  pub crew-ready : KeepsLimits g.nodes g.size g.handler → (mail : (s.mail.from ≡ v) × (length s.mail.links ≡ g.nodes)) → (acks : (s.acks.from ≡ v) × (length s.acks.links ≡ g.nodes)) → IsReady d h made v c
  crew-ready keeps mail acks =
      let of_run = upright.whole.workers.of_run in
      let empty = upright.empty in
      record {
        working = subst (λ (x : Handler). Working d.told d.size x c.turns) (sym of_game) upright.whole.workers.working;
        keeps =
            subst (λ (k : ℕ). KeepsLimits k (256 * c.turns.side.owner.pages) h) (sym whole)
            (subst (λ (k : ℕ). KeepsLimits g.nodes k h) (sym of_run.size) (subst (λ (x : Handler). KeepsLimits g.nodes g.size x) (sym of_game) keeps));
        handler = (of_run.node, of_run.nodes ∙ sym whole);
        pages = let room = empty.pages.free_now in omega (arith, room);
        sealed = let room = empty.sealed.free_now in omega (arith, room);
        patches = record { side = upright.whole.pages.apart.patches.takes; unspent = upright.unspent };
        settled = let room = empty.settled.free_now in omega (arith, room);
        sender = (of_run.sender, of_run.receivers ∙ sym whole);
        told = let room = empty.progress.free_now in omega (arith, room);
        links = record {
          mail = (ap (λ (l : Leaving). l.from) (sym manned.mail) ∙ mail.0, ap (λ (l : Leaving). length l.links) (sym manned.mail) ∙ mail.1 ∙ sym whole);
          acks = (ap (λ (l : Leaving). l.from) (sym manned.acks) ∙ acks.0, ap (λ (l : Leaving). length l.links) (sym manned.acks) ∙ acks.1 ∙ sym whole);
        };
      }
