-- A crew that is ready is so at its seats.
use Rattle.std.proofs.Common.{◌≡◌, ◌∙◌, ℕ, ◌*◌, length, sym, ap, subst}
use Rattle.ken_disk.specs.declared.disk.Disk as disk
use Rattle.ken_app.specs.declared.oracle.Oracle as oracle
use Rattle.ken_app.specs.Limits.{KeepsLimits}
use Rattle.ken_model.specs.Handler.{Handler}
use Rattle.ken_net.specs.declared.base.Base as base
use Rattle.ken_net.specs.declared.lossy.Lossy.{Lossy}
use Rattle.ken_net.specs.declared.net.Net as net
use Rattle.ken_ship.specs.declared.outlet.Outlet as outlet
use Rattle.ken_ship.specs.declared.worker.SendWorker.{SendWorker}
use Rattle.ken_wire.specs.declared.wire_net.WireNet.{WireNet}
use Rattle.ken_work.specs.declared.patcher.PatchWorker.{PatchWorker}
use Rattle.ken_work.specs.declared.worker.TurnWorker.{TurnWorker}
use Rattle.ken_threads.specs.declared.crew.Crew.{Crew}
use Rattle.ken_threads.specs.declared.wiring.Ends.{Ends}
use Rattle.ken_threads.specs.Rounds.{IsReady}
use Rattle.ken_threads.specs.Seating.{AtWork, IsAtNode, IsSeated}
use Rattle.ken_threads.specs.Seats.{handling_of, MayHandle, MayPatch, MayShip, sending_of}
use Rattle.ken_threads.specs.Teams.{MayTeamRun}

module _ {R D O U A : Type 0} {b : base.Ghosts (WireNet R)} (d : disk.Ghosts D) (e : net.Ghosts (Lossy (WireNet R) b)) (o : oracle.Ghosts O) (u : outlet.Ghosts U) (handler : A → Handler)
    (node_is : (x : Lossy (WireNet R) b) → e.node x ≡ x.base.node) (nodes_are : (x : Lossy (WireNet R) b) → e.nodes x ≡ length x.base.sends.items) where
  handler_ready : (n v : ℕ) (app : A) (c : Crew D O U) (end : Lossy (WireNet R) b) (luck : O) → IsReady d (handler app) n v c → end.base.node ≡ v → length end.base.sends.items ≡ n
      → (worker : TurnWorker D) → worker ≡ c.turns → MayHandle d e o (handler app) 16 (record { worker = worker; net = end; oracle = luck })
  handler_ready n v app c end luck ready at count worker is =
      subst (λ (w : TurnWorker D). MayHandle d e o (handler app) 16 (record { worker = w; net = end; oracle = luck })) (sym is) (record {
        may = record {
          working = ready.working;
          keeps = subst (λ (k : ℕ). KeepsLimits k (256 * c.turns.side.owner.pages) (handler app)) (sym ready.handler.1) ready.keeps;
          node = node_is end ∙ at ∙ sym ready.handler.0;
          nodes = nodes_are end ∙ count ∙ sym ready.handler.1;
        };
        pages = ready.pages;
        sealed = ready.sealed;
      })

  sender_ready : (n v : ℕ) (app : A) (c : Crew D O U) (end : Lossy (WireNet R) b) (out : U) → IsReady d (handler app) n v c → end.base.node ≡ v → length end.base.sends.items ≡ n
      → (worker : SendWorker) → worker ≡ c.sends → MayShip e u 16 (record { worker = worker; net = end; outlet = out })
  sender_ready n v app c end out ready at count worker is =
      subst (λ (w : SendWorker). MayShip e u 16 (record { worker = w; net = end; outlet = out })) (sym is) (record {
        may = record { node = node_is end ∙ at ∙ sym ready.sender.0; nodes = nodes_are end ∙ count ∙ sym ready.sender.1 };
        told = ready.told;
      })

  pub team_ready : (n v : ℕ) (app : A) (c : Crew D O U) (mail acks : Ends) (team : AtWork R D O U A b) → IsReady d (handler app) n v c → IsSeated c mail acks team → IsAtNode v app team
      → length mail.sends.items ≡ n → length acks.sends.items ≡ n
      → MayTeamRun (λ count s. MayHandle d e o (handler s.app.now) count (handling_of s)) (λ count p. MayPatch d count p) (λ count s. MayShip e u count (sending_of s)) team
  team_ready n v app c mail acks team ready seated at mail_count acks_count = record {
    handler =
        subst (λ (a : A). MayHandle d e o (handler a) 16 (handling_of team.handler.worker)) (sym at.app_is)
        (handler_ready n v app c team.handler.worker.net team.handler.worker.oracle ready at.handler (ap (λ x. length x.items) seated.acks_sends ∙ acks_count) team.handler.worker.worker seated.turns);
    patcher = subst (λ (p : PatchWorker D). MayPatch d 16 p) (sym seated.patches) (record { may = ready.patches; settled = ready.settled });
    externaliser = sender_ready n v app c team.externaliser.worker.net team.externaliser.worker.outlet ready at.sender (ap (λ x. length x.items) seated.mail_sends ∙ mail_count) team.externaliser.worker.worker seated.sends;
  }
