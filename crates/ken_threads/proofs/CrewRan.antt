-- What the workers of a team made, as what those of its crew made.
use Rattle.std.proofs.Common.{◌≡◌, ◌∙◌, ℕ, Option, sym, ap, subst}
use Rattle.ken_disk.specs.declared.disk.Disk as disk
use Rattle.ken_app.specs.declared.oracle.Oracle as oracle
use Rattle.ken_model.specs.Handler.{Handler}
use Rattle.ken_net.specs.declared.base.Base as base
use Rattle.ken_net.specs.declared.lossy.Lossy.{Lossy}
use Rattle.ken_net.specs.declared.net.Net as net
use Rattle.ken_ship.specs.declared.faults.NodeFault.{NodeFault}
use Rattle.ken_ship.specs.declared.outlet.Outlet as outlet
use Rattle.ken_ship.specs.declared.worker.SendWorker.{SendWorker}
use Rattle.ken_wire.specs.declared.wire_net.WireNet.{WireNet}
use Rattle.ken_work.specs.declared.worker.TurnWorker.{TurnWorker}
use Rattle.ken_beside.specs.Steps.{HandlerStep}
use Rattle.ken_threads.specs.declared.crew.Crew.{Crew}
use Rattle.ken_threads.specs.declared.seats.HandlerSeat.{HandlerSeat}
use Rattle.ken_threads.specs.declared.seats.SenderSeat.{SenderSeat}
use Rattle.ken_threads.specs.declared.wiring.Ends.{Ends}
use Rattle.ken_threads.specs.Ran.{Ran}
use Rattle.ken_threads.specs.Rounds.{CrewRan, handling_with, sending_with}
use Rattle.ken_threads.specs.Seating.{AtWork, IsAtNode, IsSeated, KeepsFaults}
use Rattle.ken_threads.specs.Seats.{HandlerFails, handling_of, PatcherFails, PatcherSteps, SenderFails, sending_of, SenderSteps}
use Rattle.ken_threads.specs.Teams.{TeamHasRun}
use Rattle.ken_threads.proofs.Mapped.{mapped-ran}

-- ran, from and to the same by other names
ran_as : {W : Type 0} (steps : W → W → Type 0) (fails : NodeFault → W → W → Type 0) (a a2 b b2 : W) (fault fault2 : Option NodeFault) → a ≡ a2 → b ≡ b2 → fault2 ≡ fault → Ran steps fails a b fault → Ran steps fails a2 b2 fault2
ran_as steps fails a a2 b b2 fault fault2 from to same ran =
    subst (λ x. Ran steps fails a2 b2 x) (sym same) (subst (λ x. Ran steps fails a2 x fault) to (subst (λ x. Ran steps fails x b fault) from ran))

module _ {R D O U A : Type 0} {b : base.Ghosts (WireNet R)} (d : disk.Ghosts D) (e : net.Ghosts (Lossy (WireNet R) b)) (o : oracle.Ghosts O) (u : outlet.Ghosts U) (handler : A → Handler) where
  abbrev pub Seat : Type 0
  Seat = HandlerSeat D (Lossy (WireNet R) b) O A

  abbrev pub SeatSteps : Seat → Seat → Type 0
  SeatSteps x y = (y.app.now ≡ x.app.now) × HandlerStep d e o (handler x.app.now) (handling_of x) (handling_of y)

  abbrev pub SeatFails : NodeFault → Seat → Seat → Type 0
  SeatFails fault x y = (y.app.now ≡ x.app.now) × HandlerFails d e o (handler x.app.now) fault (handling_of x) (handling_of y)

  abbrev pub ShipSteps : SenderSeat (Lossy (WireNet R) b) U → SenderSeat (Lossy (WireNet R) b) U → Type 0
  ShipSteps x y = SenderSteps e u (sending_of x) (sending_of y)

  abbrev pub ShipFails : NodeFault → SenderSeat (Lossy (WireNet R) b) U → SenderSeat (Lossy (WireNet R) b) U → Type 0
  ShipFails fault x y = SenderFails e u fault (sending_of x) (sending_of y)

  pub crew_ran : (v : ℕ) (app : A) (c c2 : Crew D O U) (mail acks mail2 acks2 : Ends) (team team2 : AtWork R D O U A b) → IsSeated c mail acks team → IsSeated c2 mail2 acks2 team2 → KeepsFaults team2 c2.faults → IsAtNode v app team
      → TeamHasRun SeatSteps SeatFails (PatcherSteps d) (PatcherFails d) ShipSteps ShipFails team team2
      → CrewRan d e o u (handler app) c c2 team.handler.worker.net team2.handler.worker.net team.externaliser.worker.net team2.externaliser.worker.net
  crew_ran v app c c2 mail acks mail2 acks2 team team2 seated seated2 faults at ran =
      let h : Handler = handler app in
      let from : handling_of team.handler.worker ≡ handling_with team.handler.worker.net c =
      ap (λ (w : TurnWorker D). record { worker = w; net = team.handler.worker.net; oracle = team.handler.worker.oracle }) seated.turns ∙ ap (λ (l : O). record { worker = c.turns; net = team.handler.worker.net; oracle = l }) seated.oracle in
      let to : handling_of team2.handler.worker ≡ handling_with team2.handler.worker.net c2 =
      ap (λ (w : TurnWorker D). record { worker = w; net = team2.handler.worker.net; oracle = team2.handler.worker.oracle }) seated2.turns ∙ ap (λ (l : O). record { worker = c2.turns; net = team2.handler.worker.net; oracle = l }) seated2.oracle in
      let out_from : sending_of team.externaliser.worker ≡ sending_with team.externaliser.worker.net c =
      ap (λ (w : SendWorker). record { worker = w; net = team.externaliser.worker.net; outlet = team.externaliser.worker.outlet }) seated.sends ∙ ap (λ (x : U). record { worker = c.sends; net = team.externaliser.worker.net; outlet = x }) seated.outlet in
      let out_to : sending_of team2.externaliser.worker ≡ sending_with team2.externaliser.worker.net c2 =
      ap (λ (w : SendWorker). record { worker = w; net = team2.externaliser.worker.net; outlet = team2.externaliser.worker.outlet }) seated2.sends ∙ ap (λ (x : U). record { worker = c2.sends; net = team2.externaliser.worker.net; outlet = x }) seated2.outlet in
      record {
        handler =
            ran_as (HandlerStep d e o h) (HandlerFails d e o h) (handling_of team.handler.worker) (handling_with team.handler.worker.net c) (handling_of team2.handler.worker) (handling_with team2.handler.worker.net c2) team2.handler.fault c2.faults.handler from to faults.handler
            (mapped-ran handling_of (λ (x : Seat). x.app.now ≡ app) SeatSteps (HandlerStep d e o h)
            (λ x y same step. (step.0 ∙ same, subst (λ (a : A). HandlerStep d e o (handler a) (handling_of x) (handling_of y)) same step.1)) SeatFails (HandlerFails d e o h)
            (λ fault x y same step. subst (λ (a : A). HandlerFails d e o (handler a) fault (handling_of x) (handling_of y)) same step.1)
            team.handler.worker team2.handler.worker team2.handler.fault at.app_is ran.handler.ran);
        patcher = ran_as (PatcherSteps d) (PatcherFails d) team.patcher.worker c.patches team2.patcher.worker c2.patches team2.patcher.fault c2.faults.patcher seated.patches seated2.patches faults.patcher ran.patcher.ran;
        externaliser =
            ran_as (SenderSteps e u) (SenderFails e u) (sending_of team.externaliser.worker) (sending_with team.externaliser.worker.net c) (sending_of team2.externaliser.worker) (sending_with team2.externaliser.worker.net c2) team2.externaliser.fault c2.faults.externaliser out_from out_to faults.externaliser
            (mapped-ran sending_of (λ x. Unit {0}) ShipSteps (SenderSteps e u) (λ x y same step. (tt, step)) ShipFails (SenderFails e u) (λ fault x y same step. step)
            team.externaliser.worker team2.externaliser.worker team2.externaliser.fault tt ran.externaliser.ran);
      }
