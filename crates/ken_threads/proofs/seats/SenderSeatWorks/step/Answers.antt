use Rattle.std.proofs.Common.{Ok, refl}
use Rattle.std.proofs.lemmas.Result.{err_from_is_err_and}
use Rattle.ken_beside.specs.Steps.{EmitsOnce, SendsDue}
use Rattle.ken_threads.specs.Seats.{at_hearing, at_sending, sending_of, Ships}
use Rattle.ken_threads.proofs.Stops.{emit_stops}
use Rattle.ken_threads.proofs.seats.SenderSeatWorks.step.Given.{Over}
use Rattle.ken_threads.proofs.seats.SenderSeatWorks.step.Goals as goal
use Rattle.ken_threads.proofs.seats.SenderSeatWorks.step.Goals.{After-send_due, After-emit_once, In_ok-take_acks}

-- its three calls
sends : (g : Over) (c : After-send_due g) → SendsDue g.N.Net g.U.Outlet c.send_due.result (sending_of c.args.self.now) (record (sending_of c.args.self.now) { worker = c.send_due.new.self; net = c.send_due.new.net })
sends g c =
    let is = c.send_due.ensures in
    record {
      same = is.worker;
      told = is.told;
      handed = is.handed;
      number = is.number;
      part = is.part;
      put = is.put;
      given = is.given;
      end = record { node = is.end.0; nodes = is.end.1 };
      none_more = is.nones;
      outlet = refl;
    }

ships : (g : Over) (c : In_ok-take_acks g) → SendsDue g.N.Net g.U.Outlet (Ok tt) (sending_of c.args.self.now) (record (sending_of c.args.self.now) { worker = c.send_due.new.self; net = c.send_due.new.net })
    → Ships g.N.Net g.U.Outlet (sending_of c.args.self.now) (record (sending_of c.args.self.now) { worker = c.take_acks.new.self; net = c.take_acks.new.net })
ships g c sent =
    let is = c.in_ok-take_acks.ensures in
    record {
      sent = _;
      sends = sent;
      takes = record {
        same = is.worker;
        sealed = is.sealed;
        heard = is.heard;
        part = is.part;
        tells = is.told;
        slots = is.slots;
        end = record { node = is.end.0; nodes = is.end.1 };
        put = is.put;
        outlet = refl;
      };
    }

emits : (g : Over) (c : After-emit_once g) → EmitsOnce g.N.Net g.U.Outlet c.emit_once.result (record (sending_of c.args.self.now) { worker = c.take_acks.new.self; net = c.take_acks.new.net }) (record { worker = c.emit_once.new.self; net = c.take_acks.new.net; outlet = c.emit_once.new.out })
emits g c =
    let is = c.emit_once.ensures in
    record {
      same = is.worker;
      sealed = is.sealed;
      part = is.part;
      slots = is.slots;
      took = is.took;
      cause = is.cause;
      fate = is.fate;
      net = refl;
    }

pub returns-in_err-send_due-clause-fault : goal.returns-in_err-send_due-clause-fault
returns-in_err-send_due-clause-fault g c =
    let p = err_from_is_err_and c.from_residual.result c.from_residual.ensures.1 in
    rw (p.1, p.2) (at_sending c.in_err-send_due.field-0.0 (rw c.in_err-send_due.was at (sends g (goal.at.returns-in_err-send_due-clause-fault g c).After-send_due)))

pub returns-in_err-take_acks-clause-fault : goal.returns-in_err-take_acks-clause-fault
returns-in_err-take_acks-clause-fault g c =
    let p = err_from_is_err_and c.from_residual-in_err-take_acks.result c.from_residual-in_err-take_acks.ensures.1 in
    let sent = rw c.in_ok-send_due.was at (sends g (goal.at.returns-in_err-take_acks-clause-fault g c).After-send_due) in
    let is = c.in_err-take_acks.ensures in
    rw (p.1, p.2) (at_hearing _ sent (record { same = is.worker; sealed = is.sealed; part = is.err.0; slots = is.slots; net = is.err.1; outlet = refl }))

pub returns-in_err-emit_once-clause-fault : goal.returns-in_err-emit_once-clause-fault
returns-in_err-emit_once-clause-fault g c =
    let p = err_from_is_err_and c.from_residual-in_err-emit_once.result c.from_residual-in_err-emit_once.ensures.1 in
    let at = goal.at.returns-in_err-emit_once-clause-fault g c in
    let heard = ships g at.In_ok-take_acks (rw c.in_ok-send_due.was at (sends g at.After-send_due)) in
    rw (p.1, p.2) (emit_stops g.N.Net g.U.Outlet c.in_err-emit_once.field-0.0 (sending_of c.args.self.now) _ _ heard (rw c.in_err-emit_once.was at (emits g at.After-emit_once)))

pub returns-clause-step : goal.returns-clause-step
returns-clause-step g c =
    let at = goal.at.returns-clause-step g c in
    record {
      heard = _;
      ships = ships g at.In_ok-take_acks (rw c.in_ok-send_due.was at (sends g at.After-send_due));
      answer = c.in_ok-emit_once.field-0;
      emits = rw c.in_ok-emit_once.was at (emits g at.After-emit_once);
    }
