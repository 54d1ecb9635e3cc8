use Rattle.std.proofs.Common.{refl, arith}
use Rattle.std.proofs.lemmas.Result.{err_from_is_err_and}
use Rattle.ken_beside.specs.Seats.{Handling}
use Rattle.ken_beside.specs.Steps.{turns_once}
use Rattle.ken_beside.proofs.GoingOn.{handler_goes_on}
use Rattle.ken_threads.specs.Seats.{handling_of}
use Rattle.ken_threads.proofs.seats.HandlerSeatWorks.step.Goals as goal

pub returns-in_err-turn_once-clause-fault : goal.returns-in_err-turn_once-clause-fault
returns-in_err-turn_once-clause-fault g c =
    let p = err_from_is_err_and c.from_residual.result c.from_residual.ensures.1 in
    let is = c.in_err-turn_once.ensures in
    rw (p.1, p.2) (
      refl,
      record {
        same = is.same;
        mid = is.takes.0;
        hears = is.takes.1;
        takes = is.takes.2;
        end = record { node = is.end.0; nodes = is.end.1 };
        clocks_go_on = is.clocks_go_on;
        words_go_on = is.words_go_on;
        origin = is.origin;
        undrawn = is.undrawn;
      },
    )

pub returns-clause-step : goal.returns-clause-step
returns-clause-step g c =
    let is = c.in_ok-turn_once.ensures in (
      refl,
      turns_once c.in_ok-turn_once.field-0 (record {
        same = is.same;
        mid = is.takes.0;
        hears = is.takes.1;
        takes = is.takes.2;
        end = record { node = is.end.0; nodes = is.end.1 };
        clocks_go_on = is.clocks_go_on;
        words_go_on = is.words_go_on;
        origin = is.origin;
        undrawn = is.undrawn;
      }),
    )

pub returns-clause-more : goal.returns-clause-more
returns-clause-more g c = λ count may.
    let now : Handling g.row.D.Denot g.row.N.Denot g.row.O.Denot = record { worker = c.turn_once.new.self; net = c.turn_once.new.net; oracle = c.turn_once.new.oracle } in
    let on = handler_goes_on g.D.Disk g.N.Net g.O.Oracle (g.A.App.handler c.args.self.now.app.now) (handling_of c.args.self.now) now (returns-clause-step g c).1 may.may in
    record { may = on.may; pages = omega (arith, may.pages, on.pages); sealed = omega (arith, may.sealed, on.sealed) }
