-- A crew comes back, and its workers meet.
use Rattle.std.proofs.Common.{refl}
use Rattle.ken_rounds.proofs.lending.bring_back.Goals as goal

pub returns-in-Ok : goal.returns-in-Ok
returns-in-Ok g c = record {
  turns = c.meet-met.new.turns;
  patches = c.meet-met.new.patches;
  sends = c.meet-met.new.sends;
  back = λ old is. record { stage = c.join.ensures; luck = refl; out = refl; mail = refl; acks = refl; restarts = is.restarts; lines = is.lines };
  met = λ _. record { met = c.in-Ok.ensures.met; same = c.in-Ok.ensures.sends; joined = c.in-Ok.ensures.joined; empty = c.in-Ok.ensures.ok };
  fault_is = λ _. c.come_to.ensures;
}

pub returns-in-Err : goal.returns-in-Err
returns-in-Err g c = record {
  turns = c.meet-met.new.turns;
  patches = c.meet-met.new.patches;
  sends = c.meet-met.new.sends;
  back = λ old is. record { stage = c.join.ensures; luck = refl; out = refl; mail = refl; acks = refl; restarts = is.restarts; lines = is.lines };
  met = λ other. absurd (other refl);
  fault_is = λ other. absurd (other refl);
}
