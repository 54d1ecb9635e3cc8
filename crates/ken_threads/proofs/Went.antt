-- Whatever a worker made, its end of a network was given some packets, and some were put on it.
use Rattle.std.proofs.Common.{◌≡◌, ℕ, List, [], ◌++◌, Result, Ok, Err, Option, None, Some, inl, inr, refl, sym, ap, subst, ◌∷◌, length}
use Rattle.std.specs.declared.alloc.AllocError.{AllocError}
use Rattle.ken_disk.specs.declared.disk.Disk as disk
use Rattle.ken_disk.specs.Fates.{Fate}
use Rattle.ken_disk.specs.Story.{Story}
use Rattle.ken_app.specs.declared.oracle.Oracle as oracle
use Rattle.ken_model.specs.declared.messages.Message.{Message}
use Rattle.ken_model.specs.Handler.{Handler}
use Rattle.ken_net.specs.declared.net.Net as net
use Rattle.ken_net.specs.Puts.{Put}
use Rattle.ken_order.specs.Consumed.{Consumed}
use Rattle.ken_ship.specs.declared.emit.Emit.{Emit}
use Rattle.ken_ship.specs.declared.faults.NodeFault.{NodeFault}
use Rattle.ken_ship.specs.declared.faults.NodeFault.TheVariants.{Disk, Damaged, Outlet, Memory}
use Rattle.ken_ship.specs.declared.outlet.Outlet as outlet
use Rattle.ken_work.specs.declared.took.Took.{Took}
use Rattle.ken_work.specs.declared.took.Took.TheVariants.{Turn, Idle, Capped}
use Rattle.ken_work.specs.declared.worker.TurnWorker.{TurnWorker}
use Rattle.ken_work.specs.Calls.{at_input, at_message, at_turn, at_turnover, amid_packets, Drew, Stopped, StoppedTaking, TakesTurn}
use Rattle.ken_work.specs.Hearing.{Listened}
use Rattle.ken_weave.specs.Workers.{Steps, none, then}
use Rattle.ken_threads.specs.Ran.{EndsBy, Ran}
use Rattle.ken_threads.specs.Seats.{at_hearing, at_output, at_sending, HandlerFails, SenderFails, SenderSteps, SenderStops, Ships}
use Rattle.ken_beside.specs.Seats.{Handling, Sending}
use Rattle.ken_beside.specs.Steps.{EmitsOnce, HandlerStep, SendsDue, TakesAcks, TurnsOnce, turns_once}

-- what a call was given, and what it put
pub record GaveAndPut (gave : List (List ℕ) → Type 0) (put : List Put → Type 0) : Type 0 where
  pub packets : List (List ℕ)
  pub given : gave packets
  pub puts : List Put
  pub were_put : put puts

module _ (gave : List (List ℕ) → Type 0) (put : List Put → Type 0) (nones nones2 : ℕ) where
  listened-went : (v : ℕ) (c : Consumed) (found : Option Message) → Listened v c gave put nones nones2 found → GaveAndPut gave put
  listened-went v c found is = record { packets = is.passed ++ is.last; given = is.given; puts = _; were_put = is.acks }

  module _ {D : Type 0} (told : D → Option Story) (size count : D → ℕ) (fate : D → Option Fate) (h : Handler) (drew : List ℕ → Type 0) (old new : TurnWorker D) where
    taking-went : StoppedTaking old.node old.order old.inputs.items gave put nones nones2 → GaveAndPut gave put
    taking-went (amid_packets is) = record { packets = is.packets; given = is.given; puts = is.puts; were_put = is.acks }
    taking-went (at_input message is chosen) = listened-went old.node old.order None is

    stopped-went : Stopped told size count fate h drew old new gave put nones nones2 → GaveAndPut gave put
    stopped-went (at_turnover going rest renews working given put) = record { packets = []; given = given; puts = []; were_put = put }
    stopped-went (at_message going rest renews working taking) = taking-went taking
    stopped-went (at_turn mid message came ran) = listened-went old.node old.order came.took.found came.took.listened

    turn-went : (result : Result Took NodeFault) → TakesTurn told size count fate h drew result old new gave put nones nones2 → GaveAndPut gave put
    turn-went (Ok Turn) is = record { packets = is.came.took.listened.passed ++ is.came.took.listened.last; given = is.came.took.listened.given; puts = _; were_put = is.came.took.listened.acks }
    turn-went (Ok Idle) is = listened-went old.node old.order is.came.took.found is.came.took.listened
    turn-went (Ok Capped) is = record { packets = []; given = is.given; puts = []; were_put = is.none }
    turn-went (Err Disk) (inl is) = record { packets = []; given = is.given; puts = []; were_put = is.none }
    turn-went (Err Disk) (inr is) = listened-went old.node old.order is.came.took.found is.came.took.listened
    turn-went (Err Memory) is = stopped-went is
    turn-went (Err Outlet) is = absurd is
    turn-went (Err (Damaged disk place)) is = absurd is

module _ {N : Type 0} (e : net.Ghosts N) where
  -- between two states of an end
  abbrev pub Went : N → N → Type 0
  Went a b = GaveAndPut (e.given_between a b) (e.put_between a b)

  module _ (put_still : (a : N) → e.put_between a a []) (put_joins : (a b c : N) (ps qs : List Put) → e.put_between a b ps → e.put_between b c qs → e.put_between a c (ps ++ qs))
      (given_still : (a : N) → e.given_between a a []) (given_joins : (a b c : N) (xs ys : List (List ℕ)) → e.given_between a b xs → e.given_between b c ys → e.given_between a c (xs ++ ys)) where
    pub went-still : (a b : N) → b ≡ a → Went a b
    went-still a b same = subst (λ (x : N). Went a x) (sym same) (record { packets = []; given = given_still a; puts = []; were_put = put_still a })

    pub went-on : (a b c : N) → Went a b → Went b c → Went a c
    went-on a b c one two = record {
      packets = one.packets ++ two.packets;
      given = given_joins a b c one.packets two.packets one.given two.given;
      puts = one.puts ++ two.puts;
      were_put = put_joins a b c one.puts two.puts one.were_put two.were_put;
    }

    -- by steps, each of which did, and one that failed
    module _ {W : Type 0} (of : W → N) (step : W → W → Type 0) (fails : NodeFault → W → W → Type 0) (each : (a b : W) → step a b → Went (of a) (of b))
        (each_fault : (fault : NodeFault) (a b : W) → fails fault a b → Went (of a) (of b)) where
      all-went : (a b : W) (bs : List W) → Steps step a bs b → Went (of a) (of b)
      all-went a _ [] none = went-still (of a) (of a) refl
      all-went a c (b ∷ bs) (then one rest) = went-on (of a) (of b) (of c) (each a b one) (all-went b c bs rest)

      ended-went : (count : ℕ) (mid new : W) (fault : Option NodeFault) → EndsBy fails count mid new fault → Went (of mid) (of new)
      ended-went count mid new None ends = went-still (of mid) (of new) (ap of ends.1)
      ended-went count mid new (Some fault) ends = each_fault fault mid new ends.1

      ran-went : (old new : W) (fault : Option NodeFault) → Ran step fails old new fault → Went (of old) (of new)
      ran-went old new fault ran = went-on (of old) (of ran.mid) (of new) (all-went old ran.mid ran.states ran.made) (ended-went (length ran.states) ran.mid new fault ran.ends)

    module _ {D O : Type 0} (d : disk.Ghosts D) (o : oracle.Ghosts O) (h : Handler) where
      handler-went : (result : Result Took NodeFault) (a b : Handling D N O) → TurnsOnce d e o h result a b → Went a.net b.net
      handler-went result a b is =
          turn-went (e.given_between a.net b.net) (e.put_between a.net b.net) (e.nones a.net) (e.nones b.net) d.told d.size d.faults d.fate h (Drew o.telling.clocks o.telling.words h a.oracle b.oracle) is.mid b.worker result is.takes

      step-went : (a b : Handling D N O) → HandlerStep d e o h a b → Went a.net b.net
      step-went a b (turns_once took is) = handler-went (Ok took) a b is

      pub handler-ran-went : (old new : Handling D N O) (fault : Option NodeFault) → Ran (HandlerStep d e o h) (HandlerFails d e o h) old new fault → Went old.net new.net
      handler-ran-went old new fault ran =
          ran-went (λ (x : Handling D N O). x.net) (HandlerStep d e o h) (HandlerFails d e o h) step-went (λ fault a b is. handler-went (Err fault) a b is) old new fault ran

    module _ {U : Type 0} (u : outlet.Ghosts U) where
      due-went : (result : Result (Unit {0}) AllocError) (a b : Sending N U) → SendsDue e u result a b → Went a.net b.net
      due-went result a b is = record { packets = []; given = is.given; puts = is.put.puts; were_put = is.put.were_put }

      heard-went : (a b : Sending N U) → TakesAcks e u a b → Went a.net b.net
      heard-went a b is = record { packets = is.heard.packets; given = is.heard.given; puts = []; were_put = is.put }

      ships-went : (a b : Sending N U) → Ships e u a b → Went a.net b.net
      ships-went a b is = went-on a.net is.sent.net b.net (due-went (Ok tt) a is.sent is.sends) (heard-went is.sent b is.takes)

      output-went : (result : Result Emit NodeFault) (a heard b : Sending N U) → Ships e u a heard → EmitsOnce e u result heard b → Went a.net b.net
      output-went result a heard b ships is = went-on a.net heard.net b.net (ships-went a heard ships) (went-still heard.net b.net is.net)

      stop-went : (a b : Sending N U) → SenderStops e u a b → Went a.net b.net
      stop-went a b (at_sending fault is) = due-went (Err fault) a b is
      stop-went a b (at_hearing sent sends is) = went-on a.net sent.net b.net (due-went (Ok tt) a sent sends) (went-still sent.net b.net is.net)
      stop-went a b (at_output heard ships is) = output-went (Err Memory) a heard b ships is

      fault-went : (fault : NodeFault) (a b : Sending N U) → SenderFails e u fault a b → Went a.net b.net
      fault-went Disk a b is = absurd is
      fault-went Memory a b is = stop-went a b is
      fault-went Outlet a b is = output-went (Err Outlet) a is.heard b is.ships is.refused
      fault-went (Damaged disk place) a b is = absurd is

      pub sender-ran-went : (old new : Sending N U) (fault : Option NodeFault) → Ran (SenderSteps e u) (SenderFails e u) old new fault → Went old.net new.net
      sender-ran-went old new fault ran =
          ran-went (λ (x : Sending N U). x.net) (SenderSteps e u) (SenderFails e u) (λ a b is. output-went (Ok is.answer) a is.heard b is.ships is.emits) fault-went old new fault ran
