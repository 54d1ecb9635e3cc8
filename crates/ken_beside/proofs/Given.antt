-- What each step was given.
use Rattle.std.proofs.Common.{◌≡◌, ℕ, List, [], ◌++◌, Option, Ok, inl, inr, refl, sym, subst}
use Rattle.ken_disk.specs.declared.disk.Disk as disk
use Rattle.ken_disk.specs.Fates.{Fate}
use Rattle.ken_disk.specs.Story.{Story}
use Rattle.ken_app.specs.declared.oracle.Oracle as oracle
use Rattle.ken_model.specs.declared.messages.Message.{Message}
use Rattle.ken_model.specs.Handler.{Handler}
use Rattle.ken_net.specs.declared.net.Net as net
use Rattle.ken_net.specs.Puts.{Put}
use Rattle.ken_ship.specs.declared.outlet.Outlet as outlet
use Rattle.ken_work.specs.declared.took.Took.{Took}
use Rattle.ken_work.specs.declared.took.Took.TheVariants.{Turn, Idle, Capped}
use Rattle.ken_work.specs.declared.worker.TurnWorker.{TurnWorker}
use Rattle.ken_work.specs.Calls.{BeforeTurn, TakesTurn, Drew}
use Rattle.ken_beside.specs.Seats.{Handling, Sending}
use Rattle.ken_beside.specs.Steps.{HandlerStep, SenderCall, SenderStep, turns_once, sends_due, takes_acks, emits_once}

module _ {D : Type 0} (told : D → Option Story) (size count : D → ℕ) (fate : D → Option Fate) (h : Handler) (drew : List ℕ → Type 0) (gave : List (List ℕ) → Type 0) (nones nones2 : ℕ) where
  before-given : (put : List Put → Type 0) (message : Option Message) (old mid : TurnWorker D) → BeforeTurn told size count fate h drew old mid gave put nones nones2 message → List (List ℕ)
  before-given put message old mid is = is.took.listened.passed ++ is.took.listened.last

  before-just : (put : List Put → Type 0) (message : Option Message) (old mid : TurnWorker D) → (is : BeforeTurn told size count fate h drew old mid gave put nones nones2 message)
      → BeforeTurn told size count fate h drew old mid (λ given. given ≡ before-given put message old mid is) put nones nones2 message
  unfolding before-given
  before-just put message old mid is =
      let took = is.took in
      let l = took.listened in
      record {
        open_yet = is.open_yet;
        rest = is.rest;
        renews = is.renews;
        working = is.working;
        took = record {
          found = took.found;
          listened = record { passed = l.passed; last = l.last; given = refl; most = l.most; each = l.each; ends = l.ends; acks = l.acks };
          chosen_is = took.chosen_is;
        };
      }

  module _ (put : List Put → Type 0) (old new : TurnWorker D) where
    -- the packets that a call was given
    pub taken : (took : Took) → TakesTurn told size count fate h drew (Ok took) old new gave put nones nones2 → List (List ℕ)
    taken Turn is = before-given _ _ old is.mid is.came
    taken Idle is = before-given _ _ old new is.came
    taken Capped is = []

    pub taken-given : (took : Took) → (is : TakesTurn told size count fate h drew (Ok took) old new gave put nones nones2) → gave (taken took is)
    unfolding taken before-given
    taken-given Turn is = is.came.took.listened.given
    taken-given Idle is = is.came.took.listened.given
    taken-given Capped is = is.given

    -- it is a call that was given just these
    pub taken-just : (took : Took) → (is : TakesTurn told size count fate h drew (Ok took) old new gave put nones nones2) → TakesTurn told size count fate h drew (Ok took) old new (λ given. given ≡ taken took is) put nones nones2
    unfolding taken
    taken-just Turn is = record { mid = is.mid; message = is.message; came = before-just _ _ old is.mid is.came; ran = is.ran }
    taken-just Idle is = record { came = before-just _ _ old new is.came }
    taken-just Capped is = record { capped = is.capped; same = is.same; given = refl; none = is.none }

module _ {D N O : Type 0} (d : disk.Ghosts D) (e : net.Ghosts N) (o : oracle.Ghosts O) (h : Handler) where
  unfoldable pub handler-given : (a b : Handling D N O) → HandlerStep d e o h a b → List (List ℕ)
  handler-given a b (turns_once took is) =
      taken d.told d.size d.faults d.fate h (Drew o.telling.clocks o.telling.words h a.oracle b.oracle) (e.given_between a.net b.net) (e.nones a.net) (e.nones b.net) (e.put_between a.net b.net) is.mid b.worker took is.takes

  pub handler-gave : (a b : Handling D N O) → (one : HandlerStep d e o h a b) → e.given_between a.net b.net (handler-given a b one)
  unfolding handler-given
  handler-gave a b (turns_once took is) =
      taken-given d.told d.size d.faults d.fate h (Drew o.telling.clocks o.telling.words h a.oracle b.oracle) (e.given_between a.net b.net) (e.nones a.net) (e.nones b.net) (e.put_between a.net b.net) is.mid b.worker took is.takes

module _ {N U : Type 0} (e : net.Ghosts N) (u : outlet.Ghosts U) where
  unfoldable pub step-given : (a b : Sending N U) → SenderStep e u a b → List (List ℕ)
  step-given a b (sends_due is) = []
  step-given a b (takes_acks is) = is.heard.packets
  step-given a b (emits_once answer is) = []

  unfoldable pub sender-given : (a b : Sending N U) → SenderCall e u a b → List (List ℕ)
  sender-given a b (inl step) = step-given a b step
  sender-given a b (inr fault) = []

  module _ (given_still : (a : N) → e.given_between a a []) where
    still : (a b : N) → b ≡ a → e.given_between a b []
    still a b same = subst (λ (x : N). e.given_between a x []) (sym same) (given_still a)

    step-gave : (a b : Sending N U) → (one : SenderStep e u a b) → e.given_between a.net b.net (step-given a b one)
    unfolding step-given
    step-gave a b (sends_due is) = is.given
    step-gave a b (takes_acks is) = is.heard.given
    step-gave a b (emits_once answer is) = still a.net b.net is.net

    pub sender-gave : (a b : Sending N U) → (one : SenderCall e u a b) → e.given_between a.net b.net (sender-given a b one)
    unfolding sender-given
    sender-gave a b (inl step) = step-gave a b step
    sender-gave a b (inr fault) = still a.net b.net fault.net
