-- What a call of a node's handler does, put together of its parts.
use Rattle.std.proofs.Common.{◌≡◌, ℕ, List, [], ◌∷◌, ◌++◌, length, Option, Some, Result, Ok, Err, IfOk, OnOk, IsErrOf, refl, sym, ap, subst, ◌<◌, ◌≤◌, ◌^◌, Bool, true, false, if◌then◌else◌, inl, inr, ⊎_elim, append-nil, eq-eqb, ne_eqb}
use Rattle.std.proofs.lemmas.Bool.{cases_lt}
use Rattle.ken_disk.specs.Fates.{Fate}
use Rattle.ken_disk.specs.Story.{Story}
use Rattle.ken_model.specs.declared.messages.Message.{Message}
use Rattle.ken_model.specs.Handler.{Handler}
use Rattle.ken_net.specs.Puts.{Put}
use Rattle.ken_order.specs.Consumed.{Consumed}
use Rattle.ken_record.specs.declared.effects.Effects.{Effects}
use Rattle.ken_ship.specs.declared.faults.NodeFault.{NodeFault}
use Rattle.ken_ship.specs.declared.faults.NodeFault.TheVariants.{Disk, Damaged, Outlet, Memory}
use Rattle.ken_store.specs.declared.faults.StoreFault.{StoreFault}
use Rattle.ken_store.specs.declared.faults.StoreFault.TheVariants as store
use Rattle.ken_store.specs.declared.turning.TurnSide.{TurnSide}
use Rattle.ken_work.specs.declared.took.Took.{Took}
use Rattle.ken_work.specs.declared.took.Took.TheVariants.{Turn}
use Rattle.ken_work.specs.declared.worker.TurnWorker.{TurnWorker}
use Rattle.ken_work.specs.Calls as calls
use Rattle.ken_work.specs.Calls.{BeforeTurn, IsKept, RanTurn, Runs, Seals, StoppedTaking, TakesTurn, TookMessage, answer_puts}
use Rattle.ken_work.specs.Capped as capped
use Rattle.ken_work.specs.Capped.{HasHigh, IsCapped}
use Rattle.ken_work.specs.Faults.{node_answer}
use Rattle.ken_work.specs.Hearing.{EndsWith, Listened, ack_put, again_puts}
use Rattle.ken_work.specs.Making.{IsMade, MayTakeMore}
use Rattle.ken_work.specs.Sealing.{Renews, RenewsBy, SealsTurn, coming_turn, is_full}
use Rattle.ken_work.specs.Workers.{Working}
use Rattle.ken_work.proofs.SameWorker.{quiet_on, side_quiet}

-- what a turn is answered with
pub answer_mail : (v : ℕ) (c : Consumed) (from : ℕ) → (from ≡ 255 → ⊥) → answer_puts v c from ≡ ack_put v c from ∷ []
answer_mail v c from other = let answer : Bool → List Put = λ b. if b then [] else ack_put v c from ∷ [] in ap answer (ne_eqb from 255 other)

pub answer_input : (v : ℕ) (c : Consumed) (from : ℕ) → from ≡ 255 → answer_puts v c from ≡ []
answer_input v c from same = let answer : Bool → List Put = λ b. if b then [] else ack_put v c from ∷ [] in ap answer (eq-eqb from 255 same)

-- a worker with the side that it had
pub side_before : {D : Type 0} (told : D → Option Story) (size : D → ℕ) (h : Handler) (old mid : TurnWorker D) → mid ≡ record old { side = mid.side } → Working told size h old → Working told size h (record mid { side = old.side })
side_before {D} told size h old mid rest working = subst (Working told size h) (sym (ap (λ (w : TurnWorker D). record w { side = old.side }) rest)) working

pub kept_ok : {D : Type 0} (told : D → Option Story) (size count : D → ℕ) (fate : D → Option Fate) (h : Handler) (m : Message) (e : Effects) (before : TurnSide D) (old new : TurnWorker D) (r : Result (Unit {0}) StoreFault) (x : Unit {0})
    → node_answer r ≡ Ok x → Seals told size count fate h r m e before old new → IsKept (coming_turn old.side) m e old.side old new
kept_ok told size count fate h m e before old new (Ok y) x is seals = seals.1
kept_ok told size count fate h m e before old new (Err store.Disk) x is seals = absurd cc
kept_ok told size count fate h m e before old new (Err store.Memory) x is seals = absurd cc
kept_ok told size count fate h m e before old new (Err (store.Damaged disk place)) x is seals = absurd cc

pub on_ok : {T : Type 0} (P : Type 0) (r : Result T StoreFault) (x : T) → node_answer r ≡ Ok x → OnOk r P → P
on_ok P (Ok y) x is holds = holds
on_ok P (Err store.Disk) x is holds = absurd cc
on_ok P (Err store.Memory) x is holds = absurd cc
on_ok P (Err (store.Damaged disk place)) x is holds = absurd cc

-- ---- packets that were taken before

listened_on : (v : ℕ) (c : Consumed) (gave gave2 : List (List ℕ) → Type 0) (put put2 : List Put → Type 0) (nones nones2 nones3 : ℕ) (found : Option Message)
    → ((ps : List (List ℕ)) → gave ps → gave2 ps) → ((ps : List Put) → put ps → put2 ps) → nones3 ≡ nones2 → Listened v c gave put nones nones2 found → Listened v c gave2 put2 nones nones3 found
listened_on v c gave gave2 put put2 nones nones2 nones3 found gives puts same is = record {
  passed = is.passed;
  last = is.last;
  given = gives (is.passed ++ is.last) is.given;
  most = is.most;
  each = is.each;
  ends = subst (λ n. EndsWith v c (length is.passed) nones n found is.last) (sym same) is.ends;
  acks = puts (again_puts v c is.passed) is.acks;
}

took_on : (v : ℕ) (c : Consumed) (inputs : List Message) (gave gave2 : List (List ℕ) → Type 0) (put put2 : List Put → Type 0) (nones nones2 nones3 : ℕ) (message : Option Message)
    → ((ps : List (List ℕ)) → gave ps → gave2 ps) → ((ps : List Put) → put ps → put2 ps) → nones3 ≡ nones2 → TookMessage v c inputs gave put nones nones2 message → TookMessage v c inputs gave2 put2 nones nones3 message
took_on v c inputs gave gave2 put put2 nones nones2 nones3 message gives puts same is = record {
  found = is.found;
  listened = listened_on v c gave gave2 put put2 nones nones2 nones3 is.found gives puts same is.listened;
  chosen_is = is.chosen_is;
}

module _ {D : Type 0} (told : D → Option Story) (size count : D → ℕ) (fate : D → Option Fate) (h : Handler) (drew : List ℕ → Type 0) where
  -- ---- the log was renewed

  module _ (old mid : TurnWorker D) (open_yet : IsCapped old → ⊥) (rest : mid ≡ record old { side = mid.side }) where
    pub renewal_failed : (r : Result (Unit {0}) StoreFault) (f : NodeFault) (gave : List (List ℕ) → Type 0) (put : List Put → Type 0) (nones nones2 : ℕ) → node_answer r ≡ Err f → Renews told size count fate r old mid.side
        → (IsErrOf r store.Memory → Working told size h mid) → ((disk place : ℕ) → IsErrOf r (store.Damaged disk place) → ⊥) → gave [] → put [] → TakesTurn told size count fate h drew (Err f) old mid gave put nones nones2
    renewal_failed (Ok x) f gave put nones nones2 is renews goes_on sound given none = absurd cc
    renewal_failed (Err store.Disk) f gave put nones nones2 is renews goes_on sound given none =
        let fault : Disk ≡ f = cc in
        subst (λ k. TakesTurn told size count fate h drew (Err k) old mid gave put nones nones2) fault (inl (record { open_yet = open_yet; rest = rest; renews = renews; given = given; none = none }))
    renewal_failed (Err store.Memory) f gave put nones nones2 is renews goes_on sound given none =
        let fault : Memory ≡ f = cc in
        subst (λ k. TakesTurn told size count fate h drew (Err k) old mid gave put nones nones2) fault (calls.at_turnover open_yet rest renews (goes_on refl) given none)
    renewal_failed (Err (store.Damaged disk place)) f gave put nones nones2 is renews goes_on sound given none = absurd (sound disk place refl)

    -- it was, or the log isn't full
    pub renewed : (r : Result (Unit {0}) StoreFault) (x : Unit {0}) → node_answer r ≡ Ok x → Renews told size count fate r old mid.side → Renews told size count fate {T = Unit {0}} (Ok tt) old mid.side
    renewed (Ok y) x is renews = renews
    renewed (Err store.Disk) x is renews = absurd cc
    renewed (Err store.Memory) x is renews = absurd cc
    renewed (Err (store.Damaged disk place)) x is renews = absurd cc

    numbers_renewed : (full : Bool) → RenewsBy told size count fate {T = Unit {0}} full (Ok tt) old mid.side → mid.side.numbers ≡ old.side.numbers
    numbers_renewed true is = is.turned.numbers
    numbers_renewed false is = ap (λ (s : TurnSide D). s.numbers) is.1

    pub may_take_more : Renews told size count fate {T = Unit {0}} (Ok tt) old mid.side → mid.side.log.end ≤ 2 ^ 39 → MayTakeMore mid
    may_take_more renews end =
        let numbers = numbers_renewed (is_full old.side) renews in
        let cap : mid.cap ≡ old.cap = ap (λ (w : TurnWorker D). w.cap) rest in
        let turns : old.side.numbers.turns < old.cap = ⊎_elim (λ few. few) (λ many. absurd (open_yet (capped.turns many))) (cases_lt old.side.numbers.turns old.cap) in
        record {
          turns = rw (numbers, cap) turns;
          numbers = λ high. open_yet (capped.numbers (subst HasHigh numbers high));
          end = end;
        }

    module _ (renews : Renews told size count fate {T = Unit {0}} (Ok tt) old mid.side) (working : Working told size h mid) where
      pub came : (gave : List (List ℕ) → Type 0) (put : List Put → Type 0) (nones nones2 : ℕ) (message : Option Message) → TookMessage mid.node mid.order mid.inputs.items gave put nones nones2 message → BeforeTurn told size count fate h drew old mid gave put nones nones2 message
      came gave put nones nones2 message took =
          let P : TurnWorker D → Type 0 = λ w. TookMessage w.node w.order w.inputs.items gave put nones nones2 message in
          record { open_yet = open_yet; rest = rest; renews = renews; working = working; took = subst P rest took }

      pub stopped : (gave : List (List ℕ) → Type 0) (put : List Put → Type 0) (nones nones2 : ℕ) → StoppedTaking mid.node mid.order mid.inputs.items gave put nones nones2 → TakesTurn told size count fate h drew (Err Memory) old mid gave put nones nones2
      stopped gave put nones nones2 taking =
          let P : TurnWorker D → Type 0 = λ w. StoppedTaking w.node w.order w.inputs.items gave put nones nones2 in
          calls.at_message open_yet rest renews working (subst P rest taking)

      -- a message came and was run
      pub ran : (result : Result Took NodeFault) (message : Message) (new : TurnWorker D) (gave gave2 : List (List ℕ) → Type 0) (put put1 put2 : List Put → Type 0) (nones nones2 nones3 : ℕ)
          → ((ps : List (List ℕ)) → gave ps → gave2 ps) → ((ps qs : List Put) → put ps → put1 qs → put2 (ps ++ qs)) → nones3 ≡ nones2
          → TookMessage mid.node mid.order mid.inputs.items gave put nones nones2 (Some message) → Runs told size count fate h drew result put1 message mid new → IfOk result (λ took. took ≡ Turn)
          → TakesTurn told size count fate h drew result old new gave2 put2 nones nones3
      ran (Ok x) message new gave gave2 put put1 put2 nones nones2 nones3 gives puts same took runs is =
          let node : mid.node ≡ old.node = ap (λ (w : TurnWorker D). w.node) rest in
          let answer : put1 (answer_puts old.node new.order message.from) = subst (λ v. put1 (answer_puts v new.order message.from)) node runs.1 in
          let put3 : List Put → Type 0 = λ ps. put2 (ps ++ answer_puts old.node new.order message.from) in
          let taken : TookMessage mid.node mid.order mid.inputs.items gave2 put3 nones nones3 (Some message) = took_on mid.node mid.order mid.inputs.items gave gave2 put put3 nones nones2 nones3 (Some message) gives (λ ps before. puts ps (answer_puts old.node new.order message.from) before answer) same took in
          subst (λ k. TakesTurn told size count fate h drew (Ok k) old new gave2 put2 nones nones3) (sym is)
          (record { mid = mid; message = message; came = came gave2 put3 nones nones3 (Some message) taken; ran = runs.0 })
      ran (Err fault) message new gave gave2 put put1 put2 nones nones2 nones3 gives puts same took runs is = failed fault runs
        where
          failed : (f : NodeFault) → Runs told size count fate h drew {T = Took} (Err f) put1 message mid new → TakesTurn told size count fate h drew (Err f) old new gave2 put2 nones nones3
          failed f out = failed_by f out (taken f out)
            where
              none_put : (f : NodeFault) → Runs told size count fate h drew {T = Took} (Err f) put1 message mid new → put1 []
              none_put Disk x = x.1
              none_put Memory x = x.1
              none_put Outlet x = absurd x
              none_put (Damaged disk place) x = absurd x

              taken : (f : NodeFault) → Runs told size count fate h drew {T = Took} (Err f) put1 message mid new → BeforeTurn told size count fate h drew old mid gave2 put2 nones nones3 (Some message)
              taken f x = came gave2 put2 nones nones3 (Some message) (took_on mid.node mid.order mid.inputs.items gave gave2 put put2 nones nones2 nones3 (Some message) gives (λ ps before. subst put2 (append-nil ps) (puts ps [] before (none_put f x))) same took)

              failed_by : (f : NodeFault) → Runs told size count fate h drew {T = Took} (Err f) put1 message mid new → BeforeTurn told size count fate h drew old mid gave2 put2 nones nones3 (Some message) → TakesTurn told size count fate h drew (Err f) old new gave2 put2 nones nones3
              failed_by Disk x before = inr (record { mid = mid; message = message; came = before; doubt = x.0 })
              failed_by Memory x before = calls.at_turn mid message before x.0
              failed_by Outlet x before = absurd x
              failed_by (Damaged disk place) x before = absurd x

  -- ---- a message is run

  module _ (old begun : TurnWorker D) (rest : begun ≡ record old { side = begun.side }) (m : Message) (e : Effects) (made : IsMade h m e old.side begun.side) (drawn : drew e.draws) where
    pub ran_turn : (new : TurnWorker D) → SealsTurn told size count fate {T = Unit {0}} (Ok tt) e begun.side new.side → IsKept (coming_turn begun.side) m e begun.side begun new → Working told size h new → RanTurn told size count fate h drew m old new
    ran_turn new seals kept working =
        let P : TurnWorker D → Type 0 = λ w. IsKept (coming_turn begun.side) m e begun.side w new in
        let k = subst P rest kept in
        record {
          effects = e;
          begun = begun.side;
          made = made;
          drawn = drawn;
          seals = seals;
          kept = record { rest = k.rest; turns = k.turns; order = k.order; frozen = k.frozen; pages = k.pages; frozen_is = k.frozen_is; handed = k.handed; sealed = k.sealed; handed_is = k.handed_is; slots = k.slots };
          working = working;
        }

    pub ran_ok : (r : Result (Unit {0}) StoreFault) (x : Unit {0}) (new : TurnWorker D) → node_answer r ≡ Ok x → Seals told size count fate h r m e old.side begun new → RanTurn told size count fate h drew m old new
    ran_ok (Ok y) x new is seals = ran_turn new seals.0 seals.1 seals.2
    ran_ok (Err store.Disk) x new is seals = absurd cc
    ran_ok (Err store.Memory) x new is seals = absurd cc
    ran_ok (Err (store.Damaged disk place)) x new is seals = absurd cc

    pub seal_failed : (r : Result (Unit {0}) StoreFault) (f : NodeFault) (put : List Put → Type 0) (new : TurnWorker D) → node_answer r ≡ Err f → Seals told size count fate h r m e old.side begun new → put [] → Runs told size count fate h drew {T = Took} (Err f) put m old new
    seal_failed (Ok x) f put new is seals none = absurd cc
    seal_failed (Err store.Disk) f put new is seals none =
        let fault : Disk ≡ f = cc in
        subst (λ k. Runs told size count fate h drew {T = Took} (Err k) put m old new) fault (record { effects = e; begun = begun.side; made = made; drawn = drawn; seals = seals.0; quiet = quiet_on old begun new (side_quiet old begun rest) seals.1 }, none)
    seal_failed (Err store.Memory) f put new is seals none =
        let fault : Memory ≡ f = cc in
        subst (λ k. Runs told size count fate h drew {T = Took} (Err k) put m old new) fault (inl (record { state = seals.0; working = seals.1; quiet = quiet_on old begun new (side_quiet old begun rest) seals.2 }), none)
    seal_failed (Err (store.Damaged disk place)) f put new is seals none = absurd seals
