-- The turns that a node's handler makes in a round: one at each call, or it has come to an end of them, or no input waits for it.
use Rattle.std.proofs.Common.{◌≡◌, ◌≢◌, ◌∙◌, ℕ, zero, suc, ◌+◌, ◌-◌, ◌^◌, ◌<◌, ◌≤◌, ◌⊎◌, inl, inr, ⊎_elim, List, [], ◌∷◌, length, false, Option, Some, None, Ok, slice_get, slice_index, slice_set, refl, sym, ap, subst, arith}
use Rattle.std.proofs.lemmas.Bool.{cases_eq, cases_lt}
use Rattle.std.proofs.lemmas.List.{get_or_past, get_or-set_other, get_or-set_same, length_push}
use Rattle.ken_disk.specs.declared.disk.Disk as disk
use Rattle.ken_app.specs.declared.oracle.Oracle as oracle
use Rattle.ken_model.specs.declared.messages.Message.{Message}
use Rattle.ken_model.specs.Handler.{Handler}
use Rattle.ken_model.specs.Network.{outside}
use Rattle.ken_net.specs.declared.net.Net as net
use Rattle.ken_node.proofs.Bounds.{base-short}
use Rattle.ken_order.specs.Consumed.{Consumed, consumed_from, place}
use Rattle.ken_packet.specs.Reading.{packet_of}
use Rattle.ken_ship.specs.declared.faults.NodeFault.{NodeFault}
use Rattle.ken_ship.specs.declared.faults.NodeFault.TheVariants.{Disk, Damaged, Outlet, Memory}
use Rattle.ken_store.specs.declared.turning.TurnSide.{TurnSide}
use Rattle.ken_weave.specs.Workers.{Steps, none, then}
use Rattle.ken_whole.proofs.NextMails.{next-mail}
use Rattle.ken_work.specs.declared.took.Took.{Took}
use Rattle.ken_work.specs.declared.took.Took.TheVariants.{Turn, Idle, Capped}
use Rattle.ken_work.specs.declared.worker.TurnWorker.{TurnWorker}
use Rattle.ken_work.specs.Calls.{consumed_with}
use Rattle.ken_work.specs.Capped.{HasHigh, IsCapped}
use Rattle.ken_work.specs.Capped as caps
use Rattle.ken_work.specs.Hearing.{chosen, EndsWith}
use Rattle.ken_work.specs.Workers.{Working}
use Rattle.ken_beside.specs.Seats.{Handling}
use Rattle.ken_beside.specs.Steps.{HandlerStep, turns_once, TurnsOnce}
use Rattle.ken_threads.specs.Ran.{Ran}
use Rattle.ken_threads.specs.Seats.{HandlerFails}
use Rattle.ken_rounds.specs.Faults.{is_disk}

-- ---- no input waits

module _ {D : Type 0} where
  -- all inputs of a handler are consumed
  abbrev pub NoneWaits : TurnWorker D → Type 0
  NoneWaits t = length t.inputs.items ≤ consumed_from t.order outside

past-end : {A : Type 0} (xs : List A) (k : ℕ) → slice_get xs k ≡ None → length xs ≤ k
past-end [] k is = omega arith
past-end (x ∷ xs) zero is = absurd cc
past-end (x ∷ xs) (suc k) is = let rest = past-end xs k is in omega (arith, rest)

before-end : {A : Type 0} (xs : List A) (k : ℕ) (x : A) → slice_get xs k ≡ Some x → k < length xs
before-end [] k x is = absurd cc
before-end (y ∷ xs) zero x is = omega arith
before-end (y ∷ xs) (suc k) x is = let rest = before-end xs k x is in omega (arith, rest)

-- where no message was chosen
none-chosen : (inputs : List Message) (c : Consumed) (found : Option Message) → chosen inputs c found ≡ None → length inputs ≤ consumed_from c outside
none-chosen inputs c None is = past-end inputs (consumed_from c outside) is
none-chosen inputs c (Some m) is = absurd cc

-- a message that was chosen where no input waits is a next mail
number-chosen : (v : ℕ) (c : Consumed) (inputs : List Message) (passed nones nones2 : ℕ) (last : List (List ℕ)) (found : Option Message) (m : Message) → EndsWith v c passed nones nones2 found last → chosen inputs c found ≡ Some m
    → length inputs ≤ consumed_from c outside → m.number ≡ consumed_from c m.from + 1
number-chosen v c inputs passed nones nones2 last None m ends is quiet = let low = before-end inputs (consumed_from c outside) m is in absurd (omega (arith, low, quiet))
number-chosen v c inputs passed nones nones2 last (Some x) m ends is quiet =
    let same : x ≡ m = cc in
    subst (λ (y : Message). y.number ≡ consumed_from c y.from + 1) same (next-mail v c (packet_of ends.0) x ends.1.1).number

-- no consumed number falls where the next one is set
set-rises : (ns : List ℕ) (i j n : ℕ) → n ≡ slice_index ns i + 1 → slice_index ns j ≤ slice_index (slice_set ns i n) j
set-rises ns i j n next = elim (cases_eq j i) [
  | inl same ↦ elim (cases_lt i (length ns)) [
    | inl low ↦
        let set = get_or-set_same ns i n 0 low in
        subst (λ (k : ℕ). slice_index ns k ≤ slice_index (slice_set ns i n) k) (sym same) (omega (arith, set, next))
    | inr past ↦
        let past_it = get_or_past ns j 0 (omega (arith, past, same)) in omega (arith, past_it)
  ]
  | inr other ↦ let kept = get_or-set_other ns i j n 0 other in omega (arith, kept)
]

-- ---- an end of its turns

-- a handler with this cap makes no more turns, whatever it is told
pub data IsStuck {D : Type 0} (cap : ℕ) (side : TurnSide D) : Type 0 where
  turns : cap ≤ side.numbers.turns → IsStuck cap side
  numbers : HasHigh side.numbers → IsStuck cap side
  generation : 2 ^ 32 - 1 ≤ side.log.header.generation → IsStuck cap side
  end : 2 ^ 39 < side.log.end → IsStuck cap side

module _ {D : Type 0} where
  abbrev pub Stuck : TurnWorker D → Type 0
  Stuck t = IsStuck t.cap t.side

  pub stuck-capped : (t : TurnWorker D) → Stuck t → IsCapped t
  stuck-capped t (turns x) = caps.turns x
  stuck-capped t (numbers x) = caps.numbers x
  stuck-capped t (generation x) = caps.generation x
  stuck-capped t (end x) = caps.end x

module _ {D : Type 0} (d : disk.Ghosts D) (h : Handler) where
  abbrev Works : TurnWorker D → Type 0
  Works t = Working d.told d.size h t

  -- no base is too long
  capped-low : (t : TurnWorker D) → Works t → t.side.numbers.turns < t.cap → IsCapped t → Stuck t
  capped-low t working low (caps.turns x) = turns x
  capped-low t working low (caps.numbers x) = numbers x
  capped-low t working low (caps.generation x) = generation x
  capped-low t working low (caps.end x) = end x
  capped-low t working low (caps.base long) =
      let most = t.most in
      let short = base-short d.told d.size t.side working.side (omega (arith, low, most)) t.told.settled t.told.progress.acked t.told.progress.emitted working.idle in
      absurd (omega (arith, long, short))

  capped-stuck : (t : TurnWorker D) → Works t → IsCapped t → Stuck t
  capped-stuck t working capped = ⊎_elim (λ (low : t.side.numbers.turns < t.cap). capped-low t working low capped) (λ (high : t.cap ≤ t.side.numbers.turns). turns high) (cases_lt t.side.numbers.turns t.cap)

  -- what it was told changes nothing of it
  heard-works : (t mid : TurnWorker D) → mid ≡ record t { told = mid.told; settled = mid.settled; progress = mid.progress } → Works t → Works mid
  heard-works t mid rest w = subst Works (sym rest) (record { side = w.side; idle = w.idle; node = w.node; nodes = w.nodes; order = w.order; count = w.count; heap = w.heap })

  -- what a call leaves, or calls: so many turns more, or an end of them; and whatever came to an end stays so
  pub record Makes (count : ℕ) (a b : TurnWorker D) : Type 0 where
    pub works : Works b
    pub made : (length b.turns.items ≡ length a.turns.items + count) ⊎ (NoneWaits b ⊎ Stuck b)
    pub quiet : NoneWaits a → NoneWaits b
    pub stuck : Stuck a → Stuck b

  -- calls one after the other
  makes-then : (count : ℕ) (a b c : TurnWorker D) → Makes 1 a b → Makes count b c → Makes (suc count) a c
  makes-then count a b c one more = record {
    works = more.works;
    made = by one.made more.made;
    quiet = λ x. more.quiet (one.quiet x);
    stuck = λ x. more.stuck (one.stuck x);
  }
    where
      by : (length b.turns.items ≡ length a.turns.items + 1) ⊎ (NoneWaits b ⊎ Stuck b) → (length c.turns.items ≡ length b.turns.items + count) ⊎ (NoneWaits c ⊎ Stuck c)
          → (length c.turns.items ≡ length a.turns.items + suc count) ⊎ (NoneWaits c ⊎ Stuck c)
      by (inl x) (inl y) = inl (omega (arith, x, y))
      by (inr (inl x)) (inl y) = inr (inl (more.quiet x))
      by (inr (inr x)) (inl y) = inr (inr (more.stuck x))
      by x (inr y) = inr y

module _ {D N O : Type 0} (d : disk.Ghosts D) (e : net.Ghosts N) (o : oracle.Ghosts O) (h : Handler) where
  makes-once : (took : Took) (a b : Handling D N O) → TurnsOnce d e o h (Ok took) a b → Works d h a.worker → Makes d h 1 a.worker b.worker
  makes-once Turn a b is working =
      let rest = is.hears.rest in
      let came = is.takes.came in
      let ran = is.takes.ran in
      record {
        works = ran.working;
        made = inl (ap length ran.kept.turns ∙ length_push is.takes.mid.turns.items ran.effects ∙ ap (λ (w : TurnWorker D). length w.turns.items + 1) came.rest ∙ ap (λ (w : TurnWorker D). length w.turns.items + 1) rest);
        quiet = λ x.
            let heard : NoneWaits is.mid = subst NoneWaits (sym rest) x in
            let took = came.took in
            let number = number-chosen is.mid.node is.mid.order is.mid.inputs.items (length took.listened.passed) (e.nones a.net) (e.nones b.net) took.listened.last took.found is.takes.message took.listened.ends took.chosen_is heard in
            let before : NoneWaits is.takes.mid = subst NoneWaits (sym came.rest) heard in
            let c : Consumed = is.takes.mid.order in
            let next : is.takes.message.number ≡ consumed_from c is.takes.message.from + 1 = number ∙ ap (λ (w : TurnWorker D). consumed_from w.order is.takes.message.from + 1) (sym came.rest) in
            let rises = set-rises c.consumed (place is.takes.message.from) (place outside) is.takes.message.number next in
            let now : consumed_from b.worker.order outside ≡ consumed_from (consumed_with is.takes.message ran.effects.stamp c) outside = ap (λ (x : Consumed). consumed_from x outside) ran.kept.order in
            let inputs : length b.worker.inputs.items ≡ length is.takes.mid.inputs.items = ap (λ (w : TurnWorker D). length w.inputs.items) ran.kept.rest in
            omega (arith, before, rises, now, inputs);
        stuck = λ x. absurd (came.open_yet (stuck-capped is.mid (subst Stuck (sym rest) x)));
      }
  makes-once Idle a b is working =
      let rest = is.hears.rest in
      let came = is.takes.came in
      let waits : NoneWaits b.worker = subst NoneWaits (sym came.rest) (none-chosen is.mid.inputs.items is.mid.order came.took.found came.took.chosen_is) in
      record {
        works = came.working;
        made = inr (inl waits);
        quiet = λ x. waits;
        stuck = λ x. absurd (came.open_yet (stuck-capped is.mid (subst Stuck (sym rest) x)));
      }
  makes-once Capped a b is working =
      let rest = is.hears.rest in
      let same = is.takes.same in
      let works : Works d h is.mid = heard-works d h a.worker is.mid rest working in
      record {
        works = subst (Works d h) (sym same) works;
        made = inr (inr (subst Stuck (sym same) (capped-stuck d h is.mid works is.takes.capped)));
        quiet = λ x. subst NoneWaits (sym same) (subst NoneWaits (sym rest) x);
        stuck = λ x. subst Stuck (sym same) (subst Stuck (sym rest) x);
      }

  makes-one : (a b : Handling D N O) → HandlerStep d e o h a b → Works d h a.worker → Makes d h 1 a.worker b.worker
  makes-one a b (turns_once took is) working = makes-once took a b is working

  -- all of them
  makes-all : (a c : Handling D N O) (cs : List (Handling D N O)) → Steps (HandlerStep d e o h) a cs c → Works d h a.worker → Makes d h (length cs) a.worker c.worker
  makes-all a c cs none working = record { works = working; made = inl (omega arith); quiet = λ x. x; stuck = λ x. x }
  makes-all a c cs (then {b = b} {bs = bs} one rest) working =
      let first = makes-one a b one working in
      makes-then d h (length bs) a.worker b.worker c.worker first (makes-all b c bs rest first.works)

  -- where no disk failed it made all its calls
  pub handler-makes : (fault : Option NodeFault) (a b : Handling D N O) → fault ≢ Some Memory → is_disk fault ≡ false → Ran (HandlerStep d e o h) (HandlerFails d e o h) a b fault → Works d h a.worker → Makes d h 16 a.worker b.worker
  handler-makes None a b had isnt ran working =
      subst (λ (x : Handling D N O). Makes d h 16 a.worker x.worker) (sym ran.ends.1) (subst (λ (k : ℕ). Makes d h k a.worker ran.mid.worker) ran.ends.0 (makes-all a ran.mid ran.states ran.made working))
  handler-makes (Some Disk) a b had isnt ran working = absurd cc
  handler-makes (Some Memory) a b had isnt ran working = absurd (had refl)
  handler-makes (Some Outlet) a b had isnt ran working = let last = ran.ends.1 in absurd last.takes
  handler-makes (Some (Damaged disk place)) a b had isnt ran working = let last = ran.ends.1 in absurd last.takes
