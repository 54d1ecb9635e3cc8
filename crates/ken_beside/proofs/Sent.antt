-- What a step of the externaliser is handed and tells.
use Rattle.std.proofs.Common.{◌≡◌, ◌≢◌, ℕ, ◌+◌, ◌-◌, ◌≤◌, ⊎_elim, List, [], ◌∷◌, ◌++◌, length, Ok, Err, refl, sym, ap, ◌∙◌, subst, arith, append-nil, append_assoc}
use Rattle.std.proofs.lemmas.List.{append_cancel_left}
use Rattle.std.specs.List.{AllByRecursion}
use Rattle.ken_links.specs.declared.pop_end.PopEnd.{PopEnd}
use Rattle.ken_links.specs.Rings.{pushed, popped}
use Rattle.ken_net.specs.declared.net.Net as net
use Rattle.ken_ship.specs.declared.emit.Emit.{Emit}
use Rattle.ken_ship.specs.declared.emit.Emit.TheVariants.{Done, Refused, Nothing}
use Rattle.ken_ship.specs.declared.faults.NodeFault.TheVariants.{Outlet}
use Rattle.ken_ship.specs.declared.items.Sealed.{Sealed}
use Rattle.ken_ship.specs.declared.items.Told.{Told}
use Rattle.ken_ship.specs.declared.outlet.Outlet as outlet
use Rattle.ken_ship.specs.declared.worker.SendWorker.{SendWorker}
use Rattle.ken_ship.specs.Handing.{acked_in, told_in}
use Rattle.ken_ship.specs.Parts.{Part, part_of}
use Rattle.ken_whole.proofs.Rings.{queue-moved}
use Rattle.ken_weave.specs.Workers.{Counts, Ends, Steps, none, then, Tells}
use Rattle.ken_beside.specs.Seats.{Sending}
use Rattle.ken_beside.specs.Steps.{EmitsOnce, SenderCall, SenderStep, SendsDue, TakesAcks, sends_due, takes_acks, emits_once}
use Rattle.ken_beside.proofs.Handled.{longer}
use Rattle.ken_beside.proofs.Lists.{same-or-not}
use Rattle.ken_beside.proofs.Numbered.{AreKnown, IsKnown, known-later, known-now, last, last-sealed, sealed_turn}

-- the externaliser's ends of its rings, by which turns are counted as they are popped
abbrev pub sender-ends : {N U : Type 0} → Ends (Sending N U) Sealed Told
sender-ends = record { turns = λ s. length (popped s.worker.sealed); handed = λ s. popped s.worker.sealed; told = λ s. pushed s.worker.told }

-- turns left the ring, and what is told stands with how many were handed over by then
pub record WasHanded (old new : SendWorker) : Type 0 where
  pub turns : List Sealed
  pub popped_are : popped new.sealed ≡ popped old.sealed ++ turns
  pub number : (part_of new).handed ≡ last sealed_turn (part_of old).handed turns
  pub news : List Told
  pub told : pushed new.told ≡ pushed old.told ++ news
  pub by : AllByRecursion (λ (x : Told). (part_of new).handed ≡ x.by) news
  pub few : length news ≤ 1

-- nothing was handed over, and this was told
pub told-of : (old new : SendWorker) → new.sealed ≡ old.sealed → (part_of new).handed ≡ (part_of old).handed → (news : List Told) → pushed new.told ≡ pushed old.told ++ news
    → AllByRecursion (λ (x : Told). (part_of new).handed ≡ x.by) news → length news ≤ 1 → WasHanded old new
told-of old new sealed same news told by few = record {
  turns = [];
  popped_are = ap (λ (r : PopEnd Sealed). popped r) sealed ∙ sym (append-nil (popped old.sealed));
  number = same;
  news = news;
  told = told;
  by = by;
  few = few;
}

module _ {N U : Type 0} (e : net.Ghosts N) (u : outlet.Ghosts U) where
  send-handed : (old new : Sending N U) → SendsDue e u (Ok tt) old new → WasHanded old.worker new.worker
  send-handed old new is = record {
    turns = is.handed.turns;
    popped_are = is.handed.popped_are;
    number = is.number is.handed.turns is.handed.popped_are ∙ last-sealed (part_of old.worker).handed is.handed.turns;
    news = [];
    told = ap pushed is.told ∙ sym (append-nil (pushed old.worker.told));
    by = tt;
    few = omega arith;
  }

  acks-handed : (old new : Sending N U) → TakesAcks e u old new → WasHanded old.worker new.worker
  acks-handed old new is =
      let same : (part_of new.worker).handed ≡ (part_of old.worker).handed = ap (λ (x : Part). x.handed) is.part in
      ⊎_elim
      (λ (quiet : acked_in (part_of new.worker).due.lines ≡ acked_in (part_of old.worker).due.lines).
      told-of old.worker new.worker is.sealed same [] (is.tells.same_not_told quiet ∙ sym (append-nil (pushed old.worker.told))) tt (omega arith))
      (λ (risen : acked_in (part_of new.worker).due.lines ≢ acked_in (part_of old.worker).due.lines).
      told-of old.worker new.worker is.sealed same (told_in (part_of new.worker).handed (part_of new.worker).due ∷ []) (is.tells.risen_told risen) (refl, tt) (omega arith))
      (same-or-not (acked_in (part_of new.worker).due.lines) (acked_in (part_of old.worker).due.lines))

  emit-handed : (answer : Emit) (old new : Sending N U) → EmitsOnce e u (Ok answer) old new → WasHanded old.worker new.worker
  emit-handed (Done number) old new is =
      let now = is.part.1.1.2 in
      told-of old.worker new.worker is.sealed (ap (λ (x : Part). x.handed) now)
      (told_in (part_of old.worker).handed (record (part_of old.worker).due { emitted = is.part.0.number; outs = is.part.1.0 }) ∷ []) (ap (λ (x : Part). x.told) now) (ap (λ (x : Part). x.handed) now, tt) (omega arith)
  emit-handed Refused old new is =
      let now = is.part.2 in
      told-of old.worker new.worker is.sealed (ap (λ (x : Part). x.handed) now) [] (ap (λ (x : Part). x.told) now ∙ sym (append-nil (pushed old.worker.told))) tt (omega arith)
  emit-handed Nothing old new is =
      let now = is.part.1 in
      told-of old.worker new.worker is.sealed (ap (λ (x : Part). x.handed) now) [] (ap (λ (x : Part). x.told) now ∙ sym (append-nil (pushed old.worker.told))) tt (omega arith)

  -- nothing was emitted
  worn-handed : (old new : Sending N U) → EmitsOnce e u (Err Outlet) old new → WasHanded old.worker new.worker
  worn-handed old new is =
      let now = is.part.2 in
      told-of old.worker new.worker is.sealed (ap (λ (x : Part). x.handed) now) [] (ap (λ (x : Part). x.told) now ∙ sym (append-nil (pushed old.worker.told))) tt (omega arith)

  step-handed : (old new : Sending N U) → SenderStep e u old new → WasHanded old.worker new.worker
  step-handed old new (sends_due is) = send-handed old new is
  step-handed old new (takes_acks is) = acks-handed old new is
  step-handed old new (emits_once answer is) = emit-handed answer old new is

  pub was-handed : (old new : Sending N U) → SenderCall e u old new → WasHanded old.worker new.worker
  was-handed old new call = ⊎_elim (λ step. step-handed old new step) (λ fault. worn-handed old new fault) call

  pub sealed-grows : (a c : Sending N U) (cs : List (Sending N U)) → Steps (SenderCall e u) a cs c → (more : List Sealed) × (popped c.worker.sealed ≡ popped a.worker.sealed ++ more)
  sealed-grows a c cs none = ([], sym (append-nil (popped a.worker.sealed)))
  sealed-grows a c cs (then {b = b} {bs = bs} one rest) =
      let first = was-handed a b one in
      let later = sealed-grows b c bs rest in
      (first.turns ++ later.0, later.1 ∙ ap (λ (fs : List Sealed). fs ++ later.0) first.popped_are ∙ append_assoc (popped a.worker.sealed) first.turns later.0)

  module _ (start made : ℕ) where
    -- a step after which it knows of the turns that it was handed after the start
    pub record FitSend (old new : Sending N U) : Type 0 where
      pub step : SenderCall e u old new
      pub known : IsKnown sealed_turn start made (length (popped new.worker.sealed)) (part_of new.worker).handed

    -- all steps are so, where all that is handed over is known one after another
    pub sends-fit : (a c : Sending N U) (cs : List (Sending N U)) (all queue tail : List Sealed) → Steps (SenderCall e u) a cs c
        → all ≡ popped a.worker.sealed ++ queue → all ≡ popped c.worker.sealed ++ tail → AreKnown sealed_turn start made (length (popped a.worker.sealed)) (part_of a.worker).handed queue → Steps FitSend a cs c
    sends-fit a c cs all queue tail none before after known = none
    sends-fit a c cs all queue tail (then {b = b} {bs = bs} one rest) before after known =
        let first = was-handed a b one in
        let later = sealed-grows b c bs rest in
        let left : List Sealed = later.0 ++ tail in
        let middle : all ≡ popped b.worker.sealed ++ left = after ∙ ap (λ (fs : List Sealed). fs ++ tail) later.1 ∙ append_assoc (popped b.worker.sealed) later.0 tail in
        let parts : queue ≡ first.turns ++ left = queue-moved all (popped a.worker.sealed) (popped b.worker.sealed) queue first.turns left before first.popped_are middle in
        let size : length (popped b.worker.sealed) ≡ length (popped a.worker.sealed) + length first.turns = longer (popped a.worker.sealed) first.turns (popped b.worker.sealed) first.popped_are in
        let all_known =
        known-later sealed_turn start made (length (popped a.worker.sealed)) (part_of a.worker).handed first.turns left (subst (AreKnown sealed_turn start made (length (popped a.worker.sealed)) (part_of a.worker).handed) parts known) in
        let next : AreKnown sealed_turn start made (length (popped b.worker.sealed)) (part_of b.worker).handed left =
        subst (λ (k : ℕ). AreKnown sealed_turn start made k (part_of b.worker).handed left) (sym size)
        (subst (λ (k : ℕ). AreKnown sealed_turn start made (length (popped a.worker.sealed) + length first.turns) k left) (sym first.number) all_known) in
        then (record { step = one; known = known-now sealed_turn start made (length (popped b.worker.sealed)) (part_of b.worker).handed left next }) (sends-fit b c bs all left tail rest middle after next)

    -- ---- the rules of a worker that runs beside a handler

    pub sender-counts : Counts FitSend sender-ends
    sender-counts = record {
      turns = λ a b fit. let is = was-handed a b fit.step in (is.turns, (is.popped_are, longer (popped a.worker.sealed) is.turns (popped b.worker.sealed) is.popped_are));
      news = λ a b fit. let is = was-handed a b fit.step in (is.news, is.told);
    }

    low-by : (count known : ℕ) (news : List Told) → count ≤ (known - made) + start → AllByRecursion (λ (x : Told). known ≡ x.by) news → AllByRecursion (λ (x : Told). count ≤ (x.by - made) + start) news
    low-by count known [] low all = tt
    low-by count known (x ∷ news) low all = (subst (λ (k : ℕ). count ≤ (k - made) + start) all.0 low, low-by count known news low all.1)

    pub sender-tells : Tells FitSend sender-ends (λ (x : Told). (x.by - made) + start)
    sender-tells a b fit news e =
        let is = was-handed a b fit.step in
        let same : is.news ≡ news = append_cancel_left (pushed a.worker.told) is.news news (sym is.told ∙ e) in
        subst (AllByRecursion (λ (x : Told). length (popped b.worker.sealed) ≤ (x.by - made) + start)) same (low-by (length (popped b.worker.sealed)) (part_of b.worker).handed is.news fit.known is.by)
