-- The state that a log tells, after a turn and after a turnover.
use Rattle.std.proofs.Common.{◌≡◌, ◌≢◌, ℕ, zero, suc, ◌+◌, ◌-◌, ◌<◌, ◌≤◌, max, Bool, true, false, cond, ◌==◌, nat_lt, List, [], ◌∷◌, ◌++◌, map, drop, slice_index, Option, refl, sym, ap, subst, ◌∙◌, ⊎_elim, arith, append-nil, append_assoc, zero-add, add-zero, eq-eqb, ne_eqb}
use Rattle.std.specs.List.{AllByRecursion, filter, flat_map, range_with_len}
use Rattle.std.proofs.lemmas.Bool.{cases_eq, cases_lt, eqb-true, ltb-true, ltb-false}
use Rattle.std.proofs.lemmas.Grind.{flat_map-append}
use Rattle.std.proofs.lemmas.List.{drop-drop}
use Rattle.std.proofs.lemmas.List.Elements.{filter-append}
use Rattle.ken_model.specs.declared.messages.Message.{Message}
use Rattle.ken_model.specs.declared.messages.Out.{Out}
use Rattle.ken_model.specs.Network.{outputs_from}
use Rattle.ken_record.specs.declared.base.Base.{Base}
use Rattle.ken_record.specs.declared.due.Due.{Due}
use Rattle.ken_record.specs.declared.effects.Effects.{Effects}
use Rattle.ken_record.specs.declared.page.Page.{Page}
use Rattle.ken_record.specs.declared.record.Record.{Record}
use Rattle.ken_record.specs.declared.sent.Sent.{Sent}
use Rattle.ken_outbox.specs.Waiting.{sent_to}
use Rattle.ken_core.specs.Turns.{mails_in}
use Rattle.ken_ship.proofs.Numbered.{AreFrom, drop_nothing}
use Rattle.ken_store.specs.Kept.{base_messages, base_outs, due_to, message_due, message_sent, messages_in, messages_to, outs_in, record_outs}
use Rattle.ken_store.specs.Kept.{sent_to as sent_in}
use Rattle.ken_store.specs.Turning.{record_of}
use Rattle.ken_store.specs.Turnovers.{is_waiting, outs_above}

-- ---- the messages to one node among those of a log

abbrev AreTo : ℕ → List Message → Type 0
AreTo u ms = AllByRecursion (λ (m : Message). m.to ≡ u) ms

to-all : (u : ℕ) (ms : List Message) → AreTo u ms → sent_to u ms ≡ ms
to-all u [] all = refl
to-all u (m ∷ ms) all = ap (λ (b : Bool). cond b (m ∷ sent_to u ms) (sent_to u ms)) (eq-eqb m.to u all.0) ∙ ap (λ (xs : List Message). m ∷ xs) (to-all u ms all.1)

to-none : (u w : ℕ) (ms : List Message) → w ≢ u → AreTo w ms → sent_to u ms ≡ []
to-none u w [] other all = refl
to-none u w (m ∷ ms) other all = ap (λ (b : Bool). cond b (m ∷ sent_to u ms) (sent_to u ms)) (ne_eqb m.to u (λ same. other (sym all.0 ∙ same))) ∙ to-none u w ms other all.1

to-both : (u : ℕ) (xs ys : List Message) → AreTo u xs → AreTo u ys → AreTo u (xs ++ ys)
to-both u [] ys all more = more
to-both u (x ∷ xs) ys all more = (all.0, to-both u xs ys all.1 more)

due-to : (node u : ℕ) (ds : List Due) → AreTo u (due_to node u ds)
due-to node u [] = tt
due-to node u (d ∷ ds) = kept (d.to == u) refl (due-to node u ds)
  where
    kept : (b : Bool) → (d.to == u) ≡ b → AreTo u (due_to node u ds) → AreTo u (map (message_due node) (cond b (d ∷ filter (λ (m : Due). m.to == u) ds) (filter (λ (m : Due). m.to == u) ds)))
    kept true e rest = (eqb-true d.to u e, rest)
    kept false e rest = rest

sends-to : (node u stamp : ℕ) (ss : List Sent) → AreTo u (map (message_sent node stamp) (filter (λ (s : Sent). s.to == u) ss))
sends-to node u stamp [] = tt
sends-to node u stamp (s ∷ ss) = kept (s.to == u) refl (sends-to node u stamp ss)
  where
    kept : (b : Bool) → (s.to == u) ≡ b → AreTo u (map (message_sent node stamp) (filter (λ (s : Sent). s.to == u) ss)) → AreTo u (map (message_sent node stamp) (cond b (s ∷ filter (λ (s : Sent). s.to == u) ss) (filter (λ (s : Sent). s.to == u) ss)))
    kept true e rest = (eqb-true s.to u e, rest)
    kept false e rest = rest

records-to : (node u : ℕ) (rs : List Record) → AreTo u (flat_map (sent_in node u) rs)
records-to node u [] = tt
records-to node u (r ∷ rs) = to-both u (sent_in node u r) (flat_map (sent_in node u) rs) (sends-to node u r.stamp r.sends) (records-to node u rs)

messages-to : (node : ℕ) (base : Option Base) (rs : List Record) (u : ℕ) → AreTo u (messages_to node base rs u)
messages-to node base rs u = to-both u (due_to node u (base_messages base)) (flat_map (sent_in node u) rs) (due-to node u (base_messages base)) (records-to node u rs)

module _ (f : ℕ → List Message) (all : (w : ℕ) → AreTo w (f w)) (u : ℕ) where
  past-none : (a c : ℕ) → u < a → sent_to u (flat_map f (range_with_len a c)) ≡ []
  past-none a zero low = refl
  past-none a (suc c) low =
      filter-append (λ (m : Message). m.to == u) (f a) (flat_map f (range_with_len (a + 1) c))
      ∙ ap (λ (xs : List Message). xs ++ sent_to u (flat_map f (range_with_len (a + 1) c))) (to-none u a (f a) (λ (same : a ≡ u). absurd (omega (arith, same, low))) (all a))
      ∙ past-none (a + 1) c (omega (arith, low))

  among-one : (a c : ℕ) → a ≤ u → u < a + c → sent_to u (flat_map f (range_with_len a c)) ≡ f u
  among-one a zero low high = absurd (omega (arith, low, high))
  among-one a (suc c) low high =
      let later : List Message = flat_map f (range_with_len (a + 1) c) in
      filter-append (λ (m : Message). m.to == u) (f a) later
      ∙ ⊎_elim
      (λ (same : a ≡ u).
      ap (λ (xs : List Message). xs ++ sent_to u later) (subst (λ (k : ℕ). sent_to u (f k) ≡ f u) (sym same) (to-all u (f u) (all u)))
      ∙ ap (λ (xs : List Message). f u ++ xs) (past-none (a + 1) c (omega (arith, same)))
      ∙ append-nil (f u))
      (λ (other : a ≢ u).
      let more : a < u = ⊎_elim (λ (less : a < u). less) (λ (not : u ≤ a). absurd (other (omega (arith, low, not)))) (cases_lt a u) in
      ap (λ (xs : List Message). xs ++ sent_to u later) (to-none u a (f a) other (all a)) ∙ among-one (a + 1) c (omega (arith, more)) (omega (arith, high)))
      (cases_eq a u)

pub messages-one : (node : ℕ) (base : Option Base) (rs : List Record) (u : ℕ) → u < 8 → sent_to u (messages_in node base rs) ≡ messages_to node base rs u
messages-one node base rs u low = among-one (messages_to node base rs) (messages-to node base rs) u 0 8 (omega arith) (omega (arith, low))

-- one record more
pub messages-push : (node : ℕ) (base : Option Base) (rs : List Record) (turn : ℕ) (e : Effects) (pages : List Page) (u : ℕ) → messages_to node base (rs ++ record_of turn e pages ∷ []) u ≡ messages_to node base rs u ++ mails_in node u e
messages-push node base rs turn e pages u =
    let r : Record = record_of turn e pages in
    ap (λ (ms : List Message). due_to node u (base_messages base) ++ ms) (flat_map-append (sent_in node u) rs (r ∷ []) ∙ ap (λ (ms : List Message). flat_map (sent_in node u) rs ++ ms) (append-nil (sent_in node u r)))
    ∙ sym (append_assoc (due_to node u (base_messages base)) (flat_map (sent_in node u) rs) (mails_in node u e))

pub state-outs-push : (base : Option Base) (rs : List Record) (turn : ℕ) (e : Effects) (pages : List Page) → outs_in base (rs ++ record_of turn e pages ∷ []) ≡ outs_in base rs ++ e.outs
state-outs-push base rs turn e pages =
    ap (λ (os : List Out). base_outs base ++ os) (flat_map-append record_outs rs (record_of turn e pages ∷ []) ∙ ap (λ (os : List Out). flat_map record_outs rs ++ os) (append-nil e.outs))
    ∙ sym (append_assoc (base_outs base) (flat_map record_outs rs) e.outs)

-- ---- what a turnover leaves

-- two tests, in either order
filter-both : {X : Type 0} (p q : X → Bool) (xs : List X) → filter p (filter q xs) ≡ filter q (filter p xs)
filter-both {X} p q [] = refl
filter-both {X} p q (x ∷ xs) = both (p x) refl (q x) refl (filter-both p q xs)
  where
    both : (b : Bool) → p x ≡ b → (c : Bool) → q x ≡ c → filter p (filter q xs) ≡ filter q (filter p xs) → filter p (cond c (x ∷ filter q xs) (filter q xs)) ≡ filter q (cond b (x ∷ filter p xs) (filter p xs))
    both true e true f rest = rw (e, f) (ap (λ (ys : List X). x ∷ ys) rest)
    both true e false f rest = rw f rest
    both false e true f rest = rw e rest
    both false e false f rest = rest

-- of messages that are numbered on from a number, those past another
waiting-past : (acked : List ℕ) (v u a : ℕ) (ms : List Message) → AreFrom v u a ms → filter (is_waiting acked) ms ≡ drop (slice_index acked u - a) ms
waiting-past acked v u a [] from = sym (drop_nothing (slice_index acked u - a))
waiting-past acked v u a (m ∷ ms) from = kept (nat_lt (slice_index acked m.to) m.number) refl (waiting-past acked v u (a + 1) ms from.1.1)
  where
    at : slice_index acked m.to ≡ slice_index acked u
    at = ap (slice_index acked) from.0

    kept : (b : Bool) → nat_lt (slice_index acked m.to) m.number ≡ b → filter (is_waiting acked) ms ≡ drop (slice_index acked u - (a + 1)) ms → cond b (m ∷ filter (is_waiting acked) ms) (filter (is_waiting acked) ms) ≡ drop (slice_index acked u - a) (m ∷ ms)
    kept true e rest =
        let less = ltb-true (slice_index acked m.to) m.number e in
        let none : slice_index acked u - (a + 1) ≡ 0 = omega (arith, less, at, from.1.0) in
        let first : slice_index acked u - a ≡ 0 = omega (arith, less, at, from.1.0) in
        ap (λ (xs : List Message). m ∷ xs) (rest ∙ ap (λ (k : ℕ). drop k ms) none) ∙ ap (λ (k : ℕ). drop k (m ∷ ms)) (sym first)
    kept false e rest =
        let more = ltb-false (slice_index acked m.to) m.number e in
        let one : slice_index acked u - a ≡ suc (slice_index acked u - (a + 1)) = omega (arith, more, at, from.1.0) in
        rest ∙ ap (λ (k : ℕ). drop k (m ∷ ms)) (sym one)

pub waiting-left : (acked : List ℕ) (v u a : ℕ) (mails ms : List Message) → AreFrom v u a (drop a mails) → sent_to u ms ≡ drop a mails → sent_to u (filter (is_waiting acked) ms) ≡ drop (max a (slice_index acked u)) mails
waiting-left acked v u a mails ms from was =
    let k : ℕ = slice_index acked u in
    let sum : a + (k - a) ≡ max a k = omega arith in
    filter-both (λ (m : Message). m.to == u) (is_waiting acked) ms
    ∙ ap (filter (is_waiting acked)) was
    ∙ waiting-past acked v u a (drop a mails) from
    ∙ drop-drop (k - a) a mails
    ∙ ap (λ (i : ℕ). drop i mails) sum

-- of outputs that are numbered on from a number
outs-past : (emitted n : ℕ) (xs : List (List ℕ)) → outs_above emitted (outputs_from n xs) ≡ drop (emitted - n) (outputs_from n xs)
unfolding outputs_from
outs-past emitted n [] = sym (drop_nothing (emitted - n))
outs-past emitted n (x ∷ xs) = kept (nat_lt emitted (n + 1)) refl (outs-past emitted (n + 1) xs)
  where
    o : Out
    o = record { number = n + 1; text = x }

    kept : (b : Bool) → nat_lt emitted (n + 1) ≡ b → outs_above emitted (outputs_from (n + 1) xs) ≡ drop (emitted - (n + 1)) (outputs_from (n + 1) xs)
        → cond b (o ∷ outs_above emitted (outputs_from (n + 1) xs)) (outs_above emitted (outputs_from (n + 1) xs)) ≡ drop (emitted - n) (o ∷ outputs_from (n + 1) xs)
    kept true e rest =
        let less = ltb-true emitted (n + 1) e in
        let none : emitted - (n + 1) ≡ 0 = omega (arith, less) in
        let first : emitted - n ≡ 0 = omega (arith, less) in
        ap (λ (os : List Out). o ∷ os) (rest ∙ ap (λ (k : ℕ). drop k (outputs_from (n + 1) xs)) none) ∙ ap (λ (k : ℕ). drop k (o ∷ outputs_from (n + 1) xs)) (sym first)
    kept false e rest =
        let more = ltb-false emitted (n + 1) e in
        let one : emitted - n ≡ suc (emitted - (n + 1)) = omega (arith, more) in
        rest ∙ ap (λ (k : ℕ). drop k (o ∷ outputs_from (n + 1) xs)) (sym one)

drop-outputs : (k n : ℕ) (xs : List (List ℕ)) → drop k (outputs_from n xs) ≡ outputs_from (n + k) (drop k xs)
unfolding outputs_from
drop-outputs zero n xs = ap (λ (i : ℕ). outputs_from i xs) (sym (add-zero n))
drop-outputs (suc k) n [] = refl
drop-outputs (suc k) n (x ∷ xs) = let sum : n + 1 + k ≡ n + suc k = omega arith in drop-outputs k (n + 1) xs ∙ ap (λ (i : ℕ). outputs_from i (drop k xs)) sum

pub outs-left : (emitted r : ℕ) (texts : List (List ℕ)) (outs all : List Out) → all ≡ outputs_from 0 texts → outs ≡ drop r all → outs_above emitted outs ≡ drop (max r emitted) all
outs-left emitted r texts outs all is was =
    let sum : r + (emitted - r) ≡ max r emitted = omega arith in
    let start : 0 + r ≡ r = zero-add r in
    let left : drop r all ≡ outputs_from r (drop r texts) = ap (drop r) is ∙ drop-outputs r 0 texts ∙ ap (λ (i : ℕ). outputs_from i (drop r texts)) start in
    ap (outs_above emitted) (was ∙ left)
    ∙ outs-past emitted r (drop r texts)
    ∙ ap (drop (emitted - r)) (sym left)
    ∙ drop-drop (emitted - r) r all
    ∙ ap (λ (i : ℕ). drop i all) sum
