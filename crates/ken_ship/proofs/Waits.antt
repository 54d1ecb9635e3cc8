-- Where what waits comes from.
use Rattle.std.proofs.Common.{◌≡◌, ◌≢◌, ℕ, ◌+◌, ◌<◌, ◌≤◌, ◌⊎◌, inl, inr, max, Bool, cond, false, List, [], ◌∷◌, ◌++◌, length, true, ◌==◌, get_or, slice_set, refl, sym, ap, ◌∙◌, subst, ⊎_elim, arith}
use Rattle.std.specs.List.{Contains}
use Rattle.std.proofs.lemmas.Bool.{cases_eq, cases_lt, eqb-true}
use Rattle.std.proofs.lemmas.List.{get_or_past, get_or-set_same, get_or-set_other, set_past}
use Rattle.std.proofs.lemmas.List.Elements.{All-contains, All-contains_itself, All-filter, filter_passes, Contains-append_left, Contains-append_right, Contains-append_cases}
use Rattle.ken_model.specs.declared.messages.Message.{Message}
use Rattle.ken_outbox.specs.Waiting.{Unacked, Waiting, no_line, sent_to, with_sends, acked_by}
use Rattle.ken_ship.specs.declared.items.Sealed.{Sealed}
use Rattle.ken_ship.specs.Handing.{mails_of, with_turn, with_turns}
use Rattle.ken_ship.specs.Taking.{after_ack, after_acks, goes_no_further}
use Rattle.ken_ship.specs.Laws.{line_of, WasSentBy}
use Rattle.ken_ship.proofs.Lines.{line_of_sends, sends_long, acked_number, all_acked}

-- a line stays, or it is the one that is acknowledged
data StaysOr (a : ℕ × ℕ) (lines lines2 : List Unacked) (u : ℕ) : Type 0 where
  stays : line_of lines2 u ≡ line_of lines u → StaysOr a lines lines2 u
  is_acked : u ≡ a.0 → line_of lines2 u ≡ acked_by a.1 (line_of lines u) → StaysOr a lines lines2 u

set_line : (a : ℕ × ℕ) (lines : List Unacked) (u : ℕ) → StaysOr a lines (slice_set lines a.0 (acked_by a.1 (line_of lines a.0))) u
set_line a lines u =
    let new : Unacked = acked_by a.1 (get_or lines a.0 no_line) in
    ⊎_elim
    (λ (same : u ≡ a.0). ⊎_elim
    (λ (low : a.0 < length lines).
    is_acked same (ap (λ (k : ℕ). get_or (slice_set lines a.0 new) k no_line) same ∙ get_or-set_same lines a.0 new no_line low ∙ ap (λ (k : ℕ). acked_by a.1 (get_or lines k no_line)) (sym same)))
    (λ (high : length lines ≤ a.0). stays (ap (λ (ls : List Unacked). get_or ls u no_line) (set_past lines a.0 new high)))
    (cases_lt a.0 (length lines)))
    (λ (other : u ≢ a.0). stays (get_or-set_other lines a.0 u new no_line other))
    (cases_eq u a.0)

one_line : (a : ℕ × ℕ) (lines : List Unacked) (u : ℕ) → StaysOr a lines (after_ack a lines) u
one_line a lines u = kept (goes_no_further lines a)
  where
    kept : (b : Bool) → StaysOr a lines (cond b (slice_set lines a.0 (acked_by a.1 (line_of lines a.0))) lines) u
    kept true = set_line a lines u
    kept false = stays refl

one_rises : (a : ℕ × ℕ) (lines : List Unacked) (u : ℕ) → StaysOr a lines (after_ack a lines) u → (line_of lines u).acked ≤ (line_of (after_ack a lines) u).acked
one_rises a lines u (stays same) = let number = ap (λ (l : Unacked). l.acked) same in omega (arith, number)
one_rises a lines u (is_acked same is) = let number = ap (λ (l : Unacked). l.acked) is ∙ acked_number a.1 (line_of lines u) in omega (arith, number)

pub numbers_rise : (acks : List (ℕ × ℕ)) (lines : List Unacked) (u : ℕ) → (line_of lines u).acked ≤ (line_of (after_acks acks lines) u).acked
numbers_rise [] lines u = omega arith
numbers_rise (a ∷ acks) lines u = let first = one_rises a lines u (one_line a lines u) in let rest = numbers_rise acks (after_ack a lines) u in omega (arith, first, rest)

-- the number of one line after one acknowledgement: what it was, or what that says
one_told : (a : ℕ × ℕ) (lines : List Unacked) (u : ℕ) → StaysOr a lines (after_ack a lines) u → ((line_of (after_ack a lines) u).acked ≡ (line_of lines u).acked) ⊎ (a ≡ (u, (line_of (after_ack a lines) u).acked))
one_told a lines u (stays same) = inl (ap (λ (l : Unacked). l.acked) same)
one_told a lines u (is_acked same is) =
    let number : (line_of (after_ack a lines) u).acked ≡ max (line_of lines u).acked a.1 = ap (λ (l : Unacked). l.acked) is ∙ acked_number a.1 (line_of lines u) in
    ⊎_elim
    (λ (less : (line_of lines u).acked < a.1).
    let now : a.1 ≡ (line_of (after_ack a lines) u).acked = omega (arith, number, less) in
    inr (ap (λ (k : ℕ). (k, a.1)) (sym same) ∙ ap (λ (k : ℕ). (u, k)) now))
    (λ (more : a.1 ≤ (line_of lines u).acked). inl (omega (arith, number, more)))
    (cases_lt (line_of lines u).acked a.1)

pub numbers_were_told : (acks : List (ℕ × ℕ)) (lines : List Unacked) (u : ℕ) → ((line_of (after_acks acks lines) u).acked ≡ (line_of lines u).acked) ⊎ Contains acks (u, (line_of (after_acks acks lines) u).acked)
numbers_were_told [] lines u = inl refl
numbers_were_told (a ∷ acks) lines u =
    let last : ℕ = (line_of (after_acks acks (after_ack a lines)) u).acked in
    ⊎_elim
    (λ (same : last ≡ (line_of (after_ack a lines) u).acked). ⊎_elim
    (λ (still : (line_of (after_ack a lines) u).acked ≡ (line_of lines u).acked). inl (same ∙ still))
    (λ (is : a ≡ (u, (line_of (after_ack a lines) u).acked)). inr (Contains-append_left (a ∷ []) acks (u, last) (0, omega arith, is ∙ ap (λ (k : ℕ). (u, k)) (sym same))))
    (one_told a lines u (one_line a lines u)))
    (λ (there : Contains acks (u, last)). inr (Contains-append_right (a ∷ []) acks (u, last) there))
    (numbers_were_told acks (after_ack a lines) u)

one_waited : (a : ℕ × ℕ) (lines : List Unacked) (u : ℕ) (m : Message) → StaysOr a lines (after_ack a lines) u → Contains (line_of (after_ack a lines) u).messages m → Contains (line_of lines u).messages m
one_waited a lines u m (stays same) there = subst (λ (l : Unacked). Contains l.messages m) same there
one_waited a lines u m (is_acked same is) there =
    let were : List Message = (line_of lines u).messages in
    All-contains (Contains were) (acked_by a.1 (line_of lines u)).messages m (all_acked (Contains were) a.1 (line_of lines u) (All-contains_itself were)) (subst (λ (l : Unacked). Contains l.messages m) is there)

pub waited_before : (acks : List (ℕ × ℕ)) (lines : List Unacked) (u : ℕ) (m : Message) → Contains (line_of (after_acks acks lines) u).messages m → Contains (line_of lines u).messages m
waited_before [] lines u m there = there
waited_before (a ∷ acks) lines u m there = one_waited a lines u m (one_line a lines u) (waited_before acks (after_ack a lines) u m there)

-- a message to one node is one of the list, and goes there
to_one : (u : ℕ) (ms : List Message) (m : Message) → Contains (sent_to u ms) m → Contains ms m × (m.to ≡ u)
to_one u ms m there =
    let goes : (m.to == u) ≡ true = All-contains (λ (x : Message). (x.to == u) ≡ true) (sent_to u ms) m (filter_passes (λ (x : Message). x.to == u) ms) there in
    (All-contains (Contains ms) (sent_to u ms) m (All-filter (λ (x : Message). x.to == u) (Contains ms) ms (All-contains_itself ms)) there, eqb-true m.to u goes)

one_handed : (v : ℕ) (s : Sealed) (w : Waiting) (u : ℕ) (m : Message) → Contains (line_of (with_turn v s w).lines u).messages m → Contains (line_of w.lines u).messages m ⊎ WasSentBy v (s ∷ []) u m
one_handed v s w u m there =
    let sends : List Message = mails_of v s in
    let old : Unacked = line_of w.lines u in
    ⊎_elim
    (λ (low : u < length w.lines).
    let number : 0 + u ≡ u = omega arith in
    let is : line_of (with_sends 0 w.lines sends) u ≡ record old { messages = old.messages ++ sent_to u sends } = line_of_sends 0 w.lines sends u low ∙ ap (λ (k : ℕ). record old { messages = old.messages ++ sent_to k sends }) number in
    ⊎_elim
    (λ (waited : Contains old.messages m). inl waited)
    (λ (sent : Contains (sent_to u sends) m). let it = to_one u sends m sent in inr (record { turn = s; one = (0, omega arith, refl); sent = it.0; to = it.1 }))
    (Contains-append_cases old.messages (sent_to u sends) m (subst (λ (l : Unacked). Contains l.messages m) is there)))
    (λ (high : length w.lines ≤ u).
    let none : line_of (with_sends 0 w.lines sends) u ≡ old = get_or_past (with_sends 0 w.lines sends) u no_line (omega (arith, high, sends_long 0 w.lines sends)) ∙ sym (get_or_past w.lines u no_line high) in
    inl (subst (λ (l : Unacked). Contains l.messages m) none there))
    (cases_lt u (length w.lines))

pub was_handed_over : (v : ℕ) (turns : List Sealed) (w : Waiting) (u : ℕ) (m : Message) → Contains (line_of (with_turns v turns w).lines u).messages m → Contains (line_of w.lines u).messages m ⊎ WasSentBy v turns u m
was_handed_over v [] w u m there = inl there
was_handed_over v (s ∷ turns) w u m there =
    ⊎_elim
    (λ (waits : Contains (line_of (with_turn v s w).lines u).messages m). ⊎_elim
    (λ (waited : Contains (line_of w.lines u).messages m). inl waited)
    (λ (sent : WasSentBy v (s ∷ []) u m). inr (record { turn = sent.turn; one = Contains-append_left (s ∷ []) turns sent.turn sent.one; sent = sent.sent; to = sent.to }))
    (one_handed v s w u m waits))
    (λ (sent : WasSentBy v turns u m). inr (record { turn = sent.turn; one = Contains-append_right (s ∷ []) turns sent.turn sent.one; sent = sent.sent; to = sent.to }))
    (was_handed_over v turns (with_turn v s w) u m there)
