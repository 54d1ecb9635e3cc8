-- Lines of an outbox, and what is put on them.
use Rattle.std.proofs.Common.{◌≡◌, ◌≢◌, ℕ, zero, suc, ◌+◌, ◌<◌, ◌≤◌, List, [], ◌∷◌, ◌++◌, map, length, Bool, true, false, cond, ◌==◌, nat_lt, nat_le, max, get_or, slice_set, refl, sym, ap, ◌∙◌, subst, ⊎_elim, arith, add-zero}
use Rattle.std.specs.List.{All}
use Rattle.std.proofs.lemmas.Bool.{cases_eq, cases_lt, eqb-true, ltb-true, ltb-false}
use Rattle.std.proofs.lemmas.List.{get_or-map, get_or_past, get_or-set_same, get_or-set_other, set_past, map-set, length-set}
use Rattle.std.proofs.lemmas.List.Elements.{All-nil, All-cons, All-head, All-tail, All-append, All-map, All-weaker, recursion_from_All}
use Rattle.ken_model.specs.declared.messages.Message.{Message}
use Rattle.ken_record.specs.declared.sent.Sent.{Sent}
use Rattle.ken_record.specs.Grammar.{IsSent}
use Rattle.ken_outbox.specs.Waiting.{Unacked, Waiting, no_line, sent_to, with_sends, past, acked_by, AreFor}
use Rattle.ken_core.specs.Turns.{mail_of}
use Rattle.ken_ship.specs.declared.items.Sealed.{Sealed}
use Rattle.ken_ship.specs.Fits.{AreSent, IsMailFrom, IsMailTo, AreMails}
use Rattle.ken_ship.specs.Handing.{acked_in, mails_of, with_turn}

-- the line of a node, after messages were put on all lines
pub line_of_sends : (v : ℕ) (ls : List Unacked) (sends : List Message) (u : ℕ) → u < length ls
    → get_or (with_sends v ls sends) u no_line ≡ record (get_or ls u no_line) { messages = (get_or ls u no_line).messages ++ sent_to (v + u) sends }
unfolding with_sends
line_of_sends v [] sends u low = absurd (omega (arith, low))
line_of_sends v (l ∷ ls) sends zero low = ap (λ (k : ℕ). record l { messages = l.messages ++ sent_to k sends }) (sym (add-zero v))
line_of_sends v (l ∷ ls) sends (suc u) low =
    let line : Unacked = get_or ls u no_line in
    line_of_sends (v + 1) ls sends u (omega (arith, low))
    ∙ ap (λ (k : ℕ). record line { messages = line.messages ++ sent_to k sends }) (omega arith)

pub sends_long : (v : ℕ) (ls : List Unacked) (sends : List Message) → length (with_sends v ls sends) ≡ length ls
unfolding with_sends
sends_long v [] sends = refl
sends_long v (l ∷ ls) sends = let rest = sends_long (v + 1) ls sends in omega (arith, rest)

pub acked_after_sends : (v : ℕ) (ls : List Unacked) (sends : List Message) → acked_in (with_sends v ls sends) ≡ acked_in ls
unfolding with_sends
acked_after_sends v [] sends = refl
acked_after_sends v (l ∷ ls) sends = ap (λ (ns : List ℕ). l.acked ∷ ns) (acked_after_sends (v + 1) ls sends)

-- mails of a turn
pub mails_from : (v stamp : ℕ) (sends : List Sent) → v < 8 → AreSent stamp sends → All (IsMailFrom v) (map (mail_of v stamp) sends)
mails_from v stamp sends low sent =
    All-map (IsMailFrom v) (mail_of v stamp) sends
    (All-weaker IsSent (λ (s : Sent). IsMailFrom v (mail_of v stamp s))
    (λ s is. record { is = record { from = low; to = is.to; number = is.number; stamp = sent.stamped; bytes = is.bytes }; from = refl })
    sends sent.each)

-- each goes to a node that there may be
pub mails_for : (v : ℕ) (ms : List Message) (n : ℕ) → n ≡ 8 → All (IsMailFrom v) ms → AreFor n ms
mails_for v ms n is each = recursion_from_All (λ (m : Message). m.to < n) ms (All-weaker (IsMailFrom v) (λ (m : Message). m.to < n) (λ m mail. let low = mail.is.to in omega (arith, low, is)) ms each)

-- those to one node
pub mails_to_one : (v u : ℕ) (ms : List Message) → All (IsMailFrom v) ms → All (IsMailTo v u) (sent_to u ms)
mails_to_one v u [] each = All-nil (IsMailTo v u)
mails_to_one v u (m ∷ ms) each = kept (m.to == u) refl (mails_to_one v u ms (All-tail (IsMailFrom v) m ms each))
  where
    first : IsMailFrom v m
    first = All-head (IsMailFrom v) m ms each

    kept : (b : Bool) → (m.to == u) ≡ b → All (IsMailTo v u) (sent_to u ms) → All (IsMailTo v u) (cond b (m ∷ sent_to u ms) (sent_to u ms))
    kept true e rest = All-cons (IsMailTo v u) m (sent_to u ms) (record { is = first.is; from = first.from; to = eqb-true m.to u e }) rest
    kept false e rest = rest

pub sends_are_mails : (v : ℕ) (ls : List Unacked) (sends : List Message) → All (IsMailFrom v) sends → AreMails v ls → AreMails v (with_sends 0 ls sends)
sends_are_mails v ls sends each were u =
    ⊎_elim
    (λ (low : u < length ls).
    let line : Unacked = get_or ls u no_line in
    let here : get_or (with_sends 0 ls sends) u no_line ≡ record line { messages = line.messages ++ sent_to u sends } = line_of_sends 0 ls sends u low ∙ ap (λ (k : ℕ). record line { messages = line.messages ++ sent_to k sends }) (omega arith) in
    let more : All (IsMailTo v u) (line.messages ++ sent_to u sends) = All-append (IsMailTo v u) line.messages (sent_to u sends) (were u) (mails_to_one v u sends each) in
    subst (λ (l : Unacked). All (IsMailTo v u) l.messages) (sym here) more)
    (λ (high : length ls ≤ u).
    let none : get_or (with_sends 0 ls sends) u no_line ≡ no_line = get_or_past (with_sends 0 ls sends) u no_line (omega (arith, high, sends_long 0 ls sends)) in
    subst (λ (l : Unacked). All (IsMailTo v u) l.messages) (sym none) (All-nil (IsMailTo v u)))
    (cases_lt u (length ls))

-- what an acknowledgement leaves
all_past : (P : Message → Type 0) (through : ℕ) (ms : List Message) → All P ms → All P (past through ms)
unfolding past
all_past P through [] each = each
all_past P through (m ∷ ms) each = kept (nat_le m.number through) (all_past P through ms (All-tail P m ms each))
  where
    kept : (b : Bool) → All P (past through ms) → All P (cond b (past through ms) (m ∷ ms))
    kept true rest = rest
    kept false rest = each

pub all_acked : (P : Message → Type 0) (through : ℕ) (l : Unacked) → All P l.messages → All P (acked_by through l).messages
all_acked P through l each = kept (nat_lt l.acked through)
  where
    kept : (b : Bool) → All P (cond b (record { acked = through; messages = past through l.messages }) l).messages
    kept true = all_past P through l.messages each
    kept false = each

pub acked_are_mails : (v u through : ℕ) (ls : List Unacked) → AreMails v ls → AreMails v (slice_set ls u (acked_by through (get_or ls u no_line)))
acked_are_mails v u through ls were w =
    let new : Unacked = acked_by through (get_or ls u no_line) in
    ⊎_elim
    (λ (same : w ≡ u). ⊎_elim
    (λ (low : u < length ls).
    let here : get_or (slice_set ls u new) w no_line ≡ new = ap (λ (k : ℕ). get_or (slice_set ls u new) k no_line) same ∙ get_or-set_same ls u new no_line low in
    let each : All (IsMailTo v w) (get_or ls u no_line).messages = subst (λ (k : ℕ). All (IsMailTo v k) (get_or ls u no_line).messages) (sym same) (were u) in
    subst (λ (l : Unacked). All (IsMailTo v w) l.messages) (sym here) (all_acked (IsMailTo v w) through (get_or ls u no_line) each))
    (λ (high : length ls ≤ u). subst (λ (x : List Unacked). All (IsMailTo v w) (get_or x w no_line).messages) (sym (set_past ls u new high)) (were w))
    (cases_lt u (length ls)))
    (λ (other : w ≢ u).
    let there : get_or (slice_set ls u new) w no_line ≡ get_or ls w no_line = get_or-set_other ls u w new no_line other in
    subst (λ (l : Unacked). All (IsMailTo v w) l.messages) (sym there) (were w))
    (cases_eq w u)

pub acked_number : (through : ℕ) (l : Unacked) → (acked_by through l).acked ≡ max l.acked through
acked_number through l = kept (nat_lt l.acked through) refl
  where
    kept : (b : Bool) → nat_lt l.acked through ≡ b → (cond b (record { acked = through; messages = past through l.messages }) l).acked ≡ max l.acked through
    kept true e = let less : l.acked < through = ltb-true l.acked through e in omega arith
    kept false e = let more : through ≤ l.acked = ltb-false l.acked through e in omega arith

-- the number is the larger one
pub acked_in_acked : (u through : ℕ) (ls : List Unacked) → u < length ls
    → acked_in (slice_set ls u (acked_by through (get_or ls u no_line))) ≡ slice_set (acked_in ls) u (max (get_or (acked_in ls) u 0) through)
acked_in_acked u through ls low =
    let line : Unacked = get_or ls u no_line in
    let at : get_or (acked_in ls) u 0 ≡ line.acked = get_or-map (λ (l : Unacked). l.acked) ls u no_line 0 low in
    map-set (λ (l : Unacked). l.acked) ls u (acked_by through line)
    ∙ ap (λ (n : ℕ). slice_set (acked_in ls) u n) (acked_number through line ∙ ap (λ (n : ℕ). max n through) (sym at))

-- what a backlog keeps of its outbox
pub record IsSound (v : ℕ) (acked : List ℕ) (emitted : ℕ) (w : Waiting) : Type 0 where
  pub each : length w.lines ≡ 8
  pub mails : AreMails v w.lines
  pub acked_is : acked_in w.lines ≡ acked
  pub emitted_is : w.emitted ≡ emitted

-- with a turn more
pub sound_turn : (v : ℕ) (acked : List ℕ) (emitted : ℕ) (w : Waiting) (s : Sealed) → v < 8 → AreSent s.stamp s.sends → IsSound v acked emitted w → IsSound v acked emitted (with_turn v s w)
sound_turn v acked emitted w s low sent is = record {
  each = sends_long 0 w.lines (mails_of v s) ∙ is.each;
  mails = sends_are_mails v w.lines (mails_of v s) (mails_from v s.stamp s.sends low sent) is.mails;
  acked_is = acked_after_sends 0 w.lines (mails_of v s) ∙ is.acked_is;
  emitted_is = is.emitted_is;
}

-- after an acknowledgement
pub sound_acked : (v : ℕ) (acked : List ℕ) (emitted u through : ℕ) (w : Waiting) → u < 8 → IsSound v acked emitted w
    → IsSound v (slice_set acked u (max (get_or acked u 0) through)) emitted (record w { lines = slice_set w.lines u (acked_by through (get_or w.lines u no_line)) })
sound_acked v acked emitted u through w low is = record {
  each = length-set w.lines u (acked_by through (get_or w.lines u no_line)) ∙ is.each;
  mails = acked_are_mails v u through w.lines is.mails;
  acked_is = acked_in_acked u through w.lines (omega (arith, low, is.each)) ∙ ap (λ (ns : List ℕ). slice_set ns u (max (get_or ns u 0) through)) is.acked_is;
  emitted_is = is.emitted_is;
}
