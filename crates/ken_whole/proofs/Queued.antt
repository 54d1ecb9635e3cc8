-- What waits at an externaliser, with turns that are on their way to it.
use Rattle.std.proofs.Common.{◌≡◌, ℕ, zero, suc, ◌+◌, ◌<◌, ◌≤◌, Bool, true, false, cond, nat_le, nat_lt, List, [], ◌∷◌, ◌++◌, length, slice_set, refl, sym, ap, ◌∙◌, subst, append_assoc, append-nil, zero-add, add-zero, arith}
use Rattle.std.specs.List.{flat_map}
use Rattle.std.proofs.lemmas.Bool.{leb-true}
use Rattle.ken_model.specs.declared.messages.Message.{Message}
use Rattle.ken_model.specs.declared.messages.Out.{Out}
use Rattle.ken_outbox.specs.Waiting.{Unacked, Waiting, acked_by, past, sent_to, with_sends}
use Rattle.ken_ship.specs.declared.items.Sealed.{Sealed}
use Rattle.ken_ship.specs.Handing.{mails_of, with_turn, with_turns}
use Rattle.ken_ship.specs.Laws.{line_of}
use Rattle.ken_ship.proofs.Lines.{line_of_sends, sends_long}
use Rattle.ken_ship.proofs.Numbered.{AreFrom}

-- messages and outputs of turns that are on their way
abbrev pub queued_to : ℕ → ℕ → List Sealed → List Message
queued_to v u turns = flat_map (λ (s : Sealed). sent_to u (mails_of v s)) turns

abbrev pub queued_outs : List Sealed → List Out
queued_outs turns = flat_map (λ (s : Sealed). s.outs) turns

-- a line with more messages
abbrev pub with_more : Unacked → List Message → Unacked
with_more l ms = record l { messages = l.messages ++ ms }

with_more-append : (l : Unacked) (xs ys : List Message) → with_more (with_more l xs) ys ≡ with_more l (xs ++ ys)
with_more-append l xs ys = ap (λ (ms : List Message). record l { messages = ms }) (append_assoc l.messages xs ys)

with_more-none : (l : Unacked) → with_more l [] ≡ l
with_more-none l = ap (λ (ms : List Message). record l { messages = ms }) (append-nil l.messages)

pub with_turns-append : (v : ℕ) (xs ys : List Sealed) (w : Waiting) → with_turns v (xs ++ ys) w ≡ with_turns v ys (with_turns v xs w)
with_turns-append v [] ys w = refl
with_turns-append v (x ∷ xs) ys w = with_turns-append v xs ys (with_turn v x w)

pub with_turns-long : (v : ℕ) (turns : List Sealed) (w : Waiting) → length (with_turns v turns w).lines ≡ length w.lines
with_turns-long v [] w = refl
with_turns-long v (s ∷ turns) w = with_turns-long v turns (with_turn v s w) ∙ sends_long 0 w.lines (mails_of v s)

pub with_turns-line : (v : ℕ) (turns : List Sealed) (w : Waiting) (u : ℕ) → u < length w.lines → line_of (with_turns v turns w).lines u ≡ with_more (line_of w.lines u) (queued_to v u turns)
with_turns-line v [] w u low = sym (with_more-none (line_of w.lines u))
with_turns-line v (s ∷ turns) w u low =
    let long = sends_long 0 w.lines (mails_of v s) in
    let first : line_of (with_turn v s w).lines u ≡ with_more (line_of w.lines u) (sent_to u (mails_of v s)) =
    line_of_sends 0 w.lines (mails_of v s) u low ∙ ap (λ (k : ℕ). with_more (line_of w.lines u) (sent_to k (mails_of v s))) (zero-add u) in
    with_turns-line v turns (with_turn v s w) u (omega (arith, long, low))
    ∙ ap (λ (l : Unacked). with_more l (queued_to v u turns)) first
    ∙ with_more-append (line_of w.lines u) (sent_to u (mails_of v s)) (queued_to v u turns)

pub with_turns-outs : (v : ℕ) (turns : List Sealed) (w : Waiting) → (with_turns v turns w).outs ≡ w.outs ++ queued_outs turns
with_turns-outs v [] w = sym (append-nil w.outs)
with_turns-outs v (s ∷ turns) w = with_turns-outs v turns (with_turn v s w) ∙ append_assoc w.outs s.outs (queued_outs turns)

pub with_turns-emitted : (v : ℕ) (turns : List Sealed) (w : Waiting) → (with_turns v turns w).emitted ≡ w.emitted
with_turns-emitted v [] w = refl
with_turns-emitted v (s ∷ turns) w = with_turns-emitted v turns (with_turn v s w)

-- the lines don't depend on the outputs
with_turns-lines : (v : ℕ) (turns : List Sealed) (lines : List Unacked) (emitted emitted2 : ℕ) (outs outs2 : List Out)
    → (with_turns v turns (record { lines = lines; emitted = emitted; outs = outs })).lines ≡ (with_turns v turns (record { lines = lines; emitted = emitted2; outs = outs2 })).lines
with_turns-lines v [] lines emitted emitted2 outs outs2 = refl
with_turns-lines v (s ∷ turns) lines emitted emitted2 outs outs2 = with_turns-lines v turns (with_sends 0 lines (mails_of v s)) emitted emitted2 (outs ++ s.outs) (outs2 ++ s.outs)

-- an emission before what is on its way comes is one after
pub with_turns-emission : (v : ℕ) (turns : List Sealed) (w : Waiting) (emitted : ℕ) (outs : List Out)
    → with_turns v turns (record w { emitted = emitted; outs = outs }) ≡ record (with_turns v turns w) { emitted = emitted; outs = outs ++ queued_outs turns }
with_turns-emission v turns w emitted outs =
    let new : Waiting = with_turns v turns (record w { emitted = emitted; outs = outs }) in
    ap (λ (k : ℕ). record new { emitted = k }) (with_turns-emitted v turns (record w { emitted = emitted; outs = outs }))
    ∙ ap (λ (os : List Out). record new { emitted = emitted; outs = os }) (with_turns-outs v turns (record w { emitted = emitted; outs = outs }))
    ∙ ap (λ (ls : List Unacked). record { lines = ls; emitted = emitted; outs = outs ++ queued_outs turns }) (with_turns-lines v turns w.lines emitted w.emitted outs w.outs)

-- ---- an acknowledgement of what was handed over, before what is on its way comes, is one after

from_none : (v u a through : ℕ) (ms : List Message) → AreFrom v u a ms → through ≤ a → past through ms ≡ ms
unfolding past
from_none v u a through [] from low = refl
from_none v u a through (m ∷ ms) from low = kept (nat_le m.number through) refl
  where
    kept : (b : Bool) → nat_le m.number through ≡ b → cond b (past through ms) (m ∷ ms) ≡ m ∷ ms
    kept true e = let less : m.number ≤ through = leb-true m.number through e in absurd (omega (arith, less, low, from.1.0))
    kept false e = refl

past-append : (v u a through : ℕ) (xs ys : List Message) → AreFrom v u a (xs ++ ys) → through ≤ a + length xs → past through (xs ++ ys) ≡ past through xs ++ ys
unfolding past
past-append v u a through [] ys from low = from_none v u a through ys from (omega (arith, low))
past-append v u a through (m ∷ xs) ys from low = kept (nat_le m.number through) (past-append v u (a + 1) through xs ys from.1.1 (omega (arith, low)))
  where
    kept : (b : Bool) → past through (xs ++ ys) ≡ past through xs ++ ys → cond b (past through (xs ++ ys)) (m ∷ (xs ++ ys)) ≡ cond b (past through xs) (m ∷ xs) ++ ys
    kept true rest = rest
    kept false rest = refl

acked_by-more : (v u through : ℕ) (l : Unacked) (ms : List Message) → AreFrom v u l.acked (l.messages ++ ms) → through ≤ l.acked + length l.messages → acked_by through (with_more l ms) ≡ with_more (acked_by through l) ms
acked_by-more v u through l ms from low = kept (nat_lt l.acked through)
  where
    kept : (b : Bool) → cond b (record { acked = through; messages = past through (l.messages ++ ms) }) (with_more l ms) ≡ with_more (cond b (record { acked = through; messages = past through l.messages }) l) ms
    kept true = ap (λ (xs : List Message). record { acked = through; messages = xs }) (past-append v u l.acked through l.messages ms from low)
    kept false = refl

with_sends-set : (k : ℕ) (lines : List Unacked) (u : ℕ) (l : Unacked) (ms : List Message) → with_sends k (slice_set lines u l) ms ≡ slice_set (with_sends k lines ms) u (with_more l (sent_to (k + u) ms))
unfolding with_sends
with_sends-set k [] u l ms = refl
with_sends-set k (x ∷ lines) zero l ms = ap (λ (i : ℕ). with_more l (sent_to i ms) ∷ with_sends (k + 1) lines ms) (sym (add-zero k))
with_sends-set k (x ∷ lines) (suc u) l ms =
    let there : k + 1 + u ≡ k + suc u = omega arith in
    ap (λ (ls : List Unacked). with_more x (sent_to k ms) ∷ ls) (with_sends-set (k + 1) lines u l ms ∙ ap (λ (i : ℕ). slice_set (with_sends (k + 1) lines ms) u (with_more l (sent_to i ms))) there)

with_turns-set : (v : ℕ) (turns : List Sealed) (w : Waiting) (u : ℕ) (l : Unacked) → with_turns v turns (record w { lines = slice_set w.lines u l }) ≡ record (with_turns v turns w) { lines = slice_set (with_turns v turns w).lines u (with_more l (queued_to v u turns)) }
with_turns-set v [] w u l = ap (λ (x : Unacked). record w { lines = slice_set w.lines u x }) (sym (with_more-none l))
with_turns-set v (s ∷ turns) w u l =
    let sends : List Message = mails_of v s in
    let more : List Message = sent_to u sends in
    let first : with_sends 0 (slice_set w.lines u l) sends ≡ slice_set (with_sends 0 w.lines sends) u (with_more l more) = with_sends-set 0 w.lines u l sends ∙ ap (λ (i : ℕ). slice_set (with_sends 0 w.lines sends) u (with_more l (sent_to i sends))) (zero-add u) in
    ap (λ (ls : List Unacked). with_turns v turns (record w { lines = ls; outs = w.outs ++ s.outs })) first
    ∙ with_turns-set v turns (with_turn v s w) u (with_more l more)
    ∙ ap (λ (x : Unacked). record (with_turns v turns (with_turn v s w)) { lines = slice_set (with_turns v turns (with_turn v s w)).lines u x }) (with_more-append l more (queued_to v u turns))

-- what waits after an acknowledgement
abbrev pub with_ack : ℕ × ℕ → Waiting → Waiting
with_ack a w = record w { lines = slice_set w.lines a.0 (acked_by a.1 (line_of w.lines a.0)) }

pub with_turns-ack : (v : ℕ) (turns : List Sealed) (w : Waiting) (a : ℕ × ℕ) → a.0 < length w.lines → AreFrom v a.0 (line_of w.lines a.0).acked (line_of (with_turns v turns w).lines a.0).messages
    → a.1 ≤ (line_of w.lines a.0).acked + length (line_of w.lines a.0).messages → with_turns v turns (with_ack a w) ≡ with_ack a (with_turns v turns w)
with_turns-ack v turns w a low from known =
    let l : Unacked = line_of w.lines a.0 in
    let more : List Message = queued_to v a.0 turns in
    let here : line_of (with_turns v turns w).lines a.0 ≡ with_more l more = with_turns-line v turns w a.0 low in
    let from_all : AreFrom v a.0 l.acked (l.messages ++ more) = subst (λ (x : Unacked). AreFrom v a.0 l.acked x.messages) here from in
    with_turns-set v turns w a.0 (acked_by a.1 l)
    ∙ ap (λ (x : Unacked). record (with_turns v turns w) { lines = slice_set (with_turns v turns w).lines a.0 x }) (sym (acked_by-more v a.0 a.1 l more from_all known) ∙ ap (acked_by a.1) (sym here))
