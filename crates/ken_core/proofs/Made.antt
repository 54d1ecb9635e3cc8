-- The turns that steps of a node make, and what they put.
use Rattle.std.proofs.Common.{◌≡◌, ℕ, suc, zero, ◌+◌, ◌-◌, ◌<◌, ◌≤◌, List, [], ◌∷◌, ◌++◌, length, slice_index_or, true, false, Option, Some, None, slice_get, slice_index, refl, sym, ap, ◌∙◌, subst, inl, inr, ⊎_elim, ◌⊎◌, arith, append_assoc, append-nil}
use Rattle.std.proofs.lemmas.List.Elements.{Contains-append_cases}
use Rattle.ken_model.specs.declared.messages.Message.{Message}
use Rattle.ken_model.specs.declared.messages.Out.{Out}
use Rattle.ken_model.specs.Game.{Game}
use Rattle.ken_model.specs.Network.{Turn}
use Rattle.ken_model.specs.History.{consumed, sent_by}
use Rattle.ken_model.proofs.Turns.{sent_by-append}
use Rattle.ken_record.specs.declared.effects.Effects.{Effects}
use Rattle.ken_core.specs.declared.events.Event.{Event}
use Rattle.ken_core.specs.declared.events.Event.TheVariants.{Seal, SealCut, Patch, SyncImage, Turnover, Send, Ack, TakeAck, Emit, Crash, Recover}
use Rattle.ken_core.specs.declared.events.Outcome.TheVariants.{Whole, Landed, Lost}
use Rattle.ken_core.specs.Turns.{consumed_from, mails_to, effects_of, sealed}
use Rattle.ken_core.specs.Nodes.{Node}
use Rattle.ken_core.specs.Packets.{Packet, Mail, Answer, Receipt, Put, Outgoing, unacked, outgoing, mail_out, emitted_out, due, put_by, receipt_of}
use Rattle.ken_core.specs.Steps.{NodeStep}
use Rattle.ken_core.specs.Runs.{NodeRun, IsPut}
use Rattle.ken_core.proofs.Numbers.{sealed-push, mails_to-sealed, consumed-sealed}
use Rattle.ken_core.proofs.Sent.{slice_get-append, sent_at, consumed-more}

-- the turns of a step
abbrev pub step_turns : (g : Game) (put : Packet → Type 0) (v : ℕ) (n : Node) (e : Event) (n2 : Node) → NodeStep g put v n e n2 → List Turn
step_turns g put v n (Seal node from draws pages) n2 s = s.0 ∷ []
step_turns g put v n (SealCut node from draws pages true) n2 s = s.0 ∷ []
step_turns g put v n (SealCut node from draws pages false) n2 s = []
step_turns g put v n (Patch node page) n2 s = []
step_turns g put v n (SyncImage node) n2 s = []
step_turns g put v n (Turnover node outcome told) n2 s = []
step_turns g put v n (Send node to i) n2 s = []
step_turns g put v n (Ack node from) n2 s = []
step_turns g put v n (TakeAck node from through) n2 s = []
step_turns g put v n (Emit node) n2 s = []
step_turns g put v n (Crash node pages) n2 s = []
step_turns g put v n (Recover node) n2 s = []

-- and of a run
abbrev pub run_turns : (g : Game) (put : Packet → Type 0) (v : ℕ) (n : Node) (es : List Event) (out : Outgoing) (n2 : Node) → NodeRun g put v n es out n2 → List Turn
run_turns g put v n [] out n2 r = []
run_turns g put v n (e ∷ es) out n2 r = step_turns g put v n e r.0 r.1.1.1 ++ run_turns g put v r.0 es r.1.0 n2 r.1.1.3

-- the node keeps the turns
abbrev pub KeepsTurns : ℕ → List Turn → Node → Type 0
KeepsTurns v ts n = n.turning.turns ≡ sealed v ts

turns_same : (v : ℕ) (ts : List Turn) (n n2 : Node) → n2.turning.turns ≡ n.turning.turns → KeepsTurns v ts n → KeepsTurns v (ts ++ []) n2
turns_same v ts n n2 same keeps = same ∙ keeps ∙ ap (sealed v) (sym (append-nil ts))

pub turns_one : (v : ℕ) (ts : List Turn) (t : Turn) (n n2 : Node) → n2.turning.turns ≡ n.turning.turns ++ effects_of v n.turning.turns t ∷ [] → KeepsTurns v ts n → KeepsTurns v (ts ++ t ∷ []) n2
turns_one v ts t n n2 one keeps = one ∙ ap (λ es. es ++ effects_of v es t ∷ []) keeps ∙ sym (sealed-push v ts t)

abbrev turns_in : Node → List Effects
turns_in n = n.turning.turns

pub step_keeps_turns : (g : Game) (put : Packet → Type 0) (v : ℕ) (ts : List Turn) (n : Node) (e : Event) (n2 : Node) (s : NodeStep g put v n e n2) → KeepsTurns v ts n → KeepsTurns v (ts ++ step_turns g put v n e n2 s) n2
step_keeps_turns g put v ts n (Seal node from draws pages) n2 s keeps = turns_one v ts s.0 n n2 (ap turns_in s.1.1) keeps
step_keeps_turns g put v ts n (SealCut node from draws pages true) n2 s keeps = turns_one v ts s.0 n n2 (ap turns_in s.1.1) keeps
step_keeps_turns g put v ts n (SealCut node from draws pages false) n2 s keeps = turns_same v ts n n2 (ap turns_in s.1.1) keeps
step_keeps_turns g put v ts n (Patch node page) n2 s keeps = turns_same v ts n n2 (ap turns_in s.1.1.1.2) keeps
step_keeps_turns g put v ts n (SyncImage node) n2 s keeps = turns_same v ts n n2 (ap turns_in s.1) keeps
step_keeps_turns g put v ts n (Turnover node Whole told) n2 s keeps = turns_same v ts n n2 (ap turns_in s.1) keeps
step_keeps_turns g put v ts n (Turnover node Landed told) n2 s keeps = turns_same v ts n n2 (ap turns_in s.1) keeps
step_keeps_turns g put v ts n (Turnover node Lost told) n2 s keeps = turns_same v ts n n2 (ap turns_in s.1) keeps
step_keeps_turns g put v ts n (Send node to i) n2 s keeps = turns_same v ts n n2 (ap turns_in s.1.3) keeps
step_keeps_turns g put v ts n (Ack node from) n2 s keeps = turns_same v ts n n2 (ap turns_in s.3) keeps
step_keeps_turns g put v ts n (TakeAck node from through) n2 s keeps = turns_same v ts n n2 (ap turns_in s.3) keeps
step_keeps_turns g put v ts n (Emit node) n2 s keeps = turns_same v ts n n2 (ap turns_in s.1.2) keeps
step_keeps_turns g put v ts n (Crash node pages) n2 s keeps = turns_same v ts n n2 (ap turns_in s.1) keeps
step_keeps_turns g put v ts n (Recover node) n2 s keeps = turns_same v ts n n2 (ap turns_in s.2) keeps

-- what v put, by the turns that it has made
pub record IsSentBy (v : ℕ) (ts : List Turn) (m : Message) : Type 0 where
  pub from : m.from ≡ v
  pub number : 0 < m.number
  pub stands : slice_get (sent_by v m.to 0 ts) (m.number - 1) ≡ Some m

pub record IsConsumedBy (v : ℕ) (ts : List Turn) (a : Receipt) : Type 0 where
  pub from : a.from ≡ v
  pub most : a.through ≤ length (consumed a.to ts)

abbrev pub IsTrueOf : ℕ → List Turn → Packet → Type 0
IsTrueOf v ts (Mail m) = IsSentBy v ts m
IsTrueOf v ts (Answer a) = IsConsumedBy v ts a

pub true_later : (v : ℕ) (ts more : List Turn) (p : Packet) → IsTrueOf v ts p → IsTrueOf v (ts ++ more) p
true_later v ts more (Mail m) is = record {
  from = is.from;
  number = is.number;
  stands = ap (λ ms. slice_get ms (m.number - 1)) (sent_by-append v m.to 0 ts more) ∙ slice_get-append (sent_by v m.to 0 ts) _ (m.number - 1) m is.stands;
}
true_later v ts more (Answer a) is = let later = consumed-more a.to ts more in record { from = is.from; most = omega arith }

-- a packet of a list
pub no_put : {A : Type 0} (packet : Packet) → IsPut packet [] → A
no_put packet is = absurd (omega (arith, is.one.1))

only_put : (packet : Packet) (q : Put) → IsPut packet (q ∷ []) → q.packet ≡ packet
only_put packet q is = only is.one.0 is.one.1 is.one.2
  where
    only : (k : ℕ) → k < length (q ∷ []) → slice_index_or (q ∷ []) k is.put ≡ is.put → q.packet ≡ packet
    only zero lt e = ap (λ (x : Put). x.packet) e ∙ is.is
    only (suc k) lt e = absurd (omega arith)

true_mail : (v w i : ℕ) (ts : List Turn) (n : Node) (packet : Packet) (o : Option Message) → unacked v w i n ≡ o → KeepsTurns v ts n → IsPut packet (mail_out v w n o).puts → IsTrueOf v ts packet
true_mail v w i ts n packet None e keeps is = no_put packet is
true_mail v w i ts n packet (Some m) e keeps is =
    let k = slice_index n.sending.acked w + i in
    let there : slice_get (sent_by v w 0 ts) k ≡ Some m = ap (λ ms. slice_get ms k) (sym (ap (mails_to v w) keeps ∙ mails_to-sealed v w ts)) ∙ e in
    let it = sent_at v w 0 ts k m there in
    let place : k ≡ m.number - 1 = omega (arith, it.counted) in
    subst (IsTrueOf v ts) (only_put packet (put_by v w n (Mail m)) is) (record {
      from = it.from;
      number = omega (arith, it.counted);
      stands = ap (λ x. slice_get (sent_by v x 0 ts) (m.number - 1)) it.to ∙ ap (slice_get (sent_by v w 0 ts)) (sym place) ∙ there;
    })

pub step_puts_true : (g : Game) (put : Packet → Type 0) (v : ℕ) (ts : List Turn) (n : Node) (e : Event) (packet : Packet) → KeepsTurns v ts n → IsPut packet (outgoing v n e).puts → IsTrueOf v ts packet
step_puts_true g put v ts n (Send node to i) packet keeps is = true_mail v to i ts n packet (unacked v to i n) refl keeps is
step_puts_true g put v ts n (Ack node from) packet keeps is =
    subst (IsTrueOf v ts) (only_put packet (put_by v from n (Answer (receipt_of v from n))) is) (record { from = refl; most = omega (arith, ap (consumed_from from) keeps, consumed-sealed from v ts) })
step_puts_true g put v ts n (Emit node) packet keeps is = none (due n) is
  where
    none : (o : Option Out) → IsPut packet (emitted_out o).puts → IsTrueOf v ts packet
    none None is = no_put packet is
    none (Some x) is = no_put packet is
step_puts_true g put v ts n (Seal node from draws pages) packet keeps is = no_put packet is
step_puts_true g put v ts n (SealCut node from draws pages landed) packet keeps is = no_put packet is
step_puts_true g put v ts n (Patch node page) packet keeps is = no_put packet is
step_puts_true g put v ts n (SyncImage node) packet keeps is = no_put packet is
step_puts_true g put v ts n (Turnover node outcome told) packet keeps is = no_put packet is
step_puts_true g put v ts n (TakeAck node from through) packet keeps is = no_put packet is
step_puts_true g put v ts n (Crash node pages) packet keeps is = no_put packet is
step_puts_true g put v ts n (Recover node) packet keeps is = no_put packet is

pub put_cases : (packet : Packet) (ps qs : List Put) → IsPut packet (ps ++ qs) → IsPut packet ps ⊎ IsPut packet qs
put_cases packet ps qs is = ⊎_elim (λ one. inl (record { put = is.put; one = one; is = is.is })) (λ one. inr (record { put = is.put; one = one; is = is.is })) (Contains-append_cases ps qs is.put is.one)

-- a run keeps its turns, and puts what they sent and consumed
pub run_keeps_turns : (g : Game) (put : Packet → Type 0) (v : ℕ) (ts : List Turn) (n : Node) (es : List Event) (out : Outgoing) (n2 : Node) (r : NodeRun g put v n es out n2) → KeepsTurns v ts n → KeepsTurns v (ts ++ run_turns g put v n es out n2 r) n2
run_keeps_turns g put v ts n [] out n2 r keeps = turns_same v ts n n2 (ap turns_in r.1) keeps
run_keeps_turns g put v ts n (e ∷ es) out n2 r keeps =
    let one = step_turns g put v n e r.0 r.1.1.1 in
    let rest = run_turns g put v r.0 es r.1.0 n2 r.1.1.3 in
    run_keeps_turns g put v (ts ++ one) r.0 es r.1.0 n2 r.1.1.3 (step_keeps_turns g put v ts n e r.0 r.1.1.1 keeps) ∙ ap (sealed v) (append_assoc ts one rest)

pub run_puts_true : (g : Game) (put : Packet → Type 0) (v : ℕ) (ts : List Turn) (n : Node) (es : List Event) (out : Outgoing) (n2 : Node) (r : NodeRun g put v n es out n2) (packet : Packet) → KeepsTurns v ts n → IsPut packet out.puts → IsTrueOf v (ts ++ run_turns g put v n es out n2 r) packet
run_puts_true g put v ts n [] out n2 r packet keeps is = no_put packet (subst (λ (o : Outgoing). IsPut packet o.puts) r.0 is)
run_puts_true g put v ts n (e ∷ es) out n2 r packet keeps is =
    let one = step_turns g put v n e r.0 r.1.1.1 in
    let rest = run_turns g put v r.0 es r.1.0 n2 r.1.1.3 in
    ⊎_elim
    (λ now. true_later v ts (one ++ rest) packet (step_puts_true g put v ts n e packet keeps now))
    (λ later. subst (λ x. IsTrueOf v x packet) (append_assoc ts one rest) (run_puts_true g put v (ts ++ one) r.0 es r.1.0 n2 r.1.1.3 packet (step_keeps_turns g put v ts n e r.0 r.1.1.1 keeps) later))
    (put_cases packet (outgoing v n e).puts r.1.0.puts (subst (λ (o : Outgoing). IsPut packet o.puts) r.1.1.2 is))
