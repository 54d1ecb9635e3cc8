-- The numbers of a log after a turn.
use Rattle.std.proofs.Common.{◌≡◌, ◌≢◌, ℕ, ◌+◌, ◌<◌, ◌≤◌, Bool, true, false, cond, ◌==◌, ◌&&◌, ◌||◌, nat_lt, if◌then◌else◌, List, [], ◌∷◌, ◌++◌, length, get_or, slice_set, slice_index, slice_index_or, refl, sym, ap, ◌∙◌, ⊎_elim, inl, inr, arith, append-nil, zero-add, length-append, eq-eqb, ne_eqb}
use Rattle.std.specs.List.{filter}
use Rattle.std.proofs.lemmas.Bool.{cases_eq, eqb-true, false≢true, ltb-true}
use Rattle.std.proofs.lemmas.Grind.{flat_map-append}
use Rattle.std.proofs.lemmas.List.{get_or-set_same, get_or-set_other, length-map, length-set, length_push}
use Rattle.std.proofs.lemmas.List.Sums.{sum_by-append}
use Rattle.ken_model.specs.declared.messages.Out.{Out}
use Rattle.ken_record.specs.declared.effects.Effects.{Effects}
use Rattle.ken_record.specs.declared.page.Page.{Page}
use Rattle.ken_record.specs.declared.sent.Sent.{Sent}
use Rattle.ken_core.specs.Turns.{consumed_from, mail_of, mails_in, mails_to, outs_of, stamp_after}
use Rattle.ken_core.proofs.Numbers.{mails_to-push}
use Rattle.ken_order.specs.Consumed.{IsSender, place}
use Rattle.ken_store.specs.declared.numbers.Numbers.{Numbers}
use Rattle.ken_store.specs.declared.owner.Owner.{Owner}
use Rattle.ken_store.specs.Numbers.{after_record, are_within, comes_next, follows, outputs_after, outs_follow, sender_index, sends_follow, sent_after}
use Rattle.ken_store.specs.Turning.{record_of}
use Rattle.ken_whole.specs.Whole.{AreNumbersOf}

pub and-left : (a b : Bool) → (a && b) ≡ true → a ≡ true
and-left true b h = refl
and-left false b h = absurd (false≢true h)

pub and-right : (a b : Bool) → (a && b) ≡ true → b ≡ true
and-right true b h = h
and-right false b h = absurd (false≢true h)

-- ---- what a record that follows says of its parts

module _ (o : Owner) (n : Numbers) (e : Effects) (follow : follows o n (record_of (n.turns + 1) e []) ≡ true) where
  abbrev next_is : Bool
  next_is = comes_next o n (record_of (n.turns + 1) e [])

  three : (next_is && sends_follow o.nodes n.sent e.sends && outs_follow n.outputs e.outs) ≡ true
  three = and-left (next_is && sends_follow o.nodes n.sent e.sends && outs_follow n.outputs e.outs) (are_within o.pages []) follow

  two : (next_is && sends_follow o.nodes n.sent e.sends) ≡ true
  two = and-left (next_is && sends_follow o.nodes n.sent e.sends) (outs_follow n.outputs e.outs) three

  pub follow-sends : sends_follow o.nodes n.sent e.sends ≡ true
  follow-sends = and-right next_is (sends_follow o.nodes n.sent e.sends) two

  pub follow-outs : outs_follow n.outputs e.outs ≡ true
  follow-outs = and-right (next_is && sends_follow o.nodes n.sent e.sends) (outs_follow n.outputs e.outs) three

  abbrev number_is : Bool
  number_is = e.number == slice_index_or n.consumed (sender_index e.from) 0 + 1

  abbrev sender_is : Bool
  sender_is = nat_lt e.from o.nodes || e.from == 255

  pub follow-number : e.number ≡ slice_index n.consumed (place e.from) + 1
  follow-number =
      let all : next_is ≡ true = and-left next_is (sends_follow o.nodes n.sent e.sends) two in
      eqb-true e.number (slice_index_or n.consumed (sender_index e.from) 0 + 1) (and-right ((n.turns + 1 == n.turns + 1) && nat_lt n.stamp e.stamp && sender_is) number_is all)

  pub follow-sender : o.nodes ≤ 8 → IsSender 8 e.from
  follow-sender few =
      let all : next_is ≡ true = and-left next_is (sends_follow o.nodes n.sent e.sends) two in
      let three_of : ((n.turns + 1 == n.turns + 1) && nat_lt n.stamp e.stamp && sender_is) ≡ true = and-left ((n.turns + 1 == n.turns + 1) && nat_lt n.stamp e.stamp && sender_is) number_is all in
      let one : sender_is ≡ true = and-right ((n.turns + 1 == n.turns + 1) && nat_lt n.stamp e.stamp) sender_is three_of in
      known (nat_lt e.from o.nodes) refl one
    where
      known : (b : Bool) → nat_lt e.from o.nodes ≡ b → (b || e.from == 255) ≡ true → IsSender 8 e.from
      known true is either = let low : e.from < o.nodes = ltb-true e.from o.nodes is in inl (omega (arith, low, few))
      known false is either = inr (eqb-true e.from 255 either)

-- ---- each of the numbers

pub stamp_after-push : (s : ℕ) (es : List Effects) (e : Effects) → stamp_after s (es ++ e ∷ []) ≡ e.stamp
stamp_after-push s [] e = refl
stamp_after-push s (d ∷ es) e = stamp_after-push d.stamp es e

pub consumed-push : (u : ℕ) (es : List Effects) (e : Effects) → consumed_from u (es ++ e ∷ []) ≡ consumed_from u es + (if e.from == u then 1 else 0)
consumed-push u es e =
    let pushed : consumed_from u (es ++ e ∷ []) ≡ consumed_from u es + (0 + (if e.from == u then 1 else 0)) = sum_by-append (λ (x : Effects). if x.from == u then 1 else 0) es (e ∷ []) in
    let one : 0 + (if e.from == u then 1 else 0) ≡ (if e.from == u then 1 else 0) = zero-add (if e.from == u then 1 else 0) in
    pushed ∙ ap (λ (k : ℕ). consumed_from u es + k) one

pub outs-push : (es : List Effects) (e : Effects) → outs_of (es ++ e ∷ []) ≡ outs_of es ++ e.outs
outs-push es e = flat_map-append (λ (x : Effects). x.outs) es (e ∷ []) ∙ ap (λ (os : List Out). outs_of es ++ os) (append-nil e.outs)

-- no two senders stand at one place
one-place : (u w : ℕ) → IsSender 8 u → IsSender 8 w → place u ≡ place w → u ≡ w
one-place u w is was same = by (u == 255) refl (w == 255) refl same
  where
    by : (b : Bool) → (u == 255) ≡ b → (c : Bool) → (w == 255) ≡ c → (if b then 8 else u) ≡ (if c then 8 else w) → u ≡ w
    by true e true f s = eqb-true u 255 e ∙ sym (eqb-true w 255 f)
    by true e false f s = ⊎_elim (λ (low : w < 8). absurd (omega (arith, s, low))) (λ (out : w ≡ 255). absurd (false≢true (sym f ∙ eq-eqb w 255 out))) was
    by false e true f s = ⊎_elim (λ (low : u < 8). absurd (omega (arith, s, low))) (λ (out : u ≡ 255). absurd (false≢true (sym e ∙ eq-eqb u 255 out))) is
    by false e false f s = s

place-low : (u : ℕ) → IsSender 8 u → place u < 9
place-low u is = by (u == 255) refl
  where
    by : (b : Bool) → (u == 255) ≡ b → (if b then 8 else u) < 9
    by true e = omega arith
    by false e = ⊎_elim (λ (low : u < 8). omega (arith, low)) (λ (out : u ≡ 255). absurd (false≢true (sym e ∙ eq-eqb u 255 out))) is

consumed-after : (ns : List ℕ) (es : List Effects) (e : Effects) (u : ℕ) → length ns ≡ 9 → IsSender 8 e.from → IsSender 8 u → e.number ≡ slice_index ns (place e.from) + 1 → slice_index ns (place u) ≡ consumed_from u es
    → slice_index (slice_set ns (place e.from) e.number) (place u) ≡ consumed_from u (es ++ e ∷ [])
consumed-after ns es e u long sender is number was =
    ⊎_elim
    (λ (same : u ≡ e.from).
    let inside : place e.from < length ns = let low = place-low e.from sender in omega (arith, low, long) in
    let here : slice_index (slice_set ns (place e.from) e.number) (place u) ≡ e.number = ap (λ (k : ℕ). get_or (slice_set ns (place e.from) e.number) (place k) 0) same ∙ get_or-set_same ns (place e.from) e.number 0 inside in
    let one : ◌≡◌ {A = ℕ} (if e.from == u then 1 else 0) 1 = ap (λ (b : Bool). if b then 1 else 0) (eq-eqb e.from u (sym same)) in
    let before : slice_index ns (place e.from) ≡ consumed_from u es = ap (λ (k : ℕ). slice_index ns (place k)) (sym same) ∙ was in
    let push = consumed-push u es e in
    omega (arith, here, one, before, number, push))
    (λ (other : u ≢ e.from).
    let there : slice_index (slice_set ns (place e.from) e.number) (place u) ≡ slice_index ns (place u) = get_or-set_other ns (place e.from) (place u) e.number 0 (λ same. other (one-place u e.from is sender same)) in
    let none : ◌≡◌ {A = ℕ} (if e.from == u then 1 else 0) 0 = ap (λ (b : Bool). if b then 1 else 0) (ne_eqb e.from u (λ same. other (sym same))) in
    let push = consumed-push u es e in
    omega (arith, there, none, was, push))
    (cases_eq u e.from)

abbrev to_one : ℕ → List Sent → List Sent
to_one u ss = filter (λ (s : Sent). s.to == u) ss

sent-after : (nodes : ℕ) (ns : List ℕ) (ss : List Sent) (u : ℕ) → nodes ≤ length ns → sends_follow nodes ns ss ≡ true → slice_index (sent_after ns ss) u ≡ slice_index ns u + length (to_one u ss)
sent-after nodes ns [] u long follow = omega arith
sent-after nodes ns (s ∷ ss) u long follow =
    kept (s.to == u) refl
    (sent-after nodes (slice_set ns s.to s.number) ss u (let same = length-set ns s.to s.number in omega (arith, same, long)) (and-right (nat_lt s.to nodes && (s.number == slice_index_or ns s.to 0 + 1)) (sends_follow nodes (slice_set ns s.to s.number) ss) follow))
  where
    first : (nat_lt s.to nodes && (s.number == slice_index_or ns s.to 0 + 1)) ≡ true
    first = and-left (nat_lt s.to nodes && (s.number == slice_index_or ns s.to 0 + 1)) (sends_follow nodes (slice_set ns s.to s.number) ss) follow

    low : s.to < nodes
    low = ltb-true s.to nodes (and-left (nat_lt s.to nodes) (s.number == slice_index_or ns s.to 0 + 1) first)

    number : s.number ≡ slice_index ns s.to + 1
    number = eqb-true s.number (slice_index_or ns s.to 0 + 1) (and-right (nat_lt s.to nodes) (s.number == slice_index_or ns s.to 0 + 1) first)

    kept : (b : Bool) → (s.to == u) ≡ b → slice_index (sent_after (slice_set ns s.to s.number) ss) u ≡ slice_index (slice_set ns s.to s.number) u + length (to_one u ss)
        → slice_index (sent_after (slice_set ns s.to s.number) ss) u ≡ slice_index ns u + length (cond b (s ∷ to_one u ss) (to_one u ss))
    kept true e rest =
        let to : s.to ≡ u = eqb-true s.to u e in
        let here : slice_index (slice_set ns s.to s.number) u ≡ s.number = ap (λ (k : ℕ). get_or (slice_set ns s.to s.number) k 0) (sym to) ∙ get_or-set_same ns s.to s.number 0 (omega (arith, low, long)) in
        let at : slice_index ns s.to ≡ slice_index ns u = ap (slice_index ns) to in
        omega (arith, rest, here, number, at)
    kept false e rest =
        let there : slice_index (slice_set ns s.to s.number) u ≡ slice_index ns u = get_or-set_other ns s.to u s.number 0 (λ (same : u ≡ s.to). false≢true (sym e ∙ eq-eqb s.to u (sym same))) in
        omega (arith, rest, there)

sent-long : (ns : List ℕ) (ss : List Sent) → length (sent_after ns ss) ≡ length ns
sent-long ns [] = refl
sent-long ns (s ∷ ss) = sent-long (slice_set ns s.to s.number) ss ∙ length-set ns s.to s.number

outputs-after : (n : ℕ) (os : List Out) → outs_follow n os ≡ true → outputs_after n os ≡ n + length os
outputs-after n [] follow = omega arith
outputs-after n (o ∷ os) follow =
    let number = eqb-true o.number (n + 1) (and-left (o.number == n + 1) (outs_follow o.number os) follow) in
    let rest = outputs-after o.number os (and-right (o.number == n + 1) (outs_follow o.number os) follow) in
    omega (arith, number, rest)

-- ---- all of them

pub numbers-after : (v : ℕ) (o : Owner) (n : Numbers) (es : List Effects) (e : Effects) (turn : ℕ) (pages : List Page) → o.nodes ≤ 8 → follows o n (record_of (n.turns + 1) e []) ≡ true → turn ≡ n.turns + 1 → AreNumbersOf v es n
    → AreNumbersOf v (es ++ e ∷ []) (after_record n (record_of turn e pages))
numbers-after v o n es e turn pages few follow counted are = record {
  turns = let more = length_push es e in let old = are.turns in omega (arith, counted, old, more);
  stamp = sym (stamp_after-push 0 es e);
  senders = length-set n.consumed (sender_index e.from) e.number ∙ are.senders;
  consumed = λ u is. consumed-after n.consumed es e u are.senders (follow-sender o n e follow few) is (follow-number o n e follow) (are.consumed u is);
  receivers = sent-long n.sent e.sends ∙ are.receivers;
  sent = λ u.
      let all = sent-after o.nodes n.sent e.sends u (let long = are.receivers in omega (arith, long, few)) (follow-sends o n e follow) in
      let old = are.sent u in
      let mails : length (mails_to v u (es ++ e ∷ [])) ≡ length (mails_to v u es) + length (mails_in v u e) = ap length (mails_to-push v u es e) ∙ length-append (mails_to v u es) (mails_in v u e) in
      let count : length (mails_in v u e) ≡ length (to_one u e.sends) = length-map (to_one u e.sends) (mail_of v e.stamp) in
      omega (arith, all, old, mails, count);
  outputs =
      let all = outputs-after n.outputs e.outs (follow-outs o n e follow) in
      let old = are.outputs in
      let outs : length (outs_of (es ++ e ∷ [])) ≡ length (outs_of es) + length e.outs = ap length (outs-push es e) ∙ length-append (outs_of es) e.outs in
      omega (arith, all, old, outs);
}
