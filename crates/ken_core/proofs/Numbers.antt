-- The numbers of a node's turns as it keeps them are those of its turns.
use Rattle.std.proofs.Common.{◌≡◌, ℕ, suc, zero, ◌+◌, List, [], ◌∷◌, ◌++◌, map, length, filter, Bool, true, false, ◌==◌, if◌then◌else◌, Some, slice_get, refl, sym, ap, ◌∙◌, ⊎_elim, arith, append_assoc, append-nil, length-append, zero-add, add-zero, eq-eqb, ne_eqb}
use Rattle.std.proofs.lemmas.Bool.{cases_eq}
use Rattle.std.proofs.lemmas.Grind.{flat_map-append}
use Rattle.std.proofs.lemmas.List.{map-append, length_push}
use Rattle.std.proofs.lemmas.List.Sums.{sum_by-append}
use Rattle.ken_model.specs.declared.messages.Message.{Message}
use Rattle.ken_model.specs.declared.messages.Send.{Send}
use Rattle.ken_model.specs.declared.messages.Out.{Out}
use Rattle.ken_model.specs.Game.{Game}
use Rattle.ken_model.specs.Network.{Place, Turn, numbered, outputs_from, first_place, place_after}
use Rattle.ken_model.specs.Posted.{posted_after}
use Rattle.ken_model.specs.History.{places, place_of, consumed, sent_by, line_at}
use Rattle.ken_record.specs.declared.sent.Sent.{Sent}
use Rattle.ken_record.specs.declared.effects.Effects.{Effects}
use Rattle.ken_core.specs.Turns.{consumed_from, stamp_after, mail_of, mails_in, mails_to, outs_of, effects_line, sent_of, effects_of, sealed_after, sealed, IsPlace}

-- one more turn
pub sealed_after-push : (v : ℕ) (es : List Effects) (ts : List Turn) (t : Turn) → sealed_after v es (ts ++ t ∷ []) ≡ sealed_after v es ts ++ effects_of v (sealed_after v es ts) t ∷ []
sealed_after-push v es [] t = refl
sealed_after-push v es (u ∷ ts) t = sealed_after-push v (es ++ effects_of v es u ∷ []) ts t

pub sealed-push : (v : ℕ) (ts : List Turn) (t : Turn) → sealed v (ts ++ t ∷ []) ≡ sealed v ts ++ effects_of v (sealed v ts) t ∷ []
sealed-push v ts t = sealed_after-push v [] ts t

pub mails_to-push : (v w : ℕ) (es : List Effects) (e : Effects) → mails_to v w (es ++ e ∷ []) ≡ mails_to v w es ++ mails_in v w e
mails_to-push v w es e = flat_map-append (mails_in v w) es (e ∷ []) ∙ ap (λ ms. mails_to v w es ++ ms) (append-nil (mails_in v w e))

-- the messages of one turn, by the counts of those before
kept_or_not : (b : Bool) (v stamp : ℕ) (s : Sent) (ss : List Sent) → map (mail_of v stamp) (if b then s ∷ ss else ss) ≡ (if b then mail_of v stamp s ∷ map (mail_of v stamp) ss else map (mail_of v stamp) ss)
kept_or_not true v stamp s ss = refl
kept_or_not false v stamp s ss = refl

posted_to : (v w stamp : ℕ) (c : ℕ → ℕ) (ss : List Send) → map (mail_of v stamp) (filter (λ (s : Sent). s.to == w) (map sent_of (posted_after v stamp c ss))) ≡ numbered v w (c w) stamp ss
posted_to v w stamp c [] = refl
posted_to v w stamp c (s ∷ ss) =
    let later : ℕ → ℕ = λ x. if x == s.to then c x + 1 else c x in
    let rest = posted_to v w stamp later ss in
    ⊎_elim
    (λ (same : s.to ≡ w).
    let back : (w == s.to) ≡ true = eq-eqb w s.to (sym same) in
    let next : later w ≡ c w + 1 = rw back refl in
    let head : mail_of v stamp (record { to = s.to; number = c s.to + 1; bytes = s.bytes }) ≡ record { from = v; to = w; number = c w + 1; stamp = stamp; bytes = s.bytes } = ap (λ x. record { from = v; to = x; number = c x + 1; stamp = stamp; bytes = s.bytes }) same in
    rw (eq-eqb s.to w same) (ap (λ m. m ∷ map (mail_of v stamp) (filter (λ (s : Sent). s.to == w) (map sent_of (posted_after v stamp later ss)))) head ∙ ap (λ ms. record { from = v; to = w; number = c w + 1; stamp = stamp; bytes = s.bytes } ∷ ms) (rest ∙ ap (λ k. numbered v w k stamp ss) next)))
    (λ other.
    let back : (w == s.to) ≡ false = ne_eqb w s.to (λ e. other (sym e)) in
    let next : later w ≡ c w = rw back refl in
    rw (ne_eqb s.to w other) (rest ∙ ap (λ k. numbered v w k stamp ss) next))
    (cases_eq s.to w)

pub mails_in-effects : (v w : ℕ) (es : List Effects) (t : Turn) → mails_in v w (effects_of v es t) ≡ numbered v w (length (mails_to v w es)) t.stamp t.effect.sends
mails_in-effects v w es t = posted_to v w t.stamp (λ x. length (mails_to v x es)) t.effect.sends

mails_to-after : (v w : ℕ) (es : List Effects) (ts : List Turn) → mails_to v w (sealed_after v es ts) ≡ mails_to v w es ++ sent_by v w (length (mails_to v w es)) ts
unfolding sent_by
mails_to-after v w es [] = sym (append-nil (mails_to v w es))
mails_to-after v w es (t ∷ ts) =
    let ms = mails_to v w es in
    let sent = numbered v w (length ms) t.stamp t.effect.sends in
    let pushed : mails_to v w (es ++ effects_of v es t ∷ []) ≡ ms ++ sent = mails_to-push v w es (effects_of v es t) ∙ ap (λ x. ms ++ x) (mails_in-effects v w es t) in
    let count : length (ms ++ sent) ≡ length ms + length sent = length-append ms sent in
    mails_to-after v w (es ++ effects_of v es t ∷ []) ts
    ∙ ap (λ x. x ++ sent_by v w (length x) ts) pushed
    ∙ ap (λ k. (ms ++ sent) ++ sent_by v w k ts) count
    ∙ append_assoc ms sent (sent_by v w (length ms + length sent) ts)

-- all that was sent
pub mails_to-sealed : (v w : ℕ) (ts : List Turn) → mails_to v w (sealed v ts) ≡ sent_by v w 0 ts
mails_to-sealed v w ts = mails_to-after v w [] ts

-- how many were consumed
counted_or : (b : Bool) (m : Message) (n k : ℕ) (ms : List Message) → n ≡ length ms → (if b then 1 else 0) + n ≡ length (if b then m ∷ ms else ms)
counted_or true m n k ms e = omega arith
counted_or false m n k ms e = omega arith

consumed-after : (u v : ℕ) (es : List Effects) (ts : List Turn) → consumed_from u (sealed_after v es ts) ≡ consumed_from u es + length (consumed u ts)
consumed-after u v es [] = sym (add-zero (consumed_from u es))
consumed-after u v es (t ∷ ts) =
    let rest = consumed-after u v (es ++ effects_of v es t ∷ []) ts in
    let pushed : consumed_from u (es ++ effects_of v es t ∷ []) ≡ consumed_from u es + (0 + (if t.message.from == u then 1 else 0)) = sum_by-append (λ (e : Effects). if e.from == u then 1 else 0) es (effects_of v es t ∷ []) in
    let one : (if t.message.from == u then 1 else 0) + length (consumed u ts) ≡ length (consumed u (t ∷ ts)) = counted_or (t.message.from == u) t.message (length (consumed u ts)) 0 (consumed u ts) refl in
    omega arith

pub consumed-sealed : (u v : ℕ) (ts : List Turn) → consumed_from u (sealed v ts) ≡ length (consumed u ts)
consumed-sealed u v ts = consumed-after u v [] ts ∙ zero-add (length (consumed u ts))

-- outputs with their numbers
pub outputs_from-append : (n : ℕ) (a b : List (List ℕ)) → outputs_from n (a ++ b) ≡ outputs_from n a ++ outputs_from (n + length a) b
unfolding outputs_from
outputs_from-append n [] b = ap (λ k. outputs_from k b) (sym (add-zero n))
outputs_from-append n (x ∷ a) b =
    let count : n + 1 + length a ≡ n + suc (length a) = omega arith in
    ap (λ os. record { number = n + 1; text = x } ∷ os) (outputs_from-append (n + 1) a b ∙ ap (λ k. outputs_from (n + 1) a ++ outputs_from k b) count)

pub length-outputs_from : (n : ℕ) (a : List (List ℕ)) → length (outputs_from n a) ≡ length a
unfolding outputs_from
length-outputs_from n [] = refl
length-outputs_from n (x ∷ a) = ap suc (length-outputs_from (n + 1) a)

pub texts-outputs_from : (n : ℕ) (a : List (List ℕ)) → map (λ (o : Out). o.text) (outputs_from n a) ≡ a
unfolding outputs_from
texts-outputs_from n [] = refl
texts-outputs_from n (x ∷ a) = ap (λ xs. x ∷ xs) (texts-outputs_from (n + 1) a)

-- an output has its place as its number
pub record IsOutput (n : ℕ) (texts : List (List ℕ)) (k : ℕ) (o : Out) : Type 0 where
  pub number : o.number ≡ n + k + 1
  pub text : slice_get texts k ≡ Some o.text

pub output_at : (n : ℕ) (texts : List (List ℕ)) (k : ℕ) (o : Out) → slice_get (outputs_from n texts) k ≡ Some o → IsOutput n texts k o
unfolding outputs_from
output_at n [] k o e = absurd cc
output_at n (x ∷ xs) zero o e = let it : record { number = n + 1; text = x } ≡ o = cc in record { number = sym (ap (λ (p : Out). p.number) it) ∙ omega arith; text = ap (λ (p : Out). Some p.text) it }
output_at n (x ∷ xs) (suc k) o e = let rest = output_at (n + 1) xs k o e in record { number = omega arith; text = rest.text }

stamp_after-push : (s : ℕ) (es : List Effects) (e : Effects) → stamp_after s (es ++ e ∷ []) ≡ e.stamp
stamp_after-push s [] e = refl
stamp_after-push s (d ∷ es) e = stamp_after-push d.stamp es e

IsPlace-push : (v : ℕ) (es : List Effects) (p : Place) (t : Turn) → IsPlace es p → IsPlace (es ++ effects_of v es t ∷ []) (place_after p t)
IsPlace-push v es p t is = record {
  stamp = stamp_after-push 0 es (effects_of v es t);
  turns = length_push es (effects_of v es t) ∙ ap (λ n. n + 1) is.turns;
  outs =
      let count : length (outs_of es) ≡ 0 + length p.outs = ap length is.outs ∙ length-outputs_from 0 p.outs ∙ sym (zero-add (length p.outs)) in
      flat_map-append (λ (e : Effects). e.outs) es (effects_of v es t ∷ [])
      ∙ ap (λ os. outs_of es ++ os) (append-nil (outputs_from (length (outs_of es)) t.effect.outs))
      ∙ ap (λ k. outs_of es ++ outputs_from k t.effect.outs) count
      ∙ ap (λ os. os ++ outputs_from (0 + length p.outs) t.effect.outs) is.outs
      ∙ sym (outputs_from-append 0 p.outs t.effect.outs);
}

IsPlace-after : (v : ℕ) (es : List Effects) (p : Place) (ts : List Turn) → IsPlace es p → IsPlace (sealed_after v es ts) (places p ts)
IsPlace-after v es p [] is = is
IsPlace-after v es p (t ∷ ts) is = IsPlace-after v (es ++ effects_of v es t ∷ []) (place_after p t) ts (IsPlace-push v es p t is)

pub IsPlace-sealed : (g : Game) (v : ℕ) (ts : List Turn) → IsPlace (sealed v ts) (place_of g ts)
unfolding outputs_from
IsPlace-sealed g v ts = IsPlace-after v [] (first_place g) ts (record { stamp = refl; turns = refl; outs = refl })

-- the lines of the turns
effects_lines-after : (v : ℕ) (es : List Effects) (ts : List Turn) → map (effects_line v) (sealed_after v es ts) ≡ map (effects_line v) es ++ map (line_at v) ts
effects_lines-after v es [] = sym (append-nil (map (effects_line v) es))
effects_lines-after v es (t ∷ ts) =
    effects_lines-after v (es ++ effects_of v es t ∷ []) ts
    ∙ ap (λ ls. ls ++ map (line_at v) ts) (map-append (effects_line v) es (effects_of v es t ∷ []))
    ∙ append_assoc (map (effects_line v) es) (line_at v t ∷ []) (map (line_at v) ts)

pub effects_lines : (v : ℕ) (ts : List Turn) → map (effects_line v) (sealed v ts) ≡ map (line_at v) ts
effects_lines v ts = effects_lines-after v [] ts
