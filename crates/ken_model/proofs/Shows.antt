-- A network that shows what some turns show, before the first turn and after one more.
use Rattle.std.proofs.Common.{◌≡◌, ℕ, ◌+◌, List, [], ◌∷◌, ◌++◌, length, Bool, true, false, eqb, ◌==◌, ◌&&◌, if◌then◌else◌, refl, sym, ap, ◌∙◌, ⊎_elim, arith, length-append, eq-eqb, ne_eqb}
use Rattle.std.proofs.Math.Bool.{and-true, and-false}
use Rattle.std.proofs.lemmas.Bool.{cases_eq, false≢true, eqb-true}
use Rattle.ken_model.specs.declared.messages.Message.{Message}
use Rattle.ken_model.specs.Game.{Game}
use Rattle.ken_model.specs.Network.{Place, Network, Turn, outside, inputs_for, numbered, place_after, start, applied}
use Rattle.ken_model.specs.History.{place_of, consumed, sent_by, messages, Shows, step_at}
use Rattle.ken_model.proofs.Turns.{places-push, consumed-append, sent_by-push}

-- before the first turn
pub Shows-start : (g : Game) → Shows g (λ v. []) (start g)
unfolding messages sent_by
Shows-start g = record { place = λ v. refl; sent = λ u v. refl; taken = λ u v. refl }

-- turns that are the same turn by turn
pub Shows-same : (g : Game) (h other : ℕ → List Turn) (w : Network) → ((v : ℕ) → h v ≡ other v) → Shows g h w → Shows g other w
unfolding messages
Shows-same g h other w same shows = record {
  place = λ v. shows.place v ∙ ap (place_of g) (same v);
  sent = λ u v. shows.sent u v ∙ ap (λ ts. if u == outside then inputs_for g v else sent_by u v 0 ts) (same u);
  taken = λ u v. shows.taken u v ∙ ap (λ ts. length (consumed u ts)) (same v);
}

-- one more turn of node v
abbrev pub one_more : (ℕ → List Turn) → ℕ → Turn → ℕ → List Turn
one_more h v t x = if x == v then h x ++ t ∷ [] else h x

-- the node's place, after a turn of its own or of another
place_more : (g : Game) (here : Bool) (p : Place) (ts : List Turn) (t : Turn) → p ≡ place_of g ts → (if here then place_after p t else p) ≡ place_of g (if here then ts ++ t ∷ [] else ts)
place_more g true p ts t e = ap (λ q. place_after q t) e ∙ sym (places-push _ ts t)
place_more g false p ts t e = e

-- what a link holds, after a turn of its sender or of another
sent_more : (u v : ℕ) (here input : Bool) (ms inputs : List Message) (ts : List Turn) (t : Turn) → (here ≡ true → input ≡ false) → ms ≡ (if input then inputs else sent_by u v 0 ts) → (if here then ms ++ numbered u v (length ms) t.stamp t.effect.sends else ms) ≡ (if input then inputs else sent_by u v 0 (if here then ts ++ t ∷ [] else ts))
sent_more u v true true ms inputs ts t node e = absurd (false≢true (sym (node refl)))
sent_more u v true false ms inputs ts t node e = ap (λ l. l ++ numbered u v (length l) t.stamp t.effect.sends) e ∙ sym (sent_by-push u v ts t)
sent_more u v false input ms inputs ts t node e = e

-- the length of a list with one element more, or none
one_or_none : (a b : Bool) (m : Message) (n : ℕ) → a ≡ b → n + length (if a then m ∷ [] else []) ≡ (if b then n + 1 else n)
one_or_none true true m n e = omega arith
one_or_none true false m n e = absurd cc
one_or_none false true m n e = absurd cc
one_or_none false false m n e = omega arith

-- the test has no sides
eqb-comm : (a b : ℕ) → eqb a b ≡ eqb b a
eqb-comm a b = ⊎_elim (λ e. eq-eqb a b e ∙ sym (eq-eqb b a (sym e))) (λ ne. ne_eqb a b ne ∙ sym (ne_eqb b a (λ e. ne (sym e)))) (cases_eq a b)

-- one more turn takes its message from u, or none
length-consumed-push : (u : ℕ) (ts : List Turn) (t : Turn) → length (consumed u (ts ++ t ∷ [])) ≡ (if u == t.message.from then length (consumed u ts) + 1 else length (consumed u ts))
length-consumed-push u ts t = ap length (consumed-append u ts (t ∷ [])) ∙ length-append (consumed u ts) (consumed u (t ∷ [])) ∙ one_or_none (t.message.from == u) (u == t.message.from) t.message (length (consumed u ts)) (eqb-comm t.message.from u)

-- how many were taken from a link, after a turn of its receiver or of another
taken_more : (u : ℕ) (here : Bool) (n : ℕ) (ts : List Turn) (t : Turn) → n ≡ length (consumed u ts) → (if (u == t.message.from) && here then n + 1 else n) ≡ length (consumed u (if here then ts ++ t ∷ [] else ts))
taken_more u true n ts t e = rw (and-true, e) (sym (length-consumed-push u ts t))
taken_more u false n ts t e = rw and-false e

-- after one more turn of a node
pub Shows-one_more : (g : Game) (h : ℕ → List Turn) (w : Network) (v : ℕ) (t : Turn) → (v ≡ outside → ⊥) → Shows g h w → Shows g (one_more h v t) (applied w (step_at v t) t)
unfolding messages
Shows-one_more g h w v t node shows = record {
  place = λ x. place_more g (x == v) (w.place x) (h x) t (shows.place x);
  sent = λ u x. sent_more u x (u == v) (u == outside) (w.link u x).sent (inputs_for g x) (h u) t (λ e. ne_eqb u outside (λ o. node (sym (eqb-true u v e) ∙ o))) (shows.sent u x);
  taken = λ u x. taken_more u (x == v) (w.link u x).taken (h x) t (shows.taken u x);
}
