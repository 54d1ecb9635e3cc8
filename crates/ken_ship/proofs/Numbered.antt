-- A node's messages and outputs by their numbers.
use Rattle.std.proofs.Common.{◌≡◌, ℕ, zero, suc, ◌+◌, ◌-◌, ◌<◌, ◌≤◌, max, Bool, true, false, cond, nat_le, nat_lt, List, [], ◌∷◌, drop, take, Some, slice_get, refl, sym, ap, ◌∙◌, subst, arith, zero-add}
use Rattle.std.proofs.lemmas.Bool.{ltb-true, ltb-false, leb-true, leb-false}
use Rattle.std.proofs.lemmas.List.{drop-drop}
use Rattle.ken_model.specs.declared.messages.Message.{Message}
use Rattle.ken_model.specs.Network.{Turn}
use Rattle.ken_record.specs.declared.effects.Effects.{Effects}
use Rattle.ken_outbox.specs.Waiting.{Unacked, past, acked_by}
use Rattle.ken_core.specs.Turns.{mails_to, sealed}
use Rattle.ken_core.proofs.Numbers.{mails_to-sealed}
use Rattle.ken_core.proofs.Sent.{IsOf, sent_at}
use Rattle.ken_ship.specs.Laws.{IsPast}

-- messages of a link from v to u whose numbers go on from a number
abbrev pub AreFrom : ℕ → ℕ → ℕ → List Message → Type 0
AreFrom v u a [] = Unit {0}
AreFrom v u a (m ∷ ms) = (m.to ≡ u) × ((m.number ≡ a + 1) × AreFrom v u (a + 1) ms)

from_places : (v u a : ℕ) (ms : List Message) → ((k : ℕ) (m : Message) → slice_get ms k ≡ Some m → IsOf v u (a + k + 1) m) → AreFrom v u a ms
from_places v u a [] each = tt
from_places v u a (m ∷ ms) each =
    let here = each 0 m refl in
    let number : a + 0 + 1 ≡ a + 1 = omega arith in
    (here.to, (here.counted ∙ number, from_places v u (a + 1) ms (λ k x at. let there : a + suc k + 1 ≡ a + 1 + k + 1 = omega arith in subst (λ (j : ℕ). IsOf v u j x) there (each (suc k) x at))))

-- all that a node's turns sent
pub mails_are_from : (v u : ℕ) (es : List Effects) (ts : List Turn) → es ≡ sealed v ts → AreFrom v u 0 (mails_to v u es)
mails_are_from v u es ts is =
    from_places v u 0 (mails_to v u es) (λ k m at. sent_at v u 0 ts k m (ap (λ (ms : List Message). slice_get ms k) (sym (ap (mails_to v u) is ∙ mails_to-sealed v u ts)) ∙ at))

pub drop_from : (v u a b : ℕ) (ms : List Message) → AreFrom v u a ms → AreFrom v u (a + b) (drop b ms)
drop_from v u a zero ms from = subst (λ (k : ℕ). AreFrom v u k ms) (omega arith) from
drop_from v u a (suc b) [] from = tt
drop_from v u a (suc b) (m ∷ ms) from = let there : a + 1 + b ≡ a + suc b = omega arith in subst (λ (k : ℕ). AreFrom v u k (drop b ms)) there (drop_from v u (a + 1) b ms from.1.1)

pub drop_nothing : {X : Type 0} (k : ℕ) → drop {A = X} k [] ≡ []
drop_nothing zero = refl
drop_nothing (suc k) = refl

-- what a number lets go
pub past_is : (v u a through : ℕ) (ms : List Message) → AreFrom v u a ms → past through ms ≡ drop (through - a) ms
unfolding past
past_is v u a through [] from = sym (drop_nothing (through - a))
past_is v u a through (m ∷ ms) from = kept (nat_le m.number through) refl (past_is v u (a + 1) through ms from.1.1)
  where
    kept : (b : Bool) → nat_le m.number through ≡ b → past through ms ≡ drop (through - (a + 1)) ms → cond b (past through ms) (m ∷ ms) ≡ drop (through - a) (m ∷ ms)
    kept true e rest =
        let less : m.number ≤ through = leb-true m.number through e in
        let more : through - a ≡ suc (through - (a + 1)) = omega (arith, less, from.1.0) in
        rest ∙ ap (λ (k : ℕ). drop k (m ∷ ms)) (sym more)
    kept false e rest =
        let less : through < m.number = leb-false m.number through e in
        let none : through - a ≡ 0 = omega (arith, less, from.1.0) in
        ap (λ (k : ℕ). drop k (m ∷ ms)) (sym none)

-- what stands in a part of a list stands in the list
pub get_take : {X : Type 0} (c : ℕ) (xs : List X) (j : ℕ) (x : X) → slice_get (take c xs) j ≡ Some x → slice_get xs j ≡ Some x
get_take zero xs j x at = absurd cc
get_take (suc c) [] j x at = at
get_take (suc c) (y ∷ xs) zero x at = at
get_take (suc c) (y ∷ xs) (suc j) x at = get_take c xs j x at

pub get_drop : {X : Type 0} (a : ℕ) (xs : List X) (j : ℕ) → slice_get (drop a xs) j ≡ slice_get xs (a + j)
get_drop zero xs j = ap (slice_get xs) (sym (zero-add j))
get_drop (suc a) [] j = none (suc a + j)
  where
    none : {X : Type 0} (k : ℕ) → slice_get {X = X} [] j ≡ slice_get [] k
    none k = refl
get_drop (suc a) (y ∷ xs) j = get_drop a xs j ∙ ap (slice_get (y ∷ xs)) (suc_plus a j)
  where
    suc_plus : (b k : ℕ) → suc (b + k) ≡ suc b + k
    suc_plus b k = omega arith

pub take_from : (v u a c : ℕ) (ms : List Message) → AreFrom v u a ms → AreFrom v u a (take c ms)
take_from v u a zero ms from = tt
take_from v u a (suc c) [] from = tt
take_from v u a (suc c) (m ∷ ms) from = (from.0, (from.1.0, take_from v u (a + 1) c ms from.1.1))

-- what an acknowledgement makes of a line
pub acked_past : (v u a through : ℕ) (sent : List Message) (l : Unacked) → AreFrom v u 0 sent → IsPast a sent l → IsPast (max a through) sent (acked_by through l)
acked_past v u a through sent l from is = kept (nat_lt l.acked through) refl
  where
    whole : past through (drop a sent) ≡ drop (through - a) (drop a sent)
    whole = let there : 0 + a ≡ a = zero-add a in past_is v u a through (drop a sent) (subst (λ (k : ℕ). AreFrom v u k (drop a sent)) there (drop_from v u 0 a sent from))

    kept : (b : Bool) → nat_lt l.acked through ≡ b → IsPast (max a through) sent (cond b (record { acked = through; messages = past through l.messages }) l)
    kept true e =
        let less : l.acked < through = ltb-true l.acked through e in
        let sum : a + (through - a) ≡ max a through = omega (arith, less, is.number) in
        record {
          number = omega (arith, less, is.number);
          waits = ap (past through) is.waits ∙ whole ∙ drop-drop (through - a) a sent ∙ ap (λ (k : ℕ). drop k sent) sum;
        }
    kept false e =
        let less : through ≤ l.acked = ltb-false l.acked through e in
        let same : a ≡ max a through = omega (arith, less, is.number) in
        record { number = is.number ∙ same; waits = is.waits ∙ ap (λ (k : ℕ). drop k sent) same }
