-- Turns that are handed over one by one.
use Rattle.std.proofs.Common.{◌≡◌, ℕ, ◌+◌, ◌≤◌, ◌⊎◌, List, [], ◌∷◌, ◌++◌, length, Ok, Err, refl, sym, ap, ◌∙◌, subst, append_assoc, append-nil, arith}
use Rattle.std.proofs.lemmas.List.{append_cancel_left, length_push}
use Rattle.ken_links.specs.declared.push_end.TheConstants.{SLOTS}
use Rattle.ken_links.specs.Counts.{Rose}
use Rattle.ken_outbox.specs.Waiting.{Waiting}
use Rattle.ken_ship.specs.declared.items.Sealed.{Sealed}
use Rattle.ken_ship.specs.Handing.{last_turn, with_turn, with_turns, CountsTurns, HandedOver, Received}

pub with_turns-append : (v : ℕ) (ss ts : List Sealed) (w : Waiting) → with_turns v (ss ++ ts) w ≡ with_turns v ts (with_turns v ss w)
with_turns-append v [] ts w = refl
with_turns-append v (s ∷ ss) ts w = with_turns-append v ss ts (with_turn v s w)

-- no turn that is handed over changes which output was emitted last
pub with_turns_emitted : (v : ℕ) (ss : List Sealed) (w : Waiting) → (with_turns v ss w).emitted ≡ w.emitted
with_turns_emitted v [] w = refl
with_turns_emitted v (s ∷ ss) w = with_turns_emitted v ss (with_turn v s w)

-- so many were handed over so far
pub record HandedSoFar (v count : ℕ) (popped popped2 : List Sealed) (old new : Waiting) : Type 0 where
  pub turns : List Sealed
  pub popped_are : popped2 ≡ popped ++ turns
  pub counted : length turns ≡ count
  pub waits : new ≡ with_turns v turns old

pub none_so_far : (v : ℕ) (popped popped2 : List Sealed) (old new : Waiting) → popped2 ≡ popped → new ≡ old → HandedSoFar v 0 popped popped2 old new
none_so_far v popped popped2 old new same still = record { turns = []; popped_are = same ∙ sym (append-nil popped); counted = refl; waits = still }

-- and one more, which went behind those that wait
pub one_more : (v count : ℕ) (popped popped2 popped3 before : List Sealed) (old box : Waiting) (t : Sealed) → HandedSoFar v count popped popped2 old (with_turns v before box) → popped3 ≡ popped2 ++ t ∷ []
    → HandedSoFar v (count + 1) popped popped3 old (with_turns v (before ++ t ∷ []) box)
one_more v count popped popped2 popped3 before old box t so_far pop = record {
  turns = so_far.turns ++ t ∷ [];
  popped_are = pop ∙ ap (λ (ts : List Sealed). ts ++ t ∷ []) so_far.popped_are ∙ append_assoc popped so_far.turns (t ∷ []);
  counted = length_push so_far.turns t ∙ ap (λ (n : ℕ). n + 1) so_far.counted;
  waits = with_turns-append v before (t ∷ []) box ∙ ap (with_turn v t) so_far.waits ∙ sym (with_turns-append v so_far.turns (t ∷ []) old);
}

-- no more were given, or as many as a call takes
pub handed_until : {T E : Type 0} → (x : T) (v count nones nones2 : ℕ) (popped popped2 : List Sealed) (old new : Waiting) → HandedSoFar v count popped popped2 old new → count ≤ SLOTS → (count ≡ SLOTS) ⊎ Rose nones nones2
    → HandedOver {T = T} {E = E} (Ok x) v popped popped2 nones nones2 old new
handed_until x v count nones nones2 popped popped2 old new so_far few until = record {
  turns = so_far.turns;
  popped_are = so_far.popped_are;
  most = omega (arith, few, so_far.counted);
  until = subst (λ (n : ℕ). (n ≡ SLOTS) ⊎ Rose nones nones2) (sym so_far.counted) until;
  waits = so_far.waits;
}

pub none_handed : {T E : Type 0} → (e : E) (v nones nones2 : ℕ) (popped popped2 : List Sealed) (old new : Waiting) → popped2 ≡ popped → new ≡ old → HandedOver {T = T} {E = E} (Err e) v popped popped2 nones nones2 old new
none_handed e v nones nones2 popped popped2 old new same still = record { turns = []; popped_are = same ∙ sym (append-nil popped); most = omega arith; until = tt; waits = still }

-- the number of the last turn, where none left the ring, and where one more did
pub none_counted : (popped popped2 : List Sealed) (n : ℕ) → popped2 ≡ popped → CountsTurns popped popped2 n n
none_counted popped popped2 n same turns now =
    let none : turns ≡ [] = append_cancel_left popped turns [] (sym now ∙ same ∙ sym (append-nil popped)) in
    ap (last_turn n) (sym none)

last_turn-push : (n : ℕ) (ss : List Sealed) (s : Sealed) → last_turn n (ss ++ s ∷ []) ≡ s.turn
last_turn-push n [] s = refl
last_turn-push n (x ∷ ss) s = last_turn-push x.turn ss s

pub one_counted : (popped popped2 popped3 before : List Sealed) (n : ℕ) (t : Sealed) → popped2 ≡ popped ++ before → popped3 ≡ popped2 ++ t ∷ [] → CountsTurns popped popped3 n t.turn
one_counted popped popped2 popped3 before n t so_far pop turns now =
    let all : popped3 ≡ popped ++ (before ++ t ∷ []) = pop ∙ ap (λ (ts : List Sealed). ts ++ t ∷ []) so_far ∙ append_assoc popped before (t ∷ []) in
    let are : turns ≡ before ++ t ∷ [] = append_cancel_left popped turns (before ++ t ∷ []) (sym now ∙ all) in
    sym (ap (last_turn n) are ∙ last_turn-push n before t)

-- turns that are moved, none and one more
pub none_received : (v : ℕ) (popped : List Sealed) (old : Waiting) → Received v popped popped old old
none_received v popped old = record { turns = []; popped_are = sym (append-nil popped); waits = refl }

pub received_more : (v : ℕ) (popped popped2 popped3 before : List Sealed) (old box : Waiting) (t : Sealed) → Received v popped popped2 old (with_turns v before box) → popped3 ≡ popped2 ++ t ∷ [] → Received v popped popped3 old (with_turns v (before ++ t ∷ []) box)
received_more v popped popped2 popped3 before old box t so_far pop = record {
  turns = so_far.turns ++ t ∷ [];
  popped_are = pop ∙ ap (λ (ts : List Sealed). ts ++ t ∷ []) so_far.popped_are ∙ append_assoc popped so_far.turns (t ∷ []);
  waits = with_turns-append v before (t ∷ []) box ∙ ap (with_turn v t) so_far.waits ∙ sym (with_turns-append v so_far.turns (t ∷ []) old);
}
