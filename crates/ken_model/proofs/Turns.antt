-- Turns of one node: those that were made, and those that are still ahead.
use Rattle.std.proofs.Common.{◌≡◌, ℕ, ◌+◌, ◌<◌, ◌≤◌, max, List, [], ◌∷◌, ◌++◌, length, ◌==◌, if◌then◌else◌, All, Option, Some, None, option_map, refl, sym, ap, ◌∙◌, ⊎_elim, arith, append_assoc, append-nil, length-append, add-zero, zero-add, Bool, true, false}
use Rattle.std.proofs.lemmas.List.{map-append}
use Rattle.std.proofs.lemmas.List.Elements.{filter-append, All-nil, All-cons, All-head, All-tail, All-append}
use Rattle.std.proofs.lemmas.Bool.{cond_both}
use Rattle.ken_model.specs.declared.messages.Message.{Message}
use Rattle.ken_model.specs.declared.messages.Send.{Send}
use Rattle.ken_model.specs.declared.reports.TurnLine.{TurnLine}
use Rattle.ken_model.specs.Game.{Game}
use Rattle.ken_model.specs.Effects.{Effect}
use Rattle.ken_model.specs.Network.{Place, Turn, outside, inputs_for, numbered, handled, turn_at, place_after}
use Rattle.ken_model.specs.Schedule.{ComesBefore}
use Rattle.ken_model.specs.History.{AreTurns, places, consumed, sent_by, messages, Rises}

-- the turns after others are the node's turns after its place then
pub AreTurns-append : (g : Game) (v : ℕ) (p : Place) (ts us : List Turn) → AreTurns g v p (ts ++ us) → AreTurns g v (places p ts) us
unfolding AreTurns
AreTurns-append g v p [] us turns = turns
AreTurns-append g v p (t ∷ ts) us turns = AreTurns-append g v (place_after p t) ts us turns.2

-- the node after one more turn
pub places-push : (p : Place) (ts : List Turn) (t : Turn) → places p (ts ++ t ∷ []) ≡ place_after (places p ts) t
places-push p [] t = refl
places-push p (u ∷ ts) t = places-push (place_after p u) ts t

-- what turns took is in the order of the turns
pub consumed-append : (u : ℕ) (ts us : List Turn) → consumed u (ts ++ us) ≡ consumed u ts ++ consumed u us
consumed-append u ts us = simp (map-append, filter-append)

-- what turns sent is in the order of the turns, and the numbers go on
pub sent_by-append : (u v n : ℕ) (ts us : List Turn) → sent_by u v n (ts ++ us) ≡ sent_by u v n ts ++ sent_by u v (n + length (sent_by u v n ts)) us
unfolding sent_by
sent_by-append u v n [] us = simp add-zero
sent_by-append u v n (t ∷ ts) us =
    let sent = numbered u v n t.stamp t.effect.sends in
    let later = sent_by u v (n + length sent) ts in
    let count : n + length sent + length later ≡ n + length (sent ++ later) = omega (arith, length-append sent later) in
    ap (λ ms. sent ++ ms) (sent_by-append u v (n + length sent) ts us) ∙ sym (append_assoc sent later _) ∙ ap (λ k. (sent ++ later) ++ sent_by u v k us) count

-- one more turn sends at the end
pub sent_by-push : (u v : ℕ) (ts : List Turn) (t : Turn) → sent_by u v 0 (ts ++ t ∷ []) ≡ sent_by u v 0 ts ++ numbered u v (length (sent_by u v 0 ts)) t.stamp t.effect.sends
unfolding sent_by
sent_by-push u v ts t = sent_by-append u v 0 ts (t ∷ []) ∙ simp (append-nil, zero-add)

-- all that a turn sends has the turn's stamp
numbered-stamps : (u v n s stamp : ℕ) (ss : List Send) → s ≤ stamp → All (λ (m : Message). s ≤ m.stamp) (numbered u v n stamp ss)
numbered-stamps u v n s stamp [] le = All-nil (λ (m : Message). s ≤ m.stamp)
numbered-stamps u v n s stamp (o ∷ ss) le =
    let P : Message → Type 0 = λ m. s ≤ m.stamp in
    cond_both (o.to == v) _ _ (All P) (λ _. All-cons P _ _ le (numbered-stamps u v (n + 1) s stamp ss le)) (λ _. numbered-stamps u v n s stamp ss le)

-- turns from a stamp on send messages from that stamp on
pub sent_by-stamps : (u v n s : ℕ) (ts : List Turn) → All (λ (t : Turn). s ≤ t.stamp) ts → All (λ (m : Message). s ≤ m.stamp) (sent_by u v n ts)
unfolding sent_by
sent_by-stamps u v n s [] all = All-nil (λ (m : Message). s ≤ m.stamp)
sent_by-stamps u v n s (t ∷ ts) all =
    let P : Turn → Type 0 = λ x. s ≤ x.stamp in
    let sent = numbered u v n t.stamp t.effect.sends in
    All-append (λ (m : Message). s ≤ m.stamp) sent _ (numbered-stamps u v n s t.stamp t.effect.sends (All-head P t ts all)) (sent_by-stamps u v (n + length sent) s ts (All-tail P t ts all))

-- the same, by what the handler gives
later_than_message : (p : Place) (draws : List ℕ) (m : Message) (t : Turn) (o : Option Effect) → option_map (λ (e : Effect). record { message = m; draws = draws; stamp = max p.stamp m.stamp + 1; effect = e }) o ≡ Some t → m.stamp < t.stamp
later_than_message p draws m t None e = absurd cc
later_than_message p draws m t (Some effect) e =
    let stamp : max p.stamp m.stamp + 1 ≡ t.stamp = cc in
    omega arith

-- a turn's stamp is larger than its message's
pub turn_at-later : (g : Game) (v : ℕ) (p : Place) (draws : List ℕ) (m : Message) (t : Turn) → turn_at g v p draws m ≡ Some t → m.stamp < t.stamp
unfolding turn_at
turn_at-later g v p draws m t made = later_than_message p draws m t (handled g v p.value m draws) made

-- a pair that comes before has no larger stamp
ComesBefore-stamps : (stamp node later_stamp later_node : ℕ) → ComesBefore stamp node later_stamp later_node → stamp ≤ later_stamp
ComesBefore-stamps stamp node later_stamp later_node before = ⊎_elim (λ lt. omega arith) (λ same. omega arith) before

-- lines that rise from a stamp have no smaller one
pub Rises-stamps : (s stamp node : ℕ) (lines : List TurnLine) → s ≤ stamp → Rises stamp node lines → All (λ (l : TurnLine). s ≤ l.stamp) lines
unfolding Rises
Rises-stamps s stamp node [] le rises = All-nil (λ (l : TurnLine). s ≤ l.stamp)
Rises-stamps s stamp node (l ∷ ls) le rises =
    let here : s ≤ l.stamp = omega (arith, ComesBefore-stamps stamp node l.stamp l.step.node rises.0) in
    All-cons (λ (x : TurnLine). s ≤ x.stamp) l ls here (Rises-stamps s l.stamp l.step.node ls here rises.1)

-- a list of messages is a front and, after it, messages from a stamp on
pub record IsSplitAt (s : ℕ) (whole front : List Message) : Type 0 where
  pub later : List Message
  pub parts : whole ≡ front ++ later
  pub stamps : All (λ (m : Message). s ≤ m.stamp) later

-- a link of the outside holds all inputs from the start
of_outside : (s : ℕ) (b : Bool) (inputs whole front : List Message) → IsSplitAt s whole front → IsSplitAt s (if b then inputs else whole) (if b then inputs else front)
of_outside s true inputs whole front split = record { later = []; parts = sym (append-nil inputs); stamps = All-nil (λ (m : Message). s ≤ m.stamp) }
of_outside s false inputs whole front split = split

-- the messages of a link: those of the turns that u made, and those of its turns ahead, which have stamps from s on
pub messages-split : (g : Game) (h done : ℕ → List Turn) (u v s : ℕ) (ahead : List Turn) → h u ≡ done u ++ ahead → All (λ (t : Turn). s ≤ t.stamp) ahead → IsSplitAt s (messages g h u v) (messages g done u v)
unfolding messages
messages-split g h done u v s ahead is all =
    let n = 0 + length (sent_by u v 0 (done u)) in
    of_outside s (u == outside) (inputs_for g v) (sent_by u v 0 (h u)) (sent_by u v 0 (done u)) (record { later = sent_by u v n ahead; parts = ap (sent_by u v 0) is ∙ sent_by-append u v 0 (done u) ahead; stamps = sent_by-stamps u v n s ahead all })
