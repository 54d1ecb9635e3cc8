-- Each turn keeps its limits: its message was sent by a turn with a lower stamp, or is an input.
use Rattle.std.proofs.Common.{◌≡◌, ℕ, zero, suc, ◌+◌, ◌<◌, ◌≤◌, ◌^◌, ◌⊎◌, max, ◌==◌, ◌&&◌, nat_lt, ltb-true, inl, inr, Bool, true, false, if◌then◌else◌, List, [], ◌∷◌, ◌++◌, map, length, Contains, Option, Some, None, option_map, IfSome, refl, sym, ap, subst, ⊎_elim, arith}
use Rattle.std.specs.List.{AllByRecursion}
use Rattle.ken_model.specs.declared.facts.Input.{Input}
use Rattle.ken_model.specs.declared.messages.Message.{Message}
use Rattle.ken_model.specs.declared.messages.TheConstants.{OUTSIDE}
use Rattle.ken_model.specs.declared.messages.Out.{Out}
use Rattle.ken_model.specs.declared.messages.Send.{Send}
use Rattle.ken_model.specs.Posted.{posted_after}
use Rattle.ken_model.specs.Effects.{Effect}
use Rattle.ken_model.specs.Game.{Game}
use Rattle.ken_model.specs.History.{AreTurns}
use Rattle.ken_model.specs.Limits.{IsWithinLimits}
use Rattle.ken_model.specs.Network.{Place, Turn, are_words, handled, turn_at, first_place, place_after, outputs_from}
use Rattle.ken_model.proofs.Turns.{turn_at-later}
use Rattle.ken_record.specs.declared.effects.Effects.{Effects}
use Rattle.ken_record.specs.declared.sent.Sent.{Sent}
use Rattle.ken_net.proofs.Origins.{first_in, later_in, in_front}
use Rattle.ken_core.specs.Accord.{Accord}
use Rattle.ken_core.specs.Clusters.{Cluster}
use Rattle.ken_core.specs.Turns.{sent_of, outs_of, mails_to, effects_of, sealed_after}
use Rattle.ken_core.proofs.Numbers.{length-outputs_from}
use Rattle.ken_core.proofs.Played.{turn_stamp}
use Rattle.ken_app.specs.Limits.{ComesTo, IsCall, KeepsLimits, first as anew, next}
use Rattle.ken_app.specs.Turning.{IsAllowed, IsShortText}
use Rattle.ken_flow.specs.Groups.{group_of}
use Rattle.ken_flow.specs.Modest.{IsModestTurn, TurnsAreModest}
use Rattle.ken_flow.proofs.Lists.{of_each}
use Rattle.ken_flow.proofs.Turns.{is_known, taken_from}

-- ---- a turn as its node keeps it

posted_count : (v stamp : ℕ) (c : ℕ → ℕ) (ss : List Send) → length (map sent_of (posted_after v stamp c ss)) ≡ length ss
posted_count v stamp c [] = refl
posted_count v stamp c (s ∷ ss) = ap suc (posted_count v stamp (λ x. if x == s.to then c x + 1 else c x) ss)

posted_short : (nodes v stamp : ℕ) (c : ℕ → ℕ) (ss : List Send) → AllByRecursion (λ (s : Send). (s.to < nodes) × IsShortText s.bytes) ss → AllByRecursion (λ (s : Sent). IsShortText s.bytes) (map sent_of (posted_after v stamp c ss))
posted_short nodes v stamp c [] short = tt
posted_short nodes v stamp c (s ∷ ss) short = (short.0.1, posted_short nodes v stamp (λ x. if x == s.to then c x + 1 else c x) ss short.1)

outputs_short : (n : ℕ) (texts : List (List ℕ)) → AllByRecursion IsShortText texts → AllByRecursion (λ (o : Out). IsShortText o.text) (outputs_from n texts)
unfolding outputs_from
outputs_short n [] short = tt
outputs_short n (x ∷ xs) short = (short.0, outputs_short (n + 1) xs short.1)

effects_modest : (nodes v : ℕ) (es : List Effects) (t : Turn) → IsAllowed nodes t.effect → IsModestTurn (effects_of v es t)
effects_modest nodes v es t allowed =
    let c : ℕ → ℕ = λ w. length (mails_to v w es) in
    record {
      few_sends = omega (arith, allowed.few_sends, posted_count v t.stamp c t.effect.sends);
      few_outs = omega (arith, allowed.few_outs, length-outputs_from (length (outs_of es)) t.effect.outs);
      sends = posted_short nodes v t.stamp c t.effect.sends allowed.sends;
      outs = outputs_short (length (outs_of es)) t.effect.outs allowed.outs;
    }

all_push : {A : Type 0} (P : A → Type 0) (xs : List A) (x : A) → AllByRecursion P xs → P x → AllByRecursion P (xs ++ x ∷ [])
all_push P [] x all last = (last, tt)
all_push P (y ∷ ys) x all last = (all.0, all_push P ys x all.1 last)

sealed_modest : (nodes v : ℕ) (es : List Effects) (ts : List Turn) → AllByRecursion IsModestTurn es → ((t : Turn) → Contains ts t → IsAllowed nodes t.effect) → AllByRecursion IsModestTurn (sealed_after v es ts)
sealed_modest nodes v es [] all each = all
sealed_modest nodes v es (t ∷ ts) all each =
    sealed_modest nodes v (es ++ effects_of v es t ∷ []) ts (all_push IsModestTurn es (effects_of v es t) all (effects_modest nodes v es t (each t (first_in t ts)))) (λ u one. each u (later_in t ts u one))

-- ---- a turn is the handler's

made_of : (p : Place) (draws : List ℕ) (m : Message) (t : Turn) (o : Option Effect) → option_map (λ (e : Effect). record { message = m; draws = draws; stamp = max p.stamp m.stamp + 1; effect = e }) o ≡ Some t → o ≡ Some t.effect
made_of p draws m t None is = absurd cc
made_of p draws m t (Some e) is = let same : record { message = m; draws = draws; stamp = max p.stamp m.stamp + 1; effect = e } ≡ t = cc in ap (λ (x : Turn). Some x.effect) same

-- what is chosen by a test that passed
record IsChosen (b : Bool) (o : Option Effect) (e : Effect) : Type 0 where
  passed : b ≡ true
  made : o ≡ Some e

chosen : (b : Bool) (o : Option Effect) (e : Effect) → (if b then o else None) ≡ Some e → IsChosen b o e
chosen true o e is = record { passed = refl; made = is }
chosen false o e is = absurd cc

words_of : (draws : List ℕ) → are_words draws ≡ true → AllByRecursion (λ (d : ℕ). d < 2 ^ 64) draws
words_of [] words = tt
words_of (d ∷ ds) words = one (nat_lt d (2 ^ 64)) refl words (words_of ds)
  where
    one : (b : Bool) → nat_lt d (2 ^ 64) ≡ b → (b && are_words ds) ≡ true → (are_words ds ≡ true → AllByRecursion (λ (x : ℕ). x < 2 ^ 64) ds) → (d < 2 ^ 64) × AllByRecursion (λ (x : ℕ). x < 2 ^ 64) ds
    one true is all more = (ltb-true d (2 ^ 64) is, more all)
    one false is all more = absurd cc

-- a handler made this effect, of draws that are words
record IsHandlers (g : Game) (v : ℕ) (p : Place) (draws : List ℕ) (m : Message) (t : Turn) : Type 0 where
  words : AllByRecursion (λ (d : ℕ). d < 2 ^ 64) draws
  made : g.handler.after v g.nodes p.value m draws ≡ Some t.effect

handler_made : (g : Game) (v : ℕ) (p : Place) (draws : List ℕ) (m : Message) (t : Turn) → turn_at g v p draws m ≡ Some t → IsHandlers g v p draws m t
unfolding turn_at
handler_made g v p draws m t is =
    let it = chosen (are_words draws) (g.handler.after v g.nodes p.value m draws) t.effect (made_of p draws m t (handled g v p.value m draws) is) in
    record { words = words_of draws it.passed; made = it.made }

if_some : (P : Effect → Type 0) (o : Option Effect) (e : Effect) → o ≡ Some e → IfSome o P → P e
if_some P o e is fits = subst (λ (x : Option Effect). IfSome x P) is fits

-- stamps rise along the turns of a node
later : (g : Game) (v : ℕ) (p : Place) (ts : List Turn) → AreTurns g v p ts → (t : Turn) → Contains ts t → p.stamp < t.stamp
unfolding AreTurns
later g v p [] are t (k, low, is) = absurd (omega (arith, low))
later g v p (x ∷ ts) are t there =
    let first : p.stamp < x.stamp = omega (arith, turn_stamp g v p x.draws x.message x are.1) in
    ⊎_elim (λ (is : x ≡ t). omega (arith, first, ap (λ (y : Turn). y.stamp) is)) (λ on. omega (arith, first, later g v (place_after p x) ts are.2 t on)) (in_front x ts t there)

-- ---- by the stamps of the turns

-- a turn with a short message, whose effect keeps the limits
pub record IsModest (nodes : ℕ) (t : Turn) : Type 0 where
  pub sender : (t.message.from < nodes) ⊎ (t.message.from ≡ OUTSIDE)
  pub short : IsShortText t.message.bytes
  pub allowed : IsAllowed nodes t.effect

module _ (g : Game) (w : Cluster) (accord : Accord g w) (limits : IsWithinLimits g) (keeps : KeepsLimits g.nodes g.size g.handler) where
  abbrev h : ℕ → List Turn
  h = accord.history

  abbrev UpTo : ℕ → Type 0
  UpTo s = (u : ℕ) (t : Turn) → Contains (h u) t → t.stamp ≤ s → IsModest g.nodes t

  message_short : (s : ℕ) → UpTo s → (v : ℕ) (t : Turn) → Contains (h v) t → t.message.stamp ≤ s → IsShortText t.message.bytes
  message_short s known v t there low = elim (taken_from g w accord v t there) [
    | inl input ↦ subst IsShortText (sym input.bytes) (of_each (λ (i : Input). (i.node < g.nodes) × IsShortText i.text) g.inputs limits.inputs input.input input.one).1
    | inr sent ↦
        let is = known t.message.from sent.turn sent.one (omega (arith, low, sent.stamp)) in
        subst IsShortText (sym sent.bytes) (of_each (λ (x : Send). (x.to < g.nodes) × IsShortText x.bytes) sent.turn.effect.sends is.allowed.sends sent.send sent.among).1
  ]

  message_from : (v : ℕ) (t : Turn) → Contains (h v) t → (t.message.from < g.nodes) ⊎ (t.message.from ≡ OUTSIDE)
  message_from v t there = elim (taken_from g w accord v t there) [
    | inl input ↦ inr input.from
    | inr sent ↦ inl (is_known g w accord t.message.from sent.turn sent.one)
  ]

  along : (s : ℕ) → UpTo s → (v : ℕ) (p : Place) (ts : List Turn) → AreTurns g v p ts → ComesTo g.handler v g.nodes g.size p.value → ((t : Turn) → Contains ts t → Contains (h v) t) → (t : Turn) → Contains ts t → t.stamp ≤ s + 1 → IsModest g.nodes t
  unfolding AreTurns
  along s known v p [] are reached own t (k, none, is) low = absurd (omega (arith, none))
  along s known v p (x ∷ ts) are reached own t there low = ⊎_elim
      (λ (is : x ≡ t). subst (IsModest g.nodes) is (first (omega (arith, low, ap (λ (y : Turn). y.stamp) is))))
      (λ on.
      let early : x.stamp < t.stamp = later g v (place_after p x) ts are.2 t on in
      let it = first (omega (arith, early, low)) in
      along s known v (place_after p x) ts are.2 (next reached (call it.sender it.short) by_handler.made) (λ y one. own y (later_in x ts y one)) t on low)
      (in_front x ts t there)
    where
      by_handler : IsHandlers g v p x.draws x.message x
      by_handler = handler_made g v p x.draws x.message x are.1

      call : (x.message.from < g.nodes) ⊎ (x.message.from ≡ OUTSIDE) → IsShortText x.message.bytes → IsCall v g.nodes x.message x.draws
      call sender short = record { placed = record { some_node = limits.some_node; few_nodes = limits.few_nodes; known = is_known g w accord v x (own x (first_in x ts)) }; sender = sender; short = short; words = by_handler.words }

      first : x.stamp ≤ s + 1 → IsModest g.nodes x
      first small =
          let before : x.message.stamp < x.stamp = turn_at-later g v p x.draws x.message x are.1 in
          let short = message_short s known v x (own x (first_in x ts)) (omega (arith, before, small)) in
          let from = message_from v x (own x (first_in x ts)) in
          record {
            sender = from;
            short = short;
            allowed = if_some (IsAllowed g.nodes) (g.handler.after v g.nodes p.value x.message x.draws) x.effect by_handler.made (keeps v p.value x.message x.draws reached (call from short));
          }

  up_to : (s : ℕ) → UpTo s
  up_to zero u t there low = absurd (omega (arith, low, later g u (first_place g) (h u) (accord.made.nodes u).own t there))
  up_to (suc s) u t there low = along s (up_to s) u (first_place g) (h u) (accord.made.nodes u).own anew (λ y one. one) t there (omega (arith, low))

  pub kept_modest : (v : ℕ) → AllByRecursion IsModestTurn (w.node v).turning.turns
  kept_modest v = subst (AllByRecursion IsModestTurn) (sym (accord.made.nodes v).turns) (sealed_modest g.nodes v [] (h v) tt (λ t there. (up_to t.stamp v t there (omega arith)).allowed))

pub turns_are_modest : TurnsAreModest
turns_are_modest g nodes emissions limits keeps accord = kept_modest g (group_of g nodes emissions) accord limits keeps
