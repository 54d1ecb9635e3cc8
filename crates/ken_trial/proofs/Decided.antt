-- What follows from draws that are decided.
use Rattle.std.proofs.Common.{◌≡◌, ℕ, ◌<◌, ◌≤◌, ◌^◌, List, [], ◌∷◌, ◌++◌, length, Bool, true, false, ◌&&◌, nat_lt, nat_le, if◌then◌else◌, Option, Some, None, IsSome, codes, inl, inr, refl, sym, ◌∙◌, ap, subst, ltb-true, arith}
use Rattle.std.specs.List.{AllByRecursion, list_all}
use Rattle.std.proofs.lemmas.Bool.{leb-true}
use Rattle.std.proofs.lemmas.List.{append-nil}
use Rattle.ken_model.specs.declared.messages.Message.{Message}
use Rattle.ken_model.specs.declared.messages.Send.{Send}
use Rattle.ken_model.specs.declared.values.Value.{Value}
use Rattle.ken_model.specs.Effects.{Effect, answered}
use Rattle.ken_model.specs.Handler.{Handler}
use Rattle.ken_actors.specs.Decided.{IsDecided}
use Rattle.ken_app.specs.declared.turn.TheConstants.{MAX_SENDS, MAX_OUTPUTS}
use Rattle.ken_app.specs.Limited.{is_text, send_fits, fits, within, limited}
use Rattle.ken_trial.specs.Given.{first_answers}
use Rattle.ken_trial.specs.Laws.{LimitedIsDecided}
use Rattle.ken_trial.proofs.Answering.{beginning}

-- ---- within the limits

some_within : (nodes : ℕ) (value : Value) (o : Option Effect) → IsSome (within nodes value o) → IsSome o
some_within nodes value None some = some
some_within nodes value (Some e) some = refl

pub limited_is_decided : LimitedIsDecided
limited_is_decided h decided node nodes value m draws more one other =
    decided node nodes value m draws more (some_within nodes value (h.after node nodes value m draws) one) (some_within nodes value (h.after node nodes value m (draws ++ more)) other)

-- ---- what is sent

both : (a b : Bool) → a && b ≡ true → (a ≡ true) × (b ≡ true)
both true b is = (refl, is)
both false b is = absurd cc

all_known : (nodes : ℕ) (sends : List Send) → list_all (send_fits nodes) sends ≡ true → AllByRecursion (λ (s : Send). s.to < nodes) sends
all_known nodes [] is = tt
all_known nodes (s ∷ ss) is =
    let two = both (send_fits nodes s) (list_all (send_fits nodes) ss) is in
    (ltb-true s.to nodes (both (nat_lt s.to nodes) (is_text s.bytes) two.0).0, all_known nodes ss two.1)

fitting_known : (nodes : ℕ) (sends : List Send) (outs : List (List ℕ)) → fits nodes sends outs ≡ true → AllByRecursion (λ (s : Send). s.to < nodes) sends
fitting_known nodes sends outs is =
    let few = both (nat_le (length sends) MAX_SENDS) _ is in
    let all = both (nat_le (length outs) MAX_OUTPUTS) _ few.1 in
    all_known nodes sends (both (list_all (send_fits nodes) sends) (list_all is_text outs) all.1).0

within_known : (nodes : ℕ) (value : Value) (o : Option Effect) (e : Effect) → within nodes value o ≡ Some e → AllByRecursion (λ (s : Send). s.to < nodes) e.sends
within_known nodes value None e is = absurd cc
within_known nodes value (Some made) e is = by (fits nodes made.sends made.outs) refl is
  where
    by : (b : Bool) → fits nodes made.sends made.outs ≡ b → (if b then Some made else Some (answered value (codes "beyond the limits"))) ≡ Some e → AllByRecursion (λ (s : Send). s.to < nodes) e.sends
    by true fit same = let made_is : made ≡ e = cc in subst (λ (x : Effect). AllByRecursion (λ (s : Send). s.to < nodes) x.sends) made_is (fitting_known nodes made.sends made.outs fit)
    by false fit same = let beyond : answered value (codes "beyond the limits") ≡ e = cc in subst (λ (x : Effect). AllByRecursion (λ (s : Send). s.to < nodes) x.sends) beyond tt

-- within the limits only nodes of the run are sent to
pub sends_known : (h : Handler) (node nodes : ℕ) (value : Value) (m : Message) (draws : List ℕ) (e : Effect) → (limited h).after node nodes value m draws ≡ Some e → AllByRecursion (λ (s : Send). s.to < nodes) e.sends
sends_known h node nodes value m draws e is = within_known nodes value (h.after node nodes value m draws) e is

within_few : (nodes : ℕ) (value : Value) (o : Option Effect) (e : Effect) → within nodes value o ≡ Some e → length e.sends ≤ MAX_SENDS
within_few nodes value None e is = absurd cc
within_few nodes value (Some made) e is = by (fits nodes made.sends made.outs) refl is
  where
    by : (b : Bool) → fits nodes made.sends made.outs ≡ b → (if b then Some made else Some (answered value (codes "beyond the limits"))) ≡ Some e → length e.sends ≤ MAX_SENDS
    by true fit same = let made_is : made ≡ e = cc in subst (λ (x : Effect). length x.sends ≤ MAX_SENDS) made_is (leb-true (length made.sends) MAX_SENDS (both (nat_le (length made.sends) MAX_SENDS) _ fit).0)
    by false fit same = let beyond : answered value (codes "beyond the limits") ≡ e = cc in subst (λ (x : Effect). length x.sends ≤ MAX_SENDS) beyond (omega arith)

-- and no more often than a turn may
pub sends_few : (h : Handler) (node nodes : ℕ) (value : Value) (m : Message) (draws : List ℕ) (e : Effect) → (limited h).after node nodes value m draws ≡ Some e → length e.sends < 2 ^ 32
sends_few h node nodes value m draws e is = let few = within_few nodes value (h.after node nodes value m draws) e is in omega (arith, few)

-- ---- other draws

undefined_at : {A : Type 0} (o : Option A) → (IsSome o → ⊥) → o ≡ None
undefined_at None never = refl
undefined_at (Some a) never = absurd (never refl)

some_of : {A : Type 0} (o : Option A) (a : A) → o ≡ Some a → IsSome o
some_of o a is = subst (λ x. IsSome x) (sym is) refl

no_more : (xs more : List ℕ) → more ≡ [] → xs ++ more ≡ xs
no_more xs more none = ap (λ ys. xs ++ ys) none ∙ append-nil xs

-- a handler that is decided, and took the answers of other given draws, isn't defined at these
pub others_undefined : (h : Handler) (node nodes : ℕ) (value : Value) (m : Message) (e : Effect) (count : ℕ) (draws xs : List ℕ) → IsDecided h → xs ≡ first_answers count draws → (xs ≡ draws → ⊥) → h.after node nodes value m xs ≡ Some e → h.after node nodes value m draws ≡ None
others_undefined h node nodes value m e count draws xs decided drawn other took =
    let one : IsSome (h.after node nodes value m xs) = some_of _ e took in
    undefined_at (h.after node nodes value m draws) (λ two. elim (beginning count draws) [
      | inl it ↦
          let longer : draws ≡ xs ++ it.0 = it.1 ∙ ap (λ ys. ys ++ it.0) (sym drawn) in
          other (sym (longer ∙ no_more xs it.0 (decided node nodes value m xs it.0 one (subst (λ ds. IsSome (h.after node nodes value m ds)) longer two))))
      | inr it ↦
          let longer : xs ≡ draws ++ it.0 = drawn ∙ it.1 in
          other (longer ∙ no_more draws it.0 (decided node nodes value m draws it.0 two (subst (λ ds. IsSome (h.after node nodes value m ds)) longer one)))
    ])
