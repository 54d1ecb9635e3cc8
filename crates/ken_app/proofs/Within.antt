-- What a limited handler comes to, and that it keeps the limits of a turn, and sends and outputs no line feed.
use Rattle.std.proofs.Common.{◌≡◌, ℕ, ◌<◌, List, [], ◌∷◌, length, Bool, true, false, ◌==◌, ◌&&◌, not, nat_lt, nat_le, if◌then◌else◌, Option, Some, None, IfSome, ◌⊎◌, inl, inr, codes, refl, sym, subst, ltb-true}
use Rattle.std.specs.List.{AllByRecursion, list_all}
use Rattle.std.proofs.lemmas.Bool.{leb-true}
use Rattle.ken_model.specs.declared.facts.TheConstants.{MAX_TEXT}
use Rattle.ken_model.specs.declared.messages.Send.{Send}
use Rattle.ken_model.specs.declared.values.Value.{Value}
use Rattle.ken_model.specs.Effects.{Effect, answered}
use Rattle.ken_model.specs.Report.{IsOneLine}
use Rattle.ken_app.specs.declared.turn.TheConstants.{MAX_SENDS, MAX_OUTPUTS}
use Rattle.ken_app.specs.Laws.{LimitedKeepsLimits, LimitedKeepsLines}
use Rattle.ken_app.specs.Limited.{is_line, is_text, send_fits, fits, within}
use Rattle.ken_app.specs.Lines.{IsOfLines}
use Rattle.ken_app.specs.Turning.{IsAllowed, IsShortText}

both : (a b : Bool) → a && b ≡ true → (a ≡ true) × (b ≡ true)
both true b is = (refl, is)
both false b is = absurd cc

all_of : {X : Type 0} (p : X → Bool) (P : X → Type 0) → ((x : X) → p x ≡ true → P x) → (xs : List X) → list_all p xs ≡ true → AllByRecursion P xs
all_of p P each [] is = tt
all_of p P each (x ∷ xs) is = let two = both (p x) (list_all p xs) is in (each x two.0, all_of p P each xs two.1)

no_feed : (b : ℕ) → not (b == 10) ≡ true → b ≡ 10 → ⊥
no_feed b is e = let feed : not (10 == 10) ≡ true = subst (λ (x : ℕ). not (x == 10) ≡ true) e is in absurd cc

short : (text : List ℕ) → is_text text ≡ true → IsShortText text
short text is = leb-true (length text) MAX_TEXT (both (nat_le (length text) MAX_TEXT) (is_line text) is).0

one_line : (text : List ℕ) → is_text text ≡ true → IsOneLine text
one_line text is = all_of (λ b. not (b == 10)) (λ b. (b ≡ 10) → ⊥) no_feed text (both (nat_le (length text) MAX_TEXT) (is_line text) is).1

-- an effect that fits keeps the limits, and has no line feed
record Keeps (nodes : ℕ) (e : Effect) : Type 0 where
  allowed : IsAllowed nodes e
  lines : IsOfLines e

fitting : (nodes : ℕ) (e : Effect) → fits nodes e.sends e.outs ≡ true → Keeps nodes e
fitting nodes e is =
    let few = both (nat_le (length e.sends) MAX_SENDS) _ is in
    let outs = both (nat_le (length e.outs) MAX_OUTPUTS) _ few.1 in
    let all = both (list_all (send_fits nodes) e.sends) (list_all is_text e.outs) outs.1 in
    record {
      allowed = record {
        few_sends = leb-true (length e.sends) MAX_SENDS few.0;
        few_outs = leb-true (length e.outs) MAX_OUTPUTS outs.0;
        sends = all_of (send_fits nodes) (λ (s : Send). (s.to < nodes) × IsShortText s.bytes) (λ s it. let two = both (nat_lt s.to nodes) (is_text s.bytes) it in (ltb-true s.to nodes two.0, short s.bytes two.1)) e.sends all.0;
        outs = all_of is_text IsShortText short e.outs all.1;
      };
      lines = record {
        sends = all_of (send_fits nodes) (λ (s : Send). IsOneLine s.bytes) (λ s it. one_line s.bytes (both (nat_lt s.to nodes) (is_text s.bytes) it).1) e.sends all.0;
        outs = all_of is_text IsOneLine one_line e.outs all.1;
      };
    }

within_keeps : (nodes : ℕ) (value : Value) (o : Option Effect) → IfSome (within nodes value o) (Keeps nodes)
within_keeps nodes value None = tt
within_keeps nodes value (Some e) = by (fits nodes e.sends e.outs) refl
  where
    by : (b : Bool) → fits nodes e.sends e.outs ≡ b → IfSome (if b then Some e else Some (answered value (codes "beyond the limits"))) (Keeps nodes)
    by true is = fitting nodes e is
    by false is = fitting nodes (answered value (codes "beyond the limits")) refl

-- for authors: what is made within the limits is what the definition makes, or the answer that it is beyond
pub within_some : (nodes : ℕ) (value : Value) (o : Option Effect) (e : Effect) → within nodes value o ≡ Some e → (o ≡ Some e) ⊎ (e ≡ answered value (codes "beyond the limits"))
within_some nodes value None e is = absurd cc
within_some nodes value (Some made) e is = by (fits nodes made.sends made.outs) is
  where
    by : (b : Bool) → (if b then Some made else Some (answered value (codes "beyond the limits"))) ≡ Some e → (Some made ≡ Some e) ⊎ (e ≡ answered value (codes "beyond the limits"))
    by true same = inl same
    by false other = let same : answered value (codes "beyond the limits") ≡ e = cc in inr (sym same)

-- and what fits stays
pub within_fits : (nodes : ℕ) (value : Value) (made : Effect) → fits nodes made.sends made.outs ≡ true → within nodes value (Some made) ≡ Some made
within_fits nodes value made is = by (fits nodes made.sends made.outs) is
  where
    by : (b : Bool) → b ≡ true → (if b then Some made else Some (answered value (codes "beyond the limits"))) ≡ Some made
    by true is = refl
    by false is = absurd cc

weaker : (P Q : Effect → Type 0) → ((e : Effect) → P e → Q e) → (o : Option Effect) → IfSome o P → IfSome o Q
weaker P Q each None is = tt
weaker P Q each (Some e) is = each e is

pub limited_keeps_limits : LimitedKeepsLimits
limited_keeps_limits h nodes size node value m draws comes call = weaker (Keeps nodes) (IsAllowed nodes) (λ e k. k.allowed) _ (within_keeps nodes value (h.after node nodes value m draws))

pub limited_keeps_lines : LimitedKeepsLines
limited_keeps_lines h nodes size node value m draws comes call line = weaker (Keeps nodes) IsOfLines (λ e k. k.lines) _ (within_keeps nodes value (h.after node nodes value m draws))
