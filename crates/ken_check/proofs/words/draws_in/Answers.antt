use Rattle.std.proofs.Common.{◌≡◌, ◌==◌, ℕ, List, [], ◌∷◌, ◌++◌, map, decimal, codes, Some, sym, ap, ap₂, ◌∙◌, rules, true, false, subst, ◌<◌, length, get_or}
use Rattle.std.proofs.lemmas.Iterator.Consumers.{YieldsList-at, YieldsList-end, YieldsList-turn}
use Rattle.std.proofs.lemmas.Iterator.Splits.{YieldsList-from_slice_split}
use Rattle.std.proofs.lemmas.List.{map-append}
use Rattle.std.proofs.lemmas.Slice.Eq.{bytes_eq-Decides}
use Rattle.std.specs.List.{AllByRecursion}
use Rattle.ken_model.specs.Spelling.{IsWord}
use Rattle.ken_model.proofs.Others.{all-push}
use borrow.Author.Tests.{tests}
use Rattle.ken_check.proofs.Wording.{draws_of_none, part_is_number, parts_of_draws, same_numbers}
use Rattle.ken_check.proofs.words.draws_in.Goals as goal

pub returns-then-eq : goal.returns-then-eq
returns-then-eq c = λ ds words at.
    let is_none = (bytes_eq-Decides c.args.word.now c.as_slice.result.now).0 (sym c.eq.ensures ∙ c.if-eq.true) ∙ c.as_slice.ensures in
    ap (λ (xs : List ℕ). Some xs) (c.new-draws.ensures.items ∙ sym (draws_of_none ds words (sym at ∙ is_none)))

pub loop-part-init : goal.loop-part-init
loop-part-init c = record {
  words = subst (AllByRecursion IsWord) (sym c.new-draws.ensures.items) tt;
  parts = ap (map decimal) c.new-draws.ensures.items;
}

pub loop-part-preserved : goal.loop-part-preserved
loop-part-preserved c =
    let draw : decimal c.in-Some-decimal.draw ≡ c.in-Some.part.now = c.in-Some-decimal.ensures in
    let word : IsWord c.in-Some-decimal.draw = search (rules, c.decimal.type_inv) in
    record {
      words = subst (AllByRecursion IsWord) (sym c.in_ok-push.ensures.items) (all-push IsWord c.loop-part.draws.items c.in-Some-decimal.draw c.loop-part.invariant.words word);
      parts = ap (map decimal) c.in_ok-push.ensures.items ∙ map-append _ _ _ ∙ ap₂ (λ (a b : List (List ℕ)). a ++ b) c.loop-part.invariant.parts (ap (λ (w : List ℕ). w ∷ []) draw) ∙ sym (map-append _ _ _);
    }

pub returns-in_default : goal.returns-in_default
returns-in_default c = λ ds words at.
    let other : c.args.word.now ≡ codes "-" → ⊥ = λ is. (let differ : true ≡ false = sym ((bytes_eq-Decides c.args.word.now c.as_slice.result.now).1 (is ∙ sym c.as_slice.ensures)) ∙ sym c.eq.ensures ∙ c.if-eq.false in absurd cc) in
    let parts = parts_of_draws ds words c.args.word.now at other in
    let t = YieldsList-turn (YieldsList-at c.into_iter-part-iterator.ensures.into_iter_gives (YieldsList-from_slice_split _ (λ b. b == 44) c.args.word.now c.split-part-items.ensures.rest c.split-part-items.ensures.done c.split-part-items.ensures.closure (λ x b q k. search (rules, tests)))) c.loop-part.yielded _ c.loop-part.yielded_by _ _ c.in-Some.part c.in-Some.is c.next.ensures.steps in
    let k = length c.loop-part.yielded in
    let w = c.in-Some.part.now in
    absurd (part_is_number ds words k w (subst (λ (l : List (List ℕ)). k < length l) parts t.0) (subst (λ (l : List (List ℕ)). w ≡ get_or l k w) parts t.1) c.in_default.ensures)

pub returns : goal.returns
returns c = λ ds words at.
    let other : c.args.word.now ≡ codes "-" → ⊥ = λ is. (let differ : true ≡ false = sym ((bytes_eq-Decides c.args.word.now c.as_slice.result.now).1 (is ∙ sym c.as_slice.ensures)) ∙ sym c.eq.ensures ∙ c.if-eq.false in absurd cc) in
    let parts = parts_of_draws ds words c.args.word.now at other in
    let t = YieldsList-end (YieldsList-at c.into_iter-part-iterator.ensures.into_iter_gives (YieldsList-from_slice_split _ (λ b. b == 44) c.args.word.now c.split-part-items.ensures.rest c.split-part-items.ensures.done c.split-part-items.ensures.closure (λ x b q k. search (rules, tests)))) c.loop-part.yielded _ c.loop-part.yielded_by _ _ c.in-None.is c.next.ensures.steps in
    ap (λ (xs : List ℕ). Some xs) (same_numbers c.loop-part.draws.items ds c.loop-part.invariant.words words (c.loop-part.invariant.parts ∙ t.0 ∙ parts))
