-- Two workers that each heard the other first have no order.
use Rattle.std.proofs.Common.{◌≡◌, ℕ, ◌+◌, ◌≤◌, List, [], ◌∷◌, ◌++◌, Bool, true, false, refl, sym, ap, ◌∙◌, subst, arith}
use Rattle.std.specs.List.{AllByRecursion}
use Rattle.ken_weave.specs.Workers.{none, then, Counts, Tells, Waits, AreFronts}
use Rattle.ken_weave.specs.Orders.{Woven, done, turns, patches, sends}
use Rattle.ken_weave.specs.Laws.{KeepRules}
use Rattle.ken_weave.specs.Crossing.{once, never, first, ends, hushed, idle, HaveCrossed, StepsMayNotWeave}

counts : Counts once ends
counts = record {
  turns = λ a b s. (1 ∷ [], (ap first s.1 ∙ ap (λ l. l ++ 1 ∷ []) (sym (ap first s.0)), ap ends.turns s.1 ∙ ap (λ n. n + 1) (sym (ap ends.turns s.0))));
  news = λ a b s. (1 ∷ [], ap first s.1 ∙ ap (λ l. l ++ 1 ∷ []) (sym (ap first s.0)));
}

tells : Tells once ends (λ (n : ℕ). n)
tells a b s news e =
    let is : 1 ∷ [] ≡ news = sym (ap first s.1) ∙ e ∙ ap (λ l. l ++ news) (ap first s.0) in
    let one : ends.turns b ≤ 1 = omega (arith, ap ends.turns s.1) in
    subst (λ l. AllByRecursion (λ (n : ℕ). ends.turns b ≤ n) l) is (one, tt)

counts_hushed : Counts once hushed
counts_hushed = record { turns = counts.turns; news = λ a b s. ([], refl) }

waits_hushed : Waits once hushed (λ (n : ℕ). n)
waits_hushed a b s news e = subst (λ l. AllByRecursion (λ (n : ℕ). n ≤ hushed.turns a) l) e tt

rules : KeepRules once once never ends ends hushed idle (λ (n : ℕ). n) (λ (n : ℕ). n)
rules = record {
  hands_pages = counts;
  hands_sealed = counts_hushed;
  patches = counts;
  sends = record { turns = λ a b s. absurd s; news = λ a b s. absurd s };
  settled = tells;
  progress = λ a b s news e. absurd s;
}

not_front : (t p : Bool) → t ≡ true → p ≡ false → AreFronts ends ends t p → ⊥
not_front t p e f fronts =
    let told = sym (ap first f) ∙ fronts.told.1 ∙ ap (λ l. l ++ fronts.told.0) (ap first e) in absurd cc

not_handed : (t p : Bool) → t ≡ false → p ≡ true → AreFronts ends ends t p → ⊥
not_handed t p e f fronts =
    let handed = sym (ap first e) ∙ fronts.handed.1 ∙ ap (λ l. l ++ fronts.handed.0) (ap first f) in absurd cc

no_order : (t t2 p p2 s s2 : Bool) (ts ps ss : List Bool) → t ≡ false → t2 ≡ true → p ≡ false → Woven once once never HaveCrossed t p s ts ps ss t2 p2 s2 → ⊥
no_order t t2 p p2 s s2 ts ps ss e e2 f done = absurd cc
no_order t t2 p p2 s s2 ts ps ss e e2 f (turns {t2 = mid} one fact rest) = not_front mid p one.1 f fact.0
no_order t t2 p p2 s s2 ts ps ss e e2 f (patches {p2 = mid} one fact rest) = not_handed t mid e one.1 fact.0
no_order t t2 p p2 s s2 ts ps ss e e2 f (sends {s2 = mid} one fact rest) = one

pub may_not : StepsMayNotWeave
may_not = record {
  rules = rules;
  waits = waits_hushed;
  turn = then (refl, refl) none;
  patch = then (refl, refl) none;
  send = none;
  in_step = (refl, refl);
  starts = (record { handed = ([], refl); told = ([], refl) }, record { handed = ([], refl); told = ([], refl) });
  stops = (record { handed = ([], refl); told = ([], refl) }, record { handed = (1 ∷ [], refl); told = ([], refl) });
  no_order = no_order false true false true false false (true ∷ []) (true ∷ []) [] refl refl refl;
}
