-- Cuts by their calls, as a loop from the last one comes to them.
use Rattle.std.proofs.Common.{◌≡◌, ℕ, ◌+◌, ◌-◌, ◌<◌, ◌≤◌, cond, List, [], ◌∷◌, length, get_or, drop, Option, Some, sym, ap, ◌∙◌, arith}
use Rattle.std.proofs.lemmas.Grind.{common_steps}
use Rattle.std.proofs.lemmas.List.{drop_more}
use Rattle.std.specs.declared.cmp.Ordering.{Ordering}
use Rattle.std.specs.declared.cmp.Ordering.TheVariants.{Less, Equal, Greater}
use Rattle.std.specs.Ordering.{nat_cmp, match_ordering}
use Rattle.std.specs.BTreeMap.{insert_entry, is_at}
use Rattle.ken_memdisk.specs.declared.cut.Cut.{Cut}
use Rattle.ken_memdisk.specs.Calls.{by_call, first_pick}

chosen : (o : Ordering) (e : ℕ × ℕ) (es others : List (ℕ × ℕ)) (k v : ℕ) → length others ≤ 1 + length es → length (match_ordering o ((k, v) ∷ e ∷ es) ((e.0, v) ∷ es) (e ∷ others)) ≤ 2 + length es
chosen Less e es others k v few = omega arith
chosen Equal e es others k v few = omega arith
chosen Greater e es others k v few = omega (arith, few)

-- one more at most
pub length-insert : (es : List (ℕ × ℕ)) (k v : ℕ) → length (insert_entry nat_cmp es k v) ≤ 1 + length es
length-insert [] k v = omega arith
length-insert (e ∷ es) k v =
    let more = chosen (nat_cmp k e.0) e es (insert_entry nat_cmp es k v) k v (length-insert es k v) in
    omega (arith, more)

abbrev pub none : Cut
none = record { call = 0; pick = 0 }

-- the first of these cuts counts
first_of_more : (cut : Cut) (cuts : List Cut) (call : ℕ) → cond (is_at (nat_cmp cut.call) call) (Some cut.pick) (first_pick cuts call) ≡ first_pick (cut ∷ cuts) call
first_of_more cut cuts call = grind (arith, common_steps)

module _ (cuts : List Cut) (place : ℕ) (some : 1 ≤ place) (within : place ≤ length cuts) where
  abbrev here : Cut
  here = get_or cuts (place - 1) none

  pub one_before : drop (place - 1) cuts ≡ here ∷ drop place cuts
  one_before =
      let inside : place - 1 < length cuts = omega (arith, some, within) in
      let next : place - 1 + 1 ≡ place = omega (arith, some) in
      drop_more cuts (place - 1) none inside ∙ ap (λ (n : ℕ). here ∷ drop n cuts) next

  pub entries_before : (es more : List (ℕ × ℕ)) → es ≡ by_call (drop place cuts) → more ≡ insert_entry nat_cmp es here.call here.pick → more ≡ by_call (drop (place - 1) cuts)
  entries_before es more is inserted = inserted ∙ ap (λ (l : List (ℕ × ℕ)). insert_entry nat_cmp l here.call here.pick) is ∙ ap by_call (sym one_before)

  pub first_before : (call : ℕ) (old new : Option ℕ) → old ≡ first_pick (drop place cuts) call → new ≡ cond (is_at (nat_cmp here.call) call) (Some here.pick) old → new ≡ first_pick (drop (place - 1) cuts) call
  first_before call old new is inserted =
      inserted
      ∙ ap (λ (o : Option ℕ). cond (is_at (nat_cmp here.call) call) (Some here.pick) o) is
      ∙ first_of_more here (drop place cuts) call
      ∙ ap (λ (l : List Cut). first_pick l call) (sym one_before)

  pub few_before : (es more : List (ℕ × ℕ)) → place + length es ≤ length cuts → more ≡ insert_entry nat_cmp es here.call here.pick → place - 1 + length more ≤ length cuts
  few_before es more few inserted =
      omega (arith, some, few, ap length inserted, length-insert es here.call here.pick)
