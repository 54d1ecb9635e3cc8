-- The acts of a link by their numbers, as a loop from the last one comes to them.
use Rattle.std.proofs.Common.{◌≡◌, ℕ, ◌+◌, ◌-◌, ◌<◌, ◌≤◌, cond, List, ◌∷◌, length, get_or, drop, Option, Some, sym, ap, ◌∙◌, arith}
use Rattle.std.proofs.lemmas.Grind.{common_steps}
use Rattle.std.proofs.lemmas.List.{drop_more}
use Rattle.std.specs.Ordering.{nat_cmp}
use Rattle.std.specs.BTreeMap.{is_at}
use Rattle.ken_net.specs.declared.act.Act.{Act}
use Rattle.ken_net.specs.declared.act.Act.TheVariants.{Lose}
use Rattle.ken_net.specs.declared.act.LinkAct.{LinkAct}
use Rattle.ken_net.specs.Acts.{act_of}

abbrev pub no_act : LinkAct
no_act = record { from = 0; to = 0; n = 0; act = Lose }

-- the first of several counts
first_of_more : (a : LinkAct) (acts : List LinkAct) (from to n : ℕ) → a.from ≡ from → a.to ≡ to
    → cond (is_at (nat_cmp a.n) n) (Some a.act) (act_of acts from to n) ≡ act_of (a ∷ acts) from to n
first_of_more a acts from to n on_from on_to = grind (arith, common_steps)

pub one_before : (acts : List LinkAct) (place from to n : ℕ) (old new : Option Act) → 1 ≤ place → place ≤ length acts
    → (get_or acts (place - 1) no_act).from ≡ from → (get_or acts (place - 1) no_act).to ≡ to → old ≡ act_of (drop place acts) from to n
    → new ≡ cond (is_at (nat_cmp (get_or acts (place - 1) no_act).n) n) (Some (get_or acts (place - 1) no_act).act) old
    → new ≡ act_of (drop (place - 1) acts) from to n
one_before acts place from to n old new some within on_from on_to is inserted =
    let here : LinkAct = get_or acts (place - 1) no_act in
    let inside : place - 1 < length acts = omega (arith, some, within) in
    let next : place - 1 + 1 ≡ place = omega (arith, some) in
    let parts : drop (place - 1) acts ≡ here ∷ drop place acts = drop_more acts (place - 1) no_act inside ∙ ap (λ (k : ℕ). here ∷ drop k acts) next in
    inserted
    ∙ ap (λ (o : Option Act). cond (is_at (nat_cmp here.n) n) (Some here.act) o) is
    ∙ first_of_more here (drop place acts) from to n on_from on_to
    ∙ ap (λ (l : List LinkAct). act_of l from to n) (sym parts)
