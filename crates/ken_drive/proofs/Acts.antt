-- The acts of a script that keeps the rules.
use Rattle.std.proofs.Common.{◌≡◌, ℕ, ◌-◌, ◌^◌, ◌≤◌, ◌==◌, ◌&&◌, List, [], ◌∷◌, Bool, true, false, cond, Option, Some, None, option_map, refl, subst, arith}
use Rattle.std.proofs.lemmas.Bool.Decides.{nat_tests}
use Rattle.std.specs.List.{find}
use Rattle.ken_net.specs.declared.act.Act.{Act}
use Rattle.ken_net.specs.declared.act.Act.TheVariants.{Hold}
use Rattle.ken_net.specs.declared.act.LinkAct.{LinkAct}
use Rattle.ken_net.specs.Acts.{act_of, is_on}
use Rattle.ken_script.specs.declared.scripts.Script.{Script}
use Rattle.ken_script.specs.declared.scripts.TheConstants.{MAX_COUNT}
use Rattle.ken_script.specs.Within.{AreActsOf, IsShortAct, KeepsRules}
use Rattle.ken_drive.specs.Starting.{AreModestOf, HasModestActs}

same-n : (x : Bool) (m n : ℕ) → (x && (m == n)) ≡ true → m ≡ n
same-n true m n e = grind (arith, nat_tests)
same-n false m n e = absurd cc

one-found : (b : Bool) (a : LinkAct) (rest : Option LinkAct) (n : ℕ) (act : Act) → (b ≡ true → a.n ≡ n) → a.n ≤ MAX_COUNT → IsShortAct a.act → (option_map (λ (x : LinkAct). x.act) rest ≡ Some act → (n ≤ MAX_COUNT) × IsShortAct act)
    → option_map (λ (x : LinkAct). x.act) (cond b (Some a) rest) ≡ Some act → (n ≤ MAX_COUNT) × IsShortAct act
one-found true a rest n act at few short others e = let same : a.act ≡ act = cc in (subst (λ (k : ℕ). k ≤ MAX_COUNT) (at refl) few, subst IsShortAct same short)
one-found false a rest n act at few short others e = others e

-- an act that is found for a put is for one within the range of counts, and holds a packet for a short time
found-within : (nodes from to n : ℕ) (acts : List LinkAct) (act : Act) → AreActsOf nodes acts → act_of acts from to n ≡ Some act → (n ≤ MAX_COUNT) × IsShortAct act
found-within nodes from to n [] act all e = absurd cc
found-within nodes from to n (a ∷ more) act all e =
    one-found (is_on from to a && (a.n == n)) a (find (λ (x : LinkAct). is_on from to x && (x.n == n)) more) n act (same-n (is_on from to a) a.n n) all.0.2 all.0.3 (found-within nodes from to n more act all.1) e

none-of : (o : Option Act) → ((act : Act) → o ≡ Some act → ⊥) → o ≡ None
none-of None never = refl
none-of (Some act) never = absurd (never act refl)

acts-modest : (nodes : ℕ) (acts : List LinkAct) → AreActsOf nodes acts → AreModestOf acts
acts-modest nodes acts all = record {
  none_last = λ from to. none-of (act_of acts from to (2 ^ 64 - 1)) (λ act is. let few : 2 ^ 64 - 1 ≤ MAX_COUNT = (found-within nodes from to (2 ^ 64 - 1) acts act all is).0 in absurd (omega (arith, few)));
  holds = λ from to n k is. let short : IsShortAct (Hold k) = (found-within nodes from to n acts (Hold k) all is).1 in omega (arith, short);
}

pub script-modest : (s : Script) → KeepsRules s → HasModestActs s
script-modest s rules = (acts-modest s.facts.nodes s.mail rules.mail, acts-modest s.facts.nodes s.acks rules.acks)
