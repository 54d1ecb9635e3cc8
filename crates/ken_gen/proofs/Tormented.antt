-- A script with faults of a seed keeps the rules, and no node has more than it can bear because of them.
use Rattle.std.proofs.Common.{◌≡◌, ◌∙◌, ◌⊎◌, inl, inr, ℕ, ◌+◌, ◌-◌, ◌^◌, ◌<◌, ◌≤◌, ◌==◌, ◌&&◌, nat_lt, List, [], ◌∷◌, ◌++◌, length, filter, Bool, true, false, if◌then◌else◌, refl, sym, ap, subst, lit≤, lit<, arith, ltb-true}
use Rattle.std.specs.List.{count_by}
use Rattle.std.proofs.Math.Pow.{pow_mono}
use Rattle.std.proofs.lemmas.Bool.{eqb-true}
use Rattle.std.proofs.lemmas.List.{append-nil, length-append}
use Rattle.std.proofs.lemmas.List.Elements.{filter-append}
use Rattle.std.proofs.lemmas.List.Sums.{length-filter}
use Rattle.ken_net.specs.declared.act.LinkAct.{LinkAct}
use Rattle.ken_script.specs.declared.scripts.DiskCut.{DiskCut}
use Rattle.ken_script.specs.declared.scripts.OutFail.{OutFail}
use Rattle.ken_script.specs.declared.scripts.Script.{Script}
use Rattle.ken_script.specs.declared.scripts.TheConstants.{DISKS, MAX_COUNT, MAX_CUTS, MAX_OUT_FAILS}
use Rattle.ken_script.specs.Within.{IsShortAct, KeepsRules}
use Rattle.ken_gen.specs.Draws.{drawn, past}
use Rattle.ken_gen.specs.Mishaps.{is_same_call}
use Rattle.ken_gen.specs.Torments.{added, is_free, is_same_try, items_from, may_act, may_cut, may_refuse, past_items, past_refusal, past_wide, past_wide_act, past_wide_cut, refusal, tormented, wide, wide_act, wide_cut}
use Rattle.ken_gen.specs.TormentLaws.{HasFewOrThose, TormentAddsFew}
use Rattle.ken_gen.proofs.Keeps.{act_at_short, drawn_below}
use Rattle.ken_gen.proofs.Drawn.{all_added, all_items}

-- ---- the rules of a script

wide_most : (least most x : ℕ) → least ≤ most → wide least most x ≤ 2 ^ most
unfolding wide
wide_most least most x order =
    let w : ℕ = least + drawn (most + 1 - least) x in
    let narrow : drawn (most + 1 - least) x < most + 1 - least = drawn_below (most + 1 - least) x (omega arith) in
    let less : w ≤ most = omega arith in
    let some : 2 ^ 0 ≤ 2 ^ w = pow_mono {i = 0} {j = w} (omega arith) in
    omega (arith, drawn_below (2 ^ w) (past x) some, pow_mono {i = w} {j = most} less)

abbrev IsCutOf : ℕ → DiskCut → Type 0
IsCutOf nodes c = (c.node < nodes) × (c.disk < DISKS)

abbrev IsActOf : ℕ → LinkAct → Type 0
IsActOf nodes a = (a.from < nodes) × (a.to < nodes) × (a.n ≤ MAX_COUNT) × IsShortAct a.act

abbrev IsFailOf : ℕ → OutFail → Type 0
IsFailOf nodes f = (f.node < nodes) × (f.call ≤ MAX_COUNT)

cut_within : (nodes : ℕ) → 0 < nodes → (x : ℕ) → IsCutOf nodes (wide_cut nodes x)
unfolding wide_cut
cut_within nodes some x = (drawn_below nodes x some, drawn_below 3 (past x) (lit< tt))

act_within : (nodes : ℕ) → 0 < nodes → (x : ℕ) → IsActOf nodes (wide_act nodes x)
unfolding wide_act
act_within nodes some x =
    let put = wide_most 1 7 (past (past x)) (lit≤ tt) in
    (drawn_below nodes x some, drawn_below nodes (past x) some, omega (arith, put), act_at_short (past_wide (past (past x))))

fail_within : (nodes : ℕ) → 0 < nodes → (x : ℕ) → IsFailOf nodes (refusal nodes x)
unfolding refusal
fail_within nodes some x = let call = wide_most 1 5 (past x) (lit≤ tt) in (drawn_below nodes x some, omega (arith, call))

pub keeps_rules : (seed : ℕ) (script : Script) → KeepsRules script → KeepsRules (tormented seed script)
keeps_rules seed script keeps =
    let nodes : ℕ = script.facts.nodes in
    let some : 0 < nodes = keeps.limits.some_node in
    let at_mail : ℕ = past_items past_wide_cut 12 seed in
    let at_acks : ℕ = past_items past_wide_act 32 at_mail in
    let at_outlets : ℕ = past_items past_wide_act 16 at_acks in
    record {
      limits = keeps.limits;
      plain = keeps.plain;
      rounds = keeps.rounds;
      restarts = keeps.restarts;
      cuts = all_added (IsCutOf nodes) (may_cut script.restarts) script.cuts (items_from (wide_cut nodes) past_wide_cut 12 seed) keeps.cuts
          (all_items (IsCutOf nodes) (wide_cut nodes) past_wide_cut (cut_within nodes some) 12 seed);
      mail = all_added (IsActOf nodes) may_act script.mail (items_from (wide_act nodes) past_wide_act 32 at_mail) keeps.mail
          (all_items (IsActOf nodes) (wide_act nodes) past_wide_act (act_within nodes some) 32 at_mail);
      acks = all_added (IsActOf nodes) may_act script.acks (items_from (wide_act nodes) past_wide_act 16 at_acks) keeps.acks
          (all_items (IsActOf nodes) (wide_act nodes) past_wide_act (act_within nodes some) 16 at_acks);
      outlets = all_added (IsFailOf nodes) may_refuse script.outlets (items_from (refusal nodes) past_refusal 8 at_outlets) keeps.outlets
          (all_items (IsFailOf nodes) (refusal nodes) past_refusal (fail_within nodes some) 8 at_outlets);
    }

-- ---- no more than a node can bear

-- a rule that adds an item of a kind only where fewer than so many stand there
abbrev IsSparing : {T : Type 0} → (T → Bool) → ℕ → (List T → T → Bool) → Type 0
IsSparing {T} is_of most may = (there : List T) (x : T) → may there x ≡ true → is_of x ≡ true → length (filter is_of there) < most

one_more : {T : Type 0} (is_of : T → Bool) (most : ℕ) (earlier there : List T) (x : T) → (is_of x ≡ true → length (filter is_of there) < most)
    → HasFewOrThose is_of most earlier there → HasFewOrThose is_of most earlier (there ++ x ∷ [])
one_more is_of most earlier there x few had = go (is_of x) refl
  where
    behind : (b : Bool) → is_of x ≡ b → filter is_of (there ++ x ∷ []) ≡ filter is_of there ++ (if b then x ∷ [] else [])
    behind b is = filter-append is_of there (x ∷ []) ∙ ap (λ c. filter is_of there ++ (if c then x ∷ [] else [])) is

    go : (b : Bool) → is_of x ≡ b → HasFewOrThose is_of most earlier (there ++ x ∷ [])
    go true is = inl (omega (arith, few is, ap length (behind true is), length-append (filter is_of there) (x ∷ [])))
    go false is = subst (λ ys. (length ys ≤ most) ⊎ (ys ≡ filter is_of earlier)) (sym (behind false is ∙ append-nil (filter is_of there))) had

few_or_those : {T : Type 0} (is_of : T → Bool) (most : ℕ) (may : List T → T → Bool) → IsSparing is_of most may → (earlier there xs : List T)
    → HasFewOrThose is_of most earlier there → HasFewOrThose is_of most earlier (added may there xs)
unfolding added
few_or_those is_of most may sparing earlier there [] had = had
few_or_those is_of most may sparing earlier there (x ∷ xs) had =
    few_or_those is_of most may sparing earlier (if may there x then there ++ x ∷ [] else there) xs (go (may there x) refl)
  where
    go : (b : Bool) → may there x ≡ b → HasFewOrThose is_of most earlier (if b then there ++ x ∷ [] else there)
    go true can = one_more is_of most earlier there x (sparing there x can) had
    go false cannot = had

right : (a b : Bool) → (a && b) ≡ true → b ≡ true
right true b is = is
right false b is = absurd cc

cuts_spare : (v restarts : ℕ) → IsSparing (λ (c : DiskCut). c.node == v) restarts (may_cut restarts)
cuts_spare v restarts there cut may own =
    let few = ltb-true _ _ (right (is_free is_same_call MAX_CUTS there cut) (nat_lt (count_by (λ (c : DiskCut). c.node == cut.node) there) restarts) may) in
    subst (λ u. length (filter (λ (c : DiskCut). c.node == u) there) < restarts) (eqb-true cut.node v own)
    (subst (λ n. n < restarts) (sym (length-filter (λ (c : DiskCut). c.node == cut.node) there)) few)

refusals_spare : (v : ℕ) → IsSparing (λ (f : OutFail). f.node == v) 64 may_refuse
refusals_spare v there fail may own =
    let few = ltb-true _ _ (right (is_free is_same_try MAX_OUT_FAILS there fail) (nat_lt (count_by (λ (f : OutFail). f.node == fail.node) there) 64) may) in
    subst (λ u. length (filter (λ (f : OutFail). f.node == u) there) < 64) (eqb-true fail.node v own)
    (subst (λ n. n < 64) (sym (length-filter (λ (f : OutFail). f.node == fail.node) there)) few)

pub adds_few : TormentAddsFew
adds_few seed script v =
    let nodes : ℕ = script.facts.nodes in
    let at_outlets : ℕ = past_items past_wide_act 16 (past_items past_wide_act 32 (past_items past_wide_cut 12 seed)) in
    record {
      cuts = few_or_those (λ (c : DiskCut). c.node == v) script.restarts (may_cut script.restarts) (cuts_spare v script.restarts) script.cuts script.cuts
          (items_from (wide_cut nodes) past_wide_cut 12 seed) (inr refl);
      outlets = few_or_those (λ (f : OutFail). f.node == v) 64 may_refuse (refusals_spare v) script.outlets script.outlets
          (items_from (refusal nodes) past_refusal 8 at_outlets) (inr refl);
    }
