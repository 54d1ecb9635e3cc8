-- The steps of the loops that draw lists: what was made so far, with what is still to be made, is the whole list.
use Rattle.std.proofs.Common.{◌≡◌, ℕ, suc, ◌+◌, ◌-◌, ◌<◌, ◌≤◌, List, [], ◌∷◌, ◌++◌, Bool, true, false, refl, sym, ap, ◌∙◌, append_assoc, arith}
use Rattle.std.specs.List.{list_any}
use Rattle.std.proofs.lemmas.List.{append-nil}
use Rattle.ken_model.specs.declared.facts.Input.{Input}
use Rattle.ken_net.specs.declared.act.LinkAct.{LinkAct}
use Rattle.ken_script.specs.declared.scripts.DiskCut.{DiskCut}
use Rattle.ken_gen.specs.Inputs.{input_at, past_input, inputs_from, past_inputs}
use Rattle.ken_gen.specs.Mishaps.{without_repeats, cut_at, past_cut, cuts_from, past_cuts, is_same_call, link_act_at, past_link_act, acts_from, past_acts, is_same_put}

-- ---- lists

push_on : {T : Type 0} (xs : List T) (y : T) (rest ys whole : List T) → rest ≡ y ∷ ys → xs ++ rest ≡ whole → (xs ++ y ∷ []) ++ ys ≡ whole
push_on xs y rest ys whole is e = append_assoc xs (y ∷ []) ys ∙ ap (λ r. xs ++ r) (sym is) ∙ e

skipped : {T : Type 0} (is_same : T → T → Bool) (kept : List T) (x : T) (xs : List T) → list_any (is_same x) kept ≡ true → without_repeats is_same kept (x ∷ xs) ≡ without_repeats is_same kept xs
unfolding without_repeats
skipped is_same kept x xs had = rw had refl

kept : {T : Type 0} (is_same : T → T → Bool) (earlier : List T) (x : T) (xs : List T) → list_any (is_same x) earlier ≡ false → without_repeats is_same earlier (x ∷ xs) ≡ x ∷ without_repeats is_same (earlier ++ x ∷ []) xs
unfolding without_repeats
kept is_same earlier x xs had_not = rw had_not refl

none_kept : {T : Type 0} (is_same : T → T → Bool) (earlier xs : List T) → xs ≡ [] → without_repeats is_same earlier xs ≡ []
unfolding without_repeats
none_kept is_same earlier xs is = rw is refl

-- ---- inputs

inputs_next : (nodes count made x : ℕ) → made < count → inputs_from nodes (count - made) x ≡ input_at nodes x ∷ inputs_from nodes (count - (made + 1)) (past_input x)
unfolding inputs_from
inputs_next nodes count made x less = let e : count - made ≡ suc (count - (made + 1)) = omega arith in rw e refl

pub inputs_done : (nodes count made x : ℕ) (inputs : List Input) → count ≤ made → inputs ++ inputs_from nodes (count - made) x ≡ inputs
unfolding inputs_from
inputs_done nodes count made x inputs over = let e : count - made ≡ 0 = omega arith in rw e (append-nil inputs)

pub inputs_on : (nodes count made x : ℕ) (inputs whole : List Input) → made < count → inputs ++ inputs_from nodes (count - made) x ≡ whole → (inputs ++ input_at nodes x ∷ []) ++ inputs_from nodes (count - (made + 1)) (past_input x) ≡ whole
inputs_on nodes count made x inputs whole less e = push_on inputs (input_at nodes x) (inputs_from nodes (count - made) x) (inputs_from nodes (count - (made + 1)) (past_input x)) whole (inputs_next nodes count made x less) e

pub past_inputs_on : (count made x : ℕ) → made < count → past_inputs (count - made) x ≡ past_inputs (count - (made + 1)) (past_input x)
unfolding past_inputs
past_inputs_on count made x less = let e : count - made ≡ suc (count - (made + 1)) = omega arith in rw e refl

pub past_inputs_done : (count made x : ℕ) → count ≤ made → past_inputs (count - made) x ≡ x
unfolding past_inputs
past_inputs_done count made x over = let e : count - made ≡ 0 = omega arith in rw e refl

-- ---- cuts

cuts_next : (nodes count made x : ℕ) → made < count → cuts_from nodes (count - made) x ≡ cut_at nodes x ∷ cuts_from nodes (count - (made + 1)) (past_cut x)
unfolding cuts_from
cuts_next nodes count made x less = let e : count - made ≡ suc (count - (made + 1)) = omega arith in rw e refl

cuts_none : (nodes count made x : ℕ) → count ≤ made → cuts_from nodes (count - made) x ≡ []
unfolding cuts_from
cuts_none nodes count made x over = let e : count - made ≡ 0 = omega arith in rw e refl

pub cuts_skip : (nodes count made x : ℕ) (cuts whole : List DiskCut) → made < count → list_any (is_same_call (cut_at nodes x)) cuts ≡ true
    → cuts ++ without_repeats is_same_call cuts (cuts_from nodes (count - made) x) ≡ whole
    → cuts ++ without_repeats is_same_call cuts (cuts_from nodes (count - (made + 1)) (past_cut x)) ≡ whole
cuts_skip nodes count made x cuts whole less had e =
    ap (λ r. cuts ++ r) (sym (ap (without_repeats is_same_call cuts) (cuts_next nodes count made x less) ∙ skipped is_same_call cuts (cut_at nodes x) (cuts_from nodes (count - (made + 1)) (past_cut x)) had)) ∙ e

pub cuts_on : (nodes count made x : ℕ) (cuts whole : List DiskCut) → made < count → list_any (is_same_call (cut_at nodes x)) cuts ≡ false
    → cuts ++ without_repeats is_same_call cuts (cuts_from nodes (count - made) x) ≡ whole
    → (cuts ++ cut_at nodes x ∷ []) ++ without_repeats is_same_call (cuts ++ cut_at nodes x ∷ []) (cuts_from nodes (count - (made + 1)) (past_cut x)) ≡ whole
cuts_on nodes count made x cuts whole less had_not e =
    push_on cuts (cut_at nodes x) (without_repeats is_same_call cuts (cuts_from nodes (count - made) x)) (without_repeats is_same_call (cuts ++ cut_at nodes x ∷ []) (cuts_from nodes (count - (made + 1)) (past_cut x))) whole (ap (without_repeats is_same_call cuts) (cuts_next nodes count made x less) ∙ kept is_same_call cuts (cut_at nodes x) (cuts_from nodes (count - (made + 1)) (past_cut x)) had_not) e

pub cuts_done : (nodes count made x : ℕ) (cuts : List DiskCut) → count ≤ made → cuts ++ without_repeats is_same_call cuts (cuts_from nodes (count - made) x) ≡ cuts
cuts_done nodes count made x cuts over = ap (λ r. cuts ++ r) (none_kept is_same_call cuts (cuts_from nodes (count - made) x) (cuts_none nodes count made x over)) ∙ append-nil cuts

pub past_cuts_on : (count made x : ℕ) → made < count → past_cuts (count - made) x ≡ past_cuts (count - (made + 1)) (past_cut x)
unfolding past_cuts
past_cuts_on count made x less = let e : count - made ≡ suc (count - (made + 1)) = omega arith in rw e refl

pub past_cuts_done : (count made x : ℕ) → count ≤ made → past_cuts (count - made) x ≡ x
unfolding past_cuts
past_cuts_done count made x over = let e : count - made ≡ 0 = omega arith in rw e refl

-- ---- acts

acts_next : (nodes count made x : ℕ) → made < count → acts_from nodes (count - made) x ≡ link_act_at nodes x ∷ acts_from nodes (count - (made + 1)) (past_link_act x)
unfolding acts_from
acts_next nodes count made x less = let e : count - made ≡ suc (count - (made + 1)) = omega arith in rw e refl

acts_none : (nodes count made x : ℕ) → count ≤ made → acts_from nodes (count - made) x ≡ []
unfolding acts_from
acts_none nodes count made x over = let e : count - made ≡ 0 = omega arith in rw e refl

pub acts_skip : (nodes count made x : ℕ) (acts whole : List LinkAct) → made < count → list_any (is_same_put (link_act_at nodes x)) acts ≡ true
    → acts ++ without_repeats is_same_put acts (acts_from nodes (count - made) x) ≡ whole
    → acts ++ without_repeats is_same_put acts (acts_from nodes (count - (made + 1)) (past_link_act x)) ≡ whole
acts_skip nodes count made x acts whole less had e =
    ap (λ r. acts ++ r) (sym (ap (without_repeats is_same_put acts) (acts_next nodes count made x less) ∙ skipped is_same_put acts (link_act_at nodes x) (acts_from nodes (count - (made + 1)) (past_link_act x)) had)) ∙ e

pub acts_on : (nodes count made x : ℕ) (acts whole : List LinkAct) → made < count → list_any (is_same_put (link_act_at nodes x)) acts ≡ false
    → acts ++ without_repeats is_same_put acts (acts_from nodes (count - made) x) ≡ whole
    → (acts ++ link_act_at nodes x ∷ []) ++ without_repeats is_same_put (acts ++ link_act_at nodes x ∷ []) (acts_from nodes (count - (made + 1)) (past_link_act x)) ≡ whole
acts_on nodes count made x acts whole less had_not e =
    push_on acts (link_act_at nodes x) (without_repeats is_same_put acts (acts_from nodes (count - made) x)) (without_repeats is_same_put (acts ++ link_act_at nodes x ∷ []) (acts_from nodes (count - (made + 1)) (past_link_act x))) whole (ap (without_repeats is_same_put acts) (acts_next nodes count made x less) ∙ kept is_same_put acts (link_act_at nodes x) (acts_from nodes (count - (made + 1)) (past_link_act x)) had_not) e

pub acts_done : (nodes count made x : ℕ) (acts : List LinkAct) → count ≤ made → acts ++ without_repeats is_same_put acts (acts_from nodes (count - made) x) ≡ acts
acts_done nodes count made x acts over = ap (λ r. acts ++ r) (none_kept is_same_put acts (acts_from nodes (count - made) x) (acts_none nodes count made x over)) ∙ append-nil acts

pub past_acts_on : (count made x : ℕ) → made < count → past_acts (count - made) x ≡ past_acts (count - (made + 1)) (past_link_act x)
unfolding past_acts
past_acts_on count made x less = let e : count - made ≡ suc (count - (made + 1)) = omega arith in rw e refl

pub past_acts_done : (count made x : ℕ) → count ≤ made → past_acts (count - made) x ≡ x
unfolding past_acts
past_acts_done count made x over = let e : count - made ≡ 0 = omega arith in rw e refl
