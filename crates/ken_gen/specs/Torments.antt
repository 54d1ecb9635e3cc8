-- A script with faults of a seed: what is drawn, and what of it is put behind the script's own faults.
use Rattle.std.specs.Prelude.{ℕ, zero, suc, ◌+◌, ◌-◌, ◌^◌, ◌==◌, ◌&&◌, not, nat_lt, List, [], ◌∷◌, ◌++◌, length, Bool, if◌then◌else◌}
use Rattle.std.specs.List.{count_by, list_any}
use Rattle.ken_net.specs.declared.act.LinkAct.{LinkAct}
use Rattle.ken_script.specs.declared.scripts.DiskCut.{DiskCut}
use Rattle.ken_script.specs.declared.scripts.OutFail.{OutFail}
use Rattle.ken_script.specs.declared.scripts.Script.{Script}
use Rattle.ken_script.specs.declared.scripts.TheConstants.{MAX_ACTS, MAX_CUTS, MAX_OUT_FAILS}
use Rattle.ken_gen.specs.Draws.{drawn, past}
use Rattle.ken_gen.specs.Mishaps.{act_at, is_same_call, is_same_put, past_act}

-- ---- what is drawn, from a state of the generator

-- a number that is drawn wide, so that short runs and long ones are hit alike: first its width, from `least` to `most`, and then a
-- number from 1 to 2 ^ width
unfoldable pub wide : ℕ → ℕ → ℕ → ℕ
wide least most x = 1 + drawn (2 ^ (least + drawn (most + 1 - least) x)) (past x)

-- the state after its answers
unfoldable pub past_wide : ℕ → ℕ
past_wide x = past (past x)

-- a cut: its node, its disk, its call and its pick
unfoldable pub wide_cut : ℕ → ℕ → DiskCut
wide_cut nodes x =
    let at_call = past (past x) in
    record { node = drawn nodes x; disk = drawn 3 (past x); call = wide 3 9 at_call; pick = drawn 10 (past_wide at_call) }

-- the state after its answers
unfoldable pub past_wide_cut : ℕ → ℕ
past_wide_cut x = past (past_wide (past (past x)))

-- an act on a put: the nodes that it goes from and to, its number, and what becomes of its packet
unfoldable pub wide_act : ℕ → ℕ → LinkAct
wide_act nodes x =
    let at_put = past (past x) in
    record { from = drawn nodes x; to = drawn nodes (past x); n = wide 1 7 at_put; act = act_at (past_wide at_put) }

-- the state after its answers
unfoldable pub past_wide_act : ℕ → ℕ
past_wide_act x = past_act (past_wide (past (past x)))

-- a refusal of an outlet: its node and its call
unfoldable pub refusal : ℕ → ℕ → OutFail
refusal nodes x = record { node = drawn nodes x; call = wide 1 5 (past x) }

-- the state after its answers
unfoldable pub past_refusal : ℕ → ℕ
past_refusal x = past_wide (past x)

-- so many items, one after another: the one at a state, where `next` is the state after it
unfoldable pub items_from : {T : Type 0} → (ℕ → T) → (ℕ → ℕ) → ℕ → ℕ → List T
items_from at next zero x = []
items_from at next (suc count) x = at x ∷ items_from at next count (next x)

-- the state after their answers
unfoldable pub past_items : (ℕ → ℕ) → ℕ → ℕ → ℕ
past_items next zero x = x
past_items next (suc count) x = past_items next count (next x)

-- ---- what of it is added

-- a list, and behind it each of these items that may be added to what stands there when its turn comes
unfoldable pub added : {T : Type 0} → (List T → T → Bool) → List T → List T → List T
added may there [] = there
added may there (x ∷ xs) = added may (if may there x then there ++ x ∷ [] else there) xs

-- a list has fewer items than `most`, and none that strikes where x does
abbrev pub is_free : {T : Type 0} → (T → T → Bool) → ℕ → List T → T → Bool
is_free is_same most there x = nat_lt (length there) most && not (list_any (is_same x) there)

-- a cut may come as long as its node has fewer cuts than it may be restarted
abbrev pub may_cut : ℕ → List DiskCut → DiskCut → Bool
may_cut restarts there cut =
    is_free is_same_call MAX_CUTS there cut && nat_lt (count_by (λ (c : DiskCut). c.node == cut.node) there) restarts

-- an act may come to a put that has none
abbrev pub may_act : List LinkAct → LinkAct → Bool
may_act = is_free is_same_put MAX_ACTS

-- at one call of one outlet
abbrev pub is_same_try : OutFail → OutFail → Bool
is_same_try f g = (f.node == g.node) && (f.call == g.call)

-- a refusal may come as long as its node has fewer than 64
abbrev pub may_refuse : List OutFail → OutFail → Bool
may_refuse there fail =
    is_free is_same_try MAX_OUT_FAILS there fail && nat_lt (count_by (λ (f : OutFail). f.node == fail.node) there) 64

-- one generator, which begins at the seed, draws 12 cuts, 32 acts on puts of messages, 16 on puts of acknowledgements, and 8 refusals
abbrev pub tormented : ℕ → Script → Script
tormented seed script =
    let nodes = script.facts.nodes in
    let at_mail = past_items past_wide_cut 12 seed in
    let at_acks = past_items past_wide_act 32 at_mail in
    let at_outlets = past_items past_wide_act 16 at_acks in record script {
      cuts = added (may_cut script.restarts) script.cuts (items_from (wide_cut nodes) past_wide_cut 12 seed);
      mail = added may_act script.mail (items_from (wide_act nodes) past_wide_act 32 at_mail);
      acks = added may_act script.acks (items_from (wide_act nodes) past_wide_act 16 at_acks);
      outlets = added may_refuse script.outlets (items_from (refusal nodes) past_refusal 8 at_outlets);
    }
