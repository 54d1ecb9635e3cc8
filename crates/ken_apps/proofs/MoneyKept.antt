-- Over any legal schedule of a bank no money is made or lost.
use Rattle.std.proofs.Common.{◌≡◌, ℕ, ◌+◌, ◌*◌, ◌^◌, ◌<◌, ◌≤◌, List, [], ◌∷◌, drop, Bool, true, false, ◌==◌, not, nat_lt, if◌then◌else◌, Option, Some, None, IfSome, refl, sym, ap, subst, arith, ne_eqb}
use Rattle.std.specs.Prelude.{sum_by}
use Rattle.std.specs.List.{range_with_len}
use Rattle.std.proofs.Math.Nat.{mul-le-mul}
use Rattle.ken_model.specs.declared.facts.TheConstants.{MAX_NODES, MAX_TURNS}
use Rattle.ken_model.specs.declared.messages.Step.{Step}
use Rattle.ken_model.specs.declared.messages.TheConstants.{OUTSIDE}
use Rattle.ken_model.specs.Game.{Game}
use Rattle.ken_model.specs.Limits.{IsWithinLimits}
use Rattle.ken_model.specs.Network.{Network, Place, Turn, outside, start, inputs_for, turn_of, place_after, applied, applied_or_same, stepped}
use Rattle.ken_model.specs.Schedule.{IsLegalFrom, played}
use Rattle.ken_model.specs.Bank.{Order, Open, Move, Credit, order_of}
use Rattle.ken_apps.specs.Money.{held, credit_of, credit_in, on_the_way, opening_of, is_ok, opened_by, opened_from, IsBank, MoneyIsKept}
use Rattle.ken_apps.proofs.MoneyMoves.{held_after, way_after}
use Rattle.ken_apps.proofs.MoneyRead.{IsRead, order_read}
use Rattle.ken_apps.proofs.MoneySound.{IsTurn, is_turn, bank_made, IsFrom, IsSound, sound_first, sound_after, all_get}
use Rattle.ken_apps.proofs.MoneySums.{sum_zero, sum_none, sum_below, sum_balance, at_one, sum_one}
use Rattle.ken_apps.proofs.MoneyTurns.{IsFair, bank_fair, brought}

-- ---- a step

-- what is held and on its way after a step is what was and what it opened, but 2^64 for each sum that went past it
record IsStepFair (g : Game) (w next : Network) (gain : ℕ) : Type 0 where
  lost : ℕ
  money : held g next + on_the_way g next + lost * 2 ^ 64 ≡ held g w + on_the_way g w + gain

-- what a node brings is what is no more on its way
brought_from : (node outside : Bool) (o : Option Order) → node ≡ not outside → (if node then credit_of o else 0) ≡ brought outside o
brought_from true true o is = absurd cc
brought_from true false o is = refl
brought_from false true o is = refl
brought_from false false o is = absurd cc

step_fair : (g : Game) (w : Network) (s : Step) (t : Turn) → IsBank g → s.node < g.nodes → IsSound g w → IsTurn g w s t → IsStepFair g w (applied w s t) (opened_by (Some t))
step_fair g w s t is_bank known sound turn =
    let value = (w.place s.node).value in
    let o = order_of t.message.bytes in
    let fair : IsFair g.nodes (t.message.from == OUTSIDE) o value t.effect = subst (λ e. IsFair g.nodes (t.message.from == OUTSIDE) o value e) (bank_made g s.node value t.message s.draws t.effect is_bank turn.made) (bank_fair g.nodes value t.message o (sound.heaps s.node).blocks (order_read t.message.bytes)) in
    let sender : IsFrom g s.from t.message = all_get (IsFrom g s.from) _ _ t.message (sound.senders s.from s.node) turn.next in
    record { lost = fair.lost; money = omega (arith, fair.money, held_after g w s t known, way_after g w s t known sound.taken turn.next, brought_from (nat_lt s.from g.nodes) (t.message.from == OUTSIDE) o sender) }

-- ---- a schedule

made_step : (g : Game) (w : Network) (s : Step) (t : Turn) → turn_of g w s ≡ Some t → stepped g w s ≡ applied w s t
made_step g w s t is = ap (applied_or_same w s) is

kept_from : (g : Game) (w : Network) (stamp node : ℕ) (ss : List Step) → IsBank g → IsWithinLimits g → IsSound g w → IsLegalFrom g w stamp node ss → IsStepFair g w (played g w ss) (opened_from g w ss)
unfolding IsLegalFrom played opened_from
kept_from g w stamp node [] is_bank limits sound legal = record { lost = 0; money = omega arith }
kept_from g w stamp node (s ∷ ss) is_bank limits sound legal =
    let t = legal.0 in
    let turn = is_turn g w s t legal.1 in
    let now = made_step g w s t legal.1 in
    let step = step_fair g w s t is_bank legal.2 sound turn in
    let rest = kept_from g (applied w s t) t.stamp s.node ss is_bank limits (sound_after g w s t is_bank limits legal.2 turn sound) legal.4 in
    let gain : opened_by (turn_of g w s) ≡ opened_by (Some t) = ap opened_by legal.1 in
    subst (λ x. IsStepFair g w (played g x ss) (opened_by (turn_of g w s) + opened_from g x ss)) (sym now) (record { lost = step.lost + rest.lost; money = omega (arith, step.money, rest.money, gain) })

-- ---- what is opened is below 2^64, since turns are few and amounts small

opening_small : (o : Option Order) → IfSome o IsRead → opening_of o ≤ 10 ^ 9
opening_small None read = omega arith
opening_small (Some (Open name n)) read = omega (arith, read.0)
opening_small (Some (Move name n to other)) read = omega arith
opening_small (Some (Credit name n)) read = omega arith

opened_small : (t : Turn) → opened_by (Some t) ≤ 10 ^ 9
opened_small t = go (is_ok t.effect.outs)
  where
    go : (b : Bool) → (if b then opening_of (order_of t.message.bytes) else 0) ≤ 10 ^ 9
    go true = opening_small (order_of t.message.bytes) (order_read t.message.bytes)
    go false = omega arith

-- how many turns were made
abbrev made : Game → Network → ℕ
made g w = sum_by (λ v. (w.place v).turns) (range_with_len 0 g.nodes)

turn_one : (p : Place) (t : Turn) (b : Bool) → (if b then place_after p t else p).turns + 0 ≡ p.turns + (if b then 1 else 0)
turn_one p t true = omega arith
turn_one p t false = refl

made_after : (g : Game) (w : Network) (s : Step) (t : Turn) → s.node < g.nodes → made g (applied w s t) ≡ made g w + 1
made_after g w s t known =
    let ns = range_with_len 0 g.nodes in
    omega (arith, sum_balance (λ v. ((applied w s t).place v).turns) (λ v. 0) (λ v. (w.place v).turns) (at_one s.node 1) ns (λ v. turn_one (w.place v) t (v == s.node)), sum_zero (λ (v : ℕ). 0) ns (λ v. refl), sum_one s.node 1 g.nodes known)

opened_few : (g : Game) (w : Network) (stamp node : ℕ) (ss : List Step) → IsBank g → IsWithinLimits g → IsSound g w → IsLegalFrom g w stamp node ss → opened_from g w ss + 10 ^ 9 * made g w ≤ 10 ^ 9 * (g.nodes * g.turns)
unfolding IsLegalFrom opened_from
opened_few g w stamp node [] is_bank limits sound legal = omega (arith, sum_below (λ v. (w.place v).turns) g.turns 0 g.nodes sound.turns)
opened_few g w stamp node (s ∷ ss) is_bank limits sound legal =
    let t = legal.0 in
    let turn = is_turn g w s t legal.1 in
    let now = made_step g w s t legal.1 in
    let rest = opened_few g (applied w s t) t.stamp s.node ss is_bank limits (sound_after g w s t is_bank limits legal.2 turn sound) legal.4 in
    let gain : opened_by (turn_of g w s) ≡ opened_by (Some t) = ap opened_by legal.1 in
    let small = opened_small t in
    let more = made_after g w s t legal.2 in
    subst (λ x. opened_by (turn_of g w s) + opened_from g x ss + 10 ^ 9 * made g w ≤ 10 ^ 9 * (g.nodes * g.turns)) (sym now) (omega (arith, gain, rest, small, more))

-- ---- the start

held_first : (g : Game) → held g (start g) ≡ 0
held_first g = sum_zero _ (range_with_len 0 g.nodes) (λ v. refl)

link_first : (g : Game) (u v : ℕ) (b : Bool) → b ≡ false → credit_in (drop 0 (if b then inputs_for g v else [])) ≡ 0
link_first g u v true is = absurd cc
link_first g u v false is = refl

way_first : (g : Game) → IsWithinLimits g → on_the_way g (start g) ≡ 0
way_first g limits =
    let few = limits.few_nodes in
    sum_none _ 0 g.nodes (λ u less. sum_zero _ (range_with_len 0 g.nodes) (λ v. link_first g u v (u == outside) (ne_eqb u outside (λ e. omega (arith, e, few, less)))))

pub money_is_kept : MoneyIsKept
money_is_kept g schedule is_bank limits legal =
    let sound = sound_first g limits in
    let kept = kept_from g (start g) 0 0 schedule is_bank limits sound legal in
    let few = opened_few g (start g) 0 0 schedule is_bank limits sound legal in
    let most : g.nodes * g.turns ≤ MAX_NODES * MAX_TURNS = mul-le-mul limits.few_nodes limits.few_turns in
    omega (arith, kept.money, few, most, held_first g, way_first g limits)
