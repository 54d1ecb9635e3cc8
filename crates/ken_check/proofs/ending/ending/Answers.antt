use Rattle.std.proofs.Common.{◌≡◌, ◌≢◌, ℕ, ◌+◌, ◌<◌, List, [], ◌∷◌, ◌++◌, length, get_or, take, Some, sym, subst, ◌∙◌, arith, length-append}
use Rattle.std.specs.List.{All, Any}
use Rattle.std.proofs.lemmas.List.{get_or_append_left, take_all, take_more}
use Rattle.std.proofs.lemmas.List.Elements.{All-more}
use Rattle.std.proofs.lemmas.List.Quantifiers.{Any-push}
use Rattle.ken_model.specs.declared.reports.Ending.{Ending}
use Rattle.ken_model.specs.declared.reports.Ending.TheVariants.{Settled, Cut}
use Rattle.ken_check.specs.declared.known.Known.{Known}
use Rattle.ken_check.specs.Endings.{EndsBy, IsDone}
use Rattle.ken_check.proofs.ending.ending.Goals as goal
use Rattle.ken_check.proofs.ending.ending.Goals.{then-known, else-known}

any_more : {X : Type 0} (P : X → Type 0) (xs ys : List X) → Any P xs → Any P (xs ++ ys)
any_more P xs ys any = (any.0, any.1, omega (arith, any.2, length-append xs ys), get_or_append_left xs ys any.1 any.0 any.2 ∙ any.3, any.4)

all_before : (turns : ℕ) (ks : List Known) (e : Ending) → EndsBy turns ks (Some e) → All (IsDone turns) ks
all_before turns ks Settled ends = ends.0
all_before turns ks Cut ends = ends.0

-- one node more, which is done
module _ (turns : ℕ) (ks : List Known) (i : ℕ) (k : Known) (within : i < length ks) (is : k ≡ get_or ks i k) (done : IsDone turns k) where
  all_done : All (IsDone turns) (take i ks) → All (IsDone turns) (take (i + 1) ks)
  all_done all = All-more (IsDone turns) ks i k within all (subst (IsDone turns) is done)

  -- nothing waits for it
  nothing_waits : (e : Ending) → k.came ≡ k.turns → EndsBy turns (take i ks) (Some e) → EndsBy turns (take (i + 1) ks) (Some e)
  nothing_waits Settled none so_far = (all_done so_far.0, All-more (λ (x : Known). x.came ≡ x.turns) ks i k within so_far.1 (subst (λ (x : Known). x.came ≡ x.turns) is none))
  nothing_waits Cut none so_far =
      (all_done so_far.0, subst (Any (λ (x : Known). x.came ≢ x.turns)) (sym (take_more ks i k within)) (any_more (λ (x : Known). x.came ≢ x.turns) (take i ks) (get_or ks i k ∷ []) so_far.1))

  -- something does
  something_waits : (e : Ending) → k.came ≢ k.turns → EndsBy turns (take i ks) (Some e) → EndsBy turns (take (i + 1) ks) (Some Cut)
  something_waits e some so_far =
      let waits : Any (λ (x : Known). x.came ≢ x.turns) (take i ks ++ get_or ks i k ∷ []) = Any-push (λ (x : Known). x.came ≢ x.turns) (take i ks) (get_or ks i k) (subst (λ (x : Known). x.came ≢ x.turns) is some) in
      (all_done (all_before turns (take i ks) e so_far), subst (Any (λ (x : Known). x.came ≢ x.turns)) (sym (take_more ks i k within)) waits)

pub returns-then-not-is_done : goal.returns-then-not-is_done
returns-then-not-is_done c =
    (c.loop-known.known-index, c.known-item.result, c.loop-known-test.true, sym c.known-item.is, λ (done : IsDone c.args.turns c.known-item.result). (let yes = c.is_done.ensures.1 done in let no = c.if-not-is_done.true in absurd cc))

pub loop-known-preserved : goal.loop-known-preserved
loop-known-preserved c =
    let k : Known = c.known-item.result in
    let done : IsDone c.args.turns k = c.is_done.ensures.0 c.if-not-is_done.false in
    elim c.if-known.branch [
      | then-known w ↦
          subst (λ e. EndsBy c.args.turns (take (c.loop-known.known-index + 1) c.args.nodes.now) (Some e)) (sym w.ending-is)
          (something_waits c.args.turns c.args.nodes.now c.loop-known.known-index k c.loop-known-test.true c.known-item.is done c.loop-known.ending w.if-known.true c.loop-known.invariant)
      | else-known w ↦
          subst (λ e. EndsBy c.args.turns (take (c.loop-known.known-index + 1) c.args.nodes.now) (Some e)) (sym w.ending-is)
          (nothing_waits c.args.turns c.args.nodes.now c.loop-known.known-index k c.loop-known-test.true c.known-item.is done c.loop-known.ending w.if-known.false c.loop-known.invariant)
    ]

pub returns : goal.returns
returns c = subst (λ ks. EndsBy c.args.turns ks (Some c.loop-known.ending)) (take_all c.loop-known.known-index c.args.nodes.now c.loop-known-test.false) c.loop-known.invariant
