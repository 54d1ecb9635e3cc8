use Rattle.std.proofs.Common.{◌≡◌, ◌<◌, List, Some, None, option_map, length, false, sym, ap, subst, ◌∙◌, ⊎_elim, arith}
use Rattle.std.proofs.lemmas.Bool.{cases_eq}
use Rattle.std.proofs.lemmas.List.{get_or_default}
use Rattle.ken_cover.specs.declared.layers.Change.{Change}
use Rattle.ken_cover.specs.declared.layers.Layer.{Layer}
use Rattle.ken_cover.specs.Sides.{last_change, base_change}
use Rattle.ken_core.specs.Sets.{has}
use Rattle.ken_core.proofs.Fits.{AreMarked, layers_marked}
use Rattle.ken_core.proofs.Lasts.{base_more}
use Rattle.ken_core.proofs.pages.Pages.base.Goals as goal
use Rattle.ken_core.proofs.pages.Pages.base.Goals.{In_ok-put}

pub last_turns-requires : goal.last_turns-requires
last_turns-requires c =
    let kept = c.requires.paged.1.1 in
    subst (λ (ls : List Layer). AreMarked c.width-width.result ls) (sym c.as_slice.ensures.value)
    (layers_marked c.requires.paged.0 c.width-width.result c.args.self.now.live.items (c.width-width.ensures ∙ kept.unclean) kept.covers.live_within)

pub put-requires : goal.put-requires
put-requires c =
    let kept = c.requires.paged.1.1 in
    omega (arith, c.loop-page-test.true, c.width-width.ensures, kept.unclean, kept.covers.heap_size)

-- the turn that last changed the page
turn_is : (c : In_ok-put) → c.index.result.now ≡ option_map (λ (x : Change). x.turn) (last_change c.loop-page.page c.args.self.now.live.items)
turn_is c =
    let within : c.loop-page.page < length c.in_ok-last.last.items = omega (arith, c.loop-page-test.true, c.in_ok-last.ensures.width) in
    c.index.ensures ∙ get_or_default c.in_ok-last.last.items c.loop-page.page c.index.result.now None within ∙ c.in_ok-last.ensures.turns c.loop-page.page ∙ ap (λ ls. option_map (λ (x : Change). x.turn) (last_change c.loop-page.page ls)) c.as_slice.ensures.value

pub loop-page-preserved : goal.loop-page-preserved
loop-page-preserved c =
    let at = (goal.at.loop-page-preserved c).In_ok-put in
    record {
      made = base_more (λ p. base_change c.args.settled c.args.self.now.heap p (last_change p c.args.self.now.live.items)) c.loop-page.page c.loop-page.changes.items c.put.new.changes.items c.loop-page.invariant.made
          (c.in_ok-put.ensures.made c.if-not-branch.false (last_change c.loop-page.page c.args.self.now.live.items) (turn_is at));
      may = λ p x within last left. ⊎_elim
          (λ (same : p ≡ c.loop-page.page).
          let here : c.index.result.now ≡ Some x.turn = turn_is at ∙ ap (option_map (λ (y : Change). y.turn)) (subst (λ k. last_change k c.args.self.now.live.items ≡ Some x) same last) in
          subst (λ k. has c.args.self.now.unclean k ≡ false) (sym same) (c.in_ok-put.ensures.may c.if-not-branch.false x.turn here left))
          (λ other. c.loop-page.invariant.may p x (omega (arith, within, other)) last left)
          (cases_eq p c.loop-page.page);
    }
