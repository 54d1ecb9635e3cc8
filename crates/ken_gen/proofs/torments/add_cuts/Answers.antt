use Rattle.std.proofs.Common.{◌≡◌, ◌∙◌, ◌+◌, ◌-◌, ◌<◌, [], ◌∷◌, ◌++◌, true, false, ap, sym}
use Rattle.ken_gen.specs.Torments.{may_cut, past_items, past_wide_cut, wide_cut}
use Rattle.ken_gen.proofs.Drawn.{added_done, past_done, past_on, stepped}
use Rattle.ken_gen.proofs.torments.add_cuts.Goals as goal
use Rattle.ken_gen.proofs.torments.add_cuts.Goals.{then-may_cut+in_ok-push, else-may_cut}

pub loop-made-preserved : goal.loop-made-preserved
loop-made-preserved c =
    let may = may_cut c.args.restarts in
    let there = c.loop-made.cuts.items in
    let item = c.draw_wide_cut-cut.result in
    let made = c.loop-made._made in
    let x = c.loop-made.generator in
    let asked : c.may_cut.result ≡ may there item = c.may_cut.ensures ∙ ap (λ xs. may xs item) c.as_slice.ensures.value in
    let less : made < 12 = c.loop-made-test.true in
    let drawn : item ≡ wide_cut c.args.nodes x = c.draw_wide_cut-cut.ensures.cut in
    let state : c.draw_wide_cut-cut.new.generator ≡ past_wide_cut x = c.draw_wide_cut-cut.ensures.state in
    let so_far = c.loop-made.invariant.so_far in
    record {
      so_far = elim c.if-may_cut.branch [
        | then-may_cut+in_ok-push w ↦ (let can : true ≡ may there item = sym w.if-may_cut.true ∙ asked in
            let new : c.if-may_cut.cuts.items ≡ there ++ item ∷ [] = ap (λ v. v.items) w.cuts-is ∙ w.in_ok-push.ensures.items in
            stepped may (wide_cut c.args.nodes) past_wide_cut 12 made x there _ _ item _ true less drawn state can new so_far)
        | else-may_cut w ↦ (let cannot : false ≡ may there item = sym w.if-may_cut.false ∙ asked in
            let new : c.if-may_cut.cuts.items ≡ there = ap (λ v. v.items) w.cuts-is in
            stepped may (wide_cut c.args.nodes) past_wide_cut 12 made x there _ _ item _ false less drawn state cannot new so_far)
      ];
      state = ap (past_items past_wide_cut (12 - (made + 1))) state ∙ sym (past_on past_wide_cut 12 made x less) ∙ c.loop-made.invariant.state;
    }

pub returns-clause-cuts : goal.returns-clause-cuts
returns-clause-cuts c =
    let all = added_done (may_cut c.args.restarts) (wide_cut c.args.nodes) past_wide_cut 12 c.loop-made._made c.loop-made.generator c.loop-made.cuts.items c.loop-made-test.false in cc

pub returns-clause-state : goal.returns-clause-state
returns-clause-state c =
    let over = past_done past_wide_cut 12 c.loop-made._made c.loop-made.generator c.loop-made-test.false in cc
