use Rattle.std.proofs.Common.{◌≡◌, ◌∙◌, ◌+◌, ◌-◌, ◌<◌, [], ◌∷◌, ◌++◌, true, false, ap, sym}
use Rattle.ken_gen.specs.Torments.{may_act, past_items, past_wide_act, wide_act}
use Rattle.ken_gen.proofs.Drawn.{added_done, past_done, past_on, stepped}
use Rattle.ken_gen.proofs.torments.add_acts.Goals as goal
use Rattle.ken_gen.proofs.torments.add_acts.Goals.{then-may_act+in_ok-push, else-may_act}

pub loop-made-preserved : goal.loop-made-preserved
loop-made-preserved c =
    let there = c.loop-made.acts.items in
    let item = c.draw_wide_act-act.result in
    let made = c.loop-made._made in
    let x = c.loop-made.generator in
    let asked : c.may_act.result ≡ may_act there item = c.may_act.ensures ∙ ap (λ xs. may_act xs item) c.as_slice.ensures.value in
    let less : made < c.args.count = c.loop-made-test.true in
    let drawn : item ≡ wide_act c.args.nodes x = c.draw_wide_act-act.ensures.act in
    let state : c.draw_wide_act-act.new.generator ≡ past_wide_act x = c.draw_wide_act-act.ensures.state in
    let so_far = c.loop-made.invariant.so_far in
    record {
      so_far = elim c.if-may_act.branch [
        | then-may_act+in_ok-push w ↦ (let can : true ≡ may_act there item = sym w.if-may_act.true ∙ asked in
            let new : c.if-may_act.acts.items ≡ there ++ item ∷ [] = ap (λ v. v.items) w.acts-is ∙ w.in_ok-push.ensures.items in
            stepped may_act (wide_act c.args.nodes) past_wide_act c.args.count made x there _ _ item _ true less drawn state can new so_far)
        | else-may_act w ↦ (let cannot : false ≡ may_act there item = sym w.if-may_act.false ∙ asked in
            let new : c.if-may_act.acts.items ≡ there = ap (λ v. v.items) w.acts-is in
            stepped may_act (wide_act c.args.nodes) past_wide_act c.args.count made x there _ _ item _ false less drawn state cannot new so_far)
      ];
      state = ap (past_items past_wide_act (c.args.count - (made + 1))) state ∙ sym (past_on past_wide_act c.args.count made x less) ∙ c.loop-made.invariant.state;
    }

pub returns-clause-acts : goal.returns-clause-acts
returns-clause-acts c =
    let all = added_done may_act (wide_act c.args.nodes) past_wide_act c.args.count c.loop-made._made c.loop-made.generator c.loop-made.acts.items c.loop-made-test.false in cc

pub returns-clause-state : goal.returns-clause-state
returns-clause-state c =
    let over = past_done past_wide_act c.args.count c.loop-made._made c.loop-made.generator c.loop-made-test.false in cc
