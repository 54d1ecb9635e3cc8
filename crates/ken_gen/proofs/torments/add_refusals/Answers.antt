use Rattle.std.proofs.Common.{◌≡◌, ◌∙◌, ◌<◌, [], ◌∷◌, ◌++◌, true, false, ap, sym}
use Rattle.ken_gen.specs.Torments.{may_refuse, past_refusal, refusal}
use Rattle.ken_gen.proofs.Drawn.{added_done, stepped}
use Rattle.ken_gen.proofs.torments.add_refusals.Goals as goal
use Rattle.ken_gen.proofs.torments.add_refusals.Goals.{then-may_refuse+in_ok-push, else-may_refuse}

pub loop-made-preserved : goal.loop-made-preserved
loop-made-preserved c =
    let there = c.loop-made.refusals.items in
    let item = c.draw_refusal-refusal.result in
    let made = c.loop-made._made in
    let x = c.loop-made.generator in
    let asked : c.may_refuse.result ≡ may_refuse there item = c.may_refuse.ensures ∙ ap (λ xs. may_refuse xs item) c.as_slice.ensures.value in
    let less : made < 8 = c.loop-made-test.true in
    let drawn : item ≡ refusal c.args.nodes x = c.draw_refusal-refusal.ensures.refusal in
    let state : c.draw_refusal-refusal.new.generator ≡ past_refusal x = c.draw_refusal-refusal.ensures.state in
    let so_far = c.loop-made.invariant.so_far in
    record {
      so_far = elim c.if-may_refuse.branch [
        | then-may_refuse+in_ok-push w ↦ (let can : true ≡ may_refuse there item = sym w.if-may_refuse.true ∙ asked in
            let new : c.if-may_refuse.refusals.items ≡ there ++ item ∷ [] = ap (λ v. v.items) w.refusals-is ∙ w.in_ok-push.ensures.items in
            stepped may_refuse (refusal c.args.nodes) past_refusal 8 made x there _ _ item _ true less drawn state can new so_far)
        | else-may_refuse w ↦ (let cannot : false ≡ may_refuse there item = sym w.if-may_refuse.false ∙ asked in
            let new : c.if-may_refuse.refusals.items ≡ there = ap (λ v. v.items) w.refusals-is in
            stepped may_refuse (refusal c.args.nodes) past_refusal 8 made x there _ _ item _ false less drawn state cannot new so_far)
      ];
    }

pub returns : goal.returns
returns c = record {
  refusals = (let all = added_done may_refuse (refusal c.args.nodes) past_refusal 8 c.loop-made._made c.loop-made.generator c.loop-made.refusals.items c.loop-made-test.false in cc);
}
