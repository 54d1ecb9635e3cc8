use Rattle.std.proofs.Common.{◌≡◌, ℕ, List, [], ◌∷◌, ◌++◌, length, sym, ap, subst, ◌∙◌, arith}
use Rattle.std.proofs.lemmas.List.{length_push}
use Rattle.ken_model.specs.declared.messages.Send.{Send}
use Rattle.ken_model.specs.Kinds.{to_others}
use Rattle.ken_model.proofs.Others.{to_others-other, to_others-same}
use Rattle.ken_app.specs.Turning.{Turning, turning, oracle_of, with_send, IsOneTurn}
use Rattle.ken_apps.proofs.tally.send_to_others.Goals as goal
use Rattle.ken_apps.proofs.tally.send_to_others.Goals.{then-to-node+in_ok-send_text, else-to-node}

pub loop-to-preserved : goal.loop-to-preserved
loop-to-preserved g c =
    let inv = c.loop-to.invariant in
    let first : Turning = turning c.args.turn.now in
    let to : ℕ = c.loop-to.to in
    let text : List ℕ = c.args.text.now in
    let with : List Send → Turning = λ ss. record first { sends = ss } in
    let node : c.node.result ≡ first.node = c.node.ensures ∙ ap (λ (t : Turning). t.node) inv.so_far in
    elim c.if-to-node.branch [
      | then-to-node+in_ok-send_text w ↦ (let one : List Send = record { to = to; bytes = text } ∷ [] in
          let sent = w.in_ok-send_text.ensures in
          let added : turning w.send_text.new.self ≡ with_send to text (turning c.loop-to.turn) = sent.ok in
          let now : turning w.send_text.new.self ≡ with (to_others first.node to text ++ one) = added ∙ ap (with_send to text) inv.so_far in
          let turn_is = w.turn-is in
          record {
            so_far = ap turning turn_is ∙ now ∙ ap with (sym (to_others-other first.node to text (λ same. w.if-to-node.true (same ∙ sym node))));
            few = omega (arith, ap (λ (t : Turning). length t.sends) (ap turning turn_is ∙ now), ap (λ (t : Turning). length t.sends) inv.so_far, inv.few, length_push (to_others first.node to text) (record { to = to; bytes = text }));
            oracle = ap oracle_of turn_is ∙ sent.oracle ∙ inv.oracle;
            same = subst (IsOneTurn c.args.turn.now) (sym turn_is) (record { objects = sent.same.objects ∙ inv.same.objects; oracle = sent.same.oracle ∙ inv.same.oracle; made = sent.same.made ∙ inv.same.made });
          })
      | else-to-node w ↦ record {
        so_far = ap turning w.turn-is ∙ inv.so_far ∙ ap with (sym (to_others-same first.node to text (w.if-to-node.false ∙ node)));
        few = omega (arith, inv.few, ap (λ (t : Turning). length t.sends) (ap turning w.turn-is));
        oracle = ap oracle_of w.turn-is ∙ inv.oracle;
        same = subst (IsOneTurn c.args.turn.now) (sym w.turn-is) inv.same;
      }
    ]
