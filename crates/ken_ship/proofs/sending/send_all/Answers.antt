use Rattle.std.proofs.Common.{[], ◌∙◌}
use Rattle.std.proofs.lemmas.Result.{err_from_is_err_and}
use Rattle.ken_ship.specs.Parts.{due_in}
use Rattle.ken_ship.proofs.Sent.{node_sent, node_stopped}
use Rattle.ken_ship.proofs.sending.send_all.Goals as goal

pub loop-to-preserved : goal.loop-to-preserved
loop-to-preserved g c =
    let inv = c.loop-to.invariant in
    let did = c.in_ok-send_to.ensures in
    record {
      end_is = (did.end.0 ∙ inv.end_is.0, did.end.1 ∙ inv.end_is.1);
      put = node_sent g.N.Net.put_between g.met.N.Net.put_joins c.in_ok-send_to.field-0 c.args.net.now c.loop-to.net c.send_to.new.net (due_in c.args.backlog.now).lines c.loop-to.to inv.put did.put;
      given = g.met.N.Net.given_joins c.args.net.now c.loop-to.net c.send_to.new.net [] [] inv.given did.given;
      nones = did.nones ∙ inv.nones;
    }

pub returns-in_err-send_to-clause-put : goal.returns-in_err-send_to-clause-put
returns-in_err-send_to-clause-put g c =
    let inv = c.loop-to.invariant in
    let p = err_from_is_err_and c.from_residual.result c.from_residual.ensures.1 in
    rw (p.1) (node_stopped g.N.Net.put_between g.met.N.Net.put_joins c.in_err-send_to.field-0.0 p.0 c.args.net.now c.loop-to.net c.send_to.new.net (due_in c.args.backlog.now).lines c.loop-to.to c.args.nodes c.loop-to-test.true inv.put c.in_err-send_to.ensures.put)

pub returns-in_err-send_to-clause-given : goal.returns-in_err-send_to-clause-given
returns-in_err-send_to-clause-given g c = g.met.N.Net.given_joins c.args.net.now c.loop-to.net c.send_to.new.net [] [] c.loop-to.invariant.given c.in_err-send_to.ensures.given
