use Rattle.std.proofs.Common.{◌≡◌, List, [], Some, slice_get, slice_index_or, sym, ◌∙◌, arith}
use Rattle.std.proofs.lemmas.Option.{slice_get_within}
use Rattle.std.proofs.lemmas.Result.{err_from_is_err_and}
use Rattle.ken_model.specs.declared.messages.Message.{Message}
use Rattle.ken_outbox.specs.Waiting.{no_line}
use Rattle.ken_ship.specs.Parts.{due_in}
use Rattle.ken_ship.proofs.Sent.{one_sent, stopped}
use Rattle.ken_ship.proofs.sending.send_to.Goals as goal

pub loop-i-preserved : goal.loop-i-preserved
loop-i-preserved g c =
    let inv = c.loop-i.invariant in
    let ms : List Message = (slice_index_or (due_in c.args.backlog.now).lines c.args.to no_line).messages in
    let at : slice_get ms c.loop-i.i ≡ Some c.in-Some.message.now = sym c.in-Some.ensures.due in
    let low = slice_get_within ms c.loop-i.i c.in-Some.message.now at in
    let did = c.in_ok-put_mail.ensures in
    record {
      end_is = (did.end.0 ∙ inv.end_is.0, did.end.1 ∙ inv.end_is.1);
      within = omega (arith, low);
      put = one_sent g.N.Net.put_between g.met.N.Net.put_joins c.args.net.now c.loop-i.net c.put_mail.new.net ms c.loop-i.i c.in-Some.message.now at inv.put did.put;
      given = g.met.N.Net.given_joins c.args.net.now c.loop-i.net c.put_mail.new.net [] [] inv.given did.given;
      nones = did.nones ∙ inv.nones;
    }

pub returns-in_err-put_mail-clause-put : goal.returns-in_err-put_mail-clause-put
returns-in_err-put_mail-clause-put g c =
    let inv = c.loop-i.invariant in
    let ms : List Message = (slice_index_or (due_in c.args.backlog.now).lines c.args.to no_line).messages in
    let p = err_from_is_err_and c.from_residual.result c.from_residual.ensures.1 in
    rw (p.1) (stopped g.N.Net.put_between g.met.N.Net.put_joins p.0 c.args.net.now c.loop-i.net c.put_mail.new.net ms c.loop-i.i (omega arith) inv.put c.in_err-put_mail.ensures.put)

pub returns-in_err-put_mail-clause-given : goal.returns-in_err-put_mail-clause-given
returns-in_err-put_mail-clause-given g c = g.met.N.Net.given_joins c.args.net.now c.loop-i.net c.put_mail.new.net [] [] c.loop-i.invariant.given c.in_err-put_mail.ensures.given
