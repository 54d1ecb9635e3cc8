use Rattle.std.proofs.Common.{◌≡◌, ℕ, List, [], inl, None, Ok, Err, sym, subst, ◌∙◌, append-nil}
use Rattle.std.proofs.lemmas.Result.{IfOk-weaker, err_from_is_err_and}
use Rattle.ken_app.specs.Oracles.{Answers}
use Rattle.ken_model.specs.declared.messages.Message.{Message}
use Rattle.ken_model.specs.Handler.{Handler}
use Rattle.ken_ship.specs.declared.faults.NodeFault.TheVariants.{Memory}
use Rattle.ken_work.specs.Calls.{TookMessage}
use Rattle.ken_work.specs.Faults.{node_answer}
use Rattle.ken_work.specs.Workers.{Working}
use Rattle.ken_work.proofs.Taking.{came, may_take_more, on_ok, ran, renewal_failed, renewed, stopped}
use Rattle.ken_work.proofs.worker.TurnWorker.take.Goals as goal

pub returns-in_err-answered-clause-takes : goal.returns-in_err-answered-clause-takes
returns-in_err-answered-clause-takes g c =
    let h : Handler = g.A.App.handler c.args.app.now in
    let net = c.args.net.now in
    let drew : List ℕ → Type 0 = λ draws. Answers (g.O.Oracle.telling.clocks c.args.oracle.now) (g.O.Oracle.telling.clocks c.args.oracle.now) (h.clocks draws) × Answers (g.O.Oracle.telling.words c.args.oracle.now) (g.O.Oracle.telling.words c.args.oracle.now) (h.words draws) in
    let p = err_from_is_err_and c.from_residual.result c.from_residual.ensures.1 in
    let answer : c.from_residual.result ≡ Err c.in_err-answered.field-0.0 = cc (p.1, p.2) in
    let is : node_answer c.renew.result ≡ Err c.in_err-answered.field-0.0 = sym c.answered.ensures ∙ c.in_err-answered.was in
    rw answer
    (renewal_failed g.D.Disk.told g.D.Disk.size g.D.Disk.faults g.D.Disk.fate h drew c.args.self.now c.renew.new.self c.requires.open_yet c.renew.ensures.rest
    c.renew.result c.in_err-answered.field-0.0 (g.N.Net.given_between net net) (g.N.Net.put_between net net) (g.N.Net.nones net) (g.N.Net.nones net) is c.renew.ensures.renews
    (c.renew.ensures.goes_on h c.requires.working) c.renew.ensures.sound (g.met.N.Net.given_still net) (g.met.N.Net.put_still net))

pub returns-in_err-message-clause-takes : goal.returns-in_err-message-clause-takes
returns-in_err-message-clause-takes g c =
    let h : Handler = g.A.App.handler c.args.app.now in
    let net = c.args.net.now in
    let mid = c.renew.new.self in
    let drew : List ℕ → Type 0 = λ draws. Answers (g.O.Oracle.telling.clocks c.args.oracle.now) (g.O.Oracle.telling.clocks c.args.oracle.now) (h.clocks draws) × Answers (g.O.Oracle.telling.words c.args.oracle.now) (g.O.Oracle.telling.words c.args.oracle.now) (h.words draws) in
    let p = err_from_is_err_and c.from_residual-in_err-message.result c.from_residual-in_err-message.ensures.1 in
    let answer : c.from_residual-in_err-message.result ≡ Err Memory = cc (p.1, p.2) in
    let is : node_answer c.renew.result ≡ Ok c.in_ok-answered.field-0 = sym c.answered.ensures ∙ c.in_ok-answered.was in
    let renews = renewed g.D.Disk.told g.D.Disk.size g.D.Disk.faults g.D.Disk.fate h drew c.args.self.now mid c.requires.open_yet c.renew.ensures.rest c.renew.result c.in_ok-answered.field-0 is c.renew.ensures.renews in
    let working : Working g.D.Disk.told g.D.Disk.size h mid = on_ok _ c.renew.result c.in_ok-answered.field-0 is (c.renew.ensures.working h c.requires.working) in
    rw answer
    (stopped g.D.Disk.told g.D.Disk.size g.D.Disk.faults g.D.Disk.fate h drew c.args.self.now mid c.requires.open_yet c.renew.ensures.rest renews working
    (g.N.Net.given_between net c.find.new.net) (g.N.Net.put_between net c.find.new.net) (g.N.Net.nones net) (g.N.Net.nones c.find.new.net) c.in_err-message.ensures.takes)

pub run-requires-clause-more : goal.run-requires-clause-more
run-requires-clause-more g c =
    let h : Handler = g.A.App.handler c.args.app.now in
    let mid = c.renew.new.self in
    let is : node_answer c.renew.result ≡ Ok c.in_ok-answered.field-0 = sym c.answered.ensures ∙ c.in_ok-answered.was in
    let renews = renewed g.D.Disk.told g.D.Disk.size g.D.Disk.faults g.D.Disk.fate h (λ _. Unit {0}) c.args.self.now mid c.requires.open_yet c.renew.ensures.rest c.renew.result c.in_ok-answered.field-0 is c.renew.ensures.renews in
    may_take_more g.D.Disk.told g.D.Disk.size g.D.Disk.faults g.D.Disk.fate h (λ _. Unit {0}) c.args.self.now mid c.requires.open_yet c.renew.ensures.rest renews (on_ok _ c.renew.result c.in_ok-answered.field-0 is c.renew.ensures.end)

pub returns-in-Some-clause-takes : goal.returns-in-Some-clause-takes
returns-in-Some-clause-takes g c =
    let h : Handler = g.A.App.handler c.args.app.now in
    let net = c.args.net.now in
    let found = c.find.new.net in
    let after = c.run.new.net in
    let mid = c.renew.new.self in
    let m : Message = c.in-Some.message in
    let drew : List ℕ → Type 0 = λ draws. Answers (g.O.Oracle.telling.clocks c.args.oracle.now) (g.O.Oracle.telling.clocks c.run.new.oracle) (h.clocks draws) × Answers (g.O.Oracle.telling.words c.args.oracle.now) (g.O.Oracle.telling.words c.run.new.oracle) (h.words draws) in
    let is : node_answer c.renew.result ≡ Ok c.in_ok-answered.field-0 = sym c.answered.ensures ∙ c.in_ok-answered.was in
    let renews = renewed g.D.Disk.told g.D.Disk.size g.D.Disk.faults g.D.Disk.fate h drew c.args.self.now mid c.requires.open_yet c.renew.ensures.rest c.renew.result c.in_ok-answered.field-0 is c.renew.ensures.renews in
    let working : Working g.D.Disk.told g.D.Disk.size h mid = on_ok _ c.renew.result c.in_ok-answered.field-0 is (c.renew.ensures.working h c.requires.working) in
    let took = subst (TookMessage mid.node mid.order mid.inputs.items (g.N.Net.given_between net found) (g.N.Net.put_between net found) (g.N.Net.nones net) (g.N.Net.nones found)) c.in-Some.is c.in_ok-message.ensures.takes in
    ran g.D.Disk.told g.D.Disk.size g.D.Disk.faults g.D.Disk.fate h drew c.args.self.now mid c.requires.open_yet c.renew.ensures.rest renews working
    c.run.result m c.run.new.self (g.N.Net.given_between net found) (g.N.Net.given_between net after) (g.N.Net.put_between net found) (g.N.Net.put_between found after) (g.N.Net.put_between net after)
    (g.N.Net.nones net) (g.N.Net.nones found) (g.N.Net.nones after)
    (λ ps so. subst (g.N.Net.given_between net after) (append-nil ps) (g.met.N.Net.given_joins net found after ps [] so c.run.ensures.given))
    (λ ps qs one two. g.met.N.Net.put_joins net found after ps qs one two)
    c.run.ensures.nones took c.run.ensures.runs c.run.ensures.took

pub returns-in-None-clause-takes : goal.returns-in-None-clause-takes
returns-in-None-clause-takes g c =
    let h : Handler = g.A.App.handler c.args.app.now in
    let net = c.args.net.now in
    let found = c.find.new.net in
    let mid = c.renew.new.self in
    let drew : List ℕ → Type 0 = λ draws. Answers (g.O.Oracle.telling.clocks c.args.oracle.now) (g.O.Oracle.telling.clocks c.args.oracle.now) (h.clocks draws) × Answers (g.O.Oracle.telling.words c.args.oracle.now) (g.O.Oracle.telling.words c.args.oracle.now) (h.words draws) in
    let is : node_answer c.renew.result ≡ Ok c.in_ok-answered.field-0 = sym c.answered.ensures ∙ c.in_ok-answered.was in
    let renews = renewed g.D.Disk.told g.D.Disk.size g.D.Disk.faults g.D.Disk.fate h drew c.args.self.now mid c.requires.open_yet c.renew.ensures.rest c.renew.result c.in_ok-answered.field-0 is c.renew.ensures.renews in
    let working : Working g.D.Disk.told g.D.Disk.size h mid = on_ok _ c.renew.result c.in_ok-answered.field-0 is (c.renew.ensures.working h c.requires.working) in
    let took = subst (TookMessage mid.node mid.order mid.inputs.items (g.N.Net.given_between net found) (g.N.Net.put_between net found) (g.N.Net.nones net) (g.N.Net.nones found)) c.in-None.is c.in_ok-message.ensures.takes in
    record {
      came = came g.D.Disk.told g.D.Disk.size g.D.Disk.faults g.D.Disk.fate h drew c.args.self.now mid c.requires.open_yet c.renew.ensures.rest renews working
          (g.N.Net.given_between net found) (g.N.Net.put_between net found) (g.N.Net.nones net) (g.N.Net.nones found) None took;
    }

pub returns-in-Some-clause-undrawn : goal.returns-in-Some-clause-undrawn
returns-in-Some-clause-undrawn g c = IfOk-weaker c.run.result _ _ (λ took is. inl is) c.run.ensures.took
