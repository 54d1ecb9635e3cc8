use Rattle.std.proofs.Common.{◌≡◌, ℕ, ◌≤◌, List, [], ◌∷◌, length, Ok, Err, inr, sym, ap, subst, ◌∙◌, arith}
use Rattle.std.proofs.lemmas.Result.{err_from_is_err_and}
use Rattle.ken_app.specs.Oracles.{Answers}
use Rattle.ken_model.specs.Handler.{Handler}
use Rattle.ken_model.specs.declared.messages.Message.{Message}
use Rattle.ken_net.specs.Puts.{Put}
use Rattle.ken_order.specs.Consumed.{Consumed}
use Rattle.ken_record.specs.declared.effects.Effects.{Effects}
use Rattle.ken_ship.specs.declared.faults.NodeFault.TheVariants.{Memory}
use Rattle.ken_store.proofs.Turned.{side_stands}
use Rattle.ken_work.specs.declared.worker.TurnWorker.{TurnWorker}
use Rattle.ken_work.specs.Calls.{consumed_with}
use Rattle.ken_work.specs.Faults.{node_answer}
use Rattle.ken_work.specs.Hearing.{ack_put}
use Rattle.ken_work.proofs.Kept.{some_consumed}
use Rattle.ken_work.proofs.Taking.{answer_input, answer_mail, kept_ok, ran_ok, seal_failed, side_before}
use Rattle.ken_work.proofs.worker.TurnWorker.run.Goals as goal

pub seal-requires-clause-made : goal.seal-requires-clause-made
seal-requires-clause-made g c =
    let h : Handler = g.A.App.handler c.args.app.now in
    let w = c.args.self.now in
    (h, w.side, side_before g.D.Disk.told g.D.Disk.size h w c.make.new.self c.make.ensures.rest c.requires.working, c.in_ok-effects.ensures.made)

pub returns-in_err-answered-clause-runs : goal.returns-in_err-answered-clause-runs
returns-in_err-answered-clause-runs g c =
    let h : Handler = g.A.App.handler c.args.app.now in
    let w = c.args.self.now in
    let begun = c.make.new.self in
    let e : Effects = c.in_ok-effects.effects in
    let made = c.in_ok-effects.ensures.made in
    let drew : List ℕ → Type 0 = λ draws. Answers (g.O.Oracle.telling.clocks c.args.oracle.now) (g.O.Oracle.telling.clocks c.make.new.oracle) (h.clocks draws) × Answers (g.O.Oracle.telling.words c.args.oracle.now) (g.O.Oracle.telling.words c.make.new.oracle) (h.words draws) in
    let drawn : drew e.draws = (c.in_ok-effects.ensures.clocks, c.in_ok-effects.ensures.words) in
    let seals = c.seal.ensures.seals h w.side (side_before g.D.Disk.told g.D.Disk.size h w begun c.make.ensures.rest c.requires.working) made in
    let p = err_from_is_err_and c.from_residual-in_err-answered.result c.from_residual-in_err-answered.ensures.1 in
    let answer : c.from_residual-in_err-answered.result ≡ Err c.in_err-answered.field-0.0 = cc (p.1, p.2) in
    let is : node_answer c.seal.result ≡ Err c.in_err-answered.field-0.0 = sym c.answered.ensures ∙ c.in_err-answered.was in
    rw answer
    (seal_failed g.D.Disk.told g.D.Disk.size g.D.Disk.faults g.D.Disk.fate h drew w begun c.make.ensures.rest c.args.message.now e made drawn
    c.seal.result c.in_err-answered.field-0.0 (g.N.Net.put_between c.args.net.now c.args.net.now) c.seal.new.self is seals (g.met.N.Net.put_still c.args.net.now))

pub acknowledge-requires-clause-some : goal.acknowledge-requires-clause-some
acknowledge-requires-clause-some g c =
    let h : Handler = g.A.App.handler c.args.app.now in
    let w = c.args.self.now in
    let begun = c.make.new.self in
    let m : Message = c.args.message.now in
    let made = c.in_ok-effects.ensures.made in
    let seals = c.seal.ensures.seals h w.side (side_before g.D.Disk.told g.D.Disk.size h w begun c.make.ensures.rest c.requires.working) made in
    let is : node_answer c.seal.result ≡ Ok c.in_ok-answered.field-0 = sym c.answered.ensures ∙ c.in_ok-answered.was in
    let kept = kept_ok g.D.Disk.told g.D.Disk.size g.D.Disk.faults g.D.Disk.fate h m c.in_ok-effects.effects w.side begun c.seal.new.self c.seal.result c.in_ok-answered.field-0 is seals in
    let order : begun.order ≡ w.order = ap (λ (x : TurnWorker _). x.order) c.make.ensures.rest in
    let working = c.requires.working in
    let long : length w.order.consumed ≡ 9 = ap (λ (x : Consumed). length x.consumed) working.order ∙ (side_stands g.D.Disk.told g.D.Disk.size w.side working.side).0.consumed_long in
    let few : w.order.nodes ≤ 8 = let n = w.few in rw working.order n in
    let message = c.requires.message in
    some_consumed w.order c.seal.new.self.order m c.in_ok-effects.effects.stamp (kept.order ∙ ap (λ (x : Consumed). consumed_with m c.in_ok-effects.effects.stamp x) order) long few message.sender (omega (arith, message.number))

pub returns-in_err-acknowledge-clause-runs : goal.returns-in_err-acknowledge-clause-runs
returns-in_err-acknowledge-clause-runs g c =
    let h : Handler = g.A.App.handler c.args.app.now in
    let w = c.args.self.now in
    let begun = c.make.new.self in
    let e : Effects = c.in_ok-effects.effects in
    let made = c.in_ok-effects.ensures.made in
    let drew : List ℕ → Type 0 = λ draws. Answers (g.O.Oracle.telling.clocks c.args.oracle.now) (g.O.Oracle.telling.clocks c.make.new.oracle) (h.clocks draws) × Answers (g.O.Oracle.telling.words c.args.oracle.now) (g.O.Oracle.telling.words c.make.new.oracle) (h.words draws) in
    let drawn : drew e.draws = (c.in_ok-effects.ensures.clocks, c.in_ok-effects.ensures.words) in
    let seals = c.seal.ensures.seals h w.side (side_before g.D.Disk.told g.D.Disk.size h w begun c.make.ensures.rest c.requires.working) made in
    let is : node_answer c.seal.result ≡ Ok c.in_ok-answered.field-0 = sym c.answered.ensures ∙ c.in_ok-answered.was in
    let p = err_from_is_err_and c.from_residual-in_err-acknowledge.result c.from_residual-in_err-acknowledge.ensures.1 in
    let answer : c.from_residual-in_err-acknowledge.result ≡ Err Memory = cc (p.1, p.2) in
    rw answer
    (inr (ran_ok g.D.Disk.told g.D.Disk.size g.D.Disk.faults g.D.Disk.fate h drew w begun c.make.ensures.rest c.args.message.now e made drawn c.seal.result c.in_ok-answered.field-0 c.seal.new.self is seals), c.in_err-acknowledge.ensures.put)

pub returns-in_ok-acknowledge-clause-runs : goal.returns-in_ok-acknowledge-clause-runs
returns-in_ok-acknowledge-clause-runs g c =
    let h : Handler = g.A.App.handler c.args.app.now in
    let w = c.args.self.now in
    let begun = c.make.new.self in
    let e : Effects = c.in_ok-effects.effects in
    let made = c.in_ok-effects.ensures.made in
    let drew : List ℕ → Type 0 = λ draws. Answers (g.O.Oracle.telling.clocks c.args.oracle.now) (g.O.Oracle.telling.clocks c.make.new.oracle) (h.clocks draws) × Answers (g.O.Oracle.telling.words c.args.oracle.now) (g.O.Oracle.telling.words c.make.new.oracle) (h.words draws) in
    let drawn : drew e.draws = (c.in_ok-effects.ensures.clocks, c.in_ok-effects.ensures.words) in
    let seals = c.seal.ensures.seals h w.side (side_before g.D.Disk.told g.D.Disk.size h w begun c.make.ensures.rest c.requires.working) made in
    let is : node_answer c.seal.result ≡ Ok c.in_ok-answered.field-0 = sym c.answered.ensures ∙ c.in_ok-answered.was in
    let node : c.seal.new.self.node ≡ w.node = c.seal.ensures.same.node ∙ ap (λ (x : TurnWorker _). x.node) c.make.ensures.rest in
    let acked = subst (λ v. g.N.Net.put_between c.args.net.now c.acknowledge.new.net (ack_put v c.seal.new.self.order c.args.message.now.from ∷ [])) node c.in_ok-acknowledge.ensures.put in (
      ran_ok g.D.Disk.told g.D.Disk.size g.D.Disk.faults g.D.Disk.fate h drew w begun c.make.ensures.rest c.args.message.now e made drawn c.seal.result c.in_ok-answered.field-0 c.seal.new.self is seals,
      subst (λ (ps : List Put). g.N.Net.put_between c.args.net.now c.acknowledge.new.net ps) (sym (answer_mail w.node c.seal.new.self.order c.args.message.now.from c.if-message.true)) acked,
    )

pub returns-else-message-clause-runs : goal.returns-else-message-clause-runs
returns-else-message-clause-runs g c =
    let h : Handler = g.A.App.handler c.args.app.now in
    let w = c.args.self.now in
    let begun = c.make.new.self in
    let e : Effects = c.in_ok-effects.effects in
    let made = c.in_ok-effects.ensures.made in
    let drew : List ℕ → Type 0 = λ draws. Answers (g.O.Oracle.telling.clocks c.args.oracle.now) (g.O.Oracle.telling.clocks c.make.new.oracle) (h.clocks draws) × Answers (g.O.Oracle.telling.words c.args.oracle.now) (g.O.Oracle.telling.words c.make.new.oracle) (h.words draws) in
    let drawn : drew e.draws = (c.in_ok-effects.ensures.clocks, c.in_ok-effects.ensures.words) in
    let seals = c.seal.ensures.seals h w.side (side_before g.D.Disk.told g.D.Disk.size h w begun c.make.ensures.rest c.requires.working) made in
    let is : node_answer c.seal.result ≡ Ok c.in_ok-answered.field-0 = sym c.answered.ensures ∙ c.in_ok-answered.was in (
      ran_ok g.D.Disk.told g.D.Disk.size g.D.Disk.faults g.D.Disk.fate h drew w begun c.make.ensures.rest c.args.message.now e made drawn c.seal.result c.in_ok-answered.field-0 c.seal.new.self is seals,
      subst (λ (ps : List Put). g.N.Net.put_between c.args.net.now c.args.net.now ps) (sym (answer_input w.node c.seal.new.self.order c.args.message.now.from c.if-message.false)) (g.met.N.Net.put_still c.args.net.now),
    )
