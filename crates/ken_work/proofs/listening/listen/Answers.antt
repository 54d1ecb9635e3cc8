use Rattle.std.proofs.Common.{◌≡◌, ℕ, List, [], ◌∷◌, ◌++◌, inr, subst, ◌∙◌, append-nil, arith}
use Rattle.std.proofs.lemmas.Result.{err_from_is_err_and}
use Rattle.ken_packet.specs.Reading.{packet_of}
use Rattle.ken_work.specs.declared.hearing.Heard.TheVariants.{Next, Again, Lost}
use Rattle.ken_work.specs.Hearing.{ack_put, heard}
use Rattle.ken_work.proofs.Passing.{heard_as, passed_more, found_next, stopped_at, found_none}
use Rattle.ken_work.proofs.listening.listen.Goals as goal
use Rattle.ken_work.proofs.listening.listen.Goals.{in-Again+in_ok-acknowledge-in-Again, in-Lost}

pub returns-in_default-clause-listens : goal.returns-in_default-clause-listens
returns-in_default-clause-listens g c =
    let inv = c.loop-taken.invariant in
    found_none c.args.node c.args.order.now c.loop-taken._taken (g.N.Net.given_between c.args.net.now c.loop-taken.net) (g.N.Net.given_between c.args.net.now c.take.new.self) (g.N.Net.put_between c.args.net.now c.loop-taken.net) (g.N.Net.put_between c.args.net.now c.take.new.self)
    inv.heard (g.N.Net.nones c.args.net.now) (g.N.Net.nones c.take.new.self) (omega arith) (inr (omega (arith, c.in_default.ensures.nones, inv.count)))
    (λ ps so. subst (g.N.Net.given_between c.args.net.now c.take.new.self) (append-nil ps) (g.met.N.Net.given_joins c.args.net.now c.loop-taken.net c.take.new.self ps [] so c.in_default.ensures.given))
    (λ ps so. subst (g.N.Net.put_between c.args.net.now c.take.new.self) (append-nil ps) (g.met.N.Net.put_joins c.args.net.now c.loop-taken.net c.take.new.self ps [] so c.in_default.ensures.put))

pub returns-in_err-message-clause-listens : goal.returns-in_err-message-clause-listens
returns-in_err-message-clause-listens g c =
    let inv = c.loop-taken.invariant in
    let p = err_from_is_err_and c.from_residual.result c.from_residual.ensures.1 in
    rw (p.1)
    (stopped_at c.args.node c.args.order.now c.loop-taken._taken (g.N.Net.given_between c.args.net.now c.loop-taken.net) (g.N.Net.given_between c.args.net.now c.take.new.self) (g.N.Net.put_between c.args.net.now c.loop-taken.net) (g.N.Net.put_between c.args.net.now c.take.new.self)
    inv.heard c.in-Some.bytes c.loop-taken-test.true
    (λ ps so. g.met.N.Net.given_joins c.args.net.now c.loop-taken.net c.take.new.self ps (c.in-Some.bytes ∷ []) so c.in-Some.ensures.given)
    (λ ps so. subst (g.N.Net.put_between c.args.net.now c.take.new.self) (append-nil ps) (g.met.N.Net.put_joins c.args.net.now c.loop-taken.net c.take.new.self ps [] so c.in-Some.ensures.put)))

pub returns-in-Next-clause-listens : goal.returns-in-Next-clause-listens
returns-in-Next-clause-listens g c =
    let inv = c.loop-taken.invariant in
    let is : heard c.args.node c.args.order.now (packet_of c.in-Some.bytes) ≡ Next c.in-Next.message =
    heard_as c.args.node c.args.order.now c.in-Some.bytes c.as_slice.result.now c.in_ok-message.field-0 (Next c.in-Next.message) c.as_slice.ensures c.in_ok-message.ensures.heard c.in-Next.is in
    found_next c.args.node c.args.order.now c.loop-taken._taken (g.N.Net.given_between c.args.net.now c.loop-taken.net) (g.N.Net.given_between c.args.net.now c.take.new.self) (g.N.Net.put_between c.args.net.now c.loop-taken.net) (g.N.Net.put_between c.args.net.now c.take.new.self)
    inv.heard (g.N.Net.nones c.args.net.now) (g.N.Net.nones c.take.new.self) c.in-Some.bytes c.in-Next.message is c.loop-taken-test.true
    (λ ps so. g.met.N.Net.given_joins c.args.net.now c.loop-taken.net c.take.new.self ps (c.in-Some.bytes ∷ []) so c.in-Some.ensures.given)
    (λ ps so. subst (g.N.Net.put_between c.args.net.now c.take.new.self) (append-nil ps) (g.met.N.Net.put_joins c.args.net.now c.loop-taken.net c.take.new.self ps [] so c.in-Some.ensures.put))

pub returns-in_err-acknowledge-in-Again-clause-listens : goal.returns-in_err-acknowledge-in-Again-clause-listens
returns-in_err-acknowledge-in-Again-clause-listens g c =
    let inv = c.loop-taken.invariant in
    let did = c.in_err-acknowledge-in-Again.ensures in
    let p = err_from_is_err_and c.from_residual-in_err-acknowledge-in-Again.result c.from_residual-in_err-acknowledge-in-Again.ensures.1 in
    rw (p.1)
    (stopped_at c.args.node c.args.order.now c.loop-taken._taken (g.N.Net.given_between c.args.net.now c.loop-taken.net) (g.N.Net.given_between c.args.net.now c.acknowledge.new.net) (g.N.Net.put_between c.args.net.now c.loop-taken.net) (g.N.Net.put_between c.args.net.now c.acknowledge.new.net)
    inv.heard c.in-Some.bytes c.loop-taken-test.true
    (λ ps so. subst (g.N.Net.given_between c.args.net.now c.acknowledge.new.net) (append-nil (ps ++ c.in-Some.bytes ∷ []))
    (g.met.N.Net.given_joins c.args.net.now c.take.new.self c.acknowledge.new.net (ps ++ c.in-Some.bytes ∷ []) [] (g.met.N.Net.given_joins c.args.net.now c.loop-taken.net c.take.new.self ps (c.in-Some.bytes ∷ []) so c.in-Some.ensures.given) did.given))
    (λ ps so. subst (g.N.Net.put_between c.args.net.now c.acknowledge.new.net) (append-nil ps)
    (g.met.N.Net.put_joins c.args.net.now c.take.new.self c.acknowledge.new.net ps [] (subst (g.N.Net.put_between c.args.net.now c.take.new.self) (append-nil ps) (g.met.N.Net.put_joins c.args.net.now c.loop-taken.net c.take.new.self ps [] so c.in-Some.ensures.put)) did.put)))

pub loop-taken-preserved : goal.loop-taken-preserved
loop-taken-preserved g c =
    let inv = c.loop-taken.invariant in
    let bytes : List ℕ = c.in-Some.bytes in
    elim c.match-branch-2.branch [
      | in-Again+in_ok-acknowledge-in-Again w ↦
          let did = w.in_ok-acknowledge-in-Again.ensures in
          let net = w.acknowledge.new.net in
          rw w.net-is (record {
            heard = passed_more c.args.node c.args.order.now c.loop-taken._taken (g.N.Net.given_between c.args.net.now c.loop-taken.net) (g.N.Net.given_between c.args.net.now net) (g.N.Net.put_between c.args.net.now c.loop-taken.net) (g.N.Net.put_between c.args.net.now net)
                inv.heard bytes (Again w.in-Again.from)
                (heard_as c.args.node c.args.order.now bytes c.as_slice.result.now c.in_ok-message.field-0 (Again w.in-Again.from) c.as_slice.ensures c.in_ok-message.ensures.heard w.in-Again.is)
                tt
                (λ ps so. subst (g.N.Net.given_between c.args.net.now net) (append-nil (ps ++ bytes ∷ []))
                (g.met.N.Net.given_joins c.args.net.now c.take.new.self net (ps ++ bytes ∷ []) [] (g.met.N.Net.given_joins c.args.net.now c.loop-taken.net c.take.new.self ps (bytes ∷ []) so c.in-Some.ensures.given) did.given))
                (λ ps so. g.met.N.Net.put_joins c.args.net.now c.take.new.self net ps (ack_put c.args.node c.args.order.now w.in-Again.from ∷ []) (subst (g.N.Net.put_between c.args.net.now c.take.new.self) (append-nil ps) (g.met.N.Net.put_joins c.args.net.now c.loop-taken.net c.take.new.self ps [] so c.in-Some.ensures.put)) did.put);
            count = did.nones ∙ c.in-Some.ensures.nones ∙ inv.count;
            end_is = (did.end.0 ∙ c.in-Some.ensures.end.0 ∙ inv.end_is.0, did.end.1 ∙ c.in-Some.ensures.end.1 ∙ inv.end_is.1);
          })
      | in-Lost w ↦
          let net = c.take.new.self in
          rw w.net-is (record {
            heard = passed_more c.args.node c.args.order.now c.loop-taken._taken (g.N.Net.given_between c.args.net.now c.loop-taken.net) (g.N.Net.given_between c.args.net.now net) (g.N.Net.put_between c.args.net.now c.loop-taken.net) (g.N.Net.put_between c.args.net.now net)
                inv.heard bytes Lost
                (heard_as c.args.node c.args.order.now bytes c.as_slice.result.now c.in_ok-message.field-0 Lost c.as_slice.ensures c.in_ok-message.ensures.heard w.in-Lost.is)
                tt
                (λ ps so. g.met.N.Net.given_joins c.args.net.now c.loop-taken.net net ps (bytes ∷ []) so c.in-Some.ensures.given)
                (λ ps so. g.met.N.Net.put_joins c.args.net.now c.loop-taken.net net ps [] so c.in-Some.ensures.put);
            count = c.in-Some.ensures.nones ∙ inv.count;
            end_is = (c.in-Some.ensures.end.0 ∙ inv.end_is.0, c.in-Some.ensures.end.1 ∙ inv.end_is.1);
          })
    ]
