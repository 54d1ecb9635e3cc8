use Rattle.std.proofs.Common.{ℕ, List, ◌∷◌, [], inr, ◌∙◌, subst, arith, append-nil}
use Rattle.ken_outbox.specs.Waiting.{Waiting}
use Rattle.ken_ship.specs.Parts.{due_in}
use Rattle.ken_ship.proofs.Heard.{heard_more, heard_still, heard_until}
use Rattle.ken_ship.proofs.hearing.hear_all.Goals as goal

pub loop-taken-preserved : goal.loop-taken-preserved
loop-taken-preserved g c =
    let inv = c.loop-taken.invariant in
    let old : Waiting = due_in c.args.backlog.now in
    let mid : Waiting = due_in c.loop-taken.backlog in
    let bytes : List ℕ = c.in-Some.bytes in
    record {
      node = c.hear.ensures.node ∙ inv.node;
      handed = c.hear.ensures.handed ∙ inv.handed;
      turns = c.hear.ensures.turns;
      heard = heard_more c.args.backlog.now.node c.loop-taken.backlog.node c.args.nodes c.loop-taken._taken (g.N.Net.given_between c.args.net.now c.loop-taken.net) (g.N.Net.given_between c.args.net.now c.take.new.self) bytes c.as_slice.result.now old mid (due_in c.hear.new.backlog) inv.heard
          (λ packets so. g.met.N.Net.given_joins c.args.net.now c.loop-taken.net c.take.new.self packets (bytes ∷ []) so c.in-Some.ensures.given) inv.node c.as_slice.ensures c.hear.ensures.due;
      count = c.in-Some.ensures.nones ∙ inv.count;
      end_is = (c.in-Some.ensures.end.0 ∙ inv.end_is.0, c.in-Some.ensures.end.1 ∙ inv.end_is.1);
      put = g.met.N.Net.put_joins c.args.net.now c.loop-taken.net c.take.new.self [] [] inv.put c.in-Some.ensures.put;
    }

pub returns-in-None-clause-heard : goal.returns-in-None-clause-heard
returns-in-None-clause-heard g c =
    let inv = c.loop-taken.invariant in
    let v : ℕ = c.args.backlog.now.node in
    let still = heard_still v c.args.nodes c.loop-taken._taken (g.N.Net.given_between c.args.net.now c.loop-taken.net) (g.N.Net.given_between c.args.net.now c.take.new.self) (due_in c.args.backlog.now) (due_in c.loop-taken.backlog) inv.heard
    (λ packets so. subst (g.N.Net.given_between c.args.net.now c.take.new.self) (append-nil packets) (g.met.N.Net.given_joins c.args.net.now c.loop-taken.net c.take.new.self packets [] so c.in-None.ensures.given)) in
    heard_until v c.args.nodes c.loop-taken._taken (g.N.Net.nones c.args.net.now) (g.N.Net.nones c.take.new.self) (g.N.Net.given_between c.args.net.now c.take.new.self) (due_in c.args.backlog.now) (due_in c.loop-taken.backlog) still (omega arith)
    (inr (omega (arith, c.in-None.ensures.nones, inv.count)))

pub returns-in-None-clause-put : goal.returns-in-None-clause-put
returns-in-None-clause-put g c = g.met.N.Net.put_joins c.args.net.now c.loop-taken.net c.take.new.self [] [] c.loop-taken.invariant.put c.in-None.ensures.put
