-- Whether a message waits on its way from one node to another.
use Rattle.std.proofs.Common.{inl}
use Rattle.ken_run.proofs.AtEnd.{below-eight, message-waits, no-message}
use Rattle.ken_run.proofs.run.Run.has_message.Goals as goal

pub sent-requires-clause-to : goal.sent-requires-clause-to
sent-requires-clause-to g c = below-eight (λ w. g.D.Disk.told w.disk) (λ w. g.D.Disk.size w.disk) g.U.Outlet.took g.A.App.handler c.args.self.now c.requires.to.game c.requires.to.made c.args.to c.requires.to.running c.requires.to.known

pub returns-clause-some : goal.returns-clause-some
returns-clause-some g c = λ less game made is from to.
    let few = below-eight (λ w. g.D.Disk.told w.disk) (λ w. g.D.Disk.size w.disk) g.U.Outlet.took g.A.App.handler c.args.self.now game made c.args.from is from in
    let taker = c.node_at.ensures.up game made is to in
    let sender = c.node_at-2.ensures.up game made is from in
    message-waits game is.nodes c.args.from c.args.to c.consumed.result c.sent.result few (c.consumed.ensures game c.args.to (is.nodes c.args.to) taker (inl few)) (c.sent.ensures game c.args.from (is.nodes c.args.from) sender) less

pub returns-clause-none : goal.returns-clause-none
returns-clause-none g c = λ less game made is from to.
    let few = below-eight (λ w. g.D.Disk.told w.disk) (λ w. g.D.Disk.size w.disk) g.U.Outlet.took g.A.App.handler c.args.self.now game made c.args.from is from in
    let taker = c.node_at.ensures.up game made is to in
    let sender = c.node_at-2.ensures.up game made is from in
    no-message game is.nodes c.args.from c.args.to c.consumed.result c.sent.result few (c.consumed.ensures game c.args.to (is.nodes c.args.to) taker (inl few)) (c.sent.ensures game c.args.from (is.nodes c.args.from) sender) less
