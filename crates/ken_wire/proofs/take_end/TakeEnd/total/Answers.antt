use Rattle.std.proofs.Common.{sym, ◌∙◌}
use Rattle.crossbeam_queue.specs.Passes.{view}
use Rattle.ken_wire.specs.Ends.{taker_of, joined_of, heard_of}
use Rattle.ken_wire.proofs.Aimed.{carries, was_handed_in}
use Rattle.ken_wire.proofs.take_end.TakeEnd.total.Goals as goal

pub returns-clause-carried : goal.returns-clause-carried
returns-clause-carried c =
    let s = c.args.self.now in
    let v = view s.pass in
    carries s.to v.made v.joined v.heard c.learn_as.ensures.rule.0 (c.requires ∙ sym s.count) s.aimed c.learn_as.ensures.rule.1

pub returns-clause-heard : goal.returns-clause-heard
returns-clause-heard c = let s = c.args.self.now in was_handed_in (taker_of s) (joined_of s) (heard_of s) (returns-clause-carried c)
