use Rattle.std.proofs.Common.{◌≡◌, IfOk, sym, subst}
use Rattle.std.specs.Result.{OnErr}
use Rattle.ken_model.specs.declared.facts.Facts.{Facts}
use Rattle.ken_model.specs.Game.{game_of}
use Rattle.ken_core.specs.Groups.{group_of, AreKept, Plays}
use Rattle.ken_core.proofs.Going.{call_accord}
use Rattle.ken_core.proofs.cluster.Cluster.step.Goals as goal

pub returns : goal.returns
returns c =
    let facts : c.step.new.self.facts.now ≡ c.args.self.now.group.facts.now = c.step.ensures.facts in
    let plays : IfOk c.step.result (λ b. Plays (game_of c.args.self.now.group.facts.now) (group_of (game_of c.args.self.now.group.facts.now) c.args.self.now.group.machines.items c.args.self.now.group.emissions.items) c.args.event.now (group_of (game_of c.step.new.self.facts.now) c.step.new.self.machines.items c.step.new.self.emissions.items) b) =
    subst (λ (f : Facts). IfOk c.step.result (λ b. Plays (game_of c.args.self.now.group.facts.now) (group_of (game_of c.args.self.now.group.facts.now) c.args.self.now.group.machines.items c.args.self.now.group.emissions.items) c.args.event.now (group_of (game_of f) c.step.new.self.machines.items c.step.new.self.emissions.items) b)) (sym facts) c.step.ensures.plays in
    let err : OnErr c.step.result (group_of (game_of c.step.new.self.facts.now) c.step.new.self.machines.items c.step.new.self.emissions.items ≡ group_of (game_of c.args.self.now.group.facts.now) c.args.self.now.group.machines.items c.args.self.now.group.emissions.items) =
    subst (λ (f : Facts). OnErr c.step.result (group_of (game_of f) c.step.new.self.machines.items c.step.new.self.emissions.items ≡ group_of (game_of c.args.self.now.group.facts.now) c.args.self.now.group.machines.items c.args.self.now.group.emissions.items)) (sym facts) c.step.ensures.err in
    record {
      sound = subst (λ (f : Facts). AreKept (game_of f) c.step.new.self.machines.items) (sym facts) c.step.ensures.kept;
      plays = plays;
      err = err;
      accord = λ accord. call_accord (game_of c.args.self.now.group.facts.now) _ _ c.args.event.now c.step.result plays err accord;
      facts = facts;
    }
