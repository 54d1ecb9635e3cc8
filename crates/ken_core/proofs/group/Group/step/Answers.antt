use Rattle.std.proofs.Common.{IfOk, sym, subst}
use Rattle.ken_model.specs.Game.{game_of}
use Rattle.ken_core.specs.declared.events.Event.{Event}
use Rattle.ken_core.specs.Groups.{group_of, Plays}
use Rattle.ken_core.proofs.group.Group.step.Goals as goal

pub returns-in-Seal-clause-plays : goal.returns-in-Seal-clause-plays
returns-in-Seal-clause-plays c = subst (λ (e : Event). IfOk c.seal.result (λ b. Plays (game_of c.args.self.now.facts.now) (group_of (game_of c.args.self.now.facts.now) c.args.self.now.machines.items c.args.self.now.emissions.items) e (group_of (game_of c.args.self.now.facts.now) c.seal.new.self.machines.items c.seal.new.self.emissions.items) b)) (sym c.in-Seal.is) c.seal.ensures.plays

pub returns-in-SealCut-clause-plays : goal.returns-in-SealCut-clause-plays
returns-in-SealCut-clause-plays c = subst (λ (e : Event). IfOk c.cut_seal.result (λ b. Plays (game_of c.args.self.now.facts.now) (group_of (game_of c.args.self.now.facts.now) c.args.self.now.machines.items c.args.self.now.emissions.items) e (group_of (game_of c.args.self.now.facts.now) c.cut_seal.new.self.machines.items c.cut_seal.new.self.emissions.items) b)) (sym c.in-SealCut.is) c.cut_seal.ensures.plays

pub returns-in-Send-clause-plays : goal.returns-in-Send-clause-plays
returns-in-Send-clause-plays c = subst (λ (e : Event). IfOk c.send.result (λ b. Plays (game_of c.args.self.now.facts.now) (group_of (game_of c.args.self.now.facts.now) c.args.self.now.machines.items c.args.self.now.emissions.items) e (group_of (game_of c.args.self.now.facts.now) c.send.new.self.machines.items c.send.new.self.emissions.items) b)) (sym c.in-Send.is) c.send.ensures.plays

pub returns-in-Emit-clause-plays : goal.returns-in-Emit-clause-plays
returns-in-Emit-clause-plays c = subst (λ (e : Event). IfOk c.emit.result (λ b. Plays (game_of c.args.self.now.facts.now) (group_of (game_of c.args.self.now.facts.now) c.args.self.now.machines.items c.args.self.now.emissions.items) e (group_of (game_of c.args.self.now.facts.now) c.emit.new.self.machines.items c.emit.new.self.emissions.items) b)) (sym c.in-Emit.is) c.emit.ensures.plays

pub returns-in-Patch-clause-plays : goal.returns-in-Patch-clause-plays
returns-in-Patch-clause-plays c = subst (λ (e : Event). Plays (game_of c.args.self.now.facts.now) (group_of (game_of c.args.self.now.facts.now) c.args.self.now.machines.items c.args.self.now.emissions.items) e (group_of (game_of c.args.self.now.facts.now) c.patch.new.self.machines.items c.patch.new.self.emissions.items) c.patch.result) (sym c.in-Patch.is) c.patch.ensures.plays
