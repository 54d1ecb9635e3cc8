-- The devices of one node after the other.
use mir.Syntax.{of_param}
use Rattle.std.proofs.Common.{◌∷◌, refl, sym, ap, subst, ◌∙◌, arith, ⊎_elim, inl, inr}
use Rattle.ken_drive.specs.Finishing.{WasKept}
use Rattle.ken_drive.proofs.Giving.{none-given, one-given, room-left, all-given, AreGiven}
use Rattle.ken_drive.proofs.finishing.finish.Goals as goal

pub loop-node-init : goal.loop-node-init
loop-node-init g c =
    let is = c.into_iter-node-iterator.ensures.into_iter_gives in
    let items = ap (λ i. i.b.rest.items) is ∙ c.zip-node-items.ensures.second.0 ∙ ap (λ s. s.items) c.into_stations.ensures in
    let count = ap (λ i. i.a.start) is ∙ ap (λ r. r.start) c.zip-node-items.ensures.first in (
      subst (λ xs. AreGiven (λ s k. WasKept s k) c.args.run.stations.items xs c.into_iter-node-iterator.result.a.start (g.W.World.kept c.args.world.now) (g.W.World.kept c.args.world.now)) (sym items)
          (subst (λ n. AreGiven (λ s k. WasKept s k) c.args.run.stations.items c.args.run.stations.items n (g.W.World.kept c.args.world.now) (g.W.World.kept c.args.world.now)) (sym count)
          (none-given (λ s k. WasKept s k) c.args.run.stations.items (g.W.World.kept c.args.world.now))),
      refl,
    )

pub keep_station-requires : goal.keep_station-requires
keep_station-requires g c =
    let steps = c.in-Some.ensures.steps in
    let room = room-left (λ s k. WasKept s k) c.args.run.stations.items c.in-Some.station c.next.new.self.b.rest.items c.loop-node.node-iterator.a.start 8 (g.W.World.kept c.args.world.now) (g.W.World.kept c.loop-node.world)
    (subst (λ xs. AreGiven (λ s k. WasKept s k) c.args.run.stations.items xs c.loop-node.node-iterator.a.start (g.W.World.kept c.args.world.now) (g.W.World.kept c.loop-node.world)) steps.1.0 c.loop-node.invariant.0) c.requires in
    let at = steps.0.0 in
    (record { owned = c.type_bounds.send-W-Dev.owned; leaving = λ k. c.type_bounds.send-W-Dev.leaving (λ _. k (of_param 1)) }, (record { owned = c.type_bounds.send-W-Luck.owned; leaving = λ k. c.type_bounds.send-W-Luck.leaving (λ _. k (of_param 2)) }, (record { owned = c.type_bounds.send-W-Out.owned; leaving = λ k. c.type_bounds.send-W-Out.leaving (λ _. k (of_param 3)) }, omega (arith, at, room))))

pub loop-node-preserved : goal.loop-node-preserved
loop-node-preserved g c =
    let steps = c.in-Some.ensures.steps in (
      subst (λ n. AreGiven (λ s k. WasKept s k) c.args.run.stations.items c.next.new.self.b.rest.items n (g.W.World.kept c.args.world.now) (g.W.World.kept c.keep_station.new.world)) (sym steps.0.1)
          (one-given (λ s k. WasKept s k) c.args.run.stations.items c.in-Some.station c.next.new.self.b.rest.items c.in-Some.node (g.W.World.kept c.args.world.now) (g.W.World.kept c.loop-node.world) (g.W.World.kept c.keep_station.new.world)
          (subst (λ n. AreGiven (λ s k. WasKept s k) c.args.run.stations.items (c.in-Some.station ∷ c.next.new.self.b.rest.items) n (g.W.World.kept c.args.world.now) (g.W.World.kept c.loop-node.world)) (sym steps.0.0)
          (subst (λ xs. AreGiven (λ s k. WasKept s k) c.args.run.stations.items xs c.loop-node.node-iterator.a.start (g.W.World.kept c.args.world.now) (g.W.World.kept c.loop-node.world)) steps.1.0 c.loop-node.invariant.0))
          c.keep_station.ensures.given c.keep_station.ensures.others),
      c.keep_station.ensures.files ∙ c.loop-node.invariant.1,
    )

pub returns-clause-given : goal.returns-clause-given
returns-clause-given g c = λ v d low.
    let rest = c.loop-node.node-iterator.b.rest in
    let all = all-given (λ s k. WasKept s k) c.args.run.stations.items rest.items c.loop-node.node-iterator.a.start 8 (g.W.World.kept c.args.world.now) (g.W.World.kept c.loop-node.world) c.loop-node.invariant.0 c.requires (omega arith) (⊎_elim (λ full. inl full.1.0) (λ none. inr (sym rest.ok.0 ∙ none.1.0)) c.in-None.ensures.steps) in
    c.loop-node.invariant.0.given v d (omega (arith, all, low))

pub returns-clause-others : goal.returns-clause-others
returns-clause-others g c = λ v above.
    let rest = c.loop-node.node-iterator.b.rest in
    let all = all-given (λ s k. WasKept s k) c.args.run.stations.items rest.items c.loop-node.node-iterator.a.start 8 (g.W.World.kept c.args.world.now) (g.W.World.kept c.loop-node.world) c.loop-node.invariant.0 c.requires (omega arith) (⊎_elim (λ full. inl full.1.0) (λ none. inr (sym rest.ok.0 ∙ none.1.0)) c.in-None.ensures.steps) in
    c.loop-node.invariant.0.others v (omega (arith, all, above))

pub returns-clause-files : goal.returns-clause-files
returns-clause-files g c = c.loop-node.invariant.1
