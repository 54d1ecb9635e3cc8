use Rattle.std.proofs.Common.{◌≡◌, sym, subst}
use Rattle.ken_model.specs.declared.facts.Facts.{Facts}
use Rattle.ken_model.specs.Game.{game_of}
use Rattle.ken_core.specs.Clusters.{Cluster, start}
use Rattle.ken_core.specs.Accord.{Accord}
use Rattle.ken_core.specs.Groups.{group_of, AreKept}
use Rattle.ken_core.proofs.History.{start_is_in_accord}
use Rattle.ken_core.proofs.cluster.Cluster.start.Goals as goal

pub returns : goal.returns
returns c =
    let group = c.in_ok-group.group in
    let facts : c.in_ok-group.group.facts.now ≡ c.args.facts.now = c.in_ok-group.ensures.facts in
    let begins : group_of (game_of c.in_ok-group.group.facts.now) c.in_ok-group.group.machines.items c.in_ok-group.group.emissions.items ≡ start (game_of c.args.facts.now) =
    subst (λ (f : Facts). group_of (game_of f) c.in_ok-group.group.machines.items c.in_ok-group.group.emissions.items ≡ start (game_of c.args.facts.now)) (sym facts) c.in_ok-group.ensures.start in
    record {
      sound = subst (λ (f : Facts). AreKept (game_of f) c.in_ok-group.group.machines.items) (sym facts) c.in_ok-group.ensures.kept;
      facts = facts;
      start = begins;
      accord = subst (λ (w : Cluster). Accord (game_of c.args.facts.now) w) (sym begins) (start_is_in_accord c.first_is_empty.ensures c.reads_what_stands.ensures (game_of c.args.facts.now) c.requires);
    }
