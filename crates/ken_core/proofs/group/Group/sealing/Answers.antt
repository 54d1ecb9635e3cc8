use Rattle.std.proofs.Common.{◌≡◌, slice_set, sym, ap, subst, ◌∙◌, arith, List}
use Rattle.std.proofs.lemmas.List.{set-get_or}
use Rattle.ken_model.specs.declared.messages.Message.{Message}
use Rattle.ken_model.specs.Game.{game_of}
use Rattle.ken_model.specs.Network.{Turn}
use Rattle.ken_core.specs.declared.machine.Machine.{Machine}
use Rattle.ken_core.specs.Nodes.{Node}
use Rattle.ken_core.specs.Clusters.{WasPut}
use Rattle.ken_core.specs.Groups.{Shown, shown_at, node_in, group_of, AreKept, made_by}
use Rattle.ken_core.specs.Sealings.{MakesTurn, IsSealing}
use Rattle.ken_core.specs.Next.{IsReady, IsUnready, count_at}
use Rattle.ken_core.proofs.Moves.{read_at, kept_at, before}
use Rattle.ken_core.proofs.Played.{few_made, next_early, stamp_most, next_of, makes_of}
use Rattle.ken_core.proofs.Results.{some_then, none_then}
use Rattle.ken_core.proofs.group.Group.sealing.Goals as goal
use Rattle.ken_core.proofs.group.Group.sealing.Goals.{After-prepare}

pub returns-in_default-clause-none : goal.returns-in_default-clause-none
returns-in_default-clause-none c = λ t may.
    c.in_default.ensures c.args.self.now.emissions.items t.message (next_of (game_of c.args.self.now.facts.now) (WasPut (group_of (game_of c.args.self.now.facts.now) c.args.self.now.machines.items c.args.self.now.emissions.items)) c.args.node (shown_at (game_of c.args.self.now.facts.now) c.args.self.now.machines.items c.args.node).node c.args.from c.args.draws.now c.args.pages.now t may)

pub prepare-requires-clause-kept : goal.prepare-requires-clause-kept
prepare-requires-clause-kept c = (made_by c.args.self.now.machines.items, kept_at (game_of c.args.self.now.facts.now) c.args.self.now.machines.items c.args.node c.from.result c.index_mut-machine.result.now c.requires.kept c.from.ensures c.requires.known c.index_mut-machine.ensures.value)

pub prepare-requires-clause-early : goal.prepare-requires-clause-early
prepare-requires-clause-early c =
    let mine = kept_at (game_of c.args.self.now.facts.now) c.args.self.now.machines.items c.args.node c.from.result c.index_mut-machine.result.now c.requires.kept c.from.ensures c.requires.known c.index_mut-machine.ensures.value in
    let next = (c.in-Some.ensures c.args.self.now.emissions.items).0 in
    let early = next_early (game_of c.args.self.now.facts.now) c.args.self.now.machines.items c.args.self.now.emissions.items c.args.node c.args.from (count_at (game_of c.args.self.now.facts.now) c.args.self.now.machines.items c.args.node c.args.from) c.in-Some.message.now c.requires.kept c.requires.known next in
    let before = stamp_most (made_by c.args.self.now.machines.items) 0 c.index_mut-machine.result.now.ledger.turns.items (omega arith) mine.early in
    let few = few_made (game_of c.args.self.now.facts.now) c.args.self.now.machines.items c.requires.kept in
    let same = ap (λ (m : Message). m.stamp) c.in_ok-message.ensures in
    omega arith

node_is : (c : After-prepare) → node_in c.index_mut-machine.result.now ≡ (shown_at (game_of c.args.self.now.facts.now) c.args.self.now.machines.items c.args.node).node
node_is c =
    let is = read_at (game_of c.args.self.now.facts.now) c.args.self.now.machines.items c.args.node c.from.result c.index_mut-machine.result.now c.requires.kept c.from.ensures c.requires.known c.index_mut-machine.ensures.value in
    ap (λ (x : Shown). x.node) (sym (before (game_of c.args.self.now.facts.now) c.args.self.now.machines.items c.args.node c.index_mut-machine.result.now c.index_mut-machine.result.now is))

-- the nodes are as they were
all_same : (c : After-prepare) → (slice_set c.args.self.now.machines.items c.from.result c.prepare.new.machine) ≡ c.args.self.now.machines.items
all_same c = ap (slice_set c.args.self.now.machines.items c.from.result) (c.prepare.ensures.same ∙ c.index_mut-machine.ensures.value) ∙ set-get_or c.args.self.now.machines.items c.from.result c.index_mut-machine.result.now

pub returns-clause-some : goal.returns-clause-some
returns-clause-some c =
    let at = (goal.at.returns-clause-some c).After-prepare in
    some_then c.prepare.result (IsSealing (game_of c.args.self.now.facts.now) c.args.node (node_in c.index_mut-machine.result.now) c.in_ok-message.message c.args.draws.now c.args.pages.now) (IsReady (game_of c.args.self.now.facts.now) (slice_set c.args.self.now.machines.items c.from.result c.prepare.new.machine) c.args.self.now.emissions.items c.args.node c.args.from c.args.draws.now c.args.pages.now)
    (λ s is. subst (λ (ms : List Machine). IsReady (game_of c.args.self.now.facts.now) ms c.args.self.now.emissions.items c.args.node c.args.from c.args.draws.now c.args.pages.now s) (sym (all_same at)) (record {
      message = c.in-Some.message.now;
      next = (c.in-Some.ensures c.args.self.now.emissions.items).0;
      sealing = subst (λ (n : Node). IsSealing (game_of c.args.self.now.facts.now) c.args.node n c.in-Some.message.now c.args.draws.now c.args.pages.now s) (node_is at)
          (subst (λ (m : Message). IsSealing (game_of c.args.self.now.facts.now) c.args.node (node_in c.index_mut-machine.result.now) m c.args.draws.now c.args.pages.now s) c.in_ok-message.ensures is);
    }))
    c.prepare.ensures.some

pub returns-clause-none : goal.returns-clause-none
returns-clause-none c =
    let at = (goal.at.returns-clause-none c).After-prepare in
    none_then c.prepare.result ((t : Turn) → MakesTurn (game_of c.args.self.now.facts.now) c.args.node (node_in c.index_mut-machine.result.now) c.in_ok-message.message c.args.draws.now c.args.pages.now t → ⊥)
    (IsUnready (game_of c.args.self.now.facts.now) (slice_set c.args.self.now.machines.items c.from.result c.prepare.new.machine) c.args.self.now.emissions.items c.args.node c.args.from c.args.draws.now c.args.pages.now)
    (λ none. subst (λ (ms : List Machine). IsUnready (game_of c.args.self.now.facts.now) ms c.args.self.now.emissions.items c.args.node c.args.from c.args.draws.now c.args.pages.now) (sym (all_same at)) (λ t may.
    let next = next_of (game_of c.args.self.now.facts.now) (WasPut (group_of (game_of c.args.self.now.facts.now) c.args.self.now.machines.items c.args.self.now.emissions.items)) c.args.node (shown_at (game_of c.args.self.now.facts.now) c.args.self.now.machines.items c.args.node).node c.args.from c.args.draws.now c.args.pages.now t may in
    let same = (c.in-Some.ensures c.args.self.now.emissions.items).1 t.message next ∙ sym c.in_ok-message.ensures in
    let makes = makes_of (game_of c.args.self.now.facts.now) (WasPut (group_of (game_of c.args.self.now.facts.now) c.args.self.now.machines.items c.args.self.now.emissions.items)) c.args.node (shown_at (game_of c.args.self.now.facts.now) c.args.self.now.machines.items c.args.node).node c.args.from c.args.draws.now c.args.pages.now c.in_ok-message.message t may same in
    none t (subst (λ (n : Node). MakesTurn (game_of c.args.self.now.facts.now) c.args.node n c.in_ok-message.message c.args.draws.now c.args.pages.now t) (sym (node_is at)) makes)))
    c.prepare.ensures.none

pub returns-clause-same : goal.returns-clause-same
returns-clause-same c = ap (λ (ms : List Machine). group_of (game_of c.args.self.now.facts.now) ms c.args.self.now.emissions.items) (all_same (goal.at.returns-clause-same c).After-prepare)

pub returns-clause-kept : goal.returns-clause-kept
returns-clause-kept c = subst (λ (ms : List Machine). AreKept (game_of c.args.self.now.facts.now) ms) (sym (all_same (goal.at.returns-clause-kept c).After-prepare)) c.requires.kept
