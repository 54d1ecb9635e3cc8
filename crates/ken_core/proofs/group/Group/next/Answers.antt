use Rattle.std.proofs.Common.{◌≡◌, ◌+◌, ◌<◌, List, Option, length, get_or, slice_get, refl, sym, ap, subst, ◌∙◌, arith}
use Rattle.std.specs.Option.{option_copied}
use Rattle.ken_model.specs.declared.messages.Message.{Message}
use Rattle.ken_model.specs.Game.{game_of}
use Rattle.ken_model.specs.Network.{outside, inputs_for}
use Rattle.ken_core.specs.declared.machine.Machine.{Machine}
use Rattle.ken_core.specs.Turns.{consumed_from}
use Rattle.ken_core.specs.Groups.{Shown, shown, shown_at}
use Rattle.ken_core.specs.Next.{IsNextOf, count_at}
use Rattle.ken_core.proofs.Moves.{read_at, kept_at, before}
use Rattle.ken_core.proofs.Coming.{next_nobody, next_input, next_mail}
use Rattle.ken_core.proofs.group.Group.next.Goals as goal
use Rattle.ken_core.proofs.group.Group.next.Goals.{In_ok-count}

pub consumed_from-requires : goal.consumed_from-requires
consumed_from-requires c = (game_of c.args.self.now.facts.now, (c.args.node, (kept_at (game_of c.args.self.now.facts.now) c.args.self.now.machines.items c.args.node c.from.result c.index-receiver.result.now c.requires.kept c.from.ensures c.requires.known c.index-receiver.ensures).ledger))

pub returns-in_err-count : goal.returns-in_err-count
returns-in_err-count c =
    let mine = kept_at (game_of c.args.self.now.facts.now) c.args.self.now.machines.items c.args.node c.from.result c.index-receiver.result.now c.requires.kept c.from.ensures c.requires.known c.index-receiver.ensures in
    let none = c.in_err-count.ensures.none refl in
    subst (λ (o : Option Message). IsNextOf (game_of c.args.self.now.facts.now) c.args.self.now.machines.items c.args.node c.args.from o) (sym (ap option_copied c.from_residual.ensures))
    (next_nobody (game_of c.args.self.now.facts.now) c.args.self.now.machines.items c.args.node c.args.from c.requires.kept (let wide = mine.ledger.consumed_width in let past = none.0 in omega arith) none.1)

count_is : (c : In_ok-count) → c.in_ok-count.count ≡ count_at (game_of c.args.self.now.facts.now) c.args.self.now.machines.items c.args.node c.args.from
count_is c =
    let is = read_at (game_of c.args.self.now.facts.now) c.args.self.now.machines.items c.args.node c.from.result c.index-receiver.result.now c.requires.kept c.from.ensures c.requires.known c.index-receiver.ensures in
    c.in_ok-count.ensures.some ∙ ap (λ (s : Shown). consumed_from c.args.from s.node.turning.turns) (sym (before (game_of c.args.self.now.facts.now) c.args.self.now.machines.items c.args.node c.index-receiver.result.now c.index-receiver.result.now is))

pub returns-then-from-eq-OUTSIDE : goal.returns-then-from-eq-OUTSIDE
returns-then-from-eq-OUTSIDE c =
    let at = (goal.at.returns-then-from-eq-OUTSIDE c).In_ok-count in
    let mine = kept_at (game_of c.args.self.now.facts.now) c.args.self.now.machines.items c.args.node c.from.result c.index-receiver.result.now c.requires.kept c.from.ensures c.requires.known c.index-receiver.ensures in
    let from : c.args.from ≡ outside = c.if-from-eq-OUTSIDE.true in
    let count : c.in_ok-count.count ≡ count_at (game_of c.args.self.now.facts.now) c.args.self.now.machines.items c.args.node outside = subst (λ u. c.in_ok-count.count ≡ count_at (game_of c.args.self.now.facts.now) c.args.self.now.machines.items c.args.node u) from (count_is at) in
    let found : option_copied c.input_at.result ≡ slice_get (inputs_for (game_of c.args.self.now.facts.now) c.args.node) c.in_ok-count.count = c.input_at.ensures ∙ ap (λ (ms : List Message). slice_get ms c.in_ok-count.count) mine.ledger.inputs in
    subst (λ u. IsNextOf (game_of c.args.self.now.facts.now) c.args.self.now.machines.items c.args.node u (option_copied c.input_at.result)) (sym from)
    (next_input (game_of c.args.self.now.facts.now) c.args.self.now.machines.items c.args.node (option_copied c.input_at.result) c.requires.kept (ap (slice_get (inputs_for (game_of c.args.self.now.facts.now) c.args.node)) (sym count) ∙ sym found))

pub returns : goal.returns
returns c =
    let at = (goal.at.returns c).In_ok-count in
    let count = count_is at in
    let inside : c.args.from < c.args.self.now.facts.now.nodes = omega (arith, c.in_ok-sender.ensures.lookup.3.0, ap length c.deref.ensures.value, c.from-2.ensures, c.requires.kept.width) in
    let there = read_at (game_of c.args.self.now.facts.now) c.args.self.now.machines.items c.args.from c.from-2.result c.in_ok-sender.sender.now c.requires.kept c.from-2.ensures inside (subst (λ (ms : List Machine). c.in_ok-sender.sender.now ≡ get_or ms c.from-2.result c.in_ok-sender.sender.now) c.deref.ensures.value c.in_ok-sender.ensures.lookup.1) in
    let sender : shown_at (game_of c.args.self.now.facts.now) c.args.self.now.machines.items c.args.from ≡ shown c.in_ok-sender.sender.now = before (game_of c.args.self.now.facts.now) c.args.self.now.machines.items c.args.from c.in_ok-sender.sender.now c.in_ok-sender.sender.now there in
    next_mail (game_of c.args.self.now.facts.now) c.args.self.now.machines.items c.args.node c.args.from (option_copied c.put_at.result) c.requires.kept c.requires.known c.if-from-eq-OUTSIDE.false
    (ap (λ (s : Shown). s.mail c.args.node (count_at (game_of c.args.self.now.facts.now) c.args.self.now.machines.items c.args.node c.args.from + 1)) sender ∙ ap (λ k. (shown c.in_ok-sender.sender.now).mail c.args.node (k + 1)) (sym count) ∙ sym c.put_at.ensures)
