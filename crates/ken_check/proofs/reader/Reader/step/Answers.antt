use Rattle.std.proofs.Common.{◌≡◌, ℕ, ◌+◌, ◌<◌, ◌^◌, List, [], ◌∷◌, ◌++◌, length, Some, true, false, refl, sym, ap, ap₂, subst, arith, rules, ◌∙◌}
use Rattle.std.specs.Vec.{with_items}
use Rattle.std.proofs.lemmas.List.{with_items_is}
use Rattle.ken_check.specs.declared.checker.Checker.{Checker}
use Rattle.ken_actors.specs.Held.{playing_of}
use Rattle.ken_actors.specs.Playing.{Playing}
use Rattle.ken_model.specs.declared.messages.Message.{Message}
use Rattle.std.specs.List.{AllByRecursion}
use Rattle.ken_model.specs.Game.{Game}
use Rattle.ken_model.specs.Network.{Turn, start, turn_of}
use Rattle.ken_model.specs.Report.{line, turn_words}
use Rattle.ken_check.specs.declared.known.Known.{Known}
use Rattle.ken_actors.specs.Decided.{IsDecided}
use Rattle.ken_check.specs.Counts.{HaveRoom, HaveTurned, MayTurn}
use Rattle.ken_model.specs.Schedule.{ComesBefore, play}
use Rattle.ken_check.specs.Kinds.{IsTurnLine, IsTurnOf}
use Rattle.ken_check.proofs.Counting.{few_turns, may_turn, room_for}
use Rattle.ken_check.proofs.Turning.{IsAfterTurn, alike_now, draws_are_words, heard_refusal, is_next, legal_push, legal_whole, one_turn, refused_turn, same_turn, turn_known, wrong_node}
use Rattle.ken_check.proofs.reader.Reader.step.Goals as goal

pub returns-then-step-self : goal.returns-then-step-self
returns-then-step-self gen c = λ g most decided told follows told2 line. wrong_node g most c.args.self.now.checker told c.args.step _ told2 c.if-step-self.true follows.knows line

pub returns-in-Err : goal.returns-in-Err
returns-in-Err gen c = λ g most.
    let h = gen.P.Player.handler in
    let old = c.args.self.now in
    let p : Playing = playing_of h old.actors in
    heard_refusal h g most (IsTurnOf g c.args.step) _ old _ c.args.text.now c.refusal.result c.refusal.ensures
    (λ decided told follows told2 line other.
    let next = is_next g most old.checker told c.args.step _ told2 follows.knows line in
    let by = subst IsDecided (sym (ap (λ (x : Game). x.handler) follows.game)) decided in
    refused_turn p c.args.step line.0.turn c.step-2.result c.in-Err.fault c.in-Err.is other c.step-2.ensures.capped c.step-2.ensures.no_message (λ is. c.step-2.ensures.draws is by)
    (same_turn g p (play g told.schedule) c.args.step follows.game follows.alike ∙ next.made))

pub returns-then-not-comes_before : goal.returns-then-not-comes_before
returns-then-not-comes_before gen c = λ g most decided told follows told2 line.
    let h = gen.P.Player.handler in
    let old = c.args.self.now in
    let next = is_next g most old.checker told c.args.step _ told2 follows.knows line in
    let made = c.in-Ok.ensures.done in
    let one = one_turn g (playing_of h old.actors) _ (play g told.schedule) c.args.step c.in-Ok.done line.0.turn follows.game follows.alike made next.made in
    let stamp = made.stamp ∙ ap (λ (t : Turn). t.stamp) one in
    let before = subst (λ (n : ℕ). ComesBefore old.checker.stamp old.checker.node n c.args.step.node) (sym stamp) next.before in
    let differ : true ≡ false = sym (c.comes_before.ensures.1 before) ∙ c.if-not-comes_before.true in
    absurd cc

pub turned-requires-clause-room : goal.turned-requires-clause-room
turned-requires-clause-room gen c =
    let r = c.requires.following in
    subst (HaveRoom (length c.in-Ok.done.sends)) (sym c.deref_mut.ensures.value) (room_for r.game r.most c.args.self.now.checker r.told r.follows.knows (length c.in-Ok.done.sends) c.in-Ok.ensures.few)

pub turned-requires-clause-turn : goal.turned-requires-clause-turn
turned-requires-clause-turn gen c =
    let r = c.requires.following in
    subst MayTurn (sym c.deref_mut.ensures.value) (may_turn r.game r.most c.args.self.now.checker r.told r.follows.knows)

pub overflow_add-checker : goal.overflow_add-checker
overflow_add-checker gen c =
    let r = c.requires.following in
    omega (arith, r.follows.knows.turns, few_turns r.game r.most c.args.self.now.checker r.told r.follows.knows)

pub returns : goal.returns
returns gen c = λ g most told follows.
    let h = gen.P.Player.handler in
    let self : Checker = c.args.self.now.checker in
    let knows = follows.knows in
    let s = c.args.step in
    let p : Playing = playing_of h c.args.self.now.actors in
    let p2 : Playing = playing_of h c.step-2.new.self in
    let made = c.in-Ok.ensures.done in
    let t = made.turn in
    let is : turn_of g (play g told.schedule) s ≡ Some t = sym (same_turn g p (play g told.schedule) s follows.game follows.alike) ∙ made.defined in
    let nodes : self.facts.now.nodes ≡ g.nodes = ap (λ (h : Game). h.nodes) knows.game in
    let known : s.node < g.nodes = omega (arith, c.if-step-self.false, nodes) in
    let earlier = c.comes_before.ensures.0 c.if-not-comes_before.false in
    let before = subst (λ (n : ℕ). ComesBefore self.stamp self.node n s.node) made.stamp earlier in
    let no_emission = knows.no_emission.0 c.requires.before.no_emission in
    let no_restart = knows.no_restart.0 c.requires.before.no_restart in
    let turned = subst (λ (l : List Known). HaveTurned s.node c.in-Ok.done l c.turned.new.nodes) c.deref_mut.ensures.value c.in_ok-turned.ensures in
    let new : Checker = record self { nodes = with_items self.nodes c.turned.new.nodes; turns = self.turns + 1; stamp = c.in-Ok.done.stamp; node = s.node; buffer = c.put_turn.new.out } in
    let after : IsAfterTurn s c.in-Ok.done p p2 self new = record {
      facts = refl;
      limit = refl;
      actors = made;
      nodes = subst (λ (l : List Known). HaveTurned s.node c.in-Ok.done self.nodes.items l) (sym (with_items_is self.nodes c.turned.new.nodes (omega (arith, turned.width, self.nodes.ok.0)))) turned;
      turns = refl;
      stamp = refl;
      node = refl;
      has_emissions = refl;
      emitter = refl;
      has_restarts = refl;
      restarted = refl;
      heaps = refl;
      ended = refl;
    } in
    let few : (c.in-Ok.done.stamp < 2 ^ 64) × (c.in-Ok.done.number < 2 ^ 64) = (search (rules, c.step-2.type_inv, c.in-Ok.is), search (rules, c.step-2.type_inv, c.in-Ok.is)) in
    let line_is : IsTurnLine g told (c.args.text.now ++ 10 ∷ []) (record told { schedule = told.schedule ++ s ∷ [] }) = record {
      step = s;
      turn = t;
      comes = record { open_yet = sym knows.ended ∙ c.requires.before.open_yet; heaps = sym knows.heaps ∙ c.requires.before.heaps; restarts = no_restart; emissions = no_emission };
      legal = legal_whole g (start g) 0 0 (told.schedule ++ s ∷ []) _ _ (legal_push g (start g) 0 0 told.schedule self.stamp self.node s t knows.legal is known before);
      made = is;
      printable = record { stamp = subst (λ (n : ℕ). n < 2 ^ 64) made.stamp few.0; node = omega (arith, known, knows.limits.few_nodes); from = omega (arith, c.requires.sender); number = subst (λ (n : ℕ). n < 2 ^ 64) made.number few.1; draws = draws_are_words g (play g told.schedule) s t is };
      text = sym (c.is_line.ensures.0 c.if-not-is_line.false) ∙ c.as_slice.ensures.value ∙ c.in_ok-put_turn.ensures ∙ ap (λ (l : List ℕ). l ++ line (turn_words (record { stamp = c.in-Ok.done.stamp; step = s; number = c.in-Ok.done.number }))) c.clear.ensures.items ∙ ap₂ (λ (a b : ℕ). line (turn_words (record { stamp = a; step = s; number = b }))) made.stamp made.number;
      tells = refl;
    } in
    let sends : AllByRecursion (λ (m : Message). m.to < g.nodes) c.in-Ok.done.sends = subst (λ (n : ℕ). AllByRecursion (λ (m : Message). m.to < n) c.in-Ok.done.sends) (ap (λ (x : Game). x.nodes) follows.game) c.in-Ok.ensures.known in (
      record told { schedule = told.schedule ++ s ∷ [] },
      (line_is, refl),
      record {
        knows = turn_known g most p p2 self new told s c.in-Ok.done knows follows.game follows.alike after c.in-Ok.ensures.few sends known before no_emission no_restart;
        game = made.game ∙ follows.game;
        alike = alike_now g most p p2 self new told s c.in-Ok.done knows follows.game follows.alike after c.in-Ok.ensures.few sends known before no_emission no_restart;
      },
    )
