use Rattle.std.proofs.Common.{◌≡◌, ◌∙◌, ℕ, ◌+◌, ◌<◌, length, Vec, Global, sym, subst, arith, rules}
use Rattle.ken_wire.specs.declared.send_end.SendEnd.{SendEnd}
use Rattle.ken_wire.specs.declared.take_end.TakeEnd.{TakeEnd}
use Rattle.ken_threads.specs.Seating.{crew_at, ends_at, HasLinks, IsAtNode, IsSeated}
use Rattle.ken_threads.proofs.Rows.{are_popped, ArePopped}
use Rattle.ken_threads.proofs.Seated.{five, FromOn, long, one_more_from, one_taken, taken_at}
use Rattle.ken_threads.proofs.seating.seat_all.Given.{Over}
use Rattle.ken_threads.proofs.seating.seat_all.Goals as goal
use Rattle.ken_threads.proofs.seating.seat_all.Goals.{After-pop-in-Some-2}

-- the node's number, and how many crews were left
node_is : (g : Over) (c : After-pop-in-Some-2 g) → c.len-node.result ≡ length c.pop.new.self.items
node_is g c = search rules

left : (g : Over) (c : After-pop-in-Some-2 g) → length c.crews.crews.items ≡ c.len-node.result + 1
left g c = let shorter = long c.crews.crews.items c.pop.new.self.items c.in-Some.crew c.in-Some.ensures.items in omega (arith, node_is g c, shorter)

known : (g : Over) (c : After-pop-in-Some-2 g) → c.len-node.result < length c.args.crews.now.items
known g c = let count = c.crews.invariant.count in omega (arith, left g c, count)

-- its ends of both kinds
mail : (g : Over) (c : After-pop-in-Some-2 g) → ArePopped (length c.args.crews.now.items) c.len-node.result c.args.mail.now c.pop-in-Some.new.self c.pop-in-Some.result
mail g c =
    let l = c.crews in
    let count = l.invariant.mail_count in
    are_popped (length c.args.crews.now.items) c.len-node.result c.args.mail.now l.mail c.pop-in-Some.new.self c.pop-in-Some.result c.requires.mail (known g c) l.invariant.mail_takes l.invariant.mail_sends (count.0 ∙ left g c, count.1 ∙ left g c) c.pop-in-Some.ensures.takes c.pop-in-Some.ensures.sends

acks : (g : Over) (c : After-pop-in-Some-2 g) → ArePopped (length c.args.crews.now.items) c.len-node.result c.args.acks.now c.pop-in-Some-2.new.self c.pop-in-Some-2.result
acks g c =
    let l = c.crews in
    let count = l.invariant.acks_count in
    are_popped (length c.args.crews.now.items) c.len-node.result c.args.acks.now l.acks c.pop-in-Some-2.new.self c.pop-in-Some-2.result c.requires.acks (known g c) l.invariant.acks_takes l.invariant.acks_sends (count.0 ∙ left g c, count.1 ∙ left g c) c.pop-in-Some-2.ensures.takes c.pop-in-Some-2.ensures.sends

-- and its links
links : (g : Over) (c : After-pop-in-Some-2 g) → HasLinks (length c.args.crews.now.items) c.len-node.result c.in-Some.crew
links g c =
    let l = c.crews in
    let crews = c.args.crews.now.items in
    let crew = c.in-Some.crew in
    subst (HasLinks (length crews) c.len-node.result) (taken_at crews l.crews.items c.pop.new.self.items crew crew c.len-node.result l.invariant.crews c.in-Some.ensures.items (node_is g c)) (c.requires.links c.len-node.result crew (known g c))

pub seat-requires-clause-takers : goal.seat-requires-clause-takers
seat-requires-clause-takers g c =
    let at = (goal.at.seat-requires-clause-takers g c).After-pop-in-Some-2 in
    ((mail g at).are.taker, (acks g at).are.taker)

pub seat-requires-clause-own : goal.seat-requires-clause-own
seat-requires-clause-own g c =
    let at = (goal.at.seat-requires-clause-own g c).After-pop-in-Some-2 in
    ((mail g at).are.own, (acks g at).are.own)

pub seat-requires-clause-few : goal.seat-requires-clause-few
seat-requires-clause-few g c =
    let at = (goal.at.seat-requires-clause-few g c).After-pop-in-Some-2 in
    let mail_count = (mail g at).are.count in
    let acks_count = (acks g at).are.count in
    (omega (arith, mail_count, c.requires.few), omega (arith, acks_count, c.requires.few))

pub seat-requires-clause-links : goal.seat-requires-clause-links
seat-requires-clause-links g c =
    let has = links g (goal.at.seat-requires-clause-links g c).After-pop-in-Some-2 in
    (sym has.mail.0, sym has.acks.0)

pub seat-requires-clause-to_each : goal.seat-requires-clause-to_each
seat-requires-clause-to_each g c =
    let at = (goal.at.seat-requires-clause-to_each g c).After-pop-in-Some-2 in
    let has = links g at in
    ((mail g at).are.count ∙ sym has.mail.1, (acks g at).are.count ∙ sym has.acks.1)

pub crews-preserved : goal.crews-preserved
crews-preserved g c =
    let at = (goal.at.crews-preserved g c).After-pop-in-Some-2 in
    let l = c.crews in
    let crews = c.args.crews.now.items in
    let n = length crews in
    let k = c.len-node.result in
    let rest = c.pop.new.self.items in
    let crew = c.in-Some.crew in
    let split = c.in-Some.ensures.items in
    let team = c.seat.result in
    let m = mail g at in
    let a = acks g at in
    let is = node_is g at in
    let before = left g at in
    let count = l.invariant.count in
    let longer : length c.push_reserved.new.self.items ≡ length l.teams.items + 1 = long c.push_reserved.new.self.items l.teams.items team c.push_reserved.ensures.items in
    let counted : length l.teams.items + (k + 1) ≡ n = omega (arith, count, before) in
    record {
      crews = one_taken crews l.crews.items rest crew l.invariant.crews split;
      mail_takes = m.takes;
      mail_sends = m.sends;
      acks_takes = a.takes;
      acks_sends = a.sends;
      mail_count = (m.count.0 ∙ is, m.count.1 ∙ is);
      acks_count = (a.count.0 ∙ is, a.count.1 ∙ is);
      count = omega (arith, longer, is, counted);
      teams_room = omega (arith, l.invariant.teams_room, c.push_reserved.ensures.capacity);
      crews_room = c.pop.ensures.capacity ∙ l.invariant.crews_room;
      mail_room = (c.pop-in-Some.ensures.room.0 ∙ l.invariant.mail_room.0, c.pop-in-Some.ensures.room.1 ∙ l.invariant.mail_room.1);
      acks_room = (c.pop-in-Some-2.ensures.room.0 ∙ l.invariant.acks_room.0, c.pop-in-Some-2.ensures.room.1 ∙ l.invariant.acks_room.1);
      seated =
          let P : ℕ → _ → Type 0 = λ v w. (cr : _) (t : TakeEnd) (s : Vec SendEnd Global) → IsSeated (crew_at v crews cr) (ends_at v c.args.mail.now.takes.items c.args.mail.now.sends.items t s) (ends_at v c.args.acks.now.takes.items c.args.acks.now.sends.items t s) w in
          subst (λ (i : ℕ). FromOn n P i c.push_reserved.new.self.items) is
          (subst (FromOn n P k) (sym c.push_reserved.ensures.items)
          (one_more_from n P k l.teams.items team counted (subst (λ (i : ℕ). FromOn n P i l.teams.items) before l.invariant.seated)
          (λ cr t s.
          five (λ a b x d e. IsSeated a (record { take = b; sends = x }) (record { take = d; sends = e }) team)
          (sym (taken_at crews l.crews.items rest crew cr k l.invariant.crews split is)) (sym (m.take_is t)) (sym (m.sends_are s)) (sym (a.take_is t)) (sym (a.sends_are s)) c.seat.ensures.seated)));
      nodes =
          let P : ℕ → _ → Type 0 = λ v w. IsAtNode v c.args.app.now w in
          subst (λ (i : ℕ). FromOn n P i c.push_reserved.new.self.items) is
          (subst (FromOn n P k) (sym c.push_reserved.ensures.items) (one_more_from n P k l.teams.items team counted (subst (λ (i : ℕ). FromOn n P i l.teams.items) before l.invariant.nodes) c.seat.ensures.node));
    }

pub returns-clause-seated : goal.returns-clause-seated
returns-clause-seated g c =
    let l = c.crews in
    let none : length l.crews.items ≡ 0 = search rules in
    record { count = omega (arith, l.invariant.count, none); each = λ v cr t s no low. l.invariant.seated v no (omega (arith, none)) low cr t s }
