-- In passes after which no less is open, what waits for a node with turns to make is given to it again, and its answer comes back.
use Rattle.std.proofs.Common.{◌≡◌, ◌≢◌, ℕ, ◌+◌, ◌-◌, ◌*◌, ◌<◌, ◌≤◌, ◌⊎◌, inl, inr, List, length, Some, Contains, slice_get, slice_index, sym, ap, ◌∙◌, subst, ⊎_elim, arith}
use Rattle.std.proofs.lemmas.Bool.{cases_eq, cases_lt}
use Rattle.ken_model.specs.declared.messages.Message.{Message}
use Rattle.ken_model.specs.Game.{Game}
use Rattle.ken_net.specs.declared.inbox.TheConstants.{MAX_INBOX}
use Rattle.ken_record.specs.declared.effects.Effects.{Effects}
use Rattle.ken_core.specs.Packets.{Mail, Answer, Receipt}
use Rattle.ken_core.specs.Turns.{consumed_from, mails_to}
use Rattle.ken_flow.specs.Standstill.{Flow, HasPlaces, unacked_to, IsIdle, Visited, VisitedTo, none, then}
use Rattle.ken_flow.proofs.Calls.{Waits, after_writes, after_hears, to_written, to_heard, mail_most, other_rested, other_waits, mail_waits, is_idle, answer_waits, acks_most, acks_stay, other_acks, own_acks, takes}
use Rattle.ken_flow.proofs.Filing.{box}
use Rattle.ken_flow.proofs.Visits.{Falls, falls_on, Calls, visited, visits}

-- ---- a pass, cut at one of its visits

-- visits up to a node's, its own, and those after it
pub record Cut (g : Game) (v e : ℕ) (f f2 : Flow) : Type 0 where
  pub start : Flow
  pub end : Flow
  pub before : VisitedTo g 0 v f start
  pub visit : Visited g v start end
  pub after : VisitedTo g (v + 1) e end f2

pub cut_at : (g : Game) (v e : ℕ) (f f2 : Flow) → VisitedTo g 0 e f f2 → v < e → Cut g v e f f2
cut_at g v e f f2 (none at) low = absurd (omega (arith, low))
cut_at g v e f f2 (then {u = u} {f = first} {mid = mid} {f2 = last} before visit) low =
    ⊎_elim
    (λ (is : u ≡ v). record {
      start = mid;
      end = last;
      before = subst (λ (k : ℕ). VisitedTo g 0 k first mid) is before;
      visit = subst (λ (k : ℕ). Visited g k mid last) is visit;
      after = subst (λ (k : ℕ). VisitedTo g (k + 1) (u + 1) last last) is (none last);
    })
    (λ other.
    let c = cut_at g v u first mid before (omega (arith, low, other)) in
    record { start = c.start; end = c.end; before = c.before; visit = c.visit; after = then c.after visit })
    (cases_eq u v)

-- ---- a message that waits

-- a message of a node of the run to one with turns to make, where these are the turns of the nodes
pub record IsAim (g : Game) (ts : ℕ → List Effects) (m : Message) : Type 0 where
  pub few_nodes : g.nodes ≤ 8
  pub from_low : m.from < g.nodes
  pub to_low : m.to < g.nodes
  pub unmade : length (ts m.to) < g.turns
  pub stands : slice_get (mails_to m.from m.to (ts m.from)) (m.number - 1) ≡ Some m
  pub waits : m.number - 1 < length (mails_to m.from m.to (ts m.from))

module _ (g : Game) (ts : ℕ → List Effects) (m : Message) (aim : IsAim g ts m) where
  -- it is the oldest that isn't acknowledged
  pub record IsOldest (f : Flow) : Type 0 where
    pub turns : (x : ℕ) → (f.nodes x).turning.turns ≡ ts x
    pub acked : slice_index (f.nodes m.from).sending.acked m.to ≡ m.number - 1

  sent_count : (f : Flow) → ((x : ℕ) → (f.nodes x).turning.turns ≡ ts x) → length (mails_to m.from m.to (f.nodes m.from).turning.turns) ≡ length (mails_to m.from m.to (ts m.from))
  sent_count f turns = ap (λ (es : List Effects). length (mails_to m.from m.to es)) (turns m.from)

  pub stays_oldest : (f f2 : Flow) → Calls g f f2 → Falls g f2 f → IsOldest f → IsOldest f2
  stays_oldest f f2 calls back is =
      let turns : (x : ℕ) → (f2.nodes x).turning.turns ≡ ts x = λ x. calls.turns x ∙ is.turns x in
      record {
        turns = turns;
        acked = omega (arith, is.acked, calls.rises m.from m.to, back.unacked m.from m.to aim.from_low aim.to_low, aim.waits, sent_count f is.turns, sent_count f2 turns);
      }

  -- what holds after visits, where each visit keeps it
  pub walk : (P : ℕ → Flow → Type 0) → ((y : ℕ) (f f2 : Flow) → Visited g y f f2 → y < g.nodes → HasPlaces g f → Falls g f2 f → IsOldest f → P y f → P (y + 1) f2)
      → (e : ℕ) (f f2 : Flow) → VisitedTo g 0 e f f2 → e ≤ g.nodes → HasPlaces g f → Falls g f2 f → IsOldest f → P 0 f → P e f2
  walk P keeps e f f2 (none at) few places back is here = here
  walk P keeps e f f2 (then {u = u} {f = first} {mid = mid} {f2 = last} before visit) few places back is here =
      let some = visits g 0 u first mid places before in
      let one = visited g u mid last some.places visit in
      let mid_back : Falls g mid first = falls_on g mid last first one.falls back in
      keeps u mid last visit (omega (arith, few)) some.places (falls_on g last first mid back some.falls) (stays_oldest first mid some mid_back is)
      (walk P keeps u first mid before (omega (arith, few)) places mid_back is here)

  -- ---- room in the inboxes for mail

  abbrev Unmade : ℕ → Type 0
  Unmade w = length (ts w) < g.turns

  -- at the visit of node y: what waits for those that were visited, and for those that will be
  pub record Rooms (most : ℕ → ℕ) (y : ℕ) (f : Flow) : Type 0 where
    pub made : (w : ℕ) → w < y → w < g.nodes → Unmade w → length (box w f.mail) ≤ 16 * (y - w)
    pub ahead : (w : ℕ) → y ≤ w → w < g.nodes → Unmade w → length (box w f.mail) ≤ most w + 16 * y

  module _ (y : ℕ) (f f2 : Flow) (x : Visited g y f f2) (low : y < g.nodes) (places : HasPlaces g f) (back : Falls g f2 f) (is : IsOldest f) where
    own_unmade : Unmade y → length (f.nodes y).turning.turns < g.turns
    own_unmade unmade = omega (arith, unmade, ap length (is.turns y))

    emptied : (w : ℕ) → w ≡ y → Unmade w → length (box w x.rested.mail) ≤ 0
    emptied w same unmade =
        let d = is_idle g y f f2 x low places back (own_unmade (subst Unmade same unmade)) in
        omega (arith, ap (λ (k : ℕ). length (box k x.rested.mail)) same, ap length d.emptied)

    grows : (w : ℕ) → w ≢ y → w < g.nodes → length (box w f2.mail) ≤ length (box w f.mail) + 16
    grows w other few = omega (arith, mail_most g y f f2 x low places back w few, ap length (other_rested g y f f2 x low places back w other))

    anew : (w : ℕ) → w ≡ y → w < g.nodes → Unmade w → length (box w f2.mail) ≤ 16
    anew w same few unmade = omega (arith, mail_most g y f f2 x low places back w few, emptied w same unmade)

    pub keep_rooms : (most : ℕ → ℕ) → Rooms most y f → Rooms most (y + 1) f2
    keep_rooms most rooms = record {
      made = λ w before few unmade. ⊎_elim
          (λ (same : w ≡ y). omega (arith, anew w same few unmade, same))
          (λ other. omega (arith, grows w other few, rooms.made w (omega (arith, before, other)) few unmade, before, other))
          (cases_eq w y);
      ahead = λ w later few unmade. omega (arith, grows w (λ same. absurd (omega (arith, same, later))) few, rooms.ahead w (omega (arith, later)) few unmade);
    }

    -- ---- the message waits

    module _ (most : ℕ → ℕ) (rooms : Rooms most y f) where
      put_again : m.from ≡ y → length (box m.to x.rested.mail) + 16 ≤ MAX_INBOX → Waits g.nodes f2.mail m.to (Mail m)
      put_again from room =
          let w = stays_oldest f x.written (to_written g y f f2 x low places back) (after_writes g y f f2 x low places back) is in
          let stands : slice_get (mails_to y m.to (x.written.nodes y).turning.turns) (slice_index (x.written.nodes y).sending.acked m.to) ≡ Some m =
          ap (λ (k : ℕ). slice_get (mails_to k m.to (x.written.nodes k).turning.turns) (slice_index (x.written.nodes k).sending.acked m.to)) (sym from)
          ∙ ap (λ (es : List Effects). slice_get (mails_to m.from m.to es) (slice_index (x.written.nodes m.from).sending.acked m.to)) (w.turns m.from)
          ∙ ap (slice_get (mails_to m.from m.to (ts m.from))) w.acked
          ∙ aim.stands in
          let some : 0 < unacked_to m.from m.to (x.written.nodes m.from) = omega (arith, w.acked, aim.waits, sent_count x.written w.turns) in
          mail_waits g y f f2 x low places back m aim.to_low stands (subst (λ (k : ℕ). 0 < unacked_to k m.to (x.written.nodes k)) from some) room

      room_made : m.to ≤ y → length (box m.to x.rested.mail) + 16 ≤ MAX_INBOX
      room_made done = ⊎_elim
          (λ (same : m.to ≡ y). omega (arith, emptied m.to same aim.unmade))
          (λ other. omega (arith, ap length (other_rested g y f f2 x low places back m.to other), rooms.made m.to (omega (arith, done, other)) aim.to_low aim.unmade, aim.few_nodes, low))
          (cases_eq m.to y)

      room_ahead : most m.to ≤ 128 → y < m.to → length (box m.to x.rested.mail) + 16 ≤ MAX_INBOX
      room_ahead small later = omega (arith, ap length (other_rested g y f f2 x low places back m.to (λ same. absurd (omega (arith, same, later)))), rooms.ahead m.to (omega (arith, later)) aim.to_low aim.unmade, aim.few_nodes, low, small)

  -- at the visit of node y the message waits, where its sender was visited after the receiver; `Later` says that this isn't the first pass
  pub record Comes (Later : Type 0) (y : ℕ) (f : Flow) : Type 0 where
    pub made : m.to < y → m.to ≤ m.from → m.from < y → Waits g.nodes f.mail m.to (Mail m)
    pub ahead : Later → y ≤ m.to → (m.to ≤ m.from) ⊎ (m.from < y) → Waits g.nodes f.mail m.to (Mail m)

  module _ (Later : Type 0) (most : ℕ → ℕ) (small : Later → most m.to ≤ 128) (y : ℕ) (f f2 : Flow) (x : Visited g y f f2) (low : y < g.nodes) (places : HasPlaces g f) (back : Falls g f2 f) (is : IsOldest f) (rooms : Rooms most y f) where
    pub keep_coming : Comes Later y f → Comes Later (y + 1) f2
    keep_coming comes = record {
      made = λ done order sent. ⊎_elim
          (λ (from : m.from ≡ y). put_again y f f2 x low places back is most rooms from (room_made y f f2 x low places back is most rooms (omega (arith, done))))
          (λ other. other_waits g y f f2 x low places back m.to (Mail m) (λ same. absurd (omega (arith, same, other, order, sent))) (comes.made (omega (arith, other, order, sent)) order (omega (arith, other, sent))))
          (cases_eq m.from y);
      ahead = λ more later order. ⊎_elim
          (λ (from : m.from ≡ y). put_again y f f2 x low places back is most rooms from (room_ahead y f f2 x low places back is most rooms (small more) (omega (arith, later))))
          (λ other. other_waits g y f f2 x low places back m.to (Mail m) (λ same. absurd (omega (arith, same, later))) (comes.ahead more (omega (arith, later)) (⊎_elim (λ after. inl after) (λ (sent : m.from < y + 1). inr (omega (arith, sent, other))) order)))
          (cases_eq m.from y);
    }

  -- ---- the answer waits

  abbrev pub consumed : ℕ
  consumed = consumed_from m.from (ts m.to)

  abbrev pub answer : Receipt
  answer = record { from = m.to; to = m.from; through = consumed }

  -- at the visit of node y, after the sender took its acknowledgements in the second pass; `Later` says that this is the third
  pub record Answers (Later : Type 0) (y : ℕ) (f : Flow) : Type 0 where
    pub room_made : m.from < y → length (box m.from f.acks) ≤ 128 * (y - m.from - 1)
    pub room_ahead : Later → y ≤ m.from → length (box m.from f.acks) ≤ 128 * (g.nodes - m.from - 1 + y)
    pub made : m.from < m.to → m.to < y → m.from < y → Waits g.nodes f.acks m.from (Answer answer)
    pub ahead : Later → y ≤ m.from → (m.from < m.to) ⊎ (m.to < y) → Waits g.nodes f.acks m.from (Answer answer)

  module _ (most : ℕ → ℕ) (small : (w : ℕ) → w < g.nodes → most w + 16 * w ≤ 128) (old : m.number ≤ consumed) (y : ℕ) (f f2 : Flow) (x : Visited g y f f2) (low : y < g.nodes) (places : HasPlaces g f) (back : Falls g f2 f) (is : IsOldest f) (rooms : Rooms most y f) (comes : Comes (Unit {0}) y f) where
    few_given : IsIdle g y f x.rested → length (box y f.mail) ≤ 128
    few_given d = omega (arith, rooms.ahead y (omega arith) low (omega (arith, d.unmade, ap length (is.turns y))), small y low)

    -- the receiver's own call
    pub own_answer : m.to ≡ y → (m.to ≤ m.from) ⊎ (m.from < y) → length (box m.from f.acks) + 128 ≤ MAX_INBOX → Waits g.nodes x.rested.acks m.from (Answer answer)
    own_answer to order room =
        let d = is_idle g y f f2 x low places back (omega (arith, subst (λ (k : ℕ). length (ts k) < g.turns) to aim.unmade, ap length (is.turns y))) in
        let here : Waits g.nodes f.mail y (Mail m) = subst (λ (k : ℕ). Waits g.nodes f.mail k (Mail m)) to (comes.ahead tt (omega (arith, to)) order) in
        let count : consumed ≡ consumed_from m.from (f.nodes y).turning.turns = ap (λ (k : ℕ). consumed_from m.from (ts k)) to ∙ ap (consumed_from m.from) (sym (is.turns y)) in
        let it = answer_waits g y f f2 x low places back d m to aim.from_low here (omega (arith, old, count)) (omega (arith, room, few_given d)) in
        subst (λ (r : Receipt). Waits g.nodes x.rested.acks m.from (Answer r)) (ap (λ (k : ℕ). record { from = k; to = m.from; through = consumed_from m.from (f.nodes y).turning.turns }) (sym to) ∙ ap (λ (k : ℕ). record { from = m.to; to = m.from; through = k }) (sym count)) it

    more_acks : m.from ≢ y → length (box m.from f2.acks) ≤ length (box m.from f.acks) + 128
    more_acks other = omega (arith, ap length (other_acks g y f f2 x low places back m.from other), acks_most g y f f2 x low places back m.from 128 aim.from_low few_given)

    rested_on : m.from ≢ y → Waits g.nodes x.rested.acks m.from (Answer answer) → Waits g.nodes f2.acks m.from (Answer answer)
    rested_on other there = record { bytes = there.bytes; one = subst (λ (l : List (List ℕ)). Contains l there.bytes) (sym (other_acks g y f f2 x low places back m.from other)) there.one; spells = there.spells }

    stays_on : m.from ≢ y → Waits g.nodes f.acks m.from (Answer answer) → Waits g.nodes f2.acks m.from (Answer answer)
    stays_on other there = rested_on other (acks_stay g y f f2 x low places back m.from (Answer answer) there)

    pub keep_answers : (Later : Type 0) → Answers Later y f → Answers Later (y + 1) f2
    keep_answers Later have = record {
      room_made = λ before. ⊎_elim
          (λ (same : m.from ≡ y). omega (arith, ap (λ (k : ℕ). length (box k f2.acks)) same, ap length (own_acks g y f f2 x low places back)))
          (λ other. omega (arith, more_acks other, have.room_made (omega (arith, before, other)), before, other))
          (cases_eq m.from y);
      room_ahead = λ more later. omega (arith, more_acks (λ same. absurd (omega (arith, same, later))), have.room_ahead more (omega (arith, later)));
      made = λ order done sent.
          let other : m.from ≢ y = λ same. absurd (omega (arith, same, order, done)) in
          ⊎_elim
          (λ (to : m.to ≡ y). rested_on other (own_answer to (inr (omega (arith, to, order))) (omega (arith, have.room_made (omega (arith, to, order)), to, order, low, aim.few_nodes))))
          (λ elsewhere. stays_on other (have.made order (omega (arith, done, elsewhere)) (omega (arith, done, elsewhere, order))))
          (cases_eq m.to y);
      ahead = λ more later order.
          let other : m.from ≢ y = λ same. absurd (omega (arith, same, later)) in
          ⊎_elim
          (λ (to : m.to ≡ y). rested_on other (own_answer to (inl (omega (arith, to, later))) (omega (arith, have.room_ahead more (omega (arith, later)), later, aim.from_low, aim.few_nodes))))
          (λ elsewhere. stays_on other (have.ahead more (omega (arith, later)) (⊎_elim (λ before. inl before) (λ (done : m.to < y + 1). inr (omega (arith, done, elsewhere))) order)))
          (cases_eq m.to y);
    }

    -- at the sender's own visit the answer is taken, so nothing was consumed past what is acknowledged
    pub answered : m.from ≡ y → Answers (Unit {0}) y f → consumed ≤ m.number - 1
    answered from have =
        let waits : Waits g.nodes x.rested.acks m.from (Answer answer) = ⊎_elim
        (λ (to : m.to ≡ y). own_answer to (inl (omega (arith, to, from))) (omega (arith, have.room_ahead tt (omega (arith, from)), from, low, aim.few_nodes)))
        (λ elsewhere. acks_stay g y f f2 x low places back m.from (Answer answer) (have.ahead tt (omega (arith, from)) (order elsewhere)))
        (cases_eq m.to y) in
        let h = stays_oldest f x.heard (to_heard g y f f2 x low places back) (after_hears g y f f2 x low places back) is in
        let taken = takes g y f f2 x low places back answer from (subst (λ (k : ℕ). Waits g.nodes x.rested.acks k (Answer answer)) from waits) in
        omega (arith, taken, ap (λ (k : ℕ). slice_index (x.heard.nodes k).sending.acked m.to) from, h.acked)
      where
        order : m.to ≢ y → (m.from < m.to) ⊎ (m.to < y)
        order elsewhere = ⊎_elim (λ (after : m.from < m.to). inl after) (λ before. inr (omega (arith, before, from, elsewhere))) (cases_lt m.from m.to)
