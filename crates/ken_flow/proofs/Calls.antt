-- What one visit does to inboxes where no less is open after it.
use Rattle.std.proofs.Common.{◌≡◌, ◌≢◌, ℕ, ◌+◌, ◌<◌, ◌≤◌, List, [], ◌∷◌, ◌++◌, length, Contains, Some, slice_get, slice_index, slice_index_or, refl, sym, ap, ◌∙◌, subst, ⊎_elim, arith, append-nil}
use Rattle.std.proofs.lemmas.List.{get_or-set_same}
use Rattle.std.proofs.lemmas.List.Elements.{Contains-append_left, Contains-append_right}
use Rattle.ken_model.specs.declared.messages.Message.{Message}
use Rattle.ken_model.specs.Game.{Game}
use Rattle.ken_packet.specs.Reading.{packet_of}
use Rattle.ken_net.specs.declared.inbox.TheConstants.{MAX_INBOX}
use Rattle.ken_net.specs.History.{puts_for}
use Rattle.ken_net.specs.Inboxes.{all_filed}
use Rattle.ken_net.specs.Puts.{Put}
use Rattle.ken_net.specs.Standings.{Standing, link_to, after_puts, all_passed}
use Rattle.ken_net.proofs.Origins.{in_front}
use Rattle.ken_core.specs.Packets.{Packet, Mail, Answer, Receipt}
use Rattle.ken_core.specs.Turns.{consumed_from, mails_to}
use Rattle.ken_ship.specs.Laws.{packet_from, packets_from}
use Rattle.ken_flow.specs.Standstill.{Flow, HasPlaces, left_on, unacked_to, IsGiven, IsIdle, IsOver, Visited}
use Rattle.ken_flow.proofs.Filing.{box, all_filed_most, all_filed_stays, all_filed_has, among, no_more}
use Rattle.ken_flow.proofs.Links.{all_passed_once}
use Rattle.ken_flow.proofs.Visits.{Falls, falls_on, Calls, calls_on, InVisit, in_visit}

-- a packet waits in an inbox
pub record Waits (nodes : ℕ) (boxes : List (List (List ℕ))) (w : ℕ) (p : Packet) : Type 0 where
  pub bytes : List ℕ
  pub one : Contains (box w boxes) bytes
  pub spells : packet_from nodes (packet_of bytes) ≡ p ∷ []

pub waits_more : (nodes : ℕ) (boxes more : List (List (List ℕ))) (w : ℕ) (p : Packet) → ((b : List ℕ) → Contains (box w boxes) b → Contains (box w more) b) → Waits nodes boxes w p → Waits nodes more w p
waits_more nodes boxes more w p stays is = record { bytes = is.bytes; one = stays is.bytes is.one; spells = is.spells }

-- it is among the packets that were given
in_packets : (nodes : ℕ) (given : List (List ℕ)) (bytes : List ℕ) (p : Packet) → Contains given bytes → packet_from nodes (packet_of bytes) ≡ p ∷ [] → Contains (packets_from nodes given) p
in_packets nodes [] bytes p (k, few, is) spells = absurd (omega (arith, few))
in_packets nodes (x ∷ xs) bytes p there spells =
    ⊎_elim
    (λ (is : x ≡ bytes).
    let first : packet_from nodes (packet_of x) ≡ p ∷ [] = ap (λ b. packet_from nodes (packet_of b)) is ∙ spells in
    Contains-append_left (packet_from nodes (packet_of x)) (packets_from nodes xs) p (subst (λ (l : List Packet). Contains l p) (sym first) (0, omega arith, refl)))
    (λ on. Contains-append_right (packet_from nodes (packet_of x)) (packets_from nodes xs) p (in_packets nodes xs bytes p on spells))
    (in_front x xs bytes there)

pub some_same : {A : Type 0} (x y : A) → Some x ≡ Some y → x ≡ y
some_same x y e = cc

module _ (g : Game) (y : ℕ) (f f2 : Flow) (x : Visited g y f f2) (low : y < g.nodes) (places : HasPlaces g f) (back : Falls g f2 f) where
  abbrev i : InVisit g y f f2 x
  i = in_visit g y f f2 x places

  -- no call of it leaves less open
  pub after_posts : Falls g x.posted f
  after_posts = falls_on g x.posted x.heard f i.hears.falls (falls_on g x.heard f2 f i.emits.falls back)

  pub after_rest : Falls g x.rested f
  after_rest = falls_on g x.rested x.written f i.writes.falls (falls_on g x.written x.posted f i.posts.falls after_posts)

  pub after_writes : Falls g x.written f
  after_writes = falls_on g x.written x.posted f i.posts.falls after_posts

  pub after_hears : Falls g x.heard f
  after_hears = falls_on g x.heard f2 f i.emits.falls back

  pub after_emits : Falls g f2 x.heard
  after_emits = falls_on g f2 f x.heard back (falls_on g f x.posted x.heard (falls_on g f x.written x.posted (falls_on g f x.rested x.written i.rests.falls i.writes.falls) i.posts.falls) i.hears.falls)

  posts_back : Falls g x.posted x.written
  posts_back = falls_on g x.posted f x.written after_posts (falls_on g f x.rested x.written i.rests.falls i.writes.falls)

  pub to_written : Calls g f x.written
  to_written = calls_on g f x.rested x.written i.rests i.writes

  pub to_heard : Calls g f x.heard
  to_heard = calls_on g f x.posted x.heard (calls_on g f x.written x.posted to_written i.posts) i.hears

  -- ---- mail

  abbrev sent : List Put
  sent = x.posts.puts

  abbrev row : List Standing
  row = slice_index_or x.written.mail_links y []

  mail_once : (w : ℕ) → w < g.nodes → puts_for w (all_passed sent row) ≡ puts_for w sent
  mail_once w few =
      let wide : y < length x.written.mail_links = omega (arith, low, i.writes.places.mail_links) in
      let links : slice_index_or x.posted.mail_links y [] ≡ after_puts sent row = ap (λ (z : Flow). slice_index_or z.mail_links y []) x.posts.flow ∙ get_or-set_same x.written.mail_links y (after_puts sent row) [] wide in
      all_passed_once w sent row (i.writes.places.mail_acts y) (omega (arith, few, i.writes.places.mail_to_each y low)) (omega (arith, posts_back.mail y w low few, ap (λ (l : List Standing). left_on (link_to w l)) links))

  mail_before : x.written.mail ≡ x.rested.mail
  mail_before = ap (λ (z : Flow). z.mail) x.writes.flow

  mail_after : f2.mail ≡ all_filed (all_passed sent row) x.rested.mail
  mail_after = ap (λ (z : Flow). z.mail) x.emits.flow ∙ ap (λ (z : Flow). z.mail) x.hears.flow ∙ ap (λ (z : Flow). z.mail) x.posts.flow ∙ ap (all_filed (all_passed sent row)) mail_before

  mail_wide : (w : ℕ) → w < g.nodes → w < length x.rested.mail
  mail_wide w few = omega (arith, few, i.rests.places.mail)

  few_passed : (w : ℕ) → w < g.nodes → length (puts_for w (all_passed sent row)) ≤ 16
  few_passed w few = omega (arith, x.posts.few w, ap length (mail_once w few))

  pub mail_most : (w : ℕ) → w < g.nodes → length (box w f2.mail) ≤ length (box w x.rested.mail) + 16
  mail_most w few = omega (arith, ap (λ bs. length (box w bs)) mail_after, all_filed_most w (all_passed sent row) x.rested.mail (mail_wide w few), few_passed w few)

  mail_stays : (w : ℕ) (b : List ℕ) → Contains (box w x.rested.mail) b → Contains (box w f2.mail) b
  mail_stays w b there = subst (λ (bs : List (List (List ℕ))). Contains (box w bs) b) (sym mail_after) (all_filed_stays w (all_passed sent row) x.rested.mail b there)

  -- the inbox of another node is as it was until the sends
  pub other_rested : (w : ℕ) → w ≢ y → box w x.rested.mail ≡ box w f.mail
  other_rested w other = ⊎_elim (λ (d : IsIdle g y f x.rested). d.gave.others w other) (λ o. ap (λ (z : Flow). box w z.mail) o.flow) x.rests.how

  pub other_waits : (w : ℕ) (p : Packet) → w ≢ y → Waits g.nodes f.mail w p → Waits g.nodes f2.mail w p
  other_waits w p other = waits_more g.nodes f.mail f2.mail w p (λ b there. mail_stays w b (subst (λ (l : List (List ℕ)). Contains l b) (sym (other_rested w other)) there))

  -- the oldest message that isn't acknowledged is put again
  pub mail_waits : (m : Message) → m.to < g.nodes → slice_get (mails_to y m.to (x.written.nodes y).turning.turns) (slice_index (x.written.nodes y).sending.acked m.to) ≡ Some m → 0 < unacked_to y m.to (x.written.nodes y) → length (box m.to x.rested.mail) + 16 ≤ MAX_INBOX
      → Waits g.nodes f2.mail m.to (Mail m)
  mail_waits m few stands some room =
      let again = x.posts.first m.to few some in
      let same : again.message ≡ m = some_same again.message m (sym again.first ∙ stands) in
      let passed : Contains (puts_for m.to (all_passed sent row)) again.put = subst (λ (l : List Put). Contains l again.put) (sym (mail_once m.to few)) (among m.to sent again.put again.to again.one) in
      record {
        bytes = again.put.bytes;
        one = subst (λ (bs : List (List (List ℕ))). Contains (box m.to bs) again.put.bytes) (sym mail_after)
            (all_filed_has m.to (all_passed sent row) x.rested.mail again.put (mail_wide m.to few) (omega (arith, room, few_passed m.to few)) passed);
        spells = again.bytes ∙ ap (λ (k : Message). Mail k ∷ []) same;
      }

  -- ---- a node with turns to make

  module _ (unmade : length (f.nodes y).turning.turns < g.turns) where
    pub is_idle : IsIdle g y f x.rested
    is_idle = ⊎_elim (λ d. d) (λ (o : IsOver g y f x.rested). absurd (omega (arith, o.made, unmade))) x.rests.how

  module _ (d : IsIdle g y f x.rested) where
    all_given : d.given ≡ box y f.mail
    all_given = sym (d.gave.front ∙ ap (λ l. d.given ++ l) d.emptied ∙ append-nil d.given)

    pub is_given : (p : Packet) → Waits g.nodes f.mail y p → IsGiven g.nodes d.given p
    is_given p is = in_packets g.nodes d.given is.bytes p (subst (λ (l : List (List ℕ)). Contains l is.bytes) (sym all_given) is.one) is.spells

    abbrev answers : List Put
    answers = d.puts

    abbrev ack_row : List Standing
    ack_row = slice_index_or f.ack_links y []

    acks_once : (w : ℕ) → w < g.nodes → puts_for w (all_passed answers ack_row) ≡ puts_for w answers
    acks_once w few =
        let wide : y < length f.ack_links = omega (arith, low, places.ack_links) in
        let links : slice_index_or x.rested.ack_links y [] ≡ after_puts answers ack_row = ap (λ (z : Flow). slice_index_or z.ack_links y []) d.flow ∙ get_or-set_same f.ack_links y (after_puts answers ack_row) [] wide in
        all_passed_once w answers ack_row (places.ack_acts y) (omega (arith, few, places.acks_to_each y low)) (omega (arith, after_rest.acks y w low few, ap (λ (l : List Standing). left_on (link_to w l)) links))

    acks_rested : x.rested.acks ≡ all_filed (all_passed answers ack_row) f.acks
    acks_rested = ap (λ (z : Flow). z.acks) d.flow

    acks_wide : (w : ℕ) → w < g.nodes → w < length f.acks
    acks_wide w few = omega (arith, few, places.acks)

    few_answers : (w : ℕ) → w < g.nodes → length (puts_for w (all_passed answers ack_row)) ≤ length (box y f.mail)
    few_answers w few = omega (arith, ap length (acks_once w few), no_more w answers, d.few, ap length all_given)

    idle_most : (w : ℕ) → w < g.nodes → length (box w x.rested.acks) ≤ length (box w f.acks) + length (box y f.mail)
    idle_most w few = omega (arith, ap (λ bs. length (box w bs)) acks_rested, all_filed_most w (all_passed answers ack_row) f.acks (acks_wide w few), few_answers w few)

    idle_stays : (w : ℕ) (b : List ℕ) → Contains (box w f.acks) b → Contains (box w x.rested.acks) b
    idle_stays w b there = subst (λ (bs : List (List (List ℕ))). Contains (box w bs) b) (sym acks_rested) (all_filed_stays w (all_passed answers ack_row) f.acks b there)

    -- mail that was consumed before is acknowledged again
    pub answer_waits : (m : Message) → m.to ≡ y → m.from < g.nodes → Waits g.nodes f.mail y (Mail m) → m.number ≤ consumed_from m.from (f.nodes y).turning.turns → length (box m.from f.acks) + length (box y f.mail) ≤ MAX_INBOX
        → Waits g.nodes x.rested.acks m.from (Answer (record { from = y; to = m.from; through = consumed_from m.from (f.nodes y).turning.turns }))
    answer_waits m to few is old room =
        let again = d.again m (is_given (Mail m) is) to old in
        let passed : Contains (puts_for m.from (all_passed answers ack_row)) again.put = subst (λ (l : List Put). Contains l again.put) (sym (acks_once m.from few)) (among m.from answers again.put again.to again.one) in
        record {
          bytes = again.put.bytes;
          one = subst (λ (bs : List (List (List ℕ))). Contains (box m.from bs) again.put.bytes) (sym acks_rested)
              (all_filed_has m.from (all_passed answers ack_row) f.acks again.put (acks_wide m.from few) (omega (arith, room, few_answers m.from few)) passed);
          spells = again.bytes;
        }

  -- ---- acknowledgements

  over_acks : IsOver g y f x.rested → x.rested.acks ≡ f.acks
  over_acks o = ap (λ (z : Flow). z.acks) o.flow

  pub acks_most : (w k : ℕ) → w < g.nodes → (IsIdle g y f x.rested → length (box y f.mail) ≤ k) → length (box w x.rested.acks) ≤ length (box w f.acks) + k
  acks_most w k few given = ⊎_elim (λ d. omega (arith, idle_most d w few, given d)) (λ o. omega (arith, ap (λ bs. length (box w bs)) (over_acks o))) x.rests.how

  pub acks_stay : (w : ℕ) (p : Packet) → Waits g.nodes f.acks w p → Waits g.nodes x.rested.acks w p
  acks_stay w p = waits_more g.nodes f.acks x.rested.acks w p (λ b there. ⊎_elim (λ d. idle_stays d w b there) (λ o. subst (λ (bs : List (List (List ℕ))). Contains (box w bs) b) (sym (over_acks o)) there) x.rests.how)

  acks_posted : x.posted.acks ≡ x.rested.acks
  acks_posted = ap (λ (z : Flow). z.acks) x.posts.flow ∙ ap (λ (z : Flow). z.acks) x.writes.flow

  acks_after : f2.acks ≡ x.heard.acks
  acks_after = ap (λ (z : Flow). z.acks) x.emits.flow

  pub other_acks : (w : ℕ) → w ≢ y → box w f2.acks ≡ box w x.rested.acks
  other_acks w other = ap (box w) acks_after ∙ x.hears.gave.others w other ∙ ap (box w) acks_posted

  pub own_acks : box y f2.acks ≡ []
  own_acks = ap (box y) acks_after ∙ x.hears.emptied

  -- an acknowledgement that waits is taken
  pub takes : (a : Receipt) → a.to ≡ y → Waits g.nodes x.rested.acks y (Answer a) → a.through ≤ slice_index (x.heard.nodes y).sending.acked a.from
  takes a to is =
      let all : x.hears.given ≡ box y x.rested.acks = sym (x.hears.gave.front ∙ ap (λ l. x.hears.given ++ l) x.hears.emptied ∙ append-nil x.hears.given) ∙ ap (box y) acks_posted in
      x.hears.taken a (in_packets g.nodes x.hears.given is.bytes (Answer a) (subst (λ (l : List (List ℕ)). Contains l is.bytes) (sym all) is.one) is.spells) to
