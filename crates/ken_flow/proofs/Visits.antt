-- Nothing is more open after a visit in which a node makes no turn.
use Rattle.std.proofs.Common.{◌≡◌, ◌≢◌, ℕ, ◌<◌, ◌≤◌, ◌⊎◌, inl, inr, List, [], length, sum_by, slice_index, slice_index_or, slice_set, refl, sym, ap, ◌∙◌, subst, ⊎_elim, arith, length-append}
use Rattle.std.proofs.lemmas.Bool.{cases_eq}
use Rattle.std.proofs.lemmas.List.{length-set, get_or-set_other}
use Rattle.ken_model.specs.Ending.{nodes_of}
use Rattle.ken_model.specs.Game.{Game}
use Rattle.ken_net.specs.declared.inbox.TheConstants.{MAX_INBOX}
use Rattle.ken_net.specs.Inboxes.{Gave, all_filed}
use Rattle.ken_net.specs.Puts.{Put}
use Rattle.ken_net.specs.Standings.{Standing, link_to, after_puts, all_passed}
use Rattle.ken_core.specs.Nodes.{Node}
use Rattle.ken_core.specs.Turns.{mails_to, outs_of}
use Rattle.ken_flow.proofs.Filing.{filed_count, all_filed_short}
use Rattle.ken_flow.proofs.Links.{modest_stays, links_fall, links_width}
use Rattle.ken_flow.proofs.Lists.{set_cases, sum_below_falls, sum_below_stays}
use Rattle.ken_flow.specs.StandstillLaws.{IsNoMore, NeverMoreOpen}
use Rattle.ken_flow.specs.Standstill.{Flow, HasPlaces, AreShort, AreModestActs, left_on, unacked_to, open_to, open_outs, open_at, open_in, MakesNoTurn, IsIdle, IsOver, Rested, Written, Posted, Heard, Emits, Visited, VisitedTo, none, then}

-- ---- what is open, told one by one

-- nothing is more open at f2 than it was at f
pub record Falls (g : Game) (f f2 : Flow) : Type 0 where
  pub mail : (v w : ℕ) → v < g.nodes → w < g.nodes → left_on (link_to w (slice_index_or f2.mail_links v [])) ≤ left_on (link_to w (slice_index_or f.mail_links v []))
  pub acks : (v w : ℕ) → v < g.nodes → w < g.nodes → left_on (link_to w (slice_index_or f2.ack_links v [])) ≤ left_on (link_to w (slice_index_or f.ack_links v []))
  pub unacked : (v w : ℕ) → v < g.nodes → w < g.nodes → unacked_to v w (f2.nodes v) ≤ unacked_to v w (f.nodes v)
  pub outs : (v : ℕ) → v < g.nodes → open_outs f2 v ≤ open_outs f v

pub falls_same : (g : Game) (f : Flow) → Falls g f f
falls_same g f = record { mail = λ v w a b. omega arith; acks = λ v w a b. omega arith; unacked = λ v w a b. omega arith; outs = λ v a. omega arith }

pub falls_on : (g : Game) (f mid f2 : Flow) → Falls g f mid → Falls g mid f2 → Falls g f f2
falls_on g f mid f2 x y = record {
  mail = λ v w a b. omega (arith, x.mail v w a b, y.mail v w a b);
  acks = λ v w a b. omega (arith, x.acks v w a b, y.acks v w a b);
  unacked = λ v w a b. omega (arith, x.unacked v w a b, y.unacked v w a b);
  outs = λ v a. omega (arith, x.outs v a, y.outs v a);
}

module _ (g : Game) (f f2 : Flow) (falls : Falls g f f2) where
  to_falls : (v w : ℕ) → v < g.nodes → w < g.nodes → open_to f2 v w ≤ open_to f v w
  to_falls v w a b = omega (arith, falls.mail v w a b, falls.acks v w a b, falls.unacked v w a b)

  links_sum : (v : ℕ) → v < g.nodes → sum_by (open_to f2 v) (nodes_of g) ≤ sum_by (open_to f v) (nodes_of g)
  links_sum v a = sum_below_falls (open_to f2 v) (open_to f v) g.nodes (λ w b. to_falls v w a b)

  at_falls : (v : ℕ) → v < g.nodes → open_at g f2 v ≤ open_at g f v
  at_falls v a = omega (arith, links_sum v a, falls.outs v a)

  pub open_falls : open_in g f2 ≤ open_in g f
  open_falls = sum_below_falls (open_at g f2) (open_at g f) g.nodes at_falls

  -- where the whole doesn't fall, nothing of it does
  module _ (same : open_in g f ≤ open_in g f2) where
    at_stays : (v : ℕ) → v < g.nodes → open_at g f v ≤ open_at g f2 v
    at_stays = sum_below_stays (open_at g f2) (open_at g f) g.nodes at_falls same

    to_stays : (v w : ℕ) → v < g.nodes → w < g.nodes → open_to f v w ≤ open_to f2 v w
    to_stays v w a b = sum_below_stays (open_to f2 v) (open_to f v) g.nodes (λ x c. to_falls v x a c) (omega (arith, at_stays v a, falls.outs v a)) w b

    pub nothing_falls : Falls g f2 f
    nothing_falls = record {
      mail = λ v w a b. omega (arith, to_stays v w a b, falls.mail v w a b, falls.acks v w a b, falls.unacked v w a b);
      acks = λ v w a b. omega (arith, to_stays v w a b, falls.mail v w a b, falls.acks v w a b, falls.unacked v w a b);
      unacked = λ v w a b. omega (arith, to_stays v w a b, falls.mail v w a b, falls.acks v w a b, falls.unacked v w a b);
      outs = λ v a. omega (arith, at_stays v a, links_sum v a, falls.outs v a);
    }

-- ---- the links of one kind, after puts of node v

module _ (v : ℕ) (rows : List (List Standing)) (puts : List Put) where
  abbrev row : List Standing
  row = slice_index_or rows v []

  abbrev pub rows_after : List (List Standing)
  rows_after = slice_set rows v (after_puts puts row)

  row_cases : (u : ℕ) → ((v ≡ u) × (slice_index_or rows_after u [] ≡ after_puts puts (slice_index_or rows u []))) ⊎ (slice_index_or rows_after u [] ≡ slice_index_or rows u [])
  row_cases u = elim (set_cases rows v (after_puts puts row) u []) [
    | inl here ↦ inl (here.0, here.1 ∙ ap (λ (x : ℕ). after_puts puts (slice_index_or rows x [])) here.0)
    | inr other ↦ inr other
  ]

  pub row_width : (u : ℕ) → length (slice_index_or rows_after u []) ≡ length (slice_index_or rows u [])
  row_width u = elim (row_cases u) [ inl here ↦ ap length here.1 ∙ links_width puts (slice_index_or rows u []) | inr other ↦ ap length other ]

  module _ (modest : (u w : ℕ) → AreModestActs (link_to w (slice_index_or rows u []))) where
    pub row_modest : (u w : ℕ) → AreModestActs (link_to w (slice_index_or rows_after u []))
    row_modest u w = elim (row_cases u) [
      | inl here ↦ subst (λ (l : List Standing). AreModestActs (link_to w l)) (sym here.1) (modest_stays puts (slice_index_or rows u []) (modest u) w)
      | inr other ↦ subst (λ (l : List Standing). AreModestActs (link_to w l)) (sym other) (modest u w)
    ]

    pub row_falls : (u w : ℕ) → left_on (link_to w (slice_index_or rows_after u [])) ≤ left_on (link_to w (slice_index_or rows u []))
    row_falls u w = elim (row_cases u) [
      | inl here ↦ omega (arith, ap (λ (l : List Standing). left_on (link_to w l)) here.1, links_fall puts (slice_index_or rows u []) w (modest u))
      | inr other ↦ omega (arith, ap (λ (l : List Standing). left_on (link_to w l)) other)
    ]

-- ---- nodes

-- each node has the turns that it had
abbrev pub SameTurns : Flow → Flow → Type 0
SameTurns f f2 = (u : ℕ) → (f2.nodes u).turning.turns ≡ (f.nodes u).turning.turns

pub turns_on : (f mid f2 : Flow) → SameTurns f mid → SameTurns mid f2 → SameTurns f f2
turns_on f mid f2 a b u = b u ∙ a u

module _ (v : ℕ) (f f2 : Flow) (no_turn : MakesNoTurn v f.nodes f2.nodes) where
  pub no_turns : SameTurns f f2
  no_turns u = ⊎_elim (λ (is : u ≡ v). subst (λ (x : ℕ). (f2.nodes x).turning.turns ≡ (f.nodes x).turning.turns) (sym is) no_turn.turns) (λ other. ap (λ (n : Node). n.turning.turns) (no_turn.others u other)) (cases_eq u v)

  -- what is so of node v is so of each, where it is so of nodes that haven't changed
  pub at_each : (P : ℕ → Node → Node → Type 0) → ((u : ℕ) (n : Node) → P u n n) → P v (f.nodes v) (f2.nodes v) → (u : ℕ) → P u (f.nodes u) (f2.nodes u)
  at_each P still own u = ⊎_elim (λ (is : u ≡ v). subst (λ (x : ℕ). P x (f.nodes x) (f2.nodes x)) (sym is) own) (λ other. subst (λ (n : Node). P u (f.nodes u) n) (sym (no_turn.others u other)) (still u (f.nodes u))) (cases_eq u v)

-- no more of node v's messages is unacknowledged
abbrev Unacked : ℕ → Node → Node → Type 0
Unacked v n n2 = (w : ℕ) → unacked_to v w n2 ≤ unacked_to v w n

unacked_from : (v : ℕ) (n n2 : Node) → n2.turning.turns ≡ n.turning.turns → ((w : ℕ) → slice_index n.sending.acked w ≤ slice_index n2.sending.acked w) → Unacked v n n2
unacked_from v n n2 turns rise w = let sent : length (mails_to v w n2.turning.turns) ≡ length (mails_to v w n.turning.turns) = ap (λ es. length (mails_to v w es)) turns in omega (arith, sent, rise w)

-- the outputs of a node where nothing of them changed
same_outs : (f f2 : Flow) (v : ℕ) → (f2.nodes v).turning.turns ≡ (f.nodes v).turning.turns → (f2.nodes v).sending.emitted ≡ (f.nodes v).sending.emitted → slice_index f2.refusals v ≡ slice_index f.refusals v → open_outs f2 v ≤ open_outs f v
same_outs f f2 v turns emitted refusals = let outs : length (outs_of (f2.nodes v).turning.turns) ≡ length (outs_of (f.nodes v).turning.turns) = ap (λ es. length (outs_of es)) turns in omega (arith, outs, emitted, refusals)

abbrev Width : Game → ℕ → Node → Node → Type 0
Width g v n n2 = length n2.sending.acked ≡ length n.sending.acked

-- ---- inboxes

short_same : (old new : List (List (List ℕ))) → new ≡ old → AreShort old → AreShort new
short_same old new is short = subst AreShort (sym is) short

pub gave_short : (v : ℕ) (old new : List (List (List ℕ))) (given : List (List ℕ)) → Gave v old new given → AreShort old → AreShort new
gave_short v old new given gave short u =
    ⊎_elim
    (λ (is : u ≡ v). subst (λ (x : ℕ). length (slice_index_or new x []) ≤ MAX_INBOX) (sym is) (omega (arith, short v, ap length gave.front, length-append given (slice_index_or new v []))))
    (λ other. omega (arith, short u, ap length (gave.others u other)))
    (cases_eq u v)

-- ---- the calls of a visit

-- nothing is more open, no turn was made, and each node has its places
pub record Calls (g : Game) (f f2 : Flow) : Type 0 where
  pub falls : Falls g f f2
  pub turns : SameTurns f f2
  pub rises : (u w : ℕ) → slice_index (f.nodes u).sending.acked w ≤ slice_index (f2.nodes u).sending.acked w
  pub mail : AreShort f.mail → AreShort f2.mail
  pub acks : AreShort f.acks → AreShort f2.acks
  pub places : HasPlaces g f2

-- a call that changed neither links nor acknowledged numbers
module _ (g : Game) (v : ℕ) (f f2 : Flow) (places : HasPlaces g f) (no_turn : MakesNoTurn v f.nodes f2.nodes) where
  module _ (width : length (f2.nodes v).sending.acked ≡ length (f.nodes v).sending.acked) where
    acked_widths : (u : ℕ) → u < g.nodes → length (f2.nodes u).sending.acked ≡ g.nodes
    acked_widths u low = at_each v f f2 no_turn (Width g) (λ w n. refl) width u ∙ places.acked u low

  rises_each : ((w : ℕ) → slice_index (f.nodes v).sending.acked w ≤ slice_index (f2.nodes v).sending.acked w) → (u w : ℕ) → slice_index (f.nodes u).sending.acked w ≤ slice_index (f2.nodes u).sending.acked w
  rises_each own = at_each v f f2 no_turn (λ u n n2. (w : ℕ) → slice_index n.sending.acked w ≤ slice_index n2.sending.acked w) (λ u n w. omega arith) own

  unacked_each : Unacked v (f.nodes v) (f2.nodes v) → (u : ℕ) → Unacked u (f.nodes u) (f2.nodes u)
  unacked_each own = at_each v f f2 no_turn Unacked (λ u n w. omega arith) own

  emitted_each : (f2.nodes v).sending.emitted ≡ (f.nodes v).sending.emitted → (u : ℕ) → (f2.nodes u).sending.emitted ≡ (f.nodes u).sending.emitted
  emitted_each own = at_each v f f2 no_turn (λ u n n2. n2.sending.emitted ≡ n.sending.emitted) (λ u n. refl) own

  module _ (sending : (f2.nodes v).sending ≡ (f.nodes v).sending) where
    still_rises : (u w : ℕ) → slice_index (f.nodes u).sending.acked w ≤ slice_index (f2.nodes u).sending.acked w
    still_rises = rises_each (λ w. omega (arith, ap (λ s. slice_index s.acked w) sending))

    still_unacked : (u : ℕ) → Unacked u (f.nodes u) (f2.nodes u)
    still_unacked = unacked_each (unacked_from v (f.nodes v) (f2.nodes v) no_turn.turns (λ w. omega (arith, ap (λ s. slice_index s.acked w) sending)))

    still_outs : f2.refusals ≡ f.refusals → (u : ℕ) → open_outs f2 u ≤ open_outs f u
    still_outs same u = same_outs f f2 u (no_turns v f f2 no_turn u) (emitted_each (ap (λ s. s.emitted) sending) u) (ap (λ (xs : List ℕ). slice_index xs u) same)

  module _ (r : Rested g v f f2) where
    idle_falls : IsIdle g v f f2 → Falls g f f2
    idle_falls i = record {
      mail = λ u w a b. omega (arith, ap (λ (x : Flow). left_on (link_to w (slice_index_or x.mail_links u []))) i.flow);
      acks = λ u w a b. omega (arith, ap (λ (x : Flow). left_on (link_to w (slice_index_or x.ack_links u []))) i.flow, row_falls v f.ack_links i.puts places.ack_acts u w);
      unacked = λ u w a b. still_unacked r.sending u w;
      outs = λ u a. still_outs r.sending (ap (λ (x : Flow). x.refusals) i.flow) u;
    }

    over_falls : IsOver g v f f2 → Falls g f f2
    over_falls o = record {
      mail = λ u w a b. omega (arith, ap (λ (x : Flow). left_on (link_to w (slice_index_or x.mail_links u []))) o.flow);
      acks = λ u w a b. omega (arith, ap (λ (x : Flow). left_on (link_to w (slice_index_or x.ack_links u []))) o.flow);
      unacked = λ u w a b. still_unacked r.sending u w;
      outs = λ u a. still_outs r.sending (ap (λ (x : Flow). x.refusals) o.flow) u;
    }

    rested_widths : (u : ℕ) → u < g.nodes → length (f2.nodes u).sending.acked ≡ g.nodes
    rested_widths = acked_widths (ap (λ s. length s.acked) r.sending)

    idle_places : IsIdle g v f f2 → HasPlaces g f2
    idle_places i = subst (HasPlaces g) (sym i.flow) (record {
      mail = i.gave.count ∙ places.mail;
      acks = filed_count (all_passed i.puts (slice_index_or f.ack_links v [])) f.acks ∙ places.acks;
      mail_links = places.mail_links;
      ack_links = length-set f.ack_links v (after_puts i.puts (slice_index_or f.ack_links v [])) ∙ places.ack_links;
      refusals = places.refusals;
      mail_to_each = places.mail_to_each;
      acks_to_each = λ u low. row_width v f.ack_links i.puts u ∙ places.acks_to_each u low;
      mail_acts = places.mail_acts;
      ack_acts = row_modest v f.ack_links i.puts places.ack_acts;
      acked = rested_widths;
    })

    over_places : IsOver g v f f2 → HasPlaces g f2
    over_places o = subst (HasPlaces g) (sym o.flow) (record {
      mail = places.mail;
      acks = places.acks;
      mail_links = places.mail_links;
      ack_links = places.ack_links;
      refusals = places.refusals;
      mail_to_each = places.mail_to_each;
      acks_to_each = places.acks_to_each;
      mail_acts = places.mail_acts;
      ack_acts = places.ack_acts;
      acked = rested_widths;
    })

  -- the call of the handler
  pub rested : Rested g v f f2 → Calls g f f2
  rested r = record {
    falls = ⊎_elim (idle_falls r) (over_falls r) r.how;
    turns = no_turns v f f2 no_turn;
    rises = still_rises r.sending;
    mail = ⊎_elim (λ (i : IsIdle g v f f2). gave_short v f.mail f2.mail i.given i.gave) (λ o. short_same f.mail f2.mail (ap (λ (x : Flow). x.mail) o.flow)) r.how;
    acks = ⊎_elim
        (λ (i : IsIdle g v f f2) short. short_same (all_filed (all_passed i.puts (slice_index_or f.ack_links v [])) f.acks) f2.acks (ap (λ (x : Flow). x.acks) i.flow) (all_filed_short (all_passed i.puts (slice_index_or f.ack_links v [])) f.acks short))
        (λ o. short_same f.acks f2.acks (ap (λ (x : Flow). x.acks) o.flow))
        r.how;
    places = ⊎_elim (idle_places r) (over_places r) r.how;
  }

  -- pages that were written
  pub written : Written v f f2 → Calls g f f2
  written w = record {
    falls = record {
      mail = λ u x a b. omega (arith, ap (λ (y : Flow). left_on (link_to x (slice_index_or y.mail_links u []))) w.flow);
      acks = λ u x a b. omega (arith, ap (λ (y : Flow). left_on (link_to x (slice_index_or y.ack_links u []))) w.flow);
      unacked = λ u x a b. still_unacked w.sending u x;
      outs = λ u a. still_outs w.sending (ap (λ (y : Flow). y.refusals) w.flow) u;
    };
    turns = no_turns v f f2 no_turn;
    rises = still_rises w.sending;
    mail = short_same f.mail f2.mail (ap (λ (x : Flow). x.mail) w.flow);
    acks = short_same f.acks f2.acks (ap (λ (x : Flow). x.acks) w.flow);
    places = subst (HasPlaces g) (sym w.flow) (record {
      mail = places.mail;
      acks = places.acks;
      mail_links = places.mail_links;
      ack_links = places.ack_links;
      refusals = places.refusals;
      mail_to_each = places.mail_to_each;
      acks_to_each = places.acks_to_each;
      mail_acts = places.mail_acts;
      ack_acts = places.ack_acts;
      acked = acked_widths (ap (λ s. length s.acked) w.sending);
    });
  }

  -- messages that were sent
  pub posted : Posted g v f f2 → Calls g f f2
  posted p = record {
    falls = record {
      mail = λ u w a b. omega (arith, ap (λ (y : Flow). left_on (link_to w (slice_index_or y.mail_links u []))) p.flow, row_falls v f.mail_links p.puts places.mail_acts u w);
      acks = λ u w a b. omega (arith, ap (λ (y : Flow). left_on (link_to w (slice_index_or y.ack_links u []))) p.flow);
      unacked = λ u w a b. still_unacked p.sending u w;
      outs = λ u a. still_outs p.sending (ap (λ (y : Flow). y.refusals) p.flow) u;
    };
    turns = no_turns v f f2 no_turn;
    rises = still_rises p.sending;
    mail = λ short. short_same (all_filed (all_passed p.puts (slice_index_or f.mail_links v [])) f.mail) f2.mail (ap (λ (x : Flow). x.mail) p.flow) (all_filed_short (all_passed p.puts (slice_index_or f.mail_links v [])) f.mail short);
    acks = short_same f.acks f2.acks (ap (λ (x : Flow). x.acks) p.flow);
    places = subst (HasPlaces g) (sym p.flow) (record {
      mail = filed_count (all_passed p.puts (slice_index_or f.mail_links v [])) f.mail ∙ places.mail;
      acks = places.acks;
      mail_links = length-set f.mail_links v (after_puts p.puts (slice_index_or f.mail_links v [])) ∙ places.mail_links;
      ack_links = places.ack_links;
      refusals = places.refusals;
      mail_to_each = λ u low. row_width v f.mail_links p.puts u ∙ places.mail_to_each u low;
      acks_to_each = places.acks_to_each;
      mail_acts = row_modest v f.mail_links p.puts places.mail_acts;
      ack_acts = places.ack_acts;
      acked = acked_widths (ap (λ s. length s.acked) p.sending);
    });
  }

  -- acknowledgements that were taken
  pub heard : Heard g v f f2 → Calls g f f2
  heard h = record {
    falls = record {
      mail = λ u w a b. omega (arith, ap (λ (y : Flow). left_on (link_to w (slice_index_or y.mail_links u []))) h.flow);
      acks = λ u w a b. omega (arith, ap (λ (y : Flow). left_on (link_to w (slice_index_or y.ack_links u []))) h.flow);
      unacked = λ u w a b. unacked_each (unacked_from v (f.nodes v) (f2.nodes v) no_turn.turns h.rises) u w;
      outs = λ u a. same_outs f f2 u (no_turns v f f2 no_turn u) (emitted_each h.emitted u) (ap (λ (y : Flow). slice_index y.refusals u) h.flow);
    };
    turns = no_turns v f f2 no_turn;
    rises = rises_each h.rises;
    mail = short_same f.mail f2.mail (ap (λ (x : Flow). x.mail) h.flow);
    acks = gave_short v f.acks f2.acks h.given h.gave;
    places = subst (HasPlaces g) (sym h.flow) (record {
      mail = places.mail;
      acks = h.gave.count ∙ places.acks;
      mail_links = places.mail_links;
      ack_links = places.ack_links;
      refusals = places.refusals;
      mail_to_each = places.mail_to_each;
      acks_to_each = places.acks_to_each;
      mail_acts = places.mail_acts;
      ack_acts = places.ack_acts;
      acked = acked_widths h.width;
    });
  }

  -- outputs that were emitted
  module _ (e : Emits v f f2) where
    own_outs : open_outs f2 v ≤ open_outs f v
    own_outs = elim e.how [ inl less ↦ omega (arith, less) | inr same ↦ omega (arith, same.0) ]

    other_outs : (u : ℕ) → u ≢ v → open_outs f2 u ≤ open_outs f u
    other_outs u other =
        let refusals : slice_index f2.refusals u ≡ slice_index f.refusals u = ap (λ (y : Flow). slice_index y.refusals u) e.flow ∙ get_or-set_other f.refusals v u (slice_index f2.refusals v) 0 other in
        let node : f2.nodes u ≡ f.nodes u = no_turn.others u other in
        same_outs f f2 u (ap (λ (n : Node). n.turning.turns) node) (ap (λ (n : Node). n.sending.emitted) node) refusals

  pub emits : Emits v f f2 → Calls g f f2
  emits e = record {
    falls = record {
      mail = λ u w a b. omega (arith, ap (λ (y : Flow). left_on (link_to w (slice_index_or y.mail_links u []))) e.flow);
      acks = λ u w a b. omega (arith, ap (λ (y : Flow). left_on (link_to w (slice_index_or y.ack_links u []))) e.flow);
      unacked = λ u w a b. unacked_each (unacked_from v (f.nodes v) (f2.nodes v) no_turn.turns (λ x. omega (arith, ap (λ xs. slice_index xs x) e.acked))) u w;
      outs = λ u a. ⊎_elim (λ (is : u ≡ v). subst (λ (x : ℕ). open_outs f2 x ≤ open_outs f x) (sym is) (own_outs e)) (λ other. other_outs e u other) (cases_eq u v);
    };
    turns = no_turns v f f2 no_turn;
    rises = rises_each (λ w. omega (arith, ap (λ xs. slice_index xs w) e.acked));
    mail = short_same f.mail f2.mail (ap (λ (x : Flow). x.mail) e.flow);
    acks = short_same f.acks f2.acks (ap (λ (x : Flow). x.acks) e.flow);
    places = subst (HasPlaces g) (sym e.flow) (record {
      mail = places.mail;
      acks = places.acks;
      mail_links = places.mail_links;
      ack_links = places.ack_links;
      refusals = length-set f.refusals v (slice_index f2.refusals v) ∙ places.refusals;
      mail_to_each = places.mail_to_each;
      acks_to_each = places.acks_to_each;
      mail_acts = places.mail_acts;
      ack_acts = places.ack_acts;
      acked = acked_widths (ap length e.acked);
    });
  }

-- ---- a visit, and visits

pub calls_on : (g : Game) (f mid f2 : Flow) → Calls g f mid → Calls g mid f2 → Calls g f f2
calls_on g f mid f2 a b = record { falls = falls_on g f mid f2 a.falls b.falls; turns = turns_on f mid f2 a.turns b.turns; rises = λ u w. omega (arith, a.rises u w, b.rises u w); mail = λ short. b.mail (a.mail short); acks = λ short. b.acks (a.acks short); places = b.places }

-- each call of a visit
pub record InVisit (g : Game) (v : ℕ) (f f2 : Flow) (x : Visited g v f f2) : Type 0 where
  pub rests : Calls g f x.rested
  pub writes : Calls g x.rested x.written
  pub posts : Calls g x.written x.posted
  pub hears : Calls g x.posted x.heard
  pub emits : Calls g x.heard f2

pub in_visit : (g : Game) (v : ℕ) (f f2 : Flow) (x : Visited g v f f2) → HasPlaces g f → InVisit g v f f2 x
in_visit g v f f2 x places =
    let a = rested g v f x.rested places x.rests.no_turn x.rests in
    let b = written g v x.rested x.written a.places x.writes.no_turn x.writes in
    let c = posted g v x.written x.posted b.places x.posts.no_turn x.posts in
    let d = heard g v x.posted x.heard c.places x.hears.no_turn x.hears in
    record { rests = a; writes = b; posts = c; hears = d; emits = emits g v x.heard f2 d.places x.emits.no_turn x.emits }

pub visited : (g : Game) (v : ℕ) (f f2 : Flow) → HasPlaces g f → Visited g v f f2 → Calls g f f2
visited g v f f2 places x =
    let i = in_visit g v f f2 x places in
    calls_on g f x.heard f2
    (calls_on g f x.posted x.heard (calls_on g f x.written x.posted (calls_on g f x.rested x.written i.rests i.writes) i.posts) i.hears) i.emits

pub visits : (g : Game) (s e : ℕ) (f f2 : Flow) → HasPlaces g f → VisitedTo g s e f f2 → Calls g f f2
visits g s e f f2 places (none at) = record { falls = falls_same g at; turns = λ u. refl; rises = λ u w. omega arith; mail = λ short. short; acks = λ short. short; places = places }
visits g s e f f2 places (then {u = u} {f = start} {mid = mid} {f2 = end} before last) = calls_on g start mid end (visits g s u start mid places before) (visited g u mid end (visits g s u start mid places before).places last)

-- ---- the law

pub never_more_open : NeverMoreOpen
never_more_open g f places = record {
  visit = λ v f2 x. no_more f2 (visited g v f f2 places x);
  visits = λ u f2 x. no_more f2 (visits g 0 u f f2 places x);
  pass = λ f2 x. no_more f2 (visits g 0 g.nodes f f2 places x);
}
  where
    no_more : (f2 : Flow) → Calls g f f2 → IsNoMore g f f2
    no_more f2 c = record { places = c.places; mail = c.mail; acks = c.acks; less = open_falls g f f2 c.falls }
