-- What each event keeps of its node, where what it takes is true.
use Rattle.std.proofs.Common.{◌≡◌, ℕ, suc, zero, ◌+◌, ◌-◌, ◌*◌, ◌<◌, ◌≤◌, max, List, [], ◌∷◌, ◌++◌, map, length, Bool, true, false, Option, Some, None, slice_get, slice_index, slice_set, IsTrue, refl, sym, ap, ◌∙◌, subst, ⊎_elim, arith, append-nil, eq-eqb, ne_eqb}
use Rattle.std.specs.List.{AllByRecursion}
use Rattle.std.proofs.lemmas.Bool.{cases_eq}
use Rattle.std.proofs.lemmas.List.{get_or-set_same, get_or-set_other, length-set}
use Rattle.ken_model.specs.declared.messages.Message.{Message}
use Rattle.ken_model.specs.declared.messages.Out.{Out}
use Rattle.ken_model.specs.declared.values.Value.{Value}
use Rattle.ken_model.specs.Game.{Game}
use Rattle.ken_model.specs.Network.{Place, Turn, outside, first_place, outputs_from, turn_at, place_after}
use Rattle.ken_model.specs.History.{places, place_of, consumed, messages, IsPrefixOf}
use Rattle.ken_model.specs.Emissions.{AreEmitted, largest_of}
use Rattle.ken_model.proofs.Turns.{places-push, consumed-append}
use Rattle.ken_record.specs.declared.page.Page.{Page}
use Rattle.ken_cover.specs.Overlay.{AreWithin}
use Rattle.ken_cover.specs.Sides.{ImagePages, patched_page, synced_pages}
use Rattle.ken_cover.specs.Covers.{Covers, AreTorn}
use Rattle.ken_cover.proofs.Keeps.{seal_keeps_coverage, down_keeps_coverage, patch_keeps_coverage, sync_keeps_coverage, turnover_keeps_coverage, crash_keeps_coverage, recovery_keeps_coverage}
use Rattle.ken_core.specs.declared.events.Event.{Event}
use Rattle.ken_core.specs.declared.events.Event.TheVariants.{Seal, SealCut, Patch, SyncImage, Turnover, Send, Ack, TakeAck, Emit, Crash, Recover}
use Rattle.ken_core.specs.declared.events.Told.{Told}
use Rattle.ken_core.specs.declared.events.Outcome.TheVariants.{Whole, Landed, Lost}
use Rattle.ken_model.specs.Reading.{read_value}
use Rattle.ken_core.specs.Turns.{consumed_from, stamp_after, outs_of}
use Rattle.ken_core.specs.Nodes.{Node, heap_pages}
use Rattle.ken_core.specs.Packets.{Packet, Mail, Answer, Receipt, unacked, due, outgoing, mail_out, emitted_out}
use Rattle.ken_core.specs.Enabled.{IsChanged, place_at, MaySeal, MayTurn}
use Rattle.ken_core.specs.Steps.{down, sealed_node, patched_node, synced_node, raised, turned_node, acked_node, emitted_node, crashed_node, recovered_node, NodeStep}
use Rattle.ken_core.specs.Accord.{IsNodeOf, IsSent}
use Rattle.ken_core.proofs.Numbers.{consumed-sealed, texts-outputs_from, output_at, IsPlace-sealed}
use Rattle.ken_core.proofs.Sent.{front_more, AreTurns-push, AreEmitted-more, AreEmitted-push, largest_of-push}
use Rattle.ken_core.proofs.Made.{step_turns, turns_one}

-- places with the same parts
same_place : (a b : Place) → a.value ≡ b.value → a.stamp ≡ b.stamp → a.turns ≡ b.turns → a.outs ≡ b.outs → a ≡ b
same_place a b value stamp turns outs =
    ap (λ x. record { value = x; stamp = a.stamp; turns = a.turns; outs = a.outs }) value
    ∙ ap (λ x. record { value = b.value; stamp = x; turns = a.turns; outs = a.outs }) stamp
    ∙ ap (λ x. record { value = b.value; stamp = b.stamp; turns = x; outs = a.outs }) turns
    ∙ ap (λ x. record { value = b.value; stamp = b.stamp; turns = b.turns; outs = x }) outs

-- numbers raised to others are as long, and none is past what bounds both
length-raised : (xs ys : List ℕ) → length (raised xs ys) ≡ length xs
length-raised [] ys = refl
length-raised (x ∷ xs) [] = refl
length-raised (x ∷ xs) (y ∷ ys) = ap suc (length-raised xs ys)

raised_most : (xs ys : List ℕ) (bound : ℕ → ℕ) → ((x : ℕ) → slice_index xs x ≤ bound x) → ((x : ℕ) → slice_index ys x ≤ bound x) → (x : ℕ) → slice_index (raised xs ys) x ≤ bound x
raised_most [] ys bound one other x = one x
raised_most (a ∷ xs) [] bound one other x = one x
raised_most (a ∷ xs) (b ∷ ys) bound one other zero = let l = one 0 in let r = other 0 in omega arith
raised_most (a ∷ xs) (b ∷ ys) bound one other (suc x) = raised_most xs ys (λ k. bound (suc k)) (λ k. one (suc k)) (λ k. other (suc k)) x

-- changed pages lie in a heap of n pages
pub changed_within : (n : ℕ) (heap : List ℕ) (pages : List Page) → length heap ≡ 256 * n → AllByRecursion (IsChanged heap) pages → AreWithin n pages
changed_within n heap [] size all = tt
changed_within n heap (e ∷ es) size all = let within = all.0.within in ((omega arith, all.0.bytes), changed_within n heap es size all.1)

-- what a mail and an emission give beside
no_outs : (v w : ℕ) (n : Node) (o : Option Message) → (mail_out v w n o).outs ≡ []
no_outs v w n None = refl
no_outs v w n (Some m) = refl

abbrev pub with_up : Bool → Node → Node
with_up up n = record n { turning = record n.turning { up = up } }

module _ (g : Game) (put : Packet → Type 0) (h : ℕ → List Turn) (v : ℕ) (sent : (m : Message) → put (Mail m) → IsSent g h m) (heard : (a : Receipt) → put (Answer a) → a.through ≤ length (consumed a.to (h a.from))) where
  -- a step that makes no turn and emits nothing
  still : (ts us : List Turn) (os ps : List Out) (m n2 : Node) → us ≡ [] → ps ≡ [] → n2 ≡ m → IsNodeOf g h v ts os m → IsNodeOf g h v (ts ++ us) (os ++ ps) n2
  still ts us os ps m n2 no_turns nothing same is =
      subst (λ x. IsNodeOf g h v x (os ++ ps) n2) (sym (ap (λ x. ts ++ x) no_turns ∙ append-nil ts))
      (subst (λ x. IsNodeOf g h v ts x n2) (sym (ap (λ x. os ++ x) nothing ∙ append-nil os))
      (subst (λ x. IsNodeOf g h v ts os x) (sym same) is))

  module _ (ts : List Turn) (os : List Out) (n : Node) (is : IsNodeOf g h v ts os n) where
    went_down : IsNodeOf g h v ts os (down n)
    went_down = record {
      turns = is.turns;
      own = is.own;
      order = is.order;
      value = is.value;
      covers = down_keeps_coverage (heap_pages g) n.turning.up n.turning.pages n.patching is.covers;
      acked = is.acked;
      retired = is.retired;
      legal = is.legal;
      emitted = is.emitted;
      retired_outs = is.retired_outs;
    }

    -- coverage of a node that is up
    covered : IsTrue n.turning.up → Covers (heap_pages g) true n.turning.pages n.patching
    covered up = subst (λ b. Covers (heap_pages g) b n.turning.pages n.patching) up is.covers

    -- the node as the abstract network has it
    stands_at : (value : Value) → read_value n.turning.pages.heap ≡ Some value → place_at n value ≡ place_of g ts
    stands_at value reads =
        let p = IsPlace-sealed g v ts in
        let same : value ≡ (place_of g ts).value = let two : Some value ≡ Some (place_of g ts).value = sym reads ∙ is.value in cc in
        same_place (place_at n value) (place_of g ts) same (ap (stamp_after 0) is.turns ∙ p.stamp) (ap length is.turns ∙ p.turns)
        (ap (λ es. map (λ (o : Out). o.text) (outs_of es)) is.turns ∙ ap (map (λ (o : Out). o.text)) p.outs ∙ texts-outputs_from 0 (place_of g ts).outs)

    module _ (from : ℕ) (draws : List ℕ) (pages : List Page) (t : Turn) (may : MaySeal g put v n from draws pages t) where
      -- the turn's message comes next on its link
      next : slice_get (messages g h t.message.from v) (length (consumed t.message.from ts)) ≡ Some t.message
      unfolding messages
      next =
          let count : t.message.number - 1 ≡ length (consumed t.message.from ts) = omega (arith, may.number, ap (λ u. consumed_from u n.turning.turns) may.sender, ap (consumed_from t.message.from) is.turns, consumed-sealed t.message.from v ts) in
          ap (slice_get (messages g h t.message.from v)) (sym count)
          ∙ ⊎_elim
          (λ mail. ap (λ x. slice_get (messages g h t.message.from x) (t.message.number - 1)) (sym may.receiver) ∙ (sent t.message mail).stands)
          (λ input. rw (eq-eqb t.message.from outside input.0) input.1)
          may.came

      order : (u : ℕ) → IsPrefixOf (consumed u (ts ++ t ∷ [])) (messages g h u v)
      order u =
          ⊎_elim
          (λ (same : t.message.from ≡ u).
          let one : consumed u (t ∷ []) ≡ t.message ∷ [] = rw (eq-eqb t.message.from u same) refl in
          subst (λ ms. IsPrefixOf ms (messages g h u v)) (sym (consumed-append u ts (t ∷ []) ∙ ap (λ ms. consumed u ts ++ ms) one))
          (front_more (consumed u ts) (messages g h u v) t.message (is.order u) (subst (λ x. slice_get (messages g h x v) (length (consumed x ts)) ≡ Some t.message) same next)))
          (λ other.
          let none : consumed u (t ∷ []) ≡ [] = rw (ne_eqb t.message.from u other) refl in
          subst (λ ms. IsPrefixOf ms (messages g h u v)) (sym (consumed-append u ts (t ∷ []) ∙ ap (λ ms. consumed u ts ++ ms) none ∙ append-nil (consumed u ts))) (is.order u))
          (cases_eq t.message.from u)

      pushed : place_of g (ts ++ t ∷ []) ≡ place_after (place_of g ts) t
      pushed = places-push (first_place g) ts t

      sealed_one : (up : Bool) → IsNodeOf g h v (ts ++ t ∷ []) os (with_up up (sealed_node v t pages n))
      sealed_one up =
          let at = stands_at may.value may.reads in
          let few : (places (first_place g) ts).turns < g.turns = omega (arith, may.more, ap length is.turns, (IsPlace-sealed g v ts).turns) in
          let made : turn_at g v (place_of g ts) t.draws t.message ≡ Some t = ap (λ p. turn_at g v p t.draws t.message) (sym at) ∙ may.made in
          record {
            turns = turns_one v ts t n (sealed_node v t pages n) refl is.turns;
            own = AreTurns-push g v (first_place g) ts t is.own few made;
            order = order;
            value = may.stands ∙ ap (λ (p : Place). Some p.value) (sym pushed);
            covers = seal_keeps_coverage (heap_pages g) up n.turning.pages n.patching (length n.turning.turns + 1) pages (changed_within (heap_pages g) n.turning.pages.heap pages is.covers.heap_size may.changed.each) (covered may.up);
            acked = is.acked;
            retired = is.retired;
            legal = subst (λ (p : Place). AreEmitted p.outs 0 os) (sym pushed) (AreEmitted-more (place_of g ts).outs t.effect.outs 0 os is.legal);
            emitted = is.emitted;
            retired_outs = is.retired_outs;
          }

    turned_one : (up : Bool) (told : Told) → MayTurn g n told → IsNodeOf g h v ts os (with_up up (turned_node (heap_pages g) told n))
    turned_one up told may = record {
      turns = is.turns;
      own = is.own;
      order = is.order;
      value = is.value;
      covers = turnover_keeps_coverage (heap_pages g) up n.turning.pages n.patching told.settled (length n.turning.turns) may.clean (covered may.up);
      acked = is.acked;
      retired = record {
        width = length-raised n.turning.retired told.acked ∙ is.retired.width;
        most = raised_most n.turning.retired told.acked (λ x. length (consumed v (h x))) is.retired.most (λ x. let a = may.acked x in let b = is.acked.most x in omega arith);
      };
      legal = is.legal;
      emitted = is.emitted;
      retired_outs = omega (arith, is.retired_outs, is.emitted, may.emitted);
    }

    acked_one : (from through : ℕ) → from < g.nodes → put (Answer (record { from = from; to = v; through = through })) → IsNodeOf g h v ts os (acked_node from through n)
    acked_one from through known came =
        let old = n.sending.acked in
        let new = max (slice_index old from) through in
        let here : slice_index (slice_set old from new) from ≡ new = get_or-set_same old from new 0 (omega (arith, is.acked.width)) in
        let told = heard (record { from = from; to = v; through = through }) came in
        record {
          turns = is.turns;
          own = is.own;
          order = is.order;
          value = is.value;
          covers = is.covers;
          acked = record {
            width = length-set old from new ∙ is.acked.width;
            most = λ x. ⊎_elim
                (λ (same : x ≡ from). subst (λ y. slice_index (slice_set old from new) y ≤ length (consumed v (h y))) (sym same) (let was = is.acked.most from in omega arith))
                (λ other. let was = is.acked.most x in let same : slice_index (slice_set old from new) x ≡ slice_index old x = get_or-set_other old from x new 0 other in omega arith)
                (cases_eq x from);
          };
          retired = is.retired;
          legal = is.legal;
          emitted = is.emitted;
          retired_outs = is.retired_outs;
        }

    emitted_one : (o : Out) → due n ≡ Some o → IsNodeOf g h v ts (os ++ o ∷ []) (emitted_node n)
    emitted_one o e =
        let k = n.sending.emitted in
        let outs = (place_of g ts).outs in
        let there : slice_get (outputs_from 0 outs) k ≡ Some o = ap (λ xs. slice_get xs k) (sym (ap outs_of is.turns ∙ (IsPlace-sealed g v ts).outs)) ∙ e in
        let it = output_at 0 outs k o there in
        let place : k ≡ o.number - 1 = omega (arith, it.number) in
        let most : largest_of 0 (os ++ o ∷ []) ≡ max (largest_of 0 os) o.number = largest_of-push 0 os o in
        record {
          turns = is.turns;
          own = is.own;
          order = is.order;
          value = is.value;
          covers = is.covers;
          acked = is.acked;
          retired = is.retired;
          legal = AreEmitted-push outs 0 os o is.legal (omega (arith, it.number)) (omega (arith, it.number, is.emitted)) (ap (slice_get outs) (sym place) ∙ it.text);
          emitted = omega (arith, it.number, most);
          retired_outs = omega (arith, is.retired_outs, most);
        }

    crashed_one : (pages : List Page) → AreTorn n.patching pages → IsNodeOf g h v ts os (crashed_node pages n)
    crashed_one pages torn = record {
      turns = is.turns;
      own = is.own;
      order = is.order;
      value = is.value;
      covers = crash_keeps_coverage (heap_pages g) n.turning.up n.turning.pages n.patching pages torn is.covers;
      acked = is.acked;
      retired = is.retired;
      legal = is.legal;
      emitted = is.emitted;
      retired_outs = is.retired_outs;
    }

    recovered_one : IsNodeOf g h v ts os (recovered_node n)
    recovered_one =
        let again = recovery_keeps_coverage (heap_pages g) n.turning.up n.turning.pages n.patching is.covers in
        record {
          turns = is.turns;
          own = is.own;
          order = is.order;
          value = ap read_value again.heap ∙ is.value;
          covers = again.covers;
          acked = is.retired;
          retired = is.retired;
          legal = is.legal;
          emitted = is.retired_outs;
          retired_outs = is.retired_outs;
        }

    -- the patcher's part changed
    covers_one : (i : ImagePages) → Covers (heap_pages g) true n.turning.pages i → IsTrue n.turning.up → IsNodeOf g h v ts os (record n { patching = i })
    covers_one i covers up = record {
      turns = is.turns;
      own = is.own;
      order = is.order;
      value = is.value;
      covers = subst (λ b. Covers (heap_pages g) b n.turning.pages i) (sym up) covers;
      acked = is.acked;
      retired = is.retired;
      legal = is.legal;
      emitted = is.emitted;
      retired_outs = is.retired_outs;
    }

  -- every event keeps it
  pub step_keeps : (ts : List Turn) (os : List Out) (n : Node) (e : Event) (n2 : Node) (s : NodeStep g put v n e n2) → IsNodeOf g h v ts os n → IsNodeOf g h v (ts ++ step_turns g put v n e n2 s) (os ++ (outgoing v n e).outs) n2
  step_keeps ts os n (Seal node from draws pages) n2 s is =
      subst (λ x. IsNodeOf g h v (ts ++ s.0 ∷ []) x n2) (sym (append-nil os)) (subst (λ x. IsNodeOf g h v (ts ++ s.0 ∷ []) os x) (sym s.1.1) (sealed_one ts os n is from draws pages s.0 s.1.0 n.turning.up))
  step_keeps ts os n (SealCut node from draws pages true) n2 s is =
      subst (λ x. IsNodeOf g h v (ts ++ s.0 ∷ []) x n2) (sym (append-nil os)) (subst (λ x. IsNodeOf g h v (ts ++ s.0 ∷ []) os x) (sym s.1.1) (sealed_one ts os n is from draws pages s.0 s.1.0 false))
  step_keeps ts os n (SealCut node from draws pages false) n2 s is = still ts [] os [] (down n) n2 refl refl s.1.1 (went_down ts os n is)
  step_keeps ts os n (Patch node page) n2 s is =
      let first = s.0 in let rest = s.1.0 in let c = s.1.1.0 in
      still ts [] os [] (patched_node first rest c n) n2 refl refl s.1.1.1.2
      (covers_one ts os n is (patched_page first rest c n.patching) (patch_keeps_coverage (heap_pages g) n.turning.pages n.patching page first rest c s.1.1.1.1 (covered ts os n is s.1.1.1.0)) s.1.1.1.0)
  step_keeps ts os n (SyncImage node) n2 s is =
      still ts [] os [] (synced_node n) n2 refl refl s.1 (covers_one ts os n is (synced_pages n.patching) (sync_keeps_coverage (heap_pages g) n.turning.pages n.patching (covered ts os n is s.0)) s.0)
  step_keeps ts os n (Turnover node Whole told) n2 s is = still ts [] os [] (turned_node (heap_pages g) told n) n2 refl refl s.1 (turned_one ts os n is n.turning.up told s.0)
  step_keeps ts os n (Turnover node Landed told) n2 s is = still ts [] os [] (down (turned_node (heap_pages g) told n)) n2 refl refl s.1 (turned_one ts os n is false told s.0)
  step_keeps ts os n (Turnover node Lost told) n2 s is = still ts [] os [] (down n) n2 refl refl s.1 (went_down ts os n is)
  step_keeps ts os n (Send node to i) n2 s is = still ts [] os (mail_out v to n (unacked v to i n)).outs n n2 refl (no_outs v to n (unacked v to i n)) s.1.3 is
  step_keeps ts os n (Ack node from) n2 s is = still ts [] os [] n n2 refl refl s.3 is
  step_keeps ts os n (TakeAck node from through) n2 s is = still ts [] os [] (acked_node from through n) n2 refl refl s.3 (acked_one ts os n is from through s.1 s.2)
  step_keeps ts os n (Emit node) n2 s is =
      subst (λ x. IsNodeOf g h v x (os ++ (emitted_out (due n)).outs) n2) (sym (append-nil ts))
      (subst (λ x. IsNodeOf g h v ts (os ++ (emitted_out x).outs) n2) (sym s.1.1) (subst (λ x. IsNodeOf g h v ts (os ++ s.0 ∷ []) x) (sym s.1.2) (emitted_one ts os n is s.0 s.1.1)))
  step_keeps ts os n (Crash node pages) n2 s is = still ts [] os [] (crashed_node pages n) n2 refl refl s.1 (crashed_one ts os n is pages s.0)
  step_keeps ts os n (Recover node) n2 s is = still ts [] os [] (recovered_node n) n2 refl refl s.2 (recovered_one ts os n is)
