-- How much is open, by the run's own state and by the nodes that it stands for.
use Rattle.std.proofs.Common.{◌≡◌, ℕ, ◌+◌, ◌-◌, ◌*◌, ◌<◌, ◌≤◌, ⊎_elim, List, [], ◌∷◌, length, map, slice_index_or, Option, refl, sym, ap, subst, ◌∙◌, arith, length-drop}
use Rattle.std.specs.Prelude.{slice_index}
use Rattle.std.specs.List.{range_with_len, sum_by}
use Rattle.std.proofs.lemmas.Bool.{cases_lt}
use Rattle.std.proofs.lemmas.List.{get_or-map, get_or_past, length-map}
use Rattle.ken_disk.specs.Story.{Story}
use Rattle.ken_model.specs.declared.messages.Message.{Message}
use Rattle.ken_model.specs.declared.messages.Out.{Out}
use Rattle.ken_model.specs.Game.{Game}
use Rattle.ken_model.specs.Handler.{Handler}
use Rattle.ken_net.specs.Standings.{Standing, link_to}
use Rattle.ken_core.specs.Nodes.{Node}
use Rattle.ken_core.specs.Turns.{mails_to, outs_of}
use Rattle.ken_node.specs.declared.stage.Stage.{Stage}
use Rattle.ken_node.specs.declared.watched.Watched.{Watched}
use Rattle.ken_node.specs.Stages.{refusals_in}
use Rattle.ken_node.specs.Up.{IsUp}
use Rattle.ken_flow.specs.Standstill.{AreModestActs, HasPlaces, left_on, open_at, open_in, open_outs, open_to, unacked_to}
use Rattle.ken_run.specs.declared.run.Run.{Run}
use Rattle.ken_run.specs.declared.station.Station.{Station}
use Rattle.ken_run.specs.Flowing.{flow_of}
use Rattle.ken_run.specs.Left.{outputs_left}
use Rattle.ken_run.specs.Open.{open_left, open_station, unacked_in}
use Rattle.ken_run.specs.Running.{IsRunning}
use Rattle.ken_run.proofs.Fewer.{outputs-left-are}
use Rattle.ken_run.proofs.Moving.{due-of}
use Rattle.ken_run.proofs.Sums.{sum-range, sum-same}

-- some element of a list that has one
pub first-of : {X : Type 0} (xs : List X) (v : ℕ) → v < length xs → X
first-of [] v low = absurd (omega (arith, low))
first-of (x ∷ xs) v low = x

module _ {D : Type 0} (told : D → Option Story) (size : D → ℕ) (g : Game) (v : ℕ) (n : Node) (stage : Stage D) (up : IsUp told size g v n stage) where
  unacked-is : (w : ℕ) → w < g.nodes → unacked_to v w n ≡ unacked_in w stage
  unacked-is w low =
      let due = due-of told size g v n stage up in
      let line = due.lines w low in
      sym (ap (unacked_in w) up.stage_is ∙ ap (λ (ms : List Message). length ms) line.waits ∙ length-drop (slice_index n.sending.acked w) (mails_to v w n.turning.turns))

  outs-left : length (outs_of n.turning.turns) - n.sending.emitted ≡ outputs_left stage
  outs-left = sym (outputs-left-are told size g v n stage up ∙ length-drop n.sending.emitted (outs_of n.turning.turns))

module _ {D O U A : Type 0} (told : Watched D → Option Story) (size : Watched D → ℕ) (took : U → Option (List Out)) (handles : A → Handler) (g : Game) (made : ℕ) (r : Run D O U A) (is : IsRunning told size took handles g made r) (all : made ≡ g.nodes) where
  count-is : r.nodes ≡ g.nodes
  count-is = is.stands.count ∙ all

  width-is : length r.stations.items ≡ g.nodes
  width-is = is.stands.width ∙ all

  below : (v : ℕ) → v < length r.stations.items → v < made
  below v low = let e = is.stands.width in omega (arith, low, e)

  -- a node's
  station-open : (v : ℕ) (d : Station D O U) → v < length r.stations.items → open_at g (flow_of is.nodes r) v ≡ open_station r.nodes (slice_index_or r.stations.items v d)
  station-open v d low =
      let up : IsUp told size g v (is.nodes v) (slice_index_or r.stations.items v d).node.stage = is.up v d (below v low) in
      let mail : slice_index_or (map (λ (s : Station D O U). s.mail.links) r.stations.items) v [] ≡ (slice_index_or r.stations.items v d).mail.links = get_or-map (λ (s : Station D O U). s.mail.links) r.stations.items v d [] low in
      let acks : slice_index_or (map (λ (s : Station D O U). s.acks.links) r.stations.items) v [] ≡ (slice_index_or r.stations.items v d).acks.links = get_or-map (λ (s : Station D O U). s.acks.links) r.stations.items v d [] low in
      let refused : slice_index (map (λ (s : Station D O U). refusals_in s.node.stage) r.stations.items) v ≡ refusals_in (slice_index_or r.stations.items v d).node.stage = get_or-map (λ (s : Station D O U). refusals_in s.node.stage) r.stations.items v d 0 low in
      let one : (w : ℕ) → w < 0 + g.nodes → open_to (flow_of is.nodes r) v w ≡ left_on (link_to w (slice_index_or r.stations.items v d).mail.links) + left_on (link_to w (slice_index_or r.stations.items v d).acks.links) + unacked_in w (slice_index_or r.stations.items v d).node.stage =
      λ w within.
      ap (λ (l : List Standing). left_on (link_to w l) + left_on (link_to w (slice_index_or (map (λ (s : Station D O U). s.acks.links) r.stations.items) v [])) + unacked_to v w (is.nodes v)) mail
      ∙ ap (λ (l : List Standing). left_on (link_to w (slice_index_or r.stations.items v d).mail.links) + left_on (link_to w l) + unacked_to v w (is.nodes v)) acks
      ∙ ap (λ (k : ℕ). left_on (link_to w (slice_index_or r.stations.items v d).mail.links) + left_on (link_to w (slice_index_or r.stations.items v d).acks.links) + k) (unacked-is told size g v (is.nodes v) (slice_index_or r.stations.items v d).node.stage up w (omega (arith, within))) in
      let sums = sum-same (open_to (flow_of is.nodes r) v) (λ (w : ℕ). left_on (link_to w (slice_index_or r.stations.items v d).mail.links) + left_on (link_to w (slice_index_or r.stations.items v d).acks.links) + unacked_in w (slice_index_or r.stations.items v d).node.stage) 0 g.nodes one in
      let outs : open_outs (flow_of is.nodes r) v ≡ 65 * outputs_left (slice_index_or r.stations.items v d).node.stage - refusals_in (slice_index_or r.stations.items v d).node.stage =
      ap (λ (k : ℕ). 65 * k - slice_index (map (λ (s : Station D O U). refusals_in s.node.stage) r.stations.items) v) (outs-left told size g v (is.nodes v) (slice_index_or r.stations.items v d).node.stage up)
      ∙ ap (λ (k : ℕ). 65 * outputs_left (slice_index_or r.stations.items v d).node.stage - k) refused in
      ap (λ (k : ℕ). k + open_outs (flow_of is.nodes r) v) sums
      ∙ ap (λ (k : ℕ). sum_by (λ (w : ℕ). left_on (link_to w (slice_index_or r.stations.items v d).mail.links) + left_on (link_to w (slice_index_or r.stations.items v d).acks.links) + unacked_in w (slice_index_or r.stations.items v d).node.stage) (range_with_len 0 g.nodes) + k) outs
      ∙ ap (λ (k : ℕ). open_station k (slice_index_or r.stations.items v d)) (sym count-is)

  -- and all
  pub open-is : open_in g (flow_of is.nodes r) ≡ open_left r
  open-is =
      ap (λ (k : ℕ). sum_by (open_at g (flow_of is.nodes r)) (range_with_len 0 k)) (sym width-is)
      ∙ sum-range (open_at g (flow_of is.nodes r)) (open_station r.nodes) 0 r.stations.items
      (λ v d low. ap (open_at g (flow_of is.nodes r)) (let e : 0 + v ≡ v = omega arith in e) ∙ station-open v d low)

  -- ---- each node has its places

  none-modest : (w : ℕ) → AreModestActs (link_to w [])
  none-modest w = record { none_last = refl; holds = λ n k one. absurd (cc) }

  within : (v : ℕ) → v < g.nodes → v < length r.stations.items
  within v low = let e = width-is in omega (arith, low, e)

  part-is : (f : Station D O U → List Standing) (v : ℕ) (low : v < length r.stations.items) → slice_index_or (map f r.stations.items) v [] ≡ f (slice_index_or r.stations.items v (first-of r.stations.items v low))
  part-is f v low = get_or-map f r.stations.items v (first-of r.stations.items v low) [] low

  modest-part : (f : Station D O U → List Standing) (w : ℕ) → ((v : ℕ) (d : Station D O U) → v < made → AreModestActs (link_to w (f (slice_index_or r.stations.items v d)))) → (v : ℕ) → AreModestActs (link_to w (slice_index_or (map f r.stations.items) v []))
  modest-part f w are v = ⊎_elim
      (λ (low : v < length r.stations.items). subst (λ (l : List Standing). AreModestActs (link_to w l)) (sym (part-is f v low)) (are v (first-of r.stations.items v low) (below v low)))
      (λ (past : length r.stations.items ≤ v). subst (λ (l : List Standing). AreModestActs (link_to w l)) (sym (get_or_past (map f r.stations.items) v [] (let e = length-map r.stations.items f in omega (arith, e, past)))) (none-modest w))
      (cases_lt v (length r.stations.items))

  pub has-places : HasPlaces g (flow_of is.nodes r)
  has-places = record {
    mail = is.stands.boxes.0;
    acks = is.stands.boxes.1;
    mail_links = length-map r.stations.items (λ (s : Station D O U). s.mail.links) ∙ width-is;
    ack_links = length-map r.stations.items (λ (s : Station D O U). s.acks.links) ∙ width-is;
    refusals = length-map r.stations.items (λ (s : Station D O U). refusals_in s.node.stage) ∙ width-is;
    mail_to_each = λ v low.
        let one = is.stands.each v (first-of r.stations.items v (within v low)) (below v (within v low)) in
        ap (λ (l : List Standing). length l) (part-is (λ (s : Station D O U). s.mail.links) v (within v low)) ∙ one.mail.to_each;
    acks_to_each = λ v low.
        let one = is.stands.each v (first-of r.stations.items v (within v low)) (below v (within v low)) in
        ap (λ (l : List Standing). length l) (part-is (λ (s : Station D O U). s.acks.links) v (within v low)) ∙ one.acks.to_each;
    mail_acts = λ v w. modest-part (λ (s : Station D O U). s.mail.links) w (λ u d low. let both = is.stands.modest u d low in both.0 w) v;
    ack_acts = λ v w. modest-part (λ (s : Station D O U). s.acks.links) w (λ u d low. let both = is.stands.modest u d low in both.1 w) v;
    acked = λ v low.
        let due = due-of told size g v (is.nodes v) (slice_index_or r.stations.items v (first-of r.stations.items v (within v low))).node.stage (is.up v (first-of r.stations.items v (within v low)) (below v (within v low))) in
        due.width;
  }
