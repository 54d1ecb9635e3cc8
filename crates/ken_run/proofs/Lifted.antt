-- What a call of one node makes of the group, and of all that is on its way.
use Rattle.std.proofs.Common.{◌≡◌, ◌≢◌, ℕ, ◌<◌, ⊎_elim, List, [], ◌∷◌, ◌++◌, length, All, Contains, slice_index_or, slice_set, Option, refl, sym, ap, subst, ◌∙◌, eq-eqb}
use Rattle.std.proofs.lemmas.Bool.{cases_eq, ne_eqb}
use Rattle.std.proofs.lemmas.List.{append-nil, get_or-set_other, get_or-set_same, length-set, map-append}
use Rattle.std.proofs.lemmas.List.Elements.{All-nil, All-cons, All-head, All-tail, filter-append}
use Rattle.ken_model.specs.declared.messages.Out.{Out}
use Rattle.ken_model.specs.declared.reports.Emission.{Emission}
use Rattle.ken_model.specs.Emissions.{emitted_by}
use Rattle.ken_model.specs.Game.{Game}
use Rattle.ken_model.specs.Handler.{Handler}
use Rattle.ken_disk.specs.Story.{Story}
use Rattle.ken_net.specs.Inboxes.{Gave, all_filed, filed}
use Rattle.ken_net.specs.Puts.{Put}
use Rattle.ken_net.specs.Standings.{Leaving, Standing, after_put, after_puts, all_passed, link_to}
use Rattle.ken_core.specs.declared.events.Event.{Event}
use Rattle.ken_core.specs.Accord.{Accord}
use Rattle.ken_core.specs.Calls.{Doubt}
use Rattle.ken_core.specs.Clusters.{Cluster, WasPut, emissions_by}
use Rattle.ken_core.specs.Nodes.{Node}
use Rattle.ken_core.specs.Packets as core
use Rattle.ken_core.specs.Packets.{Packet, Outgoing}
use Rattle.ken_core.specs.Runs.{NodeRun}
use Rattle.ken_node.specs.declared.watched.Watched.{Watched}
use Rattle.ken_node.specs.Down.{IsDown}
use Rattle.ken_node.specs.NodeCalls.{AreSpelled}
use Rattle.ken_node.specs.Up.{IsUp}
use Rattle.ken_flow.specs.Flows.{IsKnown, AreKnown, PutsAreKnown}
use Rattle.ken_flow.specs.Groups.{group_of, with_node}
use Rattle.ken_flow.specs.Laws.{StaysKnown}
use Rattle.ken_flow.specs.Standstill.{AreShort}
use Rattle.ken_flow.proofs.Flows.{given_are_known, known_stays, passed_are_known, spelled_are_known}
use Rattle.ken_flow.proofs.Groups.{call_keeps_group}
use Rattle.ken_flow.proofs.Puts.{put_stays_put, puts_are_put}
use Rattle.ken_run.specs.declared.run.Run.{Run}
use Rattle.ken_run.specs.declared.station.Station.{Station}
use Rattle.ken_run.specs.Ends.{AreModest, WerePut}
use Rattle.ken_run.specs.Running.{IsRunning, IsStopped, StandsFor}
use Rattle.ken_run.specs.Stations.{AreLinksOf, IsStation}

-- ---- one of many changed

pub with-here : (v : ℕ) (n : Node) (nodes : ℕ → Node) → with_node v n nodes v ≡ n
with-here v n nodes = rw (eq-eqb v v refl) refl

pub with-other : (u v : ℕ) (n : Node) (nodes : ℕ → Node) → u ≢ v → with_node v n nodes u ≡ nodes u
with-other u v n nodes ne = rw (ne_eqb u v ne) refl

pub by-here : (v : ℕ) (os : List Out) → emitted_by v (emissions_by v os) ≡ os
by-here v [] = refl
by-here v (o ∷ os) = rw (eq-eqb v v refl) (ap (λ x. o ∷ x) (by-here v os))

pub by-other : (u v : ℕ) (os : List Out) → u ≢ v → emitted_by u (emissions_by v os) ≡ []
by-other u v [] ne = refl
by-other u v (o ∷ os) ne = rw (ne_eqb v u (λ same. ne (sym same))) (by-other u v os ne)

pub by-both : (u : ℕ) (es fs : List Emission) → emitted_by u (es ++ fs) ≡ emitted_by u es ++ emitted_by u fs
by-both u es fs = simp (filter-append, map-append)

pub emitted-here : (v : ℕ) (es : List Emission) (os : List Out) → emitted_by v (es ++ emissions_by v os) ≡ emitted_by v es ++ os
emitted-here v es os = by-both v es (emissions_by v os) ∙ ap (λ x. emitted_by v es ++ x) (by-here v os)

pub emitted-other : (u v : ℕ) (es : List Emission) (os : List Out) → u ≢ v → emitted_by u (es ++ emissions_by v os) ≡ emitted_by u es
emitted-other u v es os ne = by-both u es (emissions_by v os) ∙ ap (λ x. emitted_by u es ++ x) (by-other u v os ne) ∙ append-nil (emitted_by u es)

-- ---- links and inboxes

pub after-length : (puts : List Put) (links : List Standing) → length (after_puts puts links) ≡ length links
after-length [] links = refl
after-length (p ∷ ps) links = after-length ps (slice_set links p.to (after_put p (link_to p.to links))) ∙ length-set links p.to (after_put p (link_to p.to links))

filed-length : (puts : List Put) (boxes : List (List (List ℕ))) → length (all_filed puts boxes) ≡ length boxes
filed-length [] boxes = refl
filed-length (p ∷ ps) boxes = let box = filed p.bytes (slice_index_or boxes p.to []) in filed-length ps (slice_set boxes p.to box) ∙ length-set boxes p.to box

-- ---- the group

-- what spells packets that were put is known
module _ (g : Game) (w : Cluster) where
  pub spelled-known : (puts : List Put) (qs : List core.Put) → AreSpelled g.nodes puts qs → All (λ (q : core.Put). WasPut w q.packet) qs → PutsAreKnown g w puts
  spelled-known [] [] spelled all = All-nil (λ (p : Put). IsKnown g w p.bytes)
  spelled-known [] (q ∷ qs) spelled all = absurd spelled
  spelled-known (p ∷ ps) [] spelled all = absurd spelled
  spelled-known (p ∷ ps) (q ∷ qs) spelled all =
      All-cons (λ (p : Put). IsKnown g w p.bytes) p ps (spelled_are_known g w p q spelled.0.packet (All-head (λ (q : core.Put). WasPut w q.packet) q qs all)) (spelled-known ps qs spelled.1 (All-tail (λ (q : core.Put). WasPut w q.packet) q qs all))

module _ (g : Game) (nodes : ℕ → Node) (emissions : List Emission) (v : ℕ) (given : List Packet) (events : List Event) (out : Outgoing) (after : Node)
    (accord : Accord g (group_of g nodes emissions)) (known : v < g.nodes) (were : All (WasPut (group_of g nodes emissions)) given)
    (run : NodeRun g (Contains given) v (nodes v) events out after) where
  abbrev pub emitted-after : List Emission
  emitted-after = emissions ++ emissions_by v out.outs

  abbrev pub group-after : Cluster
  group-after = group_of g (with_node v after nodes) emitted-after

  pub accord-after : Accord g group-after
  accord-after = call_keeps_group g nodes emissions v given events out after accord known were run

  pub put-stays : (p : Packet) → WasPut (group_of g nodes emissions) p → WasPut group-after p
  put-stays = put_stays_put g nodes emissions emitted-after v given events out after run

  pub known-stays : StaysKnown g (group_of g nodes emissions) group-after
  known-stays = known_stays g (group_of g nodes emissions) group-after put-stays

  pub puts-known : (puts : List Put) → AreSpelled g.nodes puts out.puts → PutsAreKnown g group-after puts
  puts-known puts spelled = spelled-known g group-after puts out.puts spelled (puts_are_put g nodes emissions emitted-after v given events out after accord known run)

  -- what is left of known inboxes is known
  pub takes-known : (takes takes2 : List (List (List ℕ))) (bytes : List (List ℕ)) → AreKnown g (group_of g nodes emissions) takes → Gave v takes takes2 bytes → AreKnown g group-after takes2
  takes-known takes takes2 bytes are gave = known-stays.boxes takes2 (given_are_known g (group_of g nodes emissions) v takes takes2 bytes are gave).0

  -- after puts, links keep what is known, and so do the inboxes
  pub posted : (links links2 : Leaving) (boxes boxes2 : List (List (List ℕ))) (puts : List Put) → AreSpelled g.nodes puts out.puts → AreLinksOf g (group_of g nodes emissions) v links → AreKnown g (group_of g nodes emissions) boxes → WerePut links links2 boxes boxes2 puts
      → AreLinksOf g group-after v links2 × AreKnown g group-after boxes2 × (length boxes2 ≡ length boxes)
  posted links links2 boxes boxes2 puts spelled are known_boxes were_put =
      let passed = passed_are_known g group-after puts links.links (puts-known puts spelled) (known-stays.links links.links are.known) in (
        subst (AreLinksOf g group-after v) (sym were_put.links_are) (record { from = are.from; to_each = after-length puts links.links ∙ are.to_each; known = passed.kept }),
        subst (AreKnown g group-after) (sym were_put.passed_on) (passed.filed boxes (known-stays.boxes boxes known_boxes)),
        ap length were_put.passed_on ∙ filed-length (all_passed puts links.links) boxes,
      )

  -- links keep what they kept
  pub links-stay : (u : ℕ) (links : Leaving) → AreLinksOf g (group_of g nodes emissions) u links → AreLinksOf g group-after u links
  links-stay u links are = record { from = are.from; to_each = are.to_each; known = known-stays.links links.links are.known }

  -- ---- the run

  module _ {D O U A : Type 0} (told : Watched D → Option Story) (size : Watched D → ℕ) (took : U → Option (List Out)) (handles : A → Handler) (made : ℕ) (r r2 : Run D O U A) (s2 : Station D O U) (stands : StandsFor told size took handles g made nodes emissions r) (low : v < made)
      (same : (r2.nodes ≡ r.nodes) × (r2.app ≡ r.app)) (stations : r2.stations.items ≡ slice_set r.stations.items v s2) where
    placed : v < length r.stations.items
    placed = subst (λ (n : ℕ). v < n) (sym stands.width) low

    pub station-here : (d : Station D O U) → slice_index_or r2.stations.items v d ≡ s2
    station-here d = ap (λ xs. slice_index_or xs v d) stations ∙ get_or-set_same r.stations.items v s2 d placed

    pub station-other : (u : ℕ) (d : Station D O U) → u ≢ v → slice_index_or r2.stations.items u d ≡ slice_index_or r.stations.items u d
    station-other u d ne = ap (λ xs. slice_index_or xs u d) stations ∙ get_or-set_other r.stations.items v u s2 d ne

    station-stays : (u : ℕ) (d : Station D O U) → u ≢ v → u < made → IsStation took g group-after u (emitted_by u emitted-after) (slice_index_or r2.stations.items u d)
    station-stays u d ne below =
        let old = stands.each u d below in
        subst (IsStation took g group-after u (emitted_by u emitted-after)) (sym (station-other u d ne))
        (subst (λ (os : List Out). IsStation took g group-after u os (slice_index_or r.stations.items u d)) (sym (emitted-other u v emissions out.outs ne))
        (record { mail = links-stay u (slice_index_or r.stations.items u d).mail old.mail; acks = links-stay u (slice_index_or r.stations.items u d).acks old.acks; emitted = old.emitted }))

    station-changed : (d : Station D O U) → IsStation took g group-after v (emitted_by v emissions ++ out.outs) s2 → IsStation took g group-after v (emitted_by v emitted-after) (slice_index_or r2.stations.items v d)
    station-changed d is =
        subst (IsStation took g group-after v (emitted_by v emitted-after)) (sym (station-here d))
        (subst (λ (os : List Out). IsStation took g group-after v os s2) (sym (emitted-here v emissions out.outs)) is)

    pub stands-after : (length r2.waiting.mail ≡ g.nodes) × (length r2.waiting.acks ≡ g.nodes) → AreKnown g group-after r2.waiting.mail → AreKnown g group-after r2.waiting.acks
        → IsStation took g group-after v (emitted_by v emissions ++ out.outs) s2 → AreShort r2.waiting.mail × AreShort r2.waiting.acks → AreModest s2.mail × AreModest s2.acks
        → StandsFor told size took handles g made (with_node v after nodes) emitted-after r2
    stands-after boxes mail acks station short modest = record {
      limits = stands.limits;
      keeps = stands.keeps;
      few = stands.few;
      count = same.0 ∙ stands.count;
      lines = stands.lines;
      handler = ap handles same.1 ∙ stands.handler;
      width = ap length stations ∙ length-set r.stations.items v s2 ∙ stands.width;
      accord = accord-after;
      boxes = boxes;
      mail = mail;
      acks = acks;
      each = λ u d below. ⊎_elim
          (λ (here : u ≡ v). subst (λ (x : ℕ). IsStation took g group-after x (emitted_by x emitted-after) (slice_index_or r2.stations.items x d)) (sym here) (station-changed d station))
          (λ other. station-stays u d other below)
          (cases_eq u v);
      short = short;
      modest = λ u d below. ⊎_elim
          (λ (here : u ≡ v). subst (λ (x : ℕ). AreModest (slice_index_or r2.stations.items x d).mail × AreModest (slice_index_or r2.stations.items x d).acks) (sym here) (subst (λ (s : Station D O U). AreModest s.mail × AreModest s.acks) (sym (station-here d)) modest))
          (λ other. subst (λ (s : Station D O U). AreModest s.mail × AreModest s.acks) (sym (station-other u d other)) (stands.modest u d below))
          (cases_eq u v);
    }

    up-here : (d : Station D O U) → IsUp told size g v after s2.node.stage → IsUp told size g v (with_node v after nodes v) (slice_index_or r2.stations.items v d).node.stage
    up-here d up = subst (λ (n : Node). IsUp told size g v n (slice_index_or r2.stations.items v d).node.stage) (sym (with-here v after nodes)) (subst (λ (s : Station D O U). IsUp told size g v after s.node.stage) (sym (station-here d)) up)

    up-other : (u : ℕ) (d : Station D O U) → u < made → u ≢ v → ((u : ℕ) (d : Station D O U) → u < made → u ≢ v → IsUp told size g u (nodes u) (slice_index_or r.stations.items u d).node.stage) → IsUp told size g u (with_node v after nodes u) (slice_index_or r2.stations.items u d).node.stage
    up-other u d below ne others =
        subst (λ (n : Node). IsUp told size g u n (slice_index_or r2.stations.items u d).node.stage) (sym (with-other u v after nodes ne))
        (subst (λ (s : Station D O U). IsUp told size g u (nodes u) s.node.stage) (sym (station-other u d ne)) (others u d below ne))

    -- all are up
    pub ups-after : IsUp told size g v after s2.node.stage → ((u : ℕ) (d : Station D O U) → u < made → u ≢ v → IsUp told size g u (nodes u) (slice_index_or r.stations.items u d).node.stage)
        → (u : ℕ) (d : Station D O U) → u < made → IsUp told size g u (with_node v after nodes u) (slice_index_or r2.stations.items u d).node.stage
    ups-after up others u d below = ⊎_elim
        (λ (here : u ≡ v). subst (λ (x : ℕ). IsUp told size g x (with_node v after nodes x) (slice_index_or r2.stations.items x d).node.stage) (sym here) (up-here d up))
        (λ other. up-other u d below other others)
        (cases_eq u v)

    -- so the run goes on
    pub running-after : StandsFor told size took handles g made (with_node v after nodes) emitted-after r2 → IsUp told size g v after s2.node.stage
        → ((u : ℕ) (d : Station D O U) → u < made → u ≢ v → IsUp told size g u (nodes u) (slice_index_or r.stations.items u d).node.stage)
        → IsRunning told size took handles g made r2
    running-after now up others = record {
      nodes = with_node v after nodes;
      emissions = emitted-after;
      stands = now;
      up = ups-after up others;
    }

    -- or the node is down
    pub stopped-after : StandsFor told size took handles g made (with_node v after nodes) emitted-after r2 → (were2 : List Packet) → All (WasPut group-after) were2 → (doubt : Doubt) → IsDown told g v were2 after doubt s2.node.stage
        → ((u : ℕ) (d : Station D O U) → u < made → u ≢ v → IsUp told size g u (nodes u) (slice_index_or r.stations.items u d).node.stage)
        → IsStopped told size took handles g made v r2
    stopped-after now were2 put doubt down others = record {
      nodes = with_node v after nodes;
      emissions = emitted-after;
      stands = now;
      known = low;
      given = were2;
      put = put;
      doubt = doubt;
      down = λ d. subst (λ (n : Node). IsDown told g v were2 n doubt (slice_index_or r2.stations.items v d).node.stage) (sym (with-here v after nodes)) (subst (λ (s : Station D O U). IsDown told g v were2 after doubt s.node.stage) (sym (station-here d)) down);
      others = λ u d below ne. up-other u d below ne others;
    }
