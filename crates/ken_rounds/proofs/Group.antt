-- All nodes of a round: the group that they stand for is in accord.
use Rattle.std.proofs.Common.{◌≡◌, ◌∙◌, ℕ, zero, suc, ◌<◌, ◌≤◌, ◌⊎◌, List, [], ◌∷◌, ◌++◌, length, All, Contains, ⊎_elim, IsTrue, Option, Some, None, slice_index_or, refl, sym, ap, subst, arith, append-nil}
use Rattle.std.specs.Prelude.{IfSome}
use Rattle.std.specs.List.{AllByRecursion}
use Rattle.std.proofs.lemmas.Bool.{cases_eq, cases_lt}
use Rattle.std.proofs.lemmas.List.{get_or_default, map-append}
use Rattle.std.proofs.lemmas.List.Elements.{All-append, All-contains, All-contains_itself, All-nil, All-weaker}
use Rattle.ken_disk.specs.declared.disk.Disk as disk
use Rattle.ken_model.specs.declared.messages.Out.{Out}
use Rattle.ken_model.specs.declared.reports.Emission.{Emission}
use Rattle.ken_model.specs.Emissions.{emitted_by}
use Rattle.ken_model.specs.Game.{Game}
use Rattle.ken_model.specs.Handler.{Handler}
use Rattle.ken_net.specs.declared.base.Base as base
use Rattle.ken_net.specs.declared.lossy.Lossy.{Lossy}
use Rattle.ken_net.specs.Standings.{KeepsOwn, Leaving}
use Rattle.ken_core.specs.declared.events.Event.{Event}
use Rattle.ken_core.specs.Clusters.{Cluster, emissions_by, WasPut}
use Rattle.ken_core.specs.Nodes.{Node}
use Rattle.ken_core.specs.Packets.{Answer, Mail, Outgoing, Packet}
use Rattle.ken_core.specs.Packets as core
use Rattle.ken_core.specs.Runs.{IsPut, NodeRun}
use Rattle.ken_core.proofs.Made.{run_puts_true}
use Rattle.ken_ship.specs.declared.outlet.Outlet as outlet
use Rattle.ken_ship.specs.Laws.{packets_from}
use Rattle.ken_ship.specs.Outlets.{also_took}
use Rattle.ken_node.specs.declared.watched.Watched.{Watched}
use Rattle.ken_node.specs.NodeCalls.{AreSpelled}
use Rattle.ken_flow.specs.Flows.{AreKnown}
use Rattle.ken_flow.specs.Groups.{consumed_answer, group_of}
use Rattle.ken_flow.specs.Standstill.{AreShort}
use Rattle.ken_flow.proofs.Flows.{known_stays, passed_are_known}
use Rattle.ken_flow.proofs.Groups.{consumed_in, consumed_to}
use Rattle.ken_flow.proofs.Puts.{run_grows, stays_put}
use Rattle.ken_run.specs.declared.run.Run.{Run}
use Rattle.ken_run.specs.declared.station.Station.{Station}
use Rattle.ken_run.specs.Ends.{AreModest}
use Rattle.ken_run.specs.Running.{IsRunning, StandsFor}
use Rattle.ken_run.specs.Stations.{AreLinksOf, HasEmitted, IsStation}
use Rattle.ken_run.proofs.Lifted.{after-length, by-both, by-here, by-other, spelled-known}
use Rattle.ken_run.proofs.Modest.{modest-stay}
use Rattle.ken_wire.specs.declared.send_end.SendEnd.{SendEnd}
use Rattle.ken_wire.specs.declared.wire_net.WireNet.{WireNet}
use Rattle.ken_wire.specs.Nets.{consumed_to as taken_to, sealed_to}
use Rattle.ken_beside.specs.Heard.{StandsForPut}
use Rattle.ken_beside.specs.Puts.{puts_of}
use Rattle.ken_beside.specs.Rounds.{AllRan, ComesOf, KeepGroup}
use Rattle.ken_beside.proofs.Heard.{heard_come}
use Rattle.ken_beside.proofs.Rounds.{rounds_keep_group}
use Rattle.ken_beside.proofs.Taken.{packets-append}
use Rattle.ken_threads.specs.Rounds.{CameFrom}
use Rattle.ken_threads.proofs.Rows.{some_at}
use Rattle.ken_rounds.specs.Lending.{station_at}
use Rattle.ken_rounds.proofs.Node.{after, NodeIs, passed}
use Rattle.ken_rounds.proofs.Puts.{stands}

-- an outlet that tells what was emitted tells what was emitted since
took-all : (told : Option (List Out)) (os more : List Out) → IfSome told (λ t. t ≡ os) → IfSome (also_took more told) (λ t. t ≡ os ++ more)
took-all None os [] is = tt
took-all None os (o ∷ more) is = tt
took-all (Some ts) os [] is = is ∙ sym (append-nil os)
took-all (Some ts) os (o ∷ more) is = ap (λ xs. xs ++ o ∷ more) is

all-both : {A : Type 0} (P : A → Type 0) (xs ys : List A) → AllByRecursion P xs → AllByRecursion P ys → AllByRecursion P (xs ++ ys)
all-both P [] ys one two = two
all-both P (x ∷ xs) ys one two = (one.0, all-both P xs ys one.1 two)

module _ {R D O U A : Type 0} {b : base.Ghosts (WireNet R)} (d : disk.Ghosts (Watched D)) (u : outlet.Ghosts U) (handles : A → Handler) (g : Game) (made : ℕ) (r : Run D O U A)
    (running : IsRunning d.told d.size u.took handles g made r) (whole : made ≡ g.nodes) (acks2 mail2 : ℕ → Lossy (WireNet R) b) (now : List (Station D O U)) (none : Station D O U) where
  abbrev was : ℕ → Station D O U
  was v = station_at v r.stations.items none

  abbrev is : ℕ → Station D O U
  is v = station_at v now none

  -- a node of the round, in some state after it, or one past the last, which made nothing
  pub record OfNode (State : ℕ → List Packet → Node → Type 0) (v : ℕ) : Type 0 where
    pub given : List Packet
    pub events : List Event
    pub out : Outgoing
    pub after_it : Node
    pub run : NodeRun g (Contains given) v (running.nodes v) events out after_it
    pub by_handler : List core.Put
    pub by_sender : List core.Put
    pub node : v < made → NodeIs d u g v (acks2 v) (mail2 v) given out by_handler by_sender (was v) (is v)
    pub state : v < made → State v given after_it
    pub nobody : made ≤ v → (given ≡ []) × (events ≡ []) × (out.outs ≡ [])

  module _ (State : ℕ → List Packet → Node → Type 0) (own : (v : ℕ) → v < made → KeepsOwn (was v).mail × KeepsOwn (was v).acks) (of : (v : ℕ) → OfNode State v)
      (mail_came : CameFrom made acks2 mail2) (acks_came : CameFrom made mail2 acks2)
      (mail_width : (v : ℕ) → v < made → length (mail2 v).base.sends.items ≡ made) (acks_width : (v : ℕ) → v < made → length (acks2 v).base.sends.items ≡ made) where
    abbrev old : Cluster
    old = group_of g running.nodes running.emissions

    abbrev outs : ℕ → Outgoing
    outs v = (of v).out

    station : (v : ℕ) → v < made → IsStation u.took g old v (emitted_by v running.emissions) (was v)
    station v low = running.stands.each v none low

    below : (v : ℕ) → v < made → v < g.nodes
    below v low = omega (arith, low, whole)

    -- ---- what each took comes from the others

    mail-stands : (to k : ℕ) → k < g.nodes → StandsForPut old (outs k) k to (sealed_to to (passed (of k).by_sender (was k).mail)) (taken_to to (passed (of k).by_sender (was k).mail))
    mail-stands to k low =
        let here : k < made = omega (arith, low, whole) in
        let n = (of k).node here in
        let links = (station k here).mail in
        stands g old k low (outs k) (of k).by_sender n.among.right (was k).mail links.from (own k here).0 links.known n.sender_spelled to

    acks-stand : (to k : ℕ) → k < g.nodes → StandsForPut old (outs k) k to (sealed_to to (passed (of k).by_handler (was k).acks)) (taken_to to (passed (of k).by_handler (was k).acks))
    acks-stand to k low =
        let here : k < made = omega (arith, low, whole) in
        let n = (of k).node here in
        let links = (station k here).acks in
        stands g old k low (outs k) (of k).by_handler n.among.left (was k).acks links.from (own k here).1 links.known n.handler_spelled to

    abbrev Comes : Packet → Type 0
    Comes p = WasPut old p ⊎ ComesOf g.nodes outs p

    mail-comes : (v : ℕ) (low : v < made) → All Comes (packets_from g.nodes ((of v).node low).mail_gave)
    mail-comes v low =
        let n = (of v).node low in
        let end : SendEnd = some_at (mail2 v).base.sends.items v (let w = mail_width v low in omega (arith, low, w)) in
        heard_come g running.nodes running.emissions outs v (λ k. sealed_to v (passed (of k).by_sender (was k).mail)) (λ k. taken_to v (passed (of k).by_sender (was k).mail)) n.mail_gave (mail-stands v)
        (λ bytes there.
        let from = mail_came v end bytes low (subst (λ (l : List (List ℕ)). Contains l bytes) (sym n.mail_heard) there) in
        let w = mail_width from.0 from.1 in
        (from.0, below from.0 from.1, ((of from.0).node from.1).hands_mail v end bytes (omega (arith, low, w)) from.2))

    acks-come : (v : ℕ) (low : v < made) → All Comes (packets_from g.nodes ((of v).node low).acks_gave)
    acks-come v low =
        let n = (of v).node low in
        let end : SendEnd = some_at (mail2 v).base.sends.items v (let w = mail_width v low in omega (arith, low, w)) in
        heard_come g running.nodes running.emissions outs v (λ k. sealed_to v (passed (of k).by_handler (was k).acks)) (λ k. taken_to v (passed (of k).by_handler (was k).acks)) n.acks_gave (acks-stand v)
        (λ bytes there.
        let from = acks_came v end bytes low (subst (λ (l : List (List ℕ)). Contains l bytes) (sym n.acks_heard) there) in
        let w = acks_width from.0 from.1 in
        (from.0, below from.0 from.1, ((of from.0).node from.1).hands_acks v end bytes (omega (arith, low, w)) from.2))

    all-come : (v : ℕ) → All Comes (of v).given
    all-come v =
        ⊎_elim
        (λ (low : v < made).
        let n = (of v).node low in
        subst (All Comes) (sym (n.given_is ∙ packets-append g.nodes n.mail_gave n.acks_gave))
        (All-append Comes (packets_from g.nodes n.mail_gave) (packets_from g.nodes n.acks_gave) (mail-comes v low) (acks-come v low)))
        (λ (past : made ≤ v). subst (All Comes) (sym ((of v).nobody past).0) (All-nil Comes))
        (cases_lt v made)

    -- ---- what all emitted

    abbrev pub emitted : ℕ → List Emission
    emitted zero = []
    emitted (suc k) = emitted k ++ emissions_by k (outs k).outs

    emitted-past : (v k : ℕ) → k ≤ v → emitted_by v (emitted k) ≡ []
    emitted-past v zero low = refl
    emitted-past v (suc k) low =
        by-both v (emitted k) (emissions_by k (outs k).outs)
        ∙ ap (λ (os : List Out). os ++ emitted_by v (emissions_by k (outs k).outs)) (emitted-past v k (omega (arith, low)))
        ∙ by-other v k (outs k).outs (λ same. absurd (omega (arith, same, low)))

    emitted-of : (v k : ℕ) → v < k → emitted_by v (emitted k) ≡ (outs v).outs
    emitted-of v zero low = absurd (omega (arith, low))
    emitted-of v (suc k) low =
        ⊎_elim
        (λ (same : v ≡ k).
        by-both v (emitted k) (emissions_by k (outs k).outs)
        ∙ ap (λ (os : List Out). os ++ emitted_by v (emissions_by k (outs k).outs)) (emitted-past v k (omega (arith, same)))
        ∙ subst (λ (x : ℕ). emitted_by v (emissions_by x (outs x).outs) ≡ (outs v).outs) same (by-here v (outs v).outs))
        (λ other.
        by-both v (emitted k) (emissions_by k (outs k).outs)
        ∙ ap (λ (os : List Out). os ++ emitted_by v (emissions_by k (outs k).outs)) (emitted-of v k (omega (arith, low, other)))
        ∙ ap (λ (os : List Out). (outs v).outs ++ os) (by-other v k (outs k).outs other)
        ∙ append-nil (outs v).outs)
        (cases_eq v k)

    abbrev pub emissions2 : List Emission
    emissions2 = running.emissions ++ emitted made

    pub emitted-since : (v : ℕ) → emitted_by v emissions2 ≡ emitted_by v running.emissions ++ (outs v).outs
    emitted-since v =
        by-both v running.emissions (emitted made)
        ∙ ap (λ (os : List Out). emitted_by v running.emissions ++ os)
        (⊎_elim
        (λ (low : v < made). emitted-of v made low)
        (λ (past : made ≤ v). emitted-past v made past ∙ sym ((of v).nobody past).2)
        (cases_lt v made))

    by-known : (k : ℕ) (os : List Out) → k < g.nodes → AllByRecursion (λ (e : Emission). e.node < g.nodes) (emissions_by k os)
    by-known k [] low = tt
    by-known k (o ∷ os) low = (low, by-known k os low)

    emitters : (k : ℕ) → k ≤ g.nodes → AllByRecursion (λ (e : Emission). e.node < g.nodes) (emitted k)
    emitters zero low = tt
    emitters (suc k) low =
        all-both (λ (e : Emission). e.node < g.nodes) (emitted k) (emissions_by k (outs k).outs) (emitters k (omega (arith, low))) (by-known k (outs k).outs (omega (arith, low)))

    -- ---- the group

    abbrev pub nodes2 : ℕ → Node
    nodes2 v = (of v).after_it

    abbrev pub group2 : Cluster
    group2 = group_of g nodes2 emissions2

    abbrev all-ran : AllRan g running.nodes nodes2
    all-ran = record {
      given = λ v. (of v).given;
      events = λ v. (of v).events;
      out = outs;
      runs = λ v. (of v).run;
      nobody = λ v past. ((of v).nobody (omega (arith, past, whole))).1;
    }

    keeps : KeepGroup g running.nodes nodes2 emissions2 all-ran
    keeps =
        rounds_keep_group g running.nodes nodes2 running.emissions emissions2 all-ran running.stands.accord all-come emitted-since
        (all-both (λ (e : Emission). e.node < g.nodes) running.emissions (emitted made) running.stands.accord.made.emitters (emitters made (omega (arith, whole))))

    pub still-put : (p : Packet) → WasPut old p → WasPut group2 p
    still-put p = stays_put g running.nodes nodes2 running.emissions emissions2 (λ v. run_grows g (Contains (of v).given) v (running.nodes v) (of v).events (outs v) (nodes2 v) (of v).run) p

    put-of : (v : ℕ) → v < g.nodes → (packet : Packet) → IsPut packet (outs v).puts → WasPut group2 packet
    put-of v low packet put = subst (WasPut group2) put.is (All-contains (λ (q : core.Put). WasPut group2 q.packet) (outs v).puts put.put (keeps.puts v low) put.one)

    -- an acknowledgement is by the node that put it
    answer-from : (v from to through : ℕ) → IsPut (Answer (record { from = from; to = to; through = through })) (outs v).puts → from ≡ v
    answer-from v from to through put =
        (run_puts_true g (Contains (of v).given) v (running.stands.accord.history v) (running.nodes v) (of v).events (outs v) (nodes2 v) (of v).run (Answer (record { from = from; to = to; through = through }))
        (running.stands.accord.made.nodes v).turns put).from

    come-put : (p : Packet) → ComesOf g.nodes outs p → WasPut group2 p
    come-put (Mail m) from = put-of from.0 from.1.0 (Mail m) from.1.1
    come-put (Answer a) from =
        let by = from.1 in
        let its = answer-from a.from by.from a.to by.further by.put in
        let far = consumed_in g nodes2 a.from a.to by.further (subst (λ (x : ℕ). IsTrue (consumed_answer g nodes2 x a.to by.further)) its (put-of a.from from.0 (Answer (record { from = by.from; to = a.to; through = by.further })) by.put)) in
        consumed_to g nodes2 a.from a.to a.through (record { known = far.known; most = let low = by.far in let most = far.most in omega (arith, low, most) })

    -- what was given was put
    pub given-put : (v : ℕ) → All (WasPut group2) (of v).given
    given-put v = All-weaker Comes (WasPut group2) (λ p comes. ⊎_elim (λ before. still-put p before) (λ one. come-put p one) comes) (of v).given (all-come v)

    -- ---- each station

    links-stand : (v : ℕ) (low : v < made) (links : Leaving) (by : List core.Put) → AreLinksOf g old v links → AreSpelled g.nodes (puts_of by) by → ((packet : Packet) → IsPut packet by → IsPut packet (outs v).puts) → AreLinksOf g group2 v (after by links)
    links-stand v low links by are spelled among =
        let known : All (λ (q : core.Put). WasPut group2 q.packet) by =
        All-weaker (Contains by) (λ (q : core.Put). WasPut group2 q.packet) (λ q there. put-of v (below v low) q.packet (among q.packet (record { put = q; one = there; is = refl }))) by (All-contains_itself by) in
        record {
          from = are.from;
          to_each = after-length (puts_of by) links.links ∙ are.to_each;
          known = (passed_are_known g group2 (puts_of by) links.links (spelled-known g group2 (puts_of by) by spelled known) ((known_stays g old group2 still-put).links links.links are.known)).kept;
        }

    has-emitted : (v : ℕ) (low : v < made) → HasEmitted u.took v (emitted_by v emissions2) (is v)
    has-emitted v low =
        let n = (of v).node low in
        let before = (station v low).emitted in
        subst (λ (os : List Out). HasEmitted u.took v os (is v)) (sym (emitted-since v))
        (record {
          kept =
              n.emissions ∙ ap (λ (es : List Emission). es ++ emissions_by v (outs v).outs) before.kept
              ∙ sym (map-append (λ (o : Out). let x : Emission = record { node = v; out = o } in x) (emitted_by v running.emissions) (outs v).outs);
          took_it =
              subst (λ (told : Option (List Out)). IfSome told (λ t. t ≡ emitted_by v running.emissions ++ (outs v).outs)) (sym n.took)
              (took-all (u.took (was v).out) (emitted_by v running.emissions) (outs v).outs before.took_it);
        })

    stands-station : (v : ℕ) (low : v < made) → IsStation u.took g group2 v (emitted_by v emissions2) (is v)
    stands-station v low =
        let n = (of v).node low in
        let before = station v low in
        record {
          mail = subst (AreLinksOf g group2 v) (sym n.mail) (links-stand v low (was v).mail (of v).by_sender before.mail n.sender_spelled n.among.right);
          acks = subst (AreLinksOf g group2 v) (sym n.acks) (links-stand v low (was v).acks (of v).by_handler before.acks n.handler_spelled n.among.left);
          emitted = has-emitted v low;
        }

    modest-after : (by : List core.Put) (links : Leaving) → AreModest links → AreModest (after by links)
    modest-after by links are = λ w. modest-stay (puts_of by) links.links w (are w)

    stands-modest : (v : ℕ) → v < made → AreModest (is v).mail × AreModest (is v).acks
    stands-modest v low =
        let n = (of v).node low in
        let before = running.stands.modest v none low in
        (subst AreModest (sym n.mail) (modest-after (of v).by_sender (was v).mail before.0), subst AreModest (sym n.acks) (modest-after (of v).by_handler (was v).acks before.1))

    -- ---- the run

    module _ (r2 : Run D O U A) (same : (r2.nodes ≡ r.nodes) × (r2.app ≡ r.app) × (r2.waiting ≡ r.waiting)) (stations : r2.stations.items ≡ now) (count : length now ≡ made) where
      -- an element of the list, whatever stands past its end
      pub at : (v : ℕ) (other : Station D O U) → v < made → slice_index_or r2.stations.items v other ≡ is v
      at v other low = ap (λ (ss : List (Station D O U)). slice_index_or ss v other) stations ∙ get_or_default now v other none (omega (arith, low, count))

      pub stands-all : StandsFor d.told d.size u.took handles g made nodes2 emissions2 r2
      stands-all = record {
        limits = running.stands.limits;
        keeps = running.stands.keeps;
        few = running.stands.few;
        count = same.0 ∙ running.stands.count;
        lines = running.stands.lines;
        handler = ap handles same.1 ∙ running.stands.handler;
        width = ap (λ (ss : List (Station D O U)). length ss) stations ∙ count;
        accord = keeps.accord;
        boxes = (ap (λ w. length w.mail) same.2 ∙ running.stands.boxes.0, ap (λ w. length w.acks) same.2 ∙ running.stands.boxes.1);
        mail = subst (λ w. AreKnown g group2 w.mail) (sym same.2) ((known_stays g old group2 still-put).boxes r.waiting.mail running.stands.mail);
        acks = subst (λ w. AreKnown g group2 w.acks) (sym same.2) ((known_stays g old group2 still-put).boxes r.waiting.acks running.stands.acks);
        each = λ v other low. subst (IsStation u.took g group2 v (emitted_by v emissions2)) (sym (at v other low)) (stands-station v low);
        short = subst (λ w. AreShort w.mail × AreShort w.acks) (sym same.2) running.stands.short;
        modest = λ v other low. subst (λ (s : Station D O U). AreModest s.mail × AreModest s.acks) (sym (at v other low)) (stands-modest v low);
      }
