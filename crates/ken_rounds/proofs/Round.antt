-- A round of a run: what it makes of all nodes, and what becomes of them by their faults.
use Rattle.std.proofs.Common.{◌≡◌, ◌≢◌, ◌∙◌, ℕ, ◌+◌, ◌*◌, ◌<◌, ◌≤◌, ◌⊎◌, List, [], ◌++◌, length, Contains, Bool, true, false, ◌||◌, Option, Some, None, Err, inl, inr, ⊎_elim, slice_index_or, refl, sym, ap, subst, arith}
use Rattle.std.proofs.lemmas.Bool.{cases_lt}
use Rattle.std.proofs.lemmas.List.{get_or_default, length_push}
use Rattle.std.proofs.lemmas.List.Elements.{All-contains, All-contains_itself, All-weaker}
use Rattle.ken_disk.specs.declared.disk.Disk as disk
use Rattle.ken_app.specs.declared.oracle.Oracle as oracle
use Rattle.ken_model.specs.Game.{Game}
use Rattle.ken_model.specs.Handler.{Handler}
use Rattle.ken_net.specs.declared.base.Base as base
use Rattle.ken_net.specs.declared.lossy.Lossy.{Lossy}
use Rattle.ken_net.specs.declared.net.Net as net
use Rattle.ken_net.specs.Standings.{KeepsOwn, Leaving, after_puts}
use Rattle.ken_core.specs.Clusters.{WasPut}
use Rattle.ken_core.specs.Nodes.{Node}
use Rattle.ken_core.specs.Packets.{nothing, Packet}
use Rattle.ken_core.specs.Packets as core
use Rattle.ken_core.specs.Runs.{IsPut}
use Rattle.ken_ship.specs.declared.faults.NodeFault.{NodeFault}
use Rattle.ken_ship.specs.declared.faults.NodeFault.TheVariants.{Damaged, Disk, Memory, Outlet}
use Rattle.ken_ship.specs.declared.outlet.Outlet as outlet
use Rattle.ken_ship.specs.Laws.{packets_from}
use Rattle.ken_node.specs.declared.stage.Stage.{Stage}
use Rattle.ken_node.specs.declared.stage.Stage.TheVariants.{Created}
use Rattle.ken_node.specs.declared.watched.Watched.{Watched}
use Rattle.ken_node.specs.Down.{MayRestart}
use Rattle.ken_node.specs.NodeCalls.{AreSpelled}
use Rattle.ken_node.specs.Stages.{emissions_in, image_told, turns_in}
use Rattle.ken_node.specs.Up.{IsUp}
use Rattle.ken_run.specs.declared.run.Run.{Run}
use Rattle.ken_run.specs.declared.station.Station.{Station}
use Rattle.ken_run.specs.Accounts.{AreAccounted, IsAccounted, IsHeld, Terms}
use Rattle.ken_run.specs.Counts.{KeepCounts}
use Rattle.ken_run.specs.Patched.{AddsStates, AllAdd}
use Rattle.ken_run.specs.Refusals.{AreRefused, HasFailedLast, IsRefused, IsWornOut}
use Rattle.ken_run.specs.Running.{IsRunning}
use Rattle.ken_run.proofs.AccountsCalls.{HasSome}
use Rattle.ken_run.proofs.Counts.{counts-then}
use Rattle.ken_run.proofs.Lifted.{after-length}
use Rattle.ken_wire.specs.declared.wire_net.WireNet.{WireNet}
use Rattle.ken_beside.specs.On.{IsOn}
use Rattle.ken_beside.specs.Puts.{AreOf, IsAnswer, IsMail, puts_of}
use Rattle.ken_beside.proofs.On.{up_is_on}
use Rattle.ken_threads.specs.declared.crew.Crew.{Crew}
use Rattle.ken_threads.specs.declared.crew.Faults.{Faults}
use Rattle.ken_threads.specs.Rounds.{AreWires, CameFrom, handling_with, Rounded}
use Rattle.ken_threads.specs.Seating.{crew_at}
use Rattle.ken_rounds.specs.declared.lending.Tally.{Tally}
use Rattle.ken_rounds.specs.Crews.{CrewPlayed}
use Rattle.ken_rounds.specs.Faults.{ComeTo, HadMemory, has_fallen, is_disk}
use Rattle.ken_rounds.specs.Growth.{GoOn, GrowsByFew, HasGrown, HaveGrown}
use Rattle.ken_rounds.specs.Heeded.{AreHeededBelow, HasGivenOut, HasGivenOutAt, IsHeeded}
use Rattle.ken_rounds.specs.Lending.{AreLent, HasCome, HaveCome, station_at}
use Rattle.ken_rounds.specs.Manned.{CameBack, IsMannedBy}
use Rattle.ken_rounds.specs.Quota.{AreServed, CountsRose, IsServed, MeetsQuota}
use Rattle.ken_rounds.specs.Raising.{HadMemoryAll}
use Rattle.ken_rounds.specs.Shaken.{AreKept, down, IsDownForGood, IsShaken, IsSomehow, up}
use Rattle.ken_rounds.proofs.Accounts.{accounted, held}
use Rattle.ken_rounds.proofs.Counts.{counts-down, counts-rose-then, counts-up, has-returned}
use Rattle.ken_rounds.proofs.Crews.{crew-played}
use Rattle.ken_rounds.proofs.Group as group
use Rattle.ken_rounds.proofs.Growth.{go-on}
use Rattle.ken_rounds.proofs.Heeded.{node-heeds, NodeHeeds}
use Rattle.ken_rounds.proofs.Node.{HasGoneDown, node-is, state-is}
use Rattle.ken_rounds.proofs.Raised.{NodePlayed, NodeThen, RaisedAs, not-looked-at, or-either, WentOn, went-on, WentOut, went-out, accounted-on, kept-not-looked-at, kept-out, lines-grow, refused-on, refused-out, refused-same, turns-go-on, turns-then}
use Rattle.ken_rounds.proofs.Refused.{refused, worn_out}
use Rattle.ken_rounds.proofs.Served.{has-made, HasMade, meets-quota}
use Rattle.ken_rounds.proofs.States.{Adds, crew-adds}
use Rattle.ken_rounds.proofs.Turns.{handler-makes}

-- what faults come to that isn't want of memory comes of none
no-memory : (f : Faults) (fault : Option NodeFault) → fault ≢ Some Memory → ComeTo f fault → HadMemory f
no-memory f None other is = is.0
no-memory f (Some Disk) other is = is.0
no-memory f (Some Outlet) other is = is.0
no-memory f (Some Memory) other is = absurd (other refl)
no-memory f (Some (Damaged disk place)) other is = absurd is

first-false : (x y : Bool) → (x || y) ≡ false → x ≡ false
first-false false y is = refl
first-false true y is = let no : true ≡ false = is in absurd cc

second-false : (x y : Bool) → (x || y) ≡ false → y ≡ false
second-false false y is = is
second-false true y is = let no : true ≡ false = is in absurd cc

module _ {R D O U A : Type 0} {b : base.Ghosts (WireNet R)} (d : disk.Ghosts (Watched D)) (e : net.Ghosts (Lossy (WireNet R) b)) (o : oracle.Ghosts O) (u : outlet.Ghosts U) (handles : A → Handler) (wires : AreWires e)
    (g : Game) (made : ℕ) (r : Run D O U A) (running : IsRunning d.told d.size u.took handles g made r) (whole : made ≡ g.nodes)
    (crews crews2 : List (Crew (Watched D) O U)) (tallies : List Tally) (now : List (Station D O U)) (faults : List (Option NodeFault)) (c0 : Crew (Watched D) O U) (t0 : Tally) (s0 : Station D O U)
    (lent : AreLent r.stations.items crews tallies)
    (rounded : Rounded d e o u g.handler crews crews2) (come : HaveCome d crews2 tallies now faults) (had : HadMemoryAll faults) where
  abbrev was : ℕ → Station D O U
  was v = station_at v r.stations.items s0

  abbrev is : ℕ → Station D O U
  is v = station_at v now s0

  abbrev crew : ℕ → Crew (Watched D) O U
  crew v = crew_at v crews c0

  abbrev crew2 : ℕ → Crew (Watched D) O U
  crew2 v = crew_at v crews2 c0

  abbrev pub fault : ℕ → Option NodeFault
  fault v = slice_index_or faults v None

  -- ---- one node

  module _ (v : ℕ) (low : v < made) where
    in-crews : v < length crews
    in-crews = let width = running.stands.width in let count = lent.count in omega (arith, low, width, count)

    in-crews2 : v < length crews2
    in-crews2 = let count = rounded.count in let so = in-crews in omega (arith, count, so)

    in-stations : v < length r.stations.items
    in-stations = let width = running.stands.width in omega (arith, low, width)

    manned : IsMannedBy (crew v) (was v)
    manned = (lent.each v s0 c0 t0 in-stations).0

    own : KeepsOwn (was v).mail × KeepsOwn (was v).acks
    own = let keeps = (lent.each v s0 c0 t0 in-stations).2 in (keeps.mail, keeps.acks)

    has-come : HasCome d (crew2 v) (slice_index_or tallies v t0) (is v) (fault v)
    has-come = come.each v c0 t0 s0 in-crews2

    not-memory : fault v ≢ Some Memory
    not-memory = had v (let told = come.told in let so = in-crews2 in omega (arith, told, so))

    back : CameBack (crew2 v) has-come.turns has-come.patches has-come.sends (was v) (is v)
    back = has-come.back (was v) (lent.each v s0 c0 t0 in-stations).1

    pub come-to : ComeTo (crew2 v).faults (fault v)
    come-to = has-come.fault_is not-memory

    up-before : IsUp d.told d.size g v (running.nodes v) (was v).node.stage
    up-before = running.up v s0 low

    on : IsOn d.told d.size g v (running.nodes v) (crew v).turns (crew v).patches (crew v).sends
    on = (up_is_on d.told d.size g v (running.nodes v) (crew v).turns (crew v).patches (crew v).sends).on (subst (IsUp d.told d.size g v (running.nodes v)) manned.stage up-before)

    unspent : (crew v).patches.side.image.spent ≡ false
    unspent = (up_is_on d.told d.size g v (running.nodes v) (crew v).turns (crew v).patches (crew v).sends).unspent (subst (IsUp d.told d.size g v (running.nodes v)) manned.stage up-before)

    abbrev Played : Type 0
    Played =
        CrewPlayed d e o u g v (running.nodes v) (crew v) (crew2 v) (rounded.acks v) (rounded.acks2 v) (rounded.mail v) (rounded.mail2 v) has-come.turns has-come.patches has-come.sends

    played : Played
    played =
        crew-played d e o u wires.put_still wires.put_joins wires.given_still wires.given_joins g v (running.nodes v) (crew v) (crew2 v) (rounded.acks v) (rounded.acks2 v) (rounded.mail v) (rounded.mail2 v)
        has-come.turns has-come.patches has-come.sends on (has-come.met not-memory) unspent (no-memory (crew2 v).faults (fault v) not-memory come-to) (rounded.ran v c0 in-crews)

    pub node-played : NodePlayed d o u g v (running.nodes v) (rounded.acks2 v) (rounded.mail2 v) (crew2 v).faults (was v) (is v)
    node-played = record {
      given = packets_from g.nodes (played.mail_gave ++ played.acks_gave);
      events = played.events;
      out = played.out;
      after_it = played.after;
      run = played.run;
      by_handler = played.by_handler;
      by_sender = played.by_sender;
      node =
          node-is d e o u wires g v (running.nodes v) (crew v) (crew2 v) (rounded.acks v) (rounded.acks2 v) (rounded.mail v) (rounded.mail2 v) (rounded.over v c0 in-crews)
          has-come.turns has-come.patches has-come.sends (was v) (is v) manned back played;
      state =
          state-is d e o u wires g v (running.nodes v) (crew v) (crew2 v) (rounded.acks v) (rounded.acks2 v) (rounded.mail v) (rounded.mail2 v) (rounded.over v c0 in-crews)
          has-come.turns has-come.patches has-come.sends (was v) (is v) manned back played;
    }

    -- where none failed its handler made all its calls
    pub made-turns : has_fallen (crew2 v).faults ≡ false → HasMade 16 (was v).node.stage (is v).node.stage
    made-turns none_fell =
        let faults : Faults = (crew2 v).faults in
        let makes =
        handler-makes d e o g.handler faults.handler (handling_with (rounded.acks v) (crew v)) (handling_with (rounded.acks2 v) (crew2 v)) (no-memory faults (fault v) not-memory come-to).handler
        (first-false (is_disk faults.handler) (is_disk faults.patcher) none_fell) (rounded.ran v c0 in-crews).handler on.whole.workers.working in
        let made = has-made d g.handler 16 (crew v).turns (crew2 v).turns has-come.turns (crew v).patches (crew2 v).patches has-come.patches (crew v).sends (crew2 v).sends has-come.sends makes (has-come.met not-memory) in
        subst (λ stage. HasMade 16 stage (is v).node.stage) (sym manned.stage) (subst (HasMade 16 (Created (crew v).turns (crew v).patches (crew v).sends)) (sym back.stage) made)

    -- and its patcher made all its calls
    pub added-states : has_fallen (crew2 v).faults ≡ false → Adds 16 (image_told d.told (was v).node.stage) (image_told d.told (is v).node.stage)
    added-states none_fell =
        let faults : Faults = (crew2 v).faults in
        let adds =
        crew-adds d (crew v).turns (crew2 v).turns has-come.turns (crew v).patches (crew2 v).patches has-come.patches (crew v).sends (crew2 v).sends has-come.sends faults.patcher
        (no-memory faults (fault v) not-memory come-to).patcher (second-false (is_disk faults.handler) (is_disk faults.patcher) none_fell) (rounded.ran v c0 in-crews).patcher (record { side = on.whole.pages.apart.patches.takes; unspent = unspent }) (has-come.met not-memory) in
        subst (λ stage. Adds 16 (image_told d.told stage) (image_told d.told (is v).node.stage)) (sym manned.stage)
        (subst (λ stage. Adds 16 (image_told d.told (Created (crew v).turns (crew v).patches (crew v).sends)) (image_told d.told stage)) (sym back.stage) adds)

    -- what the round made of its disks' counts of faults
    has-disks : HasSome (is v).node.stage
    has-disks = has-returned d e o u g v (running.nodes v) (crew v) (crew2 v) (rounded.acks v) (rounded.acks2 v) (rounded.mail v) (rounded.mail2 v) has-come.turns has-come.patches has-come.sends (was v) (is v) played manned back

    kept-counts : has_fallen (crew2 v).faults ≡ false → KeepCounts d.faults (was v).node.stage (is v).node.stage
    kept-counts =
        counts-up d e o u g v (running.nodes v) (crew v) (crew2 v) (rounded.acks v) (rounded.acks2 v) (rounded.mail v) (rounded.mail2 v) has-come.turns has-come.patches has-come.sends (was v) (is v) played manned back

    rose-counts : has_fallen (crew2 v).faults ≡ true → KeepCounts d.faults (was v).node.stage (is v).node.stage × CountsRose d.faults (was v).node.stage (is v).node.stage
    rose-counts =
        counts-down d e o u g v (running.nodes v) (crew v) (crew2 v) (rounded.acks v) (rounded.acks2 v) (rounded.mail v) (rounded.mail2 v) has-come.turns has-come.patches has-come.sends (was v) (is v) played manned back

    -- a node whose disk failed may be restarted
    pub may-rise : fault v ≡ Some Disk → MayRestart d.told (is v).node.stage
    may-rise disk =
        let went = node-played.state.down (let so = subst (ComeTo (crew2 v).faults) disk come-to in so.1) in
        record { game = g; node = v; given = went.last; stood_for = node-played.after_it; doubt = went.doubt; down = went.down }

    -- each refusal of its outlet counts, but for the one after which it stopped
    abbrev Heeded : Type 0
    Heeded =
        NodeHeeds d e u (crew v) (crew2 v) (rounded.mail v) (rounded.mail2 v) has-come.turns has-come.patches has-come.sends (was v) (is v) manned back (has-come.met not-memory)

    is-heeded : Heeded
    is-heeded =
        node-heeds d e u (crew v) (crew2 v) (rounded.mail v) (rounded.mail2 v) has-come.turns has-come.patches has-come.sends (was v) (is v) manned back (has-come.met not-memory)
        (no-memory (crew2 v).faults (fault v) not-memory come-to).externaliser (rounded.ran v c0 in-crews).externaliser

    module _ (terms : Terms) where
      pub is-accounted : IsAccounted d.told d.faults d.fate o.telling terms g v (was v) → has_fallen (crew2 v).faults ≡ false → IsAccounted d.told d.faults d.fate o.telling terms g v (is v)
      is-accounted before none =
          accounted d e o u terms g v (running.nodes v) (crew v) (crew2 v) (rounded.acks v) (rounded.acks2 v) (rounded.mail v) (rounded.mail2 v) has-come.turns has-come.patches has-come.sends (was v) (is v) played manned back up-before none before

      pub is-held : IsAccounted d.told d.faults d.fate o.telling terms g v (was v) → has_fallen (crew2 v).faults ≡ true → IsHeld d.told d.faults d.fate o.telling terms g v (is v)
      is-held before some =
          held d e o u terms g v (running.nodes v) (crew v) (crew2 v) (rounded.acks v) (rounded.acks2 v) (rounded.mail v) (rounded.mail2 v) has-come.turns has-come.patches has-come.sends (was v) (is v) played manned back up-before some before

      pub is-refused : IsRefused u.faults u.fate terms v (was v) → IsRefused u.faults u.fate terms v (is v)
      is-refused before =
          refused d e o u terms g v (running.nodes v) (crew v) (crew2 v) (rounded.acks v) (rounded.acks2 v) (rounded.mail v) (rounded.mail2 v) has-come.turns has-come.patches has-come.sends (was v) (is v) played manned back before

      pub is-worn : IsRefused u.faults u.fate terms v (was v) → fault v ≡ Some Outlet → HasFailedLast u.faults u.fate 65 (is v).out
      is-worn before out =
          worn_out d e o u terms g v (running.nodes v) (crew v) (crew2 v) (rounded.acks v) (rounded.acks2 v) (rounded.mail v) (rounded.mail2 v) has-come.turns has-come.patches has-come.sends (was v) (is v) played manned back before
          (let so = subst (ComeTo (crew2 v).faults) out come-to in so.1)

  -- ---- all of them, after their faults were looked at

  module _ (last : List (Station D O U)) (count : length last ≡ made) (most : ℕ) where
    abbrev then : ℕ → Station D O U
    then v = station_at v last s0

    abbrev Then : (v : ℕ) → v < made → (Node → Type 0) → Type 0
    Then v low State = NodeThen d o u g v (running.nodes v) (rounded.acks2 v) (rounded.mail2 v) (crew2 v).faults (fault v) (come-to v low) (was v) (is v) (then v) (node-played v low) State

    abbrev OfNode : (ℕ → List Packet → Node → Type 0) → ℕ → Type 0
    OfNode State v = group.OfNode d u handles g made r running whole rounded.acks2 rounded.mail2 last s0 State v

    of-node : (State : ℕ → List Packet → Node → Type 0) → ((v : ℕ) (low : v < made) → Then v low (State v (node-played v low).given)) → (v : ℕ) → OfNode State v
    of-node State nexts v =
        ⊎_elim
        (λ (low : v < made).
        let next = nexts v low in
        let one : OfNode State v = record {
          given = (node-played v low).given;
          events = next.events;
          out = (node-played v low).out;
          after_it = next.after_it;
          run = next.run;
          by_handler = (node-played v low).by_handler;
          by_sender = (node-played v low).by_sender;
          node = λ also. next.node;
          state = λ also. next.state;
          nobody = λ past. absurd (omega (arith, low, past));
        } in one)
        (λ (past : made ≤ v).
        let one : OfNode State v = record {
          given = [];
          events = [];
          out = nothing;
          after_it = running.nodes v;
          run = (refl, refl);
          by_handler = [];
          by_sender = [];
          node = λ low. absurd (omega (arith, low, past));
          state = λ low. absurd (omega (arith, low, past));
          nobody = λ also. (refl, refl, refl);
        } in one)
        (cases_lt v made)

    mail-width : (v : ℕ) → v < made → length (rounded.mail2 v).base.sends.items ≡ made
    mail-width v low =
        let node = (node-played v low).node in
        wires.width (rounded.mail2 v)
        ∙ ap (λ l. length l.links) ((rounded.over v c0 (in-crews v low)).mail_links.1 ∙ sym (back v low).mail ∙ node.mail)
        ∙ after-length (puts_of (node-played v low).by_sender) (was v).mail.links ∙ (running.stands.each v s0 low).mail.to_each ∙ sym whole

    acks-width : (v : ℕ) → v < made → length (rounded.acks2 v).base.sends.items ≡ made
    acks-width v low =
        let node = (node-played v low).node in
        wires.width (rounded.acks2 v)
        ∙ ap (λ l. length l.links) ((rounded.over v c0 (in-crews v low)).acks_links.1 ∙ sym (back v low).acks ∙ node.acks)
        ∙ after-length (puts_of (node-played v low).by_handler) (was v).acks.links ∙ (running.stands.each v s0 low).acks.to_each ∙ sym whole

    crews-count : length crews ≡ made
    crews-count = lent.count ∙ running.stands.width

    mail-came : CameFrom made rounded.acks2 rounded.mail2
    mail-came = subst (λ (k : ℕ). CameFrom k rounded.acks2 rounded.mail2) crews-count rounded.mail_came

    acks-came : CameFrom made rounded.mail2 rounded.acks2
    acks-came = subst (λ (k : ℕ). CameFrom k rounded.mail2 rounded.acks2) crews-count rounded.acks_came

    module _ (r2 : Run D O U A) (same : (r2.nodes ≡ r.nodes) × (r2.app ≡ r.app) × (r2.waiting ≡ r.waiting)) (restarts : r2.restarts ≡ r.restarts) (stations : r2.stations.items ≡ last) where
      -- a node of the run, whatever stands past the end of its list
      pub at : (v : ℕ) (other : Station D O U) → v < made → slice_index_or r2.stations.items v other ≡ then v
      at v other low = ap (λ (ss : List (Station D O U)). slice_index_or ss v other) stations ∙ get_or_default last v other s0 (omega (arith, low, count))

      -- what became of one of them
      abbrev Became : (v : ℕ) → Type 0
      Became v = WentOn d o most (fault v) (is v) (then v) ⊎ (WentOut d o most (fault v) (is v) (then v) ⊎ (then v ≡ is v))

      abbrev UpThen : ℕ → List Packet → Node → Type 0
      UpThen v given m = IsUp d.told d.size g v m (then v).node.stage

      abbrev EitherThen : ℕ → List Packet → Node → Type 0
      EitherThen v given m = UpThen v given m ⊎ HasGoneDown d u g v (rounded.acks2 v) (rounded.mail2 v) given m (then v)

      -- all go on
      pub goes-on : ((v : ℕ) → v < made → WentOn d o most (fault v) (is v) (then v)) → IsRunning d.told d.size u.took handles g made r2
      goes-on all =
          let of = of-node UpThen (λ v low. went-on d o u g v (running.nodes v) (rounded.acks2 v) (rounded.mail2 v) (crew2 v).faults (fault v) (come-to v low) (was v) (is v) (then v) (node-played v low) most (all v low)) in
          record {
            nodes = λ v. (of v).after_it;
            emissions = group.emissions2 d u handles g made r running whole rounded.acks2 rounded.mail2 last s0 UpThen own of mail-came acks-came mail-width acks-width;
            stands = group.stands-all d u handles g made r running whole rounded.acks2 rounded.mail2 last s0 UpThen own of mail-came acks-came mail-width acks-width r2 same stations count;
            up = λ v other low. subst (λ (s : Station D O U). IsUp d.told d.size g v (of v).after_it s.node.stage) (sym (at v other low)) ((of v).state low);
          }

      then-either : (v : ℕ) (low : v < made) → Became v → Then v low (EitherThen v (node-played v low).given)
      then-either v low (inl on) =
          or-either d o u g v (running.nodes v) (rounded.acks2 v) (rounded.mail2 v) (crew2 v).faults (fault v) (come-to v low) (was v) (is v) (then v) (node-played v low)
          (went-on d o u g v (running.nodes v) (rounded.acks2 v) (rounded.mail2 v) (crew2 v).faults (fault v) (come-to v low) (was v) (is v) (then v) (node-played v low) most on)
      then-either v low (inr (inl out)) =
          went-out d o u g v (running.nodes v) (rounded.acks2 v) (rounded.mail2 v) (crew2 v).faults (fault v) (come-to v low) (was v) (is v) (then v) (node-played v low) most out
      then-either v low (inr (inr alike)) =
          not-looked-at d o u g v (running.nodes v) (rounded.acks2 v) (rounded.mail2 v) (crew2 v).faults (fault v) (come-to v low) (was v) (is v) (then v) (node-played v low) alike

      -- and one of those below the limit is up
      abbrev EitherBelow : ℕ → ℕ → List Packet → Node → Type 0
      EitherBelow limit v given m = EitherThen v given m × (v < limit → UpThen v given m)

      then-below : (limit v : ℕ) (low : v < made) → Became v → (v < limit → WentOn d o most (fault v) (is v) (then v)) → Then v low (EitherBelow limit v (node-played v low).given)
      then-below limit v low became on =
          ⊎_elim
          (λ (below : v < limit).
          let t = went-on d o u g v (running.nodes v) (rounded.acks2 v) (rounded.mail2 v) (crew2 v).faults (fault v) (come-to v low) (was v) (is v) (then v) (node-played v low) most (on below) in
          let one : Then v low (EitherBelow limit v (node-played v low).given) = record { events = t.events; after_it = t.after_it; run = t.run; node = t.node; state = (inl t.state, λ also. t.state) } in one)
          (λ (above : limit ≤ v).
          let t = then-either v low became in
          let one : Then v low (EitherBelow limit v (node-played v low).given) = record { events = t.events; after_it = t.after_it; run = t.run; node = t.node; state = (t.state, λ below. absurd (omega (arith, above, below))) } in one)
          (cases_lt v limit)

      -- some may be down, but none below the limit
      pub is-shaken : (limit : ℕ) → ((v : ℕ) → v < made → Became v) → ((v : ℕ) → v < made → v < limit → WentOn d o most (fault v) (is v) (then v))
          → (shaken : IsShaken d.told d.size u.took handles g made r2) × ((v : ℕ) (other : Station D O U) → v < made → v < limit → IsUp d.told d.size g v (shaken.nodes v) (slice_index_or r2.stations.items v other).node.stage)
      is-shaken limit all on =
          let of = of-node (EitherBelow limit) (λ v low. then-below limit v low (all v low) (on v low)) in
          let w = group.group2 d u handles g made r running whole rounded.acks2 rounded.mail2 last s0 (EitherBelow limit) own of mail-came acks-came mail-width acks-width in
          let somehow : (v : ℕ) → v < made → EitherThen v (of v).given (of v).after_it → IsSomehow d.told d.size g w v (of v).after_it (then v).node.stage =
          λ v low.
          ⊎_elim (λ is_up. up is_up)
          (λ (gone : HasGoneDown d u g v (rounded.acks2 v) (rounded.mail2 v) (of v).given (of v).after_it (then v)).
          down gone.last
          (All-weaker (Contains gone.last) (WasPut w)
          (λ p there. All-contains (WasPut w) (of v).given p (group.given-put d u handles g made r running whole rounded.acks2 rounded.mail2 last s0 (EitherBelow limit) own of mail-came acks-came mail-width acks-width v) (gone.among p there))
          gone.last (All-contains_itself gone.last)) gone.doubt gone.down) in
          let shaken : IsShaken d.told d.size u.took handles g made r2 = record {
            nodes = λ v. (of v).after_it;
            emissions = group.emissions2 d u handles g made r running whole rounded.acks2 rounded.mail2 last s0 (EitherBelow limit) own of mail-came acks-came mail-width acks-width;
            stands = group.stands-all d u handles g made r running whole rounded.acks2 rounded.mail2 last s0 (EitherBelow limit) own of mail-came acks-came mail-width acks-width r2 same stations count;
            each = λ v other low. subst (λ (s : Station D O U). IsSomehow d.told d.size g w v (of v).after_it s.node.stage) (sym (at v other low)) (somehow v low ((of v).state low).0);
          } in
          (shaken, λ v other low below. subst (λ (s : Station D O U). IsUp d.told d.size g v (of v).after_it s.node.stage) (sym (at v other low)) (((of v).state low).1 below))

      -- ---- what the round added to them

      goes-on-by : (v : ℕ) (low : v < made) → Became v → (sort : Packet → Type 0) (links links2 : Leaving) (by : List core.Put) → AreOf sort by → links.from ≡ v → length links.links ≡ g.nodes → AreSpelled g.nodes (puts_of by) by
          → ((packet : Packet) → IsPut packet by → IsPut packet (node-played v low).out.puts) → links2 ≡ record links { links = after_puts (puts_of by) links.links } → GoOn sort (turns_in (then v).node.stage) links links2
      goes-on-by v low became =
          let played = node-played v low in
          let t = then-either v low became in
          let accord = running.stands.accord in
          go-on g (Contains played.given) v (accord.history v) (running.nodes v) t.events played.out t.after_it t.run (accord.made.nodes v).turns (turns_in (then v).node.stage)
          (turns-then d o u g v (running.nodes v) (rounded.acks2 v) (rounded.mail2 v) (crew2 v).faults (fault v) (come-to v low) (was v) (is v) (then v) played t.after_it t.state)

      grown : (v : ℕ) (low : v < made) → Became v → HasGrown 1 (was v) (then v)
      grown v low became =
          let played = node-played v low in
          let t = then-either v low became in
          let links = running.stands.each v s0 low in
          let lines =
          lines-grow d o u g v (running.nodes v) (rounded.acks2 v) (rounded.mail2 v) (crew2 v).faults (fault v) (come-to v low) (was v) (is v) (then v) played most became in
          record {
            turns = turns-go-on d o u g v (running.nodes v) (rounded.acks2 v) (rounded.mail2 v) (crew2 v).faults (fault v) (come-to v low) (was v) (is v) (then v) played (up-before v low) t;
            lines = subst (λ (ls : List ℕ). GrowsByFew 1 ls (then v).lines.items) (ap (λ x. x.items) (back v low).lines) lines;
            mail = goes-on-by v low became IsMail (was v).mail (then v).mail played.by_sender t.node.sender_mails links.mail.from links.mail.to_each t.node.sender_spelled t.node.among.right t.node.mail;
            acks = goes-on-by v low became IsAnswer (was v).acks (then v).acks played.by_handler t.node.handler_acks links.acks.from links.acks.to_each t.node.handler_spelled t.node.among.left t.node.acks;
          }

      pub all-grown : ((v : ℕ) → v < made → Became v) → HaveGrown 1 r r2
      all-grown all v other known =
          let low : v < made = (let width = running.stands.width in omega (arith, known, width)) in
          let there : slice_index_or r.stations.items v other ≡ was v = get_or_default r.stations.items v other s0 known in
          subst (λ (s : Station D O U). HasGrown 1 s (slice_index_or r2.stations.items v other)) (sym there) (subst (HasGrown 1 (was v)) (sym (at v other low)) (grown v low (all v low)))

      -- ---- their turns

      served : (v : ℕ) (low : v < made) → ((old : Stage (Watched D)) → HasMade 16 old (then v).node.stage → MeetsQuota g (16 * 1) old (then v).node.stage) → WentOn d o most (fault v) (is v) (then v) → IsServed d.faults g (16 * 1) (was v) (then v)
      served v low meets (inl (none, alike)) =
          let stood = (let so = subst (ComeTo (crew2 v).faults) none (come-to v low) in so.1) in
          let made : HasMade 16 (was v).node.stage (then v).node.stage = subst (λ (s : Station D O U). HasMade 16 (was v).node.stage s.node.stage) (sym alike) (made-turns v low stood) in
          let tries = (back v low).restarts in
          let kept = ap (λ (s : Station D O U). s.restarts) alike in
          let again : (then v).restarts ≡ (was v).restarts = omega (arith, tries, kept) in
          let quota = meets (was v).node.stage made in
          record {
            unfailed = λ _. quota;
            caused = inl again;
            counts = subst (λ (s : Station D O U). KeepCounts d.faults (was v).node.stage s.node.stage) (sym alike) (kept-counts v low stood);
            tries = omega (arith, again);
            quota = λ also. quota;
            quiet = λ also. made.quiet;
          }
      served v low meets (inr (disk, raised)) =
          let fallen = (let so = subst (ComeTo (crew2 v).faults) disk (come-to v low) in so.1) in
          let went = (node-played v low).state.down fallen in
          let again = (raised.back g v went.last (node-played v low).after_it went.doubt went.down).1.2 in
          let tries = (back v low).restarts in
          let counts = rose-counts v low fallen in
          let rose : CountsRose d.faults (was v).node.stage (then v).node.stage = counts-rose-then d.faults (was v).node.stage (is v).node.stage (then v).node.stage (has-disks v low) counts.1 raised.counts in
          record {
            unfailed = λ none. absurd (none rose);
            caused = inr rose;
            counts = counts-then d.faults (was v).node.stage (is v).node.stage (then v).node.stage (has-disks v low) counts.0 raised.counts;
            tries = omega (arith, tries, again);
            quota = λ also. absurd (omega (arith, also, tries, again));
            quiet = λ also. absurd (omega (arith, also, tries, again));
          }

      pub all-served : IsRunning d.told d.size u.took handles g made r2 → ((v : ℕ) → v < made → WentOn d o most (fault v) (is v) (then v)) → AreServed d.faults g made 1 r r2
      all-served now all v other low =
          let here = at v other low in
          let there : slice_index_or r.stations.items v other ≡ was v = get_or_default r.stations.items v other s0 (in-stations v low) in
          let is_up : IsUp d.told d.size g v (now.nodes v) (then v).node.stage = subst (λ (s : Station D O U). IsUp d.told d.size g v (now.nodes v) s.node.stage) here (now.up v other low) in
          let one = served v low (λ old made_it. meets-quota d.told d.size g now.nodes now.emissions now.stands.limits now.stands.accord v 16 old (then v).node.stage is_up made_it) (all v low) in
          subst (λ (s : Station D O U). IsServed d.faults g (16 * 1) s (slice_index_or r2.stations.items v other)) (sym there) (subst (IsServed d.faults g (16 * 1) (was v)) (sym here) one)

      -- ---- the stories of their images

      added : (v : ℕ) (low : v < made) → WentOn d o most (fault v) (is v) (then v) → AddsStates d.told 16 (was v) (then v)
      added v low (inl (none, alike)) =
          let stood = (let so = subst (ComeTo (crew2 v).faults) none (come-to v low) in so.1) in
          let kept = ap (λ (s : Station D O U). length s.lines.items) alike in
          let same = ap (λ x. length x.items) (back v low).lines in
          record {
            lines = omega (arith, kept, same);
            states = λ also. subst (λ (s : Station D O U). Adds 16 (image_told d.told (was v).node.stage) (image_told d.told s.node.stage)) (sym alike) (added-states v low stood);
          }
      added v low (inr (disk, raised)) =
          let fallen = (let so = subst (ComeTo (crew2 v).faults) disk (come-to v low) in so.1) in
          let went = (node-played v low).state.down fallen in
          let answered = raised.back g v went.last (node-played v low).after_it went.doubt went.down in
          let more : length (then v).lines.items ≡ length (is v).lines.items + 1 = ap length answered.1.1 ∙ length_push (is v).lines.items answered.0 in
          let same = ap (λ x. length x.items) (back v low).lines in
          record { lines = omega (arith, more, same); states = λ also. absurd (omega (arith, also, more, same)) }

      pub all-added : ((v : ℕ) → v < made → WentOn d o most (fault v) (is v) (then v)) → AllAdd d.told 16 r r2
      all-added all = record {
        width = let width = running.stands.width in let there = ap length stations in omega (arith, width, there, count);
        each = λ v other known.
            let low : v < made = (let width = running.stands.width in omega (arith, known, width)) in
            let there : slice_index_or r.stations.items v other ≡ was v = get_or_default r.stations.items v other s0 known in
            subst (λ (s : Station D O U). AddsStates d.told 16 s (slice_index_or r2.stations.items v other)) (sym there) (subst (AddsStates d.told 16 (was v)) (sym (at v other low)) (added v low (all v low)));
      }

      -- ---- their outlets' refusals, each of which counts

      -- where it isn't restarted
      heeded-still : (v : ℕ) (low : v < made) → fault v ≡ None → IsHeeded u 0 (was v) (is v)
      heeded-still v low no_fault =
          ⊎_elim
          (λ (well : (((crew2 v).faults).externaliser ≡ None) × IsHeeded u 0 (was v) (is v)). well.1)
          (λ (badly : (((crew2 v).faults).externaliser ≡ Some Outlet) × HasGivenOut u (was v) (is v)). absurd ((let so = subst (ComeTo (crew2 v).faults) no_fault (come-to v low) in so.2) badly.0))
          (is-heeded v low)

      emitted-more : (v : ℕ) (low : v < made) → length (emissions_in (was v).node.stage) ≤ length (emissions_in (is v).node.stage)
      emitted-more v low =
          ⊎_elim
          (λ (well : (((crew2 v).faults).externaliser ≡ None) × IsHeeded u 0 (was v) (is v)). well.1.emitted)
          (λ (badly : (((crew2 v).faults).externaliser ≡ Some Outlet) × HasGivenOut u (was v) (is v)). badly.1.heeded.emitted)
          (is-heeded v low)

      heeded : (v : ℕ) (low : v < made) → WentOn d o most (fault v) (is v) (then v) → IsHeeded u 0 (was v) (then v)
      heeded v low (inl (no_fault, alike)) = subst (IsHeeded u 0 (was v)) (sym alike) (heeded-still v low no_fault)
      heeded v low (inr (disk, raised)) =
          let fallen = (let so = subst (ComeTo (crew2 v).faults) disk (come-to v low) in so.1) in
          let went = (node-played v low).state.down fallen in
          let again = (raised.back g v went.last (node-played v low).after_it went.doubt went.down).1.2 in
          let tries = (back v low).restarts in
          let more = emitted-more v low in
          let kept = ap length raised.emissions in
          record {
            tries = omega (arith, tries, again);
            emitted = omega (arith, more, kept);
            rises = λ still. let same = still.restarts in absurd (omega (arith, same, tries, again));
            refused = λ still. let same = still.restarts in absurd (omega (arith, same, tries, again));
          }

      pub all-heeded : (limit : ℕ) → limit ≤ made → ((v : ℕ) → v < limit → WentOn d o most (fault v) (is v) (then v)) → AreHeededBelow u limit r r2
      all-heeded limit few all v other below =
          let low : v < made = omega (arith, few, below) in
          let there : slice_index_or r.stations.items v other ≡ was v = get_or_default r.stations.items v other s0 (in-stations v low) in
          subst (λ (s : Station D O U). IsHeeded u 0 s (slice_index_or r2.stations.items v other)) (sym there) (subst (IsHeeded u 0 (was v)) (sym (at v other low)) (heeded v low (all v below)))

      -- the outlet of one that is down refused once more than it counts
      gave-out : (v : ℕ) (low : v < made) → fault v ≡ Some Outlet → HasGivenOut u (was v) (is v)
      gave-out v low out =
          ⊎_elim
          (λ (well : (((crew2 v).faults).externaliser ≡ None) × IsHeeded u 0 (was v) (is v)).
          let so = subst (ComeTo (crew2 v).faults) out (come-to v low) in
          let no : None ≡ Some Outlet = sym well.0 ∙ so.1 in
          absurd cc)
          (λ (badly : (((crew2 v).faults).externaliser ≡ Some Outlet) × HasGivenOut u (was v) (is v)). badly.1)
          (is-heeded v low)

      pub given-out-at : (v : ℕ) (low : v < made) → fault v ≡ Some Outlet → then v ≡ is v → HasGivenOutAt u v r r2
      given-out-at v low out alike other =
          let there : slice_index_or r.stations.items v other ≡ was v = get_or_default r.stations.items v other s0 (in-stations v low) in
          subst (λ (s : Station D O U). HasGivenOut u s (slice_index_or r2.stations.items v other)) (sym there) (subst (HasGivenOut u (was v)) (sym (at v other low ∙ alike)) (gave-out v low out))

      -- ---- their accounts

      module _ (terms : Terms) (few : most ≡ terms.most) (before : AreAccounted d.told d.faults d.fate o.telling terms g made r) where
        -- one that goes on
        pub accounted-at : (v : ℕ) (other : Station D O U) (low : v < made) → WentOn d o most (fault v) (is v) (then v) → IsAccounted d.told d.faults d.fate o.telling terms g v (slice_index_or r2.stations.items v other)
        accounted-at v other low on =
            subst (IsAccounted d.told d.faults d.fate o.telling terms g v) (sym (at v other low))
            (accounted-on d o terms g v most (crew2 v).faults (fault v) (come-to v low) few (is v) (then v) (is-accounted v low terms (before.each v s0 low)) (is-held v low terms (before.each v s0 low)) on)

        pub all-accounted : ((v : ℕ) → v < made → WentOn d o most (fault v) (is v) (then v)) → AreAccounted d.told d.faults d.fate o.telling terms g made r2
        all-accounted all = record { most = restarts ∙ before.most; each = λ v other low. accounted-at v other low (all v low) }

        abbrev KeptThen : ℕ → Station D O U → Type 0
        KeptThen v s = IsAccounted d.told d.faults d.fate o.telling terms g v s ⊎ IsHeld d.told d.faults d.fate o.telling terms g v s

        then-kept : (v : ℕ) (low : v < made) → Became v → KeptThen v (then v)
        then-kept v low (inl on) =
            inl (accounted-on d o terms g v most (crew2 v).faults (fault v) (come-to v low) few (is v) (then v) (is-accounted v low terms (before.each v s0 low)) (is-held v low terms (before.each v s0 low)) on)
        then-kept v low (inr (inl out)) =
            kept-out d o terms g v most (crew2 v).faults (fault v) (come-to v low) few (is v) (then v) (is-accounted v low terms (before.each v s0 low)) (is-held v low terms (before.each v s0 low)) out
        then-kept v low (inr (inr alike)) =
            kept-not-looked-at d o terms g v most (crew2 v).faults (fault v) (come-to v low) few (is v) (then v) (is-accounted v low terms (before.each v s0 low)) (is-held v low terms (before.each v s0 low)) alike

        pub all-kept : ((v : ℕ) → v < made → Became v) → AreKept d.told d.faults d.fate o.telling terms g made r2
        all-kept all = record {
          most = restarts ∙ before.most;
          each = λ v other low. subst (KeptThen v) (sym (at v other low)) (then-kept v low (all v low));
        }

        -- a node that is down for good
        pub down-for-good : (v : ℕ) (low : v < made) → fault v ≡ Some Disk → RaisedAs d o most (Err Disk) (is v) (then v) → IsDownForGood d.told d.faults d.fate o.telling terms g v r2
        down-for-good v low disk raised =
            let fallen = (let so = subst (ComeTo (crew2 v).faults) disk (come-to v low) in so.1) in
            let went = (node-played v low).state.down fallen in
            let held : IsHeld d.told d.faults d.fate o.telling terms g v (then v) = raised.accounts terms g v (is-held v low terms (before.each v s0 low) fallen) (omega (arith, few)) in
            let used = (raised.back g v went.last (node-played v low).after_it went.doubt went.down).2 in
            let most_of = held.books.most in
            λ other. subst (λ (s : Station D O U). IsHeld d.told d.faults d.fate o.telling terms g v s × (s.restarts ≡ terms.most)) (sym (at v other low)) (held, omega (arith, used, most_of, few))

      -- ---- their outlets

      module _ (terms : Terms) (before : AreRefused u.faults u.fate terms made r) where
        then-refused : (v : ℕ) (low : v < made) → Became v → IsRefused u.faults u.fate terms v (then v)
        then-refused v low (inl on) = refused-on d o u terms v most (fault v) (is v) (then v) (is-refused v low terms (before.each v s0 low)) on
        then-refused v low (inr (inl out)) = refused-out d o u terms v most (fault v) (is v) (then v) (is-refused v low terms (before.each v s0 low)) out
        then-refused v low (inr (inr alike)) = refused-same d o u terms v most (fault v) (is v) (then v) (is-refused v low terms (before.each v s0 low)) alike

        pub all-refused : ((v : ℕ) → v < made → Became v) → AreRefused u.faults u.fate terms made r2
        all-refused all = record { each = λ v other low. subst (IsRefused u.faults u.fate terms v) (sym (at v other low)) (then-refused v low (all v low)) }

        pub is-worn-out : (v : ℕ) (low : v < made) → fault v ≡ Some Outlet → then v ≡ is v → IsWornOut u.faults u.fate terms v r2
        is-worn-out v low out same = λ other. subst (λ (s : Station D O U). HasFailedLast u.faults u.fate 65 s.out) (sym (at v other low ∙ same)) (is-worn v low terms (before.each v s0 low) out)
