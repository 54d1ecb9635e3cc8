-- What the calls of one node of a run leave.
use Rattle.std.proofs.Common.{◌≡◌, ◌≢◌, ℕ, ◌<◌, List, [], ◌∷◌, ◌++◌, length, All, Contains, slice_index_or, slice_set, Option, sym, ap, subst, ◌∙◌, arith}
use Rattle.std.specs.Prelude.{IfSome}
use Rattle.std.specs.List.{AllByRecursion}
use Rattle.std.proofs.lemmas.List.{append-nil}
use Rattle.std.proofs.lemmas.List.Elements.{All-head, All-tail, All-weaker}
use Rattle.ken_disk.specs.Story.{Story}
use Rattle.ken_model.specs.declared.messages.Out.{Out}
use Rattle.ken_model.specs.declared.reports.Emission.{Emission}
use Rattle.ken_model.specs.Emissions.{emitted_by}
use Rattle.ken_model.specs.Game.{Game}
use Rattle.ken_model.specs.Handler.{Handler}
use Rattle.ken_net.specs.Puts.{Put}
use Rattle.ken_net.specs.Standings.{Leaving, all_passed}
use Rattle.ken_core.specs.declared.events.Event.{Event}
use Rattle.ken_core.specs.Accord.{Accord}
use Rattle.ken_core.specs.Calls.{Doubt}
use Rattle.ken_core.specs.Clusters.{WasPut, emissions_by}
use Rattle.ken_core.specs.Nodes.{Node}
use Rattle.ken_core.specs.Packets.{Packet, Mail, Answer, Outgoing}
use Rattle.ken_core.specs.Runs.{NodeRun}
use Rattle.ken_ship.specs.Laws.{packets_from}
use Rattle.ken_node.specs.declared.watched.Watched.{Watched}
use Rattle.ken_node.specs.Down.{IsDown}
use Rattle.ken_node.specs.NodeCalls.{AreSpelled, GoesNoFurther}
use Rattle.ken_node.specs.Stages.{emissions_in}
use Rattle.ken_node.specs.Up.{IsUp}
use Rattle.ken_flow.specs.Flows.{AreKnown}
use Rattle.ken_flow.specs.Groups.{group_of, with_node}
use Rattle.ken_flow.specs.Standstill.{AreShort}
use Rattle.ken_flow.proofs.Flows.{given_are_known}
use Rattle.ken_flow.proofs.Puts.{acks_go_no_further}
use Rattle.ken_run.specs.declared.inboxes.InFlight.{InFlight}
use Rattle.ken_run.specs.declared.run.Run.{Run}
use Rattle.ken_run.specs.declared.station.Station.{Station}
use Rattle.ken_run.specs.Ends.{AreModest, WereGiven, WerePut}
use Rattle.ken_run.specs.Running.{IsRunning, IsStopped, StandsFor}
use Rattle.ken_run.specs.Stations.{AreLinksOf, HasEmitted, IsStation}
use Rattle.ken_run.proofs.Lifted.{group-after, known-stays, links-stay, posted, put-stays, running-after, stands-after, stopped-after, takes-known}
use Rattle.ken_run.proofs.Modest.{modest-stay}
use Rattle.ken_run.proofs.Short.{filed-short, gave-short}

-- where nothing more was emitted, what was emitted is as before
none-more : {A : Type 0} (xs ys : List A) → ys ≡ [] → xs ++ ys ≡ xs
none-more xs ys none = ap (λ zs. xs ++ zs) none ∙ append-nil xs

-- acknowledgements that were put go no further than what the node has sealed
pub no-further : (g : Game) (nodes : ℕ → Node) (emissions : List Emission) (v : ℕ) (packets : List Packet) → Accord g (group_of g nodes emissions) → v < g.nodes → All (WasPut (group_of g nodes emissions)) packets → AllByRecursion (GoesNoFurther v (nodes v)) packets
no-further g nodes emissions v [] accord known all = tt
no-further g nodes emissions v (Mail m ∷ ps) accord known all = (tt, no-further g nodes emissions v ps accord known (All-tail (WasPut (group_of g nodes emissions)) (Mail m) ps all))
no-further g nodes emissions v (Answer a ∷ ps) accord known all =
    (λ to. acks_go_no_further g nodes emissions v a accord known (All-head (WasPut (group_of g nodes emissions)) (Answer a) ps all) to, no-further g nodes emissions v ps accord known (All-tail (WasPut (group_of g nodes emissions)) (Answer a) ps all))

module _ {D O U A : Type 0} (told : Watched D → Option Story) (size : Watched D → ℕ) (took : U → Option (List Out)) (handles : A → Handler) (g : Game) (made : ℕ) (r r2 : Run D O U A) (v : ℕ) (s s2 : Station D O U)
    (nodes : ℕ → Node) (emissions : List Emission) (stands : StandsFor told size took handles g made nodes emissions r) (low : v < made)
    (is : slice_index_or r.stations.items v s ≡ s) (same : (r2.nodes ≡ r.nodes) × (r2.app ≡ r.app)) (stations : r2.stations.items ≡ slice_set r.stations.items v s2) where
  pub known : v < g.nodes
  known = let few = stands.few in omega (arith, few, low)

  own : IsStation took g (group_of g nodes emissions) v (emitted_by v emissions) s
  own = subst (IsStation took g (group_of g nodes emissions) v (emitted_by v emissions)) is (stands.each v s low)

  own-modest : AreModest s.mail × AreModest s.acks
  own-modest = subst (λ (x : Station D O U). AreModest x.mail × AreModest x.acks) is (stands.modest v s low)

  -- links after puts are as modest
  put-modest : (links links2 : Leaving) (old new : List (List (List ℕ))) (puts : List Put) → WerePut links links2 old new puts → AreModest links → AreModest links2
  put-modest links links2 old new puts put are = subst AreModest (sym put.links_are) (λ w. modest-stay puts links.links w (are w))

  put-short : (links links2 : Leaving) (old new : List (List (List ℕ))) (puts : List Put) → WerePut links links2 old new puts → AreShort old → AreShort new
  put-short links links2 old new puts put short = subst AreShort (sym put.passed_on) (filed-short (all_passed puts links.links) old short)

  -- nothing was emitted
  pub still-emitted : (out : Outgoing) → out.outs ≡ [] → emissions_in s2.node.stage ≡ emissions_in s.node.stage → s2.out ≡ s.out → HasEmitted took v (emitted_by v emissions ++ out.outs) s2
  still-emitted out none kept out-is = record {
    kept = kept ∙ own.emitted.kept ∙ ap (emissions_by v) (sym (none-more (emitted_by v emissions) out.outs none));
    took_it = subst (λ (o : U). IfSome (took o) (λ told. told ≡ emitted_by v emissions ++ out.outs)) (sym out-is) (subst (λ (os : List Out). IfSome (took s.out) (λ told. told ≡ os)) (sym (none-more (emitted_by v emissions) out.outs none)) own.emitted.took_it);
  }

  -- ---- a call that takes mail and puts acknowledgements

  pub mail-were : (bytes : List (List ℕ)) (nones : ℕ) → WereGiven v nones r.waiting.mail r2.waiting.mail bytes → All (WasPut (group_of g nodes emissions)) (packets_from g.nodes bytes)
  mail-were bytes nones gave = (given_are_known g (group_of g nodes emissions) v r.waiting.mail r2.waiting.mail bytes stands.mail gave.gave).1

  pub handler-stands : (bytes : List (List ℕ)) (nones : ℕ) (puts : List Put) (events : List Event) (out : Outgoing) (after : Node)
      → (gave : WereGiven v nones r.waiting.mail r2.waiting.mail bytes) → WerePut s.acks s2.acks r.waiting.acks r2.waiting.acks puts
      → NodeRun g (Contains (packets_from g.nodes bytes)) v (nodes v) events out after → AreSpelled g.nodes puts out.puts → out.outs ≡ []
      → emissions_in s2.node.stage ≡ emissions_in s.node.stage → s2 ≡ record s { node = s2.node; luck = s2.luck; acks = s2.acks }
      → StandsFor told size took handles g made (with_node v after nodes) (emissions ++ emissions_by v out.outs) r2
  handler-stands bytes nones puts events out after gave put run spelled none kept rest =
      let packets = packets_from g.nodes bytes in
      let were = mail-were bytes nones gave in
      let w2 = group-after g nodes emissions v packets events out after stands.accord known were run in
      let acks = posted g nodes emissions v packets events out after stands.accord known were run s.acks s2.acks r.waiting.acks r2.waiting.acks puts spelled own.acks stands.acks put in
      stands-after g nodes emissions v packets events out after stands.accord known were run told size took handles made r r2 s2 stands low same stations
      (gave.gave.count ∙ stands.boxes.0, acks.2 ∙ stands.boxes.1)
      (takes-known g nodes emissions v packets events out after stands.accord known were run r.waiting.mail r2.waiting.mail bytes stands.mail gave.gave)
      acks.1
      (record {
        mail = subst (AreLinksOf g w2 v) (sym (ap (λ (x : Station D O U). x.mail) rest)) (links-stay g nodes emissions v packets events out after stands.accord known were run v s.mail own.mail);
        acks = acks.0;
        emitted = still-emitted out none kept (ap (λ (x : Station D O U). x.out) rest);
      })
      (gave-short v r.waiting.mail r2.waiting.mail bytes gave.gave stands.short.0, put-short s.acks s2.acks r.waiting.acks r2.waiting.acks puts put stands.short.1)
      (subst AreModest (sym (ap (λ (x : Station D O U). x.mail) rest)) own-modest.0, put-modest s.acks s2.acks r.waiting.acks r2.waiting.acks puts put own-modest.1)

  -- ---- a call that takes acknowledgements and puts mail

  pub acks-were : (bytes : List (List ℕ)) (nones : ℕ) → WereGiven v nones r.waiting.acks r2.waiting.acks bytes → All (WasPut (group_of g nodes emissions)) (packets_from g.nodes bytes)
  acks-were bytes nones gave = (given_are_known g (group_of g nodes emissions) v r.waiting.acks r2.waiting.acks bytes stands.acks gave.gave).1

  pub sender-stands : (bytes : List (List ℕ)) (nones : ℕ) (puts : List Put) (events : List Event) (out : Outgoing) (after : Node)
      → (gave : WereGiven v nones r.waiting.acks r2.waiting.acks bytes) → WerePut s.mail s2.mail r.waiting.mail r2.waiting.mail puts
      → NodeRun g (Contains (packets_from g.nodes bytes)) v (nodes v) events out after → AreSpelled g.nodes puts out.puts → out.outs ≡ []
      → emissions_in s2.node.stage ≡ emissions_in s.node.stage → s2 ≡ record s { node = s2.node; mail = s2.mail }
      → StandsFor told size took handles g made (with_node v after nodes) (emissions ++ emissions_by v out.outs) r2
  sender-stands bytes nones puts events out after gave put run spelled none kept rest =
      let packets = packets_from g.nodes bytes in
      let were = acks-were bytes nones gave in
      let w2 = group-after g nodes emissions v packets events out after stands.accord known were run in
      let mail = posted g nodes emissions v packets events out after stands.accord known were run s.mail s2.mail r.waiting.mail r2.waiting.mail puts spelled own.mail stands.mail put in
      stands-after g nodes emissions v packets events out after stands.accord known were run told size took handles made r r2 s2 stands low same stations
      (mail.2 ∙ stands.boxes.0, gave.gave.count ∙ stands.boxes.1)
      mail.1
      (takes-known g nodes emissions v packets events out after stands.accord known were run r.waiting.acks r2.waiting.acks bytes stands.acks gave.gave)
      (record {
        mail = mail.0;
        acks = subst (AreLinksOf g w2 v) (sym (ap (λ (x : Station D O U). x.acks) rest)) (links-stay g nodes emissions v packets events out after stands.accord known were run v s.acks own.acks);
        emitted = still-emitted out none kept (ap (λ (x : Station D O U). x.out) rest);
      })
      (put-short s.mail s2.mail r.waiting.mail r2.waiting.mail puts put stands.short.0, gave-short v r.waiting.acks r2.waiting.acks bytes gave.gave stands.short.1)
      (put-modest s.mail s2.mail r.waiting.mail r2.waiting.mail puts put own-modest.0, subst AreModest (sym (ap (λ (x : Station D O U). x.acks) rest)) own-modest.1)

  -- ---- a call without the network

  pub alone-stands : (packets : List Packet) (events : List Event) (out : Outgoing) (after : Node)
      → (were : All (WasPut (group_of g nodes emissions)) packets) → r2.waiting ≡ r.waiting
      → NodeRun g (Contains packets) v (nodes v) events out after
      → (s2.mail ≡ s.mail) × (s2.acks ≡ s.acks) → HasEmitted took v (emitted_by v emissions ++ out.outs) s2
      → StandsFor told size took handles g made (with_node v after nodes) (emissions ++ emissions_by v out.outs) r2
  alone-stands packets events out after were waits run links emitted =
      let w2 = group-after g nodes emissions v packets events out after stands.accord known were run in
      let stay = known-stays g nodes emissions v packets events out after stands.accord known were run in
      let links_stay = links-stay g nodes emissions v packets events out after stands.accord known were run v in
      let mail-is = ap (λ (x : InFlight). x.mail) waits in
      let acks-is = ap (λ (x : InFlight). x.acks) waits in
      stands-after g nodes emissions v packets events out after stands.accord known were run told size took handles made r r2 s2 stands low same stations
      (ap length mail-is ∙ stands.boxes.0, ap length acks-is ∙ stands.boxes.1)
      (subst (AreKnown g w2) (sym mail-is) (stay.boxes r.waiting.mail stands.mail))
      (subst (AreKnown g w2) (sym acks-is) (stay.boxes r.waiting.acks stands.acks))
      (record {
        mail = subst (AreLinksOf g w2 v) (sym links.0) (links_stay s.mail own.mail);
        acks = subst (AreLinksOf g w2 v) (sym links.1) (links_stay s.acks own.acks);
        emitted = emitted;
      })
      (subst AreShort (sym mail-is) stands.short.0, subst AreShort (sym acks-is) stands.short.1)
      (subst AreModest (sym links.0) own-modest.0, subst AreModest (sym links.1) own-modest.1)

  -- ---- and all are up, or the node is down

  abbrev OthersUp : Type 0
  OthersUp = (u : ℕ) (d : Station D O U) → u < made → u ≢ v → IsUp told size g u (nodes u) (slice_index_or r.stations.items u d).node.stage

  -- what was put before was put after the call
  were-still : (packets : List Packet) (events : List Event) (out : Outgoing) (after : Node) → All (WasPut (group_of g nodes emissions)) packets → NodeRun g (Contains packets) v (nodes v) events out after
      → All (WasPut (group_of g (with_node v after nodes) (emissions ++ emissions_by v out.outs))) packets
  were-still packets events out after were run =
      All-weaker (WasPut (group_of g nodes emissions)) (WasPut (group_of g (with_node v after nodes) (emissions ++ emissions_by v out.outs))) (put-stays g nodes emissions v packets events out after stands.accord known were run) packets were

  pub handler-up : (bytes : List (List ℕ)) (nones : ℕ) (puts : List Put) (events : List Event) (out : Outgoing) (after : Node)
      → (gave : WereGiven v nones r.waiting.mail r2.waiting.mail bytes) → WerePut s.acks s2.acks r.waiting.acks r2.waiting.acks puts
      → NodeRun g (Contains (packets_from g.nodes bytes)) v (nodes v) events out after → AreSpelled g.nodes puts out.puts → out.outs ≡ []
      → emissions_in s2.node.stage ≡ emissions_in s.node.stage → s2 ≡ record s { node = s2.node; luck = s2.luck; acks = s2.acks }
      → IsUp told size g v after s2.node.stage → OthersUp → IsRunning told size took handles g made r2
  handler-up bytes nones puts events out after gave put run spelled none kept rest up others =
      running-after g nodes emissions v (packets_from g.nodes bytes) events out after stands.accord known (mail-were bytes nones gave) run told size took handles made r r2 s2 stands low same stations
      (handler-stands bytes nones puts events out after gave put run spelled none kept rest) up others

  pub handler-down : (bytes : List (List ℕ)) (nones : ℕ) (puts : List Put) (events : List Event) (out : Outgoing) (after : Node) (doubt : Doubt)
      → (gave : WereGiven v nones r.waiting.mail r2.waiting.mail bytes) → WerePut s.acks s2.acks r.waiting.acks r2.waiting.acks puts
      → NodeRun g (Contains (packets_from g.nodes bytes)) v (nodes v) events out after → AreSpelled g.nodes puts out.puts → out.outs ≡ []
      → emissions_in s2.node.stage ≡ emissions_in s.node.stage → s2 ≡ record s { node = s2.node; luck = s2.luck; acks = s2.acks }
      → IsDown told g v (packets_from g.nodes bytes) after doubt s2.node.stage → OthersUp → IsStopped told size took handles g made v r2
  handler-down bytes nones puts events out after doubt gave put run spelled none kept rest down others =
      let packets = packets_from g.nodes bytes in
      let were = mail-were bytes nones gave in
      stopped-after g nodes emissions v packets events out after stands.accord known were run told size took handles made r r2 s2 stands low same stations
      (handler-stands bytes nones puts events out after gave put run spelled none kept rest) packets (were-still packets events out after were run) doubt down others

  pub sender-up : (bytes : List (List ℕ)) (nones : ℕ) (puts : List Put) (events : List Event) (out : Outgoing) (after : Node)
      → (gave : WereGiven v nones r.waiting.acks r2.waiting.acks bytes) → WerePut s.mail s2.mail r.waiting.mail r2.waiting.mail puts
      → NodeRun g (Contains (packets_from g.nodes bytes)) v (nodes v) events out after → AreSpelled g.nodes puts out.puts → out.outs ≡ []
      → emissions_in s2.node.stage ≡ emissions_in s.node.stage → s2 ≡ record s { node = s2.node; mail = s2.mail }
      → IsUp told size g v after s2.node.stage → OthersUp → IsRunning told size took handles g made r2
  sender-up bytes nones puts events out after gave put run spelled none kept rest up others =
      running-after g nodes emissions v (packets_from g.nodes bytes) events out after stands.accord known (acks-were bytes nones gave) run told size took handles made r r2 s2 stands low same stations
      (sender-stands bytes nones puts events out after gave put run spelled none kept rest) up others

  pub alone-up : (packets : List Packet) (events : List Event) (out : Outgoing) (after : Node) → (were : All (WasPut (group_of g nodes emissions)) packets) → r2.waiting ≡ r.waiting
      → NodeRun g (Contains packets) v (nodes v) events out after → (s2.mail ≡ s.mail) × (s2.acks ≡ s.acks) → HasEmitted took v (emitted_by v emissions ++ out.outs) s2
      → IsUp told size g v after s2.node.stage → OthersUp → IsRunning told size took handles g made r2
  alone-up packets events out after were waits run links emitted up others =
      running-after g nodes emissions v packets events out after stands.accord known were run told size took handles made r r2 s2 stands low same stations
      (alone-stands packets events out after were waits run links emitted) up others

  pub alone-down : (packets : List Packet) (events : List Event) (out : Outgoing) (after : Node) (doubt : Doubt) → (were : All (WasPut (group_of g nodes emissions)) packets) → r2.waiting ≡ r.waiting
      → NodeRun g (Contains packets) v (nodes v) events out after → (s2.mail ≡ s.mail) × (s2.acks ≡ s.acks) → HasEmitted took v (emitted_by v emissions ++ out.outs) s2
      → IsDown told g v packets after doubt s2.node.stage → OthersUp → IsStopped told size took handles g made v r2
  alone-down packets events out after doubt were waits run links emitted down others =
      stopped-after g nodes emissions v packets events out after stands.accord known were run told size took handles made r r2 s2 stands low same stations
      (alone-stands packets events out after were waits run links emitted) packets (were-still packets events out after were run) doubt down others
