-- A packet that was heard, and stands in what a node handed in, was put before or comes from a run.
use Rattle.std.proofs.Common.{◌≡◌, ℕ, ◌<◌, ◌≤◌, ◌⊎◌, Bool, true, false, cond, nat_lt, List, [], ◌∷◌, Some, IsTrue, Contains, inl, inr, ⊎_elim, sym, subst, arith}
use Rattle.std.specs.List.{All}
use Rattle.std.proofs.lemmas.List.Elements.{All-append, All-cons, All-nil}
use Rattle.ken_model.specs.declared.messages.Message.{Message}
use Rattle.ken_model.specs.declared.reports.Emission.{Emission}
use Rattle.ken_model.specs.Game.{Game}
use Rattle.ken_packet.specs.declared.packet.Packet.{Packet as Spelled}
use Rattle.ken_packet.specs.declared.packet.Packet.TheVariants.{Mail as SpelledMail, Ack}
use Rattle.ken_packet.specs.Packets.{sender}
use Rattle.ken_packet.specs.Reading.{packet_of}
use Rattle.ken_net.specs.Puts.{IsHandedIn, MayPut, receiver}
use Rattle.ken_core.specs.Clusters.{Cluster, WasPut}
use Rattle.ken_core.specs.Nodes.{Node}
use Rattle.ken_core.specs.Packets.{Packet, Mail, Answer, Outgoing}
use Rattle.ken_core.specs.Runs.{IsPut}
use Rattle.ken_ship.specs.Laws.{packet_from, packets_from}
use Rattle.ken_flow.specs.Groups.{consumed_answer, group_of}
use Rattle.ken_flow.proofs.Groups.{consumed_in, consumed_to}
use Rattle.ken_beside.specs.Heard.{HeardCome, StandsForPut}
use Rattle.ken_beside.specs.Rounds.{ComesOf}
use Rattle.ken_beside.proofs.HandedIn.{at-head, in-tail}

module _ (g : Game) (nodes : ℕ → Node) (emissions : List Emission) (out : ℕ → Outgoing) where
  abbrev Group : Cluster
  Group = group_of g nodes emissions

  abbrev Comes : Packet → Type 0
  Comes p = WasPut Group p ⊎ ComesOf g.nodes out p

  if-known : (b : Bool) (p : Packet) → Comes p → All Comes (cond b (p ∷ []) [])
  if-known true p is = All-cons Comes p [] is (All-nil Comes)
  if-known false p is = All-nil Comes

  -- an acknowledgement that goes no further than one that was put was put
  no-further : (from to through further : ℕ) → through ≤ further → IsTrue (consumed_answer g nodes from to further) → IsTrue (consumed_answer g nodes from to through)
  no-further from to through further low was =
      let far = consumed_in g nodes from to further was in
      consumed_to g nodes from to through (record { known = far.known; most = let most = far.most in omega (arith, low, most) })

  one-comes : (k to : ℕ) (sealed : List Message) (consumed : List (ℕ × ℕ)) (q : Spelled) → k < g.nodes → StandsForPut Group (out k) k to sealed consumed → sender q ≡ k → receiver q ≡ to → IsHandedIn sealed consumed q
      → All Comes (packet_from g.nodes (Some q))
  one-comes k to sealed consumed (SpelledMail m) low stands of_node for_node handed =
      if-known (nat_lt m.from g.nodes) (Mail m) (⊎_elim (λ (was : WasPut Group (Mail m)). inl was) (λ (is : IsPut (Mail m) (out k).puts). inr (k, (low, is))) (stands.mail m handed))
  one-comes k to sealed consumed (Ack from to2 through) low stands of_node for_node handed =
      let same : from ≡ k = of_node in
      let there : StandsForPut Group (out k) k to2 sealed consumed = subst (λ (y : ℕ). StandsForPut Group (out k) k y sealed consumed) (sym for_node) stands in
      let then : StandsForPut Group (out from) from to2 sealed consumed = subst (λ (x : ℕ). StandsForPut Group (out x) x to2 sealed consumed) (sym of_node) there in
      let further : ℕ = handed.0 in
      let least : through ≤ further = handed.2 in
      if-known (nat_lt from g.nodes) (Answer (record { from = from; to = to2; through = through }))
      (⊎_elim
      (λ (was : WasPut Group (Answer (record { from = from; to = to2; through = further }))). inl (no-further from to2 through further least was))
      (λ (is : (by : ℕ) × IsPut (Answer (record { from = by; to = to2; through = further })) (out from).puts).
      inr (omega (arith, low, same), record { from = is.0; further = further; far = least; put = is.1 }))
      (then.answer further handed.1))

  module _ (to : ℕ) (sealed : ℕ → List Message) (consumed : ℕ → List (ℕ × ℕ)) (stand : (k : ℕ) → k < g.nodes → StandsForPut Group (out k) k to (sealed k) (consumed k)) where
    abbrev MayBePut : List ℕ → Type 0
    MayBePut bytes = (k : ℕ) × (k < g.nodes) × MayPut k to (sealed k) (consumed k) bytes

    bytes-come : (bytes : List ℕ) → MayBePut bytes → All Comes (packet_from g.nodes (packet_of bytes))
    bytes-come bytes is =
        let may = is.2 in
        rw may.is (one-comes is.0 to (sealed is.0) (consumed is.0) may.packet is.1 (stand is.0 is.1) may.of_node may.for_node may.handed)

    all-come : (heard : List (List ℕ)) → ((bytes : List ℕ) → Contains heard bytes → MayBePut bytes) → All Comes (packets_from g.nodes heard)
    all-come [] may = All-nil Comes
    all-come (bytes ∷ heard) may =
        All-append Comes (packet_from g.nodes (packet_of bytes)) (packets_from g.nodes heard) (bytes-come bytes (may bytes (at-head bytes heard)))
        (all-come heard (λ x inside. may x (in-tail bytes heard x inside)))

pub heard_come : HeardCome
heard_come g nodes emissions out to sealed consumed heard stand may = all-come g nodes emissions out to sealed consumed stand heard may
