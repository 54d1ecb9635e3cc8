-- Runs of all nodes at once, each over packets that some run put, keep the group in accord.
use Rattle.std.proofs.Common.{◌≡◌, ℕ, ◌<◌, ◌⊎◌, List, [], IsTrue, Contains, refl, sym, subst, ⊎_elim, arith, append-nil, eq-eqb, ne_eqb}
use Rattle.std.proofs.lemmas.Bool.{cases_eq}
use Rattle.std.proofs.lemmas.List.Elements.{All-contains, All-contains_itself, All-weaker}
use Rattle.std.specs.List.{All}
use Rattle.ken_model.specs.declared.reports.Emission.{Emission}
use Rattle.ken_model.specs.Game.{Game}
use Rattle.ken_core.specs.Accord.{Accord}
use Rattle.ken_core.specs.Clusters.{WasPut}
use Rattle.ken_core.specs.Nodes.{Node}
use Rattle.ken_core.specs.Packets.{Packet, Mail, Answer, Outgoing}
use Rattle.ken_core.specs.Packets as core
use Rattle.ken_core.specs.Runs.{IsPut, NodeRun}
use Rattle.ken_core.proofs.Made.{run_puts_true}
use Rattle.ken_flow.specs.Groups.{consumed_answer, group_of, with_node}
use Rattle.ken_flow.proofs.Gathering.{runs_keep_group}
use Rattle.ken_flow.proofs.Groups.{consumed_in, consumed_to}
use Rattle.ken_flow.proofs.Puts.{Grows, one_was_put, run_grows, stays_put}
use Rattle.ken_beside.specs.Rounds.{AllRan, ComesOf, RoundsKeepGroup}
use Rattle.ken_beside.proofs.Over.{run-over}

module _ (g : Game) (nodes nodes2 : ℕ → Node) (emissions emissions2 : List Emission) (ran : AllRan g nodes nodes2) (accord : Accord g (group_of g nodes emissions)) where
  abbrev InTheEnd : Packet → Type 0
  InTheEnd = WasPut (group_of g nodes2 emissions2)

  grown : (v : ℕ) → Grows (nodes v) (nodes2 v)
  grown v = run_grows g (Contains (ran.given v)) v (nodes v) (ran.events v) (ran.out v) (nodes2 v) (ran.runs v)

  -- also where one of them has run already
  grown-after : (u v : ℕ) → Grows (with_node u (nodes2 u) nodes v) (nodes2 v)
  grown-after u v =
      ⊎_elim
      (λ (same : v ≡ u). rw (eq-eqb v u same) (subst (λ (x : ℕ). Grows (nodes2 u) (nodes2 x)) (sym same) ([], sym (append-nil (nodes2 u).turning.turns))))
      (λ other. rw (ne_eqb v u other) (grown v))
      (cases_eq v u)

  -- what was put before is put still
  before : (packet : Packet) → WasPut (group_of g nodes emissions) packet → InTheEnd packet
  before packet was = stays_put g nodes nodes2 emissions emissions2 grown packet was

  -- and what a node put was put
  put-then : (u : ℕ) → u < g.nodes → (packet : Packet) → IsPut packet (ran.out u).puts → InTheEnd packet
  put-then u low packet is =
      stays_put g (with_node u (nodes2 u) nodes) nodes2 emissions emissions2 (grown-after u) packet
      (one_was_put g (Contains (ran.given u)) nodes emissions u (ran.events u) (ran.out u) (nodes2 u) accord low (ran.runs u) emissions packet is)

  -- an acknowledgement is by the node that put it
  answer-from : (u from to through : ℕ) → IsPut (Answer (record { from = from; to = to; through = through })) (ran.out u).puts → from ≡ u
  answer-from u from to through is =
      (run_puts_true g (Contains (ran.given u)) u (accord.history u) (nodes u) (ran.events u) (ran.out u) (nodes2 u) (ran.runs u) (Answer (record { from = from; to = to; through = through })) (accord.made.nodes u).turns is).from

  comes : (packet : Packet) → ComesOf g.nodes ran.out packet → InTheEnd packet
  comes (Mail m) is = put-then is.0 is.1.0 (Mail m) is.1.1
  comes (Answer a) is =
      let by = is.1 in
      let from = answer-from a.from by.from a.to by.further by.put in
      let was : IsTrue (consumed_answer g nodes2 by.from a.to by.further) = put-then a.from is.0 (Answer (record { from = by.from; to = a.to; through = by.further })) by.put in
      let far = consumed_in g nodes2 a.from a.to by.further (subst (λ (x : ℕ). IsTrue (consumed_answer g nodes2 x a.to by.further)) from was) in
      consumed_to g nodes2 a.from a.to a.through (record { known = far.known; most = let low = by.far in let most = far.most in omega (arith, low, most) })

  module _ (gave : (v : ℕ) → All (λ (p : Packet). WasPut (group_of g nodes emissions) p ⊎ ComesOf g.nodes ran.out p) (ran.given v)) where
    all-given : (v : ℕ) → All InTheEnd (ran.given v)
    all-given v =
        All-weaker (λ (p : Packet). WasPut (group_of g nodes emissions) p ⊎ ComesOf g.nodes ran.out p) InTheEnd (λ packet which. ⊎_elim (λ was. before packet was) (λ is. comes packet is) which) (ran.given v) (gave v)

    runs-then : (v : ℕ) → NodeRun g InTheEnd v (nodes v) (ran.events v) (ran.out v) (nodes2 v)
    runs-then v = run-over g (Contains (ran.given v)) InTheEnd (λ packet there. All-contains InTheEnd (ran.given v) packet (all-given v) there) v (nodes v) (nodes2 v) (ran.events v) (ran.out v) (ran.runs v)

pub rounds_keep_group : RoundsKeepGroup
rounds_keep_group g nodes nodes2 emissions emissions2 ran accord gave emitted emitters = record {
  accord = runs_keep_group g nodes nodes2 emissions emissions2 ran.events ran.out accord (runs-then g nodes nodes2 emissions emissions2 ran accord gave) ran.nobody emitted emitters;
  puts = λ u low.
      All-weaker (Contains (ran.out u).puts) (λ (p : core.Put). WasPut (group_of g nodes2 emissions2) p.packet)
      (λ p one. put-then g nodes nodes2 emissions emissions2 ran accord u low p.packet (record { put = p; one = one; is = refl }))
      (ran.out u).puts (All-contains_itself (ran.out u).puts);
}
