-- Runs of all nodes keep accord of the group, where all that is sealed counts as put.
use Rattle.std.proofs.Common.{◌≡◌, ℕ, ◌-◌, ◌<◌, ◌≤◌, List, ◌++◌, length, Bool, true, false, ◌&&◌, if◌then◌else◌, nat_lt, nat_le, Some, None, IsTrue, slice_get, refl, sym, ap, ◌∙◌, subst, arith}
use Rattle.std.proofs.lemmas.Bool.{and_parts, ltb-true, leb-true}
use Rattle.ken_model.specs.declared.messages.Message.{Message}
use Rattle.ken_model.specs.Game.{Game}
use Rattle.ken_model.specs.History.{sent_by}
use Rattle.ken_core.specs.Turns.{consumed_from, mails_to}
use Rattle.ken_core.specs.Nodes.{Node}
use Rattle.ken_core.specs.Packets.{Packet, Mail, Answer}
use Rattle.ken_core.specs.Clusters.{WasPut}
use Rattle.ken_core.specs.Accord.{IsAt}
use Rattle.ken_core.specs.Runs.{MayCome, IsSealedBy}
use Rattle.ken_flow.specs.Groups.{sealed_mail, consumed_answer, group_of}
use Rattle.ken_flow.specs.Laws.{RunsKeepGroup}
use Rattle.ken_core.proofs.Numbers.{mails_to-sealed}
use Rattle.ken_core.proofs.Sent.{sent_at}
use Rattle.ken_core.proofs.Made.{run_turns, run_keeps_turns}
use Rattle.ken_core.proofs.Apart.{to_end}

-- what is sealed stands at its number, of a known node
pub record IsFound (g : Game) (nodes : ℕ → Node) (u v number : ℕ) (m : Message) : Type 0 where
  pub known : u < g.nodes
  pub some : 0 < number
  pub stands : slice_get (mails_to u v (nodes u).turning.turns) (number - 1) ≡ Some m

found : (g : Game) (nodes : ℕ → Node) (u v number : ℕ) (m : Message) → sealed_mail g nodes u v number ≡ Some m → IsFound g nodes u v number m
found g nodes u v number m e = by (nat_lt u g.nodes && nat_lt 0 number) refl e
  where
    by : (b : Bool) → (nat_lt u g.nodes && nat_lt 0 number) ≡ b → (if b then slice_get (mails_to u v (nodes u).turning.turns) (number - 1) else None) ≡ Some m → IsFound g nodes u v number m
    by true is e = let both = and_parts (nat_lt u g.nodes) (nat_lt 0 number) is in record { known = ltb-true u g.nodes both.0; some = ltb-true 0 number both.1; stands = e }
    by false is e = absurd cc

answered : (g : Game) (nodes : ℕ → Node) (u v through : ℕ) → IsTrue (consumed_answer g nodes u v through) → (u < g.nodes) × (through ≤ consumed_from v (nodes u).turning.turns)
answered g nodes u v through e = let both = and_parts (nat_lt u g.nodes) (nat_le through (consumed_from v (nodes u).turning.turns)) e in (ltb-true u g.nodes both.0, leb-true through (consumed_from v (nodes u).turning.turns) both.1)

may_come : (g : Game) (nodes : ℕ → Node) (m : Message) → sealed_mail g nodes m.from m.to m.number ≡ Some m → IsSealedBy g nodes m
may_come g nodes m e = let is = found g nodes m.from m.to m.number m e in record { known = is.known; number = is.some; stands = is.stands }

pub runs_keep_group : RunsKeepGroup
runs_keep_group g nodes nodes2 emissions emissions2 events out accord runs nobody emitted emitters =
    let w2 = group_of g nodes2 emissions2 in
    to_end g (WasPut w2) (group_of g nodes emissions) w2 accord (record {
      events = events;
      out = out;
      runs = runs;
      nobody = nobody;
      took = came;
      mail = λ u v number m e.
          let is = found g nodes2 u v number m e in
          let ts = accord.history u ++ run_turns g (WasPut w2) u (nodes u) (events u) (out u) (nodes2 u) (runs u) in
          let kept = run_keeps_turns g (WasPut w2) u (accord.history u) (nodes u) (events u) (out u) (nodes2 u) (runs u) (accord.made.nodes u).turns in
          let sent : slice_get (sent_by u v 0 ts) (number - 1) ≡ Some m = ap (λ ms. slice_get ms (number - 1)) (sym (ap (mails_to u v) kept ∙ mails_to-sealed u v ts)) ∙ is.stands in
          let at = sent_at u v 0 ts (number - 1) m sent in
          let counted : m.number ≡ number = omega (arith, at.counted, is.some) in (
            record { from = at.from; to = at.to; counted = counted },
            record {
              known = subst (λ (x : ℕ). x < g.nodes) (sym at.from) is.known;
              number = omega (arith, counted, is.some);
              stands =
                  ap (λ x. slice_get (mails_to x m.to (nodes2 x).turning.turns) (m.number - 1)) at.from
                  ∙ ap (λ x. slice_get (mails_to u x (nodes2 u).turning.turns) (m.number - 1)) at.to
                  ∙ ap (λ k. slice_get (mails_to u v (nodes2 u).turning.turns) (k - 1)) counted
                  ∙ is.stands;
            },
          );
      answer = λ u v through e. answered g nodes2 u v through e;
      emitted = emitted;
      emitters = λ _. emitters;
    })
  where
    came : (packet : Packet) → WasPut (group_of g nodes2 emissions2) packet → MayCome g nodes2 packet
    came (Mail m) p = may_come g nodes2 m p
    came (Answer a) p = answered g nodes2 a.from a.to a.through p
