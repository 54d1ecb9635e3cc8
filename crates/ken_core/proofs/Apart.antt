-- Runs of all nodes, told by what the nodes are in the end, keep accord.
use Rattle.std.proofs.Common.{◌≡◌, ℕ, ◌-◌, ◌<◌, ◌≤◌, List, [], ◌++◌, length, slice_get, Some, IsTrue, sym, ap, ◌∙◌, subst, arith}
use Rattle.std.specs.List.{AllByRecursion}
use Rattle.ken_model.specs.declared.reports.Emission.{Emission}
use Rattle.ken_core.specs.declared.events.Event.{Event}
use Rattle.ken_model.specs.declared.messages.Message.{Message}
use Rattle.ken_model.specs.Game.{Game}
use Rattle.ken_model.specs.Network.{Turn, outside}
use Rattle.ken_model.specs.History.{consumed, messages}
use Rattle.ken_model.specs.Emissions.{emitted_by}
use Rattle.ken_core.specs.Turns.{consumed_from, mails_to}
use Rattle.ken_core.specs.Packets.{Packet, Mail, Answer, Receipt, Outgoing}
use Rattle.ken_core.specs.Clusters.{Cluster}
use Rattle.ken_core.specs.Accord.{IsAt, AreConsumed, IsNodeOf, IsSent, HasMade, Accord}
use Rattle.ken_core.specs.Runs.{NodeRun, MayCome}
use Rattle.ken_core.specs.Laws.{RunsApartKeepAccord}
use Rattle.ken_core.proofs.Numbers.{mails_to-sealed, consumed-sealed}
use Rattle.ken_core.proofs.Sent.{messages-node, messages-more, front-longer, consumed-more}
use Rattle.ken_core.proofs.Made.{run_turns, run_keeps_turns, KeepsTurns}
use Rattle.ken_core.proofs.Together.{run_keeps, no_turns}

-- the same over any packets that may come in the end
pub record RanToEnd (g : Game) (put : Packet → Type 0) (w w2 : Cluster) : Type 0 where
  pub events : ℕ → List Event
  pub out : ℕ → Outgoing
  pub runs : (v : ℕ) → NodeRun g put v (w.node v) (events v) (out v) (w2.node v)
  pub nobody : (v : ℕ) → g.nodes ≤ v → events v ≡ []
  pub took : (packet : Packet) → put packet → MayCome g w2.node packet
  pub mail : (u v number : ℕ) (m : Message) → w2.mail u v number ≡ Some m → IsAt u v number m × MayCome g w2.node (Mail m)
  pub answer : (u v through : ℕ) → IsTrue (w2.answer u v through) → MayCome g w2.node (Answer (record { from = u; to = v; through = through }))
  pub emitted : (v : ℕ) → emitted_by v w2.emissions ≡ emitted_by v w.emissions ++ (out v).outs
  pub emitters : AllByRecursion (λ (e : Emission). e.node < g.nodes) w.emissions → AllByRecursion (λ (e : Emission). e.node < g.nodes) w2.emissions

module _ (g : Game) (put : Packet → Type 0) (w w2 : Cluster) (h : ℕ → List Turn) (made : HasMade g h w) (ran : RanToEnd g put w w2) where
  abbrev more : ℕ → List Turn
  more v = run_turns g put v (w.node v) (ran.events v) (ran.out v) (w2.node v) (ran.runs v)

  -- all turns in the end
  abbrev all : ℕ → List Turn
  all v = h v ++ more v

  -- which the nodes keep, whatever they took
  ends : (v : ℕ) → KeepsTurns v (all v) (w2.node v)
  ends v = run_keeps_turns g put v (h v) (w.node v) (ran.events v) (ran.out v) (w2.node v) (ran.runs v) (made.nodes v).turns

  inside : (v : ℕ) → v < g.nodes → v ≡ outside → ⊥
  inside v known e = let few = made.few in absurd (omega arith)

  -- so what may come in the end was sent and consumed
  sent : (m : Message) → MayCome g w2.node (Mail m) → IsSent g all m
  sent m p = record {
    number = p.number;
    stands =
        ap (λ ms. slice_get ms (m.number - 1)) (messages-node g all m.from m.to (inside m.from p.known) ∙ sym (ap (mails_to m.from m.to) (ends m.from) ∙ mails_to-sealed m.from m.to (all m.from)))
        ∙ p.stands;
  }

  heard : (a : Receipt) → MayCome g w2.node (Answer a) → a.through ≤ length (consumed a.to (all a.from))
  heard a p = omega (arith, p.1, ap (consumed_from a.to) (ends a.from) ∙ consumed-sealed a.to a.from (all a.from))

  -- a node before its run agrees with all turns
  before : (v : ℕ) → IsNodeOf g all v (h v) (emitted_by v w.emissions) (w.node v)
  before v =
      let is = made.nodes v in
      let consumed_later : (numbers : List ℕ) → AreConsumed g h v numbers → AreConsumed g all v numbers = λ numbers c. record { width = c.width; most = λ x. let was = c.most x in let later = consumed-more v (h x) (more x) in omega arith } in
      record {
        turns = is.turns;
        own = is.own;
        order = λ u. front-longer (consumed u (h v)) (messages g h u v) (messages g all u v) (is.order u) (messages-more g h more u v);
        value = is.value;
        covers = is.covers;
        acked = consumed_later (w.node v).sending.acked is.acked;
        retired = consumed_later (w.node v).turning.retired is.retired;
        legal = is.legal;
        emitted = is.emitted;
        retired_outs = is.retired_outs;
      }

  together : HasMade g all w2
  together = record {
    nodes = λ v. subst (λ os. IsNodeOf g all v (all v) os (w2.node v)) (sym (ran.emitted v))
        (run_keeps g put all v (λ m p. sent m (ran.took (Mail m) p)) (λ a p. heard a (ran.took (Answer a) p)) (h v) (emitted_by v w.emissions) (w.node v) (ran.events v) (ran.out v) (w2.node v) (ran.runs v) (before v));
    few = made.few;
    nobody = λ v le. ap (λ ts. ts ++ more v) (made.nobody v le) ∙ no_turns g put v (w.node v) (ran.out v) (w2.node v) (ran.events v) (ran.runs v) (ran.nobody v le);
    mail = λ u v number m e. let is = ran.mail u v number m e in (is.0, sent m is.1);
    answer = λ u v through e. heard (record { from = u; to = v; through = through }) (ran.answer u v through e);
    emitters = ran.emitters made.emitters;
  }

pub to_end : (g : Game) (put : Packet → Type 0) (w w2 : Cluster) → Accord g w → RanToEnd g put w w2 → Accord g w2
to_end g put w w2 accord ran = record { history = all g put w w2 accord.history accord.made ran; made = together g put w w2 accord.history accord.made ran }

pub runs_apart_keep_accord : RunsApartKeepAccord
runs_apart_keep_accord g w w2 accord ran = to_end g (MayCome g w2.node) w w2 accord (record { events = ran.events; out = ran.out; runs = ran.runs; nobody = ran.nobody; took = λ packet p. p; mail = ran.mail; answer = ran.answer; emitted = ran.emitted; emitters = ran.emitters })
