-- Runs of all nodes, in whatever order, keep accord.
use Rattle.std.proofs.Common.{◌≡◌, ℕ, ◌-◌, ◌≤◌, List, [], ◌∷◌, ◌++◌, length, slice_get, refl, sym, ap, ◌∙◌, subst, ⊎_elim, arith, append_assoc, append-nil}
use Rattle.ken_model.specs.declared.messages.Message.{Message}
use Rattle.ken_model.specs.declared.messages.Out.{Out}
use Rattle.ken_model.specs.Game.{Game}
use Rattle.ken_model.specs.Network.{Turn, outside}
use Rattle.ken_model.specs.History.{consumed, sent_by, messages}
use Rattle.ken_model.specs.Emissions.{emitted_by}
use Rattle.ken_core.specs.declared.events.Event.{Event}
use Rattle.ken_core.specs.Nodes.{Node}
use Rattle.ken_core.specs.Packets.{Packet, Mail, Answer, Receipt, Outgoing, nothing, outgoing}
use Rattle.ken_core.specs.Clusters.{Cluster}
use Rattle.ken_core.specs.Accord.{AreConsumed, IsNodeOf, IsSent, HasMade, Accord}
use Rattle.ken_core.specs.Runs.{NodeRun, IsPut, IsOut, Becomes}
use Rattle.ken_core.specs.Laws.{RunsKeepAccord}
use Rattle.ken_core.proofs.Sent.{messages-node, messages-more, messages-stands, front-longer, consumed-more}
use Rattle.ken_core.proofs.Made.{step_turns, run_turns, run_puts_true, no_put}
use Rattle.ken_core.proofs.Keeps.{step_keeps}

-- a run without events puts nothing and makes no turn
module _ (g : Game) (put : Packet → Type 0) (v : ℕ) (n : Node) (out : Outgoing) (n2 : Node) where
  puts_nothing : (es : List Event) → es ≡ [] → NodeRun g put v n es out n2 → out ≡ nothing
  puts_nothing [] e r = r.0
  puts_nothing (x ∷ es) e r = absurd cc

  pub no_turns : (es : List Event) (r : NodeRun g put v n es out n2) → es ≡ [] → run_turns g put v n es out n2 r ≡ []
  no_turns [] r e = refl
  no_turns (x ∷ es) r e = absurd cc

-- a run keeps what each event keeps
pub run_keeps : (g : Game) (put : Packet → Type 0) (h : ℕ → List Turn) (v : ℕ) → ((m : Message) → put (Mail m) → IsSent g h m) → ((a : Receipt) → put (Answer a) → a.through ≤ length (consumed a.to (h a.from)))
    → (ts : List Turn) (os : List Out) (n : Node) (es : List Event) (out : Outgoing) (n2 : Node) (r : NodeRun g put v n es out n2) → IsNodeOf g h v ts os n → IsNodeOf g h v (ts ++ run_turns g put v n es out n2 r) (os ++ out.outs) n2
run_keeps g put h v sent heard ts os n [] out n2 r is =
    subst (λ x. IsNodeOf g h v x (os ++ out.outs) n2) (sym (append-nil ts))
    (subst (λ x. IsNodeOf g h v ts x n2) (sym (ap (λ (o : Outgoing). os ++ o.outs) r.0 ∙ append-nil os)) (subst (λ x. IsNodeOf g h v ts os x) (sym r.1) is))
run_keeps g put h v sent heard ts os n (e ∷ es) out n2 r is =
    let one = step_turns g put v n e r.0 r.1.1.1 in
    let rest = run_turns g put v r.0 es r.1.0 n2 r.1.1.3 in
    let outs : (os ++ (outgoing v n e).outs) ++ r.1.0.outs ≡ os ++ out.outs = append_assoc os (outgoing v n e).outs r.1.0.outs ∙ ap (λ (o : Outgoing). os ++ o.outs) (sym r.1.1.2) in
    subst (λ x. IsNodeOf g h v (ts ++ (one ++ rest)) x n2) outs
    (subst (λ x. IsNodeOf g h v x ((os ++ (outgoing v n e).outs) ++ r.1.0.outs) n2) (append_assoc ts one rest)
    (run_keeps g put h v sent heard (ts ++ one) (os ++ (outgoing v n e).outs) r.0 es r.1.0 n2 r.1.1.3 (step_keeps g put h v sent heard ts os n e r.0 r.1.1.1 is)))

-- a run of each node over packets of which each was put before or in some run
pub record RanOver (g : Game) (put : Packet → Type 0) (w w2 : Cluster) : Type 0 where
  pub events : ℕ → List Event
  pub out : ℕ → Outgoing
  pub runs : (v : ℕ) → NodeRun g put v (w.node v) (events v) (out v) (w2.node v)
  pub nobody : (v : ℕ) → g.nodes ≤ v → events v ≡ []
  pub took : (packet : Packet) → put packet → IsOut w out packet
  pub rest : Becomes g out w w2

module _ (g : Game) (put : Packet → Type 0) (w w2 : Cluster) (h : ℕ → List Turn) (made : HasMade g h w) (ran : RanOver g put w w2) where
  abbrev more : ℕ → List Turn
  more v = run_turns g put v (w.node v) (ran.events v) (ran.out v) (w2.node v) (ran.runs v)

  -- all turns in the end
  abbrev all : ℕ → List Turn
  all v = h v ++ more v

  -- who puts a packet is a node
  is_node : (packet : Packet) (v : ℕ) → IsPut packet (ran.out v).puts → v ≡ outside → ⊥
  is_node packet v is e =
      let none : ran.events v ≡ [] = ran.nobody v (omega (arith, made.few)) in
      no_put packet (subst (λ (o : Outgoing). IsPut packet o.puts) (puts_nothing g put v (w.node v) (ran.out v) (w2.node v) (ran.events v) none (ran.runs v)) is)

  -- what was sent stays sent
  sent_before : (m : Message) → IsSent g h m → IsSent g all m
  sent_before m is = record { number = is.number; stands = messages-stands g h more m.from m.to (m.number - 1) m is.stands }

  sent_now : (v : ℕ) (m : Message) → IsPut (Mail m) (ran.out v).puts → IsSent g all m
  sent_now v m is =
      let by = run_puts_true g put v (h v) (w.node v) (ran.events v) (ran.out v) (w2.node v) (ran.runs v) (Mail m) (made.nodes v).turns is in
      let here : messages g all v m.to ≡ sent_by v m.to 0 (all v) = messages-node g all v m.to (is_node (Mail m) v is) in
      record { number = by.number; stands = ap (λ u. slice_get (messages g all u m.to) (m.number - 1)) by.from ∙ ap (λ ms. slice_get ms (m.number - 1)) here ∙ by.stands }

  answered_before : (u v through : ℕ) → through ≤ length (consumed v (h u)) → through ≤ length (consumed v (all u))
  answered_before u v through le = let later = consumed-more v (h u) (more u) in omega arith

  answered_now : (v : ℕ) (a : Receipt) → IsPut (Answer a) (ran.out v).puts → (a.from ≡ v) × (a.through ≤ length (consumed a.to (all v)))
  answered_now v a is =
      let by = run_puts_true g put v (h v) (w.node v) (ran.events v) (ran.out v) (w2.node v) (ran.runs v) (Answer a) (made.nodes v).turns is in
      (by.from, by.most)

  -- so all that a run took is true in the end
  sent : (m : Message) → put (Mail m) → IsSent g all m
  sent m p = ⊎_elim (λ before. sent_before m (made.mail m.from m.to m.number m before).1) (λ now. sent_now m.from m now) (ran.took (Mail m) p)

  heard : (a : Receipt) → put (Answer a) → a.through ≤ length (consumed a.to (all a.from))
  heard a p = ⊎_elim (λ before. answered_before a.from a.to a.through (made.answer a.from a.to a.through before)) (λ now. (answered_now a.from a now).1) (ran.took (Answer a) p)

  -- a node before its run agrees with all turns
  before : (v : ℕ) → IsNodeOf g all v (h v) (emitted_by v w.emissions) (w.node v)
  before v =
      let is = made.nodes v in
      let consumed_later : (numbers : List ℕ) → AreConsumed g h v numbers → AreConsumed g all v numbers = λ numbers c. record { width = c.width; most = λ x. let was = c.most x in let later = consumed-more v (h x) (more x) in omega arith } in
      record {
        turns = is.turns;
        own = is.own;
        order = λ u. front-longer (consumed u (h v)) (messages g h u v) (messages g all u v) (is.order u) (messages-more g h more u v);
        value = is.value;
        covers = is.covers;
        acked = consumed_later (w.node v).sending.acked is.acked;
        retired = consumed_later (w.node v).turning.retired is.retired;
        legal = is.legal;
        emitted = is.emitted;
        retired_outs = is.retired_outs;
      }

  together : HasMade g all w2
  together = record {
    nodes = λ v. subst (λ os. IsNodeOf g all v (all v) os (w2.node v)) (sym (ran.rest.emitted v))
        (run_keeps g put all v sent heard (h v) (emitted_by v w.emissions) (w.node v) (ran.events v) (ran.out v) (w2.node v) (ran.runs v) (before v));
    few = made.few;
    nobody = λ v le. ap (λ ts. ts ++ more v) (made.nobody v le) ∙ no_turns g put v (w.node v) (ran.out v) (w2.node v) (ran.events v) (ran.runs v) (ran.nobody v le);
    mail = λ u v number m e. ⊎_elim
        (λ was. let m0 = made.mail u v number m was in (m0.0, sent_before m m0.1))
        (λ now. (now.0, sent_now u m now.1))
        (ran.rest.mail u v number m e);
    answer = λ u v through e. ⊎_elim
        (λ was. answered_before u v through (made.answer u v through was))
        (λ now. (answered_now u (record { from = u; to = v; through = through }) now).1)
        (ran.rest.answer u v through e);
    emitters = ran.rest.emitters made.emitters;
  }

pub over_keep_accord : (g : Game) (put : Packet → Type 0) (w w2 : Cluster) → Accord g w → RanOver g put w w2 → Accord g w2
over_keep_accord g put w w2 accord ran = record { history = all g put w w2 accord.history accord.made ran; made = together g put w w2 accord.history accord.made ran }

pub runs_keep_accord : RunsKeepAccord
runs_keep_accord g w w2 accord ran = over_keep_accord g (IsOut w ran.out) w w2 accord (record { events = ran.events; out = ran.out; runs = ran.runs; nobody = ran.nobody; took = λ packet p. p; rest = ran.rest })
