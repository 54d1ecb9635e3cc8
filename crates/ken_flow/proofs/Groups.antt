-- The group of a run's nodes is in accord.
use Rattle.std.proofs.Common.{◌≡◌, ℕ, ◌-◌, ◌<◌, ◌≤◌, ◌≢◌, List, ◌++◌, length, Bool, true, false, ◌&&◌, if◌then◌else◌, nat_lt, nat_le, Contains, Some, None, IsTrue, slice_get, refl, sym, ap, ◌∙◌, subst, arith, eq-eqb, ne_eqb}
use Rattle.std.proofs.lemmas.Bool.{and_parts, and_from, ltb-true, lt-ltb, leb-true, le-leb}
use Rattle.ken_model.specs.declared.messages.Message.{Message}
use Rattle.ken_model.specs.Game.{Game}
use Rattle.ken_model.specs.History.{consumed, messages, sent_by}
use Rattle.ken_model.specs.Network.{Turn, outside}
use Rattle.ken_core.specs.Accord.{IsAt, IsSent, Accord}
use Rattle.ken_core.specs.Clusters.{Cluster, start, mail_after, answer_after, emissions_by, Changes}
use Rattle.ken_core.specs.Laws.{StartIsInAccord}
use Rattle.ken_core.specs.Nodes.{Node}
use Rattle.ken_core.specs.Runs.{NodeRun}
use Rattle.ken_core.specs.Turns.{consumed_from, mails_to}
use Rattle.ken_core.proofs.Calls.{call_keeps_accord}
use Rattle.ken_core.proofs.Numbers.{mails_to-sealed, consumed-sealed}
use Rattle.ken_core.proofs.Sent.{sent_at, messages-node}
use Rattle.ken_flow.specs.Groups.{sealed_mail, consumed_answer, group_of, with_node}
use Rattle.ken_flow.specs.Laws.{FirstIsInAccord, CallKeepsGroup}

-- a node of the run has sealed a mail with that number
pub record IsSealed (g : Game) (nodes : ℕ → Node) (u v number : ℕ) (m : Message) : Type 0 where
  pub known : u < g.nodes
  pub some : 0 < number
  pub stands : slice_get (mails_to u v (nodes u).turning.turns) (number - 1) ≡ Some m

-- a node of the run has consumed so many
pub record HasConsumed (g : Game) (nodes : ℕ → Node) (u v through : ℕ) : Type 0 where
  pub known : u < g.nodes
  pub most : through ≤ consumed_from v (nodes u).turning.turns

-- these are the mails and the acknowledgements of the group
module _ (g : Game) (nodes : ℕ → Node) (u v : ℕ) where
  pub sealed_from : (number : ℕ) (m : Message) → sealed_mail g nodes u v number ≡ Some m → IsSealed g nodes u v number m
  sealed_from number m e = by (nat_lt u g.nodes && nat_lt 0 number) refl e
    where
      by : (b : Bool) → (nat_lt u g.nodes && nat_lt 0 number) ≡ b → (if b then slice_get (mails_to u v (nodes u).turning.turns) (number - 1) else None) ≡ Some m → IsSealed g nodes u v number m
      by true is e = let both = and_parts (nat_lt u g.nodes) (nat_lt 0 number) is in record { known = ltb-true u g.nodes both.0; some = ltb-true 0 number both.1; stands = e }
      by false is e = absurd cc

  pub sealed_to : (number : ℕ) (m : Message) → IsSealed g nodes u v number m → sealed_mail g nodes u v number ≡ Some m
  sealed_to number m is =
      ap (λ b. if b then slice_get (mails_to u v (nodes u).turning.turns) (number - 1) else None)
      (and_from (nat_lt u g.nodes) (nat_lt 0 number) (lt-ltb u g.nodes is.known) (lt-ltb 0 number is.some))
      ∙ is.stands

  pub consumed_in : (through : ℕ) → IsTrue (consumed_answer g nodes u v through) → HasConsumed g nodes u v through
  consumed_in through e =
      let count = consumed_from v (nodes u).turning.turns in
      let both = and_parts (nat_lt u g.nodes) (nat_le through count) e in
      record { known = ltb-true u g.nodes both.0; most = leb-true through count both.1 }

  pub consumed_to : (through : ℕ) → HasConsumed g nodes u v through → IsTrue (consumed_answer g nodes u v through)
  consumed_to through is =
      let count = consumed_from v (nodes u).turning.turns in
      and_from (nat_lt u g.nodes) (nat_le through count) (lt-ltb u g.nodes is.known) (le-leb through count is.most)

-- the node that changed, and the others
pub with_node-same : (v : ℕ) (n : Node) (nodes : ℕ → Node) → with_node v n nodes v ≡ n
with_node-same v n nodes = rw (eq-eqb v v refl) refl

pub with_node-other : (v : ℕ) (n : Node) (nodes : ℕ → Node) (u : ℕ) → u ≢ v → with_node v n nodes u ≡ nodes u
with_node-other v n nodes u other = rw (ne_eqb u v other) refl

-- in accord, all that is sealed may count as put, and so may each acknowledgement through no more than is consumed
module _ (g : Game) (w : Cluster) (accord : Accord g w) where
  abbrev h : ℕ → List Turn
  h = accord.history

  pub sent_by_node : (u v : ℕ) → mails_to u v (w.node u).turning.turns ≡ sent_by u v 0 (h u)
  sent_by_node u v = ap (mails_to u v) (accord.made.nodes u).turns ∙ mails_to-sealed u v (h u)

  pub is_inside : (v : ℕ) → v < g.nodes → v ≢ outside
  is_inside v known out = let few = accord.made.few in absurd (omega arith)

  pub consumed_by_node : (u v : ℕ) → consumed_from v (w.node u).turning.turns ≡ length (consumed v (h u))
  consumed_by_node u v = ap (consumed_from v) (accord.made.nodes u).turns ∙ consumed-sealed v u (h u)

  sealed_is_sent : (u v number : ℕ) (m : Message) → IsSealed g w.node u v number m → IsAt u v number m × IsSent g h m
  sealed_is_sent u v number m is =
      let sent : slice_get (sent_by u v 0 (h u)) (number - 1) ≡ Some m = ap (λ ms. slice_get ms (number - 1)) (sym (sent_by_node u v)) ∙ is.stands in
      let at = sent_at u v 0 (h u) (number - 1) m sent in
      let counted : m.number ≡ number = omega (arith, at.counted, is.some) in (
        record { from = at.from; to = at.to; counted = counted },
        record {
          number = omega (arith, is.some);
          stands =
              ap (λ x. slice_get (messages g h x m.to) (m.number - 1)) at.from
              ∙ ap (λ x. slice_get (messages g h u x) (m.number - 1)) at.to
              ∙ ap (λ k. slice_get (messages g h u v) (k - 1)) counted
              ∙ ap (λ ms. slice_get ms (number - 1)) (messages-node g h u v (is_inside u is.known))
              ∙ sent;
        },
      )

  pub sealed_in_accord : Accord g (group_of g w.node w.emissions)
  sealed_in_accord = record {
    history = h;
    made = record {
      nodes = accord.made.nodes;
      few = accord.made.few;
      nobody = accord.made.nobody;
      mail = λ u v number m e. sealed_is_sent u v number m (sealed_from g w.node u v number m e);
      answer = λ u v through e. let is = consumed_in g w.node u v through e in omega (arith, is.most, consumed_by_node u v);
      emitters = accord.made.emitters;
    };
  }

pub first_is_in_accord : StartIsInAccord → FirstIsInAccord
first_is_in_accord law g limits = sealed_in_accord g (start g) (law g limits)

pub call_keeps_group : CallKeepsGroup
call_keeps_group g nodes emissions v given es out after accord known were run =
    let w = group_of g nodes emissions in
    let w2 : Cluster = record {
      node = with_node v after nodes;
      mail = λ from to number. mail_after from to number out.puts (w.mail from to number);
      answer = λ from to through. answer_after from to through out.puts (w.answer from to through);
      emissions = emissions ++ emissions_by v out.outs;
    } in
    let ran : NodeRun g (Contains given) v (nodes v) es out (with_node v after nodes v) = subst (NodeRun g (Contains given) v (nodes v) es out) (sym (with_node-same v after nodes)) run in
    let rest : Changes v out w w2 = record {
      others = with_node-other v after nodes;
      mail = λ from to number. refl;
      answer = λ from to through. refl;
      emissions = refl;
    } in
    sealed_in_accord g w2 (call_keeps_accord g w v given es out w2 accord known were ran rest)
