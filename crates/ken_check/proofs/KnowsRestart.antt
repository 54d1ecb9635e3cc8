-- What is known of a run and a restart line.
use Rattle.std.proofs.Common.{◌≡◌, ℕ, ◌+◌, ◌<◌, ◌≤◌, ◌^◌, List, [], ◌∷◌, ◌++◌, length, get_or, true, refl, sym, ap, ◌∙◌, subst, arith}
use Rattle.std.proofs.Math.ListN.{length-set}
use Rattle.std.specs.Vec.{with_item}
use Rattle.ken_model.specs.declared.reports.RestartLine.{RestartLine}
use Rattle.ken_model.specs.Game.{Game}
use Rattle.ken_model.specs.Report.{line, restart_words}
use Rattle.ken_model.specs.Spelling.{IsWord}
use Rattle.ken_check.specs.declared.checker.Checker.{Checker}
use Rattle.ken_check.specs.declared.known.Known.{Known}
use Rattle.ken_check.specs.Counts.{IsAllowed}
use Rattle.ken_check.specs.Kinds.{IsRestartLine, IsRestartOf}
use Rattle.ken_check.specs.Knowing.{IsBeforeHeaps, Knows, KnowsNode, last_of}
use Rattle.ken_check.specs.Right.{AreRestartsSoFar, Told}
use Rattle.ken_check.proofs.Kept.{count_of_nodes, known_of, known_with}
use Rattle.ken_check.proofs.More.{some_more}
use Rattle.ken_check.proofs.LastRestart.{IsNextRestart, restarts_last, restarts_more, restarts_of-other, count-same, last-same, last_restarted-more}

module _ (g : Game) (most : ℕ) (c : Checker) (told : Told) (knows : Knows g most c told) where
  nodes_are : g.nodes ≡ c.facts.now.nodes
  nodes_are = count_of_nodes g most c told knows

  -- a right restart line names a restart that may come next
  next_of : (text : List ℕ) (told2 : Told) (l : IsRestartLine g most told text told2) → IsNextRestart g most told.schedule told.restarts l.restart
  next_of text told2 l = restarts_last g most told.schedule told.restarts l.restart l.so_far

  pub small_node : (text : List ℕ) (told2 : Told) (l : IsRestartLine g most told text told2) → l.restart.node < 2 ^ 8
  small_node text told2 l = omega (arith, (next_of text told2 l).known, knows.limits.few_nodes)

  module _ (r : RestartLine) (text : List ℕ) (told2 : Told) (is : IsRestartOf g most r told text told2) where
    next : IsNextRestart g most told.schedule told.restarts r
    next = subst (IsNextRestart g most told.schedule told.restarts) is.1 (next_of text told2 is.0)

    pub names_node : (r.node < c.facts.now.nodes) × (c.restarted ≤ r.node)
    names_node = (omega (arith, nodes_are, next.known), omega (arith, knows.restarted, next.after))

    pub names_turns : (k : Known) → k ≡ get_or c.nodes.items r.node k → IsAllowed c.most r.turns k
    names_turns k at =
        let kept = known_of g most c told knows r.node k next.known at in
        record {
          few = omega (arith, kept.restarts, next.few, knows.limit);
          from = omega (arith, kept.recovered, next.from);
          to = omega (arith, kept.turns, next.to);
        }

  -- a restart that passes these tests may come next
  module _ (r : RestartLine) (k : Known) (few : r.node < c.facts.now.nodes) (after : c.restarted ≤ r.node) (at : k ≡ get_or c.nodes.items r.node k) (allowed : IsAllowed c.most r.turns k) where
    kept : KnowsNode g told r.node k
    kept = known_of g most c told knows r.node k (omega (arith, nodes_are, few)) at

    is_next : IsNextRestart g most told.schedule told.restarts r
    is_next = record {
      known = omega (arith, nodes_are, few);
      after = omega (arith, knows.restarted, after);
      few = omega (arith, kept.restarts, allowed.few, knows.limit);
      from = omega (arith, kept.recovered, allowed.from);
      to = omega (arith, kept.turns, allowed.to);
    }

    so_far : AreRestartsSoFar g most told.schedule (told.restarts ++ r ∷ [])
    so_far = restarts_more g most told.schedule told.restarts r knows.restarts is_next

    -- its line is right
    pub is_right : (text : List ℕ) → IsBeforeHeaps c → IsWord r.node × IsWord r.turns → text ++ 10 ∷ [] ≡ line (restart_words r)
        → IsRestartOf g most r told (text ++ 10 ∷ []) (record told { restarts = told.restarts ++ r ∷ [] })
    is_right text before small spelled = (
      record {
        restart = r;
        comes = record { open_yet = sym knows.ended ∙ before.open_yet; heaps = sym knows.heaps ∙ before.heaps };
        so_far = so_far;
        printable = small;
        text = spelled;
        tells = refl;
      },
      refl,
    )

    -- and what it told is known too
    own : KnowsNode g (record told { restarts = told.restarts ++ r ∷ [] }) r.node (record k { restarts = k.restarts + 1; recovered = r.turns })
    own = record {
      outs = kept.outs;
      turns = kept.turns;
      few = kept.few;
      came = kept.came;
      emitted = kept.emitted;
      restarts = ap (λ n. n + 1) kept.restarts ∙ sym (count-same told.restarts r);
      recovered = sym (last-same told.restarts r);
    }

    others : (v : ℕ) → (v ≡ r.node → ⊥) → v < g.nodes → (none : Known) → KnowsNode g (record told { restarts = told.restarts ++ r ∷ [] }) v (get_or c.nodes.items v none)
    others v other known none =
        let before = knows.each v known none in
        let same = sym (restarts_of-other v told.restarts r other) in
        record {
          outs = before.outs;
          turns = before.turns;
          few = before.few;
          came = before.came;
          emitted = before.emitted;
          restarts = before.restarts ∙ ap length same;
          recovered = before.recovered ∙ ap (last_of 0) same;
        }

    pub is_known : (i : ℕ) → i ≡ r.node → (now : Checker) → Knows g most
        (record c { nodes = with_item c.nodes i (record k { restarts = k.restarts + 1; recovered = r.turns }); restarted = r.node; has_restarts = true; buffer = now.buffer })
        (record told { restarts = told.restarts ++ r ∷ [] })
    is_known i place now =
        let told2 : Told = record told { restarts = told.restarts ++ r ∷ [] } in
        let kept2 : Known = record k { restarts = k.restarts + 1; recovered = r.turns } in
        record {
          game = knows.game;
          limits = knows.limits;
          limit = knows.limit;
          width = length-set c.nodes.items i kept2 ∙ knows.width;
          each = known_with g most c told knows told2 r.node i kept2 place own others;
          turns = knows.turns;
          only = knows.only;
          legal = knows.legal;
          no_emission = knows.no_emission;
          emitter = knows.emitter;
          emissions = knows.emissions;
          no_restart = (λ is. absurd cc, λ is. absurd (some_more told.restarts r is));
          restarted = sym (last_restarted-more 0 told.restarts r);
          restarts = so_far;
          heaps = knows.heaps;
          ended = knows.ended;
        }
