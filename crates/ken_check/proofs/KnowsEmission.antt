-- What is known of a run and an emission line.
use Rattle.std.proofs.Common.{◌≡◌, ℕ, ◌+◌, ◌-◌, ◌<◌, ◌≤◌, ◌^◌, max, List, [], ◌∷◌, ◌++◌, get_or, true, Option, Some, None, option_map, slice_get, refl, sym, ap, ap₂, ◌∙◌, arith}
use Rattle.std.proofs.Math.ListN.{length-set}
use Rattle.std.specs.Vec.{with_item}
use Rattle.ken_model.specs.declared.messages.Out.{Out}
use Rattle.ken_model.specs.declared.reports.Emission.{Emission}
use Rattle.ken_model.specs.Game.{Game}
use Rattle.ken_model.specs.Emissions.{emitted_by, largest_of}
use Rattle.ken_model.specs.Report.{IsOneLine, line, emit_words}
use Rattle.ken_model.specs.Schedule.{play}
use Rattle.ken_model.specs.Spelling.{IsWord}
use Rattle.ken_check.specs.declared.checker.Checker.{Checker}
use Rattle.ken_check.specs.declared.known.Known.{Known}
use Rattle.ken_check.specs.Kinds.{IsEmissionLine, IsEmissionOf}
use Rattle.ken_check.specs.Knowing.{IsBeforeRestarts, Knows, KnowsNode}
use Rattle.ken_check.specs.Right.{AreEmissionsSoFar, Told}
use Rattle.ken_check.proofs.Kept.{count_of_nodes, known_of, known_with}
use Rattle.ken_check.proofs.More.{some_more}
use Rattle.ken_check.proofs.LastEmission.{IsNextEmission, emissions_last, emissions_more, emitted_by-other, largest_of-same, last_emitter-more, outputs_from-get}
use Rattle.ken_check.proofs.LineWords.{emission_text}

-- an output that was found has the number that it was looked for by
found_from : (i : ℕ) (found : Option (List ℕ)) (o : Out) → option_map (λ text. record { number = 0 + i + 1; text = text }) found ≡ Some o → (o.number ≡ i + 1) × (found ≡ Some o.text)
found_from i None o is = absurd cc
found_from i (Some text) o is =
    let one : Out = record { number = 0 + i + 1; text = text } in
    let same : one ≡ o = cc in
    let number = ap (λ (p : Out). p.number) same in
    (omega arith, ap (λ (p : Out). Some p.text) same)

-- the line of an output of a node
pub same_line : (e : Emission) (node : ℕ) (o : Out) → e.node ≡ node → e.out ≡ o → line (emit_words e) ≡ line (emit_words (record { node = node; out = o }))
same_line e node o nodes outs = ap₂ (λ v p. line (emit_words (record { node = v; out = p }))) nodes outs

module _ (g : Game) (most : ℕ) (c : Checker) (told : Told) (knows : Knows g most c told) where
  nodes_are : g.nodes ≡ c.facts.now.nodes
  nodes_are = count_of_nodes g most c told knows

  -- a right emission line names an output that may come next
  next_of : (text : List ℕ) (told2 : Told) (l : IsEmissionLine g told text told2) → IsNextEmission g told.schedule told.emissions l.emission
  next_of text told2 l = emissions_last g told.schedule told.emissions l.emission l.so_far

  pub small_node : (text : List ℕ) (told2 : Told) (l : IsEmissionLine g told text told2) → l.emission.node < 2 ^ 8
  small_node text told2 l = omega (arith, (next_of text told2 l).known, knows.limits.few_nodes)

  module _ (node number : ℕ) (text : List ℕ) (told2 : Told) (is : IsEmissionOf g node number told text told2) where
    next : IsNextEmission g told.schedule told.emissions is.0.emission
    next = next_of text told2 is.0

    pub names_node : (node < c.facts.now.nodes) × (c.emitter ≤ node)
    names_node = (omega (arith, nodes_are, next.known, is.1), omega (arith, knows.emitter, next.after, is.1))

    module _ (k : Known) (at : k ≡ get_or c.nodes.items node k) where
      kept : KnowsNode g told node k
      kept = known_of g most c told knows node k (omega (arith, nodes_are, names_node.0)) at

      pub names_number : (0 < number) × (number ≤ k.emitted + 1)
      names_number =
          let largest = ap (λ v. largest_of 0 (emitted_by v told.emissions)) is.1 in
          (omega (arith, next.out.some, is.2), omega (arith, next.out.next, is.2, kept.emitted, largest))

      pub names_out : slice_get k.outs.items (number - 1) ≡ Some is.0.emission.out
      names_out =
          let e = is.0.emission in
          let outs = λ (v : ℕ). ((play g told.schedule).place v).outs in
          let text_at = ap (λ v. slice_get (outs v) (number - 1)) (sym is.1) ∙ ap (λ n. slice_get (outs e.node) (n - 1)) (sym is.2) ∙ next.out.text in
          let count : 0 + (number - 1) + 1 ≡ e.out.number = omega (arith, names_number.0, is.2) in
          ap (λ os. slice_get os (number - 1)) kept.outs
          ∙ outputs_from-get 0 (outs node) (number - 1)
          ∙ ap (option_map (λ t. record { number = 0 + (number - 1) + 1; text = t })) text_at
          ∙ ap (λ n. Some (record { number = n; text = e.out.text })) count

  -- an output that was found may come next
  module _ (e : Emission) (number : ℕ) (k : Known) (few : e.node < c.facts.now.nodes) (after : c.emitter ≤ e.node) (at : k ≡ get_or c.nodes.items e.node k)
      (some : 0 < number) (more : number ≤ k.emitted + 1) (found : slice_get k.outs.items (number - 1) ≡ Some e.out) where
    kept_of : KnowsNode g told e.node k
    kept_of = known_of g most c told knows e.node k (omega (arith, nodes_are, few)) at

    out_found : (e.out.number ≡ number - 1 + 1) × (slice_get ((play g told.schedule).place e.node).outs (number - 1) ≡ Some e.out.text)
    out_found =
        let outs = ((play g told.schedule).place e.node).outs in
        let from = sym (outputs_from-get 0 outs (number - 1)) ∙ ap (λ os. slice_get os (number - 1)) (sym kept_of.outs) ∙ found in
        found_from (number - 1) (slice_get outs (number - 1)) e.out from

    numbered : e.out.number ≡ number
    numbered = omega (arith, out_found.0, some)

    is_next : IsNextEmission g told.schedule told.emissions e
    is_next = record {
      known = omega (arith, nodes_are, few);
      after = omega (arith, knows.emitter, after);
      out = record {
        some = omega (arith, numbered, some);
        next = omega (arith, numbered, more, kept_of.emitted);
        text = ap (λ n. slice_get ((play g told.schedule).place e.node).outs (n - 1)) numbered ∙ out_found.1;
      };
    }

    so_far : AreEmissionsSoFar g told.schedule (told.emissions ++ e ∷ [])
    so_far = emissions_more g told.schedule told.emissions e knows.emissions is_next

    -- its line is right
    pub is_right : (text : List ℕ) → IsBeforeRestarts c → IsWord e.node → IsWord number → IsOneLine text → text ++ 10 ∷ [] ≡ line (emit_words e)
        → IsEmissionOf g e.node number told (text ++ 10 ∷ []) (record told { emissions = told.emissions ++ e ∷ [] })
    is_right text before word small one spelled = (
      record {
        emission = e;
        comes = record { open_yet = sym knows.ended ∙ before.open_yet; heaps = sym knows.heaps ∙ before.heaps; restarts = knows.no_restart.0 before.no_restart };
        so_far = so_far;
        printable = record { node = word; number = omega (arith, numbered, small); text = emission_text text e one spelled };
        text = spelled;
        tells = refl;
      },
      refl,
      numbered,
    )

    -- and what it told is known too
    module _ (i m : ℕ) (place : i ≡ e.node) (largest : m ≡ max k.emitted number) where
      own : KnowsNode g (record told { emissions = told.emissions ++ e ∷ [] }) e.node (record k { emitted = m })
      own =
          let before = largest_of 0 (emitted_by e.node told.emissions) in
          record {
            outs = kept_of.outs;
            turns = kept_of.turns;
            few = kept_of.few;
            came = kept_of.came;
            emitted = largest ∙ ap (λ n. max n number) kept_of.emitted ∙ ap (max before) (sym numbered) ∙ sym (largest_of-same told.emissions e);
            restarts = kept_of.restarts;
            recovered = kept_of.recovered;
          }

      others : (v : ℕ) → (v ≡ e.node → ⊥) → v < g.nodes → (none : Known) → KnowsNode g (record told { emissions = told.emissions ++ e ∷ [] }) v (get_or c.nodes.items v none)
      others v other known none =
          let before = knows.each v known none in
          record {
            outs = before.outs;
            turns = before.turns;
            few = before.few;
            came = before.came;
            emitted = before.emitted ∙ ap (largest_of 0) (sym (emitted_by-other v told.emissions e other));
            restarts = before.restarts;
            recovered = before.recovered;
          }

      pub is_known : (now : Checker) → Knows g most
          (record c { nodes = with_item c.nodes i (record k { emitted = m }); emitter = e.node; has_emissions = true; buffer = now.buffer })
          (record told { emissions = told.emissions ++ e ∷ [] })
      is_known now =
          let told2 : Told = record told { emissions = told.emissions ++ e ∷ [] } in
          let kept2 : Known = record k { emitted = m } in
          record {
            game = knows.game;
            limits = knows.limits;
            limit = knows.limit;
            width = length-set c.nodes.items i kept2 ∙ knows.width;
            each = known_with g most c told knows told2 e.node i kept2 place own others;
            turns = knows.turns;
            only = knows.only;
            legal = knows.legal;
            no_emission = (λ is. absurd cc, λ is. absurd (some_more told.emissions e is));
            emitter = sym (last_emitter-more 0 told.emissions e);
            emissions = so_far;
            no_restart = knows.no_restart;
            restarted = knows.restarted;
            restarts = knows.restarts;
            heaps = knows.heaps;
            ended = knows.ended;
          }
