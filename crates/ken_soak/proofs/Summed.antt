-- What a run of a soak script comes to: counted totals are those of its nodes, so their summary is the one of the seed.
use Rattle.std.proofs.Common.{◌≡◌, ℕ, ◌+◌, ◌<◌, ◌≤◌, ◌^◌, List, [], ◌∷◌, length, map, get_or, Bool, true, false, ◌==◌, if◌then◌else◌, Option, refl, sym, ap, subst, ◌∙◌, arith, eq-eqb, eqb-true, true≢false}
use Rattle.std.specs.List.{count_by}
use Rattle.std.proofs.lemmas.List.{ext_get_or, get_or-map, length-map}
use Rattle.std.proofs.lemmas.List.FromFn.{get_or-map-range_with_len, length-map-range_with_len}
use Rattle.std.proofs.lemmas.List.Sums.{sum_by-cons}
use Rattle.ken_model.specs.declared.facts.TheConstants.{MAX_INPUTS, MAX_NODES}
use Rattle.ken_model.specs.declared.messages.Step.{Step}
use Rattle.ken_model.specs.declared.reports.Ending.{Ending}
use Rattle.ken_model.specs.declared.reports.Ending.TheVariants.{Settled, Cut}
use Rattle.ken_model.specs.declared.reports.Lines.{Lines}
use Rattle.ken_model.specs.declared.reports.TurnLine.{TurnLine}
use Rattle.ken_model.specs.Ending.{Ends, IsCut, IsSettled, nodes_of}
use Rattle.ken_model.specs.declared.reports.Emission.{Emission}
use Rattle.ken_model.specs.Game.{Game}
use Rattle.ken_model.specs.Laws.{steps_of}
use Rattle.ken_model.specs.Network.{Network, applied, applied_or_same, place_after, start, stepped}
use Rattle.ken_model.specs.Report.{lines_of}
use Rattle.ken_model.specs.Schedule.{IsLegalFrom, play, played}
use Rattle.ken_model.specs.Kinds.{handler_of}
use Rattle.ken_script.specs.declared.scripts.Script.{Script}
use Rattle.ken_store.specs.declared.disks.Disks.{Disks}
use Rattle.ken_drive.specs.Driven.{HasDriven, Views}
use Rattle.ken_drive.specs.Ended.{IsRunOf}
use Rattle.ken_gen.specs.declared.soaks.NodeTotal.{NodeTotal}
use Rattle.ken_gen.specs.SoakLaws.{IsSoaked, soak_game}
use Rattle.ken_gen.specs.Summary.{all_roots, all_turns, summary, summary_of, totals_in}
use Rattle.ken_gen.proofs.Soaked.{soaks_come_out}
use Rattle.ken_gen.specs.Generated.{script_of}
use Rattle.ken_soak.specs.Soaking.{HasSoaked}
use Rattle.ken_soak.specs.Totals.{AreTotalsOf, at_root, turns_at}

-- ---- a node has a turn for each of its steps

abbrev is_at : ℕ → Step → Bool
is_at v s = s.node == v

turns-played : (g : Game) (v : ℕ) (w : Network) (stamp node : ℕ) (ss : List Step) → IsLegalFrom g w stamp node ss → ((played g w ss).place v).turns ≡ (w.place v).turns + count_by (is_at v) ss
unfolding played IsLegalFrom
turns-played g v w stamp node [] legal = omega arith
turns-played g v w stamp node (s ∷ ss) legal =
    let next : stepped g w s ≡ applied w s legal.0 = ap (applied_or_same w s) legal.1 in
    let rest = turns-played g v (applied w s legal.0) legal.0.stamp s.node ss legal.4 in
    let here = by (v == s.node) (s.node == v) refl refl in
    ap (λ x. ((played g x ss).place v).turns) next ∙ omega (arith, rest, here, sum_by-cons (λ x. if is_at v x then 1 else 0) s ss)
  where
    by : (b c : Bool) → (v == s.node) ≡ b → (s.node == v) ≡ c → (if b then place_after (w.place v) legal.0 else w.place v).turns ≡ (w.place v).turns + (if c then 1 else 0)
    by true true is other = refl
    by false false is other = omega arith
    by true false is other = absurd (true≢false (sym (eq-eqb s.node v (sym (eqb-true v s.node is))) ∙ other))
    by false true is other = absurd (true≢false (sym (eq-eqb v s.node (sym (eqb-true s.node v other))) ∙ is))

steps-counted : (v : ℕ) (turns : List TurnLine) → count_by (is_at v) (steps_of turns) ≡ turns_at v turns
steps-counted v [] = refl
steps-counted v (t ∷ ts) =
    omega (arith, sum_by-cons (λ x. if is_at v x then 1 else 0) t.step (steps_of ts), sum_by-cons (λ (x : TurnLine). if x.step.node == v then 1 else 0) t ts, steps-counted v ts)

-- ---- counted totals are those of the nodes

module _ (g : Game) (l : Lines) (totals : List NodeTotal) (run : IsRunOf g l) (counted : AreTotalsOf l totals) where
  abbrev net : Network
  net = play g (steps_of l.turns)

  heaps-are : l.heaps ≡ map (λ v. (net.place v).value) (nodes_of g)
  unfolding lines_of
  heaps-are = ap (λ (x : Lines). x.heaps) run.lines

  width : length l.heaps ≡ g.nodes
  width = ap length heaps-are ∙ length-map-range_with_len (λ v. (net.place v).value) 0 g.nodes

  each : (v : ℕ) (none : NodeTotal) → v < g.nodes → get_or totals v none ≡ record { turns = (net.place v).turns; root = (net.place v).value.root }
  each v none known =
      let heap : get_or l.heaps v (net.place v).value ≡ (net.place v).value = ap (λ hs. get_or hs v (net.place v).value) heaps-are ∙ get_or-map-range_with_len (λ u. (net.place u).value) 0 g.nodes v v (net.place v).value known (omega arith) in
      let old : get_or (map at_root l.heaps) v none ≡ at_root (net.place v).value = get_or-map at_root l.heaps v (net.place v).value none (omega (arith, width, known)) ∙ ap at_root heap in
      let turns : 0 + turns_at v l.turns ≡ (net.place v).turns = omega (arith, turns-played g v (start g) 0 0 (steps_of l.turns) run.legal, steps-counted v l.turns) in
      counted.each v (omega (arith, width, known, length-map l.heaps at_root)) none
      ∙ ap (λ (t : NodeTotal). record t { turns = t.turns + turns_at v l.turns }) old
      ∙ ap (λ n. record { turns = n; root = (net.place v).value.root }) turns

  pub totals-are : totals ≡ totals_in g net
  totals-are =
      let total : ℕ → NodeTotal = λ v. record { turns = (net.place v).turns; root = (net.place v).value.root } in
      let wide : length totals ≡ g.nodes = counted.width ∙ length-map l.heaps at_root ∙ width in
      ext_get_or (total 0) totals (totals_in g net) (wide ∙ sym (length-map-range_with_len total 0 g.nodes))
      (λ v known. each v (total 0) (omega (arith, wide, known)) ∙ sym (get_or-map-range_with_len total 0 g.nodes v v (total 0) (omega (arith, wide, known)) (omega arith)))

-- ---- so their summary is the seed's

-- the run of a script that was made, as that of the definition
pub driven_by : {D O U : Type 0} (views : Views D O U) (rounds : ℕ) (kept : ℕ → Option (Disks D × O × U)) (l : Lines) (script made : Script) → script ≡ made → HasDriven views (handler_of script.facts.kind) script rounds kept l
    → HasDriven views (handler_of made.facts.kind) made rounds kept l
driven_by views rounds kept l script made same driven = subst (λ (s : Script). HasDriven views (handler_of s.facts.kind) s rounds kept l) same driven

-- a run that can't be cut has settled
settled_by : (g : Game) (w : Network) (es : List Emission) (ending : Ending) → Ends g w es ending → (IsCut g w → ⊥) → (ending ≡ Settled) × IsSettled w
settled_by g w es Settled ends not_cut = (refl, ends.1)
settled_by g w es Cut ends not_cut = absurd (not_cut ends.1)

module _ (seed nodes inputs : ℕ) (some : 0 < nodes) (few_nodes : nodes ≤ MAX_NODES) (few_inputs : inputs ≤ MAX_INPUTS) (l : Lines) (run : IsRunOf (soak_game seed nodes inputs) l) where
  soaked : IsSoaked seed nodes inputs (play (soak_game seed nodes inputs) (steps_of l.turns))
  soaked = soaks_come_out seed nodes inputs (steps_of l.turns) some few_nodes few_inputs run.legal

  ended : (l.ending ≡ Settled) × IsSettled (play (soak_game seed nodes inputs) (steps_of l.turns))
  ended = settled_by (soak_game seed nodes inputs) (play (soak_game seed nodes inputs) (steps_of l.turns)) l.emissions l.ending run.ends soaked.not_cut

  pub has_settled : l.ending ≡ Settled
  has_settled = ended.0

  module _ (totals : List NodeTotal) (counted : AreTotalsOf l totals) where
    same : totals ≡ totals_in (soak_game seed nodes inputs) (play (soak_game seed nodes inputs) (steps_of l.turns))
    same = totals-are (soak_game seed nodes inputs) l totals run counted

    pub few_turns : all_turns totals < 2 ^ 64
    few_turns = omega (arith, ap all_turns same, soaked.few_turns ended.1)

    pub small_roots : all_roots totals < 2 ^ 64
    small_roots = omega (arith, ap all_roots same, soaked.small_roots ended.1)

    pub sums_up : summary_of seed inputs totals ≡ summary seed nodes inputs
    sums_up = ap (summary_of seed inputs) same ∙ soaked.told ended.1

-- a run of the script that was made has settled
pub soaked_by : {D O U : Type 0} (views : Views D O U) (kept : ℕ → Option (Disks D × O × U)) (seed nodes inputs rounds : ℕ) (l : Lines) (script : Script) → 0 < nodes → nodes ≤ MAX_NODES → inputs ≤ MAX_INPUTS
    → script ≡ script_of seed nodes inputs rounds → HasDriven views (handler_of script.facts.kind) script rounds kept l → HasSoaked views kept seed nodes inputs rounds
soaked_by views kept seed nodes inputs rounds l script some few_nodes few_inputs made drives =
    let driven = driven_by views rounds kept l script (script_of seed nodes inputs rounds) made drives in
    record { lines = l; driven = driven; settled = has_settled seed nodes inputs some few_nodes few_inputs l driven.run }
