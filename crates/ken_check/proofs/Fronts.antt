-- Fronts of what is told in a right order are in a right order.
use Rattle.std.proofs.Common.{◌≡◌, ℕ, ◌<◌, ◌≤◌, max, List, [], ◌∷◌, ◌++◌, length, ap, ◌∙◌, subst, arith, length-append}
use Rattle.std.specs.List.{AllByRecursion}
use Rattle.std.proofs.lemmas.List.{map-append}
use Rattle.std.proofs.lemmas.List.Elements.{filter-append}
use Rattle.ken_model.specs.declared.messages.Out.{Out}
use Rattle.ken_model.specs.declared.messages.Step.{Step}
use Rattle.ken_model.specs.declared.reports.Emission.{Emission}
use Rattle.ken_model.specs.declared.reports.RestartLine.{RestartLine}
use Rattle.ken_model.specs.Game.{Game}
use Rattle.ken_model.specs.Emissions.{AreByNode, AreEmitted, emitted_by}
use Rattle.ken_model.specs.Restarts.{AreRestartsByNode, NeverFall, restarts_of}
use Rattle.ken_model.specs.Schedule.{play}
use Rattle.ken_check.specs.Right.{AreEmissionsSoFar, AreRestartsSoFar}

all_front : {X : Type 0} (P : X → Type 0) (xs ys : List X) → AllByRecursion P (xs ++ ys) → AllByRecursion P xs
all_front P [] ys all = tt
all_front P (x ∷ xs) ys all = (all.0, all_front P xs ys all.1)

AreByNode-front : (node : ℕ) (es fs : List Emission) → AreByNode node (es ++ fs) → AreByNode node es
unfolding AreByNode
AreByNode-front node [] fs is = tt
AreByNode-front node (e ∷ es) fs is = (is.0, AreByNode-front e.node es fs is.1)

AreEmitted-front : (outs : List (List ℕ)) (largest : ℕ) (os ps : List Out) → AreEmitted outs largest (os ++ ps) → AreEmitted outs largest os
unfolding AreEmitted
AreEmitted-front outs largest [] ps are = tt
AreEmitted-front outs largest (o ∷ os) ps are = (are.0, are.1, are.2, AreEmitted-front outs (max largest o.number) os ps are.3)

pub emitted_by-append : (v : ℕ) (es fs : List Emission) → emitted_by v (es ++ fs) ≡ emitted_by v es ++ emitted_by v fs
emitted_by-append v es fs = simp (filter-append, map-append)

AreRestartsByNode-front : (nodes node : ℕ) (rs ss : List RestartLine) → AreRestartsByNode nodes node (rs ++ ss) → AreRestartsByNode nodes node rs
unfolding AreRestartsByNode
AreRestartsByNode-front nodes node [] ss are = tt
AreRestartsByNode-front nodes node (r ∷ rs) ss are = (are.0, are.1, AreRestartsByNode-front nodes r.node rs ss are.2)

NeverFall-least : (low : ℕ) (xs : List ℕ) (high : ℕ) → NeverFall low xs high → low ≤ high
NeverFall-least low [] high rise = rise
NeverFall-least low (x ∷ xs) high rise = let rest = NeverFall-least x xs high rise.1 in omega (arith, rise.0)

NeverFall-front : (low : ℕ) (xs ys : List ℕ) (high : ℕ) → NeverFall low (xs ++ ys) high → NeverFall low xs high
NeverFall-front low [] ys high rise = NeverFall-least low ys high rise
NeverFall-front low (x ∷ xs) ys high rise = (rise.0, NeverFall-front x xs ys high rise.1)

pub restarts_of-append : (v : ℕ) (rs ss : List RestartLine) → restarts_of v (rs ++ ss) ≡ restarts_of v rs ++ restarts_of v ss
restarts_of-append v rs ss = simp (filter-append, map-append)

module _ (g : Game) (schedule : List Step) where
  pub no_emissions : AreEmissionsSoFar g schedule []
  unfolding AreByNode AreEmitted
  no_emissions = record { known = tt; by_node = tt; each = λ v known. tt }

  pub emissions_front : (es fs : List Emission) → AreEmissionsSoFar g schedule (es ++ fs) → AreEmissionsSoFar g schedule es
  emissions_front es fs are = record {
    known = all_front (λ (e : Emission). e.node < g.nodes) es fs are.known;
    by_node = AreByNode-front 0 es fs are.by_node;
    each = λ v known.
        let outs = ((play g schedule).place v).outs in
        AreEmitted-front outs 0 (emitted_by v es) (emitted_by v fs) (subst (AreEmitted outs 0) (emitted_by-append v es fs) (are.each v known));
  }

  module _ (most : ℕ) where
    pub no_restarts : AreRestartsSoFar g most schedule []
    unfolding AreRestartsByNode
    no_restarts = record { by_node = tt; few = λ v known. omega arith; rise = λ v known. omega arith }

    pub restarts_front : (rs ss : List RestartLine) → AreRestartsSoFar g most schedule (rs ++ ss) → AreRestartsSoFar g most schedule rs
    restarts_front rs ss are = record {
      by_node = AreRestartsByNode-front g.nodes 0 rs ss are.by_node;
      few = λ v known.
          let whole = ap length (restarts_of-append v rs ss) ∙ length-append (restarts_of v rs) (restarts_of v ss) in
          omega (arith, are.few v known, whole);
      rise = λ v known.
          let high = ((play g schedule).place v).turns in
          NeverFall-front 0 (restarts_of v rs) (restarts_of v ss) high (subst (λ (xs : List ℕ). NeverFall 0 xs high) (restarts_of-append v rs ss) (are.rise v known));
    }
