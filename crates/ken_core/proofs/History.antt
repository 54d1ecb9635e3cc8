-- A history of a group in accord is a legal schedule.
use Rattle.std.proofs.Common.{◌≡◌, ℕ, ◌*◌, ◌≤◌, List, [], map, length, Some, replicate, slice_index, zero, suc, refl, sym, ap, ◌∙◌, subst, arith}
use Rattle.std.proofs.lemmas.List.{length-replicate}
use Rattle.std.proofs.lemmas.Bool.{false≢true}
use Rattle.ken_model.specs.declared.reports.TurnLine.{TurnLine}
use Rattle.ken_model.specs.Game.{Game}
use Rattle.ken_model.specs.Limits.{IsWithinLimits}
use Rattle.ken_model.specs.Layout.{StandsFor, first_heap}
use Rattle.ken_model.specs.LayoutLaws.{FirstIsEmpty, ReadsWhatStands}
use Rattle.ken_model.specs.Reading.{read_value}
use Rattle.ken_model.specs.Network.{Place, Turn, empty_heap, first_place}
use Rattle.ken_model.specs.History.{messages, InAccord, IsHistory, AreTurns, place_of}
use Rattle.ken_model.specs.Emissions.{AreEmitted, emitted_by}
use Rattle.ken_model.specs.Laws.{IsPlayed, AgreementIsLegal}
use Rattle.ken_core.specs.Turns.{consumed_from, mails_to, effects_line, IsPlace}
use Rattle.ken_core.specs.Nodes.{heap_pages}
use Rattle.ken_core.specs.Clusters.{Cluster, IsHistoryOf}
use Rattle.ken_core.specs.Accord.{Accord}
use Rattle.ken_core.specs.Laws.{StartIsInAccord, IsPlayedBy, HistoryIsLegal}
use Rattle.ken_core.proofs.Numbers.{mails_to-sealed, consumed-sealed, IsPlace-sealed, effects_lines}
use Rattle.ken_core.proofs.Sent.{messages-node}
use Rattle.ken_cover.proofs.Keeps.{start_is_covered}

-- zeros
zero_at : (n x : ℕ) → slice_index (replicate n 0) x ≤ 0
zero_at zero x = omega arith
zero_at (suc n) zero = omega arith
zero_at (suc n) (suc x) = zero_at n x

-- the first heap has the pages of the game, and stands for the empty value
record IsFirst (g : Game) (n : ℕ) : Type 0 where
  size : length (first_heap n) ≡ 256 * n
  reads : read_value (first_heap n) ≡ Some (first_place g).value

first : (g : Game) → IsWithinLimits g → FirstIsEmpty → ReadsWhatStands → IsFirst g (heap_pages g)
first g limits empty reads =
    let n = limits.pages.0 in
    let all : heap_pages g ≡ n = omega (arith, limits.pages.3) in
    let stands : StandsFor (first_heap n) (empty_heap (256 * n)) = empty n limits.pages.1 limits.pages.2 in
    subst (IsFirst g) (sym all) (record { size = stands.size; reads = (reads (first_heap n) (empty_heap (256 * n))).1 stands ∙ ap (λ k. Some (empty_heap k)) (sym limits.pages.3) })

pub start_is_in_accord : FirstIsEmpty → ReadsWhatStands → StartIsInAccord
unfolding AreTurns AreEmitted
start_is_in_accord empty reads g limits =
    let f = first g limits empty reads in
    record {
      history = λ v. [];
      made = record {
        nodes = λ v. record {
          turns = refl;
          own = tt;
          order = λ u. (messages g (λ x. []) u v, refl);
          value = f.reads;
          covers = start_is_covered (heap_pages g) (first_heap (heap_pages g)) f.size;
          acked = record { width = length-replicate g.nodes 0; most = λ x. let z = zero_at g.nodes x in omega arith };
          retired = record { width = length-replicate g.nodes 0; most = λ x. let z = zero_at g.nodes x in omega arith };
          legal = tt;
          emitted = omega arith;
          retired_outs = omega arith;
        };
        few = omega (arith, limits.few_nodes);
        nobody = λ v le. refl;
        mail = λ u v number m e. absurd cc;
        answer = λ u v through e. absurd (false≢true e);
        emitters = tt;
      };
    }

module _ (g : Game) (w : Cluster) (lines : List TurnLine) (accord : Accord g w) (is : IsHistoryOf w lines) where
  abbrev h : ℕ → List Turn
  h = accord.history

  agrees : InAccord g h
  agrees = record {
    turns = λ v. (accord.made.nodes v).own;
    few = accord.made.few;
    nobody = accord.made.nobody;
    order = λ u v. (accord.made.nodes v).order u;
  }

  history : IsHistory h lines
  history = record { parts = λ v. is.parts v ∙ ap (map (effects_line v)) (accord.made.nodes v).turns ∙ effects_lines v (h v); rises = is.rises }

  plays : AgreementIsLegal → IsPlayedBy g w lines
  plays law =
      let p : IsPlayed g h lines = law g h lines agrees history in
      record {
        legal = p.legal;
        lines_are = p.lines_are;
        value = λ v. (accord.made.nodes v).value ∙ ap (λ (x : Place). Some x.value) (sym (p.shows.place v));
        place = λ v. subst (IsPlace (w.node v).turning.turns) (sym (p.shows.place v)) (subst (λ es. IsPlace es (place_of g (h v))) (sym (accord.made.nodes v).turns) (IsPlace-sealed g v (h v)));
        sent = λ u v node. ap (mails_to u v) (accord.made.nodes u).turns ∙ mails_to-sealed u v (h u) ∙ sym (messages-node g h u v node) ∙ sym (p.shows.sent u v);
        taken = λ u v. ap (consumed_from u) (accord.made.nodes v).turns ∙ consumed-sealed u v (h v) ∙ sym (p.shows.taken u v);
        emitted = λ v. subst (λ (x : Place). AreEmitted x.outs 0 (emitted_by v w.emissions)) (sym (p.shows.place v)) (accord.made.nodes v).legal;
        emitters = accord.made.emitters;
      }

pub history_is_legal : AgreementIsLegal → HistoryIsLegal
history_is_legal law g w lines accord is = plays g w lines accord is law
