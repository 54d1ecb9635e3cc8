-- A turnover: the numbers that it retires, and what it makes of the group.
use Rattle.std.proofs.Common.{◌≡◌, ℕ, zero, suc, ◌*◌, ◌<◌, ◌≤◌, ◌^◌, max, List, [], ◌∷◌, length, slice_get, slice_set, slice_index, Some, Bool, true, false, IsTrue, refl, sym, ap, ◌∙◌, subst, arith}
use Rattle.ken_model.specs.declared.reports.Emission.{Emission}
use Rattle.ken_model.specs.Game.{Game}
use Rattle.ken_cover.specs.Covers.{Covers}
use Rattle.ken_cover.proofs.Keeps.{down_keeps_coverage, turnover_keeps_coverage}
use Rattle.ken_core.specs.declared.events.Event.TheVariants.{Turnover}
use Rattle.ken_core.specs.declared.events.Outcome.{Outcome}
use Rattle.ken_core.specs.declared.events.Outcome.TheVariants.{Whole, Landed, Lost}
use Rattle.ken_core.specs.declared.events.Told.{Told}
use Rattle.ken_core.specs.declared.machine.Machine.{Machine}
use Rattle.ken_core.specs.Nodes.{Node, heap_pages}
use Rattle.ken_core.specs.Enabled.{MayTurn}
use Rattle.ken_core.specs.Steps.{raised, turnover_node}
use Rattle.ken_core.specs.Machines.{turn_pages, image_pages}
use Rattle.ken_core.specs.Groups.{node_in, AreKept}
use Rattle.ken_core.specs.Turnovers.{TurnsOver, MayNotTurn}
use Rattle.ken_core.proofs.Moves.{barred}
use Rattle.ken_core.proofs.Repaged.{IsPlayed, renoded_played, unmoved_kept}

pub raised_length : (xs ys : List ℕ) → length (raised xs ys) ≡ length xs
raised_length [] ys = refl
raised_length (x ∷ xs) [] = refl
raised_length (x ∷ xs) (y ∷ ys) = ap suc (raised_length xs ys)

pub raised_at : (xs ys : List ℕ) → length ys ≡ length xs → (k : ℕ) → slice_index (raised xs ys) k ≡ max (slice_index xs k) (slice_index ys k)
raised_at [] [] same k = omega arith
raised_at [] (y ∷ ys) same k = absurd (omega arith)
raised_at (x ∷ xs) [] same k = absurd (omega arith)
raised_at (x ∷ xs) (y ∷ ys) same zero = refl
raised_at (x ∷ xs) (y ∷ ys) same (suc k) = raised_at xs ys (omega arith) k

-- a heap has few pages
pub few_pages : (g : Game) (n : ℕ) → n ≤ 4096 → g.size ≡ 256 * n → heap_pages g < 2 ^ 32
few_pages g n few size = omega arith

module _ (g : Game) (ms : List Machine) (es : List Emission) (v k : ℕ) (told : Told) (m m2 : Machine) (kept : AreKept g ms) (is : slice_get ms v ≡ Some m) (same : k ≡ v) (known : v < g.nodes) where
  may : (outcome : Outcome) → TurnsOver outcome told m m2 → MayTurn g (node_in m) told
  may outcome p = record {
    up = p.up;
    width = p.known.width ∙ (kept.each v m is).acked;
    acked = p.known.acked;
    emitted = p.known.emitted;
    clean = p.clean;
  }

  covers_up : (outcome : Outcome) → TurnsOver outcome told m m2 → Covers (heap_pages g) true (turn_pages m.pages) (image_pages m.pages)
  covers_up outcome p = subst (λ b. Covers (heap_pages g) b (turn_pages m.pages) (image_pages m.pages)) p.up (kept.each v m is).pages.covers

  turned : (outcome : Outcome) → TurnsOver outcome told m m2 → Covers (heap_pages g) (turnover_node outcome (heap_pages g) told (node_in m)).turning.up (turnover_node outcome (heap_pages g) told (node_in m)).turning.pages (turnover_node outcome (heap_pages g) told (node_in m)).patching
  turned Whole p = turnover_keeps_coverage (heap_pages g) m.up (turn_pages m.pages) (image_pages m.pages) told.settled (length m.ledger.turns.items) p.clean (covers_up Whole p)
  turned Landed p = turnover_keeps_coverage (heap_pages g) false (turn_pages m.pages) (image_pages m.pages) told.settled (length m.ledger.turns.items) p.clean (covers_up Landed p)
  turned Lost p = down_keeps_coverage (heap_pages g) m.up (turn_pages m.pages) (image_pages m.pages) (kept.each v m is).pages.covers

  acked_wide : (outcome : Outcome) → length (turnover_node outcome (heap_pages g) told (node_in m)).sending.acked ≡ g.nodes
  acked_wide Whole = (kept.each v m is).acked
  acked_wide Landed = (kept.each v m is).acked
  acked_wide Lost = (kept.each v m is).acked

  retired_wide : (outcome : Outcome) → length (turnover_node outcome (heap_pages g) told (node_in m)).turning.retired ≡ g.nodes
  retired_wide Whole = raised_length m.retired.items told.acked ∙ (kept.each v m is).retired
  retired_wide Landed = raised_length m.retired.items told.acked ∙ (kept.each v m is).retired
  retired_wide Lost = (kept.each v m is).retired

  turned_step : (outcome : Outcome) → TurnsOver outcome told m m2 → IsPlayed g ms (slice_set ms k m2) es es (Turnover v outcome told) true
  turned_step outcome p =
      let n2 : Node = turnover_node outcome (heap_pages g) told (node_in m) in
      let new : node_in m2 ≡ n2 = p.new ∙ ap (λ n. turnover_node outcome n told (node_in m)) (kept.each v m is).pages.unclean in
      renoded_played g ms es v k m m2 n2 kept is same new p.rest (Turnover v outcome told) refl known refl (may outcome p, refl) (turned outcome p) (acked_wide outcome) (retired_wide outcome)

  turned_none : (outcome : Outcome) → MayNotTurn told m → m2 ≡ m → IsPlayed g ms (slice_set ms k m2) es es (Turnover v outcome told) false
  turned_none outcome none unchanged =
      let still = unmoved_kept g ms es v k m m2 kept is same unchanged in
      record {
        plays = (barred g ms v m m2 is es es (Turnover v outcome told) refl (λ n2 step. none step.0.up (record { width = step.0.width ∙ sym (kept.each v m is).acked; acked = step.0.acked; emitted = step.0.emitted }) step.0.clean), still.0);
        kept = still.1;
      }

  pub turned_played : (outcome : Outcome) (happened : Bool) → (IsTrue happened → TurnsOver outcome told m m2) → (happened ≡ false → MayNotTurn told m) → (happened ≡ false → m2 ≡ m) → IsPlayed g ms (slice_set ms k m2) es es (Turnover v outcome told) happened
  turned_played outcome true made none unchanged = turned_step outcome (made refl)
  turned_played outcome false made none unchanged = turned_none outcome (none refl) (unchanged refl)
