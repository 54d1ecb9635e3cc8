-- What a handler that stands for a node counts.
use Rattle.std.proofs.Common.{◌≡◌, ℕ, ◌<◌, ◌≤◌, length, slice_index, Option, inl, ⊎_elim, ap, ◌∙◌, arith}
use Rattle.std.proofs.lemmas.Bool.{cases_lt}
use Rattle.ken_disk.specs.Story.{Story}
use Rattle.ken_model.specs.Game.{Game}
use Rattle.ken_order.specs.Consumed.{Consumed, consumed_from, place}
use Rattle.ken_core.specs.Nodes.{Node}
use Rattle.ken_core.specs.Turns.{consumed_from as count_from}
use Rattle.ken_ship.specs.declared.worker.SendWorker.{SendWorker}
use Rattle.ken_work.specs.declared.patcher.PatchWorker.{PatchWorker}
use Rattle.ken_work.specs.declared.worker.TurnWorker.{TurnWorker}
use Rattle.ken_work.specs.Capped.{IsCapped}
use Rattle.ken_work.specs.Capped as caps
use Rattle.ken_whole.specs.Whole.{IsWhole}
use Rattle.ken_work.specs.Workers.{HearsNews}

module _ {D : Type 0} (told : D → Option Story) (size : D → ℕ) (g : Game) (v : ℕ) where
  -- what a handler that stands for a node has consumed is what the node counts
  pub order-counts : (n1 : Node) (t : TurnWorker D) (p : PatchWorker D) (s : SendWorker) → IsWhole told size g v n1 t p s → (w : ℕ) → w < g.nodes → consumed_from t.order w ≡ count_from w n1.turning.turns
  order-counts n1 t p s whole w low =
      let most = t.few in
      let nodes = whole.workers.of_run.nodes in
      ap (λ (c : Consumed). slice_index c.consumed (place w)) whole.workers.working.order ∙ whole.workers.turns.counted.consumed w (inl (omega (arith, low, most, nodes)))

  -- it may make a turn more
  pub few-turns : (n1 : Node) (t mid : TurnWorker D) (p : PatchWorker D) (s : SendWorker) → IsWhole told size g v n1 t p s → HearsNews t mid → (IsCapped mid → ⊥) → length t.turns.items < 100000
  few-turns n1 t mid p s whole news yet =
      let count = whole.workers.working.count in
      let most = mid.most in
      let same : mid.side.numbers.turns ≡ t.side.numbers.turns = ap (λ (w : TurnWorker D). w.side.numbers.turns) news.rest in
      ⊎_elim (λ (low : mid.side.numbers.turns < mid.cap). omega (arith, low, most, same, count)) (λ (high : mid.cap ≤ mid.side.numbers.turns). absurd (yet (caps.turns high))) (cases_lt mid.side.numbers.turns mid.cap)
