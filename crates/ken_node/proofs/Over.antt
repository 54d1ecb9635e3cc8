-- A node makes no more turns only where it has made all, or where its stamp is high.
use Rattle.std.proofs.Common.{◌≡◌, ℕ, ◌+◌, ◌*◌, ◌^◌, ◌<◌, ◌≤◌, ◌⊎◌, inl, inr, ⊎_elim, ◌==◌, if◌then◌else◌, Bool, List, length, Option, refl, sym, ap, ◌∙◌, arith}
use Rattle.std.specs.Prelude.{slice_index, IsSome}
use Rattle.std.proofs.lemmas.Bool.{cases_lt, ne_eqb}
use Rattle.std.proofs.lemmas.List.{get_or_past}
use Rattle.std.proofs.lemmas.List.Sums.{count_by-le-length}
use Rattle.ken_disk.specs.Story.{Story}
use Rattle.ken_model.specs.Game.{Game}
use Rattle.ken_record.specs.declared.effects.Effects.{Effects}
use Rattle.ken_core.specs.Nodes.{Node}
use Rattle.ken_core.specs.Turns.{stamp_after}
use Rattle.ken_order.specs.Consumed.{place}
use Rattle.ken_store.specs.declared.disks.Which.{Which}
use Rattle.ken_store.specs.declared.disks.Which.TheVariants.{First, Second}
use Rattle.ken_store.specs.declared.numbers.Numbers.{Numbers}
use Rattle.ken_store.specs.Answers.{disks_from}
use Rattle.ken_store.specs.Apart.{disks_apart}
use Rattle.ken_ship.specs.declared.worker.SendWorker.{SendWorker}
use Rattle.ken_work.specs.declared.patcher.PatchWorker.{PatchWorker}
use Rattle.ken_work.specs.declared.worker.TurnWorker.{TurnWorker}
use Rattle.ken_work.specs.Capped.{HasHigh, IsCapped, stamp, consumed, sent, outputs, turns, numbers, generation, end, base}
use Rattle.ken_node.specs.Down.{AreTold}
use Rattle.ken_whole.specs.Whole.{AreNumbersOf, IsWhole}
use Rattle.ken_node.proofs.Bounds.{base-short, end-low, low-outputs, low-sent, turns-of-log}

-- the disk of the current log tells
log-tells : {D : Type 0} (told : D → Option Story) (w : Which) (log image other : D) → AreTold told (disks_from w log image other) → IsSome (told log)
log-tells told First log image other tell = tell.0
log-tells told Second log image other tell = tell.2

-- a consumed number is at most the number of turns
low-consumed : (v : ℕ) (es : List Effects) (n : Numbers) → AreNumbersOf v es n → (i : ℕ) → slice_index n.consumed i ≤ length es
low-consumed v es n is i =
    ⊎_elim
    (λ (low : i < 8).
    let here : place i ≡ i = ap (λ (b : Bool). if b then 8 else i) (ne_eqb i 255 (λ (e : i ≡ 255). omega (arith, low, e))) in
    let counted = ap (slice_index n.consumed) (sym here) ∙ is.consumed i (inl low) in
    let most = count_by-le-length (λ (e : Effects). e.from == i) es in
    omega (arith, counted, most))
    (λ (high : 8 ≤ i).
    ⊎_elim
    (λ (last : i < 9).
    let here : i ≡ 8 = omega (arith, high, last) in
    let counted = ap (slice_index n.consumed) here ∙ is.consumed 255 (inr refl) in
    let most = count_by-le-length (λ (e : Effects). e.from == 255) es in
    omega (arith, counted, most))
    (λ (past : 9 ≤ i). let long = is.senders in let none = get_or_past n.consumed i 0 (omega (arith, long, past)) in omega (arith, none))
    (cases_lt i 9))
    (cases_lt i 8)

module _ {D : Type 0} (told : D → Option Story) (size : D → ℕ) (g : Game) (v : ℕ) (n : Node) (t : TurnWorker D) (p : PatchWorker D) (s : SendWorker) (whole : IsWhole told size g v n t p s) (tell : AreTold told (disks_apart t.side p.side)) where
  module _ (few : t.side.numbers.turns < 100000) where
    high-stamp : HasHigh t.side.numbers → 2 ^ 63 ≤ stamp_after 0 n.turning.turns
    high-stamp (stamp high) = let is = whole.workers.turns.counted.stamp in omega (arith, high, is)
    high-stamp (consumed i high) = let counted = whole.workers.turns.counted in let most = low-consumed v n.turning.turns t.side.numbers counted i in let made = counted.turns in absurd (omega (arith, high, most, made, few))
    high-stamp (sent i high) = let low = low-sent told size t.side whole.workers.working.side few i in absurd (omega (arith, high, low))
    high-stamp (outputs high) = let low = low-outputs told size t.side whole.workers.working.side few in absurd (omega (arith, high, low))

    capped-by : IsCapped t → (g.turns ≤ length n.turning.turns) ⊎ (2 ^ 63 ≤ stamp_after 0 n.turning.turns)
    capped-by (turns most) = let made = whole.workers.turns.counted.turns in let cap = whole.workers.of_run.cap in inl (omega (arith, most, made, cap))
    capped-by (numbers high) = inr (high-stamp high)
    capped-by (generation most) =
        let paced : 32 * t.side.log.header.generation ≤ t.side.log.header.turns + 32 = whole.workers.log.paced.turns in
        let made = turns-of-log told size t.side whole.workers.working.side few in
        absurd (omega (arith, most, paced, made, few))
    capped-by (end past) =
        let low = end-low told size t.side whole.workers.working.side few (log-tells told t.side.which t.side.log.disk p.side.image.disk t.side.other tell) whole.workers.log.paced.few in
        absurd (omega (arith, past, low))
    capped-by (base long) =
        let short = base-short told size t.side whole.workers.working.side few t.told.settled t.told.progress.acked t.told.progress.emitted whole.workers.working.idle in
        absurd (omega (arith, long, short))

  pub capped_over : IsCapped t → (g.turns ≤ length n.turning.turns) ⊎ (2 ^ 63 ≤ stamp_after 0 n.turning.turns)
  capped_over capped =
      let most = t.most in
      let made = whole.workers.turns.counted.turns in
      let cap = whole.workers.of_run.cap in
      ⊎_elim (λ (low : t.side.numbers.turns < t.cap). capped-by (omega (arith, low, most)) capped) (λ (high : t.cap ≤ t.side.numbers.turns). inl (omega (arith, high, made, cap))) (cases_lt t.side.numbers.turns t.cap)
