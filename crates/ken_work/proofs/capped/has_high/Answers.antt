use Rattle.std.proofs.Common.{ℕ, ◌<◌, ◌^◌, ◌⊎◌, leb, refl}
use Rattle.std.specs.Prelude.{◌↔◌, IsTrue, slice_index}
use Rattle.ken_store.specs.declared.numbers.Numbers.{Numbers}
use Rattle.ken_store.proofs.Turned.{side_stands}
use Rattle.ken_work.specs.Capped.{HasHigh, HasHighCount, IsHigh}
use Rattle.ken_work.proofs.Either.{either_first, either_second, reads_least, also_is}
use Rattle.ken_work.proofs.High.{IsHighThere, high_there, there_high}
use Rattle.ken_work.proofs.capped.has_high.Goals as goal
use Rattle.ken_work.proofs.capped.has_high.Goals.{then-has_high_count, else-has_high_count, then-stamp-ge-HIGH, else-stamp-ge-HIGH}

abbrev HasCount : Numbers → Type 0
HasCount n = (node : ℕ) × (node < 8) × HasHighCount n node

pub returns-then-outputs-ge-HIGH : goal.returns-then-outputs-ge-HIGH
returns-then-outputs-ge-HIGH g c =
    let n : Numbers = c.args.side.now.numbers in
    let stands = (side_stands g.D.Disk.told g.D.Disk.size c.args.side.now c.requires).0 in
    let one : IsTrue c.if-has_high_count.value ↔ (HasCount n ⊎ IsHigh n.stamp) = elim c.if-has_high_count.branch [
      | then-has_high_count w ↦ either_first c.has_high_count.result c.if-has_high_count.value (HasCount n) (IsHigh n.stamp) w.if-has_high_count.true w.value-is c.has_high_count.ensures
      | else-has_high_count w ↦ either_second c.has_high_count.result (leb (2 ^ 63) w.stamp.result) c.if-has_high_count.value (HasCount n) (IsHigh n.stamp) w.if-has_high_count.false w.value-is c.has_high_count.ensures (reads_least (2 ^ 63) w.stamp.result n.stamp w.stamp.ensures)
    ] in
    let two : IsTrue c.if-stamp-ge-HIGH.value ↔ ((HasCount n ⊎ IsHigh n.stamp) ⊎ IsHigh n.outputs) = elim c.if-stamp-ge-HIGH.branch [
      | then-stamp-ge-HIGH w ↦ either_first c.if-has_high_count.value c.if-stamp-ge-HIGH.value (HasCount n ⊎ IsHigh n.stamp) (IsHigh n.outputs) w.if-stamp-ge-HIGH.true w.value-is one
      | else-stamp-ge-HIGH w ↦ either_second c.if-has_high_count.value (leb (2 ^ 63) w.outputs.result) c.if-stamp-ge-HIGH.value (HasCount n ⊎ IsHigh n.stamp) (IsHigh n.outputs) w.if-stamp-ge-HIGH.false w.value-is one (reads_least (2 ^ 63) w.outputs.result n.outputs w.outputs.ensures)
    ] in
    let all = either_first c.if-stamp-ge-HIGH.value c.if-stamp-ge-HIGH.value ((HasCount n ⊎ IsHigh n.stamp) ⊎ IsHigh n.outputs) (IsHigh (slice_index n.consumed 8)) c.if-outputs-ge-HIGH.true refl two in
    also_is c.if-stamp-ge-HIGH.value (IsHighThere n) (HasHigh n) all (there_high n) (high_there n stands.consumed_long stands.sends.long)

pub returns-else-outputs-ge-HIGH : goal.returns-else-outputs-ge-HIGH
returns-else-outputs-ge-HIGH g c =
    let n : Numbers = c.args.side.now.numbers in
    let stands = (side_stands g.D.Disk.told g.D.Disk.size c.args.side.now c.requires).0 in
    let one : IsTrue c.if-has_high_count.value ↔ (HasCount n ⊎ IsHigh n.stamp) = elim c.if-has_high_count.branch [
      | then-has_high_count w ↦ either_first c.has_high_count.result c.if-has_high_count.value (HasCount n) (IsHigh n.stamp) w.if-has_high_count.true w.value-is c.has_high_count.ensures
      | else-has_high_count w ↦ either_second c.has_high_count.result (leb (2 ^ 63) w.stamp.result) c.if-has_high_count.value (HasCount n) (IsHigh n.stamp) w.if-has_high_count.false w.value-is c.has_high_count.ensures (reads_least (2 ^ 63) w.stamp.result n.stamp w.stamp.ensures)
    ] in
    let two : IsTrue c.if-stamp-ge-HIGH.value ↔ ((HasCount n ⊎ IsHigh n.stamp) ⊎ IsHigh n.outputs) = elim c.if-stamp-ge-HIGH.branch [
      | then-stamp-ge-HIGH w ↦ either_first c.if-has_high_count.value c.if-stamp-ge-HIGH.value (HasCount n ⊎ IsHigh n.stamp) (IsHigh n.outputs) w.if-stamp-ge-HIGH.true w.value-is one
      | else-stamp-ge-HIGH w ↦ either_second c.if-has_high_count.value (leb (2 ^ 63) w.outputs.result) c.if-stamp-ge-HIGH.value (HasCount n ⊎ IsHigh n.stamp) (IsHigh n.outputs) w.if-stamp-ge-HIGH.false w.value-is one (reads_least (2 ^ 63) w.outputs.result n.outputs w.outputs.ensures)
    ] in
    let last : ℕ = c.consumed_from.result in
    let all = either_second c.if-stamp-ge-HIGH.value (leb (2 ^ 63) last) (leb (2 ^ 63) last) ((HasCount n ⊎ IsHigh n.stamp) ⊎ IsHigh n.outputs) (IsHigh (slice_index n.consumed 8)) c.if-outputs-ge-HIGH.false refl two (reads_least (2 ^ 63) last (slice_index n.consumed 8) c.consumed_from.ensures) in
    also_is (leb (2 ^ 63) last) (IsHighThere n) (HasHigh n) all (there_high n) (high_there n stands.consumed_long stands.sends.long)
