use Rattle.std.proofs.Common.{◌≡◌, ℕ, ◌∙◌, Option, None, List, option_map, length, slice_index_or, ap, arith}
use Rattle.std.specs.Option.{option_or}
use Rattle.std.specs.Vec.{with_items}
use Rattle.std.proofs.lemmas.List.{with_items_is}
use Rattle.ken_cover.specs.declared.layers.Change.{Change}
use Rattle.ken_cover.specs.Overlay.{newest_by}
use Rattle.ken_core.proofs.Lasts.{lasts_more}
use Rattle.ken_core.proofs.bases.last_turns.Goals as goal

pub loop-layer-preserved : goal.loop-layer-preserved
loop-layer-preserved c =
    let whole : (with_items c.loop-layer.last c.note_turns.new.last).items ≡ c.note_turns.new.last = with_items_is c.loop-layer.last c.note_turns.new.last (omega (arith, c.note_turns.auto.last, c.deref_mut.ensures.len)) in
    record {
      width = ap length whole ∙ c.note_turns.auto.last ∙ ap length c.deref_mut.ensures.value ∙ c.loop-layer.invariant.width;
      turns = λ p.
          let noted = ap (λ (xs : List (Option ℕ)). slice_index_or xs p None) whole ∙ c.note_turns.ensures p ∙ ap (λ (xs : List (Option ℕ)). option_or (option_map (λ (x : Change). x.turn) (newest_by (λ (x : Change). x.page) p c.as_slice.result.now)) (slice_index_or xs p None)) c.deref_mut.ensures.value in
          lasts_more p (slice_index_or (with_items c.loop-layer.last c.note_turns.new.last).items p None) (slice_index_or c.loop-layer.last.items p None) c.args.live.now c.loop-layer.layer-index c.layer-item.result c.as_slice.result.now c.loop-layer-test.true c.layer-item.is c.as_slice.ensures noted (c.loop-layer.invariant.turns p);
    }
