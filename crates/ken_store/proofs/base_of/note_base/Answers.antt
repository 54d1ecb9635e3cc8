use Rattle.std.proofs.Common.{◌≡◌, ◌<◌, List, length, take, get_or, slice_index_or, None, option_map, map, ap, sym, ◌∙◌, arith}
use Rattle.std.specs.Option.{option_or}
use Rattle.std.specs.List.{zip}
use Rattle.std.proofs.Math.Seq.{take-length}
use Rattle.std.proofs.lemmas.List.Elements.{All-from_recursion}
use Rattle.ken_record.specs.declared.page.Page.{Page}
use Rattle.ken_cover.specs.declared.layers.Change.{Change}
use Rattle.ken_cover.specs.Overlay.{newest_by}
use Rattle.ken_store.specs.Turning.{changed_in}
use Rattle.ken_store.specs.Turnovers.{page_in, turn_in}
use Rattle.ken_store.proofs.Lasts.{noted_more, changed_at, length-changed}
use Rattle.ken_store.proofs.base_of.note_base.Goals as goal

pub loop-index-preserved : goal.loop-index-preserved
loop-index-preserved c = λ p.
    let e : Page = slice_index_or c.args.pages.now c.loop-index.index c.index-pages-index.result in
    let x : Change = record { turn = get_or c.args.turns.now c.loop-index.index 0; page = e } in
    let at = All-from_recursion (λ (q : Page). q.page < length c.args.last.now) c.args.pages.now c.requires.within c.loop-index.index c.index-pages-index.result c.loop-index-test.true in
    let long = c.loop-index.auto.last in
    noted_more p c.loop-index.last _ (map changed_in (zip c.args.turns.now c.args.pages.now)) c.loop-index.index x (omega (arith, length-changed c.args.turns.now c.args.pages.now c.requires.turns, c.loop-index-test.true)) (sym (changed_at c.args.turns.now c.args.pages.now c.loop-index.index c.index-pages-index.result x c.requires.turns c.loop-index-test.true)) (omega (arith, at, long)) (c.loop-index.invariant p)

pub returns : goal.returns
returns c = λ p.
    let cs : List Change = map changed_in (zip c.args.turns.now c.args.pages.now) in
    let all : c.loop-index.index ≡ length cs = omega (arith, length-changed c.args.turns.now c.args.pages.now c.requires.turns, c.loop-index-test.false, c.loop-index.auto.index-end) in
    let whole : take c.loop-index.index cs ≡ cs = ap (λ n. take n cs) all ∙ take-length cs in
    c.loop-index.invariant p ∙ ap (λ (l : List Change). option_or (option_map turn_in (newest_by page_in p l)) (slice_index_or c.args.last.now p None)) whole
