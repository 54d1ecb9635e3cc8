use Rattle.std.proofs.Common.{List, arith}
use Rattle.std.proofs.lemmas.List.{length-map}
use Rattle.ken_record.specs.declared.page.Page.{Page}
use Rattle.ken_record.specs.declared.record.Record.{Record}
use Rattle.ken_record.specs.Spelling.{page}
use Rattle.ken_record.specs.Turns.{as_page, turn_pages, turn_record}
use Rattle.ken_record.proofs.Sizes.{fields_long, counted_long, pages_long}
use Rattle.ken_record.proofs.turn.fields_len.Goals as goal

pub returns : goal.returns
returns c = λ turn.
    let es = c.args.pages.now in
    let ps : List Page = turn_pages es in
    let r : Record = turn_record turn c.args.effects.now ps in
    let draws = rw c.as_slice.ensures at c.counted_len-draws.ensures.len in
    let sends = rw c.as_slice-2.ensures at c.counted_len-sends.ensures.len in
    let outs = rw c.as_slice-3.ensures at c.counted_len-outs.ensures.len in
    omega (arith, fields_long r, counted_long 2 page ps, pages_long ps c.requires.3.1, length-map es as_page, draws, sends, outs)
