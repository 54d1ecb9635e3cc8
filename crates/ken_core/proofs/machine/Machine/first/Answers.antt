use Rattle.std.proofs.Common.{◌≡◌, ◌*◌, ◌<◌, ◌≤◌, ℕ, true, length, refl, arith}
use Rattle.ken_model.specs.Game.{game_of}
use Rattle.ken_model.specs.Layout.{first_heap}
use Rattle.ken_model.proofs.First.{first_is_empty}
use Rattle.ken_core.specs.declared.machine.Machine.{Machine}
use Rattle.ken_core.specs.Nodes.{heap_pages}
use Rattle.ken_core.proofs.Firsts.{first_is}
use Rattle.ken_core.proofs.machine.Machine.first.Goals as goal

pub returns : goal.returns
returns c =
    let limits = c.requires.limits.pages in
    let pages : ℕ = heap_pages (game_of c.args.facts.now) in
    let some : 0 < pages = let a = limits.1 in let b = limits.3 in omega arith in
    let few : pages ≤ 4096 = let a = limits.2 in let b = limits.3 in omega arith in
    let size : length (first_heap pages) ≡ 256 * pages = (first_is_empty pages some few).size in
    let made : Machine = record { up = true; ledger = c.in_ok-first_ledger.field-0; pages = c.in_ok-first_pages.field-0; retired = c.in_ok-zeros.field-0; retired_outs = 0; acked = c.in_ok-zeros-2.field-0; emitted = 0; mailed = c.in_ok-no_numbers.field-0; answered = c.in_ok-no_numbers-2.field-0 } in
    let ledger = c.in_ok-first_ledger.ensures in
    let paged = c.in_ok-first_pages.ensures in
    first_is (game_of c.args.facts.now) c.args.node c.in_ok-first_ledger.field-0 c.in_ok-first_pages.field-0 c.in_ok-zeros.field-0 c.in_ok-zeros-2.field-0 made size
    (record { turns = ledger.turns; consumed = ledger.consumed; inputs = ledger.inputs; inputs_consumed = ledger.inputs_consumed; width = ledger.width; sent = ledger.sent; outs = ledger.outs })
    (record { heap = paged.heap; image = paged.image; live = paged.live; ahead = paged.ahead; unclean = paged.unclean; opened = paged.opened })
    c.in_ok-zeros.ensures c.in_ok-zeros-2.ensures refl c.in_ok-no_numbers.ensures.width c.in_ok-no_numbers.ensures.none c.in_ok-no_numbers-2.ensures.width c.in_ok-no_numbers-2.ensures.none
