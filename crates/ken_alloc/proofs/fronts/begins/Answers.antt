use Rattle.std.proofs.Common.{◌≡◌, ◌+◌, ◌<◌, length, take, drop, get_or, sym, ap, ◌∙◌, arith, ne_eqb}
use Rattle.std.specs.Prelude.{bytes_eq}
use Rattle.std.proofs.lemmas.List.{take-take}
use Rattle.ken_model.specs.Layout.{part}
use Rattle.ken_alloc.proofs.Begins.{front_true, front_false, front_short, front_here, byte_here, length_part}
use Rattle.ken_alloc.proofs.fronts.begins.Goals as goal

pub returns-then-head-count : goal.returns-then-head-count
returns-then-head-count c =
    c.has_front.ensures ∙ front_here c.args.pages.now.bytes c.args.rest.now c.args.key.now c.args.at c.args.len c.args.behind c.requires.rest c.if-head-count.true c.if-len-count.false

pub returns-then-rest-behind : goal.returns-then-rest-behind
returns-then-rest-behind c =
    let xs = c.args.pages.now.bytes in
    let key = c.args.key.now in
    let place = c.args.at + 16 in
    let bytes = part place c.args.len xs in
    let less : length key < length bytes = omega (arith, length_part xs place c.args.len c.requires.within, c.if-len-count.false) in
    let front : take (length key) bytes ≡ part place (length key) xs = take-take (length key) c.args.len (drop place xs) (omega (arith, c.if-len-count.false)) in
    front_true key bytes c.args.behind c.stand.result less (byte_here xs c.rest.result.now place (length key) c.args.len c.rest.ensures.bytes c.if-len-count.false ∙ c.if-rest-behind.true) (c.stand.ensures ∙ ap (λ ws. bytes_eq ws key) (sym front))

pub returns-else-rest-behind : goal.returns-else-rest-behind
returns-else-rest-behind c =
    let xs = c.args.pages.now.bytes in
    let key = c.args.key.now in
    let place = c.args.at + 16 in
    let less : length key < length (part place c.args.len xs) = omega (arith, length_part xs place c.args.len c.requires.within, c.if-len-count.false) in
    ne_eqb (get_or c.rest.result.now 0 0) c.args.behind c.if-rest-behind.false
    ∙ front_false key (part place c.args.len xs) c.args.behind less (λ e. c.if-rest-behind.false (sym (byte_here xs c.rest.result.now place (length key) c.args.len c.rest.ensures.bytes c.if-len-count.false) ∙ e))

pub returns-then-len-count : goal.returns-then-len-count
returns-then-len-count c =
    let bytes = part (c.args.at + 16) c.args.len c.args.pages.now.bytes in
    front_short c.args.key.now bytes c.args.behind (omega (arith, length_part c.args.pages.now.bytes (c.args.at + 16) c.args.len c.requires.within, c.if-len-count.true))
