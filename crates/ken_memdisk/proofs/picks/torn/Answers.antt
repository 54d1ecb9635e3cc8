use Rattle.std.proofs.Common.{◌≡◌, length, ◌∙◌, rules, arith}
use Rattle.std.proofs.lemmas.List.{take_at}
use Rattle.ken_memdisk.proofs.Drawn.{torn_is}
use Rattle.ken_memdisk.proofs.picks.torn.Goals as goal

pub returns : goal.returns
returns c =
    let whole : length c.draw_ranges.new.image ≡ c.in_ok-image.image.len = omega (arith, c.draw_ranges.auto.image, c.deref_mut.ensures.len, c.in_ok-image.image.ok.0) in
    take_at c.draw_ranges.new.image _ _ whole
    ∙ torn_is c.args.seen.now c.args.synced.now c.args.ranges.now c.in_ok-ranges.ranges.items c.args.pick c.in_ok-image.image.items _ c.requires.within c.in_ok-ranges.ensures.same (search rules) (search rules)
