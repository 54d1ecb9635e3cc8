use Rattle.std.proofs.Common.{◌≡◌, ◌/◌, ◌%◌, ◌<◌, true, false, length, get_or, sym, ap, ◌∙◌, arith}
use Rattle.ken_frame.proofs.Written.{length-written}
use Rattle.ken_pages.specs.Layout.{now_of, was_of, is_own}
use Rattle.ken_pages.proofs.Pages.{at_map, length_now, length_was, now_bytes-written, ArePages-set, SameTurn-set}
use Rattle.ken_pages.proofs.frames.write_part.Goals as goal

pub returns-clause-bytes : goal.returns-clause-bytes
returns-clause-bytes c =
    let below : c.args.at / 256 < length c.args.pages.now = omega arith in
    now_bytes-written c.args.pages.now (c.args.at / 256) (c.args.at % 256) c.args.at c.args.bytes.now c.write.new.self c.index-pages-at.result c.requires.whole below c.requires.one (omega arith)
    c.write.ensures.now

pub returns-clause-whole : goal.returns-clause-whole
returns-clause-whole c =
    let ps = c.args.pages.now in
    let below : c.args.at / 256 < length ps = omega arith in
    let page = get_or ps (c.args.at / 256) c.index-pages-at.result in
    let now : length (now_of page) ≡ 256 = length_now ps (c.args.at / 256) c.index-pages-at.result c.requires.whole below in
    let was : length (was_of page) ≡ 256 = length_was ps (c.args.at / 256) c.index-pages-at.result c.requires.whole below in
    ArePages-set ps (c.args.at / 256) c.write.new.self c.requires.whole
    (ap length c.write.ensures.now ∙ length-written (now_of page) (c.args.at % 256) c.args.bytes.now (omega (arith, c.requires.one, now)) ∙ now)
    (ap length c.write.ensures.was ∙ was)

pub returns-clause-turn : goal.returns-clause-turn
returns-clause-turn c =
    let ps = c.args.pages.now in
    let below : c.args.at / 256 < length ps = omega arith in
    let own : is_own (get_or ps (c.args.at / 256) c.index-pages-at.result) ≡ true = sym (at_map is_own ps (c.args.at / 256) c.index-pages-at.result false below) ∙ c.requires.own in
    SameTurn-set ps (c.args.at / 256) c.write.new.self c.index-pages-at.result below (c.write.ensures.own ∙ sym own) c.write.ensures.kept c.write.ensures.was

pub write-requires-clause-own : goal.write-requires-clause-own
write-requires-clause-own c =
    let below : c.args.at / 256 < length c.args.pages.now = omega arith in
    sym (at_map is_own c.args.pages.now (c.args.at / 256) c.index-pages-at.result false below) ∙ c.requires.own
