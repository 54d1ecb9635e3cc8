use Rattle.std.proofs.Common.{ℕ, List, subst}
use Rattle.std.proofs.lemmas.Result.{err_from_is_err_and}
use Rattle.ken_top.specs.Programs.{SaysTo, IsFaultTo}
use Rattle.ken_top.proofs.Judging.{judged_in, parted, reading_refused, refused_in, script_refused, took_all}
use Rattle.ken_top.proofs.checking.judged.Goals as goal

pub returns-in_err-text-clause-refused : goal.returns-in_err-text-clause-refused
returns-in_err-text-clause-refused g c =
    let p = err_from_is_err_and c.from_residual.result c.from_residual.ensures.1 in
    rw (p.1, p.2) (reading_refused (g.C.Cast.program c.args.cast) c.args.length (g.S.Source.left c.args.source.now) c.in_err-text.field-0.0)

pub returns-in-Ok-clause-judged : goal.returns-in-Ok-clause-judged
returns-in-Ok-clause-judged g c =
    let old = g.S.Source.left c.args.source.now in
    let mid = g.S.Source.left c.read_front.new.source in
    let text : List ℕ = c.in_ok-text.text in
    let its = parted c.args.length old mid text c.room_behind-room.result c.len.result c.min-size.result c.min-size.ensures c.len.ensures c.in_ok-text.ensures.bytes c.in_ok-text.ensures.given c.in_ok-text.ensures.few c.room_behind-room.ensures in
    judged_in (g.C.Cast.program c.args.cast) c.args.length old mid (g.S.Source.left c.report_judged.new.source) text c.room_behind-room.result its c.in-Ok.script c.report_judged.result (subst (λ (b : List ℕ). SaysTo (g.C.Cast.program c.args.cast) b c.in-Ok.script) c.as_slice.ensures c.in-Ok.ensures.says) c.report_judged.ensures.judged

pub returns-in-Ok-clause-refused : goal.returns-in-Ok-clause-refused
returns-in-Ok-clause-refused g c =
    let old = g.S.Source.left c.args.source.now in
    let mid = g.S.Source.left c.read_front.new.source in
    let text : List ℕ = c.in_ok-text.text in
    let its = parted c.args.length old mid text c.room_behind-room.result c.len.result c.min-size.result c.min-size.ensures c.len.ensures c.in_ok-text.ensures.bytes c.in_ok-text.ensures.given c.in_ok-text.ensures.few c.room_behind-room.ensures in
    refused_in (g.C.Cast.program c.args.cast) c.args.length old mid (g.S.Source.left c.report_judged.new.source) text c.room_behind-room.result its c.report_judged.result c.report_judged.ensures.refused

pub returns-in-Ok-clause-taken : goal.returns-in-Ok-clause-taken
returns-in-Ok-clause-taken g c =
    let old = g.S.Source.left c.args.source.now in
    let mid = g.S.Source.left c.read_front.new.source in
    let text : List ℕ = c.in_ok-text.text in
    let its = parted c.args.length old mid text c.room_behind-room.result c.len.result c.min-size.result c.min-size.ensures c.len.ensures c.in_ok-text.ensures.bytes c.in_ok-text.ensures.given c.in_ok-text.ensures.few c.room_behind-room.ensures in
    took_all (g.C.Cast.program c.args.cast) c.args.length old mid (g.S.Source.left c.report_judged.new.source) text c.room_behind-room.result its c.report_judged.ensures.taken

pub returns-in-Err-clause-refused : goal.returns-in-Err-clause-refused
returns-in-Err-clause-refused g c =
    let old = g.S.Source.left c.args.source.now in
    let mid = g.S.Source.left c.read_front.new.source in
    let text : List ℕ = c.in_ok-text.text in
    let its = parted c.args.length old mid text c.room_behind-room.result c.len.result c.min-size.result c.min-size.ensures c.len.ensures c.in_ok-text.ensures.bytes c.in_ok-text.ensures.given c.in_ok-text.ensures.few c.room_behind-room.ensures in
    script_refused (g.C.Cast.program c.args.cast) c.args.length old mid (g.S.Source.left c.refused.new.source) text c.room_behind-room.result its c.in-Err.fault c.refused.result (subst (λ (b : List ℕ). IsFaultTo (g.C.Cast.program c.args.cast) b c.in-Err.fault) c.as_slice.ensures c.in-Err.ensures.breaks) c.refused.ensures.refused

pub returns-in-Err-clause-taken : goal.returns-in-Err-clause-taken
returns-in-Err-clause-taken g c =
    let old = g.S.Source.left c.args.source.now in
    let mid = g.S.Source.left c.read_front.new.source in
    let text : List ℕ = c.in_ok-text.text in
    let its = parted c.args.length old mid text c.room_behind-room.result c.len.result c.min-size.result c.min-size.ensures c.len.ensures c.in_ok-text.ensures.bytes c.in_ok-text.ensures.given c.in_ok-text.ensures.few c.room_behind-room.ensures in
    took_all (g.C.Cast.program c.args.cast) c.args.length old mid (g.S.Source.left c.refused.new.source) text c.room_behind-room.result its c.refused.ensures.taken
