use Rattle.std.proofs.Common.{◌≡◌, ◌∙◌, ℕ, length, List, get_or, ap, subst, arith, Err, IfOk}
use Rattle.ken_record.specs.declared.faults.RecordFault.{RecordFault}
use Rattle.ken_record.specs.Reading.{header_at}
use Rattle.ken_log.specs.Mounts.{Damaged, after_header}
use Rattle.ken_log.specs.Layout.{IsLogOf}
use Rattle.ken_log.proofs.LogMounts.{short_mounts, first_closed, header_mounts}
use Rattle.ken_log.proofs.Taken.{tail_is, front_mounts, front_parts, front_long}
use Rattle.ken_log.proofs.mount.log_in.Goals as goal

pub returns-then-bytes-lt-HEADER_LEN-clause-mounts :
    goal.returns-then-bytes-lt-HEADER_LEN-clause-mounts
returns-then-bytes-lt-HEADER_LEN-clause-mounts c = short_mounts c.args.bytes.now c.if-bytes-lt-HEADER_LEN.true

pub returns-then-bytes-clause-mounts : goal.returns-then-bytes-clause-mounts
returns-then-bytes-clause-mounts c = first_closed c.args.bytes.now (λ e. let no : ⊥ = omega (arith, e, c.if-bytes.true) in no)

pub log_behind-requires-clause-most : goal.log_behind-requires-clause-most
log_behind-requires-clause-most c =
    let stands : get_or c.args.bytes.now 0 0 ≡ 165 = omega (arith, c.if-bytes.false) in
    front_long c.args.bytes.now c.in-Ok.rest.now c.in-Ok.header c.if-bytes-lt-HEADER_LEN.false stands c.in-Ok.ensures.found

pub returns-in-Ok-clause-mounts : goal.returns-in-Ok-clause-mounts
returns-in-Ok-clause-mounts c =
    let stands : get_or c.args.bytes.now 0 0 ≡ 165 = omega (arith, c.if-bytes.false) in
    rw (front_mounts c.args.bytes.now c.in-Ok.rest.now c.in-Ok.header c.if-bytes-lt-HEADER_LEN.false stands c.in-Ok.ensures.found) c.log_behind.ensures.mounts

pub returns-in-Ok-clause-lies : goal.returns-in-Ok-clause-lies
returns-in-Ok-clause-lies c =
    let stands : get_or c.args.bytes.now 0 0 ≡ 165 = omega (arith, c.if-bytes.false) in
    subst (λ (b : List ℕ). IfOk c.log_behind.result (λ f. IsLogOf b f.header f.base f.records.items f.end)) (front_parts c.args.bytes.now c.in-Ok.rest.now c.in-Ok.header c.if-bytes-lt-HEADER_LEN.false stands c.in-Ok.ensures.found) c.log_behind.ensures.lies

pub returns-in-Err-Bad-clause-mounts : goal.returns-in-Err-Bad-clause-mounts
returns-in-Err-Bad-clause-mounts c =
    let stands : get_or c.args.bytes.now 0 0 ≡ 165 = omega (arith, c.if-bytes.false) in
    header_mounts c.args.bytes.now c.if-bytes-lt-HEADER_LEN.false stands ∙ subst (λ (l : List ℕ). after_header (length c.args.bytes.now) (header_at l) ≡ Damaged 0) (tail_is c.args.bytes.now) (c.in-Err-Bad.ensures.bad (ap (λ (e : RecordFault). Err e) c.in-Err-Bad.field-0-is) (length c.args.bytes.now))
