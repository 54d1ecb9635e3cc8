use Rattle.std.proofs.Common.{◌∙◌, [], ◌∷◌, ◌++◌, length, refl, ap, arith, length-append, Some, Ok, Err}
use Rattle.std.proofs.lemmas.Result.{err_from_is_err_and}
use Rattle.ken_disk.specs.declared.faults.DiskFault.TheVariants.{Failed, Memory}
use Rattle.ken_record.specs.declared.header.Header.{Header}
use Rattle.ken_log.specs.Formats.{next_header}
use Rattle.ken_log.specs.Layout.{head_bytes}
use Rattle.ken_log.proofs.Formatted.{begun_none, begun_replaces, begun_calls, begun_settled, begun_rests}
use Rattle.ken_log.proofs.LogMounts.{head_long}
use Rattle.ken_log.proofs.Turned.{next_is, spells_next}
use Rattle.ken_log.proofs.log.Log.turnover.Goals as goal

pub returns-in_err-body-clause-story : goal.returns-in_err-body-clause-story
returns-in_err-body-clause-story g c =
    let p = err_from_is_err_and c.from_residual.result c.from_residual.ensures.1 in
    let next = next_header c.args.self.now c.args.base in
    let is = next_is c.args.self.now c.args.base c.requires.settled.header c.requires.base c.requires.length c.requires.generation c.requires.turns in
    rw (p.1, p.2) (begun_replaces next (Some c.args.base) (head_bytes next (Some c.args.base) ++ 0 ∷ []) is refl {T = Unit {0}} (Err Memory) _ _ (begun_none next (Some c.args.base) (head_bytes next (Some c.args.base) ++ 0 ∷ []) is refl (Unit {0}) _ _ refl))

pub returns-in_err-body-clause-calls : goal.returns-in_err-body-clause-calls
returns-in_err-body-clause-calls g c =
    let p = err_from_is_err_and c.from_residual.result c.from_residual.ensures.1 in
    let next = next_header c.args.self.now c.args.base in
    let is = next_is c.args.self.now c.args.base c.requires.settled.header c.requires.base c.requires.length c.requires.generation c.requires.turns in
    rw (p.1, p.2) (begun_none next (Some c.args.base) (head_bytes next (Some c.args.base) ++ 0 ∷ []) is refl (Unit {0}) _ _ refl)

pub begin-requires : goal.begin-requires
begin-requires g c =
    let next = next_header c.args.self.now c.args.base in
    let is = next_is c.args.self.now c.args.base c.requires.settled.header c.requires.base c.requires.length c.requires.generation c.requires.turns in
    let spells = spells_next c.next_header-header.result next c.args.base c.deref.result.now c.next_header-header.ensures (c.deref.ensures.value ∙ c.in_ok-body.ensures) in
    omega (arith, ap length spells, length-append (head_bytes next (Some c.args.base)) (0 ∷ []), head_long next (Some c.args.base) is, c.requires.length)

pub returns-in-Ok-clause-story : goal.returns-in-Ok-clause-story
returns-in-Ok-clause-story g c =
    let next = next_header c.args.self.now c.args.base in
    let is = next_is c.args.self.now c.args.base c.requires.settled.header c.requires.base c.requires.length c.requires.generation c.requires.turns in
    let spells = spells_next c.next_header-header.result next c.args.base c.deref.result.now c.next_header-header.ensures (c.deref.ensures.value ∙ c.in_ok-body.ensures) in
    rw c.swap.ensures.x_after (begun_replaces next (Some c.args.base) c.deref.result.now is spells {T = Unit {0}} (Ok tt) _ _ c.in-Ok.ensures.calls)

pub returns-in-Ok-clause-settled : goal.returns-in-Ok-clause-settled
returns-in-Ok-clause-settled g c =
    let next = next_header c.args.self.now c.args.base in
    let is = next_is c.args.self.now c.args.base c.requires.settled.header c.requires.base c.requires.length c.requires.generation c.requires.turns in
    let spells = spells_next c.next_header-header.result next c.args.base c.deref.result.now c.next_header-header.ensures (c.deref.ensures.value ∙ c.in_ok-body.ensures) in
    let end = ap (λ (h : Header). h.base_len) c.next_header-header.ensures in
    begun_settled next (Some c.args.base) c.deref.result.now is spells {T = Unit {0}} g.D.Disk.told g.D.Disk.size (g.D.Disk.told c.args.other.now) _ tt (rw c.swap.ensures.x_after c.in-Ok.ensures.calls) c.next_header-header.ensures refl c.requires.settled.sound refl (omega (arith, end, c.from.ensures)) (rw c.swap.ensures.x_after c.in-Ok.ensures.size)

pub returns-in-Err-Memory-clause-story : goal.returns-in-Err-Memory-clause-story
returns-in-Err-Memory-clause-story g c =
    let next = next_header c.args.self.now c.args.base in
    let is = next_is c.args.self.now c.args.base c.requires.settled.header c.requires.base c.requires.length c.requires.generation c.requires.turns in
    let spells = spells_next c.next_header-header.result next c.args.base c.deref.result.now c.next_header-header.ensures (c.deref.ensures.value ∙ c.in_ok-body.ensures) in
    begun_replaces next (Some c.args.base) c.deref.result.now is spells {T = Unit {0}} (Err Memory) _ _ (rw c.in-Err-Memory.field-0-is at c.in-Err-Memory.ensures.calls)

pub returns-in-Err-Memory-clause-calls : goal.returns-in-Err-Memory-clause-calls
returns-in-Err-Memory-clause-calls g c =
    let next = next_header c.args.self.now c.args.base in
    let is = next_is c.args.self.now c.args.base c.requires.settled.header c.requires.base c.requires.length c.requires.generation c.requires.turns in
    let spells = spells_next c.next_header-header.result next c.args.base c.deref.result.now c.next_header-header.ensures (c.deref.ensures.value ∙ c.in_ok-body.ensures) in
    begun_calls next (Some c.args.base) c.deref.result.now is spells {T = Unit {0}} (Err Memory) _ _ (rw c.in-Err-Memory.field-0-is at c.in-Err-Memory.ensures.calls)

pub returns-in-Err-Memory-clause-rests : goal.returns-in-Err-Memory-clause-rests
returns-in-Err-Memory-clause-rests g c = λ _.
    let next = next_header c.args.self.now c.args.base in
    let is = next_is c.args.self.now c.args.base c.requires.settled.header c.requires.base c.requires.length c.requires.generation c.requires.turns in
    let spells = spells_next c.next_header-header.result next c.args.base c.deref.result.now c.next_header-header.ensures (c.deref.ensures.value ∙ c.in_ok-body.ensures) in
    begun_rests next (Some c.args.base) c.deref.result.now is spells (Unit {0}) _ _ (rw c.in-Err-Memory.field-0-is at c.in-Err-Memory.ensures.calls)

pub returns-clause-story : goal.returns-clause-story
returns-clause-story g c =
    let next = next_header c.args.self.now c.args.base in
    let is = next_is c.args.self.now c.args.base c.requires.settled.header c.requires.base c.requires.length c.requires.generation c.requires.turns in
    let spells = spells_next c.next_header-header.result next c.args.base c.deref.result.now c.next_header-header.ensures (c.deref.ensures.value ∙ c.in_ok-body.ensures) in
    begun_replaces next (Some c.args.base) c.deref.result.now is spells {T = Unit {0}} (Err Failed) _ _ (rw c.in-Err-Failed.field-0-is at c.in-Err-Failed.ensures.calls)

pub returns-clause-calls : goal.returns-clause-calls
returns-clause-calls g c =
    let next = next_header c.args.self.now c.args.base in
    let is = next_is c.args.self.now c.args.base c.requires.settled.header c.requires.base c.requires.length c.requires.generation c.requires.turns in
    let spells = spells_next c.next_header-header.result next c.args.base c.deref.result.now c.next_header-header.ensures (c.deref.ensures.value ∙ c.in_ok-body.ensures) in
    begun_calls next (Some c.args.base) c.deref.result.now is spells {T = Unit {0}} (Err Failed) _ _ (rw c.in-Err-Failed.field-0-is at c.in-Err-Failed.ensures.calls)
