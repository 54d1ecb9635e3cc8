use Rattle.std.proofs.Common.{◌∙◌, [], ◌∷◌, ◌++◌, length, refl, ap, arith, length-append, None, Ok, Err}
use Rattle.ken_disk.specs.declared.faults.DiskFault.TheVariants.{Memory}
use Rattle.ken_record.specs.Spelling.{header_bytes}
use Rattle.ken_record.proofs.Sizes.{header_long}
use Rattle.ken_log.proofs.Formatted.{begun_none, begun_replaces, begun_calls, begun_settled, begun_rests, begun_faults}
use Rattle.ken_log.proofs.log.Log.format.Goals as goal

pub returns-in-Err-clause-story : goal.returns-in-Err-clause-story
returns-in-Err-clause-story g c =
    begun_replaces c.args.header.now None (header_bytes c.args.header.now ++ 0 ∷ []) c.requires refl (Err Memory) _ _ (begun_none c.args.header.now None (header_bytes c.args.header.now ++ 0 ∷ []) c.requires refl (Unit {0}) _ _ refl)

pub returns-in-Err-clause-calls : goal.returns-in-Err-clause-calls
returns-in-Err-clause-calls g c =
    begun_none c.args.header.now None (header_bytes c.args.header.now ++ 0 ∷ []) c.requires refl (Unit {0}) _ _ refl

pub returns-in-Err-clause-rests : goal.returns-in-Err-clause-rests
returns-in-Err-clause-rests g c = λ _.
    begun_rests c.args.header.now None (header_bytes c.args.header.now ++ 0 ∷ []) c.requires refl (Unit {0}) _ _ (begun_none c.args.header.now None (header_bytes c.args.header.now ++ 0 ∷ []) c.requires refl (Unit {0}) _ _ refl)

pub begin-requires : goal.begin-requires
begin-requires g c =
    let long = ap length (c.deref.ensures.value ∙ c.in-Ok.ensures) in
    omega (arith, long, length-append (header_bytes c.args.header.now) (0 ∷ []), header_long c.args.header.now)

pub returns-in-Ok-begin-clause-story : goal.returns-in-Ok-begin-clause-story
returns-in-Ok-begin-clause-story g c =
    begun_replaces c.args.header.now None c.deref.result.now c.requires (c.deref.ensures.value ∙ c.in-Ok.ensures) (Ok _) _ _ c.in-Ok-begin.ensures.calls

pub returns-in-Ok-begin-clause-calls : goal.returns-in-Ok-begin-clause-calls
returns-in-Ok-begin-clause-calls g c =
    begun_calls c.args.header.now None c.deref.result.now c.requires (c.deref.ensures.value ∙ c.in-Ok.ensures) {T = Unit {0}} (Ok tt) _ _ c.in-Ok-begin.ensures.calls

pub returns-in-Ok-begin-clause-settled : goal.returns-in-Ok-begin-clause-settled
returns-in-Ok-begin-clause-settled g c =
    let none = (c.requires.fits.first c.requires.has).1 in
    begun_settled c.args.header.now None c.deref.result.now c.requires (c.deref.ensures.value ∙ c.in-Ok.ensures) g.D.Disk.told g.D.Disk.size _ _ c.in-Ok-begin.field-0 c.in-Ok-begin.ensures.calls refl refl refl refl (omega (arith, none)) c.in-Ok-begin.ensures.size

pub returns-clause-story : goal.returns-clause-story
returns-clause-story g c =
    (begun_faults c.args.header.now None c.deref.result.now c.requires (c.deref.ensures.value ∙ c.in-Ok.ensures) (Unit {0}) _ c.in-Err-begin.fault c.from.result _ _ c.from.ensures c.in-Err-begin.ensures.calls).0

pub returns-clause-calls : goal.returns-clause-calls
returns-clause-calls g c =
    (begun_faults c.args.header.now None c.deref.result.now c.requires (c.deref.ensures.value ∙ c.in-Ok.ensures) (Unit {0}) _ c.in-Err-begin.fault c.from.result _ _ c.from.ensures c.in-Err-begin.ensures.calls).1

pub returns-clause-rests : goal.returns-clause-rests
returns-clause-rests g c = λ is.
    (begun_faults c.args.header.now None c.deref.result.now c.requires (c.deref.ensures.value ∙ c.in-Ok.ensures) (Unit {0}) (Unit {0}) c.in-Err-begin.fault c.from.result _ _ c.from.ensures c.in-Err-begin.ensures.calls).2 (cc is)
