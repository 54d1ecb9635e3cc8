use Rattle.std.proofs.Common.{[], ◌∷◌, ◌++◌, refl, arith, Err}
use Rattle.std.proofs.lemmas.Result.{err_from_is_err_and}
use Rattle.ken_disk.specs.declared.faults.DiskFault.TheVariants.{Memory}
use Rattle.ken_disk.proofs.Made.{told_none}
use Rattle.ken_record.specs.Spelling.{record_bytes}
use Rattle.ken_record.specs.Versions.{version_of}
use Rattle.ken_log.specs.Seals.{as_disk}
use Rattle.ken_log.proofs.Added.{added_story, added_grown, added_settled, added_goes_on, body_long}
use Rattle.ken_log.proofs.Sealed.{seal_calls, seal_changes, seal_goes_on}
use Rattle.ken_log.proofs.log.Log.seal.Goals as goal

pub returns-in_err-stage-clause-story : goal.returns-in_err-stage-clause-story
returns-in_err-stage-clause-story g c =
    let p = err_from_is_err_and c.from_residual.result c.from_residual.ensures.1 in
    let item = c.args.item.now in
    rw (p.1, p.2) (seal_changes g.D.Disk.told g.D.Disk.size c.args.self.now item (record_bytes (version_of c.args.self.now.header) item ++ 0 ∷ []) c.requires.settled c.requires.item refl {T = Unit {0}} (Err Memory) _ (told_none (Unit {0}) _ _ _ _ refl))

pub returns-in_err-stage-clause-calls : goal.returns-in_err-stage-clause-calls
returns-in_err-stage-clause-calls g c =
    let p = err_from_is_err_and c.from_residual.result c.from_residual.ensures.1 in
    rw (p.1, p.2) (told_none (Unit {0}) _ _ _ _ refl)

pub returns-in_err-stage-clause-goes_on : goal.returns-in_err-stage-clause-goes_on
returns-in_err-stage-clause-goes_on g c = λ _.
    let item = c.args.item.now in
    seal_goes_on g.D.Disk.told g.D.Disk.size c.args.self.now item (record_bytes (version_of c.args.self.now.header) item ++ 0 ∷ []) c.requires.settled c.requires.item refl (Unit {0}) _ (told_none (Unit {0}) _ _ _ _ refl) refl refl c.requires.settled.sound refl refl c.requires.settled.room

pub add_body-requires-clause-room : goal.add_body-requires-clause-room
add_body-requires-clause-room g c =
    let long = body_long g.D.Disk.told g.D.Disk.size c.args.self.now c.args.self.now c.args.item.now c.stage.new.body.items c.requires.settled c.requires.item c.in_ok-stage.ensures in
    omega (arith, c.requires.room, long)

pub returns-clause-story : goal.returns-clause-story
returns-clause-story g c =
    added_story g.D.Disk.told g.D.Disk.size c.args.self.now c.add_body.new.self c.args.item.now c.stage.new.body.items c.requires.settled c.requires.item c.in_ok-stage.ensures c.add_body.result c.add_body.ensures.calls

pub returns-clause-calls : goal.returns-clause-calls
returns-clause-calls g c =
    seal_calls (version_of c.args.self.now.header) c.args.self.now.end c.args.item.now c.stage.new.body.items c.in_ok-stage.ensures (as_disk c.add_body.result) _ _ c.add_body.ensures.calls

pub returns-clause-settled : goal.returns-clause-settled
returns-clause-settled g c =
    let e = c.add_body.ensures in
    added_settled g.D.Disk.told g.D.Disk.size c.args.self.now c.add_body.new.self c.args.item.now c.stage.new.body.items c.requires.settled c.requires.item c.in_ok-stage.ensures e.head.0 e.head.1 c.add_body.result e.calls e.sound e.grown e.size

pub returns-clause-goes_on : goal.returns-clause-goes_on
returns-clause-goes_on g c =
    let e = c.add_body.ensures in
    added_goes_on g.D.Disk.told g.D.Disk.size c.args.self.now c.add_body.new.self c.args.item.now c.stage.new.body.items c.requires.settled c.requires.item c.in_ok-stage.ensures e.head.0 e.head.1 c.add_body.result e.calls e.unspent e.same e.memory

pub returns-clause-grown : goal.returns-clause-grown
returns-clause-grown g c =
    added_grown g.D.Disk.told g.D.Disk.size c.args.self.now c.add_body.new.self c.args.item.now c.stage.new.body.items c.requires.settled c.requires.item c.in_ok-stage.ensures c.add_body.result c.add_body.ensures.grown
