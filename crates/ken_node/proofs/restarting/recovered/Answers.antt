use Rattle.ken_node.proofs.RestartSynced.{less-synced, read-work, same-tell, stage-synced}
use Rattle.std.proofs.Common.{◌≡◌, ℕ, List, Result, Ok, Err, refl, subst, sym}
use Rattle.ken_node.specs.declared.stage.Stage.TheVariants.{Uncreated}
use Rattle.std.specs.Prelude.{OnOk}
use Rattle.ken_record.specs.declared.record.Record.{Record}
use Rattle.ken_store.specs.declared.disks.Disks.{Disks}
use Rattle.ken_store.specs.declared.store.Recovered.{Recovered}
use Rattle.ken_store.specs.declared.store.Recovered.TheVariants as found
use Rattle.ken_store.specs.Answers.{disks_in}
use Rattle.ken_ship.specs.declared.faults.NodeFault.{NodeFault}
use Rattle.ken_ship.specs.Parts.{part_of}
use Rattle.ken_work.specs.Faults.{IsFaultOfWorker}
use Rattle.ken_work.specs.Parts.{CountsAnew}
use Rattle.ken_node.specs.Restarting.{GoesOn, RecoversBy}
use Rattle.ken_node.specs.Stages.{owner_in}
use Rattle.ken_node.proofs.Fresh.{found-by, found-counts, found-down, found-emissions, found-up, has-one, uncreated, whole-by}
use Rattle.ken_node.proofs.Recovered.{IsFound, counts-still, on-err, read-less, recovers-sound, state-mails, tell-now}
use Rattle.ken_node.proofs.Restarted.{down-on}
use Rattle.ken_node.proofs.WholeAgain.{backs-down, whole-up}
use Rattle.ken_node.proofs.restarting.recovered.Goals as goal

pub created_anew-requires : goal.created_anew-requires
created_anew-requires g c =
    let r = c.requires.down in
    let e = c.in-Ok-Fresh.ensures in
    let is : c.in-Ok-Fresh.field-0 ≡ found.Fresh c.in-Ok-Fresh.disks = cc in
    let f = subst (IsFound g.D.Disk.told g.D.Disk.size g.D.Disk.faults g.D.Disk.fate c.args.disks c.args.parts) is (record { answers = e.answers; records = e.records; ready = e.ready; reads = e.reads }) in
    record {
      game = r.game;
      node = r.node;
      disks = c.in-Ok-Fresh.disks;
      uncreated = uncreated g.D.Disk.told g.D.Disk.size g.D.Disk.faults g.D.Disk.fate r.game r.node r.given r.stood_for r.doubt c.args.disks c.in-Ok-Fresh.disks c.args.parts r.down c.requires.rests f.answers f.reads;
      rests = f.ready.0;
      none = f.ready.1;
    }

pub gone_on-requires-clause-mails : goal.gone_on-requires-clause-mails
gone_on-requires-clause-mails g c =
    let r = c.requires.down in
    let e = c.in-Ok-Whole.ensures in
    let is : c.in-Ok-Whole.field-0 ≡ found.Whole c.in-Ok-Whole.store c.in-Ok-Whole.state c.in-Ok-Whole.records = cc in
    let f = subst (IsFound g.D.Disk.told g.D.Disk.size g.D.Disk.faults g.D.Disk.fate c.args.disks c.args.parts) is (record { answers = e.answers; records = e.records; ready = e.ready; reads = e.reads }) in
    state-mails g.D.Disk.told r.game r.node r.given r.stood_for r.doubt c.args.disks c.args.parts r.down g.D.Disk.size c.in-Ok-Whole.store c.in-Ok-Whole.state f.ready

pub returns-in-Ok-Fresh-clause-up : goal.returns-in-Ok-Fresh-clause-up
returns-in-Ok-Fresh-clause-up g c = λ game v given n doubt d.
    let e = c.in-Ok-Fresh.ensures in
    let is : c.in-Ok-Fresh.field-0 ≡ found.Fresh c.in-Ok-Fresh.disks = cc in
    let f = subst (IsFound g.D.Disk.told g.D.Disk.size g.D.Disk.faults g.D.Disk.fate c.args.disks c.args.parts) is (record { answers = e.answers; records = e.records; ready = e.ready; reads = e.reads }) in
    let new = c.in-Ok-Fresh.disks in
    let made = c.created_anew.ensures.creation game v new (uncreated g.D.Disk.told g.D.Disk.size g.D.Disk.faults g.D.Disk.fate game v given n doubt c.args.disks new c.args.parts d c.requires.rests f.answers f.reads) in
    found-up g.D.Disk.told g.D.Disk.size g.D.Disk.faults g.D.Disk.fate game v given n doubt c.args.disks new c.args.parts d c.requires.rests f.answers f.reads f.ready c.created_anew.result.0 c.created_anew.result.1 made

pub returns-in-Ok-Fresh-clause-down : goal.returns-in-Ok-Fresh-clause-down
returns-in-Ok-Fresh-clause-down g c = λ game v given n doubt d.
    let e = c.in-Ok-Fresh.ensures in
    let is : c.in-Ok-Fresh.field-0 ≡ found.Fresh c.in-Ok-Fresh.disks = cc in
    let f = subst (IsFound g.D.Disk.told g.D.Disk.size g.D.Disk.faults g.D.Disk.fate c.args.disks c.args.parts) is (record { answers = e.answers; records = e.records; ready = e.ready; reads = e.reads }) in
    let new = c.in-Ok-Fresh.disks in
    let made = c.created_anew.ensures.creation game v new (uncreated g.D.Disk.told g.D.Disk.size g.D.Disk.faults g.D.Disk.fate game v given n doubt c.args.disks new c.args.parts d c.requires.rests f.answers f.reads) in
    found-down g.D.Disk.told g.D.Disk.size g.D.Disk.faults g.D.Disk.fate game v given n doubt c.args.disks new c.args.parts d c.requires.rests f.answers f.reads f.ready c.created_anew.result.0 c.created_anew.result.1 made

pub returns-in-Ok-Fresh-clause-emissions : goal.returns-in-Ok-Fresh-clause-emissions
returns-in-Ok-Fresh-clause-emissions g c =
    let r = c.requires.down in
    let e = c.in-Ok-Fresh.ensures in
    let is : c.in-Ok-Fresh.field-0 ≡ found.Fresh c.in-Ok-Fresh.disks = cc in
    let f = subst (IsFound g.D.Disk.told g.D.Disk.size g.D.Disk.faults g.D.Disk.fate c.args.disks c.args.parts) is (record { answers = e.answers; records = e.records; ready = e.ready; reads = e.reads }) in
    let new = c.in-Ok-Fresh.disks in
    let made = c.created_anew.ensures.creation r.game r.node new (uncreated g.D.Disk.told g.D.Disk.size g.D.Disk.faults g.D.Disk.fate r.game r.node r.given r.stood_for r.doubt c.args.disks new c.args.parts r.down c.requires.rests f.answers f.reads) in
    found-emissions g.D.Disk.told g.D.Disk.size g.D.Disk.faults g.D.Disk.fate r.game r.node r.given r.stood_for r.doubt c.args.disks new c.args.parts r.down c.requires.rests f.answers f.reads f.ready c.created_anew.result.0 c.created_anew.result.1 made

pub returns-in-Ok-Fresh-clause-refusals : goal.returns-in-Ok-Fresh-clause-refusals
returns-in-Ok-Fresh-clause-refusals g c =
    let r = c.requires.down in
    let e = c.in-Ok-Fresh.ensures in
    let is : c.in-Ok-Fresh.field-0 ≡ found.Fresh c.in-Ok-Fresh.disks = cc in
    let f = subst (IsFound g.D.Disk.told g.D.Disk.size g.D.Disk.faults g.D.Disk.fate c.args.disks c.args.parts) is (record { answers = e.answers; records = e.records; ready = e.ready; reads = e.reads }) in
    let new = c.in-Ok-Fresh.disks in
    let made = c.created_anew.ensures.creation r.game r.node new (uncreated g.D.Disk.told g.D.Disk.size g.D.Disk.faults g.D.Disk.fate r.game r.node r.given r.stood_for r.doubt c.args.disks new c.args.parts r.down c.requires.rests f.answers f.reads) in
    found-counts g.D.Disk.told g.D.Disk.size g.D.Disk.faults g.D.Disk.fate r.game r.node r.given r.stood_for r.doubt c.args.disks new c.args.parts r.down c.requires.rests f.answers f.reads f.ready c.created_anew.result.0 c.created_anew.result.1 made

pub returns-in-Ok-Fresh-clause-disks : goal.returns-in-Ok-Fresh-clause-disks
returns-in-Ok-Fresh-clause-disks g c = λ after has.
    let r = c.requires.down in
    let e = c.in-Ok-Fresh.ensures in
    let is : c.in-Ok-Fresh.field-0 ≡ found.Fresh c.in-Ok-Fresh.disks = cc in
    let f = subst (IsFound g.D.Disk.told g.D.Disk.size g.D.Disk.faults g.D.Disk.fate c.args.disks c.args.parts) is (record { answers = e.answers; records = e.records; ready = e.ready; reads = e.reads }) in
    let new = c.in-Ok-Fresh.disks in
    let made = c.created_anew.ensures.creation r.game r.node new (uncreated g.D.Disk.told g.D.Disk.size g.D.Disk.faults g.D.Disk.fate r.game r.node r.given r.stood_for r.doubt c.args.disks new c.args.parts r.down c.requires.rests f.answers f.reads) in
    found-by g.D.Disk.told g.D.Disk.size g.D.Disk.faults g.D.Disk.fate r.game r.node r.given r.stood_for r.doubt c.args.disks new c.args.parts r.down c.requires.rests f.answers f.reads f.ready c.created_anew.result.0 c.created_anew.result.1 made after has c.created_anew.ensures.sound

pub returns-in-Ok-Whole-clause-up : goal.returns-in-Ok-Whole-clause-up
returns-in-Ok-Whole-clause-up g c = λ game v given n doubt d.
    let e = c.in-Ok-Whole.ensures in
    let is : c.in-Ok-Whole.field-0 ≡ found.Whole c.in-Ok-Whole.store c.in-Ok-Whole.state c.in-Ok-Whole.records = cc in
    let f = subst (IsFound g.D.Disk.told g.D.Disk.size g.D.Disk.faults g.D.Disk.fate c.args.disks c.args.parts) is (record { answers = e.answers; records = e.records; ready = e.ready; reads = e.reads }) in
    let store = c.in-Ok-Whole.store in
    let state = c.in-Ok-Whole.state in
    let stage = c.gone_on.result.0 in
    let answer = c.gone_on.result.1 in
    let same : c.as_slice.result.now ≡ c.in-Ok-Whole.records = cc in
    let goes = subst (λ (rs : List Record). OnOk answer (GoesOn game v c.args.parts.turns.items store state rs stage)) same (c.gone_on.ensures.ok game v d.of_node) in
    whole-up g.D.Disk.told g.D.Disk.size g.D.Disk.faults g.D.Disk.fate game v given n doubt c.args.disks c.args.parts d c.requires.rests store state c.in-Ok-Whole.records f.answers f.records f.ready f.reads stage answer c.gone_on.ensures.turns goes

pub returns-in-Ok-Whole-clause-down : goal.returns-in-Ok-Whole-clause-down
returns-in-Ok-Whole-clause-down g c = λ game v given n doubt d.
    let e = c.in-Ok-Whole.ensures in
    let is : c.in-Ok-Whole.field-0 ≡ found.Whole c.in-Ok-Whole.store c.in-Ok-Whole.state c.in-Ok-Whole.records = cc in
    let f = subst (IsFound g.D.Disk.told g.D.Disk.size g.D.Disk.faults g.D.Disk.fate c.args.disks c.args.parts) is (record { answers = e.answers; records = e.records; ready = e.ready; reads = e.reads }) in
    backs-down g.D.Disk.told g.D.Disk.size g.D.Disk.faults g.D.Disk.fate game v given n doubt c.args.disks c.args.parts d (disks_in c.in-Ok-Whole.store) c.gone_on.result.0 c.gone_on.result.1 f.reads c.gone_on.ensures.err

pub returns-in-Ok-Whole-clause-disks : goal.returns-in-Ok-Whole-clause-disks
returns-in-Ok-Whole-clause-disks g c = λ after has.
    let e = c.in-Ok-Whole.ensures in
    let store = c.in-Ok-Whole.store in
    let is : c.in-Ok-Whole.field-0 ≡ found.Whole store c.in-Ok-Whole.state c.in-Ok-Whole.records = cc in
    let f = subst (IsFound g.D.Disk.told g.D.Disk.size g.D.Disk.faults g.D.Disk.fate c.args.disks c.args.parts) is (record { answers = e.answers; records = e.records; ready = e.ready; reads = e.reads }) in
    let now : disks_in store ≡ after = has-one (disks_in store) after c.gone_on.result.0 c.gone_on.ensures.disks has in
    subst (λ (y : Disks g.row.D.Denot). RecoversBy g.D.Disk.told g.D.Disk.faults g.D.Disk.fate (owner_in c.args.parts) c.gone_on.result.1 c.args.disks y) now
    (whole-by g.D.Disk.told g.D.Disk.faults g.D.Disk.fate (owner_in c.args.parts) c.gone_on.result.1 c.args.disks (disks_in store) c.gone_on.ensures.memory f.reads)

pub returns-in-Err-clause-down : goal.returns-in-Err-clause-down
returns-in-Err-clause-down g c = λ game v given n doubt d.
    let old = c.args.disks in
    let new = c.in-Err.disks in
    let less = read-less g.D.Disk.told g.D.Disk.faults g.D.Disk.fate {T = Recovered g.row.D.Denot} (Err c.in-Err.fault) old new c.in-Err.ensures.reads in
    on-err c.answered.result _ (down-on g.D.Disk.told game v given n doubt old new c.args.parts less d)

pub returns-in-Err-clause-sound : goal.returns-in-Err-clause-sound
returns-in-Err-clause-sound g c =
    let r = c.requires.down in
    subst (λ (a : Result ℕ NodeFault). IsFaultOfWorker a) (sym c.answered.ensures)
    (recovers-sound g.D.Disk.told r.game r.node r.given r.stood_for r.doubt c.args.disks c.args.parts r.down c.requires.rests c.in-Err.fault c.in-Err.ensures.answers)

pub returns-in-Err-clause-refusals : goal.returns-in-Err-clause-refusals
returns-in-Err-clause-refusals g c =
    let k = (part_of c.args.parts.sends).refusals in
    subst (λ (a : Result ℕ NodeFault). CountsAnew a k k) (sym c.answered.ensures) (counts-still c.in-Err.fault k)

pub returns-in-Ok-Fresh-clause-synced : goal.returns-in-Ok-Fresh-clause-synced
returns-in-Ok-Fresh-clause-synced g c = λ game v given n doubt d before.
    let e = c.in-Ok-Fresh.ensures in
    let is : c.in-Ok-Fresh.field-0 ≡ found.Fresh c.in-Ok-Fresh.disks = cc in
    let f = subst (IsFound g.D.Disk.told g.D.Disk.size g.D.Disk.faults g.D.Disk.fate c.args.disks c.args.parts) is (record { answers = e.answers; records = e.records; ready = e.ready; reads = e.reads }) in
    let new = c.in-Ok-Fresh.disks in
    let u = uncreated g.D.Disk.told g.D.Disk.size g.D.Disk.faults g.D.Disk.fate game v given n doubt c.args.disks new c.args.parts d c.requires.rests f.answers f.reads in
    c.created_anew.ensures.synced game v new u (same-tell g.D.Disk.told g.D.Disk.faults g.D.Disk.fate c.args.disks new f.reads (tell-now g.D.Disk.told game v given n doubt c.args.disks c.args.parts d))

pub returns-in-Ok-Whole-clause-synced : goal.returns-in-Ok-Whole-clause-synced
returns-in-Ok-Whole-clause-synced g c = λ game v given n doubt d before.
    let e = c.in-Ok-Whole.ensures in
    let store = c.in-Ok-Whole.store in
    let is : c.in-Ok-Whole.field-0 ≡ found.Whole store c.in-Ok-Whole.state c.in-Ok-Whole.records = cc in
    let f = subst (IsFound g.D.Disk.told g.D.Disk.size g.D.Disk.faults g.D.Disk.fate c.args.disks c.args.parts) is (record { answers = e.answers; records = e.records; ready = e.ready; reads = e.reads }) in
    let read = read-work g.D.Disk.told g.D.Disk.faults g.D.Disk.fate (Ok (found.Whole store c.in-Ok-Whole.state c.in-Ok-Whole.records)) c.args.disks (disks_in store) f.reads in
    stage-synced g.D.Disk.told g.D.Disk.faults game v (disks_in store) c.gone_on.result.0 c.gone_on.ensures.disks (less-synced g.D.Disk.told g.D.Disk.faults game v c.args.disks (disks_in store) read before)

pub returns-in-Err-clause-synced : goal.returns-in-Err-clause-synced
returns-in-Err-clause-synced g c = λ game v given n doubt d before.
    let old = c.args.disks in
    let new = c.in-Err.disks in
    let read = read-work g.D.Disk.told g.D.Disk.faults g.D.Disk.fate {T = Recovered g.row.D.Denot} (Err c.in-Err.fault) old new c.in-Err.ensures.reads in
    stage-synced g.D.Disk.told g.D.Disk.faults game v new (Uncreated new c.args.parts) refl (less-synced g.D.Disk.told g.D.Disk.faults game v old new read before)
