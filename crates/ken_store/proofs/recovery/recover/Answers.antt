use Rattle.std.proofs.Common.{◌∙◌, List, ℕ, refl, ap, sym, subst}
use Rattle.ken_log.specs.Mounts.{mount_of}
use Rattle.ken_store.specs.declared.owner.Owner.{Owner}
use Rattle.ken_store.specs.Answers.{Answers, IsMounted, answer_of}
use Rattle.ken_store.specs.Recovered.{Recovery, IsRefusedAt, with_log, with_logs}
use Rattle.ken_store.proofs.Currents.{heads_told}
use Rattle.ken_store.proofs.Recovering.{current_told, image_told, current_rests, other_rests, image_rests, seen_on, mounts_on, fresh_rests, fresh_none}
use Rattle.ken_store.proofs.recovery.recover.Goals as goal

pub recover_log-requires-clause-current : goal.recover_log-requires-clause-current
recover_log-requires-clause-current g c = λ h told.
    let first = ap (λ p. p.0) c.apart-current.ensures in
    current_rests g.D.Disk.told g.D.Disk.faults g.D.Disk.fate c.args.disks c.logs_on.new.disks c.in-Ok.ensures.reads c.in-Current.which c.requires.rests h (ap g.D.Disk.told (sym first) ∙ told)

pub recover_log-requires-clause-image : goal.recover_log-requires-clause-image
recover_log-requires-clause-image g c = λ h told.
    let second = ap (λ p. p.1) c.apart-current.ensures in
    image_rests g.D.Disk.told g.D.Disk.faults g.D.Disk.fate c.args.disks c.logs_on.new.disks c.in-Ok.ensures.reads c.requires.rests h (ap g.D.Disk.told (sym second) ∙ told)

pub returns-in-NoLogs-clause-answers : goal.returns-in-NoLogs-clause-answers
returns-in-NoLogs-clause-answers g c = λ l tl i ti s ts.
    let owner : Owner = record { node = c.args.node; nodes = c.args.nodes; pages = c.args.pages } in
    ap (with_logs owner l.now.seen i.now.seen s.now.seen) (sym (c.in-Ok.ensures.logs l tl s ts) ∙ c.in-NoLogs.is)

pub returns-in-WrongHeader-clause-answers : goal.returns-in-WrongHeader-clause-answers
returns-in-WrongHeader-clause-answers g c = λ l tl i ti s ts.
    let owner : Owner = record { node = c.args.node; nodes = c.args.nodes; pages = c.args.pages } in
    let is = ap (with_logs owner l.now.seen i.now.seen s.now.seen) (sym (c.in-Ok.ensures.logs l tl s ts) ∙ c.in-WrongHeader.is) in
    subst (λ (r : Recovery). IsRefusedAt r c.number.result 0) (sym is) (c.number.ensures, refl)

pub returns-in-Current-clause-answers : goal.returns-in-Current-clause-answers
returns-in-Current-clause-answers g c = λ l tl i ti s ts.
    let owner : Owner = record { node = c.args.node; nodes = c.args.nodes; pages = c.args.pages } in
    let which = c.in-Current.which in
    let first = ap (λ p. p.0) c.apart-current.ensures in
    let second = ap (λ p. p.1) c.apart-current.ensures in
    let current = current_told g.D.Disk.told g.D.Disk.faults g.D.Disk.fate c.args.disks c.logs_on.new.disks c.in-Ok.ensures.reads which l s tl ts in
    let image = image_told g.D.Disk.told g.D.Disk.faults g.D.Disk.fate c.args.disks c.logs_on.new.disks c.in-Ok.ensures.reads i ti in
    let answers = c.recover_log.ensures.answers _ (ap g.D.Disk.told first ∙ current) i (ap g.D.Disk.told second ∙ image) in
    let is = ap (with_logs owner l.now.seen i.now.seen s.now.seen) (sym (c.in-Ok.ensures.logs l tl s ts) ∙ c.in-Current.is) in
    subst (Answers (answer_of c.recover_log.result)) (ap (λ (b : List ℕ). with_log owner which c.in-Current.first c.in-Current.second i.now.seen (mount_of b)) (seen_on which l s) ∙ sym is) answers

pub returns-in-Current-clause-records : goal.returns-in-Current-clause-records
returns-in-Current-clause-records g c = λ l tl i ti s ts.
    let which = c.in-Current.which in
    let first = ap (λ p. p.0) c.apart-current.ensures in
    let current = current_told g.D.Disk.told g.D.Disk.faults g.D.Disk.fate c.args.disks c.logs_on.new.disks c.in-Ok.ensures.reads which l s tl ts in
    mounts_on (answer_of c.recover_log.result) which l.now.seen s.now.seen (subst (IsMounted (answer_of c.recover_log.result) which) (seen_on which l s) (c.recover_log.ensures.records _ (ap g.D.Disk.told first ∙ current)))

pub returns-in-NoLogs-clause-ready : goal.returns-in-NoLogs-clause-ready
returns-in-NoLogs-clause-ready g c = (
  fresh_rests g.D.Disk.told g.D.Disk.faults g.D.Disk.fate c.args.disks c.logs_on.new.disks c.in-Ok.ensures.reads c.requires.rests,
  fresh_none g.D.Disk.told g.D.Disk.faults g.D.Disk.fate c.args.disks c.logs_on.new.disks c.in-Ok.ensures.reads c.requires.rests (λ l tl s ts. sym (c.in-Ok.ensures.logs l tl s ts) ∙ c.in-NoLogs.is),
)

pub recover_log-requires-clause-heads : goal.recover_log-requires-clause-heads
recover_log-requires-clause-heads g c = λ h th s ts.
    let first = ap (λ p. p.0) c.apart-current.ensures in
    let third = ap (λ p. p.2) c.apart-current.ensures in
    heads_told g.D.Disk.told g.D.Disk.faults g.D.Disk.fate c.args.disks c.logs_on.new.disks c.in-Ok.ensures.reads c.in-Current.first c.in-Current.second c.in-Current.which
    (λ l tl x tx. sym (c.in-Ok.ensures.logs l tl x tx) ∙ c.in-Current.is) h (ap g.D.Disk.told (sym first) ∙ th) s (ap g.D.Disk.told (sym third) ∙ ts)

pub recover_log-requires-clause-other : goal.recover_log-requires-clause-other
recover_log-requires-clause-other g c = λ h told.
    let third = ap (λ p. p.2) c.apart-current.ensures in
    other_rests g.D.Disk.told g.D.Disk.faults g.D.Disk.fate c.args.disks c.logs_on.new.disks c.in-Ok.ensures.reads c.in-Current.which c.requires.rests h (ap g.D.Disk.told (sym third) ∙ told)
