use Rattle.std.proofs.Common.{◌≡◌, ◌<◌, ◌+◌, ◌^◌, [], Some, Ok, Err, ap, sym, refl, subst, arith}
use Rattle.std.proofs.lemmas.Result.{err_from_is_err_and}
use Rattle.ken_disk.specs.Story.{Story}
use Rattle.ken_record.specs.declared.base.Base.{Base}
use Rattle.ken_record.specs.Grammar.{IsBase}
use Rattle.ken_record.specs.Versions.{One}
use Rattle.ken_log.specs.declared.faults.SealFault.TheVariants as seals
use Rattle.ken_log.specs.Formats.{Replaces, next_header}
use Rattle.ken_log.specs.Mounts as mounts
use Rattle.ken_store.specs.declared.faults.StoreFault.TheVariants as faults
use Rattle.ken_store.specs.declared.turning.TurnSide.{TurnSide}
use Rattle.ken_store.specs.Reads.{of_seal}
use Rattle.ken_store.specs.Turnovers.{ReplacesOn, base_of}
use Rattle.ken_store.proofs.Turned.{side_stands, base_fits, live_turned, state_turned, turned_turning, unturned_turning, mounts_turned, other_rests, other_passed, at_rest_first, replaced_as, unreplaced, memory_of}
use Rattle.ken_store.proofs.Sealing.{told_before}
use Rattle.ken_store.proofs.turning.TurnSide.turnover.Goals as goal

pub returns-in_err-base-clause-log : goal.returns-in_err-base-clause-log
returns-in_err-base-clause-log g c =
    let t = c.requires.turning in
    let s = c.args.self.now in
    let b : Base = base_of s c.args.settled c.args.acked.now c.args.emitted in
    let p = err_from_is_err_and c.from_residual.result c.from_residual.ensures.1 in
    let turns : s.log.header.turns + s.log.records < 2 ^ 64 = (let all = side_stands g.D.Disk.told g.D.Disk.size s t in omega (arith, all.1, all.0.turns, t.count)) in
    rw (p.1, p.2) (unreplaced _ g.D.Disk.told g.D.Disk.size g.D.Disk.faults g.D.Disk.fate s.log b s.other t.log (base_fits g.D.Disk.told g.D.Disk.size s t c.args.settled c.args.acked.now c.args.emitted c.requires.idle c.requires.length) c.requires.length c.requires.generation turns t.rests)

pub turnover-requires-clause-base : goal.turnover-requires-clause-base
turnover-requires-clause-base g c =
    subst (IsBase One) (sym c.in_ok-base.ensures.base) (base_fits g.D.Disk.told g.D.Disk.size c.args.self.now c.requires.turning c.args.settled c.args.acked.now c.args.emitted c.requires.idle c.requires.length)

pub turnover-requires-clause-turns : goal.turnover-requires-clause-turns
turnover-requires-clause-turns g c =
    let all = side_stands g.D.Disk.told g.D.Disk.size c.args.self.now c.requires.turning in
    let count = c.requires.turning.count in
    omega (arith, all.1, all.0.turns, count)

pub returns-in_err-turnover-clause-goes_on : goal.returns-in_err-turnover-clause-goes_on
returns-in_err-turnover-clause-goes_on g c = λ is.
    let t = c.requires.turning in
    let p = err_from_is_err_and c.from_residual-in_err-turnover.result c.from_residual-in_err-turnover.ensures.1 in
    let fault : of_seal c.in_err-turnover.field-0.0 ≡ faults.Memory = cc (p.1, p.2, is) in
    let memory : c.in_err-turnover.field-0.0 ≡ seals.Memory = memory_of c.in_err-turnover.field-0.0 fault in
    let log = c.in_err-turnover.ensures.goes_on (ap Err memory) in
    let rests = c.in_err-turnover.ensures.rests (ap Err memory) in
    let calls = rw memory at c.in_err-turnover.ensures.calls in
    unturned_turning g.D.Disk.told g.D.Disk.size c.args.self.now _ t c.requires.idle c.args.settled c.args.acked.now c.args.emitted
    (record { head = rw log refl; base = rw log refl; records = refl; base_turns = refl; owner = refl; numbers = refl; objects = refl; which = refl }) log
    (other_rests _ _ rests t.rests) (λ h th. other_passed (Unit {0}) c.args.self.now.owner c.args.self.now.log.header (next_header c.args.self.now.log c.in_ok-base.base) c.in_ok-base.base _ _ calls (t.other h th))

pub returns-clause-turned : goal.returns-clause-turned
returns-clause-turned g c =
    let t = c.requires.turning in
    let s = c.args.self.now in
    let new : TurnSide g.row.D.Denot = record s { log = c.turnover.new.self; which = c.other-self.result; other = c.turnover.new.other; base_turns = c.in_ok-base.turns; records = c.clear.new.self } in
    let head = rw c.in_ok-base.ensures.base at c.in_ok-turnover.ensures.made.0 in
    let base = rw c.in_ok-base.ensures.base at c.in_ok-turnover.ensures.made.1 in
    let turns = c.in_ok-base.ensures.turns in
    record {
      live = live_turned g.D.Disk.told g.D.Disk.size s new t c.requires.idle c.args.settled c.args.acked.now c.args.emitted refl head base c.clear.ensures.items turns;
      state = state_turned g.D.Disk.told g.D.Disk.size s new t c.requires.idle c.args.settled c.args.acked.now c.args.emitted refl head base c.clear.ensures.items turns refl refl;
      head = head;
      base = base;
      records = c.clear.ensures.items;
      base_turns = turns;
      owner = refl;
      numbers = refl;
      objects = refl;
      which = c.other-self.ensures;
    }

pub returns-clause-turning : goal.returns-clause-turning
returns-clause-turning g c =
    let t = c.requires.turning in
    let s = c.args.self.now in
    let head = rw c.in_ok-base.ensures.base at c.in_ok-turnover.ensures.made.0 in
    let base = rw c.in_ok-base.ensures.base at c.in_ok-turnover.ensures.made.1 in
    let turns = c.in_ok-base.ensures.turns in
    let story = rw c.in_ok-base.ensures.base at c.in_ok-turnover.ensures.story in
    let takes = c.in_ok-turnover.ensures.settled in
    turned_turning g.D.Disk.told g.D.Disk.size s _ t c.requires.idle c.args.settled c.args.acked.now c.args.emitted refl refl refl c.in_ok-turnover.ensures.own head base c.in_ok-turnover.ensures.made.2 c.clear.ensures.items turns takes
    (mounts_turned _ c.in_ok-turnover.field-0 (next_header s.log (base_of s c.args.settled c.args.acked.now c.args.emitted)) (base_of s c.args.settled c.args.acked.now c.args.emitted) _ _ story t.rests takes.rests) (told_before _ _ _ story)

pub returns-clause-log : goal.returns-clause-log
returns-clause-log g c =
    let t = c.requires.turning in
    let s = c.args.self.now in
    let b : Base = base_of s c.args.settled c.args.acked.now c.args.emitted in
    let story = rw c.in_ok-base.ensures.base at c.in_ok-turnover.ensures.story in
    record {
      story = at_rest_first (λ (h q : Story). Replaces (mounts.Whole (next_header s.log b) (Some b) []) (Ok tt) h q) _ _ t.rests story;
      calls = rw c.in_ok-base.ensures.base at c.in_ok-turnover.ensures.calls;
      cause = c.in_ok-turnover.ensures.cause;
      fate = c.in_ok-turnover.ensures.fate;
    }

pub returns-in_err-turnover-clause-log : goal.returns-in_err-turnover-clause-log
returns-in_err-turnover-clause-log g c =
    let t = c.requires.turning in
    let s = c.args.self.now in
    let b : Base = base_of s c.args.settled c.args.acked.now c.args.emitted in
    let fault = c.in_err-turnover.field-0.0 in
    let p = err_from_is_err_and c.from_residual-in_err-turnover.result c.from_residual-in_err-turnover.ensures.1 in
    let story = rw c.in_ok-base.ensures.base at c.in_err-turnover.ensures.story in
    let calls = rw c.in_ok-base.ensures.base at c.in_err-turnover.ensures.calls in
    let replaces : ReplacesOn {T = Unit {0}} g.D.Disk.told g.D.Disk.faults g.D.Disk.fate (Err fault) (next_header s.log b) b s.other c.turnover.new.other = record {
      story = at_rest_first (λ (h q : Story). Replaces {T = Unit {0}} (mounts.Whole (next_header s.log b) (Some b) []) (Err fault) h q) _ _ t.rests story;
      calls = calls;
      cause = c.in_err-turnover.ensures.cause;
      fate = c.in_err-turnover.ensures.fate;
    } in
    rw (p.1, p.2) (replaced_as (Unit {0}) g.D.Disk.told g.D.Disk.faults g.D.Disk.fate fault (next_header s.log b) b s.other c.turnover.new.other replaces)
