use Rattle.std.proofs.Common.{◌≡◌, ℕ, ◌+◌, ◌-◌, length, refl, sym, subst, arith, rules}
use Rattle.std.specs.Prelude.{slice_index_or}
use Rattle.ken_threads.specs.Seating.{crew_at, ends_at, IsSeated, KeepsFaults}
use Rattle.ken_threads.proofs.Seated.{long, one_more_back, one_taken, taken_at}
use Rattle.ken_threads.proofs.seating.unseat_all.Goals as goal

pub teams-preserved : goal.teams-preserved
teams-preserved g c =
    let l = c.teams in
    let teams = c.args.teams.now.items in
    let n = length teams in
    let rest = c.pop.new.self.items in
    let team = c.in-Some.team in
    let split = c.in-Some.ensures.items in
    let shorter = long l.teams.items rest team split in
    let crews = long c.push_reserved.new.self.items l.crews.items c.unseat-crew.result.0 c.push_reserved.ensures.items in
    let takes = long c.push.new.self.takes.items l.mail.takes.items c.unseat-crew.result.1.take c.push.ensures.takes in
    let sends = long c.push.new.self.sends.items l.mail.sends.items c.unseat-crew.result.1.sends c.push.ensures.sends in
    let acks = long c.push-in-Some.new.self.takes.items l.acks.takes.items c.unseat-crew.result.2.take c.push-in-Some.ensures.takes in
    let puts = long c.push-in-Some.new.self.sends.items l.acks.sends.items c.unseat-crew.result.2.sends c.push-in-Some.ensures.sends in
    let count = l.invariant.count in
    let mail_count = l.invariant.mail_count in
    let acks_count = l.invariant.acks_count in
    let mail_takes = mail_count.0 in
    let mail_sends = mail_count.1 in
    let acks_takes = acks_count.0 in
    let acks_sends = acks_count.1 in
    record {
      teams = one_taken teams l.teams.items rest team l.invariant.teams split;
      count = omega (arith, count, shorter, crews);
      mail_count = (omega (arith, takes, crews, mail_takes), omega (arith, sends, crews, mail_sends));
      acks_count = (omega (arith, acks, crews, acks_takes), omega (arith, puts, crews, acks_sends));
      crews_room = omega (arith, l.invariant.crews_room, c.push_reserved.ensures.capacity);
      mail_room = (omega (arith, l.invariant.mail_room.0, c.push.ensures.room.0), omega (arith, l.invariant.mail_room.1, c.push.ensures.room.1));
      acks_room = (omega (arith, l.invariant.acks_room.0, c.push-in-Some.ensures.room.0), omega (arith, l.invariant.acks_room.1, c.push-in-Some.ensures.room.1));
      seated = λ v crew t s none low.
          one_more_back (λ a b c d e w. IsSeated a (record { take = b; sends = c }) (record { take = d; sends = e }) w)
          l.crews.items c.push_reserved.new.self.items l.mail.takes.items c.push.new.self.takes.items l.mail.sends.items c.push.new.self.sends.items l.acks.takes.items c.push-in-Some.new.self.takes.items l.acks.sends.items c.push-in-Some.new.self.sends.items
          c.unseat-crew.result.0 c.unseat-crew.result.1.take c.unseat-crew.result.1.sends c.unseat-crew.result.2.take c.unseat-crew.result.2.sends (λ k. slice_index_or teams (n - (k + 1)) none) (length l.crews.items)
          c.push_reserved.ensures.items c.push.ensures.takes c.push.ensures.sends c.push-in-Some.ensures.takes c.push-in-Some.ensures.sends refl mail_takes mail_sends acks_takes acks_sends
          v crew t s (omega (arith, low, crews)) (λ there. l.invariant.seated v crew t s none there)
          (subst (λ w. IsSeated c.unseat-crew.result.0 c.unseat-crew.result.1 c.unseat-crew.result.2 w) (sym (taken_at teams l.teams.items rest team none (n - (length l.crews.items + 1)) l.invariant.teams split (omega (arith, count, shorter)))) c.unseat-crew.ensures.seated);
      faults = λ v crew none low.
          one_more_back (λ a b c d e w. KeepsFaults w a.faults)
          l.crews.items c.push_reserved.new.self.items l.mail.takes.items c.push.new.self.takes.items l.mail.sends.items c.push.new.self.sends.items l.acks.takes.items c.push-in-Some.new.self.takes.items l.acks.sends.items c.push-in-Some.new.self.sends.items
          c.unseat-crew.result.0 c.unseat-crew.result.1.take c.unseat-crew.result.1.sends c.unseat-crew.result.2.take c.unseat-crew.result.2.sends (λ k. slice_index_or teams (n - (k + 1)) none) (length l.crews.items)
          c.push_reserved.ensures.items c.push.ensures.takes c.push.ensures.sends c.push-in-Some.ensures.takes c.push-in-Some.ensures.sends refl mail_takes mail_sends acks_takes acks_sends
          v crew c.unseat-crew.result.1.take c.unseat-crew.result.1.sends (omega (arith, low, crews)) (λ there. l.invariant.faults v crew none there)
          (subst (λ w. KeepsFaults w c.unseat-crew.result.0.faults) (sym (taken_at teams l.teams.items rest team none (n - (length l.crews.items + 1)) l.invariant.teams split (omega (arith, count, shorter)))) c.unseat-crew.ensures.faults);
    }

pub returns-clause-seated : goal.returns-clause-seated
returns-clause-seated g c =
    let l = c.teams in
    let none : length l.teams.items ≡ 0 = search rules in
    let n : length c.args.teams.now.items ≡ length l.crews.items = omega (arith, l.invariant.count, none) in
    record {
      count = n;
      each = λ v crew t s none low.
          subst
          (λ (k : ℕ). IsSeated (crew_at v l.crews.items crew) (ends_at v l.mail.takes.items l.mail.sends.items t s) (ends_at v l.acks.takes.items l.acks.sends.items t s) (slice_index_or c.args.teams.now.items (k - (v + 1)) none))
          n (l.invariant.seated v crew t s none low);
    }
