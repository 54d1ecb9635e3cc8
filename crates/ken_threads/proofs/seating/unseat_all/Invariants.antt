use Rattle.std.proofs.Common.{◌≡◌, ◌+◌, ◌-◌, ◌<◌, ◌≤◌, ℕ, length, vec_capacity, Vec, Global}
use Rattle.std.specs.Prelude.{slice_index_or}
use Rattle.ken_wire.specs.declared.send_end.SendEnd.{SendEnd}
use Rattle.ken_wire.specs.declared.take_end.TakeEnd.{TakeEnd}
use Rattle.ken_threads.specs.Seating.{crew_at, ends_at, IsSeated, KeepsFaults}
use Rattle.ken_threads.proofs.Seated.{IsFront}
use Rattle.ken_threads.proofs.seating.unseat_all.Given as goal

abbrev pub invariant-teams : goal.invariant-teams
invariant-teams g l = record {
  teams : IsFront l.initial.teams.items l.teams.items;
  count : length l.crews.items + length l.teams.items ≡ length l.initial.teams.items;
  mail_count : (length l.mail.takes.items ≡ length l.crews.items) × (length l.mail.sends.items ≡ length l.crews.items);
  acks_count : (length l.acks.takes.items ≡ length l.crews.items) × (length l.acks.sends.items ≡ length l.crews.items);
  crews_room : length l.initial.teams.items ≤ vec_capacity l.crews;
  mail_room : (length l.initial.teams.items ≤ vec_capacity l.mail.takes) × (length l.initial.teams.items ≤ vec_capacity l.mail.sends);
  acks_room : (length l.initial.teams.items ≤ vec_capacity l.acks.takes) × (length l.initial.teams.items ≤ vec_capacity l.acks.sends);
  seated : (v : ℕ) (c : _) (t : TakeEnd) (s : Vec SendEnd Global) (none : _) → v < length l.crews.items
      → IsSeated (crew_at v l.crews.items c) (ends_at v l.mail.takes.items l.mail.sends.items t s) (ends_at v l.acks.takes.items l.acks.sends.items t s)
      (slice_index_or l.initial.teams.items (length l.initial.teams.items - (v + 1)) none);
  faults : (v : ℕ) (c : _) (none : _) → v < length l.crews.items → KeepsFaults (slice_index_or l.initial.teams.items (length l.initial.teams.items - (v + 1)) none) (crew_at v l.crews.items c).faults;
}

abbrev pub decreases-teams : goal.decreases-teams
decreases-teams g l = length l.teams.items
