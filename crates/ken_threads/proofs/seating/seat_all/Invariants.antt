use Rattle.std.proofs.Common.{◌≡◌, ◌+◌, ◌≤◌, length, vec_capacity, Vec, Global}
use Rattle.ken_wire.specs.declared.send_end.SendEnd.{SendEnd}
use Rattle.ken_wire.specs.declared.take_end.TakeEnd.{TakeEnd}
use Rattle.ken_threads.specs.Seating.{crew_at, ends_at, IsAtNode, IsSeated}
use Rattle.ken_threads.proofs.Seated.{FromOn, IsFront}
use Rattle.ken_threads.proofs.seating.seat_all.Given as goal

abbrev pub invariant-crews : goal.invariant-crews
invariant-crews g l = record {
  crews : IsFront l.initial.crews.items l.crews.items;
  mail_takes : IsFront l.initial.mail.takes.items l.mail.takes.items;
  mail_sends : IsFront l.initial.mail.sends.items l.mail.sends.items;
  acks_takes : IsFront l.initial.acks.takes.items l.acks.takes.items;
  acks_sends : IsFront l.initial.acks.sends.items l.acks.sends.items;
  mail_count : (length l.mail.takes.items ≡ length l.crews.items) × (length l.mail.sends.items ≡ length l.crews.items);
  acks_count : (length l.acks.takes.items ≡ length l.crews.items) × (length l.acks.sends.items ≡ length l.crews.items);
  count : length l.teams.items + length l.crews.items ≡ length l.initial.crews.items;
  teams_room : length l.initial.crews.items ≤ vec_capacity l.teams;
  crews_room : vec_capacity l.crews ≡ vec_capacity l.initial.crews;
  mail_room : (vec_capacity l.mail.takes ≡ vec_capacity l.initial.mail.takes) × (vec_capacity l.mail.sends ≡ vec_capacity l.initial.mail.sends);
  acks_room : (vec_capacity l.acks.takes ≡ vec_capacity l.initial.acks.takes) × (vec_capacity l.acks.sends ≡ vec_capacity l.initial.acks.sends);
  seated : FromOn (length l.initial.crews.items) (λ v team. (c : _) (t : TakeEnd) (s : Vec SendEnd Global)
      → IsSeated (crew_at v l.initial.crews.items c) (ends_at v l.initial.mail.takes.items l.initial.mail.sends.items t s) (ends_at v l.initial.acks.takes.items l.initial.acks.sends.items t s) team) (length l.crews.items) l.teams.items;
  nodes : FromOn (length l.initial.crews.items) (λ v team. IsAtNode v l.fn.app team) (length l.crews.items) l.teams.items;
}

abbrev pub decreases-crews : goal.decreases-crews
decreases-crews g l = length l.crews.items
