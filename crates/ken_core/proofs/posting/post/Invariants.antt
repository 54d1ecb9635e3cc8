use Rattle.std.proofs.Common.{◌≡◌, ℕ, ◌+◌, ◌<◌, ◌≤◌, ◌++◌, ◌==◌, [], length, map, filter, slice_index_or, vec_len, vec_capacity}
use Rattle.std.specs.List.{All}
use Rattle.std.specs.Vec.Iter.{into_iter_items}
use Rattle.ken_model.specs.declared.messages.Message.{Message}
use Rattle.ken_core.proofs.posting.post.Given as goal

-- what is posted, and what posting the rest would add, are what posting all would give; and there is room for the rest
abbrev pub invariant-loop-mail : goal.invariant-loop-mail
invariant-loop-mail l = record {
  sent : (w : ℕ) → slice_index_or (map (λ v. v.items) l.sent) w [] ++ filter (λ (m : Message). m.to == w) (into_iter_items l.mail-iterator) ≡ slice_index_or (map (λ v. v.items) l.fn.sent) w [] ++ filter (λ (m : Message). m.to == w) l.fn.mails.items;
  known : All (λ (m : Message). m.to < length l.sent) (into_iter_items l.mail-iterator);
  room : All (λ v. vec_len v + length (into_iter_items l.mail-iterator) ≤ vec_capacity v) l.sent;
}
