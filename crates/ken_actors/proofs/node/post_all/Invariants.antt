use Rattle.std.proofs.Common.{◌≡◌, ℕ, ◌+◌, ◌<◌, ◌≤◌, ◌++◌, [], length, map, slice_index_or, vec_len, vec_capacity}
use Rattle.std.specs.List.{All}
use Rattle.std.specs.Vec.Iter.{into_iter_items}
use Rattle.ken_model.specs.Network.{numbered}
use Rattle.ken_model.specs.Posted.{posted_after, count_at}
use Rattle.ken_actors.specs.Letters.{send_of, copy_of}
use Rattle.ken_actors.proofs.node.post_all.Given as goal

-- what is posted, and what posting the rest would add, are what posting all would give; and there is room for the rest
abbrev pub invariant-loop-letter : goal.invariant-loop-letter
invariant-loop-letter l = record {
  sent : (w : ℕ) → slice_index_or (map (λ v. v.items) l.sent) w [] ++ numbered l.node w (count_at (map (λ v. v.items) l.sent) w) l.stamp (map send_of (into_iter_items l.letter-iterator))
      ≡ slice_index_or (map (λ v. v.items) l.fn.sent) w [] ++ numbered l.node w (count_at (map (λ v. v.items) l.fn.sent) w) l.stamp (map send_of l.fn.letters.items);
  mail : l.mail.items ++ posted_after l.node l.stamp (count_at (map (λ v. v.items) l.sent)) (map copy_of (into_iter_items l.letter-iterator))
      ≡ l.fn.mail.items ++ posted_after l.node l.stamp (count_at (map (λ v. v.items) l.fn.sent)) (map copy_of l.fn.letters.items);
  known : All (λ x. x.send.to < length l.sent) (into_iter_items l.letter-iterator);
  room : All (λ v. vec_len v + length (into_iter_items l.letter-iterator) ≤ vec_capacity v) l.sent;
  mail_room : vec_len l.mail + length (into_iter_items l.letter-iterator) ≤ vec_capacity l.mail;
}
