-- What a turn sends, with the numbers that it has on its links.
use Rattle.std.specs.Prelude.{ℕ, ◌+◌, List, [], ◌∷◌, length, slice_index_or, ◌==◌, if◌then◌else◌}
use Rattle.ken_model.specs.declared.messages.Message.{Message}
use Rattle.ken_model.specs.declared.messages.Send.{Send}

-- what a turn of node v with that stamp sends, each message numbered after the count of those on its link
abbrev pub posted_after : ℕ → ℕ → (ℕ → ℕ) → List Send → List Message
posted_after v stamp counts [] = []
posted_after v stamp counts (s ∷ ss) = record { from = v; to = s.to; number = counts s.to + 1; stamp = stamp; bytes = s.bytes } ∷ posted_after v stamp (λ w. if w == s.to then counts w + 1 else counts w) ss

-- how many messages there are for node w
abbrev pub count_at : List (List Message) → ℕ → ℕ
count_at lists w = length (slice_index_or lists w [])
