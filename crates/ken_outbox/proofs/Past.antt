-- Messages that are let go at the front.
use Rattle.std.proofs.Common.{◌≡◌, ℕ, ◌<◌, true, false, List, [], ◌∷◌, length, drop, refl, arith}
use Rattle.ken_model.specs.declared.messages.Message.{Message}
use Rattle.ken_outbox.specs.Waiting.{past, is_first_within}

pub past_first : (through : ℕ) (ms : List Message) → is_first_within through ms ≡ true → past through (drop 1 ms) ≡ past through ms
unfolding past
past_first through [] e = absurd cc
past_first through (m ∷ ms) e = rw e refl

pub past_stays : (through : ℕ) (ms : List Message) → is_first_within through ms ≡ false → past through ms ≡ ms
unfolding past
past_stays through [] e = refl
past_stays through (m ∷ ms) e = rw e refl

pub shorter : (through : ℕ) (ms : List Message) → is_first_within through ms ≡ true → length (drop 1 ms) < length ms
shorter through [] e = absurd cc
shorter through (m ∷ ms) e = omega arith
