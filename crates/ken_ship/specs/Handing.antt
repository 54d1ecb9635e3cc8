-- What an externaliser is handed, and what waits of it.
use Rattle.std.specs.Prelude.{◌≡◌, ℕ, ◌≤◌, ◌⊎◌, List, [], ◌∷◌, ◌++◌, map, length, Result, Ok, Err}
use Rattle.ken_model.specs.declared.messages.Message.{Message}
use Rattle.ken_links.specs.declared.push_end.TheConstants.{SLOTS}
use Rattle.ken_links.specs.Counts.{Rose}
use Rattle.ken_outbox.specs.Waiting.{Unacked, Waiting, with_sends}
use Rattle.ken_core.specs.Turns.{mail_of}
use Rattle.ken_ship.specs.declared.items.Sealed.{Sealed}
use Rattle.ken_ship.specs.declared.items.Progress.{Progress}
use Rattle.ken_ship.specs.declared.items.Told.{Told}

-- what a turn of v sent, as messages
abbrev pub mails_of : ℕ → Sealed → List Message
mails_of v s = map (mail_of v s.stamp) s.sends

-- what a turn of v sent and output waits behind the rest
abbrev pub with_turn : ℕ → Sealed → Waiting → Waiting
with_turn v s w = record w { lines = with_sends 0 w.lines (mails_of v s); outs = w.outs ++ s.outs }

-- and of turns, one after the other
abbrev pub with_turns : ℕ → List Sealed → Waiting → Waiting
with_turns v [] w = w
with_turns v (s ∷ ss) w = with_turns v ss (with_turn v s w)

-- the number of the last of these turns, or the one before them
abbrev pub last_turn : ℕ → List Sealed → ℕ
last_turn before [] = before
last_turn before (s ∷ ss) = last_turn s.turn ss

-- the number of the last turn that was handed over goes on by what left the ring
abbrev pub CountsTurns : List Sealed → List Sealed → ℕ → ℕ → Type 0
CountsTurns popped popped2 old new = (turns : List Sealed) → popped2 ≡ popped ++ turns → new ≡ last_turn old turns

-- the acknowledged numbers
abbrev pub acked_in : List Unacked → List ℕ
acked_in lines = map (λ (l : Unacked). l.acked) lines

-- how far messages are acknowledged and outputs emitted
abbrev pub progress_in : Waiting → Progress
progress_in w = record { acked = acked_in w.lines; emitted = w.emitted }

-- what is told of it by one who was handed the turns up to a number
abbrev pub told_in : ℕ → Waiting → Told
told_in handed w = record { by = handed; progress = progress_in w }

-- the ring gave turns of v until the count of its pops that gave none rose, or 64 were given; an error may come before
abbrev pub GaveAll : {T E : Type 0} → Result T E → ℕ → ℕ → ℕ → Type 0
GaveAll (Ok _) count nones nones2 = (count ≡ SLOTS) ⊎ Rose nones nones2
GaveAll (Err _) count nones nones2 = Unit {0}

-- what they sent and output waits behind what waited
pub record HandedOver {T E : Type 0} (result : Result T E) (v : ℕ) (popped popped2 : List Sealed) (nones nones2 : ℕ) (old new : Waiting) : Type 0 where
  pub turns : List Sealed
  pub popped_are : popped2 ≡ popped ++ turns
  pub most : length turns ≤ SLOTS
  pub until : GaveAll result (length turns) nones nones2
  pub waits : new ≡ with_turns v turns old

-- the same of turns that are moved all at once, however many
pub record Received (v : ℕ) (popped popped2 : List Sealed) (old new : Waiting) : Type 0 where
  pub turns : List Sealed
  pub popped_are : popped2 ≡ popped ++ turns
  pub waits : new ≡ with_turns v turns old
