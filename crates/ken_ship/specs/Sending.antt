-- What an externaliser sends.
use Rattle.std.specs.Prelude.{◌≡◌, ℕ, List, [], ◌∷◌, ◌++◌, map, take, slice_index_or, Result, Ok, Err}
use Rattle.std.specs.List.{flat_map, range_with_len}
use Rattle.ken_model.specs.declared.messages.Message.{Message}
use Rattle.ken_packet.specs.Packets.{mail_bytes}
use Rattle.ken_net.specs.Puts.{Put, handing}
use Rattle.ken_outbox.specs.Waiting.{Unacked, no_line}
use Rattle.ken_ship.specs.declared.sending.TheConstants.{MOST_DUE}

-- a message, put as mail: it alone is handed in
abbrev pub mail_put : Message → Put
mail_put m = handing m.to (m ∷ []) [] (mail_bytes m)

-- the oldest messages to a node that wait, 16 at most
abbrev pub due_to : List Unacked → ℕ → List Message
due_to lines u = take MOST_DUE (slice_index_or lines u no_line).messages

-- and to each of so many nodes, in order
abbrev pub all_due : ℕ → List Unacked → List Message
all_due nodes lines = flat_map (due_to lines) (range_with_len 0 nodes)

-- by the answer all that is due was put, or after an error a front of it
abbrev pub ArePut : {T E : Type 0} → Result T E → List Message → List Put → Type 0
ArePut (Ok _) due puts = puts ≡ map mail_put due
ArePut (Err _) due puts = (rest : List Put) × (map mail_put due ≡ puts ++ rest)

-- what was put
pub record SentDue {T E : Type 0} (result : Result T E) (put : List Put → Type 0) (due : List Message) : Type 0 where
  pub puts : List Put
  pub were_put : put puts
  pub are : ArePut result due puts
