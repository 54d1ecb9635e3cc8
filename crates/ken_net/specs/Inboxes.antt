-- Inboxes: the packets for each node, oldest first.
use Rattle.std.specs.Prelude.{◌≡◌, ◌≢◌, ℕ, ◌<◌, ◌≤◌, nat_lt, if◌then◌else◌, List, [], ◌∷◌, ◌++◌, length, slice_index_or, slice_set}
use Rattle.ken_net.specs.declared.inbox.TheConstants.{MAX_INBOX}
use Rattle.ken_net.specs.Puts.{Put}

-- a packet goes behind the others of its inbox, and is lost where that is full
abbrev pub filed : List ℕ → List (List ℕ) → List (List ℕ)
filed packet inbox = if nat_lt (length inbox) MAX_INBOX then inbox ++ packet ∷ [] else inbox

-- each packet goes to the inbox of its node, in order
abbrev pub all_filed : List Put → List (List (List ℕ)) → List (List (List ℕ))
all_filed [] inboxes = inboxes
all_filed (p ∷ ps) inboxes = all_filed ps (slice_set inboxes p.to (filed p.bytes (slice_index_or inboxes p.to [])))

-- these packets, which were the oldest, were taken from the inbox of a node, and nothing else changed
pub record Gave (node : ℕ) (old new : List (List (List ℕ))) (packets : List (List ℕ)) : Type 0 where
  pub front : slice_index_or old node [] ≡ packets ++ slice_index_or new node []
  pub others : (v : ℕ) → v ≢ node → slice_index_or new v [] ≡ slice_index_or old v []
  pub count : length new ≡ length old

-- the same by an end that counts its takes which gave nothing: once one did, the inbox is empty
pub record Taking (node nones nones2 : ℕ) (old new : List (List (List ℕ))) (packets : List (List ℕ)) : Type 0 where
  pub gave : Gave node old new packets
  pub counted : nones ≤ nones2
  pub emptied : nones < nones2 → slice_index_or new node [] ≡ []
