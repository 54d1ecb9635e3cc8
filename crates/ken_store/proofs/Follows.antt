-- Lists that are held against the numbers before them, one item after the other.
use Rattle.std.specs.Prelude.{◌≡◌, ℕ, List, drop}
use Rattle.ken_model.specs.declared.messages.Out.{Out}
use Rattle.ken_record.specs.declared.due.Due.{Due}
use Rattle.ken_record.specs.declared.sent.Sent.{Sent}
use Rattle.ken_store.specs.Numbers.{sends_follow, sent_after, outs_follow, outputs_after}
use Rattle.ken_store.specs.Bases.{messages_follow, last_after}

-- sends up to an index follow, and these are the numbers of their links
pub record SendsFollow (nodes : ℕ) (old : List ℕ) (sends : List Sent) (index : ℕ) (sent : List ℕ) : Type 0 where
  pub follow : sends_follow nodes old sends ≡ sends_follow nodes sent (drop index sends)
  pub taken : sent_after old sends ≡ sent_after sent (drop index sends)

pub record OutsFollow (old : ℕ) (outs : List Out) (index last : ℕ) : Type 0 where
  pub follow : outs_follow old outs ≡ outs_follow last (drop index outs)
  pub taken : outputs_after old outs ≡ outputs_after last (drop index outs)

pub record MessagesFollow (nodes stamp : ℕ) (old : List ℕ) (messages : List Due) (index : ℕ) (last : List ℕ) : Type 0 where
  pub follow : messages_follow nodes stamp old messages ≡ messages_follow nodes stamp last (drop index messages)
  pub taken : last_after old messages ≡ last_after last (drop index messages)
