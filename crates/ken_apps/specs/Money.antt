-- The money of a bank's game: what its nodes hold, what is on its way between them, and what was opened.
use Rattle.std.specs.Prelude.{◌≡◌, ℕ, ◌+◌, List, [], ◌∷◌, drop, Bool, false, if◌then◌else◌, bytes_eq, Option, Some, None, codes, sum_by}
use Rattle.std.specs.List.{AllByRecursion}
use Rattle.ken_model.specs.declared.kinds.Kind.TheVariants.{Bank}
use Rattle.ken_model.specs.declared.messages.Message.{Message}
use Rattle.ken_model.specs.declared.messages.Step.{Step}
use Rattle.ken_model.specs.declared.values.Block.{Block}
use Rattle.ken_model.specs.declared.values.Value.{Value}
use Rattle.ken_model.specs.Bank.{Order, Open, Credit, name_of, order_of, account, balance_of, credit_text}
use Rattle.ken_model.specs.Ending.{nodes_of}
use Rattle.ken_model.specs.Game.{Game}
use Rattle.ken_model.specs.Kinds.{handler_of}
use Rattle.ken_model.specs.Limits.{IsWithinLimits}
use Rattle.ken_model.specs.Network.{Network, Turn, outside, start, turn_of, stepped}
use Rattle.ken_model.specs.Schedule.{IsLegal, play}

-- what a heap holds: its root, and the balances of its accounts
abbrev pub held_in : Value → ℕ
held_in value = value.root + sum_by (λ (b : Block). balance_of b.bytes) value.blocks

-- what all nodes hold
abbrev pub held : Game → Network → ℕ
held g w = sum_by (λ v. held_in (w.place v).value) (nodes_of g)

-- the amount of a credit
abbrev pub credit_of : Option Order → ℕ
credit_of (Some (Credit name amount)) = amount
credit_of _ = 0

-- what messages credit
abbrev pub credit_in : List Message → ℕ
credit_in ms = sum_by (λ (m : Message). credit_of (order_of m.bytes)) ms

-- what is on its way: the credits among the messages that nodes sent to nodes and that wait
abbrev pub on_the_way : Game → Network → ℕ
on_the_way g w = sum_by (λ u. sum_by (λ v. credit_in (drop (w.link u v).taken (w.link u v).sent)) (nodes_of g)) (nodes_of g)

-- the amount that an account is to be opened with
abbrev pub opening_of : Option Order → ℕ
opening_of (Some (Open name amount)) = amount
opening_of _ = 0

abbrev pub is_ok : List (List ℕ) → Bool
is_ok (text ∷ []) = bytes_eq text (codes "ok")
is_ok _ = false

-- what a turn opened: the amount of an `open` that it answered `ok`
abbrev pub opened_by : Option Turn → ℕ
opened_by None = 0
opened_by (Some t) = if is_ok t.effect.outs then opening_of (order_of t.message.bytes) else 0

-- what the turns of a schedule opened
unfoldable pub opened_from : Game → Network → List Step → ℕ
opened_from g w [] = 0
opened_from g w (s ∷ ss) = opened_by (turn_of g w s) + opened_from g (stepped g w s) ss

-- a bank's game
abbrev pub IsBank : Game → Type 0
IsBank g = g.handler ≡ handler_of Bank

-- over any legal schedule of a bank no money is made or lost: what the nodes hold and what is on its way is what was opened
abbrev pub MoneyIsKept : Type 0
MoneyIsKept = (g : Game) (schedule : List Step) → IsBank g → IsWithinLimits g → IsLegal g schedule
    → held g (play g schedule) + on_the_way g (play g schedule) ≡ opened_from g (start g) schedule

-- a block is an account: a name, a space, and a balance in 8 bytes
pub record HasAccount (b : Block) : Type 0 where
  pub name : List ℕ
  pub balance : ℕ
  pub named : name_of name ≡ Some name
  pub bytes : b.bytes ≡ account name balance

-- after any schedule of a bank each block of a node is an account, so what heaps hold is in roots and accounts
abbrev pub BlocksAreAccounts : Type 0
BlocksAreAccounts = (g : Game) (schedule : List Step) → IsBank g → (v : ℕ) → AllByRecursion HasAccount ((play g schedule).place v).value.blocks

-- a message is a credit, as it is read
pub record IsCredit (m : Message) : Type 0 where
  pub name : List ℕ
  pub amount : ℕ
  pub bytes : m.bytes ≡ credit_text name amount
  pub read : order_of m.bytes ≡ Some (Credit name amount)

-- and each message of a node is a credit
abbrev pub MessagesAreCredits : Type 0
MessagesAreCredits = (g : Game) (schedule : List Step) → IsBank g → (u v : ℕ) → (u ≡ outside → ⊥) → AllByRecursion IsCredit ((play g schedule).link u v).sent
