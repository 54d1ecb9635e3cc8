-- Each block of a bank is an account, and each message of a node is a credit.
use Rattle.std.proofs.Common.{◌≡◌, ℕ, ◌+◌, ◌-◌, ◌%◌, ◌^◌, List, [], ◌∷◌, ◌++◌, length, Bool, true, false, ◌==◌, nat_lt, if◌then◌else◌, codes, Option, Some, None, IfSome, refl, subst, ne_eqb}
use Rattle.std.specs.List.{AllByRecursion}
use Rattle.ken_model.specs.declared.messages.Message.{Message}
use Rattle.ken_model.specs.declared.messages.Send.{Send}
use Rattle.ken_model.specs.declared.messages.Step.{Step}
use Rattle.ken_model.specs.declared.messages.TheConstants.{OUTSIDE}
use Rattle.ken_model.specs.declared.values.Block.{Block}
use Rattle.ken_model.specs.declared.values.Value.{Value}
use Rattle.ken_model.specs.Bank.{Order, Open, Move, Credit, order_of, account, balance_of, account_of, with_account, with_balance, opened, credit_text, moved, with_credit, bank}
use Rattle.ken_model.specs.Effects.{Effect, answered}
use Rattle.ken_model.specs.Game.{Game}
use Rattle.ken_model.specs.Heap.{first_gap, with_block, with_bytes}
use Rattle.ken_model.specs.Network.{Network, Place, Turn, outside, start, inputs_for, numbered, turn_of, place_after, applied_or_same, stepped}
use Rattle.ken_model.specs.Schedule.{played}
use Rattle.ken_apps.specs.Money.{HasAccount, IsCredit, IsBank, BlocksAreAccounts, MessagesAreCredits}
use Rattle.ken_apps.proofs.MoneyRead.{IsName, IsRead, order_read, credit_again}
use Rattle.ken_apps.proofs.MoneySound.{all_append, is_turn, bank_made}

-- ---- a turn

-- a send that is a credit
record IsCreditSend (s : Send) : Type 0 where
  name : List ℕ
  amount : ℕ
  bytes : s.bytes ≡ credit_text name amount
  read : order_of s.bytes ≡ Some (Credit name amount)

record IsInForm (e : Effect) : Type 0 where
  blocks : AllByRecursion HasAccount e.value.blocks
  sends : AllByRecursion IsCreditSend e.sends

accounts_with : (new : Block) (bs : List Block) → HasAccount new → AllByRecursion HasAccount bs → AllByRecursion HasAccount (with_block new bs)
accounts_with new [] is all = (is, tt)
accounts_with new (b ∷ bs) is all = go (nat_lt new.place b.place) (accounts_with new bs is all.1)
  where
    go : (t : Bool) → AllByRecursion HasAccount (with_block new bs) → AllByRecursion HasAccount (if t then new ∷ b ∷ bs else b ∷ with_block new bs)
    go true rest = (is, all)
    go false rest = (all.0, rest)

accounts_changed : (place : ℕ) (name : List ℕ) (balance : ℕ) (bs : List Block) → IsName name → AllByRecursion HasAccount bs → AllByRecursion HasAccount (with_bytes place (account name balance) bs)
accounts_changed place name balance [] named all = tt
accounts_changed place name balance (b ∷ bs) named all = go (b.place == place) (accounts_changed place name balance bs named all.1)
  where
    go : (t : Bool) → AllByRecursion HasAccount (with_bytes place (account name balance) bs) → AllByRecursion HasAccount (if t then record b { bytes = account name balance } ∷ bs else b ∷ with_bytes place (account name balance) bs)
    go true rest = (record { name = name; balance = balance; named = named; bytes = refl }, all.1)
    go false rest = (all.0, rest)

module _ (nodes : ℕ) (v : Value) (all : AllByRecursion HasAccount v.blocks) where
  answer_form : (text : List ℕ) → IsInForm (answered v text)
  answer_form text = record { blocks = all; sends = tt }

  new_form : (place : ℕ) (name : List ℕ) (n : ℕ) → IsName name → AllByRecursion HasAccount (with_account place name n v).blocks
  new_form place name n named = accounts_with (record { place = place; bytes = account name n }) v.blocks (record { name = name; balance = n; named = named; bytes = refl }) all

  opened_form : (name : List ℕ) (n : ℕ) (found : Option Block) (gap : Option ℕ) → IsName name → IsInForm (opened v name n found gap)
  opened_form name n (Some b) gap named = answer_form (codes "there")
  opened_form name n None None named = answer_form (codes "full")
  opened_form name n None (Some place) named = record { blocks = new_form place name n named; sends = tt }

  moved_form : (name : List ℕ) (n to : ℕ) (other : List ℕ) (found : Option Block) → IsRead (Move name n to other) → IsInForm (moved v name n to other found)
  moved_form name n to other None read = answer_form (codes "none")
  moved_form name n to other (Some b) read = go (nat_lt (balance_of b.bytes) n)
    where
      go : (t : Bool) → IsInForm (if t then answered v (codes "short") else record {
        value = with_balance b.place name (balance_of b.bytes - n) v;
        sends = record { to = to; bytes = credit_text other n } ∷ [];
        outs = codes "ok" ∷ [];
      })
      go true = answer_form (codes "short")
      go false = record {
        blocks = accounts_changed b.place name (balance_of b.bytes - n) v.blocks read.1 all;
        sends = (record { name = other; amount = n; bytes = refl; read = credit_again other n read.2 read.0 }, tt);
      }

  credit_form : (name : List ℕ) (n : ℕ) (found : Option Block) (gap : Option ℕ) → IsName name → AllByRecursion HasAccount (with_credit v name n found gap).blocks
  credit_form name n (Some b) gap named = accounts_changed b.place name ((balance_of b.bytes + n) % 2 ^ 64) v.blocks named all
  credit_form name n None (Some place) named = new_form place name n named
  credit_form name n None None named = all

  bank_form : (m : Message) (o : Option Order) → IfSome o IsRead → IsInForm (bank nodes v m o)
  bank_form m None read = answer_form (codes "bad")
  bank_form m (Some (Open name n)) read = opened_form name n (account_of name v.blocks) (first_gap v (length name + 9)) read.1
  bank_form m (Some (Move name n to other)) read = go (nat_lt to nodes)
    where
      go : (t : Bool) → IsInForm (if t then moved v name n to other (account_of name v.blocks) else answered v (codes "bad"))
      go true = moved_form name n to other (account_of name v.blocks) read
      go false = answer_form (codes "bad")
  bank_form m (Some (Credit name n)) read = go (m.from == OUTSIDE)
    where
      go : (t : Bool) → IsInForm (if t then answered v (codes "bad") else answered (with_credit v name n (account_of name v.blocks) (first_gap v (length name + 9))) (codes "got"))
      go true = answer_form (codes "bad")
      go false = record { blocks = credit_form name n (account_of name v.blocks) (first_gap v (length name + 9)) read.1; sends = tt }

-- ---- a schedule

-- blocks of the network are accounts, and its nodes' messages are credits
record AreInForm (w : Network) : Type 0 where
  blocks : (v : ℕ) → AllByRecursion HasAccount (w.place v).value.blocks
  messages : (u v : ℕ) → (u ≡ outside → ⊥) → AllByRecursion IsCredit (w.link u v).sent

credits_numbered : (u v n stamp : ℕ) (ss : List Send) → AllByRecursion IsCreditSend ss → AllByRecursion IsCredit (numbered u v n stamp ss)
credits_numbered u v n stamp [] all = tt
credits_numbered u v n stamp (s ∷ ss) all = go (s.to == v) (credits_numbered u v (n + 1) stamp ss all.1) (credits_numbered u v n stamp ss all.1)
  where
    go : (b : Bool) → AllByRecursion IsCredit (numbered u v (n + 1) stamp ss) → AllByRecursion IsCredit (numbered u v n stamp ss) → AllByRecursion IsCredit (if b then record { from = u; to = v; number = n + 1; stamp = stamp; bytes = s.bytes } ∷ numbered u v (n + 1) stamp ss else numbered u v n stamp ss)
    go true later same = (record { name = all.0.name; amount = all.0.amount; bytes = all.0.bytes; read = all.0.read }, later)
    go false later same = same

blocks_more : (p : Place) (t : Turn) (b : Bool) → AllByRecursion HasAccount p.value.blocks → IsInForm t.effect → AllByRecursion HasAccount (if b then place_after p t else p).value.blocks
blocks_more p t true was form = form.blocks
blocks_more p t false was form = was

messages_more : (u v : ℕ) (t : Turn) (sent : List Message) (b : Bool) → AllByRecursion IsCredit sent → IsInForm t.effect → AllByRecursion IsCredit (if b then sent ++ numbered u v (length sent) t.stamp t.effect.sends else sent)
messages_more u v t sent true was form = all_append IsCredit sent _ was (credits_numbered u v (length sent) t.stamp t.effect.sends form.sends)
messages_more u v t sent false was form = was

step_form : (g : Game) (w : Network) (s : Step) (o : Option Turn) → IsBank g → turn_of g w s ≡ o → AreInForm w → AreInForm (applied_or_same w s o)
step_form g w s None is_bank is form = form
step_form g w s (Some t) is_bank is form =
    let value = (w.place s.node).value in
    let made = bank_made g s.node value t.message s.draws t.effect is_bank (is_turn g w s t is).made in
    let turn : IsInForm t.effect = subst IsInForm made (bank_form g.nodes value (form.blocks s.node) t.message (order_of t.message.bytes) (order_read t.message.bytes)) in
    record {
      blocks = λ v. blocks_more (w.place v) t (v == s.node) (form.blocks v) turn;
      messages = λ u v node. messages_more u v t (w.link u v).sent (u == s.node) (form.messages u v node) turn;
    }

played_form : (g : Game) (w : Network) (ss : List Step) → IsBank g → AreInForm w → AreInForm (played g w ss)
unfolding played
played_form g w [] is_bank form = form
played_form g w (s ∷ ss) is_bank form = played_form g (stepped g w s) ss is_bank (step_form g w s (turn_of g w s) is_bank refl form)

start_sent : (g : Game) (v : ℕ) (b : Bool) → b ≡ false → AllByRecursion IsCredit (if b then inputs_for g v else [])
start_sent g v true is = absurd cc
start_sent g v false is = tt

start_form : (g : Game) → AreInForm (start g)
start_form g = record { blocks = λ v. tt; messages = λ u v node. start_sent g v (u == outside) (ne_eqb u outside node) }

pub blocks_are_accounts : BlocksAreAccounts
blocks_are_accounts g schedule is_bank = (played_form g (start g) schedule is_bank (start_form g)).blocks

pub messages_are_credits : MessagesAreCredits
messages_are_credits g schedule is_bank = (played_form g (start g) schedule is_bank (start_form g)).messages
