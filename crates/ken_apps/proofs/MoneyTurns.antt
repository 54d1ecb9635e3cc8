-- A turn of a bank neither makes nor loses money.
use Rattle.std.proofs.Common.{◌≡◌, ℕ, ◌+◌, ◌-◌, ◌*◌, ◌/◌, ◌%◌, ◌^◌, ◌<◌, ◌≤◌, List, [], ◌∷◌, length, Bool, true, false, ◌==◌, nat_lt, if◌then◌else◌, bytes_eq, codes, Option, Some, None, IfSome, refl, ap, ◌∙◌, arith, ltb-false, zero-add}
use Rattle.std.specs.Prelude.{sum_by}
use Rattle.ken_model.specs.declared.messages.Message.{Message}
use Rattle.ken_model.specs.declared.messages.Send.{Send}
use Rattle.ken_model.specs.declared.messages.TheConstants.{OUTSIDE}
use Rattle.ken_model.specs.declared.values.Block.{Block}
use Rattle.ken_model.specs.declared.values.Value.{Value}
use Rattle.ken_model.specs.Effects.{Effect, answered}
use Rattle.ken_model.specs.Heap.{AreBlocks, first_gap, block_at}
use Rattle.ken_model.specs.Bank.{Order, Open, Move, Credit, order_of, account, balance_of, account_of, with_account, with_balance, opened, credit_text, moved_from, moved, with_credit, bank}
use Rattle.ken_apps.specs.Money.{held_in, credit_of, opening_of, is_ok}
use Rattle.ken_apps.proofs.MoneyBlocks.{balance_account, balances_with, balances_changed, account_stands}
use Rattle.ken_apps.proofs.MoneyRead.{IsName, IsRead, credit_again}

-- what an order brings to a node: a credit that isn't from outside
abbrev pub brought : Bool → Option Order → ℕ
brought outside o = if outside then 0 else credit_of o

-- what a turn sends to nodes
abbrev pub posted_by : ℕ → Send → ℕ
posted_by nodes s = if nat_lt s.to nodes then credit_of (order_of s.bytes) else 0

abbrev pub posted : ℕ → List Send → ℕ
posted nodes ss = sum_by (posted_by nodes) ss

-- what it opens
abbrev pub gained : List (List ℕ) → Option Order → ℕ
gained outs o = if is_ok outs then opening_of o else 0

-- what the heap holds after the turn and what was sent is what it held, was brought and was opened; but 2^64 for each sum that
-- went past it
pub record IsFair (nodes : ℕ) (outside : Bool) (o : Option Order) (v : Value) (e : Effect) : Type 0 where
  pub lost : ℕ
  pub money : held_in e.value + posted nodes e.sends + lost * 2 ^ 64 ≡ held_in v + brought outside o + gained e.outs o

none_brought : (outside : Bool) (o : Option Order) → credit_of o ≡ 0 → brought outside o ≡ 0
none_brought true o none = refl
none_brought false o none = none

-- a refusal changes nothing
refusal : (nodes : ℕ) (outside : Bool) (o : Option Order) (v : Value) (text : List ℕ) → bytes_eq text (codes "ok") ≡ false → brought outside o ≡ 0 → IsFair nodes outside o v (answered v text)
refusal nodes outside o v text other none =
    let nothing : gained (text ∷ []) o ≡ 0 = ap (λ t. if t then opening_of o else 0) other in
    record { lost = 0; money = omega (arith, nothing, none) }

-- an account in a gap adds what it is made with
held_with_account : (place : ℕ) (name : List ℕ) (n : ℕ) (v : Value) → held_in (with_account place name n v) + n / 2 ^ 64 * 2 ^ 64 ≡ held_in v + n
held_with_account place name n v = omega (arith, balances_with (record { place = place; bytes = account name n }) v.blocks, balance_account name n)

-- another balance takes the old one's place
held_with_balance : (place : ℕ) (name : List ℕ) (n : ℕ) (old : List ℕ) (v : Value) → block_at place v.blocks ≡ Some old → held_in (with_balance place name n v) + n / 2 ^ 64 * 2 ^ 64 + balance_of old ≡ held_in v + n
held_with_balance place name n old v stands = omega (arith, balances_changed place old (account name n) v.blocks stands, balance_account name n)

module _ (nodes : ℕ) (v : Value) where
  opened_fair : (outside : Bool) (name : List ℕ) (n : ℕ) (found : Option Block) (gap : Option ℕ) → IsFair nodes outside (Some (Open name n)) v (opened v name n found gap)
  opened_fair outside name n (Some b) gap = refusal nodes outside (Some (Open name n)) v (codes "there") refl (none_brought outside (Some (Open name n)) refl)
  opened_fair outside name n None None = refusal nodes outside (Some (Open name n)) v (codes "full") refl (none_brought outside (Some (Open name n)) refl)
  opened_fair outside name n None (Some place) =
      let none = none_brought outside (Some (Open name n)) refl in
      record { lost = n / 2 ^ 64; money = omega (arith, held_with_account place name n v, none) }

  -- what a move sends
  posted_credit : (to n : ℕ) (other : List ℕ) → nat_lt to nodes ≡ true → n < 10 ^ 9 → IsName other → posted nodes (record { to = to; bytes = credit_text other n } ∷ []) ≡ n
  posted_credit to n other known small named = rw known (zero-add (credit_of (order_of (credit_text other n))) ∙ ap credit_of (credit_again other n named small))

  moved_from_fair : (outside : Bool) (name : List ℕ) (n to : ℕ) (other : List ℕ) (b : Block) → nat_lt to nodes ≡ true → IsRead (Move name n to other) → block_at b.place v.blocks ≡ Some b.bytes → IsFair nodes outside (Some (Move name n to other)) v (moved_from v name n to other b)
  moved_from_fair outside name n to other b known read stands = go (nat_lt (balance_of b.bytes) n) refl
    where
      none : brought outside (Some (Move name n to other)) ≡ 0
      none = none_brought outside (Some (Move name n to other)) refl

      go : (t : Bool) → nat_lt (balance_of b.bytes) n ≡ t → IsFair nodes outside (Some (Move name n to other)) v (if t then answered v (codes "short") else record {
        value = with_balance b.place name (balance_of b.bytes - n) v;
        sends = record { to = to; bytes = credit_text other n } ∷ [];
        outs = codes "ok" ∷ [];
      })
      go true is = refusal nodes outside (Some (Move name n to other)) v (codes "short") refl none
      go false is =
          let enough : n ≤ balance_of b.bytes = ltb-false (balance_of b.bytes) n is in
          let left = held_with_balance b.place name (balance_of b.bytes - n) b.bytes v stands in
          let sent = posted_credit to n other known read.0 read.2 in
          record { lost = (balance_of b.bytes - n) / 2 ^ 64; money = omega (arith, left, sent, none, enough) }

  moved_fair : (outside : Bool) (name : List ℕ) (n to : ℕ) (other : List ℕ) (found : Option Block) → nat_lt to nodes ≡ true → IsRead (Move name n to other) → ((b : Block) → found ≡ Some b → block_at b.place v.blocks ≡ Some b.bytes) → IsFair nodes outside (Some (Move name n to other)) v (moved v name n to other found)
  moved_fair outside name n to other None known read stands = refusal nodes outside (Some (Move name n to other)) v (codes "none") refl (none_brought outside (Some (Move name n to other)) refl)
  moved_fair outside name n to other (Some b) known read stands = moved_from_fair outside name n to other b known read (stands b refl)

  credit_fair : (name : List ℕ) (n : ℕ) (found : Option Block) (gap : Option ℕ) → ((b : Block) → found ≡ Some b → block_at b.place v.blocks ≡ Some b.bytes) → IsFair nodes false (Some (Credit name n)) v (answered (with_credit v name n found gap) (codes "got"))
  credit_fair name n (Some b) gap stands =
      let sum = balance_of b.bytes + n in
      let now = held_with_balance b.place name (sum % 2 ^ 64) b.bytes v (stands b refl) in
      record { lost = sum / 2 ^ 64; money = omega (arith, now) }
  credit_fair name n None (Some place) stands = record { lost = n / 2 ^ 64; money = omega (arith, held_with_account place name n v) }
  credit_fair name n None None stands = record { lost = (v.root + n) / 2 ^ 64; money = omega arith }

  pub bank_fair : (m : Message) (o : Option Order) → AreBlocks 16 v.size v.blocks → IfSome o IsRead → IsFair nodes (m.from == OUTSIDE) o v (bank nodes v m o)
  bank_fair m None blocks read = refusal nodes (m.from == OUTSIDE) None v (codes "bad") refl (none_brought (m.from == OUTSIDE) None refl)
  bank_fair m (Some (Open name n)) blocks read = opened_fair (m.from == OUTSIDE) name n (account_of name v.blocks) (first_gap v (length name + 9))
  bank_fair m (Some (Move name n to other)) blocks read = go (nat_lt to nodes) refl
    where
      go : (t : Bool) → nat_lt to nodes ≡ t → IsFair nodes (m.from == OUTSIDE) (Some (Move name n to other)) v (if t then moved v name n to other (account_of name v.blocks) else answered v (codes "bad"))
      go true known = moved_fair (m.from == OUTSIDE) name n to other (account_of name v.blocks) known read (λ b found. account_stands v.size name v.blocks b blocks found)
      go false known = refusal nodes (m.from == OUTSIDE) (Some (Move name n to other)) v (codes "bad") refl (none_brought (m.from == OUTSIDE) (Some (Move name n to other)) refl)
  bank_fair m (Some (Credit name n)) blocks read = go (m.from == OUTSIDE)
    where
      go : (t : Bool) → IsFair nodes t (Some (Credit name n)) v (if t then answered v (codes "bad") else answered (with_credit v name n (account_of name v.blocks) (first_gap v (length name + 9))) (codes "got"))
      go true = refusal nodes true (Some (Credit name n)) v (codes "bad") refl refl
      go false = credit_fair name n (account_of name v.blocks) (first_gap v (length name + 9)) (λ b found. account_stands v.size name v.blocks b blocks found)
