-- A turn of a kind sends at most one message to each node.
use Rattle.std.proofs.Common.{ℕ, ◌<◌, ◌≤◌, List, [], ◌∷◌, length, Bool, true, false, ◌==◌, if◌then◌else◌, nat_lt, Option, Some, None, IfSome, arith}
use Rattle.ken_num.specs.Numbers.{num}
use Rattle.ken_model.specs.declared.kinds.Kind.{Kind}
use Rattle.ken_model.specs.declared.kinds.Kind.TheVariants.{Ring, Tally, Share, Mix, Kv, Bank}
use Rattle.ken_model.specs.declared.messages.Message.{Message}
use Rattle.ken_model.specs.declared.messages.TheConstants.{OUTSIDE}
use Rattle.ken_model.specs.declared.messages.Send.{Send}
use Rattle.ken_model.specs.declared.values.Block.{Block}
use Rattle.ken_model.specs.declared.values.Value.{Value}
use Rattle.ken_model.specs.Bank.{Order, balance_of, bank, moved, opened, order_of}
use Rattle.ken_model.specs.Bank.Order.{Open, Move, Credit}
use Rattle.ken_model.specs.Effects.{Effect}
use Rattle.ken_model.specs.Heap.{first_gap}
use Rattle.ken_model.specs.KeyValue.{Command, command_of, delete_from, get_from, kv, pair_of, put_at}
use Rattle.ken_model.specs.KeyValue.Command.{Put, Get, Delete}
use Rattle.ken_model.specs.Kinds.{after, mix, ring, share, tally, to_others, without_draws}
use Rattle.ken_model.proofs.Others.{to_others-few}

-- at most so many sends
abbrev pub SendsFew : ℕ → Effect → Type 0
SendsFew n e = length e.sends ≤ n

without : (n : ℕ) (draws : List ℕ) (e : Effect) → SendsFew n e → IfSome (without_draws draws e) (SendsFew n)
without n [] e few = few
without n (d ∷ draws) e few = tt

one : (n : ℕ) (b : Bool) (s : Send) → 0 < n → length (if b then s ∷ [] else []) ≤ n
one n true s some = omega (arith, some)
one n false s some = omega arith

others : (n node : ℕ) (b : Bool) (bytes : List ℕ) → length (if b then to_others node n bytes else []) ≤ n
others n node true bytes = to_others-few node n bytes
others n node false bytes = omega arith

of_ring : (node n : ℕ) (value : Value) (count : Option ℕ) → 0 < n → SendsFew n (ring node n value count)
of_ring node n value None some = omega arith
of_ring node n value (Some count) some = one n (nat_lt 0 count) _ some

of_tally : (node n : ℕ) (value : Value) (m : Message) (number : Option ℕ) → SendsFew n (tally node n value m number)
of_tally node n value m None = omega arith
of_tally node n value m (Some number) = others n node (m.from == OUTSIDE) m.bytes

of_share : (node n : ℕ) (value : Value) (number : Option ℕ) → 0 < n → SendsFew n (share node n value number)
of_share node n value None some = omega arith
of_share node n value (Some number) some = one n _ _ some

of_mix : (n : ℕ) (value : Value) (number : Option ℕ) (draws : List ℕ) → 0 < n → IfSome (mix n value number draws) (SendsFew n)
of_mix n value None draws some = without n draws _ (omega arith)
of_mix n value (Some number) [] some = tt
of_mix n value (Some number) (clock ∷ []) some = tt
of_mix n value (Some number) (clock ∷ word ∷ []) some = one n (nat_lt 0 number) _ some
of_mix n value (Some number) (clock ∷ word ∷ more ∷ draws) some = tt

of_put : (n : ℕ) (value : Value) (pair : List ℕ) (old : Option Block) (gap : Option ℕ) → SendsFew n (put_at value pair old gap)
of_put n value pair old None = omega arith
of_put n value pair old (Some place) = omega arith

of_get : (n : ℕ) (value : Value) (key : List ℕ) (found : Option Block) → SendsFew n (get_from value key found)
of_get n value key None = omega arith
of_get n value key (Some b) = omega arith

of_delete : (n : ℕ) (value : Value) (found : Option Block) → SendsFew n (delete_from value found)
of_delete n value None = omega arith
of_delete n value (Some b) = omega arith

of_kv : (n : ℕ) (value : Value) (command : Option Command) → SendsFew n (kv value command)
of_kv n value None = omega arith
of_kv n value (Some (Put key pair)) = of_put n value pair (pair_of key value.blocks) (first_gap value (length pair))
of_kv n value (Some (Get key)) = of_get n value key (pair_of key value.blocks)
of_kv n value (Some (Delete key)) = of_delete n value (pair_of key value.blocks)

of_choice : (n : ℕ) (b : Bool) (x y : Effect) → SendsFew n x → SendsFew n y → SendsFew n (if b then x else y)
of_choice n true x y first second = first
of_choice n false x y first second = second

of_open : (n : ℕ) (value : Value) (name : List ℕ) (amount : ℕ) (found : Option Block) (gap : Option ℕ) → SendsFew n (opened value name amount found gap)
of_open n value name amount (Some b) gap = omega arith
of_open n value name amount None None = omega arith
of_open n value name amount None (Some place) = omega arith

of_move : (n : ℕ) (value : Value) (name : List ℕ) (amount to : ℕ) (other : List ℕ) (found : Option Block) → 0 < n → SendsFew n (moved value name amount to other found)
of_move n value name amount to other None some = omega arith
of_move n value name amount to other (Some b) some = of_choice n (nat_lt (balance_of b.bytes) amount) _ _ (omega arith) (omega (arith, some))

of_bank : (n : ℕ) (value : Value) (m : Message) (order : Option Order) → 0 < n → SendsFew n (bank n value m order)
of_bank n value m None some = omega arith
of_bank n value m (Some (Open name amount)) some = of_open n value name amount _ _
of_bank n value m (Some (Move name amount to other)) some = of_choice n (nat_lt to n) _ _ (of_move n value name amount to other _ some) (omega arith)
of_bank n value m (Some (Credit name amount)) some = of_choice n (m.from == OUTSIDE) _ _ (omega arith) (omega arith)

pub of_kind : (kind : Kind) (node n : ℕ) (value : Value) (m : Message) (draws : List ℕ) → 0 < n → IfSome (after kind node n value m draws) (SendsFew n)
unfolding after
of_kind Ring node n value m draws some = without n draws _ (of_ring node n value (num m.bytes) some)
of_kind Tally node n value m draws some = without n draws _ (of_tally node n value m (num m.bytes))
of_kind Share node n value m draws some = without n draws _ (of_share node n value (num m.bytes) some)
of_kind Mix node n value m draws some = of_mix n value (num m.bytes) draws some
of_kind Kv node n value m draws some = without n draws _ (of_kv n value (command_of m.bytes))
of_kind Bank node n value m draws some = without n draws _ (of_bank n value m (order_of m.bytes) some)
