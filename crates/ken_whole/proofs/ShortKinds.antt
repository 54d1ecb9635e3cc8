-- What a kind keeps, sends and outputs is short.
use Rattle.std.proofs.Common.{◌≡◌, ℕ, ◌+◌, ◌-◌, ◌<◌, ◌≤◌, ◌^◌, ◌%◌, ◌/◌, List, [], ◌∷◌, ◌++◌, length, take, drop, Bool, ◌==◌, true, false, if◌then◌else◌, nat_lt, bytes_eq, codes, Option, Some, None, IfSome, option_map, decimal, refl, subst, arith}
use Rattle.std.specs.List.{AllByRecursion, position}
use Rattle.std.proofs.lemmas.Bool.Decides.{nat_tests}
use Rattle.std.proofs.lemmas.Fmt.{length-decimal-le}
use Rattle.std.proofs.lemmas.List.{length-drop, length-append}
use Rattle.ken_model.specs.declared.kinds.Kind.{Kind}
use Rattle.ken_model.specs.declared.kinds.Kind.TheVariants.{Ring, Tally, Share, Mix, Kv, Bank}
use Rattle.ken_model.specs.declared.values.Block.{Block}
use Rattle.ken_model.specs.declared.values.Value.{Value}
use Rattle.ken_model.specs.declared.messages.Message.{Message}
use Rattle.ken_model.specs.declared.messages.Send.{Send}
use Rattle.ken_model.specs.Effects.{Effect, answered, refused}
use Rattle.ken_model.specs.Heap.{first_gap, with_block, with_bytes, without_block}
use Rattle.ken_model.specs.Bank.{Order, Open, Move, Credit, account, account_of, balance_of, credit_text, opened, moved, moved_from, with_credit, bank, order_of}
use Rattle.ken_model.specs.Kinds.{after, handler_of, mix, mix_counts, ring, share, tally, to_others, without_draws}
use Rattle.ken_model.specs.KeyValue.{Command, Put, Get, Delete, at_space, put_of, key_of, command_in, command_of, is_key, pair_of, without_pair, put_at, get_from, delete_from, kv}
use Rattle.ken_model.proofs.Heaps.{account-length}
use Rattle.ken_model.proofs.OrdersRead.{IsNamed, OrderHas, order-has}
use Rattle.ken_model.proofs.Others.{to_others-each, to_others-few}
use Rattle.ken_num.specs.Numbers.{num}
use Rattle.ken_num.proofs.Small.{num-lt}
use Rattle.ken_app.specs.Turning.{IsAllowed, IsShortText}
use Rattle.ken_whole.specs.KindLaws.{KindsKeepLimits}
use Rattle.ken_app.specs.Limits.{ComesTo, first, next}

-- what holds of both holds of one
either : {A : Type 0} (P : A → Type 0) (c : Bool) (x y : A) → P x → P y → P (if c then x else y)
either P true x y px py = px
either P false x y px py = py

-- ---- what kind kv keeps

abbrev AreShort : List Block → Type 0
AreShort blocks = AllByRecursion (λ (b : Block). IsShortText b.bytes) blocks

short_drop : (n : ℕ) (bytes : List ℕ) → IsShortText bytes → IsShortText (drop n bytes)
short_drop n bytes short = let count = length-drop n bytes in omega (arith, short, count)

pair_short : (key : List ℕ) (bs : List Block) → AreShort bs → IfSome (pair_of key bs) (λ b. IsShortText b.bytes)
pair_short key [] all = tt
pair_short key (b ∷ bs) all = either (λ o. IfSome o (λ (x : Block). IsShortText x.bytes)) (is_key key (at_space b.bytes)) (Some b) (pair_of key bs) all.0 (pair_short key bs all.1)

short_with : (new : Block) (bs : List Block) → IsShortText new.bytes → AreShort bs → AreShort (with_block new bs)
short_with new [] short all = (short, tt)
short_with new (b ∷ bs) short all = either AreShort (nat_lt new.place b.place) (new ∷ b ∷ bs) (b ∷ with_block new bs) (short, all) (all.0, short_with new bs short all.1)

short_without : (place : ℕ) (bs : List Block) → AreShort bs → AreShort (without_block place bs)
short_without place [] all = tt
short_without place (b ∷ bs) all = either AreShort (b.place == place) bs (b ∷ without_block place bs) all.1 (all.0, short_without place bs all.1)

short_without_pair : (o : Option Block) (bs : List Block) → AreShort bs → AreShort (without_pair o bs)
short_without_pair None bs all = all
short_without_pair (Some b) bs all = short_without b.place bs all

-- a command's pair is short
abbrev FitsCommand : Option Command → Type 0
FitsCommand (Some (Put key pair)) = IsShortText pair
FitsCommand _ = Unit {0}

put_fits : (rest : List ℕ) (o : Option (List ℕ × List ℕ)) → IsShortText rest → FitsCommand (put_of rest o)
put_fits rest None short = tt
put_fits rest (Some parts) short = either FitsCommand (nat_lt 0 (length parts.0)) (Some (Put parts.0 rest)) None short tt

get_fits : (o : Option (List ℕ)) → FitsCommand (option_map (λ k. Get k) o)
get_fits None = tt
get_fits (Some key) = tt

delete_fits : (o : Option (List ℕ)) → FitsCommand (option_map (λ k. Delete k) o)
delete_fits None = tt
delete_fits (Some key) = tt

fits_in : (payload : List ℕ) (o : Option ℕ) → IsShortText payload → FitsCommand (command_in (option_map (λ i. (take i payload, drop (i + 1) payload)) o))
fits_in payload None short = tt
fits_in payload (Some i) short =
    let rest : List ℕ = drop (i + 1) payload in
    let word : List ℕ = take i payload in
    either FitsCommand (bytes_eq word (codes "put")) (put_of rest (at_space rest)) _ (put_fits rest (at_space rest) (short_drop (i + 1) payload short))
    (either FitsCommand (bytes_eq word (codes "get")) (option_map (λ k. Get k) (key_of rest (at_space rest))) _ (get_fits (key_of rest (at_space rest)))
    (either FitsCommand (bytes_eq word (codes "del")) (option_map (λ k. Delete k) (key_of rest (at_space rest))) None (delete_fits (key_of rest (at_space rest))) tt))

-- ---- an effect that keeps the limits, and leaves short blocks

record IsShort (nodes : ℕ) (e : Effect) : Type 0 where
  allowed : IsAllowed nodes e
  blocks : AreShort e.value.blocks

one_answer : (nodes : ℕ) (value : Value) (text : List ℕ) → AreShort value.blocks → IsShortText text → IsShort nodes (answered value text)
one_answer nodes value text all short = record { allowed = record { few_sends = omega arith; few_outs = omega arith; sends = tt; outs = (short, tt) }; blocks = all }

short_put : (nodes : ℕ) (value : Value) (pair : List ℕ) (old : Option Block) (gap : Option ℕ) → AreShort value.blocks → IsShortText pair → IsShort nodes (put_at value pair old gap)
short_put nodes value pair old None all short = one_answer nodes value (codes "full") all (omega arith)
short_put nodes value pair old (Some place) all short = one_answer nodes _ (codes "ok") (short_without_pair old _ (short_with (record { place = place; bytes = pair }) value.blocks short all)) (omega arith)

short_get : (nodes : ℕ) (value : Value) (key : List ℕ) (o : Option Block) → AreShort value.blocks → IfSome o (λ b. IsShortText b.bytes) → IsShort nodes (get_from value key o)
short_get nodes value key None all found = one_answer nodes value (codes "none") all (omega arith)
short_get nodes value key (Some b) all found = one_answer nodes value (drop (length key + 1) b.bytes) all (short_drop (length key + 1) b.bytes found)

short_delete : (nodes : ℕ) (value : Value) (o : Option Block) → AreShort value.blocks → IsShort nodes (delete_from value o)
short_delete nodes value None all = one_answer nodes value (codes "none") all (omega arith)
short_delete nodes value (Some b) all = one_answer nodes _ (codes "ok") (short_without b.place value.blocks all) (omega arith)

short_kv : (nodes : ℕ) (value : Value) (c : Option Command) → AreShort value.blocks → FitsCommand c → IsShort nodes (kv value c)
short_kv nodes value None all fits = one_answer nodes value (codes "bad") all (omega arith)
short_kv nodes value (Some (Put key pair)) all fits = short_put nodes value pair (pair_of key value.blocks) (first_gap value (length pair)) all fits
short_kv nodes value (Some (Get key)) all fits = short_get nodes value key (pair_of key value.blocks) all (pair_short key value.blocks all)
short_kv nodes value (Some (Delete key)) all fits = short_delete nodes value (pair_of key value.blocks) all

-- ---- kind bank

short_bytes : (place : ℕ) (bytes : List ℕ) (bs : List Block) → IsShortText bytes → AreShort bs → AreShort (with_bytes place bytes bs)
short_bytes place bytes [] short all = tt
short_bytes place bytes (b ∷ bs) short all = either AreShort (b.place == place) (record b { bytes = bytes } ∷ bs) (b ∷ with_bytes place bytes bs) (short, all.1) (all.0, short_bytes place bytes bs short all.1)

-- a name that is read is short
abbrev IsShortName : List ℕ → Type 0
IsShortName name = IsNamed (λ _. Unit {0}) name

short_account : (name : List ℕ) (balance : ℕ) → IsShortName name → IsShortText (account name balance)
short_account name balance named = omega (arith, account-length name balance, named.few)

short_credit : (name : List ℕ) (amount : ℕ) → IsShortName name → amount < 10 ^ 9 → IsShortText (credit_text name amount)
short_credit name amount named small =
    let digits = length-decimal-le 9 amount (omega arith) small (omega (arith, small)) in
    let count : length (name ++ 32 ∷ decimal amount) ≡ length name + length (32 ∷ decimal amount) = length-append name (32 ∷ decimal amount) in
    omega (arith, digits, count, named.few)

short_open : (nodes : ℕ) (value : Value) (name : List ℕ) (amount : ℕ) (a : Option Block) (gap : Option ℕ) → AreShort value.blocks → IsShortName name → IsShort nodes (opened value name amount a gap)
short_open nodes value name amount (Some b) gap all named = one_answer nodes value (codes "there") all (omega arith)
short_open nodes value name amount None None all named = one_answer nodes value (codes "full") all (omega arith)
short_open nodes value name amount None (Some place) all named = one_answer nodes _ (codes "ok") (short_with (record { place = place; bytes = account name amount }) value.blocks (short_account name amount named) all) (omega arith)

short_moved : (nodes : ℕ) (value : Value) (name : List ℕ) (amount to : ℕ) (other : List ℕ) (b : Block) → to < nodes → AreShort value.blocks → IsShortName name → IsShortName other → amount < 10 ^ 9 → IsShort nodes (moved_from value name amount to other b)
short_moved nodes value name amount to other b known all named others small = either (IsShort nodes) (nat_lt (balance_of b.bytes) amount) _ _ (one_answer nodes value (codes "short") all (omega arith))
    (record { allowed = record { few_sends = omega arith; few_outs = omega arith; sends = ((known, short_credit other amount others small), tt); outs = (omega arith, tt) }; blocks = short_bytes b.place (account name (balance_of b.bytes - amount)) value.blocks (short_account name (balance_of b.bytes - amount) named) all })

short_move : (nodes : ℕ) (value : Value) (name : List ℕ) (amount to : ℕ) (other : List ℕ) (a : Option Block) → to < nodes → AreShort value.blocks → IsShortName name → IsShortName other → amount < 10 ^ 9 → IsShort nodes (moved value name amount to other a)
short_move nodes value name amount to other None known all named others small = one_answer nodes value (codes "none") all (omega arith)
short_move nodes value name amount to other (Some b) known all named others small = short_moved nodes value name amount to other b known all named others small

credit_blocks : (value : Value) (name : List ℕ) (amount : ℕ) (a : Option Block) (gap : Option ℕ) → AreShort value.blocks → IsShortName name → AreShort (with_credit value name amount a gap).blocks
credit_blocks value name amount (Some b) gap all named = short_bytes b.place (account name ((balance_of b.bytes + amount) % 2 ^ 64)) value.blocks (short_account name ((balance_of b.bytes + amount) % 2 ^ 64) named) all
credit_blocks value name amount None (Some place) all named = short_with (record { place = place; bytes = account name amount }) value.blocks (short_account name amount named) all
credit_blocks value name amount None None all named = all

-- a test tells that the node is of the run
if_known : (nodes to : ℕ) (x y : Effect) → (to < nodes → IsShort nodes x) → IsShort nodes y → IsShort nodes (if nat_lt to nodes then x else y)
if_known nodes to x y known other = go (nat_lt to nodes) (λ e. grind (arith, nat_tests, e))
  where
    go : (t : Bool) → (t ≡ true → to < nodes) → IsShort nodes (if t then x else y)
    go true is = known (is refl)
    go false is = other

short_bank : (nodes : ℕ) (value : Value) (m : Message) (o : Option Order) → AreShort value.blocks → IfSome o (OrderHas (λ _. Unit {0})) → IsShort nodes (bank nodes value m o)
short_bank nodes value m None all has = one_answer nodes value (codes "bad") all (omega arith)
short_bank nodes value m (Some (Open name amount)) all has = short_open nodes value name amount (account_of name value.blocks) (first_gap value (length name + 9)) all has.0
short_bank nodes value m (Some (Move name amount to other)) all has = if_known nodes to _ _ (λ known. short_move nodes value name amount to other (account_of name value.blocks) known all has.0 has.1 has.2) (one_answer nodes value (codes "bad") all (omega arith))
short_bank nodes value m (Some (Credit name amount)) all has = either (IsShort nodes) (m.from == 255) _ _ (one_answer nodes value (codes "bad") all (omega arith)) (one_answer nodes _ (codes "got") (credit_blocks value name amount (account_of name value.blocks) (first_gap value (length name + 9)) all has.0) (omega arith))

-- ---- the kinds that count

short_decimal : (n : ℕ) → n < 2 ^ 64 → IsShortText (decimal n)
short_decimal n word = omega (arith, length-decimal-le 20 n (omega arith) (omega (arith, word)) (omega arith))

abbrev MaySend : ℕ → List Send → Type 0
MaySend nodes sends = (length sends ≤ 16) × AllByRecursion (λ (s : Send). (s.to < nodes) × IsShortText s.bytes) sends

-- what is left of a count goes to a node of the run, if anything is left
one_send : (b : Bool) (nodes to : ℕ) (bytes : List ℕ) → to < nodes → IsShortText bytes → MaySend nodes (if b then record { to = to; bytes = bytes } ∷ [] else [])
one_send true nodes to bytes known short = (omega arith, ((known, short), tt))
one_send false nodes to bytes known short = (omega arith, tt)

-- a number goes to all other nodes, if it came from outside
other_sends : (b : Bool) (node nodes : ℕ) (bytes : List ℕ) → nodes ≤ 8 → IsShortText bytes → MaySend nodes (if b then to_others node nodes bytes else [])
other_sends true node nodes bytes few short = (let count = to_others-few node nodes bytes in omega (arith, few, count), to_others-each (λ (s : Send). (s.to < nodes) × IsShortText s.bytes) node nodes bytes (λ k less. (less, short)))
other_sends false node nodes bytes few short = (omega arith, tt)

one_count : (nodes : ℕ) (value : Value) (sends : List Send) (n : ℕ) → AreShort value.blocks → MaySend nodes sends → n < 2 ^ 64 → IsShort nodes (record { value = value; sends = sends; outs = decimal n ∷ [] })
one_count nodes value sends n all may word = record { allowed = record { few_sends = may.0; few_outs = omega arith; sends = may.1; outs = (short_decimal n word, tt) }; blocks = all }

module _ (node nodes : ℕ) (value : Value) (some : 0 < nodes) (all : AreShort value.blocks) where
  short_ring : (o : Option ℕ) → ((n : ℕ) → o ≡ Some n → n < 10 ^ 9) → IsShort nodes (ring node nodes value o)
  short_ring None small = one_answer nodes value (codes "bad") all (omega arith)
  short_ring (Some n) small =
      let little : n < 10 ^ 9 = small n refl in
      one_count nodes _ (if nat_lt 0 n then record { to = (node + 1) % nodes; bytes = decimal (n - 1) } ∷ [] else []) n all (one_send (nat_lt 0 n) nodes ((node + 1) % nodes) (decimal (n - 1)) (omega arith) (short_decimal (n - 1) (omega arith))) (omega arith)

  short_tally : (m : Message) (o : Option ℕ) → nodes ≤ 8 → IsShortText m.bytes → IsShort nodes (tally node nodes value m o)
  short_tally m None few short = one_answer nodes value (codes "bad") all (omega arith)
  short_tally m (Some n) few short = one_count nodes _ (if m.from == 255 then to_others node nodes m.bytes else []) ((value.root + n) % 2 ^ 64) all (other_sends (m.from == 255) node nodes m.bytes few short) (omega arith)

  short_share : (o : Option ℕ) → ((n : ℕ) → o ≡ Some n → n < 10 ^ 9) → IsShort nodes (share node nodes value o)
  short_share None small = one_answer nodes value (codes "bad") all (omega arith)
  short_share (Some n) small =
      let little : n < 10 ^ 9 = small n refl in
      one_count nodes _ (if nat_lt 0 (n / 2) then record { to = (node + 1) % nodes; bytes = decimal (n / 2) } ∷ [] else []) n all (one_send (nat_lt 0 (n / 2)) nodes ((node + 1) % nodes) (decimal (n / 2)) (omega arith) (short_decimal (n / 2) (omega arith))) (omega arith)

  undrawn : (draws : List ℕ) (made e : Effect) → IsShort nodes made → without_draws draws made ≡ Some e → IsShort nodes e
  undrawn [] made e short is = let same : made ≡ e = cc in subst (IsShort nodes) same short
  undrawn (d ∷ ds) made e short is = absurd cc

  short_mix : (o : Option ℕ) (draws : List ℕ) (e : Effect) → ((n : ℕ) → o ≡ Some n → n < 10 ^ 9) → mix nodes value o draws ≡ Some e → IsShort nodes e
  short_mix None draws e small is = undrawn draws (refused value) e (one_answer nodes value (codes "bad") all (omega arith)) is
  short_mix (Some n) [] e small is = absurd cc
  short_mix (Some n) (clock ∷ []) e small is = absurd cc
  short_mix (Some n) (clock ∷ word ∷ d ∷ ds) e small is = absurd cc
  short_mix (Some n) (clock ∷ word ∷ []) e small is =
      let little : n < 10 ^ 9 = small n refl in
      let same : mix_counts nodes value n clock word ≡ e = cc in
      subst (IsShort nodes) same
      (one_count nodes _ (if nat_lt 0 n then record { to = word % nodes; bytes = decimal (n - 1) } ∷ [] else []) (word % 1000) all (one_send (nat_lt 0 n) nodes (word % nodes) (decimal (n - 1)) (omega arith) (short_decimal (n - 1) (omega arith))) (omega arith))

-- ---- each kind

short_after : (kind : Kind) (node nodes : ℕ) (value : Value) (m : Message) (draws : List ℕ) (e : Effect) → 0 < nodes → nodes ≤ 8 → AreShort value.blocks → IsShortText m.bytes → after kind node nodes value m draws ≡ Some e → IsShort nodes e
unfolding after
short_after Ring node nodes value m draws e some few all short is = undrawn node nodes value some all draws (ring node nodes value (num m.bytes)) e (short_ring node nodes value some all (num m.bytes) (num-lt m.bytes)) is
short_after Tally node nodes value m draws e some few all short is = undrawn node nodes value some all draws (tally node nodes value m (num m.bytes)) e (short_tally node nodes value some all m (num m.bytes) few short) is
short_after Share node nodes value m draws e some few all short is = undrawn node nodes value some all draws (share node nodes value (num m.bytes)) e (short_share node nodes value some all (num m.bytes) (num-lt m.bytes)) is
short_after Mix node nodes value m draws e some few all short is = short_mix node nodes value some all (num m.bytes) draws e (num-lt m.bytes) is
short_after Kv node nodes value m draws e some few all short is = undrawn node nodes value some all draws (kv value (command_of m.bytes)) e (short_kv nodes value (command_of m.bytes) all (fits_in m.bytes (position (λ b. b == 32) m.bytes) short)) is
short_after Bank node nodes value m draws e some few all short is = undrawn node nodes value some all draws (bank nodes value m (order_of m.bytes)) e (short_bank nodes value m (order_of m.bytes) all (order-has (λ _. Unit {0}) (λ n bytes p. tt) (λ n bytes p. tt) m.bytes tt)) is

-- the blocks of a heap that a kind comes to are short
comes_short : (kind : Kind) (node nodes size : ℕ) (value : Value) → ComesTo (handler_of kind) node nodes size value → AreShort value.blocks
comes_short kind node nodes size _ first = tt
comes_short kind node nodes size _ (next {value} {m} {draws} {effect} comes call is) = (short_after kind node nodes value m draws effect call.placed.some_node call.placed.few_nodes (comes_short kind node nodes size value comes) call.short is).blocks

allowed_by : (kind : Kind) (node nodes : ℕ) (value : Value) (m : Message) (draws : List ℕ) (o : Option Effect) → after kind node nodes value m draws ≡ o → 0 < nodes → nodes ≤ 8 → AreShort value.blocks → IsShortText m.bytes → IfSome o (IsAllowed nodes)
allowed_by kind node nodes value m draws None is some few all short = tt
allowed_by kind node nodes value m draws (Some e) is some few all short = (short_after kind node nodes value m draws e some few all short is).allowed

pub kinds_keep_limits : KindsKeepLimits
kinds_keep_limits kind nodes size node value m draws comes call = allowed_by kind node nodes value m draws (after kind node nodes value m draws) refl call.placed.some_node call.placed.few_nodes (comes_short kind node nodes size value comes) call.short
