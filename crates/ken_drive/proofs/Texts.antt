-- What the handlers of the kinds keep, send and output holds no line feed, where what they take holds none.
use Rattle.std.proofs.Common.{◌≡◌, ℕ, zero, suc, ◌+◌, ◌-◌, ◌<◌, ◌^◌, ◌%◌, ◌/◌, List, [], ◌∷◌, ◌++◌, length, take, drop, Bool, ◌==◌, true, false, if◌then◌else◌, nat_lt, bytes_eq, codes, Option, Some, None, IfSome, option_map, decimal, refl, subst, arith}
use Rattle.std.specs.List.{AllByRecursion, position}
use Rattle.std.proofs.lemmas.List.Elements.{recursion_from_All}
use Rattle.ken_num.specs.Numbers.{num}
use Rattle.ken_num.proofs.Decimals.{All-decimal}
use Rattle.ken_num.proofs.Small.{num-lt}
use Rattle.ken_model.specs.declared.kinds.Kind.{Kind}
use Rattle.ken_model.specs.declared.kinds.Kind.TheVariants.{Ring, Tally, Share, Mix, Kv, Bank}
use Rattle.ken_model.specs.declared.messages.Message.{Message}
use Rattle.ken_model.specs.declared.messages.Send.{Send}
use Rattle.ken_model.specs.declared.values.Block.{Block}
use Rattle.ken_model.specs.declared.values.Value.{Value}
use Rattle.ken_model.specs.Effects.{Effect, answered, refused}
use Rattle.ken_model.specs.Heap.{first_gap, with_block, without_block}
use Rattle.ken_model.specs.KeyValue.{Command, Put, Get, Delete, at_space, put_of, key_of, command_in, command_of, is_key, pair_of, without_pair, put_at, get_from, delete_from, kv}
use Rattle.ken_model.specs.Bank.{Order, Open, Move, Credit, account_of, balance_of, credit_text, opened, moved, bank, order_of}
use Rattle.ken_model.specs.Kinds.{after, handler_of, ring, tally, share, mix, mix_counts, without_draws, to_others}
use Rattle.ken_model.specs.Network.{empty_heap}
use Rattle.ken_model.specs.Report.{IsOneLine}
use Rattle.ken_model.proofs.OrdersRead.{OrderHas, order-has}
use Rattle.ken_model.proofs.Others.{to_others-each}
use Rattle.ken_app.specs.Lines.{ComesByLines, IsOfLines, KeepsLines, first, next}

-- blocks without line feeds
abbrev AreTexts : List Block → Type 0
AreTexts blocks = AllByRecursion (λ (b : Block). IsOneLine b.bytes) blocks

abbrev HoldsTexts : Value → Type 0
HoldsTexts value = AreTexts value.blocks

-- sends without line feeds
abbrev SendTexts : List Send → Type 0
SendTexts sends = AllByRecursion (λ (s : Send). IsOneLine s.bytes) sends

-- an effect without line feeds
record IsText (e : Effect) : Type 0 where
  value : HoldsTexts e.value
  sends : AllByRecursion (λ (s : Send). IsOneLine s.bytes) e.sends
  outs : AllByRecursion IsOneLine e.outs

-- what holds of both holds of one
either : {A : Type 0} (P : A → Type 0) (c : Bool) (x y : A) → P x → P y → P (if c then x else y)
either P true x y px py = px
either P false x y px py = py

-- a number holds none
line_decimal : (n : ℕ) → n < 2 ^ 64 → IsOneLine (decimal n)
line_decimal n word = recursion_from_All (λ b. (b ≡ 10) → ⊥) (decimal n) (All-decimal (λ b. (b ≡ 10) → ⊥) (λ b digit e. omega arith) n word)

-- ---- one answer

text_answered : (value : Value) (text : List ℕ) → HoldsTexts value → IsOneLine text → IsText (answered value text)
text_answered value text texts line = record { value = texts; sends = tt; outs = (line, tt) }

text_refused : (value : Value) → HoldsTexts value → IsText (refused value)
text_refused value texts = text_answered value (codes "bad") texts ((λ e. cc), ((λ e. cc), ((λ e. cc), tt)))

-- ---- kind kv

line_drop : (n : ℕ) (bytes : List ℕ) → IsOneLine bytes → IsOneLine (drop n bytes)
line_drop zero bytes line = line
line_drop (suc n) [] line = tt
line_drop (suc n) (b ∷ bs) line = line_drop n bs line.1

pair_text : (key : List ℕ) (bs : List Block) → AreTexts bs → IfSome (pair_of key bs) (λ b. IsOneLine b.bytes)
pair_text key [] texts = tt
pair_text key (b ∷ bs) texts = either (λ o. IfSome o (λ (x : Block). IsOneLine x.bytes)) (is_key key (at_space b.bytes)) (Some b) (pair_of key bs) texts.0 (pair_text key bs texts.1)

texts_with : (new : Block) (bs : List Block) → IsOneLine new.bytes → AreTexts bs → AreTexts (with_block new bs)
texts_with new [] text texts = (text, tt)
texts_with new (b ∷ bs) text texts = either AreTexts (nat_lt new.place b.place) (new ∷ b ∷ bs) (b ∷ with_block new bs) (text, texts) (texts.0, texts_with new bs text texts.1)

texts_without : (place : ℕ) (bs : List Block) → AreTexts bs → AreTexts (without_block place bs)
texts_without place [] texts = tt
texts_without place (b ∷ bs) texts = either AreTexts (b.place == place) bs (b ∷ without_block place bs) texts.1 (texts.0, texts_without place bs texts.1)

texts_without_pair : (o : Option Block) (bs : List Block) → AreTexts bs → AreTexts (without_pair o bs)
texts_without_pair None bs texts = texts
texts_without_pair (Some b) bs texts = texts_without b.place bs texts

-- a command's pair is a text
abbrev FitsCommand : Option Command → Type 0
FitsCommand (Some (Put key pair)) = IsOneLine pair
FitsCommand _ = Unit {0}

put_fits : (rest : List ℕ) (o : Option (List ℕ × List ℕ)) → IsOneLine rest → FitsCommand (put_of rest o)
put_fits rest None line = tt
put_fits rest (Some parts) line = either FitsCommand (nat_lt 0 (length parts.0)) (Some (Put parts.0 rest)) None line tt

get_fits : (o : Option (List ℕ)) → FitsCommand (option_map (λ k. Get k) o)
get_fits None = tt
get_fits (Some key) = tt

delete_fits : (o : Option (List ℕ)) → FitsCommand (option_map (λ k. Delete k) o)
delete_fits None = tt
delete_fits (Some key) = tt

fits_in : (payload : List ℕ) (o : Option ℕ) → IsOneLine payload → FitsCommand (command_in (option_map (λ i. (take i payload, drop (i + 1) payload)) o))
fits_in payload None fits = tt
fits_in payload (Some i) fits =
    let rest : List ℕ = drop (i + 1) payload in
    let word : List ℕ = take i payload in
    either FitsCommand (bytes_eq word (codes "put")) (put_of rest (at_space rest)) _ (put_fits rest (at_space rest) (line_drop (i + 1) payload fits))
    (either FitsCommand (bytes_eq word (codes "get")) (option_map (λ k. Get k) (key_of rest (at_space rest))) _ (get_fits (key_of rest (at_space rest)))
    (either FitsCommand (bytes_eq word (codes "del")) (option_map (λ k. Delete k) (key_of rest (at_space rest))) None (delete_fits (key_of rest (at_space rest))) tt))

command_fits : (payload : List ℕ) → IsOneLine payload → FitsCommand (command_of payload)
command_fits payload fits = fits_in payload (position (λ b. b == 32) payload) fits

text_put : (value : Value) (pair : List ℕ) (old : Option Block) (gap : Option ℕ) → HoldsTexts value → IsOneLine pair → IsText (put_at value pair old gap)
text_put value pair old None texts line = text_answered value (codes "full") texts ((λ e. cc), ((λ e. cc), ((λ e. cc), ((λ e. cc), tt))))
text_put value pair old (Some place) texts line = text_answered _ (codes "ok") (texts_without_pair old _ (texts_with (record { place = place; bytes = pair }) value.blocks line texts)) ((λ e. cc), ((λ e. cc), tt))

text_get : (value : Value) (key : List ℕ) (o : Option Block) → HoldsTexts value → IfSome o (λ b. IsOneLine b.bytes) → IsText (get_from value key o)
text_get value key None texts found = text_answered value (codes "none") texts ((λ e. cc), ((λ e. cc), ((λ e. cc), ((λ e. cc), tt))))
text_get value key (Some b) texts found = text_answered value (drop (length key + 1) b.bytes) texts (line_drop (length key + 1) b.bytes found)

text_delete : (value : Value) (o : Option Block) → HoldsTexts value → IsText (delete_from value o)
text_delete value None texts = text_answered value (codes "none") texts ((λ e. cc), ((λ e. cc), ((λ e. cc), ((λ e. cc), tt))))
text_delete value (Some b) texts = text_answered _ (codes "ok") (texts_without b.place value.blocks texts) ((λ e. cc), ((λ e. cc), tt))

text_kv : (value : Value) (c : Option Command) → HoldsTexts value → FitsCommand c → IsText (kv value c)
text_kv value None texts fits = text_refused value texts
text_kv value (Some (Put key pair)) texts fits = text_put value pair (pair_of key value.blocks) (first_gap value (length pair)) texts fits
text_kv value (Some (Get key)) texts fits = text_get value key (pair_of key value.blocks) texts (pair_text key value.blocks texts)
text_kv value (Some (Delete key)) texts fits = text_delete value (pair_of key value.blocks) texts

-- ---- kind bank, whose balances may hold line feeds: it never outputs or sends one

-- what an effect sends and outputs has no line feeds, whatever the heap holds
record TellsText (e : Effect) : Type 0 where
  sends : SendTexts e.sends
  outs : AllByRecursion IsOneLine e.outs

tells_one : (value : Value) (text : List ℕ) → IsOneLine text → TellsText (answered value text)
tells_one value text line = record { sends = tt; outs = (line, tt) }

line_take : (n : ℕ) (bytes : List ℕ) → IsOneLine bytes → IsOneLine (take n bytes)
line_take zero bytes line = tt
line_take (suc n) [] line = tt
line_take (suc n) (b ∷ bs) line = (line.0, line_take n bs line.1)

line_append : (xs ys : List ℕ) → IsOneLine xs → IsOneLine ys → IsOneLine (xs ++ ys)
line_append [] ys front back = back
line_append (x ∷ xs) ys front back = (front.0, line_append xs ys front.1 back)

line_ok : IsOneLine (codes "ok")
line_ok = ((λ e. cc), ((λ e. cc), tt))

line_bad : IsOneLine (codes "bad")
line_bad = ((λ e. cc), ((λ e. cc), ((λ e. cc), tt)))

line_got : IsOneLine (codes "got")
line_got = ((λ e. cc), ((λ e. cc), ((λ e. cc), tt)))

line_none : IsOneLine (codes "none")
line_none = ((λ e. cc), ((λ e. cc), ((λ e. cc), ((λ e. cc), tt))))

line_full : IsOneLine (codes "full")
line_full = ((λ e. cc), ((λ e. cc), ((λ e. cc), ((λ e. cc), tt))))

line_there : IsOneLine (codes "there")
line_there = ((λ e. cc), ((λ e. cc), ((λ e. cc), ((λ e. cc), ((λ e. cc), tt)))))

line_short : IsOneLine (codes "short")
line_short = ((λ e. cc), ((λ e. cc), ((λ e. cc), ((λ e. cc), ((λ e. cc), tt)))))

line_credit : (name : List ℕ) (amount : ℕ) → IsOneLine name → amount < 10 ^ 9 → IsOneLine (credit_text name amount)
line_credit name amount line small =
    let rest : IsOneLine (name ++ 32 ∷ decimal amount) = line_append name (32 ∷ decimal amount) line ((λ e. cc), line_decimal amount (omega (arith, small))) in
    ((λ e. cc), ((λ e. cc), ((λ e. cc), ((λ e. cc), ((λ e. cc), ((λ e. cc), ((λ e. cc), rest)))))))

tells_open : (value : Value) (name : List ℕ) (amount : ℕ) (a : Option Block) (gap : Option ℕ) → TellsText (opened value name amount a gap)
tells_open value name amount (Some b) gap = tells_one value (codes "there") line_there
tells_open value name amount None None = tells_one value (codes "full") line_full
tells_open value name amount None (Some place) = tells_one _ (codes "ok") line_ok

tells_move : (value : Value) (name : List ℕ) (amount to : ℕ) (other : List ℕ) (a : Option Block) → IsOneLine other → amount < 10 ^ 9 → TellsText (moved value name amount to other a)
tells_move value name amount to other None line small = tells_one value (codes "none") line_none
tells_move value name amount to other (Some b) line small = either TellsText (nat_lt (balance_of b.bytes) amount) _ _ (tells_one value (codes "short") line_short) (record { sends = (line_credit other amount line small, tt); outs = (line_ok, tt) })

tells_bank : (nodes : ℕ) (value : Value) (m : Message) (o : Option Order) → IfSome o (OrderHas IsOneLine) → TellsText (bank nodes value m o)
tells_bank nodes value m None has = tells_one value (codes "bad") line_bad
tells_bank nodes value m (Some (Open name amount)) has = tells_open value name amount (account_of name value.blocks) (first_gap value (length name + 9))
tells_bank nodes value m (Some (Move name amount to other)) has = either TellsText (nat_lt to nodes) _ _ (tells_move value name amount to other (account_of name value.blocks) has.1.holds has.2) (tells_one value (codes "bad") line_bad)
tells_bank nodes value m (Some (Credit name amount)) has = either TellsText (m.from == 255) _ _ (tells_one value (codes "bad") line_bad) (tells_one _ (codes "got") line_got)

-- a payload's order is of lines
order_lines : (payload : List ℕ) → IsOneLine payload → IfSome (order_of payload) (OrderHas IsOneLine)
order_lines payload line = order-has IsOneLine line_take line_drop payload line

-- ---- the kinds that count

one_send : (b : Bool) (to : ℕ) (bytes : List ℕ) → IsOneLine bytes → SendTexts (if b then record { to = to; bytes = bytes } ∷ [] else [])
one_send true to bytes line = (line, tt)
one_send false to bytes line = tt

all_sends : (b : Bool) (node nodes : ℕ) (bytes : List ℕ) → IsOneLine bytes → SendTexts (if b then to_others node nodes bytes else [])
all_sends true node nodes bytes line = to_others-each (λ (s : Send). IsOneLine s.bytes) node nodes bytes (λ k less. line)
all_sends false node nodes bytes line = tt

text_ring : (node nodes : ℕ) (value : Value) (o : Option ℕ) → HoldsTexts value → ((n : ℕ) → o ≡ Some n → n < 10 ^ 9) → IsText (ring node nodes value o)
text_ring node nodes value None texts small = text_refused value texts
text_ring node nodes value (Some n) texts small =
    let little : n < 10 ^ 9 = small n refl in
    record { value = texts; sends = one_send (nat_lt 0 n) ((node + 1) % nodes) (decimal (n - 1)) (line_decimal (n - 1) (omega arith)); outs = (line_decimal n (omega arith), tt) }

text_tally : (node nodes : ℕ) (value : Value) (m : Message) (o : Option ℕ) → HoldsTexts value → IsOneLine m.bytes → IsText (tally node nodes value m o)
text_tally node nodes value m None texts line = text_refused value texts
text_tally node nodes value m (Some n) texts line = record { value = texts; sends = all_sends (m.from == 255) node nodes m.bytes line; outs = (line_decimal ((value.root + n) % 2 ^ 64) (omega arith), tt) }

text_share : (node nodes : ℕ) (value : Value) (o : Option ℕ) → HoldsTexts value → ((n : ℕ) → o ≡ Some n → n < 10 ^ 9) → IsText (share node nodes value o)
text_share node nodes value None texts small = text_refused value texts
text_share node nodes value (Some n) texts small =
    let little : n < 10 ^ 9 = small n refl in
    record { value = texts; sends = one_send (nat_lt 0 (n / 2)) ((node + 1) % nodes) (decimal (n / 2)) (line_decimal (n / 2) (omega arith)); outs = (line_decimal n (omega arith), tt) }

text_without_draws : (draws : List ℕ) (made e : Effect) → IsText made → without_draws draws made ≡ Some e → IsText e
text_without_draws [] made e text is = let same : made ≡ e = cc in subst IsText same text
text_without_draws (d ∷ ds) made e text is = absurd cc

text_mix : (nodes : ℕ) (value : Value) (o : Option ℕ) (draws : List ℕ) (e : Effect) → HoldsTexts value → ((n : ℕ) → o ≡ Some n → n < 10 ^ 9) → mix nodes value o draws ≡ Some e → IsText e
text_mix nodes value None draws e texts small is = text_without_draws draws (refused value) e (text_refused value texts) is
text_mix nodes value (Some n) [] e texts small is = absurd cc
text_mix nodes value (Some n) (clock ∷ []) e texts small is = absurd cc
text_mix nodes value (Some n) (clock ∷ word ∷ d ∷ ds) e texts small is = absurd cc
text_mix nodes value (Some n) (clock ∷ word ∷ []) e texts small is =
    let little : n < 10 ^ 9 = small n refl in
    let made : IsText (mix_counts nodes value n clock word) = record { value = texts; sends = one_send (nat_lt 0 n) (word % nodes) (decimal (n - 1)) (line_decimal (n - 1) (omega arith)); outs = (line_decimal (word % 1000) (omega arith), tt) } in
    let same : mix_counts nodes value n clock word ≡ e = cc in
    subst IsText same made

-- the blocks of a kind hold texts, but those of bank
abbrev KeepsTexts : Kind → Value → Type 0
KeepsTexts Bank value = Unit {0}
KeepsTexts _ value = HoldsTexts value

-- an effect of a kind without line feeds
record IsKindText (kind : Kind) (e : Effect) : Type 0 where
  value : KeepsTexts kind e.value
  tells : TellsText e

kept_text : (kind : Kind) (e : Effect) → (HoldsTexts e.value → KeepsTexts kind e.value) → IsText e → IsKindText kind e
kept_text kind e keeps text = record { value = keeps text.value; tells = record { sends = text.sends; outs = text.outs } }

bank_without_draws : (draws : List ℕ) (made e : Effect) → TellsText made → without_draws draws made ≡ Some e → IsKindText Bank e
bank_without_draws [] made e tells is = let same : made ≡ e = cc in record { value = tt; tells = subst TellsText same tells }
bank_without_draws (d ∷ ds) made e tells is = absurd cc

-- whatever a handler makes
text_after : (kind : Kind) (node nodes : ℕ) (value : Value) (m : Message) (draws : List ℕ) (e : Effect) → KeepsTexts kind value → IsOneLine m.bytes → after kind node nodes value m draws ≡ Some e → IsKindText kind e
unfolding after
text_after Ring node nodes value m draws e texts line is = kept_text Ring e (λ t. t) (text_without_draws draws (ring node nodes value (num m.bytes)) e (text_ring node nodes value (num m.bytes) texts (num-lt m.bytes)) is)
text_after Tally node nodes value m draws e texts line is = kept_text Tally e (λ t. t) (text_without_draws draws (tally node nodes value m (num m.bytes)) e (text_tally node nodes value m (num m.bytes) texts line) is)
text_after Share node nodes value m draws e texts line is = kept_text Share e (λ t. t) (text_without_draws draws (share node nodes value (num m.bytes)) e (text_share node nodes value (num m.bytes) texts (num-lt m.bytes)) is)
text_after Mix node nodes value m draws e texts line is = kept_text Mix e (λ t. t) (text_mix nodes value (num m.bytes) draws e texts (num-lt m.bytes) is)
text_after Kv node nodes value m draws e texts line is = kept_text Kv e (λ t. t) (text_without_draws draws (kv value (command_of m.bytes)) e (text_kv value (command_of m.bytes) texts (command_fits m.bytes line)) is)
text_after Bank node nodes value m draws e texts line is = bank_without_draws draws (bank nodes value m (order_of m.bytes)) e (tells_bank nodes value m (order_of m.bytes) (order_lines m.bytes line)) is

-- a first heap holds no text
first_texts : (kind : Kind) (size : ℕ) → KeepsTexts kind (empty_heap size)
first_texts Ring size = tt
first_texts Tally size = tt
first_texts Share size = tt
first_texts Mix size = tt
first_texts Kv size = tt
first_texts Bank size = tt

-- so a kind keeps lines
holds_texts : (kind : Kind) (node nodes size : ℕ) (value : Value) → ComesByLines (handler_of kind) node nodes size value → KeepsTexts kind value
holds_texts kind node nodes size _ first = first_texts kind size
holds_texts kind node nodes size _ (next {value} {m} {draws} {effect} comes call line is) = (text_after kind node nodes value m draws effect (holds_texts kind node nodes size value comes) line is).value

of_lines : (kind : Kind) (o : Option Effect) → ((e : Effect) → o ≡ Some e → IsKindText kind e) → IfSome o IsOfLines
of_lines kind None text = tt
of_lines kind (Some e) text = let is = (text e refl).tells in record { sends = is.sends; outs = is.outs }

pub kinds_keep_lines : (kind : Kind) (nodes size : ℕ) → KeepsLines nodes size (handler_of kind)
kinds_keep_lines kind nodes size node value m draws comes call line = of_lines kind (after kind node nodes value m draws) (λ e is. text_after kind node nodes value m draws e (holds_texts kind node nodes size value comes) line is)
