-- What a payment takes from one balance its receiver adds to its own.
use Rattle.std.proofs.Common.{◌≡◌, ℕ, ◌+◌, ◌-◌, ◌<◌, ◌≤◌, ◌^◌, List, [], ◌∷◌, Bool, true, false, ◌==◌, ◌&&◌, nat_lt, nat_le, if◌then◌else◌, Option, Some, None, option_map, codes, decimal, refl, sym, ◌∙◌, ap, subst, arith, inl, inr, ne_eqb, lt-ltb}
use Rattle.std.specs.List.{AllByRecursion}
use Rattle.ken_model.specs.declared.messages.Message.{Message}
use Rattle.ken_model.specs.declared.messages.Send.{Send}
use Rattle.ken_model.specs.declared.messages.TheConstants.{OUTSIDE}
use Rattle.ken_model.specs.declared.values.Value.{Value}
use Rattle.ken_model.specs.Effects.{Effect, answered, refused}
use Rattle.ken_model.specs.Kinds.{without_draws}
use Rattle.ken_num.specs.Numbers.{num}
use Rattle.ken_num.proofs.ReadBack.{num_decimal}
use Rattle.ken_num.proofs.Small.{num-lt}
use Rattle.ken_app.specs.Limited.{fits, within}
use Rattle.ken_app.proofs.Texts.{decimal_is_text}
use Rattle.ken_app.proofs.Within.{within_some, within_fits}
use Rattle.ken_ledger.specs.Laws.{IsCredit, IsPayment, NoPaymentIsLost}
use Rattle.ken_ledger.specs.Ledger.{payment_of, with_receipt, credited, asked, ledger_after}

-- ---- what a new balance is

receipt_balance : (v : Value) (balance : ℕ) (sends : List Send) (draws : List ℕ) (e : Effect) → with_receipt v balance sends draws ≡ Some e → (e.value.root ≡ balance) × (e.sends ≡ sends)
receipt_balance v balance sends [] e is = absurd cc
receipt_balance v balance sends (clock ∷ []) e is =
    let same : record { value = record v { root = balance }; sends = sends; outs = decimal balance ∷ decimal clock ∷ [] } ≡ e = cc in
    (sym (ap (λ (x : Effect). x.value.root) same), sym (ap (λ (x : Effect). x.sends) same))
receipt_balance v balance sends (clock ∷ d ∷ ds) e is = absurd cc

no_sends : (draws : List ℕ) (made e : Effect) → made.sends ≡ [] → without_draws draws made ≡ Some e → e.sends ≡ []
no_sends [] made e none is = let same : made ≡ e = cc in sym (ap (λ (x : Effect). x.sends) same) ∙ none
no_sends (d ∷ ds) made e none is = absurd cc

-- ---- an amount from a node

receipt_fits : (nodes balance clock : ℕ) → balance < 2 ^ 64 → clock < 2 ^ 64 → fits nodes [] (decimal balance ∷ decimal clock ∷ []) ≡ true
receipt_fits nodes balance clock held word = rw (decimal_is_text balance held, decimal_is_text clock word) refl

kept_balance : (nodes : ℕ) (v : Value) (balance : ℕ) (draws : List ℕ) (e : Effect) → balance < 2 ^ 64 → AllByRecursion (λ (d : ℕ). d < 2 ^ 64) draws → within nodes v (with_receipt v balance [] draws) ≡ Some e → e.value.root ≡ balance
kept_balance nodes v balance [] e held words is = absurd cc
kept_balance nodes v balance (clock ∷ []) e held words is =
    let made : Effect = record { value = record v { root = balance }; sends = []; outs = decimal balance ∷ decimal clock ∷ [] } in
    let fit = receipt_fits nodes balance clock held words.0 in
    (receipt_balance v balance [] (clock ∷ []) e (sym (within_fits nodes v made fit) ∙ is)).0
kept_balance nodes v balance (clock ∷ d ∷ ds) e held words is = absurd cc

is_credit : (n : ℕ) → n < 10 ^ 9 → IsCredit (decimal n) n
unfolding ledger_after
is_credit n small node nodes v m draws e text inside room words is =
    let node_s : (m.from == OUTSIDE) ≡ false = ne_eqb m.from OUTSIDE inside in
    let read : num m.bytes ≡ Some n = ap num text ∙ num_decimal n small in
    let held : nat_lt (v.root + n) (2 ^ 64) ≡ true = lt-ltb (v.root + n) (2 ^ 64) room in
    kept_balance nodes v (v.root + n) draws e room words (rw (node_s, read, held) at is)

-- ---- a turn that sends

amount_small : (b : Bool) (to : ℕ) (o : Option ℕ) (p : ℕ × ℕ) → ((n : ℕ) → o ≡ Some n → n < 10 ^ 9) → (if b then option_map (λ n. (to, n)) o else None) ≡ Some p → p.1 < 10 ^ 9
amount_small true to None p small is = absurd cc
amount_small true to (Some n) p small is = let same : (to, n) ≡ p = cc in let few = small n refl in subst (λ (x : ℕ × ℕ). x.1 < 10 ^ 9) same few
amount_small false to o p small is = absurd cc

payment_small : (bytes : List ℕ) (p : ℕ × ℕ) → payment_of bytes ≡ Some p → p.1 < 10 ^ 9
payment_small [] p is = absurd cc
payment_small (a ∷ []) p is = absurd cc
payment_small (a ∷ b ∷ bs) p is = amount_small _ (a - 48) (num bs) p (num-lt bs) is

none_paid : (v : Value) (e : Effect) → e.sends ≡ [] → AllByRecursion (IsPayment v e) e.sends
none_paid v e none = subst (AllByRecursion (IsPayment v e)) (sym none) tt

module _ (nodes : ℕ) (v : Value) (draws : List ℕ) (e : Effect) where
  credited_none : (o : Option ℕ) → credited v o draws ≡ Some e → e.sends ≡ []
  credited_none None is = no_sends draws (refused v) e refl is
  credited_none (Some n) is = by (nat_lt (v.root + n) (2 ^ 64)) is
    where
      by : (b : Bool) → (if b then with_receipt v (v.root + n) [] draws else without_draws draws (answered v (codes "full"))) ≡ Some e → e.sends ≡ []
      by true is = (receipt_balance v (v.root + n) [] draws e is).1
      by false is = no_sends draws (answered v (codes "full")) e refl is

  paid : (to n : ℕ) (b k : Bool) → nat_le n v.root ≡ k → n < 10 ^ 9 → (if b && k then with_receipt v (v.root - n) (record { to = to; bytes = decimal n } ∷ []) draws else without_draws draws (answered v (codes "refused"))) ≡ Some e → AllByRecursion (IsPayment v e) e.sends
  paid to n true true covered small is =
      let enough : n ≤ v.root = grind (arith, covered) in
      let now = receipt_balance v (v.root - n) (record { to = to; bytes = decimal n } ∷ []) draws e is in
      let balance = now.0 in
      subst (AllByRecursion (IsPayment v e)) (sym now.1) (record { amount = n; debit = omega (arith, balance, enough); credit = is_credit n small }, tt)
  paid to n true false covered small is = none_paid v e (no_sends draws (answered v (codes "refused")) e refl is)
  paid to n false k covered small is = none_paid v e (no_sends draws (answered v (codes "refused")) e refl is)

  asked_paid : (text : List ℕ) (o : Option (ℕ × ℕ)) → ((p : ℕ × ℕ) → o ≡ Some p → p.1 < 10 ^ 9) → asked nodes v text o draws ≡ Some e → AllByRecursion (IsPayment v e) e.sends
  asked_paid text None small is = none_paid v e (credited_none (num text) is)
  asked_paid text (Some p) small is = paid p.0 p.1 (nat_lt p.0 nodes) (nat_le p.1 v.root) refl (small p refl) is

  either_paid : (b : Bool) (m : Message) → (if b then asked nodes v m.bytes (payment_of m.bytes) draws else credited v (num m.bytes) draws) ≡ Some e → AllByRecursion (IsPayment v e) e.sends
  either_paid true m is = asked_paid m.bytes (payment_of m.bytes) (payment_small m.bytes) is
  either_paid false m is = none_paid v e (credited_none (num m.bytes) is)

defined_paid : (node nodes : ℕ) (v : Value) (m : Message) (draws : List ℕ) (e : Effect) → ledger_after node nodes v m draws ≡ Some e → AllByRecursion (IsPayment v e) e.sends
unfolding ledger_after
defined_paid node nodes v m draws e is = either_paid nodes v draws e (m.from == OUTSIDE) m is

pub no_payment_is_lost : NoPaymentIsLost
no_payment_is_lost node nodes v m draws e is = elim (within_some nodes v (ledger_after node nodes v m draws) e is) [
  | inl made ↦ defined_paid node nodes v m draws e made
  | inr beyond ↦ none_paid v e (ap (λ (x : Effect). x.sends) beyond)
]
