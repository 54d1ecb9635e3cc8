-- No base of a side is longer than the lists of its log allow.
use Rattle.std.proofs.Common.{◌≡◌, ℕ, suc, zero, ◌+◌, ◌*◌, ◌≤◌, List, [], ◌∷◌, ◌++◌, length, map, cond, Bool, true, false, Option, Some, None, refl, sym, subst, ap, ◌∙◌, arith, length-append, append-nil}
use Rattle.std.specs.Prelude.{if◌then◌else◌, nat_lt}
use Rattle.std.specs.List.{AllByRecursion, filter, flat_map, range_with_len}
use Rattle.std.proofs.Math.Nat.{mul-suc, suc-mul}
use Rattle.ken_pages.specs.Paged.{page_of}
use Rattle.ken_record.specs.declared.due.Due.{Due}
use Rattle.ken_record.specs.declared.record.Record.{Record}
use Rattle.ken_record.specs.declared.sent.Sent.{Sent}
use Rattle.ken_model.specs.declared.messages.Out.{Out}
use Rattle.ken_record.specs.Grammar.{IsDue, IsOut, IsRecord, IsSent}
use Rattle.ken_record.specs.Spelling.{due, out}
use Rattle.ken_record.specs.Versions.{One}
use Rattle.ken_record.proofs.Sizes.{due_long, out_long}
use Rattle.ken_cover.specs.declared.layers.Change.{Change}
use Rattle.ken_cover.specs.Sides.{base_change, stays}
use Rattle.ken_store.specs.Turnovers.{due_of, record_dues, is_due, unacked_to, all_due, outs_above}
use Rattle.ken_store.proofs.Sizing.{kept-append, group_more, count_more}

-- ---- items that are kept or left out

abbrev AreShort : {A : Type 0} → (A → List ℕ) → ℕ → List A → Type 0
AreShort spell most xs = AllByRecursion (λ x. length (spell x) ≤ most) xs

module _ {A : Type 0} (spell : A → List ℕ) (most : ℕ) where
  short-append : (xs ys : List A) → AreShort spell most xs → AreShort spell most ys → AreShort spell most (xs ++ ys)
  short-append [] ys xs-short ys-short = ys-short
  short-append (x ∷ xs) ys xs-short ys-short = (xs-short.0, short-append xs ys xs-short.1 ys-short)

  module _ (p : A → Bool) where
    one-few : (x : A) → length (spell x) ≤ most → length (flat_map spell (filter p (x ∷ []))) ≤ most
    one-few x short = elim (p x) as (λ b. length (flat_map spell (cond b (x ∷ []) [])) ≤ most) [ true ↦ subst (λ n. n ≤ most) (sym (ap length (append-nil (spell x)))) short | false ↦ omega arith ]

    kept-few : (xs : List A) → AreShort spell most xs → length (flat_map spell (filter p xs)) ≤ most * length xs
    kept-few [] short = omega arith
    kept-few (x ∷ xs) short =
        let both : length (flat_map spell (filter p (x ∷ xs))) ≡ length (flat_map spell (filter p (x ∷ []))) + length (flat_map spell (filter p xs)) = kept-append spell p (x ∷ []) xs in
        let more : most * suc (length xs) ≡ most * length xs + most = mul-suc most (length xs) in
        omega (arith, both, one-few x short.0, kept-few xs short.1, more)

-- ---- messages

dues-short : (ms : List Due) → AllByRecursion IsDue ms → AreShort due 531 ms
dues-short [] fit = tt
dues-short (m ∷ ms) fit = (omega (arith, due_long m, fit.0.bytes), dues-short ms fit.1)

sends-short : (stamp : ℕ) (ss : List Sent) → AllByRecursion IsSent ss → AreShort due 531 (map (due_of stamp) ss) × (length (map (due_of stamp) ss) ≡ length ss)
sends-short stamp [] fit = (tt, refl)
sends-short stamp (s ∷ ss) fit = ((omega (arith, due_long (due_of stamp s), fit.0.bytes), (sends-short stamp ss fit.1).0), ap (λ (n : ℕ). suc n) (sends-short stamp ss fit.1).1)

records-short : (rs : List Record) → AllByRecursion (IsRecord One) rs → AreShort due 531 (flat_map record_dues rs) × (length (flat_map record_dues rs) ≤ 16 * length rs)
records-short [] fit = (tt, omega arith)
records-short (r ∷ rs) fit =
    let few = fit.0.lists.1.0 in
    let one = sends-short r.stamp r.sends fit.0.lists.1.1 in
    let rest = records-short rs fit.1 in
    (short-append due 531 (record_dues r) (flat_map record_dues rs) one.0 rest.0, omega (arith, length-append (record_dues r) (flat_map record_dues rs), one.1, few, rest.1))

groups-few : (acked : List ℕ) (ms : List Due) (n : ℕ) → AreShort due 531 ms → length (flat_map due (flat_map (unacked_to acked ms) (range_with_len 0 n))) ≤ n * (531 * length ms)
groups-few acked ms zero short = omega arith
groups-few acked ms (suc n) short =
    let next : suc n ≡ n + 1 = omega arith in
    let more : length (flat_map due (flat_map (unacked_to acked ms) (range_with_len 0 (suc n)))) ≡ length (flat_map due (flat_map (unacked_to acked ms) (range_with_len 0 n))) + length (flat_map due (unacked_to acked ms n)) = ap (λ (k : ℕ). length (flat_map due (flat_map (unacked_to acked ms) (range_with_len 0 k)))) next ∙ group_more due (unacked_to acked ms) n in
    let product : suc n * (531 * length ms) ≡ n * (531 * length ms) + 531 * length ms = suc-mul n (531 * length ms) in
    omega (arith, more, groups-few acked ms n short, kept-few due 531 (is_due acked n) ms short, product)

pub dues-few : (acked : List ℕ) (base : List Due) (rs : List Record) → AllByRecursion IsDue base → AllByRecursion (IsRecord One) rs → length (flat_map due (all_due acked (base ++ flat_map record_dues rs))) ≤ 8 * (531 * (length base + 16 * length rs))
dues-few acked base rs base-fit rs-fit =
    let rest = records-short rs rs-fit in
    let all = groups-few acked (base ++ flat_map record_dues rs) 8 (short-append due 531 base (flat_map record_dues rs) (dues-short base base-fit) rest.0) in
    omega (arith, all, length-append base (flat_map record_dues rs), rest.1)

-- ---- outputs

outs-short : (os : List Out) → AllByRecursion IsOut os → AreShort out 522 os
outs-short [] fit = tt
outs-short (o ∷ os) fit = (omega (arith, out_long o, fit.0.text), outs-short os fit.1)

record-outs-short : (rs : List Record) → AllByRecursion (IsRecord One) rs → AreShort out 522 (flat_map (λ (r : Record). r.outs) rs) × (length (flat_map (λ (r : Record). r.outs) rs) ≤ 16 * length rs)
record-outs-short [] fit = (tt, omega arith)
record-outs-short (r ∷ rs) fit =
    let few = fit.0.lists.2.0 in
    let rest = record-outs-short rs fit.1 in
    (short-append out 522 r.outs (flat_map (λ (r : Record). r.outs) rs) (outs-short r.outs fit.0.lists.2.1) rest.0, omega (arith, length-append r.outs (flat_map (λ (r : Record). r.outs) rs), few, rest.1))

pub outs-few : (emitted : ℕ) (base : List Out) (rs : List Record) → AllByRecursion IsOut base → AllByRecursion (IsRecord One) rs → length (flat_map out (outs_above emitted (base ++ flat_map (λ (r : Record). r.outs) rs))) ≤ 522 * (length base + 16 * length rs)
outs-few emitted base rs base-fit rs-fit =
    let rest = record-outs-short rs rs-fit in
    let all = kept-few out 522 (λ (o : Out). nat_lt emitted o.number) (base ++ flat_map (λ (r : Record). r.outs) rs) (short-append out 522 base (flat_map (λ (r : Record). r.outs) rs) (outs-short base base-fit) rest.0) in
    omega (arith, all, length-append base (flat_map (λ (r : Record). r.outs) rs), rest.1)

-- ---- pages

one-or-none : {A : Type 0} (b : Bool) (x : A) → length (if b then x ∷ [] else []) ≤ 1
one-or-none true x = omega arith
one-or-none false x = omega arith

change-one : (settled : ℕ) (heap : List ℕ) (p : ℕ) (c : Option Change) → length (base_change settled heap p c) ≤ 1
change-one settled heap p None = omega arith
change-one settled heap p (Some c) = one-or-none {A = Change} (stays settled c.turn) (record { turn = c.turn; page = record { page = p; bytes = page_of heap p } })

pub changes-few : (settled : ℕ) (heap : List ℕ) (f : ℕ → Option Change) (n : ℕ) → length (flat_map (λ p. base_change settled heap p (f p)) (range_with_len 0 n)) ≤ n
changes-few settled heap f zero = omega arith
changes-few settled heap f (suc n) =
    let next : suc n ≡ n + 1 = omega arith in
    let more : length (flat_map (λ p. base_change settled heap p (f p)) (range_with_len 0 (suc n))) ≡ length (flat_map (λ p. base_change settled heap p (f p)) (range_with_len 0 n)) + length (base_change settled heap n (f n)) = ap (λ (k : ℕ). length (flat_map (λ p. base_change settled heap p (f p)) (range_with_len 0 k))) next ∙ count_more (λ (p : ℕ). base_change settled heap p (f p)) n in
    omega (arith, more, change-one settled heap n (f n), changes-few settled heap f n)
