use Rattle.std.proofs.Common.{◌≡◌, ◌<◌, ◌^◌, ℕ, Result, Ok, Err, arith}
use Rattle.std.specs.Prelude.{OkIff}
use Rattle.std.proofs.lemmas.Str.Parse.{parse_digits}
use Rattle.ken_num.specs.Numbers.{value_from}
use Rattle.ken_num.proofs.Decimals.{numerals}
use Rattle.ken_words.proofs.numbers.in_range.Goals as goal

read : {E : Type 0} (r : Result ℕ E) (some : Type 0) (value x : ℕ) → OkIff r some value → r ≡ Ok x → x ≡ value
read (Ok y) some value x given is = cc
read (Err e) some value x given is = absurd cc

unread : {E : Type 0} (r : Result ℕ E) (some : Type 0) (value : ℕ) (e : E) → OkIff r some value → r ≡ Err e → some → ⊥
unread (Ok y) some value e given is = absurd cc
unread (Err e2) some value e given is = given

-- std reads digits as their number
pub returns-in-Ok-clause-number : goal.returns-in-Ok-clause-number
returns-in-Ok-clause-number c =
    let value : c.in-Ok.number ≡ value_from 0 c.args.digits.now = read c.parse.result _ _ c.in-Ok.number (parse_digits numerals 64 c.args.digits.now c.parse.result c.parse.ensures.value.0 c.requires.digits) c.in-Ok.is in
    let low = c.if-least-number.true in
    let high = c.if-number-most.true in
    grind (arith, value, low, high)

pub returns-in_default-clause-number : goal.returns-in_default-clause-number
returns-in_default-clause-number c =
    let value : c.in-Ok.number ≡ value_from 0 c.args.digits.now = read c.parse.result _ _ c.in-Ok.number (parse_digits numerals 64 c.args.digits.now c.parse.result c.parse.ensures.value.0 c.requires.digits) c.in-Ok.is in
    let above = c.if-number-most.false in
    grind (arith, value, above)

pub returns-in_default-2-clause-number : goal.returns-in_default-2-clause-number
returns-in_default-2-clause-number c =
    let value : c.in-Ok.number ≡ value_from 0 c.args.digits.now = read c.parse.result _ _ c.in-Ok.number (parse_digits numerals 64 c.args.digits.now c.parse.result c.parse.ensures.value.0 c.requires.digits) c.in-Ok.is in
    let below = c.if-least-number.false in
    grind (arith, value, below)

-- and refuses only what 64 bits don't hold
pub returns-in_default-3-clause-number : goal.returns-in_default-3-clause-number
returns-in_default-3-clause-number c =
    let never = unread c.parse.result _ _ c.in_default.field-0 (parse_digits numerals 64 c.args.digits.now c.parse.result c.parse.ensures.value.0 c.requires.digits) c.in_default.is in
    let high : value_from 0 c.args.digits.now < 2 ^ 64 → ⊥ = λ low. never (c.requires.some, low) in
    let most = c.ranges.most.fits in
    grind (arith, high, most)
