-- The bytes up to the end of a page.
use Rattle.std.proofs.Common.{◌≡◌, ℕ, ◌+◌, ◌-◌, ◌%◌, ◌<◌, ◌≤◌, List, length, take, drop, ap, ◌∙◌, arith, length-drop, length-take}
use Rattle.std.proofs.lemmas.List.{drop-drop, drop-take}
use Rattle.byteorder.specs.Endian.{big_number}
use Rattle.byteorder.specs.Numbers.{big_from-take}
use Rattle.ken_alloc.specs.Walk.{page_rest}

-- they go on in the same page
pub rest_past : (xs : List ℕ) (at span : ℕ) → span < length (page_rest at xs) → drop span (page_rest at xs) ≡ page_rest (at + span) xs
rest_past xs at span less =
    let within : span < 256 - at % 256 = omega (arith, less, length-take (256 - at % 256) (drop at xs)) in
    let split : 256 - at % 256 ≡ span + (256 - (at + span) % 256) = omega (arith, within) in
    ap (λ (k : ℕ). drop span (take k (drop at xs))) split ∙ drop-take span (256 - (at + span) % 256) (drop at xs) ∙ ap (take (256 - (at + span) % 256)) (drop-drop span at xs)

-- where a head stands there is all of it
pub rest_long : (xs rest : List ℕ) (at : ℕ) → rest ≡ page_rest at xs → at % 16 ≡ 0 → at + 16 ≤ length xs → 16 ≤ length rest
rest_long xs rest at is even within =
    let long : length rest ≡ length (page_rest at xs) = ap length is in
    omega (arith, long, even, within, length-take (256 - at % 256) (drop at xs), length-drop at xs)

-- what its head says
pub rest_span : (xs rest : List ℕ) (at : ℕ) → rest ≡ page_rest at xs → at % 16 ≡ 0 → big_number 4 rest ≡ big_number 4 (drop at xs)
rest_span xs rest at is even =
    ap (λ (ws : List ℕ). big_number 4 ws) is ∙ big_from-take 0 4 (256 - at % 256) (drop at xs) (omega (arith, even))

pub rest_len : (xs rest : List ℕ) (at : ℕ) → rest ≡ page_rest at xs → at % 16 ≡ 0 → big_number 4 (drop 4 rest) ≡ big_number 4 (drop (at + 4) xs)
rest_len xs rest at is even =
    let split : 256 - at % 256 ≡ 4 + (252 - at % 256) = omega (arith, even) in
    ap (λ (ws : List ℕ). big_number 4 (drop 4 ws)) is ∙ ap (λ (k : ℕ). big_number 4 (drop 4 (take k (drop at xs)))) split ∙ ap (λ (ws : List ℕ). big_number 4 ws) (drop-take 4 (252 - at % 256) (drop at xs))
    ∙ big_from-take 0 4 (252 - at % 256) (drop 4 (drop at xs)) (omega (arith, even)) ∙ ap (λ (ws : List ℕ). big_number 4 ws) (drop-drop 4 at xs)
