-- Bytes that were read as a number are the bytes that it is written as.
use Rattle.std.proofs.Common.{◌≡◌, ℕ, ◌+◌, ◌<◌, List, [], ◌∷◌, length, get_or, take, drop, ◌≤◌, ap, ◌∙◌, refl, arith}
use Rattle.std.proofs.lemmas.List.{get_or-take, get_or-drop, length-drop, length-take-le}
use Rattle.byteorder.specs.Endian.{big_number, big_bytes}
use Rattle.std.specs.Int.{byte_at}

pub again_2 : (xs : List ℕ) → length xs ≡ 2 → ((i : ℕ) → i < 2 → get_or xs i 0 < 256) → big_bytes 2 (big_number 2 xs) ≡ xs
again_2 [] long bytes = absurd cc
again_2 (a ∷ []) long bytes = absurd (omega (arith, long))
again_2 (a ∷ b ∷ z ∷ xs) long bytes = absurd (omega (arith, long))
again_2 (a ∷ b ∷ []) long bytes =
    let n : ℕ = big_number 2 (a ∷ b ∷ []) in
    let a_is : byte_at 1 n ≡ a = omega (arith, bytes 0 (omega arith), bytes 1 (omega arith)) in
    let b_is : byte_at 0 n ≡ b = omega (arith, bytes 0 (omega arith), bytes 1 (omega arith)) in
    rw (a_is, b_is) refl

pub again_4 : (xs : List ℕ) → length xs ≡ 4 → ((i : ℕ) → i < 4 → get_or xs i 0 < 256) → big_bytes 4 (big_number 4 xs) ≡ xs
again_4 [] long bytes = absurd cc
again_4 (a ∷ []) long bytes = absurd (omega (arith, long))
again_4 (a ∷ b ∷ []) long bytes = absurd (omega (arith, long))
again_4 (a ∷ b ∷ c ∷ []) long bytes = absurd (omega (arith, long))
again_4 (a ∷ b ∷ c ∷ d ∷ z ∷ xs) long bytes = absurd (omega (arith, long))
again_4 (a ∷ b ∷ c ∷ d ∷ []) long bytes =
    let n : ℕ = big_number 4 (a ∷ b ∷ c ∷ d ∷ []) in
    let a_is : byte_at 3 n ≡ a = omega (arith, bytes 0 (omega arith), bytes 1 (omega arith), bytes 2 (omega arith), bytes 3 (omega arith)) in
    let b_is : byte_at 2 n ≡ b = omega (arith, bytes 0 (omega arith), bytes 1 (omega arith), bytes 2 (omega arith), bytes 3 (omega arith)) in
    let c_is : byte_at 1 n ≡ c = omega (arith, bytes 0 (omega arith), bytes 1 (omega arith), bytes 2 (omega arith), bytes 3 (omega arith)) in
    let d_is : byte_at 0 n ≡ d = omega (arith, bytes 0 (omega arith), bytes 1 (omega arith), bytes 2 (omega arith), bytes 3 (omega arith)) in
    rw (a_is, b_is, c_is, d_is) refl

pub again_8 : (xs : List ℕ) → length xs ≡ 8 → ((i : ℕ) → i < 8 → get_or xs i 0 < 256) → big_bytes 8 (big_number 8 xs) ≡ xs
again_8 [] long bytes = absurd cc
again_8 (a ∷ []) long bytes = absurd (omega (arith, long))
again_8 (a ∷ b ∷ []) long bytes = absurd (omega (arith, long))
again_8 (a ∷ b ∷ c ∷ []) long bytes = absurd (omega (arith, long))
again_8 (a ∷ b ∷ c ∷ d ∷ []) long bytes = absurd (omega (arith, long))
again_8 (a ∷ b ∷ c ∷ d ∷ e ∷ []) long bytes = absurd (omega (arith, long))
again_8 (a ∷ b ∷ c ∷ d ∷ e ∷ f ∷ []) long bytes = absurd (omega (arith, long))
again_8 (a ∷ b ∷ c ∷ d ∷ e ∷ f ∷ g ∷ []) long bytes = absurd (omega (arith, long))
again_8 (a ∷ b ∷ c ∷ d ∷ e ∷ f ∷ g ∷ h ∷ z ∷ xs) long bytes = absurd (omega (arith, long))
again_8 (a ∷ b ∷ c ∷ d ∷ e ∷ f ∷ g ∷ h ∷ []) long bytes =
    let n : ℕ = big_number 8 (a ∷ b ∷ c ∷ d ∷ e ∷ f ∷ g ∷ h ∷ []) in
    let a_is : byte_at 7 n ≡ a = omega (arith, bytes 0 (omega arith), bytes 1 (omega arith), bytes 2 (omega arith), bytes 3 (omega arith), bytes 4 (omega arith), bytes 5 (omega arith), bytes 6 (omega arith), bytes 7 (omega arith)) in
    let b_is : byte_at 6 n ≡ b = omega (arith, bytes 0 (omega arith), bytes 1 (omega arith), bytes 2 (omega arith), bytes 3 (omega arith), bytes 4 (omega arith), bytes 5 (omega arith), bytes 6 (omega arith), bytes 7 (omega arith)) in
    let c_is : byte_at 5 n ≡ c = omega (arith, bytes 0 (omega arith), bytes 1 (omega arith), bytes 2 (omega arith), bytes 3 (omega arith), bytes 4 (omega arith), bytes 5 (omega arith), bytes 6 (omega arith), bytes 7 (omega arith)) in
    let d_is : byte_at 4 n ≡ d = omega (arith, bytes 0 (omega arith), bytes 1 (omega arith), bytes 2 (omega arith), bytes 3 (omega arith), bytes 4 (omega arith), bytes 5 (omega arith), bytes 6 (omega arith), bytes 7 (omega arith)) in
    let e_is : byte_at 3 n ≡ e = omega (arith, bytes 0 (omega arith), bytes 1 (omega arith), bytes 2 (omega arith), bytes 3 (omega arith), bytes 4 (omega arith), bytes 5 (omega arith), bytes 6 (omega arith), bytes 7 (omega arith)) in
    let f_is : byte_at 2 n ≡ f = omega (arith, bytes 0 (omega arith), bytes 1 (omega arith), bytes 2 (omega arith), bytes 3 (omega arith), bytes 4 (omega arith), bytes 5 (omega arith), bytes 6 (omega arith), bytes 7 (omega arith)) in
    let g_is : byte_at 1 n ≡ g = omega (arith, bytes 0 (omega arith), bytes 1 (omega arith), bytes 2 (omega arith), bytes 3 (omega arith), bytes 4 (omega arith), bytes 5 (omega arith), bytes 6 (omega arith), bytes 7 (omega arith)) in
    let h_is : byte_at 0 n ≡ h = omega (arith, bytes 0 (omega arith), bytes 1 (omega arith), bytes 2 (omega arith), bytes 3 (omega arith), bytes 4 (omega arith), bytes 5 (omega arith), bytes 6 (omega arith), bytes 7 (omega arith)) in
    rw (a_is, b_is, c_is, d_is, e_is, f_is, g_is, h_is) refl

-- a part of bytes holds bytes
pub part_bytes : (bytes xs : List ℕ) (at n : ℕ) → ((i : ℕ) → get_or bytes i 0 < 256) → xs ≡ take n (drop at bytes) → (i : ℕ) → i < n → get_or xs i 0 < 256
part_bytes bytes xs at n fits is i less =
    let same : get_or xs i 0 ≡ get_or bytes (at + i) 0 = ap (λ ws. get_or ws i 0) is ∙ get_or-take n (drop at bytes) i 0 less ∙ get_or-drop at bytes i 0 in
    omega (arith, same, fits (at + i))

pub part_long : (bytes xs : List ℕ) (at n : ℕ) → at + n ≤ length bytes → xs ≡ take n (drop at bytes) → length xs ≡ n
part_long bytes xs at n room is = ap length is ∙ length-take-le n (drop at bytes) (omega (arith, room, length-drop at bytes))
