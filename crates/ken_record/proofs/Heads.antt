-- What stands before a text.
use Rattle.std.proofs.Common.{◌≡◌, ℕ, ◌<◌, List, ◌∷◌, ◌++◌, refl, arith}
use Rattle.std.specs.Int.{byte_at}
use Rattle.ken_record.specs.Spelling.{number}

-- one byte
pub one_byte : (n : ℕ) (rest : List ℕ) → n < 256 → n ∷ rest ≡ number 1 n ++ rest
unfolding number
one_byte n rest small =
    let same : byte_at 0 n ≡ n = omega (arith, small) in
    rw same refl
