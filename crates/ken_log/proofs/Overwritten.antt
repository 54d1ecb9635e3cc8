-- Bytes that a write leaves whole, and statements on what a run of writes tears.
use Rattle.std.proofs.Common.{ℕ, ◌≤◌, List, [], ◌∷◌, length, arith}
use Rattle.ken_disk.specs.Bytes.{overwrite}
use Rattle.ken_disk.specs.Through.{Torn}
use Rattle.ken_disk.proofs.Overwrites.{length-overwrite, get_or-overwrite_before, get_or-overwrite_behind}
use Rattle.ken_disk.proofs.Images.{Torn-by_place}
use Rattle.ken_disk.proofs.Made.{Tears}

-- all of it is written
pub Torn-overwrite : (at : ℕ) (bytes old : List ℕ) → at ≤ length old → Torn at (length bytes) old (overwrite at bytes old)
Torn-overwrite at bytes old inside =
    let long = length-overwrite at bytes old inside in
    Torn-by_place at (length bytes) old (overwrite at bytes old) inside (omega (arith, long)) (omega (arith, long))
    (λ place before. get_or-overwrite_before at bytes old inside place before)
    (λ place within behind. get_or-overwrite_behind at bytes old inside place behind)

-- what holds of each image that a run of writes tears
pub tears_weaker : (P Q : List ℕ → Type 0) → ((image : List ℕ) → P image → Q image) → (ws : List (ℕ × List ℕ)) (seen : List ℕ) → Tears P ws seen → Tears Q ws seen
tears_weaker P Q so [] seen t = so seen t
tears_weaker P Q so (w ∷ ws) seen t =
    (t.0, λ image torn. so image (t.1 image torn), tears_weaker P Q so ws (overwrite w.0 w.1 seen) t.2)
