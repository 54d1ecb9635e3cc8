-- One list over the front of another, and a third behind it.
use Rattle.std.proofs.Common.{◌≡◌, ℕ, ◌+◌, ◌++◌, List, length, take, ap, ◌∙◌}
use Rattle.std.proofs.Math.Seq.{take-append-add, take-append_seam}

pub take_joined : (front old back rest : List ℕ) → take (length front + length back) (take (length front) (front ++ old) ++ (back ++ rest)) ≡ front ++ back
take_joined front old back rest =
    ap (λ xs. take (length front + length back) (xs ++ (back ++ rest))) (take-append_seam front old)
    ∙ take-append-add front (back ++ rest) (length back)
    ∙ ap (λ xs. front ++ xs) (take-append_seam back rest)
