-- Words joined by a byte, and a text split at it.
use Rattle.std.proofs.Common.{◌≡◌, ℕ, List, [], ◌∷◌, ◌++◌, All, ◌==◌, false, refl, ap, ◌∙◌, eq-eqb}
use Rattle.std.specs.List.{join_with_byte, AllByRecursion}
use Rattle.std.proofs.lemmas.List.Elements.{All-nil, All-cons, All-append}
use Rattle.std.proofs.lemmas.List.Splits.{slice_split_at, slice_split_none}
use Rattle.ken_model.specs.Spelling.{parts_at}

-- no byte of a text is c
abbrev pub IsFree : ℕ → List ℕ → Type 0
IsFree c bytes = All (λ b. (b == c) ≡ false) bytes

-- what holds of the byte between words, and of each byte of theirs, holds of each byte of the text
pub All-join_with_byte : (P : ℕ → Type 0) (c : ℕ) → P c → (words : List (List ℕ)) → AllByRecursion (All P) words → All P (join_with_byte c words)
All-join_with_byte P c between [] each = All-nil P
All-join_with_byte P c between (w ∷ []) each = each.0
All-join_with_byte P c between (w ∷ v ∷ words) each = All-append P w (c ∷ join_with_byte c (v ∷ words)) each.0 (All-cons P c (join_with_byte c (v ∷ words)) between (All-join_with_byte P c between (v ∷ words) each.1))

-- the first part ends at the byte
pub parts_at-append : (c : ℕ) (word rest : List ℕ) → IsFree c word → parts_at c (word ++ c ∷ rest) ≡ word ∷ parts_at c rest
parts_at-append c word rest free = slice_split_at (λ b. b == c) word c rest free (eq-eqb c c refl)

-- words without the byte come back
pub parts_at-join_with_byte : (c : ℕ) (word : List ℕ) (words : List (List ℕ)) → AllByRecursion (IsFree c) (word ∷ words) → parts_at c (join_with_byte c (word ∷ words)) ≡ word ∷ words
parts_at-join_with_byte c word [] free = slice_split_none (λ b. b == c) word free.0
parts_at-join_with_byte c word (v ∷ words) free = parts_at-append c word (join_with_byte c (v ∷ words)) free.0 ∙ ap (λ parts. word ∷ parts) (parts_at-join_with_byte c v words free.1)

-- so do those before a last one, which may hold the byte
pub parts_at-join_before : (c : ℕ) (words : List (List ℕ)) (last : List ℕ) → AllByRecursion (IsFree c) words → parts_at c (join_with_byte c (words ++ last ∷ [])) ≡ words ++ parts_at c last
parts_at-join_before c [] last free = refl
parts_at-join_before c (w ∷ []) last free = parts_at-append c w last free.0
parts_at-join_before c (w ∷ v ∷ words) last free = parts_at-append c w (join_with_byte c (v ∷ (words ++ last ∷ []))) free.0 ∙ ap (λ parts. w ∷ parts) (parts_at-join_before c (v ∷ words) last free.1)
