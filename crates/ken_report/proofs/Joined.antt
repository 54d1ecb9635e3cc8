-- Words joined by a byte.
use Rattle.std.proofs.Common.{◌≡◌, ℕ, List, [], ◌∷◌, ◌++◌, flat_map, append_assoc, append-nil, sym, ap, ◌∙◌}
use Rattle.std.specs.List.{join_with_byte}

-- words that follow another, each after the byte
abbrev pub following : ℕ → List (List ℕ) → List ℕ
following c words = flat_map (λ w. c ∷ w) words

join_with_byte-cons : (c : ℕ) (word : List ℕ) (words : List (List ℕ)) → join_with_byte c (word ∷ words) ≡ word ++ following c words
join_with_byte-cons c word [] = sym (append-nil word)
join_with_byte-cons c word (next ∷ words) = ap (λ l. word ++ c ∷ l) (join_with_byte-cons c next words)

-- joined words after other bytes: the first, and then each after the byte
pub append-join_with_byte : (bytes : List ℕ) (c : ℕ) (word : List ℕ) (words : List (List ℕ)) → (bytes ++ word) ++ following c words ≡ bytes ++ join_with_byte c (word ∷ words)
append-join_with_byte bytes c word words = append_assoc bytes word (following c words) ∙ ap (λ l. bytes ++ l) (sym (join_with_byte-cons c word words))
