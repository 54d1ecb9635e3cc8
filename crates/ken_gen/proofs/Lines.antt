-- Lines of the summary, as they are written.
use Rattle.std.proofs.Common.{◌≡◌, ℕ, ◌+◌, ◌<◌, ◌≤◌, List, [], ◌∷◌, ◌++◌, length, get_or, drop, flat_map, append_assoc, append-nil, drop-cons, add-one, arith, sym, ap, ◌∙◌}
use Rattle.std.specs.List.{join_with_byte}
use Rattle.std.proofs.lemmas.Grind.{common_steps}
use Rattle.ken_gen.specs.declared.soaks.NodeTotal.{NodeTotal}
use Rattle.ken_gen.specs.Summary.{node_line, node_lines}

-- words that follow another, each after a space
abbrev pub following : List (List ℕ) → List ℕ
following words = flat_map (λ w. 32 ∷ w) words

join_with_byte-cons : (word : List ℕ) (words : List (List ℕ)) → join_with_byte 32 (word ∷ words) ≡ word ++ following words
join_with_byte-cons word [] = sym (append-nil word)
join_with_byte-cons word (next ∷ words) = ap (λ l. word ++ 32 ∷ l) (join_with_byte-cons next words)

-- joined words after other bytes: the first, and then each after a space
pub joined : (bytes word : List ℕ) (words : List (List ℕ)) → (bytes ++ word) ++ following words ≡ bytes ++ join_with_byte 32 (word ∷ words)
joined bytes word words = append_assoc bytes word (following words) ∙ ap (λ l. bytes ++ l) (sym (join_with_byte-cons word words))

-- the line of the next node is written, and those after it are still to be
pub lines_on : (ts : List NodeTotal) (i : ℕ) (d : NodeTotal) (out whole : List ℕ) → i < length ts → out ++ node_lines i (drop i ts) ≡ whole → (out ++ node_line i (get_or ts i d)) ++ node_lines (i + 1) (drop (i + 1) ts) ≡ whole
unfolding node_lines
lines_on ts i d out whole within is =
    let next : drop i ts ≡ get_or ts i d ∷ drop (i + 1) ts = rw add-one (drop-cons ts i d within) in
    append_assoc out (node_line i (get_or ts i d)) (node_lines (i + 1) (drop (i + 1) ts)) ∙ ap (λ l. out ++ l) (sym (ap (node_lines i) next)) ∙ is

-- after all nodes nothing is
pub lines_done : (ts : List NodeTotal) (i : ℕ) (out whole : List ℕ) → length ts ≤ i → out ++ node_lines i (drop i ts) ≡ whole → out ≡ whole
unfolding node_lines
lines_done ts i out whole done is =
    let none : drop i ts ≡ [] = grind (arith, common_steps) in
    sym (append-nil out) ∙ ap (λ l. out ++ l) (sym (ap (node_lines i) none)) ∙ is
