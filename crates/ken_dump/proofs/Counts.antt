-- The lines of counts, one after the other.
use Rattle.std.proofs.Common.{◌≡◌, ℕ, ◌+◌, ◌<◌, ◌≤◌, List, [], ◌∷◌, ◌++◌, drop, length, get_or, drop-cons, add-one, arith, ap}
use Rattle.std.proofs.lemmas.List.{append-nil}
use Rattle.std.proofs.lemmas.Grind.{common_steps}
use Rattle.ken_dump.specs.StateText.{count_line, count_lines}

-- the next line, and those after it
pub next_count : (word : List ℕ) (name : ℕ → List ℕ) (u : ℕ) (ns : List ℕ) → u < length ns
    → count_lines word name u (drop u ns) ≡ count_line word (name u) (get_or ns u 0) ++ count_lines word name (u + 1) (drop (u + 1) ns)
unfolding count_lines
next_count word name u ns within =
    let next : drop u ns ≡ get_or ns u 0 ∷ drop (u + 1) ns = rw add-one (drop-cons ns u 0 within) in
    ap (count_lines word name u) next

-- after the last there are no more
pub no_count : (out word : List ℕ) (name : ℕ → List ℕ) (u : ℕ) (ns : List ℕ) → length ns ≤ u
    → out ++ count_lines word name u (drop u ns) ≡ out
unfolding count_lines
no_count out word name u ns done =
    let none : drop u ns ≡ [] = grind (arith, common_steps) in
    rw none (append-nil out)
