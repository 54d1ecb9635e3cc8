-- The paths of disks are all different.
use Rattle.std.proofs.Common.{◌≡◌, ◌≢◌, ℕ, ◌+◌, ◌<◌, List, [], ◌∷◌, ◌++◌, decimal, arith, sym, ap, ◌∙◌}
use Rattle.std.proofs.lemmas.Fmt.{decimal_digit}
use Rattle.std.proofs.lemmas.List.{append_cancel_left}
use Rattle.ken_files.specs.Filing.{path_of}

-- digits with a dot between them
digits_are : (n m a b : ℕ) → (48 + n) ∷ 46 ∷ (48 + a) ∷ [] ≡ (48 + m) ∷ 46 ∷ (48 + b) ∷ [] → (n ≡ m) × (a ≡ b)
digits_are n m a b e =
    let node : 48 + n ≡ 48 + m = cc in
    let disk : 48 + a ≡ 48 + b = cc in
    (omega arith, omega arith)

spelled_path : (n a : ℕ) → n < 10 → a < 10 → decimal n ++ 46 ∷ decimal a ≡ (48 + n) ∷ 46 ∷ (48 + a) ∷ []
spelled_path n a node disk = ap (λ (l : List ℕ). l ++ 46 ∷ decimal a) (decimal_digit n node) ∙ ap (λ (l : List ℕ). (48 + n) ∷ 46 ∷ l) (decimal_digit a disk)

-- a path tells its node and its disk
pub paths_tell : (prefix : List ℕ) (n m a b : ℕ) → n < 10 → m < 10 → a < 10 → b < 10 → path_of prefix n a ≡ path_of prefix m b → (n ≡ m) × (a ≡ b)
paths_tell prefix n m a b n_few m_few a_few b_few same =
    let parts = append_cancel_left prefix _ _ same in
    digits_are n m a b (sym (spelled_path n a n_few a_few) ∙ parts ∙ spelled_path m b m_few b_few)

-- so the paths of two disks are different
pub paths_differ : (prefix : List ℕ) (n m a b : ℕ) → n < 10 → m < 10 → a < 10 → b < 10 → ((n ≡ m) × (a ≡ b) → ⊥) → path_of prefix n a ≢ path_of prefix m b
paths_differ prefix n m a b n_few m_few a_few b_few differ same = differ (paths_tell prefix n m a b n_few m_few a_few b_few same)
