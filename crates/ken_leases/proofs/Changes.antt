-- The leases of names once a lease is written.
use Rattle.std.proofs.Common.{◌≡◌, ℕ, ◌+◌, ◌^◌, ◌<◌, ◌⊎◌, inl, inr, List, [], ◌∷◌, length, drop, Bool, true, false, ◌==◌, nat_lt, bytes_eq, if◌then◌else◌, Option, Some, None, option_map, refl, ◌∙◌, ap, eq-eqb}
use Rattle.std.proofs.lemmas.Slice.Eq.{bytes_eq-Decides}
use Rattle.ken_model.specs.declared.values.Block.{Block}
use Rattle.ken_model.specs.Bank.{of_length}
use Rattle.ken_model.specs.Heap.{with_block}
use Rattle.ken_model.specs.KeyValue.{at_space, is_key, pair_of}
use Rattle.ken_leases.specs.declared.blocks.Lease.{Lease}
use Rattle.ken_leases.specs.Leases.{lease_bytes, lease_in, lease_of, rewritten_pair}
use Rattle.ken_leases.proofs.Rewrites.{length-lease_bytes}
use Rattle.ken_leases.proofs.BytesRead.{key_of_lease, lease_back}

-- ---- pairs

pair_rewritten : (name zs : List ℕ) (b : Block) → is_key name (at_space zs) ≡ true → (bs : List Block) → pair_of name bs ≡ Some b → pair_of name (rewritten_pair name zs bs) ≡ Some (record b { bytes = zs })
pair_rewritten name zs b key [] found = absurd cc
pair_rewritten name zs b key (x ∷ xs) found = go (is_key name (at_space x.bytes)) refl found (pair_rewritten name zs b key xs)
  where
    go : (t : Bool) → is_key name (at_space x.bytes) ≡ t → (if t then Some x else pair_of name xs) ≡ Some b → (pair_of name xs ≡ Some b → pair_of name (rewritten_pair name zs xs) ≡ Some (record b { bytes = zs }))
        → pair_of name (if t then record x { bytes = zs } ∷ xs else x ∷ rewritten_pair name zs xs) ≡ Some (record b { bytes = zs })
    go true e is rest = let same : x ≡ b = cc in rw key (ap (λ (y : Block). (let z : Block = record y { bytes = zs } in Some z)) same)
    go false e is rest = rw e (rest is)

-- a block has one key
one_key : (name other : List ℕ) (o : Option (List ℕ × List ℕ)) → bytes_eq name other ≡ false → is_key name o ≡ true → is_key other o ≡ false
one_key name other None differ key = absurd cc
one_key name other (Some parts) differ key = ap (λ (x : List ℕ). bytes_eq x other) ((bytes_eq-Decides parts.0 name).0 key) ∙ differ

pair_untouched : (name other zs : List ℕ) → bytes_eq name other ≡ false → is_key other (at_space zs) ≡ false → (bs : List Block) → pair_of other (rewritten_pair name zs bs) ≡ pair_of other bs
pair_untouched name other zs differ key [] = refl
pair_untouched name other zs differ key (x ∷ xs) = go (is_key name (at_space x.bytes)) refl (pair_untouched name other zs differ key xs)
  where
    go : (t : Bool) → is_key name (at_space x.bytes) ≡ t → pair_of other (rewritten_pair name zs xs) ≡ pair_of other xs → pair_of other (if t then record x { bytes = zs } ∷ xs else x ∷ rewritten_pair name zs xs) ≡ pair_of other (x ∷ xs)
    go true e rest = rw (key, one_key name other (at_space x.bytes) differ e) refl
    go false e rest = ap (λ (o : Option Block). if is_key other (at_space x.bytes) then Some x else o) rest

pair_beside : (other : List ℕ) (new : Block) → is_key other (at_space new.bytes) ≡ false → (bs : List Block) → pair_of other (with_block new bs) ≡ pair_of other bs
pair_beside other new key [] = rw key refl
pair_beside other new key (x ∷ xs) = go (nat_lt new.place x.place) (pair_beside other new key xs)
  where
    go : (t : Bool) → pair_of other (with_block new xs) ≡ pair_of other xs → pair_of other (if t then new ∷ x ∷ xs else x ∷ with_block new xs) ≡ pair_of other (x ∷ xs)
    go true rest = rw key refl
    go false rest = ap (λ (o : Option Block). if is_key other (at_space x.bytes) then Some x else o) rest

-- a new pair of a name is found, or an old one before it
pair_new : (name : List ℕ) (new : Block) → is_key name (at_space new.bytes) ≡ true → (bs : List Block) → (pair_of name (with_block new bs) ≡ Some new) ⊎ (pair_of name (with_block new bs) ≡ pair_of name bs)
pair_new name new key [] = inl (rw key refl)
pair_new name new key (x ∷ xs) = go (nat_lt new.place x.place) (is_key name (at_space x.bytes)) refl (pair_new name new key xs)
  where
    go : (t k : Bool) → is_key name (at_space x.bytes) ≡ k → (pair_of name (with_block new xs) ≡ Some new) ⊎ (pair_of name (with_block new xs) ≡ pair_of name xs)
        → (pair_of name (if t then new ∷ x ∷ xs else x ∷ with_block new xs) ≡ Some new) ⊎ (pair_of name (if t then new ∷ x ∷ xs else x ∷ with_block new xs) ≡ pair_of name (x ∷ xs))
    go true k e rest = inl (rw key refl)
    go false true e rest = inr (rw e refl)
    go false false e rest = rw e rest

-- ---- leases

-- a lease in a pair
abbrev in_pair : List ℕ → Option Block → Option Lease
in_pair name o = option_map (λ (b : Block). lease_in (drop (length name + 1) b.bytes)) (of_length (length name + 18) o)

some_pair : (name : List ℕ) (o : Option Block) (was : Lease) → in_pair name o ≡ Some was → (b : Block) × (o ≡ Some b)
some_pair name None was is = absurd cc
some_pair name (Some b) was is = (b, refl)

module _ (name : List ℕ) (now : Lease) (named : at_space name ≡ None) where
  itself : is_key name (at_space (lease_bytes name now)) ≡ true
  itself = key_of_lease name name now named ∙ (bytes_eq-Decides name name).1 refl

  in_bytes : (place : ℕ) → now.from < 2 ^ 64 → now.until < 2 ^ 64 → in_pair name (Some (record { place = place; bytes = lease_bytes name now })) ≡ Some now
  in_bytes place first last =
      let long : (length (lease_bytes name now) == length name + 18) ≡ true = eq-eqb (length (lease_bytes name now)) (length name + 18) (length-lease_bytes name now) in
      rw long (ap (λ (l : Lease). Some l) (lease_back name now first last))

  -- its name has it
  pub lease_rewritten : (bs : List Block) (was : Lease) → now.from < 2 ^ 64 → now.until < 2 ^ 64 → lease_of name bs ≡ Some was → lease_of name (rewritten_pair name (lease_bytes name now) bs) ≡ Some now
  lease_rewritten bs was first last found =
      let b = some_pair name (pair_of name bs) was found in
      ap (in_pair name) (pair_rewritten name (lease_bytes name now) b.0 itself bs b.1) ∙ in_bytes b.0.place first last

  pub lease_new : (place : ℕ) (bs : List Block) → now.from < 2 ^ 64 → now.until < 2 ^ 64
      → (lease_of name (with_block (record { place = place; bytes = lease_bytes name now }) bs) ≡ Some now) ⊎ (lease_of name (with_block (record { place = place; bytes = lease_bytes name now }) bs) ≡ lease_of name bs)
  lease_new place bs first last = elim (pair_new name (record { place = place; bytes = lease_bytes name now }) itself bs) [
    | inl new ↦ inl (ap (in_pair name) new ∙ in_bytes place first last)
    | inr old ↦ inr (ap (in_pair name) old)
  ]

  -- and other names have what they had
  pub lease_untouched : (other : List ℕ) (bs : List Block) → bytes_eq name other ≡ false → lease_of other (rewritten_pair name (lease_bytes name now) bs) ≡ lease_of other bs
  lease_untouched other bs differ = ap (in_pair other) (pair_untouched name other (lease_bytes name now) differ (key_of_lease name other now named ∙ differ) bs)

  pub lease_beside : (other : List ℕ) (place : ℕ) (bs : List Block) → bytes_eq name other ≡ false → lease_of other (with_block (record { place = place; bytes = lease_bytes name now }) bs) ≡ lease_of other bs
  lease_beside other place bs differ = ap (in_pair other) (pair_beside other (record { place = place; bytes = lease_bytes name now }) (key_of_lease name other now named ∙ differ) bs)
