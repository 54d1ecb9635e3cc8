-- The first place in a list that passes.
use Rattle.std.proofs.Common.{◌≡◌, ℕ, ◌+◌, List, [], ◌∷◌, map, Bool, not, cond, position, String, Global, string_bytes, refl, ap}
use Rattle.std.proofs.lemmas.List.{length-map}
use Rattle.std.specs.List.{prefix_len}
use Rattle.std.specs.Map.{keys_of}
use Rattle.serde_json.specs.View.{members_view}
use Rattle.serde_json.specs.declared.value.Value.{Value}
use Rattle.ken_script.specs.Keys.{keys_in}

prefix_len-map : {A B : Type 0} (p : B → Bool) (f : A → B) (xs : List A) → prefix_len p (map f xs) ≡ prefix_len (λ x. p (f x)) xs
prefix_len-map p f [] = refl
prefix_len-map p f (x ∷ xs) = ap (λ n. cond (p (f x)) (1 + n) 0) (prefix_len-map p f xs)

position-map : {A B : Type 0} (p : B → Bool) (f : A → B) (xs : List A) → position p (map f xs) ≡ position (λ x. p (f x)) xs
position-map p f xs = rw (prefix_len-map (λ x. not (p x)) f xs, length-map xs f)

keys_in-members_view : (es : List (String Global × Value)) → keys_in (members_view es) ≡ map string_bytes (keys_of es)
keys_in-members_view [] = refl
keys_in-members_view (e ∷ es) = ap (λ names. string_bytes e.0 ∷ names) (keys_in-members_view es)

-- the same place among a map's keys as among those of the object that it is
pub position-keys_in : (p : List ℕ → Bool) (es : List (String Global × Value)) → position p (keys_in (members_view es)) ≡ position (λ k. p (string_bytes k)) (keys_of es)
position-keys_in p es = rw keys_in-members_view (position-map p string_bytes (keys_of es))
