-- Kinds take one number of draws for a message.
use Rattle.std.proofs.Common.{◌≡◌, ◌∙◌, ℕ, List, [], ◌∷◌, ◌++◌, Bool, Option, Some, None, IsSome, is_some, false, true, refl, sym, ap, arith}
use Rattle.ken_model.specs.declared.kinds.Kind.{Kind}
use Rattle.ken_model.specs.declared.kinds.Kind.TheVariants.{Ring, Tally, Share, Mix, Kv, Bank}
use Rattle.ken_model.specs.declared.messages.Message.{Message}
use Rattle.ken_model.specs.declared.values.Value.{Value}
use Rattle.ken_model.specs.Effects.{Effect}
use Rattle.ken_model.specs.Kinds.{after, handler_of, mix, without_draws}
use Rattle.ken_model.specs.Heap.{IsHeap}
use Rattle.ken_model.specs.Network.{empty_heap}
use Rattle.ken_model.specs.declared.facts.TheConstants.{PAGE}
use Rattle.ken_num.specs.Numbers.{num}
use Rattle.ken_actors.specs.Decided.{IsDecided, takes}

impossible : {A : Type 0} → false ≡ true → A
impossible e = absurd cc

one_way : (o : Effect) (draws more : List ℕ) → IsSome (without_draws draws o) → IsSome (without_draws (draws ++ more) o) → more ≡ []
one_way o [] [] a b = refl
one_way o [] (y ∷ ys) a b = impossible b
one_way o (x ∷ xs) more a b = impossible a

mix_one_way : (nodes : ℕ) (value : Value) (count : Option ℕ) (draws more : List ℕ) → IsSome (mix nodes value count draws) → IsSome (mix nodes value count (draws ++ more)) → more ≡ []
mix_one_way nodes value None draws more a b = one_way _ draws more a b
mix_one_way nodes value (Some n) [] more a b = impossible a
mix_one_way nodes value (Some n) (x ∷ []) more a b = impossible a
mix_one_way nodes value (Some n) (x ∷ y ∷ []) [] a b = refl
mix_one_way nodes value (Some n) (x ∷ y ∷ []) (z ∷ zs) a b = impossible b
mix_one_way nodes value (Some n) (x ∷ y ∷ z ∷ zs) more a b = impossible a

pub kind_decided : (kind : Kind) → IsDecided (handler_of kind)
unfolding after
kind_decided Ring = λ node nodes value m draws more a b. one_way _ draws more a b
kind_decided Tally = λ node nodes value m draws more a b. one_way _ draws more a b
kind_decided Share = λ node nodes value m draws more a b. one_way _ draws more a b
kind_decided Mix = λ node nodes value m draws more a b. mix_one_way nodes value _ draws more a b
kind_decided Kv = λ node nodes value m draws more a b. one_way _ draws more a b
kind_decided Bank = λ node nodes value m draws more a b. one_way _ draws more a b

plain_takes : (o : Effect) (draws : List ℕ) → is_some (without_draws draws o) ≡ takes Ring None draws
plain_takes o [] = refl
plain_takes o (x ∷ xs) = refl

mix_takes : (nodes : ℕ) (value : Value) (count : Option ℕ) (draws : List ℕ) → is_some (mix nodes value count draws) ≡ takes Mix count draws
mix_takes nodes value None [] = refl
mix_takes nodes value None (x ∷ xs) = refl
mix_takes nodes value (Some n) [] = refl
mix_takes nodes value (Some n) (x ∷ []) = refl
mix_takes nodes value (Some n) (x ∷ y ∷ []) = refl
mix_takes nodes value (Some n) (x ∷ y ∷ z ∷ zs) = refl

-- the kinds but mix take no draws whatever the count
others : (kind : Kind) (count : Option ℕ) (draws : List ℕ) → (kind ≡ Mix → ⊥) → takes Ring None draws ≡ takes kind count draws
others Ring count [] other = refl
others Ring count (x ∷ xs) other = refl
others Tally count [] other = refl
others Tally count (x ∷ xs) other = refl
others Share count [] other = refl
others Share count (x ∷ xs) other = refl
others Kv count [] other = refl
others Kv count (x ∷ xs) other = refl
others Bank count [] other = refl
others Bank count (x ∷ xs) other = refl
others Mix count draws other = absurd (other refl)

-- so a kind is defined at just the draws that it takes
kind_takes : (kind : Kind) (node nodes : ℕ) (value : Value) (m : Message) (draws : List ℕ) → is_some (after kind node nodes value m draws) ≡ takes kind (num m.bytes) draws
unfolding after
kind_takes Ring node nodes value m draws = plain_takes _ draws ∙ others Ring (num m.bytes) draws (λ is. absurd cc)
kind_takes Tally node nodes value m draws = plain_takes _ draws ∙ others Tally (num m.bytes) draws (λ is. absurd cc)
kind_takes Share node nodes value m draws = plain_takes _ draws ∙ others Share (num m.bytes) draws (λ is. absurd cc)
kind_takes Mix node nodes value m draws = mix_takes nodes value (num m.bytes) draws
kind_takes Kv node nodes value m draws = plain_takes _ draws ∙ others Kv (num m.bytes) draws (λ is. absurd cc)
kind_takes Bank node nodes value m draws = plain_takes _ draws ∙ others Bank (num m.bytes) draws (λ is. absurd cc)

undefined : (o : Option Effect) (b : Bool) → is_some o ≡ b → b ≡ false → o ≡ None
undefined None b same is = refl
undefined (Some e) b same is = impossible (sym is ∙ sym same)

pub kind_refuses : (kind : Kind) (node nodes : ℕ) (value : Value) (m : Message) (draws : List ℕ) → takes kind (num m.bytes) draws ≡ false → after kind node nodes value m draws ≡ None
kind_refuses kind node nodes value m draws is = undefined _ _ (kind_takes kind node nodes value m draws) is

pub kind_plays : (kind : Kind) (node nodes : ℕ) (value : Value) (m : Message) (draws : List ℕ) → takes kind (num m.bytes) draws ≡ true → None ≡ after kind node nodes value m draws → ⊥
kind_plays kind node nodes value m draws is none = impossible (ap is_some none ∙ kind_takes kind node nodes value m draws ∙ is)

-- a page without blocks is a heap
pub page_heap : IsHeap (empty_heap PAGE)
page_heap = record { pages = (1, omega arith, omega arith, refl); root = omega arith; blocks = omega arith }
