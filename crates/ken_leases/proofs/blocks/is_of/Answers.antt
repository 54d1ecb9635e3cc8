use Rattle.std.proofs.Common.{◌≡◌, ◌<◌, List, ℕ, length, take, Option, Some, None, IfSome, ap, ◌∙◌, arith}
use Rattle.std.proofs.lemmas.List.{length-take, length-replicate}
use Rattle.ken_model.specs.KeyValue.{at_space, is_key}
use Rattle.ken_apps.proofs.Keys.{key_of_front}
use Rattle.ken_leases.proofs.blocks.is_of.Goals as goal

-- what the front tells
by_front : (key front : List ℕ) (o : Option (List ℕ)) (n : ℕ) → length key < n → IfSome o (λ bytes. front ≡ take n bytes) → IfSome o (λ bytes. is_key key (at_space front) ≡ is_key key (at_space bytes))
by_front key front None n less tells = tt
by_front key front (Some bytes) n less tells = ap (λ f. is_key key (at_space f)) tells ∙ key_of_front n key bytes less

pub returns : goal.returns
returns c = rw c.is_pair_of.ensures (by_front c.args.name.now c.read_front-front.result.now _ _ (omega (arith, c.requires.name, length-take {A = ℕ}, length-replicate {A = ℕ})) c.read_front-front.ensures)
