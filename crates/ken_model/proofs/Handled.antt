-- What a handler makes of draws that are words.
use Rattle.std.proofs.Common.{◌≡◌, ℕ, ◌^◌, List, [], ◌∷◌, true, refl, lt-ltb}
use Rattle.std.specs.List.{AllByRecursion}
use Rattle.ken_model.specs.declared.messages.Message.{Message}
use Rattle.ken_model.specs.declared.values.Value.{Value}
use Rattle.ken_model.specs.Game.{Game}
use Rattle.ken_model.specs.Network.{are_words, handled}
use Rattle.ken_model.specs.Spelling.{IsWord}

words_pass : (draws : List ℕ) → AllByRecursion IsWord draws → are_words draws ≡ true
words_pass [] words = refl
words_pass (d ∷ ds) words = rw (lt-ltb d (2 ^ 64) words.0) (words_pass ds words.1)

-- of words the game's handler alone decides
pub handled-words : (g : Game) (v : ℕ) (value : Value) (m : Message) (draws : List ℕ) → AllByRecursion IsWord draws → handled g v value m draws ≡ g.handler.after v g.nodes value m draws
handled-words g v value m draws words = rw (words_pass draws words) refl
