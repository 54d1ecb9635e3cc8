-- A text split at its first line feed.
use Rattle.std.proofs.Common.{◌≡◌, ℕ, List, [], ◌∷◌, ◌++◌, refl}
use Rattle.ken_model.specs.Report.{IsOneLine}

-- a line and what follows it
pub record AreSame (text text' rest rest' : List ℕ) : Type 0 where
  pub texts : text ≡ text'
  pub rests : rest ≡ rest'

-- the first line feed stands in one place
pub one_split : (text text' rest rest' : List ℕ) → IsOneLine text → IsOneLine text' → text ++ 10 ∷ rest ≡ text' ++ 10 ∷ rest' → AreSame text text' rest rest'
one_split [] [] rest rest' one one' e = record { texts = refl; rests = cc }
one_split [] (c ∷ cs) rest rest' one one' e = absurd (one'.0 (cc))
one_split (b ∷ bs) [] rest rest' one one' e = absurd (one.0 (cc))
one_split (b ∷ bs) (c ∷ cs) rest rest' one one' e =
    let heads : b ≡ c = cc in
    let others = one_split bs cs rest rest' one.1 one'.1 (cc) in
    let tails = others.texts in
    record { texts = cc; rests = others.rests }

-- a text that is part of a line has none
pub no_split : (text rest whole : List ℕ) → IsOneLine whole → whole ≡ text ++ 10 ∷ rest → ⊥
no_split [] rest [] one e = absurd cc
no_split (b ∷ bs) rest [] one e = absurd cc
no_split [] rest (c ∷ cs) one e = one.0 (cc)
no_split (b ∷ bs) rest (c ∷ cs) one e = no_split bs rest cs one.1 (cc)
