-- What is passed on of a packet at its own put, as a list.
use Rattle.std.specs.Prelude.{ℕ, List, [], ◌∷◌}
use Rattle.ken_net.specs.declared.copies.Copies.{Copies}
use Rattle.ken_net.specs.declared.copies.Copies.TheVariants.{Nothing, One, Two}

abbrev pub copies_of : Copies → List (List ℕ)
copies_of Nothing = []
copies_of (One a) = a ∷ []
copies_of (Two a b) = a ∷ b ∷ []
