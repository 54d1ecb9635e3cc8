-- A text of six parts, as it is written.
use Rattle.std.proofs.Common.{◌≡◌, ℕ, List, ◌++◌, codes}
use Rattle.std.specs.Prelude.{decimal}
use Rattle.std.proofs.lemmas.List.{append_assoc}
use Rattle.ken_top.specs.declared.status.Status.TheVariants.{Damaged}
use Rattle.ken_top.specs.Statuses.{text_of}

six_parts : (a b c d e f : List ℕ) → a ++ b ++ c ++ d ++ e ++ f ≡ a ++ (b ++ (c ++ (d ++ (e ++ f))))
six_parts a b c d e f = simp append_assoc

pub damaged_text : (node disk place : ℕ) → text_of (Damaged node disk place) ≡ codes "ken: node " ++ (decimal node ++ (codes " disk " ++ (decimal disk ++ (codes " damaged at " ++ decimal place))))
damaged_text node disk place = six_parts (codes "ken: node ") (decimal node) (codes " disk ") (decimal disk) (codes " damaged at ") (decimal place)
