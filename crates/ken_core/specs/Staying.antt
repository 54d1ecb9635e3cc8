-- Whether a page goes into a base, as the code finds it: by the turn that last changed it.
use Rattle.std.specs.Prelude.{◌≡◌, ℕ, Option, Some, true, false}
use Rattle.ken_cover.specs.Sides.{stays}
use Rattle.ken_core.specs.declared.pages.Pages.{Pages}
use Rattle.ken_core.specs.Sets.{has}

-- it goes into the base, or is clean
abbrev pub MayStay : ℕ → ℕ → Option ℕ → Pages → Type 0
MayStay settled page turn p = (t : ℕ) → turn ≡ Some t → stays settled t ≡ false → has p.unclean page ≡ false

-- it doesn't go into the base, and isn't clean
pub record MustStay (settled page : ℕ) (turn : Option ℕ) (p : Pages) : Type 0 where
  pub last : ℕ
  pub is : turn ≡ Some last
  pub left_out : stays settled last ≡ false
  pub unclean : has p.unclean page ≡ true
