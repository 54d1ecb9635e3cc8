-- Bytes are wrong first at one place.
use Rattle.std.proofs.Common.{◌≡◌, ℕ, List, inl, inr, refl, arith}
use Rattle.std.proofs.lemmas.Bool.{cases_lt}
use Rattle.ken_model.specs.declared.values.Value.{Value}
use Rattle.ken_model.specs.Layout.{StandsFor}
use Rattle.ken_model.specs.Broken.{BreaksAt}
use Rattle.ken_model.specs.Broken.BreaksAt.{name, pages, head}
use Rattle.ken_model.specs.LayoutLaws.{BreaksAtOnePlace}

pub broken_none : (bytes : List ℕ) (place : ℕ) → BreaksAt bytes place → (v : Value) → StandsFor bytes v → ⊥
broken_none bytes _ (name absent) v stands = absent stands.name
broken_none bytes _ (pages named absent) v stands = absent stands.count
broken_none bytes _ (head place named counted wrong) v stands = wrong.none v.size v.blocks (omega (arith, wrong.short, stands.size)) (omega (arith, stands.size)) stands.cells

one_place : (bytes : List ℕ) (p q : ℕ) → BreaksAt bytes p → BreaksAt bytes q → q ≡ p
one_place bytes _ _ (name absent) (name absent') = refl
one_place bytes _ _ (name absent) (pages named absent') = absurd (absent named)
one_place bytes _ _ (name absent) (head q named counted wrong) = absurd (absent named)
one_place bytes _ _ (pages named absent) (name absent') = absurd (absent' named)
one_place bytes _ _ (pages named absent) (pages named' absent') = refl
one_place bytes _ _ (pages named absent) (head q named' counted wrong) = absurd (absent counted)
one_place bytes _ _ (head p named counted wrong) (name absent') = absurd (absent' named)
one_place bytes _ _ (head p named counted wrong) (pages named' absent') = absurd (absent' counted)
one_place bytes _ _ (head p named counted wrong) (head q named' counted' wrong') = elim (cases_lt p q) [
  | inl lt ↦ absurd (wrong.none q wrong'.before lt (omega (arith, wrong'.short)) wrong'.cells)
  | inr ge ↦ elim (cases_lt q p) [
    | inl lt' ↦ absurd (wrong'.none p wrong.before lt' (omega (arith, wrong.short)) wrong.cells)
    | inr ge' ↦ omega arith
  ]
]

pub breaks_at_one_place : BreaksAtOnePlace
breaks_at_one_place bytes place breaks = (broken_none bytes place breaks, λ other breaks'. one_place bytes place other breaks breaks')
