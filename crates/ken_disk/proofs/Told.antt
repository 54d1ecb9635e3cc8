-- What follows what was told.
use Rattle.std.proofs.Common.{◌≡◌, sym, subst, ◌∙◌, Option, Some, None, refl}
use Rattle.ken_disk.specs.Story.{Story, Tells, Follows}
use Rattle.ken_disk.specs.Steps.{went}

pub some_is : {X : Type 0} (a b : X) → Some a ≡ Some b → a ≡ b
some_is {X = X} a b e = cc e

-- a step of the story
pub by_step : (f : Story → Story) (R : Story → Story → Type 0) (old new : Option Story) → new ≡ went f old → ((h : Story) → old ≡ Some h → R h (f h)) → Follows R old new
by_step f R None new is holds = is
by_step f R (Some h) new is holds = (f h, is, holds h refl)

module _ {X : Type 0} (R : X → X → Type 0) where
  -- a call that did nothing
  pub by_none : (old new : Option X) → new ≡ old → ((x : X) → R x x) → Follows R old new
  by_none None new is holds = is
  by_none (Some x) new is holds = (x, is, holds x)

  -- what is known of the old and the new story
  pub told_both : (x : X) (old new : Option X) → old ≡ Some x → Follows R old new → (y : X) × (new ≡ Some y) × R x y
  told_both x old new is follows = subst (λ (o : Option X). Follows R o new) is follows

  pub none_told : (old new : Option X) → old ≡ None → Follows R old new → new ≡ None
  none_told old new is follows = subst (λ (o : Option X). Follows R o new) is follows

  -- one call after another
  pub one_by_one : (S Q : X → X → Type 0) (old mid new : Option X) → Follows R old mid → Follows S mid new → ((x y z : X) → old ≡ Some x → R x y → S y z → Q x z) → Follows Q old new
  one_by_one S Q None mid new first second both = subst (λ (o : Option X). Follows S o new) first second
  one_by_one S Q (Some x) mid new first second both =
      let after = told_all first.0 mid new first.1 second in
      (after.0, after.1, both x first.0 after.0 refl first.2 after.2)
    where
      told_all : (y : X) (o n : Option X) → o ≡ Some y → Follows S o n → (z : X) × (n ≡ Some z) × S y z
      told_all y o n is follows = subst (λ (p : Option X). Follows S p n) is follows

  pub weakened : (S : X → X → Type 0) (old new : Option X) → Follows R old new → ((x y : X) → old ≡ Some x → R x y → S x y) → Follows S old new
  weakened S None new follows so = follows
  weakened S (Some x) new follows so = (follows.0, follows.1, so x follows.0 refl follows.2)

  -- what holds of the new story, where it is told
  pub tells_after : (P : X → Type 0) (old new : Option X) → Follows R old new → ((x y : X) → old ≡ Some x → R x y → P y) → Tells new P
  tells_after P None new follows so y is = absurd (let no : ⊥ = cc (follows, is) in no)
  tells_after P (Some x) new follows so y is =
      subst P (some_is follows.0 y (sym follows.1 ∙ is)) (so x follows.0 refl follows.2)
