-- The steps of a worker beside a handler, up to where it has told what the handler hears.
use Rattle.std.proofs.Common.{◌≡◌, ℕ, ◌+◌, ◌≤◌, List, [], ◌∷◌, ◌++◌, length, refl, sym, ap, ◌∙◌, subst, arith, append_assoc, length-append}
use Rattle.std.proofs.lemmas.List.{append_cancel_left}
use Rattle.std.specs.List.{AllByRecursion}
use Rattle.ken_model.specs.History.{IsPrefixOf}
use Rattle.ken_weave.specs.Workers.{Steps, none, then, Ends, Counts, Tells}
use Rattle.ken_weave.proofs.Lists.{front_same, front_then, front, longer, compare, all_join, all_later, all_weaker}

module _ {W K N : Type 0} (step : W → W → Type 0) (ends : Ends W K N) where
  -- a step up to a state that was handed no more than so many turns
  abbrev pub Early : ℕ → W → W → Type 0
  Early most a b = step a b × (ends.turns b ≤ most)

  pub plainly : (most : ℕ) (a c : W) (cs : List W) → Steps (Early most) a cs c → Steps step a cs c
  plainly most a c cs none = none
  plainly most a c cs (then {b = b} {bs = bs} one rest) = then one.0 (plainly most b c bs rest)

module _ {W K N : Type 0} (step : W → W → Type 0) (ends : Ends W K N) (counts : Counts step ends) where
  pub told_grows : (a b : W) (bs : List W) → Steps step a bs b → IsPrefixOf (ends.told a) (ends.told b)
  told_grows a b bs none = front_same (ends.told a)
  told_grows a c cs (then {b = b} {bs = bs} one rest) = front_then (ends.told a) (ends.told b) (ends.told c) (counts.news a b one) (told_grows b c bs rest)

  pub handed_grows : (a b : W) (bs : List W) → Steps step a bs b → IsPrefixOf (ends.handed a) (ends.handed b)
  handed_grows a b bs none = front_same (ends.handed a)
  handed_grows a c cs (then {b = b} {bs = bs} one rest) =
      let here = counts.turns a b one in
      front_then (ends.handed a) (ends.handed b) (ends.handed c) (here.0, here.1.0) (handed_grows b c bs rest)

  one_counted : (a b : W) → step a b → (ends.turns a ≤ ends.turns b) × (ends.turns b + length (ends.handed a) ≡ ends.turns a + length (ends.handed b))
  one_counted a b one =
      let here = counts.turns a b one in
      let size : length (ends.handed b) ≡ length (ends.handed a) + length here.0 = ap length here.1.0 ∙ length-append (ends.handed a) here.0 in
      (omega (arith, here.1.1), omega (arith, here.1.1, size))

  -- each turn is counted
  pub counted : (a b : W) (bs : List W) → Steps step a bs b → (ends.turns a ≤ ends.turns b) × (ends.turns b + length (ends.handed a) ≡ ends.turns a + length (ends.handed b))
  counted a b bs none = (omega arith, refl)
  counted a c cs (then {b = b} {bs = bs} one rest) =
      let here = one_counted a b one in
      let later = counted b c bs rest in
      (omega (arith, here.0, later.0), omega (arith, here.1, later.1))

  -- all of them, where the last was
  pub all_early : (most : ℕ) (a c : W) (cs : List W) → Steps step a cs c → ends.turns c ≤ most → Steps (Early step ends most) a cs c
  all_early most a c cs none few = none
  all_early most a c cs (then {b = b} {bs = bs} one rest) few =
      let later = counted b c bs rest in
      then (one, omega (arith, few, later.0)) (all_early most b c bs rest few)

  module _ (by : N → ℕ) (tells : Tells step ends by) where
    -- what is told from a step on stands with no fewer turns than that step was handed
    pub told_later : (a b c : W) (cs : List W) → step a b → Steps step b cs c → (news : List N) → ends.told c ≡ ends.told a ++ news → AllByRecursion (λ (n : N). ends.turns b ≤ by n) news
    told_later a b c cs one none news e = tells a b one news e
    told_later a b d ds one (then {b = c} {bs = cs} two rest) news e =
        let here = counts.news a b one in
        let later = told_grows b d (c ∷ cs) (then two rest) in
        let joined : ends.told a ++ (here.0 ++ later.0) ≡ ends.told a ++ news = sym (append_assoc (ends.told a) here.0 later.0) ∙ sym (ap (λ l. l ++ later.0) here.1) ∙ sym later.1 ∙ e in
        let parts = append_cancel_left (ends.told a) (here.0 ++ later.0) news joined in
        let grows = one_counted b c two in
        subst (λ l. AllByRecursion (λ (n : N). ends.turns b ≤ by n) l) parts
        (all_join (λ (n : N). ends.turns b ≤ by n) here.0 later.0 (tells a b one here.0 here.1)
        (all_weaker (λ (n : N). ends.turns c ≤ by n) (λ (n : N). ends.turns b ≤ by n) (λ n low. omega (arith, low, grows.0)) later.0 (told_later b c d cs two rest later.0 later.1)))

    -- a state by which all that is wanted was told, by steps that were handed no more than so many turns
    pub record Reached (most : ℕ) (a : W) (wanted : List N) (cs : List W) (c : W) : Type 0 where
      pub at : W
      pub before : List W
      pub after : List W
      pub all : before ++ after ≡ cs
      pub early : Steps (Early step ends most) a before at
      pub enough : IsPrefixOf wanted (ends.told at)
      pub rest : Steps step at after c

    further : (most : ℕ) (a b : W) (wanted : List N) (cs : List W) (c : W) → Early step ends most a b → Reached most b wanted cs c → Reached most a wanted (b ∷ cs) c
    further most a b wanted cs c one it = record { at = it.at; before = b ∷ it.before; after = it.after; all = ap (λ l. b ∷ l) it.all; early = then one it.early; enough = it.enough; rest = it.rest }

    -- the wanted news stand with no more than so many turns
    abbrev pub IsRipe : ℕ → W → List N → Type 0
    IsRipe most a wanted = (news : List N) → wanted ≡ ends.told a ++ news → AllByRecursion (λ (n : N). by n ≤ most) news

    ripe_later : (most : ℕ) (a b : W) (wanted : List N) → step a b → IsRipe most a wanted → IsRipe most b wanted
    ripe_later most a b wanted one ripe news e =
        let here = counts.news a b one in
        let whole = ripe (here.0 ++ news) (e ∙ ap (λ l. l ++ news) here.1 ∙ append_assoc (ends.told a) here.0 news) in
        all_later (λ (n : N). by n ≤ most) here.0 news whole

    first_few : (most : ℕ) (a b c : W) (cs : List W) (wanted : List N) → step a b → Steps step b cs c → IsPrefixOf wanted (ends.told c) → IsRipe most a wanted
        → (n : N) (news : List N) → wanted ≡ ends.told a ++ n ∷ news → ends.turns b ≤ most
    first_few most a b c cs wanted one rest told ripe n news e =
        let high = (ripe (n ∷ news) e).0 in
        let whole : ends.told c ≡ ends.told a ++ n ∷ (news ++ told.0) = told.1 ∙ ap (λ l. l ++ told.0) e ∙ append_assoc (ends.told a) (n ∷ news) told.0 in
        let low = (told_later a b c cs one rest (n ∷ (news ++ told.0)) whole).0 in
        omega (arith, high, low)

    pub catch_up : (most : ℕ) (a c : W) (cs : List W) → Steps step a cs c → (wanted : List N) → IsPrefixOf wanted (ends.told c) → IsRipe most a wanted → Reached most a wanted cs c
    catch_up most a c cs none wanted told ripe = record { at = a; before = []; after = []; all = refl; early = none; enough = told; rest = none }
    catch_up most a c cs (then {b = b} {bs = bs} one rest) wanted told ripe =
        let so_far = told_grows a c (b ∷ bs) (then one rest) in
        elim (compare wanted (ends.told a) told.0 so_far.0 (sym told.1 ∙ so_far.1)) as (λ x. Reached most a wanted (b ∷ bs) c) [
          | front f ↦ record { at = a; before = []; after = b ∷ bs; all = refl; early = none; enough = f; rest = then one rest }
          | longer n news e ↦
              let few = first_few most a b c bs wanted one rest told ripe n news e in
              further most a b wanted bs c (one, few) (catch_up most b c bs rest wanted told (ripe_later most a b wanted one ripe))
        ]
