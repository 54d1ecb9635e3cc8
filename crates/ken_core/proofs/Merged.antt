-- The lines of a node, merged with those of others: they stay in order, and each node's are as they were.
use Rattle.std.proofs.Common.{◌≡◌, ◌≢◌, ℕ, suc, ◌+◌, ◌<◌, ◌≤◌, ◌==◌, List, [], ◌∷◌, ◌++◌, map, take, drop, Bool, true, false, cond, if◌then◌else◌, All, Decides, refl, sym, ap, ap₂, ◌∙◌, inl, inr, ⊎_elim, arith, eq-eqb, ne_eqb}
use Rattle.std.proofs.lemmas.Bool.{cases_lt, false≢true}
use Rattle.std.proofs.lemmas.Bool.Decides.{Decides-and, Decides-or, Decides-eqb, Decides-ltb}
use Rattle.std.proofs.lemmas.List.{take-append-drop}
use Rattle.std.proofs.lemmas.List.Elements.{All-from_recursion, All-head, All-tail, All-take, All-drop, filter-append}
use Rattle.ken_model.specs.declared.reports.TurnLine.{TurnLine}
use Rattle.ken_model.specs.Schedule.{ComesBefore}
use Rattle.ken_model.specs.History.{lines_by, Rises}
use Rattle.ken_record.specs.declared.effects.Effects.{Effects}
use Rattle.ken_core.specs.Turns.{effects_line}
use Rattle.ken_core.specs.Timeline.{StampsRise, is_before, count_before, merged}
use Rattle.ken_core.proofs.Rising.{lines_own}

-- all lines are of the node
abbrev pub AreOf : ℕ → List TurnLine → Type 0
AreOf node ts = All (λ (t : TurnLine). t.step.node ≡ node) ts

pub AreOf-turns : (node : ℕ) (es : List Effects) → AreOf node (map (effects_line node) es)
AreOf-turns node es = All-from_recursion (λ (t : TurnLine). t.step.node ≡ node) (map (effects_line node) es) (lines_own node es)

-- a node's own lines
lines_by-own : (node : ℕ) (ts : List TurnLine) → AreOf node ts → lines_by node ts ≡ ts
lines_by-own node [] own = refl
lines_by-own node (t ∷ ts) own =
    let here : t.step.node ≡ node = All-head (λ (x : TurnLine). x.step.node ≡ node) t ts own in
    rw (eq-eqb t.step.node node here) (ap (λ ls. t ∷ ls) (lines_by-own node ts (All-tail (λ (x : TurnLine). x.step.node ≡ node) t ts own)))

-- none of them is another node's
lines_by-apart : (node v : ℕ) (ts : List TurnLine) → v ≢ node → AreOf node ts → lines_by v ts ≡ []
lines_by-apart node v [] apart own = refl
lines_by-apart node v (t ∷ ts) apart own =
    let here : t.step.node ≡ node = All-head (λ (x : TurnLine). x.step.node ≡ node) t ts own in
    rw (ne_eqb t.step.node v (λ e. apart (sym e ∙ here))) (lines_by-apart node v ts apart (All-tail (λ (x : TurnLine). x.step.node ≡ node) t ts own))

-- where a filter keeps nothing, it keeps neither the first nor any after it
none_kept : (b : Bool) (l : TurnLine) (ls : List TurnLine) → (if b then l ∷ ls else ls) ≡ [] → (b ≡ false) × (ls ≡ [])
none_kept true l ls e = absurd cc
none_kept false l ls e = (refl, e)

-- a node that had no line has the new ones
pub merged-its_lines : (node : ℕ) (ls ts : List TurnLine) → lines_by node ls ≡ [] → AreOf node ts → lines_by node (merged ls ts) ≡ ts
merged-its_lines node [] ts none own = lines_by-own node ts own
merged-its_lines node (l ∷ ls) ts none own =
    let n = count_before l ts in
    let P : TurnLine → Type 0 = λ x. x.step.node ≡ node in
    let kept = none_kept (l.step.node == node) l (lines_by node ls) none in
    let front : lines_by node (take n ts) ≡ take n ts = lines_by-own node (take n ts) (All-take P n ts own) in
    let more : lines_by node (l ∷ merged ls (drop n ts)) ≡ drop n ts = rw kept.0 (merged-its_lines node ls (drop n ts) kept.1 (All-drop P n ts own)) in
    filter-append (λ (x : TurnLine). x.step.node == node) (take n ts) (l ∷ merged ls (drop n ts)) ∙ ap₂ (λ (a b : List TurnLine). a ++ b) front more ∙ take-append-drop n ts

-- the other nodes keep theirs
pub merged-others : (node v : ℕ) (ls ts : List TurnLine) → v ≢ node → AreOf node ts → lines_by v (merged ls ts) ≡ lines_by v ls
merged-others node v [] ts apart own = lines_by-apart node v ts apart own
merged-others node v (l ∷ ls) ts apart own =
    let n = count_before l ts in
    let P : TurnLine → Type 0 = λ x. x.step.node ≡ node in
    let front : lines_by v (take n ts) ≡ [] = lines_by-apart node v (take n ts) apart (All-take P n ts own) in
    let more : lines_by v (l ∷ merged ls (drop n ts)) ≡ lines_by v (l ∷ ls) = ap (λ (x : List TurnLine). if l.step.node == v then l ∷ x else x) (merged-others node v ls (drop n ts) apart (All-drop P n ts own)) in
    filter-append (λ (x : TurnLine). x.step.node == v) (take n ts) (l ∷ merged ls (drop n ts)) ∙ ap₂ (λ (a b : List TurnLine). a ++ b) front more

-- the test of the order
is_before-Decides : (a b : TurnLine) → Decides (is_before a b) (ComesBefore a.stamp a.step.node b.stamp b.step.node)
is_before-Decides a b =
    Decides-or _ _ (Decides-ltb a.stamp b.stamp) (Decides-and _ _ (Decides-eqb a.stamp b.stamp) (Decides-ltb a.step.node b.step.node))

-- of two lines of different nodes one comes before the other
ComesBefore-other : (s n t m : ℕ) → n ≢ m → (ComesBefore s n t m → ⊥) → ComesBefore t m s n
ComesBefore-other s n t m apart not =
    ⊎_elim
    (λ (lt : t < s). inl lt)
    (λ (le : s ≤ t). ⊎_elim
    (λ (lt : s < t). absurd (not (inl lt)))
    (λ (ge : t ≤ s). let same : s ≡ t = omega arith in ⊎_elim
    (λ (lt : n < m). absurd (not (inr (same, lt))))
    (λ (le : m ≤ n). inr (sym same, omega arith))
    (cases_lt n m))
    (cases_lt s t))
    (cases_lt t s)

is_before-false : (t l : TurnLine) → l.step.node ≢ t.step.node → is_before t l ≡ false → ComesBefore l.stamp l.step.node t.stamp t.step.node
is_before-false t l apart later =
    ComesBefore-other t.stamp t.step.node l.stamp l.step.node (λ e. apart (sym e)) (λ before. false≢true (sym later ∙ (is_before-Decides t l).1 before))

one_more : (n : ℕ) → 1 + n ≡ suc n
one_more n = omega arith

-- the lines before l rise up to it
Rises-front : (stamp at : ℕ) (l : TurnLine) (ts more : List TurnLine) → Rises stamp at ts → ComesBefore stamp at l.stamp l.step.node → Rises l.stamp l.step.node more → Rises stamp at (take (count_before l ts) ts ++ l ∷ more)
unfolding Rises
Rises-front stamp at l [] more rises before after = (before, after)
Rises-front stamp at l (t ∷ ts) more rises before after =
    go (is_before t l) refl (λ earlier. Rises-front t.stamp t.step.node l ts more rises.1 earlier after)
  where
    go : (b : Bool) → is_before t l ≡ b → (ComesBefore t.stamp t.step.node l.stamp l.step.node → Rises t.stamp t.step.node (take (count_before l ts) ts ++ l ∷ more)) → Rises stamp at (take (cond b (1 + count_before l ts) 0) (t ∷ ts) ++ l ∷ more)
    go true is rest = rw one_more (rises.0, rest ((is_before-Decides t l).0 is))
    go false is rest = (before, after)

-- those behind them follow it
Rises-behind : (node stamp at : ℕ) (l : TurnLine) (ts : List TurnLine) → l.step.node ≢ node → AreOf node ts → Rises stamp at ts → Rises l.stamp l.step.node (drop (count_before l ts) ts)
unfolding Rises
Rises-behind node stamp at l [] apart own rises = tt
Rises-behind node stamp at l (t ∷ ts) apart own rises =
    go (is_before t l) refl (Rises-behind node t.stamp t.step.node l ts apart (All-tail (λ (x : TurnLine). x.step.node ≡ node) t ts own) rises.1)
  where
    here : t.step.node ≡ node
    here = All-head (λ (x : TurnLine). x.step.node ≡ node) t ts own

    go : (b : Bool) → is_before t l ≡ b → Rises l.stamp l.step.node (drop (count_before l ts) ts) → Rises l.stamp l.step.node (drop (cond b (1 + count_before l ts) 0) (t ∷ ts))
    go true is rest = rw one_more rest
    go false is rest = (is_before-false t l (λ e. apart (e ∙ here)) is, rises.1)

-- all of them stay in order
merged-Rises : (node stamp at : ℕ) (ls ts : List TurnLine) → lines_by node ls ≡ [] → AreOf node ts → Rises stamp at ls → Rises stamp at ts → Rises stamp at (merged ls ts)
unfolding Rises
merged-Rises node stamp at [] ts none own rises new = new
merged-Rises node stamp at (l ∷ ls) ts none own rises new =
    let kept = none_kept (l.step.node == node) l (lines_by node ls) none in
    let apart : l.step.node ≢ node = λ e. false≢true (sym kept.0 ∙ eq-eqb l.step.node node e) in
    let own_behind = All-drop (λ (x : TurnLine). x.step.node ≡ node) (count_before l ts) ts own in
    let behind = Rises-behind node stamp at l ts apart own new in
    Rises-front stamp at l ts _ new rises.0 (merged-Rises node l.stamp l.step.node ls (drop (count_before l ts) ts) kept.1 own_behind rises.1 behind)

-- the stamps of a node's turns rise
Rises-from_stamps : (stamp at : ℕ) (ts : List TurnLine) → StampsRise stamp ts → Rises stamp at ts
unfolding Rises
Rises-from_stamps stamp at [] rise = tt
Rises-from_stamps stamp at (t ∷ ts) rise = (inl rise.0, Rises-from_stamps t.stamp t.step.node ts rise.1)

-- so a node's turns can join
pub merged-turns : (node : ℕ) (ls : List TurnLine) (es : List Effects) → lines_by node ls ≡ [] → Rises 0 0 ls → StampsRise 0 (map (effects_line node) es) → Rises 0 0 (merged ls (map (effects_line node) es))
merged-turns node ls es none rises rise =
    let ts = map (effects_line node) es in
    merged-Rises node 0 0 ls ts none (AreOf-turns node es) rises (Rises-from_stamps 0 0 ts rise)
