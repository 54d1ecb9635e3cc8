-- The stamps of a node's turns rise.
use Rattle.std.proofs.Common.{◌≡◌, ◌≢◌, ℕ, ◌+◌, ◌<◌, ◌≤◌, List, [], ◌∷◌, map, length, drop, zero, suc, Some, slice_get, get_or, refl, sym, ap, ◌∙◌, subst, ⊎_elim, arith, drop-cons}
use Rattle.std.proofs.lemmas.Bool.{cases_eq}
use Rattle.std.specs.List.{AllByRecursion}
use Rattle.ken_model.specs.declared.reports.TurnLine.{TurnLine}
use Rattle.ken_model.specs.Game.{Game}
use Rattle.ken_model.specs.Network.{Place, Turn, first_place, place_after}
use Rattle.ken_model.specs.History.{AreTurns, line_at, lines_by}
use Rattle.ken_record.specs.declared.effects.Effects.{Effects}
use Rattle.ken_core.specs.Turns.{effects_line}
use Rattle.ken_core.specs.Clusters.{Cluster}
use Rattle.ken_core.specs.Accord.{Accord}
use Rattle.ken_core.specs.declared.machine.Machine.{Machine}
use Rattle.ken_core.specs.Groups.{Shown, shown, shown_at, AreKept}
use Rattle.ken_core.specs.Timeline.{StampsRise}
use Rattle.ken_core.proofs.Numbers.{effects_lines}
use Rattle.ken_core.proofs.Moves.{read_at}
use Rattle.ken_core.proofs.Played.{turn_stamp}

rise_from : (g : Game) (v : ℕ) (p : Place) (ts : List Turn) → AreTurns g v p ts → StampsRise p.stamp (map (line_at v) ts)
unfolding AreTurns
rise_from g v p [] all = tt
rise_from g v p (t ∷ ts) all =
    let stamp = turn_stamp g v p t.draws t.message t all.1 in
    (omega arith, rise_from g v (place_after p t) ts all.2)

-- of a node in accord
pub turns_rise : (g : Game) (w : Cluster) (v : ℕ) → Accord g w → StampsRise 0 (map (effects_line v) (w.node v).turning.turns)
turns_rise g w v accord =
    let is = accord.made.nodes v in
    subst (λ (ls : List TurnLine). StampsRise 0 ls) (sym (ap (map (effects_line v)) is.turns ∙ effects_lines v (accord.history v))) (rise_from g v (first_place g) (accord.history v) is.own)

-- what is left begins with the next one
pub next_left : {A : Type 0} (xs : List A) (i : ℕ) (x : A) → i < length xs → x ≡ get_or xs i x → drop i xs ≡ x ∷ drop (i + 1) xs
next_left xs i x within is =
    let next : suc i ≡ i + 1 = omega arith in
    drop-cons xs i x within ∙ ap (λ y. y ∷ drop (suc i) xs) (sym is) ∙ ap (λ k. x ∷ drop k xs) next

pub lines_own : (v : ℕ) (es : List Effects) → AllByRecursion (λ (l : TurnLine). l.step.node ≡ v) (map (effects_line v) es)
lines_own v [] = tt
lines_own v (e ∷ es) = (refl, lines_own v es)

pub shown_there : (g : Game) (ms : List Machine) (v : ℕ) (m : Machine) → slice_get ms v ≡ Some m → shown_at g ms v ≡ shown m
shown_there g [] v m is = absurd cc
shown_there g (x ∷ xs) zero m is = let same : x ≡ m = cc in ap shown same
shown_there g (x ∷ xs) (suc v) m is = shown_there g xs v m is

-- the lines of the turns that a call read are those of the group's node
pub lines_there : (g : Game) (ms : List Machine) (v k : ℕ) (m : Machine) (ts : List Effects) (ls : List TurnLine) → AreKept g ms → k ≡ v → v < g.nodes → m ≡ get_or ms k m → ts ≡ m.ledger.turns.items → ls ≡ map (effects_line v) ts → ls ≡ map (effects_line v) (shown_at g ms v).node.turning.turns
lines_there g ms v k m ts ls kept same known is these lines =
    lines ∙ ap (map (effects_line v)) (these ∙ sym (ap (λ (s : Shown). s.node.turning.turns) (shown_there g ms v m (read_at g ms v k m kept same known is))))

-- the lines of one more node have joined
pub more_lines : (of : ℕ → List TurnLine) (before after : List TurnLine) (v : ℕ) → ((u : ℕ) → u < v → lines_by u before ≡ of u) → ((u : ℕ) → v ≤ u → lines_by u before ≡ []) → lines_by v after ≡ of v → ((u : ℕ) → u ≢ v → lines_by u after ≡ lines_by u before) → ((u : ℕ) → u < v + 1 → lines_by u after ≡ of u) × ((u : ℕ) → v + 1 ≤ u → lines_by u after ≡ [])
more_lines of before after v done left its others = (now, λ u far. others u (λ same. absurd (omega (arith, same))) ∙ left u (omega arith))
  where
    now : (u : ℕ) → u < v + 1 → lines_by u after ≡ of u
    now u few =
        ⊎_elim (λ (same : u ≡ v). subst (λ k. lines_by k after ≡ of k) (sym same) its) (λ (ne : u ≢ v). others u ne ∙ done u (omega arith)) (cases_eq u v)
