-- Emissions and one more.
use Rattle.std.proofs.Common.{◌≡◌, ℕ, zero, suc, ◌+◌, ◌-◌, ◌<◌, ◌≤◌, max, List, [], ◌∷◌, ◌++◌, Some, option_map, slice_get, refl, ap, ◌∙◌, subst, arith, append-nil, eq-eqb, ne_eqb}
use Rattle.ken_model.specs.declared.messages.Out.{Out}
use Rattle.ken_model.specs.declared.messages.Step.{Step}
use Rattle.ken_model.specs.declared.reports.Emission.{Emission}
use Rattle.ken_model.specs.Game.{Game}
use Rattle.ken_model.specs.Emissions.{AreByNode, AreEmitted, emitted_by, largest_of}
use Rattle.ken_model.specs.Network.{outputs_from}
use Rattle.ken_model.specs.Schedule.{play}
use Rattle.ken_check.specs.Knowing.{last_emitter}
use Rattle.ken_check.specs.Right.{AreEmissionsSoFar}
use Rattle.ken_model.proofs.Elements.{with_others}
use Rattle.ken_check.proofs.Fronts.{emitted_by-append}
use Rattle.ken_check.proofs.More.{all_more, all_last}

-- numbered outputs hold the same texts
pub outputs_from-get : (n : ℕ) (outs : List (List ℕ)) (i : ℕ)
    → slice_get (outputs_from n outs) i ≡ option_map (λ text. record { number = n + i + 1; text = text }) (slice_get outs i)
unfolding outputs_from
outputs_from-get n [] i = refl
outputs_from-get n (x ∷ outs) zero = let e : n + 1 ≡ n + 0 + 1 = omega arith in ap (λ m. Some (record { number = m; text = x })) e
outputs_from-get n (x ∷ outs) (suc i) =
    let e : n + 1 + i + 1 ≡ n + suc i + 1 = omega arith in
    outputs_from-get (n + 1) outs i ∙ ap (λ m. option_map (λ text. record { number = m; text = text }) (slice_get outs i)) e

-- an output may be emitted next, after those with numbers up to the largest
pub record IsNextOut (outs : List (List ℕ)) (largest : ℕ) (o : Out) : Type 0 where
  pub some : 0 < o.number
  pub next : o.number ≤ largest + 1
  pub text : slice_get outs (o.number - 1) ≡ Some o.text

AreEmitted-more : (outs : List (List ℕ)) (largest : ℕ) (os : List Out) (o : Out)
    → AreEmitted outs largest os → IsNextOut outs (largest_of largest os) o → AreEmitted outs largest (os ++ o ∷ [])
unfolding AreEmitted
AreEmitted-more outs largest [] o are is = (is.some, is.next, is.text, tt)
AreEmitted-more outs largest (p ∷ os) o are is = (are.0, are.1, are.2, AreEmitted-more outs (max largest p.number) os o are.3 is)

AreEmitted-last : (outs : List (List ℕ)) (largest : ℕ) (os : List Out) (o : Out)
    → AreEmitted outs largest (os ++ o ∷ []) → IsNextOut outs (largest_of largest os) o
unfolding AreEmitted
AreEmitted-last outs largest [] o are = record { some = are.0; next = are.1; text = are.2 }
AreEmitted-last outs largest (p ∷ os) o are = AreEmitted-last outs (max largest p.number) os o are.3

largest_of-more : (largest : ℕ) (os : List Out) (o : Out) → largest_of largest (os ++ o ∷ []) ≡ max (largest_of largest os) o.number
largest_of-more largest [] o = refl
largest_of-more largest (p ∷ os) o = largest_of-more (max largest p.number) os o

AreByNode-more : (node : ℕ) (es : List Emission) (e : Emission) → AreByNode node es → last_emitter node es ≤ e.node → AreByNode node (es ++ e ∷ [])
unfolding AreByNode
AreByNode-more node [] e are after = (after, tt)
AreByNode-more node (f ∷ es) e are after = (are.0, AreByNode-more f.node es e are.1 after)

AreByNode-last : (node : ℕ) (es : List Emission) (e : Emission) → AreByNode node (es ++ e ∷ []) → last_emitter node es ≤ e.node
unfolding AreByNode
AreByNode-last node [] e are = are.0
AreByNode-last node (f ∷ es) e are = AreByNode-last f.node es e are.1

pub last_emitter-more : (node : ℕ) (es : List Emission) (e : Emission) → last_emitter node (es ++ e ∷ []) ≡ e.node
last_emitter-more node [] e = refl
last_emitter-more node (f ∷ es) e = last_emitter-more f.node es e

-- what a node emitted with one more emission
emitted_by-same : (es : List Emission) (e : Emission) → emitted_by e.node (es ++ e ∷ []) ≡ emitted_by e.node es ++ e.out ∷ []
emitted_by-same es e = emitted_by-append e.node es (e ∷ []) ∙ ap (λ os. emitted_by e.node es ++ os) (rw (eq-eqb e.node e.node refl) refl)

pub emitted_by-other : (v : ℕ) (es : List Emission) (e : Emission) → (v ≡ e.node → ⊥) → emitted_by v (es ++ e ∷ []) ≡ emitted_by v es
emitted_by-other v es e other =
    let none : emitted_by v (e ∷ []) ≡ [] = rw (ne_eqb e.node v (λ is. other (cc))) refl in
    emitted_by-append v es (e ∷ []) ∙ ap (λ os. emitted_by v es ++ os) none ∙ append-nil (emitted_by v es)

pub largest_of-same : (es : List Emission) (e : Emission) → largest_of 0 (emitted_by e.node (es ++ e ∷ [])) ≡ max (largest_of 0 (emitted_by e.node es)) e.out.number
largest_of-same es e = ap (largest_of 0) (emitted_by-same es e) ∙ largest_of-more 0 (emitted_by e.node es) e.out

module _ (g : Game) (schedule : List Step) (es : List Emission) (e : Emission) where
  -- an emission may come next
  pub record IsNextEmission : Type 0 where
    pub known : e.node < g.nodes
    pub after : last_emitter 0 es ≤ e.node
    pub out : IsNextOut ((play g schedule).place e.node).outs (largest_of 0 (emitted_by e.node es)) e.out

  -- then those so far and it are emissions so far
  pub emissions_more : AreEmissionsSoFar g schedule es → IsNextEmission → AreEmissionsSoFar g schedule (es ++ e ∷ [])
  emissions_more are is = record {
    known = all_more (λ (f : Emission). f.node < g.nodes) es e are.known is.known;
    by_node = AreByNode-more 0 es e are.by_node is.after;
    each = λ v known. with_others (λ v. v < g.nodes → AreEmitted ((play g schedule).place v).outs 0 (emitted_by v (es ++ e ∷ [])))
        e.node
        (λ known. rw (emitted_by-same es e) (AreEmitted-more ((play g schedule).place e.node).outs 0 (emitted_by e.node es) e.out (are.each e.node known) is.out))
        (λ v other known. rw (emitted_by-other v es e other) (are.each v known))
        v known;
  }

  -- and only then
  pub emissions_last : AreEmissionsSoFar g schedule (es ++ e ∷ []) → IsNextEmission
  emissions_last are =
      let known = all_last (λ (f : Emission). f.node < g.nodes) es e are.known in
      let outs = ((play g schedule).place e.node).outs in
      record {
        known = known;
        after = AreByNode-last 0 es e are.by_node;
        out = AreEmitted-last outs 0 (emitted_by e.node es) e.out (subst (AreEmitted outs 0) (emitted_by-same es e) (are.each e.node known));
      }
