-- No message is sent to a number that is no node of the run, nor from one.
use Rattle.std.proofs.Common.{◌≡◌, ℕ, ◌+◌, ◌<◌, ◌≤◌, List, [], ◌∷◌, ◌++◌, length, ◌==◌, if◌then◌else◌, refl, ap, ◌∙◌, arith, ne_eqb}
use Rattle.std.specs.List.{AllByRecursion}
use Rattle.std.proofs.lemmas.Bool.{cond_both}
use Rattle.ken_model.specs.declared.facts.Input.{Input}
use Rattle.ken_model.specs.declared.facts.TheConstants.{MAX_TEXT}
use Rattle.ken_model.specs.declared.messages.Message.{Message}
use Rattle.ken_model.specs.declared.messages.Send.{Send}
use Rattle.ken_model.specs.declared.messages.Step.{Step}
use Rattle.ken_model.specs.Game.{Game}
use Rattle.ken_model.specs.Limits.{IsWithinLimits}
use Rattle.ken_model.specs.Network.{Network, Turn, applied, inputs_for, inputs_from, numbered, outside, start}
use Rattle.ken_model.specs.Posted.{posted_after}
use Rattle.ken_check.specs.Knowing.{HasOnlyNodes}

-- all is sent to nodes of the run
abbrev pub AreKnown : ℕ → List Send → Type 0
AreKnown nodes ss = AllByRecursion (λ (s : Send). s.to < nodes) ss

numbered_none : (nodes u v n stamp : ℕ) (ss : List Send) → nodes ≤ v → AreKnown nodes ss → numbered u v n stamp ss ≡ []
numbered_none nodes u v n stamp [] past known = refl
numbered_none nodes u v n stamp (s ∷ ss) past known = rw (ne_eqb s.to v (λ e. omega (arith, known.0))) (numbered_none nodes u v n stamp ss past known.1)

-- ---- links

inputs_none : (nodes v n : ℕ) (is : List Input) → nodes ≤ v → AllByRecursion (λ (i : Input). (i.node < nodes) × (length i.text ≤ MAX_TEXT)) is → inputs_from v n is ≡ []
inputs_none nodes v n [] past known = refl
inputs_none nodes v n (i ∷ is) past known = rw (ne_eqb i.node v (λ e. omega (arith, known.0.0))) (inputs_none nodes v n is past known.1)

pub only_at_start : (g : Game) → IsWithinLimits g → HasOnlyNodes g (start g)
only_at_start g limits = record {
  nowhere = λ u v past. cond_both (u == outside) (inputs_for g v) [] (λ (ms : List Message). ms ≡ []) (λ _. inputs_none g.nodes v 0 g.inputs past limits.inputs) (λ _. refl);
  strangers = λ u v past other. rw (ne_eqb u outside other) refl;
}

pub only_after_step : (g : Game) (w : Network) (s : Step) (t : Turn) → HasOnlyNodes g w → AreKnown g.nodes t.effect.sends → s.node < g.nodes → HasOnlyNodes g (applied w s t)
only_after_step g w s t only sends known = record {
  nowhere = λ u v past.
      let sent : List Message = (w.link u v).sent in
      let more : List Message = numbered u v (length sent) t.stamp t.effect.sends in
      let none : more ≡ [] = numbered_none g.nodes u v (length sent) t.stamp t.effect.sends past sends in
      cond_both (u == s.node) (sent ++ more) sent (λ (ms : List Message). ms ≡ []) (λ _. ap (λ (ms : List Message). ms ++ more) (only.nowhere u v past) ∙ none) (λ _. only.nowhere u v past);
  strangers = λ u v past other. rw (ne_eqb u s.node (λ e. omega (arith, known))) (only.strangers u v past other);
}

-- what was posted to nodes was sent to them
pub known_sent : (nodes u stamp : ℕ) (counts : ℕ → ℕ) (ss : List Send) → AllByRecursion (λ (m : Message). m.to < nodes) (posted_after u stamp counts ss) → AreKnown nodes ss
known_sent nodes u stamp counts [] known = tt
known_sent nodes u stamp counts (x ∷ ss) known = (known.0, known_sent nodes u stamp (λ (w : ℕ). if w == x.to then counts w + 1 else counts w) ss known.1)
