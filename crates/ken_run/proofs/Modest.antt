-- Puts change no acts of a link.
use Rattle.std.proofs.Common.{◌≡◌, ℕ, zero, suc, List, [], ◌∷◌, slice_set, refl, sym, subst, ◌∙◌}
use Rattle.ken_net.specs.declared.act.Act.{Act}
use Rattle.ken_net.specs.Puts.{Put}
use Rattle.ken_net.specs.Standings.{Standing, after_put, after_puts, link_to}
use Rattle.ken_flow.specs.Standstill.{AreModestActs}

set-acts : (links : List Standing) (i : ℕ) (s : Standing) (w : ℕ) → s.acts ≡ (link_to i links).acts → (link_to w (slice_set links i s)).acts ≡ (link_to w links).acts
set-acts [] i s w same = refl
set-acts (l ∷ ls) zero s zero same = same
set-acts (l ∷ ls) zero s (suc w) same = refl
set-acts (l ∷ ls) (suc i) s zero same = refl
set-acts (l ∷ ls) (suc i) s (suc w) same = set-acts ls i s w same

acts-stay : (ps : List Put) (links : List Standing) (w : ℕ) → (link_to w (after_puts ps links)).acts ≡ (link_to w links).acts
acts-stay [] links w = refl
acts-stay (p ∷ ps) links w =
    acts-stay ps (slice_set links p.to (after_put p (link_to p.to links))) w ∙ set-acts links p.to (after_put p (link_to p.to links)) w refl

modest-acts : (s s2 : Standing) → s2.acts ≡ s.acts → AreModestActs s → AreModestActs s2
modest-acts s s2 same are = subst (λ (x : List (ℕ × Act)). AreModestActs (record s2 { acts = x })) (sym same) (record { none_last = are.none_last; holds = are.holds })

-- modest acts stay modest
pub modest-stay : (ps : List Put) (links : List Standing) (w : ℕ) → AreModestActs (link_to w links) → AreModestActs (link_to w (after_puts ps links))
modest-stay ps links w are = modest-acts (link_to w links) (link_to w (after_puts ps links)) (acts-stay ps links w) are
