-- Events of a group, one after the other.
use Rattle.std.proofs.Common.{◌≡◌, ℕ, ◌+◌, ◌<◌, ◌⊎◌, inl, inr, List, [], ◌∷◌, ◌++◌, take, get_or, length, Bool, true, false, Result, Ok, Err, IfOk, refl, sym, ap, ◌∙◌, subst}
use Rattle.std.specs.Result.{OnErr}
use Rattle.std.proofs.lemmas.List.{take_more}
use Rattle.ken_model.specs.Game.{Game}
use Rattle.ken_core.specs.declared.events.Event.{Event}
use Rattle.ken_core.specs.Clusters.{Cluster, Step, IsBarred, Goes}
use Rattle.ken_core.specs.Accord.{Accord}
use Rattle.ken_core.specs.Groups.{Plays}
use Rattle.ken_core.proofs.Calls.{step_keeps_accord}

pub plays_accord : (g : Game) (w w2 : Cluster) (e : Event) (b : Bool) → Plays g w e w2 b → Accord g w → Accord g w2
plays_accord g w w2 e true step accord = step_keeps_accord g w e w2 accord step
plays_accord g w w2 e false still accord = subst (λ (x : Cluster). Accord g x) (sym still.1) accord

pub call_accord : {E : Type 0} → (g : Game) (w w2 : Cluster) (e : Event) (r : Result Bool E) → IfOk r (Plays g w e w2) → OnErr r (w2 ≡ w) → Accord g w → Accord g w2
call_accord g w w2 e (Ok b) plays same accord = plays_accord g w w2 e b plays accord
call_accord g w w2 e (Err x) plays same accord = subst (λ (y : Cluster). Accord g y) (sym same) accord

went : (g : Game) (w w2 : Cluster) (e : Event) (b : Bool) → Plays g w e w2 b → Step g w e w2 ⊎ (IsBarred g w e × (w2 ≡ w))
went g w w2 e true step = inl step
went g w w2 e false still = inr still

pub goes_push : (g : Game) (w w1 w2 : Cluster) (es : List Event) (e : Event) (b : Bool) → Goes g w es w1 → Plays g w1 e w2 b → Goes g w (es ++ e ∷ []) w2
goes_push g w w1 w2 [] e b goes plays = (w2, (went g w w2 e b (subst (λ (x : Cluster). Plays g x e w2 b) goes plays), refl))
goes_push g w w1 w2 (x ∷ es) e b goes plays = (goes.0, (goes.1.0, goes_push g goes.0 w1 w2 es e b goes.1.1 plays))

pub goes_more : (g : Game) (w w1 w2 : Cluster) (es : List Event) (i : ℕ) (e : Event) (b : Bool) → i < length es → e ≡ get_or es i e → Goes g w (take i es) w1 → Plays g w1 e w2 b → Goes g w (take (i + 1) es) w2
goes_more g w w1 w2 es i e b within is goes plays =
    subst (λ (xs : List Event). Goes g w xs w2) (sym (take_more es i e within ∙ ap (λ x. take i es ++ x ∷ []) (sym is))) (goes_push g w w1 w2 (take i es) e b goes plays)
