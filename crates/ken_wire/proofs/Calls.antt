-- What an end keeps over a call.
use Rattle.std.proofs.Common.{◌≡◌, ℕ, true, List, [], ◌∷◌, ◌++◌, Result, Ok, Err, MatchResult, refl, sym, subst}
use Rattle.ken_model.specs.declared.messages.Message.{Message}
use Rattle.ken_net.specs.Puts.{MayPut}
use Rattle.ken_wire.specs.declared.view.Sent.{Sent}
use Rattle.ken_wire.specs.declared.view.View.{View}
use Rattle.ken_wire.specs.Views.{after_put, sending, taking}
use Rattle.ken_wire.specs.Aims.{all_go_to, all_sent_to}
use Rattle.ken_wire.proofs.Aimed.{put_goes, sent_added}

abbrev Sends : ℕ → ℕ → View → Type 0
Sends from to v = (v.sends ≡ true) × (v.from ≡ from) × (all_go_to to v.sent.put ≡ true)

pub still_sends : {A E : Type 0} (result : Result A E) (x : E) (Z : Type 0) (from to : ℕ) (sealed : List Message) (consumed : List (ℕ × ℕ)) (bytes : List ℕ) (v w : View)
    → MatchResult result (λ _. w ≡ sending v.from (after_put sealed consumed bytes v.sent)) (λ y. (y ≡ x) × (w ≡ v) × Z) → Sends from to v → MayPut from to sealed consumed bytes → Sends from to w
still_sends (Ok a) x Z from to sealed consumed bytes v w e s may = subst (Sends from to) (sym e) (refl, s.1, put_goes from to sealed consumed bytes v.sent.put may s.2)
still_sends (Err y) x Z from to sealed consumed bytes v w e s may = subst (Sends from to) (sym e.1) s

abbrev Takes : ℕ → ℕ → View → Type 0
Takes to made v = (v.takes ≡ true) × (v.made ≡ made) × (all_sent_to to v.joined ≡ true)

pub still_takes : (to made : ℕ) (s : Sent) (v w : View) → w ≡ taking v.made v.heard (v.joined ++ s ∷ []) → Takes to made v → all_go_to to s.put ≡ true → Takes to made w
still_takes to made s v w e t all = subst (Takes to made) (sym e) (refl, t.1, sent_added to v.joined s t.2 all)
