-- The next input, where no mail came.
use Rattle.std.proofs.Common.{◌≡◌, ℕ, ◌+◌, List, Option, Some, None, Result, Ok, Err, inr, refl, sym, ap, subst, ◌∙◌, arith}
use Rattle.std.specs.Prelude.{IfOk, IfSome, IsSome, OnErr, slice_get}
use Rattle.ken_model.specs.declared.messages.Message.{Message}
use Rattle.ken_model.specs.Network.{outside}
use Rattle.ken_net.specs.Puts.{Put}
use Rattle.ken_order.specs.Consumed.{Consumed, consumed_from}
use Rattle.ken_work.specs.Calls.{TakesMessage, at_input}
use Rattle.ken_work.specs.Hearing.{Listened, chosen}
use Rattle.ken_work.specs.Making.{IsMessage}
use Rattle.ken_work.specs.News.{AreInputs}

pub some_of : {A : Type 0} (o : Option A) → IsSome o → (x : A) × (o ≡ Some x)
some_of (Some x) is = (x, refl)
some_of None is = absurd cc

-- it is taken, or memory ran out for its copy
pub takes_input : {E : Type 0} (v : ℕ) (c : Consumed) (inputs : List Message) (gave : List (List ℕ) → Type 0) (put : List Put → Type 0) (nones nones2 : ℕ) (r : Result (Option Message) E)
    → Listened v c gave put nones nones2 None → IfOk r (λ (m : Option Message). m ≡ chosen inputs c None) → OnErr r (IsSome (chosen inputs c None)) → TakesMessage v c inputs gave put nones nones2 r
takes_input v c inputs gave put nones nones2 (Ok m) listened is waits = record { found = None; listened = listened; chosen_is = sym is }
takes_input v c inputs gave put nones nones2 (Err e) listened is waits = let m = some_of (chosen inputs c None) waits in at_input m.0 listened m.1

input_at : (v : ℕ) (c : Consumed) (inputs : List Message) → AreInputs v inputs → (o : Option Message) → slice_get inputs (consumed_from c outside) ≡ o → IfSome o (IsMessage v c)
input_at v c inputs are None at = tt
input_at v c inputs are (Some m) at =
    let is = are (consumed_from c outside) m at in
    record { sender = inr is.from; to = is.to; number = is.counted ∙ ap (λ (u : ℕ). consumed_from c u + 1) (sym is.from); stamp = omega (arith, is.stamp); short = is.short }

-- it is one that the node may take
pub input_may : {E : Type 0} (v : ℕ) (c : Consumed) (inputs : List Message) (r : Result (Option Message) E) → AreInputs v inputs → IfOk r (λ (m : Option Message). m ≡ chosen inputs c None) → IfOk r (λ (m : Option Message). IfSome m (IsMessage v c))
input_may v c inputs (Ok m) are is = subst (λ (o : Option Message). IfSome o (IsMessage v c)) (sym is) (input_at v c inputs are (chosen inputs c None) refl)
input_may v c inputs (Err e) are is = tt
