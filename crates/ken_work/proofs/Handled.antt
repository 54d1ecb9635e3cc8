-- What a handler makes of a message that it takes within its limits.
use Rattle.std.proofs.Common.{◌≡◌, ℕ, ◌*◌, ◌<◌, ◌^◌, arith, List, length, Option, Some, Result, Ok, Err, IfOk, IfSome, sym, ap, subst, ◌∙◌}
use Rattle.std.specs.List.{AllByRecursion}
use Rattle.ken_alloc.specs.Objects.{Heap}
use Rattle.ken_app.specs.Turning.{Allows, IsAllowed, first_turning}
use Rattle.ken_model.specs.declared.messages.Message.{Message}
use Rattle.ken_model.specs.Effects.{Effect}
use Rattle.ken_model.specs.Handler.{Handler}
use Rattle.ken_order.specs.Consumed.{Consumed, IsSender}
use Rattle.ken_store.specs.declared.owner.Owner.{Owner}
use Rattle.ken_store.specs.Turning.{HasPages, IsOwner}
use Rattle.ken_work.specs.Making.{IsMessage}
use Rattle.ken_app.specs.Limits.{ComesTo, IsCall, KeepsLimits}

pub if_some : {A : Type 0} (P : A → Type 0) (o : Option A) (x : A) → o ≡ Some x → IfSome o P → P x
if_some P o x is holds = let of : Option _ → Type 0 = λ p. IfSome p P in subst of is holds

pub both_ok : {X Y : Type 0} (r : Result X Y) (P Q R : X → Type 0) → ((x : X) → P x → Q x → R x) → IfOk r P → IfOk r Q → IfOk r R
both_ok (Ok x) P Q R gives p q = gives x p q
both_ok (Err y) P Q R gives p q = tt

-- a turn is the handler's, and within its limits
pub record IsTurn (h : Handler) (node nodes : ℕ) (m : Message) (before : Heap) (draws : List ℕ) (effect : Effect) : Type 0 where
  pub after : h.after node nodes before.value m draws ≡ Some effect
  pub allowed : IsAllowed nodes effect

-- a message that a node may take is one that its handler is called with
pub call_of : (o : Owner) (c : Consumed) (m : Message) (draws : List ℕ) (v nodes : ℕ) → IsOwner o → o.node ≡ v → o.nodes ≡ nodes → c.nodes ≡ nodes → IsMessage v c m → AllByRecursion (λ (d : ℕ). d < 2 ^ 64) draws → IsCall v nodes m draws
call_of o c m draws v nodes owner node_is nodes_is run message words =
    let below = owner.node in
    let few = owner.nodes in
    record { placed = record { some_node = omega (arith, below, nodes_is); few_nodes = omega (arith, few, nodes_is); known = omega (arith, below, node_is, nodes_is) }; sender = subst (λ k. IsSender k m.from) run message.sender; short = message.short; words = words }

pub turn_handled : (h : Handler) (node nodes size : ℕ) (m : Message) (before : Heap) (draws : List ℕ) (effect : Effect) → KeepsLimits nodes size h → ComesTo h node nodes size before.value → IsCall node nodes m draws
    → (Allows h (first_turning node nodes m before) draws → h.after node nodes before.value m draws ≡ Some effect) → IsTurn h node nodes m before draws effect
turn_handled h node nodes size m before draws effect keeps comes call handled =
    let fits = keeps node before.value m draws comes call in
    let after = handled (record { message = call.short; effect = fits }) in
    record { after = after; allowed = if_some (IsAllowed nodes) (h.after node nodes before.value m draws) effect after fits }

-- the heap of a turn is as long as it was
pub long_as_before : (n : ℕ) (before heap : Heap) → length before.bytes ≡ 256 * n → heap.begun ≡ Some before.bytes → IfSome heap.begun (λ b. length b ≡ length heap.bytes) → HasPages n heap
long_as_before n before heap whole begun long =
    let same : length before.bytes ≡ length heap.bytes = if_some (λ b. length b ≡ length heap.bytes) heap.begun before.bytes begun long in
    record {
      bytes = sym same ∙ whole;
      before = λ b is. let e : Some b ≡ Some before.bytes = sym is ∙ begun in let x : b ≡ before.bytes = cc in ap length x ∙ whole;
    }
