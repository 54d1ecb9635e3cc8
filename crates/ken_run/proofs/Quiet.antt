-- Calls that emit nothing.
use Rattle.std.proofs.Common.{◌≡◌, ◌∙◌, ℕ, ◌==◌, if◌then◌else◌, Bool, true, false, List, [], ◌∷◌, ◌++◌, map, Option, Some, None, refl, sym, ap, subst}
use Rattle.std.specs.List.{AllByRecursion, flat_map, range_with_len}
use Rattle.ken_model.specs.declared.messages.Message.{Message}
use Rattle.ken_model.specs.declared.messages.Out.{Out}
use Rattle.ken_model.specs.Game.{Game}
use Rattle.ken_model.specs.Network.{outside}
use Rattle.ken_core.specs.declared.events.Event.{Event}
use Rattle.ken_core.specs.declared.events.Event.TheVariants.{Seal, SealCut, Patch, SyncImage, Turnover, Send, Ack, TakeAck, Emit, Crash, Recover}
use Rattle.ken_core.specs.Calls.{AreSends, IsAck, IsIdle, IsRenewed, IsTurn, answer_to, due_to}
use Rattle.ken_core.specs.Nodes.{Node}
use Rattle.ken_core.specs.Packets.{Packet, Outgoing, mail_out, outgoing, unacked}
use Rattle.ken_core.specs.Runs.{NodeRun}

-- an event that emits nothing
abbrev pub IsQuiet : Event → Type 0
IsQuiet (Seal node from draws pages) = Unit {0}
IsQuiet (SealCut node from draws pages landed) = Unit {0}
IsQuiet (Patch node page) = Unit {0}
IsQuiet (SyncImage node) = Unit {0}
IsQuiet (Turnover node outcome told) = Unit {0}
IsQuiet (Send node to i) = Unit {0}
IsQuiet (Ack node from) = Unit {0}
IsQuiet (TakeAck node from through) = Unit {0}
IsQuiet (Emit node) = ⊥
IsQuiet (Crash node pages) = Unit {0}
IsQuiet (Recover node) = Unit {0}

mail-quiet : (v w : ℕ) (n : Node) (m : Option Message) → (mail_out v w n m).outs ≡ []
mail-quiet v w n None = refl
mail-quiet v w n (Some m) = refl

event-quiet : (v : ℕ) (n : Node) (e : Event) → IsQuiet e → (outgoing v n e).outs ≡ []
event-quiet v n (Seal node from draws pages) is = refl
event-quiet v n (SealCut node from draws pages landed) is = refl
event-quiet v n (Patch node page) is = refl
event-quiet v n (SyncImage node) is = refl
event-quiet v n (Turnover node outcome told) is = refl
event-quiet v n (Send node to i) is = mail-quiet v to n (unacked v to i n)
event-quiet v n (Ack node from) is = refl
event-quiet v n (TakeAck node from through) is = refl
event-quiet v n (Emit node) is = absurd is
event-quiet v n (Crash node pages) is = refl
event-quiet v n (Recover node) is = refl

pub run-quiet : (g : Game) (put : Packet → Type 0) (v : ℕ) (n : Node) (es : List Event) (out : Outgoing) (n2 : Node) → AllByRecursion IsQuiet es → NodeRun g put v n es out n2 → out.outs ≡ []
run-quiet g put v n [] out n2 all run = ap (λ (o : Outgoing). o.outs) run.0
run-quiet g put v n (e ∷ es) out n2 all run =
    ap (λ (o : Outgoing). o.outs) run.1.1.2
    ∙ ap (λ (os : List Out). os ++ run.1.0.outs) (event-quiet v n e all.0)
    ∙ run-quiet g put v run.0 es run.1.0 n2 all.1 run.1.1.3

all-append : {A : Type 0} (P : A → Type 0) (xs ys : List A) → AllByRecursion P xs → AllByRecursion P ys → AllByRecursion P (xs ++ ys)
all-append P [] ys one two = two
all-append P (x ∷ xs) ys one two = (one.0, all-append P xs ys one.1 two)

acks-quiet : (v : ℕ) (es : List Event) → AllByRecursion (IsAck v) es → AllByRecursion IsQuiet es
acks-quiet v [] all = tt
acks-quiet v (e ∷ es) all = (subst IsQuiet (sym all.0.1) tt, acks-quiet v es all.1)

renewed-quiet : (v : ℕ) (full : Bool) (es : List Event) → IsRenewed v full es → AllByRecursion IsQuiet es
renewed-quiet v true es is = subst (AllByRecursion IsQuiet) (sym is.1) (tt, tt)
renewed-quiet v false es is = subst (AllByRecursion IsQuiet) (sym is) tt

pub idle-quiet : (v : ℕ) (full : Bool) (es : List Event) → IsIdle v full es → AllByRecursion IsQuiet es
idle-quiet v full es is = subst (AllByRecursion IsQuiet) (sym is.parts) (all-append IsQuiet is.renewed is.acks (renewed-quiet v full is.renewed is.renews) (acks-quiet v is.acks is.each))

answer-quiet : (v from : ℕ) (b : Bool) → AllByRecursion IsQuiet (if b then [] else Ack v from ∷ [])
answer-quiet v from true = tt
answer-quiet v from false = (tt, tt)

pub turn-quiet : (v : ℕ) (full : Bool) (es : List Event) → IsTurn v full es → AllByRecursion IsQuiet es
turn-quiet v full es is =
    subst (AllByRecursion IsQuiet) (sym is.parts)
    (all-append IsQuiet is.before (Seal v is.from is.draws is.pages ∷ answer_to v is.from) (idle-quiet v full is.before is.idle) (tt, answer-quiet v is.from (is.from == outside)))

some-sends-quiet : (v w : ℕ) (is : List ℕ) → AllByRecursion IsQuiet (map (λ i. Send v w i) is)
some-sends-quiet v w [] = tt
some-sends-quiet v w (i ∷ is) = (tt, some-sends-quiet v w is)

all-sends-quiet : (v : ℕ) (n : Node) (ws : List ℕ) → AllByRecursion IsQuiet (flat_map (λ w. map (λ i. Send v w i) (range_with_len 0 (due_to v n w))) ws)
all-sends-quiet v n [] = tt
all-sends-quiet v n (w ∷ ws) = all-append IsQuiet (map (λ i. Send v w i) (range_with_len 0 (due_to v n w))) (flat_map (λ w. map (λ i. Send v w i) (range_with_len 0 (due_to v n w))) ws) (some-sends-quiet v w (range_with_len 0 (due_to v n w))) (all-sends-quiet v n ws)

pub sends-quiet : (g : Game) (v : ℕ) (n : Node) (es : List Event) → AreSends g v n es → AllByRecursion IsQuiet es
sends-quiet g v n es is = subst (AllByRecursion IsQuiet) (sym is) (all-sends-quiet v n (range_with_len 0 g.nodes))
