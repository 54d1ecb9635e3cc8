-- What the events of a call leave as it was: the sealed turns of a node, how far it has come with what it sent and output, or the pages
-- that wait for its image.
use Rattle.std.proofs.Common.{◌≡◌, ℕ, ◌==◌, if◌then◌else◌, List, [], ◌∷◌, ◌++◌, map, Bool, true, false, sym, ap, subst, ◌∙◌}
use Rattle.std.specs.List.{AllByRecursion, Contains, flat_map, range_with_len}
use Rattle.ken_model.specs.Game.{Game}
use Rattle.ken_core.specs.declared.events.Event.{Event}
use Rattle.ken_core.specs.declared.events.Event.TheVariants.{Seal, SealCut, Patch, SyncImage, Turnover, Send, Ack, TakeAck, Emit, Crash, Recover}
use Rattle.ken_core.specs.declared.events.Outcome.TheVariants.{Whole, Landed, Lost}
use Rattle.ken_core.specs.declared.events.Told.{Told}
use Rattle.ken_core.specs.Calls.{Call, AreSends, AreTaken, IsAck, IsEmit, IsIdle, IsNone, IsPatchOf, IsRenewed, IsSync, due_to, sends_of, taken_from}
use Rattle.ken_core.specs.Nodes.{Node}
use Rattle.ken_core.specs.Packets.{Answer, Mail, Outgoing, Packet}
use Rattle.ken_core.specs.Runs.{NodeRun}
use Rattle.ken_core.specs.Steps.{NodeStep}

-- an event after which the node has the same sealed turns
abbrev pub KeepsTurns : Event → Type 0
KeepsTurns (Seal node from draws pages) = ⊥
KeepsTurns (SealCut node from draws pages landed) = ⊥
KeepsTurns _ = Unit {0}

-- one after which it has come as far with what it sent and output
abbrev pub KeepsSending : Event → Type 0
KeepsSending (TakeAck node from through) = ⊥
KeepsSending (Emit node) = ⊥
KeepsSending (Recover node) = ⊥
KeepsSending _ = Unit {0}

-- one that changes nothing of its node
abbrev pub KeepsAll : Event → Type 0
KeepsAll (Send node to i) = Unit {0}
KeepsAll (Ack node from) = Unit {0}
KeepsAll _ = ⊥

-- one after which the same pages wait for its image
abbrev pub KeepsAhead : Event → Type 0
KeepsAhead (SyncImage node) = Unit {0}
KeepsAhead (Send node to i) = Unit {0}
KeepsAhead (Ack node from) = Unit {0}
KeepsAhead (TakeAck node from through) = Unit {0}
KeepsAhead (Emit node) = Unit {0}
KeepsAhead _ = ⊥

module _ (g : Game) (put : Packet → Type 0) (v : ℕ) where
  step-turns : (n n2 : Node) (e : Event) → NodeStep g put v n e n2 → KeepsTurns e → n2.turning.turns ≡ n.turning.turns
  step-turns n n2 (Seal node from draws pages) step keeps = absurd keeps
  step-turns n n2 (SealCut node from draws pages landed) step keeps = absurd keeps
  step-turns n n2 (Patch node page) step keeps = ap (λ (m : Node). m.turning.turns) step.1.1.1.2
  step-turns n n2 (SyncImage node) step keeps = ap (λ (m : Node). m.turning.turns) step.1
  step-turns n n2 (Turnover node Whole told) step keeps = ap (λ (m : Node). m.turning.turns) step.1
  step-turns n n2 (Turnover node Landed told) step keeps = ap (λ (m : Node). m.turning.turns) step.1
  step-turns n n2 (Turnover node Lost told) step keeps = ap (λ (m : Node). m.turning.turns) step.1
  step-turns n n2 (Send node to i) step keeps = ap (λ (m : Node). m.turning.turns) step.1.3
  step-turns n n2 (Ack node from) step keeps = ap (λ (m : Node). m.turning.turns) step.3
  step-turns n n2 (TakeAck node from through) step keeps = ap (λ (m : Node). m.turning.turns) step.3
  step-turns n n2 (Emit node) step keeps = ap (λ (m : Node). m.turning.turns) step.1.2
  step-turns n n2 (Crash node pages) step keeps = ap (λ (m : Node). m.turning.turns) step.1
  step-turns n n2 (Recover node) step keeps = ap (λ (m : Node). m.turning.turns) step.2

  step-sending : (n n2 : Node) (e : Event) → NodeStep g put v n e n2 → KeepsSending e → n2.sending ≡ n.sending
  step-sending n n2 (Seal node from draws pages) step keeps = ap (λ (m : Node). m.sending) step.1.1
  step-sending n n2 (SealCut node from draws pages true) step keeps = ap (λ (m : Node). m.sending) step.1.1
  step-sending n n2 (SealCut node from draws pages false) step keeps = ap (λ (m : Node). m.sending) step.1.1
  step-sending n n2 (Patch node page) step keeps = ap (λ (m : Node). m.sending) step.1.1.1.2
  step-sending n n2 (SyncImage node) step keeps = ap (λ (m : Node). m.sending) step.1
  step-sending n n2 (Turnover node Whole told) step keeps = ap (λ (m : Node). m.sending) step.1
  step-sending n n2 (Turnover node Landed told) step keeps = ap (λ (m : Node). m.sending) step.1
  step-sending n n2 (Turnover node Lost told) step keeps = ap (λ (m : Node). m.sending) step.1
  step-sending n n2 (Send node to i) step keeps = ap (λ (m : Node). m.sending) step.1.3
  step-sending n n2 (Ack node from) step keeps = ap (λ (m : Node). m.sending) step.3
  step-sending n n2 (TakeAck node from through) step keeps = absurd keeps
  step-sending n n2 (Emit node) step keeps = absurd keeps
  step-sending n n2 (Crash node pages) step keeps = ap (λ (m : Node). m.sending) step.1
  step-sending n n2 (Recover node) step keeps = absurd keeps

  step-all : (n n2 : Node) (e : Event) → NodeStep g put v n e n2 → KeepsAll e → n2 ≡ n
  step-all n n2 (Seal node from draws pages) step keeps = absurd keeps
  step-all n n2 (SealCut node from draws pages landed) step keeps = absurd keeps
  step-all n n2 (Patch node page) step keeps = absurd keeps
  step-all n n2 (SyncImage node) step keeps = absurd keeps
  step-all n n2 (Turnover node outcome told) step keeps = absurd keeps
  step-all n n2 (Send node to i) step keeps = step.1.3
  step-all n n2 (Ack node from) step keeps = step.3
  step-all n n2 (TakeAck node from through) step keeps = absurd keeps
  step-all n n2 (Emit node) step keeps = absurd keeps
  step-all n n2 (Crash node pages) step keeps = absurd keeps
  step-all n n2 (Recover node) step keeps = absurd keeps

  step-ahead : (n n2 : Node) (e : Event) → NodeStep g put v n e n2 → KeepsAhead e → n2.patching.ahead ≡ n.patching.ahead
  step-ahead n n2 (Seal node from draws pages) step keeps = absurd keeps
  step-ahead n n2 (SealCut node from draws pages landed) step keeps = absurd keeps
  step-ahead n n2 (Patch node page) step keeps = absurd keeps
  step-ahead n n2 (SyncImage node) step keeps = ap (λ (m : Node). m.patching.ahead) step.1
  step-ahead n n2 (Turnover node outcome told) step keeps = absurd keeps
  step-ahead n n2 (Send node to i) step keeps = ap (λ (m : Node). m.patching.ahead) step.1.3
  step-ahead n n2 (Ack node from) step keeps = ap (λ (m : Node). m.patching.ahead) step.3
  step-ahead n n2 (TakeAck node from through) step keeps = ap (λ (m : Node). m.patching.ahead) step.3
  step-ahead n n2 (Emit node) step keeps = ap (λ (m : Node). m.patching.ahead) step.1.2
  step-ahead n n2 (Crash node pages) step keeps = absurd keeps
  step-ahead n n2 (Recover node) step keeps = absurd keeps

  -- a run of events that keep them does
  pub run_keeps_turns : (n n2 : Node) (es : List Event) (out : Outgoing) → NodeRun g put v n es out n2 → AllByRecursion KeepsTurns es → n2.turning.turns ≡ n.turning.turns
  run_keeps_turns n n2 [] out run keeps = ap (λ (m : Node). m.turning.turns) run.1
  run_keeps_turns n n2 (e ∷ es) out run keeps = run_keeps_turns run.0 n2 es run.1.0 run.1.1.3 keeps.1 ∙ step-turns n run.0 e run.1.1.1 keeps.0

  pub run_keeps_sending : (n n2 : Node) (es : List Event) (out : Outgoing) → NodeRun g put v n es out n2 → AllByRecursion KeepsSending es → n2.sending ≡ n.sending
  run_keeps_sending n n2 [] out run keeps = ap (λ (m : Node). m.sending) run.1
  run_keeps_sending n n2 (e ∷ es) out run keeps = run_keeps_sending run.0 n2 es run.1.0 run.1.1.3 keeps.1 ∙ step-sending n run.0 e run.1.1.1 keeps.0

  pub run_keeps_all : (n n2 : Node) (es : List Event) (out : Outgoing) → NodeRun g put v n es out n2 → AllByRecursion KeepsAll es → n2 ≡ n
  run_keeps_all n n2 [] out run keeps = run.1
  run_keeps_all n n2 (e ∷ es) out run keeps = run_keeps_all run.0 n2 es run.1.0 run.1.1.3 keeps.1 ∙ step-all n run.0 e run.1.1.1 keeps.0

  pub run_keeps_ahead : (n n2 : Node) (es : List Event) (out : Outgoing) → NodeRun g put v n es out n2 → AllByRecursion KeepsAhead es → n2.patching.ahead ≡ n.patching.ahead
  run_keeps_ahead n n2 [] out run keeps = ap (λ (m : Node). m.patching.ahead) run.1
  run_keeps_ahead n n2 (e ∷ es) out run keeps = run_keeps_ahead run.0 n2 es run.1.0 run.1.1.3 keeps.1 ∙ step-ahead n run.0 e run.1.1.1 keeps.0

-- ---- the events of each call

all-append : (P : Event → Type 0) (xs ys : List Event) → AllByRecursion P xs → AllByRecursion P ys → AllByRecursion P (xs ++ ys)
all-append P [] ys one two = two
all-append P (x ∷ xs) ys one two = (one.0, all-append P xs ys one.1 two)

all-parts : {A : Type 0} (P : Event → Type 0) (f : A → List Event) → ((x : A) → AllByRecursion P (f x)) → (xs : List A) → AllByRecursion P (flat_map f xs)
all-parts P f each [] = tt
all-parts P f each (x ∷ xs) = all-append P (f x) (flat_map f xs) (each x) (all-parts P f each xs)

all-made : {A : Type 0} (P : Event → Type 0) (f : A → Event) → ((x : A) → P (f x)) → (xs : List A) → AllByRecursion P (map f xs)
all-made P f each [] = tt
all-made P f each (x ∷ xs) = (each x, all-made P f each xs)

module _ (P : Event → Type 0) (v : ℕ) where
  acks-all : ((from : ℕ) → P (Ack v from)) → (es : List Event) → AllByRecursion (IsAck v) es → AllByRecursion P es
  acks-all ack [] each = tt
  acks-all ack (e ∷ es) each = (subst P (sym each.0.1) (ack each.0.0), acks-all ack es each.1)

  renewed-all : ((told : Told) → P (Turnover v Whole told)) → (full : Bool) (es : List Event) → IsRenewed v full es → AllByRecursion P es
  renewed-all turn true es is = subst (AllByRecursion P) (sym is.1) (turn is.0, tt)
  renewed-all turn false es is = subst (AllByRecursion P) (sym is) tt

  idle-all : ((told : Told) → P (Turnover v Whole told)) → ((from : ℕ) → P (Ack v from)) → (full : Bool) (es : List Event) → IsIdle v full es → AllByRecursion P es
  idle-all turn ack full es is = subst (AllByRecursion P) (sym is.parts) (all-append P is.renewed is.acks (renewed-all turn full is.renewed is.renews) (acks-all ack is.acks is.each))

  sends-all : ((to i : ℕ) → P (Send v to i)) → (g : Game) (n : Node) → AllByRecursion P (sends_of g v n)
  sends-all send g n = all-parts P (λ (w : ℕ). map (λ (i : ℕ). Send v w i) (range_with_len 0 (due_to v n w))) (λ w. all-made P (λ (i : ℕ). Send v w i) (λ i. send w i) (range_with_len 0 (due_to v n w))) (range_with_len 0 g.nodes)

  taken-all : ((from through : ℕ) → P (TakeAck v from through)) → (given : List Packet) → AllByRecursion P (flat_map (taken_from v) given)
  taken-all take given = all-parts P (taken_from v) each given
    where
      by : (b : Bool) (from through : ℕ) → AllByRecursion P (if b then TakeAck v from through ∷ [] else [])
      by true from through = (take from through, tt)
      by false from through = tt

      each : (packet : Packet) → AllByRecursion P (taken_from v packet)
      each (Mail m) = tt
      each (Answer a) = by (a.to == v) a.from a.through

-- ---- what each call keeps

module _ (g : Game) (v : ℕ) (given : List Packet) (n n2 : Node) (out : Outgoing) where
  -- no events
  pub none_keeps : Call g v given IsNone n out n2 → n2 ≡ n
  none_keeps call = run_keeps_all g (Contains given) v n n2 call.events out call.run (subst (AllByRecursion KeepsAll) (sym call.which) tt)

  -- the handler's
  pub idle_keeps_turns : (full : Bool) → Call g v given (IsIdle v full) n out n2 → n2.turning.turns ≡ n.turning.turns
  idle_keeps_turns full call = run_keeps_turns g (Contains given) v n n2 call.events out call.run (idle-all KeepsTurns v (λ told. tt) (λ from. tt) full call.events call.which)

  pub idle_keeps_sending : (full : Bool) → Call g v given (IsIdle v full) n out n2 → n2.sending ≡ n.sending
  idle_keeps_sending full call = run_keeps_sending g (Contains given) v n n2 call.events out call.run (idle-all KeepsSending v (λ told. tt) (λ from. tt) full call.events call.which)

  -- the patcher's
  pub patch_keeps_turns : Call g v given (IsPatchOf v) n out n2 → n2.turning.turns ≡ n.turning.turns
  patch_keeps_turns call = run_keeps_turns g (Contains given) v n n2 call.events out call.run (subst (AllByRecursion KeepsTurns) (sym call.which.1) (tt, tt))

  pub patch_keeps_sending : Call g v given (IsPatchOf v) n out n2 → n2.sending ≡ n.sending
  patch_keeps_sending call = run_keeps_sending g (Contains given) v n n2 call.events out call.run (subst (AllByRecursion KeepsSending) (sym call.which.1) (tt, tt))

  pub sync_keeps_turns : Call g v given (IsSync v) n out n2 → n2.turning.turns ≡ n.turning.turns
  sync_keeps_turns call = run_keeps_turns g (Contains given) v n n2 call.events out call.run (subst (AllByRecursion KeepsTurns) (sym call.which) (tt, tt))

  pub sync_keeps_sending : Call g v given (IsSync v) n out n2 → n2.sending ≡ n.sending
  sync_keeps_sending call = run_keeps_sending g (Contains given) v n n2 call.events out call.run (subst (AllByRecursion KeepsSending) (sym call.which) (tt, tt))

  -- the externaliser's
  pub sends_keep : Call g v given (AreSends g v n) n out n2 → n2 ≡ n
  sends_keep call = run_keeps_all g (Contains given) v n n2 call.events out call.run (subst (AllByRecursion KeepsAll) (sym call.which) (sends-all KeepsAll v (λ to i. tt) g n))

  -- what waits for the image
  pub sync_keeps_ahead : Call g v given (IsSync v) n out n2 → n2.patching.ahead ≡ n.patching.ahead
  sync_keeps_ahead call = run_keeps_ahead g (Contains given) v n n2 call.events out call.run (subst (AllByRecursion KeepsAhead) (sym call.which) (tt, tt))

  pub taken_keep_ahead : (packets : List Packet) → Call g v given (AreTaken v packets) n out n2 → n2.patching.ahead ≡ n.patching.ahead
  taken_keep_ahead packets call = run_keeps_ahead g (Contains given) v n n2 call.events out call.run (subst (AllByRecursion KeepsAhead) (sym call.which) (taken-all KeepsAhead v (λ from through. tt) packets))

  pub emit_keeps_ahead : Call g v given (IsEmit v) n out n2 → n2.patching.ahead ≡ n.patching.ahead
  emit_keeps_ahead call = run_keeps_ahead g (Contains given) v n n2 call.events out call.run (subst (AllByRecursion KeepsAhead) (sym call.which) (tt, tt))
