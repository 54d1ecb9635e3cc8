-- What events of a node keep of its turns, and of the number that it knows to be emitted.
use Rattle.std.proofs.Common.{◌≡◌, ◌∙◌, ℕ, ◌==◌, if◌then◌else◌, Bool, true, false, inl, inr, ◌⊎◌, List, [], ◌∷◌, ◌++◌, map, sym, ap, subst}
use Rattle.std.specs.List.{AllByRecursion, flat_map, range_with_len}
use Rattle.ken_model.specs.Game.{Game}
use Rattle.ken_model.specs.Network.{outside}
use Rattle.ken_record.specs.declared.effects.Effects.{Effects}
use Rattle.ken_record.specs.declared.page.Page.{Page}
use Rattle.ken_core.specs.declared.events.Event.{Event}
use Rattle.ken_core.specs.declared.events.Event.TheVariants.{Seal, SealCut, Patch, SyncImage, Turnover, Send, Ack, TakeAck, Emit, Crash, Recover}
use Rattle.ken_core.specs.declared.events.Outcome.TheVariants.{Whole, Landed, Lost}
use Rattle.ken_core.specs.declared.events.Told.{Told}
use Rattle.ken_core.specs.Calls.{AreSends, AreTaken, Doubt, IsAck, IsIdle, IsNone, IsPatchOf, IsRenewed, IsSync, IsTurn, answer_to, due_to, found, no_doubt, seal, taken_from, turnover}
use Rattle.ken_core.specs.Nodes.{Node}
use Rattle.ken_core.specs.Packets.{Packet, Mail, Answer, Outgoing}
use Rattle.ken_core.specs.Runs.{NodeRun}
use Rattle.ken_core.specs.Steps.{NodeStep}
use Rattle.ken_node.specs.Restarts.{AreOfRestart}
use Rattle.ken_run.specs.Accounts.{doubted}

-- ---- events that seal nothing, and events after which a node knows as much to be emitted

abbrev pub SealsNone : Event → Type 0
SealsNone (Seal node from draws pages) = ⊥
SealsNone (SealCut node from draws pages landed) = ⊥
SealsNone (Patch node page) = Unit {0}
SealsNone (SyncImage node) = Unit {0}
SealsNone (Turnover node outcome told) = Unit {0}
SealsNone (Send node to i) = Unit {0}
SealsNone (Ack node from) = Unit {0}
SealsNone (TakeAck node from through) = Unit {0}
SealsNone (Emit node) = Unit {0}
SealsNone (Crash node pages) = Unit {0}
SealsNone (Recover node) = Unit {0}

abbrev pub CountsNone : Event → Type 0
CountsNone (Seal node from draws pages) = Unit {0}
CountsNone (SealCut node from draws pages landed) = Unit {0}
CountsNone (Patch node page) = Unit {0}
CountsNone (SyncImage node) = Unit {0}
CountsNone (Turnover node outcome told) = Unit {0}
CountsNone (Send node to i) = Unit {0}
CountsNone (Ack node from) = Unit {0}
CountsNone (TakeAck node from through) = Unit {0}
CountsNone (Emit node) = ⊥
CountsNone (Crash node pages) = Unit {0}
CountsNone (Recover node) = ⊥

step-turns : (g : Game) (put : Packet → Type 0) (v : ℕ) (n : Node) (e : Event) (n2 : Node) → SealsNone e → NodeStep g put v n e n2 → n2.turning.turns ≡ n.turning.turns
step-turns g put v n (Seal node from draws pages) n2 none s = absurd none
step-turns g put v n (SealCut node from draws pages landed) n2 none s = absurd none
step-turns g put v n (Patch node page) n2 none s = ap (λ (x : Node). x.turning.turns) s.1.1.1.2
step-turns g put v n (SyncImage node) n2 none s = ap (λ (x : Node). x.turning.turns) s.1
step-turns g put v n (Turnover node Whole told) n2 none s = ap (λ (x : Node). x.turning.turns) s.1
step-turns g put v n (Turnover node Landed told) n2 none s = ap (λ (x : Node). x.turning.turns) s.1
step-turns g put v n (Turnover node Lost told) n2 none s = ap (λ (x : Node). x.turning.turns) s.1
step-turns g put v n (Send node to i) n2 none s = ap (λ (x : Node). x.turning.turns) s.1.3
step-turns g put v n (Ack node from) n2 none s = ap (λ (x : Node). x.turning.turns) s.3
step-turns g put v n (TakeAck node from through) n2 none s = ap (λ (x : Node). x.turning.turns) s.3
step-turns g put v n (Emit node) n2 none s = ap (λ (x : Node). x.turning.turns) s.1.2
step-turns g put v n (Crash node pages) n2 none s = ap (λ (x : Node). x.turning.turns) s.1
step-turns g put v n (Recover node) n2 none s = ap (λ (x : Node). x.turning.turns) s.2

step-emitted : (g : Game) (put : Packet → Type 0) (v : ℕ) (n : Node) (e : Event) (n2 : Node) → CountsNone e → NodeStep g put v n e n2 → n2.sending.emitted ≡ n.sending.emitted
step-emitted g put v n (Seal node from draws pages) n2 none s = ap (λ (x : Node). x.sending.emitted) s.1.1
step-emitted g put v n (SealCut node from draws pages true) n2 none s = ap (λ (x : Node). x.sending.emitted) s.1.1
step-emitted g put v n (SealCut node from draws pages false) n2 none s = ap (λ (x : Node). x.sending.emitted) s.1.1
step-emitted g put v n (Patch node page) n2 none s = ap (λ (x : Node). x.sending.emitted) s.1.1.1.2
step-emitted g put v n (SyncImage node) n2 none s = ap (λ (x : Node). x.sending.emitted) s.1
step-emitted g put v n (Turnover node Whole told) n2 none s = ap (λ (x : Node). x.sending.emitted) s.1
step-emitted g put v n (Turnover node Landed told) n2 none s = ap (λ (x : Node). x.sending.emitted) s.1
step-emitted g put v n (Turnover node Lost told) n2 none s = ap (λ (x : Node). x.sending.emitted) s.1
step-emitted g put v n (Send node to i) n2 none s = ap (λ (x : Node). x.sending.emitted) s.1.3
step-emitted g put v n (Ack node from) n2 none s = ap (λ (x : Node). x.sending.emitted) s.3
step-emitted g put v n (TakeAck node from through) n2 none s = ap (λ (x : Node). x.sending.emitted) s.3
step-emitted g put v n (Emit node) n2 none s = absurd none
step-emitted g put v n (Crash node pages) n2 none s = ap (λ (x : Node). x.sending.emitted) s.1
step-emitted g put v n (Recover node) n2 none s = absurd none

pub run-turns : (g : Game) (put : Packet → Type 0) (v : ℕ) (n : Node) (es : List Event) (out : Outgoing) (n2 : Node) → AllByRecursion SealsNone es → NodeRun g put v n es out n2 → n2.turning.turns ≡ n.turning.turns
run-turns g put v n [] out n2 all run = ap (λ (x : Node). x.turning.turns) run.1
run-turns g put v n (e ∷ es) out n2 all run = run-turns g put v run.0 es run.1.0 n2 all.1 run.1.1.3 ∙ step-turns g put v n e run.0 all.0 run.1.1.1

pub run-emitted : (g : Game) (put : Packet → Type 0) (v : ℕ) (n : Node) (es : List Event) (out : Outgoing) (n2 : Node) → AllByRecursion CountsNone es → NodeRun g put v n es out n2 → n2.sending.emitted ≡ n.sending.emitted
run-emitted g put v n [] out n2 all run = ap (λ (x : Node). x.sending.emitted) run.1
run-emitted g put v n (e ∷ es) out n2 all run = run-emitted g put v run.0 es run.1.0 n2 all.1 run.1.1.3 ∙ step-emitted g put v n e run.0 all.0 run.1.1.1

-- ---- the events of each call

all-both : {A : Type 0} (P : A → Type 0) (xs ys : List A) → AllByRecursion P xs → AllByRecursion P ys → AllByRecursion P (xs ++ ys)
all-both P [] ys one two = two
all-both P (x ∷ xs) ys one two = (one.0, all-both P xs ys one.1 two)

module _ (P : Event → Type 0) (v : ℕ) where
  acks-all : ((from : ℕ) → P (Ack v from)) → (es : List Event) → AllByRecursion (IsAck v) es → AllByRecursion P es
  acks-all ack [] all = tt
  acks-all ack (e ∷ es) all = (subst P (sym all.0.1) (ack all.0.0), acks-all ack es all.1)

  renewed-all : ((told : Told) → P (Turnover v Whole told)) → (full : Bool) (es : List Event) → IsRenewed v full es → AllByRecursion P es
  renewed-all renews true es is = subst (AllByRecursion P) (sym is.1) (renews is.0, tt)
  renewed-all renews false es is = subst (AllByRecursion P) (sym is) tt

  idle-all : ((from : ℕ) → P (Ack v from)) → ((told : Told) → P (Turnover v Whole told)) → (full : Bool) (es : List Event) → IsIdle v full es → AllByRecursion P es
  idle-all ack renews full es is = subst (AllByRecursion P) (sym is.parts) (all-both P is.renewed is.acks (renewed-all renews full is.renewed is.renews) (acks-all ack is.acks is.each))

  answer-all : ((from : ℕ) → P (Ack v from)) → (from : ℕ) (b : Bool) → AllByRecursion P (if b then [] else Ack v from ∷ [])
  answer-all ack from true = tt
  answer-all ack from false = (ack from, tt)

  turn-all : ((from : ℕ) → P (Ack v from)) → ((told : Told) → P (Turnover v Whole told)) → ((from : ℕ) (draws : List ℕ) (pages : List Page) → P (Seal v from draws pages)) → (full : Bool) (es : List Event) → IsTurn v full es → AllByRecursion P es
  turn-all ack renews seals full es is =
      subst (AllByRecursion P) (sym is.parts)
      (all-both P is.before (Seal v is.from is.draws is.pages ∷ answer_to v is.from) (idle-all ack renews full is.before is.idle) (seals is.from is.draws is.pages, answer-all ack is.from (is.from == outside)))

  some-sends-all : ((to i : ℕ) → P (Send v to i)) → (w : ℕ) (is : List ℕ) → AllByRecursion P (map (λ i. Send v w i) is)
  some-sends-all sends w [] = tt
  some-sends-all sends w (i ∷ is) = (sends w i, some-sends-all sends w is)

  all-sends-all : ((to i : ℕ) → P (Send v to i)) → (n : Node) (ws : List ℕ) → AllByRecursion P (flat_map (λ w. map (λ i. Send v w i) (range_with_len 0 (due_to v n w))) ws)
  all-sends-all sends n [] = tt
  all-sends-all sends n (w ∷ ws) = all-both P (map (λ i. Send v w i) (range_with_len 0 (due_to v n w))) (flat_map (λ w. map (λ i. Send v w i) (range_with_len 0 (due_to v n w))) ws) (some-sends-all sends w (range_with_len 0 (due_to v n w))) (all-sends-all sends n ws)

  sends-all : ((to i : ℕ) → P (Send v to i)) → (g : Game) (n : Node) (es : List Event) → AreSends g v n es → AllByRecursion P es
  sends-all sends g n es is = subst (AllByRecursion P) (sym is) (all-sends-all sends n (range_with_len 0 g.nodes))

  one-taken : ((from through : ℕ) → P (TakeAck v from through)) → (from through : ℕ) (b : Bool) → AllByRecursion P (if b then TakeAck v from through ∷ [] else [])
  one-taken takes from through true = (takes from through, tt)
  one-taken takes from through false = tt

  all-taken : ((from through : ℕ) → P (TakeAck v from through)) → (given : List Packet) → AllByRecursion P (flat_map (taken_from v) given)
  all-taken takes [] = tt
  all-taken takes (Mail m ∷ ps) = all-taken takes ps
  all-taken takes (Answer a ∷ ps) = all-both P (if a.to == v then TakeAck v a.from a.through ∷ [] else []) (flat_map (taken_from v) ps) (one-taken takes a.from a.through (a.to == v)) (all-taken takes ps)

  taken-all : ((from through : ℕ) → P (TakeAck v from through)) → (given : List Packet) (es : List Event) → AreTaken v given es → AllByRecursion P es
  taken-all takes given es is = subst (AllByRecursion P) (sym is) (all-taken takes given)

-- in words of the calls
pub idle-seals-none : (v : ℕ) (full : Bool) (es : List Event) → IsIdle v full es → AllByRecursion SealsNone es
idle-seals-none v full es is = idle-all SealsNone v (λ from. tt) (λ told. tt) full es is

pub idle-counts-none : (v : ℕ) (full : Bool) (es : List Event) → IsIdle v full es → AllByRecursion CountsNone es
idle-counts-none v full es is = idle-all CountsNone v (λ from. tt) (λ told. tt) full es is

pub turn-counts-none : (v : ℕ) (full : Bool) (es : List Event) → IsTurn v full es → AllByRecursion CountsNone es
turn-counts-none v full es is = turn-all CountsNone v (λ from. tt) (λ told. tt) (λ from draws pages. tt) full es is

pub sends-seal-none : (g : Game) (v : ℕ) (n : Node) (es : List Event) → AreSends g v n es → AllByRecursion SealsNone es
sends-seal-none g v n es is = sends-all SealsNone v (λ to i. tt) g n es is

pub sends-count-none : (g : Game) (v : ℕ) (n : Node) (es : List Event) → AreSends g v n es → AllByRecursion CountsNone es
sends-count-none g v n es is = sends-all CountsNone v (λ to i. tt) g n es is

pub taken-seal-none : (v : ℕ) (given : List Packet) (es : List Event) → AreTaken v given es → AllByRecursion SealsNone es
taken-seal-none v given es is = taken-all SealsNone v (λ from through. tt) given es is

pub taken-count-none : (v : ℕ) (given : List Packet) (es : List Event) → AreTaken v given es → AllByRecursion CountsNone es
taken-count-none v given es is = taken-all CountsNone v (λ from through. tt) given es is

pub none-all : (P : Event → Type 0) (es : List Event) → IsNone es → AllByRecursion P es
none-all P es is = subst (AllByRecursion P) (sym is) tt

pub patch-seals-none : (v : ℕ) (es : List Event) → IsPatchOf v es → AllByRecursion SealsNone es
patch-seals-none v es is = subst (AllByRecursion SealsNone) (sym is.1) (tt, tt)

pub patch-counts-none : (v : ℕ) (es : List Event) → IsPatchOf v es → AllByRecursion CountsNone es
patch-counts-none v es is = subst (AllByRecursion CountsNone) (sym is.1) (tt, tt)

pub sync-seals-none : (v : ℕ) (es : List Event) → IsSync v es → AllByRecursion SealsNone es
sync-seals-none v es is = subst (AllByRecursion SealsNone) (sym is) (tt, tt)

pub sync-counts-none : (v : ℕ) (es : List Event) → IsSync v es → AllByRecursion CountsNone es
sync-counts-none v es is = subst (AllByRecursion CountsNone) (sym is) (tt, tt)

-- ---- a restart

-- a restart keeps the turns, or adds the one whose seal was in doubt
abbrev pub TurnsAfterRestart : Node → Doubt → Node → Type 0
TurnsAfterRestart n doubt after = (after.turning.turns ≡ n.turning.turns) ⊎ ((t : Effects) × ((after.turning.turns ≡ n.turning.turns ++ t ∷ []) × (doubted doubt ≡ t.draws ∷ [])))

module _ (g : Game) (put : Packet → Type 0) (v : ℕ) (n : Node) (out : Outgoing) (after : Node) (torn : List Page) where
  restart-found : (doubt : Doubt) (landed : Bool) → NodeRun g put v n (found v doubt landed ++ Crash v torn ∷ Recover v ∷ []) out after → TurnsAfterRestart n doubt after
  restart-found no_doubt landed run = inl (run-turns g put v n (Crash v torn ∷ Recover v ∷ []) out after (tt, (tt, tt)) run)
  restart-found (turnover told) true run = inl (run-turns g put v n (Turnover v Landed told ∷ Crash v torn ∷ Recover v ∷ []) out after (tt, (tt, (tt, tt))) run)
  restart-found (turnover told) false run = inl (run-turns g put v n (Turnover v Lost told ∷ Crash v torn ∷ Recover v ∷ []) out after (tt, (tt, (tt, tt))) run)
  restart-found (seal from draws pages) true run =
      let step = run.1.1.1 in
      let rest = run-turns g put v run.0 (Crash v torn ∷ Recover v ∷ []) run.1.0 after (tt, (tt, tt)) run.1.1.3 in
      inr (_, (rest ∙ ap (λ (x : Node). x.turning.turns) step.1.1, ap (λ ds. ds ∷ []) (sym step.1.0.drawn)))
  restart-found (seal from draws pages) false run =
      let step = run.1.1.1 in
      let rest = run-turns g put v run.0 (Crash v torn ∷ Recover v ∷ []) run.1.0 after (tt, (tt, tt)) run.1.1.3 in
      inl (rest ∙ ap (λ (x : Node). x.turning.turns) step.1.1)

pub restart-turns : (g : Game) (put : Packet → Type 0) (v : ℕ) (n : Node) (doubt : Doubt) (es : List Event) (out : Outgoing) (after : Node) → AreOfRestart g v n doubt es → NodeRun g put v n es out after → TurnsAfterRestart n doubt after
restart-turns g put v n doubt es out after (inl is) run = restart-found g put v n out after is.torn doubt is.landed (subst (λ (xs : List Event). NodeRun g put v n xs out after) is.parts run)
restart-turns g put v n doubt es out after (inr is) run = inl (run-turns g put v n [] out after tt (subst (λ (xs : List Event). NodeRun g put v n xs out after) is.1 run))
