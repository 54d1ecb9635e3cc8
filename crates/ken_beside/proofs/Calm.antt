-- The events of calls are calm, and calm runs emit in order.
use Rattle.std.proofs.Common.{◌≡◌, ℕ, zero, suc, ◌+◌, ◌<◌, ◌==◌, if◌then◌else◌, List, [], ◌∷◌, ◌++◌, length, map, slice_get, Bool, true, false, Option, Some, None, refl, sym, ap, subst, ◌∙◌, arith}
use Rattle.std.specs.List.{AllByRecursion, flat_map, range_with_len}
use Rattle.std.proofs.lemmas.Grind.{flat_map-append}
use Rattle.ken_model.specs.declared.messages.Out.{Out}
use Rattle.ken_model.specs.Game.{Game}
use Rattle.ken_model.specs.Network.{outside}
use Rattle.ken_record.specs.declared.effects.Effects.{Effects}
use Rattle.ken_core.specs.declared.events.Event.{Event}
use Rattle.ken_core.specs.declared.events.Event.TheVariants.{Seal, SealCut, Patch, SyncImage, Turnover, Send, Ack, TakeAck, Emit, Crash, Recover}
use Rattle.ken_core.specs.declared.events.Outcome.TheVariants.{Whole, Landed, Lost}
use Rattle.ken_core.specs.Calls.{AreSomeSends, IsAck, IsEmit, IsIdle, IsNone, IsPatchOf, IsRenewed, IsSome, IsSync, IsTurn, answer_to, due_to, ended, left_out, made, sends_of}
use Rattle.ken_core.specs.Nodes.{Node}
use Rattle.ken_core.specs.Packets.{Packet, Outgoing, due, emitted_out, mail_out, one_after_other, outgoing, unacked}
use Rattle.ken_core.specs.Runs.{NodeRun}
use Rattle.ken_core.specs.Steps.{NodeStep, emitted_node}
use Rattle.ken_core.specs.Turns.{outs_of}
use Rattle.ken_core.proofs.Sent.{slice_get-append}
use Rattle.ken_flow.proofs.Puts.{Grows, run_grows}
use Rattle.ken_ship.specs.Laws.{TakeThese}
use Rattle.ken_beside.specs.Calm.{CalmEmitsInOrder, EmitsInOrder, IsCalm}

abbrev pub AreCalm : List Event → Type 0
AreCalm es = AllByRecursion IsCalm es

pub calm-append : (xs ys : List Event) → AreCalm xs → AreCalm ys → AreCalm (xs ++ ys)
calm-append [] ys one two = two
calm-append (x ∷ xs) ys one two = (one.0, calm-append xs ys one.1 two)

-- ---- those of the handler

acks-calm : (v : ℕ) (es : List Event) → AllByRecursion (IsAck v) es → AreCalm es
acks-calm v [] each = tt
acks-calm v (e ∷ es) each = (subst IsCalm (sym each.0.1) tt, acks-calm v es each.1)

renewed-calm : (v : ℕ) (full : Bool) (es : List Event) → IsRenewed v full es → AreCalm es
renewed-calm v true es is = subst AreCalm (sym is.1) (tt, tt)
renewed-calm v false es is = subst AreCalm (sym is) tt

pub idle-calm : (v : ℕ) (full : Bool) (es : List Event) → IsIdle v full es → AreCalm es
idle-calm v full es is = subst AreCalm (sym is.parts) (calm-append is.renewed is.acks (renewed-calm v full is.renewed is.renews) (acks-calm v is.acks is.each))

answer-calm : (v from : ℕ) → AreCalm (answer_to v from)
answer-calm v from = by (from == outside)
  where
    by : (b : Bool) → AreCalm (if b then [] else Ack v from ∷ [])
    by true = tt
    by false = (tt, tt)

pub turn-calm : (v : ℕ) (full : Bool) (es : List Event) → IsTurn v full es → AreCalm es
turn-calm v full es is = subst AreCalm (sym is.parts) (calm-append is.before (Seal v is.from is.draws is.pages ∷ answer_to v is.from) (idle-calm v full is.before is.idle) (tt, answer-calm v is.from))

pub none-calm : (es : List Event) → IsNone es → AreCalm es
none-calm es is = subst AreCalm (sym is) tt

-- ---- those of the patcher

pub patch-calm : (v : ℕ) (es : List Event) → IsPatchOf v es → AreCalm es
patch-calm v es is = subst AreCalm (sym is.1) (tt, tt)

pub sync-calm : (v : ℕ) (es : List Event) → IsSync v es → AreCalm es
sync-calm v es is = subst AreCalm (sym is) (tt, tt)

-- ---- those of the externaliser

some-calm : (es whole : List Event) → IsSome es whole → AreCalm whole → AreCalm es
some-calm _ _ ended all = tt
some-calm _ _ (made {es = es} {whole = whole} rest) all = (all.0, some-calm es whole rest all.1)
some-calm es _ (left_out {whole = whole} rest) all = some-calm es whole rest all.1

made-calm : {A : Type 0} (f : A → Event) → ((x : A) → IsCalm (f x)) → (xs : List A) → AreCalm (map f xs)
made-calm f each [] = tt
made-calm f each (x ∷ xs) = (each x, made-calm f each xs)

all-sends : (v : ℕ) (n : Node) (ws : List ℕ) → AreCalm (flat_map (λ w. map (λ i. Send v w i) (range_with_len 0 (due_to v n w))) ws)
all-sends v n [] = tt
all-sends v n (w ∷ ws) =
    calm-append (map (λ i. Send v w i) (range_with_len 0 (due_to v n w))) (flat_map (λ w. map (λ i. Send v w i) (range_with_len 0 (due_to v n w))) ws)
    (made-calm (λ i. Send v w i) (λ i. tt) (range_with_len 0 (due_to v n w))) (all-sends v n ws)

pub sends-calm : (g : Game) (v : ℕ) (n : Node) (es : List Event) → AreSomeSends g v n es → AreCalm es
sends-calm g v n es is = some-calm es (sends_of g v n) is (all-sends v n (range_with_len 0 g.nodes))

pub taken-calm : (v : ℕ) (acks : List (ℕ × ℕ)) (es : List Event) → TakeThese v acks es → AreCalm es
taken-calm v acks es is = subst AreCalm (sym is) (made-calm (λ (a : ℕ × ℕ). TakeAck v a.0 a.1) (λ a. tt) acks)

pub emit-calm : (v : ℕ) (es : List Event) → IsEmit v es → AreCalm es
emit-calm v es is = subst AreCalm (sym is) (tt, tt)

-- ---- what a calm run emits

module _ (g : Game) (put : Packet → Type 0) (v : ℕ) where
  emits-none : (n mid : Node) → mid.sending.emitted ≡ n.sending.emitted → (out : Outgoing) → out.outs ≡ [] → (later : Outgoing) (n2 : Node) → EmitsInOrder mid later n2 → EmitsInOrder n (one_after_other out later) n2
  emits-none n mid same out none later n2 is =
      let outs : out.outs ++ later.outs ≡ later.outs = ap (λ (os : List Out). os ++ later.outs) none in
      let so = is.emitted in
      let size = ap length outs in
      record {
        emitted = omega (arith, same, so, size);
        outs = λ k low.
            ap (λ (x : ℕ). slice_get (outs_of n2.turning.turns) (x + k)) (sym same) ∙ is.outs k (omega (arith, low, size)) ∙ ap (λ (os : List Out). slice_get os k) (sym outs);
      }

  mail-outs : (to : ℕ) (n : Node) (m : Option _) → (mail_out v to n m).outs ≡ []
  mail-outs to n None = refl
  mail-outs to n (Some m) = refl

  grown : (n n2 : Node) → Grows n n2 → (k : ℕ) (o : Out) → slice_get (outs_of n.turning.turns) k ≡ Some o → slice_get (outs_of n2.turning.turns) k ≡ Some o
  grown n n2 grows k o at =
      ap (λ (es : List Effects). slice_get (outs_of es) k) grows.1
      ∙ ap (λ (os : List Out). slice_get os k) (flat_map-append (λ (e : Effects). e.outs) n.turning.turns grows.0)
      ∙ slice_get-append (outs_of n.turning.turns) (outs_of grows.0) k o at

  emits-one : (n : Node) (o : Out) (later : Outgoing) (n2 : Node) → due n ≡ Some o → Grows n n2 → EmitsInOrder (emitted_node n) later n2 → (out : Outgoing) → out.outs ≡ o ∷ [] → EmitsInOrder n (one_after_other out later) n2
  emits-one n o later n2 is grows rest out one =
      let outs : out.outs ++ later.outs ≡ o ∷ later.outs = ap (λ (os : List Out). os ++ later.outs) one in
      let so = rest.emitted in
      let size = ap length outs in
      record {
        emitted = omega (arith, so, size);
        outs = λ k low. at k (omega (arith, low, size)) ∙ ap (λ (os : List Out). slice_get os k) (sym outs);
      }
    where
      at : (k : ℕ) → k < length (o ∷ later.outs) → slice_get (outs_of n2.turning.turns) (n.sending.emitted + k) ≡ slice_get (o ∷ later.outs) k
      at zero low =
          let start : n.sending.emitted + zero ≡ n.sending.emitted = omega arith in
          ap (slice_get (outs_of n2.turning.turns)) start ∙ grown n n2 grows n.sending.emitted o is
      at (suc k) low =
          let place : n.sending.emitted + suc k ≡ n.sending.emitted + 1 + k = omega arith in
          ap (slice_get (outs_of n2.turning.turns)) place ∙ rest.outs k (omega (arith, low))

  step-emits : (n mid : Node) (e : Event) (later : Outgoing) (n2 : Node) → NodeStep g put v n e mid → IsCalm e → Grows mid n2 → EmitsInOrder mid later n2 → EmitsInOrder n (one_after_other (outgoing v n e) later) n2
  step-emits n mid (Seal node from draws pages) later n2 step calm grows rest = emits-none n mid (ap (λ (m : Node). m.sending.emitted) step.1.1) (outgoing v n (Seal node from draws pages)) refl later n2 rest
  step-emits n mid (SealCut node from draws pages landed) later n2 step calm grows rest = absurd calm
  step-emits n mid (Patch node page) later n2 step calm grows rest = emits-none n mid (ap (λ (m : Node). m.sending.emitted) step.1.1.1.2) (outgoing v n (Patch node page)) refl later n2 rest
  step-emits n mid (SyncImage node) later n2 step calm grows rest = emits-none n mid (ap (λ (m : Node). m.sending.emitted) step.1) (outgoing v n (SyncImage node)) refl later n2 rest
  step-emits n mid (Turnover node Whole told) later n2 step calm grows rest = emits-none n mid (ap (λ (m : Node). m.sending.emitted) step.1) (outgoing v n (Turnover node Whole told)) refl later n2 rest
  step-emits n mid (Turnover node Landed told) later n2 step calm grows rest = absurd calm
  step-emits n mid (Turnover node Lost told) later n2 step calm grows rest = absurd calm
  step-emits n mid (Send node to i) later n2 step calm grows rest = emits-none n mid (ap (λ (m : Node). m.sending.emitted) step.1.3) (outgoing v n (Send node to i)) (mail-outs to n (unacked v to i n)) later n2 rest
  step-emits n mid (Ack node from) later n2 step calm grows rest = emits-none n mid (ap (λ (m : Node). m.sending.emitted) step.3) (outgoing v n (Ack node from)) refl later n2 rest
  step-emits n mid (TakeAck node from through) later n2 step calm grows rest = emits-none n mid (ap (λ (m : Node). m.sending.emitted) step.3) (outgoing v n (TakeAck node from through)) refl later n2 rest
  step-emits n mid (Emit node) later n2 step calm grows rest =
      let o : Out = step.0 in
      let to : mid ≡ emitted_node n = step.1.2 in
      emits-one n o later n2 step.1.1 (subst (λ (m : Node). Grows m n2) to grows) (subst (λ (m : Node). EmitsInOrder m later n2) to rest) (outgoing v n (Emit node)) (ap (λ (x : Option Out). (emitted_out x).outs) step.1.1)
  step-emits n mid (Crash node pages) later n2 step calm grows rest = absurd calm
  step-emits n mid (Recover node) later n2 step calm grows rest = absurd calm

  run-emits : (n : Node) (es : List Event) (out : Outgoing) (n2 : Node) → NodeRun g put v n es out n2 → AreCalm es → EmitsInOrder n out n2
  run-emits n [] out n2 run calm = record {
    emitted = let same = ap (λ (m : Node). m.sending.emitted) run.1 in let size = ap (λ (x : Outgoing). length x.outs) run.0 in omega (arith, same, size);
    outs = λ k low. let size = ap (λ (x : Outgoing). length x.outs) run.0 in absurd (omega (arith, low, size));
  }
  run-emits n (e ∷ es) out n2 run calm =
      subst (λ (x : Outgoing). EmitsInOrder n x n2) (sym run.1.1.2)
      (step-emits n run.0 e run.1.0 n2 run.1.1.1 calm.0 (run_grows g put v run.0 es run.1.0 n2 run.1.1.3) (run-emits run.0 es run.1.0 n2 run.1.1.3 calm.1))

pub calm_emits_in_order : (put : Packet → Type 0) → CalmEmitsInOrder put
calm_emits_in_order put g v n es out n2 run calm = run-emits g put v n es out n2 run calm
