-- What the steps of one worker leave of its devices.
use Rattle.std.proofs.Common.{◌≡◌, ℕ, ◌+◌, ◌*◌, ◌<◌, ◌≤◌, List, [], ◌∷◌, ◌++◌, length, Bool, true, false, Ok, Err, ⊎_elim, refl, sym, ap, subst, ◌∙◌, append-nil, append_assoc, arith}
use Rattle.std.proofs.lemmas.Bool.{cases_lt}
use Rattle.std.proofs.lemmas.List.{length_push}
use Rattle.ken_disk.specs.declared.disk.Disk as disk
use Rattle.ken_app.specs.declared.oracle.Oracle as oracle
use Rattle.ken_model.specs.Game.{Game}
use Rattle.ken_model.specs.Handler.{Handler}
use Rattle.ken_net.specs.declared.net.Net as net
use Rattle.ken_record.specs.declared.effects.Effects.{Effects}
use Rattle.ken_core.specs.Calls.{no_doubt}
use Rattle.ken_core.specs.Nodes.{Node}
use Rattle.ken_store.specs.declared.numbers.Numbers.{Numbers}
use Rattle.ken_store.specs.declared.turning.TurnSide.{TurnSide}
use Rattle.ken_store.specs.Apart.{disks_apart}
use Rattle.ken_ship.specs.declared.emit.Emit.{Emit}
use Rattle.ken_ship.specs.declared.emit.Emit.TheVariants.{Done, Refused, Nothing}
use Rattle.ken_ship.specs.declared.faults.NodeFault.TheVariants.{Outlet}
use Rattle.ken_ship.specs.declared.outlet.Outlet as outlet
use Rattle.ken_ship.specs.declared.worker.SendWorker.{SendWorker}
use Rattle.ken_ship.specs.Parts.{Part, part_of}
use Rattle.ken_work.specs.declared.patcher.PatchWorker.{PatchWorker}
use Rattle.ken_node.specs.declared.stage.Stage.TheVariants.{Created}
use Rattle.ken_work.specs.declared.took.Took.{Took}
use Rattle.ken_work.specs.declared.took.Took.TheVariants.{Turn, Idle, Capped}
use Rattle.ken_work.specs.declared.worker.TurnWorker.{TurnWorker}
use Rattle.ken_work.specs.Capped.{IsCapped}
use Rattle.ken_work.specs.Capped as caps
use Rattle.ken_work.specs.Sealing.{RenewsBy, is_full}
use Rattle.ken_node.specs.Synced.{HasSynced, LeavesSynced}
use Rattle.ken_node.proofs.GoesDown.{whole_goes_down}
use Rattle.ken_node.proofs.Synced.{WorkedAt, begun-work, calm-turns, has-synced, leaves-synced, renewed-work, sealed-work, worked-from, worked-to}
use Rattle.ken_weave.specs.Workers.{Steps, none, then}
use Rattle.ken_beside.specs.Accounts.{DrewEach, no_turn, one_turn, Refuses, no_call, one_call}
use Rattle.ken_beside.specs.On.{IsOn}
use Rattle.ken_beside.specs.Seats.{Handling, Sending}
use Rattle.ken_beside.specs.Steps.{EmitsOnce, HandlerStep, IsSameEnd, SenderCall, SenderStep, TurnsOnce, turns_once, sends_due, takes_acks, emits_once}

same-end : {N : Type 0} (e : net.Ghosts N) (a : N) → IsSameEnd e a a
same-end e a = record { node = refl; nodes = refl }

end-then : {N : Type 0} (e : net.Ghosts N) (a b c : N) → IsSameEnd e a b → IsSameEnd e b c → IsSameEnd e a c
end-then e a b c one two = record { node = two.node ∙ one.node; nodes = two.nodes ∙ one.nodes }

-- ---- the handler

module _ {D N O : Type 0} (d : disk.Ghosts D) (e : net.Ghosts N) (o : oracle.Ghosts O) (h : Handler) where
  abbrev Draws : O → List Effects → O → Type 0
  Draws = DrewEach o.telling.clocks o.telling.words h

  -- it made turns, which drew what its oracle answered
  pub record HasTurned (a b : Handling D N O) : Type 0 where
    pub turns : List Effects
    pub sealed : b.worker.turns.items ≡ a.worker.turns.items ++ turns
    pub drew : Draws a.oracle turns b.oracle
    pub origin : o.telling.origin b.oracle ≡ o.telling.origin a.oracle
    pub end : IsSameEnd e a.net b.net

  undrawn : (a b : O) → b ≡ a → Draws a [] b
  undrawn a b same = subst (λ (x : O). Draws a [] x) (sym same) no_turn

  turned-once : (took : Took) (a b : Handling D N O) → TurnsOnce d e o h (Ok took) a b → HasTurned a b
  turned-once Turn a b is = record {
    turns = is.takes.ran.effects ∷ [];
    sealed =
        is.takes.ran.kept.turns
        ∙ ap (λ (w : TurnWorker D). w.turns.items ++ is.takes.ran.effects ∷ []) is.takes.came.rest ∙ ap (λ (w : TurnWorker D). w.turns.items ++ is.takes.ran.effects ∷ []) is.hears.rest;
    drew = one_turn is.takes.ran.drawn is.clocks_go_on is.words_go_on no_turn;
    origin = is.origin;
    end = is.end;
  }
  turned-once Idle a b is = record {
    turns = [];
    sealed = ap (λ (w : TurnWorker D). w.turns.items) is.takes.came.rest ∙ ap (λ (w : TurnWorker D). w.turns.items) is.hears.rest ∙ sym (append-nil a.worker.turns.items);
    drew = ⊎_elim (λ (no : Idle ≡ Turn). absurd cc) (λ (same : b.oracle ≡ a.oracle). undrawn a.oracle b.oracle same) is.undrawn;
    origin = is.origin;
    end = is.end;
  }
  turned-once Capped a b is = record {
    turns = [];
    sealed = ap (λ (w : TurnWorker D). w.turns.items) is.takes.same ∙ ap (λ (w : TurnWorker D). w.turns.items) is.hears.rest ∙ sym (append-nil a.worker.turns.items);
    drew = ⊎_elim (λ (no : Capped ≡ Turn). absurd cc) (λ (same : b.oracle ≡ a.oracle). undrawn a.oracle b.oracle same) is.undrawn;
    origin = is.origin;
    end = is.end;
  }

  turned-one : (a b : Handling D N O) → HandlerStep d e o h a b → HasTurned a b
  turned-one a b (turns_once took is) = turned-once took a b is

  draws-then : (a b c : O) (xs ys : List Effects) → Draws a xs b → Draws b ys c → Draws a (xs ++ ys) c
  draws-then _ _ c _ ys no_turn more = more
  draws-then _ b c _ ys (one_turn {b = mid} {turns = rest} now clocks words later) more = one_turn now clocks words (draws-then mid b c rest ys later more)

  pub has-turned : (a c : Handling D N O) (cs : List (Handling D N O)) → Steps (HandlerStep d e o h) a cs c → HasTurned a c
  has-turned a c cs none = record { turns = []; sealed = sym (append-nil a.worker.turns.items); drew = no_turn; origin = refl; end = same-end e a.net }
  has-turned a c cs (then {b = b} {bs = bs} one rest) =
      let now = turned-one a b one in
      let later = has-turned b c bs rest in
      record {
        turns = now.turns ++ later.turns;
        sealed = later.sealed ∙ ap (λ (ts : List Effects). ts ++ later.turns) now.sealed ∙ append_assoc a.worker.turns.items now.turns later.turns;
        drew = draws-then a.oracle b.oracle c.oracle now.turns later.turns now.drew later.drew;
        origin = later.origin ∙ now.origin;
        end = end-then e a.net b.net c.net now.end later.end;
      }

  -- ---- the syncs of its logs

  abbrev Worked : TurnWorker D → Type 0
  Worked w = WorkedAt d.told d.faults (3 + 2 * length w.turns.items) w.side

  renewed-numbers : (full : Bool) (w : TurnWorker D) (mid : TurnSide D) → RenewsBy d.told d.size d.faults d.fate {T = Unit {0}} full (Ok tt) w mid → mid.numbers ≡ w.side.numbers
  renewed-numbers true w mid is = is.turned.numbers
  renewed-numbers false w mid is = ap (λ (x : TurnSide D). x.numbers) is.1

  same-worked : (a b : TurnWorker D) → b.turns.items ≡ a.turns.items → WorkedAt d.told d.faults (3 + 2 * length a.turns.items) b.side → Worked b
  same-worked a b same worked = subst (λ (ts : List Effects). WorkedAt d.told d.faults (3 + 2 * length ts) b.side) (sym same) worked

  heard-worked : (a mid : TurnWorker D) → mid.side ≡ a.side → Worked a → WorkedAt d.told d.faults (3 + 2 * length a.turns.items) mid.side
  heard-worked a mid same worked = subst (WorkedAt d.told d.faults (3 + 2 * length a.turns.items)) (sym same) worked

  worked-once : (took : Took) (a b : Handling D N O) → TurnsOnce d e o h (Ok took) a b → Worked a.worker → Worked b.worker
  worked-once Turn a b is worked =
      let count : ℕ = length a.worker.turns.items in
      let mid : TurnWorker D = is.takes.mid in
      let begun = is.takes.ran.begun in
      let heard = heard-worked a.worker is.mid (ap (λ (w : TurnWorker D). w.side) is.hears.rest) worked in
      let ready = begun-work d.told d.faults (3 + 2 * count) mid.side begun is.takes.ran.made.same (renewed-work d.told d.faults d.size d.fate (3 + 2 * count) (is_full is.mid.side) is.mid mid.side is.takes.came.renews heard) in
      let before : mid.turns.items ≡ a.worker.turns.items = ap (λ (w : TurnWorker D). w.turns.items) is.takes.came.rest ∙ ap (λ (w : TurnWorker D). w.turns.items) is.hears.rest in
      let same_count = ap length before in
      let kept = is.takes.came.working.count in
      let numbers : mid.side.numbers.turns ≡ is.mid.side.numbers.turns = ap (λ (x : Numbers). x.turns) (renewed-numbers (is_full is.mid.side) is.mid mid.side is.takes.came.renews) in
      let most = is.mid.most in
      let few : count < 100000 =
      ⊎_elim
      (λ (low : is.mid.side.numbers.turns < is.mid.cap). omega (arith, low, most, numbers, kept, same_count))
      (λ (high : is.mid.cap ≤ is.mid.side.numbers.turns). absurd (is.takes.came.open_yet (caps.turns high)))
      (cases_lt is.mid.side.numbers.turns is.mid.cap) in
      let made : length b.worker.turns.items ≡ count + 1 = ap length is.takes.ran.kept.turns ∙ length_push mid.turns.items is.takes.ran.effects ∙ ap (λ (k : ℕ). k + 1) same_count in
      let sum : 3 + 2 * count + 2 ≡ 3 + 2 * length b.worker.turns.items = omega (arith, made) in
      subst (λ (k : ℕ). WorkedAt d.told d.faults k b.worker.side) sum
      (sealed-work d.told d.faults d.size d.fate (3 + 2 * count) is.takes.ran.effects begun b.worker.side is.takes.ran.seals (omega (arith, few)) ready)
  worked-once Idle a b is worked =
      let count : ℕ = length a.worker.turns.items in
      let heard = heard-worked a.worker is.mid (ap (λ (w : TurnWorker D). w.side) is.hears.rest) worked in
      same-worked a.worker b.worker (ap (λ (w : TurnWorker D). w.turns.items) is.takes.came.rest ∙ ap (λ (w : TurnWorker D). w.turns.items) is.hears.rest)
      (renewed-work d.told d.faults d.size d.fate (3 + 2 * count) (is_full is.mid.side) is.mid b.worker.side is.takes.came.renews heard)
  worked-once Capped a b is worked =
      same-worked a.worker b.worker (ap (λ (w : TurnWorker D). w.turns.items) is.takes.same ∙ ap (λ (w : TurnWorker D). w.turns.items) is.hears.rest)
      (heard-worked a.worker b.worker (ap (λ (w : TurnWorker D). w.side) is.takes.same ∙ ap (λ (w : TurnWorker D). w.side) is.hears.rest) worked)

  worked-one : (a b : Handling D N O) → HandlerStep d e o h a b → Worked a.worker → Worked b.worker
  worked-one a b (turns_once took is) worked = worked-once took a b is worked

  worked-all : (a c : Handling D N O) (cs : List (Handling D N O)) → Steps (HandlerStep d e o h) a cs c → Worked a.worker → Worked c.worker
  worked-all a c cs none worked = worked
  worked-all a c cs (then {b = b} {bs = bs} one rest) worked = worked-all b c bs rest (worked-one a b one worked)

  pub synced-still : (g : Game) (v : ℕ) (n after : Node) (t t2 : Handling D N O) (p p2 : PatchWorker D) (s s2 : SendWorker) (ts : List (Handling D N O)) → IsOn d.told d.size g v n t.worker p s → Steps (HandlerStep d e o h) t ts t2
      → IsOn d.told d.size g v after t2.worker p2 s2 → LeavesSynced d.told d.faults g v (disks_apart t.worker.side p.side) → LeavesSynced d.told d.faults g v (disks_apart t2.worker.side p2.side)
  synced-still g v n after t t2 p p2 s s2 ts on by now synced =
      let a : TurnSide D = t.worker.side in
      let b : TurnSide D = t2.worker.side in
      let was : HasSynced d.told d.faults (length n.turning.turns) (disks_apart a p.side) =
      has-synced d.told d.faults g v n t.worker p s (whole_goes_down d.told d.size g v [] n t.worker p s on.limits on.known on.whole on.tell) synced in
      let worked : Worked t.worker =
      subst (λ (ts : List Effects). WorkedAt d.told d.faults (3 + 2 * length ts) a) (sym on.whole.workers.turns.kept)
      (worked-to d.told d.faults (3 + 2 * length n.turning.turns) a.which a.log.disk p.side.image.disk a.other was) in
      let then_worked : WorkedAt d.told d.faults (3 + 2 * length after.turning.turns) b =
      subst (λ (ts : List Effects). WorkedAt d.told d.faults (3 + 2 * length ts) b) now.whole.workers.turns.kept (worked-all t t2 ts by worked) in
      let has : HasSynced d.told d.faults (length after.turning.turns) (disks_apart b p2.side) =
      worked-from d.told d.faults (3 + 2 * length after.turning.turns) b.which b.log.disk p2.side.image.disk b.other then_worked in
      leaves-synced d.told d.faults g v [] after no_doubt (Created t2.worker p2 s2) (whole_goes_down d.told d.size g v [] after t2.worker p2 s2 now.limits now.known now.whole now.tell) (disks_apart b p2.side) refl
      (λ count tells. subst (λ (k : ℕ). HasSynced d.told d.faults k (disks_apart b p2.side)) (sym (calm-turns g v [] after count tells)) has)

-- ---- the externaliser

module _ {N U : Type 0} (e : net.Ghosts N) (u : outlet.Ghosts U) where
  abbrev Refusals : Sending N U → Sending N U → Type 0
  Refusals a b = Refuses u (part_of a.worker).refusals a.outlet (part_of b.worker).refusals b.outlet

  -- its outlet was called as its answers say, and its end is the same
  pub record HasSent (a b : Sending N U) : Type 0 where
    pub refusals : Refusals a b
    pub end : IsSameEnd e a.net b.net

  quiet : (a b : Sending N U) → (part_of b.worker).refusals ≡ (part_of a.worker).refusals → b.outlet ≡ a.outlet → Refusals a b
  quiet a b same outlet = subst (λ (k : ℕ). Refuses u (part_of a.worker).refusals a.outlet k b.outlet) (sym same) (subst (λ (x : U). Refuses u (part_of a.worker).refusals a.outlet (part_of a.worker).refusals x) (sym outlet) no_call)

  still-end : (a b : N) → b ≡ a → IsSameEnd e a b
  still-end a b same = record { node = ap e.node same; nodes = ap e.nodes same }

  emitted-once : (answer : Emit) (a b : Sending N U) → EmitsOnce e u (Ok answer) a b → Refusals a b
  emitted-once (Done number) a b is = one_call (Ok (Done number)) (ap (λ (x : Part). x.refusals) is.part.1.1.2) is.cause is.fate no_call
  emitted-once Refused a b is = one_call (Ok Refused) (is.part.1, ap (λ (x : Part). x.refusals) is.part.2) is.cause is.fate no_call
  emitted-once Nothing a b is = one_call (Ok Nothing) (ap (λ (x : Part). x.refusals) is.part.1) is.cause is.fate no_call

  step-sent : (a b : Sending N U) → SenderStep e u a b → HasSent a b
  step-sent a b (sends_due is) = record { refusals = quiet a b (ap (λ (x : Part). x.refusals) is.part) is.outlet; end = is.end }
  step-sent a b (takes_acks is) = record { refusals = quiet a b (ap (λ (x : Part). x.refusals) is.part) is.outlet; end = is.end }
  step-sent a b (emits_once answer is) = record { refusals = emitted-once answer a b is; end = still-end a.net b.net is.net }

  call-sent : (a b : Sending N U) → SenderCall e u a b → HasSent a b
  call-sent a b call =
      ⊎_elim
      (λ step. step-sent a b step)
      (λ (is : EmitsOnce e u (Err Outlet) a b). record {
        refusals = one_call (Err Outlet) (is.part.1, ap (λ (x : Part). x.refusals) is.part.2) is.cause is.fate no_call;
        end = still-end a.net b.net is.net;
      })
      call

  refuses-then : (i j k : ℕ) (a b c : U) → Refuses u i a j b → Refuses u j b k c → Refuses u i a k c
  refuses-then _ _ k _ _ c no_call more = more
  refuses-then _ j k _ b c (one_call {mid = mid} {b = x} answer now cause fate later) more = one_call answer now cause fate (refuses-then mid j k x b c later more)

  pub has-sent : (a c : Sending N U) (cs : List (Sending N U)) → Steps (SenderCall e u) a cs c → HasSent a c
  has-sent a c cs none = record { refusals = no_call; end = same-end e a.net }
  has-sent a c cs (then {b = b} {bs = bs} one rest) =
      let now = call-sent a b one in
      let later = has-sent b c bs rest in
      record {
        refusals = refuses-then (part_of a.worker).refusals (part_of b.worker).refusals (part_of c.worker).refusals a.outlet b.outlet c.outlet now.refusals later.refusals;
        end = end-then e a.net b.net c.net now.end later.end;
      }
