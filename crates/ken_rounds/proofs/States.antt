-- How many past states rounds add to the story of a node's image.
use Rattle.std.proofs.Common.{◌≡◌, ◌≢◌, ℕ, ◌+◌, ◌*◌, ◌≤◌, List, [], ◌∷◌, length, true, false, Option, Some, None, Ok, refl, sym, ap, subst, arith}
use Rattle.std.specs.declared.sync.Arc.{Arc}
use Rattle.ken_disk.specs.declared.disk.Disk as disk
use Rattle.ken_disk.specs.Story.{Story, Follows}
use Rattle.ken_disk.specs.Steps.{after_writing, after_syncing}
use Rattle.ken_image.specs.declared.image.Image.{Image}
use Rattle.ken_image.specs.Calls.{Call, Called, Sync, Write, after_calls}
use Rattle.ken_store.specs.declared.patching.Ahead.{Ahead}
use Rattle.ken_store.specs.Patching.{IsInOrder, TakesPatches, page_calls, patch_calls}
use Rattle.ken_ship.specs.declared.faults.NodeFault.{NodeFault}
use Rattle.ken_ship.specs.declared.faults.NodeFault.TheVariants.{Disk, Damaged, Outlet, Memory}
use Rattle.ken_ship.specs.declared.worker.SendWorker.{SendWorker}
use Rattle.ken_work.specs.declared.patcher.PatchWorker.{PatchWorker}
use Rattle.ken_work.specs.declared.worker.TurnWorker.{TurnWorker}
use Rattle.ken_work.specs.Patches.{PatchesOnce, no_room, went}
use Rattle.ken_node.specs.declared.watched.Watched.{Watched}
use Rattle.ken_node.specs.Stages.{image_told}
use Rattle.ken_run.specs.declared.run.Run.{Run}
use Rattle.ken_run.specs.declared.station.Station.{Station}
use Rattle.ken_run.specs.Patched.{AddsStates, AllAdd}
use Rattle.ken_weave.specs.Workers.{Steps, none, then}
use Rattle.ken_beside.specs.Meetings.{HaveEmptied}
use Rattle.ken_threads.specs.Ran.{Ran}
use Rattle.ken_threads.specs.Seats.{PatcherFails, PatcherSteps, Patches, Settles, synced, wrote}
use Rattle.ken_rounds.specs.Faults.{is_disk}

-- ---- stories that go on

-- a story has so many past states more at least
abbrev pub Adds : ℕ → Option Story → Option Story → Type 0
Adds many old new = Follows (λ (a b : Story). length a.past + many ≤ length b.past) old new

adds-none : (told : Option Story) → Adds 0 told told
adds-none None = refl
adds-none (Some h) = (h, refl, omega arith)

adds-then : (few more : ℕ) (a b c : Option Story) → Adds few a b → Adds more b c → Adds (few + more) a c
adds-then few more None b c one two = subst (λ (x : Option Story). Adds more x c) one two
adds-then few more (Some h) b c one two =
    let second : Adds more (Some one.0) c = subst (λ (x : Option Story). Adds more x c) one.1 two in
    let low = one.2 in
    let high = second.2 in
    (second.0, second.1, omega (arith, low, high))

adds-fewer : (few many : ℕ) (a b : Option Story) → few ≤ many → Adds many a b → Adds few a b
adds-fewer few many None b low adds = adds
adds-fewer few many (Some h) b low adds = let more = adds.2 in (adds.0, adds.1, omega (arith, low, more))

-- each call that answered Ok leaves one
calls-add : (calls : List Call) (h : Story) → length (after_calls calls h).past ≡ length h.past + length calls
calls-add [] h = omega arith
calls-add (Write at bytes ∷ calls) h = let rest = calls-add calls (after_writing at bytes h) in omega (arith, rest)
calls-add (Sync ∷ calls) h = let rest = calls-add calls (after_syncing h) in omega (arith, rest)

all-add : {T : Type 0} (x : T) (calls : List Call) (old new : Option Story) → Follows (Called (Ok x) calls) old new → Adds (length calls) old new
all-add x calls None new is = is
all-add x calls (Some h) new is =
    let more = calls-add calls h in
    let now = ap (λ (s : Story). length s.past) is.2 in
    (is.0, is.1, omega (arith, more, now))

-- ---- calls of a patcher

one-page : {Z : Type 0} (ps : List (ℕ × Arc (List ℕ) Z)) → (ps ≡ [] → ⊥) → length (page_calls ps) ≡ 1
one-page [] some = absurd (some refl)
one-page (p ∷ ps) some = refl

-- where a page is to be written, one is
one-write : (known : ℕ) (items : List Ahead) → IsInOrder known items → items ≢ [] → length (patch_calls items) ≡ 1
one-write known [] order some = absurd (some refl)
one-write known (a ∷ rest) order some = one-page a.pages.items order.each.0.some

module _ {D : Type 0} (d : disk.Ghosts D) where
  abbrev Takes : PatchWorker D → Type 0
  Takes p = TakesPatches d.told d.size p.side

  abbrev image : PatchWorker D → Option Story
  image p = d.told p.side.image.disk

  -- a page is written, and none is to be where it answers false
  write-adds : (a b : PatchWorker D) → Patches d (Ok true) a b → Takes a → Takes b × Adds 1 (image a) (image b)
  write-adds a b one takes = by one.patches
    where
      by : PatchesOnce d.told d.size d.faults d.fate (Ok true) a b → Takes b × Adds 1 (image a) (image b)
      by (went mid over same is) =
          let before : Takes mid = over.handed.takes takes in
          let one_call = one-write mid.side.known mid.side.ahead.items before.side.order (is.more.0 refl) in
          let adds = all-add true (patch_calls mid.side.ahead.items) (image mid) (image b) is.calls in
          (is.takes, subst (λ (i : Image D). Adds 1 (d.told i.disk) (image b)) over.handed.image (adds-fewer 1 _ (image mid) (image b) (omega (arith, one_call)) adds))
      by (no_room err taken) = absurd cc

  look-adds : (a b : PatchWorker D) → Patches d (Ok false) a b → Takes a → Takes b × Adds 0 (image a) (image b)
  look-adds a b one takes = by one.patches
    where
      by : PatchesOnce d.told d.size d.faults d.fate (Ok false) a b → Takes b × Adds 0 (image a) (image b)
      by (went mid over same is) =
          let adds = all-add false (patch_calls mid.side.ahead.items) (image mid) (image b) is.calls in
          (is.takes, subst (λ (i : Image D). Adds 0 (d.told i.disk) (image b)) over.handed.image (adds-fewer 0 _ (image mid) (image b) (omega arith) adds))
      by (no_room err taken) = absurd cc

  sync-adds : (a b : PatchWorker D) → Settles d (Ok tt) a b → Takes b × Adds 1 (image a) (image b)
  sync-adds a b one = (one.settles.takes, all-add {T = Unit {0}} tt (Sync ∷ []) (image a) (image b) one.settles.calls)

  -- so each step adds one
  step-adds : (a b : PatchWorker D) → PatcherSteps d a b → Takes a → Takes b × Adds 1 (image a) (image b)
  step-adds a b (wrote one) takes = write-adds a b one takes
  step-adds a b (synced mid one two) takes =
      let first = look-adds a mid one takes in
      let second = sync-adds mid b two in
      (second.0, adds-then 0 1 (image a) (image mid) (image b) first.1 second.1)

  steps-add : (a c : PatchWorker D) (cs : List (PatchWorker D)) → Steps (PatcherSteps d) a cs c → Takes a → Adds (length cs) (image a) (image c)
  steps-add a _ _ none takes = adds-none (image a)
  steps-add a c _ (then {b = b} {bs = bs} one rest) takes =
      let first = step-adds a b one takes in
      adds-fewer _ (1 + length bs) (image a) (image c) (omega arith) (adds-then 1 (length bs) (image a) (image b) (image c) first.1 (steps-add b c bs rest first.0))

  -- where its disk didn't fail it made all its steps
  patcher-adds : (fault : Option NodeFault) (a b : PatchWorker D) → fault ≢ Some Memory → is_disk fault ≡ false → Ran (PatcherSteps d) (PatcherFails d) a b fault → Takes a → Adds 16 (image a) (image b)
  patcher-adds None a b had isnt ran takes =
      subst (λ (x : PatchWorker D). Adds 16 (image a) (image x)) (sym ran.ends.1) (subst (λ (k : ℕ). Adds k (image a) (image ran.mid)) ran.ends.0 (steps-add a ran.mid ran.states ran.made takes))
  patcher-adds (Some Disk) a b had isnt ran takes = absurd cc
  patcher-adds (Some Memory) a b had isnt ran takes = absurd (had refl)
  patcher-adds (Some Outlet) a b had isnt ran takes = let last = ran.ends.1 in absurd last
  patcher-adds (Some (Damaged disk place)) a b had isnt ran takes = let last = ran.ends.1 in absurd last

  -- and the meeting after them adds nothing
  pub crew-adds : (t t2 t3 : TurnWorker D) (p p2 p3 : PatchWorker D) (s s2 s3 : SendWorker) (fault : Option NodeFault) → fault ≢ Some Memory → is_disk fault ≡ false → Ran (PatcherSteps d) (PatcherFails d) p p2 fault
      → Takes p → HaveEmptied d t2 t3 p2 p3 s2 s3 → Adds 16 (image p) (image p3)
  crew-adds t t2 t3 p p2 p3 s s2 s3 fault had isnt ran takes meets =
      subst (Adds 16 (image p)) (ap (λ (i : Image D). d.told i.disk) (sym meets.met.patches.handed.image)) (patcher-adds fault p p2 had isnt ran takes)

-- ---- rounds one after another

module _ {D O U : Type 0} (told : Watched D → Option Story) where
  added-none : (a : Station D O U) → AddsStates told 0 a a
  added-none a = record { lines = omega arith; states = λ same. adds-none (image_told told a.node.stage) }

  added-then : (few more : ℕ) (a b c : Station D O U) → AddsStates told few a b → AddsStates told more b c → AddsStates told (few + more) a c
  added-then few more a b c one two =
      let first = one.lines in
      let second = two.lines in
      record {
        lines = omega (arith, first, second);
        states = λ same.
            adds-then few more (image_told told a.node.stage) (image_told told b.node.stage) (image_told told c.node.stage) (one.states (omega (arith, first, second, same))) (two.states (omega (arith, first, second, same)));
      }

  added-fewer : (few many : ℕ) (a b : Station D O U) → few ≤ many → AddsStates told many a b → AddsStates told few a b
  added-fewer few many a b low adds = record { lines = adds.lines; states = λ same. adds-fewer few many (image_told told a.node.stage) (image_told told b.node.stage) low (adds.states same) }

module _ {D O U A : Type 0} (told : Watched D → Option Story) where
  pub all-added-none : (a : Run D O U A) → AllAdd told (16 * 0) a a
  all-added-none a = record { width = refl; each = λ v d low. added-none told _ }

  pub all-added-then : (rounds : ℕ) (a b c : Run D O U A) → AllAdd told (16 * rounds) a b → AllAdd told 16 b c → AllAdd told (16 * (rounds + 1)) a c
  all-added-then rounds a b c one two = record {
    width = let first = one.width in let second = two.width in omega (arith, first, second);
    each = λ v d low.
        let wide = one.width in
        added-fewer told (16 * (rounds + 1)) (16 * rounds + 16) _ _ (omega arith) (added-then told (16 * rounds) 16 _ _ _ (one.each v d low) (two.each v d (omega (arith, wide, low))));
  }

  pub all-added-fewer : (some many : ℕ) (a b : Run D O U A) → some ≤ many → AllAdd told (16 * many) a b → AllAdd told (16 * some) a b
  all-added-fewer some many a b low all = record { width = all.width; each = λ v d known. added-fewer told (16 * some) (16 * many) _ _ (omega (arith, low)) (all.each v d known) }
