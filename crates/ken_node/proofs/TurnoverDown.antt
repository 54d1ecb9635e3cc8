-- A node whose turnover is in doubt may be restarted.
use Rattle.std.proofs.Common.{◌≡◌, ℕ, ◌+◌, ◌<◌, Bool, true, false, if◌then◌else◌, List, [], ◌∷◌, length, map, replicate, take, refl, sym, ap, subst, ◌∙◌, ⊎_elim, arith, Option, Some, None, Ok, Err}
use Rattle.std.specs.List.{zip}
use Rattle.ken_disk.specs.Fates.{Fate}
use Rattle.ken_disk.specs.Story.{Story, IsImage}
use Rattle.ken_disk.proofs.Images.{image_at_rest}
use Rattle.ken_disk.proofs.Since.{now_too}
use Rattle.ken_model.specs.Game.{Game}
use Rattle.ken_model.specs.Limits.{IsWithinLimits}
use Rattle.ken_model.specs.Reading.{read_value}
use Rattle.ken_net.specs.Puts.{Put}
use Rattle.ken_record.specs.declared.base.Base.{Base}
use Rattle.ken_record.specs.declared.header.Header.{Header}
use Rattle.ken_log.specs.declared.faults.SealFault.TheVariants as seals
use Rattle.ken_log.specs.Formats.{Replaces, next_header}
use Rattle.ken_log.specs.Mounts.{mount_of}
use Rattle.ken_log.specs.Mounts as mounts
use Rattle.ken_cover.specs.declared.layers.Change.{Change}
use Rattle.ken_cover.specs.declared.layers.Layer.{Layer}
use Rattle.ken_cover.specs.Covers.{Covers, IsPossible}
use Rattle.ken_cover.specs.Sides.{TurnPages, base_changes, recounted}
use Rattle.ken_cover.proofs.Keeps.{turnover_keeps_coverage}
use Rattle.ken_core.specs.Calls.{Doubt, turnover}
use Rattle.ken_core.specs.Enabled.{MayTurn}
use Rattle.ken_core.specs.Nodes.{Node, heap_pages}
use Rattle.ken_core.specs.Packets.{Packet}
use Rattle.ken_core.specs.Steps.{recovered_node}
use Rattle.ken_store.specs.declared.faults.StoreFault.TheVariants as store
use Rattle.ken_store.specs.declared.numbers.Numbers.{Numbers}
use Rattle.ken_store.specs.declared.owner.Owner.{Owner}
use Rattle.ken_store.specs.declared.turning.TurnSide.{TurnSide}
use Rattle.ken_store.specs.Apart.{disks_apart}
use Rattle.ken_store.specs.Bases.{base_numbers, base_stands}
use Rattle.ken_store.specs.Logs.{front_of, log_on}
use Rattle.ken_store.specs.Recovered.{numbers_from, numbers_of, state_of}
use Rattle.ken_store.specs.Turning.{PassesOver, changed_in, live_layers, IsPassed}
use Rattle.ken_store.specs.Turnovers.{changes_kept, page_in}
use Rattle.ken_store.proofs.Creating.{follows_at}
use Rattle.ken_store.proofs.Sealing.{told_before}
use Rattle.ken_store.proofs.Turned.{next_numbers, turned_state}
use Rattle.ken_ship.specs.declared.worker.SendWorker.{SendWorker}
use Rattle.ken_ship.specs.Laws.{IsStateOf}
use Rattle.ken_work.specs.declared.patcher.PatchWorker.{PatchWorker}
use Rattle.ken_node.specs.declared.stage.Stage.TheVariants.{Created}
use Rattle.ken_work.specs.declared.worker.TurnWorker.{TurnWorker}
use Rattle.ken_work.specs.Capped.{base_in}
use Rattle.ken_whole.specs.New.{owner_of}
use Rattle.ken_node.specs.Down.{AreTold, IsDown, IsSound, MountedLog, TellsNode}
use Rattle.ken_node.specs.DownLaws.{TurnoverGoesDown}
use Rattle.ken_work.specs.Sealing.{RenewsBy, TurnsOver, is_full}
use Rattle.ken_whole.specs.TurnLaws.{told_of}
use Rattle.ken_whole.specs.Whole.{IsWhole}
use Rattle.ken_node.proofs.GoesDown.{FoundLog, LeavesLogs, comes, finds-current, finds-other, found-over, is-down, leaves-by, log-of, owner-is, possible-now}
use Rattle.ken_whole.proofs.Paced.{paced-next}
use Rattle.ken_whole.proofs.PatchesWhole.{covers-node}
use Rattle.ken_whole.proofs.TurnoversWhole.{joined-side, of-run-side, raised-long, sent-turned, state-turned, turned}
use Rattle.ken_store.proofs.Mounted.{front_none, front_whole}

-- the pages of a base, each counted as changed by the base's last turn
recount-kept : (turn : ℕ) (cs : List Change) → map (λ (c : Change). record c { turn = turn }) cs ≡ map changed_in (zip (replicate (length (map page_in cs)) turn) (map page_in cs))
recount-kept turn [] = refl
recount-kept turn (c ∷ cs) = ap (λ (l : List Change). record { turn = turn; page = c.page } ∷ l) (recount-kept turn cs)

-- the numbers that a base starts with, where it stands
start-is : (o : Owner) (place : ℕ) (stands : Bool) (x n : Numbers) → numbers_from o place (if stands then Some x else None) [] ≡ Ok n → x ≡ n
start-is o place true x n is = cc is
start-is o place false x n is = absurd (let none : ⊥ = cc is in none)

module _ {D : Type 0} (told : D → Option Story) (size : D → ℕ) (g : Game) (v : ℕ) (n : Node) (t : TurnWorker D) (p : PatchWorker D) (s : SendWorker) (whole : IsWhole told size g v n t p s) (may : MayTurn g n (told_of g t)) where
  abbrev base : Base
  base = base_in t

  abbrev head : Header
  head = next_header t.side.log base

  abbrev landed : Node
  landed = turned told size g v n t t p s whole

  -- the log on the other disk
  abbrev log-then : MountedLog
  log-then = record { head = head; base = Some base; records = [] }

  numbers-then : numbers_of t.side.owner head (Some base) [] ≡ Ok t.side.numbers
  numbers-then = next_numbers told size t.side t.side whole.workers.working.side whole.workers.working.idle t.told.settled t.told.progress.acked t.told.progress.emitted

  turns-then : head.turns ≡ length n.turning.turns
  turns-then =
      let start : base_numbers head base ≡ t.side.numbers = start-is t.side.owner (32 + head.base_len) (base_stands t.side.owner head base) (base_numbers head base) t.side.numbers numbers-then in
      ap (λ (x : Numbers). x.turns) start ∙ whole.workers.turns.counted.turns

  covers-now : Covers (heap_pages g) true n.turning.pages n.patching
  covers-now = covers-node told size g v n t p whole.workers.of_run.size whole.pages

  sound-then : IsSound g v landed
  sound-then = record {
    up = whole.workers.sends.due.up;
    own = whole.workers.sends.due.own;
    turns = whole.workers.sends.due.turns;
    covers = turnover_keeps_coverage (heap_pages g) true n.turning.pages n.patching t.told.settled (length n.turning.turns) may.clean covers-now;
    value = t.side.objects.value;
    reads = ap (λ (x : TurnPages). read_value x.heap) whole.pages.turning ∙ whole.workers.turns.reads;
    comes = comes told size g v n t p s whole.workers whole.pages.turning;
  }

  live-then : map recounted landed.turning.pages.live ≡ live_layers head (Some base) (replicate (length base.pages) head.turns) []
  live-then =
      let count : heap_pages g ≡ t.side.owner.pages = let sized = whole.workers.of_run.size in omega (arith, sized) in
      let kept : base_changes (heap_pages g) t.told.settled n.turning.pages ≡ changes_kept t.side t.told.settled =
      ap (λ (k : ℕ). base_changes k t.told.settled n.turning.pages) count ∙ ap (base_changes t.side.owner.pages t.told.settled) whole.pages.turning in
      let again : List Change → ℕ → List Layer = λ (cs : List Change) (turn : ℕ). record { turn = turn; changes = map (λ (c : Change). record c { turn = turn }) cs } ∷ [] in
      ap (λ (cs : List Change). again cs (length n.turning.turns)) kept
      ∙ ap (again (changes_kept t.side t.told.settled)) (sym turns-then)
      ∙ ap (λ (cs : List Change). record { turn = head.turns; changes = cs } ∷ []) (recount-kept head.turns (changes_kept t.side t.told.settled))

  tells-then : is_full t.side ≡ true → TellsNode g v landed log-then
  tells-then full =
      let w = whole.workers in
      let node : t.side.owner.node ≡ v = w.working.node ∙ w.of_run.node in
      let state : IsStateOf g v (recovered_node landed) (state_of t.side.owner.node t.side.numbers (Some base) []) =
      subst (IsStateOf g v (recovered_node landed)) (sym (turned_state t.side t.told.settled t.told.progress.acked t.told.progress.emitted)) (state-turned told size g v n t t p s whole) in
      record {
        numbers = t.side.numbers;
        numbers_are = ap (λ (o : Owner). numbers_of o head (Some base) []) (sym (owner-is told size g v n t p s w whole.pages.turning)) ∙ numbers-then;
        counted = w.turns.counted;
        live = live-then;
        state = subst (λ (k : ℕ). IsStateOf g v (recovered_node landed) (state_of k t.side.numbers (Some base) [])) node state;
        sent = sent-turned told size g v n t t p s whole;
        width = raised-long told size g v n.turning.retired (told_of g t).acked ∙ w.log.width;
        paced = paced-next t.side base w.log.paced full;
      }

  -- what a crash leaves while the turnover is in doubt: the log that was, or the new one on the other disk
  module _ (count : D → ℕ) (fate : D → Option Fate) (given : List Packet) (full : is_full t.side ≡ true) (new : TurnSide D) (over : TurnsOver told size count fate {T = Unit {0}} (Err store.Disk) t new) where
    abbrev doubt : Doubt
    doubt = turnover (told_of g t)

    abbrev ReplacesFrom : Story → Story → Type 0
    ReplacesFrom h x = Replaces {T = Unit {0}} (mounts.Whole head (Some base) []) (Err seals.Disk) h x

    either-left : (l o i : Story) → told new.log.disk ≡ Some l → told new.other ≡ Some o → told p.side.image.disk ≡ Some i → (log image other : List ℕ) → IsImage l.now log → IsImage i.now image → IsImage o.now other
        → FoundLog g v given n doubt (log_on new.which log other) image (log_on new.which other log)
    either-left l o i tl to ti log image other in_log in_image in_other =
        let w = whole.workers in
        let h = whole.pages in
        let side = w.working.side in
        let owner = owner-is told size g v n t p s w h.turning in
        let tl_old : told t.side.log.disk ≡ Some l = ap told (sym over.own) ∙ tl in
        let log_is : log ≡ l.now.seen = image_at_rest l.now (side.log.rests l tl_old) log in_log in
        let mounted : mount_of log ≡ mounts.Whole t.side.log.header t.side.log.base t.side.records.items = ap mount_of log_is ∙ side.mounts l tl_old in
        let start = told_before ReplacesFrom (told t.side.other) (told new.other) over.log.story o to in
        let before : Story = start.0 in
        let replaces : ReplacesFrom before o = follows_at ReplacesFrom before o (told t.side.other) (told new.other) over.log.story start.1 to in
        let passes : PassesOver (owner_of g v) t.side.log.header (front_of before.now.seen) = subst (λ (x : Owner). PassesOver x t.side.log.header (front_of before.now.seen)) owner (side.other l tl_old before start.1) in
        let possible : IsPossible n.patching (take g.size image) = possible-now told size g v n t p s whole i ti image in_image in
        let as_it_was : IsPassed (owner_of g v) t.side.log.header (front_of other) → FoundLog g v given n doubt (log_on new.which log other) image (log_on new.which other log) = λ passed.
        found-over told size g v n t p s w h.turning n.patching given doubt (log_on new.which log other) image (log_on new.which other log) covers-now (may, refl) tt
        (finds-current (owner_of g v) (log-of told size g v n t p s w h.turning) passes.owned new.which log other mounted passed) possible in
        ⊎_elim
        (λ was.
        let same : other ≡ before.now.seen = image_at_rest before.now (side.rests before start.1) other was in
        as_it_was (subst (λ (x : List ℕ). IsPassed (owner_of g v) t.side.log.header (front_of x)) (sym same) passes.passed))
        (λ rest. ⊎_elim
        (λ none. as_it_was (subst (IsPassed (owner_of g v) t.side.log.header) (sym (front_none other none)) tt))
        (λ it. record {
          landed = true;
          node = landed;
          holds = log-then;
          comes_out = (may, refl);
          last = tt;
          sound = sound-then;
          tells = tells-then full;
          finds = finds-other (owner_of g v) log-then passes.owned new.which log other it (subst (IsPassed (owner_of g v) head) (sym (front_whole log t.side.log.header t.side.log.base t.side.records.items mounted)) (omega arith, passes.owned));
          possible = possible;
        })
        rest)
        (replaces.any_moment.each other (now_too before o other replaces.any_moment.on in_other))

    pub turnover-leaves : LeavesLogs told g v given n doubt (disks_apart new p.side)
    turnover-leaves = leaves-by told g v given n doubt new.log.disk p.side.image.disk new.other new.which (λ l i o tl ti to a b c la ib oc. either-left l o i tl to ti a b c la ib oc)

  -- the log is only turned over where it is full
  pub turnover-down : (count : D → ℕ) (fate : D → Option Fate) (given : List Packet) (full : Bool) (t2 : TurnWorker D) → is_full t.side ≡ full → t2 ≡ record t { side = t2.side } → RenewsBy told size count fate {T = Unit {0}} full (Err store.Disk) t t2.side
      → IsWithinLimits g → v < g.nodes → AreTold told (disks_apart t2.side p.side) → IsDown told g v given n (turnover (told_of g t)) (Created t2 p s)
  turnover-down count fate given false t2 is rest renews limits known tell = absurd renews.0
  turnover-down count fate given true t2 is rest over limits known tell =
      let alone : t2 ≡ record t { side = t2.side; turns = t2.turns } = rest ∙ ap (λ (x : TurnWorker D). record t { side = t2.side; turns = x.turns }) (sym rest) in
      is-down told g v given n (turnover (told_of g t)) t2 p s limits known (of-run-side told size g v t t2 alone s over.unturned.owner whole.workers.of_run) (joined-side told size g v t t2 alone p s whole.workers.joined)
      (ap (λ (x : TurnWorker D). x.turns.items) rest ∙ whole.workers.turns.kept) tell (turnover-leaves count fate given is t2.side over)

module _ {D O N : Type 0} (told : D → Option Story) (size count : D → ℕ) (fate : D → Option Fate) (clocks words : O → Option (List ℕ)) (given_between : N → N → List (List ℕ) → Type 0) (put_between : N → N → List Put → Type 0) where
  pub turnover_goes_down : TurnoverGoesDown told size count fate clocks words given_between put_between
  turnover_goes_down g v given n mid t2 p s oracle oracle2 net net2 limits known doubts in_doubt tell =
      turnover-down told size g v n mid p s doubts.whole doubts.may count fate given (is_full mid.side) t2 refl in_doubt.rest in_doubt.renews limits known tell
