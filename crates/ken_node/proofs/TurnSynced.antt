-- A call of the handler, and how often the disks of the logs were synced.
use Rattle.std.proofs.Common.{◌≡◌, ℕ, ◌+◌, ◌*◌, ◌<◌, ◌≤◌, inl, inr, ⊎_elim, List, [], ◌∷◌, ◌++◌, length, Bool, true, false, Option, Some, Result, Ok, Err, refl, sym, ap, subst, ◌∙◌, arith}
use Rattle.std.proofs.lemmas.Bool.{cases_lt}
use Rattle.std.proofs.lemmas.List.{length-append}
use Rattle.ken_disk.specs.Fates.{Fate}
use Rattle.ken_disk.specs.Story.{Story, IsImage}
use Rattle.ken_model.specs.Game.{Game}
use Rattle.ken_model.specs.Handler.{Handler}
use Rattle.ken_record.specs.declared.effects.Effects.{Effects}
use Rattle.ken_log.specs.declared.log.Log.{Log}
use Rattle.ken_net.specs.Puts.{Put}
use Rattle.ken_core.specs.Calls.{no_doubt, seal, turnover}
use Rattle.ken_core.specs.Nodes.{Node}
use Rattle.ken_store.specs.declared.numbers.Numbers.{Numbers}
use Rattle.ken_store.specs.declared.turning.TurnSide.{TurnSide}
use Rattle.ken_store.specs.Apart.{disks_apart}
use Rattle.ken_store.specs.Recovered.{numbers_of}
use Rattle.ken_store.specs.Work.{MayHaveChanged}
use Rattle.ken_ship.specs.declared.faults.NodeFault.{NodeFault}
use Rattle.ken_ship.specs.declared.faults.NodeFault.TheVariants.{Disk, Damaged, Outlet, Memory}
use Rattle.ken_ship.specs.declared.worker.SendWorker.{SendWorker}
use Rattle.ken_ship.specs.Laws.{packets_from}
use Rattle.ken_work.specs.declared.patcher.PatchWorker.{PatchWorker}
use Rattle.ken_node.specs.declared.stage.Stage.TheVariants.{Created}
use Rattle.ken_work.specs.declared.took.Took.{Took}
use Rattle.ken_work.specs.declared.took.Took.TheVariants.{Turn, Idle, Capped}
use Rattle.ken_work.specs.declared.worker.TurnWorker.{TurnWorker}
use Rattle.ken_work.specs.Calls.{IsTurnInDoubt, IsTurnoverInDoubt, TakesTurn, Drew}
use Rattle.ken_work.specs.Capped.{IsCapped}
use Rattle.ken_work.specs.Capped as caps
use Rattle.ken_whole.specs.New.{owner_of}
use Rattle.ken_node.specs.Down.{AreTold, Finds, IsDown, MountedLog}
use Rattle.ken_node.specs.DownLaws.{SealIsDown, TurnoverIsDown}
use Rattle.ken_work.specs.Meeting.{AreFronts}
use Rattle.ken_node.specs.NodeCalls.{UnlessMemory}
use Rattle.ken_work.specs.Sealing.{RenewsBy, coming_pages, is_full}
use Rattle.ken_node.specs.Synced.{HasSynced, LeavesSynced}
use Rattle.ken_whole.specs.TurnLaws.{DoubtsTurnover, told_of}
use Rattle.ken_whole.specs.Whole.{IsWhole}
use Rattle.ken_work.specs.Workers.{HearsNews, IsSameWorker}
use Rattle.ken_node.proofs.GoesDown.{owner-is, whole_goes_down}
use Rattle.ken_node.proofs.Synced.{WorkedAt, begun-work, calm-turns, doubted-work, has-synced, landed-changed, landed-work, leaves-by, leaves-synced, renewed-work, same-turns, seal-turns, sealed-work, turnover-turns, unsealed-work, worked-from, worked-less, worked-to}
use Rattle.ken_node.proofs.TurnDisks.{disk-failed, turn-told}
use Rattle.ken_node.proofs.TurnDown.{turn_goes_down}
use Rattle.ken_node.proofs.TurnoverDown.{turnover_goes_down}
use Rattle.ken_whole.proofs.TurnoversWhole.{may-turn}
use Rattle.ken_whole.proofs.TurnsWhole.{heard-whole, turn_keeps_whole}
use Rattle.ken_node.proofs.Up.{AreUp}

-- a turnover keeps the owner
renewed-owner : {D : Type 0} (told : D → Option Story) (size count : D → ℕ) (fate : D → Option Fate) (full : Bool) (w : TurnWorker D) (mid : TurnSide D) → RenewsBy told size count fate {T = Unit {0}} full (Ok tt) w mid → mid.owner ≡ w.side.owner
renewed-owner told size count fate true w mid is = is.turned.owner
renewed-owner told size count fate false w mid is = ap (λ (x : TurnSide _). x.owner) is.1

module _ {D O N : Type 0} (told : D → Option Story) (size count : D → ℕ) (fate : D → Option Fate) (clocks words : O → Option (List ℕ)) (given_between : N → N → List (List ℕ) → Type 0) (put_between : N → N → List Put → Type 0)
    (g : Game) (v : ℕ) (n : Node) (t mid t1 : TurnWorker D) (p : PatchWorker D) (s : SendWorker) (up : AreUp told size g v n t p s) (still : IsSameWorker t t1) (news : HearsNews t mid) (fronts : AreFronts t1 p s)
    (oracle oracle2 : O) (net net2 : N) (nones nones2 : ℕ) where
  abbrev drew : List ℕ → Type 0
  drew = Drew clocks words g.handler oracle oracle2

  abbrev gave : List (List ℕ) → Type 0
  gave = given_between net net2

  abbrev put : List Put → Type 0
  put = put_between net net2

  abbrev Takes : Result Took NodeFault → Type 0
  Takes result = TakesTurn told size count fate g.handler drew result mid t1 gave put nones nones2

  abbrev count-now : ℕ
  count-now = length n.turning.turns

  abbrev After : Type 0
  After = LeavesSynced told count g v (disks_apart t1.side p.side)

  heard-side : mid.side ≡ t.side
  heard-side = ap (λ (w : TurnWorker D). w.side) news.rest

  heard-turns : mid.turns.items ≡ t.turns.items
  heard-turns = ap (λ (w : TurnWorker D). w.turns.items) news.rest

  heard-tell : AreTold told (disks_apart mid.side p.side)
  heard-tell = subst (λ (x : TurnSide D). AreTold told (disks_apart x p.side)) (sym heard-side) up.tell

  -- the node may make a turn more
  few-turns : (IsCapped mid → ⊥) → length t.turns.items < 100000
  few-turns yet =
      let count_is = up.whole.workers.working.count in
      let most = mid.most in
      let turns : mid.side.numbers.turns ≡ t.side.numbers.turns = ap (λ (x : TurnSide D). x.numbers.turns) heard-side in
      ⊎_elim (λ (low : mid.side.numbers.turns < mid.cap). omega (arith, low, most, turns, count_is)) (λ (high : mid.cap ≤ mid.side.numbers.turns). absurd (yet (caps.turns high))) (cases_lt mid.side.numbers.turns mid.cap)

  kept-count : length t.turns.items ≡ count-now
  kept-count = ap length up.whole.workers.turns.kept

  module _ (before : LeavesSynced told count g v (disks_apart t.side p.side)) where
    -- what the disks have before
    worked : WorkedAt told count (3 + 2 * count-now) mid.side
    worked =
        let has = has-synced told count g v n t p s (whole_goes_down told size g v [] n t p s up.limits up.known up.whole up.tell) before in
        subst (WorkedAt told count (3 + 2 * count-now)) (sym heard-side) (worked-to told count (3 + 2 * count-now) t.side.which t.side.log.disk p.side.image.disk t.side.other has)

    -- so they have enough for so many turns
    enough : (turns has : ℕ) → 3 + 2 * turns ≤ has → WorkedAt told count has t1.side → HasSynced told count turns (disks_apart t1.side p.side)
    enough turns has less have =
        worked-from told count (3 + 2 * turns) t1.side.which t1.side.log.disk p.side.image.disk t1.side.other (worked-less told count (3 + 2 * turns) has t1.side.log.disk t1.side.other less have)

    -- ---- a call that no disk failed

    -- it leads to a node with so many turns
    after-ok : (after : Node) → IsWhole told size g v after t1 p s → AreTold told (disks_apart t1.side p.side) → (has : ℕ) → 3 + 2 * length t1.turns.items ≤ has → WorkedAt told count has t1.side → After
    after-ok after whole tell has less have =
        leaves-synced told count g v [] after no_doubt (Created t1 p s) (whole_goes_down told size g v [] after t1 p s up.limits up.known whole tell) (disks_apart t1.side p.side) refl
        (λ turns tells.
        let counted : turns ≡ length after.turning.turns = calm-turns g v [] after turns tells in
        let kept : length t1.turns.items ≡ length after.turning.turns = ap length whole.workers.turns.kept in
        enough turns has (omega (arith, less, counted, kept)) have)

    tell-after : (took : Took) → Takes (Ok took) → AreTold told (disks_apart t1.side p.side)
    tell-after took takes = turn-told told size count fate g.handler drew gave put nones nones2 p.side.image.disk took mid t1 takes heard-tell

    turn-synced : Takes (Ok Turn) → After
    turn-synced takes =
        let lead = turn_keeps_whole told size count fate clocks words given_between put_between g v n t mid t1 p s oracle oracle2 net net2 (Ok Turn) nones nones2 up.whole still news takes fronts in
        let e : Effects = takes.ran.effects in
        let turns : t1.turns.items ≡ t.turns.items ++ e ∷ [] = takes.ran.kept.turns ∙ ap (λ (es : List Effects). es ++ e ∷ []) (ap (λ (w : TurnWorker D). w.turns.items) takes.came.rest ∙ heard-turns) in
        let more : length t1.turns.items ≡ length t.turns.items + 1 = ap length turns ∙ length-append t.turns.items (e ∷ []) in
        let few = few-turns takes.came.open_yet in
        let now = kept-count in
        let renewed : WorkedAt told count (3 + 2 * count-now) takes.mid.side = renewed-work told count size fate (3 + 2 * count-now) (is_full mid.side) mid takes.mid.side takes.came.renews worked in
        let begun : WorkedAt told count (3 + 2 * count-now) takes.ran.begun = begun-work told count (3 + 2 * count-now) takes.mid.side takes.ran.begun takes.ran.made.same renewed in
        let sealed : WorkedAt told count (3 + 2 * count-now + 2) t1.side = sealed-work told count size fate (3 + 2 * count-now) e takes.ran.begun t1.side takes.ran.seals (omega (arith, few, now)) begun in
        after-ok lead.after lead.whole (tell-after Turn takes) (3 + 2 * count-now + 2) (omega (arith, more, now)) sealed

    idle-synced : Takes (Ok Idle) → After
    idle-synced takes =
        let lead = turn_keeps_whole told size count fate clocks words given_between put_between g v n t mid t1 p s oracle oracle2 net net2 (Ok Idle) nones nones2 up.whole still news takes fronts in
        let turns : length t1.turns.items ≡ length t.turns.items = ap length (ap (λ (w : TurnWorker D). w.turns.items) takes.came.rest ∙ heard-turns) in
        let now = kept-count in
        let renewed : WorkedAt told count (3 + 2 * count-now) t1.side = renewed-work told count size fate (3 + 2 * count-now) (is_full mid.side) mid t1.side takes.came.renews worked in
        after-ok lead.after lead.whole (tell-after Idle takes) (3 + 2 * count-now) (omega (arith, turns, now)) renewed

    capped-synced : Takes (Ok Capped) → After
    capped-synced takes =
        let lead = turn_keeps_whole told size count fate clocks words given_between put_between g v n t mid t1 p s oracle oracle2 net net2 (Ok Capped) nones nones2 up.whole still news takes fronts in
        let turns : length t1.turns.items ≡ length t.turns.items = ap length (ap (λ (w : TurnWorker D). w.turns.items) takes.same ∙ heard-turns) in
        let now = kept-count in
        let same : WorkedAt told count (3 + 2 * count-now) t1.side = subst (λ (w : TurnWorker D). WorkedAt told count (3 + 2 * count-now) w.side) (sym takes.same) worked in
        after-ok lead.after lead.whole (tell-after Capped takes) (3 + 2 * count-now) (omega (arith, turns, now)) same

    -- ---- one in which a disk failed

    -- no turn is in doubt
    after-turnover : (down : IsDown told g v [] n (turnover (told_of g mid)) (Created t1 p s)) → WorkedAt told count (3 + 2 * count-now) t1.side → After
    after-turnover down have =
        leaves-synced told count g v [] n (turnover (told_of g mid)) (Created t1 p s) down (disks_apart t1.side p.side) refl
        (λ turns tells. let counted : turns ≡ count-now = turnover-turns g v [] n (told_of g mid) turns tells in enough turns (3 + 2 * count-now) (omega (arith, counted)) have)

    tell-failed : Takes (Err Disk) → AreTold told (disks_apart t1.side p.side)
    tell-failed takes = (disk-failed told size count fate g.handler drew gave put nones nones2 p.side.image.disk mid t1 takes).0 heard-tell

    turnover-synced : IsTurnoverInDoubt told size count fate g.handler drew mid t1 gave put → AreTold told (disks_apart t1.side p.side) → After
    turnover-synced is tell =
        let heard : IsWhole told size g v n mid p s = heard-whole told size count fate clocks words given_between put_between g v n t mid t1 p s oracle oracle2 net net2 (Err Disk) nones nones2 up.whole news (inl is) fronts in
        let doubts : DoubtsTurnover told size g v n gave put mid p s = record { was_given = is.given; was_put = is.none; whole = heard; may = may-turn told size g v n mid p s heard } in
        after-turnover (turnover_goes_down told size count fate clocks words given_between put_between g v [] n mid t1 p s oracle oracle2 net net2 up.limits up.known doubts is tell)
        (doubted-work told count size fate (3 + 2 * count-now) (is_full mid.side) mid t1.side is.renews worked)

    module _ (is : IsTurnInDoubt told size count fate g.handler drew mid t1 gave put nones nones2) where
      abbrev begun : TurnSide D
      begun = is.doubt.begun

      begun-worked : WorkedAt told count (3 + 2 * count-now) begun
      begun-worked =
          begun-work told count (3 + 2 * count-now) is.mid.side begun is.doubt.made.same (renewed-work told count size fate (3 + 2 * count-now) (is_full mid.side) mid is.mid.side is.came.renews worked)

      same-count : length is.mid.turns.items ≡ count-now
      same-count = ap length (ap (λ (w : TurnWorker D). w.turns.items) is.came.rest ∙ heard-turns) ∙ kept-count

      log-same : begun.log ≡ is.mid.side.log
      log-same = is.doubt.made.same.log

      other-same : t1.side.other ≡ is.mid.side.other
      other-same = is.doubt.seals.others.other ∙ is.doubt.made.same.other

      owner-same : is.mid.side.owner ≡ owner_of g v
      owner-same =
          renewed-owner told size count fate (is_full mid.side) mid is.mid.side is.came.renews
          ∙ ap (λ (x : TurnSide D). x.owner) heard-side
          ∙ owner-is told size g v n t p s up.whole.workers up.whole.pages.turning

      -- where one turn more is found, the log's disk may have changed
      changed : (k : MountedLog) (m : Numbers) → numbers_of (owner_of g v) k.head k.base k.records ≡ Ok m → m.turns ≡ count-now + 1 → (l x : Story) → told (disks_apart t1.side p.side).log ≡ Some l → told (disks_apart t1.side p.side).second ≡ Some x
          → (a b : List ℕ) → IsImage l.now a → IsImage x.now b → Finds (owner_of g v) a b k → MayHaveChanged told count begun.log.disk t1.side.log.disk
      changed k m numbers more =
          landed-changed told count (owner_of g v) k t1.side.which begun.log.disk t1.side.log.disk p.side.image.disk t1.side.other
          (λ h c th tc a b in_b finds same.
          let counted = same-turns told size (owner_of g v) is.mid.side is.came.working.side owner-same
          t1.side.which h c (ap (λ (x : Log D). told x.disk) (sym log-same) ∙ th) (ap told (sym other-same) ∙ tc) a b in_b same k finds m numbers in
          let kept = is.came.working.count in
          let now = same-count in
          omega (arith, counted, kept, now, more))

      seal-synced : AreTold told (disks_apart t1.side p.side) → After
      seal-synced tell =
          ⊎_elim
          (λ (turnover : TurnoverIsDown told size g v n gave put mid t1 p s). after-turnover (turnover.down []) (unsealed-work told count size fate (3 + 2 * count-now) is.doubt.effects begun t1.side is.doubt.seals begun-worked))
          (λ (turn : SealIsDown told size count fate drew g v n gave put t t1 p s).
          let lead = turn.doubts.before in
          let from = turn.doubts.message.from in
          let draws = turn.doubts.doubt.effects.draws in
          let pages = coming_pages turn.doubts.doubt.begun in
          let given = packets_from g.nodes lead.given in
          let few = few-turns is.came.open_yet in
          let now = kept-count in
          let kept : length turn.doubts.mid.turns.items ≡ length lead.after.turning.turns = ap length lead.whole.workers.turns.kept in
          let quiet : length t1.turns.items ≡ length turn.doubts.mid.turns.items = ap length turn.doubts.doubt.quiet.turns in
          let own : length t1.turns.items ≡ length is.mid.turns.items = ap length is.doubt.quiet.turns in
          let mine = same-count in
          let here : length lead.after.turning.turns ≡ count-now = omega (arith, kept, quiet, own, mine) in
          leaves-by told count g v given lead.after (seal from draws pages) (Created t1 p s) turn.down (disks_apart t1.side p.side) refl
          (λ l x tl tx a b in_a in_b k finds m numbers tells.
          ⊎_elim
          (λ (none : m.turns ≡ length lead.after.turning.turns).
          enough m.turns (3 + 2 * count-now) (omega (arith, none, here)) (unsealed-work told count size fate (3 + 2 * count-now) is.doubt.effects begun t1.side is.doubt.seals begun-worked))
          (λ (one : m.turns ≡ length lead.after.turning.turns + 1).
          let more : m.turns ≡ count-now + 1 = omega (arith, one, here) in
          enough m.turns (3 + 2 * count-now + 2) (omega (arith, more))
          (landed-work told count size fate (3 + 2 * count-now) is.doubt.effects begun t1.side is.doubt.seals (omega (arith, few, now)) (changed k m numbers more l x tl tx a b in_a in_b finds) begun-worked))
          (seal-turns g v given lead.after from draws pages m.turns tells)))
          (turn_goes_down told size count fate clocks words given_between put_between g v n t mid t1 p s oracle oracle2 net net2 nones nones2 up.limits up.known up.whole still news (inr is) fronts tell)

    -- ---- by the answer

    pub taken-synced : (result : Result Took NodeFault) → Takes result → UnlessMemory result After
    taken-synced (Ok Turn) takes = turn-synced takes
    taken-synced (Ok Idle) takes = idle-synced takes
    taken-synced (Ok Capped) takes = capped-synced takes
    taken-synced (Err Disk) takes =
        ⊎_elim
        (λ (turnover : IsTurnoverInDoubt told size count fate g.handler drew mid t1 gave put). turnover-synced turnover (tell-failed takes))
        (λ (turn : IsTurnInDoubt told size count fate g.handler drew mid t1 gave put nones nones2). seal-synced turn (tell-failed takes))
        takes
    taken-synced (Err Memory) takes = tt
    taken-synced (Err Outlet) takes = absurd takes
    taken-synced (Err (Damaged disk place)) takes = absurd takes

    -- the same, where the handler that was called is the run's
    pub taken-synced_by : (h : Handler) → h ≡ g.handler → (result : Result Took NodeFault) → TakesTurn told size count fate h (Drew clocks words h oracle oracle2) result mid t1 gave put nones nones2 → UnlessMemory result After
    taken-synced_by h of_run result takes =
        taken-synced result (subst (λ (k : Handler). TakesTurn told size count fate k (Drew clocks words k oracle oracle2) result mid t1 gave put nones nones2) of_run takes)
