-- A node whose seal is in doubt may be restarted.
use Rattle.std.proofs.Common.{◌≡◌, ℕ, ◌+◌, ◌*◌, ◌<◌, List, [], ◌∷◌, ◌++◌, length, map, replicate, take, true, Contains, refl, sym, ap, subst, ◌∙◌, ⊎_elim, arith, Option, Some, Ok, Err}
use Rattle.ken_disk.specs.Fates.{Fate}
use Rattle.ken_disk.specs.Story.{Story, IsImage}
use Rattle.ken_disk.proofs.Images.{image_at_rest}
use Rattle.ken_disk.proofs.Since.{now_too}
use Rattle.ken_model.specs.declared.messages.Message.{Message}
use Rattle.ken_model.specs.Game.{Game}
use Rattle.ken_model.specs.Limits.{IsWithinLimits}
use Rattle.ken_model.specs.Network.{Turn}
use Rattle.ken_net.specs.Puts.{Put}
use Rattle.ken_record.specs.declared.effects.Effects.{Effects}
use Rattle.ken_record.specs.declared.record.Record.{Record}
use Rattle.ken_log.specs.Mounts.{mount_of, with_record}
use Rattle.ken_log.specs.Seals.{Changes}
use Rattle.ken_log.specs.declared.faults.SealFault.TheVariants as seals
use Rattle.ken_cover.specs.declared.layers.Layer.{Layer}
use Rattle.ken_cover.specs.Covers.{Covers, IsPossible}
use Rattle.ken_cover.specs.Overlay.{AreWithin}
use Rattle.ken_cover.specs.Sides.{TurnPages, changes_at, recounted}
use Rattle.ken_cover.proofs.Keeps.{seal_keeps_coverage}
use Rattle.ken_core.specs.Calls.{Doubt, seal}
use Rattle.ken_core.specs.Enabled.{MaySeal}
use Rattle.ken_core.specs.Nodes.{Node, heap_pages}
use Rattle.ken_core.specs.Packets.{Packet}
use Rattle.ken_store.specs.declared.faults.StoreFault.TheVariants as store
use Rattle.ken_store.specs.declared.numbers.Numbers.{Numbers}
use Rattle.ken_store.specs.declared.owner.Owner.{Owner}
use Rattle.ken_store.specs.declared.turning.TurnSide.{TurnSide}
use Rattle.ken_store.specs.Apart.{disks_apart}
use Rattle.ken_store.specs.Kept.{base_pages}
use Rattle.ken_store.specs.Logs.{front_of, log_on}
use Rattle.ken_store.specs.Numbers.{after_record}
use Rattle.ken_store.specs.Recovered.{numbers_of}
use Rattle.ken_store.specs.Turning.{MaySeal as MaySealOn, PassesOver, live_layers, turn_pages, IsPassed}
use Rattle.ken_store.proofs.Creating.{follows_at}
use Rattle.ken_store.proofs.SealMeanwhile.{changed_within}
use Rattle.ken_store.proofs.Sealing.{live_more, numbers_more, told_before}
use Rattle.ken_ship.specs.declared.worker.SendWorker.{SendWorker}
use Rattle.ken_ship.specs.Laws.{packets_from}
use Rattle.ken_work.specs.declared.patcher.PatchWorker.{PatchWorker}
use Rattle.ken_node.specs.declared.stage.Stage.TheVariants.{Created}
use Rattle.ken_work.specs.declared.worker.TurnWorker.{TurnWorker}
use Rattle.ken_work.specs.Calls.{IsQuiet}
use Rattle.ken_whole.specs.New.{owner_of}
use Rattle.ken_node.specs.Down.{AreTold, IsDown, IsSound, MountedLog, TellsNode}
use Rattle.ken_node.specs.DownLaws.{SealGoesDown}
use Rattle.ken_work.specs.Making.{IsMade}
use Rattle.ken_work.specs.Sealing.{SealsTurn, coming_pages, coming_turn}
use Rattle.ken_whole.specs.TurnLaws.{turn_made}
use Rattle.ken_whole.specs.Whole.{IsWhole}
use Rattle.ken_app.specs.Limits.{IsCall, next}
use Rattle.ken_node.proofs.GoesDown.{FoundLog, LeavesLogs, comes, finds-current, found-over, is-down, leaves-by, live-recounted, log-of, owner-is, possible-now}
use Rattle.ken_whole.proofs.Paced.{paced-more}
use Rattle.ken_whole.proofs.PatchesWhole.{covers-node}
use Rattle.ken_whole.proofs.SealsWhole.{after, begun-heap, comes-of, coming, counted-after, handler-made, number-is, own-after, sent-after, stands-after, state-after, turn, turns-are}
use Rattle.ken_whole.proofs.ShortMails.{came-known, came-short}
use Rattle.ken_whole.proofs.TurnoversWhole.{joined-side, of-run-side}

module _ {D : Type 0} (told : D → Option Story) (size : D → ℕ) (g : Game) (v : ℕ) (n : Node) (t : TurnWorker D) (p : PatchWorker D) (s : SendWorker) (whole : IsWhole told size g v n t p s) (m : Message) (e : Effects) (begun : TurnSide D) (made : IsMade g.handler m e t.side begun)
    (may : MaySealOn begun e) where
  abbrev landed : Node
  landed = after told size g v n t p s whole m e begun made may

  abbrev its : Record
  its = coming told size g v n t p s whole m e begun made may

  abbrev counted : ℕ
  counted = length n.turning.turns + 1

  -- the log with the turn's record
  abbrev log-then : MountedLog
  log-then = record { head = t.side.log.header; base = t.side.log.base; records = t.side.records.items ++ its ∷ [] }

  covers-now : Covers (heap_pages g) true n.turning.pages n.patching
  covers-now = covers-node told size g v n t p whole.workers.of_run.size whole.pages

  covers-then : Covers (heap_pages g) true landed.turning.pages landed.patching
  covers-then =
      let changed = (comes-of told size g v n t p s whole m e begun made may).changed in
      let long : length (turn_pages begun).heap ≡ 256 * heap_pages g = ap length (begun-heap told size g v n t p s whole m e begun made may) ∙ covers-now.heap_size in
      let within : AreWithin (heap_pages g) (coming_pages begun) = changed_within (heap_pages g) (turn_pages begun).heap (coming_pages begun) long changed.each in
      seal_keeps_coverage (heap_pages g) true n.turning.pages n.patching counted (coming_pages begun) within covers-now

  sound-then : IsCall v g.nodes m e.draws → IsSound g v landed
  sound-then call = record {
    up = whole.workers.sends.due.up;
    own = whole.workers.sends.due.own ++ turn told size g v n t p s whole m e begun made may ∷ [];
    turns = own-after told size g v n t p s whole m e begun made may;
    covers = covers-then;
    value = made.effect.value;
    reads = stands-after told size g v n t p s whole m e begun made may;
    comes = next (comes told size g v n t p s whole.workers whole.pages.turning) call (handler-made told size g v n t p s whole m e begun made may);
  }

  -- its live records, each page of which counts as changed by the last turn of its layer
  live-then : map recounted landed.turning.pages.live ≡ live_layers t.side.log.header t.side.log.base (replicate (length (base_pages t.side.log.base)) t.side.log.header.turns) (t.side.records.items ++ its ∷ [])
  live-then =
      let head = t.side.log.header in
      let base = t.side.log.base in
      let turns : List ℕ = t.side.base_turns.items in
      let number : coming_turn begun ≡ counted = number-is told size g v n t p s whole m e begun made may in
      let last : List Layer → List Layer = λ (ls : List Layer). ls ++ record { turn = counted; changes = changes_at counted (coming_pages begun) } ∷ [] in
      let live : landed.turning.pages.live ≡ live_layers head base turns (t.side.records.items ++ its ∷ []) =
      ap (λ (x : TurnPages). last x.live) whole.pages.turning
      ∙ ap (λ (k : ℕ). live_layers head base turns t.side.records.items ++ record { turn = k; changes = changes_at k (coming_pages begun) } ∷ []) (sym number)
      ∙ sym (live_more head base turns t.side.records.items its) in
      ap (map recounted) live ∙ live-recounted head base turns (t.side.records.items ++ its ∷ []) whole.workers.working.side.turns

  tells-then : length t.side.records.items < 32 → TellsNode g v landed log-then
  tells-then room =
      let w = whole.workers in
      let owner : begun.owner ≡ owner_of g v = made.same.owner ∙ owner-is told size g v n t p s w whole.pages.turning in
      let before : numbers_of begun.owner t.side.log.header t.side.log.base t.side.records.items ≡ Ok begun.numbers =
      ap (λ (o : Owner). numbers_of o t.side.log.header t.side.log.base t.side.records.items) made.same.owner ∙ w.working.side.numbers ∙ ap (λ (k : Numbers). Ok k) (sym made.same.numbers) in
      let follow = (comes-of told size g v n t p s whole m e begun made may).follow in
      record {
        numbers = after_record begun.numbers its;
        numbers_are = ap (λ (o : Owner). numbers_of o t.side.log.header t.side.log.base (t.side.records.items ++ its ∷ [])) (sym owner) ∙ numbers_more begun.owner begun.numbers its follow t.side.log.header t.side.log.base t.side.records.items before;
        counted = counted-after told size g v n t p s whole m e begun made may;
        live = live-then;
        state = state-after told size g v n t p s whole m e begun made may;
        sent = sent-after told size g v n t p s whole m e begun made may;
        width = w.log.width;
        paced = paced-more t.side.log.header t.side.records.items its w.log.paced room;
      }

  -- what a crash leaves while the seal is in doubt: the log without the record or with it
  module _ (count : D → ℕ) (fate : D → Option Fate) (given : List Packet) (room : length t.side.records.items < 32) (call : IsCall v g.nodes m e.draws) (sealable : MaySeal g (Contains given) v n m.from e.draws (coming_pages begun) (turn_made m e made.effect)) (new : TurnSide D)
      (sealing : SealsTurn told size count fate {T = Unit {0}} (Err store.Disk) e begun new) where
    abbrev doubt : Doubt
    doubt = seal m.from e.draws (coming_pages begun)

    owner-new : new.owner ≡ t.side.owner
    owner-new = sealing.others.owner ∙ made.same.owner

    other-new : new.other ≡ t.side.other
    other-new = sealing.others.other ∙ made.same.other

    abbrev ChangesFrom : Story → Story → Type 0
    ChangesFrom h x = Changes {T = Unit {0}} (mount_of h.now.seen) (with_record its (mount_of h.now.seen)) 2 (Err seals.Disk) h x

    -- what is left of the log, with what lies beside it
    either-left : (l o i : Story) → told new.log.disk ≡ Some l → told new.other ≡ Some o → told p.side.image.disk ≡ Some i → (log image other : List ℕ) → IsImage l.now log → IsImage i.now image → IsImage o.now other
        → FoundLog g v given n doubt (log_on new.which log other) image (log_on new.which other log)
    either-left l o i tl to ti log image other in_log in_image in_other =
        let w = whole.workers in
        let h = whole.pages in
        let side = w.working.side in
        let start = told_before ChangesFrom (told begun.log.disk) (told new.log.disk) sealing.log.story l tl in
        let before : told t.side.log.disk ≡ Some start.0 = ap (λ x. told x.disk) (sym made.same.log) ∙ start.1 in
        let changes : ChangesFrom start.0 l = follows_at ChangesFrom start.0 l (told begun.log.disk) (told new.log.disk) sealing.log.story start.1 tl in
        let to_old : told t.side.other ≡ Some o = ap told (sym other-new) ∙ to in
        let other_is : other ≡ o.now.seen = image_at_rest o.now (side.rests o to_old) other in_other in
        let passes : PassesOver (owner_of g v) t.side.log.header (front_of o.now.seen) = subst (λ (x : Owner). PassesOver x t.side.log.header (front_of o.now.seen)) (owner-is told size g v n t p s w h.turning) (side.other start.0 before o to_old) in
        let older : IsPassed (owner_of g v) t.side.log.header (front_of other) =
        subst (λ (x : List ℕ). IsPassed (owner_of g v) t.side.log.header (front_of x)) (sym other_is) passes.passed in
        let possible : IsPossible n.patching (take g.size image) = possible-now told size g v n t p s whole i ti image in_image in
        let mounted = side.mounts start.0 before in
        ⊎_elim
        (λ same. found-over told size g v n t p s w h.turning n.patching given doubt (log_on new.which log other) image (log_on new.which other log) covers-now (turn_made m e made.effect, (sealable, refl)) tt
        (finds-current (owner_of g v) (log-of told size g v n t p s w h.turning) passes.owned new.which log other (same ∙ mounted) older) possible)
        (λ with_it. record {
          landed = true;
          node = landed;
          holds = log-then;
          comes_out = (turn_made m e made.effect, (sealable, refl));
          last = (t.side.records.items, (its, (refl, turns-are told size g v n t p s whole m e begun made may)));
          sound = sound-then call;
          tells = tells-then room;
          finds = finds-current (owner_of g v) log-then passes.owned new.which log other (with_it ∙ ap (with_record its) mounted) older;
          possible = record { size = possible.size; same = possible.same };
        })
        (changes.any_moment.each log (now_too start.0 l log changes.any_moment.on in_log))

    pub seal-leaves : LeavesLogs told g v given n doubt (disks_apart new p.side)
    seal-leaves = leaves-by told g v given n doubt new.log.disk p.side.image.disk new.other new.which (λ l i o tl ti to a b c la ib oc. either-left l o i tl to ti a b c la ib oc)

    module _ (t2 : TurnWorker D) (side : t2.side ≡ new) (quiet : IsQuiet t t2) where
      pub seal-down : IsWithinLimits g → v < g.nodes → AreTold told (disks_apart t2.side p.side) → IsDown told g v given n doubt (Created t2 p s)
      seal-down limits known tell =
          is-down told g v given n doubt t2 p s limits known (of-run-side told size g v t t2 quiet.rest s (ap (λ (x : TurnSide D). x.owner) side ∙ owner-new) whole.workers.of_run) (joined-side told size g v t t2 quiet.rest p s whole.workers.joined)
          (quiet.turns ∙ whole.workers.turns.kept) tell (subst (λ (x : TurnSide D). LeavesLogs told g v given n doubt (disks_apart x p.side)) (sym side) seal-leaves)

module _ {D O N : Type 0} (told : D → Option Story) (size count : D → ℕ) (fate : D → Option Fate) (clocks words : O → Option (List ℕ)) (given_between : N → N → List (List ℕ) → Type 0) (put_between : N → N → List Put → Type 0) where
  pub seal_goes_down : SealGoesDown told size count fate clocks words given_between put_between
  seal_goes_down g v n t t2 p s oracle oracle2 net net2 limits known doubts tell =
      let mid : TurnWorker D = doubts.mid in
      let node : Node = doubts.before.after in
      let whole = doubts.before.whole in
      let m : Message = doubts.message in
      let d = doubts.doubt in
      let given : List Packet = packets_from g.nodes doubts.before.given in
      let may = subst (λ (x : Turn). MaySeal g (Contains given) v node m.from d.effects.draws (coming_pages d.begun) x) doubts.turn_is doubts.may in
      let call : IsCall v g.nodes m d.effects.draws = record { placed = record { some_node = omega (arith, known); few_nodes = limits.few_nodes; known = known }; sender = came-known g doubts.before.given v m may.came; short = came-short g doubts.before.given v m limits may.came; words = d.made.words } in
      seal-down told size g v node mid p s whole m d.effects d.begun d.made d.seals.may count fate given doubts.room call may t2.side d.seals t2 refl d.quiet limits known tell
