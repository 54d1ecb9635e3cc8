use Rattle.std.proofs.Common.{◌≡◌, ◌+◌, ◌++◌, ◌∷◌, [], max, slice_set, Err, refl, sym, ap, subst, ◌∙◌}
use Rattle.std.proofs.lemmas.Result.{err_from_is_err_and}
use Rattle.ken_alloc.specs.Objects.{heap_in}
use Rattle.ken_order.specs.Consumed.{Consumed, place}
use Rattle.ken_store.specs.declared.turning.TurnSide.{TurnSide}
use Rattle.ken_store.specs.Ahead.{frame_pages}
use Rattle.ken_store.specs.Turning.{KeepsLog, Turning, undone}
use Rattle.ken_work.specs.declared.worker.TurnWorker.{TurnWorker}
use Rattle.ken_work.proofs.Begun.{node_kept, undone_by_abort}
use Rattle.ken_work.proofs.SameWorker.{handed_rest, kept_rest, quiet_side}
use Rattle.ken_work.proofs.SealedTurns.{begun_turning, fails_at, free_at, pushed_at, seal_fails, seal_succeeds, succeeds_at, taken_back}
use Rattle.ken_work.proofs.worker.TurnWorker.seal.Goals as goal

pub seal-requires-clause-turning : goal.seal-requires-clause-turning
seal-requires-clause-turning g c =
    let made = c.requires.made in
    subst (Turning g.D.Disk.told g.D.Disk.size) (sym c.make_room.ensures.rest.1) (begun_turning g.D.Disk.told g.D.Disk.size g.D.Disk.faults g.D.Disk.fate made.0 made.1 c.args.self.now c.args.message.now c.args.effects made.2 made.3)

pub returns-in_default-clause-seals : goal.returns-in_default-clause-seals
returns-in_default-clause-seals g c = λ h before working made.
    let w = c.args.self.now in
    let mid = c.make_room.new.self in
    let side = c.abort.new.self in
    let at : mid.side ≡ w.side = c.make_room.ensures.rest.1 in
    let same : KeepsLog w.side side = subst (λ (x : TurnSide _). KeepsLog x side) at c.abort.ensures.same in
    let back : heap_in side.objects ≡ undone (heap_in w.side.objects) = subst (λ (x : TurnSide _). heap_in side.objects ≡ undone (heap_in x.objects)) at c.abort.ensures.undone in
    let turning : Turning g.D.Disk.told g.D.Disk.size side = c.abort.ensures.turning (subst (Turning g.D.Disk.told g.D.Disk.size) (sym at) (begun_turning g.D.Disk.told g.D.Disk.size g.D.Disk.faults g.D.Disk.fate h before w c.args.message.now c.args.effects working made)) in
    taken_back g.D.Disk.told g.D.Disk.size g.D.Disk.faults g.D.Disk.fate h before w c.args.message.now c.args.effects working made
    _ (quiet_side w mid side _ _ _ _ c.make_room.ensures.rest.0) c.make_room.ensures.rest.0.turns
    (undone_by_abort w.side side same back) (node_kept w.side side same) turning

pub returns-in_err-turn-clause-seals : goal.returns-in_err-turn-clause-seals
returns-in_err-turn-clause-seals g c = λ h before working made.
    let w = c.args.self.now in
    let mid = c.make_room.new.self in
    let side = c.seal.new.self in
    let at : mid.side ≡ w.side = c.make_room.ensures.rest.1 in
    let e = c.in_err-turn.ensures in
    let p = err_from_is_err_and c.from_residual.result c.from_residual.ensures.1 in
    let answer : c.from_residual.result ≡ Err c.in_err-turn.field-0.0 = cc (p.1, p.2) in
    let fails = fails_at g.D.Disk.told g.D.Disk.size g.D.Disk.faults g.D.Disk.fate c.in_err-turn.field-0.0 c.args.effects mid.side w.side side at
    (record { undone = e.undone; in_doubt = e.in_doubt; goes_on = e.goes_on; spent = e.spent; log = e.log; others = e.others; sound = e.sound }) in
    rw answer
    (seal_fails g.D.Disk.told g.D.Disk.size g.D.Disk.faults g.D.Disk.fate h before w c.args.message.now c.args.effects working made
    _ (quiet_side w mid side _ _ _ _ c.make_room.ensures.rest.0) c.make_room.ensures.rest.0.turns
    c.in_err-turn.field-0.0 c.requires.may fails)

pub returns-clause-seals : goal.returns-clause-seals
returns-clause-seals g c = λ h before working made.
    let w = c.args.self.now in
    let mid = c.make_room.new.self in
    let sealed = c.seal.new.self in
    let kept = c.keep.new.self in
    let pages = c.push.new.self in
    let ring = c.push-2.new.self in
    let at : mid.side ≡ w.side = c.make_room.ensures.rest.1 in
    let e = c.in_ok-turn.ensures in
    let ordered : mid.order ≡ w.order = ap (λ (x : TurnWorker _). x.order) c.make_room.ensures.rest.0.rest in
    let side_is : kept.side ≡ sealed = ap (λ (x : TurnWorker _). x.side) c.keep.ensures.rest in
    let rest : kept ≡ record w { side = kept.side; order = kept.order; turns = kept.turns } = kept_rest w mid kept sealed _ _ _ _ c.make_room.ensures.rest.0 c.keep.ensures.rest in
    let pages_are : kept.pages ≡ w.pages = ap (λ (x : TurnWorker _). x.pages) rest in
    let ring_is : kept.sealed ≡ w.sealed = ap (λ (x : TurnWorker _). x.sealed) rest in
    let succeeds = succeeds_at g.D.Disk.told g.D.Disk.faults g.D.Disk.fate _ c.args.effects c.in_ok-turn.turn (frame_pages c.in_ok-turn.pages.items) mid.side w.side sealed kept.side at side_is
    (record { sealed = e.sealed; changed = e.changed; log = e.log; others = e.others }) in
    seal_succeeds g.D.Disk.told g.D.Disk.size g.D.Disk.faults g.D.Disk.fate h before w c.args.message.now c.args.effects working made
    _ c.requires.message (handed_rest w kept pages ring _ _ _ _ rest)
    (c.keep.ensures.turns ∙ ap (λ l. l ++ c.args.effects ∷ []) c.make_room.ensures.rest.0.turns)
    (c.keep.ensures.order ∙ ap (λ (x : Consumed). record { nodes = x.nodes; stamp = max x.stamp c.args.message.now.stamp + 1; consumed = slice_set x.consumed (place c.args.effects.from) c.args.effects.number }) ordered)
    _ c.in_ok-turn.turn (frame_pages c.in_ok-turn.pages.items) c.requires.may succeeds
    (subst (Turning g.D.Disk.told g.D.Disk.size) (sym side_is) e.turning)
    _ (pushed_at kept.pages w.pages pages _ pages_are c.push.ensures.pushed) refl
    c.in-Ok.handed (pushed_at kept.sealed w.sealed ring c.in-Ok.handed ring_is c.push-2.ensures.pushed) c.in-Ok.ensures.handed
    (free_at kept.pages w.pages pages pages_are c.push.ensures.free, free_at kept.sealed w.sealed ring ring_is c.push-2.ensures.free)
