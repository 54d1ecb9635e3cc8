use Rattle.std.proofs.Common.{◌≡◌, Some, refl, sym, ap, subst, ◌∙◌}
use Rattle.ken_alloc.specs.Objects.{Heap, heap_in}
use Rattle.ken_model.specs.Handler.{Handler}
use Rattle.ken_model.specs.Layout.{StandsFor}
use Rattle.ken_store.specs.declared.numbers.Numbers.{Numbers}
use Rattle.ken_store.specs.declared.owner.Owner.{Owner}
use Rattle.ken_store.specs.Turning.{HasPages, KeepsLog, Turning, begun_on}
use Rattle.ken_work.specs.declared.worker.TurnWorker.{TurnWorker}
use Rattle.ken_work.specs.Capped.{HasHigh}
use Rattle.ken_work.specs.Workers.{Working}
use Rattle.ken_work.proofs.Begun.{joined, made_since, node_kept, state_undone, turning_on, undone_by_abort, working_undone}
use Rattle.ken_work.proofs.SameWorker.{same_side, same_worker}
use Rattle.ken_work.proofs.Sealable.{may_seal}
use Rattle.ken_work.proofs.worker.TurnWorker.make.Goals as goal

pub work-requires-clause-more : goal.work-requires-clause-more
work-requires-clause-more g c =
    let same = c.begin.ensures.same in
    let more = c.requires.more in
    record { turns = rw same.numbers more.turns; numbers = subst (λ (n : Numbers). HasHigh n → ⊥) (sym same.numbers) more.numbers; end = rw same.log more.end }

pub returns-in-Ok-clause-may : goal.returns-in-Ok-clause-may
returns-in-Ok-clause-may g c =
    let h : Handler = g.A.App.handler c.args.app.now in
    let w = c.args.self.now in
    let begun = c.in_ok-begin.ensures.begun in
    let made = made_since h c.args.message.now c.in-Ok.effects w.side c.begin.new.self c.work.new.self.side c.begin.ensures.same begun c.in-Ok.ensures.made in
    may_seal g.D.Disk.told g.D.Disk.size h w c.requires.working c.requires.keeps c.args.message.now c.requires.message c.requires.more w.most c.in-Ok.effects c.work.new.self.side made c.in-Ok.ensures.draws

pub returns-in-Err-clause-rest : goal.returns-in-Err-clause-rest
returns-in-Err-clause-rest g c =
    let w = c.args.self.now in
    same_side (record w { side = c.begin.new.self; few = _; most = _; room = _; given = _ }) c.work.new.self c.abort.new.self _ _ _ _ c.in-Err.ensures.rest ∙ same_worker (record w { side = c.abort.new.self }) _ _ _ _

pub returns-in-Err-clause-gave_up : goal.returns-in-Err-clause-gave_up
returns-in-Err-clause-gave_up g c =
    let h : Handler = g.A.App.handler c.args.app.now in
    let w = c.args.self.now in
    let working = c.requires.working in
    let begun_at : heap_in c.begin.new.self.objects ≡ begun_on (heap_in w.side.objects) = c.in_ok-begin.ensures.begun in
    let since = c.begin.ensures.same in
    let same : KeepsLog w.side c.work.new.self.side = joined w.side c.begin.new.self c.work.new.self.side since c.in-Err.ensures.same in
    let begun : c.work.new.self.side.objects.begun ≡ Some w.side.objects.bytes = c.in-Err.ensures.begun ∙ ap (λ (x : Heap). x.begun) begun_at in
    let stood : StandsFor w.side.objects.bytes w.side.objects.value = subst (λ (x : Heap). StandsFor x.bytes x.value) begun_at c.in-Err.ensures.stood in
    let is = undone_by_abort c.work.new.self.side c.abort.new.self c.abort.ensures.same c.abort.ensures.undone in
    let node = node_kept c.work.new.self.side c.abort.new.self c.abort.ensures.same in
    let pages : HasPages w.side.owner.pages (heap_in c.work.new.self.side.objects) = subst (λ (o : Owner). HasPages o.pages (heap_in c.work.new.self.side.objects)) since.owner c.in-Err.ensures.pages in
    let turning : Turning g.D.Disk.told g.D.Disk.size c.abort.new.self = c.abort.ensures.turning (turning_on g.D.Disk.told g.D.Disk.size w.side c.work.new.self.side working.side same pages) in
    let state = state_undone w.side c.work.new.self.side c.abort.new.self same working.idle begun stood is node in
    let now : Working g.D.Disk.told g.D.Disk.size h (record w { side = c.abort.new.self }) = working_undone w.side c.work.new.self.side c.abort.new.self same working.idle begun stood is node g.D.Disk.told g.D.Disk.size h w w.turns working turning refl in
    (state, subst (λ (x : TurnWorker _). Working g.D.Disk.told g.D.Disk.size h x) (sym (same_side (record w { side = c.begin.new.self; few = _; most = _; room = _; given = _ }) c.work.new.self c.abort.new.self _ _ _ _ c.in-Err.ensures.rest ∙ same_worker (record w { side = c.abort.new.self }) _ _ _ _)) now)
