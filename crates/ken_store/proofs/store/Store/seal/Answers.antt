use Rattle.std.proofs.Common.{◌≡◌, ◌∙◌, ◌+◌, List, ap, sym, subst, Err}
use Rattle.std.proofs.lemmas.Result.{err_from_is_err_and}
use Rattle.ken_record.specs.declared.page.Page.{Page}
use Rattle.ken_cover.specs.Overlay.{AreWithin}
use Rattle.ken_model.specs.Reading.{read_value}
use Rattle.ken_model.proofs.ReadBack.{read_some}
use Rattle.ken_alloc.specs.Objects.{heap_in}
use Rattle.ken_store.specs.declared.faults.StoreFault.TheVariants as faults
use Rattle.ken_store.specs.Standing.{IsStore}
use Rattle.ken_store.specs.declared.patching.Ahead.{Ahead}
use Rattle.ken_store.specs.Ahead.{frame_pages}
use Rattle.ken_store.specs.Patching.{Grows}
use Rattle.ken_store.specs.Turning.{coming_record, turn_pages}
use Rattle.ken_store.proofs.Sealing.{comes, unsealed}
use Rattle.ken_store.proofs.SealMeanwhile.{changed_within, patches_same, patching_same, seal_any_moment, seal_memory, sealed_size, sealed_stands, stands_undone, undone_pages}
use Rattle.ken_store.proofs.store.Store.seal.Goals as goal

pub returns-then-is_err-clause-stands : goal.returns-then-is_err-clause-stands
returns-then-is_err-clause-stands g c = λ i stands is.
    stands_undone g.D.Disk.told g.D.Disk.size c.args.self.now (record { turns = c.abort.new.self; patches = c.reserve.new.self }) i stands (record { turns = c.abort.ensures.turning c.requires.takes.store.turns; patches = (patches_same g.D.Disk.told g.D.Disk.size c.args.self.now.patches c.reserve.new.self c.reserve.ensures.image c.reserve.ensures.ahead c.reserve.ensures.known c.requires.takes.store.patches); count = ap (λ x. x.pages) c.reserve.ensures.image ∙ c.requires.takes.store.count ∙ ap (λ o. o.pages) (sym c.abort.ensures.same.owner); known = c.reserve.ensures.known ∙ c.requires.takes.store.known ∙ ap (λ n. n.turns) (sym c.abort.ensures.same.numbers) }) (undone_pages c.args.self.now.turns c.abort.new.self c.abort.ensures.same c.abort.ensures.undone) c.abort.ensures.same.owner c.abort.ensures.same.numbers c.reserve.ensures.image c.reserve.ensures.ahead

pub returns-then-is_err-clause-any_moment : goal.returns-then-is_err-clause-any_moment
returns-then-is_err-clause-any_moment g c = λ i v stands reads.
    let t = c.requires.takes.store.turns in
    let it = comes c.args.self.now.turns.owner c.args.self.now.turns.numbers (c.args.self.now.turns.numbers.turns + 1) c.args.effects.now c.args.self.now.turns.objects.bytes t.owner.most c.requires.fits c.requires.follows t.heap.bytes c.args.self.now.turns.objects.begun t.heap.before c.requires.begun in
    let within = (changed_within c.args.self.now.turns.owner.pages (turn_pages c.args.self.now.turns).heap (coming_record c.args.self.now.turns c.args.effects.now).pages (sealed_size c.args.self.now.turns.owner.pages (heap_in c.args.self.now.turns.objects) t.heap) it.changed.each) in
    seal_any_moment g.D.Disk.told g.D.Disk.size c.args.self.now i stands v reads c.args.effects.now it.follow within (record { turns = c.abort.new.self; patches = c.reserve.new.self }) c.abort.ensures.same.which c.abort.ensures.same.other c.reserve.ensures.image c.args.self.now.turns.objects.value (ap read_value it.laid ∙ read_some _ _ c.stands.ensures.now) _ _ (unsealed (Unit {0}) g.D.Disk.told g.D.Disk.size g.D.Disk.faults g.D.Disk.fate c.args.self.now.turns.log (coming_record c.args.self.now.turns c.args.effects.now) c.abort.new.self.log.disk (ap (λ l. l.disk) c.abort.ensures.same.log) t.log it.fits).story

pub returns-then-is_err-clause-memory : goal.returns-then-is_err-clause-memory
returns-then-is_err-clause-memory g c = λ i v stands reads is.
    let t = c.requires.takes.store.turns in
    let it = comes c.args.self.now.turns.owner c.args.self.now.turns.numbers (c.args.self.now.turns.numbers.turns + 1) c.args.effects.now c.args.self.now.turns.objects.bytes t.owner.most c.requires.fits c.requires.follows t.heap.bytes c.args.self.now.turns.objects.begun t.heap.before c.requires.begun in
    let within = (changed_within c.args.self.now.turns.owner.pages (turn_pages c.args.self.now.turns).heap (coming_record c.args.self.now.turns c.args.effects.now).pages (sealed_size c.args.self.now.turns.owner.pages (heap_in c.args.self.now.turns.objects) t.heap) it.changed.each) in
    seal_memory g.D.Disk.told g.D.Disk.size c.args.self.now i stands v reads c.args.effects.now it.follow within (record { turns = c.abort.new.self; patches = c.reserve.new.self }) c.abort.ensures.same.which c.abort.ensures.same.other c.reserve.ensures.image _ (unsealed (Unit {0}) g.D.Disk.told g.D.Disk.size g.D.Disk.faults g.D.Disk.fate c.args.self.now.turns.log (coming_record c.args.self.now.turns c.args.effects.now) c.abort.new.self.log.disk (ap (λ l. l.disk) c.abort.ensures.same.log) t.log it.fits).story

pub returns-then-is_err-clause-log : goal.returns-then-is_err-clause-log
returns-then-is_err-clause-log g c =
    let t = c.requires.takes.store.turns in
    let it = comes c.args.self.now.turns.owner c.args.self.now.turns.numbers (c.args.self.now.turns.numbers.turns + 1) c.args.effects.now c.args.self.now.turns.objects.bytes t.owner.most c.requires.fits c.requires.follows t.heap.bytes c.args.self.now.turns.objects.begun t.heap.before c.requires.begun in
    (unsealed _ g.D.Disk.told g.D.Disk.size g.D.Disk.faults g.D.Disk.fate c.args.self.now.turns.log (coming_record c.args.self.now.turns c.args.effects.now) c.abort.new.self.log.disk (ap (λ l. l.disk) c.abort.ensures.same.log) t.log it.fits)

pub returns-in_err-turn-clause-stands : goal.returns-in_err-turn-clause-stands
returns-in_err-turn-clause-stands g c = λ i stands is.
    let p = err_from_is_err_and c.from_residual.result c.from_residual.ensures.1 in
    let fault : c.in_err-turn.field-0.0 ≡ faults.Memory = cc (p.1, p.2, is) in
    let undone = c.in_err-turn.ensures.undone (ap Err fault) in
    stands_undone g.D.Disk.told g.D.Disk.size c.args.self.now (record { turns = c.seal.new.self; patches = c.reserve.new.self }) i stands (record { turns = c.in_err-turn.ensures.goes_on (ap Err fault); patches = (patches_same g.D.Disk.told g.D.Disk.size c.args.self.now.patches c.reserve.new.self c.reserve.ensures.image c.reserve.ensures.ahead c.reserve.ensures.known c.requires.takes.store.patches); count = ap (λ x. x.pages) c.reserve.ensures.image ∙ c.requires.takes.store.count ∙ ap (λ o. o.pages) (sym c.in_err-turn.ensures.others.owner); known = c.reserve.ensures.known ∙ c.requires.takes.store.known ∙ ap (λ n. n.turns) (sym undone.numbers) }) undone.live c.in_err-turn.ensures.others.owner undone.numbers c.reserve.ensures.image c.reserve.ensures.ahead

pub returns-in_err-turn-clause-any_moment : goal.returns-in_err-turn-clause-any_moment
returns-in_err-turn-clause-any_moment g c = λ i v stands reads.
    let t = c.requires.takes.store.turns in
    let it = comes c.args.self.now.turns.owner c.args.self.now.turns.numbers (c.args.self.now.turns.numbers.turns + 1) c.args.effects.now c.args.self.now.turns.objects.bytes t.owner.most c.requires.fits c.requires.follows t.heap.bytes c.args.self.now.turns.objects.begun t.heap.before c.requires.begun in
    let within = (changed_within c.args.self.now.turns.owner.pages (turn_pages c.args.self.now.turns).heap (coming_record c.args.self.now.turns c.args.effects.now).pages (sealed_size c.args.self.now.turns.owner.pages (heap_in c.args.self.now.turns.objects) t.heap) it.changed.each) in
    seal_any_moment g.D.Disk.told g.D.Disk.size c.args.self.now i stands v reads c.args.effects.now it.follow within (record { turns = c.seal.new.self; patches = c.reserve.new.self }) c.in_err-turn.ensures.others.which c.in_err-turn.ensures.others.other c.reserve.ensures.image c.args.self.now.turns.objects.value (ap read_value it.laid ∙ read_some _ _ c.stands.ensures.now) _ _ c.in_err-turn.ensures.log.story

pub returns-in_err-turn-clause-memory : goal.returns-in_err-turn-clause-memory
returns-in_err-turn-clause-memory g c = λ i v stands reads is.
    let t = c.requires.takes.store.turns in
    let it = comes c.args.self.now.turns.owner c.args.self.now.turns.numbers (c.args.self.now.turns.numbers.turns + 1) c.args.effects.now c.args.self.now.turns.objects.bytes t.owner.most c.requires.fits c.requires.follows t.heap.bytes c.args.self.now.turns.objects.begun t.heap.before c.requires.begun in
    let within = (changed_within c.args.self.now.turns.owner.pages (turn_pages c.args.self.now.turns).heap (coming_record c.args.self.now.turns c.args.effects.now).pages (sealed_size c.args.self.now.turns.owner.pages (heap_in c.args.self.now.turns.objects) t.heap) it.changed.each) in
    let p = err_from_is_err_and c.from_residual.result c.from_residual.ensures.1 in
    let fault : c.in_err-turn.field-0.0 ≡ faults.Memory = cc (p.1, p.2, is) in
    let story = rw fault at c.in_err-turn.ensures.log.story in
    seal_memory g.D.Disk.told g.D.Disk.size c.args.self.now i stands v reads c.args.effects.now it.follow within (record { turns = c.seal.new.self; patches = c.reserve.new.self }) c.in_err-turn.ensures.others.which c.in_err-turn.ensures.others.other c.reserve.ensures.image _ story

pub hand-requires-clause-within : goal.hand-requires-clause-within
hand-requires-clause-within g c =
    let count : c.reserve.new.self.image.pages ≡ c.args.self.now.turns.owner.pages = ap (λ x. x.pages) c.reserve.ensures.image ∙ c.requires.takes.store.count in
    subst (λ n. AreWithin n (frame_pages c.in_ok-turn.pages.items)) (sym count) (changed_within c.args.self.now.turns.owner.pages (turn_pages c.args.self.now.turns).heap (frame_pages c.in_ok-turn.pages.items) (sealed_size c.args.self.now.turns.owner.pages (heap_in c.args.self.now.turns.objects) c.requires.takes.store.turns.heap) c.in_ok-turn.ensures.changed.each)

pub returns-clause-sealed : goal.returns-clause-sealed
returns-clause-sealed g c =
    let sealed = c.in_ok-turn.ensures.sealed in
    let pages : List Page = frame_pages c.in_ok-turn.pages.items in
    let within = changed_within c.args.self.now.turns.owner.pages (turn_pages c.args.self.now.turns).heap pages (sealed_size c.args.self.now.turns.owner.pages (heap_in c.args.self.now.turns.objects) c.requires.takes.store.turns.heap) c.in_ok-turn.ensures.changed.each in
    let numbers : c.seal.new.self.numbers.turns ≡ c.in_ok-turn.turn = ap (λ n. n.turns) sealed.numbers in
    let takes : IsStore g.D.Disk.told g.D.Disk.size (record { turns = c.seal.new.self; patches = c.hand.new.self }) = record {
      turns = c.in_ok-turn.ensures.turning;
      patches = (c.hand.ensures.takes (c.reserve.ensures.takes (record { side = c.requires.takes.store.patches; unspent = c.requires.takes.unspent }))).side;
      count = ap (λ x. x.pages) (c.hand.ensures.image ∙ c.reserve.ensures.image) ∙ c.requires.takes.store.count ∙ ap (λ o. o.pages) (sym c.in_ok-turn.ensures.others.owner);
      known = c.hand.ensures.known ∙ sym numbers;
    } in
    record {
      pages = pages;
      sealed = sealed;
      changed = c.in_ok-turn.ensures.changed;
      grows = subst (λ (items : List Ahead). Grows c.in_ok-turn.turn pages items c.hand.new.self.ahead.items) c.reserve.ensures.ahead c.hand.ensures.grown;
      stands = λ i stands.
          sealed_stands g.D.Disk.told g.D.Disk.size c.args.self.now (record { turns = c.seal.new.self; patches = c.hand.new.self }) i c.in_ok-turn.turn pages stands takes sealed.live sealed.counted numbers c.in_ok-turn.ensures.others.owner within
          (c.hand.ensures.stands i (patching_same g.D.Disk.told g.D.Disk.size c.args.self.now.patches c.reserve.new.self i c.reserve.ensures.image c.reserve.ensures.ahead c.reserve.ensures.known stands.patches));
    }

pub returns-clause-any_moment : goal.returns-clause-any_moment
returns-clause-any_moment g c = λ i v stands reads.
    let t = c.requires.takes.store.turns in
    let it = comes c.args.self.now.turns.owner c.args.self.now.turns.numbers (c.args.self.now.turns.numbers.turns + 1) c.args.effects.now c.args.self.now.turns.objects.bytes t.owner.most c.requires.fits c.requires.follows t.heap.bytes c.args.self.now.turns.objects.begun t.heap.before c.requires.begun in
    let within = (changed_within c.args.self.now.turns.owner.pages (turn_pages c.args.self.now.turns).heap (coming_record c.args.self.now.turns c.args.effects.now).pages (sealed_size c.args.self.now.turns.owner.pages (heap_in c.args.self.now.turns.objects) t.heap) it.changed.each) in
    seal_any_moment g.D.Disk.told g.D.Disk.size c.args.self.now i stands v reads c.args.effects.now it.follow within (record { turns = c.seal.new.self; patches = c.hand.new.self }) c.in_ok-turn.ensures.others.which c.in_ok-turn.ensures.others.other (c.hand.ensures.image ∙ c.reserve.ensures.image) c.args.self.now.turns.objects.value (ap read_value it.laid ∙ read_some _ _ c.stands.ensures.now) _ _ c.in_ok-turn.ensures.log.story
