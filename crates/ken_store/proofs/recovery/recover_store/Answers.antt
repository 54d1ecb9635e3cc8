use Rattle.std.proofs.Common.{◌≡◌, ◌∙◌, ◌*◌, ◌≤◌, ◌++◌, ℕ, length, take, ap, sym, subst, refl, arith, Ok}
use Rattle.std.specs.List.{AllByRecursion}
use Rattle.std.proofs.lemmas.List.{length-replicate}
use Rattle.ken_record.specs.Grammar.{IsRecord}
use Rattle.ken_record.specs.Versions.{One}
use Rattle.ken_log.specs.Mounts.{Whole}
use Rattle.ken_cover.specs.Overlay.{overlay}
use Rattle.ken_store.specs.declared.patching.Origin.TheVariants.{Base}
use Rattle.ken_store.specs.Ahead.{ahead_layers, origins, page_layers, page_origins, record_layers, record_origins}
use Rattle.ken_store.specs.Kept.{base_pages, pages_in, HasPagesWithin}
use Rattle.ken_store.specs.declared.store.Store.{Store}
use Rattle.ken_store.specs.declared.turning.TurnSide.{TurnSide}
use Rattle.ken_store.specs.Logs.{front_of}
use Rattle.ken_store.specs.Turning.{Turning}
use Rattle.ken_store.specs.Recovered.{numbers_of, state_of}
use Rattle.ken_store.proofs.Currents.{checked_own, current_own, other_passed, checked_state}
use Rattle.ken_store.proofs.Found.{found_in_order}
use Rattle.ken_store.proofs.Ready.{ready}
use Rattle.ken_store.specs.Recovered.{with_state}
use Rattle.ken_store.specs.Reads.{IsSame}
use Rattle.ken_store.proofs.Reading.{same_image}
use Rattle.ken_store.proofs.Recovering.{checked_pages, whole_answer, fault_answer}
use Rattle.ken_store.proofs.recovery.recover_store.Goals as goal

pub rebuild-requires-clause-base : goal.rebuild-requires-clause-base
rebuild-requires-clause-base g c =
    let ok = rw c.deref.ensures.value at c.in-Ok.ensures.checked in
    let fit = checked_pages c.args.owner c.args.heads.which c.args.heads.first c.args.heads.second c.args.log.header c.args.log.base c.args.records.items c.in-Ok.found.1 c.requires.settled.header c.requires.items ok in
    rw (c.mount-image.ensures.count, c.base_pages.ensures) fit.first

pub rebuild-requires-clause-records : goal.rebuild-requires-clause-records
rebuild-requires-clause-records g c =
    let ok = rw c.deref.ensures.value at c.in-Ok.ensures.checked in
    let fit = checked_pages c.args.owner c.args.heads.which c.args.heads.first c.args.heads.second c.args.log.header c.args.log.base c.args.records.items c.in-Ok.found.1 c.requires.settled.header c.requires.items ok in
    rw (c.mount-image.ensures.count, c.deref-2.ensures.value) fit.each

pub kept_of-requires-clause-base : goal.kept_of-requires-clause-base
kept_of-requires-clause-base g c =
    let ok = rw c.deref.ensures.value at c.in-Ok.ensures.checked in
    (checked_pages c.args.owner c.args.heads.which c.args.heads.first c.args.heads.second c.args.log.header c.args.log.base c.args.records.items c.in-Ok.found.1 c.requires.settled.header c.requires.items ok).first

pub kept_of-requires-clause-records : goal.kept_of-requires-clause-records
kept_of-requires-clause-records g c =
    let ok = rw c.deref.ensures.value at c.in-Ok.ensures.checked in
    let fit = checked_pages c.args.owner c.args.heads.which c.args.heads.first c.args.heads.second c.args.log.header c.args.log.base c.args.records.items c.in-Ok.found.1 c.requires.settled.header c.requires.items ok in
    rw c.deref-3.ensures.value fit.each

pub returns-clause-answers : goal.returns-clause-answers
returns-clause-answers g c = λ h told.
    let ok = rw c.deref.ensures.value at c.in-Ok.ensures.checked in
    let size = g.met.D.Disk.sized _ h told in
    let long : 256 * c.args.owner.pages ≤ length h.now.seen = omega (arith, size, c.len-len.ensures, c.from.ensures, c.if-len-from.false) in
    let stands = rw (c.mount-image.ensures.count, c.base_pages.ensures, c.deref-2.ensures.value) at (c.in-Ok-rebuild.ensures.stands h (ap g.D.Disk.told c.mount-image.ensures.disk ∙ told)) in
    ap (with_state c.args.owner c.args.log.base c.args.records.items h.now.seen) ok
    ∙ whole_answer c.args.owner c.in-Ok.found.1 c.args.log.base c.args.records.items h.now.seen long c.in-Ok-rebuild.objects.value stands

pub returns-clause-reads : goal.returns-clause-reads
returns-clause-reads g c =
    same_image g.D.Disk.told g.D.Disk.faults g.D.Disk.fate c.args.heads.which c.args.log.disk c.args.image c.rebuild.new.image.disk c.args.other
    (subst (λ d. IsSame g.D.Disk.told g.D.Disk.faults g.D.Disk.fate d c.rebuild.new.image.disk) c.mount-image.ensures.disk c.in-Ok-rebuild.ensures.reads)

pub returns-in-Err-rebuild-clause-answers : goal.returns-in-Err-rebuild-clause-answers
returns-in-Err-rebuild-clause-answers g c = λ h told.
    let ok = rw c.deref.ensures.value at c.in-Ok.ensures.checked in
    let size = g.met.D.Disk.sized _ h told in
    let long : 256 * c.args.owner.pages ≤ length h.now.seen = omega (arith, size, c.len-len.ensures, c.from.ensures, c.if-len-from.false) in
    let stands = rw (c.mount-image.ensures.count, c.base_pages.ensures, c.deref-2.ensures.value) at (c.in-Err-rebuild.ensures.stands h (ap g.D.Disk.told c.mount-image.ensures.disk ∙ told)) in
    rw ok (fault_answer c.args.owner c.in-Ok.found.1 c.args.log.base c.args.records.items h.now.seen long g.row.D.Denot c.in-Err-rebuild.fault stands)

pub returns-clause-ready : goal.returns-clause-ready
returns-clause-ready g c =
    let owner = c.args.owner in
    let log = c.args.log in
    let ok = rw c.deref.ensures.value at c.in-Ok.ensures.checked in
    let fit = checked_pages owner c.args.heads.which c.args.heads.first c.args.heads.second log.header log.base c.args.records.items c.in-Ok.found.1 c.requires.settled.header c.requires.items ok in
    let own = checked_own owner c.args.heads.which c.args.heads.first c.args.heads.second log.header log.base c.args.records.items c.in-Ok.found.1 ok in
    let records : c.in-Ok-kept_of.kept.records.items ≡ c.args.records.items = c.in-Ok-kept_of.ensures.records ∙ c.deref-3.ensures.value in
    let numbers : numbers_of owner log.header log.base c.args.records.items ≡ Ok c.in-Ok.found.0 = rw c.deref.ensures.value at c.in-Ok.ensures.numbers in
    let bytes = rw (c.mount-image.ensures.count, c.base_pages.ensures, c.deref-2.ensures.value) at c.in-Ok-rebuild.ensures.bytes in
    let size = c.in-Ok-rebuild.ensures.size ∙ ap (λ (n : ℕ). 256 * n) c.mount-image.ensures.count in
    let ahead = rw c.deref-3.ensures.value at c.in-Ok-kept_of.ensures.ahead in
    let turns = c.in-Ok-kept_of.ensures.base in
    let side : TurnSide g.row.D.Denot = record {
      alloc = c.args.alloc;
      owner = owner;
      log = log;
      which = c.args.heads.which;
      other = c.args.other;
      objects = c.in-Ok-rebuild.objects;
      numbers = c.in-Ok.found.0;
      base_turns = c.in-Ok-kept_of.kept.base_turns;
      records = c.in-Ok-kept_of.kept.records;
    } in
    let store : Store g.row.D.Denot = record { turns = side; patches = record { image = c.rebuild.new.image; ahead = c.in-Ok-kept_of.kept.ahead; known = c.in-Ok.found.0.turns } } in
    let turning : Turning g.D.Disk.told g.D.Disk.size side = record {
      owner = c.requires.owner;
      log = c.requires.settled;
      mounts = λ h told. c.requires.mounts h told ∙ ap (λ rs. Whole log.header log.base rs) (sym records);
      count = c.requires.count ∙ ap length (sym records);
      items = subst (AllByRecursion (IsRecord One)) (sym records) c.requires.items;
      numbers = subst (λ rs. numbers_of owner log.header log.base rs ≡ Ok c.in-Ok.found.0) (sym records) numbers;
      heap = record { bytes = size; before = λ b is. absurd (let none : ⊥ = cc (is, c.in-Ok-rebuild.ensures.idle) in none) };
      turns = ap length turns ∙ length-replicate _ _;
      rests = c.requires.other;
      other = λ h th s ts.
          let both = c.requires.heads h th s ts in
          record { owned = current_own owner c.args.heads log.header (front_of s.now.seen) both own; passed = other_passed owner c.args.heads log.header (front_of s.now.seen) both own };
    } in
    ready g.D.Disk.told g.D.Disk.size store turning c.in-Ok-rebuild.ensures.idle c.in-Ok-rebuild.ensures.whole
    (found_in_order owner c.in-Ok.found.0 log.header log.base c.args.records.items c.in-Ok-kept_of.kept.ahead.items numbers c.in-Ok-kept_of.ensures.found ahead)
    (subst (λ rs. ahead_layers c.in-Ok-kept_of.kept.ahead.items ≡ page_layers log.header.turns (base_pages log.base) ++ record_layers rs) (sym records) ahead)
    turns
    (record { first = fit.first; each = subst (AllByRecursion (HasPagesWithin owner.pages)) (sym records) fit.each })
    (c.in-Ok-rebuild.ensures.count ∙ c.mount-image.ensures.count) refl
    (λ h told. bytes h (sym c.in-Ok-rebuild.ensures.reads.story ∙ told) ∙ ap (λ rs. overlay (take (256 * owner.pages) h.now.seen) (pages_in log.base rs)) (sym records))
    c.in-Ok.found.1 (checked_state owner c.args.heads.which c.args.heads.first c.args.heads.second log.header log.base c.args.records.items c.in-Ok.found.1 c.in-Ok.found.0 ok numbers ∙ ap (state_of owner.node c.in-Ok.found.0 log.base) (sym records))
    (subst (λ rs. origins c.in-Ok-kept_of.kept.ahead.items ≡ page_origins Base (base_pages log.base) ++ record_origins rs) (sym records) (rw c.deref-3.ensures.value at c.in-Ok-kept_of.ensures.origins))
