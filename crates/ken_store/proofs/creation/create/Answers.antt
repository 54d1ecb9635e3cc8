use Rattle.std.specs.Prelude.{IsSome}
use Rattle.std.specs.List.{AllByRecursion}
use Rattle.ken_record.specs.Grammar.{IsRecord}
use Rattle.ken_record.specs.Versions.{One}
use Rattle.ken_store.specs.declared.disks.Which.TheVariants.{First}
use Rattle.ken_store.specs.declared.turning.TurnSide.{TurnSide}
use Rattle.ken_store.specs.Numbers.{no_numbers}
use Rattle.ken_disk.specs.Story.{IsImage}
use Rattle.ken_disk.proofs.Images.{image-seen_at_rest}
use Rattle.ken_disk.proofs.Told.{tells_after}
use Rattle.ken_model.specs.Layout.{first_heap}
use Rattle.ken_image.specs.Pages.{first_image}
use Rattle.ken_cover.specs.Sides.{first_turn_pages}
use Rattle.ken_store.specs.Logs.{is_owned}
use Rattle.ken_store.specs.Turning.{Turning, IsPassed, live_layers, sealed_bytes, turn_pages}
use Rattle.ken_store.proofs.Mounted.{front_none}
use Rattle.ken_store.proofs.First.{length-first_heap, first_stands}
use Rattle.std.proofs.Common.{◌≡◌, ◌∙◌, ◌*◌, inl, inr, length, [], ap, sym, subst, refl, Some, None, Ok, Err, true}
use Rattle.ken_disk.specs.Story.{Story, IsAtRest}
use Rattle.ken_disk.proofs.Told.{some_is}
use Rattle.ken_log.specs.Formats.{Replaces}
use Rattle.ken_log.specs.Mounts.{mount_of}
use Rattle.ken_log.specs.Mounts as mounts
use Rattle.ken_store.specs.declared.owner.Owner.{Owner}
use Rattle.ken_store.specs.declared.faults.StoreFault.TheVariants.{Memory}
use Rattle.ken_store.specs.declared.store.Store.{Store}
use Rattle.ken_store.specs.Creations.{Creates, first_header}
use Rattle.ken_store.proofs.Creating.{first_image-heap, owned, creates_not, creates_err, creates_ok, follows_at, formats_log_err, formats_log_ok, holds_first, image_err, memory_err, no_image_call, follows_still, unformatted_still}
use Rattle.ken_store.proofs.creation.create.Goals as goal

pub returns-in-Err-clause-creates : goal.returns-in-Err-clause-creates
returns-in-Err-clause-creates g c = λ l tl i ti s ts l2 tl2 i2 ti2.
    let o : Owner = record { node = c.args.node; nodes = c.args.nodes; pages = c.args.pages } in
    subst (λ (h : Story). Creates {T = Store g.row.D.Denot} o (Err Memory) l i s h i2) (some_is l l2 (sym tl ∙ tl2))
    (creates_not o l s (c.requires.rests.log l tl) (c.requires.rests.second s ts) (c.requires.none l tl s ts).0 (c.requires.none l tl s ts).1 (Store g.row.D.Denot) Memory i i2)

pub returns-in-Err-format-clause-creates : goal.returns-in-Err-format-clause-creates
returns-in-Err-format-clause-creates g c = λ l tl i ti s ts l2 tl2 i2 ti2.
    let o : Owner = record { node = c.args.node; nodes = c.args.nodes; pages = c.args.pages } in
    subst (λ (h : Story). Creates {T = Store g.row.D.Denot} o (Err c.from.result) l i s h i2) (some_is l l2 (sym tl ∙ tl2))
    (creates_not o l s (c.requires.rests.log l tl) (c.requires.rests.second s ts) (c.requires.none l tl s ts).0 (c.requires.none l tl s ts).1 (Store g.row.D.Denot) c.from.result i i2)

pub returns-in-Ok-format-2-clause-creates : goal.returns-in-Ok-format-2-clause-creates
returns-in-Ok-format-2-clause-creates g c = λ l tl i ti s ts l2 tl2 i2 ti2.
    let o : Owner = record { node = c.args.node; nodes = c.args.nodes; pages = c.args.pages } in
    let made = c.in-Ok-format.ensures.holds i2 ti2 in
    let keeps = rw c.in-Ok-format.ensures.count at (c.in-Ok-format.ensures.whole.stands.keeps i2 ti2) in
    let holds = holds_first c.args.pages _ i2.now c.requires.some c.in-Ok.ensures.page made.0 keeps made.1 in
    let replaces = follows_at (λ (h n : Story). IsAtRest h.now → Replaces (mounts.Whole (first_header o) None []) (Ok c.in-Ok-format-2.log) h n) l l2 _ _ c.in-Ok-format-2.ensures.story tl tl2 (c.requires.rests.log l tl) in
    creates_ok o l s (c.requires.rests.log l tl) (c.requires.rests.second s ts) (c.requires.none l tl s ts).0 (c.requires.none l tl s ts).1 c.requires.some c.requires.most i l2 i2 holds (Ok c.in-Ok-format-2.log) replaces _ c.in-Ok-format-2.log refl

pub returns-in-Err-format-2-clause-creates : goal.returns-in-Err-format-2-clause-creates
returns-in-Err-format-2-clause-creates g c = λ l tl i ti s ts l2 tl2 i2 ti2.
    let o : Owner = record { node = c.args.node; nodes = c.args.nodes; pages = c.args.pages } in
    let told = ap g.D.Disk.told (sym c.release-image.ensures) ∙ ti2 in
    let made = c.in-Ok-format.ensures.holds i2 told in
    let keeps = rw c.in-Ok-format.ensures.count at (c.in-Ok-format.ensures.whole.stands.keeps i2 told) in
    let holds = holds_first c.args.pages _ i2.now c.requires.some c.in-Ok.ensures.page made.0 keeps made.1 in
    let replaces = follows_at (λ (h n : Story). IsAtRest h.now → Replaces (mounts.Whole (first_header o) None []) (Err c.in-Err-format-2.fault) h n) l l2 _ _ c.in-Err-format-2.ensures.story tl tl2 (c.requires.rests.log l tl) in
    creates_err o l s (c.requires.rests.log l tl) (c.requires.rests.second s ts) (c.requires.none l tl s ts).0 (c.requires.none l tl s ts).1 c.requires.some c.requires.most i l2 i2 holds (Err c.in-Err-format-2.fault) replaces (Store g.row.D.Denot) c.from-in-Err-format-2.result (λ is. memory_err _ c.in-Err-format-2.fault (sym c.from-in-Err-format-2.ensures ∙ is))

pub returns-in-Ok-format-2-clause-ready : goal.returns-in-Ok-format-2-clause-ready
returns-in-Ok-format-2-clause-ready g c =
    let o : Owner = record { node = c.args.node; nodes = c.args.nodes; pages = c.args.pages } in
    let log = c.in-Ok-format-2.log in
    let made = c.in-Ok-format-2.ensures.made in
    let side : TurnSide g.row.D.Denot = record {
      alloc = c.args.alloc;
      owner = o;
      log = log;
      which = First;
      other = c.args.disks.second;
      objects = c.in-Ok.heap.0;
      numbers = c.none.result;
      base_turns = c.new.result;
      records = c.new-in-Ok-format-2.result;
    } in
    let store : Store g.row.D.Denot = record { turns = side; patches = record { image = c.in-Ok-format.image; ahead = c.new-in-Ok-format-2-2.result; known = 0 } } in
    let no_base : log.base ≡ None = made.1 in
    let no_records : c.new-in-Ok-format-2.result.items ≡ [] = c.new-in-Ok-format-2.ensures.items in
    let no_numbers_yet : c.none.result ≡ no_numbers = c.none.ensures in
    let header : log.header ≡ first_header o = made.0 in
    let long : length c.in-Ok.heap.0.bytes ≡ 256 * c.args.pages = ap length c.in-Ok.ensures.bytes ∙ length-first_heap c.args.pages c.requires.some in
    let changes : Story → Story → Type 0 = λ h n. IsAtRest h.now → Replaces (mounts.Whole (first_header o) None []) (Ok log) h n in
    let mounts_so : (h : Story) → g.D.Disk.told log.disk ≡ Some h → mount_of h.now.seen ≡ mounts.Whole (first_header o) None [] = λ h told.
    tells_after changes (λ y. IsImage y.now y.now.seen → mount_of y.now.seen ≡ mounts.Whole (first_header o) None []) _ _ c.in-Ok-format-2.ensures.story (λ x y is r. λ may. (r (c.requires.rests.log x is)).ok y.now.seen may) h told
    (image-seen_at_rest h.now (c.in-Ok-format-2.ensures.settled.rests h told)) in
    let pages_are : turn_pages side ≡ first_turn_pages (first_heap c.args.pages) =
    ap (λ x. record { heap = x; live = live_layers log.header log.base c.new.result.items c.new-in-Ok-format-2.result.items }) (ap (sealed_bytes c.in-Ok.heap.0.bytes) c.in-Ok.ensures.idle ∙ c.in-Ok.ensures.bytes)
    ∙ ap (λ x. record { heap = first_heap c.args.pages; live = x }) (rw (no_base, no_records) refl) in
    let turning : Turning g.D.Disk.told g.D.Disk.size side = record {
      owner = record { node = c.requires.node; nodes = c.requires.nodes; some = c.requires.some; most = c.requires.most };
      log = c.in-Ok-format-2.ensures.settled;
      mounts = λ h told. mounts_so h told ∙ rw (header, no_base, no_records) refl;
      count = made.2 ∙ ap length (sym no_records);
      items = subst (AllByRecursion (IsRecord One)) (sym no_records) tt;
      numbers = rw (no_base, no_records, no_numbers_yet) refl;
      heap = record { bytes = long; before = λ b is. absurd (let none : ⊥ = cc (is, c.in-Ok.ensures.idle) in none) };
      turns = rw (no_base) (ap length c.new.ensures.items);
      rests = c.requires.rests.second;
      other = λ h th s ts.
          let before = tells_after changes (λ y. (l : Story) × (g.D.Disk.told c.args.disks.log ≡ Some l)) _ _ c.in-Ok-format-2.ensures.story (λ x y is r. (x, is)) h th in
          let none = (c.requires.none before.0 before.1 s ts).1 in
          record {
            owned = subst (λ x. is_owned o x ≡ true) (sym header) (owned o);
            passed = subst (λ f. IsPassed o log.header f) (sym (front_none s.now.seen none)) tt;
          };
    } in
    first_stands g.D.Disk.told g.D.Disk.size store c.args.pages c.requires.some turning pages_are refl c.in-Ok-format.ensures.whole.stands c.in-Ok-format.ensures.count c.new-in-Ok-format-2-2.ensures.items refl (ap (λ n. n.turns) no_numbers_yet)
    (λ h told.
    let made = c.in-Ok-format.ensures.holds h told in
    (made.0, made.1 ∙ ap (first_image c.args.pages) c.in-Ok.ensures.page ∙ first_image-heap c.args.pages c.requires.some))

pub returns-in-Ok-format-2-clause-takes : goal.returns-in-Ok-format-2-clause-takes
returns-in-Ok-format-2-clause-takes g c = record { store = (returns-in-Ok-format-2-clause-ready g c).takes; unspent = c.in-Ok-format.ensures.whole.unspent }

pub returns-in-Err-clause-tells : goal.returns-in-Err-clause-tells
returns-in-Err-clause-tells g c = (λ some. some, λ some. some)

pub returns-in-Err-format-clause-tells : goal.returns-in-Err-format-clause-tells
returns-in-Err-format-clause-tells g c = (λ some. some, follows_still _ _ _ c.in-Err-format.ensures.calls)

pub returns-in-Ok-format-2-clause-tells : goal.returns-in-Ok-format-2-clause-tells
returns-in-Ok-format-2-clause-tells g c = (follows_still _ _ _ c.in-Ok-format-2.ensures.story, follows_still _ _ _ c.in-Ok-format.ensures.calls)

pub returns-in-Err-format-2-clause-tells : goal.returns-in-Err-format-2-clause-tells
returns-in-Err-format-2-clause-tells g c = (follows_still _ _ _ c.in-Err-format-2.ensures.story, λ some. subst (λ (d : g.row.D.Denot). IsSome (g.D.Disk.told d)) (sym c.release-image.ensures) (follows_still _ _ _ c.in-Ok-format.ensures.calls some))

pub returns-in-Err-clause-calls : goal.returns-in-Err-clause-calls
returns-in-Err-clause-calls g c = unformatted_still (Store g.row.D.Denot) _ _ _

pub returns-in-Err-format-clause-calls : goal.returns-in-Err-format-clause-calls
returns-in-Err-format-clause-calls g c = unformatted_still (Store g.row.D.Denot) _ _ _

-- what the log saw
pub returns-in-Ok-format-2-clause-calls : goal.returns-in-Ok-format-2-clause-calls
returns-in-Ok-format-2-clause-calls g c =
    let o : Owner = record { node = c.args.node; nodes = c.args.nodes; pages = c.args.pages } in
    let log = c.in-Ok-format-2.log in
    (formats_log_ok g.D.Disk.told g.D.Disk.faults o c.args.disks.log log.disk _ (Store g.row.D.Denot) log _ c.in-Ok-format-2.ensures.story c.in-Ok-format-2.ensures.calls c.in-Ok-format-2.ensures.cause).0

pub returns-in-Err-format-2-clause-calls : goal.returns-in-Err-format-2-clause-calls
returns-in-Err-format-2-clause-calls g c =
    let o : Owner = record { node = c.args.node; nodes = c.args.nodes; pages = c.args.pages } in
    (formats_log_err g.D.Disk.told g.D.Disk.faults o c.args.disks.log c.in-Err-format-2.log _ (Store g.row.D.Denot) c.in-Err-format-2.fault _ c.from-in-Err-format-2.ensures c.requires.rests.log
    c.in-Err-format-2.ensures.story c.in-Err-format-2.ensures.calls c.in-Err-format-2.ensures.cause).0

pub returns-in-Ok-format-2-clause-log : goal.returns-in-Ok-format-2-clause-log
returns-in-Ok-format-2-clause-log g c =
    let o : Owner = record { node = c.args.node; nodes = c.args.nodes; pages = c.args.pages } in
    let log = c.in-Ok-format-2.log in
    inr (formats_log_ok g.D.Disk.told g.D.Disk.faults o c.args.disks.log log.disk _ (Store g.row.D.Denot) log _ c.in-Ok-format-2.ensures.story c.in-Ok-format-2.ensures.calls c.in-Ok-format-2.ensures.cause)

pub returns-in-Err-format-2-clause-log : goal.returns-in-Err-format-2-clause-log
returns-in-Err-format-2-clause-log g c =
    let o : Owner = record { node = c.args.node; nodes = c.args.nodes; pages = c.args.pages } in
    inr (formats_log_err g.D.Disk.told g.D.Disk.faults o c.args.disks.log c.in-Err-format-2.log _ (Store g.row.D.Denot) c.in-Err-format-2.fault _ c.from-in-Err-format-2.ensures c.requires.rests.log
    c.in-Err-format-2.ensures.story c.in-Err-format-2.ensures.calls c.in-Err-format-2.ensures.cause)

-- and what the image's disk saw
pub returns-in-Err-clause-image : goal.returns-in-Err-clause-image
returns-in-Err-clause-image g c = inl ((refl, refl), no_image_call (Store g.row.D.Denot) (record { node = c.args.node; nodes = c.args.nodes; pages = c.args.pages }) _)

pub returns-in-Err-format-clause-image : goal.returns-in-Err-format-clause-image
returns-in-Err-format-clause-image g c =
    inl ((refl, refl), image_err _ (Store g.row.D.Denot) c.in-Err-format.fault _ _ _ _ c.from.ensures (rw c.in-Ok.ensures.page at c.in-Err-format.ensures.calls))

pub returns-in-Ok-format-2-clause-image : goal.returns-in-Ok-format-2-clause-image
returns-in-Ok-format-2-clause-image g c =
    let o : Owner = record { node = c.args.node; nodes = c.args.nodes; pages = c.args.pages } in
    let log = c.in-Ok-format-2.log in
    inr (
      formats_log_ok g.D.Disk.told g.D.Disk.faults o c.args.disks.log log.disk _ (Store g.row.D.Denot) log _ c.in-Ok-format-2.ensures.story c.in-Ok-format-2.ensures.calls c.in-Ok-format-2.ensures.cause,
      rw c.in-Ok.ensures.page at c.in-Ok-format.ensures.calls,
    )

pub returns-in-Err-format-2-clause-image : goal.returns-in-Err-format-2-clause-image
returns-in-Err-format-2-clause-image g c =
    let o : Owner = record { node = c.args.node; nodes = c.args.nodes; pages = c.args.pages } in
    inr (
      formats_log_err g.D.Disk.told g.D.Disk.faults o c.args.disks.log c.in-Err-format-2.log _ (Store g.row.D.Denot) c.in-Err-format-2.fault _ c.from-in-Err-format-2.ensures c.requires.rests.log
          c.in-Err-format-2.ensures.story c.in-Err-format-2.ensures.calls c.in-Err-format-2.ensures.cause,
      rw (c.release-image.ensures, sym c.in-Ok.ensures.page) c.in-Ok-format.ensures.calls,
    )
