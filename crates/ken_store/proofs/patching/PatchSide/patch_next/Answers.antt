use Rattle.std.proofs.Common.{◌≡◌, ◌*◌, List, Bool, take, drop, inl, refl, sym, subst, Err}
use Rattle.std.specs.Prelude.{IsErrOf}
use Rattle.ken_disk.specs.declared.faults.DiskFault.TheVariants as disk
use Rattle.ken_disk.specs.Moments.{Through}
use Rattle.ken_disk.specs.Story.{Follows}
use Rattle.ken_disk.proofs.Since.{stays}
use Rattle.ken_image.specs.declared.faults.ImageFault.{ImageFault}
use Rattle.ken_image.specs.declared.faults.ImageFault.TheVariants.{Memory}
use Rattle.ken_image.specs.Calls.{Called}
use Rattle.ken_image.specs.Faults.{as_disk}
use Rattle.ken_store.specs.declared.patching.Ahead.{Ahead}
use Rattle.ken_store.specs.Patching.{MayBePatched, page_calls, patch_calls}
use Rattle.ken_store.proofs.Holding.{by_told}
use Rattle.ken_store.proofs.PatchNext.{front_is, first_within, side_patched, patch_moment, patched_ok, patched_failed, patched_none}
use Rattle.ken_store.proofs.patching.PatchSide.patch_next.Goals as goal

here : (e : ImageFault) → e ≡ Memory → IsErrOf {T = Unit {0}} (Err e) Memory
here e is = cc is

pub returns-in_default-clause-any_moment : goal.returns-in_default-clause-any_moment
returns-in_default-clause-any_moment g c i p =
    by_told (λ h s. Through (λ image. MayBePatched i (take (256 * c.args.self.now.image.pages) image)) h s) (g.D.Disk.told c.args.self.now.image.disk)
    (λ h told. stays (λ image. MayBePatched i (take (256 * c.args.self.now.image.pages) image)) h (λ image is. inl ((p.holds h told).left image is)))

pub write_first-requires-clause-within : goal.write_first-requires-clause-within
write_first-requires-clause-within g c =
    let items = c.args.self.now.ahead.items in
    first_within g.D.Disk.told g.D.Disk.size c.args.self.now c.requires.side c.in-Some.next.now (drop 1 items)
    (front_is items c.in-Some.next.now c.in-Some.ensures.item.3.0 c.in-Some.ensures.lookup)

-- ---- the page was written

pub returns-in-Ok-clause-any_moment : goal.returns-in-Ok-clause-any_moment
returns-in-Ok-clause-any_moment g c i p =
    let items = c.args.self.now.ahead.items in
    patch_moment g.D.Disk.told g.D.Disk.size c.args.self.now c.requires.side c.in-Some.next.now (drop 1 items)
    (front_is items c.in-Some.next.now c.in-Some.ensures.item.3.0 c.in-Some.ensures.lookup) i p c.write_first.new.image.disk c.write_first.ensures.any_moment

pub returns-in-Ok-clause-stands : goal.returns-in-Ok-clause-stands
returns-in-Ok-clause-stands g c i p =
    let items = c.args.self.now.ahead.items in
    patched_ok g.D.Disk.told g.D.Disk.size c.args.self.now c.requires.side c.in-Some.next.now (drop 1 items)
    (front_is items c.in-Some.next.now c.in-Some.ensures.item.3.0 c.in-Some.ensures.lookup) i p
    (record { image = c.write_first.new.image; ahead = c.pass_first.new.ahead; known = c.args.self.now.known })
    c.in-Ok.ensures.whole.stands c.write_first.ensures.count refl c.pass_first.ensures.items c.write_first.ensures.any_moment (Unit {0}) c.in-Ok.field-0 c.in-Ok.ensures.calls

pub returns-in-Ok-clause-takes : goal.returns-in-Ok-clause-takes
returns-in-Ok-clause-takes g c =
    let items = c.args.self.now.ahead.items in
    record {
      side = side_patched g.D.Disk.told g.D.Disk.size c.args.self.now c.requires.side c.in-Some.next.now (drop 1 items)
          (front_is items c.in-Some.next.now c.in-Some.ensures.item.3.0 c.in-Some.ensures.lookup)
          (record { image = c.write_first.new.image; ahead = c.pass_first.new.ahead; known = c.args.self.now.known })
          c.in-Ok.ensures.whole.stands c.write_first.ensures.count refl c.pass_first.ensures.items;
      unspent = c.in-Ok.ensures.whole.unspent;
    }

-- ---- its write failed: it counts as written

pub returns-in-Err-Disk-clause-any_moment : goal.returns-in-Err-Disk-clause-any_moment
returns-in-Err-Disk-clause-any_moment g c i p =
    let items = c.args.self.now.ahead.items in
    patch_moment g.D.Disk.told g.D.Disk.size c.args.self.now c.requires.side c.in-Some.next.now (drop 1 items)
    (front_is items c.in-Some.next.now c.in-Some.ensures.item.3.0 c.in-Some.ensures.lookup) i p c.write_first.new.image.disk c.write_first.ensures.any_moment

pub returns-in-Err-Disk-clause-stands : goal.returns-in-Err-Disk-clause-stands
returns-in-Err-Disk-clause-stands g c i p =
    let items = c.args.self.now.ahead.items in
    let told = g.D.Disk.told in
    patched_failed told g.D.Disk.size c.args.self.now c.requires.side c.in-Some.next.now (drop 1 items)
    (front_is items c.in-Some.next.now c.in-Some.ensures.item.3.0 c.in-Some.ensures.lookup) i p
    (record { image = c.write_first.new.image; ahead = c.pass_first-in-Err-Disk.new.ahead; known = c.args.self.now.known })
    c.in-Err-Disk.ensures.fails c.write_first.ensures.count refl c.pass_first-in-Err-Disk.ensures.items c.write_first.ensures.any_moment (Unit {0})
    (subst (λ (e : ImageFault). Follows (Called {T = Unit {0}} (as_disk (Err e)) (page_calls c.in-Some.next.now.pages.items)) (told c.args.self.now.image.disk) (told c.write_first.new.image.disk)) c.in-Err-Disk.field-0-is c.in-Err-Disk.ensures.calls)

pub returns-in-Err-Disk-clause-calls : goal.returns-in-Err-Disk-clause-calls
returns-in-Err-Disk-clause-calls g c =
    let items = c.args.self.now.ahead.items in
    let told = g.D.Disk.told in
    subst (λ (l : List Ahead). Follows (Called {T = Bool} (Err disk.Failed) (patch_calls l)) (told c.args.self.now.image.disk) (told c.write_first.new.image.disk))
    (sym (front_is items c.in-Some.next.now c.in-Some.ensures.item.3.0 c.in-Some.ensures.lookup))
    (subst (λ (e : ImageFault). Follows (Called {T = Unit {0}} (as_disk (Err e)) (page_calls c.in-Some.next.now.pages.items)) (told c.args.self.now.image.disk) (told c.write_first.new.image.disk)) c.in-Err-Disk.field-0-is c.in-Err-Disk.ensures.calls)

pub returns-in-Err-Disk-clause-fails : goal.returns-in-Err-Disk-clause-fails
returns-in-Err-Disk-clause-fails g c h now =
    let items = c.args.self.now.ahead.items in
    side_patched g.D.Disk.told g.D.Disk.size c.args.self.now c.requires.side c.in-Some.next.now (drop 1 items)
    (front_is items c.in-Some.next.now c.in-Some.ensures.item.3.0 c.in-Some.ensures.lookup)
    (record { image = c.write_first.new.image; ahead = c.pass_first-in-Err-Disk.new.ahead; known = c.args.self.now.known })
    (c.in-Err-Disk.ensures.fails h now) c.write_first.ensures.count refl c.pass_first-in-Err-Disk.ensures.items

-- ---- it wasn't, for want of memory

pub returns-in-Err-Memory-clause-any_moment : goal.returns-in-Err-Memory-clause-any_moment
returns-in-Err-Memory-clause-any_moment g c i p =
    let items = c.args.self.now.ahead.items in
    patch_moment g.D.Disk.told g.D.Disk.size c.args.self.now c.requires.side c.in-Some.next.now (drop 1 items)
    (front_is items c.in-Some.next.now c.in-Some.ensures.item.3.0 c.in-Some.ensures.lookup) i p c.write_first.new.image.disk c.write_first.ensures.any_moment

pub returns-in-Err-Memory-clause-stands : goal.returns-in-Err-Memory-clause-stands
returns-in-Err-Memory-clause-stands g c i p =
    let items = c.args.self.now.ahead.items in
    let told = g.D.Disk.told in
    patched_none told g.D.Disk.size c.args.self.now c.requires.side c.in-Some.next.now (drop 1 items)
    (front_is items c.in-Some.next.now c.in-Some.ensures.item.3.0 c.in-Some.ensures.lookup) i p
    c.write_first.new.image (c.in-Err-Memory.ensures.goes_on (here c.in-Err-Memory.field-0 c.in-Err-Memory.field-0-is)).stands c.write_first.ensures.count c.write_first.ensures.any_moment (Unit {0})
    (subst (λ (e : ImageFault). Follows (Called {T = Unit {0}} (as_disk (Err e)) (page_calls c.in-Some.next.now.pages.items)) (told c.args.self.now.image.disk) (told c.write_first.new.image.disk)) c.in-Err-Memory.field-0-is c.in-Err-Memory.ensures.calls)

pub returns-in-Err-Memory-clause-calls : goal.returns-in-Err-Memory-clause-calls
returns-in-Err-Memory-clause-calls g c =
    let items = c.args.self.now.ahead.items in
    let told = g.D.Disk.told in
    subst (λ (l : List Ahead). Follows (Called {T = Bool} (Err disk.Memory) (patch_calls l)) (told c.args.self.now.image.disk) (told c.write_first.new.image.disk))
    (sym (front_is items c.in-Some.next.now c.in-Some.ensures.item.3.0 c.in-Some.ensures.lookup))
    (subst (λ (e : ImageFault). Follows (Called {T = Unit {0}} (as_disk (Err e)) (page_calls c.in-Some.next.now.pages.items)) (told c.args.self.now.image.disk) (told c.write_first.new.image.disk)) c.in-Err-Memory.field-0-is c.in-Err-Memory.ensures.calls)
