use Rattle.std.proofs.Common.{rules, subst}
use Rattle.ken_disk.specs.Bytes.{IsBytes}
use Rattle.ken_disk.specs.Story.{IsImage}
use Rattle.ken_memdisk.specs.Disks.{Held}
use Rattle.ken_memdisk.specs.Picks.{picked}
use Rattle.ken_memdisk.proofs.Images.{image-picked}
use Rattle.ken_memdisk.proofs.Kept.{bytes-picked, kept_by_restart}
use Rattle.ken_memdisk.proofs.platter.Platter.restart.Goals as goal

pub invariant_of-self-2 : goal.invariant_of-self-2
invariant_of-self-2 c =
    kept_by_restart _ _ _ _ _ _ _ _ c.args.pick c.self.invariant (rw (c.deref.ensures.value, c.deref-2.ensures.value, c.deref-3.ensures.value) at c.in_ok-image.ensures) (search rules) (search rules) (search rules)

pub returns-clause-image : goal.returns-clause-image
returns-clause-image c =
    subst (λ (h : Held). IsImage h.story.now (picked c.args.pick h.story.now)) c.self.view_is (image-picked c.args.pick _ c.self.invariant.sound)

pub returns-clause-bytes : goal.returns-clause-bytes
returns-clause-bytes c =
    let is = rw (c.deref.ensures.value, c.deref-2.ensures.value, c.deref-3.ensures.value) at c.in_ok-image.ensures in
    subst (λ (h : Held). IsBytes (picked c.args.pick h.story.now)) c.self.view_is
    (bytes-picked _ _ _ _ c.self.invariant c.args.pick c.in_ok-image.image.items is (subst IsBytes c.deref-4.ensures.value c.refill.ensures.bytes))
