use Rattle.std.proofs.Common.{ap, arith, length, rules}
use Rattle.ken_memdisk.specs.Disks.{Held}
use Rattle.ken_memdisk.proofs.Kept.{kept_by_write}
use Rattle.ken_memdisk.proofs.platter.Platter.write.Goals as goal

pub invariant_of-self-2 : goal.invariant_of-self-2
invariant_of-self-2 c =
    let inside = ap (λ (h : Held). length h.story.now.seen) c.self.view_is in
    kept_by_write _ _ _ _ _ _ _ _ c.args.at c.args.bytes.now c.self.invariant (omega (arith, c.requires.place)) c.requires.end (search rules) (search rules) (search rules) (search rules)
