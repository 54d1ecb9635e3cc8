use Rattle.ken_memdisk.proofs.Kept.{kept-differ}
use Rattle.ken_memdisk.proofs.platter.Platter.make_safe.Goals as goal

pub catch_up-requires-clause-differ : goal.catch_up-requires-clause-differ
catch_up-requires-clause-differ c =
    rw (c.deref.ensures.value, c.deref-2.ensures.value) (kept-differ _ _ _ _ c.self.invariant)
