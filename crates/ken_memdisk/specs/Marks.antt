-- The traces of disks that are made and restarted.
use Rattle.std.specs.Prelude.{[], ◌∷◌}
use Rattle.ken_memdisk.specs.Calls.{origin_of}
use Rattle.ken_memdisk.specs.Traces.{Traced}
use Rattle.ken_memdisk.specs.declared.trace.Mark.{Mark}
use Rattle.ken_memdisk.specs.declared.trace.Mark.TheVariants.{Made, Restarted}

-- the trace that a mark leaves
abbrev pub after_mark : Mark → Traced
after_mark (Made node which cuts) = record { origin = origin_of node which cuts.now; picks = [] }
after_mark (Restarted trace pick) = record trace.now.told { picks = pick ∷ trace.now.told.picks }
