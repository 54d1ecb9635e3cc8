-- The text of a dump: what a node's disks recover to, a fact a line.
use Rattle.std.specs.Prelude.{ℕ, List, [], ◌∷◌, Option, Some, None, codes}
use Rattle.ken_model.specs.Report.{line}
use Rattle.ken_store.specs.Recovered.{Recovery, Fresh, Damaged, Broken, Whole}
use Rattle.ken_dump.specs.StateText.{state_text}

-- the text of a recovery, where there is something to tell
abbrev pub dump_text : ℕ → Recovery → Option (List ℕ)
dump_text v Fresh = Some (line (codes "fresh" ∷ []))
dump_text v (Whole s value) = Some (state_text v s value)
dump_text v (Damaged disk place) = None
dump_text v (Broken heap) = None
