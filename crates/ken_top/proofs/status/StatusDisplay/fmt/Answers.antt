use Rattle.std.proofs.Common.{◌∙◌, ap}
use Rattle.ken_top.specs.Statuses.{text_of}
use Rattle.ken_top.proofs.Texts.{damaged_text}
use Rattle.ken_top.proofs.status.StatusDisplay.fmt.Goals as goal

pub returns-in-Damaged-clause-writes : goal.returns-in-Damaged-clause-writes
returns-in-Damaged-clause-writes g c = λ plain ok. rw (ap text_of c.in-Damaged.is ∙ damaged_text c.in-Damaged.node c.in-Damaged.disk c.in-Damaged.place) (c.write-in-Damaged.ensures.writes plain ok)
