use Rattle.ken_script.proofs.Lists.{Walk}
use Rattle.ken_script.proofs.mishaps.mishaps_of.Given as goal

abbrev pub invariant-loop-place : goal.invariant-loop-place
invariant-loop-place g l = Walk (g.T.Mishap.said l.nodes) g.T.Mishap.spot l.room l.items l.spots l.place l.mishaps.items
