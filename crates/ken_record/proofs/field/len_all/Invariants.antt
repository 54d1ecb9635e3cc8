use Rattle.std.proofs.Common.{◌≡◌, ◌*◌, ◌≤◌, length, take}
use Rattle.std.specs.List.{flat_map}
use Rattle.ken_record.proofs.field.len_all.Given as goal

abbrev pub invariant-loop-item : goal.invariant-loop-item
invariant-loop-item g l = (l.len ≡ length (flat_map g.T.Field.spell (take l.item-index l.items))) × (l.len ≤ 65554 * l.item-index)
