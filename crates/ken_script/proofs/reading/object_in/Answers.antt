use Rattle.std.proofs.Common.{rules, sym}
use Rattle.serde_json.specs.View.{view}
use Rattle.ken_script.proofs.Objects.{too_long, no_value, no_members}
use Rattle.ken_script.proofs.reading.object_in.Goals as goal
use Rattle.ken_script.proofs.reading.object_in.Goals.{in_default-via-in-Ok+else-is_object, in_default-via-in-Err+else-is_memory}

pub returns-then-bytes-gt-LIMIT-clause-err : goal.returns-then-bytes-gt-LIMIT-clause-err
returns-then-bytes-gt-LIMIT-clause-err c = search (rules, too_long)

pub returns-in_default-clause-err : goal.returns-in_default-clause-err
returns-in_default-clause-err c =
    rw c.at-in_default.ensures
    (elim c.in_default.branch [ in_default-via-in-Ok+else-is_object w ↦ no_members c.args.bytes.now (view w.in-Ok.value) w.in-Ok.ensures.ok.1 (sym w.if-is_object.ensures) | in_default-via-in-Err+else-is_memory w ↦ no_value c.args.bytes.now (w.in-Err.ensures.err (search (rules, w.is_memory.ensures))) ])
