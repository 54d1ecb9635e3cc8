use Rattle.std.proofs.Common.{List, ℕ, ap, ◌∙◌, arith}
use Rattle.byteorder.specs.Endian.{big_bytes}
use Rattle.ken_num.proofs.Again.{again_8, part_bytes, part_long}
use Rattle.ken_num.proofs.fields.u64_at.Goals as goal

pub returns-clause-again : goal.returns-clause-again
returns-clause-again c =
    let bytes : List ℕ = c.args.bytes.now in
    let field : List ℕ = c.in_ok-field.field-0.now in
    let part = c.in_ok-field.ensures in
    let long = part_long bytes field c.args.at 8 part.0 part.1 in
    let fits = part_bytes bytes field c.args.at 8 (λ i. omega (arith, c.type_inv.bytes i)) part.1 in
    ap (big_bytes 8) c.read_u64.ensures ∙ again_8 field long fits ∙ part.1
