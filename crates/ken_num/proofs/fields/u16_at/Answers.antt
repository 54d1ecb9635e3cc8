use Rattle.std.proofs.Common.{List, ℕ, ap, ◌∙◌, arith}
use Rattle.byteorder.specs.Endian.{big_bytes}
use Rattle.ken_num.proofs.Again.{again_2, part_bytes, part_long}
use Rattle.ken_num.proofs.fields.u16_at.Goals as goal

pub returns-clause-again : goal.returns-clause-again
returns-clause-again c =
    let bytes : List ℕ = c.args.bytes.now in
    let field : List ℕ = c.in_ok-field.field-0.now in
    let part = c.in_ok-field.ensures in
    let long = part_long bytes field c.args.at 2 part.0 part.1 in
    let fits = part_bytes bytes field c.args.at 2 (λ i. omega (arith, c.type_inv.bytes i)) part.1 in
    ap (big_bytes 2) c.read_u16.ensures ∙ again_2 field long fits ∙ part.1
