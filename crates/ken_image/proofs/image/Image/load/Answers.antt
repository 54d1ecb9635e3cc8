use Rattle.std.proofs.Common.{◌+◌, ◌≤◌, ◌∙◌, ◌++◌, length, ap, sym, arith}
use Rattle.std.proofs.lemmas.List.{append-nil, drop_all}
use Rattle.ken_image.proofs.image.Image.load.Goals as goal

pub returns-in-Ok-clause-read : goal.returns-in-Ok-clause-read
returns-in-Ok-clause-read g c = λ h told.
    let whole = ap length (sym c.as_slice.ensures.same) ∙ c.as_slice.ensures.whole in
    let past : length c.args.frame.now ≤ 0 + length c.read.new.buf = omega (arith, whole) in
    c.write.ensures
    ∙ ap (λ l. c.read.new.buf ++ l) (drop_all (0 + length c.read.new.buf) c.args.frame.now past)
    ∙ append-nil c.read.new.buf
    ∙ rw c.place.ensures at (c.in-Ok.ensures.bytes h told)
