use Rattle.std.proofs.Common.{◌≡◌}
use Rattle.ken_model.proofs.Joined.{take_joined}
use Rattle.ken_model.proofs.octets.short.Goals as goal

pub returns-clause-bytes : goal.returns-clause-bytes
returns-clause-bytes c =
    let front : c.copy_from_slice.new.self ≡ c.args.front.now = c.copy_from_slice.ensures.after in
    let back : c.copy_from_slice-2.new.self ≡ c.args.back.now = c.copy_from_slice-2.ensures.after in
    rw (front, back) (take_joined c.args.front.now _ c.args.back.now _)
