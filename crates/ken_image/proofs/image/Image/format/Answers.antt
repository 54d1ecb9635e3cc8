use Rattle.std.proofs.Common.{refl, arith}
use Rattle.ken_image.proofs.Filled.{format_moments, format_holds}
use Rattle.ken_image.proofs.Kept.{keeps_at_rest}
use Rattle.ken_image.proofs.image.Image.format.Goals as goal

pub returns-in-Ok-clause-any_moment : goal.returns-in-Ok-clause-any_moment
returns-in-Ok-clause-any_moment g c = format_moments c.args.first.now c.fill.ensures.whole c.args.pages _ _ _ c.fill.ensures.calls

pub returns-in-Ok-clause-whole : goal.returns-in-Ok-clause-whole
returns-in-Ok-clause-whole g c = record {
  stands = record {
    room = c.in-Ok.ensures.size;
    keeps = λ h told.
        let size = g.met.D.Disk.sized _ h told in
        keeps_at_rest c.args.pages h.now (format_holds c.args.first.now c.fill.ensures.whole c.args.pages _ _ _ _ c.in-Ok.is c.fill.ensures.calls h told).0 (omega (arith, size, c.in-Ok.ensures.size));
  };
  unspent = refl;
}

pub returns-in-Ok-clause-holds : goal.returns-in-Ok-clause-holds
returns-in-Ok-clause-holds g c = format_holds c.args.first.now c.fill.ensures.whole c.args.pages _ _ _ _ c.in-Ok.is c.fill.ensures.calls

pub returns-in-Err-clause-any_moment : goal.returns-in-Err-clause-any_moment
returns-in-Err-clause-any_moment g c = format_moments c.args.first.now c.fill.ensures.whole c.args.pages _ _ _ c.fill.ensures.calls
