use Rattle.std.proofs.Common.{refl, arith}
use Rattle.ken_image.proofs.Kept.{keeps_at_rest}
use Rattle.ken_image.proofs.image.Image.mount.Goals as goal

pub returns-clause-whole : goal.returns-clause-whole
returns-clause-whole g c = record {
  stands = record {
    room = c.requires.long;
    keeps = λ h told. let size = g.met.D.Disk.sized _ h told in keeps_at_rest c.args.pages h.now (c.requires.rests h told) (omega (arith, size, c.requires.long));
  };
  unspent = refl;
}
