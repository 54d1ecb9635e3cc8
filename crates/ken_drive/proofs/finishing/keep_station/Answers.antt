-- The devices of a station are kept.
use Rattle.std.proofs.Common.{sym, subst}
use Rattle.ken_drive.specs.Finishing.{WasKept}
use Rattle.ken_drive.proofs.finishing.keep_station.Goals as goal

pub returns-clause-given : goal.returns-clause-given
returns-clause-given g c = subst (λ k. WasKept c.args.station k) (sym c.keep.ensures.given) c.devices_of-disks.ensures
