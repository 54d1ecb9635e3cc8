-- What was released, without its watch.
use Rattle.std.proofs.Common.{refl}
use Rattle.ken_drive.proofs.Giving.{was-kept}
use Rattle.ken_drive.proofs.finishing.devices_of.Goals as goal

pub returns : goal.returns
returns g c = was-kept c.args.station c.release-disks.result c.into_disk.result c.into_disk-2.result c.into_disk-3.result _ c.release-disks.ensures c.into_disk.ensures c.into_disk-2.ensures c.into_disk-3.ensures refl
