use Rattle.std.proofs.Common.{refl}
use Rattle.ken_store.proofs.Standing.{possible_now}
use Rattle.ken_store.proofs.TurnMeanwhile.{disks_turned, turn_any_moment, turned_stands, unturned_stands}
use Rattle.ken_store.proofs.store.Store.turnover.Goals as goal

pub returns-clause-any_moment : goal.returns-clause-any_moment
returns-clause-any_moment g c = λ i v stands may reads.
    turn_any_moment g.D.Disk.told g.D.Disk.size c.args.self.now.turns stands.takes.turns i stands.covers c.requires.idle c.args.settled c.args.acked.now c.args.emitted may v reads _ _ _ c.args.self.now.patches.image.disk c.args.self.now.patches.image.disk _
    (disks_turned c.turnover.result c.args.settled c.args.acked.now c.args.emitted c.args.self.now.turns c.turnover.new.self c.args.self.now.patches.image.disk c.turnover.ensures.turned c.turnover.ensures.unturned c.turnover.ensures.own)
    refl (possible_now g.D.Disk.told g.D.Disk.size c.args.self.now i stands v reads) c.turnover.ensures.log.story

pub returns-clause-stands : goal.returns-clause-stands
returns-clause-stands g c = λ i stands may.
    turned_stands g.D.Disk.told g.D.Disk.size c.turnover.result c.args.settled c.args.acked.now c.args.emitted c.args.self.now c.turnover.new.self i stands may c.turnover.ensures.turned c.turnover.ensures.turning

pub returns-clause-still : goal.returns-clause-still
returns-clause-still g c = λ i stands is.
    unturned_stands g.D.Disk.told g.D.Disk.size c.turnover.result c.args.self.now c.turnover.new.self i stands c.turnover.ensures.unturned c.turnover.ensures.goes_on is
