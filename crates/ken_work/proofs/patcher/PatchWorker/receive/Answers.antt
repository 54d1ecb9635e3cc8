use Rattle.std.proofs.Common.{◌∙◌, ◌++◌, List, ap}
use Rattle.ken_work.specs.declared.items.Frozen.{Frozen}
use Rattle.ken_work.proofs.TakenOver.{handed_after_room}
use Rattle.ken_work.proofs.patcher.PatchWorker.receive.Goals as goal

pub returns-clause-handed : goal.returns-clause-handed
returns-clause-handed g c =
    let handed = c.hand_known.ensures.handed in
    record {
      turns = handed.turns;
      popped_are = c.beside-2.ensures.same.1 ∙ handed.popped_are ∙ ap (λ (fs : List Frozen). fs ++ handed.turns) (c.beside.ensures.same.1 ∙ c.is_drained.ensures.same.1);
      handed = handed_after_room g.D.Disk.told g.D.Disk.size handed.turns c.args.self.now.side c.reserve.new.self c.hand_known.new.self.side c.reserve.ensures.takes c.reserve.ensures.stands c.reserve.ensures.image c.reserve.ensures.known handed.handed;
    }
