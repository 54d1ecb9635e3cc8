use Rattle.ken_store.specs.Apart.{disks_apart}
use Rattle.ken_node.proofs.RestartSynced.{stage-synced, unless-with}
use Rattle.ken_node.specs.declared.stage.Stage.TheVariants.{Created}
use Rattle.ken_node.specs.Up.{IsUp}
use Rattle.ken_node.specs.Synced.{IsSynced}
use Rattle.ken_node.specs.Stages.{image_told}
use Rattle.std.proofs.Common.{ap, refl, subst, sym, ◌∙◌}
use Rattle.ken_node.proofs.node.Node.turn.Goals as goal

pub returns-clause-steps : goal.returns-clause-steps
returns-clause-steps g c = λ game v n up of_run.
    c.turn.ensures.steps game v n
    (record {
      limits = up.limits;
      known = up.known;
      handler = up.handler;
      patcher = up.patcher;
      sender = up.sender;
      stage_is = sym c.in-Created.is ∙ up.stage_is;
      whole = up.whole;
      empty = up.empty;
      unspent = up.unspent;
      tell = up.tell;
    })
    of_run

pub returns-clause-synced : goal.returns-clause-synced
returns-clause-synced g c = λ game v n up of_run before.
    let told = g.D.Disk.told in
    let faults = g.D.Disk.faults in
    let is = c.in-Created.is in
    let t = c.turn.new.turns in
    let p = c.turn.new.patches in
    let had = subst (IsSynced told faults game v) is before in
    unless-with c.turn.result _ _ (stage-synced told faults game v (disks_apart t.side p.side) (Created t p c.turn.new.sends) refl)
    (c.turn.ensures.synced game v n (subst (IsUp told g.D.Disk.size game v n) is up) of_run (had _ refl))

pub returns-clause-image : goal.returns-clause-image
returns-clause-image g c = c.turn.ensures.image ∙ sym (ap (image_told g.D.Disk.told) c.in-Created.is)
