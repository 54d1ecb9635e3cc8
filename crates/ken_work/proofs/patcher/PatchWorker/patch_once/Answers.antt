use Rattle.std.proofs.Common.{◌≡◌, ◌∙◌, Bool, Result, refl, sym, ap, subst}
use Rattle.ken_store.specs.declared.faults.StoreFault.{StoreFault}
use Rattle.ken_work.specs.Faults.{store_answer}
use Rattle.ken_work.specs.Patches.{Patches, went}
use Rattle.ken_work.proofs.StoreAnswers.{store_answer-node_answer}
use Rattle.ken_work.proofs.patcher.PatchWorker.patch_once.Goals as goal

pub returns-clause-patches : goal.returns-clause-patches
returns-clause-patches g c =
    let e = c.patch_next.ensures in
    let is : store_answer c.answered.result ≡ c.patch_next.result = ap store_answer c.answered.ensures ∙ store_answer-node_answer c.patch_next.result in
    went c.take_over.new.self c.in_ok-take_over.ensures.ok refl
    (subst (λ (r : Result Bool StoreFault). Patches g.D.Disk.told g.D.Disk.size g.D.Disk.faults g.D.Disk.fate r c.take_over.new.self.side c.patch_next.new.self) (sym is)
    (record { stands = e.stands; any_moment = e.any_moment; calls = e.calls; more = e.more; takes = e.takes; goes_on = e.goes_on; fails = e.fails; spent = e.spent; ahead = e.ahead; known = e.known; pages = e.count; cause = e.cause; fate_of = e.fate }))
