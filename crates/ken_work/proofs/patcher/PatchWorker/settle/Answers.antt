use Rattle.std.proofs.Common.{◌≡◌, ◌∙◌, ◌∷◌, [], ◌++◌, ℕ, Result, Ok, IfOk, OnOk, refl, sym, ap, subst}
use Rattle.ken_disk.specs.Causes.{HasCause}
use Rattle.ken_disk.specs.Fates.{Suffers}
use Rattle.ken_disk.specs.Story.{Follows}
use Rattle.ken_cover.specs.Covers.{MayLeaveOut}
use Rattle.ken_cover.specs.Sides.{synced_pages}
use Rattle.ken_image.specs.Calls.{Sync, Called}
use Rattle.ken_links.specs.Rings.{pushed}
use Rattle.ken_store.specs.declared.faults.StoreFault.{StoreFault}
use Rattle.ken_store.specs.Patching.{Patching, SettlesBy, TakesPatches, disk_answer, settled_turn}
use Rattle.ken_work.proofs.StoreAnswers.{was_ok}
use Rattle.ken_work.proofs.patcher.PatchWorker.settle.Goals as goal

pub returns-clause-settles : goal.returns-clause-settles
returns-clause-settles g c =
    let e = c.settle.ensures in
    let told = g.D.Disk.told in
    let old = c.args.self.now in
    let new = c.settle.new.self in
    let is : c.settle.result ≡ Ok c.in_ok-turn.turn = was_ok c.settle.result c.in_ok-turn.turn (sym c.answered.ensures ∙ c.in_ok-turn.was) in
    let turn : c.in_ok-turn.turn ≡ settled_turn old.side.known old.side.ahead.items = subst (λ (r : Result ℕ StoreFault). IfOk r (λ t. t ≡ settled_turn old.side.known old.side.ahead.items)) is e.told in
    record {
      pages = refl;
      stands = λ i p. subst (λ (r : Result ℕ StoreFault). SettlesBy (told new.image.disk) r (Patching told g.D.Disk.size new) i) is (e.stands i p);
      clean = λ i t p ahead. subst (λ (n : ℕ). MayLeaveOut n t (synced_pages i)) turn (subst (λ (r : Result ℕ StoreFault). IfOk r (λ n. MayLeaveOut n t (synced_pages i))) is (e.clean i t p ahead));
      any_moment = e.any_moment;
      calls = subst (λ (r : Result ℕ StoreFault). Follows (Called (disk_answer r) (Sync ∷ [])) (told old.side.image.disk) (told new.image.disk)) is e.calls;
      takes = subst (λ (r : Result ℕ StoreFault). OnOk r (TakesPatches told g.D.Disk.size new)) is e.takes;
      goes_on = λ memory. absurd (let no : ⊥ = cc memory in no);
      fails = tt;
      spent = λ disk. absurd (let no : ⊥ = cc disk in no);
      ahead = e.ahead;
      known = e.known;
      count_is = e.count;
      cause = subst (λ (r : Result ℕ StoreFault). HasCause (g.D.Disk.faults old.side.image.disk) (g.D.Disk.faults new.image.disk) (disk_answer r)) is e.cause;
      fate_of = subst (λ (r : Result ℕ StoreFault). Follows (Suffers (disk_answer r)) (g.D.Disk.fate old.side.image.disk) (g.D.Disk.fate new.image.disk)) is e.fate;
      tells =
          c.push.ensures.pushed ∙ ap (λ (n : ℕ). pushed old.settled ++ record { by = n; turn = c.in_ok-turn.turn } ∷ []) (c.known.ensures ∙ e.known)
          ∙ ap (λ (n : ℕ). pushed old.settled ++ record { by = old.side.known; turn = n } ∷ []) turn;
      slot = c.push.ensures.free;
      untold = tt;
    }
