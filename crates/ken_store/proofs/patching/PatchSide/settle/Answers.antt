use Rattle.std.proofs.Common.{◌≡◌, ◌*◌, ℕ, take, false, sym, subst, Err}
use Rattle.std.specs.Prelude.{IsErrOf}
use Rattle.std.proofs.lemmas.Result.{err_from_is_err_and}
use Rattle.ken_disk.specs.Story.{IsImage, IsAtRest}
use Rattle.ken_disk.specs.Moments.{Through}
use Rattle.ken_disk.proofs.Told.{weakened}
use Rattle.ken_image.specs.declared.faults.ImageFault.{ImageFault}
use Rattle.ken_image.specs.declared.faults.ImageFault.TheVariants.{Memory}
use Rattle.ken_cover.specs.Covers.{IsPossible}
use Rattle.ken_cover.specs.Sides.{pages_of, synced_pages, stays}
use Rattle.ken_cover.specs.Overlay.{AreWithin}
use Rattle.ken_store.specs.Ahead.{ahead_layers}
use Rattle.ken_store.proofs.Holding.{synced_err, through_sync, holds_synced, stands_after}
use Rattle.ken_store.proofs.PatchLaws.{settled_clean}
use Rattle.ken_store.proofs.patching.PatchSide.settle.Goals as goal

here : (e : ImageFault) → e ≡ Memory → IsErrOf {T = Unit {0}} (Err e) Memory
here e is = cc is

pub returns-in_err-sync-clause-stands : goal.returns-in_err-sync-clause-stands
returns-in_err-sync-clause-stands g c i p =
    let e = err_from_is_err_and c.from_residual.result c.from_residual.ensures.1 in
    rw (e.1, e.2) (synced_err g.D.Disk.told g.D.Disk.size c.args.self.now i p c.sync.new.self c.sync.ensures.count (Unit {0}) ℕ
    c.in_err-sync.field-0.0 (λ memory. (c.in_err-sync.ensures.goes_on (here c.in_err-sync.field-0.0 memory)).stands) c.in_err-sync.ensures.fails c.in_err-sync.ensures.calls)

pub returns-in_err-sync-clause-any_moment : goal.returns-in_err-sync-clause-any_moment
returns-in_err-sync-clause-any_moment g c i p =
    weakened (λ h s. Through (IsImage h.now) h s) (λ h s. Through (λ image. IsPossible i (take (256 * c.args.self.now.image.pages) image)) h s) _ _ c.sync.ensures.any_moment
    (λ h s told through. through_sync c.args.self.now.image.pages i h s (p.holds h told) through)

pub returns-clause-any_moment : goal.returns-clause-any_moment
returns-clause-any_moment g c i p =
    weakened (λ h s. Through (IsImage h.now) h s) (λ h s. Through (λ image. IsPossible i (take (256 * c.args.self.now.image.pages) image)) h s) _ _ c.sync.ensures.any_moment
    (λ h s told through. through_sync c.args.self.now.image.pages i h s (p.holds h told) through)

pub returns-clause-stands : goal.returns-clause-stands
returns-clause-stands g c i p =
    stands_after g.D.Disk.told g.D.Disk.size c.args.self.now (record c.args.self.now { image = c.sync.new.self }) i p
    (record { image = c.in_ok-sync.ensures.whole.stands; order = c.requires.side.order; within = subst (λ (n : ℕ). AreWithin n (pages_of (ahead_layers c.args.self.now.ahead.items))) (sym c.sync.ensures.count) c.requires.side.within })
    c.sync.ensures.count (synced_pages i) (λ h s. IsAtRest s.now × (s.now.seen ≡ h.now.seen)) c.in_ok-sync.ensures.stable p.ahead
    (λ h s holds rests. holds_synced c.args.self.now.image.pages i h.now s.now holds rests.0 rests.1)

pub returns-clause-clean : goal.returns-clause-clean
returns-clause-clean g c i t p behind q d e gone =
    settled_clean c.args.self.now.known c.args.self.now.ahead.items t i p.takes.order p.ahead behind q d e (subst (λ (k : ℕ). stays k d.turn ≡ false) c.settled.ensures gone)
