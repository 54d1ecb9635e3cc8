use Rattle.std.proofs.Common.{◌≡◌, ◌≤◌, ◌∙◌, [], ◌∷◌, length, sym, ap, arith}
use Rattle.ken_disk.specs.Steps.{after_write}
use Rattle.ken_disk.proofs.Told.{by_step, tells_after}
use Rattle.ken_image.specs.Calls.{Write}
use Rattle.ken_image.specs.Pages.{place_of, ChangesPage, IsTornPage}
use Rattle.ken_image.specs.Whole.{Keeps}
use Rattle.ken_image.proofs.Kept.{keeps_written, keeps_write, page_synced, page_seen, torn_none, torn_page}
use Rattle.ken_image.proofs.Changes.{changes_page}
use Rattle.ken_image.proofs.Called.{wrote, wrote_ok, through_write, told_fault}
use Rattle.ken_image.proofs.image.Image.patch.Goals as goal

pub returns-in-Err-clause-calls : goal.returns-in-Err-clause-calls
returns-in-Err-clause-calls g c =
    rw (c.failed.ensures.fault, c.failed.ensures.disk) (told_fault (Write (place_of c.args.page) c.args.bytes.now ∷ []) (Unit {0}) (Unit {0}) _ _ _ _ c.in-Err.is
    (wrote (place_of c.args.page) c.args.bytes.now _ _ _ (rw (c.place.ensures, c.as_slice.ensures.same) at c.write.ensures.story)))

pub returns-in-Err-clause-any_moment : goal.returns-in-Err-clause-any_moment
returns-in-Err-clause-any_moment g c =
    let long : length c.args.bytes.now ≡ 256 = ap length (sym c.as_slice.ensures.same) ∙ c.as_slice.ensures.whole in
    rw c.failed.ensures.disk (through_write (place_of c.args.page) c.args.bytes.now (λ h. IsTornPage c.args.page h.now) _ _ _ (rw (c.place.ensures, c.as_slice.ensures.same) at c.write.ensures.story)
    (λ h told. torn_none c.args.page h.now)
    (λ h told. torn_page c.args.page c.args.bytes.now h.now long (page_synced c.args.self.now.pages c.args.page h.now c.requires.page (c.requires.whole.stands.keeps h told))))

pub returns-in-Ok-clause-any_moment : goal.returns-in-Ok-clause-any_moment
returns-in-Ok-clause-any_moment g c =
    let long : length c.args.bytes.now ≡ 256 = ap length (sym c.as_slice.ensures.same) ∙ c.as_slice.ensures.whole in
    through_write (place_of c.args.page) c.args.bytes.now (λ h. IsTornPage c.args.page h.now) _ _ _ (rw (c.place.ensures, c.as_slice.ensures.same) at c.write.ensures.story)
    (λ h told. torn_none c.args.page h.now)
    (λ h told. torn_page c.args.page c.args.bytes.now h.now long (page_synced c.args.self.now.pages c.args.page h.now c.requires.page (c.requires.whole.stands.keeps h told)))

pub returns-in-Ok-clause-changes : goal.returns-in-Ok-clause-changes
returns-in-Ok-clause-changes g c =
    let long : length c.args.bytes.now ≡ 256 = ap length (sym c.as_slice.ensures.same) ∙ c.as_slice.ensures.whole in
    wrote_ok (λ h s. ChangesPage c.args.page c.args.bytes.now h.now.seen s.now.seen) _ _ _ _ c.in-Ok.is (place_of c.args.page) c.args.bytes.now (rw (c.place.ensures, c.as_slice.ensures.same) at c.write.ensures.story)
    (λ h told. changes_page c.args.page c.args.bytes.now h.now.seen long (page_seen c.args.self.now.pages c.args.page h.now c.requires.page (c.requires.whole.stands.keeps h told)))

pub returns-in-Ok-clause-whole : goal.returns-in-Ok-clause-whole
returns-in-Ok-clause-whole g c = record {
  stands = record {
    room = omega (arith, c.requires.whole.stands.room, c.in-Ok.ensures.size);
    keeps = tells_after (λ h s. Keeps c.args.self.now.pages h.now → Keeps c.args.self.now.pages s.now) (λ h. Keeps c.args.self.now.pages h.now) _ _
        (wrote_ok (λ h s. Keeps c.args.self.now.pages h.now → Keeps c.args.self.now.pages s.now) _ _ _ _ c.in-Ok.is (place_of c.args.page) c.args.bytes.now (rw (c.place.ensures, c.as_slice.ensures.same) at c.write.ensures.story)
        (λ h told. keeps_written c.args.self.now.pages (place_of c.args.page) c.args.bytes.now h.now (let inside : place_of c.args.page ≤ place_of c.args.self.now.pages = omega (arith, c.requires.page) in inside)))
        (λ h s told so. so (c.requires.whole.stands.keeps h told));
  };
  unspent = c.requires.whole.unspent;
}

pub returns-in-Err-clause-fails : goal.returns-in-Err-clause-fails
returns-in-Err-clause-fails g c = λ s told.
    let n = c.args.self.now.pages in
    let at = place_of c.args.page in
    let inside : at ≤ place_of n = omega (arith, c.requires.page) in
    let kept = tells_after (λ h x. Keeps n h.now → Keeps n x.now) (λ x. Keeps n x.now) _ _
    (by_step (after_write at c.args.bytes.now c.write.result) (λ h x. Keeps n h.now → Keeps n x.now) _ _ (rw (c.place.ensures, c.as_slice.ensures.same) at c.write.ensures.story) (λ h _. keeps_write n at c.args.bytes.now c.write.result h inside))
    (λ h x was so. so (c.requires.whole.stands.keeps h was)) in
    let now = kept s (ap g.D.Disk.told (sym c.failed.ensures.disk) ∙ told) in
    let size = g.met.D.Disk.sized _ s told in
    record { room = rw c.failed.ensures.count (omega (arith, now.long, now.seen.no_shorter, size)); keeps = rw (c.failed.ensures.disk, c.failed.ensures.count) kept }
