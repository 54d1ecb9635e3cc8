-- The rounds that were made show in the images that are kept.
use Rattle.std.proofs.Common.{◌≡◌, ◌∙◌, ℕ, ◌+◌, ◌*◌, ◌<◌, ◌≤◌, ⊎_elim, [], length, slice_index_or, Option, Some, None, sym, ap, subst, arith}
use Rattle.std.proofs.lemmas.Bool.{cases_lt}
use Rattle.std.proofs.lemmas.Option.{same_Some}
use Rattle.ken_disk.specs.Story.{Follows, Story, Tells}
use Rattle.ken_model.specs.declared.reports.Lines.{Lines}
use Rattle.ken_model.specs.Game.{Game}
use Rattle.ken_model.specs.Handler.{Handler}
use Rattle.ken_model.specs.Restarts.{restarts_of}
use Rattle.ken_store.specs.declared.disks.Disks.{Disks}
use Rattle.ken_node.specs.declared.watched.Watched.{Watched}
use Rattle.ken_node.specs.Stages.{HasDisks, image_told}
use Rattle.ken_run.specs.declared.run.Run.{Run}
use Rattle.ken_run.specs.declared.station.Station.{Station}
use Rattle.ken_run.specs.Patched.{AddsStates, AllAdd}
use Rattle.ken_drive.specs.Driven.{MadeRounds, Views}
use Rattle.ken_drive.specs.Ended.{IsEnded, IsReportOf, restarts_from}
use Rattle.ken_drive.specs.Finishing.{WasKept, unwatched}
use Rattle.ken_drive.proofs.Keeping.{element-at, restarts-at}
use Rattle.ken_drive.proofs.Recovering.{image-of}

-- a story that has so many past states more has so many
has-past : (many : ℕ) (old new : Option Story) (h : Story) → new ≡ Some h → Follows (λ (a b : Story). length a.past + many ≤ length b.past) old new → many ≤ length h.past
has-past many (Some a) new h is follows =
    let same : follows.0 ≡ h = same_Some follows.0 h (sym follows.1 ∙ is) in
    let more = follows.2 in
    subst (λ (x : Story). many ≤ length x.past) same (omega (arith, more))
has-past many None new h is follows = absurd (cc)

-- so of the image of a node that has no restart line
one-made : {D O U : Type 0} (told : D → Option Story) (many : ℕ) (a b : Station D O U) (disks : Disks (Watched D)) → HasDisks disks b.node.stage → AddsStates (λ w. told w.disk) many a b → b.lines.items ≡ [] → Tells (told disks.image.disk) (λ h. many ≤ length h.past)
one-made told many a b disks has adds none = λ h is.
    let count : length b.lines.items ≡ 0 = ap length none in
    let low = adds.lines in
    let same : length b.lines.items ≡ length a.lines.items = omega (arith, count, low) in
    has-past many (image_told (λ w. told w.disk) a.node.stage) (image_told (λ w. told w.disk) b.node.stage) h (image-of (λ w. told w.disk) disks b.node.stage has ∙ is) (adds.states same)

module _ {D O U A : Type 0} (views : Views D O U) (size : D → ℕ) (handles : A → Handler) (g : Game) (r : Run D O U A) (l : Lines) (ended : IsEnded (λ w. views.told w.disk) (λ w. size w.disk) views.took handles g r) (report : IsReportOf (λ w. views.told w.disk) (λ w. size w.disk) views.took handles g r ended l) where
  -- a node's restart lines are those of its station
  lines-are : (v : ℕ) (s : Station D O U) → slice_index_or r.stations.items v s ≡ s → v < length r.stations.items → restarts_of v l.restarts ≡ s.lines.items
  lines-are v s is low =
      let at : v ≡ 0 + v = omega arith in
      ap (restarts_of v) report.restarts ∙ ap (λ (k : ℕ). restarts_of k (restarts_from 0 r.stations.items)) at ∙ restarts-at v 0 r.stations.items s is low

  module _ (made : ℕ) (old : Run D O U A) (adds : AllAdd (λ w. views.told w.disk) (16 * made) old r) (kept : ℕ → Option (Disks D × O × U)) (each : (v : ℕ) (d : Station D O U) → v < length r.stations.items → WasKept (slice_index_or r.stations.items v d) (kept v)) where
    made-at : (v : ℕ) (disks : Disks D) (luck : O) (out : U) → v < length r.stations.items → restarts_of v l.restarts ≡ [] → kept v ≡ Some (disks, luck, out) → Tells (views.told disks.image) (λ h. 16 * made ≤ length h.past)
    made-at v disks luck out low none is =
        let at = element-at r.stations.items v low in
        let was = subst (λ (x : Station D O U). WasKept x (kept v)) at.is (each v at.element low) in
        let before : v < length old.stations.items = subst (λ (n : ℕ). v < n) adds.width low in
        let added = subst (λ (x : Station D O U). AddsStates (λ w. views.told w.disk) (16 * made) (slice_index_or old.stations.items v at.element) x) at.is (adds.each v at.element before) in
        let same : (unwatched was.disks, at.element.luck, at.element.out) ≡ (disks, luck, out) = same_Some (unwatched was.disks, at.element.luck, at.element.out) (disks, luck, out) (sym was.is ∙ is) in
        subst (λ (ds : Disks D). Tells (views.told ds.image) (λ h. 16 * made ≤ length h.past)) (ap (λ (x : Disks D × O × U). x.0) same)
        (one-made views.told (16 * made) (slice_index_or old.stations.items v at.element) at.element was.disks was.has added (sym (lines-are v at.element at.is low) ∙ none))

    pub made-rounds : ((v : ℕ) → length r.stations.items ≤ v → kept v ≡ None) → MadeRounds views.told made l.restarts kept
    made-rounds others = λ v disks luck out none is.
        ⊎_elim
        (λ (low : v < length r.stations.items). made-at v disks luck out low none is)
        (λ (past : length r.stations.items ≤ v). let no = others v past in absurd (cc))
        (cases_lt v (length r.stations.items))
