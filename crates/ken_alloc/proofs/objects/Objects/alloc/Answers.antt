use Rattle.std.proofs.Common.{◌≡◌, ℕ, ◌+◌, ◌-◌, ◌≤◌, List, Option, Some, length, sym, ap, ◌∙◌, subst, arith}
use Rattle.std.specs.Prelude.{option_map}
use Rattle.ken_model.specs.Heap.{rounded, first_gap}
use Rattle.ken_alloc.specs.declared.walk.Gap.{Gap}
use Rattle.ken_alloc.specs.Objects.{FramedHeap}
use Rattle.ken_alloc.specs.Changes.{room_end, with_zeros_at}
use Rattle.ken_alloc.specs.Frames.{Frames, alloc_lacks, alloc_len, frames_in, frames_of, lacks, taken}
use Rattle.ken_model.proofs.Unique.{IsSized, IsSized-from_stands, value_of-unique}
use Rattle.ken_alloc.proofs.Cells.{IsRoom}
use Rattle.ken_alloc.proofs.Held.{stands_seen, value_seen, fit_seen, place_of_first, room_seen, room_end_seen, stands_with, stands_inside, held_by, on_err_any}
use Rattle.ken_alloc.proofs.objects.Objects.alloc.Goals as goal

pub returns-in_default-clause-place : goal.returns-in_default-clause-place
returns-in_default-clause-place c =
    let stands = stands_seen c.self.inside.pages c.args.self.now c.self.invariant c.self.view_is in
    sym (ap (λ (o : Option Gap). option_map (λ (g : Gap). g.from + 16) o) c.in_default.is)
    ∙ place_of_first c.self.inside.pages.bytes c.args.self.now.value c.args.size c.first_fit.result stands (value_seen c.self.inside.pages c.args.self.now c.self.view_is) c.first_fit.ensures

pub carve-requires-clause-fits : goal.carve-requires-clause-fits
carve-requires-clause-fits c =
    let xs = c.self.inside.pages.bytes in
    let v = c.args.self.now.value in
    let stands = stands_seen c.self.inside.pages c.args.self.now c.self.invariant c.self.view_is in
    let fit = fit_seen xs v c.args.size c.first_fit.result c.in-Some.gap (value_seen c.self.inside.pages c.args.self.now c.self.view_is) c.in-Some.is c.first_fit.ensures in
    let room : IsRoom (length xs) (16 + rounded c.args.size) 16 c.in-Some.gap = room_seen xs v stands c.args.size c.in-Some.gap fit in
    omega (arith, room.fits)

pub carve-requires-clause-rest : goal.carve-requires-clause-rest
carve-requires-clause-rest c =
    let xs = c.self.inside.pages.bytes in
    let v = c.args.self.now.value in
    let stands = stands_seen c.self.inside.pages c.args.self.now c.self.invariant c.self.view_is in
    let fit = fit_seen xs v c.args.size c.first_fit.result c.in-Some.gap (value_seen c.self.inside.pages c.args.self.now c.self.view_is) c.in-Some.is c.first_fit.ensures in
    let room : IsRoom (length xs) (16 + rounded c.args.size) 16 c.in-Some.gap = room_seen xs v stands c.args.size c.in-Some.gap fit in
    λ some. omega (arith, room.fits, room.even, room.even_to)

pub carve-requires-clause-within : goal.carve-requires-clause-within
carve-requires-clause-within c =
    let xs = c.self.inside.pages.bytes in
    let v = c.args.self.now.value in
    let stands = stands_seen c.self.inside.pages c.args.self.now c.self.invariant c.self.view_is in
    let fit = fit_seen xs v c.args.size c.first_fit.result c.in-Some.gap (value_seen c.self.inside.pages c.args.self.now c.self.view_is) c.in-Some.is c.first_fit.ensures in
    (room_seen xs v stands c.args.size c.in-Some.gap fit).within

pub overflow_add-result : goal.overflow_add-result
overflow_add-result c =
    let xs = c.self.inside.pages.bytes in
    let v = c.args.self.now.value in
    let stands = stands_seen c.self.inside.pages c.args.self.now c.self.invariant c.self.view_is in
    let fit = fit_seen xs v c.args.size c.first_fit.result c.in-Some.gap (value_seen c.self.inside.pages c.args.self.now c.self.view_is) c.in-Some.is c.first_fit.ensures in
    let room : IsRoom (length xs) (16 + rounded c.args.size) 16 c.in-Some.gap = room_seen xs v stands c.args.size c.in-Some.gap fit in
    let sized : IsSized xs = IsSized-from_stands xs v stands in
    omega (arith, room.fits, room.within, sized.small)

pub invariant_of-self : goal.invariant_of-self
invariant_of-self c =
    let xs = c.self.inside.pages.bytes in
    let v = c.args.self.now.value in
    let stands = stands_seen c.self.inside.pages c.args.self.now c.self.invariant c.self.view_is in
    let fit = fit_seen xs v c.args.size c.first_fit.result c.in-Some.gap (value_seen c.self.inside.pages c.args.self.now c.self.view_is) c.in-Some.is c.first_fit.ensures in
    held_by c.self.inside.pages c.carve.new.pages v c.self.invariant (stands_inside xs v stands c.carve.new.pages.bytes c.args.size c.in-Some.gap fit c.in_err-carve.ensures.stays) c.carve.ensures.begun

pub returns-in_err-carve-clause-unchanged : goal.returns-in_err-carve-clause-unchanged
returns-in_err-carve-clause-unchanged c =
    let xs = c.self.inside.pages.bytes in
    let v = c.args.self.now.value in
    let stands = stands_seen c.self.inside.pages c.args.self.now c.self.invariant c.self.view_is in
    let fit = fit_seen xs v c.args.size c.first_fit.result c.in-Some.gap (value_seen c.self.inside.pages c.args.self.now c.self.view_is) c.in-Some.is c.first_fit.ensures in
    on_err_any c.from_residual.result _ (value_of-unique c.carve.new.pages.bytes v (stands_inside xs v stands c.carve.new.pages.bytes c.args.size c.in-Some.gap fit c.in_err-carve.ensures.stays))

pub invariant_of-self-2 : goal.invariant_of-self-2
invariant_of-self-2 c =
    let xs = c.self.inside.pages.bytes in
    let v = c.args.self.now.value in
    let e = c.in_ok-carve.ensures in
    let stands = stands_seen c.self.inside.pages c.args.self.now c.self.invariant c.self.view_is in
    let fit = fit_seen xs v c.args.size c.first_fit.result c.in-Some.gap (value_seen c.self.inside.pages c.args.self.now c.self.view_is) c.in-Some.is c.first_fit.ensures in
    held_by c.self.inside.pages c.carve.new.pages _ c.self.invariant (stands_with xs v stands c.carve.new.pages.bytes c.args.size c.in-Some.gap c.requires.some fit e.bytes) c.carve.ensures.begun

pub returns-clause-place : goal.returns-clause-place
returns-clause-place c =
    let stands = stands_seen c.self.inside.pages c.args.self.now c.self.invariant c.self.view_is in
    sym (ap (λ (o : Option Gap). option_map (λ (g : Gap). g.from + 16) o) c.in-Some.is)
    ∙ place_of_first c.self.inside.pages.bytes c.args.self.now.value c.args.size c.first_fit.result stands (value_seen c.self.inside.pages c.args.self.now c.self.view_is) c.first_fit.ensures

pub returns-clause-value : goal.returns-clause-value
returns-clause-value c =
    let xs = c.self.inside.pages.bytes in
    let v = c.args.self.now.value in
    let e = c.in_ok-carve.ensures in
    let stands = stands_seen c.self.inside.pages c.args.self.now c.self.invariant c.self.view_is in
    let fit = fit_seen xs v c.args.size c.first_fit.result c.in-Some.gap (value_seen c.self.inside.pages c.args.self.now c.self.view_is) c.in-Some.is c.first_fit.ensures in
    value_of-unique c.carve.new.pages.bytes _ (stands_with xs v stands c.carve.new.pages.bytes c.args.size c.in-Some.gap c.requires.some fit e.bytes)

pub returns-clause-bytes : goal.returns-clause-bytes
returns-clause-bytes c =
    let xs = c.self.inside.pages.bytes in
    let v = c.args.self.now.value in
    let stands = stands_seen c.self.inside.pages c.args.self.now c.self.invariant c.self.view_is in
    let fit = fit_seen xs v c.args.size c.first_fit.result c.in-Some.gap (value_seen c.self.inside.pages c.args.self.now c.self.view_is) c.in-Some.is c.first_fit.ensures in
    let seen : xs ≡ c.args.self.now.bytes = ap (λ (h : FramedHeap). h.bytes) c.self.view_is in
    c.in_ok-carve.ensures.bytes ∙ ap (λ (k : ℕ). with_zeros_at (c.in-Some.gap.from + 16) c.args.size k xs) (sym (room_end_seen xs v stands c.args.size c.in-Some.gap fit)) ∙ ap (λ (ws : List ℕ). with_zeros_at (c.in-Some.gap.from + 16) c.args.size (room_end v (c.in-Some.gap.from + 16)) ws) seen

pub returns-in_err-carve-clause-covered : goal.returns-in_err-carve-clause-covered
returns-in_err-carve-clause-covered c covered =
    let xs = c.self.inside.pages.bytes in
    let v = c.args.self.now.value in
    let stands = stands_seen c.self.inside.pages c.args.self.now c.self.invariant c.self.view_is in
    let fit = fit_seen xs v c.args.size c.first_fit.result c.in-Some.gap (value_seen c.self.inside.pages c.args.self.now c.self.view_is) c.in-Some.is c.first_fit.ensures in
    let ends : room_end v (c.in-Some.gap.from + 16) ≡ c.in-Some.gap.to = room_end_seen xs v stands c.args.size c.in-Some.gap fit in
    let back : c.in-Some.gap.from + 16 - 16 ≡ c.in-Some.gap.from = omega arith in
    let seen : frames_of c.self.inside.pages ≡ frames_in c.args.self.now = ap frames_in c.self.view_is in
    let place : Some (c.in-Some.gap.from + 16) ≡ first_gap v c.args.size =
    sym (ap (λ (o : Option Gap). option_map (λ (g : Gap). g.from + 16) o) c.in-Some.is)
    ∙ place_of_first xs v c.args.size c.first_fit.result stands (value_seen c.self.inside.pages c.args.self.now c.self.view_is) c.first_fit.ensures
    in
    let whole = subst (λ (o : Option ℕ). alloc_lacks o c.args.size v (frames_in c.args.self.now) ≤ c.args.self.now.spare) (sym place) covered in
    let ended = subst (λ (e : ℕ). lacks (c.in-Some.gap.from + 16 - 16) (alloc_len (c.in-Some.gap.from + 16) c.args.size e) (frames_in c.args.self.now) ≤ c.args.self.now.spare) ends whole in
    let begun = subst (λ (k : ℕ). lacks k (alloc_len (c.in-Some.gap.from + 16) c.args.size c.in-Some.gap.to) (frames_in c.args.self.now) ≤ c.args.self.now.spare) back ended in
    let ok = c.in_err-carve.ensures.covered (subst (λ (f : Frames). lacks c.in-Some.gap.from (alloc_len (c.in-Some.gap.from + 16) c.args.size c.in-Some.gap.to) f ≤ f.spare) (sym seen) begun) in
    absurd (let none : ⊥ = cc ok in none)

pub returns-clause-frames : goal.returns-clause-frames
returns-clause-frames c =
    let xs = c.self.inside.pages.bytes in
    let v = c.args.self.now.value in
    let stands = stands_seen c.self.inside.pages c.args.self.now c.self.invariant c.self.view_is in
    let fit = fit_seen xs v c.args.size c.first_fit.result c.in-Some.gap (value_seen c.self.inside.pages c.args.self.now c.self.view_is) c.in-Some.is c.first_fit.ensures in
    let ends : room_end v (c.in-Some.gap.from + 16) ≡ c.in-Some.gap.to = room_end_seen xs v stands c.args.size c.in-Some.gap fit in
    let back : c.in-Some.gap.from + 16 - 16 ≡ c.in-Some.gap.from = omega arith in
    let seen : frames_of c.self.inside.pages ≡ frames_in c.args.self.now = ap frames_in c.self.view_is in
    c.in_ok-carve.ensures.frames
    ∙ ap (taken c.in-Some.gap.from (alloc_len (c.in-Some.gap.from + 16) c.args.size c.in-Some.gap.to)) seen
    ∙ ap (λ (k : ℕ). taken k (alloc_len (c.in-Some.gap.from + 16) c.args.size c.in-Some.gap.to) (frames_in c.args.self.now)) (sym back)
    ∙ ap (λ (e : ℕ). taken (c.in-Some.gap.from + 16 - 16) (alloc_len (c.in-Some.gap.from + 16) c.args.size e) (frames_in c.args.self.now)) (sym ends)
