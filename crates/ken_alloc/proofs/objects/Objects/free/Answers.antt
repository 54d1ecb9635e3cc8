use Rattle.std.proofs.Common.{◌≡◌, ℕ, ◌≤◌, List, Option, is_some, sym, subst, ap, ◌∙◌, arith}
use Rattle.std.proofs.lemmas.Result.{on_ok_weaker}
use Rattle.ken_model.specs.Heap.{without_block, block_at}
use Rattle.ken_alloc.specs.declared.walk.Gap.{Gap}
use Rattle.ken_alloc.specs.Objects.{FramedHeap}
use Rattle.ken_alloc.specs.Changes.{after_free, room_start}
use Rattle.ken_alloc.specs.Frames.{Frames, frames_in, frames_of, lacks, taken}
use Rattle.ken_model.proofs.Unique.{value_of-unique}
use Rattle.ken_alloc.proofs.Held.{stands_seen, value_seen, hole_found, hole_seen, is_some_seen, held_after, err_same, freed, freed_bytes, room_seen_hole}
use Rattle.ken_alloc.proofs.objects.Objects.free.Goals as goal

pub unreachable-requires : goal.unreachable-requires
unreachable-requires c =
    let seen : is_some c.hole.result ≡ is_some (block_at c.args.place c.args.self.now.value.blocks) = is_some_seen c.self.inside.pages.bytes c.args.self.now.value c.args.place c.hole.result (value_seen c.self.inside.pages c.args.self.now c.self.view_is) c.hole.ensures in
    let none = ap (λ (o : Option Gap). is_some o) c.in_default.is in
    let some = c.requires.block in
    absurd cc

pub overflow_sub-gap : goal.overflow_sub-gap
overflow_sub-gap c =
    let stands = stands_seen c.self.inside.pages c.args.self.now c.self.invariant c.self.view_is in
    let r = hole_seen c.self.inside.pages.bytes c.args.self.now.value stands c.args.place c.in-Some.hole (hole_found c.self.inside.pages.bytes c.args.self.now.value c.args.place c.hole.result c.in-Some.hole (value_seen c.self.inside.pages c.args.self.now c.self.view_is) c.in-Some.is c.hole.ensures) in
    omega (arith, r.0.fits)

pub overflow_cast-gap : goal.overflow_cast-gap
overflow_cast-gap c =
    let stands = stands_seen c.self.inside.pages c.args.self.now c.self.invariant c.self.view_is in
    let r = hole_seen c.self.inside.pages.bytes c.args.self.now.value stands c.args.place c.in-Some.hole (hole_found c.self.inside.pages.bytes c.args.self.now.value c.args.place c.hole.result c.in-Some.hole (value_seen c.self.inside.pages c.args.self.now c.self.view_is) c.in-Some.is c.hole.ensures) in
    omega (arith, r.0.within, r.1)

pub write-requires-clause-within : goal.write-requires-clause-within
write-requires-clause-within c =
    let stands = stands_seen c.self.inside.pages c.args.self.now c.self.invariant c.self.view_is in
    let r = hole_seen c.self.inside.pages.bytes c.args.self.now.value stands c.args.place c.in-Some.hole (hole_found c.self.inside.pages.bytes c.args.self.now.value c.args.place c.hole.result c.in-Some.hole (value_seen c.self.inside.pages c.args.self.now c.self.view_is) c.in-Some.is c.hole.ensures) in
    omega (arith, r.0.fits, r.0.within)

pub invariant_of-self : goal.invariant_of-self
invariant_of-self c =
    let xs = c.self.inside.pages.bytes in
    let v = c.args.self.now.value in
    let stands = stands_seen c.self.inside.pages c.args.self.now c.self.invariant c.self.view_is in
    let hole = hole_found xs v c.args.place c.hole.result c.in-Some.hole (value_seen c.self.inside.pages c.args.self.now c.self.view_is) c.in-Some.is c.hole.ensures in
    held_after c.write.result c.self.inside.pages c.write.new.pages (record v { blocks = without_block c.args.place v.blocks }) c.self.invariant
    (freed xs v stands c.write.new.pages.bytes c.args.place c.in-Some.hole hole c.write.result c.write.ensures.bytes)
    (err_same c.write.result c.self.inside.pages c.write.new.pages c.self.invariant c.write.ensures.unchanged)
    c.write.ensures.begun

pub returns-clause-value : goal.returns-clause-value
returns-clause-value c =
    let xs = c.self.inside.pages.bytes in
    let v = c.args.self.now.value in
    let stands = stands_seen c.self.inside.pages c.args.self.now c.self.invariant c.self.view_is in
    let hole = hole_found xs v c.args.place c.hole.result c.in-Some.hole (value_seen c.self.inside.pages c.args.self.now c.self.view_is) c.in-Some.is c.hole.ensures in
    on_ok_weaker c.write.result (λ s. value_of-unique c.write.new.pages.bytes (record v { blocks = without_block c.args.place v.blocks }) s)
    (freed xs v stands c.write.new.pages.bytes c.args.place c.in-Some.hole hole c.write.result c.write.ensures.bytes)

pub returns-clause-bytes : goal.returns-clause-bytes
returns-clause-bytes c =
    let xs = c.self.inside.pages.bytes in
    let v = c.args.self.now.value in
    let stands = stands_seen c.self.inside.pages c.args.self.now c.self.invariant c.self.view_is in
    let hole = hole_found xs v c.args.place c.hole.result c.in-Some.hole (value_seen c.self.inside.pages c.args.self.now c.self.view_is) c.in-Some.is c.hole.ensures in
    let seen : xs ≡ c.args.self.now.bytes = ap (λ (h : FramedHeap). h.bytes) c.self.view_is in
    on_ok_weaker c.write.result (λ is. freed_bytes xs v stands c.write.new.pages.bytes c.args.place c.in-Some.hole hole is ∙ ap (λ (ws : List ℕ). after_free c.args.place v ws) seen) c.write.ensures.bytes

pub returns-clause-covered : goal.returns-clause-covered
returns-clause-covered c covered =
    let xs = c.self.inside.pages.bytes in
    let v = c.args.self.now.value in
    let stands = stands_seen c.self.inside.pages c.args.self.now c.self.invariant c.self.view_is in
    let hole = hole_found xs v c.args.place c.hole.result c.in-Some.hole (value_seen c.self.inside.pages c.args.self.now c.self.view_is) c.in-Some.is c.hole.ensures in
    let start : room_start v c.args.place ≡ c.in-Some.hole.from = (room_seen_hole xs v stands c.args.place c.in-Some.hole hole).0 in
    let seen : frames_of c.self.inside.pages ≡ frames_in c.args.self.now = ap frames_in c.self.view_is in
    c.write.ensures.covered (subst (λ (f : Frames). lacks c.in-Some.hole.from 16 f ≤ f.spare) (sym seen) (subst (λ (k : ℕ). lacks k 16 (frames_in c.args.self.now) ≤ c.args.self.now.spare) start covered))

pub returns-clause-frames : goal.returns-clause-frames
returns-clause-frames c =
    let xs = c.self.inside.pages.bytes in
    let v = c.args.self.now.value in
    let stands = stands_seen c.self.inside.pages c.args.self.now c.self.invariant c.self.view_is in
    let hole = hole_found xs v c.args.place c.hole.result c.in-Some.hole (value_seen c.self.inside.pages c.args.self.now c.self.view_is) c.in-Some.is c.hole.ensures in
    let start : room_start v c.args.place ≡ c.in-Some.hole.from = (room_seen_hole xs v stands c.args.place c.in-Some.hole hole).0 in
    let seen : frames_of c.self.inside.pages ≡ frames_in c.args.self.now = ap frames_in c.self.view_is in
    on_ok_weaker c.write.result (λ is. is ∙ ap (taken c.in-Some.hole.from 16) seen ∙ ap (λ (k : ℕ). taken k 16 (frames_in c.args.self.now)) (sym start)) c.write.ensures.frames
