use Rattle.std.proofs.Common.{length, arith}
use Rattle.std.proofs.lemmas.Result.{on_ok_weaker}
use Rattle.ken_alloc.specs.Objects.{rewritten}
use Rattle.ken_model.proofs.Unique.{value_of-unique}
use Rattle.ken_alloc.proofs.Held.{IsWithin, stands_seen, part_seen, stands_rewritten, held_after, err_same}
use Rattle.ken_alloc.proofs.objects.Objects.write.Goals as goal

pub overflow_add-place : goal.overflow_add-place
overflow_add-place c =
    let w : IsWithin c.self.inside.pages.bytes c.args.place c.args.at (length c.args.bytes.now) c.args.self.now.value.blocks = part_seen c.self.inside.pages.bytes c.args.self.now.value c.args.place c.args.at (length c.args.bytes.now) (stands_seen c.self.inside.pages c.args.self.now c.self.invariant c.self.view_is) c.requires.within in
    omega (arith, w.within, w.seen.small)

pub write-requires-clause-within : goal.write-requires-clause-within
write-requires-clause-within c =
    let w : IsWithin c.self.inside.pages.bytes c.args.place c.args.at (length c.args.bytes.now) c.args.self.now.value.blocks = part_seen c.self.inside.pages.bytes c.args.self.now.value c.args.place c.args.at (length c.args.bytes.now) (stands_seen c.self.inside.pages c.args.self.now c.self.invariant c.self.view_is) c.requires.within in
    w.within

pub invariant_of-self : goal.invariant_of-self
invariant_of-self c =
    let xs = c.self.inside.pages.bytes in
    let v = c.args.self.now.value in
    let stands = stands_seen c.self.inside.pages c.args.self.now c.self.invariant c.self.view_is in
    let w : IsWithin c.self.inside.pages.bytes c.args.place c.args.at (length c.args.bytes.now) c.args.self.now.value.blocks = part_seen xs v c.args.place c.args.at (length c.args.bytes.now) stands c.requires.within in
    held_after c.write.result c.self.inside.pages c.write.new.self (record v { blocks = rewritten c.args.place c.args.at c.args.bytes.now v.blocks }) c.self.invariant
    (on_ok_weaker c.write.result (λ is. stands_rewritten xs v stands c.write.new.self.bytes c.args.bytes.now c.args.place c.args.at w is) c.write.ensures.bytes)
    (err_same c.write.result c.self.inside.pages c.write.new.self c.self.invariant c.write.ensures.unchanged)
    c.write.ensures.begun

pub returns-clause-value : goal.returns-clause-value
returns-clause-value c =
    let xs = c.self.inside.pages.bytes in
    let v = c.args.self.now.value in
    let stands = stands_seen c.self.inside.pages c.args.self.now c.self.invariant c.self.view_is in
    let w : IsWithin c.self.inside.pages.bytes c.args.place c.args.at (length c.args.bytes.now) c.args.self.now.value.blocks = part_seen xs v c.args.place c.args.at (length c.args.bytes.now) stands c.requires.within in
    on_ok_weaker c.write.result (λ is. value_of-unique c.write.new.self.bytes (record v { blocks = rewritten c.args.place c.args.at c.args.bytes.now v.blocks }) (stands_rewritten xs v stands c.write.new.self.bytes c.args.bytes.now c.args.place c.args.at w is)) c.write.ensures.bytes
