use Rattle.std.proofs.Common.{arith}
use Rattle.std.proofs.lemmas.Result.{on_ok_weaker}
use Rattle.ken_model.proofs.Unique.{value_of-unique}
use Rattle.ken_alloc.proofs.Held.{stands_seen, stands_rooted, held_after, err_same}
use Rattle.ken_alloc.proofs.objects.Objects.set_root.Goals as goal

pub invariant_of-self : goal.invariant_of-self
invariant_of-self c =
    let xs = c.self.inside.pages.bytes in
    let v = c.args.self.now.value in
    let stands = stands_seen c.self.inside.pages c.args.self.now c.self.invariant c.self.view_is in
    held_after c.write.result c.self.inside.pages c.write.new.self (record v { root = c.args.root }) c.self.invariant
    (on_ok_weaker c.write.result (λ is. stands_rooted xs v stands c.write.new.self.bytes _ c.args.root (omega arith) c.write_u64.ensures is) c.write.ensures.bytes)
    (err_same c.write.result c.self.inside.pages c.write.new.self c.self.invariant c.write.ensures.unchanged)
    c.write.ensures.begun

pub returns-clause-value : goal.returns-clause-value
returns-clause-value c =
    let xs = c.self.inside.pages.bytes in
    let v = c.args.self.now.value in
    let stands = stands_seen c.self.inside.pages c.args.self.now c.self.invariant c.self.view_is in
    on_ok_weaker c.write.result (λ is. value_of-unique c.write.new.self.bytes (record v { root = c.args.root }) (stands_rooted xs v stands c.write.new.self.bytes _ c.args.root (omega arith) c.write_u64.ensures is)) c.write.ensures.bytes
