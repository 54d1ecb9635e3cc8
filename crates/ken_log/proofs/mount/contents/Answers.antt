use Rattle.std.proofs.Common.{◌≡◌, ◌∙◌, ◌≤◌, length, ap, arith}
use Rattle.std.proofs.lemmas.List.{take_all}
use Rattle.ken_record.proofs.Places.{all_written}
use Rattle.ken_log.proofs.mount.contents.Goals as goal

pub returns-clause-bytes : goal.returns-clause-bytes
returns-clause-bytes g c = λ h told.
    let size = g.met.D.Disk.sized _ h told in
    let value = ap length c.deref_mut.ensures.value in
    let long : length h.now.seen ≤ length c.deref_mut.result.now = omega (arith, size, value, c.deref_mut.ensures.len, c.in_ok-resize.ensures.len, c.len.ensures) in
    let is : c.read.new.buf ≡ h.now.seen = c.in_ok-read.ensures.bytes h told ∙ take_all (length c.deref_mut.result.now) h.now.seen long in
    let all = ap length is in
    all_written c.read.new.buf c.resize.new.self.items c.resize.new.self.len (omega (arith, all, size, value, c.deref_mut.ensures.len, c.in_ok-resize.ensures.len, c.len.ensures)) (omega (arith, value, c.deref_mut.ensures.len, c.in_ok-resize.ensures.len)) ∙ is
