use Rattle.std.proofs.Common.{◌∙◌, ap, sym, arith}
use Rattle.ken_record.specs.Reading.{header_at}
use Rattle.ken_store.specs.Logs.{front_from}
use Rattle.ken_store.proofs.Reading.{front_short, front_closed, front_open, read_gate, read_rest}
use Rattle.ken_store.proofs.heads.front_on.Goals as goal

pub returns-then-len-clause-front : goal.returns-then-len-clause-front
returns-then-len-clause-front g c = λ h told.
    let size = g.met.D.Disk.sized _ h told in
    front_short h.now.seen (omega (arith, size, c.len.ensures, c.if-len.true))

pub returns-then-bytes-clause-front : goal.returns-then-bytes-clause-front
returns-then-bytes-clause-front g c = λ h told.
    front_closed h.now.seen (λ stands. c.if-bytes.true (read_gate h.now.seen c.read.new.buf (c.in_ok-read.ensures.bytes h told) ∙ stands))

pub returns-clause-front : goal.returns-clause-front
returns-clause-front g c = λ h told.
    let size = g.met.D.Disk.sized _ h told in
    let read = c.in_ok-read.ensures.bytes h told in
    let stands = sym (read_gate h.now.seen c.read.new.buf read) ∙ c.if-bytes.false in
    let same = ap (λ l. front_from (header_at l)) (read_rest h.now.seen c.read.new.buf read) ∙ front_open h.now.seen (omega (arith, size, c.len.ensures, c.if-len.false)) stands in
    rw (sym same) c.header_in.ensures.front
