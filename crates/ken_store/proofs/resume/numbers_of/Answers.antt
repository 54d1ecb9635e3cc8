use Rattle.std.proofs.Common.{◌≡◌, ◌+◌, ◌∙◌, ap, arith}
use Rattle.ken_store.proofs.Places.{place_after-take, place_after-end}
use Rattle.ken_store.proofs.resume.numbers_of.Goals as goal

pub place_after-requires-clause-end : goal.place_after-requires-clause-end
place_after-requires-clause-end g c =
    let len : c.from-gate.result ≡ c.args.log.now.header.base_len = c.from-gate.ensures ∙ ap (λ h. h.base_len) c.header.ensures in
    rw len (omega (arith, c.requires.end, place_after-take (32 + c.args.log.now.header.base_len) c.in-Err.index c.args.records.now, place_after-end c.args.log.now.header c.args.log.now.base c.args.records.now c.requires.head))
