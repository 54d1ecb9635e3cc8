use Rattle.std.proofs.Common.{◌≡◌, ℕ, ◌-◌, ◌*◌, ap, ◌∙◌}
use Rattle.std.proofs.lemmas.Result.{on_ok_weaker}
use Rattle.ken_alloc.proofs.Laid.{laid_out}
use Rattle.ken_alloc.proofs.format.format.Goals as goal

pub returns-clause-bytes : goal.returns-clause-bytes
returns-clause-bytes c =
    let same : c.size.result ≡ 256 * c.args.count = c.size.ensures ∙ c.write.ensures.length ∙ c.requires.size in
    on_ok_weaker c.write-2.result (λ is. laid_out c.args.pages.now.bytes c.write.new.self.bytes c.write-2.new.pages.bytes c.empty_header.result c.args.count (c.size.result - 16) c.empty_header.ensures c.in_ok-write.ensures.bytes (ap (λ (k : ℕ). k - 16) same) is) c.write-2.ensures.bytes
