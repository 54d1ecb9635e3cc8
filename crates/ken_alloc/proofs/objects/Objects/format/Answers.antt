use Rattle.std.proofs.Common.{◌≡◌, ℕ, ◌*◌, length, ap, ◌∙◌, arith}
use Rattle.ken_frame.specs.Written.{written}
use Rattle.ken_pages.specs.Paged.{Paged}
use Rattle.ken_model.specs.Network.{empty_heap}
use Rattle.ken_model.specs.Layout.{first_bytes, StandsFor}
use Rattle.ken_model.specs.Reading.{value_of}
use Rattle.ken_model.proofs.Unique.{value_of-unique, StandsFor-value}
use Rattle.ken_alloc.proofs.Laid.{formatted, first-zeros}
use Rattle.ken_alloc.proofs.objects.Objects.format.Goals as goal

pub invariant_of-result : goal.invariant_of-result
invariant_of-result c =
    let old = c.begin.new.self.bytes in
    let long : length old ≡ 256 * c.pages-count.result = ap (λ (p : Paged). length p.bytes) c.begin.ensures ∙ c.pages-count.ensures.bytes in
    let stands : StandsFor c.format.new.pages.bytes (empty_heap (length old)) = formatted old c.format.new.pages.bytes c.pages-count.result c.pages-count.ensures.some c.pages-count.ensures.most long c.in_ok-format.ensures.bytes in
    rw (c.commit.ensures.bytes, c.commit.ensures.begun) (record { now = StandsFor-value c.format.new.pages.bytes (empty_heap (length old)) stands; before = tt })

pub returns-clause-value : goal.returns-clause-value
returns-clause-value c =
    let old = c.begin.new.self.bytes in
    let long : length old ≡ 256 * c.pages-count.result = ap (λ (p : Paged). length p.bytes) c.begin.ensures ∙ c.pages-count.ensures.bytes in
    let stands : StandsFor c.format.new.pages.bytes (empty_heap (length old)) = formatted old c.format.new.pages.bytes c.pages-count.result c.pages-count.ensures.some c.pages-count.ensures.most long c.in_ok-format.ensures.bytes in
    ap value_of c.commit.ensures.bytes ∙ value_of-unique c.format.new.pages.bytes (empty_heap (length old)) stands ∙ ap (λ (p : Paged). empty_heap (length p.bytes)) c.begin.ensures

pub returns-clause-bytes : goal.returns-clause-bytes
returns-clause-bytes c = λ n long.
    let same : c.pages-count.result ≡ n = omega (arith, c.pages-count.ensures.bytes) in
    c.commit.ensures.bytes ∙ c.in_ok-format.ensures.bytes ∙ ap (λ (p : Paged). written p.bytes 0 (first_bytes c.pages-count.result)) c.begin.ensures ∙ ap (λ (k : ℕ). written c.args.pages.bytes 0 (first_bytes k)) same

pub returns-clause-zeroed : goal.returns-clause-zeroed
returns-clause-zeroed c = λ n zeros.
    c.commit.ensures.bytes
    ∙ first-zeros c.args.pages.bytes c.format.new.pages.bytes c.pages-count.result n c.pages-count.ensures.bytes (c.in_ok-format.ensures.bytes ∙ ap (λ (p : Paged). written p.bytes 0 (first_bytes c.pages-count.result)) c.begin.ensures) zeros
