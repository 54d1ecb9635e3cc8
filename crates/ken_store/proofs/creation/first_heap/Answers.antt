use Rattle.std.proofs.Common.{◌≡◌, ◌∙◌, ℕ, List, ap, arith, length, take, replicate}
use Rattle.std.proofs.lemmas.List.{append-nil, length-take-le}
use Rattle.ken_frame.specs.Written.{written}
use Rattle.ken_model.specs.Layout.{first_heap}
use Rattle.ken_store.proofs.First.{length-first_heap}
use Rattle.ken_store.proofs.creation.first_heap.Goals as goal

-- a frame of zeros under as many bytes
over_zeros : (l : List ℕ) → length l ≡ 256 → written (replicate 256 0) 0 l ≡ l
over_zeros l long = rw long (append-nil l)

pub returns-clause-page : goal.returns-clause-page
returns-clause-page c =
    let first = take 256 (first_heap c.args.pages) in
    let bytes : c.into_pages-heap.result.bytes ≡ first_heap c.args.pages =
    c.into_pages-heap.ensures.same.0 ∙ c.in_ok-format.ensures.zeroed c.args.pages (ap (λ p. p.bytes) c.in_ok-new.ensures) in
    let read : c.read.new.buf ≡ first = c.read.ensures ∙ ap (take 256) bytes in
    let long : length first ≡ 256 = length-take-le 256 (first_heap c.args.pages) (omega (arith, c.requires.some, length-first_heap c.args.pages c.requires.some)) in
    c.write.ensures ∙ rw (c.in_ok-first.ensures, read) (over_zeros first long)
