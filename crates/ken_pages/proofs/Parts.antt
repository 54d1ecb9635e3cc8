-- Parts of bytes, read or written one after the other.
use Rattle.std.proofs.Common.{◌≡◌, ℕ, ◌+◌, ◌≤◌, List, ◌++◌, length, take, drop, sym, ap, ◌∙◌, arith, take-add, drop-drop, length-take-le, length-drop, take_at}
use Rattle.std.proofs.lemmas.Slice.{take-put_mid}
use borrow.Rule.Slice.PartMut.{put_mid}
use Rattle.ken_frame.specs.Written.{written}
use Rattle.ken_frame.proofs.Written.{written-written}

-- the part of a buffer that is read next
part_of_buffer : (buf : List ℕ) (done part k : ℕ) → k ≡ part → done + part ≤ length buf → length (take k (drop done buf)) ≡ part
part_of_buffer buf done part k same fits =
    let end : k ≤ length (drop done buf) = omega (arith, length-drop done buf) in
    length-take-le k (drop done buf) end ∙ same

-- a part more is read
pub take_more_read : (bytes buf new : List ℕ) (at done part k : ℕ) → k ≡ part → done + part ≤ length buf → at + done + part ≤ length bytes → take done buf ≡ take done (drop at bytes) → new ≡ take (length (take k (drop done buf))) (drop (at + done) bytes) → take (done + part) (put_mid done k buf new) ≡ take (done + part) (drop at bytes)
take_more_read bytes buf new at done part k same fits within before is =
    let part_is : new ≡ take part (drop (at + done) bytes) = is ∙ ap (λ n. take n (drop (at + done) bytes)) (part_of_buffer buf done part k same fits) in
    let end : part ≤ length (drop (at + done) bytes) = omega (arith, length-drop (at + done) bytes) in
    let long : length new ≡ part = ap length part_is ∙ length-take-le part (drop (at + done) bytes) end in
    take-put_mid done k buf new (done + part) (omega arith) (omega arith) ∙ ap (λ xs. xs ++ new) before ∙ ap (λ ys. take done (drop at bytes) ++ ys) (part_is ∙ ap (take part) (sym (drop-drop done at bytes))) ∙ sym (take-add done part (drop at bytes))

-- a part more is written
pub written_more : (bytes was is new : List ℕ) (at done part k : ℕ) → k ≡ part → done ≤ length new → at ≤ length bytes → was ≡ written bytes at (take done new) → is ≡ written was (at + done) (take k (drop done new)) → is ≡ written bytes at (take (done + part) new)
written_more bytes was is new at done part k same fits within before step =
    let long : length (take done new) ≡ done = length-take-le done new fits in
    step ∙ ap (λ xs. written xs (at + done) (take k (drop done new))) before ∙ written-written bytes at (at + done) (take done new) (take k (drop done new)) within (omega arith) ∙ ap (λ n. written bytes at (take done new ++ take n (drop done new))) same ∙ sym (ap (λ ys. written bytes at ys) (take-add done part new))

-- a list that was lent as a whole
pub lent_whole : {X : Type 0} (new old : List X) (len : ℕ) → len ≡ length old → length new ≡ length old → take len (new ++ drop (length new) old) ≡ new
lent_whole new old len long same = take_at new (drop (length new) old) len (same ∙ sym long)
