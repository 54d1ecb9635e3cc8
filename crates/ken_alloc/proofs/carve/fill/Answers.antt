use Rattle.std.proofs.Common.{◌≡◌, ℕ, ◌+◌, ◌≤◌, length, take, replicate, refl, sym, ap, ◌∙◌, subst, arith}
use Rattle.std.proofs.lemmas.List.{take-replicate, length-replicate}
use Rattle.ken_frame.proofs.Written.{written-nil}
use Rattle.ken_alloc.specs.Frames.{Frames, frames_of, lacks, taken}
use Rattle.ken_alloc.proofs.Covered.{TakesBoth, takes_on, taken_none, took, covers_second, loses_taken, loses_more, loses_on, lacks_grows}
use Rattle.ken_alloc.proofs.Kept.{zeros_more, KeepsOutside-zeros, KeepsOutside-same}
use Rattle.ken_alloc.proofs.carve.fill.Goals as goal

pub loop-done-init : goal.loop-done-init
loop-done-init c = record {
  fits = omega arith;
  bytes = sym (written-nil c.args.pages.now.bytes c.args.at);
  others = KeepsOutside-same c.args.at (c.args.at + c.args.len) c.args.pages.now.bytes;
  begun = refl;
  frames = sym (taken_none c.args.at c.args.pages.now);
}

pub loop-done-preserved : goal.loop-done-preserved
loop-done-preserved c =
    let first = c.args.pages.now.bytes in
    let inv = c.loop-done.invariant in
    let small : c.min-part.result ≤ 64 = omega arith in
    let bytes = zeros_more first c.loop-done.pages.bytes c.write.new.self.bytes _ c.args.at c.loop-done.done c.min-part.result (omega (arith, c.requires.within)) inv.bytes (take-replicate c.min-part.result 64 0 small) c.in_ok-write.ensures.bytes in
    let fits : c.loop-done.done + c.min-part.result ≤ c.args.len = omega arith in
    let both : TakesBoth c.args.at c.loop-done.done (c.args.at + c.loop-done.done) c.min-part.result c.args.at (c.loop-done.done + c.min-part.result) (frames_of c.args.pages.now) = takes_on c.args.at c.loop-done.done c.min-part.result (frames_of c.args.pages.now) (omega arith) in
    let long : length {A = ℕ} (take c.min-part.result (replicate 64 0)) ≡ c.min-part.result = ap length (take-replicate c.min-part.result 64 0 small) ∙ length-replicate c.min-part.result 0 in
    let more = took c.loop-done.pages c.write.new.self (c.args.at + c.loop-done.done) _ c.min-part.result long c.in_ok-write.ensures.spare c.in_ok-write.ensures.own in
    record {
      fits = fits;
      bytes = bytes;
      others = KeepsOutside-zeros first c.write.new.self.bytes c.args.at (c.loop-done.done + c.min-part.result) c.args.len fits c.requires.within bytes;
      begun = c.in_ok-write.ensures.begun ∙ inv.begun;
      frames = more ∙ ap (taken (c.args.at + c.loop-done.done) c.min-part.result) inv.frames ∙ both.same;
    }

pub returns-in_err-write-clause-covered : goal.returns-in_err-write-clause-covered
returns-in_err-write-clause-covered c covered =
    let inv = c.loop-done.invariant in
    let first : Frames = frames_of c.args.pages.now in
    let done = c.loop-done.done in
    let part = c.min-part.result in
    let small : part ≤ 64 = omega arith in
    let fits : done + part ≤ c.args.len = omega arith in
    let long : length {A = ℕ} (take part (replicate 64 0)) ≡ part = ap length (take-replicate part 64 0 small) ∙ length-replicate part 0 in
    let both : TakesBoth c.args.at done (c.args.at + done) part c.args.at (done + part) first = takes_on c.args.at done part first (omega arith) in
    let few : lacks c.args.at (done + part) first ≤ first.spare = (let grows : lacks c.args.at (done + part) first ≤ lacks c.args.at c.args.len first = lacks_grows c.args.at (done + part) c.args.len first fits in omega (arith, grows, covered)) in
    let here : lacks (c.args.at + done) part (frames_of c.loop-done.pages) ≤ c.loop-done.pages.spare = covers_second c.args.at done (c.args.at + done) part c.args.at (done + part) first (frames_of c.loop-done.pages) both inv.frames few in
    let ok = c.in_err-write.ensures.covered (subst (λ k. lacks (c.args.at + done) k (frames_of c.loop-done.pages) ≤ c.loop-done.pages.spare) (sym long) here) in
    absurd (let none : ⊥ = cc ok in none)

pub returns-in_err-write-clause-kept : goal.returns-in_err-write-clause-kept
returns-in_err-write-clause-kept c =
    loses_on (frames_of c.args.pages.now) (frames_of c.loop-done.pages) (frames_of c.write.new.self)
    (loses_taken (frames_of c.args.pages.now) (frames_of c.loop-done.pages) c.args.at c.loop-done.done c.loop-done.invariant.frames)
    (loses_more (frames_of c.loop-done.pages) (frames_of c.write.new.self) (record { own = c.in_err-write.ensures.owned; more = c.in_err-write.ensures.more }))

pub returns-clause-kept : goal.returns-clause-kept
returns-clause-kept c = loses_taken (frames_of c.args.pages.now) (frames_of c.loop-done.pages) c.args.at c.loop-done.done c.loop-done.invariant.frames
