use Rattle.std.proofs.Common.{◌≡◌, ℕ, ◌+◌, ◌-◌, ◌*◌, ◌/◌, ◌≤◌, true, false, length, get_or, sym, ap, ◌∙◌, arith, cond}
use Rattle.std.specs.Prelude.{◌==◌}
use Rattle.ken_pages.specs.Paged.{Paged, with_own, lacking, touched}
use Rattle.ken_pages.specs.Layout.{own_pages}
use Rattle.ken_pages.proofs.Pages.{length_view, own_view}
use Rattle.ken_pages.proofs.Counted.{touched-some, some_unless, with_own-none, lacking-none, own-with_own, length-with_own}
use Rattle.ken_pages.proofs.heap.PageHeap.write.Goals as goal

-- no bytes touch no page
none_touched : (at n : ℕ) → (n == 0) ≡ true → touched at n ≡ 0
none_touched at n none = ap (λ b. cond b 0 ((at + n - 1) / 256 + 1 - at / 256)) none

pub returns-then-is_empty-clause-own : goal.returns-then-is_empty-clause-own
returns-then-is_empty-clause-own c =
    let none : touched c.args.at (length c.args.bytes.now) ≡ 0 = none_touched c.args.at (length c.args.bytes.now) (sym c.is_empty.ensures ∙ c.if-is_empty.true) in
    sym (ap (λ n. with_own (c.args.at / 256) n c.args.self.now.own) none ∙ with_own-none (c.args.at / 256) c.args.self.now.own)

pub returns-then-is_empty-clause-spare : goal.returns-then-is_empty-clause-spare
returns-then-is_empty-clause-spare c =
    let none : touched c.args.at (length c.args.bytes.now) ≡ 0 = none_touched c.args.at (length c.args.bytes.now) (sym c.is_empty.ensures ∙ c.if-is_empty.true) in
    let no : lacking (c.args.at / 256) (touched c.args.at (length c.args.bytes.now)) c.args.self.now.own ≡ 0 = ap (λ n. lacking (c.args.at / 256) n c.args.self.now.own) none ∙ lacking-none (c.args.at / 256) c.args.self.now.own in
    omega (arith, no)

pub write-requires-clause-within : goal.write-requires-clause-within
write-requires-clause-within c =
    let long : length c.own.new.self.bytes ≡ 256 * length c.self.inside.pages.items = length_view c.self.inside.begun c.self.inside.pages.items c.self.inside.shelf c.own.new.self c.self.invariant.whole c.self.view_is in
    rw c.deref_mut.ensures.value (omega (arith, long, ap length c.own.ensures.bytes, c.requires.within))

pub write-requires-clause-own : goal.write-requires-clause-own
write-requires-clause-own c p high low =
    let len = length c.args.bytes.now in
    let some : 1 ≤ len = some_unless len (sym c.is_empty.ensures ∙ c.if-is_empty.false) in
    let long : length c.own.new.self.bytes ≡ 256 * length c.self.inside.pages.items = length_view c.self.inside.begun c.self.inside.pages.items c.self.inside.shelf c.own.new.self c.self.invariant.whole c.self.view_is in
    let count : length c.own.new.self.own ≡ length c.self.inside.pages.items = own_view c.self.inside.begun c.self.inside.pages.items c.self.inside.shelf c.own.new.self c.self.view_is in
    let as_many : length c.own.new.self.own ≡ length c.args.self.now.own = ap length c.in_ok-own.ensures.own ∙ length-with_own (c.args.at / 256) (touched c.args.at len) c.args.self.now.own in
    let pages : touched c.args.at len ≡ (c.args.at + len - 1) / 256 + 1 - c.args.at / 256 = touched-some c.args.at len some in
    ap (λ ps. get_or (own_pages ps) p false) c.deref_mut.ensures.value
    ∙ ap (λ o. get_or o p false) (ap (λ (q : Paged). q.own) c.self.view_is ∙ c.in_ok-own.ensures.own)
    ∙ own-with_own (c.args.at / 256) (touched c.args.at len) p c.args.self.now.own (omega (arith, low)) (omega (arith, pages, high, some)) (omega (arith, long, count, as_many, high, ap length c.own.ensures.bytes, c.requires.within))
