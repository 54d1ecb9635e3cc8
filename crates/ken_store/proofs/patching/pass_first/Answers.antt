use Rattle.std.proofs.Common.{◌≡◌, length, refl, sym, ap, ◌∙◌, eq-eqb}
use Rattle.std.proofs.lemmas.Bool.{false≢true}
use Rattle.ken_store.proofs.Patched.{goes_more}
use Rattle.ken_store.proofs.patching.pass_first.Goals as goal

pub returns-then-not-is_empty-clause-items : goal.returns-then-not-is_empty-clause-items
returns-then-not-is_empty-clause-items c =
    let left = c.pop_front-2.new.self in
    goes_more c.in-Some.next (record c.in-Some.next { pages = left }) c.pop_front.new.self.items c.args.ahead.now.items c.push_front_reserved.new.self.items
    c.in-Some.ensures.items
    (record { turn = refl; origin = refl; pages = c.pop_front-2.ensures.rest })
    (λ none. let zero : left.len ≡ 0 = left.ok.0 ∙ ap length none in false≢true (sym c.if-not-is_empty.true ∙ c.is_empty.ensures ∙ eq-eqb left.len 0 zero))
    c.push_front_reserved.ensures.items
