use Rattle.std.proofs.Common.{◌≡◌, ℕ, Bool, true, false, [], ◌∷◌, ◌++◌, ◌+◌, ◌<◌, length, take, get_or, cond, Vec, Global, sym, ap, ◌∙◌, subst, take_all, All}
use Rattle.std.specs.List.{filter}
use Rattle.std.specs.List.Sorted.{IsPermutation}
use Rattle.std.proofs.lemmas.List.{append-nil}
use Rattle.ken_pages.specs.Layout.{differs, differs_at, kept_pages}
use Rattle.std.proofs.lemmas.List.Elements.{All-filter}
use Rattle.std.proofs.lemmas.List.Sorted.{All-permutation}
use Rattle.ken_pages.proofs.Dirty.{dirty_listed, filter_more}
use Rattle.ken_pages.proofs.Listed.{listed_at, kept_at}
use Rattle.ken_pages.proofs.Pages.{at_map}
use Rattle.ken_pages.proofs.turn.changed.Goals as goal
use Rattle.ken_pages.proofs.turn.changed.Goals.{then-differs+in_ok-push, else-differs}

pub bounds-pages-page : goal.bounds-pages-page
bounds-pages-page c = listed_at c.args.pages.now c.args.first.now c.loop-page.page-index c.requires.listed c.loop-page-test.true

pub loop-page-preserved : goal.loop-page-preserved
loop-page-preserved c =
    let ps = c.args.pages.now in
    let first = c.args.first.now in
    let i = c.loop-page.page-index in
    let q : ℕ = get_or first i 0 in
    let D : ℕ → Bool = differs_at ps in
    let below : q < length ps = listed_at ps first i c.requires.listed c.loop-page-test.true in
    let test : D q ≡ c.differs.result = at_map differs ps q c.index-pages-page.result false below ∙ ap differs (sym c.index-pages-page.is) ∙ sym c.differs.ensures in
    let more : filter D (take (i + 1) first) ≡ filter D (take i first) ++ cond (D q) (q ∷ []) [] = filter_more D first i c.loop-page-test.true in
    elim c.if-differs.branch [
      | then-differs+in_ok-push w ↦
          ap (λ (v : Vec ℕ Global). v.items) w.changed-is ∙ w.in_ok-push.ensures.items ∙ ap (λ xs. xs ++ q ∷ []) c.loop-page.invariant
          ∙ sym (more ∙ ap (λ b. filter D (take i first) ++ cond b (q ∷ []) []) (test ∙ w.if-differs.true))
      | else-differs w ↦
          ap (λ (v : Vec ℕ Global). v.items) w.changed-is ∙ c.loop-page.invariant
          ∙ sym (more ∙ ap (λ b. filter D (take i first) ++ cond b (q ∷ []) []) (test ∙ w.if-differs.false) ∙ append-nil (filter D (take i first)))
    ]

pub returns-clause-changed : goal.returns-clause-changed
returns-clause-changed c =
    let ps = c.args.pages.now in
    let first = c.args.first.now in
    let all : c.loop-page.changed.items ≡ filter (differs_at ps) first = c.loop-page.invariant ∙ ap (filter (differs_at ps)) (take_all c.loop-page.page-index first c.loop-page-test.false) in
    dirty_listed ps first c.sort_unstable.new.self.items c.requires.whole c.requires.listed (subst (λ xs. IsPermutation xs c.sort_unstable.new.self.items) all c.sort_unstable.ensures.permutation) c.sort_unstable.ensures.sorted

pub returns-clause-kept : goal.returns-clause-kept
returns-clause-kept c =
    let ps = c.args.pages.now in
    let first = c.args.first.now in
    let P : ℕ → Type 0 = λ p. get_or (kept_pages ps) p false ≡ true in
    let all : c.loop-page.changed.items ≡ filter (differs_at ps) first = c.loop-page.invariant ∙ ap (filter (differs_at ps)) (take_all c.loop-page.page-index first c.loop-page-test.false) in
    All-permutation P c.loop-page.changed.items c.sort_unstable.new.self.items c.sort_unstable.ensures.permutation
    (subst (All P) (sym all) (All-filter (differs_at ps) P first (λ k d within. kept_at (kept_pages ps) first k d c.requires.listed within)))
