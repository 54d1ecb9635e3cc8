use Rattle.std.proofs.Common.{◌≡◌, ℕ, ◌+◌, ◌<◌, Bool, false, List, [], ◌∷◌, ◌++◌, length, map, take, get_or, set, cond, sym, ap, ◌∙◌, subst, arith, take_all}
use Rattle.std.specs.List.{concat, filter}
use Rattle.std.proofs.lemmas.List.{append-nil}
use Rattle.ken_pages.specs.Layout.{differs, differs_at, kept_pages, now_bytes, own_pages, Lists}
use Rattle.ken_pages.specs.Paged.{page_of, with_bytes, without_own}
use Rattle.ken_pages.proofs.Dirty.{differs_same, dirty_sorted, filter_more}
use Rattle.ken_pages.proofs.Frozen.{shared_pages_push, without_own_push}
use Rattle.ken_pages.proofs.Listed.{listed_at, kept_at}
use Rattle.ken_pages.proofs.Pages.{at_map}
use Rattle.ken_pages.proofs.turn.freeze.Goals as goal
use Rattle.ken_pages.proofs.turn.freeze.Goals.{then-differs+in_ok-share_page, else-differs}

pub bounds-pages-page : goal.bounds-pages-page
bounds-pages-page c =
    let listed = subst (λ ks. Lists c.args.first.now ks) (sym c.loop-page.invariant.kept) c.requires.listed in
    listed_at c.loop-page.pages c.args.first.now c.loop-page.page-index listed c.loop-page-test.true

pub share_page-requires-clause-kept : goal.share_page-requires-clause-kept
share_page-requires-clause-kept c =
    let listed = subst (λ ks. Lists c.args.first.now ks) (sym c.loop-page.invariant.kept) c.requires.listed in
    kept_at (kept_pages c.loop-page.pages) c.args.first.now c.loop-page.page-index 0 listed c.loop-page-test.true

pub loop-page-preserved : goal.loop-page-preserved
loop-page-preserved c =
    let ps = c.args.pages.now in
    let first = c.args.first.now in
    let inv = c.loop-page.invariant in
    let i = c.loop-page.page-index in
    let q : ℕ = get_or first i 0 in
    let D : ℕ → Bool = differs_at ps in
    let listed = subst (λ ks. Lists first ks) (sym inv.kept) c.requires.listed in
    let below : q < length c.loop-page.pages = listed_at c.loop-page.pages first i listed c.loop-page-test.true in
    let test : D q ≡ c.differs.result =
    ap (λ ds. get_or ds q false) (sym (differs_same c.loop-page.pages ps inv.now inv.was)) ∙ at_map differs c.loop-page.pages q c.index-pages-page.result false below ∙ sym c.differs.ensures
    in
    let more : filter D (take (i + 1) first) ≡ filter D (take i first) ++ cond (D q) (q ∷ []) [] = filter_more D first i c.loop-page-test.true in
    elim c.if-differs.branch [
      | then-differs+in_ok-share_page w ↦
          let on : filter D (take (i + 1) first) ≡ filter D (take i first) ++ q ∷ [] = more ∙ ap (λ b. filter D (take i first) ++ cond b (q ∷ []) []) (test ∙ w.if-differs.true) in
          rw (w.pages-is, w.frozen-is, on) (record {
            len = omega (arith, inv.len, w.push_reserved.ensures.len);
            room = omega (arith, inv.room, w.push_reserved.ensures.capacity);
            whole = w.share_page.ensures.whole;
            shares = shared_pages_push c.loop-page.frozen.items w.push_reserved.new.self.items q w.in_ok-share_page.field-0 (now_bytes ps) (filter D (take i first)) w.push_reserved.ensures.items inv.shares (w.in_ok-share_page.ensures.share ∙ ap (λ (fs : List (List ℕ)). page_of (concat fs) q) inv.now);
            now = w.share_page.ensures.now ∙ inv.now;
            was = w.share_page.ensures.was ∙ inv.was;
            kept = w.share_page.ensures.kept ∙ inv.kept;
            own = w.in_ok-share_page.ensures.own ∙ ap (λ o. set o q false) inv.own ∙ sym (without_own_push (filter D (take i first)) q (own_pages ps));
          })
      | else-differs w ↦
          let on : filter D (take (i + 1) first) ≡ filter D (take i first) = more ∙ ap (λ b. filter D (take i first) ++ cond b (q ∷ []) []) (test ∙ w.if-differs.false) ∙ append-nil (filter D (take i first)) in
          rw (w.pages-is, w.frozen-is, on) (record {
            len = omega (arith, inv.len);
            room = inv.room;
            whole = inv.whole;
            shares = inv.shares;
            now = inv.now;
            was = inv.was;
            kept = inv.kept;
            own = inv.own;
          })
    ]

pub returns-clause-shares : goal.returns-clause-shares
returns-clause-shares c =
    let ps = c.args.pages.now in
    let first = c.args.first.now in
    let all = ap (filter (differs_at ps)) (take_all c.loop-page.page-index first c.loop-page-test.false) ∙ dirty_sorted ps first c.requires.whole c.requires.listed c.requires.sorted in
    c.loop-page.invariant.shares ∙ ap (map (with_bytes (now_bytes ps))) all

pub returns-clause-own : goal.returns-clause-own
returns-clause-own c =
    let ps = c.args.pages.now in
    let first = c.args.first.now in
    let all = ap (filter (differs_at ps)) (take_all c.loop-page.page-index first c.loop-page-test.false) ∙ dirty_sorted ps first c.requires.whole c.requires.listed c.requires.sorted in
    c.loop-page.invariant.own ∙ ap (λ qs. without_own qs (own_pages ps)) all
