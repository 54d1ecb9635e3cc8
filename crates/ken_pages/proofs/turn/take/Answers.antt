use Rattle.std.proofs.Common.{◌≡◌, ℕ, Vec, Global, ◌<◌, true, false, length, map, get_or, set, sym, ap, subst, ◌∙◌, arith}
use Rattle.ken_pages.specs.Layout.{Lists, now_of, was_of, is_own, is_kept, kept_pages}
use Rattle.ken_pages.proofs.Listed.{Lists-more, Lists-again}
use Rattle.ken_pages.proofs.Pages.{at_map, map_same, map_set, length_map, ArePages-same}
use Rattle.ken_pages.proofs.turn.take.Goals as goal
use Rattle.ken_pages.proofs.turn.take.Goals.{then-not-is_kept, else-not-is_kept}

pub returns-clause-whole : goal.returns-clause-whole
returns-clause-whole c =
    ArePages-same c.args.pages.now c.args.page c.own.new.self c.index-pages-at-3.result c.requires.inside c.own.ensures.now c.own.ensures.was c.requires.whole

pub returns-clause-now : goal.returns-clause-now
returns-clause-now c = map_same now_of c.args.pages.now c.args.page c.own.new.self c.index-pages-at-3.result c.requires.inside c.own.ensures.now

pub returns-clause-was : goal.returns-clause-was
returns-clause-was c = map_same was_of c.args.pages.now c.args.page c.own.new.self c.index-pages-at-3.result c.requires.inside c.own.ensures.was

pub returns-clause-own : goal.returns-clause-own
returns-clause-own c = map_set is_own c.args.pages.now c.args.page c.own.new.self ∙ ap (λ b. set (map is_own c.args.pages.now) c.args.page b) c.own.ensures.own

pub returns-clause-listed : goal.returns-clause-listed
returns-clause-listed c =
    let kept = kept_pages c.args.pages.now in
    let below : c.args.page < length kept = omega (arith, c.requires.inside, length_map is_kept c.args.pages.now) in
    let here : get_or kept c.args.page false ≡ is_kept (get_or c.args.pages.now c.args.page c.index-pages-at-2.result) = at_map is_kept c.args.pages.now c.args.page c.index-pages-at-2.result false c.requires.inside in
    let now : kept_pages (set c.args.pages.now c.args.page c.own.new.self) ≡ set kept c.args.page true = map_set is_kept c.args.pages.now c.args.page c.own.new.self ∙ ap (λ b. set kept c.args.page b) c.own.ensures.kept in
    subst (λ ks. Lists c.if-not-is_kept.first.items ks) (sym now)
    (elim c.if-not-is_kept.branch [
      | then-not-is_kept w ↦ subst (λ qs. Lists qs (set kept c.args.page true)) (sym (ap (λ (v : Vec ℕ Global). v.items) w.first-is ∙ w.push_reserved.ensures.items)) (Lists-more c.args.first.now.items kept c.args.page below (here ∙ sym c.is_kept.ensures ∙ w.if-not-is_kept.true) c.requires.listed)
      | else-not-is_kept w ↦ subst (λ qs. Lists qs (set kept c.args.page true)) (sym (ap (λ (v : Vec ℕ Global). v.items) w.first-is)) (Lists-again c.args.first.now.items kept c.args.page below (here ∙ sym c.is_kept.ensures ∙ w.if-not-is_kept.false) c.requires.listed)
    ])
