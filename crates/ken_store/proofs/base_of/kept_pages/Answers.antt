use Rattle.std.proofs.Common.{◌≡◌, ◌∙◌, ℕ, length, map, ap, arith}
use Rattle.std.specs.List.{flat_map, range_with_len}
use Rattle.ken_cover.specs.Sides.{base_change}
use Rattle.ken_store.specs.Turnovers.{page_in, turn_in}
use Rattle.ken_store.proofs.Lasts.{pieces_more}
use Rattle.ken_store.proofs.base_of.kept_pages.Goals as goal

pub loop-page-preserved : goal.loop-page-preserved
loop-page-preserved c = record {
  pages = λ f tells. pieces_more page_in (λ (p : ℕ). base_change c.args.settled c.args.objects.now.bytes p (f p)) c.loop-page.page _ _ (c.loop-page.invariant.pages f tells) (c.in_ok-put.ensures.pages (f c.loop-page.page) (tells c.loop-page.page));
  turns = λ f tells. pieces_more turn_in (λ (p : ℕ). base_change c.args.settled c.args.objects.now.bytes p (f p)) c.loop-page.page _ _ (c.loop-page.invariant.turns f tells) (c.in_ok-put.ensures.turns (f c.loop-page.page) (tells c.loop-page.page));
}

pub returns-clause-pages : goal.returns-clause-pages
returns-clause-pages c = λ f tells.
    let all : c.loop-page.page ≡ length c.args.last.now = omega (arith, c.loop-page-test.false, c.loop-page.auto.page-end) in
    c.loop-page.invariant.pages f tells ∙ ap (λ (n : ℕ). map page_in (flat_map (λ (p : ℕ). base_change c.args.settled c.args.objects.now.bytes p (f p)) (range_with_len 0 n))) all

pub returns-clause-turns : goal.returns-clause-turns
returns-clause-turns c = λ f tells.
    let all : c.loop-page.page ≡ length c.args.last.now = omega (arith, c.loop-page-test.false, c.loop-page.auto.page-end) in
    c.loop-page.invariant.turns f tells ∙ ap (λ (n : ℕ). map turn_in (flat_map (λ (p : ℕ). base_change c.args.settled c.args.objects.now.bytes p (f p)) (range_with_len 0 n))) all
