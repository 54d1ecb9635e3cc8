use Rattle.std.proofs.Common.{◌≡◌, ℕ, ◌+◌, length, ap, sym, ◌∙◌, arith}
use Rattle.std.specs.List.{flat_map, range_with_len}
use Rattle.ken_cover.specs.Sides.{base_change}
use Rattle.ken_store.proofs.Sizing.{count_more}
use Rattle.ken_store.proofs.base_size.count_kept.Goals as goal

pub loop-page-preserved : goal.loop-page-preserved
loop-page-preserved c = record {
  count = λ heap f tells.
      ap (λ (n : ℕ). n + c.kept_one-count.result) (c.loop-page.invariant.count heap f tells)
      ∙ ap (λ (n : ℕ). length (flat_map (λ (p : ℕ). base_change c.args.settled heap p (f p)) (range_with_len 0 c.loop-page.page)) + n) (c.kept_one-count.ensures.count heap c.loop-page.page (f c.loop-page.page) (tells c.loop-page.page))
      ∙ sym (count_more (λ (p : ℕ). base_change c.args.settled heap p (f p)) c.loop-page.page);
  most = omega (arith, c.kept_one-count.ensures.most, c.loop-page.invariant.most);
}

pub returns-clause-count : goal.returns-clause-count
returns-clause-count c = λ heap f tells.
    let all : c.loop-page.page ≡ c.args.pages = omega (arith, c.loop-page-test.false, c.loop-page.auto.page-end) in
    c.loop-page.invariant.count heap f tells ∙ ap (λ (k : ℕ). length (flat_map (λ (p : ℕ). base_change c.args.settled heap p (f p)) (range_with_len 0 k))) all
