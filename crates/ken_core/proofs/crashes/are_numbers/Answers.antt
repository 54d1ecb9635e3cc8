use Rattle.std.proofs.Common.{◌≡◌, ◌<◌, ◌||◌, length, false, ℕ, sym, ap, subst, ◌∙◌}
use Rattle.std.specs.List.{All}
use Rattle.std.proofs.lemmas.List.{length-replicate}
use Rattle.std.proofs.lemmas.List.Elements.{All-from_recursion}
use Rattle.ken_record.specs.declared.page.Page.{Page}
use Rattle.ken_cover.specs.Overlay.{among, numbers}
use Rattle.ken_core.specs.Sets.{has}
use Rattle.ken_core.proofs.Fits.{has_room, same_bits, cleared, or_false}
use Rattle.ken_core.proofs.crashes.are_numbers.Goals as goal

pub returns-then-not-have_room : goal.returns-then-not-have_room
returns-then-not-have_room c = (
  (λ yes. absurd cc),
  (λ exactly.
      let room = All-from_recursion (λ (e : Page). e.page < length c.args.set.now) c.args.pages.now (has_room c.args.set.now c.args.pages.now exactly) in
      sym c.if-not-have_room.true ∙ c.have_room.ensures.1 (subst (λ n. All (λ (e : Page). e.page < n) c.args.pages.now) (sym c.width-width.ensures) room)),
)

pub returns : goal.returns
returns c =
    let marked : (k : ℕ) → has c.mark_pages.new.set k ≡ among (numbers c.args.pages.now) k = λ k. c.mark_pages.ensures.all k ∙ ap (λ b. among (numbers c.args.pages.now) k || b) (ap (λ bits. has bits k) c.in_ok-named.ensures ∙ cleared c.width-width.result k) ∙ or_false (among (numbers c.args.pages.now) k) in
    let wide : length c.mark_pages.new.set ≡ length c.args.set.now = c.mark_pages.ensures.width ∙ ap length c.in_ok-named.ensures ∙ length-replicate c.width-width.result false ∙ c.width-width.ensures in
    ((λ yes k. sym (marked k) ∙ ap (λ bits. has bits k) (c.is_same.ensures.0 yes)), (λ exactly. c.is_same.ensures.1 (same_bits c.mark_pages.new.set c.args.set.now wide (λ k. marked k ∙ exactly k))))
