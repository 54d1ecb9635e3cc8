use Rattle.std.proofs.Common.{◌≡◌, ◌∙◌, ◌<◌, ℕ, Option, List, length, slice_index_or, None, option_map, map, ap, sym, subst}
use Rattle.std.specs.List.{AllByRecursion, flat_map, range_with_len}
use Rattle.ken_record.specs.declared.page.Page.{Page}
use Rattle.ken_record.specs.declared.record.Record.{Record}
use Rattle.ken_cover.specs.declared.layers.Change.{Change}
use Rattle.ken_cover.specs.Overlay.{newest_by}
use Rattle.ken_cover.specs.Sides.{last_change, base_change}
use Rattle.ken_store.specs.declared.base_of.KeptPages.{KeptPages}
use Rattle.ken_store.specs.Turning.{turn_pages}
use Rattle.ken_store.specs.Turnovers.{page_in, turn_in, changes_kept}
use Rattle.ken_store.proofs.Turned.{if_ok, log_within, below, each_below, live_changes, kept_is}
use Rattle.ken_store.proofs.turning.TurnSide.kept.Goals as goal

pub last_turns-requires-clause-base : goal.last_turns-requires-clause-base
last_turns-requires-clause-base g c =
    let t = c.requires.turning in
    let s = c.args.self.now in
    let fit = log_within s.owner s.numbers s.log.header s.log.base s.records.items t.log.header t.items t.numbers in
    subst (AllByRecursion (λ (e : Page). e.page < s.owner.pages)) (sym c.base_pages-base.ensures) (below s.owner.pages _ fit.first)

pub last_turns-requires-clause-records : goal.last_turns-requires-clause-records
last_turns-requires-clause-records g c =
    let t = c.requires.turning in
    let s = c.args.self.now in
    let fit = log_within s.owner s.numbers s.log.header s.log.base s.records.items t.log.header t.items t.numbers in
    subst (AllByRecursion (λ (r : Record). AllByRecursion (λ (e : Page). e.page < s.owner.pages) r.pages)) (sym c.deref-2.ensures.value) (each_below s.owner.pages s.records.items fit.each)

pub returns-clause-pages : goal.returns-clause-pages
returns-clause-pages g c =
    let t = c.requires.turning in
    let s = c.args.self.now in
    let long : length c.deref-3.result.now ≡ s.owner.pages = ap length c.deref-3.ensures.value ∙ c.in_ok-last.ensures.width in
    let tells : (p : ℕ) → slice_index_or c.deref-3.result.now p None ≡ option_map turn_in (last_change p (turn_pages s).live) =
    λ p. ap (λ (xs : List (Option ℕ)). slice_index_or xs p None) c.deref-3.ensures.value ∙ (rw (c.deref.ensures.value, c.base_pages-base.ensures, c.deref-2.ensures.value) at (c.in_ok-last.ensures.turns p)) ∙ ap (λ (cs : List Change). option_map turn_in (newest_by page_in p cs)) (sym (live_changes s.log.header s.log.base s.base_turns.items s.records.items t.turns)) in
    if_ok (λ (x : KeptPages). (f : ℕ → Option Change) → ((p : ℕ) → slice_index_or c.deref-3.result.now p None ≡ option_map turn_in (f p)) → x.pages.items ≡ map page_in (flat_map (λ p. base_change c.args.settled s.objects.bytes p (f p)) (range_with_len 0 (length c.deref-3.result.now))))
    (λ (x : KeptPages). x.pages.items ≡ map page_in (changes_kept s c.args.settled)) (λ x is. kept_is page_in s c.args.settled c.deref-3.result.now x.pages.items long c.requires.idle tells is) c.kept_pages.result c.kept_pages.ensures.pages

pub returns-clause-turns : goal.returns-clause-turns
returns-clause-turns g c =
    let t = c.requires.turning in
    let s = c.args.self.now in
    let long : length c.deref-3.result.now ≡ s.owner.pages = ap length c.deref-3.ensures.value ∙ c.in_ok-last.ensures.width in
    let tells : (p : ℕ) → slice_index_or c.deref-3.result.now p None ≡ option_map turn_in (last_change p (turn_pages s).live) =
    λ p. ap (λ (xs : List (Option ℕ)). slice_index_or xs p None) c.deref-3.ensures.value ∙ (rw (c.deref.ensures.value, c.base_pages-base.ensures, c.deref-2.ensures.value) at (c.in_ok-last.ensures.turns p)) ∙ ap (λ (cs : List Change). option_map turn_in (newest_by page_in p cs)) (sym (live_changes s.log.header s.log.base s.base_turns.items s.records.items t.turns)) in
    if_ok (λ (x : KeptPages). (f : ℕ → Option Change) → ((p : ℕ) → slice_index_or c.deref-3.result.now p None ≡ option_map turn_in (f p)) → x.turns.items ≡ map turn_in (flat_map (λ p. base_change c.args.settled s.objects.bytes p (f p)) (range_with_len 0 (length c.deref-3.result.now))))
    (λ (x : KeptPages). x.turns.items ≡ map turn_in (changes_kept s c.args.settled)) (λ x is. kept_is turn_in s c.args.settled c.deref-3.result.now x.turns.items long c.requires.idle tells is) c.kept_pages.result c.kept_pages.ensures.turns
