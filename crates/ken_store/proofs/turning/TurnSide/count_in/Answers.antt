use Rattle.std.proofs.Common.{◌≡◌, ◌∙◌, ◌<◌, ℕ, List, None, length, slice_index_or, option_map, ap, sym, subst}
use Rattle.std.specs.List.{AllByRecursion}
use Rattle.ken_record.specs.declared.page.Page.{Page}
use Rattle.ken_record.specs.declared.record.Record.{Record}
use Rattle.ken_cover.specs.declared.layers.Change.{Change}
use Rattle.ken_cover.specs.Overlay.{newest_by}
use Rattle.ken_cover.specs.Sides.{last_change}
use Rattle.ken_store.specs.Kept.{base_pages}
use Rattle.ken_store.specs.Turning.{turn_pages}
use Rattle.ken_store.specs.Turnovers.{page_in, turn_in}
use Rattle.ken_store.proofs.Sizing.{or_none, wider, each_wider}
use Rattle.ken_store.proofs.Turned.{log_within, below, each_below, live_changes}
use Rattle.ken_store.proofs.turning.TurnSide.count_in.Goals as goal

pub note_all-requires-clause-base : goal.note_all-requires-clause-base
note_all-requires-clause-base g c =
    let t = c.requires.turning in
    let s = c.args.self.now in
    let fit = log_within s.owner s.numbers s.log.header s.log.base s.records.items t.log.header t.items t.numbers in
    subst (AllByRecursion (λ (e : Page). e.page < length c.args.last.now)) (sym c.base_pages-base.ensures) (wider s.owner.pages (length c.args.last.now) (base_pages s.log.base) c.requires.wide (below s.owner.pages (base_pages s.log.base) fit.first))

pub note_all-requires-clause-records : goal.note_all-requires-clause-records
note_all-requires-clause-records g c =
    let t = c.requires.turning in
    let s = c.args.self.now in
    let fit = log_within s.owner s.numbers s.log.header s.log.base s.records.items t.log.header t.items t.numbers in
    subst (AllByRecursion (λ (r : Record). AllByRecursion (λ (e : Page). e.page < length c.args.last.now) r.pages)) (sym c.deref-2.ensures.value) (each_wider s.owner.pages (length c.args.last.now) s.records.items c.requires.wide (each_below s.owner.pages s.records.items fit.each))

pub returns-clause-count : goal.returns-clause-count
returns-clause-count g c =
    let t = c.requires.turning in
    let s = c.args.self.now in
    let tells : (p : ℕ) → slice_index_or c.note_all.new.last p None ≡ option_map turn_in (last_change p (turn_pages s).live) =
    λ p. (rw (c.deref.ensures.value, c.base_pages-base.ensures, c.deref-2.ensures.value, c.requires.none p) at (c.note_all.ensures p)) ∙ or_none _ ∙ ap (λ (cs : List Change). option_map turn_in (newest_by page_in p cs)) (sym (live_changes s.log.header s.log.base s.base_turns.items s.records.items t.turns)) in
    c.count_kept.ensures.count (turn_pages s).heap (λ (p : ℕ). last_change p (turn_pages s).live) tells
