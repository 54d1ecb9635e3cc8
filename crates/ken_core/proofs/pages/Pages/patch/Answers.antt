use Rattle.std.proofs.Common.{◌≡◌, ◌==◌, ◌||◌, length, reverse, Some, sym, ap, ◌∙◌, arith}
use Rattle.std.specs.List.{find}
use Rattle.std.specs.Vec.{with_items}
use Rattle.std.proofs.lemmas.List.{with_items_is}
use Rattle.ken_cover.specs.declared.layers.Change.{Change}
use Rattle.ken_cover.specs.Overlay.{with_page, newest_by}
use Rattle.ken_cover.specs.Sides.{onto}
use Rattle.ken_core.specs.Sets.{has}
use Rattle.ken_core.specs.Pages.{IsFit}
use Rattle.ken_core.specs.Machines.{image_pages}
use Rattle.ken_core.proofs.Fits.{first_fits, newest-found, newest_fits, newest_is, written, none_newest}
use Rattle.ken_core.proofs.pages.Pages.patch.Goals as goal
use Rattle.ken_core.proofs.pages.Pages.patch.Goals.{In-Some-newest}

pub returns-in_default-newest-clause-none : goal.returns-in_default-newest-clause-none
returns-in_default-newest-clause-none c = λ _.
    none_newest c.args.page (image_pages c.args.self.now) c.in-Some.first c.pop_front.new.self.items c.in-Some.ensures.items
    (sym (newest-found c.args.page c.in-Some.first.changes) ∙ ap (λ cs. find (λ (x : Change). x.page.page == c.args.page) (reverse cs)) (sym c.as_slice.ensures) ∙ sym c.in_default-newest.ensures)

-- the change that is written
newest : (c : In-Some-newest) → newest_by (λ (x : Change). x.page) c.args.page c.in-Some.first.changes ≡ Some c.in-Some-newest.change.now
newest c = sym (newest-found c.args.page c.in-Some.first.changes) ∙ ap (λ cs. find (λ (x : Change). x.page.page == c.args.page) (reverse cs)) (sym c.as_slice.ensures) ∙ sym c.in-Some-newest.ensures

change_fits : (c : In-Some-newest) → IsFit (length c.args.self.now.image.items) c.in-Some-newest.change.now.page
change_fits c =
    let covers = c.requires.1.1.covers in
    let all = first_fits c.requires.0 (length c.args.self.now.image.items) c.in-Some.first c.pop_front.new.self.items c.args.self.now.ahead.items c.in-Some.ensures.items covers.image_size covers.ahead_within in
    newest_fits (length c.args.self.now.image.items) c.args.page c.in-Some.first.changes c.in-Some-newest.change.now all (newest c)

pub lay_one-requires-clause-whole : goal.lay_one-requires-clause-whole
lay_one-requires-clause-whole c = (change_fits (goal.at.lay_one-requires-clause-whole c).In-Some-newest).1

pub lay_one-requires-clause-within : goal.lay_one-requires-clause-within
lay_one-requires-clause-within c =
    let fits = (change_fits (goal.at.lay_one-requires-clause-within c).In-Some-newest).0 in
    omega (arith, ap length c.deref_mut.ensures.value)

pub insert-requires : goal.insert-requires
insert-requires c =
    let at = (goal.at.insert-requires c).In-Some-newest in
    let fits = (change_fits at).0 in
    let is : c.in-Some-newest.change.now.page.page ≡ c.args.page = newest_is c.args.page c.in-Some.first.changes c.in-Some-newest.change.now (newest at) in
    let size = c.requires.1.1.covers.image_size in
    let width = c.requires.1.1.opened in
    omega (arith, c.from.ensures)

pub returns-clause-made : goal.returns-clause-made
returns-clause-made c = λ _.
    let at = (goal.at.returns-clause-made c).In-Some-newest in
    let change : Change = c.in-Some-newest.change.now in
    written c.args.page (image_pages c.args.self.now) c.in-Some.first c.pop_front.new.self.items c.put_back.new.ahead.items change (with_items c.args.self.now.image c.lay_one.new.bytes).items (has c.insert.new.self)
    c.in-Some.ensures.items (newest at)
    (c.put_back.ensures ∙ ap (λ cs. onto c.in-Some.first.turn cs c.pop_front.new.self.items) c.without-changes.ensures)
    (with_items_is c.args.self.now.image c.lay_one.new.bytes (omega (arith, c.lay_one.auto.bytes, c.deref_mut.ensures.len)) ∙ c.lay_one.ensures ∙ ap (λ bytes. with_page bytes change.page) c.deref_mut.ensures.value)
    (λ q. c.insert.ensures.all q ∙ ap (λ k. (k == q) || has c.args.self.now.opened q) c.from.ensures)
