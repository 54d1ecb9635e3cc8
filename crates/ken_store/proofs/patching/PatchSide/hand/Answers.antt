use Rattle.std.proofs.Common.{◌≡◌, length, refl, sym, ap, ◌∙◌, eq-eqb}
use Rattle.std.proofs.lemmas.Bool.{eqb-true, false≢true}
use Rattle.std.proofs.lemmas.List.{nil_from_length}
use Rattle.ken_store.specs.declared.patching.Origin.TheVariants.{Record}
use Rattle.ken_store.specs.declared.patching.PatchSide.{PatchSide}
use Rattle.ken_store.specs.Ahead.{frame_pages}
use Rattle.ken_store.proofs.Patches.{Hands, hands_some, hands_none, takes_handed, stands_handed, grows_some, grows_none}
use Rattle.ken_store.proofs.patching.PatchSide.hand.Given.{Over}
use Rattle.ken_store.proofs.patching.PatchSide.hand.Goals as goal
use Rattle.ken_store.proofs.patching.PatchSide.hand.Goals.{then-not-is_empty, else-not-is_empty}

hands : (g : Over) (c : goal.Joined-drop g) → Hands g.D.Disk.told g.D.Disk.size c.args.self.now (record c.if-not-is_empty.self { known = c.args.turn }) c.args.turn (frame_pages c.args.pages.items)
hands g c = elim c.if-not-is_empty.branch [
  | then-not-is_empty w ↦
      hands_some g.D.Disk.told g.D.Disk.size c.args.self.now c.if-not-is_empty.self c.args.turn (frame_pages c.args.pages.items) (ap (λ (x : PatchSide g.row.D.Denot). x.image) w.self-is) c.requires.later c.requires.within
      (record { turn = c.args.turn; origin = Record; pages = w.from_vec.result })
      (ap (λ (x : PatchSide g.row.D.Denot). x.ahead.items) w.self-is ∙ w.push_back_reserved.ensures.items)
      refl refl (ap frame_pages w.from_vec.ensures.items)
      (λ none. let zero : c.args.pages.len ≡ 0 = c.args.pages.ok.0 ∙ ap length (sym w.from_vec.ensures.items ∙ none) in false≢true (sym w.if-not-is_empty.true ∙ c.is_empty.ensures ∙ eq-eqb c.args.pages.len 0 zero))
      c.requires.rising
  | else-not-is_empty w ↦
      hands_none g.D.Disk.told g.D.Disk.size c.args.self.now c.if-not-is_empty.self c.args.turn (frame_pages c.args.pages.items) (ap (λ (x : PatchSide g.row.D.Denot). x.image) w.self-is) c.requires.later c.requires.within
      (ap (λ (x : PatchSide g.row.D.Denot). x.ahead.items) w.self-is)
      (ap frame_pages (nil_from_length c.args.pages.items (sym c.args.pages.ok.0 ∙ eqb-true c.args.pages.len 0 (sym c.is_empty.ensures ∙ w.if-not-is_empty.false))))
]

pub returns-clause-takes : goal.returns-clause-takes
returns-clause-takes g c = takes_handed g.D.Disk.told g.D.Disk.size c.args.self.now (record c.if-not-is_empty.self { known = c.args.turn }) c.args.turn (frame_pages c.args.pages.items) (hands g c)

pub returns-clause-stands : goal.returns-clause-stands
returns-clause-stands g c = stands_handed g.D.Disk.told g.D.Disk.size c.args.self.now (record c.if-not-is_empty.self { known = c.args.turn }) c.args.turn (frame_pages c.args.pages.items) (hands g c)

pub returns-clause-grown : goal.returns-clause-grown
returns-clause-grown g c = elim c.if-not-is_empty.branch [
  | then-not-is_empty w ↦
      grows_some c.args.turn (frame_pages c.args.pages.items) c.args.self.now.ahead.items c.if-not-is_empty.self.ahead.items (record { turn = c.args.turn; origin = Record; pages = w.from_vec.result })
      (ap (λ (x : PatchSide g.row.D.Denot). x.ahead.items) w.self-is ∙ w.push_back_reserved.ensures.items)
      (record { turn_is = refl; origin = refl; pages_are = ap frame_pages w.from_vec.ensures.items })
      (λ none. let zero : c.args.pages.len ≡ 0 = c.args.pages.ok.0 ∙ ap length (sym w.from_vec.ensures.items ∙ none) in false≢true (sym w.if-not-is_empty.true ∙ c.is_empty.ensures ∙ eq-eqb c.args.pages.len 0 zero))
  | else-not-is_empty w ↦
      grows_none c.args.turn (frame_pages c.args.pages.items) c.args.self.now.ahead.items c.if-not-is_empty.self.ahead.items
      (ap (λ (x : PatchSide g.row.D.Denot). x.ahead.items) w.self-is)
      (ap frame_pages (nil_from_length c.args.pages.items (sym c.args.pages.ok.0 ∙ eqb-true c.args.pages.len 0 (sym c.is_empty.ensures ∙ w.if-not-is_empty.false))))
]
