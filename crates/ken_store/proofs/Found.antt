-- What a recovery finds to patch.
use Rattle.std.proofs.Common.{◌≡◌, ℕ, ◌+◌, ◌≤◌, List, [], ◌∷◌, ◌++◌, length, Bool, true, false, refl, sym, ap, subst, arith, eqb-true, Option, Some, None, Ok, Err}
use Rattle.std.specs.Prelude.{if◌then◌else◌, ◌&&◌}
use Rattle.std.proofs.lemmas.List.Concat.{flat_map-cons}
use Rattle.ken_record.specs.declared.page.Page.{Page}
use Rattle.ken_record.specs.declared.header.Header.{Header}
use Rattle.ken_record.specs.declared.base.Base as bases
use Rattle.ken_record.specs.declared.record.Record as records
use Rattle.ken_record.specs.Spelling.{record_bytes}
use Rattle.ken_record.specs.Versions.{One}
use Rattle.ken_cover.specs.declared.layers.Layer.{Layer}
use Rattle.ken_store.specs.declared.numbers.Numbers.{Numbers}
use Rattle.ken_store.specs.declared.owner.Owner.{Owner}
use Rattle.ken_store.specs.declared.patching.Ahead.{Ahead}
use Rattle.ken_store.specs.Ahead.{AreFound, ahead_layers, page_layers, record_layers}
use Rattle.ken_store.specs.Bases.{base_stands, base_numbers}
use Rattle.ken_store.specs.Kept.{base_pages}
use Rattle.ken_store.specs.Numbers.{no_numbers, follows, comes_next, sends_follow, outs_follow, are_within, after_record, after_records}
use Rattle.ken_store.specs.Patching.{RiseWithin, IsInOrder}
use Rattle.ken_store.specs.Recovered.{numbers_from, numbers_of}

-- ---- their turns rise

-- turns of layers rise from one on, and none is past the last one
pub LayersRise : ℕ → ℕ → List Layer → Type 0
LayersRise least last [] = Unit {0}
LayersRise least last (l ∷ rest) = (least ≤ l.turn) × (l.turn ≤ last) × LayersRise (l.turn + 1) last rest

pub rise_ahead : (least last : ℕ) (items : List Ahead) → LayersRise least last (ahead_layers items) → RiseWithin least last items
unfolding LayersRise
rise_ahead least last [] rise = tt
rise_ahead least last (a ∷ rest) rise = (rise.0, rise.1, rise_ahead (a.turn + 1) last rest rise.2)

from_less : (a b last : ℕ) (ls : List Layer) → a ≤ b → LayersRise b last ls → LayersRise a last ls
unfolding LayersRise
from_less a b last [] less rise = tt
from_less a b last (l ∷ rest) less rise = (omega (arith, less, rise.0), rise.1, rise.2)

and_first : (a b : Bool) → a && b ≡ true → a ≡ true
and_first true b is = refl
and_first false b is = absurd (let none : ⊥ = cc is in none)

-- a record that follows is of the next turn
pub next_turn : (o : Owner) (n : Numbers) (r : records.Record) → follows o n r ≡ true → r.turn ≡ n.turns + 1
next_turn o n r test =
    let a = and_first (comes_next o n r && sends_follow o.nodes n.sent r.sends && outs_follow n.outputs r.outs) (are_within o.pages r.pages) test in
    let b = and_first (comes_next o n r && sends_follow o.nodes n.sent r.sends) (outs_follow n.outputs r.outs) a in
    let c = and_first (comes_next o n r) (sends_follow o.nodes n.sent r.sends) b in
    let d = and_first _ _ (and_first _ _ (and_first _ _ c)) in
    eqb-true r.turn (n.turns + 1) d

record Rise (n last : ℕ) (rs : List records.Record) : Type 0 where
  most : n ≤ last
  rises : LayersRise (n + 1) last (record_layers rs)

onto_rise : (n last turn : ℕ) (pages : List Page) (rest : List Layer) → turn ≡ n + 1 → turn ≤ last → LayersRise (turn + 1) last rest → LayersRise (n + 1) last (page_layers turn pages ++ rest)
unfolding LayersRise
onto_rise n last turn [] rest is most rise = from_less (n + 1) (turn + 1) last rest (omega (arith, is)) rise
onto_rise n last turn (e ∷ es) rest is most rise = (omega (arith, is), most, rise)

module _ (o : Owner) (n2 : Numbers) where
  record_rise : (place : ℕ) (n : Numbers) (r : records.Record) (rs : List records.Record) (test : Bool) → follows o n r ≡ test
      → ((place : ℕ) (n : Numbers) → after_records o place n rs ≡ Ok n2 → Rise n.turns n2.turns rs)
      → (if test then after_records o (place + (1 + length (record_bytes One r))) (after_record n r) rs else Err place) ≡ Ok n2
      → Rise n.turns n2.turns (r ∷ rs)
  record_rise place n r rs true test rest is =
      let later = rest (place + (1 + length (record_bytes One r))) (after_record n r) is in
      let turn = next_turn o n r test in
      record {
        most = omega (arith, turn, later.most);
        rises = subst (LayersRise (n.turns + 1) n2.turns) (sym (flat_map-cons (λ (r : records.Record). page_layers r.turn r.pages) r rs)) (onto_rise n.turns n2.turns r.turn r.pages (record_layers rs) turn later.most later.rises);
      }
  record_rise place n r rs false test rest is = absurd (let none : ⊥ = cc is in none)

  records_rise : (rs : List records.Record) (place : ℕ) (n : Numbers) → after_records o place n rs ≡ Ok n2 → Rise n.turns n2.turns rs
  unfolding LayersRise
  records_rise [] place n is = let same : n ≡ n2 = cc is in record { most = omega (arith, ap (λ (m : Numbers). m.turns) same); rises = tt }
  records_rise (r ∷ rs) place n is = record_rise place n r rs (follows o n r) refl (records_rise rs) is

  first_rise : (turn : ℕ) (pages : List Page) (rs : List records.Record) → Rise turn n2.turns rs → LayersRise 0 n2.turns (page_layers turn pages ++ record_layers rs)
  unfolding LayersRise
  first_rise turn [] rs rise = from_less 0 (turn + 1) n2.turns (record_layers rs) (omega arith) rise.rises
  first_rise turn (e ∷ es) rs rise = (omega arith, rise.most, rise.rises)

  base_rise : (head : Header) (b : bases.Base) (rs : List records.Record) (test : Bool) → numbers_from o (32 + head.base_len) (if test then Some (base_numbers head b) else None) rs ≡ Ok n2 → LayersRise 0 n2.turns (page_layers head.turns b.pages ++ record_layers rs)
  base_rise head b rs true is = first_rise head.turns b.pages rs (records_rise rs (32 + head.base_len) (base_numbers head b) is)
  base_rise head b rs false is = absurd (let none : ⊥ = cc is in none)

  -- the turns of a log's base and records
  pub log_rises : (head : Header) (base : Option bases.Base) (rs : List records.Record) → numbers_of o head base rs ≡ Ok n2 → LayersRise 0 n2.turns (page_layers head.turns (base_pages base) ++ record_layers rs)
  unfolding LayersRise
  log_rises head None rs is = from_less 0 1 n2.turns (record_layers rs) (omega arith) (records_rise rs (32 + head.base_len) no_numbers is).rises
  log_rises head (Some b) rs is = base_rise head b rs (base_stands o head b) is

-- so what is found of them is in order
pub found_in_order : (o : Owner) (n : Numbers) (head : Header) (base : Option bases.Base) (rs : List records.Record) (items : List Ahead) → numbers_of o head base rs ≡ Ok n → AreFound items → ahead_layers items ≡ page_layers head.turns (base_pages base) ++ record_layers rs → IsInOrder n.turns items
found_in_order o n head base rs items numbers found is = record {
  rising = rise_ahead 0 n.turns items (subst (LayersRise 0 n.turns) (sym is) (log_rises o n head base rs numbers));
  base = found.base;
  each = found.each;
}
