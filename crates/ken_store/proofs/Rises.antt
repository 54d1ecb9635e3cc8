-- The turns of live records rise, and none is past the last one.
use Rattle.std.proofs.Common.{◌≡◌, ℕ, ◌+◌, ◌≤◌, List, [], ◌∷◌, ◌++◌, length, map, replicate, Bool, true, false, refl, sym, ap, subst, arith, Option, Some, None, Ok, Err}
use Rattle.std.specs.Prelude.{if◌then◌else◌}
use Rattle.std.specs.List.{AllByRecursion}
use Rattle.std.proofs.lemmas.List.Concat.{flat_map-cons}
use Rattle.ken_record.specs.declared.header.Header.{Header}
use Rattle.ken_record.specs.declared.base.Base.{Base}
use Rattle.ken_record.specs.declared.record.Record.{Record}
use Rattle.ken_record.specs.Spelling.{record_bytes}
use Rattle.ken_record.specs.Versions.{One}
use Rattle.ken_cover.specs.declared.layers.Change.{Change}
use Rattle.ken_cover.specs.declared.layers.Layer.{Layer}
use Rattle.ken_cover.specs.Sides.{ImagePages, changes_of, recounted, recovered_image_pages}
use Rattle.ken_store.specs.declared.numbers.Numbers.{Numbers}
use Rattle.ken_store.specs.declared.owner.Owner.{Owner}
use Rattle.ken_store.specs.Bases.{base_stands, base_numbers}
use Rattle.ken_store.specs.Kept.{base_pages}
use Rattle.ken_store.specs.Numbers.{no_numbers, follows, after_record, after_records}
use Rattle.ken_store.specs.PatchLaws.{IsAheadOf, LayersRise, LastChangedBefore}
use Rattle.ken_store.specs.Recovered.{numbers_from, numbers_of}
use Rattle.ken_store.specs.Turning.{live_layers, record_layer}
use Rattle.ken_store.proofs.AheadLaws.{newest_all, recovery_is_ahead}
use Rattle.ken_store.proofs.Found.{next_turn}
use Rattle.ken_store.proofs.Lives.{live_recounted}

abbrev pub IsUpTo : ℕ → Layer → Type 0
IsUpTo last l = l.turn ≤ last

-- turns that go on from n, up to the last
pub record GoOn (n last : ℕ) (ls : List Layer) : Type 0 where
  pub most : n ≤ last
  pub rise : LayersRise n ls
  pub within : AllByRecursion (IsUpTo last) ls

from_less : (a b : ℕ) (ls : List Layer) → a ≤ b → LayersRise b ls → LayersRise a ls
from_less a b [] less rise = tt
from_less a b (l ∷ ls) less rise = (omega (arith, less, rise.0), rise.1)

module _ (o : Owner) (n2 : Numbers) where
  record_on : (place : ℕ) (n : Numbers) (r : Record) (rs : List Record) (test : Bool) → follows o n r ≡ test
      → ((place : ℕ) (n : Numbers) → after_records o place n rs ≡ Ok n2 → GoOn n.turns n2.turns (map record_layer rs))
      → (if test then after_records o (place + (1 + length (record_bytes One r))) (after_record n r) rs else Err place) ≡ Ok n2
      → GoOn n.turns n2.turns (map record_layer (r ∷ rs))
  record_on place n r rs true test rest is =
      let later = rest (place + (1 + length (record_bytes One r))) (after_record n r) is in
      let turn = next_turn o n r test in
      record {
        most = omega (arith, turn, later.most);
        rise = (omega (arith, turn), later.rise);
        within = (later.most, later.within);
      }
  record_on place n r rs false test rest is = absurd (let none : ⊥ = cc is in none)

  records_on : (rs : List Record) (place : ℕ) (n : Numbers) → after_records o place n rs ≡ Ok n2 → GoOn n.turns n2.turns (map record_layer rs)
  records_on [] place n is = let same : n ≡ n2 = cc is in record { most = omega (arith, ap (λ (m : Numbers). m.turns) same); rise = tt; within = tt }
  records_on (r ∷ rs) place n is = record_on place n r rs (follows o n r) refl (records_on rs) is

  base_on : (head : Header) (b : Base) (turns : List ℕ) (rs : List Record) (test : Bool) → numbers_from o (32 + head.base_len) (if test then Some (base_numbers head b) else None) rs ≡ Ok n2 → GoOn 0 n2.turns (live_layers head (Some b) turns rs)
  base_on head b turns rs true is =
      let later = records_on rs (32 + head.base_len) (base_numbers head b) is in
      record { most = omega arith; rise = (omega arith, later.rise); within = (later.most, later.within) }
  base_on head b turns rs false is = absurd (let none : ⊥ = cc is in none)

  pub live_on : (head : Header) (base : Option Base) (turns : List ℕ) (rs : List Record) → numbers_of o head base rs ≡ Ok n2 → GoOn 0 n2.turns (live_layers head base turns rs)
  live_on head None turns rs is = records_on rs (32 + head.base_len) no_numbers is
  live_on head (Some b) turns rs is = base_on head b turns rs (base_stands o head b) is

-- ---- the last changes

abbrev IsChangeUpTo : ℕ → Change → Type 0
IsChangeUpTo last c = c.turn ≤ last

all_both : (P : Change → Type 0) (xs ys : List Change) → AllByRecursion P xs → AllByRecursion P ys → AllByRecursion P (xs ++ ys)
all_both P [] ys first second = second
all_both P (x ∷ xs) ys first second = (first.0, all_both P xs ys first.1 second)

all_turned : (turn last : ℕ) (cs : List Change) → turn ≤ last → AllByRecursion (IsChangeUpTo last) (map (λ (c : Change). record c { turn = turn }) cs)
all_turned turn last [] most = tt
all_turned turn last (c ∷ cs) most = (most, all_turned turn last cs most)

all_recounted : (last : ℕ) (ls : List Layer) → AllByRecursion (IsUpTo last) ls → AllByRecursion (IsChangeUpTo last) (changes_of (map recounted ls))
all_recounted last [] all = tt
all_recounted last (l ∷ ls) all =
    subst (AllByRecursion (IsChangeUpTo last)) (sym (flat_map-cons (λ (l : Layer). l.changes) (recounted l) (map recounted ls)))
    (all_both (IsChangeUpTo last) (recounted l).changes (changes_of (map recounted ls)) (all_turned l.turn last l.changes all.0) (all_recounted last ls all.1))

module _ (o : Owner) (n : Numbers) (head : Header) (base : Option Base) (rs : List Record) (numbers : numbers_of o head base rs ≡ Ok n) where
  abbrev turns : List ℕ
  turns = replicate (length (base_pages base)) head.turns

  again : map recounted (live_layers head base turns rs) ≡ live_layers head base turns rs
  again = live_recounted head rs base

  -- after a recovery no live page changed after the last turn
  pub changed_before : (heap : List ℕ) → LastChangedBefore (n.turns + 1) (record { heap = heap; live = live_layers head base turns rs })
  changed_before heap p c is =
      let all = subst (λ (ls : List Layer). AllByRecursion (IsChangeUpTo n.turns) (changes_of ls)) again (all_recounted n.turns (live_layers head base turns rs) (live_on o n head base turns rs numbers).within) in
      let most = newest_all (IsChangeUpTo n.turns) p (changes_of (live_layers head base turns rs)) c all is in
      omega (arith, most)

  -- and all that is to patch is behind the live records
  pub ahead_again : (heap : List ℕ) (i : ImagePages) → IsAheadOf (record { heap = heap; live = live_layers head base turns rs }) (recovered_image_pages (live_layers head base turns rs) i)
  ahead_again heap i =
      subst (λ (ls : List Layer). IsAheadOf (record { heap = heap; live = ls }) (recovered_image_pages (live_layers head base turns rs) i)) again
      (recovery_is_ahead i.image (record { heap = heap; live = live_layers head base turns rs }) i (live_on o n head base turns rs numbers).rise)
