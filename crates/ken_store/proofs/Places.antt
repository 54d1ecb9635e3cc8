-- Where records stand, one behind the other.
use Rattle.std.proofs.Common.{◌≡◌, ℕ, ◌+◌, ◌<◌, ◌≤◌, suc, zero, List, [], ◌∷◌, ◌++◌, length, take, drop, get_or, refl, sym, ap, ◌∙◌, arith, length-append, Option, true, Bool, Err}
use Rattle.std.specs.Prelude.{if◌then◌else◌}
use Rattle.std.specs.List.{flat_map, AllByRecursion}
use Rattle.std.proofs.lemmas.List.{drop_more, take_more}
use Rattle.ken_record.specs.declared.header.Header.{Header}
use Rattle.ken_record.specs.declared.base.Base.{Base}
use Rattle.ken_record.specs.declared.record.Record.{Record}
use Rattle.ken_record.specs.Spelling.{record_bytes}
use Rattle.ken_record.specs.Versions.{One}
use Rattle.ken_log.specs.Layout.{IsHead, opened, head_bytes, log_bytes}
use Rattle.ken_log.proofs.LogMounts.{head_long}
use Rattle.ken_store.specs.declared.owner.Owner.{Owner}
use Rattle.ken_store.specs.declared.numbers.Numbers.{Numbers}
use Rattle.ken_store.specs.Numbers.{follows, after_record, after_records, place_after}

-- ---- places grow

pub place_after-least : (place : ℕ) (rs : List Record) → place ≤ place_after place rs
place_after-least place [] = omega arith
place_after-least place (r ∷ rs) = let later = place_after-least (place + (1 + length (record_bytes One r))) rs in omega (arith, later)

pub place_after-take : (place i : ℕ) (rs : List Record) → place_after place (take i rs) ≤ place_after place rs
place_after-take place zero rs = place_after-least place rs
place_after-take place (suc i) [] = omega arith
place_after-take place (suc i) (r ∷ rs) = place_after-take (place + (1 + length (record_bytes One r))) i rs

-- the end of a log
pub place_after-opened : (place : ℕ) (rs : List Record) → place_after place rs ≡ place + length (flat_map (opened One) rs)
place_after-opened place [] = omega arith
place_after-opened place (r ∷ rs) =
    let later = place_after-opened (place + (1 + length (record_bytes One r))) rs in
    omega (arith, later, length-append (opened One r) (flat_map (opened One) rs))

pub place_after-end : (head : Header) (base : Option Base) (rs : List Record) → IsHead head base → place_after (32 + head.base_len) rs ≡ length (log_bytes head base rs)
place_after-end head base rs is =
    omega (arith, place_after-opened (32 + head.base_len) rs, length-append (165 ∷ head_bytes head base) (flat_map (opened One) rs), head_long head base is)

pub AllByRecursion-take : {A : Type 0} (P : A → Type 0) (i : ℕ) (xs : List A) → AllByRecursion P xs → AllByRecursion P (take i xs)
AllByRecursion-take P zero xs all = tt
AllByRecursion-take P (suc i) [] all = tt
AllByRecursion-take P (suc i) (x ∷ xs) all = (all.0, AllByRecursion-take P i xs all.1)

pub AllByRecursion-at : {A : Type 0} (P : A → Type 0) (i : ℕ) (xs : List A) (d : A) → i < length xs → AllByRecursion P xs → P (get_or xs i d)
AllByRecursion-at P zero [] d less all = absurd (omega arith)
AllByRecursion-at P zero (x ∷ xs) d less all = all.0
AllByRecursion-at P (suc i) [] d less all = absurd (omega arith)
AllByRecursion-at P (suc i) (x ∷ xs) d less all = AllByRecursion-at P i xs d (omega arith) all.1

-- ---- records that are held against numbers, one after the other

module _ (o : Owner) (start : Numbers) (records : List Record) where
  -- those up to an index follow, and these are the numbers then
  pub record Resumed (index : ℕ) (now : Numbers) : Type 0 where
    pub same : (place : ℕ) → after_records o place start records ≡ after_records o (place_after place (take index records)) now (drop index records)

-- a gate that is reached, with its record, ends within the records
pub gate_within : (place gate i : ℕ) (rs : List Record) (r : Record) → i < length rs → r ≡ get_or rs i r → place_after place rs ≡ place_after gate (drop i rs) → gate + (1 + length (record_bytes One r)) ≤ place_after place rs
gate_within place gate i rs r less is same =
    let here : drop i rs ≡ r ∷ drop (i + 1) rs = drop_more rs i r less ∙ ap (λ (x : Record). x ∷ drop (i + 1) rs) (sym is) in
    let all : place_after place rs ≡ place_after (gate + (1 + length (record_bytes One r))) (drop (i + 1) rs) = same ∙ ap (place_after gate) here in
    omega (arith, all, place_after-least (gate + (1 + length (record_bytes One r))) (drop (i + 1) rs))

-- one record more
place_after-append : (place : ℕ) (xs ys : List Record) → place_after place (xs ++ ys) ≡ place_after (place_after place xs) ys
place_after-append place [] ys = refl
place_after-append place (x ∷ xs) ys = place_after-append (place + (1 + length (record_bytes One x))) xs ys

module _ (o : Owner) (start : Numbers) (records : List Record) (index : ℕ) (now : Numbers) (so_far : Resumed o start records index now) (r : Record) (less : index < length records) (is : r ≡ get_or records index r) (next : follows o now r ≡ true) where
  onward : (place : ℕ) → after_records o place now (drop index records) ≡ after_records o (place + (1 + length (record_bytes One r))) (after_record now r) (drop (index + 1) records)
  onward place =
      let here : drop index records ≡ r ∷ drop (index + 1) records = drop_more records index r less ∙ ap (λ (x : Record). x ∷ drop (index + 1) records) (sym is) in
      ap (after_records o place now) here
      ∙ ap (λ (b : Bool). if b then after_records o (place + (1 + length (record_bytes One r))) (after_record now r) (drop (index + 1) records) else Err place) next

  moved : (place : ℕ) → place_after place (take index records) + (1 + length (record_bytes One r)) ≡ place_after place (take (index + 1) records)
  moved place =
      sym (ap (place_after place) (take_more records index r less ∙ ap (λ (x : Record). take index records ++ x ∷ []) (sym is))
      ∙ place_after-append place (take index records) (r ∷ []))

  pub resumed_more : Resumed o start records (index + 1) (after_record now r)
  resumed_more = record {
    same = λ place.
        so_far.same place ∙ onward (place_after place (take index records))
        ∙ ap (λ (p : ℕ). after_records o p (after_record now r) (drop (index + 1) records)) (moved place);
  }
