-- An item at the front of bytes: found, and no other.
use Rattle.std.proofs.Common.{◌≡◌, ℕ, ◌+◌, ◌-◌, ◌<◌, List, ◌++◌, length, drop, Option, Some, Err, refl, sym, ap, subst, ◌∙◌, append_assoc, arith}
use Rattle.std.proofs.lemmas.List.{drop_at, length-append}
use Rattle.ken_record.specs.declared.faults.RecordFault.{RecordFault}
use Rattle.ken_record.specs.declared.faults.RecordFault.TheVariants.{Bad, Memory}
use Rattle.ken_record.specs.declared.header.Header.{Header}
use Rattle.ken_record.specs.declared.base.Base.{Base}
use Rattle.ken_record.specs.declared.record.Record.{Record}
use Rattle.ken_record.specs.Versions.{Version, One, most_fields}
use Rattle.ken_record.specs.declared.item.Item.{Item}
use Rattle.ken_record.specs.declared.item.Item.TheVariants as items
use Rattle.ken_record.specs.declared.item.ItemKind.{ItemKind}
use Rattle.ken_record.specs.declared.item.ItemKind.TheVariants as kinds
use Rattle.ken_record.specs.Spelling.{number, mark, place, past, fields, header_bytes, base_bytes, record_bytes}
use Rattle.ken_record.specs.Grammar.{IsRecord, IsBase}
use Rattle.ken_record.specs.Items.{kind_of, IsItem, spelling, Spells, Reads}
use Rattle.ken_record.specs.Reading.{Fails, number_at, within, header_at, base_at, record_at, item_at}
use Rattle.ken_record.proofs.Forms.{IsBytes, bind_some, some_is, number_4, within_form}
use Rattle.ken_record.proofs.Members.{header_form, base_form, record_form}
use Rattle.ken_record.proofs.Sizes.{fields_short}

-- what was taken from the front
pub record Front (v : Version) (kind : ItemKind) (bytes : List ℕ) (item : Item) (rest : List ℕ) : Type 0 where
  pub kind_is : kind_of item ≡ kind
  pub spells : Spells v bytes item rest

pub item_takes : (v : Version) (kind : ItemKind) (bytes : List ℕ) (item : Item) (rest : List ℕ) → IsBytes bytes → item_at v kind bytes ≡ Some (item, rest) → Front v kind bytes item rest
unfolding item_at
item_takes v kinds.Header bytes item rest are e =
    let a = bind_some (header_at bytes) (λ x. Some (items.Header x.0, x.1)) (item, rest) e in
    let p = header_form.takes bytes a.0.0 a.0.1 are a.1 in
    subst (λ (y : Item × List ℕ). Front v kinds.Header bytes y.0 y.1) (some_is (items.Header a.0.0, a.0.1) (item, rest) a.2) (record { kind_is = refl; spells = record { fits = p.fit; parts = p.parts } })
item_takes v kinds.Base bytes item rest are e =
    let a = bind_some (base_at v bytes) (λ x. Some (items.Base x.0, x.1)) (item, rest) e in
    let p = (base_form v).takes bytes a.0.0 a.0.1 are a.1 in
    subst (λ (y : Item × List ℕ). Front v kinds.Base bytes y.0 y.1) (some_is (items.Base a.0.0, a.0.1) (item, rest) a.2) (record { kind_is = refl; spells = record { fits = p.fit; parts = p.parts } })
item_takes v kinds.Record bytes item rest are e =
    let a = bind_some (record_at v bytes) (λ x. Some (items.Record x.0, x.1)) (item, rest) e in
    let p = (record_form v).takes bytes a.0.0 a.0.1 are a.1 in
    subst (λ (y : Item × List ℕ). Front v kinds.Record bytes y.0 y.1) (some_is (items.Record a.0.0, a.0.1) (item, rest) a.2) (record { kind_is = refl; spells = record { fits = p.fit; parts = p.parts } })

pub item_again : (v : Version) (item : Item) (rest : List ℕ) → IsItem v item → item_at v (kind_of item) (spelling v item ++ rest) ≡ Some (item, rest)
unfolding item_at
item_again v (items.Header h) rest is = rw (header_form.again h rest is) refl
item_again v (items.Base b) rest is = rw ((base_form v).again b rest is) refl
item_again v (items.Record r) rest is = rw ((record_form v).again r rest is) refl

-- what the front spells is read
pub item_read : (v : Version) (kind : ItemKind) (bytes : List ℕ) (item : Item) (rest : List ℕ) → kind_of item ≡ kind → Spells v bytes item rest → item_at v kind bytes ≡ Some (item, rest)
item_read v kind bytes item rest e s = rw (← e, s.parts) (item_again v item rest s.fits)

short_of_name : (v : Version) → most_fields v < 0x4b45_4e4c
short_of_name One = omega arith

-- the first four bytes of a header are a number too great for a record's length
pub two_kinds : (v : Version) (h : Header) (r : Record) (x y : List ℕ) → IsRecord v r → header_bytes h ++ x ≡ record_bytes v r ++ y → ⊥
two_kinds v h r x y is e =
    let len : ℕ = length (fields v r) in
    let short = fields_short v r is in
    let less = short_of_name v in
    let left : header_bytes h ++ x ≡ number 4 0x4b45_4e4c ++ (number 1 1 ++ ((place h ++ past h) ++ x)) = append_assoc (mark One) (place h ++ past h) x ∙ append_assoc (number 4 0x4b45_4e4c) (number 1 1) ((place h ++ past h) ++ x) in
    let right : record_bytes v r ++ y ≡ number 4 len ++ (fields v r ++ y) = append_assoc (number 4 len) (fields v r) y in
    let one = number_4.again 0x4b45_4e4c (number 1 1 ++ ((place h ++ past h) ++ x)) (omega arith) in
    let two = number_4.again len (fields v r ++ y) (omega arith) in
    let same : number 4 0x4b45_4e4c ++ (number 1 1 ++ ((place h ++ past h) ++ x)) ≡ number 4 len ++ (fields v r ++ y) = sym left ∙ e ∙ right in
    let read : ◌≡◌ {A = Option (ℕ × List ℕ)} (Some (0x4b45_4e4c, number 1 1 ++ ((place h ++ past h) ++ x))) (Some (len, fields v r ++ y)) = sym one ∙ ap (number_at 4) same ∙ two in
    let equal : 0x4b45_4e4c ≡ len = ap (λ (p : ℕ × List ℕ). p.0) (some_is (0x4b45_4e4c, number 1 1 ++ ((place h ++ past h) ++ x)) (len, fields v r ++ y) read) in
    omega arith

pub one_item : (v : Version) (a b : Item) (x y : List ℕ) → kind_of a ≡ kind_of b → IsItem v a → IsItem v b → spelling v a ++ x ≡ spelling v b ++ y → (a ≡ b) × (x ≡ y)
one_item v a b x y k ia ib e =
    let one = item_read v (kind_of b) (spelling v b ++ y) a x k (record { fits = ia; parts = sym e }) in
    let two = item_read v (kind_of b) (spelling v b ++ y) b y refl (record { fits = ib; parts = refl }) in
    let same = some_is (a, x) (b, y) (sym one ∙ two) in
    (ap (λ (p : Item × List ℕ). p.0) same, ap (λ (p : Item × List ℕ). p.1) same)

-- how long what was taken is
pub front_long : (v : Version) (bytes : List ℕ) (item : Item) (rest : List ℕ) → Spells v bytes item rest → length bytes ≡ length (spelling v item) + length rest
front_long v bytes item rest s = ap length s.parts ∙ length-append (spelling v item) rest

-- the bytes after it, told by its length
pub front_rest : (v : Version) (bytes : List ℕ) (item : Item) (rest : List ℕ) → Spells v bytes item rest → drop (length bytes - length rest) bytes ≡ rest
front_rest v bytes item rest s =
    let long = front_long v bytes item rest s in
    ap (drop (length bytes - length rest)) s.parts ∙ drop_at (spelling v item) rest (length bytes - length rest) (omega arith)

pub front_at : (v : Version) (bytes : List ℕ) (item : Item) (rest : List ℕ) → Spells v bytes item rest → Spells v bytes item (drop (length bytes - length rest) bytes)
front_at v bytes item rest s = subst (Spells v bytes item) (sym (front_rest v bytes item rest s)) s

-- after an answer of Memory or Bad
pub read_nothing : (v : Version) (fault : RecordFault) (kind : ItemKind) (bytes : List ℕ) (item : Item) (rest : List ℕ) → Fails fault (item_at v kind bytes) → kind_of item ≡ kind → Spells v bytes item rest → Reads v (Err fault) item
read_nothing v Memory kind bytes item rest e is s = tt
read_nothing v Bad kind bytes item rest e is s = let found = item_read v kind bytes item rest is s in absurd cc

pub read_one : (v : Version) (kind : ItemKind) (bytes : List ℕ) (item other : Item) (rest after : List ℕ) → item_at v kind bytes ≡ Some (item, rest) → kind_of other ≡ kind → Spells v bytes other after → (item ≡ other) × (rest ≡ after)
read_one v kind bytes item other rest after e is s =
    let same = some_is (item, rest) (other, after) (sym e ∙ item_read v kind bytes other after is s) in
    (ap (λ (p : Item × List ℕ). p.0) same, ap (λ (p : Item × List ℕ). p.1) same)

-- a base that is all of so many bytes
pub record AllBase (v : Version) (n : ℕ) (bytes : List ℕ) (base : Base) (rest : List ℕ) : Type 0 where
  pub fits : IsBase v base
  pub long : length (base_bytes v base) ≡ n
  pub parts : bytes ≡ base_bytes v base ++ drop n bytes
  pub rest_is : drop n bytes ≡ rest

pub base_taken : (v : Version) (n : ℕ) (bytes : List ℕ) (base : Base) (rest : List ℕ) → IsBytes bytes → within (base_at v) n bytes ≡ Some (base, rest) → AllBase v n bytes base rest
base_taken v n bytes base rest are e =
    let p = (within_form (base_form v) n).takes bytes base rest are e in
    let behind : drop n bytes ≡ rest = ap (drop n) p.parts ∙ drop_at (base_bytes v base) rest n p.fit.1 in
    record {
      fits = p.fit.0;
      long = p.fit.1;
      parts = p.parts ∙ ap (λ (t : List ℕ). base_bytes v base ++ t) (sym behind);
      rest_is = behind;
    }

pub base_read : (v : Version) (n : ℕ) (bytes : List ℕ) (base : Base) (rest : List ℕ) → IsBase v base → length (base_bytes v base) ≡ n → bytes ≡ base_bytes v base ++ rest → within (base_at v) n bytes ≡ Some (base, rest)
base_read v n bytes base rest fits long parts = rw parts ((within_form (base_form v) n).again base rest (fits, long))

pub base_missed : (v : Version) (fault : RecordFault) (n : ℕ) (bytes : List ℕ) (base : Base) (rest : List ℕ) → Fails fault (within (base_at v) n bytes) → fault ≡ Bad → IsBase v base → length (base_bytes v base) ≡ n → bytes ≡ base_bytes v base ++ rest → ⊥
base_missed v Memory n bytes base rest e bad fits long parts = absurd cc
base_missed v Bad n bytes base rest e bad fits long parts = let found = base_read v n bytes base rest fits long parts in absurd cc
