-- What is read from bytes is what they stand for.
use Rattle.std.proofs.Common.{◌≡◌, ℕ, ◌+◌, ◌-◌, ◌*◌, ◌/◌, ◌%◌, ◌^◌, ◌<◌, ◌≤◌, Bool, true, false, not, ◌&&◌, ◌||◌, leb, List, [], ◌∷◌, length, take, codes, Some, None, inl, inr, refl, sym, ap, ◌∙◌, subst, arith}
use Rattle.std.specs.Bool.{Decides}
use Rattle.std.proofs.lemmas.Bool.Decides.{leb_tells, Decides-eqb, Decides-ltb, Decides-and, Decides-like}
use Rattle.std.proofs.lemmas.Slice.Eq.{bytes_eq-Decides}
use Rattle.byteorder.specs.Endian.{big_bytes}
use Rattle.ken_model.specs.declared.facts.TheConstants.{PAGE, MAX_PAGES}
use Rattle.ken_model.specs.declared.values.Block.{Block}
use Rattle.ken_model.specs.declared.values.Value.{Value}
use Rattle.ken_model.specs.Heap.{rounded, end_of}
use Rattle.ken_model.specs.Layout.{part, head_bytes, IsGap, IsLaid, AreCells, HasName, HasPages, StandsFor}
use Rattle.ken_model.specs.Reading.{value_of, read_value, gap_stands, block_stands, cells_stand, is_size, header_stands, value_stands}
use Rattle.ken_model.specs.LayoutLaws.{StandsForOne, ReadsWhatStands}
use Rattle.ken_model.proofs.Choices.{is_true, is_false}
use Rattle.ken_model.proofs.Unique.{value_of-unique, StandsFor-value}

Decides-leb : (a b : ℕ) → Decides (leb a b) (a ≤ b)
Decides-leb a b = elim (leb_tells a b) [
  | inl t ↦ (λ e. t.1, λ le. t.0)
  | inr f ↦ (λ e. (let no_more : false ≡ true = sym f.0 ∙ e in absurd cc), λ le. absurd (omega (arith, f.1)))
]

-- one test where another holds
Decides-when : {P Q : Type 0} (x y : Bool) → Decides x P → Decides y Q → Decides (not x || y) (P → Q)
Decides-when true y d e = (λ is p. e.0 is, λ f. e.1 (f (d.0 refl)))
Decides-when false y d e = (λ is p. (let so : false ≡ true = d.1 p in absurd cc), λ f. refl)

and3 : {P Q R : Type 0} (x y z : Bool) → Decides x P → Decides y Q → Decides z R → Decides (x && y && z) (P × Q × R)
and3 x y z d e f = Decides-like (x && y && z) (λ p. (p.0.0, p.0.1, p.1)) (λ p. ((p.0, p.1), p.2)) (Decides-and (x && y) z (Decides-and x y d e) f)

and4 : {P Q R S : Type 0} (w x y z : Bool) → Decides w P → Decides x Q → Decides y R → Decides z S → Decides (w && x && y && z) (P × Q × R × S)
and4 w x y z d e f g = Decides-like (w && x && y && z) (λ p. (p.0.0, p.0.1, p.0.2, p.1)) (λ p. ((p.0, p.1, p.2), p.3)) (Decides-and (w && x && y) z (and3 w x y d e f) g)

module _ (bytes : List ℕ) where
  gap-Decides : (from to : ℕ) → Decides (gap_stands bytes from to) (IsGap bytes from to)
  gap-Decides from to = and3 _ _ _ (Decides-leb from to) (Decides-eqb ((to - from) % 16) 0) (Decides-when _ _ (Decides-ltb from to) (bytes_eq-Decides (part from 16 bytes) (head_bytes (to - from) 0)))

  block-Decides : (b : Block) → Decides (block_stands bytes b) (IsLaid bytes b)
  block-Decides b = and4 _ _ _ _ (Decides-ltb 0 (length b.bytes)) (Decides-eqb (b.place % 16) 0) (bytes_eq-Decides (part (b.place - 16) 16 bytes) (head_bytes (16 + rounded (length b.bytes)) (length b.bytes))) (bytes_eq-Decides (part b.place (length b.bytes) bytes) b.bytes)

  cells-Decides : (from to : ℕ) (bs : List Block) → Decides (cells_stand bytes from to bs) (AreCells bytes from to bs)
  cells-Decides from to [] = gap-Decides from to
  cells-Decides from to (b ∷ bs) = and4 _ _ _ _ (Decides-leb (from + 16) b.place) (gap-Decides from (b.place - 16)) (block-Decides b) (cells-Decides (end_of b) to bs)

  abbrev Header : ℕ → Type 0
  Header root = (root < 2 ^ 64) × (take 8 bytes ≡ big_bytes 8 root) × HasName bytes × HasPages bytes

  header-Decides : (root : ℕ) → Decides (header_stands bytes root) (Header root)
  header-Decides root = and4 _ _ _ _ (Decides-ltb root (2 ^ 64)) (bytes_eq-Decides (take 8 bytes) (big_bytes 8 root)) (bytes_eq-Decides (part 8 4 bytes) (codes "KENH")) (bytes_eq-Decides (part 12 4 bytes) (big_bytes 4 (length bytes / PAGE)))

abbrev Pages : ℕ → Type 0
Pages size = (n : ℕ) × (0 < n) × (n ≤ MAX_PAGES) × (size ≡ PAGE * n)

size-Decides : (size : ℕ) → Decides (is_size size) (Pages size)
size-Decides size =
    Decides-like (is_size size) (λ p. (size / 256, p.0, p.1, p.2)) (λ (p : Pages size). (let is : size / 256 ≡ p.0 = omega (arith, p.3) in (omega (arith, p.1), omega (arith, p.2), omega (arith, p.3))))
    (and3 _ _ _ (Decides-ltb 0 (size / 256)) (Decides-leb (size / 256) 4096) (Decides-eqb size (256 * (size / 256))))

value-Decides : (bytes : List ℕ) (v : Value) → Decides (value_stands bytes v) (StandsFor bytes v)
value-Decides bytes v =
    Decides-like (value_stands bytes v)
    (λ p. record { size = p.0; pages = p.1; small = p.2.0; root = p.2.1; name = p.2.2; count = p.2.3; cells = p.3 })
    (λ (s : StandsFor bytes v). (s.size, s.pages, (s.small, s.root, s.name, s.count), s.cells))
    (and4 _ _ _ _ (Decides-eqb (length bytes) v.size) (size-Decides v.size) (header-Decides bytes v.root) (cells-Decides bytes 16 v.size v.blocks))

pub read_some : (bytes : List ℕ) (v : Value) → StandsFor bytes v → read_value bytes ≡ Some v
unfolding read_value
read_some bytes v stands =
    is_true (value_stands bytes (value_of bytes)) (Some (value_of bytes)) None ((value-Decides bytes (value_of bytes)).1 (StandsFor-value bytes v stands)) ∙ ap (λ (w : Value). Some w) (value_of-unique bytes v stands)

pub read_none : (bytes : List ℕ) → ((v : Value) → StandsFor bytes v → ⊥) → read_value bytes ≡ None
unfolding read_value
read_none bytes none = go (value_stands bytes (value_of bytes)) refl
  where
    go : (t : Bool) → value_stands bytes (value_of bytes) ≡ t → read_value bytes ≡ None
    go true is = absurd (none (value_of bytes) ((value-Decides bytes (value_of bytes)).0 is))
    go false is = is_false (value_stands bytes (value_of bytes)) (Some (value_of bytes)) None is

read_stands : (bytes : List ℕ) (v : Value) → read_value bytes ≡ Some v → StandsFor bytes v
unfolding read_value
read_stands bytes v read = go (value_stands bytes (value_of bytes)) refl
  where
    go : (t : Bool) → value_stands bytes (value_of bytes) ≡ t → StandsFor bytes v
    go true is =
        let stands : StandsFor bytes (value_of bytes) = (value-Decides bytes (value_of bytes)).0 is in
        let same : Some (value_of bytes) ≡ Some v = sym (is_true (value_stands bytes (value_of bytes)) (Some (value_of bytes)) None is) ∙ read in
        let e : value_of bytes ≡ v = cc in
        subst (λ (w : Value). StandsFor bytes w) e stands
    go false is =
        let none : None ≡ Some v = sym (is_false (value_stands bytes (value_of bytes)) (Some (value_of bytes)) None is) ∙ read in
        absurd cc

pub reads_what_stands : ReadsWhatStands
reads_what_stands bytes v = (read_stands bytes v, read_some bytes v)

pub stands_for_one : StandsForOne
stands_for_one bytes v w stands stands' = sym (value_of-unique bytes v stands) ∙ value_of-unique bytes w stands'
