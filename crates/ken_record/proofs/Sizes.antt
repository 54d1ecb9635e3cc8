-- How long spellings are.
use Rattle.std.proofs.Common.{◌≡◌, ℕ, ◌+◌, ◌*◌, ◌≤◌, List, [], ◌∷◌, ◌++◌, length, refl, ap, ◌∙◌, arith, length-append}
use Rattle.std.specs.List.{flat_map, AllByRecursion}
use Rattle.std.proofs.lemmas.List.Concat.{flat_map-cons}
use Rattle.std.proofs.Math.Nat.{mul-suc}
use Rattle.byteorder.specs.Numbers.{length-bytes_high_first}
use Rattle.ken_model.specs.declared.messages.Out.{Out}
use Rattle.ken_record.specs.declared.due.Due.{Due}
use Rattle.ken_record.specs.declared.sent.Sent.{Sent}
use Rattle.ken_record.specs.declared.page.Page.{Page}
use Rattle.ken_record.specs.declared.header.Header.{Header}
use Rattle.ken_record.specs.declared.base.Base.{Base}
use Rattle.ken_record.specs.declared.record.Record.{Record}
use Rattle.ken_record.specs.Versions.{Version, One, most_fields}
use Rattle.ken_record.specs.Spelling.{number, text, counted, sent, due, out, page, origin, fields, counts, header_bytes, base_bytes}
use Rattle.ken_record.specs.Grammar.{IsWord, IsSent, IsOut, IsPage, AtMost, IsRecord, IsBase}

pub number_long : (w n : ℕ) → length (number w n) ≡ w
unfolding number
number_long w n = length-bytes_high_first w n

module _ {A : Type 0} (spell : A → List ℕ) (fits : A → Type 0) (m : ℕ) (short : (x : A) → fits x → length (spell x) ≤ m) where
  items_short : (xs : List A) → AllByRecursion fits xs → length (flat_map spell xs) ≤ m * length xs
  items_short [] fit = omega arith
  items_short (x ∷ xs) fit =
      let first = short x fit.0 in
      let others = items_short xs fit.1 in
      let parts = ap length (flat_map-cons spell x xs) ∙ length-append (spell x) (flat_map spell xs) in
      let grown = mul-suc m (length xs) in
      omega arith

text_long : (bytes : List ℕ) → length (text bytes) ≡ 2 + length bytes
text_long bytes = simp (length-append, number_long)

pub sent_long : (s : Sent) → length (sent s) ≡ 11 + length s.bytes
sent_long s = omega (arith, length-append (number 1 s.to) (number 8 s.number ++ text s.bytes), length-append (number 8 s.number) (text s.bytes), number_long 1 s.to, number_long 8 s.number, text_long s.bytes)

pub due_long : (m : Due) → length (due m) ≡ 19 + length m.bytes
due_long m =
    omega (arith, length-append (number 1 m.to) (number 8 m.number ++ (number 8 m.stamp ++ text m.bytes)), length-append (number 8 m.number) (number 8 m.stamp ++ text m.bytes), length-append (number 8 m.stamp) (text m.bytes), number_long 1 m.to, number_long 8 m.number, number_long 8 m.stamp, text_long m.bytes)

pub out_long : (o : Out) → length (out o) ≡ 10 + length o.text
out_long o = omega (arith, length-append (number 8 o.number) (text o.text), number_long 8 o.number, text_long o.text)

pub page_long : (p : Page) → IsPage p → length (page p) ≡ 260
page_long p is = omega (arith, length-append (number 4 p.page) p.bytes, number_long 4 p.page, is.bytes)

pub counted_long : {A : Type 0} (w : ℕ) (spell : A → List ℕ) (xs : List A) → length (counted w spell xs) ≡ w + length (flat_map spell xs)
counted_long w spell xs = omega (arith, length-append (number w (length xs)) (flat_map spell xs), number_long w (length xs))

sent_short : (s : Sent) → IsSent s → length (sent s) ≤ 523
sent_short s fit = omega (arith, sent_long s, fit.bytes)

out_short : (o : Out) → IsOut o → length (out o) ≤ 522
out_short o fit = omega (arith, out_long o, fit.text)

page_short : (p : Page) → IsPage p → length (page p) ≤ 260
page_short p fit = omega (arith, page_long p fit)

draws_short : (ds : List ℕ) → AtMost 16 IsWord ds → length (counted 1 (number 8) ds) ≤ 129
draws_short ds fit =
    let each : length (flat_map (number 8) ds) ≤ 8 * length ds = items_short (number 8) IsWord 8 (λ n _. omega (arith, number_long 8 n)) ds fit.1 in
    omega (arith, counted_long 1 (number 8) ds, each, fit.0)

sends_short : (ss : List Sent) → AtMost 16 IsSent ss → length (counted 1 sent ss) ≤ 8369
sends_short ss fit =
    let each : length (flat_map sent ss) ≤ 523 * length ss = items_short sent IsSent 523 sent_short ss fit.1 in
    omega (arith, counted_long 1 sent ss, each, fit.0)

outs_short : (os : List Out) → AtMost 16 IsOut os → length (counted 1 out os) ≤ 8353
outs_short os fit =
    let each : length (flat_map out os) ≤ 522 * length os = items_short out IsOut 522 out_short os fit.1 in
    omega (arith, counted_long 1 out os, each, fit.0)

pages_short : (ps : List Page) → AtMost 4096 IsPage ps → length (counted 2 page ps) ≤ 1064962
pages_short ps fit =
    let each : length (flat_map page ps) ≤ 260 * length ps = items_short page IsPage 260 page_short ps fit.1 in
    omega (arith, counted_long 2 page ps, each, fit.0)

-- of pages just
pub pages_long : (ps : List Page) → AllByRecursion IsPage ps → length (flat_map page ps) ≡ 260 * length ps
pages_long [] fit = refl
pages_long (p ∷ ps) fit =
    let parts = ap length (flat_map-cons page p ps) ∙ length-append (page p) (flat_map page ps) in
    omega (arith, parts, page_long p fit.0, pages_long ps fit.1, mul-suc 260 (length ps))

pub origin_long : (r : Record) → length (origin r) ≡ 25
origin_long r = simp (length-append, number_long)

-- the lengths of the lists of a record, with its other fields
pub fields_long : (r : Record) → length (fields One r) ≡ 25 + length (counted 1 (number 8) r.draws) + length (counted 1 sent r.sends) + length (counted 1 out r.outs) + length (counted 2 page r.pages)
fields_long r =
    let d : List ℕ = counted 1 (number 8) r.draws in
    let s : List ℕ = counted 1 sent r.sends in
    let o : List ℕ = counted 1 out r.outs in
    let p : List ℕ = counted 2 page r.pages in
    omega (arith, length-append (origin r) (d ++ (s ++ (o ++ p))), origin_long r, length-append d (s ++ (o ++ p)), length-append s (o ++ p), length-append o p)

pub fields_fit : (r : Record) → IsRecord One r → length (fields One r) ≤ 1081838
fields_fit r is = omega (arith, fields_long r, draws_short r.draws is.lists.0, sends_short r.sends is.lists.1, outs_short r.outs is.lists.2, pages_short r.pages is.lists.3)

pub fields_short : (v : Version) (r : Record) → IsRecord v r → length (fields v r) ≤ most_fields v
fields_short One r is = fields_fit r is

-- so many numbers
words_long : (ns : List ℕ) → length (flat_map (number 8) ns) ≡ 8 * length ns
words_long [] = refl
words_long (n ∷ ns) =
    let parts = ap length (flat_map-cons (number 8) n ns) ∙ length-append (number 8 n) (flat_map (number 8) ns) in
    omega (arith, parts, number_long 8 n, words_long ns, mul-suc 8 (length ns))

pub counts_long : (b : Base) → IsBase One b → length (counts b) ≡ 152
counts_long b is =
    let consumed : length b.consumed ≡ 9 = is.counts.0.1 in
    let sent : length b.sent ≡ 8 = is.counts.1.1 in
    simp (length-append, number_long, words_long, consumed, sent)

-- the lengths of the lists of a base, with its other fields
pub base_fields_long : (b : Base) → IsBase One b → length (base_bytes One b) ≡ 152 + length (counted 4 due b.messages) + length (counted 4 out b.outs) + length (counted 2 page b.pages)
base_fields_long b is =
    let m : List ℕ = counted 4 due b.messages in
    let o : List ℕ = counted 4 out b.outs in
    let p : List ℕ = counted 2 page b.pages in
    omega (arith, length-append (counts b) (m ++ (o ++ p)), counts_long b is, length-append m (o ++ p), length-append o p)

-- its lists have three counts at least
pub base_long : (v : Version) (b : Base) → IsBase v b → 162 ≤ length (base_bytes v b)
base_long One b is = omega (arith, base_fields_long b is, counted_long 4 due b.messages, counted_long 4 out b.outs, counted_long 2 page b.pages)

pub header_long : (h : Header) → length (header_bytes h) ≡ 31
header_long h =
    simp (length-append, number_long)
