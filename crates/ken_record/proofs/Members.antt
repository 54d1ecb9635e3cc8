-- The forms of the parts of an item, and of the items.
use Rattle.std.proofs.Common.{◌≡◌, ℕ, ◌≤◌, ◌<◌, ◌^◌, ◌⊎◌, Bool, true, false, ◌&&◌, ◌||◌, ◌==◌, nat_lt, List, ◌++◌, length, refl, arith}
use Rattle.std.proofs.lemmas.Bool.{eqb-true}
use Rattle.std.proofs.lemmas.Bool.Decides.{nat_tests}
use Rattle.std.specs.List.{flat_map}
use Rattle.ken_model.specs.declared.messages.Out.{Out}
use Rattle.ken_record.specs.declared.due.Due.{Due}
use Rattle.ken_record.specs.declared.sent.Sent.{Sent}
use Rattle.ken_record.specs.declared.page.Page.{Page}
use Rattle.ken_record.specs.declared.header.Header.{Header}
use Rattle.ken_record.specs.declared.base.Base.{Base}
use Rattle.ken_record.specs.declared.record.Record.{Record}
use Rattle.ken_record.specs.Versions.{Version, One}
use Rattle.ken_record.specs.Spelling.{number, text, counted, sent, due, out, page, fields, header_bytes, base_bytes, record_bytes}
use Rattle.ken_record.specs.Grammar.{IsWord, IsText, FitsText, IsSent, FitsDue, FitsOut, IsPage, AtMost, Exactly, rise_from, page_rank, are_numbered, are_short, base_rises, IsRecord, IsBase, IsHeader}
use Rattle.ken_record.specs.Reading.{number_at, part_at, sized, items_at, text_at, long_text_at, sent_at, due_at, out_at, page_at, origin_at, lists_at, is_sound, record_of, fields_at, record_at, counts_at, kept_at, base_of, base_at, is_sound_header, mark_at, place_at, past_at, header_of, header_at}
use Rattle.ken_record.proofs.Forms.{IsForm, seq_form, made_form, fit_form, within_form, number_1, number_2, number_4, number_8, part_form, items_form, sized_form}
use Rattle.ken_record.proofs.Shorts.{outs_fit, outs_short, short_outs}
use Rattle.ken_record.proofs.Sizes.{fields_short}

-- ---- texts

part_of : (n : ℕ) → IsForm (λ x. x) (λ x. Unit {0} × (length x ≡ n)) (part_at n)
part_of n = fit_form (part_form n) (λ x e. (tt, e)) (λ x p. p.1)

pub text_form : IsForm text IsText text_at
unfolding text_at
text_form = fit_form (sized_form 2 512 number_2 (omega arith) length part_of) (λ x p. p.0) (λ x h. (h, tt))

pub long_text_form : IsForm text FitsText long_text_at
unfolding long_text_at
long_text_form = fit_form (sized_form 2 0xffff number_2 (omega arith) length part_of) (λ x p. omega (arith, p.0)) (λ x h. (omega (arith, h), tt))

-- ---- messages, outputs and pages

sent_tests : (to n : ℕ) → nat_lt to 8 && nat_lt 0 n ≡ true → (to < 8) × (1 ≤ n)
sent_tests to n e = grind (arith, nat_tests)

sent_passes : (to n : ℕ) → to < 8 → 1 ≤ n → nat_lt to 8 && nat_lt 0 n ≡ true
sent_passes to n a b = grind (arith, nat_tests)

abbrev sent_parts : Sent → ℕ × (ℕ × List ℕ)
sent_parts s = (s.to, (s.number, s.bytes))

abbrev sent_of : ℕ × (ℕ × List ℕ) → Sent
sent_of x = record { to = x.0; number = x.1.0; bytes = x.1.1 }

abbrev sent_test : ℕ × (ℕ × List ℕ) → Bool
sent_test x = nat_lt x.0 8 && nat_lt 0 x.1.0

sent_makes : (a : ℕ × (ℕ × List ℕ)) → (a.0 < 2 ^ 8) × ((a.1.0 < 2 ^ 64) × IsText a.1.1) → sent_test a ≡ true → IsSent (sent_of a) × (sent_parts (sent_of a) ≡ a)
sent_makes a fit test = let t = sent_tests a.0 a.1.0 test in (record { to = t.0; number = (t.1, fit.1.0); bytes = fit.1.1 }, refl)

sent_again : (s : Sent) → IsSent s → ((s.to < 2 ^ 8) × ((s.number < 2 ^ 64) × IsText s.bytes)) × (sent_test (sent_parts s) ≡ true) × (sent_of (sent_parts s) ≡ s)
sent_again s is = ((omega (arith, is.to), (is.number.1, is.bytes)), sent_passes s.to s.number is.to is.number.0, refl)

pub sent_form : IsForm sent IsSent sent_at
unfolding sent_at
sent_form = made_form (seq_form number_1 (seq_form number_8 text_form)) sent_test sent_of sent_parts IsSent sent_makes sent_again

abbrev out_parts : Out → ℕ × List ℕ
out_parts o = (o.number, o.text)

abbrev out_of : ℕ × List ℕ → Out
out_of x = record { number = x.0; text = x.1 }

out_makes : (a : ℕ × List ℕ) → (a.0 < 2 ^ 64) × FitsText a.1 → true ≡ true → FitsOut (out_of a) × (out_parts (out_of a) ≡ a)
out_makes a fit test = (record { number = fit.0; text = fit.1 }, refl)

out_again : (o : Out) → FitsOut o → ((o.number < 2 ^ 64) × FitsText o.text) × (true ≡ true) × (out_of (out_parts o) ≡ o)
out_again o is = ((is.number, is.text), refl, refl)

pub out_form : IsForm out FitsOut out_at
unfolding out_at
out_form = made_form (seq_form number_8 long_text_form) (λ x. true) out_of out_parts FitsOut out_makes out_again

abbrev due_parts : Due → ℕ × (ℕ × (ℕ × List ℕ))
due_parts m = (m.to, (m.number, (m.stamp, m.bytes)))

abbrev due_of : ℕ × (ℕ × (ℕ × List ℕ)) → Due
due_of x = record { to = x.0; number = x.1.0; stamp = x.1.1.0; bytes = x.1.1.1 }

due_makes : (a : ℕ × (ℕ × (ℕ × List ℕ))) → (a.0 < 2 ^ 8) × ((a.1.0 < 2 ^ 64) × ((a.1.1.0 < 2 ^ 64) × FitsText a.1.1.1)) → true ≡ true → FitsDue (due_of a) × (due_parts (due_of a) ≡ a)
due_makes a fit test = (record { to = fit.0; number = fit.1.0; stamp = fit.1.1.0; bytes = fit.1.1.1 }, refl)

due_again : (m : Due) → FitsDue m → ((m.to < 2 ^ 8) × ((m.number < 2 ^ 64) × ((m.stamp < 2 ^ 64) × FitsText m.bytes))) × (true ≡ true) × (due_of (due_parts m) ≡ m)
due_again m is = ((is.to, (is.number, (is.stamp, is.bytes))), refl, refl)

pub due_form : IsForm due FitsDue due_at
unfolding due_at
due_form = made_form (seq_form number_1 (seq_form number_8 (seq_form number_8 long_text_form))) (λ x. true) due_of due_parts FitsDue due_makes due_again

abbrev page_parts : Page → ℕ × List ℕ
page_parts p = (p.page, p.bytes)

abbrev page_of : ℕ × List ℕ → Page
page_of x = record { page = x.0; bytes = x.1 }

page_makes : (a : ℕ × List ℕ) → (a.0 < 2 ^ 32) × (length a.1 ≡ 256) → true ≡ true → IsPage (page_of a) × (page_parts (page_of a) ≡ a)
page_makes a fit test = (record { page = fit.0; bytes = fit.1 }, refl)

page_again : (p : Page) → IsPage p → ((p.page < 2 ^ 32) × (length p.bytes ≡ 256)) × (true ≡ true) × (page_of (page_parts p) ≡ p)
page_again p is = ((is.page, is.bytes), refl, refl)

pub page_form : IsForm page IsPage page_at
unfolding page_at
page_form = made_form (seq_form number_4 (part_form 256)) (λ x. true) page_of page_parts IsPage page_makes page_again

-- ---- records

count_tests : (n : ℕ) → nat_lt 0 n ≡ true → 1 ≤ n
count_tests n e = grind (arith, nat_tests)

count_passes : (n : ℕ) → 1 ≤ n → nat_lt 0 n ≡ true
count_passes n h = grind (arith, nat_tests)

origin_form : IsForm (λ (x : ℕ × (ℕ × (ℕ × ℕ))). number 8 x.0 ++ (number 8 x.1.0 ++ (number 1 x.1.1.0 ++ number 8 x.1.1.1))) (λ x. (x.0 < 2 ^ 64) × ((x.1.0 < 2 ^ 64) × ((x.1.1.0 < 2 ^ 8) × (x.1.1.1 < 2 ^ 64)))) origin_at
unfolding origin_at
origin_form = seq_form number_8 (seq_form number_8 (seq_form number_1 number_8))

draws_form : IsForm (counted 1 (number 8)) (AtMost 16 IsWord) (sized 1 16 (items_at (number_at 8)))
draws_form = sized_form 1 16 number_1 (omega arith) length (items_form number_8)

sends_form : IsForm (counted 1 sent) (AtMost 16 IsSent) (sized 1 16 (items_at sent_at))
sends_form = sized_form 1 16 number_1 (omega arith) length (items_form sent_form)

outs_form : IsForm (counted 1 out) (AtMost 16 FitsOut) (sized 1 16 (items_at out_at))
outs_form = sized_form 1 16 number_1 (omega arith) length (items_form out_form)

pages_form : IsForm (counted 2 page) (AtMost 4096 IsPage) (sized 2 4096 (items_at page_at))
pages_form = sized_form 2 4096 number_2 (omega arith) length (items_form page_form)

lists_form : IsForm (λ (x : List ℕ × (List Sent × (List Out × List Page))). counted 1 (number 8) x.0 ++ (counted 1 sent x.1.0 ++ (counted 1 out x.1.1.0 ++ counted 2 page x.1.1.1))) (λ x. AtMost 16 IsWord x.0 × (AtMost 16 IsSent x.1.0 × (AtMost 16 FitsOut x.1.1.0 × AtMost 4096 IsPage x.1.1.1))) lists_at
unfolding lists_at
lists_form = seq_form draws_form (seq_form sends_form (seq_form outs_form pages_form))

sender_is : (from : ℕ) → nat_lt from 8 || from == 255 ≡ true → (from < 8) ⊎ (from ≡ 255)
sender_is from e = grind (arith, nat_tests)

sender_passes : (from : ℕ) → (from < 8) ⊎ (from ≡ 255) → nat_lt from 8 || from == 255 ≡ true
sender_passes from h = grind (arith, nat_tests)

both : (a b : Bool) → a && b ≡ true → (a ≡ true) × (b ≡ true)
both true b e = (refl, e)
both false b e = absurd cc

pub record Sound (r : Record) : Type 0 where
  pub turn : 1 ≤ r.turn
  pub stamp : 1 ≤ r.stamp
  pub from : (r.from < 8) ⊎ (r.from ≡ 255)
  pub number : 1 ≤ r.number
  pub numbered : are_numbered r.outs ≡ true
  pub rising : rise_from page_rank 0 r.pages ≡ true

pub is_sound_sound : (r : Record) → is_sound r ≡ true → Sound r
is_sound_sound r e =
    let p5 = both (nat_lt 0 r.turn && nat_lt 0 r.stamp && (nat_lt r.from 8 || r.from == 255) && nat_lt 0 r.number && are_numbered r.outs) (rise_from page_rank 0 r.pages) e in
    let p4 = both (nat_lt 0 r.turn && nat_lt 0 r.stamp && (nat_lt r.from 8 || r.from == 255) && nat_lt 0 r.number) (are_numbered r.outs) p5.0 in
    let p3 = both (nat_lt 0 r.turn && nat_lt 0 r.stamp && (nat_lt r.from 8 || r.from == 255)) (nat_lt 0 r.number) p4.0 in
    let p2 = both (nat_lt 0 r.turn && nat_lt 0 r.stamp) (nat_lt r.from 8 || r.from == 255) p3.0 in
    let p1 = both (nat_lt 0 r.turn) (nat_lt 0 r.stamp) p2.0 in
    record {
      turn = count_tests r.turn p1.0;
      stamp = count_tests r.stamp p1.1;
      from = sender_is r.from p2.1;
      number = count_tests r.number p3.1;
      numbered = p4.1;
      rising = p5.1;
    }

pub sound_is_sound : (r : Record) → Sound r → is_sound r ≡ true
sound_is_sound r s = rw (count_passes r.turn s.turn, count_passes r.stamp s.stamp, sender_passes r.from s.from, count_passes r.number s.number, s.numbered, s.rising) refl

abbrev Parts : Type 0
Parts = (ℕ × (ℕ × (ℕ × ℕ))) × (List ℕ × (List Sent × (List Out × List Page)))

abbrev record_parts : Record → Parts
record_parts r = ((r.turn, (r.stamp, (r.from, r.number))), (r.draws, (r.sends, (r.outs, r.pages))))

abbrev PartsFit : Parts → Type 0
PartsFit x = ((x.0.0 < 2 ^ 64) × ((x.0.1.0 < 2 ^ 64) × ((x.0.1.1.0 < 2 ^ 8) × (x.0.1.1.1 < 2 ^ 64)))) × (AtMost 16 IsWord x.1.0 × (AtMost 16 IsSent x.1.1.0 × (AtMost 16 FitsOut x.1.1.1.0 × AtMost 4096 IsPage x.1.1.1.1)))

record_makes : (a : Parts) → PartsFit a → is_sound (record_of a) && are_short (record_of a).outs ≡ true → IsRecord One (record_of a) × (record_parts (record_of a) ≡ a)
record_makes a fit test =
    let two = both (is_sound (record_of a)) (are_short a.1.1.1.0) test in
    let s = is_sound_sound (record_of a) two.0 in (
      record {
        turn = (s.turn, fit.0.0);
        stamp = (s.stamp, fit.0.1.0);
        from = s.from;
        number = (s.number, fit.0.1.1.1);
        lists = (fit.1.0, fit.1.1.0, (fit.1.1.1.0.0, short_outs a.1.1.1.0 fit.1.1.1.0.1 two.1), fit.1.1.1.1);
        numbered = s.numbered;
        rising = s.rising;
      },
      refl,
    )

sender_byte : (from : ℕ) → (from < 8) ⊎ (from ≡ 255) → from < 2 ^ 8
sender_byte from h = omega arith

record_again : (r : Record) → IsRecord One r → PartsFit (record_parts r) × (is_sound r && are_short r.outs ≡ true) × (record_of (record_parts r) ≡ r)
record_again r is =
    let s : Sound r = record { turn = is.turn.0; stamp = is.stamp.0; from = is.from; number = is.number.0; numbered = is.numbered; rising = is.rising } in
    (((is.turn.1, (is.stamp.1, (sender_byte r.from is.from, is.number.1))), (is.lists.0, (is.lists.1, ((is.lists.2.0, outs_fit r.outs is.lists.2.1), is.lists.3)))), rw (sound_is_sound r s) (outs_short r.outs is.lists.2.1), refl)

pub fields_form : IsForm (fields One) (IsRecord One) (fields_at One)
unfolding fields_at
fields_form = made_form (seq_form origin_form lists_form) (λ x. is_sound (record_of x) && are_short (record_of x).outs) record_of record_parts (IsRecord One) record_makes record_again

pub record_form : (v : Version) → IsForm (record_bytes v) (IsRecord v) (record_at v)
unfolding record_at
record_form One = fit_form (sized_form 4 1081838 number_4 (omega arith) (λ r. length (fields One r)) (within_form fields_form)) (λ r p. p.1) (λ r is. (fields_short One r is, is))

-- ---- bases

counts_form : IsForm (λ (x : ℕ × (List ℕ × (List ℕ × ℕ))). number 8 x.0 ++ (flat_map (number 8) x.1.0 ++ (flat_map (number 8) x.1.1.0 ++ number 8 x.1.1.1))) (λ x. (x.0 < 2 ^ 64) × (Exactly 9 IsWord x.1.0 × (Exactly 8 IsWord x.1.1.0 × (x.1.1.1 < 2 ^ 64)))) (counts_at One)
unfolding counts_at
counts_form = seq_form number_8 (seq_form (items_form number_8 9) (seq_form (items_form number_8 8) number_8))

dues_form : IsForm (counted 4 due) (AtMost 0xffff_ffff FitsDue) (sized 4 0xffff_ffff (items_at due_at))
dues_form = sized_form 4 0xffff_ffff number_4 (omega arith) length (items_form due_form)

all_outs_form : IsForm (counted 4 out) (AtMost 0xffff_ffff FitsOut) (sized 4 0xffff_ffff (items_at out_at))
all_outs_form = sized_form 4 0xffff_ffff number_4 (omega arith) length (items_form out_form)

base_pages_form : IsForm (counted 2 page) (AtMost 0xffff IsPage) (sized 2 0xffff (items_at page_at))
base_pages_form = sized_form 2 0xffff number_2 (omega arith) length (items_form page_form)

kept_form : IsForm (λ (x : List Due × (List Out × List Page)). counted 4 due x.0 ++ (counted 4 out x.1.0 ++ counted 2 page x.1.1)) (λ x. AtMost 0xffff_ffff FitsDue x.0 × (AtMost 0xffff_ffff FitsOut x.1.0 × AtMost 0xffff IsPage x.1.1)) kept_at
unfolding kept_at
kept_form = seq_form dues_form (seq_form all_outs_form base_pages_form)

abbrev BaseParts : Type 0
BaseParts = (ℕ × (List ℕ × (List ℕ × ℕ))) × (List Due × (List Out × List Page))

abbrev base_parts : Base → BaseParts
base_parts b = ((b.stamp, (b.consumed, (b.sent, b.outputs))), (b.messages, (b.outs, b.pages)))

abbrev BaseFits : BaseParts → Type 0
BaseFits x = ((x.0.0 < 2 ^ 64) × (Exactly 9 IsWord x.0.1.0 × (Exactly 8 IsWord x.0.1.1.0 × (x.0.1.1.1 < 2 ^ 64)))) × (AtMost 0xffff_ffff FitsDue x.1.0 × (AtMost 0xffff_ffff FitsOut x.1.1.0 × AtMost 0xffff IsPage x.1.1.1))

base_makes : (a : BaseParts) → BaseFits a → base_rises (base_of a) ≡ true → IsBase One (base_of a) × (base_parts (base_of a) ≡ a)
base_makes a fit test = (
  record {
    stamp = fit.0.0;
    outputs = fit.0.1.1.1;
    counts = (fit.0.1.0, fit.0.1.1.0);
    kept = (fit.1.0, fit.1.1.0, fit.1.1.1);
    rising = test;
  },
  refl,
)

base_again : (b : Base) → IsBase One b → BaseFits (base_parts b) × (base_rises b ≡ true) × (base_of (base_parts b) ≡ b)
base_again b is = (((is.stamp, (is.counts.0, (is.counts.1, is.outputs))), (is.kept.0, (is.kept.1, is.kept.2))), is.rising, refl)

pub base_form : (v : Version) → IsForm (base_bytes v) (IsBase v) (base_at v)
unfolding base_at
base_form One = made_form (seq_form counts_form kept_form) (λ x. base_rises (base_of x)) base_of base_parts (IsBase One) base_makes base_again

-- ---- headers

mark_form : IsForm (λ (x : ℕ × ℕ). number 4 x.0 ++ number 1 x.1) (λ x. (x.0 < 2 ^ 32) × (x.1 < 2 ^ 8)) mark_at
unfolding mark_at
mark_form = seq_form number_4 number_1

place_form : IsForm (λ (x : ℕ × (ℕ × (ℕ × ℕ))). number 1 x.0 ++ (number 1 x.1.0 ++ (number 4 x.1.1.0 ++ number 4 x.1.1.1))) (λ x. (x.0 < 2 ^ 8) × ((x.1.0 < 2 ^ 8) × ((x.1.1.0 < 2 ^ 32) × (x.1.1.1 < 2 ^ 32)))) place_at
unfolding place_at
place_form = seq_form number_1 (seq_form number_1 (seq_form number_4 number_4))

past_form : IsForm (λ (x : ℕ × (ℕ × ℕ)). number 8 x.0 ++ (number 4 x.1.0 ++ number 4 x.1.1)) (λ x. (x.0 < 2 ^ 64) × ((x.1.0 < 2 ^ 32) × (x.1.1 < 2 ^ 32))) past_at
unfolding past_at
past_form = seq_form number_8 (seq_form number_4 number_4)

abbrev HeaderParts : Type 0
HeaderParts = (ℕ × ℕ) × ((ℕ × (ℕ × (ℕ × ℕ))) × (ℕ × (ℕ × ℕ)))

abbrev header_parts : Header → HeaderParts
header_parts h = ((0x4b45_4e4c, 1), ((h.node, (h.nodes, (h.pages, h.generation))), (h.turns, (h.base_len, 0))))

abbrev HeaderFits : HeaderParts → Type 0
HeaderFits x = ((x.0.0 < 2 ^ 32) × (x.0.1 < 2 ^ 8)) × (((x.1.0.0 < 2 ^ 8) × ((x.1.0.1.0 < 2 ^ 8) × ((x.1.0.1.1.0 < 2 ^ 32) × (x.1.0.1.1.1 < 2 ^ 32)))) × ((x.1.1.0 < 2 ^ 64) × ((x.1.1.1.0 < 2 ^ 32) × (x.1.1.1.1 < 2 ^ 32))))

abbrev header_test : HeaderParts → Bool
header_test x = x.0.0 == 0x4b45_4e4c && x.0.1 == 1 && x.1.1.1.1 == 0 && is_sound_header (header_of x)

same_parts : (m v z : ℕ) (p : ℕ × (ℕ × (ℕ × ℕ))) (t b : ℕ) → m ≡ 0x4b45_4e4c → v ≡ 1 → z ≡ 0 → ◌≡◌ {A = HeaderParts} ((0x4b45_4e4c, 1), (p, (t, (b, 0)))) ((m, v), (p, (t, (b, z))))
same_parts m v z p t b em ev ez = rw (em, ev, ez) refl

header_is : (h : Header) → h.node < 2 ^ 8 → h.nodes < 2 ^ 8 → h.pages < 2 ^ 32 → h.generation < 2 ^ 32 → h.turns < 2 ^ 64 → h.base_len < 2 ^ 32 → is_sound_header h ≡ true → IsHeader h
header_is h n ns p g t b e = record {
  node = n;
  nodes = ns;
  pages = p;
  generation = grind (arith, nat_tests);
  turns = t;
  base_len = b;
  first = grind (arith, nat_tests);
}

header_passes : (h : Header) → IsHeader h → is_sound_header h ≡ true
header_passes h is = grind (arith, nat_tests)

header_makes : (a : HeaderParts) → HeaderFits a → header_test a ≡ true → IsHeader (header_of a) × (header_parts (header_of a) ≡ a)
header_makes a fit test =
    let p3 = both (a.0.0 == 0x4b45_4e4c && a.0.1 == 1 && a.1.1.1.1 == 0) (is_sound_header (header_of a)) test in
    let p2 = both (a.0.0 == 0x4b45_4e4c && a.0.1 == 1) (a.1.1.1.1 == 0) p3.0 in
    let p1 = both (a.0.0 == 0x4b45_4e4c) (a.0.1 == 1) p2.0 in
    (header_is (header_of a) fit.1.0.0 fit.1.0.1.0 fit.1.0.1.1.0 fit.1.0.1.1.1 fit.1.1.0 fit.1.1.1.0 p3.1, same_parts a.0.0 a.0.1 a.1.1.1.1 a.1.0 a.1.1.0 a.1.1.1.0 (eqb-true _ _ p1.0) (eqb-true _ _ p1.1) (eqb-true _ _ p2.1))

header_again : (h : Header) → IsHeader h → HeaderFits (header_parts h) × (header_test (header_parts h) ≡ true) × (header_of (header_parts h) ≡ h)
header_again h is =
    (((omega arith, omega arith), ((is.node, (is.nodes, (is.pages, is.generation.1))), (is.turns, (is.base_len, omega arith)))), header_passes h is, refl)

pub header_form : IsForm header_bytes IsHeader header_at
unfolding header_at
header_form = made_form (seq_form mark_form (seq_form place_form past_form)) header_test header_of header_parts IsHeader header_makes header_again
