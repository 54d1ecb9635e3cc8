-- How large the numbers of a log, the base of the next one and its end can be.
use Rattle.std.proofs.Common.{◌≡◌, ℕ, zero, suc, ◌+◌, ◌*◌, ◌^◌, ◌<◌, ◌≤◌, ⊎_elim, List, [], ◌∷◌, ◌++◌, length, map, Bool, true, false, ◌&&◌, nat_lt, if◌then◌else◌, Option, Some, None, refl, ap, subst, ◌∙◌, arith, length-append}
use Rattle.std.specs.Prelude.{slice_index, slice_index_or, sum, IsSome}
use Rattle.std.specs.List.{AllByRecursion, filter, flat_map, range_with_len}
use Rattle.std.proofs.lemmas.Bool.{cases_lt}
use Rattle.std.proofs.lemmas.List.{get_or_past}
use Rattle.std.proofs.lemmas.List.Concat.{flat_map-cons}
use Rattle.std.proofs.lemmas.List.Sums.{get_or-le-sum_by, sum_by-cons}
use Rattle.std.proofs.Math.Nat.{mul-suc}
use Rattle.ken_disk.specs.Story.{Story}
use Rattle.ken_model.specs.declared.messages.Out.{Out}
use Rattle.ken_record.specs.declared.base.Base.{Base}
use Rattle.ken_record.specs.declared.due.Due.{Due}
use Rattle.ken_record.specs.declared.header.Header.{Header}
use Rattle.ken_record.specs.declared.record.Record.{Record}
use Rattle.ken_record.specs.Grammar.{IsDue, IsOut, IsRecord}
use Rattle.ken_record.specs.Spelling.{base_bytes, due, fields, header_bytes, number, out}
use Rattle.ken_record.specs.Versions.{One}
use Rattle.ken_record.proofs.Sizes.{due_long, fields_fit, header_long, number_long, out_long}
use Rattle.ken_log.specs.Layout.{IsHead, head_bytes, opened}
use Rattle.ken_cover.specs.declared.layers.Change.{Change}
use Rattle.ken_cover.specs.Overlay.{AreWithin}
use Rattle.ken_cover.specs.Sides.{base_change, last_change, stays, TurnPages}
use Rattle.ken_cover.proofs.Bases.{AreOwn-base, AreWithin-own}
use Rattle.ken_store.specs.declared.turning.TurnSide.{TurnSide}
use Rattle.ken_store.specs.Kept.{outs_in}
use Rattle.ken_store.specs.Turning.{Turning, turn_pages}
use Rattle.ken_store.specs.Turnovers.{all_due, base_of, changes_kept, dues_in, is_due, unacked_to}
use Rattle.ken_store.proofs.BaseStands.{Runs, RunsTo, Standing, due_number, goes_to, last_of, numbers_to, out_numbers}
use Rattle.ken_store.proofs.Sizing.{base_size, heap_long, length-pages}
use Rattle.ken_store.proofs.Turned.{side_stands}
use Rattle.ken_node.proofs.Recovered.{some-is}

-- ---- lists

fewer : {A : Type 0} (p q : A → Bool) → (xs : List A) → length (filter (λ (x : A). p x && q x) xs) ≤ length (filter p xs)
fewer p q [] = omega arith
fewer {A} p q (x ∷ xs) = by (p x) (q x) (fewer p q xs)
  where
    by : (a b : Bool) → length (filter (λ (y : A). p y && q y) xs) ≤ length (filter p xs) → length (if a && b then x ∷ filter (λ (y : A). p y && q y) xs else filter (λ (y : A). p y && q y) xs) ≤ length (if a then x ∷ filter p xs else filter p xs)
    by true true rest = omega (arith, rest)
    by true false rest = omega (arith, rest)
    by false b rest = rest

few-filter : {A : Type 0} (p : A → Bool) (xs : List A) → length (filter p xs) ≤ length xs
few-filter p [] = omega arith
few-filter p (x ∷ xs) = by (p x) (few-filter p xs)
  where
    by : (a : Bool) → length (filter p xs) ≤ length xs → length (if a then x ∷ filter p xs else filter p xs) ≤ length (x ∷ xs)
    by true rest = omega (arith, rest)
    by false rest = omega (arith, rest)

all-filter : {A : Type 0} (P : A → Type 0) (p : A → Bool) (xs : List A) → AllByRecursion P xs → AllByRecursion P (filter p xs)
all-filter P p [] all = tt
all-filter P p (x ∷ xs) all = by (p x) (all-filter P p xs all.1)
  where
    by : (a : Bool) → AllByRecursion P (filter p xs) → AllByRecursion P (if a then x ∷ filter p xs else filter p xs)
    by true rest = (all.0, rest)
    by false rest = rest

long-map : {A B : Type 0} (f : A → B) (xs : List A) → length (map f xs) ≡ length xs
long-map f [] = refl
long-map f (x ∷ xs) = ap suc (long-map f xs)

-- items of so many bytes at most
items-short : {A : Type 0} (spell : A → List ℕ) (Fits : A → Type 0) (m : ℕ) → ((x : A) → Fits x → length (spell x) ≤ m) → (xs : List A) → AllByRecursion Fits xs → length (flat_map spell xs) ≤ m * length xs
items-short spell Fits m short [] fit = omega arith
items-short spell Fits m short (x ∷ xs) fit =
    let first = short x fit.0 in
    let others = items-short spell Fits m short xs fit.1 in
    let parts = ap length (flat_map-cons spell x xs) ∙ length-append (spell x) (flat_map spell xs) in
    let grown = mul-suc m (length xs) in
    omega (arith, first, others, parts, grown)

-- a number of a list is at most their sum, also past its end
pub at-most-sum : (xs : List ℕ) (i : ℕ) → slice_index xs i ≤ sum xs
at-most-sum xs i = ⊎_elim (λ (low : i < length xs). get_or-le-sum_by (λ (x : ℕ). x) xs i 0 low) (λ (past : length xs ≤ i). let none = get_or_past xs i 0 past in omega (arith, none)) (cases_lt i (length xs))

-- ---- numbers that go on by one

counted-from : (last : ℕ) (ks : List ℕ) → 0 < last → Runs last ks → last_of last ks ≡ last + length ks
counted-from last [] some runs = omega arith
counted-from last (k ∷ ks) some runs =
    let next : k ≡ last + 1 = ⊎_elim (λ (none : last ≡ 0). absurd (let no : ⊥ = omega (arith, some, none) in no)) (λ (is : k ≡ last + 1). is) runs.0.1 in
    let rest = counted-from k ks runs.0.0 runs.1 in
    omega (arith, next, rest)

-- there are at most as many as the last one
few-runs : (end : ℕ) (ks : List ℕ) → RunsTo end ks → length ks ≤ end
few-runs end [] is = omega arith
few-runs end (k ∷ ks) is =
    let some = is.runs.0.0 in
    let all = counted-from k ks some is.runs.1 in
    ⊎_elim (λ (none : last_of 0 (k ∷ ks) ≡ 0). absurd (let no : ⊥ = omega (arith, none, all, some) in no)) (λ (same : last_of 0 (k ∷ ks) ≡ end). omega (arith, same, all, some)) is.ends

-- ---- the messages of the next base

few-unacked : (acked : List ℕ) (ms : List Due) (i end : ℕ) → RunsTo end (numbers_to i ms) → length (unacked_to acked ms i) ≤ end
few-unacked acked ms i end runs =
    let fewer_here = fewer (goes_to i) (λ (m : Due). nat_lt (slice_index acked i) m.number) ms in
    let all = long-map due_number (filter (goes_to i) ms) in
    let few = few-runs end (numbers_to i ms) runs in
    omega (arith, fewer_here, all, few)

-- of eight links
few-due : (acked sent : List ℕ) (ms : List Due) → length sent ≡ 8 → ((i : ℕ) → i < 8 → RunsTo (slice_index_or sent i 0) (numbers_to i ms)) → length (all_due acked ms) ≤ sum sent
few-due acked sent ms eight links =
    subst (λ (k : ℕ). length (flat_map (unacked_to acked ms) (range_with_len 0 k)) ≤ sum sent) eight
    (by sent 0 (λ i low. let here : i ≡ 0 + i = omega arith in subst (λ (k : ℕ). RunsTo (slice_index_or sent i 0) (numbers_to k ms)) here (links i (omega (arith, low, eight)))))
  where
    by : (xs : List ℕ) (a : ℕ) → ((i : ℕ) → i < length xs → RunsTo (slice_index_or xs i 0) (numbers_to (a + i) ms)) → length (flat_map (unacked_to acked ms) (range_with_len a (length xs))) ≤ sum xs
    by [] a runs = omega arith
    by (x ∷ xs) a runs =
        let here : a + 0 ≡ a = omega arith in
        let first = few-unacked acked ms a x (subst (λ (k : ℕ). RunsTo x (numbers_to k ms)) here (runs 0 (omega arith))) in
        let rest = by xs (a + 1) (λ i low. let next : a + suc i ≡ a + 1 + i = omega arith in subst (λ (k : ℕ). RunsTo (slice_index_or xs i 0) (numbers_to k ms)) next (runs (suc i) (omega (arith, low)))) in
        let both = length-append (unacked_to acked ms a) (flat_map (unacked_to acked ms) (range_with_len (a + 1) (length xs))) in
        let all : sum (x ∷ xs) ≡ x + sum xs = sum_by-cons (λ (k : ℕ). k) x xs in
        omega (arith, first, rest, both, all)

all-due : (P : Due → Type 0) (acked : List ℕ) (ms : List Due) → AllByRecursion P ms → AllByRecursion P (all_due acked ms)
all-due P acked ms all = by 0 8
  where
    append : (xs ys : List Due) → AllByRecursion P xs → AllByRecursion P ys → AllByRecursion P (xs ++ ys)
    append [] ys one two = two
    append (x ∷ xs) ys one two = (one.0, append xs ys one.1 two)

    by : (a k : ℕ) → AllByRecursion P (flat_map (unacked_to acked ms) (range_with_len a k))
    by a zero = tt
    by a (suc k) = append (unacked_to acked ms a) (flat_map (unacked_to acked ms) (range_with_len (a + 1) k)) (all-filter P (is_due acked a) ms all) (by (a + 1) k)

-- ---- its pages

few-changes : (t : TurnPages) (settled a k : ℕ) → length (flat_map (λ (p : ℕ). base_change settled t.heap p (last_change p t.live)) (range_with_len a k)) ≤ k
few-changes t settled a zero = omega arith
few-changes t settled a (suc k) =
    let rest = few-changes t settled (a + 1) k in
    let one = few (last_change a t.live) in
    let both = length-append (base_change settled t.heap a (last_change a t.live)) (flat_map (λ (p : ℕ). base_change settled t.heap p (last_change p t.live)) (range_with_len (a + 1) k)) in
    omega (arith, rest, one, both)
  where
    kept : (b : Bool) (c : Change) → length (if b then c ∷ [] else []) ≤ 1
    kept true c = omega arith
    kept false c = omega arith

    few : (o : Option Change) → length (base_change settled t.heap a o) ≤ 1
    few None = omega arith
    few (Some c) = kept (stays settled c.turn) _

-- ---- the bytes of a log

opened-short : (r : Record) → IsRecord One r → length (opened One r) ≤ 1081843
opened-short r is =
    let fit = fields_fit r is in
    let long = length-append (number 4 (length (fields One r))) (fields One r) in
    let four = number_long 4 (length (fields One r)) in
    omega (arith, fit, long, four)

head-short : (head : Header) (base : Option Base) → IsHead head base → length (head_bytes head base) ≤ 31 + 2 ^ 32
head-short head None is = let long = header_long head in omega (arith, long)
head-short head (Some b) is =
    let long = header_long head in
    let both = length-append (header_bytes head) (base_bytes One b) in
    let base = is.has.2 in
    let low = is.fits.base_len in
    omega (arith, long, both, base, low)

-- ---- of a side with few turns

module _ {D : Type 0} (told : D → Option Story) (size : D → ℕ) (side : TurnSide D) (is : Turning told size side) (few : side.numbers.turns < 100000) where
  abbrev stands : Standing side.owner side.numbers (dues_in side.log.base side.records.items) (outs_in side.log.base side.records.items)
  stands = (side_stands told size side is).0

  pub low-outputs : side.numbers.outputs < 2 ^ 63
  low-outputs = let most = stands.most_outputs in omega (arith, most, few)

  pub low-sent : (i : ℕ) → slice_index side.numbers.sent i < 2 ^ 63
  low-sent i = let most = stands.most_sent in let one = at-most-sum side.numbers.sent i in omega (arith, most, one, few)

  due-short : (m : Due) → IsDue m → length (due m) ≤ 531
  due-short m fits = let long = due_long m in let text = fits.bytes in omega (arith, long, text)

  out-short : (o : Out) → IsOut o → length (out o) ≤ 522
  out-short o fits = let long = out_long o in let text = fits.text in omega (arith, long, text)

  -- the next base is short
  pub base-short : (settled : ℕ) (acked : List ℕ) (emitted : ℕ) → side.objects.begun ≡ None → length (base_bytes One (base_of side settled acked emitted)) < 2 ^ 32
  base-short settled acked emitted idle =
      let b : Base = base_of side settled acked emitted in
      let all = stands in
      let messages : length b.messages ≤ 1600000 = let due = few-due acked side.numbers.sent (dues_in side.log.base side.records.items) all.sends.long all.sends.links in let most = all.most_sent in omega (arith, due, most, few) in
      let message_bytes = items-short due IsDue 531 due-short b.messages (all-due IsDue acked (dues_in side.log.base side.records.items) all.sends.dues) in
      let outs : length b.outs ≤ 1600000 =
      let kept = few-filter (λ (o : Out). nat_lt emitted o.number) (outs_in side.log.base side.records.items) in
      let numbered = long-map (λ (o : Out). o.number) (outs_in side.log.base side.records.items) in
      let runs = few-runs side.numbers.outputs (out_numbers (outs_in side.log.base side.records.items)) all.outs.runs in
      let most = all.most_outputs in
      omega (arith, kept, numbered, runs, most, few) in
      let out_bytes = items-short out IsOut 522 out-short b.outs (all-filter IsOut (λ (o : Out). nat_lt emitted o.number) (outs_in side.log.base side.records.items) all.outs.each) in
      let pages : length b.pages ≤ 4096 =
      let changes = few-changes (turn_pages side) settled 0 side.owner.pages in
      let same = length-pages (changes_kept side settled) in
      let most = is.owner.most in
      omega (arith, changes, same, most) in
      let within : AreWithin side.owner.pages b.pages = AreWithin-own side.owner.pages (turn_pages side).heap (heap_long told size side is) b.pages (AreOwn-base side.owner.pages settled (turn_pages side)) in
      let all_bytes = base_size side.owner.pages b all.consumed_long all.sends.long within in
      omega (arith, messages, message_bytes, outs, out_bytes, pages, all_bytes)

  pub turns-of-log : side.log.header.turns ≤ side.numbers.turns
  turns-of-log = let counted = (side_stands told size side is).1 in omega (arith, counted)

  -- its log ends early, where it holds few records
  pub end-low : IsSome (told side.log.disk) → length side.records.items ≤ 32 → side.log.end ≤ 2 ^ 39
  end-low tell short =
      let h = some-is (told side.log.disk) tell in
      let holds = is.log.holds h.0 h.1 in
      let place = holds.lies.place in
      let count = holds.count in
      let own = is.count in
      let records = items-short (opened One) (IsRecord One) 1081843 opened-short holds.items holds.lies.items in
      let head = head-short side.log.header side.log.base holds.lies.header in
      let both = length-append (165 ∷ head_bytes side.log.header side.log.base) (flat_map (opened One) holds.items) in
      omega (arith, place, count, own, short, records, head, both)
