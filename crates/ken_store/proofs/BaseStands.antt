-- What a log keeps stands behind a header: its messages and outputs go on by one up to what was sent and output.
use Rattle.std.proofs.Common.{◌≡◌, ℕ, ◌+◌, ◌-◌, ◌*◌, ◌<◌, ◌≤◌, ◌^◌, suc, zero, List, [], ◌∷◌, ◌++◌, length, map, take, drop, get_or, set, eqb, Bool, true, false, ◌&&◌, ◌||◌, Option, Some, None, Ok, Err, refl, sym, ap, subst, ◌∙◌, arith, inl, inr, ◌⊎◌, ⊎_elim, append_assoc, length-set, get_or-set_other, get_or-set_same, eq-eqb, ne_eqb, append-nil}
use Rattle.std.specs.Prelude.{if◌then◌else◌, ◌==◌, nat_lt, nat_le, slice_index_or, slice_set, sum, replicate}
use Rattle.std.specs.List.{AllByRecursion, filter, flat_map, list_all}
use Rattle.std.proofs.lemmas.Bool.{cases_eq, false≢true}
use Rattle.std.proofs.lemmas.Bool.Decides.{nat_tests}
use Rattle.std.proofs.lemmas.List.{map-append, take-set-le}
use Rattle.std.proofs.lemmas.List.Elements.{filter-append}
use Rattle.std.proofs.lemmas.List.Sums.{sum_by-set}
use Rattle.ken_model.specs.declared.messages.Out.{Out}
use Rattle.ken_record.specs.declared.base.Base.{Base}
use Rattle.ken_record.specs.declared.due.Due.{Due}
use Rattle.ken_record.specs.declared.header.Header.{Header}
use Rattle.ken_record.specs.declared.record.Record.{Record}
use Rattle.ken_record.specs.declared.sent.Sent.{Sent}
use Rattle.ken_record.specs.Grammar.{IsWord, IsSent, FitsDue, IsDue, FitsOut, IsOut, IsRecord, IsBase}
use Rattle.ken_record.specs.Spelling.{record_bytes}
use Rattle.ken_record.specs.Versions.{One}
use Rattle.ken_log.specs.Layout.{IsHead}
use Rattle.ken_store.specs.declared.numbers.Numbers.{Numbers}
use Rattle.ken_store.specs.declared.owner.Owner.{Owner}
use Rattle.ken_store.specs.Bases.{base_numbers, are_unused, goes_on, messages_follow, last_after, reach, messages_stand, outs_stand, counts_stand, is_short_due, is_short_out, texts_stand, base_stands}
use Rattle.ken_store.specs.Kept.{record_outs, outs_in}
use Rattle.ken_store.specs.Numbers.{no_numbers, sender_index, sends_follow, sent_after, outs_follow, outputs_after, are_within, comes_next, follows, after_record, after_records}
use Rattle.ken_store.specs.Recovered.{numbers_from, numbers_of}
use Rattle.ken_store.specs.Turnovers.{due_of, record_dues, dues_in}

pub and_true : (a b : Bool) → a && b ≡ true → (a ≡ true) × (b ≡ true)
and_true true b is = (refl, is)
and_true false b is = absurd (let none : ⊥ = cc is in none)

pub both : (a b : Bool) → a ≡ true → b ≡ true → a && b ≡ true
both true b one two = two
both false b one two = absurd (false≢true one)

pub less : (a b : ℕ) → nat_lt a b ≡ true → a < b
less a b is = grind (arith, nat_tests)

pub is_less : (a b : ℕ) → a < b → nat_lt a b ≡ true
is_less a b is = grind (arith, nat_tests)

pub at_most : (a b : ℕ) → nat_le a b ≡ true → a ≤ b
at_most a b is = grind (arith, nat_tests)

pub is_most : (a b : ℕ) → a ≤ b → nat_le a b ≡ true
is_most a b is = grind (arith, nat_tests)

pub equal : (a b : ℕ) → eqb a b ≡ true → a ≡ b
equal a b is = grind (arith, nat_tests)

-- ---- texts of a base that stands

pub short_dues : (ms : List Due) → AllByRecursion FitsDue ms → list_all is_short_due ms ≡ true → AllByRecursion IsDue ms
short_dues [] fits short = tt
short_dues (m ∷ ms) fits short =
    let two = and_true (is_short_due m) (list_all is_short_due ms) short in
    (record { to = fits.0.to; number = fits.0.number; stamp = fits.0.stamp; bytes = at_most (length m.bytes) 512 two.0 }, short_dues ms fits.1 two.1)

short_outs : (os : List Out) → AllByRecursion FitsOut os → list_all is_short_out os ≡ true → AllByRecursion IsOut os
short_outs [] fits short = tt
short_outs (o ∷ os) fits short =
    let two = and_true (is_short_out o) (list_all is_short_out os) short in
    (record { number = fits.0.number; text = at_most (length o.text) 512 two.0 }, short_outs os fits.1 two.1)

-- and of one that a node writes
pub dues_fit : (ms : List Due) → AllByRecursion IsDue ms → AllByRecursion FitsDue ms × (list_all is_short_due ms ≡ true)
dues_fit [] are = (tt, refl)
dues_fit (m ∷ ms) are =
    let rest = dues_fit ms are.1 in (
      (record { to = are.0.to; number = are.0.number; stamp = are.0.stamp; bytes = omega (arith, are.0.bytes) }, rest.0),
      both (is_short_due m) (list_all is_short_due ms) (is_most (length m.bytes) 512 are.0.bytes) rest.1,
    )

pub outs_fit : (os : List Out) → AllByRecursion IsOut os → AllByRecursion FitsOut os × (list_all is_short_out os ≡ true)
outs_fit [] are = (tt, refl)
outs_fit (o ∷ os) are =
    let rest = outs_fit os are.1 in (
      (record { number = are.0.number; text = omega (arith, are.0.text) }, rest.0),
      both (is_short_out o) (list_all is_short_out os) (is_most (length o.text) 512 are.0.text) rest.1,
    )

-- ---- numbers that go on by one

-- from a last one, or from any where there is none
abbrev pub GoesOn : ℕ → ℕ → Type 0
GoesOn last k = (0 < k) × ((last ≡ 0) ⊎ (k ≡ last + 1))

abbrev pub Runs : ℕ → List ℕ → Type 0
Runs last [] = Unit {0}
Runs last (k ∷ ks) = GoesOn last k × Runs k ks

abbrev pub last_of : ℕ → List ℕ → ℕ
last_of last [] = last
last_of last (k ∷ ks) = last_of k ks

Runs-append : (last : ℕ) (ks js : List ℕ) → Runs last ks → Runs (last_of last ks) js → Runs last (ks ++ js)
Runs-append last [] js one two = two
Runs-append last (k ∷ ks) js one two = (one.0, Runs-append k ks js one.1 two)

last_of-append : (last : ℕ) (ks js : List ℕ) → last_of last (ks ++ js) ≡ last_of (last_of last ks) js
last_of-append last [] js = refl
last_of-append last (k ∷ ks) js = last_of-append k ks js

goes_on_is : (last k : ℕ) → goes_on last k ≡ true → GoesOn last k
goes_on_is last k is = let two = and_true (nat_lt 0 k) ((last == 0) || (k == last + 1)) is in (less 0 k two.0, or_is two.1)
  where
    or_is : ((last == 0) || (k == last + 1)) ≡ true → (last ≡ 0) ⊎ (k ≡ last + 1)
    or_is is = by_test (last == 0) (k == last + 1) refl refl is
      where
        by_test : (a b : Bool) → (last == 0) ≡ a → (k == last + 1) ≡ b → (a || b) ≡ true → (last ≡ 0) ⊎ (k ≡ last + 1)
        by_test true b one two is = inl (equal last 0 one)
        by_test false true one two is = inr (equal k (last + 1) two)
        by_test false false one two is = absurd (false≢true is)

goes_on_so : (last k : ℕ) → GoesOn last k → goes_on last k ≡ true
goes_on_so last k is = both (nat_lt 0 k) ((last == 0) || (k == last + 1)) (is_less 0 k is.0) (⊎_elim (λ (none : last ≡ 0). rw (eq-eqb last 0 none) refl) (λ (next : k ≡ last + 1). or_right (last == 0) (k == last + 1) (eq-eqb k (last + 1) next)) is.1)
  where
    or_right : (a b : Bool) → b ≡ true → (a || b) ≡ true
    or_right true b is = refl
    or_right false b is = is

-- those above a number
module _ (a : ℕ) where
  abbrev above : List ℕ → List ℕ
  above ks = filter (nat_lt a) ks

  above_all : (k : ℕ) (ks : List ℕ) → 0 < k → a < k → Runs k ks → above ks ≡ ks
  above_all k [] some lt runs = refl
  above_all k (j ∷ js) some lt runs =
      let next : j ≡ k + 1 = ⊎_elim (λ (none : k ≡ 0). absurd (let no : ⊥ = omega arith in no)) (λ e. e) runs.0.1 in
      let here : nat_lt a j ≡ true = is_less a j (omega arith) in
      rw here (ap (λ (l : List ℕ). j ∷ l) (above_all j js (omega arith) (omega arith) runs.1))

  pub record Above (last : ℕ) (ks : List ℕ) : Type 0 where
    pub runs : Runs 0 (above ks)
    pub last_is : (last_of 0 (above ks) ≡ 0) ⊎ (last_of 0 (above ks) ≡ last_of last ks)

  above_runs : (last : ℕ) (ks : List ℕ) → Runs last ks → Above last ks
  above_runs last [] runs = record { runs = tt; last_is = inl refl }
  above_runs last (k ∷ ks) runs = at (nat_lt a k) refl (above_runs k ks runs.1)
    where
      at : (b : Bool) → nat_lt a k ≡ b → Above k ks → Above last (k ∷ ks)
      at true is rest =
          let same : above (k ∷ ks) ≡ k ∷ ks = (rw is (ap (λ (l : List ℕ). k ∷ l) (above_all k ks runs.0.0 (less a k is) runs.1))) in
          record { runs = subst (Runs 0) (sym same) ((runs.0.0, inl refl), runs.1); last_is = inr (ap (last_of 0) same) }
      at false is rest =
          let same : above (k ∷ ks) ≡ above ks = (rw is refl) in
          record { runs = subst (Runs 0) (sym same) rest.runs; last_is = subst (λ (l : List ℕ). (last_of 0 l ≡ 0) ⊎ (last_of 0 l ≡ last_of k ks)) (sym same) rest.last_is }

-- ---- messages by their links

abbrev pub goes_to : ℕ → Due → Bool
goes_to i m = m.to == i

abbrev pub due_number : Due → ℕ
due_number m = m.number

abbrev pub numbers_to : ℕ → List Due → List ℕ
numbers_to i ms = map due_number (filter (goes_to i) ms)

numbers_to-append : (i : ℕ) (ms ns : List Due) → numbers_to i (ms ++ ns) ≡ numbers_to i ms ++ numbers_to i ns
numbers_to-append i ms ns = ap (map due_number) (filter-append (goes_to i) ms ns) ∙ map-append due_number (filter (goes_to i) ms) (filter (goes_to i) ns)

-- to a node of the run, with a stamp from 1 on
pub record IsSoundDue (nodes stamp : ℕ) (m : Due) : Type 0 where
  pub to : m.to < nodes
  pub some : 0 < m.stamp
  pub most : m.stamp ≤ stamp

pub record Follow (nodes stamp : ℕ) (lasts : List ℕ) (ms : List Due) : Type 0 where
  pub each : AllByRecursion (IsSoundDue nodes stamp) ms
  pub runs : (i : ℕ) → i < 8 → Runs (slice_index_or lasts i 0) (numbers_to i ms)

module _ (nodes stamp : ℕ) (eight : nodes ≤ 8) where
  -- the first message, and those behind it
  follow_one : (lasts : List ℕ) (m : Due) (ms : List Due) → length lasts ≡ 8 → IsSoundDue nodes stamp m → GoesOn (slice_index_or lasts m.to 0) m.number → Follow nodes stamp (slice_set lasts m.to m.number) ms → Follow nodes stamp lasts (m ∷ ms)
  follow_one lasts m ms long sound on rest = record {
    each = (sound, rest.each);
    runs = λ i lt. ⊎_elim
        (λ (same : m.to ≡ i).
        let test : eqb m.to i ≡ true = eq-eqb m.to i same in
        let first : GoesOn (slice_index_or lasts i 0) m.number = subst (λ (j : ℕ). GoesOn (slice_index_or lasts j 0) m.number) same on in
        let after : slice_index_or (slice_set lasts m.to m.number) i 0 ≡ m.number = subst (λ (j : ℕ). slice_index_or (slice_set lasts m.to m.number) j 0 ≡ m.number) same (get_or-set_same lasts m.to m.number 0 (omega (arith, sound.to))) in
        let others : Runs m.number (numbers_to i ms) = subst (λ (k : ℕ). Runs k (numbers_to i ms)) after (rest.runs i lt) in
        rw test (first, others))
        (λ (other : m.to ≡ i → ⊥).
        let test : eqb m.to i ≡ false = ne_eqb m.to i other in
        let after : slice_index_or (slice_set lasts m.to m.number) i 0 ≡ slice_index_or lasts i 0 = get_or-set_other lasts m.to i m.number 0 (λ e. other (sym e)) in
        let others : Runs (slice_index_or lasts i 0) (numbers_to i ms) = subst (λ (k : ℕ). Runs k (numbers_to i ms)) after (rest.runs i lt) in
        rw test others)
        (cases_eq m.to i);
  }

  to_follow : (lasts : List ℕ) (ms : List Due) → length lasts ≡ 8 → messages_follow nodes stamp lasts ms ≡ true → Follow nodes stamp lasts ms
  to_follow lasts [] long is = record { each = tt; runs = λ i lt. tt }
  to_follow lasts (m ∷ ms) long is =
      let rest = and_true (nat_lt m.to nodes && nat_lt 0 m.stamp && nat_le m.stamp stamp && goes_on (slice_index_or lasts m.to 0) m.number) (messages_follow nodes stamp (slice_set lasts m.to m.number) ms) is in
      let on = and_true (nat_lt m.to nodes && nat_lt 0 m.stamp && nat_le m.stamp stamp) (goes_on (slice_index_or lasts m.to 0) m.number) rest.0 in
      let most = and_true (nat_lt m.to nodes && nat_lt 0 m.stamp) (nat_le m.stamp stamp) on.0 in
      let some = and_true (nat_lt m.to nodes) (nat_lt 0 m.stamp) most.0 in
      follow_one lasts m ms long (record { to = less m.to nodes some.0; some = less 0 m.stamp some.1; most = at_most m.stamp stamp most.1 }) (goes_on_is (slice_index_or lasts m.to 0) m.number on.1)
      (to_follow (slice_set lasts m.to m.number) ms (length-set lasts m.to m.number ∙ long) rest.1)

  -- the same behind the first message
  follow_rest : (lasts : List ℕ) (m : Due) (ms : List Due) → length lasts ≡ 8 → Follow nodes stamp lasts (m ∷ ms) → GoesOn (slice_index_or lasts m.to 0) m.number × Follow nodes stamp (slice_set lasts m.to m.number) ms
  follow_rest lasts m ms long is =
      let within : m.to < 8 = omega (arith, is.each.0.to) in
      let test : eqb m.to m.to ≡ true = eq-eqb m.to m.to refl in
      let here : GoesOn (slice_index_or lasts m.to 0) m.number × Runs m.number (numbers_to m.to ms) = rw test at (is.runs m.to within) in (
        here.0,
        record {
          each = is.each.1;
          runs = λ i lt. ⊎_elim
              (λ (same : m.to ≡ i).
              let after : slice_index_or (slice_set lasts m.to m.number) m.to 0 ≡ m.number = get_or-set_same lasts m.to m.number 0 (omega arith) in
              subst (λ (j : ℕ). Runs (slice_index_or (slice_set lasts m.to m.number) j 0) (numbers_to j ms)) same (subst (λ (k : ℕ). Runs k (numbers_to m.to ms)) (sym after) here.1))
              (λ (other : m.to ≡ i → ⊥).
              let test_i : eqb m.to i ≡ false = ne_eqb m.to i other in
              let after : slice_index_or (slice_set lasts m.to m.number) i 0 ≡ slice_index_or lasts i 0 = get_or-set_other lasts m.to i m.number 0 (λ e. other (sym e)) in
              let others : Runs (slice_index_or lasts i 0) (numbers_to i ms) = rw test_i at (is.runs i lt) in
              subst (λ (k : ℕ). Runs k (numbers_to i ms)) (sym after) others)
              (cases_eq m.to i);
        },
      )

  pub from_follow : (lasts : List ℕ) (ms : List Due) → length lasts ≡ 8 → Follow nodes stamp lasts ms → messages_follow nodes stamp lasts ms ≡ true
  from_follow lasts [] long is = refl
  from_follow lasts (m ∷ ms) long is =
      let two = follow_rest lasts m ms long is in
      both (nat_lt m.to nodes && nat_lt 0 m.stamp && nat_le m.stamp stamp && goes_on (slice_index_or lasts m.to 0) m.number) (messages_follow nodes stamp (slice_set lasts m.to m.number) ms)
      (both (nat_lt m.to nodes && nat_lt 0 m.stamp && nat_le m.stamp stamp) (goes_on (slice_index_or lasts m.to 0) m.number)
      (both (nat_lt m.to nodes && nat_lt 0 m.stamp) (nat_le m.stamp stamp)
      (both (nat_lt m.to nodes) (nat_lt 0 m.stamp) (is_less m.to nodes is.each.0.to) (is_less 0 m.stamp is.each.0.some))
      (is_most m.stamp stamp is.each.0.most))
      (goes_on_so (slice_index_or lasts m.to 0) m.number two.0))
      (from_follow (slice_set lasts m.to m.number) ms (length-set lasts m.to m.number ∙ long) two.1)

  -- the last numbers
  pub length-last_after : (lasts : List ℕ) (ms : List Due) → length (last_after lasts ms) ≡ length lasts
  length-last_after lasts [] = refl
  length-last_after lasts (m ∷ ms) = length-last_after (slice_set lasts m.to m.number) ms ∙ length-set lasts m.to m.number

  pub last_after-at : (lasts : List ℕ) (ms : List Due) (i : ℕ) → length lasts ≡ 8 → AllByRecursion (IsSoundDue nodes stamp) ms → slice_index_or (last_after lasts ms) i 0 ≡ last_of (slice_index_or lasts i 0) (numbers_to i ms)
  last_after-at lasts [] i long each = refl
  last_after-at lasts (m ∷ ms) i long each =
      let rest = last_after-at (slice_set lasts m.to m.number) ms i (length-set lasts m.to m.number ∙ long) each.1 in
      ⊎_elim
      (λ (same : m.to ≡ i).
      let test : eqb m.to i ≡ true = eq-eqb m.to i same in
      let after : slice_index_or (slice_set lasts m.to m.number) i 0 ≡ m.number = subst (λ (j : ℕ). slice_index_or (slice_set lasts m.to m.number) j 0 ≡ m.number) same (get_or-set_same lasts m.to m.number 0 (omega (arith, each.0.to))) in
      rw test (rest ∙ ap (λ (k : ℕ). last_of k (numbers_to i ms)) after))
      (λ (other : m.to ≡ i → ⊥).
      let test : eqb m.to i ≡ false = ne_eqb m.to i other in
      let after : slice_index_or (slice_set lasts m.to m.number) i 0 ≡ slice_index_or lasts i 0 = get_or-set_other lasts m.to i m.number 0 (λ e. other (sym e)) in
      rw test (rest ∙ ap (λ (k : ℕ). last_of k (numbers_to i ms)) after))
      (cases_eq m.to i)

-- ---- the last message of a link is the last that was sent

reach_is : (last sent : List ℕ) → length last ≡ length sent → reach last sent ≡ true → (i : ℕ) → i < length last → (get_or last i 0 ≡ 0) ⊎ (get_or last i 0 ≡ get_or sent i 0)
reach_is [] sent long is i lt = absurd (omega (arith, lt))
reach_is (l ∷ ls) [] long is i lt = absurd (omega (arith, long))
reach_is (l ∷ ls) (s ∷ ss) long is zero lt = by_test (l == 0) (l == s) refl refl (and_true ((l == 0) || (l == s)) (reach ls ss) is).0
  where
    by_test : (a b : Bool) → (l == 0) ≡ a → (l == s) ≡ b → (a || b) ≡ true → (l ≡ 0) ⊎ (l ≡ s)
    by_test true b one two is = inl (equal l 0 one)
    by_test false true one two is = inr (equal l s two)
    by_test false false one two is = absurd (false≢true is)
reach_is (l ∷ ls) (s ∷ ss) long is (suc i) lt = reach_is ls ss (omega (arith, long)) (and_true ((l == 0) || (l == s)) (reach ls ss) is).1 i (omega (arith, lt))

pub is_reach : (last sent : List ℕ) → length last ≡ length sent → ((i : ℕ) → i < length last → (get_or last i 0 ≡ 0) ⊎ (get_or last i 0 ≡ get_or sent i 0)) → reach last sent ≡ true
is_reach [] sent long is = refl
is_reach (l ∷ ls) [] long is = absurd (omega (arith, long))
is_reach (l ∷ ls) (s ∷ ss) long is =
    both ((l == 0) || (l == s)) (reach ls ss)
    (⊎_elim (λ (none : l ≡ 0). rw (eq-eqb l 0 none) refl) (λ (same : l ≡ s). or_right (l == 0) (l == s) (eq-eqb l s same)) (is 0 (omega arith)))
    (is_reach ls ss (omega (arith, long)) (λ i lt. is (suc i) (omega (arith, lt))))
  where
    or_right : (a b : Bool) → b ≡ true → (a || b) ≡ true
    or_right true b is = refl
    or_right false b is = is

-- ---- what a log keeps, up to some numbers

abbrev pub out_number : Out → ℕ
out_number o = o.number

abbrev pub out_numbers : List Out → List ℕ
out_numbers os = map out_number os

-- numbers that go on up to a last one, where there are some
pub record RunsTo (end : ℕ) (ks : List ℕ) : Type 0 where
  pub runs : Runs 0 ks
  pub ends : (last_of 0 ks ≡ 0) ⊎ (last_of 0 ks ≡ end)

-- one more
runs_more : (end k : ℕ) (ks : List ℕ) → RunsTo end ks → k ≡ end + 1 → RunsTo k (ks ++ k ∷ [])
runs_more end k ks is next =
    let on : GoesOn (last_of 0 ks) k = (omega arith, ⊎_elim (λ (none : last_of 0 ks ≡ 0). inl none) (λ (same : last_of 0 ks ≡ end). inr (next ∙ ap (λ (n : ℕ). n + 1) (sym same))) is.ends) in
    record { runs = Runs-append 0 ks (k ∷ []) is.runs (on, tt); ends = inr (last_of-append 0 ks (k ∷ [])) }

pub above_to : (a end : ℕ) (ks : List ℕ) → RunsTo end ks → RunsTo end (filter (nat_lt a) ks)
above_to a end ks is =
    let t = above_runs a 0 ks is.runs in
    record { runs = t.runs; ends = ⊎_elim (λ (none : last_of 0 (filter (nat_lt a) ks) ≡ 0). inl none) (λ (same : last_of 0 (filter (nat_lt a) ks) ≡ last_of 0 ks). ⊎_elim (λ (none : last_of 0 ks ≡ 0). inl (same ∙ none)) (λ (so : last_of 0 ks ≡ end). inr (same ∙ so)) is.ends) t.last_is }

-- what was sent, and the messages
pub record SendsStand (nodes stamp : ℕ) (sent : List ℕ) (ms : List Due) : Type 0 where
  pub long : length sent ≡ 8
  pub unused : are_unused nodes sent ≡ true
  pub words : AllByRecursion IsWord sent
  pub each : AllByRecursion (IsSoundDue nodes stamp) ms
  pub dues : AllByRecursion IsDue ms
  pub links : (i : ℕ) → i < 8 → RunsTo (slice_index_or sent i 0) (numbers_to i ms)

-- outputs
pub record OutsStand (outputs : ℕ) (os : List Out) : Type 0 where
  pub word : IsWord outputs
  pub each : AllByRecursion IsOut os
  pub runs : RunsTo outputs (out_numbers os)

pub record Standing (o : Owner) (n : Numbers) (ms : List Due) (os : List Out) : Type 0 where
  pub turns : n.turns < 2 ^ 64
  pub stamp : IsWord n.stamp
  pub consumed_long : length n.consumed ≡ 9
  pub consumed_unused : are_unused o.nodes n.consumed ≡ true
  pub consumed_words : AllByRecursion IsWord n.consumed
  pub most_outputs : n.outputs ≤ 16 * n.turns
  pub most_sent : sum n.sent ≤ 16 * n.turns
  pub sends : SendsStand o.nodes n.stamp n.sent ms
  pub outs : OutsStand n.outputs os

all_more : {A : Type 0} (P : A → Type 0) (xs ys : List A) → AllByRecursion P xs → AllByRecursion P ys → AllByRecursion P (xs ++ ys)
all_more P [] ys one two = two
all_more P (x ∷ xs) ys one two = (one.0, all_more P xs ys one.1 two)

all_set : {A : Type 0} (P : A → Type 0) (xs : List A) (i : ℕ) (x : A) → AllByRecursion P xs → P x → AllByRecursion P (set xs i x)
all_set P [] i x all is = tt
all_set P (y ∷ ys) zero x all is = (is, all.1)
all_set P (y ∷ ys) (suc i) x all is = (all.0, all_set P ys i x all.1 is)

sum-set : (xs : List ℕ) (i v : ℕ) → i < length xs → sum (set xs i v) + get_or xs i 0 ≡ sum xs + v
sum-set xs i v lt = sum_by-set (λ (x : ℕ). x) xs i v 0 lt

-- a count that is used
take-drop-set : (d k : ℕ) (xs : List ℕ) (i v : ℕ) → (i < d) ⊎ (d + k ≤ i) → take k (drop d (set xs i v)) ≡ take k (drop d xs)
take-drop-set d k [] i v out = refl
take-drop-set zero k (x ∷ xs) i v out = take-set-le k (x ∷ xs) i v (⊎_elim (λ (low : i < 0). omega arith) (λ (high : 0 + k ≤ i). omega arith) out)
take-drop-set (suc d) k (x ∷ xs) zero v out = refl
take-drop-set (suc d) k (x ∷ xs) (suc i) v out = take-drop-set d k xs i v (⊎_elim (λ (low : suc i < suc d). inl (omega arith)) (λ (high : suc d + k ≤ suc i). inr (omega arith)) out)

unused_set : (nodes : ℕ) (xs : List ℕ) (i v : ℕ) → nodes ≤ 8 → (i < nodes) ⊎ (8 ≤ i) → are_unused nodes xs ≡ true → are_unused nodes (set xs i v) ≡ true
unused_set nodes xs i v eight out is =
    ap (list_all (λ (n : ℕ). n == 0)) (take-drop-set nodes (8 - nodes) xs i v (⊎_elim (λ (low : i < nodes). inl low) (λ (high : 8 ≤ i). inr (omega arith)) out)) ∙ is

later : (nodes stamp more : ℕ) (ms : List Due) → stamp ≤ more → AllByRecursion (IsSoundDue nodes stamp) ms → AllByRecursion (IsSoundDue nodes more) ms
later nodes stamp more [] le all = tt
later nodes stamp more (m ∷ ms) le all = (record { to = all.0.to; some = all.0.some; most = omega (arith, all.0.most) }, later nodes stamp more ms le all.1)

module _ (nodes stamp : ℕ) (eight : nodes ≤ 8) (word : IsWord stamp) (some : 0 < stamp) where
  one_send : (sent : List ℕ) (ms : List Due) (s : Sent) → SendsStand nodes stamp sent ms → IsSent s → s.to < nodes → s.number ≡ slice_index_or sent s.to 0 + 1 → SendsStand nodes stamp (slice_set sent s.to s.number) (ms ++ due_of stamp s ∷ [])
  one_send sent ms s is fits to next = record {
    long = length-set sent s.to s.number ∙ is.long;
    unused = unused_set nodes sent s.to s.number eight (inl to) is.unused;
    words = all_set IsWord sent s.to s.number is.words fits.number.1;
    each = all_more (IsSoundDue nodes stamp) ms (due_of stamp s ∷ []) is.each (record { to = to; some = some; most = omega arith }, tt);
    dues = all_more IsDue ms (due_of stamp s ∷ []) is.dues (record { to = omega arith; number = fits.number.1; stamp = word; bytes = fits.bytes }, tt);
    links = λ i lt. ⊎_elim
        (λ (same : s.to ≡ i).
        let test : eqb s.to i ≡ true = eq-eqb s.to i same in
        let more : numbers_to i (ms ++ due_of stamp s ∷ []) ≡ numbers_to i ms ++ s.number ∷ [] = numbers_to-append i ms (due_of stamp s ∷ []) ∙ (rw test refl) in
        let before : RunsTo (slice_index_or sent i 0) (numbers_to i ms) = is.links i lt in
        let on : s.number ≡ slice_index_or sent i 0 + 1 = subst (λ (j : ℕ). s.number ≡ slice_index_or sent j 0 + 1) same next in
        let after : slice_index_or (slice_set sent s.to s.number) i 0 ≡ s.number = subst (λ (j : ℕ). slice_index_or (slice_set sent s.to s.number) j 0 ≡ s.number) same (get_or-set_same sent s.to s.number 0 (omega (arith, is.long))) in
        rw (after, more) (runs_more (slice_index_or sent i 0) s.number (numbers_to i ms) before on))
        (λ (other : s.to ≡ i → ⊥).
        let test : eqb s.to i ≡ false = ne_eqb s.to i other in
        let more : numbers_to i (ms ++ due_of stamp s ∷ []) ≡ numbers_to i ms = numbers_to-append i ms (due_of stamp s ∷ []) ∙ (rw test (append-nil (numbers_to i ms))) in
        let after : slice_index_or (slice_set sent s.to s.number) i 0 ≡ slice_index_or sent i 0 = get_or-set_other sent s.to i s.number 0 (λ e. other (sym e)) in
        rw (after, more) (is.links i lt))
        (cases_eq s.to i);
  }

  all_sends : (ss : List Sent) (sent : List ℕ) (ms : List Due) → SendsStand nodes stamp sent ms → AllByRecursion IsSent ss → sends_follow nodes sent ss ≡ true → SendsStand nodes stamp (sent_after sent ss) (ms ++ map (due_of stamp) ss) × (sum (sent_after sent ss) ≡ sum sent + length ss)
  all_sends [] sent ms is fits follow = (subst (SendsStand nodes stamp sent) (sym (append-nil ms)) is, omega arith)
  all_sends (s ∷ ss) sent ms is fits follow =
      let rest = and_true (nat_lt s.to nodes && (s.number == slice_index_or sent s.to 0 + 1)) (sends_follow nodes (slice_set sent s.to s.number) ss) follow in
      let first = and_true (nat_lt s.to nodes) (s.number == slice_index_or sent s.to 0 + 1) rest.0 in
      let to : s.to < nodes = less s.to nodes first.0 in
      let next : s.number ≡ slice_index_or sent s.to 0 + 1 = equal s.number (slice_index_or sent s.to 0 + 1) first.1 in
      let one = one_send sent ms s is fits.0 to next in
      let all = all_sends ss (slice_set sent s.to s.number) (ms ++ due_of stamp s ∷ []) one fits.1 rest.1 in
      let more : sum (slice_set sent s.to s.number) + get_or sent s.to 0 ≡ sum sent + s.number = sum-set sent s.to s.number (omega (arith, is.long)) in
      (subst (SendsStand nodes stamp (sent_after (slice_set sent s.to s.number) ss)) (append_assoc ms (due_of stamp s ∷ []) (map (due_of stamp) ss)) all.0, omega (arith, all.1, more, next))

one_out : (outputs : ℕ) (os : List Out) (o : Out) → OutsStand outputs os → IsOut o → o.number ≡ outputs + 1 → OutsStand o.number (os ++ o ∷ [])
one_out outputs os o is fits next = record {
  word = fits.number;
  each = all_more IsOut os (o ∷ []) is.each (fits, tt);
  runs = subst (RunsTo o.number) (sym (map-append out_number os (o ∷ []))) (runs_more outputs o.number (out_numbers os) is.runs next);
}

all_outs : (more : List Out) (outputs : ℕ) (os : List Out) → OutsStand outputs os → AllByRecursion IsOut more → outs_follow outputs more ≡ true → OutsStand (outputs_after outputs more) (os ++ more) × (outputs_after outputs more ≡ outputs + length more)
all_outs [] outputs os is fits follow = (subst (OutsStand outputs) (sym (append-nil os)) is, omega arith)
all_outs (o ∷ more) outputs os is fits follow =
    let rest = and_true (o.number == outputs + 1) (outs_follow o.number more) follow in
    let next : o.number ≡ outputs + 1 = equal o.number (outputs + 1) rest.0 in
    let all = all_outs more o.number (os ++ o ∷ []) (one_out outputs os o is fits.0 next) fits.1 rest.1 in
    (subst (OutsStand (outputs_after o.number more)) (append_assoc os (o ∷ []) more) all.0, omega (arith, all.1, next))

-- ---- a record more

sender_is : (o : Owner) (from : ℕ) → o.nodes ≤ 8 → (nat_lt from o.nodes || (from == 255)) ≡ true → (sender_index from < o.nodes) ⊎ (8 ≤ sender_index from)
sender_is o from eight test = by_test (nat_lt from o.nodes) (from == 255) refl refl test
  where
    by_test : (a b : Bool) → nat_lt from o.nodes ≡ a → (from == 255) ≡ b → (a || b) ≡ true → (sender_index from < o.nodes) ⊎ (8 ≤ sender_index from)
    by_test a true one two is = inr (rw two (omega arith))
    by_test true false one two is = inl (rw two (less from o.nodes one))
    by_test false false one two is = absurd (false≢true is)

module _ (o : Owner) (eight : o.nodes ≤ 8) where
  pub stands_more : (n : Numbers) (ms : List Due) (os : List Out) (r : Record) → Standing o n ms os → IsRecord One r → follows o n r ≡ true → Standing o (after_record n r) (ms ++ record_dues r) (os ++ r.outs) × (r.turn ≡ n.turns + 1)
  stands_more n ms os r is fits follow =
      let first = and_true (comes_next o n r && sends_follow o.nodes n.sent r.sends && outs_follow n.outputs r.outs) (are_within o.pages r.pages) follow in
      let second = and_true (comes_next o n r && sends_follow o.nodes n.sent r.sends) (outs_follow n.outputs r.outs) first.0 in
      let third = and_true (comes_next o n r) (sends_follow o.nodes n.sent r.sends) second.0 in
      let number = and_true ((r.turn == n.turns + 1) && nat_lt n.stamp r.stamp && (nat_lt r.from o.nodes || r.from == 255)) (r.number == slice_index_or n.consumed (sender_index r.from) 0 + 1) third.0 in
      let sender = and_true ((r.turn == n.turns + 1) && nat_lt n.stamp r.stamp) (nat_lt r.from o.nodes || r.from == 255) number.0 in
      let turn = and_true (r.turn == n.turns + 1) (nat_lt n.stamp r.stamp) sender.0 in
      let next : r.turn ≡ n.turns + 1 = equal r.turn (n.turns + 1) turn.0 in
      let stamp : n.stamp < r.stamp = less n.stamp r.stamp turn.1 in
      let old : SendsStand o.nodes r.stamp n.sent ms = record { long = is.sends.long; unused = is.sends.unused; words = is.sends.words; each = later o.nodes n.stamp r.stamp ms (omega arith) is.sends.each; dues = is.sends.dues; links = is.sends.links } in
      let sends = all_sends o.nodes r.stamp eight fits.stamp.1 (omega arith) r.sends n.sent ms old fits.lists.1.1 third.1 in
      let outs = all_outs r.outs n.outputs os is.outs fits.lists.2.1 second.1 in (
        record {
          turns = fits.turn.1;
          stamp = fits.stamp.1;
          consumed_long = length-set n.consumed (sender_index r.from) r.number ∙ is.consumed_long;
          consumed_unused = unused_set o.nodes n.consumed (sender_index r.from) r.number eight (sender_is o r.from eight sender.1) is.consumed_unused;
          consumed_words = all_set IsWord n.consumed (sender_index r.from) r.number is.consumed_words fits.number.1;
          most_outputs = omega (arith, outs.1, fits.lists.2.0, is.most_outputs, next);
          most_sent = omega (arith, sends.1, fits.lists.1.0, is.most_sent, next);
          sends = sends.0;
          outs = outs.0;
        },
        next,
      )

-- ---- all records of a log

pub zeros_at : (n i : ℕ) → ◌≡◌ {A = ℕ} (get_or (replicate n 0) i 0) 0
zeros_at zero i = refl
zeros_at (suc n) zero = refl
zeros_at (suc n) (suc i) = zeros_at n i

zeros_words : (n : ℕ) → AllByRecursion IsWord (replicate n 0)
zeros_words zero = tt
zeros_words (suc n) = (omega arith, zeros_words n)

unused_zeros : (d k n : ℕ) → list_all (λ (c : ℕ). c == 0) (take k (drop d (replicate n 0))) ≡ true
unused_zeros d zero n = refl
unused_zeros zero (suc k) zero = refl
unused_zeros zero (suc k) (suc n) = unused_zeros zero k n
unused_zeros (suc d) (suc k) zero = refl
unused_zeros (suc d) (suc k) (suc n) = unused_zeros d (suc k) n

module _ (o : Owner) (eight : o.nodes ≤ 8) where
  none_stands : Standing o no_numbers [] []
  none_stands = record {
    turns = omega arith;
    stamp = omega arith;
    consumed_long = refl;
    consumed_unused = unused_zeros o.nodes (8 - o.nodes) 9;
    consumed_words = zeros_words 9;
    most_outputs = omega arith;
    most_sent = omega arith;
    sends = record { long = refl; unused = unused_zeros o.nodes (8 - o.nodes) 8; words = zeros_words 8; each = tt; dues = tt; links = λ i lt. record { runs = tt; ends = inl refl } };
    outs = record { word = omega arith; each = tt; runs = record { runs = tt; ends = inl refl } };
  }

  outs_of_base : (outputs : ℕ) (os : List Out) → IsWord outputs → AllByRecursion IsOut os → outs_stand outputs os ≡ true → OutsStand outputs os
  outs_of_base outputs [] word fits is = record { word = word; each = tt; runs = record { runs = tt; ends = inl refl } }
  outs_of_base outputs (out ∷ os) word fits is =
      let first = and_true (nat_lt 0 out.number) (outs_follow out.number os && (outputs_after out.number os == outputs)) is in
      let rest = and_true (outs_follow out.number os) (outputs_after out.number os == outputs) first.1 in
      let one : OutsStand out.number (out ∷ []) = record { word = fits.0.number; each = (fits.0, tt); runs = record { runs = ((less 0 out.number first.0, inl refl), tt); ends = inr refl } } in
      let all = all_outs os out.number (out ∷ []) one fits.1 rest.0 in
      subst (λ (k : ℕ). OutsStand k (out ∷ os)) (equal (outputs_after out.number os) outputs rest.1) all.0

  base_stand : (head : Header) (b : Base) → head.turns < 2 ^ 64 → IsBase One b → base_stands o head b ≡ true → Standing o (base_numbers head b) b.messages b.outs
  base_stand head b small fits is =
      let texts = and_true (counts_stand o head b && are_within o.pages b.pages && messages_stand o.nodes b && outs_stand b.outputs b.outs) (texts_stand b) is in
      let short = and_true (list_all is_short_due b.messages) (list_all is_short_out b.outs) texts.1 in
      let first = and_true (counts_stand o head b && are_within o.pages b.pages && messages_stand o.nodes b) (outs_stand b.outputs b.outs) texts.0 in
      let second = and_true (counts_stand o head b && are_within o.pages b.pages) (messages_stand o.nodes b) first.0 in
      let third = and_true (counts_stand o head b) (are_within o.pages b.pages) second.0 in
      let messages = and_true (messages_follow o.nodes b.stamp (replicate 8 0) b.messages) (reach (last_after (replicate 8 0) b.messages) b.sent) second.1 in
      let sum_is = and_true (are_unused o.nodes b.consumed && are_unused o.nodes b.sent && nat_le b.outputs (16 * head.turns)) (nat_le (sum b.sent) (16 * head.turns)) third.0 in
      let outputs_are = and_true (are_unused o.nodes b.consumed && are_unused o.nodes b.sent) (nat_le b.outputs (16 * head.turns)) sum_is.0 in
      let unused = and_true (are_unused o.nodes b.consumed) (are_unused o.nodes b.sent) outputs_are.0 in
      let zeros : length {A = ℕ} (replicate 8 0) ≡ 8 = refl in
      let follow : Follow o.nodes b.stamp (replicate 8 0) b.messages = to_follow o.nodes b.stamp eight (replicate 8 0) b.messages zeros messages.0 in
      let sent_long : length b.sent ≡ 8 = fits.counts.1.1 in
      let last_long : length (last_after (replicate 8 0) b.messages) ≡ 8 = length-last_after o.nodes b.stamp eight (replicate 8 0) b.messages ∙ zeros in
      record {
        turns = small;
        stamp = fits.stamp;
        consumed_long = fits.counts.0.1;
        consumed_unused = unused.0;
        consumed_words = fits.counts.0.0;
        most_outputs = at_most b.outputs (16 * head.turns) outputs_are.1;
        most_sent = at_most (sum b.sent) (16 * head.turns) sum_is.1;
        sends = record {
          long = sent_long;
          unused = unused.1;
          words = fits.counts.1.0;
          each = follow.each;
          dues = short_dues b.messages fits.kept.0.1 short.0;
          links = λ i lt.
              let at : slice_index_or (last_after (replicate 8 0) b.messages) i 0 ≡ last_of 0 (numbers_to i b.messages) = last_after-at o.nodes b.stamp eight (replicate 8 0) b.messages i zeros follow.each ∙ ap (λ (k : ℕ). last_of k (numbers_to i b.messages)) (zeros_at 8 i) in
              record {
                runs = subst (λ (k : ℕ). Runs k (numbers_to i b.messages)) (zeros_at 8 i) (follow.runs i lt);
                ends = subst (λ (k : ℕ). (k ≡ 0) ⊎ (k ≡ slice_index_or b.sent i 0)) at (reach_is (last_after (replicate 8 0) b.messages) b.sent (last_long ∙ sym sent_long) messages.1 i (omega (arith, last_long, lt)));
              };
        };
        outs = outs_of_base b.outputs b.outs fits.outputs (short_outs b.outs fits.kept.1.1 short.1) first.1;
      }

  module _ (n : Numbers) where
    record_step : (place : ℕ) (start : Numbers) (ms : List Due) (os : List Out) (r : Record) (rs : List Record) (test : Bool) → follows o start r ≡ test → Standing o start ms os → IsRecord One r
        → ((place : ℕ) (start : Numbers) (ms : List Due) (os : List Out) → Standing o start ms os → after_records o place start rs ≡ Ok n → Standing o n (ms ++ flat_map record_dues rs) (os ++ flat_map record_outs rs) × (n.turns ≡ start.turns + length rs))
        → (if test then after_records o (place + (1 + length (record_bytes One r))) (after_record start r) rs else Err place) ≡ Ok n
        → Standing o n (ms ++ (record_dues r ++ flat_map record_dues rs)) (os ++ (r.outs ++ flat_map record_outs rs)) × (n.turns ≡ start.turns + length (r ∷ rs))
    record_step place start ms os r rs true follow is fits rest counted =
        let one = stands_more o eight start ms os r is fits follow in
        let all = rest (place + (1 + length (record_bytes One r))) (after_record start r) (ms ++ record_dues r) (os ++ r.outs) one.0 counted in (
          subst (λ (l : List Due). Standing o n l (os ++ (r.outs ++ flat_map record_outs rs))) (append_assoc ms (record_dues r) (flat_map record_dues rs))
              (subst (λ (l : List Out). Standing o n ((ms ++ record_dues r) ++ flat_map record_dues rs) l) (append_assoc os r.outs (flat_map record_outs rs)) all.0),
          omega (arith, all.1, one.1),
        )
    record_step place start ms os r rs false follow is fits rest counted = absurd (let none : ⊥ = cc counted in none)

    records_stand : (rs : List Record) → AllByRecursion (IsRecord One) rs → (place : ℕ) (start : Numbers) (ms : List Due) (os : List Out) → Standing o start ms os → after_records o place start rs ≡ Ok n → Standing o n (ms ++ flat_map record_dues rs) (os ++ flat_map record_outs rs) × (n.turns ≡ start.turns + length rs)
    records_stand [] items place start ms os is counted =
        let same : start ≡ n = cc counted in
        let here : Standing o start (ms ++ []) (os ++ []) = subst (λ (l : List Due). Standing o start l (os ++ [])) (sym (append-nil ms)) (subst (λ (l : List Out). Standing o start ms l) (sym (append-nil os)) is) in
        (subst (λ (k : Numbers). Standing o k (ms ++ []) (os ++ [])) same here, (let turns : start.turns ≡ n.turns = ap (λ (k : Numbers). k.turns) same in omega (arith, turns)))
    records_stand (r ∷ rs) items place start ms os is counted = record_step place start ms os r rs (follows o start r) refl is items.0 (records_stand rs items.1) counted

    base_then : (place : ℕ) (head : Header) (b : Base) (rs : List Record) (test : Bool) → base_stands o head b ≡ test → head.turns < 2 ^ 64 → IsBase One b → AllByRecursion (IsRecord One) rs
        → numbers_from o place (if test then Some (base_numbers head b) else None) rs ≡ Ok n → Standing o n (b.messages ++ flat_map record_dues rs) (b.outs ++ flat_map record_outs rs) × (n.turns ≡ head.turns + length rs)
    base_then place head b rs true test small fits items counted = records_stand rs items place (base_numbers head b) b.messages b.outs (base_stand head b small fits test) counted
    base_then place head b rs false test small fits items counted = absurd (let none : ⊥ = cc counted in none)

    pub log_stands : (head : Header) (base : Option Base) (rs : List Record) → IsHead head base → AllByRecursion (IsRecord One) rs → numbers_of o head base rs ≡ Ok n → Standing o n (dues_in base rs) (outs_in base rs) × (n.turns ≡ head.turns + length rs)
    log_stands head None rs is items counted =
        let all = records_stand rs items (32 + head.base_len) no_numbers [] [] none_stands counted in
        let first : head.turns ≡ 0 = (is.fits.first is.has).0 in
        (all.0, omega (arith, all.1, first))
    log_stands head (Some b) rs is items counted = base_then (32 + head.base_len) head b rs (base_stands o head b) refl is.fits.turns is.has.1 items counted
