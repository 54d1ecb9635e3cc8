-- The base that a log goes over to stands behind the next header, and tells the same.
use Rattle.std.proofs.Common.{◌≡◌, ℕ, ◌+◌, ◌*◌, ◌<◌, ◌≤◌, ◌^◌, suc, zero, List, [], ◌∷◌, ◌++◌, length, map, cond, eqb, leb, Bool, true, false, ◌&&◌, Option, Some, None, refl, sym, ap, subst, ◌∙◌, arith, inl, inr, ◌⊎◌, ⊎_elim, length-append, eq-eqb, ne_eqb, append-nil}
use Rattle.std.specs.Prelude.{if◌then◌else◌, ◌==◌, nat_lt, nat_le, slice_index, slice_index_or, sum, replicate}
use Rattle.std.specs.List.{AllByRecursion, filter, flat_map, list_all, range_with_len}
use Rattle.std.proofs.lemmas.Bool.{cases_eq}
use Rattle.std.proofs.lemmas.Bool.Decides.{nat_tests}
use Rattle.std.proofs.lemmas.List.{map-append}
use Rattle.std.proofs.lemmas.List.Elements.{filter-append}
use Rattle.ken_model.specs.declared.messages.Message.{Message}
use Rattle.ken_model.specs.declared.messages.Out.{Out}
use Rattle.ken_pages.specs.Paged.{page_of}
use Rattle.ken_record.specs.declared.base.Base.{Base}
use Rattle.ken_record.specs.declared.due.Due.{Due}
use Rattle.ken_record.specs.declared.header.Header.{Header}
use Rattle.ken_record.specs.declared.page.Page.{Page}
use Rattle.ken_record.specs.declared.record.Record.{Record}
use Rattle.ken_record.specs.declared.sent.Sent.{Sent}
use Rattle.ken_record.specs.Grammar.{IsWord, FitsDue, IsDue, FitsOut, IsOut, IsPage, IsBase, rise_from, due_rank, out_rank, page_rank}
use Rattle.ken_record.specs.Spelling.{number, counted, due, out, page, counts, kept, base_bytes}
use Rattle.ken_record.specs.Versions.{One}
use Rattle.ken_record.proofs.Sizes.{due_long, out_long}
use Rattle.ken_cover.specs.declared.layers.Change.{Change}
use Rattle.ken_cover.specs.Overlay.{AreWithin}
use Rattle.ken_cover.specs.Sides.{TurnPages, last_change, stays, base_change, base_changes}
use Rattle.ken_cover.proofs.Bases.{AreOwn-base, AreWithin-own}
use Rattle.ken_store.specs.declared.numbers.Numbers.{Numbers}
use Rattle.ken_store.specs.declared.owner.Owner.{Owner}
use Rattle.ken_store.specs.Bases.{are_unused, messages_follow, last_after, reach, messages_stand, outs_stand, counts_stand, is_short_due, is_short_out, texts_stand, base_stands}
use Rattle.ken_store.specs.Kept.{message_due, due_to, sent_to, message_sent, messages_to, messages_in, base_messages}
use Rattle.ken_store.specs.Numbers.{are_within, outs_follow, outputs_after}
use Rattle.ken_store.specs.Turnovers.{due_of, record_dues, dues_in, is_due, unacked_to, all_due, outs_above, page_in}
use Rattle.ken_store.proofs.Sealing.{all_within, are_pages}
use Rattle.ken_store.proofs.BaseStands.{and_true, both, dues_fit, outs_fit, is_less, is_most, Runs, last_of, above_to, goes_to, due_number, numbers_to, IsSoundDue, Follow, from_follow, length-last_after, last_after-at, is_reach, zeros_at, RunsTo, out_numbers, Standing}

-- ---- messages of a list, by the node that they go to

module _ (acked : List ℕ) where
  -- of those to another node, none
  other_group : (i k : ℕ) (ms : List Due) → (k ≡ i → ⊥) → filter (goes_to i) (filter (is_due acked k) ms) ≡ []
  other_group i k [] other = refl
  other_group i k (m ∷ ms) other = ⊎_elim
      (λ (same : m.to ≡ k).
      let one : eqb m.to k ≡ true = eq-eqb m.to k same in
      let two : eqb m.to i ≡ false = ne_eqb m.to i (λ e. other (sym same ∙ e)) in
      rw one (elim (nat_lt (slice_index acked k) m.number) as (λ b. filter (goes_to i) (cond b (m ∷ filter (is_due acked k) ms) (filter (is_due acked k) ms)) ≡ []) [
        | true ↦ (rw two (other_group i k ms other))
        | false ↦ other_group i k ms other
      ]))
      (λ (not : m.to ≡ k → ⊥). let one : eqb m.to k ≡ false = ne_eqb m.to k not in rw one (other_group i k ms other))
      (cases_eq m.to k)

  same_group : (i : ℕ) (ms : List Due) → filter (goes_to i) (filter (is_due acked i) ms) ≡ filter (is_due acked i) ms
  same_group i [] = refl
  same_group i (m ∷ ms) = ⊎_elim
      (λ (same : m.to ≡ i).
      let one : eqb m.to i ≡ true = eq-eqb m.to i same in
      rw one (elim (nat_lt (slice_index acked i) m.number) as (λ b. filter (goes_to i) (cond b (m ∷ filter (is_due acked i) ms) (filter (is_due acked i) ms)) ≡ cond b (m ∷ filter (is_due acked i) ms) (filter (is_due acked i) ms)) [
        | true ↦ (rw one (ap (λ (l : List Due). m ∷ l) (same_group i ms)))
        | false ↦ same_group i ms
      ]))
      (λ (not : m.to ≡ i → ⊥). let one : eqb m.to i ≡ false = ne_eqb m.to i not in rw one (same_group i ms))
      (cases_eq m.to i)

  groups_past : (ms : List Due) (i a k : ℕ) → (i < a) ⊎ (a + k ≤ i) → filter (goes_to i) (flat_map (unacked_to acked ms) (range_with_len a k)) ≡ []
  groups_past ms i a zero out = refl
  groups_past ms i a (suc k) out =
      let not : a ≡ i → ⊥ = λ e. ⊎_elim (λ (low : i < a). omega arith) (λ (high : a + suc k ≤ i). omega arith) out in
      let rest = groups_past ms i (a + 1) k (⊎_elim (λ (low : i < a). inl (omega arith)) (λ (high : a + suc k ≤ i). inr (omega arith)) out) in
      filter-append (goes_to i) (unacked_to acked ms a) (flat_map (unacked_to acked ms) (range_with_len (a + 1) k))
      ∙ ap (λ (l : List Due). l ++ filter (goes_to i) (flat_map (unacked_to acked ms) (range_with_len (a + 1) k))) (other_group i a ms not)
      ∙ rest

  groups_at : (ms : List Due) (i a k : ℕ) → a ≤ i → i < a + k → filter (goes_to i) (flat_map (unacked_to acked ms) (range_with_len a k)) ≡ unacked_to acked ms i
  groups_at ms i a zero low high = absurd (omega arith)
  groups_at ms i a (suc k) low high = filter-append (goes_to i) (unacked_to acked ms a) (flat_map (unacked_to acked ms) (range_with_len (a + 1) k)) ∙ ⊎_elim
      (λ (same : a ≡ i).
      ap (λ (l : List Due). filter (goes_to i) (unacked_to acked ms a) ++ l) (groups_past ms i (a + 1) k (inl (omega arith)))
      ∙ append-nil (filter (goes_to i) (unacked_to acked ms a))
      ∙ subst (λ (j : ℕ). filter (goes_to i) (unacked_to acked ms j) ≡ unacked_to acked ms i) (sym same) (same_group i ms))
      (λ (other : a ≡ i → ⊥).
      ap (λ (l : List Due). l ++ filter (goes_to i) (flat_map (unacked_to acked ms) (range_with_len (a + 1) k))) (other_group i a ms other)
      ∙ groups_at ms i (a + 1) k (omega arith) (omega arith))
      (cases_eq a i)

  pub group_is : (ms : List Due) (i : ℕ) → i < 8 → filter (goes_to i) (all_due acked ms) ≡ unacked_to acked ms i
  group_is ms i lt = groups_at ms i 0 8 (omega arith) (omega arith)

  numbers_unacked : (i : ℕ) (ms : List Due) → map due_number (unacked_to acked ms i) ≡ filter (nat_lt (slice_index acked i)) (numbers_to i ms)
  numbers_unacked i [] = refl
  numbers_unacked i (m ∷ ms) = ⊎_elim
      (λ (same : m.to ≡ i).
      let one : eqb m.to i ≡ true = eq-eqb m.to i same in
      rw one (elim (nat_lt (slice_index acked i) m.number) as (λ b. map due_number (cond b (m ∷ filter (is_due acked i) ms) (filter (is_due acked i) ms)) ≡ cond b (m.number ∷ filter (nat_lt (slice_index acked i)) (numbers_to i ms)) (filter (nat_lt (slice_index acked i)) (numbers_to i ms))) [
        | true ↦ ap (λ (l : List ℕ). m.number ∷ l) (numbers_unacked i ms)
        | false ↦ numbers_unacked i ms
      ]))
      (λ (not : m.to ≡ i → ⊥). let one : eqb m.to i ≡ false = ne_eqb m.to i not in rw one (numbers_unacked i ms))
      (cases_eq m.to i)

  pub numbers_due : (i : ℕ) (ms : List Due) → i < 8 → numbers_to i (all_due acked ms) ≡ filter (nat_lt (slice_index acked i)) (numbers_to i ms)
  numbers_due i ms lt = ap (map due_number) (group_is ms i lt) ∙ numbers_unacked i ms

all_filter : {A : Type 0} (P : A → Type 0) (p : A → Bool) (xs : List A) → AllByRecursion P xs → AllByRecursion P (filter p xs)
all_filter P p [] all = tt
all_filter P p (x ∷ xs) all = elim (p x) as (λ b. AllByRecursion P (cond b (x ∷ filter p xs) (filter p xs))) [ true ↦ (all.0, all_filter P p xs all.1) | false ↦ all_filter P p xs all.1 ]

all_append : {A : Type 0} (P : A → Type 0) (xs ys : List A) → AllByRecursion P xs → AllByRecursion P ys → AllByRecursion P (xs ++ ys)
all_append P [] ys one two = two
all_append P (x ∷ xs) ys one two = (one.0, all_append P xs ys one.1 two)

all_groups : {A : Type 0} (P : A → Type 0) (f : ℕ → List A) → ((i : ℕ) → AllByRecursion P (f i)) → (a k : ℕ) → AllByRecursion P (flat_map f (range_with_len a k))
all_groups P f all a zero = tt
all_groups P f all a (suc k) = all_append P (f a) (flat_map f (range_with_len (a + 1) k)) (all a) (all_groups P f all (a + 1) k)

-- ---- the next base stands

number_outs : (e : ℕ) (os : List Out) → out_numbers (outs_above e os) ≡ filter (nat_lt e) (out_numbers os)
number_outs e [] = refl
number_outs e (o ∷ os) = elim (nat_lt e o.number) as (λ b. out_numbers (cond b (o ∷ outs_above e os) (outs_above e os)) ≡ cond b (o.number ∷ filter (nat_lt e) (out_numbers os)) (filter (nat_lt e) (out_numbers os))) [
  | true ↦ ap (λ (l : List ℕ). o.number ∷ l) (number_outs e os)
  | false ↦ number_outs e os
]

runs_follow : (last : ℕ) (os : List Out) → 0 < last → Runs last (out_numbers os) → (outs_follow last os ≡ true) × (outputs_after last os ≡ last_of last (out_numbers os)) × (0 < outputs_after last os)
runs_follow last [] some runs = (refl, refl, some)
runs_follow last (o ∷ os) some runs =
    let next : o.number ≡ last + 1 = ⊎_elim (λ (none : last ≡ 0). absurd (let no : ⊥ = omega arith in no)) (λ e. e) runs.0.1 in
    let rest = runs_follow o.number os runs.0.0 runs.1 in
    (both (o.number == last + 1) (outs_follow o.number os) (eq-eqb o.number (last + 1) next) rest.0, rest.1, rest.2)

outs_do_stand : (outputs : ℕ) (os : List Out) → RunsTo outputs (out_numbers os) → outs_stand outputs os ≡ true
outs_do_stand outputs [] is = refl
outs_do_stand outputs (o ∷ os) is =
    let rest = runs_follow o.number os is.runs.0.0 is.runs.1 in
    let end : outputs_after o.number os ≡ outputs = ⊎_elim (λ (none : last_of o.number (out_numbers os) ≡ 0). absurd (let no : ⊥ = omega (arith, rest.1, rest.2, none) in no)) (λ (same : last_of o.number (out_numbers os) ≡ outputs). rest.1 ∙ same) is.ends in
    both (nat_lt 0 o.number) (outs_follow o.number os && (outputs_after o.number os == outputs)) (is_less 0 o.number is.runs.0.0)
    (both (outs_follow o.number os) (outputs_after o.number os == outputs) rest.0 (eq-eqb (outputs_after o.number os) outputs end))

module _ (o : Owner) (eight : o.nodes ≤ 8) (n : Numbers) (ms : List Due) (os : List Out) (is : Standing o n ms os) (acked : List ℕ) (emitted : ℕ) where
  sound_due : AllByRecursion (IsSoundDue o.nodes n.stamp) (all_due acked ms)
  sound_due = all_groups (IsSoundDue o.nodes n.stamp) (unacked_to acked ms) (λ i. all_filter (IsSoundDue o.nodes n.stamp) (is_due acked i) ms is.sends.each) 0 8

  link_due : (i : ℕ) → i < 8 → RunsTo (slice_index_or n.sent i 0) (numbers_to i (all_due acked ms))
  link_due i lt = subst (RunsTo (slice_index_or n.sent i 0)) (sym (numbers_due acked i ms lt)) (above_to (slice_index acked i) (slice_index_or n.sent i 0) (numbers_to i ms) (is.sends.links i lt))

  follow_due : Follow o.nodes n.stamp (replicate 8 0) (all_due acked ms)
  follow_due = record { each = sound_due; runs = λ i lt. subst (λ (k : ℕ). Runs k (numbers_to i (all_due acked ms))) (sym (zeros_at 8 i)) (link_due i lt).runs }

  reach_due : reach (last_after (replicate 8 0) (all_due acked ms)) n.sent ≡ true
  reach_due =
      let zeros : length {A = ℕ} (replicate 8 0) ≡ 8 = refl in
      let long : length (last_after (replicate 8 0) (all_due acked ms)) ≡ 8 = length-last_after o.nodes n.stamp eight (replicate 8 0) (all_due acked ms) ∙ zeros in
      is_reach (last_after (replicate 8 0) (all_due acked ms)) n.sent (long ∙ sym is.sends.long) (λ i lt.
      let at : slice_index_or (last_after (replicate 8 0) (all_due acked ms)) i 0 ≡ last_of 0 (numbers_to i (all_due acked ms)) = last_after-at o.nodes n.stamp eight (replicate 8 0) (all_due acked ms) i zeros sound_due ∙ ap (λ (k : ℕ). last_of k (numbers_to i (all_due acked ms))) (zeros_at 8 i) in
      subst (λ (k : ℕ). (k ≡ 0) ⊎ (k ≡ slice_index_or n.sent i 0)) (sym at) (link_due i (omega (arith, long, lt))).ends)

  outs_due : RunsTo n.outputs (out_numbers (outs_above emitted os))
  outs_due = subst (RunsTo n.outputs) (sym (number_outs emitted os)) (above_to emitted n.outputs (out_numbers os) is.outs.runs)

  pub next_stands : (head : Header) (pages : List Page) → head.turns ≡ n.turns → AreWithin o.pages pages → base_stands o head (record { stamp = n.stamp; consumed = n.consumed; sent = n.sent; outputs = n.outputs; messages = all_due acked ms; outs = outs_above emitted os; pages = pages }) ≡ true
  next_stands head pages turns within =
      let outputs : nat_le n.outputs (16 * head.turns) ≡ true = is_most n.outputs (16 * head.turns) (omega (arith, turns, is.most_outputs)) in
      let sent : nat_le (sum n.sent) (16 * head.turns) ≡ true = is_most (sum n.sent) (16 * head.turns) (omega (arith, turns, is.most_sent)) in
      let b : Base = record { stamp = n.stamp; consumed = n.consumed; sent = n.sent; outputs = n.outputs; messages = all_due acked ms; outs = outs_above emitted os; pages = pages } in
      let short_dues = (dues_fit (all_due acked ms) (all_groups IsDue (unacked_to acked ms) (λ i. all_filter IsDue (is_due acked i) ms is.sends.dues) 0 8)).1 in
      let short_outs = (outs_fit (outs_above emitted os) (all_filter IsOut (λ (x : Out). nat_lt emitted x.number) os is.outs.each)).1 in
      both (counts_stand o head b && are_within o.pages pages && messages_stand o.nodes b && outs_stand n.outputs (outs_above emitted os)) (texts_stand b)
      (both (counts_stand o head b && are_within o.pages pages && messages_stand o.nodes b) (outs_stand n.outputs (outs_above emitted os))
      (both (counts_stand o head b && are_within o.pages pages) (messages_stand o.nodes b)
      (both (counts_stand o head b) (are_within o.pages pages)
      (both (are_unused o.nodes n.consumed && are_unused o.nodes n.sent && nat_le n.outputs (16 * head.turns)) (nat_le (sum n.sent) (16 * head.turns))
      (both (are_unused o.nodes n.consumed && are_unused o.nodes n.sent) (nat_le n.outputs (16 * head.turns))
      (both (are_unused o.nodes n.consumed) (are_unused o.nodes n.sent) is.consumed_unused is.sends.unused)
      outputs)
      sent)
      (all_within o.pages pages within))
      (both (messages_follow o.nodes n.stamp (replicate 8 0) (all_due acked ms)) (reach (last_after (replicate 8 0) (all_due acked ms)) n.sent)
      (from_follow o.nodes n.stamp eight (replicate 8 0) (all_due acked ms) refl follow_due)
      reach_due))
      (outs_do_stand n.outputs (outs_above emitted os) outs_due))
      (both (list_all is_short_due (all_due acked ms)) (list_all is_short_out (outs_above emitted os)) short_dues short_outs)

-- ---- it is one of the grammar

rise_weak : {A : Type 0} (rank : A → ℕ) (low high : ℕ) (xs : List A) → low ≤ high → rise_from rank high xs ≡ true → rise_from rank low xs ≡ true
rise_weak rank low high [] le is = refl
rise_weak rank low high (x ∷ xs) le is =
    let two = and_true (nat_le high (rank x)) (rise_from rank (rank x + 1) xs) is in
    both (nat_le low (rank x)) (rise_from rank (rank x + 1) xs) (is_most low (rank x) (let at : high ≤ rank x = (let t : leb high (rank x) ≡ true = two.0 in grind (arith, nat_tests)) in omega arith)) two.1

rise_append : {A : Type 0} (rank : A → ℕ) (low bound : ℕ) (xs ys : List A) → low ≤ bound → AllByRecursion (λ (x : A). rank x < bound) xs → rise_from rank low xs ≡ true → rise_from rank bound ys ≡ true → rise_from rank low (xs ++ ys) ≡ true
rise_append rank low bound [] ys le all one two = rise_weak rank low bound ys le two
rise_append rank low bound (x ∷ xs) ys le all one two =
    let first = and_true (nat_le low (rank x)) (rise_from rank (rank x + 1) xs) one in
    both (nat_le low (rank x)) (rise_from rank (rank x + 1) (xs ++ ys)) first.0 (rise_append rank (rank x + 1) bound xs ys (omega (arith, all.0)) all.1 first.1 two)

module _ (i : ℕ) where
  abbrev pub AllTo : List Due → Type 0
  AllTo ms = AllByRecursion (λ (m : Due). m.to ≡ i) ms

  rank_is : (m : Due) → m.to ≡ i → due_rank m ≡ i * 2 ^ 64 + m.number
  rank_is m same = ap (λ (t : ℕ). t * 2 ^ 64 + m.number) same

  rise_run : (last : ℕ) (ms : List Due) → AllTo ms → 0 < last → Runs last (map due_number ms) → rise_from due_rank (i * 2 ^ 64 + last + 1) ms ≡ true
  rise_run last [] to some runs = refl
  rise_run last (m ∷ ms) to some runs =
      let next : m.number ≡ last + 1 = ⊎_elim (λ (none : last ≡ 0). absurd (let no : ⊥ = omega arith in no)) (λ e. e) runs.0.1 in
      let rank : due_rank m ≡ i * 2 ^ 64 + m.number = rank_is m to.0 in
      both (nat_le (i * 2 ^ 64 + last + 1) (due_rank m)) (rise_from due_rank (due_rank m + 1) ms) (is_most (i * 2 ^ 64 + last + 1) (due_rank m) (omega (arith, rank, next)))
      (subst (λ (k : ℕ). rise_from due_rank (k + 1) ms ≡ true) (sym rank) (rise_run m.number ms to.1 runs.0.0 runs.1))

  rise_group : (ms : List Due) → AllTo ms → Runs 0 (map due_number ms) → rise_from due_rank (i * 2 ^ 64) ms ≡ true
  rise_group [] to runs = refl
  rise_group (m ∷ ms) to runs =
      let rank : due_rank m ≡ i * 2 ^ 64 + m.number = rank_is m to.0 in
      both (nat_le (i * 2 ^ 64) (due_rank m)) (rise_from due_rank (due_rank m + 1) ms) (is_most (i * 2 ^ 64) (due_rank m) (omega (arith, rank)))
      (subst (λ (k : ℕ). rise_from due_rank (k + 1) ms ≡ true) (sym rank) (rise_run m.number ms to.1 runs.0.0 runs.1))

  ranks_below : (ms : List Due) → AllTo ms → AllByRecursion IsDue ms → AllByRecursion (λ (m : Due). due_rank m < (i + 1) * 2 ^ 64) ms
  ranks_below [] to fits = tt
  ranks_below (m ∷ ms) to fits = ((let rank : due_rank m ≡ i * 2 ^ 64 + m.number = rank_is m to.0 in omega (arith, rank, fits.0.number)), ranks_below ms to.1 fits.1)

  group_to : (acked : List ℕ) (ms : List Due) → AllTo (unacked_to acked ms i)
  group_to acked [] = tt
  group_to acked (m ∷ ms) = ⊎_elim
      (λ (same : m.to ≡ i).
      let one : eqb m.to i ≡ true = eq-eqb m.to i same in
      rw one (elim (nat_lt (slice_index acked i) m.number) as (λ b. AllTo (cond b (m ∷ filter (is_due acked i) ms) (filter (is_due acked i) ms))) [
        | true ↦ (same, group_to acked ms)
        | false ↦ group_to acked ms
      ]))
      (λ (not : m.to ≡ i → ⊥). let one : eqb m.to i ≡ false = ne_eqb m.to i not in rw one (group_to acked ms))
      (cases_eq m.to i)

module _ (t : TurnPages) (settled : ℕ) where
  abbrev pages_from : ℕ → ℕ → List Page
  pages_from a k = map page_in (flat_map (λ (p : ℕ). base_change settled t.heap p (last_change p t.live)) (range_with_len a k))

  abbrev with_piece : ℕ → ℕ → Option Change → List Page
  with_piece a k o = map page_in (base_change settled t.heap a o ++ flat_map (λ (p : ℕ). base_change settled t.heap p (last_change p t.live)) (range_with_len (a + 1) k))

  abbrev with_kept : ℕ → ℕ → ℕ → Bool → List Page
  with_kept a k turn b = map page_in ((if b then record { turn = turn; page = record { page = a; bytes = page_of t.heap a } } ∷ [] else []) ++ flat_map (λ (p : ℕ). base_change settled t.heap p (last_change p t.live)) (range_with_len (a + 1) k))

  pages_rise : (low a k : ℕ) → low ≤ a → rise_from page_rank low (pages_from a k) ≡ true
  pages_rise low a zero le = refl
  pages_rise low a (suc k) le =
      let rest : rise_from page_rank low (pages_from (a + 1) k) ≡ true = pages_rise low (a + 1) k (omega arith) in
      let more : rise_from page_rank (a + 1) (pages_from (a + 1) k) ≡ true = pages_rise (a + 1) (a + 1) k (omega arith) in
      elim (last_change a t.live) as (λ o. rise_from page_rank low (with_piece a k o) ≡ true) [
        | None ↦ rest
        | Some c ↦ elim (stays settled c.turn) as (λ b. rise_from page_rank low (with_kept a k c.turn b) ≡ true) [
          | true ↦ both (nat_le low a) (rise_from page_rank (a + 1) (pages_from (a + 1) k)) (is_most low a le) more
          | false ↦ rest
        ]
      ]

  pages_few : (a k : ℕ) → length (pages_from a k) ≤ k
  pages_few a zero = omega arith
  pages_few a (suc k) =
      let rest : length (pages_from (a + 1) k) ≤ k = pages_few (a + 1) k in
      elim (last_change a t.live) as (λ o. length (with_piece a k o) ≤ suc k) [
        | None ↦ omega (arith, rest)
        | Some c ↦ elim (stays settled c.turn) as (λ b. length (with_kept a k c.turn b) ≤ suc k) [
          | true ↦ omega (arith, rest)
          | false ↦ omega (arith, rest)
        ]
      ]

rise_outs : (last : ℕ) (os : List Out) → 0 < last → Runs last (out_numbers os) → rise_from out_rank (last + 1) os ≡ true
rise_outs last [] some runs = refl
rise_outs last (o ∷ os) some runs =
    let next : o.number ≡ last + 1 = ⊎_elim (λ (none : last ≡ 0). absurd (let no : ⊥ = omega arith in no)) (λ e. e) runs.0.1 in
    both (nat_le (last + 1) o.number) (rise_from out_rank (o.number + 1) os) (is_most (last + 1) o.number (omega (arith, next))) (rise_outs o.number os runs.0.0 runs.1)

rise_first : (os : List Out) → Runs 0 (out_numbers os) → rise_from out_rank 0 os ≡ true
rise_first [] runs = refl
rise_first (o ∷ os) runs = both (nat_le 0 o.number) (rise_from out_rank (o.number + 1) os) (is_most 0 o.number (omega arith)) (rise_outs o.number os runs.0.0 runs.1)

items_least : {A : Type 0} (spell : A → List ℕ) → ((x : A) → 1 ≤ length (spell x)) → (xs : List A) → length xs ≤ length (flat_map spell xs)
items_least spell least [] = omega arith
items_least spell least (x ∷ xs) = omega (arith, least x, items_least spell least xs, length-append (spell x) (flat_map spell xs))

base_longer : (b : Base) → (length b.messages ≤ length (base_bytes One b)) × (length b.outs ≤ length (base_bytes One b))
base_longer b =
    let ms : List ℕ = flat_map due b.messages in
    let os : List ℕ = flat_map out b.outs in
    let p : List ℕ = counted 2 page b.pages in
    let dues : length b.messages ≤ length ms = items_least due (λ m. omega (arith, due_long m)) b.messages in
    let outs : length b.outs ≤ length os = items_least out (λ o. omega (arith, out_long o)) b.outs in
    let one : length (base_bytes One b) ≡ length (counts b) + length (kept b) = length-append (counts b) (kept b) in
    let two : length (kept b) ≡ length (number 4 (length b.messages) ++ ms) + length ((number 4 (length b.outs) ++ os) ++ p) = length-append (number 4 (length b.messages) ++ ms) ((number 4 (length b.outs) ++ os) ++ p) in
    let three : length (number 4 (length b.messages) ++ ms) ≡ length (number 4 (length b.messages)) + length ms = length-append (number 4 (length b.messages)) ms in
    let four : length ((number 4 (length b.outs) ++ os) ++ p) ≡ length (number 4 (length b.outs) ++ os) + length p = length-append (number 4 (length b.outs) ++ os) p in
    let five : length (number 4 (length b.outs) ++ os) ≡ length (number 4 (length b.outs)) + length os = length-append (number 4 (length b.outs)) os in
    (omega (arith, dues, one, two, three), omega (arith, outs, one, two, four, five))

module _ (o : Owner) (eight : o.nodes ≤ 8) (most : o.pages ≤ 4096) (n : Numbers) (ms : List Due) (os : List Out) (is : Standing o n ms os) (acked : List ℕ) (emitted : ℕ) where
  groups_rise : (a k : ℕ) → a + k ≤ 8 → rise_from due_rank (a * 2 ^ 64) (flat_map (unacked_to acked ms) (range_with_len a k)) ≡ true
  groups_rise a zero le = refl
  groups_rise a (suc k) le =
      let to : AllTo a (unacked_to acked ms a) = group_to a acked ms in
      let runs : Runs 0 (map due_number (unacked_to acked ms a)) = subst (Runs 0) (ap (map due_number) (group_is acked ms a (omega arith))) (link_due o eight n ms os is acked emitted a (omega arith)).runs in
      rise_append due_rank (a * 2 ^ 64) ((a + 1) * 2 ^ 64) (unacked_to acked ms a) (flat_map (unacked_to acked ms) (range_with_len (a + 1) k)) (omega arith)
      (ranks_below a (unacked_to acked ms a) to (all_filter IsDue (is_due acked a) ms is.sends.dues))
      (rise_group a (unacked_to acked ms a) to runs)
      (groups_rise (a + 1) k (omega arith))

  pub next_fits : (t : TurnPages) (settled : ℕ) → length t.heap ≡ 256 * o.pages → (b : Base) → b ≡ record { stamp = n.stamp; consumed = n.consumed; sent = n.sent; outputs = n.outputs; messages = all_due acked ms; outs = outs_above emitted os; pages = map page_in (base_changes o.pages settled t) } → length (base_bytes One b) < 2 ^ 32 → IsBase One b
  next_fits t settled size b same short =
      let long = base_longer b in
      let messages : b.messages ≡ all_due acked ms = ap (λ (x : Base). x.messages) same in
      let outs : b.outs ≡ outs_above emitted os = ap (λ (x : Base). x.outs) same in
      let pages : b.pages ≡ map page_in (base_changes o.pages settled t) = ap (λ (x : Base). x.pages) same in
      let few : length (map page_in (base_changes o.pages settled t)) ≤ o.pages = pages_few t settled 0 o.pages in
      let within : AreWithin o.pages (map page_in (base_changes o.pages settled t)) = AreWithin-own o.pages t.heap size (map page_in (base_changes o.pages settled t)) (AreOwn-base o.pages settled t) in
      record {
        stamp = subst IsWord (sym (ap (λ (x : Base). x.stamp) same)) is.stamp;
        outputs = subst IsWord (sym (ap (λ (x : Base). x.outputs) same)) is.outs.word;
        counts = rw (ap (λ (x : Base). x.consumed) same, ap (λ (x : Base). x.sent) same) ((is.consumed_words, is.consumed_long), (is.sends.words, is.sends.long));
        kept = (
          (omega (arith, long.0, short), subst (AllByRecursion FitsDue) (sym messages) (dues_fit (all_due acked ms) (all_groups IsDue (unacked_to acked ms) (λ i. all_filter IsDue (is_due acked i) ms is.sends.dues) 0 8)).0),
          (omega (arith, long.1, short), subst (AllByRecursion FitsOut) (sym outs) (outs_fit (outs_above emitted os) (all_filter IsOut (λ (x : Out). nat_lt emitted x.number) os is.outs.each)).0),
          (omega (arith, ap length pages, few), subst (AllByRecursion IsPage) (sym pages) (are_pages o.pages (map page_in (base_changes o.pages settled t)) most within)),
        );
        rising = both (rise_from due_rank 0 b.messages && rise_from out_rank 0 b.outs) (rise_from page_rank 0 b.pages)
            (both (rise_from due_rank 0 b.messages) (rise_from out_rank 0 b.outs)
            (subst (λ (l : List Due). rise_from due_rank 0 l ≡ true) (sym messages) (groups_rise 0 8 (omega arith)))
            (subst (λ (l : List Out). rise_from out_rank 0 l ≡ true) (sym outs) (rise_first (outs_above emitted os) (outs_due o eight n ms os is acked emitted).runs)))
            (subst (λ (l : List Page). rise_from page_rank 0 l ≡ true) (sym pages) (pages_rise t settled 0 0 o.pages (omega arith)));
      }

-- ---- what it tells

abbrev pub is_waiting_at : List ℕ → Message → Bool
is_waiting_at acked m = nat_lt (slice_index acked m.to) m.number

module _ (node : ℕ) where
  sent_group : (i stamp : ℕ) (ss : List Sent) → map (message_sent node stamp) (filter (λ (s : Sent). s.to == i) ss) ≡ map (message_due node) (filter (goes_to i) (map (due_of stamp) ss))
  sent_group i stamp [] = refl
  sent_group i stamp (s ∷ ss) = elim (s.to == i) as (λ b. map (message_sent node stamp) (cond b (s ∷ filter (λ (s : Sent). s.to == i) ss) (filter (λ (s : Sent). s.to == i) ss)) ≡ map (message_due node) (cond b (due_of stamp s ∷ filter (goes_to i) (map (due_of stamp) ss)) (filter (goes_to i) (map (due_of stamp) ss)))) [
    | true ↦ ap (λ (l : List Message). message_sent node stamp s ∷ l) (sent_group i stamp ss)
    | false ↦ sent_group i stamp ss
  ]

  due_group-append : (i : ℕ) (ms ns : List Due) → map (message_due node) (filter (goes_to i) (ms ++ ns)) ≡ map (message_due node) (filter (goes_to i) ms) ++ map (message_due node) (filter (goes_to i) ns)
  due_group-append i ms ns = ap (map (message_due node)) (filter-append (goes_to i) ms ns) ∙ map-append (message_due node) (filter (goes_to i) ms) (filter (goes_to i) ns)

  sent_groups : (i : ℕ) (rs : List Record) → flat_map (sent_to node i) rs ≡ map (message_due node) (filter (goes_to i) (flat_map record_dues rs))
  sent_groups i [] = refl
  sent_groups i (r ∷ rs) =
      ap (λ (l : List Message). l ++ flat_map (sent_to node i) rs) (sent_group i r.stamp r.sends)
      ∙ ap (λ (l : List Message). map (message_due node) (filter (goes_to i) (record_dues r)) ++ l) (sent_groups i rs)
      ∙ sym (due_group-append i (record_dues r) (flat_map record_dues rs))

  messages_group : (base : Option Base) (rs : List Record) (i : ℕ) → messages_to node base rs i ≡ map (message_due node) (filter (goes_to i) (dues_in base rs))
  messages_group base rs i = ap (λ (l : List Message). due_to node i (base_messages base) ++ l) (sent_groups i rs) ∙ sym (due_group-append i (base_messages base) (flat_map record_dues rs))

  module _ (acked : List ℕ) where
    waiting_group : (i : ℕ) (ms : List Due) → filter (is_waiting_at acked) (map (message_due node) (filter (goes_to i) ms)) ≡ map (message_due node) (unacked_to acked ms i)
    waiting_group i [] = refl
    waiting_group i (m ∷ ms) = ⊎_elim
        (λ (same : m.to ≡ i).
        let one : eqb m.to i ≡ true = eq-eqb m.to i same in
        let two : nat_lt (slice_index acked m.to) m.number ≡ nat_lt (slice_index acked i) m.number = ap (λ (j : ℕ). nat_lt (slice_index acked j) m.number) same in
        rw (one, two) (elim (nat_lt (slice_index acked i) m.number) as (λ b. cond b (message_due node m ∷ filter (is_waiting_at acked) (map (message_due node) (filter (goes_to i) ms))) (filter (is_waiting_at acked) (map (message_due node) (filter (goes_to i) ms))) ≡ map (message_due node) (cond b (m ∷ filter (is_due acked i) ms) (filter (is_due acked i) ms))) [
          | true ↦ ap (λ (l : List Message). message_due node m ∷ l) (waiting_group i ms)
          | false ↦ waiting_group i ms
        ]))
        (λ (not : m.to ≡ i → ⊥). let one : eqb m.to i ≡ false = ne_eqb m.to i not in rw one (waiting_group i ms))
        (cases_eq m.to i)

    waiting_groups : (base : Option Base) (rs : List Record) (b : Base) → b.messages ≡ all_due acked (dues_in base rs) → (a k : ℕ) → a + k ≤ 8 → flat_map (messages_to node (Some b) []) (range_with_len a k) ≡ filter (is_waiting_at acked) (flat_map (messages_to node base rs) (range_with_len a k))
    waiting_groups base rs b same a zero le = refl
    waiting_groups base rs b same a (suc k) le =
        let here : messages_to node (Some b) [] a ≡ map (message_due node) (unacked_to acked (dues_in base rs) a) = append-nil (due_to node a b.messages) ∙ ap (λ (l : List Due). due_to node a l) same ∙ ap (map (message_due node)) (group_is acked (dues_in base rs) a (omega arith)) in
        let there : filter (is_waiting_at acked) (messages_to node base rs a) ≡ map (message_due node) (unacked_to acked (dues_in base rs) a) = ap (filter (is_waiting_at acked)) (messages_group base rs a) ∙ waiting_group a (dues_in base rs) in
        ap (λ (l : List Message). l ++ flat_map (messages_to node (Some b) []) (range_with_len (a + 1) k)) (here ∙ sym there)
        ∙ ap (λ (l : List Message). filter (is_waiting_at acked) (messages_to node base rs a) ++ l) (waiting_groups base rs b same (a + 1) k (omega arith))
        ∙ sym (filter-append (is_waiting_at acked) (messages_to node base rs a) (flat_map (messages_to node base rs) (range_with_len (a + 1) k)))

    pub messages_waiting : (base : Option Base) (rs : List Record) (b : Base) → b.messages ≡ all_due acked (dues_in base rs) → messages_in node (Some b) [] ≡ filter (is_waiting_at acked) (messages_in node base rs)
    messages_waiting base rs b same = waiting_groups base rs b same 0 8 (omega arith)
