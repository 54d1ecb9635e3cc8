-- The messages of a log are mails of its node.
use Rattle.std.proofs.Common.{◌≡◌, ℕ, ◌<◌, ◌≤◌, List, [], ◌∷◌, Bool, true, false, ◌&&◌, nat_lt, nat_le, ◌==◌, ◌+◌, ◌^◌, if◌then◌else◌, sym, subst, refl, arith, Option, Some, None, Ok}
use Rattle.std.specs.Prelude.{replicate, filter, slice_index_or, slice_set}
use Rattle.std.specs.List.{All, AllByRecursion, flat_map, list_all, range_with_len}
use Rattle.std.proofs.lemmas.List.Concat.{flat_map-cons}
use Rattle.std.proofs.lemmas.List.Elements.{All-nil, All-append, All-filter, All-from_recursion, All-map, All-weaker}
use Rattle.ken_record.specs.declared.base.Base.{Base}
use Rattle.ken_record.specs.declared.due.Due.{Due}
use Rattle.ken_record.specs.declared.header.Header.{Header}
use Rattle.ken_record.specs.declared.record.Record.{Record}
use Rattle.ken_record.specs.declared.sent.Sent.{Sent}
use Rattle.ken_record.specs.Grammar.{IsDue, IsRecord, IsSent}
use Rattle.ken_record.specs.Versions.{One}
use Rattle.ken_log.specs.Layout.{IsHead}
use Rattle.ken_store.specs.declared.numbers.Numbers.{Numbers}
use Rattle.ken_store.specs.declared.owner.Owner.{Owner}
use Rattle.ken_store.specs.Bases.{base_numbers, base_stands, counts_stand, goes_on, is_short_due, is_short_out, messages_follow, messages_stand, outs_stand, texts_stand}
use Rattle.ken_store.specs.Kept.{base_messages, due_to, message_due, message_sent, messages_in, messages_to, sent_to}
use Rattle.ken_store.specs.Numbers.{are_within}
use Rattle.ken_store.specs.Recovered.{numbers_from, numbers_of}
use Rattle.ken_store.proofs.BaseStands.{and_true, less, short_dues}
use Rattle.ken_ship.specs.Fits.{IsMailFrom}

all-flat : {X A : Type 0} (P : A → Type 0) (f : X → List A) (xs : List X) → AllByRecursion (λ (x : X). All P (f x)) xs → All P (flat_map f xs)
all-flat P f [] all = All-nil P
all-flat P f (x ∷ xs) all = subst (All P) (sym (flat_map-cons f x xs)) (All-append P (f x) (flat_map f xs) all.0 (all-flat P f xs all.1))

each : {X : Type 0} (P : X → Type 0) (xs : List X) → ((x : X) → P x) → AllByRecursion P xs
each P [] holds = tt
each P (x ∷ xs) holds = (holds x, each P xs holds)

module _ (v : ℕ) (low : v < 8) where
  -- those of a base that stands
  dues : (nodes stamp : ℕ) (last : List ℕ) (ms : List Due) → nodes ≤ 8 → AllByRecursion IsDue ms → messages_follow nodes stamp last ms ≡ true → AllByRecursion (λ (m : Due). IsMailFrom v (message_due v m)) ms
  dues nodes stamp last [] few are follow = tt
  dues nodes stamp last (m ∷ ms) few are follow =
      let to_last = and_true (nat_lt m.to nodes && nat_lt 0 m.stamp && nat_le m.stamp stamp && goes_on (slice_index_or last m.to 0) m.number) (messages_follow nodes stamp (slice_set last m.to m.number) ms) follow in
      let to_next = and_true (nat_lt m.to nodes && nat_lt 0 m.stamp && nat_le m.stamp stamp) (goes_on (slice_index_or last m.to 0) m.number) to_last.0 in
      let to_stamp = and_true (nat_lt m.to nodes && nat_lt 0 m.stamp) (nat_le m.stamp stamp) to_next.0 in
      let ends = and_true (nat_lt m.to nodes) (nat_lt 0 m.stamp) to_stamp.0 in
      let next = and_true (nat_lt 0 m.number) _ to_next.1 in
      let to : m.to < nodes = less m.to nodes ends.0 in
      let stamped : 0 < m.stamp = less 0 m.stamp ends.1 in
      let numbered : 0 < m.number = less 0 m.number next.0 in
      let one = are.0 in (
        record { is = record { from = low; to = omega (arith, to, few); number = (numbered, one.number); stamp = (stamped, one.stamp); bytes = one.bytes }; from = refl },
        dues nodes stamp (slice_set last m.to m.number) ms few are.1 to_last.1,
      )

  -- and those of a record
  sends : (stamp : ℕ) (ss : List Sent) → 1 ≤ stamp → stamp < 2 ^ 64 → AllByRecursion IsSent ss → All (λ (s : Sent). IsMailFrom v (message_sent v stamp s)) ss
  sends stamp ss some high are =
      All-weaker IsSent (λ (s : Sent). IsMailFrom v (message_sent v stamp s))
      (λ s is. record { is = record { from = low; to = is.to; number = is.number; stamp = (some, high); bytes = is.bytes }; from = refl })
      ss (All-from_recursion IsSent ss are)

  record-mails : (to : ℕ) (rs : List Record) → AllByRecursion (IsRecord One) rs → AllByRecursion (λ (r : Record). All (IsMailFrom v) (sent_to v to r)) rs
  record-mails to [] are = tt
  record-mails to (r ∷ rs) are = (
    All-map (IsMailFrom v) (message_sent v r.stamp) (filter (λ (s : Sent). s.to == to) r.sends)
        (All-filter (λ (s : Sent). s.to == to) (λ (s : Sent). IsMailFrom v (message_sent v r.stamp s)) r.sends (sends r.stamp r.sends are.0.stamp.0 are.0.stamp.1 are.0.lists.1.1)),
    record-mails to rs are.1,
  )

  base-mails : (o : Owner) (head : Header) (base : Option Base) (records : List Record) (n : Numbers) → o.nodes ≤ 8 → IsHead head base → numbers_of o head base records ≡ Ok n → AllByRecursion (λ (m : Due). IsMailFrom v (message_due v m)) (base_messages base)
  base-mails o head None records n few is told = tt
  base-mails o head (Some b) records n few is told = one (base_stands o head b) refl told
    where
      one : (stands : Bool) → base_stands o head b ≡ stands → numbers_from o (32 + head.base_len) (if stands then Some (base_numbers head b) else None) records ≡ Ok n → AllByRecursion (λ (m : Due). IsMailFrom v (message_due v m)) b.messages
      one true e was =
          let to_texts = and_true (counts_stand o head b && are_within o.pages b.pages && messages_stand o.nodes b && outs_stand b.outputs b.outs) (texts_stand b) e in
          let short = and_true (list_all is_short_due b.messages) (list_all is_short_out b.outs) to_texts.1 in
          let to_outs = and_true (counts_stand o head b && are_within o.pages b.pages && messages_stand o.nodes b) (outs_stand b.outputs b.outs) to_texts.0 in
          let to_messages = and_true (counts_stand o head b && are_within o.pages b.pages) (messages_stand o.nodes b) to_outs.0 in
          let follow = and_true (messages_follow o.nodes b.stamp (replicate 8 0) b.messages) _ to_messages.1 in
          dues o.nodes b.stamp (replicate 8 0) b.messages few (short_dues b.messages is.has.1.kept.0.1 short.0) follow.0
      one false e was = absurd (let no : ⊥ = cc was in no)

  -- so of all messages of a log
  pub log-mails : (o : Owner) (head : Header) (base : Option Base) (records : List Record) (n : Numbers) → o.nodes ≤ 8 → IsHead head base → AllByRecursion (IsRecord One) records → numbers_of o head base records ≡ Ok n → All (IsMailFrom v) (messages_in v base records)
  log-mails o head base records n few is are told =
      let bases = All-from_recursion (λ (m : Due). IsMailFrom v (message_due v m)) (base_messages base) (base-mails o head base records n few is told) in
      all-flat (IsMailFrom v) (messages_to v base records) (range_with_len 0 8)
      (each (λ (to : ℕ). All (IsMailFrom v) (messages_to v base records to)) (range_with_len 0 8) (λ to.
      All-append (IsMailFrom v) (due_to v to (base_messages base)) (flat_map (sent_to v to) records)
      (All-map (IsMailFrom v) (message_due v) (filter (λ (m : Due). m.to == to) (base_messages base)) (All-filter (λ (m : Due). m.to == to) (λ (m : Due). IsMailFrom v (message_due v m)) (base_messages base) bases))
      (all-flat (IsMailFrom v) (sent_to v to) records (record-mails to records are))))
