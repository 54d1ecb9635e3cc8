-- Packets that a node's handler takes one by one.
use Rattle.std.proofs.Common.{◌≡◌, ℕ, ◌+◌, ◌<◌, ◌≤◌, ◌⊎◌, List, [], ◌∷◌, ◌++◌, length, refl, sym, ap, ◌∙◌, subst, append-nil, arith}
use Rattle.std.specs.Prelude.{Some, None}
use Rattle.std.proofs.lemmas.List.{length_push}
use Rattle.std.proofs.lemmas.Grind.{flat_map-append}
use Rattle.ken_model.specs.declared.messages.Message.{Message}
use Rattle.ken_packet.specs.Reading.{packet_of}
use Rattle.ken_net.specs.Counts.{risen}
use Rattle.ken_net.specs.Puts.{Put}
use Rattle.ken_order.specs.Consumed.{Consumed}
use Rattle.ken_ship.specs.declared.hearing.TheConstants.{MOST_TAKEN}
use Rattle.ken_work.specs.declared.hearing.Heard.{Heard}
use Rattle.ken_work.specs.declared.hearing.Heard.TheVariants.{Next}
use Rattle.ken_work.specs.Hearing.{ArePassed, IsPassed, Listened, StoppedListening, again_put, again_puts, heard}

-- what was heard of bytes that were read is what these are
pub heard_as : (v : ℕ) (c : Consumed) (bytes read : List ℕ) (h x : Heard) → read ≡ bytes → h ≡ heard v c (packet_of read) → h ≡ x → heard v c (packet_of bytes) ≡ x
heard_as v c bytes read h x same is as_is = ap (λ (b : List ℕ). heard v c (packet_of b)) (sym same) ∙ sym is ∙ as_is

-- so many were passed so far
pub record PassedSoFar (v : ℕ) (c : Consumed) (count : ℕ) (gave : List (List ℕ) → Type 0) (put : List Put → Type 0) : Type 0 where
  pub passed : List (List ℕ)
  pub given : gave passed
  pub counted : length passed ≡ count
  pub each : ArePassed v c passed
  pub acks : put (again_puts v c passed)

passed_push : (v : ℕ) (c : Consumed) (packets : List (List ℕ)) (bytes : List ℕ) → ArePassed v c packets → IsPassed (heard v c (packet_of bytes)) → ArePassed v c (packets ++ bytes ∷ [])
passed_push v c [] bytes each is = (is, tt)
passed_push v c (p ∷ ps) bytes each is = (each.0, passed_push v c ps bytes each.1 is)

again_puts-push : (v : ℕ) (c : Consumed) (packets : List (List ℕ)) (bytes : List ℕ) (h : Heard) → heard v c (packet_of bytes) ≡ h → again_puts v c (packets ++ bytes ∷ []) ≡ again_puts v c packets ++ again_put v c h
again_puts-push v c packets bytes h is =
    flat_map-append (λ (b : List ℕ). again_put v c (heard v c (packet_of b))) packets (bytes ∷ [])
    ∙ ap (λ (ps : List Put). again_puts v c packets ++ ps) (append-nil (again_put v c (heard v c (packet_of bytes))) ∙ ap (again_put v c) is)

module _ (v : ℕ) (c : Consumed) (count : ℕ) (gave gave2 : List (List ℕ) → Type 0) (put put2 : List Put → Type 0) (so_far : PassedSoFar v c count gave put) where
  -- one more, which is passed as h
  pub passed_more : (bytes : List ℕ) (h : Heard) → heard v c (packet_of bytes) ≡ h → IsPassed h → ((ps : List (List ℕ)) → gave ps → gave2 (ps ++ bytes ∷ [])) → ((ps : List Put) → put ps → put2 (ps ++ again_put v c h)) → PassedSoFar v c (count + 1) gave2 put2
  passed_more bytes h is passed gives puts = record {
    passed = so_far.passed ++ bytes ∷ [];
    given = gives so_far.passed so_far.given;
    counted = length_push so_far.passed bytes ∙ ap (λ (n : ℕ). n + 1) so_far.counted;
    each = passed_push v c so_far.passed bytes so_far.each (subst IsPassed (sym is) passed);
    acks = subst put2 (sym (again_puts-push v c so_far.passed bytes h is)) (puts (again_puts v c so_far.passed) so_far.acks);
  }

  -- one more, which is the next mail
  pub found_next : (nones nones2 : ℕ) (bytes : List ℕ) (m : Message) → heard v c (packet_of bytes) ≡ Next m → count < MOST_TAKEN → ((ps : List (List ℕ)) → gave ps → gave2 (ps ++ bytes ∷ [])) → ((ps : List Put) → put ps → put2 ps) → Listened v c gave2 put2 nones nones2 (Some m)
  found_next nones nones2 bytes m is few gives puts = record {
    passed = so_far.passed;
    last = bytes ∷ [];
    given = gives so_far.passed so_far.given;
    most = omega (arith, few, so_far.counted, length_push so_far.passed bytes);
    each = so_far.each;
    ends = (bytes, (refl, is));
    acks = puts (again_puts v c so_far.passed) so_far.acks;
  }

  -- one more, at which memory ran out: it was put at most what is put for those before
  pub stopped_at : (bytes : List ℕ) → count < MOST_TAKEN → ((ps : List (List ℕ)) → gave ps → gave2 (ps ++ bytes ∷ [])) → ((ps : List Put) → put ps → put2 ps) → StoppedListening v c gave2 put2
  stopped_at bytes few gives puts = record {
    packets = so_far.passed ++ bytes ∷ [];
    puts = again_puts v c so_far.passed;
    rest = again_put v c (heard v c (packet_of bytes));
    given = gives so_far.passed so_far.given;
    most = omega (arith, few, so_far.counted, length_push so_far.passed bytes);
    acks = puts (again_puts v c so_far.passed) so_far.acks;
    some = again_puts-push v c so_far.passed bytes (heard v c (packet_of bytes)) refl;
  }

  -- none more
  pub found_none : (nones nones2 : ℕ) → count ≤ MOST_TAKEN → (count ≡ MOST_TAKEN) ⊎ (risen nones ≤ nones2) → ((ps : List (List ℕ)) → gave ps → gave2 ps) → ((ps : List Put) → put ps → put2 ps) → Listened v c gave2 put2 nones nones2 None
  found_none nones nones2 few until gives puts = record {
    passed = so_far.passed;
    last = [];
    given = subst gave2 (sym (append-nil so_far.passed)) (gives so_far.passed so_far.given);
    most = subst (λ (ps : List (List ℕ)). length ps ≤ MOST_TAKEN) (sym (append-nil so_far.passed)) (omega (arith, few, so_far.counted));
    each = so_far.each;
    ends = (refl, subst (λ (n : ℕ). (n ≡ MOST_TAKEN) ⊎ (risen nones ≤ nones2)) (sym so_far.counted) until);
    acks = puts (again_puts v c so_far.passed) so_far.acks;
  }
