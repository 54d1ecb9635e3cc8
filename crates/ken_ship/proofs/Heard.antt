-- Packets that are given one by one.
use Rattle.std.proofs.Common.{◌≡◌, ℕ, ◌+◌, ◌≤◌, ◌⊎◌, List, [], ◌∷◌, ◌++◌, length, refl, sym, ap, ◌∙◌, subst, append-nil, arith}
use Rattle.std.proofs.lemmas.List.{length_push}
use Rattle.std.proofs.lemmas.Grind.{flat_map-append}
use Rattle.ken_packet.specs.Reading.{packet_of}
use Rattle.ken_net.specs.Counts.{risen}
use Rattle.ken_outbox.specs.Waiting.{Unacked, Waiting}
use Rattle.ken_ship.specs.declared.hearing.TheConstants.{MOST_TAKEN}
use Rattle.ken_ship.specs.Taking.{ack_in, acks_in, after_acks, Heard}

pub after_acks-append : (xs bs : List (ℕ × ℕ)) (lines : List Unacked) → after_acks (xs ++ bs) lines ≡ after_acks bs (after_acks xs lines)
after_acks-append [] bs lines = refl
after_acks-append (a ∷ rest) bs lines = after_acks-append rest bs (after_acks (a ∷ []) lines)

acks_in-push : (v nodes : ℕ) (packets : List (List ℕ)) (bytes : List ℕ) → acks_in v nodes (packets ++ bytes ∷ []) ≡ acks_in v nodes packets ++ ack_in v nodes (packet_of bytes)
acks_in-push v nodes packets bytes =
    flat_map-append (λ (b : List ℕ). ack_in v nodes (packet_of b)) packets (bytes ∷ []) ∙ ap (λ (xs : List (ℕ × ℕ)). acks_in v nodes packets ++ xs) (append-nil (ack_in v nodes (packet_of bytes)))

-- so many were given so far
pub record HeardSoFar (v nodes count : ℕ) (gave : List (List ℕ) → Type 0) (old new : Waiting) : Type 0 where
  pub packets : List (List ℕ)
  pub given : gave packets
  pub counted : length packets ≡ count
  pub taken : new ≡ record old { lines = after_acks (acks_in v nodes packets) old.lines }

-- one more, which the node u, that is v, reads as b
pub heard_more : (v u nodes count : ℕ) (gave gave2 : List (List ℕ) → Type 0) (bytes b : List ℕ) (old mid new : Waiting) → HeardSoFar v nodes count gave old mid → ((packets : List (List ℕ)) → gave packets → gave2 (packets ++ bytes ∷ []))
    → u ≡ v → b ≡ bytes → new ≡ record mid { lines = after_acks (ack_in u nodes (packet_of b)) mid.lines } → HeardSoFar v nodes (count + 1) gave2 old new
heard_more v u nodes count gave gave2 bytes b old mid new so_far joins same equal took = record {
  packets = so_far.packets ++ bytes ∷ [];
  given = joins so_far.packets so_far.given;
  counted = length_push so_far.packets bytes ∙ ap (λ (n : ℕ). n + 1) so_far.counted;
  taken =
      let before : List (ℕ × ℕ) = acks_in v nodes so_far.packets in
      let last : List (ℕ × ℕ) = ack_in v nodes (packet_of bytes) in
      let whole : after_acks (acks_in v nodes (so_far.packets ++ bytes ∷ [])) old.lines ≡ after_acks last (after_acks before old.lines) = ap (λ (xs : List (ℕ × ℕ)). after_acks xs old.lines) (acks_in-push v nodes so_far.packets bytes) ∙ after_acks-append before last old.lines in
      took
      ∙ ap (λ (x : ℕ). record mid { lines = after_acks (ack_in x nodes (packet_of b)) mid.lines }) same
      ∙ ap (λ (xs : List ℕ). record mid { lines = after_acks (ack_in v nodes (packet_of xs)) mid.lines }) equal
      ∙ ap (λ (w : Waiting). record w { lines = after_acks last w.lines }) so_far.taken ∙ ap (λ (ls : List Unacked). record old { lines = ls }) (sym whole);
}

pub heard_until : (v nodes count nones nones2 : ℕ) (gave : List (List ℕ) → Type 0) (old new : Waiting) → HeardSoFar v nodes count gave old new → count ≤ MOST_TAKEN → (count ≡ MOST_TAKEN) ⊎ (risen nones ≤ nones2) → Heard v nodes gave nones nones2 old new
heard_until v nodes count nones nones2 gave old new so_far few until = record {
  packets = so_far.packets;
  given = so_far.given;
  most = omega (arith, few, so_far.counted);
  until = subst (λ (n : ℕ). (n ≡ MOST_TAKEN) ⊎ (risen nones ≤ nones2)) (sym so_far.counted) until;
  taken = so_far.taken;
}

pub heard_still : (v nodes count : ℕ) (gave gave2 : List (List ℕ) → Type 0) (old new : Waiting) → HeardSoFar v nodes count gave old new → ((packets : List (List ℕ)) → gave packets → gave2 packets) → HeardSoFar v nodes count gave2 old new
heard_still v nodes count gave gave2 old new so_far still = record { packets = so_far.packets; given = still so_far.packets so_far.given; counted = so_far.counted; taken = so_far.taken }
