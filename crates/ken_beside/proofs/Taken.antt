-- What was given to all steps of a worker, and to each.
use Rattle.std.proofs.Common.{◌≡◌, ℕ, List, [], ◌++◌, sym, subst}
use Rattle.std.proofs.lemmas.Grind.{flat_map-append}
use Rattle.std.proofs.lemmas.List.Elements.{Contains-append_left, Contains-append_right}
use Rattle.std.specs.List.{Contains}
use Rattle.ken_packet.specs.Reading.{packet_of}
use Rattle.ken_core.specs.Packets.{Packet}
use Rattle.ken_ship.specs.Laws.{packet_from, packets_from}
use Rattle.ken_weave.specs.Workers.{Steps, none, then}

pub packets-append : (nodes : ℕ) (xs ys : List (List ℕ)) → packets_from nodes (xs ++ ys) ≡ packets_from nodes xs ++ packets_from nodes ys
packets-append nodes xs ys = flat_map-append (λ (bytes : List ℕ). packet_from nodes (packet_of bytes)) xs ys

pub packets-left : (nodes : ℕ) (xs ys : List (List ℕ)) (p : Packet) → Contains (packets_from nodes xs) p → Contains (packets_from nodes (xs ++ ys)) p
packets-left nodes xs ys p there = subst (λ (ps : List Packet). Contains ps p) (sym (packets-append nodes xs ys)) (Contains-append_left (packets_from nodes xs) (packets_from nodes ys) p there)

pub packets-right : (nodes : ℕ) (xs ys : List (List ℕ)) (p : Packet) → Contains (packets_from nodes ys) p → Contains (packets_from nodes (xs ++ ys)) p
packets-right nodes xs ys p there = subst (λ (ps : List Packet). Contains ps p) (sym (packets-append nodes xs ys)) (Contains-append_right (packets_from nodes xs) (packets_from nodes ys) p there)

module _ {W : Type 0} (step : W → W → Type 0) (given : (a b : W) → step a b → List (List ℕ)) where
  -- all that steps were given, in order
  pub given-all : (a c : W) (cs : List W) → Steps step a cs c → List (List ℕ)
  given-all a c cs none = []
  given-all a c cs (then {b = b} {bs = bs} one rest) = given a b one ++ given-all b c bs rest

  -- which a network gave
  pub all-given : (gives : W → W → List (List ℕ) → Type 0) → ((a : W) → gives a a []) → ((a b c : W) (xs ys : List (List ℕ)) → gives a b xs → gives b c ys → gives a c (xs ++ ys)) → ((a b : W) → (one : step a b) → gives a b (given a b one))
      → (a c : W) (cs : List W) → (steps : Steps step a cs c) → gives a c (given-all a c cs steps)
  unfolding given-all
  all-given gives still joins some a c cs none = still a
  all-given gives still joins some a c cs (then {b = b} {bs = bs} one rest) = joins a b c (given a b one) (given-all b c bs rest) (some a b one) (all-given gives still joins some b c bs rest)

  module _ (nodes : ℕ) (takes : Packet → Type 0) where
    -- a step that was given only packets of this kind
    abbrev pub TookStep : W → W → Type 0
    TookStep a b = (one : step a b) × ((p : Packet) → Contains (packets_from nodes (given a b one)) p → takes p)

    pub took-all : (a c : W) (cs : List W) → (steps : Steps step a cs c) → ((p : Packet) → Contains (packets_from nodes (given-all a c cs steps)) p → takes p) → Steps TookStep a cs c
    unfolding given-all
    took-all a c cs none took = none
    took-all a c cs (then {b = b} {bs = bs} one rest) took =
        let now : List (List ℕ) = given a b one in
        let later : List (List ℕ) = given-all b c bs rest in
        then (one, λ p there. took p (packets-left nodes now later p there)) (took-all b c bs rest (λ p there. took p (packets-right nodes now later p there)))
