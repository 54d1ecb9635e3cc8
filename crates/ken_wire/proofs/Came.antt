-- What is heard was handed in with a put.
use Rattle.std.proofs.Common.{◌≡◌, ℕ, ◌<◌, Bool, true, false, cond, ◌==◌, List, [], ◌∷◌, ◌++◌, length, refl, subst, inl, inr, ⊎_elim, append_assoc}
use Rattle.std.specs.Prelude.{slice_index_or}
use Rattle.std.specs.List.{Contains}
use Rattle.std.proofs.lemmas.Bool.{eq-eqb}
use Rattle.std.proofs.lemmas.List.Elements.{Contains-append_left, Contains-append_right, Contains-append_cases}
use Rattle.ken_packet.specs.declared.packet.Packet.{Packet}
use Rattle.ken_packet.specs.declared.packet.Packet.TheVariants.{Mail, Ack}
use Rattle.ken_net.specs.Counts.{risen}
use Rattle.ken_net.specs.Puts.{Put, IsHandedIn, MayPut}
use Rattle.ken_wire.specs.declared.view.Sent.{Sent}
use Rattle.ken_wire.specs.Views.{nothing, after_put}
use Rattle.ken_wire.specs.Ends.{WasHandedIn}
use Rattle.ken_wire.specs.Nets.{Grew, handed_to, sealed_to, consumed_to}

module _ {X : Type 0} (has : Sent → List X) (of : Put → List X) (adds : (p : Put) (s : Sent) → has (after_put p.sealed p.consumed p.bytes s) ≡ has s ++ of p) where
  -- one more put, whatever node it is for
  skips : (t : Bool) (xs ys zs : List X) (x : X) → Contains (xs ++ zs) x → Contains (xs ++ cond t (ys ++ zs) zs) x
  skips true xs ys zs x c = ⊎_elim (λ l. Contains-append_left xs (ys ++ zs) x l) (λ r. Contains-append_right xs (ys ++ zs) x (Contains-append_right ys zs x r)) (Contains-append_cases xs zs x c)
  skips false xs ys zs x c = c

  -- what an end has was there before, or was handed in
  came : (k : ℕ) (ps : List Put) (a : Sent) (n : ℕ) (b : Sent) (m : ℕ) (x : X) → Grew k ps a n b m → Contains (has b) x → Contains (has a ++ handed_to of k ps) x
  came k [] a n b m x e c = Contains-append_left (has a) [] x (subst (λ (s : Sent). Contains (has s) x) e.0 c)
  came k (p ∷ ps) a n b m x grew c =
      let next : Sent = after_put p.sealed p.consumed p.bytes a in
      let skip : Contains (has a ++ handed_to of k ps) x → Contains (has a ++ handed_to of k (p ∷ ps)) x = skips (p.to == k) (has a) (of p) (handed_to of k ps) x in
      elim grew [
        | inl other ↦ skip (came k ps a n b m x other.1 c)
        | inr own ↦
            ⊎_elim (λ (put : Grew k ps next n b m).
            let there : Contains (has next ++ handed_to of k ps) x = came k ps next n b m x put c in
            let split : Contains ((has a ++ of p) ++ handed_to of k ps) x = subst (λ (l : List X). Contains (l ++ handed_to of k ps) x) (adds p a) there in
            let all : Contains (has a ++ (of p ++ handed_to of k ps)) x = subst (λ (l : List X). Contains l x) (append_assoc (has a) (of p) (handed_to of k ps)) split in
            rw (eq-eqb p.to k own.0) all)
            (λ (back : Grew k ps a (risen n) b m). skip (came k ps a (risen n) b m x back c)) own.1
      ]

pub handed : (k : ℕ) (ps : List Put) (s : Sent) (m : ℕ) (p : Packet) → Grew k ps nothing 0 s m → IsHandedIn s.sealed s.consumed p → IsHandedIn (sealed_to k ps) (consumed_to k ps) p
handed k ps s n (Mail m) grew c = came (λ (s : Sent). s.sealed) (λ (p : Put). p.sealed) (λ p s. refl) k ps nothing 0 s n m grew c
handed k ps s m (Ack from to n) grew c = (c.0, came (λ (s : Sent). s.consumed) (λ (p : Put). p.consumed) (λ p s. refl) k ps nothing 0 s m (to, c.0) grew c.1, c.2)

pub delivered : (to : ℕ) (sents : List Sent) (heard : List (List ℕ)) (puts : ℕ → List Put) (refused : ℕ → ℕ) → WasHandedIn to sents heard
    → ((k : ℕ) → k < length sents → Grew to (puts k) nothing 0 (slice_index_or sents k nothing) (refused k))
    → (bytes : List ℕ) → Contains heard bytes → (k : ℕ) × (k < length sents) × MayPut k to (sealed_to to (puts k)) (consumed_to to (puts k)) bytes
delivered to sents heard puts refused was grew bytes there =
    let by = was.by bytes there in
    let k = by.0 in
    let low = by.1 in
    let m = by.2 in
    (k, low, record { packet = m.packet; is = m.is; of_node = m.of_node; for_node = m.for_node; handed = handed to (puts k) (slice_index_or sents k nothing) (refused k) m.packet (grew k low) m.handed })
