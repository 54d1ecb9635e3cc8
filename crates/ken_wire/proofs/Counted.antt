-- Where an end's count of what it gave back stands, all was put.
use Rattle.std.proofs.Common.{◌≡◌, ℕ, ◌-◌, ◌^◌, ◌<◌, ◌≤◌, ◌==◌, false, List, [], ◌∷◌, ◌++◌, map, sym, ap, ◌∙◌, inl, inr, ⊎_elim, append_assoc, arith}
use Rattle.std.proofs.lemmas.Bool.{eq-eqb, ne_eqb}
use Rattle.std.proofs.lemmas.List.{append-nil}
use Rattle.ken_net.specs.Counts.{risen}
use Rattle.ken_net.specs.History.{puts_for}
use Rattle.ken_net.specs.Puts.{Put}
use Rattle.ken_wire.specs.declared.view.Sent.{Sent}
use Rattle.ken_wire.specs.Views.{after_put}
use Rattle.ken_wire.specs.Nets.{Grew}

abbrev last : ℕ
last = 2 ^ 64 - 1

risen_low : (n : ℕ) → n ≤ last → (n ≤ risen n) × (risen n ≤ last)
risen_low n le = grind arith

-- the count never falls
never_falls : (k : ℕ) (ps : List Put) (a : Sent) (n : ℕ) (b : Sent) (m : ℕ) → n ≤ last → Grew k ps a n b m → n ≤ m
never_falls k [] a n b m le grew = omega (arith, grew.1)
never_falls k (p ∷ ps) a n b m le grew =
    let next : Sent = after_put p.sealed p.consumed p.bytes a in
    let up = risen_low n le in
    elim grew [
      | inl other ↦ never_falls k ps a n b m le other.1
      | inr own ↦
          ⊎_elim (λ (put : Grew k ps next n b m). never_falls k ps next n b m le put)
          (λ (back : Grew k ps a (risen n) b m). let rest : risen n ≤ m = never_falls k ps a (risen n) b m up.1 back in omega (arith, up.0, rest)) own.1
    ]

rises : (n : ℕ) → n < last → n < risen n
rises n low = grind arith

-- all puts for the end's node were put
pub all_put : (k n : ℕ) (ps : List Put) (a b : Sent) → n < last → Grew k ps a n b n → b.put ≡ a.put ++ map (λ (p : Put). p.bytes) (puts_for k ps)
all_put k n [] a b low grew = ap (λ (s : Sent). s.put) grew.0 ∙ sym (append-nil a.put)
all_put k n (p ∷ ps) a b low grew =
    let next : Sent = after_put p.sealed p.consumed p.bytes a in
    elim grew [
      | inl other ↦
          let skip : (p.to == k) ≡ false = ne_eqb p.to k other.0 in
          rw skip (all_put k n ps a b low other.1)
      | inr own ↦
          ⊎_elim (λ (put : Grew k ps next n b n).
          let rest : b.put ≡ (a.put ++ p.bytes ∷ []) ++ map (λ (q : Put). q.bytes) (puts_for k ps) = all_put k n ps next b low put in
          rw (eq-eqb p.to k own.0) (rest ∙ append_assoc a.put (p.bytes ∷ []) (map (λ (q : Put). q.bytes) (puts_for k ps))))
          (λ (back : Grew k ps a (risen n) b n).
          let up : risen n ≤ last = (risen_low n (omega (arith, low))).1 in
          let less : risen n ≤ n = never_falls k ps a (risen n) b n up back in
          absurd (omega (arith, less, rises n low))) own.1
    ]
