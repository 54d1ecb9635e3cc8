-- What is passed on may be put, and what is kept is the node's own.
use Rattle.std.proofs.Common.{◌≡◌, ℕ, inl, inr, true, List, [], ◌∷◌, refl, sym, subst, arith}
use Rattle.std.specs.List.{All, Contains}
use Rattle.std.proofs.lemmas.List.Elements.{All-contains}
use Rattle.ken_packet.specs.Reading.{packet_of}
use Rattle.ken_net.specs.declared.link.Kept.{Kept}
use Rattle.ken_net.specs.Puts.{Put, MayBe, is_between}
use Rattle.ken_net.specs.Standings.{Leaving, KeepsOwn, link_to, are_between, after_puts, all_passed}
use Rattle.ken_net.specs.Origins.{WasThere}
use Rattle.ken_net.proofs.Both.{parts, both}
use Rattle.ken_net.proofs.Made.{may_between}
use Rattle.ken_net.proofs.MayPut.{alone_may}
use Rattle.ken_net.proofs.Origins.{first_in, later_in, in_front, comes_from, was_there}

one_between : (from to : ℕ) (ks : List Kept) (k : Kept) → are_between from to ks ≡ true → Contains ks k → is_between from to (packet_of k.bytes) ≡ true
one_between from to [] k all (i, low, is) = absurd (omega (arith, low))
one_between from to (x ∷ xs) k all there =
    let ends = parts (is_between from to (packet_of x.bytes)) (are_between from to xs) all in
    elim (in_front x xs k there) [
      | inl is ↦ subst (λ (y : Kept). is_between from to (packet_of y.bytes) ≡ true) is ends.0
      | inr on ↦ one_between from to xs k ends.1 on
    ]

all_between : (from to : ℕ) (ks : List Kept) → ((k : Kept) → Contains ks k → is_between from to (packet_of k.bytes) ≡ true) → are_between from to ks ≡ true
all_between from to [] each = refl
all_between from to (x ∷ xs) each =
    both (is_between from to (packet_of x.bytes)) (are_between from to xs) (each x (first_in x xs)) (all_between from to xs (λ k there. each k (later_in x xs k there)))

there_between : (l : Leaving) (puts : List Put) (v : ℕ) (bytes : List ℕ) → KeepsOwn l → All (MayBe l.from) puts → WasThere v bytes puts l.links → is_between l.from v (packet_of bytes) ≡ true
there_between l puts v bytes own may was = elim was [
  | inl (p, there, to, is) ↦
      subst (λ (b : List ℕ). is_between l.from v (packet_of b) ≡ true) is
      (subst (λ (u : ℕ). is_between l.from u (packet_of p.bytes) ≡ true) to (may_between (All-contains (MayBe l.from) puts p may there)))
  | inr (k, there, is) ↦ subst (λ (b : List ℕ). is_between l.from v (packet_of b) ≡ true) is (one_between l.from v (link_to v l.links).kept k (own v) there)
]

pub passes_honestly : (l : Leaving) (puts : List Put) (x : Put) → KeepsOwn l → All (MayBe l.from) puts → Contains (all_passed puts l.links) x → MayBe l.from x
passes_honestly l puts x own may there = elim (comes_from l.links puts x there) [
  | inl put ↦ All-contains (MayBe l.from) puts x may put
  | inr (itself, was) ↦ subst (MayBe l.from) (sym itself) (alone_may l.from x.to x.bytes (there_between l puts x.to x.bytes own may was))
]

pub keeps_honestly : (l : Leaving) (puts : List Put) → KeepsOwn l → All (MayBe l.from) puts → KeepsOwn (record l { links = after_puts puts l.links })
keeps_honestly l puts own may v =
    all_between l.from v (link_to v (after_puts puts l.links)).kept (λ k there. there_between l puts v k.bytes own may (was_there l.links puts v k.bytes (k, there, refl)))
