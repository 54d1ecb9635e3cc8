-- What is handed in with puts, and puts that were brought into one list.
use Rattle.std.proofs.Common.{◌≡◌, ℕ, List, [], ◌∷◌, ⊎_elim, refl, sym, subst, arith, Contains}
use Rattle.std.specs.List.{AllByRecursion}
use Rattle.std.proofs.lemmas.List.Elements.{All-contains, All-from_recursion, Contains-append_cases, Contains-append_right}
use Rattle.ken_model.specs.declared.messages.Message.{Message}
use Rattle.ken_net.specs.Puts.{Put}
use Rattle.ken_core.specs.Packets.{Packet, Mail, Answer}
use Rattle.ken_core.specs.Packets as core
use Rattle.ken_core.specs.Runs.{IsPut}
use Rattle.ken_node.proofs.Again.{none-in, one-in}
use Rattle.ken_beside.specs.Puts.{PutsHandInThemselves, ShuffledAreAmong, none, first, second, put_of, puts_of}

-- ---- the elements of a list

module _ {A : Type 0} where
  pub at-head : (x : A) (xs : List A) → Contains (x ∷ xs) x
  at-head x xs = (0, omega arith, refl)

  pub in-tail : (x : A) (xs : List A) (y : A) → Contains xs y → Contains (x ∷ xs) y
  in-tail x xs y there = Contains-append_right (x ∷ []) xs y there

-- ---- what is handed in

record Stands (all : List core.Put) (p : Put) : Type 0 where
  mail : (m : Message) → Contains p.sealed m → IsPut (Mail m) all
  answer : (to through : ℕ) → Contains p.consumed (to, through) → (from : ℕ) × IsPut (Answer (record { from = from; to = to; through = through })) all

stands : (all : List core.Put) (q : core.Put) (packet : Packet) → q.packet ≡ packet → Contains all q → Stands all (put_of packet)
stands all q (Mail m) is there = record {
  mail = λ x inside. record { put = q; one = there; is = subst (λ (y : Message). q.packet ≡ Mail y) (one-in m x inside) is };
  answer = λ to through inside. absurd (none-in (to, through) inside);
}
stands all q (Answer a) is there = record {
  mail = λ x inside. absurd (none-in x inside);
  answer = λ to through inside.
      let same : (a.to, a.through) ≡ (to, through) = one-in (a.to, a.through) (to, through) inside in
      (a.from, record { put = q; one = there; is = subst (λ (x : ℕ × ℕ). q.packet ≡ Answer (record { from = a.from; to = x.0; through = x.1 })) same is });
}

all-stand : (all ps : List core.Put) → ((q : core.Put) → Contains ps q → Contains all q) → AllByRecursion (Stands all) (puts_of ps)
all-stand all [] among = tt
all-stand all (q ∷ ps) among = (stands all q q.packet refl (among q (at-head q ps)), all-stand all ps (λ x there. among x (in-tail q ps x there)))

pub puts_hand_in_themselves : PutsHandInThemselves
puts_hand_in_themselves ps =
    let each : (p : Put) → Contains (puts_of ps) p → Stands ps p = λ p there. All-contains (Stands ps) (puts_of ps) p (All-from_recursion (Stands ps) (puts_of ps) (all-stand ps ps (λ q inside. inside))) there in
    record { mail = λ p m there inside. (each p there).mail m inside; answer = λ p to through there inside. (each p there).answer to through inside }

-- ---- puts of two in one list

still-put : (x : core.Put) (xs : List core.Put) (packet : Packet) → IsPut packet xs → IsPut packet (x ∷ xs)
still-put x xs packet is = record { put = is.put; one = in-tail x xs is.put is.one; is = is.is }

-- the first, or one of the others
put-cases : (x : core.Put) (xs all : List core.Put) (packet : Packet) → (IsPut packet xs → IsPut packet all) → IsPut packet (x ∷ xs) → IsPut packet (x ∷ all)
put-cases x xs all packet later is =
    ⊎_elim
    (λ (here : Contains (x ∷ []) is.put). let same : x ≡ is.put = one-in x is.put here in record { put = x; one = at-head x all; is = subst (λ (p : core.Put). p.packet ≡ packet) (sym same) is.is })
    (λ (there : Contains xs is.put). still-put x all packet (later (record { put = is.put; one = there; is = is.is })))
    (Contains-append_cases (x ∷ []) xs is.put is.one)

pub shuffled_are_among : ShuffledAreAmong
shuffled_are_among _ _ _ none = record { left = λ packet is. is; right = λ packet is. is }
shuffled_are_among _ _ _ (first {x} {xs} {ys} {all} rest) =
    let so = shuffled_are_among xs ys all rest in
    record { left = λ packet is. put-cases x xs all packet (so.left packet) is; right = λ packet is. still-put x all packet (so.right packet is) }
shuffled_are_among _ _ _ (second {y} {xs} {ys} {all} rest) =
    let so = shuffled_are_among xs ys all rest in
    record { left = λ packet is. still-put y all packet (so.left packet is); right = λ packet is. put-cases y ys all packet (so.right packet) is }
