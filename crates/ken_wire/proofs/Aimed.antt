-- For which node packets are, and what a close tells.
use Rattle.std.proofs.Common.{◌≡◌, ℕ, zero, suc, ◌<◌, Bool, true, false, ◌&&◌, ◌==◌, List, [], ◌∷◌, ◌++◌, cond, length, Some, refl, sym, ap, subst, ◌∙◌, inl, inr, arith}
use Rattle.std.specs.Prelude.{slice_index_or}
use Rattle.std.specs.List.{Contains}
use Rattle.std.proofs.lemmas.Bool.{cases_lt, eq-eqb, eqb-true}
use Rattle.std.proofs.lemmas.List.Elements.{Contains-append_left}
use Rattle.ken_model.specs.declared.messages.Message.{Message}
use Rattle.ken_packet.specs.Reading.{packet_of, sender_in}
use Rattle.ken_net.specs.Puts.{receiver, MayPut}
use Rattle.ken_wire.specs.declared.view.Sent.{Sent}
use Rattle.ken_wire.specs.Views.{nothing}
use Rattle.ken_wire.specs.Rule.{of, IsHonest, Tells}
use Rattle.ken_wire.specs.Aims.{goes_to, all_go_to, all_sent_to}
use Rattle.ken_wire.specs.Ends.{PutsFor, Carried, WasHandedIn}

both : (a b : Bool) → a && b ≡ true → (a ≡ true) × (b ≡ true)
both true b e = (refl, e)
both false b e = absurd cc

both_true : (a b : Bool) → a ≡ true → b ≡ true → a && b ≡ true
both_true a b x y = rw (x, y) refl

added : (to : ℕ) (puts : List (List ℕ)) (bytes : List ℕ) → all_go_to to puts ≡ true → goes_to to (packet_of bytes) ≡ true → all_go_to to (puts ++ bytes ∷ []) ≡ true
added to [] bytes all new = both_true (goes_to to (packet_of bytes)) true new refl
added to (b ∷ bs) bytes all new = let p = both (goes_to to (packet_of b)) (all_go_to to bs) all in both_true (goes_to to (packet_of b)) (all_go_to to (bs ++ bytes ∷ [])) p.0 (added to bs bytes p.1 new)

go_at : (to : ℕ) (puts : List (List ℕ)) (bytes : List ℕ) (k : ℕ) → all_go_to to puts ≡ true → k < length puts → slice_index_or puts k bytes ≡ bytes → goes_to to (packet_of bytes) ≡ true
go_at to [] bytes k all lt e = absurd (omega (arith, lt))
go_at to (b ∷ bs) bytes zero all lt e = subst (λ (x : List ℕ). goes_to to (packet_of x) ≡ true) e (both (goes_to to (packet_of b)) (all_go_to to bs) all).0
go_at to (b ∷ bs) bytes (suc k) all lt e = go_at to bs bytes k (both (goes_to to (packet_of b)) (all_go_to to bs) all).1 (omega (arith, lt)) e

pub sent_added : (to : ℕ) (joined : List Sent) (s : Sent) → all_sent_to to joined ≡ true → all_go_to to s.put ≡ true → all_sent_to to (joined ++ s ∷ []) ≡ true
sent_added to [] s all new = both_true (all_go_to to s.put) true new refl
sent_added to (j ∷ js) s all new = let p = both (all_go_to to j.put) (all_sent_to to js) all in both_true (all_go_to to j.put) (all_sent_to to (js ++ s ∷ [])) p.0 (sent_added to js s p.1 new)

sent_at : (to : ℕ) (joined : List Sent) (k : ℕ) → all_sent_to to joined ≡ true → k < length joined → all_go_to to (slice_index_or joined k nothing).put ≡ true
sent_at to [] k all lt = absurd (omega (arith, lt))
sent_at to (j ∷ js) zero all lt = (both (all_go_to to j.put) (all_sent_to to js) all).0
sent_at to (j ∷ js) (suc k) all lt = sent_at to js k (both (all_go_to to j.put) (all_sent_to to js) all).1 (omega (arith, lt))

-- a packet that a node may put for another is one for that node
pub put_goes : (from to : ℕ) (sealed : List Message) (consumed : List (ℕ × ℕ)) (bytes : List ℕ) (puts : List (List ℕ)) → MayPut from to sealed consumed bytes → all_go_to to puts ≡ true → all_go_to to (puts ++ bytes ∷ []) ≡ true
put_goes from to sealed consumed bytes puts may all =
    let goes : goes_to to (packet_of bytes) ≡ true = rw may.is (eq-eqb (receiver may.packet) to may.for_node) in
    added to puts bytes all goes

-- an honest node whose puts are all for one node puts for it
puts_for : (from to : ℕ) (s : Sent) → IsHonest from s → all_go_to to s.put ≡ true → PutsFor from to s
puts_for from to s honest all bytes there =
    let m = honest bytes there in
    let goes : goes_to to (packet_of bytes) ≡ true = go_at to s.put bytes there.0 all there.1 there.2 in
    let here : goes_to to (Some m.1.packet) ≡ true = ap (goes_to to) (sym m.1.is) ∙ goes in
    record { packet = m.1.packet; is = m.1.is; of_node = m.1.of_node; for_node = eqb-true (receiver m.1.packet) to here; handed = m.1.handed }

-- what the close tells
pub carries : (to made : ℕ) (joined : List Sent) (heard lost : List (List ℕ)) → length joined ≡ made → all_sent_to to joined ≡ true → Tells made joined heard lost → Carried to joined heard
carries to made joined heard lost whole all t = record {
  lost = lost;
  in_order = t.in_order;
  honest = λ k lt. puts_for k to (slice_index_or joined k nothing) (t.honest k lt) (sent_at to joined k all lt);
  nobody = λ k le. t.nobody k (omega (arith, le, whole));
}

kept : (t : Bool) (x b : List ℕ) (ys : List (List ℕ)) → Contains ys b → Contains (cond t (x ∷ ys) ys) b
kept true x b ys c = (suc c.0, omega (arith, c.1), c.2)
kept false x b ys c = c

-- a packet stands among those of its sender
of_its_own : (xs : List (List ℕ)) (b : List ℕ) (k : ℕ) → k < length xs → slice_index_or xs k b ≡ b → Contains (of (sender_in b) xs) b
of_its_own [] b k lt e = absurd (omega (arith, lt))
of_its_own (x ∷ xs) b zero lt e =
    let own : (sender_in x == sender_in b) ≡ true = eq-eqb (sender_in x) (sender_in b) (ap sender_in e) in
    rw own (0, omega arith, e)
of_its_own (x ∷ xs) b (suc k) lt e = kept (sender_in x == sender_in b) x b (of (sender_in b) xs) (of_its_own xs b k (omega (arith, lt)) e)

nothing_there : (b : List ℕ) → Contains {X = List ℕ} [] b → ⊥
nothing_there b c = omega (arith, c.1)

pub was_handed_in : (to : ℕ) (sents : List Sent) (heard : List (List ℕ)) → Carried to sents heard → WasHandedIn to sents heard
was_handed_in to sents heard c = record {
  by = λ bytes there.
      let k : ℕ = sender_in bytes in
      let all = Contains-append_left heard c.lost bytes there in
      let own : Contains (of k (heard ++ c.lost)) bytes = of_its_own (heard ++ c.lost) bytes all.0 all.1 all.2 in
      elim (cases_lt k (length sents)) [
        | inl lt ↦ (k, lt, c.honest k lt bytes (subst (λ (l : List (List ℕ)). Contains l bytes) (c.in_order k lt) own))
        | inr le ↦ absurd (nothing_there bytes (subst (λ (l : List (List ℕ)). Contains l bytes) (c.nobody k le) own))
      ];
}
