-- Each step of a wire keeps its rule.
use Rattle.std.proofs.Common.{◌≡◌, ◌≢◌, ℕ, ◌+◌, ◌<◌, ◌==◌, true, List, [], ◌∷◌, ◌++◌, length, set, refl, sym, ap, subst, ◌∙◌, inl, inr, ⊎_elim, append_assoc, arith}
use Rattle.std.specs.Prelude.{slice_index_or}
use Rattle.std.proofs.lemmas.Bool.{cases_lt, eq-eqb, ne_eqb}
use Rattle.std.proofs.lemmas.List.{append-nil, length-append, get_or_append_left}
use Rattle.std.proofs.Math.Seq.{get_or-append_seam}
use Rattle.std.proofs.lemmas.List.Elements.{filter-append}
use mathlib.Core.Option.{Option, some, none, some-injective, some-ne-none}
use lib.ListN.{get_elem?}
use Rattle.crossbeam_queue.specs.Fifo.{Pushes, Pops, Forks, Merges, Learns}
use Rattle.crossbeam_queue.proofs.Lists.{at_set}
use Rattle.ken_model.specs.declared.messages.Message.{Message}
use Rattle.ken_packet.specs.Reading.{sender_in}
use Rattle.ken_wire.specs.declared.view.Sent.{Sent}
use Rattle.ken_wire.specs.declared.view.View.{View}
use Rattle.ken_net.specs.Puts.{MayPut}
use Rattle.ken_wire.specs.Views.{nothing, after_put, sending, taking, spent}
use Rattle.ken_wire.specs.Rule.{of, IsHonest, FitsSender, IsBack, FitsTaker, WireRule, Tells}
use Rattle.ken_wire.proofs.Senders.{packet_sender}
use Rattle.ken_wire.proofs.Lists.{Each, each_set, at_longer, seated, seated_here, seated_else}
use Rattle.ken_wire.proofs.Honest.{honest_put}

abbrev Puts : Type 0
Puts = ℕ → List (List ℕ)

abbrev Seat : Type 0
Seat = ℕ → Option ℕ

abbrev Takes : ℕ → Seat → Puts → List (List ℕ) → ℕ → View → Type 0
Takes taker seat puts heard end v = v.takes ≡ true → FitsTaker taker seat puts heard end v

of_added : (p : ℕ) (xs ys : List (List ℕ)) → of p (xs ++ ys) ≡ of p xs ++ of p ys
of_added p xs ys = filter-append (λ (bytes : List ℕ). sender_in bytes == p) xs ys

of_own : (p : ℕ) (bytes : List ℕ) → sender_in bytes ≡ p → of p (bytes ∷ []) ≡ bytes ∷ []
of_own p bytes e = rw (eq-eqb (sender_in bytes) p e) refl

of_other : (p : ℕ) (bytes : List ℕ) → sender_in bytes ≢ p → of p (bytes ∷ []) ≡ []
of_other p bytes e = rw (ne_eqb (sender_in bytes) p e) refl

-- a node with a seat isn't one without
apart : (seat : Seat) (p q end : ℕ) → seat p ≡ none → seat q ≡ some end → p ≢ q
apart seat p q end free taken same = some-ne-none end (sym taken ∙ ap seat (sym same) ∙ free)

-- two nodes with two seats are two
two : (seat : Seat) (p q i j : ℕ) → seat p ≡ some i → seat q ≡ some j → i ≢ j → p ≢ q
two seat p q i j a b away same = away (some-injective i j (sym a ∙ ap seat same ∙ b))

pub begins : WireRule [] (taking 0 [] [] ∷ [])
begins = record {
  taker = 0;
  seat = λ p. none;
  puts = λ p. [];
  heard = [];
  in_order = λ p. refl;
  senders = λ end v e. ⊎_elim (λ (x : get_elem? {A = View} [] end ≡ some v). absurd (some-ne-none v (sym x)))
      (λ (x : (end ≡ 0) × (taking 0 [] [] ≡ v)). subst (FitsSender (λ p. none) (λ p. []) end) x.1 (λ s. absurd cc)) (at_longer [] (taking 0 [] []) v end e);
  takers = λ end v e. ⊎_elim (λ (x : get_elem? {A = View} [] end ≡ some v). absurd (some-ne-none v (sym x)))
      (λ (x : (end ≡ 0) × (taking 0 [] [] ≡ v)). subst (Takes 0 (λ p. none) (λ p. []) [] end) x.1 (λ t. record {
        only = x.0;
        heard_all = refl;
        later = λ p le. (refl, refl);
        back = λ k lt. absurd (omega (arith, lt));
        few = omega arith;
      })) (at_longer [] (taking 0 [] []) v end e);
}

pub sends : (n end : ℕ) (v : View) (bytes : List ℕ) (to : ℕ) (sealed : List Message) (consumed : List (ℕ × ℕ)) → v.sends ≡ true → MayPut v.from to sealed consumed bytes
    → Pushes WireRule n end v bytes (λ w. w ≡ sending v.from (after_put sealed consumed bytes v.sent))
sends n end v bytes to sealed consumed is_end may queued views room h at =
    let w : View = sending v.from (after_put sealed consumed bytes v.sent) in
    let mine = h.senders end v at is_end in
    let from : sender_in bytes ≡ v.from = packet_sender bytes may.packet may.is ∙ may.of_node in
    let puts : Puts = λ p. h.puts p ++ of p (bytes ∷ []) in
    let own : puts v.from ≡ h.puts v.from ++ bytes ∷ [] = ap (λ (l : List (List ℕ)). h.puts v.from ++ l) (of_own v.from bytes from) in
    let other : (p : ℕ) → p ≢ v.from → puts p ≡ h.puts p = λ p away. ap (λ (l : List (List ℕ)). h.puts p ++ l) (of_other p bytes (λ e. away (sym e ∙ from))) ∙ append-nil (h.puts p) in (
      w,
      record {
        taker = h.taker;
        seat = h.seat;
        puts = puts;
        heard = h.heard;
        in_order = λ p. ap (of p) (sym (append_assoc h.heard queued (bytes ∷ []))) ∙ of_added p (h.heard ++ queued) (bytes ∷ []) ∙ ap (λ (l : List (List ℕ)). l ++ of p (bytes ∷ [])) (h.in_order p);
        senders = each_set (FitsSender h.seat puts) views end w
            (λ s. (mine.0, ap (λ (l : List (List ℕ)). l ++ bytes ∷ []) mine.1 ∙ sym own, honest_put v.from to sealed consumed bytes v.sent may mine.2))
            (λ j u away e s. let t = h.senders j u e s in (t.0, t.1 ∙ sym (other u.from (two h.seat u.from v.from j end t.0 mine.0 away)), t.2));
        takers = each_set (Takes h.taker h.seat puts h.heard) views end w (λ t. absurd cc)
            (λ j u away e takes. let t = h.takers j u e takes in record {
              only = t.only;
              heard_all = t.heard_all;
              later = λ p le. let l = t.later p le in (l.0, other p (apart h.seat p v.from end l.0 mine.0) ∙ l.1);
              back = λ k lt. let b = t.back k lt in record { none_left = b.none_left; put = b.put ∙ sym (other k (apart h.seat k v.from end b.none_left mine.0)); honest = b.honest };
              few = t.few;
            });
      },
      refl,
    )

pub takes : (end : ℕ) (v : View) → v.takes ≡ true → Pops WireRule end v (λ bytes w. w ≡ taking v.made (v.heard ++ bytes ∷ []) v.joined)
takes end v is_taker bytes queued views h at =
    let w : View = taking v.made (v.heard ++ bytes ∷ []) v.joined in
    let mine = h.takers end v at is_taker in (
      w,
      record {
        taker = h.taker;
        seat = h.seat;
        puts = h.puts;
        heard = h.heard ++ bytes ∷ [];
        in_order = λ p. ap (of p) (append_assoc h.heard (bytes ∷ []) queued) ∙ h.in_order p;
        senders = each_set (FitsSender h.seat h.puts) views end w (λ s. absurd cc) (λ j u away e. h.senders j u e);
        takers = each_set (Takes h.taker h.seat h.puts (h.heard ++ bytes ∷ [])) views end w
            (λ t. record { only = mine.only; heard_all = ap (λ (l : List (List ℕ)). l ++ bytes ∷ []) mine.heard_all; later = mine.later; back = mine.back; few = mine.few })
            (λ j u away e t. absurd (away ((h.takers j u e t).only ∙ sym mine.only)));
      },
      refl,
    )

pub forks : (end : ℕ) (v : View) → v.takes ≡ true → Forks WireRule end v (taking (v.made + 1) v.heard v.joined) (sending v.made nothing)
forks end v is_taker queued views h at =
    let l : View = taking (v.made + 1) v.heard v.joined in
    let r : View = sending v.made nothing in
    let vs : List View = set views end l in
    let mine = h.takers end v at is_taker in
    let free = mine.later v.made (omega arith) in
    let seat : Seat = seated v.made (some (length vs)) h.seat in
    let same : (p : ℕ) → p ≢ v.made → seat p ≡ h.seat p = seated_else v.made (some (length vs)) h.seat in
    let old_senders : Each (FitsSender seat h.puts) vs = each_set (FitsSender seat h.puts) views end l (λ s. absurd cc)
    (λ j u away e s. let t = h.senders j u e s in (same u.from (λ is. apart h.seat v.made u.from j free.0 t.0 (sym is)) ∙ t.0, t.1, t.2)) in
    let old_takers : Each (Takes h.taker seat h.puts h.heard) vs = each_set (Takes h.taker seat h.puts h.heard) views end l
    (λ t. record {
      only = mine.only;
      heard_all = mine.heard_all;
      later = λ p le. let t = mine.later p (omega (arith, le)) in (same p (λ is. absurd (omega (arith, le, is))) ∙ t.0, t.1);
      back = λ k lt. let b = mine.back k lt in record { none_left = same k (λ is. absurd (omega (arith, lt, is, mine.few))) ∙ b.none_left; put = b.put; honest = b.honest };
      few = omega (arith, mine.few);
    })
    (λ j u away e t. absurd (away ((h.takers j u e t).only ∙ sym mine.only))) in
    record {
      taker = h.taker;
      seat = seat;
      puts = h.puts;
      heard = h.heard;
      in_order = h.in_order;
      senders = λ j u e. ⊎_elim (λ (x : get_elem? vs j ≡ some u). old_senders j u x)
          (λ (x : (j ≡ length vs) × (r ≡ u)). subst (FitsSender seat h.puts j) x.1
          (λ s. (seated_here v.made (some (length vs)) h.seat ∙ ap some (sym x.0), sym free.1, λ b there. absurd (omega (arith, there.1))))) (at_longer vs r u j e);
      takers = λ j u e. ⊎_elim (λ (x : get_elem? vs j ≡ some u). old_takers j u x)
          (λ (x : (j ≡ length vs) × (r ≡ u)). subst (Takes h.taker seat h.puts h.heard j) x.1 (λ t. absurd cc)) (at_longer vs r u j e);
    }

-- what came back, with one more end
back_more : (seat : Seat) (puts : Puts) (node : ℕ) (joined : List Sent) (s : Sent) → node ≡ length joined → s.put ≡ puts node → IsHonest node s
    → ((k : ℕ) → k < length joined → IsBack seat puts k (slice_index_or joined k nothing))
    → (k : ℕ) → k < length (joined ++ s ∷ []) → IsBack (seated node none seat) puts k (slice_index_or (joined ++ s ∷ []) k nothing)
back_more seat puts node joined s is put honest back k lt =
    let seat2 : Seat = seated node none seat in
    elim (cases_lt k (length joined)) [
      | inl low ↦ let b = back k low in subst (IsBack seat2 puts k) (sym (get_or_append_left joined (s ∷ []) nothing k low)) (record {
        none_left = seated_else node none seat k (λ e. absurd (omega (arith, low, e, is))) ∙ b.none_left;
        put = b.put;
        honest = b.honest;
      })
      | inr high ↦
          let k_is : k ≡ length joined = omega (arith, lt, high, length-append joined (s ∷ [])) in
          let there : slice_index_or (joined ++ s ∷ []) k nothing ≡ s = ap (λ (i : ℕ). slice_index_or (joined ++ s ∷ []) i nothing) k_is ∙ get_or-append_seam joined s [] nothing in
          let last : IsBack seat2 puts node s = record { none_left = seated_here node none seat; put = put; honest = honest } in
          subst (IsBack seat2 puts k) (sym there) (subst (λ (i : ℕ). IsBack seat2 puts i s) (is ∙ sym k_is) last)
    ]

pub merges : (end : ℕ) (v : View) (other : ℕ) (u : View) → v.takes ≡ true → u.sends ≡ true → u.from ≡ length v.joined
    → Merges WireRule end v other u (taking v.made v.heard (v.joined ++ u.sent ∷ [])) spent
merges end v other u is_taker is_end next queued views h at away at_other =
    let both : View = taking v.made v.heard (v.joined ++ u.sent ∷ []) in
    let vs : List View = set views end both in
    let was : get_elem? views other ≡ some u = ⊎_elim (λ x. absurd (away x.0)) (λ x. x.1) (at_set views end other both u at_other) in
    let mine = h.takers end v at is_taker in
    let theirs = h.senders other u was is_end in
    let made : u.from < v.made = elim (cases_lt u.from v.made) [
      | inl lt ↦ lt
      | inr le ↦ absurd (apart h.seat u.from u.from other (mine.later u.from le).0 theirs.0 refl)
    ] in
    let seat : Seat = seated u.from none h.seat in
    let same : (p : ℕ) → p ≢ u.from → seat p ≡ h.seat p = seated_else u.from none h.seat in
    let now_senders : Each (λ j y. j ≢ other → FitsSender seat h.puts j y) vs = each_set (λ j y. j ≢ other → FitsSender seat h.puts j y) views end both (λ _ s. absurd cc)
    (λ j y _ e far s. let t = h.senders j y e s in (same y.from (two h.seat y.from u.from j other t.0 theirs.0 far) ∙ t.0, t.1, t.2)) in
    let now_takers : Each (Takes h.taker seat h.puts h.heard) vs = each_set (Takes h.taker seat h.puts h.heard) views end both
    (λ t. record {
      only = mine.only;
      heard_all = mine.heard_all;
      later = λ p le. let l = mine.later p le in (same p (λ e. absurd (omega (arith, le, made, e))) ∙ l.0, l.1);
      back = back_more h.seat h.puts u.from v.joined u.sent next theirs.1 theirs.2 mine.back;
      few = omega (arith, made, next, length-append v.joined (u.sent ∷ []));
    })
    (λ j y far e t. absurd (far ((h.takers j y e t).only ∙ sym mine.only))) in
    record {
      taker = h.taker;
      seat = seat;
      puts = h.puts;
      heard = h.heard;
      in_order = h.in_order;
      senders = each_set (FitsSender seat h.puts) vs other spent (λ s. absurd cc) (λ j y far e. now_senders j y e far);
      takers = each_set (Takes h.taker seat h.puts h.heard) vs other spent (λ t. absurd cc) (λ j y far e. now_takers j y e);
    }

pub learns : (end : ℕ) (v : View) → v.takes ≡ true → Learns WireRule end v (Tells v.made v.joined v.heard)
learns end v is_taker queued views h at =
    let mine = h.takers end v at is_taker in
    let order : (p : ℕ) → of p (v.heard ++ queued) ≡ h.puts p = λ p. ap (λ (l : List (List ℕ)). of p (l ++ queued)) mine.heard_all ∙ h.in_order p in
    record {
      in_order = λ k lt. order k ∙ sym (mine.back k lt).put;
      honest = λ k lt. (mine.back k lt).honest;
      nobody = λ p le. order p ∙ (mine.later p le).1;
    }
