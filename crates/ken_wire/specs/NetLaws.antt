-- What is put and given one after the other is put and given in one.
use Rattle.std.proofs.Common.{◌≡◌, ℕ, ◌<◌, ◌==◌, cond, List, [], ◌∷◌, ◌++◌, length, refl, sym, ap, subst, ◌∙◌, inl, inr, ⊎_elim, append_assoc}
use Rattle.std.specs.Prelude.{slice_index, slice_index_or}
use Rattle.std.proofs.lemmas.List.{append-nil}
use Rattle.ken_net.specs.Puts.{Put}
use Rattle.ken_net.specs.Counts.{risen, put_to}
use Rattle.ken_wire.specs.declared.view.Sent.{Sent}
use Rattle.ken_wire.specs.declared.send_end.SendEnd.{SendEnd}
use Rattle.ken_wire.specs.declared.take_end.TakeEnd.{TakeEnd}
use Rattle.ken_wire.specs.Views.{after_put}
use Rattle.ken_wire.specs.Ends.{sent_of, refused_by, heard_of}
use Rattle.ken_wire.specs.Nets.{Grew, EndGrew, EndsGrew, AreCounted, Heard}

grew_joins : (k : ℕ) (ps qs : List Put) (a : Sent) (n : ℕ) (b : Sent) (m : ℕ) (c : Sent) (l : ℕ) → Grew k ps a n b m → Grew k qs b m c l → Grew k (ps ++ qs) a n c l
grew_joins k [] qs a n b m c l first then = subst (λ (i : ℕ). Grew k qs a i c l) first.1 (subst (λ (s : Sent). Grew k qs s m c l) first.0 then)
grew_joins k (p ∷ ps) qs a n b m c l first then =
    let next : Sent = after_put p.sealed p.consumed p.bytes a in
    elim first [
      | inl other ↦ inl (other.0, grew_joins k ps qs a n b m c l other.1 then)
      | inr own ↦
          inr (
            own.0,
            ⊎_elim (λ (put : Grew k ps next n b m). inl (grew_joins k ps qs next n b m c l put then))
                (λ (back : Grew k ps a (risen n) b m). inr (grew_joins k ps qs a (risen n) b m c l back then)) own.1,
          )
    ]

end_joins : (k : ℕ) (ps qs : List Put) (a b c : SendEnd) → EndGrew k ps a b → EndGrew k qs b c → EndGrew k (ps ++ qs) a c
end_joins k ps qs a b c first then = (
  (then.0.0 ∙ first.0.0, then.0.1 ∙ first.0.1, then.0.2 ∙ first.0.2),
  grew_joins k ps qs (sent_of a) (refused_by a) (sent_of b) (refused_by b) (sent_of c) (refused_by c) first.1 then.1,
)

pub ends_still : (ends : List SendEnd) → EndsGrew ends ends []
ends_still ends = record { count = refl; each = λ k d low. ((refl, refl, refl), (refl, refl)) }

pub ends_join : (a b c : List SendEnd) (ps qs : List Put) → EndsGrew a b ps → EndsGrew b c qs → EndsGrew a c (ps ++ qs)
ends_join a b c ps qs first then = record {
  count = then.count ∙ first.count;
  each = λ k d low.
      end_joins k ps qs (slice_index_or a k d) (slice_index_or b k d) (slice_index_or c k d) (first.each k d low)
      (then.each k d (subst (λ (n : ℕ). k < n) (sym first.count) low));
}

put_to_append : (k : ℕ) (ps qs : List Put) (n : ℕ) → put_to k (ps ++ qs) n ≡ put_to k qs (put_to k ps n)
put_to_append k [] qs n = refl
put_to_append k (p ∷ ps) qs n = put_to_append k ps qs (cond (p.to == k) (risen n) n)

pub counts_join : (ends_a ends_b : List SendEnd) (a b c : List ℕ) (ps qs : List Put) → EndsGrew ends_a ends_b ps → AreCounted (length ends_a) a b ps → AreCounted (length ends_b) b c qs → AreCounted (length ends_a) a c (ps ++ qs)
counts_join ends_a ends_b a b c ps qs ends first then k low =
    then k (subst (λ (n : ℕ). k < n) (sym ends.count) low) ∙ ap (put_to k qs) (first k low) ∙ sym (put_to_append k ps qs (slice_index a k))

pub heard_still : (t : TakeEnd) → Heard t t []
heard_still t = record { end = ((refl, refl), refl, refl); more = sym (append-nil (heard_of t)) }

pub heard_joins : (a b c : TakeEnd) (xs ys : List (List ℕ)) → Heard a b xs → Heard b c ys → Heard a c (xs ++ ys)
heard_joins a b c xs ys first then = record {
  end = ((then.end.0.0 ∙ first.end.0.0, then.end.0.1 ∙ first.end.0.1), then.end.1 ∙ first.end.1, then.end.2 ∙ first.end.2);
  more = then.more ∙ ap (λ (l : List (List ℕ)). l ++ ys) first.more ∙ append_assoc (heard_of a) xs ys;
}
