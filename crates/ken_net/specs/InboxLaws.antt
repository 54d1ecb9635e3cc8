-- What is put one after the other, and given one after the other, is so in one.
use Rattle.std.proofs.Common.{◌≡◌, ◌∙◌, ℕ, ◌<◌, ◌≤◌, ◌⊎◌, inl, inr, List, [], ◌∷◌, ◌++◌, slice_index_or, slice_set, refl, sym, ap, append_assoc, subst, arith}
use Rattle.ken_net.specs.Puts.{Put}
use Rattle.ken_net.specs.Inboxes.{filed, all_filed, Gave, Taking}

filed_append : (ps qs : List Put) (inboxes : List (List (List ℕ))) → all_filed qs (all_filed ps inboxes) ≡ all_filed (ps ++ qs) inboxes
filed_append [] qs inboxes = refl
filed_append (p ∷ ps) qs inboxes = filed_append ps qs (slice_set inboxes p.to (filed p.bytes (slice_index_or inboxes p.to [])))

pub filed_joins : (ps qs : List Put) (a b c : List (List (List ℕ))) → b ≡ all_filed ps a → c ≡ all_filed qs b → c ≡ all_filed (ps ++ qs) a
filed_joins ps qs a b c first then = then ∙ ap (all_filed qs) first ∙ filed_append ps qs a

pub gave_still : (node : ℕ) (a : List (List (List ℕ))) → Gave node a a []
gave_still node a = record { front = refl; others = λ v other. refl; count = refl }

pub gave_joins : (u v : ℕ) (a b c : List (List (List ℕ))) (ps qs : List (List ℕ)) → v ≡ u → Gave u a b ps → Gave v b c qs → Gave u a c (ps ++ qs)
gave_joins u v a b c ps qs same first then =
    let second : Gave u b c qs = subst (λ (n : ℕ). Gave n b c qs) same then in
    record {
      front = first.front ∙ ap (λ (x : List (List ℕ)). ps ++ x) second.front ∙ sym (append_assoc ps qs (slice_index_or c u []));
      others = λ w other. second.others w other ∙ first.others w other;
      count = second.count ∙ first.count;
    }

pub taking_still : (node nones : ℕ) (a : List (List (List ℕ))) → Taking node nones nones a a []
taking_still node nones a = record { gave = gave_still node a; counted = omega arith; emptied = λ less. absurd (omega arith) }

-- where nothing was there, nothing is left
none_left : (ps xs : List (List ℕ)) → ps ++ xs ≡ [] → xs ≡ []
none_left [] xs e = e
none_left (p ∷ ps) xs e = absurd (cc)

-- a count that has risen over two steps has risen in the first, and not in the second, or in the second
in_one : (n m k : ℕ) → n ≤ m → m ≤ k → n < k → ((n < m) × (m ≡ k)) ⊎ (m < k)
in_one n m k first then less = grind arith

pub taking_joins : (u v n m k : ℕ) (a b c : List (List (List ℕ))) (ps qs : List (List ℕ)) → v ≡ u → Taking u n m a b ps → Taking v m k b c qs → Taking u n k a c (ps ++ qs)
taking_joins u v n m k a b c ps qs same first then =
    let second : Taking u m k b c qs = subst (λ (x : ℕ). Taking x m k b c qs) same then in
    record {
      gave = gave_joins u u a b c ps qs refl first.gave second.gave;
      counted = omega (arith, first.counted, second.counted);
      emptied = λ less.
          elim (in_one n m k first.counted second.counted less) [
            | inl both ↦ none_left qs (slice_index_or c u []) (sym second.gave.front ∙ first.emptied both.0)
            | inr late ↦ second.emptied late
          ];
    }
