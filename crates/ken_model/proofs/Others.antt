-- A text for each node but one, as one node more is looked at.
use Rattle.std.proofs.Common.{◌≡◌, ℕ, zero, suc, ◌+◌, ◌<◌, ◌≤◌, List, [], ◌∷◌, ◌++◌, map, filter, length, ◌==◌, not, true, false, if◌then◌else◌, sym, ap, subst, ◌∙◌, ⊎_elim, arith, append-nil, eq-eqb, ne_eqb}
use Rattle.std.specs.List.{range_with_len, AllByRecursion}
use Rattle.std.proofs.lemmas.Bool.{cases_eq}
use Rattle.std.proofs.lemmas.List.{length_push, map-append, map-id}
use Rattle.std.proofs.lemmas.List.FromFn.{map-range_with_len_more}
use Rattle.std.proofs.lemmas.List.Elements.{filter-append}
use Rattle.ken_model.specs.declared.messages.Send.{Send}
use Rattle.ken_model.specs.Kinds.{to_others}

-- what holds of all in a list and of one more
pub all-push : {A : Type 0} (P : A → Type 0) (xs : List A) (x : A) → AllByRecursion P xs → P x → AllByRecursion P (xs ++ x ∷ [])
all-push P [] x all p = (p, tt)
all-push P (y ∷ ys) x all p = (all.0, all-push P ys x all.1 p)

-- one node more
more_others : (node n : ℕ) (bytes : List ℕ) → to_others node (n + 1) bytes ≡ to_others node n bytes ++ map (λ v. record { to = v; bytes = bytes }) (filter (λ v. not (v == node)) (n ∷ []))
more_others node n bytes =
    let is_other : ℕ → _ = λ v. not (v == node) in
    let send : ℕ → Send = λ v. record { to = v; bytes = bytes } in
    let last : range_with_len 0 (n + 1) ≡ range_with_len 0 n ++ n ∷ [] = sym (map-id (range_with_len 0 (n + 1))) ∙ map-range_with_len_more (λ v. v) 0 n n (omega arith) ∙ ap (λ l. l ++ n ∷ []) (map-id (range_with_len 0 n)) in
    ap (λ l. map send (filter is_other l)) last ∙ ap (map send) (filter-append is_other (range_with_len 0 n) (n ∷ [])) ∙ map-append send (filter is_other (range_with_len 0 n)) (filter is_other (n ∷ []))

-- another node gets the text
pub to_others-other : (node n : ℕ) (bytes : List ℕ) → ((n ≡ node) → ⊥) → to_others node (n + 1) bytes ≡ to_others node n bytes ++ record { to = n; bytes = bytes } ∷ []
to_others-other node n bytes other =
    let q : (n == node) ≡ false = ne_eqb n node other in
    let send : ℕ → Send = λ v. record { to = v; bytes = bytes } in
    more_others node n bytes ∙ ap (λ b. to_others node n bytes ++ map send (if not b then n ∷ [] else [])) q

-- the node itself gets none
pub to_others-same : (node n : ℕ) (bytes : List ℕ) → n ≡ node → to_others node (n + 1) bytes ≡ to_others node n bytes
to_others-same node n bytes same =
    let q : (n == node) ≡ true = eq-eqb n node same in
    let send : ℕ → Send = λ v. record { to = v; bytes = bytes } in
    more_others node n bytes ∙ ap (λ b. to_others node n bytes ++ map send (if not b then n ∷ [] else [])) q ∙ append-nil (to_others node n bytes)

-- what holds of the text for each node holds of all that is sent
pub to_others-each : (P : Send → Type 0) (node n : ℕ) (bytes : List ℕ) → ((k : ℕ) → k < n → P (record { to = k; bytes = bytes })) → AllByRecursion P (to_others node n bytes)
to_others-each P node zero bytes each = tt
to_others-each P node (suc n) bytes each =
    let before = to_others-each P node n bytes (λ k less. each k (omega arith)) in
    let one : suc n ≡ n + 1 = omega arith in
    subst (λ k. AllByRecursion P (to_others node k bytes)) (sym one)
    (⊎_elim
    (λ same. subst (AllByRecursion P) (sym (to_others-same node n bytes same)) before)
    (λ other. subst (AllByRecursion P) (sym (to_others-other node n bytes other)) (all-push P (to_others node n bytes) _ before (each n (omega arith))))
    (cases_eq n node))

-- no more is sent than there are nodes
pub to_others-few : (node n : ℕ) (bytes : List ℕ) → length (to_others node n bytes) ≤ n
to_others-few node zero bytes = omega arith
to_others-few node (suc n) bytes =
    let before = to_others-few node n bytes in
    let one : suc n ≡ n + 1 = omega arith in
    subst (λ k. length (to_others node k bytes) ≤ k) (sym one)
    (⊎_elim
    (λ same. omega (arith, ap length (to_others-same node n bytes same)))
    (λ other. omega (arith, ap length (to_others-other node n bytes other), length_push (to_others node n bytes) (record { to = n; bytes = bytes })))
    (cases_eq n node))
