-- The packets that are kept have their turns, the oldest first.
use Rattle.std.proofs.Common.{◌≡◌, ◌∙◌, ℕ, ◌+◌, ◌-◌, ◌<◌, Bool, true, false, cond, nat_le, List, [], ◌∷◌, ◌++◌, length, get_or, take, drop, refl, sym, ap, subst, append_assoc}
use Rattle.std.specs.Prelude.{map}
use Rattle.std.proofs.lemmas.List.{take_more, drop_more, take-append-drop, map-append}
use Rattle.ken_packet.specs.Reading.{packet_of}
use Rattle.ken_net.specs.declared.link.Kept.{Kept}
use Rattle.ken_net.specs.Puts.{is_between, alone}
use Rattle.ken_net.specs.Standings.{due, still, are_between}
use Rattle.ken_net.proofs.Both.{parts, both}

abbrev no_kept : Kept
no_kept = record { wait = 0; bytes = [] }

-- ---- one after the other

later : {A : Type 0} (b : Bool) (x : A) (all front back : List A) → all ≡ front ++ back → cond b all (x ∷ all) ≡ cond b front (x ∷ front) ++ back
later {A = A} true x all front back e = e
later {A = A} false x all front back e = ap (λ (l : List A). x ∷ l) e

pub now : {A : Type 0} (b : Bool) (x : A) (all front back : List A) → all ≡ front ++ back → cond b (x ∷ all) all ≡ cond b (x ∷ front) front ++ back
now {A = A} true x all front back e = ap (λ (l : List A). x ∷ l) e
now {A = A} false x all front back e = e

pub still_append : (xs ys : List Kept) → still (xs ++ ys) ≡ still xs ++ still ys
still_append [] ys = refl
still_append (k ∷ ks) ys = later (nat_le k.wait 1) (record k { wait = k.wait - 1 }) (still (ks ++ ys)) (still ks) (still ys) (still_append ks ys)

pub due_append : (xs ys : List Kept) → due (xs ++ ys) ≡ due xs ++ due ys
due_append [] ys = refl
due_append (k ∷ ks) ys = now (nat_le k.wait 1) k.bytes (due (ks ++ ys)) (due ks) (due ys) (due_append ks ys)

-- ---- they stay packets of their link

module _ (from to : ℕ) where
  pub between_append : (xs ys : List Kept) → are_between from to xs ≡ true → are_between from to ys ≡ true → are_between from to (xs ++ ys) ≡ true
  between_append [] ys x y = y
  between_append (k ∷ ks) ys x y =
      let p = parts (is_between from to (packet_of k.bytes)) (are_between from to ks) x in
      both (is_between from to (packet_of k.bytes)) (are_between from to (ks ++ ys)) p.0 (between_append ks ys p.1 y)

  between_parts : (xs ys : List Kept) → are_between from to (xs ++ ys) ≡ true → (are_between from to xs ≡ true) × (are_between from to ys ≡ true)
  between_parts [] ys e = (refl, e)
  between_parts (k ∷ ks) ys e =
      let p = parts (is_between from to (packet_of k.bytes)) (are_between from to (ks ++ ys)) e in
      let q = between_parts ks ys p.1 in
      (both (is_between from to (packet_of k.bytes)) (are_between from to ks) p.0 q.0, q.1)

  either : (b : Bool) (x : Kept) (rest : List Kept) → is_between from to (packet_of x.bytes) ≡ true → are_between from to rest ≡ true → are_between from to (cond b rest (x ∷ rest)) ≡ true
  either true x rest here there = there
  either false x rest here there = both (is_between from to (packet_of x.bytes)) (are_between from to rest) here there

  pub between_still : (xs : List Kept) → are_between from to xs ≡ true → are_between from to (still xs) ≡ true
  between_still [] e = refl
  between_still (k ∷ ks) e =
      let p = parts (is_between from to (packet_of k.bytes)) (are_between from to ks) e in
      either (nat_le k.wait 1) (record k { wait = k.wait - 1 }) (still ks) p.0 (between_still ks p.1)

  -- after some have had their turn
  pub between_turned : (xs : List Kept) (i : ℕ) → are_between from to xs ≡ true → are_between from to (drop i xs ++ still (take i xs)) ≡ true
  between_turned xs i e =
      let p = between_parts (take i xs) (drop i xs) (subst (λ (l : List Kept). are_between from to l ≡ true) (sym (take-append-drop i xs)) e) in
      between_append (drop i xs) (still (take i xs)) p.1 (between_still (take i xs) p.0)

-- ---- one more turn

module _ (xs : List Kept) (i : ℕ) (low : i < length xs) where
  abbrev here : Kept
  here = get_or xs i no_kept

  abbrev turned : List Kept
  turned = drop i xs ++ still (take i xs)

  front : take 1 turned ≡ here ∷ []
  front = ap (λ (l : List Kept). take 1 (l ++ still (take i xs))) (drop_more xs i no_kept low)

  rest : drop 1 turned ≡ drop (i + 1) xs ++ still (take i xs)
  rest = ap (λ (l : List Kept). drop 1 (l ++ still (take i xs))) (drop_more xs i no_kept low)

  pub turns_keep : (old new : List Kept) → old ≡ turned → new ≡ drop 1 old ++ still (take 1 old) → new ≡ drop (i + 1) xs ++ still (take (i + 1) xs)
  turns_keep old new is e =
      e
      ∙ ap (λ (l : List Kept). drop 1 l ++ still (take 1 l)) is
      ∙ ap (λ (l : List Kept). l ++ still (take 1 turned)) rest
      ∙ append_assoc (drop (i + 1) xs) (still (take i xs)) (still (take 1 turned))
      ∙ ap (λ (l : List Kept). drop (i + 1) xs ++ (still (take i xs) ++ still l)) front
      ∙ ap (λ (l : List Kept). drop (i + 1) xs ++ l) (sym (still_append (take i xs) (here ∷ [])))
      ∙ ap (λ (l : List Kept). drop (i + 1) xs ++ still l) (sym (take_more xs i no_kept low))

  pub turns_pass : (to : ℕ) (old : List Kept) → old ≡ turned → map (alone to) (due (take (i + 1) xs)) ≡ map (alone to) (due (take i xs)) ++ map (alone to) (due (take 1 old))
  turns_pass to old is =
      ap (λ (l : List Kept). map (alone to) (due l)) (take_more xs i no_kept low)
      ∙ ap (map (alone to)) (due_append (take i xs) (here ∷ []))
      ∙ map-append (alone to) (due (take i xs)) (due (here ∷ []))
      ∙ ap (λ (l : List Kept). map (alone to) (due (take i xs)) ++ map (alone to) (due l)) (sym front ∙ ap (λ (l : List Kept). take 1 l) (sym is))
