-- What a turn sends, as messages with their numbers.
use Rattle.std.proofs.Common.{◌≡◌, ℕ, zero, suc, ◌+◌, ◌<◌, List, [], ◌∷◌, ◌++◌, map, filter, length, get_or, drop, slice_get, slice_set, slice_index, slice_index_or, Vec, Global, Some, Bool, true, false, ◌==◌, if◌then◌else◌, refl, sym, ap, ◌∙◌, subst, ⊎_elim, arith, eq-eqb, ne_eqb, append_assoc}
use Rattle.std.specs.List.{AllByRecursion}
use Rattle.std.proofs.lemmas.Bool.{cases_eq}
use Rattle.std.proofs.lemmas.List.{drop_more, map-set, get_or-map, length-map, get_or-set_same, get_or-set_other}
use Rattle.ken_model.specs.declared.messages.Message.{Message}
use Rattle.ken_model.specs.declared.messages.Send.{Send}
use Rattle.ken_model.specs.Network.{numbered}
use Rattle.ken_model.specs.Posted.{posted_after}
use Rattle.ken_model.proofs.Posting.{posted_after-cong, items_of}
use Rattle.ken_record.specs.declared.sent.Sent.{Sent}
use Rattle.ken_core.specs.Turns.{mail_of, sent_of}

-- the counts with one message more
count_more : (counts : List ℕ) (to : ℕ) → to < length counts → (w : ℕ) → slice_index (slice_set counts to (slice_index counts to + 1)) w ≡ (if w == to then slice_index counts w + 1 else slice_index counts w)
count_more counts to known w =
    ⊎_elim
    (λ (same : w ≡ to). subst (λ k. slice_index (slice_set counts to (slice_index counts to + 1)) k ≡ (if k == to then slice_index counts k + 1 else slice_index counts k)) (sym same)
    (get_or-set_same counts to (slice_index counts to + 1) 0 known ∙ ap (λ b. if b then slice_index counts to + 1 else slice_index counts to) (sym (eq-eqb to to refl))))
    (λ (other : w ≡ to → ⊥). get_or-set_other counts to w (slice_index counts to + 1) 0 other ∙ ap (λ b. if b then slice_index counts w + 1 else slice_index counts w) (sym (ne_eqb w to other)))
    (cases_eq w to)

pub posted_more : (v stamp : ℕ) (counts : List ℕ) (mails whole : List Message) (m : Message) (sends : List Send) (i : ℕ) (s : Send) → i < length sends → s ≡ get_or sends i s → s.to < length counts
    → m ≡ record { from = v; to = s.to; number = slice_index counts s.to + 1; stamp = stamp; bytes = s.bytes }
    → mails ++ posted_after v stamp (λ w. slice_index counts w) (drop i sends) ≡ whole
    → (mails ++ m ∷ []) ++ posted_after v stamp (λ w. slice_index (slice_set counts s.to (slice_index counts s.to + 1)) w) (drop (i + 1) sends) ≡ whole
posted_more v stamp counts mails whole m sends i s within is known one so =
    let here : drop i sends ≡ s ∷ drop (i + 1) sends = drop_more sends i s within ∙ ap (λ x. x ∷ drop (i + 1) sends) (sym is) in
    append_assoc mails (m ∷ []) (posted_after v stamp (λ w. slice_index (slice_set counts s.to (slice_index counts s.to + 1)) w) (drop (i + 1) sends))
    ∙ ap (λ x. mails ++ m ∷ x) (posted_after-cong v stamp (λ w. slice_index (slice_set counts s.to (slice_index counts s.to + 1)) w) (λ w. if w == s.to then slice_index counts w + 1 else slice_index counts w) (drop (i + 1) sends) (count_more counts s.to known))
    ∙ ap (λ x. mails ++ x ∷ posted_after v stamp (λ w. if w == s.to then slice_index counts w + 1 else slice_index counts w) (drop (i + 1) sends)) one
    ∙ ap (λ x. mails ++ posted_after v stamp (λ w. slice_index counts w) x) (sym here) ∙ so

pub count_at_most : (counts : List ℕ) (to left : ℕ) (bound : ℕ) → to < length counts → ((w : ℕ) → slice_index counts w + suc left < bound) → (w : ℕ) → slice_index (slice_set counts to (slice_index counts to + 1)) w + left < bound
count_at_most counts to left bound known room w =
    ⊎_elim
    (λ (same : w ≡ to). let at = subst (λ k. slice_index (slice_set counts to (slice_index counts to + 1)) k ≡ slice_index counts to + 1) (sym same) (get_or-set_same counts to (slice_index counts to + 1) 0 known) in let h = room to in omega arith)
    (λ (other : w ≡ to → ⊥). let at = get_or-set_other counts to w (slice_index counts to + 1) 0 other in let h = room w in omega arith)
    (cases_eq w to)

-- counts that are equal for the nodes of the run give equal numbers
pub posted_known : (v stamp n : ℕ) (c d : ℕ → ℕ) (ss : List Send) → AllByRecursion (λ (s : Send). s.to < n) ss → ((w : ℕ) → w < n → c w ≡ d w) → posted_after v stamp c ss ≡ posted_after v stamp d ss
posted_known v stamp n c d [] all same = refl
posted_known v stamp n c d (s ∷ ss) all same =
    let message : ℕ → Message = λ k. record { from = v; to = s.to; number = k + 1; stamp = stamp; bytes = s.bytes } in
    let rest = posted_known v stamp n (λ w. if w == s.to then c w + 1 else c w) (λ w. if w == s.to then d w + 1 else d w) ss all.1 (λ w within. ap (λ k. if w == s.to then k + 1 else k) (same w within)) in
    ap (λ k. message k ∷ posted_after v stamp (λ w. if w == s.to then c w + 1 else c w) ss) (same s.to all.0) ∙ ap (λ l. message (d s.to) ∷ l) rest

-- their receivers
pub posted_to_known : (v stamp n : ℕ) (c : ℕ → ℕ) (ss : List Send) → AllByRecursion (λ (s : Send). s.to < n) ss → AllByRecursion (λ (m : Message). m.to < n) (posted_after v stamp c ss)
posted_to_known v stamp n c [] all = tt
posted_to_known v stamp n c (s ∷ ss) all = (all.0, posted_to_known v stamp n (λ w. if w == s.to then c w + 1 else c w) ss all.1)

-- what its sender's turn keeps of them gives them back
pub mails_back : (v stamp w : ℕ) (c : ℕ → ℕ) (ss : List Send) → map (mail_of v stamp) (filter (λ (s : Sent). s.to == w) (map sent_of (posted_after v stamp c ss))) ≡ filter (λ (m : Message). m.to == w) (posted_after v stamp c ss)
mails_back v stamp w c [] = refl
mails_back v stamp w c (s ∷ ss) = one (s.to == w) _ _ (mails_back v stamp w (λ x. if x == s.to then c x + 1 else c x) ss)
  where
    message : Message
    message = record { from = v; to = s.to; number = c s.to + 1; stamp = stamp; bytes = s.bytes }

    one : (b : Bool) (sents : List Sent) (mails : List Message) → map (mail_of v stamp) sents ≡ mails → map (mail_of v stamp) (if b then sent_of message ∷ sents else sents) ≡ (if b then message ∷ mails else mails)
    one true sents mails e = ap (λ x. message ∷ x) e
    one false sents mails e = e

-- numbers go on from those before
pub numbered_at : (v w n stamp : ℕ) (ss : List Send) (k : ℕ) (m : Message) → slice_get (numbered v w n stamp ss) k ≡ Some m → m.number ≡ n + k + 1
numbered_at v w n stamp [] k m is = absurd cc
numbered_at v w n stamp (s ∷ ss) k m is =
    ⊎_elim
    (λ (same : s.to ≡ w). first k (λ j. numbered_at v w (n + 1) stamp ss j m) (rw (eq-eqb s.to w same) at is))
    (λ other. numbered_at v w n stamp ss k m (rw (ne_eqb s.to w other) at is))
    (cases_eq s.to w)
  where
    message : Message
    message = record { from = v; to = w; number = n + 1; stamp = stamp; bytes = s.bytes }

    first : (j : ℕ) → ((i : ℕ) → slice_get (numbered v w (n + 1) stamp ss) i ≡ Some m → m.number ≡ n + 1 + i + 1) → slice_get (message ∷ numbered v w (n + 1) stamp ss) j ≡ Some m → m.number ≡ n + j + 1
    first zero later e = let same : message ≡ m = cc in let number = ap (λ (x : Message). x.number) same in omega arith
    first (suc j) later e = let h = later j e in omega arith

-- one message more on the lists
pub post_more : (vs : List (Vec Message Global)) (at : ℕ) (m : Message) (old new : Vec Message Global) (rest : List Message) → m.to < length vs → at ≡ m.to → old ≡ get_or vs at old → new.items ≡ old.items ++ m ∷ [] → (w : ℕ)
    → slice_index_or (map items_of (slice_set vs at new)) w [] ++ filter (λ (x : Message). x.to == w) rest ≡ slice_index_or (map items_of vs) w [] ++ filter (λ (x : Message). x.to == w) (m ∷ rest)
post_more vs at m old new rest known there is pushed w =
    let lists : map items_of (slice_set vs at new) ≡ slice_set (map items_of vs) m.to (old.items ++ m ∷ []) = ap (λ k. map items_of (slice_set vs k new)) there ∙ map-set items_of vs m.to new ∙ ap (slice_set (map items_of vs) m.to) pushed in
    let was : slice_index_or (map items_of vs) m.to [] ≡ old.items = get_or-map items_of vs m.to old [] known ∙ ap items_of (sym (subst (λ k. old ≡ get_or vs k old) there is)) in
    let room : m.to < length (map items_of vs) = omega (arith, known, length-map vs items_of) in
    ap (λ ls. slice_index_or ls w [] ++ filter (λ (x : Message). x.to == w) rest) lists
    ∙ ⊎_elim
    (λ (same : m.to ≡ w). subst (λ k. slice_index_or (slice_set (map items_of vs) m.to (old.items ++ m ∷ [])) k [] ++ filter (λ (x : Message). x.to == k) rest ≡ slice_index_or (map items_of vs) k [] ++ filter (λ (x : Message). x.to == k) (m ∷ rest)) same
    (ap (λ x. x ++ filter (λ (x : Message). x.to == m.to) rest) (get_or-set_same (map items_of vs) m.to (old.items ++ m ∷ []) [] room)
    ∙ append_assoc old.items (m ∷ []) (filter (λ (x : Message). x.to == m.to) rest)
    ∙ ap (λ x. x ++ (m ∷ filter (λ (x : Message). x.to == m.to) rest)) (sym was)
    ∙ ap (λ b. slice_index_or (map items_of vs) m.to [] ++ (if b then m ∷ filter (λ (x : Message). x.to == m.to) rest else filter (λ (x : Message). x.to == m.to) rest)) (sym (eq-eqb m.to m.to refl))))
    (λ (other : m.to ≡ w → ⊥). ap (λ x. x ++ filter (λ (x : Message). x.to == w) rest) (get_or-set_other (map items_of vs) m.to w (old.items ++ m ∷ []) [] (λ e. other (sym e)))
    ∙ ap (λ b. slice_index_or (map items_of vs) w [] ++ (if b then m ∷ filter (λ (x : Message). x.to == w) rest else filter (λ (x : Message). x.to == w) rest)) (sym (ne_eqb m.to w other)))
    (cases_eq m.to w)
