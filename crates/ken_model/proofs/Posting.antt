-- What a turn sends, as it is put at the end of its links one by one.
use Rattle.std.proofs.Common.{◌≡◌, ℕ, ◌+◌, ◌<◌, List, [], ◌∷◌, ◌++◌, length, map, slice_index_or, slice_set, true, false, ◌==◌, if◌then◌else◌, Vec, Global, refl, sym, ap, subst, ◌∙◌, ⊎_elim, append_assoc, eq-eqb, ne_eqb}
use Rattle.std.proofs.lemmas.Bool.{cases_eq}
use Rattle.std.proofs.lemmas.List.{length_push, map-set, get_or-map, get_or-set_same, get_or-set_other}
use Rattle.ken_model.specs.declared.messages.Message.{Message}
use Rattle.ken_model.specs.declared.messages.Send.{Send}
use Rattle.ken_model.specs.Network.{numbered}
use Rattle.ken_model.specs.Posted.{posted_after}
use Rattle.ken_model.specs.Posted.{count_at}

-- equal counts give equal numbers
pub posted_after-cong : (v stamp : ℕ) (c d : ℕ → ℕ) (ss : List Send) → ((w : ℕ) → c w ≡ d w) → posted_after v stamp c ss ≡ posted_after v stamp d ss
posted_after-cong v stamp c d [] same = refl
posted_after-cong v stamp c d (s ∷ ss) same =
    let message : ℕ → Message = λ k. record { from = v; to = s.to; number = k + 1; stamp = stamp; bytes = s.bytes } in
    let rest = posted_after-cong v stamp (λ w. if w == s.to then c w + 1 else c w) (λ w. if w == s.to then d w + 1 else d w) ss (λ w. ap (λ k. if w == s.to then k + 1 else k) (same w)) in
    ap (λ k. message k ∷ posted_after v stamp (λ w. if w == s.to then c w + 1 else c w) ss) (same s.to) ∙ ap (λ l. message (d s.to) ∷ l) rest

-- the message that a send becomes
abbrev pub message_of : ℕ → ℕ → List (List Message) → Send → Message
message_of v stamp lists s = record { from = v; to = s.to; number = count_at lists s.to + 1; stamp = stamp; bytes = s.bytes }

-- the lists with it
abbrev pub posted_to : ℕ → ℕ → List (List Message) → Send → List (List Message)
posted_to v stamp lists s = slice_set lists s.to (slice_index_or lists s.to [] ++ message_of v stamp lists s ∷ [])

posted_same : (v stamp : ℕ) (lists : List (List Message)) (s : Send) → s.to < length lists → slice_index_or (posted_to v stamp lists s) s.to [] ≡ slice_index_or lists s.to [] ++ message_of v stamp lists s ∷ []
posted_same v stamp lists s known = get_or-set_same lists s.to _ [] known

posted_other : (v stamp : ℕ) (lists : List (List Message)) (s : Send) (w : ℕ) → (s.to ≡ w → ⊥) → slice_index_or (posted_to v stamp lists s) w [] ≡ slice_index_or lists w []
posted_other v stamp lists s w ne = get_or-set_other lists s.to w _ [] (λ e. ne (sym e))

-- a link with what is still to be posted to it
abbrev pub with_rest : ℕ → ℕ → ℕ → List Send → List Message → List Message
with_rest v w stamp rest xs = xs ++ numbered v w (length xs) stamp rest

pub numbered_one : (v stamp : ℕ) (lists : List (List Message)) (s : Send) (rest : List Send) → s.to < length lists → (w : ℕ)
    → with_rest v w stamp rest (slice_index_or (posted_to v stamp lists s) w []) ≡ with_rest v w stamp (s ∷ rest) (slice_index_or lists w [])
numbered_one v stamp lists s rest known w =
    let xs = slice_index_or lists s.to [] in
    let here : with_rest v s.to stamp rest (slice_index_or (posted_to v stamp lists s) s.to []) ≡ with_rest v s.to stamp (s ∷ rest) (slice_index_or lists s.to []) =
    (let q : (s.to == s.to) ≡ true = eq-eqb s.to s.to refl in
    ap (with_rest v s.to stamp rest) (posted_same v stamp lists s known) ∙ rw (q, append_assoc, length_push) refl) in
    ⊎_elim
    (λ e. subst (λ k. with_rest v k stamp rest (slice_index_or (posted_to v stamp lists s) k []) ≡ with_rest v k stamp (s ∷ rest) (slice_index_or lists k [])) e here)
    (λ ne. let q : (s.to == w) ≡ false = ne_eqb s.to w ne in ap (with_rest v w stamp rest) (posted_other v stamp lists s w ne) ∙ rw q refl)
    (cases_eq s.to w)

count_one : (v stamp : ℕ) (lists : List (List Message)) (s : Send) → s.to < length lists → (w : ℕ) → count_at (posted_to v stamp lists s) w ≡ (if w == s.to then count_at lists w + 1 else count_at lists w)
count_one v stamp lists s known w =
    ⊎_elim
    (λ e. let q : (w == s.to) ≡ true = eq-eqb w s.to (sym e) in rw q (subst (λ k. count_at (posted_to v stamp lists s) k ≡ count_at lists k + 1) e (ap length (posted_same v stamp lists s known) ∙ length_push _ _)))
    (λ ne. let q : (w == s.to) ≡ false = ne_eqb w s.to (λ e. ne (sym e)) in rw q (ap length (posted_other v stamp lists s w ne)))
    (cases_eq s.to w)

-- a copy of a send
abbrev pub with_bytes : Send → List ℕ → Send
with_bytes s bytes = record { to = s.to; bytes = bytes }

pub posted_one : (v stamp : ℕ) (lists : List (List Message)) (s : Send) (copy : List ℕ) (rest : List Send) → s.to < length lists → (mail : List Message)
    → (mail ++ message_of v stamp lists (with_bytes s copy) ∷ []) ++ posted_after v stamp (count_at (posted_to v stamp lists s)) rest ≡ mail ++ posted_after v stamp (count_at lists) (with_bytes s copy ∷ rest)
posted_one v stamp lists s copy rest known mail =
    append_assoc mail (message_of v stamp lists (with_bytes s copy) ∷ []) _ ∙ ap (λ l. mail ++ message_of v stamp lists (with_bytes s copy) ∷ l) (posted_after-cong v stamp _ _ rest (count_one v stamp lists s known))

abbrev pub items_of : Vec Message Global → List Message
items_of v = v.items

-- the number that a vector's length gives is that of its list
number_at : (vs : List (Vec Message Global)) (i n : ℕ) (old : Vec Message Global) → i < length vs → old ≡ slice_index_or vs i old → n ≡ length old.items → n ≡ count_at (map items_of vs) i
number_at vs i n old known is long = long ∙ ap length (ap items_of is ∙ sym (get_or-map items_of vs i old [] known))

abbrev pub numbered_at : ℕ → ℕ → ℕ → Send → Message
numbered_at v stamp n s = record { from = v; to = s.to; number = n + 1; stamp = stamp; bytes = s.bytes }

pub message_at : (v stamp n : ℕ) (vs : List (Vec Message Global)) (old : Vec Message Global) (s : Send) → s.to < length vs → old ≡ slice_index_or vs s.to old → n ≡ length old.items → numbered_at v stamp n s ≡ message_of v stamp (map items_of vs) s
message_at v stamp n vs old s known is long = ap (λ k. numbered_at v stamp k s) (number_at vs s.to n old known is long)

-- what the lists of vectors are after a push
pub lists_pushed : (v stamp n : ℕ) (vs : List (Vec Message Global)) (old new : Vec Message Global) (s : Send) → s.to < length vs → old ≡ slice_index_or vs s.to old → n ≡ length old.items → new.items ≡ old.items ++ numbered_at v stamp n s ∷ []
    → map items_of (slice_set vs s.to new) ≡ posted_to v stamp (map items_of vs) s
lists_pushed v stamp n vs old new s known is long pushed =
    map-set items_of vs s.to new ∙ ap (λ l. slice_set (map items_of vs) s.to l) (pushed ∙ ap (λ m. old.items ++ m ∷ []) (message_at v stamp n vs old s known is long) ∙ ap (λ l. l ++ message_of v stamp (map items_of vs) s ∷ []) (ap items_of is ∙ sym (get_or-map items_of vs s.to old [] known)))
