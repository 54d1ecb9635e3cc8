-- Messages put behind those to their nodes, one after the other.
use Rattle.std.proofs.Common.{◌≡◌, ℕ, zero, suc, ◌+◌, ◌<◌, List, [], ◌∷◌, ◌++◌, length, Bool, true, false, cond, ◌==◌, nat_lt, get_or, slice_set, slice_index_or, refl, sym, ap, subst, ◌∙◌, ⊎_elim, append_assoc, arith, eq-eqb, ne_eqb}
use Rattle.std.specs.Prelude.{◌≢◌, map}
use Rattle.std.specs.VecDeque.{deque_len, deque_capacity}
use Rattle.std.proofs.lemmas.Bool.{cases_eq}
use Rattle.std.proofs.lemmas.List.{append-nil, length-set, get_or-set_same, get_or-set_other, get_or-map, map-set, length-map}
use Rattle.std.proofs.Math.Seq.{map-set_same}
use Rattle.ken_model.specs.declared.messages.Message.{Message}
use Rattle.ken_outbox.specs.declared.line.Line.{Line}
use Rattle.ken_outbox.specs.Waiting.{Unacked, no_line, sent_to, with_sends, past, acked_by, AreFor}
use Rattle.ken_outbox.specs.Lines.{shown, HasRoom, HaveRoom}

-- a message behind those of a line
abbrev pub pushed : Message → Unacked → Unacked
pushed m l = record l { messages = l.messages ++ m ∷ [] }

sent_here : (v : ℕ) (m : Message) (rest : List Message) → m.to ≡ v → sent_to v (m ∷ rest) ≡ m ∷ sent_to v rest
sent_here v m rest e = let q : (m.to == v) ≡ true = eq-eqb m.to v e in rw q refl

sent_else : (v : ℕ) (m : Message) (rest : List Message) → (m.to ≡ v → ⊥) → sent_to v (m ∷ rest) ≡ sent_to v rest
sent_else v m rest ne = let q : (m.to == v) ≡ false = ne_eqb m.to v ne in rw q refl

-- the lines of two equal heads and two equal rests
both_lines : (l : Unacked) (a b : List Message) (s t : List Unacked) → a ≡ b → s ≡ t → ◌≡◌ {A = List Unacked} (record l { messages = a } ∷ s) (record l { messages = b } ∷ t)
both_lines l a b s t e f = ap (λ (x : List Message). record l { messages = x } ∷ s) e ∙ ap (λ (x : List Unacked). record l { messages = b } ∷ x) f

skips : (v : ℕ) (ls : List Unacked) (m : Message) (rest : List Message) → m.to < v → with_sends v ls rest ≡ with_sends v ls (m ∷ rest)
unfolding with_sends
skips v [] m rest below = refl
skips v (l ∷ ls) m rest below =
    both_lines l (l.messages ++ sent_to v rest) (l.messages ++ sent_to v (m ∷ rest)) (with_sends (v + 1) ls rest) (with_sends (v + 1) ls (m ∷ rest))
    (ap (λ (t : List Message). l.messages ++ t) (sym (sent_else v m rest (λ e. omega (arith, e, below)))))
    (skips (v + 1) ls m rest (omega (arith, below)))

one_push : (v : ℕ) (ls : List Unacked) (i : ℕ) (m : Message) (rest : List Message) → m.to ≡ v + i → i < length ls
    → with_sends v (slice_set ls i (pushed m (get_or ls i no_line))) rest ≡ with_sends v ls (m ∷ rest)
unfolding with_sends
one_push v [] i m rest at low = absurd (omega (arith, low))
one_push v (l ∷ ls) zero m rest at low =
    both_lines l ((l.messages ++ m ∷ []) ++ sent_to v rest) (l.messages ++ sent_to v (m ∷ rest)) (with_sends (v + 1) ls rest) (with_sends (v + 1) ls (m ∷ rest))
    (append_assoc l.messages (m ∷ []) (sent_to v rest) ∙ ap (λ (t : List Message). l.messages ++ t) (sym (sent_here v m rest (omega (arith, at)))))
    (skips (v + 1) ls m rest (omega (arith, at)))
one_push v (l ∷ ls) (suc i) m rest at low =
    both_lines l (l.messages ++ sent_to v rest) (l.messages ++ sent_to v (m ∷ rest)) (with_sends (v + 1) (slice_set ls i (pushed m (get_or ls i no_line))) rest) (with_sends (v + 1) ls (m ∷ rest))
    (ap (λ (t : List Message). l.messages ++ t) (sym (sent_else v m rest (λ e. omega (arith, e, at)))))
    (one_push (v + 1) ls i m rest (omega (arith, at)) (omega (arith, low)))

shows_pushed : (new line : Line) (m : Message) → new.acked ≡ line.acked → new.messages.items ≡ line.messages.items ++ m ∷ [] → shown new ≡ pushed m (shown line)
shows_pushed new line m a b = rw (a, b) refl

pub shows_same : (new line : Line) → new.acked ≡ line.acked → new.messages.items ≡ line.messages.items → shown new ≡ shown line
shows_same new line a b = rw (a, b) refl

-- one message is pushed on the line of its node
pub pushes : (lines : List Line) (i : ℕ) (d new : Line) (m : Message) (rest : List Message) (whole : List Unacked) → i ≡ m.to → i < length lines
    → new.acked ≡ (slice_index_or lines i d).acked → new.messages.items ≡ (slice_index_or lines i d).messages.items ++ m ∷ []
    → with_sends 0 (map shown lines) (m ∷ rest) ≡ whole → with_sends 0 (map shown (slice_set lines i new)) rest ≡ whole
pushes lines i d new m rest whole to low a b so_far =
    let at : get_or (map shown lines) i no_line ≡ shown (get_or lines i d) = get_or-map shown lines i d no_line low in
    let made : shown new ≡ pushed m (get_or (map shown lines) i no_line) = shows_pushed new (get_or lines i d) m a b ∙ ap (pushed m) (sym at) in
    let long : length (map shown lines) ≡ length lines = length-map lines shown in
    ap (λ (t : List Unacked). with_sends 0 t rest) (map-set shown lines i new ∙ ap (λ (y : Unacked). slice_set (map shown lines) i y) made)
    ∙ one_push 0 (map shown lines) i m rest (omega (arith, to)) (omega (arith, long, low)) ∙ so_far

pub still_for : (lines : List Line) (i : ℕ) (new : Line) (m : Message) (rest : List Message) → AreFor (length lines) (m ∷ rest) → AreFor (length (slice_set lines i new)) rest
still_for lines i new m rest known = subst (λ (k : ℕ). AreFor k rest) (sym (length-set lines i new)) known.1

pub is_for : (nodes : ℕ) (sends : List Message) (i : ℕ) (m : Message) → AreFor nodes sends → i < length sends → (slice_index_or sends i m).to < nodes
is_for nodes [] i m known less = absurd (omega (arith, less))
is_for nodes (x ∷ xs) zero m known less = known.0
is_for nodes (x ∷ xs) (suc i) m known less = is_for nodes xs i m known.1 (omega (arith, less))

-- a line after another was replaced
read_else : (lines : List Line) (i v : ℕ) (new d : Line) → i < length lines → (P : Line → Type 0) → P new → (v ≢ i → P (get_or lines v d)) → P (get_or (slice_set lines i new) v d)
read_else lines i v new d low P has had =
    ⊎_elim
    (λ e. let here : get_or (slice_set lines i new) v d ≡ new = ap (λ (k : ℕ). get_or (slice_set lines i new) k d) e ∙ get_or-set_same lines i new d low in
    subst P (sym here) has)
    (λ ne. subst P (sym (get_or-set_other lines i v new d ne)) (had ne))
    (cases_eq v i)

-- the lines have room for the messages behind one that was pushed
pub rooms : (lines : List Line) (i before after : ℕ) (old new : Line) (m : Message) (rest : List Message) → i < length lines → i ≡ m.to → before ≡ after + 1
    → (deque_len new.messages ≡ deque_len (slice_index_or lines i old).messages + 1) × (deque_capacity new.messages ≡ deque_capacity (slice_index_or lines i old).messages)
    → HaveRoom before (m ∷ rest) lines → HaveRoom after rest (slice_set lines i new)
rooms lines i before after old new m rest low at more grown room k d l less =
    let first : HasRoom before (get_or lines m.to old) = room 0 d old (omega arith) in
    let had : HasRoom before (get_or lines i old) = subst (λ (u : ℕ). HasRoom before (get_or lines u old)) (sym at) first in
    let next : HasRoom before (get_or lines (slice_index_or rest k d).to l) = room (suc k) d l (omega (arith, less)) in
    let has : HasRoom after new = omega (arith, had, grown.0, grown.1, more) in
    let still : HasRoom after (get_or lines (slice_index_or rest k d).to l) = omega (arith, next, more) in
    read_else lines i (slice_index_or rest k d).to new l low (HasRoom after) has (λ ne. still)

-- one more message has room on its line
pub more_room : (lines : List Line) (sends : List Message) (i t more : ℕ) (new : Line) → t < length lines → ((m : Message) → i < length sends → t ≡ (slice_index_or sends i m).to) → i < length sends → HasRoom more new
    → ((k : ℕ) (m : Message) (d : Line) → k < i → HasRoom more (slice_index_or lines (slice_index_or sends k m).to d))
    → (k : ℕ) (m : Message) (d : Line) → k < i + 1 → HasRoom more (slice_index_or (slice_set lines t new) (slice_index_or sends k m).to d)
more_room lines sends i t more new low at within has room k m d less =
    read_else lines t (slice_index_or sends k m).to new d low (HasRoom more) has
    (λ ne. room k m d
    (⊎_elim
    (λ e. absurd (ne (ap (λ (j : ℕ). (slice_index_or sends j m).to) e ∙ sym (at m within))))
    (λ other. omega (arith, less, other))
    (cases_eq k i)))

pub same_lines : (lines : List Line) (i : ℕ) (d new : Line) (whole : List Unacked) → new.acked ≡ (slice_index_or lines i d).acked → new.messages.items ≡ (slice_index_or lines i d).messages.items
    → map shown lines ≡ whole → map shown (slice_set lines i new) ≡ whole
same_lines lines i d new whole a b so_far = map-set_same shown lines i new d (shows_same new (get_or lines i d) a b) ∙ so_far

either : (b : Bool) (x y : ℕ) (s t : List Message) → ◌≡◌ {A = Unacked} (record { acked = cond b x y; messages = cond b s t }) (cond b (record { acked = x; messages = s }) (record { acked = y; messages = t }))
either true x y s t = refl
either false x y s t = refl

shows_acked : (new old : Line) (through : ℕ) → new.acked ≡ cond (nat_lt old.acked through) through old.acked
    → new.messages.items ≡ cond (nat_lt old.acked through) (past through old.messages.items) old.messages.items → shown new ≡ acked_by through (shown old)
shows_acked new old through a b =
    let parts : shown new ≡ record { acked = cond (nat_lt old.acked through) through old.acked; messages = cond (nat_lt old.acked through) (past through old.messages.items) old.messages.items } = rw (a, b) refl in
    parts ∙ either (nat_lt old.acked through) through old.acked (past through old.messages.items) old.messages.items

-- a number is acknowledged on the line of its node
pub acks : (lines : List Line) (i : ℕ) (old new : Line) (through : ℕ) → i < length lines → old ≡ slice_index_or lines i old
    → new.acked ≡ cond (nat_lt old.acked through) through old.acked
    → new.messages.items ≡ cond (nat_lt old.acked through) (past through old.messages.items) old.messages.items
    → map shown (slice_set lines i new) ≡ slice_set (map shown lines) i (acked_by through (slice_index_or (map shown lines) i no_line))
acks lines i old new through low is a b =
    let at : get_or (map shown lines) i no_line ≡ shown old = get_or-map shown lines i old no_line low ∙ ap shown (sym is) in
    let made : shown new ≡ acked_by through (get_or (map shown lines) i no_line) = shows_acked new old through a b ∙ ap (acked_by through) (sym at) in
    map-set shown lines i new ∙ ap (λ (y : Unacked). slice_set (map shown lines) i y) made

pub no_sends : (v : ℕ) (ls : List Unacked) → with_sends v ls [] ≡ ls
unfolding with_sends
no_sends v [] = refl
no_sends v (l ∷ ls) = both_lines l (l.messages ++ []) l.messages (with_sends (v + 1) ls []) ls (append-nil l.messages) (no_sends (v + 1) ls)

pub sends_length : (v : ℕ) (ls : List Unacked) (sends : List Message) → length (with_sends v ls sends) ≡ length ls
unfolding with_sends
sends_length v [] sends = refl
sends_length v (l ∷ ls) sends = let rest = sends_length (v + 1) ls sends in omega (arith, rest)
