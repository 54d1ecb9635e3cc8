-- Messages that are put one by one.
use Rattle.std.proofs.Common.{◌≡◌, ℕ, zero, suc, ◌+◌, ◌-◌, ◌<◌, ◌≤◌, List, [], ◌∷◌, ◌++◌, map, take, drop, slice_get, Some, Ok, Err, sym, ap, ◌∙◌, subst, append_assoc, append-nil, arith, zero-add, add-zero}
use Rattle.std.specs.List.{flat_map, range_with_len}
use Rattle.std.proofs.lemmas.Grind.{flat_map-append}
use Rattle.std.proofs.lemmas.List.{map-append, map-id, take_more, take-take, take-append-drop}
use Rattle.std.proofs.lemmas.List.FromFn.{map-range_with_len_more}
use Rattle.std.proofs.lemmas.Option.{slice_get_within, get_or_from_slice_get}
use Rattle.ken_model.specs.declared.messages.Message.{Message}
use Rattle.ken_net.specs.Puts.{Put}
use Rattle.ken_outbox.specs.Waiting.{Unacked}
use Rattle.ken_ship.specs.declared.sending.TheConstants.{MOST_DUE}
use Rattle.ken_ship.specs.Sending.{mail_put, due_to, all_due, SentDue}

range_more : (n : ℕ) → range_with_len 0 (n + 1) ≡ range_with_len 0 n ++ n ∷ []
range_more n = sym (map-id (range_with_len 0 (n + 1))) ∙ map-range_with_len_more (λ (x : ℕ). x) 0 n n (zero-add n) ∙ ap (λ (xs : List ℕ). xs ++ n ∷ []) (map-id (range_with_len 0 n))

pub ranges_more : {X : Type 0} (f : ℕ → List X) (n : ℕ) → flat_map f (range_with_len 0 (n + 1)) ≡ flat_map f (range_with_len 0 n) ++ f n
ranges_more {X} f n = ap (flat_map f) (range_more n) ∙ flat_map-append f (range_with_len 0 n) (n ∷ []) ∙ ap (λ (xs : List X). flat_map f (range_with_len 0 n) ++ xs) (append-nil (f n))

-- what is due to the nodes below u is a front of what is due to all
suc_plus : (b n : ℕ) → suc b + n ≡ suc (b + n)
suc_plus b n = omega arith

suc_left : (a b : ℕ) → a + 1 + b ≡ a + suc b
suc_left a b = omega arith

range_split : (a b n : ℕ) → range_with_len a (b + n) ≡ range_with_len a b ++ range_with_len (a + b) n
range_split a zero n = ap (λ (k : ℕ). range_with_len a k) (zero-add n) ∙ ap (λ (k : ℕ). range_with_len k n) (sym (add-zero a))
range_split a (suc b) n =
    ap (λ (k : ℕ). range_with_len a k) (suc_plus b n)
    ∙ ap (λ (xs : List ℕ). a ∷ xs) (range_split (a + 1) b n ∙ ap (λ (k : ℕ). range_with_len (a + 1) b ++ range_with_len k n) (suc_left a b))

pub due_parts : (lines : List Unacked) (u n : ℕ) → u ≤ n → (rest : List Message) × (all_due n lines ≡ all_due u lines ++ rest)
due_parts lines u n low =
    let whole : n ≡ u + (n - u) = omega arith in
    (flat_map (due_to lines) (range_with_len (0 + u) (n - u)), ap (λ (k : ℕ). flat_map (due_to lines) (range_with_len 0 k)) whole ∙ ap (flat_map (due_to lines)) (range_split 0 u (n - u)) ∙ flat_map-append (due_to lines) (range_with_len 0 u) (range_with_len (0 + u) (n - u)))

module _ {S : Type 0} (put : S → S → List Put → Type 0) (joins : (a b c : S) (ps qs : List Put) → put a b ps → put b c qs → put a c (ps ++ qs)) where
  -- one message more
  pub one_sent : (a b c : S) (ms : List Message) (i : ℕ) (m : Message) → slice_get ms i ≡ Some m → put a b (map mail_put (take i ms)) → put b c (mail_put m ∷ []) → put a c (map mail_put (take (i + 1) ms))
  one_sent a b c ms i m at before then =
      let whole : map mail_put (take (i + 1) ms) ≡ map mail_put (take i ms) ++ mail_put m ∷ [] =
      ap (map mail_put) (take_more ms i m (slice_get_within ms i m at) ∙ ap (λ (x : Message). take i ms ++ x ∷ []) (get_or_from_slice_get ms i m m at)) ∙ map-append mail_put (take i ms) (m ∷ []) in
      subst (put a c) (sym whole) (joins a b c (map mail_put (take i ms)) (mail_put m ∷ []) before then)

  -- nothing more, after an error
  pub stopped : {T E : Type 0} → (e : E) (a b c : S) (ms : List Message) (i : ℕ) → i ≤ MOST_DUE → put a b (map mail_put (take i ms)) → put b c [] → SentDue {T = T} {E = E} (Err e) (put a c) (take MOST_DUE ms)
  stopped e a b c ms i few before then = record {
    puts = map mail_put (take i ms);
    were_put = subst (put a c) (append-nil (map mail_put (take i ms))) (joins a b c (map mail_put (take i ms)) [] before then);
    are =
        let due : List Message = take MOST_DUE ms in
        (map mail_put (drop i due), ap (map mail_put) (sym (take-append-drop i due)) ∙ map-append mail_put (take i due) (drop i due) ∙ ap (λ (xs : List Message). map mail_put xs ++ map mail_put (drop i due)) (take-take i MOST_DUE ms few));
  }

  -- one node more
  pub node_sent : {T E : Type 0} → (x : T) (a b c : S) (lines : List Unacked) (u : ℕ) → put a b (map mail_put (all_due u lines)) → SentDue {T = T} {E = E} (Ok x) (put b c) (due_to lines u) → put a c (map mail_put (all_due (u + 1) lines))
  node_sent x a b c lines u before sent =
      let whole : map mail_put (all_due (u + 1) lines) ≡ map mail_put (all_due u lines) ++ map mail_put (due_to lines u) = ap (map mail_put) (ranges_more (due_to lines) u) ∙ map-append mail_put (all_due u lines) (due_to lines u) in
      subst (put a c) (sym whole) (joins a b c (map mail_put (all_due u lines)) (map mail_put (due_to lines u)) before (subst (put b c) sent.are sent.were_put))

  -- and after an error a front of what is due to the next
  pub node_stopped : {T E V F : Type 0} → (e : E) (f : F) (a b c : S) (lines : List Unacked) (u n : ℕ) → u < n → put a b (map mail_put (all_due u lines)) → SentDue {T = T} {E = E} (Err e) (put b c) (due_to lines u)
      → SentDue {T = V} {E = F} (Err f) (put a c) (all_due n lines)
  node_stopped e f a b c lines u n low before sent =
      let first : List Put = map mail_put (all_due u lines) in
      let rest = due_parts lines (u + 1) n (omega (arith, low)) in
      let rest_is : List Message = rest.0 in
      let missed : List Put = sent.are.0 in
      record {
        puts = first ++ sent.puts;
        were_put = joins a b c first sent.puts before sent.were_put;
        are = (
          missed ++ map mail_put rest_is,
          ap (map mail_put) (rest.1 ∙ ap (λ (xs : List Message). xs ++ rest_is) (ranges_more (due_to lines) u))
              ∙ map-append mail_put (all_due u lines ++ due_to lines u) rest_is
              ∙ ap (λ (xs : List Put). xs ++ map mail_put rest_is) (map-append mail_put (all_due u lines) (due_to lines u) ∙ ap (λ (xs : List Put). first ++ xs) sent.are.1 ∙ sym (append_assoc first sent.puts missed))
              ∙ append_assoc (first ++ sent.puts) missed (map mail_put rest_is),
        );
      }
