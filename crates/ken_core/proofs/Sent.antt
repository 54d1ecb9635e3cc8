-- Messages that were sent, and lists that grow.
use Rattle.std.proofs.Common.{◌≡◌, ℕ, suc, zero, ◌+◌, ◌-◌, ◌<◌, ◌≤◌, max, List, [], ◌∷◌, ◌++◌, length, Bool, true, false, ◌==◌, if◌then◌else◌, Some, slice_get, refl, sym, ap, ◌∙◌, subst, ⊎_elim, arith, append_assoc, append-nil, length-append, zero-add, eq-eqb, ne_eqb}
use Rattle.std.proofs.lemmas.Bool.{cases_eq}
use Rattle.ken_model.specs.declared.messages.Message.{Message}
use Rattle.ken_model.specs.declared.messages.Send.{Send}
use Rattle.ken_model.specs.declared.messages.Out.{Out}
use Rattle.ken_model.specs.declared.facts.Input.{Input}
use Rattle.ken_model.specs.Game.{Game}
use Rattle.ken_model.specs.Network.{Place, Turn, outside, inputs_from, inputs_for, numbered, turn_at, place_after}
use Rattle.ken_model.specs.History.{AreTurns, places, consumed, sent_by, messages, IsPrefixOf}
use Rattle.ken_model.specs.Emissions.{AreEmitted, largest_of}
use Rattle.ken_model.proofs.Turns.{consumed-append, sent_by-append}

-- what stands in a list stands in a longer one
pub slice_get-append : {A : Type 0} (xs ys : List A) (k : ℕ) (x : A) → slice_get xs k ≡ Some x → slice_get (xs ++ ys) k ≡ Some x
slice_get-append [] ys k x e = absurd cc
slice_get-append (y ∷ xs) ys zero x e = e
slice_get-append (y ∷ xs) ys (suc k) x e = slice_get-append xs ys k x e

-- a front with what comes next is a front
pub front_more : {A : Type 0} (xs whole : List A) (x : A) → IsPrefixOf xs whole → slice_get whole (length xs) ≡ Some x → IsPrefixOf (xs ++ x ∷ []) whole
front_more [] [] x front e = absurd cc
front_more [] (y ∷ ys) x front e = (ys, cc)
front_more (z ∷ xs) [] x front e = absurd cc
front_more (z ∷ xs) (y ∷ ys) x front e =
    let same : y ≡ z = cc in
    let rest = front_more xs ys x (front.0, cc) e in
    (rest.0, ap (λ h. h ∷ ys) same ∙ ap (λ t. z ∷ t) rest.1)

-- the message of a link with a number
pub record IsOf (u v number : ℕ) (m : Message) : Type 0 where
  pub from : m.from ≡ u
  pub to : m.to ≡ v
  pub counted : m.number ≡ number

IsOf-first : (u v n number stamp : ℕ) (bytes : List ℕ) (m : Message) → Some (record { from = u; to = v; number = n; stamp = stamp; bytes = bytes }) ≡ Some m → n ≡ number → IsOf u v number m
IsOf-first u v n number stamp bytes m e same =
    let it : record { from = u; to = v; number = n; stamp = stamp; bytes = bytes } ≡ m = cc in
    record { from = sym (ap (λ (x : Message). x.from) it); to = sym (ap (λ (x : Message). x.to) it); counted = sym (ap (λ (x : Message). x.number) it) ∙ same }

-- one message of a list that is kept or not
one_of : (b : Bool) (u v n stamp k : ℕ) (bytes : List ℕ) (more less : List Message) (m : Message)
    → ((j : ℕ) → slice_get more j ≡ Some m → IsOf u v (n + 1 + j + 1) m) → (slice_get less k ≡ Some m → IsOf u v (n + k + 1) m)
    → slice_get (if b then record { from = u; to = v; number = n + 1; stamp = stamp; bytes = bytes } ∷ more else less) k ≡ Some m → IsOf u v (n + k + 1) m
one_of true u v n stamp zero bytes more less m later same e = IsOf-first u v (n + 1) (n + 0 + 1) stamp bytes m e (omega arith)
one_of true u v n stamp (suc k) bytes more less m later same e =
    let number : n + 1 + k + 1 ≡ n + suc k + 1 = omega arith in
    subst (λ j. IsOf u v j m) number (later k e)
one_of false u v n stamp k bytes more less m later same e = same e

numbered_at : (u v n stamp : ℕ) (ss : List Send) (k : ℕ) (m : Message) → slice_get (numbered u v n stamp ss) k ≡ Some m → IsOf u v (n + k + 1) m
numbered_at u v n stamp [] k m e = absurd cc
numbered_at u v n stamp (s ∷ ss) k m e = one_of (s.to == v) u v n stamp k s.bytes (numbered u v (n + 1) stamp ss) (numbered u v n stamp ss) m (λ j. numbered_at u v (n + 1) stamp ss j m) (numbered_at u v n stamp ss k m) e

-- an element of one list or of the one after it
pub data AtEither {A : Type 0} (xs ys : List A) (k : ℕ) (x : A) : Type 0 where
  in_first : slice_get xs k ≡ Some x → AtEither xs ys k x
  in_second : (j : ℕ) → k ≡ length xs + j → slice_get ys j ≡ Some x → AtEither xs ys k x

at_either : {A : Type 0} (xs ys : List A) (k : ℕ) (x : A) → slice_get (xs ++ ys) k ≡ Some x → AtEither xs ys k x
at_either [] ys k x e = in_second k (sym (zero-add k)) e
at_either (y ∷ xs) ys zero x e = in_first e
at_either (y ∷ xs) ys (suc k) x e = elim (at_either xs ys k x e) [ in_first f ↦ in_first f | in_second j is f ↦ in_second j (omega arith) f ]

pub sent_at : (u v n : ℕ) (ts : List Turn) (k : ℕ) (m : Message) → slice_get (sent_by u v n ts) k ≡ Some m → IsOf u v (n + k + 1) m
unfolding sent_by
sent_at u v n [] k m e = absurd cc
sent_at u v n (t ∷ ts) k m e =
    let first = numbered u v n t.stamp t.effect.sends in
    elim (at_either first (sent_by u v (n + length first) ts) k m e) [
      | in_first f ↦ numbered_at u v n t.stamp t.effect.sends k m f
      | in_second j is f ↦ let number : n + length first + j + 1 ≡ n + k + 1 = omega arith in subst (λ x. IsOf u v x m) number (sent_at u v (n + length first) ts j m f)
    ]

input_at_is : (v n : ℕ) (is : List Input) (k : ℕ) (m : Message) → slice_get (inputs_from v n is) k ≡ Some m → IsOf outside v (n + k + 1) m
input_at_is v n [] k m e = absurd cc
input_at_is v n (i ∷ is) k m e =
    ⊎_elim
    (λ (same : i.node ≡ v). here same k (input_at_is v (n + 1) is) (rw (eq-eqb i.node v same) at e))
    (λ other. input_at_is v n is k m (rw (ne_eqb i.node v other) at e))
    (cases_eq i.node v)
  where
    here : i.node ≡ v → (k : ℕ) → ((j : ℕ) (m : Message) → slice_get (inputs_from v (n + 1) is) j ≡ Some m → IsOf outside v (n + 1 + j + 1) m) → slice_get (record { from = outside; to = i.node; number = n + 1; stamp = 0; bytes = i.text } ∷ inputs_from v (n + 1) is) k ≡ Some m → IsOf outside v (n + k + 1) m
    here same zero later e = subst (λ x. IsOf outside x (n + 0 + 1) m) same (IsOf-first outside i.node (n + 1) (n + 0 + 1) 0 i.text m e (omega arith))
    here same (suc k) later e = let number : n + 1 + k + 1 ≡ n + suc k + 1 = omega arith in subst (λ j. IsOf outside v j m) number (later k m e)

-- a message of a link has its place as its number
pub message_at : (g : Game) (h : ℕ → List Turn) (u v k : ℕ) (m : Message) → slice_get (messages g h u v) k ≡ Some m → IsOf u v (k + 1) m
unfolding messages
message_at g h u v k m e =
    let number : 0 + k + 1 ≡ k + 1 = omega arith in
    subst (λ j. IsOf u v j m) number
    (⊎_elim
    (λ (out : u ≡ outside). subst (λ x. IsOf x v (0 + k + 1) m) (sym out) (input_at_is v 0 g.inputs k m (rw (eq-eqb u outside out) at e)))
    (λ node. sent_at u v 0 (h u) k m (rw (ne_eqb u outside node) at e))
    (cases_eq u outside))

-- the messages of a node's link are what its turns sent
pub messages-node : (g : Game) (h : ℕ → List Turn) (u v : ℕ) → (u ≡ outside → ⊥) → messages g h u v ≡ sent_by u v 0 (h u)
unfolding messages
messages-node g h u v node = rw (ne_eqb u outside node) refl

-- more turns send after what was sent
pub messages-more : (g : Game) (h more : ℕ → List Turn) (u v : ℕ) → IsPrefixOf (messages g h u v) (messages g (λ x. h x ++ more x) u v)
unfolding messages
messages-more g h more u v =
    ⊎_elim
    (λ out. ([], rw (eq-eqb u outside out) (sym (append-nil (inputs_for g v)))))
    (λ node. (sent_by u v (0 + length (sent_by u v 0 (h u))) (more u), rw (ne_eqb u outside node) (sent_by-append u v 0 (h u) (more u))))
    (cases_eq u outside)

pub messages-stands : (g : Game) (h more : ℕ → List Turn) (u v k : ℕ) (m : Message) → slice_get (messages g h u v) k ≡ Some m → slice_get (messages g (λ x. h x ++ more x) u v) k ≡ Some m
messages-stands g h more u v k m e =
    let front = messages-more g h more u v in
    ap (λ ms. slice_get ms k) front.1 ∙ slice_get-append (messages g h u v) front.0 k m e

pub front-longer : {A : Type 0} (xs mid whole : List A) → IsPrefixOf xs mid → IsPrefixOf mid whole → IsPrefixOf xs whole
front-longer xs mid whole a b = (a.0 ++ b.0, b.1 ∙ ap (λ l. l ++ b.0) a.1 ∙ append_assoc xs a.0 b.0)

-- and consume after what was consumed
pub consumed-more : (u : ℕ) (ts more : List Turn) → length (consumed u ts) ≤ length (consumed u (ts ++ more))
consumed-more u ts more =
    let parts : length (consumed u (ts ++ more)) ≡ length (consumed u ts) + length (consumed u more) = ap length (consumed-append u ts more) ∙ length-append (consumed u ts) (consumed u more) in
    omega arith

-- one more turn of a node
pub AreTurns-push : (g : Game) (v : ℕ) (p : Place) (ts : List Turn) (t : Turn) → AreTurns g v p ts → (places p ts).turns < g.turns → turn_at g v (places p ts) t.draws t.message ≡ Some t → AreTurns g v p (ts ++ t ∷ [])
unfolding AreTurns
AreTurns-push g v p [] t own few made = (few, made, tt)
AreTurns-push g v p (u ∷ ts) t own few made = (own.0, own.1, AreTurns-push g v (place_after p u) ts t own.2 few made)

-- emissions stay legal where there are more outputs
pub AreEmitted-more : (outs more : List (List ℕ)) (largest : ℕ) (os : List Out) → AreEmitted outs largest os → AreEmitted (outs ++ more) largest os
unfolding AreEmitted
AreEmitted-more outs more largest [] legal = tt
AreEmitted-more outs more largest (o ∷ os) legal = (legal.0, legal.1, slice_get-append outs more (o.number - 1) o.text legal.2, AreEmitted-more outs more (max largest o.number) os legal.3)

-- and where one more is emitted that may be
pub AreEmitted-push : (outs : List (List ℕ)) (largest : ℕ) (os : List Out) (o : Out) → AreEmitted outs largest os → 0 < o.number → o.number ≤ largest_of largest os + 1 → slice_get outs (o.number - 1) ≡ Some o.text → AreEmitted outs largest (os ++ o ∷ [])
unfolding AreEmitted
AreEmitted-push outs largest [] o legal some few text = (some, few, text, tt)
AreEmitted-push outs largest (p ∷ os) o legal some few text = (legal.0, legal.1, legal.2, AreEmitted-push outs (max largest p.number) os o legal.3 some few text)

pub largest_of-push : (largest : ℕ) (os : List Out) (o : Out) → largest_of largest (os ++ o ∷ []) ≡ max (largest_of largest os) o.number
largest_of-push largest [] o = refl
largest_of-push largest (p ∷ os) o = largest_of-push (max largest p.number) os o
