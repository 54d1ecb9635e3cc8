-- What waits on links, weighed: how a step changes it.
use Rattle.std.proofs.Common.{◌≡◌, ℕ, zero, suc, ◌+◌, ◌<◌, ◌≤◌, List, [], ◌∷◌, ◌++◌, length, drop, sum_by, Bool, true, false, ◌==◌, ◌&&◌, if◌then◌else◌, Some, slice_get, refl, sym, ap, ◌∙◌, ⊎_elim, arith, eq-eqb, ne_eqb, eqb-true, length-append}
use Rattle.std.specs.List.{AllByRecursion, range_with_len}
use Rattle.std.proofs.lemmas.Bool.{cases_eq}
use Rattle.std.proofs.lemmas.List.{drop-append-le, nil_from_length, length-drop}
use Rattle.std.proofs.lemmas.List.Sums.{sum_by-cons, sum_by-append}
use Rattle.std.proofs.lemmas.Option.{slice_get_within}
use Rattle.ken_model.specs.declared.facts.Input.{Input}
use Rattle.ken_model.specs.declared.messages.Message.{Message}
use Rattle.ken_model.specs.declared.messages.Send.{Send}
use Rattle.ken_model.specs.declared.messages.Step.{Step}
use Rattle.ken_model.specs.Ending.{waiting_on}
use Rattle.ken_model.specs.Network.{Link, Network, Turn, outside, input_at, inputs_from, link_after, numbered}
use Rattle.ken_gen.proofs.Sums.{IsLink, one, only, sum-only, sum-same, sum-turned, total, total-one, total-plus, total-same}

-- ---- one link

next-dropped : (ms : List Message) (k : ℕ) (m : Message) → slice_get ms k ≡ Some m → drop k ms ≡ m ∷ drop (k + 1) ms
next-dropped [] k m is = absurd cc
next-dropped (x ∷ ms) zero m is = let same : x ≡ m = cc in ap (λ y. y ∷ ms) same
next-dropped (x ∷ ms) (suc k) m is = let e : suc (k + 1) ≡ suc k + 1 = omega arith in next-dropped ms k m is ∙ ap (λ j. m ∷ drop j (x ∷ ms)) e

-- what waits is weighed by a number for each text
abbrev pub weighed : (List ℕ → ℕ) → List Message → ℕ
weighed weight ms = sum_by (λ (m : Message). weight m.bytes) ms

abbrev pub on_link : (List ℕ → ℕ) → Link → ℕ
on_link weight l = weighed weight (drop l.taken l.sent)

taken-one : (weight : List ℕ → ℕ) (sent : List Message) (k : ℕ) (m : Message) → slice_get sent k ≡ Some m → weighed weight (drop (k + 1) sent) + weight m.bytes ≡ weighed weight (drop k sent)
taken-one weight sent k m next =
    let parts = sum_by-cons (λ (x : Message). weight x.bytes) m (drop (k + 1) sent) in
    let same = ap (weighed weight) (next-dropped sent k m next) in
    omega (arith, parts, same)

sent-more : (weight : List ℕ → ℕ) (sent new : List Message) (k : ℕ) → k ≤ length sent → weighed weight (drop k (sent ++ new)) ≡ weighed weight (drop k sent) + weighed weight new
sent-more weight sent new k le = ap (weighed weight) (drop-append-le k sent new le) ∙ sum_by-append (λ (x : Message). weight x.bytes) (drop k sent) new

-- a link whose next message may be taken, and which may be sent more
pub link-step : (weight : List ℕ → ℕ) (a d : Bool) (sent new : List Message) (k : ℕ) (m : Message) → k ≤ length sent → (d ≡ true → slice_get sent k ≡ Some m)
    → weighed weight (drop (if d then k + 1 else k) (if a then sent ++ new else sent)) + (if d then weight m.bytes else 0) ≡ weighed weight (drop k sent) + (if a then weighed weight new else 0)
link-step weight false false sent new k m le next = refl
link-step weight true false sent new k m le next = omega (arith, sent-more weight sent new k le)
link-step weight false true sent new k m le next = omega (arith, taken-one weight sent k m (next refl))
link-step weight true true sent new k m le next =
    let within = slice_get_within sent k m (next refl) in
    omega (arith, sent-more weight sent new (k + 1) (omega arith), taken-one weight sent k m (next refl))

-- what was taken of a link was sent
pub taken-few : (a d : Bool) (sent new : List Message) (k : ℕ) (m : Message) → k ≤ length sent → (d ≡ true → slice_get sent k ≡ Some m) → (if d then k + 1 else k) ≤ length (if a then sent ++ new else sent)
taken-few false false sent new k m le next = le
taken-few true false sent new k m le next = omega (arith, length-append sent new)
taken-few false true sent new k m le next = omega (arith, slice_get_within sent k m (next refl))
taken-few true true sent new k m le next = omega (arith, length-append sent new, slice_get_within sent k m (next refl))

-- ---- all links, each weighed by its receiver

abbrev pub ahead : (ℕ → List ℕ → ℕ) → ℕ → Network → ℕ
ahead weight nodes w = total nodes (λ u v. on_link (weight v) (w.link u v))

-- what goes to one node alone
pub record SendsOnly (weight : ℕ → List ℕ → ℕ) (sends : List Send) (to cost : ℕ) : Type 0 where
  pub sent : (u v n stamp : ℕ) → weighed (weight v) (numbered u v n stamp sends) ≡ only to cost v

one-here : (b : Bool) (x : ℕ) → b ≡ true → (if b then x else 0) ≡ x
one-here b x is = rw is refl

-- a text that is taken from a link, as a part of all links
taken-part : (from node : ℕ) (weight : ℕ → List ℕ → ℕ) (bytes : List ℕ) (u v : ℕ) → (if (u == from) && (v == node) then weight v bytes else 0) ≡ one from node (weight node bytes) u v
taken-part from node weight bytes u v = by (u == from) (v == node) refl
  where
    by : (a b : Bool) → (v == node) ≡ b → (if a && b then weight v bytes else 0) ≡ (if a then if b then weight node bytes else 0 else 0)
    by true true e = ap (λ k. weight k bytes) (eqb-true v node e)
    by true false e = refl
    by false true e = refl
    by false false e = refl

-- what waits after a step, with what it took, is what waited, with what it sent
pub ahead-step : (weight : ℕ → List ℕ → ℕ) (nodes : ℕ) (w : Network) (s : Step) (t : Turn) (to cost : ℕ) → nodes ≤ outside → IsLink nodes s.from s.node → IsLink nodes s.node to
    → ((u v : ℕ) → (w.link u v).taken ≤ length (w.link u v).sent) → slice_get (w.link s.from s.node).sent (w.link s.from s.node).taken ≡ Some t.message
    → SendsOnly weight t.effect.sends to cost
    → total nodes (λ u v. on_link (weight v) (link_after s t u v (w.link u v))) + weight s.node t.message.bytes ≡ ahead weight nodes w + cost
ahead-step weight nodes w s t to cost few from_here to_there fit next sends =
    let after : ℕ → ℕ → ℕ = λ u v. on_link (weight v) (link_after s t u v (w.link u v)) in
    let before : ℕ → ℕ → ℕ = λ u v. on_link (weight v) (w.link u v) in
    let took : ℕ → ℕ → ℕ = one s.from s.node (weight s.node t.message.bytes) in
    let gave : ℕ → ℕ → ℕ = one s.node to cost in
    let each : (u v : ℕ) → after u v + took u v ≡ before u v + gave u v = λ u v.
    let l = w.link u v in
    let new = numbered u v (length l.sent) t.stamp t.effect.sends in
    let is_next : ((u == s.from) && (v == s.node)) ≡ true → slice_get l.sent l.taken ≡ Some t.message = λ both. next-at u v both in
    ap (λ k. after u v + k) (sym (taken-part s.from s.node weight t.message.bytes u v))
    ∙ link-step (weight v) (u == s.node) ((u == s.from) && (v == s.node)) l.sent new l.taken t.message (fit u v) is_next
    ∙ ap (λ k. before u v + (if u == s.node then k else 0)) (sends.sent u v (length l.sent) t.stamp) in
    let all = sym (total-plus nodes after took) ∙ total-same nodes (λ u v. after u v + took u v) (λ u v. before u v + gave u v) each ∙ total-plus nodes before gave in
    let one_took = total-one nodes s.from s.node (weight s.node t.message.bytes) few from_here in
    let one_gave = total-one nodes s.node to cost few to_there in
    omega (arith, all, one_took, one_gave)
  where
    next-at : (u v : ℕ) → ((u == s.from) && (v == s.node)) ≡ true → slice_get (w.link u v).sent (w.link u v).taken ≡ Some t.message
    next-at u v both = by (u == s.from) (v == s.node) refl refl both
      where
        by : (a b : Bool) → (u == s.from) ≡ a → (v == s.node) ≡ b → (a && b) ≡ true → slice_get (w.link u v).sent (w.link u v).taken ≡ Some t.message
        by true true e f both = rw (eqb-true u s.from e, eqb-true v s.node f) next
        by true false e f both = absurd cc
        by false b e f both = absurd cc

-- ---- the start

-- the inputs for a node weigh what those of all inputs weigh that are for it
inputs-weigh : (weight : List ℕ → ℕ) (v n : ℕ) (is : List Input) → weighed weight (inputs_from v n is) ≡ sum_by (λ (i : Input). if i.node == v then weight i.text else 0) is
inputs-weigh weight v n [] = refl
inputs-weigh weight v n (i ∷ is) =
    by (inputs-weigh weight v (n + 1) is) (inputs-weigh weight v n is) (i.node == v) ∙ sym (sum_by-cons (λ (i : Input). if i.node == v then weight i.text else 0) i is)
  where
    rest : ℕ
    rest = sum_by (λ (i : Input). if i.node == v then weight i.text else 0) is

    by : weighed weight (inputs_from v (n + 1) is) ≡ rest → weighed weight (inputs_from v n is) ≡ rest → (b : Bool) → weighed weight (if b then input_at (n + 1) i ∷ inputs_from v (n + 1) is else inputs_from v n is) ≡ (if b then weight i.text else 0) + rest
    by more same true = sum_by-cons (λ (m : Message). weight m.bytes) (input_at (n + 1) i) (inputs_from v (n + 1) is) ∙ ap (λ k. weight i.text + k) more
    by more same false = omega (arith, same)

sum-known : (nodes : ℕ) (f : Input → ℕ → ℕ) (c : Input → ℕ) (is : List Input) → AllByRecursion (λ (i : Input). i.node < nodes) is → ((i : Input) (v : ℕ) → f i v ≡ only i.node (c i) v)
    → sum_by (λ (i : Input). sum_by (λ v. f i v) (range_with_len 0 nodes)) is ≡ sum_by c is
sum-known nodes f c [] known at = refl
sum-known nodes f c (i ∷ is) known at =
    let here = sum-same (f i) (only i.node (c i)) (range_with_len 0 nodes) (at i) ∙ sum-only i.node (c i) nodes known.0 in
    omega (arith, sum_by-cons (λ (i : Input). sum_by (λ v. f i v) (range_with_len 0 nodes)) i is, sum_by-cons c i is, here, sum-known nodes f c is known.1 at)

for-node : (weight : ℕ → List ℕ → ℕ) (i : Input) (v : ℕ) → (if i.node == v then weight v i.text else 0) ≡ only i.node (weight i.node i.text) v
for-node weight i v =
    ⊎_elim
    (λ (e : v ≡ i.node). let a = eq-eqb v i.node e in let b = eq-eqb i.node v (sym e) in rw (a, b) (ap (λ k. weight k i.text) e))
    (λ ne. let a = ne_eqb v i.node ne in let b = ne_eqb i.node v (λ e. ne (sym e)) in rw (a, b) refl)
    (cases_eq v i.node)

pub ahead-start : (weight : ℕ → List ℕ → ℕ) (nodes : ℕ) (is : List Input) → nodes ≤ outside → AllByRecursion (λ (i : Input). i.node < nodes) is
    → total nodes (λ u v. on_link (weight v) (record { sent = if u == outside then inputs_from v 0 is else []; taken = 0 })) ≡ sum_by (λ (i : Input). weight i.node i.text) is
ahead-start weight nodes is few known =
    let at : ℕ → ℕ → ℕ = λ u v. on_link (weight v) (record { sent = if u == outside then inputs_from v 0 is else []; taken = 0 }) in
    let of : ℕ → Input → ℕ = λ v i. if i.node == v then weight v i.text else 0 in
    let each : (v : ℕ) → sum_by (λ u. at u v) (outside ∷ range_with_len 0 nodes) ≡ sum_by (of v) is = λ v.
    let outer : at outside v ≡ sum_by (of v) is = inputs-weigh (weight v) v 0 is in
    omega (arith, sum_by-cons (λ u. at u v) outside (range_with_len 0 nodes), outer, inner v 0 nodes (omega (arith, few))) in
    sum-same _ (λ v. sum_by (of v) is) (range_with_len 0 nodes) each
    ∙ sum-turned of (range_with_len 0 nodes) is
    ∙ sum-known nodes (λ i v. of v i) (λ i. weight i.node i.text) is known (for-node weight)
  where
    inner : (v a n : ℕ) → a + n ≤ outside → sum_by (λ u. on_link (weight v) (record { sent = if u == outside then inputs_from v 0 is else []; taken = 0 })) (range_with_len a n) ≡ 0
    inner v a zero le = refl
    inner v a (suc n) le =
        let at : ℕ → ℕ = λ u. on_link (weight v) (record { sent = if u == outside then inputs_from v 0 is else []; taken = 0 }) in
        let here : at a ≡ 0 = rw (ne_eqb a outside (λ e. omega arith)) refl in
        omega (arith, sum_by-cons at a (range_with_len (a + 1) n), here, inner v (a + 1) n (omega arith))

-- ---- the end

pub ahead-settled : (weight : ℕ → List ℕ → ℕ) (nodes : ℕ) (w : Network) → ((u v : ℕ) → waiting_on (w.link u v) ≡ 0) → (u v : ℕ) → on_link (weight v) (w.link u v) ≡ 0
ahead-settled weight nodes w none u v =
    let nothing : drop (w.link u v).taken (w.link u v).sent ≡ [] = nil_from_length (drop (w.link u v).taken (w.link u v).sent) (omega (arith, length-drop (w.link u v).taken (w.link u v).sent, none u v)) in
    ap (weighed (weight v)) nothing
