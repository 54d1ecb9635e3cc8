-- A step of a bank's network neither makes nor loses money.
use Rattle.std.proofs.Common.{◌≡◌, ℕ, ◌+◌, ◌<◌, ◌≤◌, List, [], ◌∷◌, ◌++◌, length, get_or, drop, Bool, true, false, ◌==◌, ◌&&◌, nat_lt, if◌then◌else◌, Some, slice_get, refl, sym, ap, ◌∙◌, subst, ⊎_elim, arith, eq-eqb, ne_eqb}
use Rattle.std.specs.Prelude.{sum_by}
use Rattle.std.specs.List.{range_with_len}
use Rattle.std.proofs.lemmas.Bool.{cases_eq, eqb-true}
use Rattle.std.proofs.lemmas.List.{drop-append-le}
use Rattle.std.proofs.lemmas.List.Sums.{sum_by-cons, sum_by-append, sum_by-drop_more}
use Rattle.std.proofs.lemmas.Option.{slice_get_within, get_or_from_slice_get}
use Rattle.ken_model.specs.declared.messages.Message.{Message}
use Rattle.ken_model.specs.declared.messages.Send.{Send}
use Rattle.ken_model.specs.declared.messages.Step.{Step}
use Rattle.ken_model.specs.Game.{Game}
use Rattle.ken_model.specs.Network.{Network, Place, Turn, numbered, place_after, applied}
use Rattle.ken_model.specs.Bank.{order_of}
use Rattle.ken_apps.specs.Money.{held_in, held, credit_of, credit_in, on_the_way}
use Rattle.ken_apps.proofs.MoneySums.{and_both, sum_balance, sum_both, sum_zero, at_one, sum_one, sum_at, at_pair, sum_pair, at_row, sum_row}
use Rattle.ken_apps.proofs.MoneyTurns.{posted_by, posted}

-- the amount of a message
abbrev pub amount_of : Message → ℕ
amount_of m = credit_of (order_of m.bytes)

-- ---- what nodes hold

place_one : (p : Place) (t : Turn) (old : ℕ) (here : Bool) → (here ≡ true → held_in p.value ≡ old) → held_in (if here then place_after p t else p).value + (if here then old else 0) ≡ held_in p.value + (if here then held_in t.effect.value else 0)
place_one p t old true is = omega (arith, is refl)
place_one p t old false is = refl

pub held_after : (g : Game) (w : Network) (s : Step) (t : Turn) → s.node < g.nodes → held g (applied w s t) + held_in (w.place s.node).value ≡ held g w + held_in t.effect.value
held_after g w s t known =
    let old = held_in (w.place s.node).value in
    let new = held_in t.effect.value in
    let each : (v : ℕ) → held_in ((applied w s t).place v).value + at_one s.node old v ≡ held_in (w.place v).value + at_one s.node new v = λ v. place_one (w.place v) t old (v == s.node) (λ is. ap (λ x. held_in (w.place x).value) (eqb-true v s.node is)) in
    omega (arith, sum_balance (λ v. held_in ((applied w s t).place v).value) (at_one s.node old) (λ v. held_in (w.place v).value) (at_one s.node new) (range_with_len 0 g.nodes) each, sum_one s.node old g.nodes known, sum_one s.node new g.nodes known)

-- ---- what is on its way

-- a link after one of its messages was taken, or not, and others were sent, or none
link_one : (sent new : List Message) (taken : ℕ) (m : Message) (sends takes : Bool) → taken ≤ length sent → (takes ≡ true → slice_get sent taken ≡ Some m)
    → credit_in (drop (if takes then taken + 1 else taken) (if sends then sent ++ new else sent)) + (if takes then amount_of m else 0) ≡ credit_in (drop taken sent) + (if sends then credit_in new else 0)
link_one sent new taken m true true few next =
    let within = slice_get_within sent taken m (next refl) in
    let split = drop-append-le (taken + 1) sent new (omega (arith, within)) in
    let rest = sum_by-append amount_of (drop (taken + 1) sent) new in
    let first = sum_by-drop_more amount_of sent taken m within in
    let here : amount_of (get_or sent taken m) ≡ amount_of m = ap amount_of (get_or_from_slice_get sent taken m m (next refl)) in
    omega (arith, ap credit_in split, rest, first, here)
link_one sent new taken m true false few next = omega (arith, ap credit_in (drop-append-le taken sent new few), sum_by-append amount_of (drop taken sent) new)
link_one sent new taken m false true few next =
    let within = slice_get_within sent taken m (next refl) in
    let first = sum_by-drop_more amount_of sent taken m within in
    let here : amount_of (get_or sent taken m) ≡ amount_of m = ap amount_of (get_or_from_slice_get sent taken m m (next refl)) in
    omega (arith, first, here)
link_one sent new taken m false false few next = refl

-- a message that is sent goes on one link
eqb-sides : (a b : ℕ) → (a == b) ≡ (b == a)
eqb-sides a b = ⊎_elim (λ e. eq-eqb a b e ∙ sym (eq-eqb b a (sym e))) (λ ne. ne_eqb a b ne ∙ sym (ne_eqb b a (λ e. ne (sym e)))) (cases_eq a b)

numbered_one : (u v n stamp : ℕ) (s : Send) (ss : List Send) (b : Bool) → (s.to == v) ≡ b → credit_in (numbered u v n stamp (s ∷ ss)) ≡ (if b then credit_of (order_of s.bytes) else 0) + credit_in (numbered u v (if b then n + 1 else n) stamp ss)
numbered_one u v n stamp s ss true is = rw is (sum_by-cons amount_of (record { from = u; to = v; number = n + 1; stamp = stamp; bytes = s.bytes }) (numbered u v (n + 1) stamp ss))
numbered_one u v n stamp s ss false is = rw is (omega arith)

numbered_at : (u v n stamp : ℕ) (s : Send) (ss : List Send) → credit_in (numbered u v n stamp (s ∷ ss)) ≡ at_one s.to (credit_of (order_of s.bytes)) v + credit_in (numbered u v (if s.to == v then n + 1 else n) stamp ss)
numbered_at u v n stamp s ss = numbered_one u v n stamp s ss (s.to == v) refl ∙ ap (λ b. (if b then credit_of (order_of s.bytes) else 0) + credit_in (numbered u v (if s.to == v then n + 1 else n) stamp ss)) (eqb-sides s.to v)

-- all that a turn sends is on the links to nodes
pub numbered_posted : (u stamp len : ℕ) (n : ℕ → ℕ) (ss : List Send) → sum_by (λ v. credit_in (numbered u v (n v) stamp ss)) (range_with_len 0 len) ≡ posted len ss
numbered_posted u stamp len n [] = sum_zero (λ v. 0) (range_with_len 0 len) (λ v. refl)
numbered_posted u stamp len n (s ∷ ss) =
    let later : ℕ → ℕ = λ v. if s.to == v then n v + 1 else n v in
    let amount = credit_of (order_of s.bytes) in
    let both = sum_both (λ v. credit_in (numbered u v (n v) stamp (s ∷ ss))) (at_one s.to amount) (λ v. credit_in (numbered u v (later v) stamp ss)) (range_with_len 0 len) (λ v. numbered_at u v (n v) stamp s ss) in
    let rest = numbered_posted u stamp len later ss in
    omega (arith, both, rest, sum_at s.to amount len, sum_by-cons (posted_by len) s ss)

-- a node's own new messages
row_one : (w : Network) (s : Step) (t : Turn) (v : ℕ) (u : ℕ) (b : Bool) → (u == s.node) ≡ b → (if b then credit_in (numbered u v (length (w.link u v).sent) t.stamp t.effect.sends) else 0) ≡ (if b then credit_in (numbered s.node v (length (w.link s.node v).sent) t.stamp t.effect.sends) else 0)
row_one w s t v u true is = ap (λ x. credit_in (numbered x v (length (w.link x v).sent) t.stamp t.effect.sends)) (eqb-true u s.node is)
row_one w s t v u false is = refl

link_each : (g : Game) (w : Network) (s : Step) (t : Turn) → ((u v : ℕ) → (w.link u v).taken ≤ length (w.link u v).sent) → slice_get (w.link s.from s.node).sent (w.link s.from s.node).taken ≡ Some t.message → (u v : ℕ)
    → credit_in (drop ((applied w s t).link u v).taken ((applied w s t).link u v).sent) + at_pair s.from s.node (amount_of t.message) u v ≡ credit_in (drop (w.link u v).taken (w.link u v).sent) + at_row s.node (λ x. credit_in (numbered s.node x (length (w.link s.node x).sent) t.stamp t.effect.sends)) u v
link_each g w s t few next u v =
    let l = w.link u v in
    let new = numbered u v (length l.sent) t.stamp t.effect.sends in
    let takes : ((u == s.from) && (v == s.node)) ≡ true → slice_get l.sent l.taken ≡ Some t.message = λ is. let both = and_both (u == s.from) (v == s.node) is in
    subst (λ x. slice_get (w.link x v).sent (w.link x v).taken ≡ Some t.message) (sym (eqb-true u s.from both.0)) (subst (λ x. slice_get (w.link s.from x).sent (w.link s.from x).taken ≡ Some t.message) (sym (eqb-true v s.node both.1)) next) in
    link_one l.sent new l.taken t.message (u == s.node) ((u == s.from) && (v == s.node)) (few u v) takes ∙ ap (λ k. credit_in (drop l.taken l.sent) + k) (row_one w s t v u (u == s.node) refl)

-- what is sent comes to be on its way, and what was taken from a node no more
pub way_after : (g : Game) (w : Network) (s : Step) (t : Turn) → s.node < g.nodes → ((u v : ℕ) → (w.link u v).taken ≤ length (w.link u v).sent) → slice_get (w.link s.from s.node).sent (w.link s.from s.node).taken ≡ Some t.message
    → on_the_way g (applied w s t) + (if nat_lt s.from g.nodes then amount_of t.message else 0) ≡ on_the_way g w + posted g.nodes t.effect.sends
way_after g w s t known few next =
    let amount = amount_of t.message in
    let ns = range_with_len 0 g.nodes in
    let news : ℕ → List Message = λ v. numbered s.node v (length (w.link s.node v).sent) t.stamp t.effect.sends in
    let fresh : ℕ → ℕ = λ v. credit_in (news v) in
    let now : ℕ → ℕ → ℕ = λ u v. credit_in (drop ((applied w s t).link u v).taken ((applied w s t).link u v).sent) in
    let was : ℕ → ℕ → ℕ = λ u v. credit_in (drop (w.link u v).taken (w.link u v).sent) in
    let each : (u v : ℕ) → now u v + at_pair s.from s.node amount u v ≡ was u v + at_row s.node fresh u v = λ u v. link_each g w s t few next u v in
    let row : (u : ℕ) → sum_by (now u) ns + sum_by (at_pair s.from s.node amount u) ns ≡ sum_by (was u) ns + sum_by (at_row s.node fresh u) ns = λ u. sum_balance (now u) (at_pair s.from s.node amount u) (was u) (at_row s.node fresh u) ns (each u) in
    let all = sum_balance (λ u. sum_by (now u) ns) (λ u. sum_by (at_pair s.from s.node amount u) ns) (λ u. sum_by (was u) ns) (λ u. sum_by (at_row s.node fresh u) ns) ns row in
    omega (arith, all, sum_pair s.from s.node amount g.nodes known, sum_row s.node fresh g.nodes known, numbered_posted s.node t.stamp g.nodes (λ v. length (w.link s.node v).sent) t.effect.sends)
