-- Which message comes next.
use Rattle.std.proofs.Common.{◌≡◌, ◌≢◌, ℕ, zero, suc, ◌+◌, ◌-◌, ◌<◌, ◌≤◌, List, [], ◌∷◌, slice_get, Some, None, Option, Bool, true, false, ◌==◌, inl, inr, if◌then◌else◌, refl, sym, ap, ◌∙◌, ⊎_elim, arith}
use Rattle.std.proofs.lemmas.Option.{slice_get_within}
use Rattle.std.proofs.lemmas.Bool.{eqb-true}
use Rattle.ken_model.specs.declared.messages.Message.{Message}
use Rattle.ken_model.specs.declared.facts.Input.{Input}
use Rattle.ken_model.specs.Game.{Game}
use Rattle.ken_model.specs.Network.{outside, inputs_from, inputs_for}
use Rattle.ken_core.specs.declared.machine.Machine.{Machine}
use Rattle.ken_core.specs.Groups.{shown_at, AreKept}
use Rattle.ken_core.specs.Next.{IsNextOf, count_at}
use Rattle.ken_core.proofs.Ledgers.{mail_is}
use Rattle.ken_core.proofs.Played.{put_sent}

-- an input of a node is numbered by its place
pub input_at_place : (v n : ℕ) (is : List Input) (k : ℕ) (m : Message) → slice_get (inputs_from v n is) k ≡ Some m → (m.from ≡ outside) × (m.to ≡ v) × (m.number ≡ n + k + 1)
input_at_place v n [] k m is = absurd cc
input_at_place v n (i ∷ is) k m at = one (i.node == v) refl at (λ l. input_at_place v (n + 1) is l m) (input_at_place v n is k m)
  where
    next : Message
    next = record { from = outside; to = i.node; number = n + 1; stamp = 0; bytes = i.text }

    first : (j : ℕ) → i.node ≡ v → slice_get (next ∷ inputs_from v (n + 1) is) j ≡ Some m → ((l : ℕ) → slice_get (inputs_from v (n + 1) is) l ≡ Some m → (m.from ≡ outside) × (m.to ≡ v) × (m.number ≡ n + 1 + l + 1)) → (m.from ≡ outside) × (m.to ≡ v) × (m.number ≡ n + j + 1)
    first zero to h later = let same : next ≡ m = cc in (ap (λ (x : Message). x.from) (sym same), ap (λ (x : Message). x.to) (sym same) ∙ to, (let e = ap (λ (x : Message). x.number) same in omega arith))
    first (suc j) to h later = let e = later j h in (e.0, e.1, (let f = e.2 in omega arith))

    one : (b : Bool) → (i.node == v) ≡ b → slice_get (if b then next ∷ inputs_from v (n + 1) is else inputs_from v n is) k ≡ Some m → ((l : ℕ) → slice_get (inputs_from v (n + 1) is) l ≡ Some m → (m.from ≡ outside) × (m.to ≡ v) × (m.number ≡ n + 1 + l + 1)) → (slice_get (inputs_from v n is) k ≡ Some m → (m.from ≡ outside) × (m.to ≡ v) × (m.number ≡ n + k + 1)) → (m.from ≡ outside) × (m.to ≡ v) × (m.number ≡ n + k + 1)
    one true e h later other = first k (eqb-true i.node v e) h later
    one false e h later other = other h

-- no node is the outside
no_mail : (g : Game) (ms : List Machine) (u to number : ℕ) (m : Message) → AreKept g ms → g.nodes ≤ u → (shown_at g ms u).mail to number ≡ Some m → ⊥
no_mail g ms u to number m kept past is =
    let sent = put_sent g ms u to number m is in
    let within = slice_get_within ms u sent.0 sent.1 in
    let width = kept.width in
    omega arith

pub next_nobody : (g : Game) (ms : List Machine) (v from : ℕ) → AreKept g ms → g.nodes ≤ from → from ≢ outside → IsNextOf g ms v from None
next_nobody g ms v from kept past ne = λ es m next.
    ⊎_elim
    (λ put. no_mail g ms m.from m.to m.number m kept (let e = next.sender in omega arith) put)
    (λ input. ne (sym next.sender ∙ input.0))
    next.came

-- the next input
pub next_input : (g : Game) (ms : List Machine) (v : ℕ) (o : Option Message) → AreKept g ms → slice_get (inputs_for g v) (count_at g ms v outside) ≡ o → IsNextOf g ms v outside o
next_input g ms v None kept is = λ es m next.
    ⊎_elim
    (λ put. no_mail g ms m.from m.to m.number m kept (let few = kept.limits.few_nodes in let e = next.sender in omega arith) put)
    (λ input.
    let at : m.number - 1 ≡ count_at g ms v outside = let e = next.number in omega arith in
    let both : None ≡ Some m = sym is ∙ ap (slice_get (inputs_for g v)) (sym at) ∙ input.1 in cc)
    next.came
next_input g ms v (Some m) kept is = λ es.
    let facts = input_at_place v 0 g.inputs (count_at g ms v outside) m is in
    let number : m.number ≡ count_at g ms v outside + 1 = let e = facts.2 in omega arith in
    let at : m.number - 1 ≡ count_at g ms v outside = omega arith in (
      record { sender = facts.0; receiver = facts.1; number = number; came = inr (facts.0, ap (slice_get (inputs_for g v)) at ∙ is) },
      (λ k next. ⊎_elim
          (λ put. absurd (no_mail g ms k.from k.to k.number k kept (let few = kept.limits.few_nodes in let e = next.sender in omega arith) put))
          (λ input.
          let there : k.number - 1 ≡ count_at g ms v outside = let e = next.number in omega arith in
          let both : Some k ≡ Some m = sym input.1 ∙ ap (slice_get (inputs_for g v)) there ∙ is in cc)
          next.came),
    )

-- the next mail
pub next_mail : (g : Game) (ms : List Machine) (v from : ℕ) (o : Option Message) → AreKept g ms → v < g.nodes → from ≢ outside → (shown_at g ms from).mail v (count_at g ms v from + 1) ≡ o → IsNextOf g ms v from o
next_mail g ms v from None kept known ne is = λ es m next.
    ⊎_elim
    (λ put.
    let both : None ≡ Some m = sym is ∙ ap (λ k. (shown_at g ms from).mail v k) (sym next.number) ∙ ap (λ w. (shown_at g ms from).mail w m.number) (sym next.receiver) ∙ ap (λ u. (shown_at g ms u).mail m.to m.number) (sym next.sender) ∙ put in cc)
    (λ input. ne (sym next.sender ∙ input.0))
    next.came
next_mail g ms v from (Some m) kept known ne is = λ es.
    let sent = put_sent g ms from v (count_at g ms v from + 1) m is in
    let mine = kept.each from sent.0 sent.1 in
    let minus : count_at g ms v from + 1 - 1 ≡ count_at g ms v from = omega arith in
    let there = ap (λ xs. slice_get xs (count_at g ms v from)) (sym (mine.ledger.sent v known)) ∙ ap (slice_get _) (sym minus) ∙ sent.3 in
    let says = mail_is from v (count_at g ms v from) sent.0.ledger.turns.items m there in
    let number = mine.ledger.numbered v (count_at g ms v from) m there in (
      record {
        sender = says.0;
        receiver = says.1;
        number = number;
        came = inl (ap (λ u. (shown_at g ms u).mail m.to m.number) says.0 ∙ ap (λ w. (shown_at g ms from).mail w m.number) says.1 ∙ ap (λ k. (shown_at g ms from).mail v k) number ∙ is);
      },
      (λ k next. ⊎_elim
          (λ put.
          let both : Some m ≡ Some k = sym is ∙ ap (λ j. (shown_at g ms from).mail v j) (sym next.number) ∙ ap (λ w. (shown_at g ms from).mail w k.number) (sym next.receiver) ∙ ap (λ u. (shown_at g ms u).mail k.to k.number) (sym next.sender) ∙ put in cc)
          (λ input. absurd (ne (sym next.sender ∙ input.0)))
          next.came),
    )
