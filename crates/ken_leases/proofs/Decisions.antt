-- What a turn makes of the lease of a name.
use Rattle.std.proofs.Common.{◌≡◌, ℕ, ◌+◌, ◌^◌, ◌<◌, ◌≤◌, ◌⊎◌, inl, inr, List, [], ◌∷◌, length, Bool, true, false, ◌==◌, ◌&&◌, nat_lt, nat_le, bytes_eq, if◌then◌else◌, codes, Option, Some, None, option_map, refl, sym, ◌∙◌, ap, subst, arith, eq-eqb, ltb-true}
use Rattle.std.specs.Prelude.{max, option_and_then}
use Rattle.std.specs.List.{AllByRecursion}
use Rattle.std.proofs.lemmas.Bool.{eqb-true, leb-true, ltb-false}
use Rattle.std.proofs.lemmas.Slice.Eq.{bytes_eq-Decides}
use Rattle.ken_model.specs.declared.messages.Message.{Message}
use Rattle.ken_model.specs.declared.messages.TheConstants.{OUTSIDE}
use Rattle.ken_model.specs.declared.values.Value.{Value}
use Rattle.ken_model.specs.Bank.{name_of, named_amount, at_name}
use Rattle.ken_model.specs.Effects.{Effect, answered, refused}
use Rattle.ken_model.specs.Heap.{first_gap}
use Rattle.ken_model.specs.KeyValue.{at_space}
use Rattle.ken_model.specs.Kinds.{without_draws}
use Rattle.ken_num.specs.Numbers.{num}
use Rattle.ken_app.specs.Limited.{limited}
use Rattle.ken_app.proofs.Within.{within_some}
use Rattle.ken_apps.proofs.MoneyRead.{name_spaceless}
use Rattle.ken_leases.specs.declared.blocks.Lease.{Lease}
use Rattle.ken_leases.specs.declared.commands.Action.{Action}
use Rattle.ken_leases.specs.declared.commands.Action.TheVariants.{Acquire, Renew, Release}
use Rattle.ken_leases.specs.Laws.{releases}
use Rattle.ken_leases.specs.Leases.{named_term, command_in, command_of, lease_of, with_lease, with_first, is_held, granted, held, lost, released, full, is_answer, opened, acquired, renewed, given_back, decided, sent, asked, taken, leases_after, leases}
use Rattle.ken_leases.proofs.Changes.{lease_rewritten, lease_new, lease_untouched, lease_beside}

-- ---- a command's name has no space

pub then_some : {A B : Type 0} (f : A → Option B) (o : Option A) (b : B) → option_and_then f o ≡ Some b → (a : A) × (o ≡ Some a) × (f a ≡ Some b)
then_some f None b is = absurd cc
then_some f (Some a) b is = (a, refl, is)

pub map_some : {A B : Type 0} (f : A → B) (o : Option A) (b : B) → option_map f o ≡ Some b → (a : A) × (o ≡ Some a) × (f a ≡ b)
map_some f None b is = absurd cc
map_some f (Some a) b is = (a, refl, cc)

pub left_some : {A : Type 0} (t : Bool) (o : Option A) (a : A) → (if t then o else None) ≡ Some a → (t ≡ true) × (o ≡ Some a)
left_some true o a is = (refl, is)
left_some false o a is = absurd cc

abbrev HasName : List ℕ × Action → Type 0
HasName command = at_space command.0 ≡ None

amount_named : (text : List ℕ) (p : List ℕ × ℕ) → named_amount text ≡ Some p → at_space p.0 ≡ None
amount_named text p is =
    let whole = then_some (λ (name : List ℕ × List ℕ). option_map (λ n. (name.0, n)) (num name.1)) (at_name text) p is in
    let amount = map_some (λ n. (whole.0.0, n)) (num whole.0.1) p whole.2 in
    let front = then_some (λ (parts : List ℕ × List ℕ). option_map (λ name. (name, parts.1)) (name_of parts.0)) (at_space text) whole.0 whole.1 in
    let name = map_some (λ name. (name, front.0.1)) (name_of front.0.0) whole.0 front.2 in
    ap (λ (x : List ℕ × ℕ). at_space x.0) (sym amount.2) ∙ ap (λ (x : List ℕ × List ℕ). at_space x.0) (sym name.2) ∙ name_spaceless front.0.0 name.0 name.1

term_named : (text : List ℕ) (p : List ℕ × ℕ) → named_term text ≡ Some p → at_space p.0 ≡ None
term_named text p is =
    let whole = then_some (λ (q : List ℕ × ℕ). if nat_lt 0 q.1 then Some q else None) (named_amount text) p is in
    let some = (left_some (nat_lt 0 whole.0.1) (Some whole.0) p whole.2).1 in
    let same : whole.0 ≡ p = cc in
    subst (λ (x : List ℕ × ℕ). at_space x.0 ≡ None) same (amount_named text whole.0 whole.1)

named_in : (o : Option (List ℕ × List ℕ)) (c : List ℕ × Action) → command_in o ≡ Some c → HasName c
named_in None c is = absurd cc
named_in (Some parts) c is = by (bytes_eq parts.0 (codes "acquire")) (bytes_eq parts.0 (codes "renew")) (bytes_eq parts.0 (codes "release")) is
  where
    by : (a n l : Bool) → (if a then option_map (λ p. (p.0, Acquire p.1)) (named_term parts.1) else if n then option_map (λ p. (p.0, Renew p.1)) (named_term parts.1) else if l then option_map (λ name. (name, Release)) (name_of parts.1) else None) ≡ Some c → HasName c
    by true n l some = let p = map_some (λ (p : List ℕ × ℕ). (p.0, Acquire p.1)) (named_term parts.1) c some in subst HasName p.2 (term_named parts.1 p.0 p.1)
    by false true l some = let p = map_some (λ (p : List ℕ × ℕ). (p.0, Renew p.1)) (named_term parts.1) c some in subst HasName p.2 (term_named parts.1 p.0 p.1)
    by false false true some = let n = map_some (λ (name : List ℕ). (name, Release)) (name_of parts.1) c some in subst HasName n.2 (name_spaceless parts.1 n.0 n.1)
    by false false false some = absurd cc

-- ---- a lease and the one after it

-- it ends before the next begins, is as long or longer, or is cut
pub data IsNext (cuts : ℕ → Bool) (was now : Lease) : Type 0 where
  later : was.until ≤ now.from → now.from ≤ now.until → IsNext cuts was now
  longer : now.holder ≡ was.holder → now.from ≡ was.from → was.until ≤ now.until → IsNext cuts was now
  shorter : now.holder ≡ was.holder → now.from ≡ was.from → now.from ≤ now.until → cuts was.holder ≡ true → IsNext cuts was now

abbrev pub Follows : (ℕ → Bool) → Option Lease → Option Lease → Type 0
Follows cuts None None = Unit {0}
Follows cuts None (Some now) = (now.from ≤ now.until) × (now.until < 2 ^ 64)
Follows cuts (Some was) None = ⊥
Follows cuts (Some was) (Some now) = IsNext cuts was now × (now.until < 2 ^ 64)

-- a lease that 8 bytes hold
abbrev pub Holds : Option Lease → Type 0
Holds None = Unit {0}
Holds (Some lease) = lease.until < 2 ^ 64

pub stays : (cuts : ℕ → Bool) (o : Option Lease) → Holds o → Follows cuts o o
stays cuts None holds = tt
stays cuts (Some lease) holds = (longer refl refl (omega arith), holds)

-- who holds a lease
record IsHolder (node reading : ℕ) (lease : Lease) : Type 0 where
  holder : lease.holder ≡ node
  begun : lease.from ≤ reading
  left : reading < lease.until

both : (a b : Bool) → a && b ≡ true → (a ≡ true) × (b ≡ true)
both true b is = (refl, is)
both false b is = absurd cc

is_holder : (node reading : ℕ) (lease : Lease) → is_held node reading lease ≡ true → IsHolder node reading lease
is_holder node reading lease is =
    let outer = both (lease.holder == node) (nat_le lease.from reading && nat_lt reading lease.until) is in
    let inner = both (nat_le lease.from reading) (nat_lt reading lease.until) outer.1 in
    record { holder = eqb-true lease.holder node outer.0; begun = leb-true lease.from reading inner.0; left = ltb-true reading lease.until inner.1 }

-- ---- a decision

module _ (cuts : ℕ → Bool) (v : Value) (other : List ℕ) (holds : Holds (lease_of other v.blocks)) where
  -- the lease of a name after what was
  abbrev Leaves : Value → Type 0
  Leaves after = Follows cuts (lease_of other v.blocks) (lease_of other after.blocks)

  abbrev LeavesBy : Value × List ℕ → Type 0
  LeavesBy decision = Leaves decision.0

  same : Leaves v
  same = stays cuts (lease_of other v.blocks) holds

  module _ (name : List ℕ) (named : at_space name ≡ None) where
    written : (was now : Lease) → lease_of name v.blocks ≡ Some was → now.from < 2 ^ 64 → (was.until < 2 ^ 64 → now.until < 2 ^ 64) → (name ≡ other → IsNext cuts was now) → Leaves (with_lease name now v)
    written was now found first last next = by (bytes_eq name other) refl
      where
        here : (e : name ≡ other) → Leaves (with_lease name now v)
        here e =
            let word : was.until < 2 ^ 64 = subst Holds (ap (λ (x : List ℕ). lease_of x v.blocks) (sym e) ∙ found) holds in
            let new = lease_rewritten name now named v.blocks was first (last word) found in
            subst (λ (x : List ℕ). Follows cuts (lease_of x v.blocks) (lease_of x (with_lease name now v).blocks)) e
            (subst (λ (a : Option Lease). Follows cuts a (lease_of name (with_lease name now v).blocks)) (sym found)
            (subst (λ (b : Option Lease). Follows cuts (Some was) b) (sym new) (next e, last word)))

        by : (b : Bool) → bytes_eq name other ≡ b → Leaves (with_lease name now v)
        by true is = here ((bytes_eq-Decides name other).0 is)
        by false is = subst (λ (a : Option Lease). Follows cuts (lease_of other v.blocks) a) (sym (lease_untouched name now named other v.blocks is)) same

    abbrev Opened : Lease → ℕ → List ℕ → Option Lease
    Opened now place x = lease_of x (with_first place name now v).blocks

    first : (now : Lease) (place : ℕ) → lease_of name v.blocks ≡ None → now.from ≤ now.until → now.until < 2 ^ 64 → Leaves (with_first place name now v)
    first now place none order last = by (bytes_eq name other) refl
      where
        new : (Opened now place name ≡ Some now) ⊎ (Opened now place name ≡ lease_of name v.blocks) → Follows cuts None (Opened now place name)
        new (inl is) = subst (λ (b : Option Lease). Follows cuts None b) (sym is) (order, last)
        new (inr is) = subst (λ (b : Option Lease). Follows cuts None b) (sym (is ∙ none)) tt

        by : (b : Bool) → bytes_eq name other ≡ b → Leaves (with_first place name now v)
        by true is = subst (λ (x : List ℕ). Follows cuts (lease_of x v.blocks) (Opened now place x)) ((bytes_eq-Decides name other).0 is)
            (subst (λ (a : Option Lease). Follows cuts a (Opened now place name)) (sym none) (new (lease_new name now named place v.blocks (omega (arith, order, last)) last)))
        by false is = subst (λ (a : Option Lease). Follows cuts (lease_of other v.blocks) a) (sym (lease_beside name now named other place v.blocks is)) same

    module _ (node reading : ℕ) (word : reading < 2 ^ 64) where
      acquired_leaves : (term : ℕ) (o : Option Lease) → lease_of name v.blocks ≡ o → LeavesBy (acquired v name (record { holder = node; from = reading; until = reading + term }) o)
      acquired_leaves term None found = by (nat_lt (reading + term) (2 ^ 64)) refl (first_gap v (length name + 18))
        where
          by : (b : Bool) → nat_lt (reading + term) (2 ^ 64) ≡ b → (gap : Option ℕ) → LeavesBy (if b then opened v name (record { holder = node; from = reading; until = reading + term }) gap else (v, full name))
          by true is None = same
          by true is (Some place) = first (record { holder = node; from = reading; until = reading + term }) place found (omega arith) (ltb-true (reading + term) (2 ^ 64) is)
          by false is gap = same
      acquired_leaves term (Some old) found = by (nat_lt reading old.until) refl (nat_lt (reading + term) (2 ^ 64)) refl
        where
          by : (a : Bool) → nat_lt reading old.until ≡ a → (b : Bool) → nat_lt (reading + term) (2 ^ 64) ≡ b
              → LeavesBy (if a then (v, held name old.until) else if b then (with_lease name (record { holder = node; from = reading; until = reading + term }) v, granted name (record { holder = node; from = reading; until = reading + term })) else (v, full name))
          by true busy b is = same
          by false free true is = written old (record { holder = node; from = reading; until = reading + term }) found word (λ _. ltb-true (reading + term) (2 ^ 64) is) (λ _. later (ltb-false reading old.until free) (omega arith))
          by false free false is = same

      renewed_leaves : (term : ℕ) (o : Option Lease) → lease_of name v.blocks ≡ o → LeavesBy (renewed v name node reading term o)
      renewed_leaves term None found = same
      renewed_leaves term (Some old) found = by (is_held node reading old) refl (nat_lt (reading + term) (2 ^ 64)) refl
        where
          by : (a : Bool) → is_held node reading old ≡ a → (b : Bool) → nat_lt (reading + term) (2 ^ 64) ≡ b
              → LeavesBy (if a then (if b then (with_lease name (record old { until = max old.until (reading + term) }) v, granted name (record old { until = max old.until (reading + term) })) else (v, full name)) else (v, lost name))
          by true has true is =
              let holder = is_holder node reading old has in
              let end = ltb-true (reading + term) (2 ^ 64) is in
              written old (record old { until = max old.until (reading + term) }) found (omega (arith, holder.begun, word)) (λ was. omega (arith, was, end)) (λ _. longer refl refl (omega arith))
          by true has false is = same
          by false has b is = same

      given_back_leaves : (o : Option Lease) → lease_of name v.blocks ≡ o → (name ≡ other → cuts node ≡ true) → LeavesBy (given_back v name node reading o)
      given_back_leaves None found allowed = same
      given_back_leaves (Some old) found allowed = by (is_held node reading old) refl
        where
          by : (a : Bool) → is_held node reading old ≡ a → LeavesBy (if a then (with_lease name (record old { until = reading }) v, released name) else (v, lost name))
          by true has =
              let holder = is_holder node reading old has in
              written old (record old { until = reading }) found (omega (arith, holder.begun, word)) (λ _. word) (λ e. shorter refl refl holder.begun (subst (λ (x : ℕ). cuts x ≡ true) (sym holder.holder) (allowed e)))
          by false has = same

-- ---- a turn

-- what a message cuts
abbrev pub cuts_by : List ℕ → Message → ℕ → Bool
cuts_by other m node = m.from == node && releases other (command_of m.bytes)

module _ (v : Value) (m : Message) (other : List ℕ) (holds : Holds (lease_of other v.blocks)) where
  abbrev Keeps : Value → Type 0
  Keeps after = Follows (cuts_by other m) (lease_of other v.blocks) (lease_of other after.blocks)

  kept : Keeps v
  kept = stays (cuts_by other m) (lease_of other v.blocks) holds

  decided_keeps : (reading : ℕ) (name : List ℕ) (action : Action) → reading < 2 ^ 64 → command_of m.bytes ≡ Some (name, action) → Keeps (decided v m.from reading name action).0
  decided_keeps reading name (Acquire term) word is = acquired_leaves (cuts_by other m) v other holds name (named_in (at_space m.bytes) (name, Acquire term) is) m.from reading word term (lease_of name v.blocks) refl
  decided_keeps reading name (Renew term) word is = renewed_leaves (cuts_by other m) v other holds name (named_in (at_space m.bytes) (name, Renew term) is) m.from reading word term (lease_of name v.blocks) refl
  decided_keeps reading name Release word is = given_back_leaves (cuts_by other m) v other holds name (named_in (at_space m.bytes) (name, Release) is) m.from reading word (lease_of name v.blocks) refl allowed
    where
      allowed : name ≡ other → cuts_by other m m.from ≡ true
      allowed e =
          let own : (m.from == m.from) ≡ true = eq-eqb m.from m.from refl in
          let same : bytes_eq name other ≡ true = (bytes_eq-Decides name other).1 e in
          rw (own, is, same) refl

  quiet : (draws : List ℕ) (x e : Effect) → x.value ≡ v → without_draws draws x ≡ Some e → Keeps e.value
  quiet [] x e is made = let same : x ≡ e = cc in subst Keeps (sym is ∙ ap (λ (y : Effect). y.value) same) kept
  quiet (d ∷ ds) x e is made = absurd cc

  answer_value : (b : Bool) → (if b then answered v m.bytes else refused v).value ≡ v
  answer_value true = refl
  answer_value false = refl

  asked_value : (nodes : ℕ) (o : Option (List ℕ × Action)) → (asked nodes v m.bytes o).value ≡ v
  asked_value nodes None = refl
  asked_value nodes (Some command) = refl

  taken_keeps : (o : Option (List ℕ × Action)) (draws : List ℕ) (e : Effect) → command_of m.bytes ≡ o → AllByRecursion (λ (d : ℕ). d < 2 ^ 64) draws → taken v m.from m.bytes o draws ≡ Some e → Keeps e.value
  taken_keeps None draws e is words made = quiet draws _ e (answer_value (is_answer (at_space m.bytes))) made
  taken_keeps (Some command) [] e is words made = absurd cc
  taken_keeps (Some command) (reading ∷ []) e is words made =
      let decision = decided v m.from reading command.0 command.1 in
      let same : sent decision.0 m.from decision.1 ≡ e = cc in
      subst Keeps (ap (λ (y : Effect). y.value) same) (decided_keeps reading command.0 command.1 words.0 is)
  taken_keeps (Some command) (reading ∷ d ∷ ds) e is words made = absurd cc

  either_keeps : (b : Bool) (nodes : ℕ) (draws : List ℕ) (e : Effect) → AllByRecursion (λ (d : ℕ). d < 2 ^ 64) draws
      → (if b then without_draws draws (asked nodes v m.bytes (command_of m.bytes)) else taken v m.from m.bytes (command_of m.bytes) draws) ≡ Some e → Keeps e.value
  either_keeps true nodes draws e words made = quiet draws _ e (asked_value nodes (command_of m.bytes)) made
  either_keeps false nodes draws e words made = taken_keeps (command_of m.bytes) draws e refl words made

  defined_keeps : (node nodes : ℕ) (draws : List ℕ) (e : Effect) → AllByRecursion (λ (d : ℕ). d < 2 ^ 64) draws → leases_after node nodes v m draws ≡ Some e → Keeps e.value
  unfolding leases_after
  defined_keeps node nodes draws e words made = either_keeps (m.from == OUTSIDE) nodes draws e words made

  pub turn_keeps : (node nodes : ℕ) (draws : List ℕ) (e : Effect) → AllByRecursion (λ (d : ℕ). d < 2 ^ 64) draws → (limited leases).after node nodes v m draws ≡ Some e → Keeps e.value
  turn_keeps node nodes draws e words made = elim (within_some nodes v (leases_after node nodes v m draws) e made) [
    | inl is ↦ defined_keeps node nodes draws e words is
    | inr beyond ↦ subst Keeps (sym (ap (λ (y : Effect). y.value) beyond)) kept
  ]
