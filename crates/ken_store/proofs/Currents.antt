-- Which of two logs is current, by their headers.
use Rattle.std.proofs.Common.{◌≡◌, ℕ, Bool, true, false, ◌==◌, refl, sym, ap, subst, ◌∙◌, arith, Option, Some, None, Result, Ok, Err, List, ltb-true, ltb-false}
use Rattle.std.proofs.lemmas.Bool.{eqb-false}
use Rattle.std.specs.Prelude.{if◌then◌else◌, nat_lt, not}
use Rattle.ken_model.specs.declared.states.State.{State}
use Rattle.ken_disk.specs.Fates.{Fate}
use Rattle.ken_disk.specs.Story.{Story, Tells}
use Rattle.ken_record.specs.declared.header.Header.{Header}
use Rattle.ken_record.specs.declared.base.Base.{Base}
use Rattle.ken_record.specs.declared.record.Record.{Record}
use Rattle.ken_store.specs.declared.disks.Disks.{Disks}
use Rattle.ken_store.specs.declared.disks.Which.{Which}
use Rattle.ken_store.specs.declared.disks.Which.TheVariants.{First, Second}
use Rattle.ken_store.specs.declared.heads.Front.{Front}
use Rattle.ken_store.specs.declared.heads.Front.TheVariants.{Absent, Wrong, Begins}
use Rattle.ken_store.specs.declared.heads.Logs.{Logs}
use Rattle.ken_store.specs.declared.heads.Logs.TheVariants.{NoLogs, WrongHeader, Current}
use Rattle.ken_store.specs.declared.numbers.Numbers.{Numbers}
use Rattle.ken_store.specs.declared.owner.Owner.{Owner}
use Rattle.ken_store.specs.declared.state.Heads.{Heads}
use Rattle.ken_store.specs.Reads.{AreSame}
use Rattle.ken_store.specs.Logs.{front_of, logs_of, log_on, begun_by, current_head, other_head, AreHeads, is_owned, may_own}
use Rattle.ken_store.specs.Recovered.{numbers_of, state_of, with_numbers, checked}
use Rattle.ken_store.specs.Turning.{IsPassed}

-- what two logs are says what was read of each
abbrev HeadsOf : Logs → Front → Front → Type 0
HeadsOf NoLogs a b = Unit {0}
HeadsOf (WrongHeader which) a b = Unit {0}
HeadsOf (Current which first second) a b = AreHeads (record { which = which; first = first; second = second }) (log_on which a b) (log_on which b a)

some_same : (a b : Header) → Some a ≡ Some b → a ≡ b
some_same a b is = cc is

heads_greater : (a b : Header) (same less : Bool) → (a.generation == b.generation) ≡ same → nat_lt a.generation b.generation ≡ less
    → HeadsOf (if same then WrongHeader Second else Current (if less then Second else First) (Some a) (Some b)) (Begins a) (Begins b)
heads_greater a b true less is lt = tt
heads_greater a b false true is lt = record {
  this = refl;
  that = refl;
  older = λ head last is_head is_last.
      let h = some_same b head is_head in
      let l = some_same a last is_last in
      let under = ltb-true _ _ lt in
      omega (arith, under, ap (λ (x : Header). x.generation) h, ap (λ (x : Header). x.generation) l);
}
heads_greater a b false false is lt = record {
  this = refl;
  that = refl;
  older = λ head last is_head is_last.
      let h = some_same a head is_head in
      let l = some_same b last is_last in
      let over = ltb-false _ _ lt in
      let apart = eqb-false _ _ is in
      grind (arith, over, apart, ap (λ (x : Header). x.generation) h, ap (λ (x : Header). x.generation) l);
}

heads_by : (a b : Front) → HeadsOf (logs_of a b) a b
heads_by Wrong b = tt
heads_by Absent Wrong = tt
heads_by Absent Absent = tt
heads_by Absent (Begins b) = record { this = refl; that = refl; older = λ head last is_head is_last. absurd (let none : ⊥ = cc is_last in none) }
heads_by (Begins a) Wrong = tt
heads_by (Begins a) Absent = record { this = refl; that = refl; older = λ head last is_head is_last. absurd (let none : ⊥ = cc is_last in none) }
heads_by (Begins a) (Begins b) = heads_greater a b (a.generation == b.generation) (nat_lt a.generation b.generation) refl refl

pub heads_of : (a b : Front) (which : Which) (first second : Option Header) → logs_of a b ≡ Current which first second → AreHeads (record { which = which; first = first; second = second }) (log_on which a b) (log_on which b a)
heads_of a b which first second is = subst (λ (l : Logs). HeadsOf l a b) is (heads_by a b)

-- ---- and whose they are, where a recovery passed them

module _ (o : Owner) (which : Which) (base : Option Base) (records : List Record) (s : State) where
  both_own : (a b : Bool) (r : Result Numbers ℕ) → (if not a then Err (0, 0) else if not b then Err (2, 0) else with_numbers o which base records r) ≡ Ok s → (a ≡ true) × (b ≡ true)
  both_own false b r is = absurd (let none : ⊥ = cc is in none)
  both_own true false r is = absurd (let none : ⊥ = cc is in none)
  both_own true true r is = (refl, refl)

pub checked_own : (o : Owner) (which : Which) (first second : Option Header) (head : Header) (base : Option Base) (records : List Record) (s : State) → checked o which first second head base records ≡ Ok s → (may_own o first ≡ true) × (may_own o second ≡ true)
checked_own o which first second head base records s is = both_own o which base records s (may_own o first) (may_own o second) (numbers_of o head base records) is

-- and what they come to
module _ (o : Owner) (which : Which) (base : Option Base) (records : List Record) (s : State) (n : Numbers) where
  state_is : (a b : Bool) → (if not a then Err (0, 0) else if not b then Err (2, 0) else with_numbers o which base records (Ok n)) ≡ Ok s → s ≡ state_of o.node n base records
  state_is false b is = absurd (let none : ⊥ = cc is in none)
  state_is true false is = absurd (let none : ⊥ = cc is in none)
  state_is true true is = cc is

pub checked_state : (o : Owner) (which : Which) (first second : Option Header) (head : Header) (base : Option Base) (records : List Record) (s : State) (n : Numbers) → checked o which first second head base records ≡ Ok s → numbers_of o head base records ≡ Ok n → s ≡ state_of o.node n base records
checked_state o which first second head base records s n is numbers =
    state_is o which base records s n (may_own o first) (may_own o second)
    (subst (λ (r : Result Numbers ℕ). (if not (may_own o first) then Err (0, 0) else if not (may_own o second) then Err (2, 0) else with_numbers o which base records r) ≡ Ok s) numbers is)

begins_some : (o : Option Header) (head : Header) → Begins head ≡ begun_by o → o ≡ Some head
begins_some None head is = absurd (let none : ⊥ = cc is in none)
begins_some (Some h) head is = ap (λ (x : Header). Some x) (let same : h ≡ head = cc is in same)

on_both : (o : Owner) (h : Heads) → (may_own o h.first ≡ true) × (may_own o h.second ≡ true) → (may_own o (current_head h) ≡ true) × (may_own o (other_head h) ≡ true)
on_both o h both = by_which h.which
  where
    by_which : (w : Which) → (may_own o (log_on w h.first h.second) ≡ true) × (may_own o (log_on w h.second h.first) ≡ true)
    by_which First = both
    by_which Second = (both.1, both.0)

module _ (o : Owner) (h : Heads) (head : Header) (other : Front) (are : AreHeads h (Begins head) other) (own : (may_own o h.first ≡ true) × (may_own o h.second ≡ true)) where
  this_is : current_head h ≡ Some head
  this_is = begins_some (current_head h) head are.this

  pub current_own : is_owned o head ≡ true
  current_own = subst (λ (x : Option Header). may_own o x ≡ true) this_is (on_both o h own).0

  pub other_passed : IsPassed o head other
  other_passed = subst (λ (f : Front). IsPassed o head f) (sym are.that) (by_head (other_head h) refl)
    where
      by_head : (x : Option Header) → other_head h ≡ x → IsPassed o head (begun_by x)
      by_head None is = tt
      by_head (Some last) is = (are.older head last this_is is, subst (λ (y : Option Header). may_own o y ≡ true) is (on_both o h own).1)

-- ---- as the disks tell

module _ {D : Type 0} (told : D → Option Story) (faults : D → ℕ) (fate : D → Option Fate) (old new : Disks D) (same : AreSame told faults fate old new) (first second : Option Header) where
  pub heads_told : (which : Which) → Tells (told old.log) (λ l. Tells (told old.second) (λ s. logs_of (front_of l.now.seen) (front_of s.now.seen) ≡ Current which first second))
      → Tells (told (log_on which new.log new.second)) (λ c. Tells (told (log_on which new.second new.log)) (λ s. AreHeads (record { which = which; first = first; second = second }) (front_of c.now.seen) (front_of s.now.seen)))
  heads_told First logs c tc s ts =
      let l = sym same.log.story ∙ tc in
      let o = sym same.second.story ∙ ts in
      heads_of (front_of c.now.seen) (front_of s.now.seen) First first second (logs c l s o)
  heads_told Second logs c tc s ts =
      let l = sym same.log.story ∙ ts in
      let o = sym same.second.story ∙ tc in
      heads_of (front_of s.now.seen) (front_of c.now.seen) Second first second (logs s l c o)
