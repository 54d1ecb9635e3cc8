-- The terms of a name at a node don't overlap.
use Rattle.std.proofs.Common.{◌≡◌, ℕ, ◌+◌, ◌^◌, ◌<◌, ◌≤◌, List, [], ◌∷◌, Bool, true, false, ◌==◌, ◌&&◌, nat_lt, if◌then◌else◌, Option, Some, None, refl, sym, ◌∙◌, ap, subst, arith, eq-eqb}
use Rattle.std.specs.Prelude.{max, option_and_then}
use Rattle.std.specs.List.{AllByRecursion}
use Rattle.std.proofs.lemmas.Bool.{eqb-true, ltb-true}
use Rattle.ken_model.specs.declared.messages.Message.{Message}
use Rattle.ken_model.specs.declared.messages.Step.{Step}
use Rattle.ken_model.specs.Effects.{Effect}
use Rattle.ken_model.specs.Game.{Game}
use Rattle.ken_model.specs.Network.{Network, Turn, start, front, handled, are_words, turn_at, turn_of, place_after, applied_or_same, stepped}
use Rattle.ken_app.specs.Limited.{limited}
use Rattle.ken_leases.specs.declared.blocks.Lease.{Lease}
use Rattle.ken_leases.specs.Laws.{gives_back, with_term, terms_from, AreApart, LeasesNeverOverlap}
use Rattle.ken_leases.specs.Leases.{lease_of, leases}
use Rattle.ken_leases.proofs.Decisions.{IsNext, later, longer, shorter, Follows, Holds, stays, then_some, map_some, left_some, turn_keeps}

-- ---- terms with the lease that stands after them

-- the latest term is the lease that stands
abbrev Shows : Option Lease → List Lease → Type 0
Shows None terms = terms ≡ []
Shows (Some now) terms = (earlier : List Lease) × (terms ≡ now ∷ earlier)

record IsSound (o : Option Lease) (terms : List Lease) : Type 0 where
  shows : Shows o terms
  holds : Holds o
  apart : AreApart terms

-- all ended before an earlier time
ended : (early late : ℕ) (terms : List Lease) → early ≤ late → AllByRecursion (λ (e : Lease). e.until ≤ early) terms → AllByRecursion (λ (e : Lease). e.until ≤ late) terms
ended early late [] less all = tt
ended early late (t ∷ ts) less all = (omega (arith, all.0, less), ended early late ts less all.1)

module _ (cuts : ℕ → Bool) (was now : Lease) (earlier : List Lease) (holds : now.until < 2 ^ 64) (apart : AreApart (was ∷ earlier)) where
  abbrev Latest : Bool → Bool → List Lease
  Latest one cut = if one then (if cut then now else record now { until = max was.until now.until }) ∷ earlier else now ∷ was ∷ earlier

  alone : now.from ≡ was.from → now.from ≤ now.until → IsSound (Some now) (now ∷ earlier)
  alone from order = record { shows = (earlier, refl); holds = holds; apart = (order, ended was.from now.from earlier (omega (arith, from)) apart.1, apart.2) }

  one_term : now.holder ≡ was.holder → now.from ≡ was.from → (now.holder == was.holder && (now.from == was.from)) ≡ true
  one_term holder from = rw (eq-eqb now.holder was.holder holder, eq-eqb now.from was.from from) refl

  extended : now.from ≡ was.from → was.until ≤ now.until → (cut : Bool) → IsSound (Some now) (Latest true cut)
  extended from more true = alone from (omega (arith, apart.0, from, more))
  extended from more false =
      let longest : max was.until now.until ≡ now.until = omega (arith, more) in
      let same : record now { until = max was.until now.until } ≡ now = ap (λ (x : ℕ). (let l : Lease = record now { until = x } in l)) longest in
      subst (λ (l : Lease). IsSound (Some now) (l ∷ earlier)) (sym same) (alone from (omega (arith, apart.0, from, more)))

  added : was.until ≤ now.from → now.from ≤ now.until → IsSound (Some now) (now ∷ was ∷ earlier)
  added past order = record { shows = (was ∷ earlier, refl); holds = holds; apart = (order, (past, ended was.from now.from earlier (omega (arith, apart.0, past)) apart.1), apart) }

  next_sound : IsNext cuts was now → IsSound (Some now) (with_term cuts (Some now) (was ∷ earlier))
  next_sound (later past order) = by (now.holder == was.holder) (now.from == was.from) refl
    where
      by : (h f : Bool) → (now.from == was.from) ≡ f → IsSound (Some now) (Latest (h && f) (cuts was.holder))
      by true true is = extended (eqb-true now.from was.from is) (omega (arith, past, order)) (cuts was.holder)
      by true false is = added past order
      by false f is = added past order
  next_sound (longer holder from more) = subst (λ (b : Bool). IsSound (Some now) (Latest b (cuts was.holder))) (sym (one_term holder from)) (extended from more (cuts was.holder))
  next_sound (shorter holder from order cut) =
      subst (λ (b : Bool). IsSound (Some now) (Latest b (cuts was.holder))) (sym (one_term holder from))
      (subst (λ (c : Bool). IsSound (Some now) (Latest true c)) (sym cut) (alone from order))

sound_after : (cuts : ℕ → Bool) (o p : Option Lease) (terms : List Lease) → IsSound o terms → Follows cuts o p → IsSound p (with_term cuts p terms)
sound_after cuts None None terms sound follows = sound
sound_after cuts None (Some now) terms sound follows = subst (λ (ts : List Lease). IsSound (Some now) (with_term cuts (Some now) ts)) (sym sound.shows) (record { shows = ([], refl); holds = follows.1; apart = (follows.0, tt, tt) })
sound_after cuts (Some was) None terms sound follows = absurd follows
sound_after cuts (Some was) (Some now) terms sound follows =
    let earlier = sound.shows.0 in
    let apart : AreApart (was ∷ earlier) = subst AreApart sound.shows.1 sound.apart in
    subst (λ (ts : List Lease). IsSound (Some now) (with_term cuts (Some now) ts)) (sym sound.shows.1) (next_sound cuts was now earlier follows.1 apart follows.0)

-- ---- a step

all_words : (draws : List ℕ) → are_words draws ≡ true → AllByRecursion (λ (d : ℕ). d < 2 ^ 64) draws
all_words [] is = tt
all_words (d ∷ ds) is = by (nat_lt d (2 ^ 64)) refl is (all_words ds)
  where
    by : (b : Bool) → nat_lt d (2 ^ 64) ≡ b → b && are_words ds ≡ true → (are_words ds ≡ true → AllByRecursion (λ (x : ℕ). x < 2 ^ 64) ds) → AllByRecursion (λ (x : ℕ). x < 2 ^ 64) (d ∷ ds)
    by true word rest all = (ltb-true d (2 ^ 64) word, all rest)
    by false word rest all = absurd cc

-- what a turn is made of
record IsMade (g : Game) (w : Network) (s : Step) (t : Turn) : Type 0 where
  words : AllByRecursion (λ (d : ℕ). d < 2 ^ 64) s.draws
  made : g.handler.after s.node g.nodes (w.place s.node).value t.message s.draws ≡ Some t.effect

turn_made : (g : Game) (w : Network) (s : Step) (m : Message) (t : Turn) → turn_at g s.node (w.place s.node) s.draws m ≡ Some t → IsMade g w s t
unfolding turn_at
turn_made g w s m t is =
    let p = w.place s.node in
    let e = map_some (λ (e : Effect). (let t : Turn = record { message = m; draws = s.draws; stamp = max p.stamp m.stamp + 1; effect = e } in t)) (handled g s.node p.value m s.draws) t is in
    let some = left_some (are_words s.draws) (g.handler.after s.node g.nodes p.value m s.draws) e.0 e.1 in
    record {
      words = all_words s.draws some.0;
      made = subst (λ (x : Turn). g.handler.after s.node g.nodes p.value x.message s.draws ≡ Some x.effect) e.2 some.1;
    }

is_made : (g : Game) (w : Network) (s : Step) (t : Turn) → turn_of g w s ≡ Some t → IsMade g w s t
is_made g w s t is =
    let left = left_some (nat_lt (w.place s.node).turns g.turns) (option_and_then (turn_at g s.node (w.place s.node) s.draws) (front (w.link s.from s.node))) t is in
    let m = then_some (turn_at g s.node (w.place s.node) s.draws) (front (w.link s.from s.node)) t left.1 in
    turn_made g w s m.0 t m.2

module _ (g : Game) (is_leases : g.handler ≡ limited leases) (v : ℕ) (name : List ℕ) where
  abbrev at : Network → Option Lease
  at w = lease_of name (w.place v).value.blocks

  abbrev After : Network → Turn → Bool → Option Lease
  After w t b = lease_of name (if b then place_after (w.place v) t else w.place v).value.blocks

  step_follows : (w : Network) (s : Step) (o : Option Turn) → turn_of g w s ≡ o → Holds (at w) → Follows (gives_back name o) (at w) (at (applied_or_same w s o))
  step_follows w s None is holds = stays (gives_back name None) (at w) holds
  step_follows w s (Some t) is holds = by (v == s.node) refl
    where
      by : (b : Bool) → (v == s.node) ≡ b → Follows (gives_back name (Some t)) (at w) (After w t b)
      by true here =
          let node : v ≡ s.node = eqb-true v s.node here in
          let turn = is_made g w s t is in
          let made : (limited leases).after s.node g.nodes (w.place v).value t.message s.draws ≡ Some t.effect = subst (λ (u : ℕ). (limited leases).after s.node g.nodes (w.place u).value t.message s.draws ≡ Some t.effect) (sym node) (sym (ap (λ h. h.after s.node g.nodes (w.place s.node).value t.message s.draws) is_leases) ∙ turn.made) in
          turn_keeps (w.place v).value t.message name holds s.node g.nodes s.draws t.effect turn.words made
      by false here = stays (gives_back name (Some t)) (at w) holds

  apart_from : (w : Network) (terms : List Lease) (ss : List Step) → IsSound (at w) terms → AreApart (terms_from g v name w terms ss)
  unfolding terms_from
  apart_from w terms [] sound = sound.apart
  apart_from w terms (s ∷ ss) sound =
      let follows = step_follows w s (turn_of g w s) refl sound.holds in
      apart_from (stepped g w s) (with_term (gives_back name (turn_of g w s)) (at (stepped g w s)) terms) ss (sound_after (gives_back name (turn_of g w s)) (at w) (at (stepped g w s)) terms sound follows)

pub leases_never_overlap : LeasesNeverOverlap
leases_never_overlap g schedule is_leases v name = apart_from g is_leases v name (start g) [] schedule (record { shows = refl; holds = tt; apart = tt })
