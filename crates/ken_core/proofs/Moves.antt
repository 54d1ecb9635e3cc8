-- One node of a group moves, and the others stay.
use Rattle.std.proofs.Common.{◌≡◌, ◌≢◌, ℕ, zero, suc, ◌+◌, ◌<◌, List, [], ◌∷◌, ◌++◌, map, get_or, length, Bool, Option, Some, None, slice_get, slice_set, slice_index_or, refl, sym, ap, ◌∙◌, subst, ⊎_elim, arith, append-nil, sum_by}
use Rattle.std.proofs.lemmas.Bool.{cases_eq}
use Rattle.std.proofs.lemmas.List.{map-set, length-set, length-map, get_or-set_same, get_or-set_other}
use Rattle.std.proofs.lemmas.List.Sums.{sum_by-cons}
use Rattle.std.proofs.lemmas.Option.{slice_get_within, get_or_from_slice_get, slice_get-map}
use Rattle.ken_model.specs.declared.messages.Message.{Message}
use Rattle.ken_model.specs.declared.reports.Emission.{Emission}
use Rattle.ken_model.specs.Game.{Game}
use Rattle.ken_core.specs.declared.events.Event.{Event}
use Rattle.ken_core.specs.declared.ledger.Ledger.{Ledger}
use Rattle.ken_core.specs.declared.machine.Machine.{Machine}
use Rattle.ken_core.specs.Nodes.{Node}
use Rattle.ken_core.specs.Packets.{Put, Outgoing, nothing, outgoing}
use Rattle.ken_core.specs.Steps.{NodeStep}
use Rattle.ken_core.specs.Clusters.{WasPut, Step, Changes, IsBarred, node_of, mail_after, answer_after, emissions_by}
use Rattle.ken_core.specs.Groups.{Shown, shown, no_show, shown_at, node_in, group_of, IsKept, AreKept, made_by}

pub slice_get-set_same : {A : Type 0} → (xs : List A) (i : ℕ) (y : A) → i < length xs → slice_get (slice_set xs i y) i ≡ Some y
slice_get-set_same [] i y within = absurd (omega arith)
slice_get-set_same (x ∷ xs) zero y within = refl
slice_get-set_same (x ∷ xs) (suc i) y within = slice_get-set_same xs i y (omega arith)

pub slice_get-set_other : {A : Type 0} → (xs : List A) (i j : ℕ) (y : A) → j ≢ i → slice_get (slice_set xs i y) j ≡ slice_get xs j
slice_get-set_other [] i j y ne = refl
slice_get-set_other (x ∷ xs) zero zero y ne = absurd (ne refl)
slice_get-set_other (x ∷ xs) zero (suc j) y ne = refl
slice_get-set_other (x ∷ xs) (suc i) zero y ne = refl
slice_get-set_other (x ∷ xs) (suc i) (suc j) y ne = slice_get-set_other xs i j y (λ e. ne (ap suc e))

pub sum_by-set : {A : Type 0} → (f : A → ℕ) (xs : List A) (i : ℕ) (x y : A) → slice_get xs i ≡ Some x → sum_by f (slice_set xs i y) + f x ≡ sum_by f xs + f y
sum_by-set f [] i x y is = absurd cc
sum_by-set f (z ∷ xs) zero x y is = let same : z ≡ x = cc in let e = ap f same in omega (arith, sum_by-cons f y xs, sum_by-cons f z xs)
sum_by-set f (z ∷ xs) (suc i) x y is = let e = sum_by-set f xs i x y is in omega (arith, sum_by-cons f z (slice_set xs i y), sum_by-cons f z xs)

-- a node of the group, by what a call reads
pub read_at : (g : Game) (ms : List Machine) (v k : ℕ) (m : Machine) → AreKept g ms → k ≡ v → v < g.nodes → m ≡ get_or ms k m → slice_get ms v ≡ Some m
read_at g ms v k m kept same known is = at ms v (omega (arith, kept.width)) (subst (λ i. m ≡ get_or ms i m) same is)
  where
    at : (ms : List Machine) (v : ℕ) → v < length ms → m ≡ get_or ms v m → slice_get ms v ≡ Some m
    at [] v within is = absurd (omega arith)
    at (x ∷ xs) zero within is = ap Some (sym is)
    at (x ∷ xs) (suc v) within is = at xs v (omega arith) is

pub kept_at : (g : Game) (ms : List Machine) (v k : ℕ) (m : Machine) → AreKept g ms → k ≡ v → v < g.nodes → m ≡ get_or ms k m → IsKept g (made_by ms) v m
kept_at g ms v k m kept same known is = kept.each v m (read_at g ms v k m kept same known is)

module _ (g : Game) (ms : List Machine) (v : ℕ) (m m2 : Machine) (is : slice_get ms v ≡ Some m) where
  pub within : v < length ms
  within = slice_get_within ms v m is

  pub before : shown_at g ms v ≡ shown m
  before = get_or_from_slice_get (map shown ms) v (shown m) (no_show g) (slice_get-map shown ms v ∙ ap (λ (o : Option Machine). some o) is)
    where
      some : Option Machine → Option Shown
      some None = None
      some (Some x) = Some (shown x)

  after : shown_at g (slice_set ms v m2) v ≡ shown m2
  after = ap (λ (ss : List Shown). slice_index_or ss v (no_show g)) (map-set shown ms v m2) ∙ get_or-set_same (map shown ms) v (shown m2) (no_show g) (omega (arith, within, length-map ms shown))

  pub others : (u : ℕ) → u ≢ v → shown_at g (slice_set ms v m2) u ≡ shown_at g ms u
  others u ne = ap (λ (ss : List Shown). slice_index_or ss u (no_show g)) (map-set shown ms v m2) ∙ get_or-set_other (map shown ms) v u (shown m2) (no_show g) ne

  -- the group is kept where the node is, which made no turn
  pub still_kept_many : AreKept g ms → length m2.ledger.turns.items ≡ length m.ledger.turns.items → IsKept g (made_by ms) v m2 → AreKept g (slice_set ms v m2)
  still_kept_many kept same mine =
      let as_many : made_by (slice_set ms v m2) ≡ made_by ms = omega (arith, sum_by-set (λ (x : Machine). length x.ledger.turns.items) ms v m m2 is, same) in
      record {
        limits = kept.limits;
        width = length-set ms v m2 ∙ kept.width;
        each = λ u x there. subst (λ n. IsKept g n u x) (sym as_many)
            (⊎_elim
            (λ (e : u ≡ v). let here : m2 ≡ x = let two : Some m2 ≡ Some x = sym (slice_get-set_same ms v m2 within) ∙ subst (λ k. slice_get (slice_set ms v m2) k ≡ Some x) e there in cc in
            subst (λ k. IsKept g (made_by ms) k x) (sym e) (subst (λ (y : Machine). IsKept g (made_by ms) v y) here mine))
            (λ ne. kept.each u x (sym (slice_get-set_other ms v u m2 ne) ∙ there))
            (cases_eq u v));
      }

  pub still_kept : AreKept g ms → m2.ledger ≡ m.ledger → IsKept g (made_by ms) v m2 → AreKept g (slice_set ms v m2)
  still_kept kept same mine = still_kept_many kept (ap (λ (l : Ledger). length l.turns.items) same) mine

  module _ (es es2 : List Emission) (e : Event) where
    -- it put and emitted what its event does
    pub moved : node_of e ≡ v → v < g.nodes → NodeStep g (WasPut (group_of g ms es)) v (node_in m) e (node_in m2)
        → ((u w number : ℕ) → u ≢ v → (old : Option Message) → mail_after u w number (outgoing v (node_in m) e).puts old ≡ old)
        → ((u w through : ℕ) → u ≢ v → (old : Bool) → answer_after u w through (outgoing v (node_in m) e).puts old ≡ old)
        → ((w number : ℕ) → (shown m2).mail w number ≡ mail_after v w number (outgoing v (node_in m) e).puts ((shown m).mail w number))
        → ((w through : ℕ) → (shown m2).answer w through ≡ answer_after v w through (outgoing v (node_in m) e).puts ((shown m).answer w through))
        → es2 ≡ es ++ emissions_by v (outgoing v (node_in m) e).outs
        → Step g (group_of g ms es) e (group_of g (slice_set ms v m2) es2)
    moved at known step far far_answer mail answer emitted = record {
      known = subst (λ k. k < g.nodes) (sym at) known;
      node = subst (λ k. NodeStep g (WasPut (group_of g ms es)) k (shown_at g ms k).node e (shown_at g (slice_set ms v m2) k).node) (sym at)
          (subst (λ (s : Shown). NodeStep g (WasPut (group_of g ms es)) v s.node e (shown_at g (slice_set ms v m2) v).node) (sym before)
          (subst (λ (s : Shown). NodeStep g (WasPut (group_of g ms es)) v (node_in m) e s.node) (sym after) step));
      rest = subst (λ k. Changes k (outgoing k (shown_at g ms k).node e) (group_of g ms es) (group_of g (slice_set ms v m2) es2)) (sym at)
          (subst (λ (s : Shown). Changes v (outgoing v s.node e) (group_of g ms es) (group_of g (slice_set ms v m2) es2)) (sym before) changes);
    }
      where
        mail_at : (w number : ℕ) → (shown_at g (slice_set ms v m2) v).mail w number ≡ mail_after v w number (outgoing v (node_in m) e).puts ((shown_at g ms v).mail w number)
        mail_at w number = ap (λ (s : Shown). s.mail w number) after ∙ mail w number ∙ ap (λ (s : Shown). mail_after v w number (outgoing v (node_in m) e).puts (s.mail w number)) (sym before)

        answer_at : (w through : ℕ) → (shown_at g (slice_set ms v m2) v).answer w through ≡ answer_after v w through (outgoing v (node_in m) e).puts ((shown_at g ms v).answer w through)
        answer_at w through = ap (λ (s : Shown). s.answer w through) after ∙ answer w through ∙ ap (λ (s : Shown). answer_after v w through (outgoing v (node_in m) e).puts (s.answer w through)) (sym before)

        changes : Changes v (outgoing v (node_in m) e) (group_of g ms es) (group_of g (slice_set ms v m2) es2)
        changes = record {
          others = λ u ne. ap (λ (s : Shown). s.node) (others u ne);
          mail = λ u w number. ⊎_elim
              (λ (same : u ≡ v). subst (λ x. (shown_at g (slice_set ms v m2) x).mail w number ≡ mail_after x w number (outgoing v (node_in m) e).puts ((shown_at g ms x).mail w number)) (sym same) (mail_at w number))
              (λ ne. ap (λ (s : Shown). s.mail w number) (others u ne) ∙ sym (far u w number ne ((shown_at g ms u).mail w number)))
              (cases_eq u v);
          answer = λ u w through. ⊎_elim
              (λ (same : u ≡ v). subst (λ x. (shown_at g (slice_set ms v m2) x).answer w through ≡ answer_after x w through (outgoing v (node_in m) e).puts ((shown_at g ms x).answer w through)) (sym same) (answer_at w through))
              (λ ne. ap (λ (s : Shown). s.answer w through) (others u ne) ∙ sym (far_answer u w through ne ((shown_at g ms u).answer w through)))
              (cases_eq u v);
          emissions = emitted;
        }

    -- an event that puts and emits nothing, of a node whose packets stay
    pub quiet : node_of e ≡ v → v < g.nodes → outgoing v (node_in m) e ≡ nothing → NodeStep g (WasPut (group_of g ms es)) v (node_in m) e (node_in m2)
        → ((w number : ℕ) → (shown m2).mail w number ≡ (shown m).mail w number) → ((w through : ℕ) → (shown m2).answer w through ≡ (shown m).answer w through) → es2 ≡ es → Step g (group_of g ms es) e (group_of g (slice_set ms v m2) es2)
    quiet at known none step mail answer emitted =
        let no_puts : [] ≡ (outgoing v (node_in m) e).puts = ap (λ (o : Outgoing). o.puts) (sym none) in
        moved at known step
        (λ u w number ne old. subst (λ (ps : List Put). mail_after u w number ps old ≡ old) no_puts refl)
        (λ u w through ne old. subst (λ (ps : List Put). answer_after u w through ps old ≡ old) no_puts refl)
        (λ w number. subst (λ (ps : List Put). (shown m2).mail w number ≡ mail_after v w number ps ((shown m).mail w number)) no_puts (mail w number))
        (λ w through. subst (λ (ps : List Put). (shown m2).answer w through ≡ answer_after v w through ps ((shown m).answer w through)) no_puts (answer w through))
        (emitted ∙ sym (append-nil es) ∙ ap (λ os. es ++ emissions_by v os) (ap (λ (o : Outgoing). o.outs) (sym none)))

    -- no step of it where the node has none
    pub barred : node_of e ≡ v → ((n2 : Node) → NodeStep g (WasPut (group_of g ms es)) v (node_in m) e n2 → ⊥) → IsBarred g (group_of g ms es) e
    barred at none w2 step = none (w2.node v)
        (subst (λ (s : Shown). NodeStep g (WasPut (group_of g ms es)) v s.node e (w2.node v)) before
        (subst (λ k. NodeStep g (WasPut (group_of g ms es)) k ((group_of g ms es).node k) e (w2.node k)) at step.node))
