-- A node whose pages changed, and nothing else but whether it is up.
use Rattle.std.proofs.Common.{◌≡◌, ℕ, ◌-◌, ◌<◌, ◌≤◌, max, slice_index, length, slice_get, slice_set, slice_index_or, Some, Bool, true, false, IsTrue, List, refl, sym, ap, ◌∙◌, subst}
use Rattle.ken_model.specs.Game.{Game}
use Rattle.ken_cover.specs.Sides.{TurnPages, ImagePages, patched_page}
use Rattle.ken_cover.proofs.Keeps.{patch_keeps_coverage, recovery_keeps_coverage}
use Rattle.ken_cover.specs.Covers.{Covers}
use Rattle.ken_core.specs.declared.machine.Machine.{Machine}
use Rattle.ken_core.specs.declared.pages.Pages.{Pages}
use Rattle.ken_core.specs.Nodes.{Node, heap_pages}
use Rattle.ken_model.specs.declared.reports.Emission.{Emission}
use Rattle.ken_core.specs.declared.events.Event.{Event}
use Rattle.ken_core.specs.declared.events.Event.TheVariants.{Patch, TakeAck, Recover}
use Rattle.std.specs.List.{AllByRecursion}
use Rattle.std.proofs.lemmas.List.{length-set}
use Rattle.ken_record.specs.declared.effects.Effects.{Effects}
use Rattle.ken_core.specs.declared.ledger.Ledger.{Ledger}
use Rattle.ken_core.specs.Turns.{mails_to}
use Rattle.ken_core.specs.Sets.{has, has_at}
use Rattle.ken_core.specs.Ledgers.{IsLedger}
use Rattle.ken_core.specs.Marking.{KeepsRest}
use Rattle.ken_core.specs.Machines.{turn_pages, image_pages, ArePages, KeepsWidths, Writes, IsWritten}
use Rattle.ken_core.specs.Packets.{nothing, outgoing}
use Rattle.ken_core.specs.Steps.{NodeStep, recovered_node, acked_node}
use Rattle.ken_core.specs.Clusters.{WasPut, Step, node_of}
use Rattle.ken_core.proofs.Moves.{quiet, barred, still_kept}
use Rattle.std.proofs.Math.Seq.{map-set_same}
use Rattle.std.proofs.lemmas.Option.{get_or_from_slice_get}
use Rattle.ken_core.specs.Groups.{Shown, shown, no_show, node_in, group_of, IsKept, AreKept, made_by, Plays}

-- the node with other pages
abbrev pub with_sides : Bool → TurnPages → ImagePages → Node → Node
with_sides up t i n = record n { turning = record n.turning { up = up; pages = t }; patching = i }

abbrev pub with_pages_in : Bool → Pages → Machine → Machine
with_pages_in up p m = record m { up = up; pages = p }

pub repaged : (m : Machine) (up : Bool) (p : Pages) (t : TurnPages) (i : ImagePages) → turn_pages p ≡ t → image_pages p ≡ i → node_in (with_pages_in up p m) ≡ with_sides up t i (node_in m)
repaged m up p t i turning image = ap (λ x. with_sides up x (image_pages p) (node_in m)) turning ∙ ap (λ x. with_sides up t x (node_in m)) image

pub pages_kept : (n : ℕ) (up : Bool) (p : Pages) (t : TurnPages) (i : ImagePages) → turn_pages p ≡ t → image_pages p ≡ i → Covers n up t i → length p.unclean ≡ n → length p.opened ≡ n → ArePages n up p
pages_kept n up p t i turning image covers unclean opened = record {
  covers = subst (λ x. Covers n up x (image_pages p)) (sym turning) (subst (λ x. Covers n up t x) (sym image) covers);
  unclean = unclean;
  opened = opened;
}

pub repaged_kept : (g : Game) (made v : ℕ) (m : Machine) (up : Bool) (p : Pages) → IsKept g made v m → ArePages (heap_pages g) up p → IsKept g made v (with_pages_in up p m)
repaged_kept g made v m up p kept pages = record {
  ledger = kept.ledger;
  pages = pages;
  acked = kept.acked;
  retired = kept.retired;
  mailed = kept.mailed;
  answered = kept.answered;
  put = kept.put;
  early = kept.early;
}

-- what such an event makes of the group
pub record IsMoved (g : Game) (ms ms2 : List Machine) (es es2 : List Emission) (e : Event) : Type 0 where
  pub step : Step g (group_of g ms es) e (group_of g ms2 es2)
  pub kept : AreKept g ms2

pub repaged_moved : (g : Game) (ms : List Machine) (es : List Emission) (e : Event) (v k : ℕ) (m : Machine) (up : Bool) (p : Pages) (t : TurnPages) (i : ImagePages) → AreKept g ms → slice_get ms v ≡ Some m → k ≡ v → v < g.nodes → node_of e ≡ v → outgoing v (node_in m) e ≡ nothing
    → turn_pages p ≡ t → image_pages p ≡ i → KeepsWidths m.pages p → NodeStep g (WasPut (group_of g ms es)) v (node_in m) e (with_sides up t i (node_in m)) → Covers (heap_pages g) up t i
    → IsMoved g ms (slice_set ms k (with_pages_in up p m)) es es e
repaged_moved g ms es e v k m up p t i kept is same known at none turning image widths step covers =
    let mine = kept.each v m is in
    let pages = pages_kept (heap_pages g) up p t i turning image covers (widths.0 ∙ mine.pages.unclean) (widths.1 ∙ mine.pages.opened) in
    let there : NodeStep g (WasPut (group_of g ms es)) v (node_in m) e (node_in (with_pages_in up p m)) = subst (λ (n : Node). NodeStep g (WasPut (group_of g ms es)) v (node_in m) e n) (sym (repaged m up p t i turning image)) step in
    subst (λ x. IsMoved g ms (slice_set ms x (with_pages_in up p m)) es es e) (sym same)
    (record {
      step = quiet g ms v m (with_pages_in up p m) is es es e at known none there (λ w number. refl) (λ w through. refl) refl;
      kept = still_kept g ms v m (with_pages_in up p m) is kept refl (repaged_kept g (made_by ms) v m up p mine pages);
    })

-- whether it happened or not
pub record IsPlayed (g : Game) (ms ms2 : List Machine) (es es2 : List Emission) (e : Event) (happened : Bool) : Type 0 where
  pub plays : Plays g (group_of g ms es) e (group_of g ms2 es2) happened
  pub kept : AreKept g ms2

-- the same group where a node shows the same
pub same_group : (g : Game) (ms : List Machine) (es : List Emission) (v : ℕ) (m m2 : Machine) → slice_get ms v ≡ Some m → shown m2 ≡ shown m → group_of g (slice_set ms v m2) es ≡ group_of g ms es
same_group g ms es v m m2 is same =
    ap (λ (ss : List Shown). record { node = λ u. (slice_index_or ss u (no_show g)).node; mail = λ u w number. (slice_index_or ss u (no_show g)).mail w number; answer = λ u w through. (slice_index_or ss u (no_show g)).answer w through; emissions = es })
    (map-set_same shown ms v m2 m (same ∙ ap shown (sym (get_or_from_slice_get ms v m m is))))

pub repaged_none : (g : Game) (ms : List Machine) (es : List Emission) (e : Event) (v k : ℕ) (m : Machine) (p : Pages) → AreKept g ms → slice_get ms v ≡ Some m → k ≡ v → node_of e ≡ v
    → turn_pages p ≡ turn_pages m.pages → image_pages p ≡ image_pages m.pages → KeepsWidths m.pages p → ((n2 : Node) → NodeStep g (WasPut (group_of g ms es)) v (node_in m) e n2 → ⊥)
    → IsPlayed g ms (slice_set ms k (with_pages_in m.up p m)) es es e false
repaged_none g ms es e v k m p kept is same at turning image widths none =
    let mine = kept.each v m is in
    let pages = pages_kept (heap_pages g) m.up p (turn_pages m.pages) (image_pages m.pages) turning image mine.pages.covers (widths.0 ∙ mine.pages.unclean) (widths.1 ∙ mine.pages.opened) in
    let looks : shown (with_pages_in m.up p m) ≡ shown m = ap (λ (n : Node). record { node = n; mail = (shown m).mail; answer = (shown m).answer }) (repaged m m.up p (turn_pages m.pages) (image_pages m.pages) turning image) in
    subst (λ x. IsPlayed g ms (slice_set ms x (with_pages_in m.up p m)) es es e false) (sym same)
    (record {
      plays = (barred g ms v m (with_pages_in m.up p m) is es es e at none, same_group g ms es v m (with_pages_in m.up p m) is looks);
      kept = still_kept g ms v m (with_pages_in m.up p m) is kept refl (repaged_kept g (made_by ms) v m m.up p mine pages);
    })

-- a patch
pub patch_played : (g : Game) (ms : List Machine) (es : List Emission) (v k page : ℕ) (m : Machine) (p : Pages) (happened : Bool) → AreKept g ms → slice_get ms v ≡ Some m → k ≡ v → v < g.nodes → m.up ≡ true
    → (IsTrue happened → Writes page (image_pages m.pages) (image_pages p)) → (happened ≡ false → IsWritten page (image_pages m.pages)) → (happened ≡ false → image_pages p ≡ image_pages m.pages) → turn_pages p ≡ turn_pages m.pages → KeepsWidths m.pages p
    → IsPlayed g ms (slice_set ms k (with_pages_in m.up p m)) es es (Patch v page) happened
patch_played g ms es v k page m p true kept is same known up made none unchanged turning widths =
    let w = made refl in
    let first = w.0 in
    let rest = w.1.0 in
    let c = w.1.1.0 in
    let patch = w.1.1.1.0 in
    let image : image_pages p ≡ patched_page first rest c (image_pages m.pages) = w.1.1.1.1 in
    let covers = subst (λ b. Covers (heap_pages g) b (turn_pages m.pages) (image_pages m.pages)) up (kept.each v m is).pages.covers in
    let after = patch_keeps_coverage (heap_pages g) (turn_pages m.pages) (image_pages m.pages) page first rest c patch covers in
    let moved = repaged_moved g ms es (Patch v page) v k m m.up p (turn_pages m.pages) (patched_page first rest c (image_pages m.pages)) kept is same known refl refl turning image widths
    (first, (rest, (c, (up, patch, refl))))
    (subst (λ b. Covers (heap_pages g) b (turn_pages m.pages) (patched_page first rest c (image_pages m.pages))) (sym up) after) in
    record { plays = moved.step; kept = moved.kept }
patch_played g ms es v k page m p false kept is same known up made none unchanged turning widths =
    repaged_none g ms es (Patch v page) v k m p kept is same refl turning (unchanged refl) widths (λ n2 step. none refl step.0 step.1.0 step.1.1.0 step.1.1.1.1)

-- any other change of a node, which keeps its ledger and what it put
module _ (g : Game) (ms : List Machine) (es : List Emission) (v k : ℕ) (m m2 : Machine) (n2 : Node) (kept : AreKept g ms) (is : slice_get ms v ≡ Some m) (same : k ≡ v) (new : node_in m2 ≡ n2) (rest : KeepsRest m m2) where
  renoded_looks : (shown m2).mail ≡ (shown m).mail
  renoded_looks = ap (λ (l : Ledger). (shown (record m2 { ledger = l })).mail) rest.ledger ∙ ap (λ sets. (shown (record m { mailed = sets })).mail) rest.mailed

  renoded_answers : (shown m2).answer ≡ (shown m).answer
  renoded_answers = ap (λ sets. (shown (record m { answered = sets })).answer) rest.answered

  renoded_kept : Covers (heap_pages g) n2.turning.up n2.turning.pages n2.patching → length n2.sending.acked ≡ g.nodes → length n2.turning.retired ≡ g.nodes → IsKept g (made_by ms) v m2
  renoded_kept covers acked retired =
      let mine = kept.each v m is in
      let up : m2.up ≡ n2.turning.up = ap (λ (n : Node). n.turning.up) new in
      record {
        ledger = subst (λ (l : Ledger). IsLedger g v l) (sym rest.ledger) mine.ledger;
        pages = subst (λ b. ArePages (heap_pages g) b m2.pages) (sym up)
            (pages_kept (heap_pages g) n2.turning.up m2.pages n2.turning.pages n2.patching (ap (λ (n : Node). n.turning.pages) new) (ap (λ (n : Node). n.patching) new) covers (rest.widths.0 ∙ mine.pages.unclean) (rest.widths.1 ∙ mine.pages.opened));
        acked = ap (λ (n : Node). length n.sending.acked) new ∙ acked;
        retired = ap (λ (n : Node). length n.turning.retired) new ∙ retired;
        mailed = ap (λ sets. length sets.items) rest.mailed ∙ mine.mailed;
        answered = ap (λ sets. length sets.items) rest.answered ∙ mine.answered;
        put = λ w number has. subst (λ (l : Ledger). number - 1 < length (mails_to v w l.turns.items)) (sym rest.ledger) (mine.put w number (ap (λ sets. has_at sets.items w number) (sym rest.mailed) ∙ has));
        early = subst (λ (l : Ledger). AllByRecursion (λ (e : Effects). e.stamp ≤ made_by ms) l.turns.items) (sym rest.ledger) mine.early;
      }

  pub renoded_played : (e : Event) → node_of e ≡ v → v < g.nodes → outgoing v (node_in m) e ≡ nothing → NodeStep g (WasPut (group_of g ms es)) v (node_in m) e n2
      → Covers (heap_pages g) n2.turning.up n2.turning.pages n2.patching → length n2.sending.acked ≡ g.nodes → length n2.turning.retired ≡ g.nodes → IsPlayed g ms (slice_set ms k m2) es es e true
  renoded_played e at known none step covers acked retired =
      subst (λ x. IsPlayed g ms (slice_set ms x m2) es es e true) (sym same)
      (record {
        plays = quiet g ms v m m2 is es es e at known none (subst (λ (n : Node). NodeStep g (WasPut (group_of g ms es)) v (node_in m) e n) (sym new) step) (λ w number. ap (λ f. f w number) renoded_looks) (λ w through. ap (λ f. f w through) renoded_answers) refl;
        kept = still_kept g ms v m m2 is kept rest.ledger (renoded_kept covers acked retired);
      })

  -- nothing changed
  pub renoded_same : n2 ≡ node_in m → (group_of g (slice_set ms k m2) es ≡ group_of g ms es) × AreKept g (slice_set ms k m2)
  renoded_same none =
      let mine = kept.each v m is in
      let looks : shown m2 ≡ shown m = ap (λ (n : Node). record { node = n; mail = (shown m2).mail; answer = (shown m2).answer }) (new ∙ none) ∙ ap (λ f. record { node = node_in m; mail = f; answer = (shown m2).answer }) renoded_looks ∙ ap (λ f. record { node = node_in m; mail = (shown m).mail; answer = f }) renoded_answers in
      let there : IsKept g (made_by ms) v m2 = renoded_kept
      (subst (λ (n : Node). Covers (heap_pages g) n.turning.up n.turning.pages n.patching) (sym none) mine.pages.covers) (ap (λ (n : Node). length n.sending.acked) none ∙ mine.acked) (ap (λ (n : Node). length n.turning.retired) none ∙ mine.retired) in
      subst (λ x. (group_of g (slice_set ms x m2) es ≡ group_of g ms es) × AreKept g (slice_set ms x m2)) (sym same)
      (same_group g ms es v m m2 is looks, still_kept g ms v m m2 is kept rest.ledger there)

-- a recovery
pub recovered_played : (g : Game) (ms : List Machine) (es : List Emission) (v k : ℕ) (m m2 : Machine) → AreKept g ms → slice_get ms v ≡ Some m → k ≡ v → v < g.nodes → m.up ≡ false → ((p : ℕ) → has m.pages.opened p ≡ false) → node_in m2 ≡ recovered_node (node_in m) → KeepsRest m m2 → IsPlayed g ms (slice_set ms k m2) es es (Recover v) true
recovered_played g ms es v k m m2 kept is same known down none new rest =
    let mine = kept.each v m is in
    renoded_played g ms es v k m m2 (recovered_node (node_in m)) kept is same new rest (Recover v) refl known refl (down, none, refl)
    (recovery_keeps_coverage (heap_pages g) m.up (turn_pages m.pages) (image_pages m.pages) mine.pages.covers).covers mine.retired mine.retired

-- an acknowledgement is taken
pub acked_played : (g : Game) (ms : List Machine) (es : List Emission) (v k from through : ℕ) (m m2 : Machine) → AreKept g ms → slice_get ms v ≡ Some m → k ≡ v → v < g.nodes → m.up ≡ true → from < g.nodes → IsTrue ((group_of g ms es).answer from v through)
    → m2 ≡ record m { acked = m2.acked } → m2.acked.items ≡ slice_set m.acked.items from (max (slice_index m.acked.items from) through) → IsPlayed g ms (slice_set ms k m2) es es (TakeAck v from through) true
acked_played g ms es v k from through m m2 kept is same known up there put rest acked =
    let mine = kept.each v m is in
    let new : node_in m2 ≡ acked_node from through (node_in m) = ap node_in rest ∙ ap (λ xs. record (node_in m) { sending = record { acked = xs; emitted = m.emitted } }) acked in
    renoded_played g ms es v k m m2 (acked_node from through (node_in m)) kept is same new
    (record { ledger = ap (λ (x : Machine). x.ledger) rest; mailed = ap (λ (x : Machine). x.mailed) rest; answered = ap (λ (x : Machine). x.answered) rest; widths = subst (λ (x : Machine). KeepsWidths m.pages x.pages) (sym rest) (refl, refl) })
    (TakeAck v from through) refl known refl (up, there, put, refl) mine.pages.covers (length-set m.acked.items from (max (slice_index m.acked.items from) through) ∙ mine.acked) mine.retired

-- a node that is as it was
pub unmoved_kept : (g : Game) (ms : List Machine) (es : List Emission) (v k : ℕ) (m m2 : Machine) → AreKept g ms → slice_get ms v ≡ Some m → k ≡ v → m2 ≡ m → (group_of g (slice_set ms k m2) es ≡ group_of g ms es) × AreKept g (slice_set ms k m2)
unmoved_kept g ms es v k m m2 kept is same unchanged =
    subst (λ x. (group_of g (slice_set ms x m2) es ≡ group_of g ms es) × AreKept g (slice_set ms x m2)) (sym same)
    (same_group g ms es v m m2 is (ap shown unchanged), still_kept g ms v m m2 is kept (ap (λ (x : Machine). x.ledger) unchanged) (subst (λ (x : Machine). IsKept g (made_by ms) v x) (sym unchanged) (kept.each v m is)))
