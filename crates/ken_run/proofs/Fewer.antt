-- How much a node has still to do, by the node of the core that it stands for, and that each turn, patch and emission leaves less.
use Rattle.std.proofs.Common.{◌≡◌, ℕ, suc, ◌+◌, ◌-◌, ◌<◌, ◌≤◌, Bool, true, false, not, ◌==◌, if◌then◌else◌, List, [], ◌∷◌, ◌++◌, length, drop, Option, Some, None, refl, sym, ap, subst, ◌∙◌, arith, append-nil, length-append, eq-eqb}
use Rattle.std.specs.List.{Contains}
use Rattle.std.specs.Option.{option_or}
use Rattle.std.proofs.lemmas.List.{append_cancel_left, length_push, length-drop}
use Rattle.std.proofs.lemmas.Option.{slice_get_within}
use Rattle.ken_disk.specs.Story.{Story}
use Rattle.ken_model.specs.declared.messages.Out.{Out}
use Rattle.ken_model.specs.declared.reports.Emission.{Emission}
use Rattle.ken_model.specs.Game.{Game}
use Rattle.ken_model.specs.Network.{Place, Turn, first_place, place_after}
use Rattle.ken_model.specs.History.{AreTurns, place_of, places}
use Rattle.ken_record.specs.declared.effects.Effects.{Effects}
use Rattle.ken_cover.specs.declared.layers.Change.{Change}
use Rattle.ken_cover.specs.declared.layers.Layer.{Layer}
use Rattle.ken_cover.specs.Overlay.{newest_by}
use Rattle.ken_cover.specs.Sides.{ImagePages, IsPatch, changes_of, onto, patched_page, without_page}
use Rattle.ken_core.specs.declared.events.Event.{Event}
use Rattle.ken_core.specs.declared.events.Event.TheVariants.{Emit, Patch}
use Rattle.ken_core.specs.Accord.{Accord}
use Rattle.ken_core.specs.Calls.{Call, IsEmit, IsPatchOf}
use Rattle.ken_core.specs.Nodes.{Node}
use Rattle.ken_core.specs.Packets.{Outgoing, Packet}
use Rattle.ken_core.specs.Runs.{NodeRun}
use Rattle.ken_core.specs.Steps.{emitted_node, patched_node}
use Rattle.ken_core.specs.Turns.{outs_of}
use Rattle.ken_core.proofs.Numbers.{IsPlace-sealed}
use Rattle.ken_store.specs.Apart.{hand_all}
use Rattle.ken_ship.specs.declared.items.Sealed.{Sealed}
use Rattle.ken_ship.specs.Handing.{with_turns}
use Rattle.ken_ship.specs.Laws.{IsDueOf}
use Rattle.ken_ship.specs.Parts.{part_of}
use Rattle.ken_work.specs.declared.items.Frozen.{Frozen}
use Rattle.ken_node.specs.declared.stage.Stage.{Stage}
use Rattle.ken_work.specs.Patches.{waits_of}
use Rattle.ken_node.specs.Up.{IsUp}
use Rattle.ken_flow.specs.Groups.{group_of}
use Rattle.ken_run.specs.Left.{outputs_left, pages_left, turns_left}

-- a ring that holds nothing has no queue
pub no-queue : {T : Type 0} {all out queue : List T} → all ≡ out ++ queue → out ≡ all → queue ≡ []
no-queue {all} {out} {queue} ring emptied = append_cancel_left out queue [] (sym ring ∙ sym emptied ∙ sym (append-nil out))

-- ---- a node makes no more turns than the game has

places-few : (g : Game) (v : ℕ) (p : Place) (ts : List Turn) → AreTurns g v p ts → p.turns ≤ g.turns → (places p ts).turns ≤ g.turns
unfolding AreTurns
places-few g v p [] own few = few
places-few g v p (t ∷ ts) own few = places-few g v (place_after p t) ts own.2 (omega (arith, own.0))

pub few-turns : (g : Game) (nodes : ℕ → Node) (emissions : List Emission) (v : ℕ) → Accord g (group_of g nodes emissions) → length (nodes v).turning.turns ≤ g.turns
few-turns g nodes emissions v accord =
    let ts : List Turn = accord.history v in
    let is = accord.made.nodes v in
    let count : length (nodes v).turning.turns ≡ (place_of g ts).turns = ap (λ (es : List Effects). length es) is.turns ∙ (IsPlace-sealed g v ts).turns in
    let few : (place_of g ts).turns ≤ g.turns = places-few g v (first_place g) ts is.own (omega arith) in
    omega (arith, count, few)

-- ---- a patch leaves fewer pages

without-few : (q : ℕ) (cs : List Change) → length (without_page q cs) ≤ length cs
without-few q [] = omega arith
without-few q (x ∷ xs) = kept (x.page.page == q) (without-few q xs)
  where
    kept : (b : Bool) → length (without_page q xs) ≤ length xs → length (if not b then x ∷ without_page q xs else without_page q xs) ≤ suc (length xs)
    kept true few = omega (arith, few)
    kept false few = omega (arith, few)

-- the change that was found is gone
newest-gone : (p : ℕ) (cs : List Change) (c : Change) → newest_by (λ (x : Change). x.page) p cs ≡ Some c → length (without_page c.page.page cs) < length cs
newest-gone p [] c is = absurd cc
newest-gone p (x ∷ xs) c is = one (newest_by (λ (y : Change). y.page) p xs) (x.page.page == p) (λ y. newest-gone p xs y) is
  where
    later : (b : Bool) → length (without_page c.page.page xs) < length xs → length (if not b then x ∷ without_page c.page.page xs else without_page c.page.page xs) < suc (length xs)
    later true less = omega (arith, less)
    later false less = omega (arith, less)

    one : (o : Option Change) (b : Bool) → ((y : Change) → o ≡ Some y → length (without_page y.page.page xs) < length xs) → option_or o (if b then Some x else None) ≡ Some c → length (without_page c.page.page (x ∷ xs)) < length (x ∷ xs)
    one (Some y) b rest e = later (x.page.page == c.page.page) (rest c e)
    one None true rest e =
        let at : x ≡ c = cc in
        let few : length (without_page c.page.page xs) ≤ length xs = without-few c.page.page xs in
        rw (eq-eqb x.page.page c.page.page (ap (λ (y : Change). y.page.page) at)) (omega (arith, few))
    one None false rest e = absurd cc

changes-onto : (turn : ℕ) (cs : List Change) (layers : List Layer) → changes_of (onto turn cs layers) ≡ cs ++ changes_of layers
changes-onto turn [] layers = refl
changes-onto turn (c ∷ cs) layers = refl

patch-leaves-fewer : (i : ImagePages) (p : ℕ) (first : Layer) (rest : List Layer) (c : Change) → IsPatch i p first rest c → length (changes_of (patched_page first rest c i).ahead) < length (changes_of i.ahead)
patch-leaves-fewer i p first rest c is =
    let kept : List Change = without_page c.page.page first.changes in
    let less : length kept < length first.changes = newest-gone p first.changes c is.page in
    let was : length (changes_of i.ahead) ≡ length first.changes + length (changes_of rest) = ap (λ (ls : List Layer). length (changes_of ls)) is.oldest ∙ length-append first.changes (changes_of rest) in
    let now : length (changes_of (onto first.turn kept rest)) ≡ length kept + length (changes_of rest) = ap (λ (cs : List Change). length cs) (changes-onto first.turn kept rest) ∙ length-append kept (changes_of rest) in
    omega (arith, less, was, now)

-- ---- a node that is up

module _ {D : Type 0} (told : D → Option Story) (size : D → ℕ) (g : Game) (v : ℕ) where
  pub turns-left-are : (n : Node) (stage : Stage D) → IsUp told size g v n stage → turns_left stage ≡ g.turns - length n.turning.turns
  turns-left-are n stage up =
      let workers = up.whole.workers in
      ap turns_left up.stage_is
      ∙ ap (λ (cap : ℕ). cap - length up.handler.turns.items) workers.of_run.cap
      ∙ ap (λ (ts : List Effects). g.turns - length ts) workers.turns.kept

  -- a turn more leaves fewer
  pub turns-fewer : (n after : Node) (stage stage2 : Stage D) (turn : Effects) → IsUp told size g v n stage → IsUp told size g v after stage2 → after.turning.turns ≡ n.turning.turns ++ turn ∷ [] → length after.turning.turns ≤ g.turns → turns_left stage2 < turns_left stage
  turns-fewer n after stage stage2 turn up up2 grown few =
      let left : turns_left stage ≡ g.turns - length n.turning.turns = turns-left-are n stage up in
      let left2 : turns_left stage2 ≡ g.turns - length after.turning.turns = turns-left-are after stage2 up2 in
      let longer : length after.turning.turns ≡ length n.turning.turns + 1 = ap (λ (ts : List Effects). length ts) grown ∙ length_push n.turning.turns turn in
      omega (arith, left, left2, longer, few)

  pub pages-left-are : (n : Node) (stage : Stage D) → IsUp told size g v n stage → pages_left stage ≡ length (changes_of n.patching.ahead)
  pages-left-are n stage up =
      let pages = up.whole.pages in
      let none : pages.queue ≡ [] = no-queue pages.ring up.empty.pages.all in
      let same : n.patching ≡ pages.image = pages.patching ∙ ap (λ (fs : List Frozen). hand_all (waits_of fs) pages.image) none in
      ap pages_left up.stage_is ∙ ap (λ (ls : List Layer). length (changes_of ls)) (pages.apart.patches.ahead ∙ ap (λ (i : ImagePages). i.ahead) (sym same))

  -- a patch leaves fewer
  pub pages-fewer : (n after : Node) (stage stage2 : Stage D) (given : List Packet) (out : Outgoing) → IsUp told size g v n stage → IsUp told size g v after stage2 → Call g v given (IsPatchOf v) n out after → pages_left stage2 < pages_left stage
  pages-fewer n after stage stage2 given out up up2 call =
      let left : pages_left stage ≡ length (changes_of n.patching.ahead) = pages-left-are n stage up in
      let left2 : pages_left stage2 ≡ length (changes_of after.patching.ahead) = pages-left-are after stage2 up2 in
      let page : ℕ = call.which.0 in
      let run : NodeRun g (Contains given) v n (Patch v page ∷ []) out after = subst (λ (es : List Event). NodeRun g (Contains given) v n es out after) call.which.1 call.run in
      let step = run.1.1.1 in
      let first : Layer = step.0 in
      let rest : List Layer = step.1.0 in
      let change : Change = step.1.1.0 in
      let made : after ≡ patched_node first rest change n = run.1.1.3.1 ∙ step.1.1.1.2 in
      let same : length (changes_of after.patching.ahead) ≡ length (changes_of (patched_page first rest change n.patching).ahead) = ap (λ (x : Node). length (changes_of x.patching.ahead)) made in
      let less : length (changes_of (patched_page first rest change n.patching).ahead) < length (changes_of n.patching.ahead) = patch-leaves-fewer n.patching page first rest change step.1.1.1.1 in
      omega (arith, left, left2, same, less)

  pub outputs-left-are : (n : Node) (stage : Stage D) → IsUp told size g v n stage → outputs_left stage ≡ length (drop n.sending.emitted (outs_of n.turning.turns))
  outputs-left-are n stage up =
      let sends = up.whole.workers.sends in
      let none : sends.queue ≡ [] = no-queue sends.ring up.empty.sealed.all in
      let due : IsDueOf g v n (part_of up.sender).due = subst (λ (queue : List Sealed). IsDueOf g v n (with_turns v queue (part_of up.sender).due)) none sends.due in
      ap outputs_left up.stage_is ∙ ap (λ (os : List Out). length os) due.outs

  -- an emission leaves fewer
  pub outputs-fewer : (n after : Node) (stage stage2 : Stage D) (given : List Packet) (out : Outgoing) → IsUp told size g v n stage → IsUp told size g v after stage2 → Call g v given (IsEmit v) n out after → outputs_left stage2 < outputs_left stage
  outputs-fewer n after stage stage2 given out up up2 call =
      let outs : List Out = outs_of n.turning.turns in
      let emitted : ℕ = n.sending.emitted in
      let run : NodeRun g (Contains given) v n (Emit v ∷ []) out after = subst (λ (es : List Event). NodeRun g (Contains given) v n es out after) call.which call.run in
      let step = run.1.1.1 in
      let made : after ≡ emitted_node n = run.1.1.3.1 ∙ step.1.2 in
      let left : outputs_left stage ≡ length outs - emitted = outputs-left-are n stage up ∙ length-drop emitted outs in
      let left2 : outputs_left stage2 ≡ length outs - (emitted + 1) =
      outputs-left-are after stage2 up2 ∙ ap (λ (x : Node). length (drop x.sending.emitted (outs_of x.turning.turns))) made ∙ length-drop (emitted + 1) outs in
      let within : emitted < length outs = slice_get_within outs emitted step.0 step.1.1 in
      omega (arith, left, left2, within)
