-- A seal, as a step of the group.
use Rattle.std.proofs.Common.{◌≡◌, ℕ, zero, suc, ◌+◌, ◌-◌, ◌<◌, ◌≤◌, ◌^◌, max, List, [], ◌∷◌, ◌++◌, map, length, slice_get, slice_set, slice_index_or, Some, None, Option, option_map, Bool, true, false, ◌==◌, ◌||◌, ◌⊎◌, if◌then◌else◌, refl, sym, ap, ◌∙◌, subst, ⊎_elim, inl, inr, arith}
use Rattle.std.specs.List.{AllByRecursion}
use Rattle.std.proofs.lemmas.Bool.{cases_eq}
use Rattle.std.proofs.lemmas.List.{length_push, length-set}
use Rattle.std.proofs.lemmas.Option.{slice_get_within}
use Rattle.std.proofs.lemmas.List.Sums.{sum_by-le}
use Rattle.ken_model.specs.declared.messages.Message.{Message}
use Rattle.ken_model.specs.declared.facts.Input.{Input}
use Rattle.ken_model.specs.declared.reports.Emission.{Emission}
use Rattle.ken_model.specs.Effects.{Effect}
use Rattle.ken_model.specs.Game.{Game}
use Rattle.ken_model.specs.Network.{Place, Turn, outside, turn_at, handled, inputs_from, inputs_for}
use Rattle.ken_record.specs.declared.page.Page.{Page}
use Rattle.ken_cover.specs.declared.layers.Change.{Change}
use Rattle.ken_cover.specs.Overlay.{overlay, among, numbers}
use Rattle.ken_cover.specs.Sides.{TurnPages, ImagePages, changes_at, sealed_pages, handed_pages, onto}
use Rattle.ken_cover.specs.Covers.{Covers}
use Rattle.ken_cover.proofs.Bases.{pages-changes_at}
use Rattle.ken_cover.proofs.Keeps.{seal_keeps_coverage, down_keeps_coverage}
use Rattle.ken_record.specs.declared.effects.Effects.{Effects}
use Rattle.ken_core.specs.declared.ledger.Ledger.{Ledger}
use Rattle.ken_core.specs.declared.machine.Machine.{Machine}
use Rattle.ken_core.specs.declared.pages.Pages.{Pages}
use Rattle.ken_core.specs.declared.sealing.Sealing.{Sealing}
use Rattle.ken_core.specs.Turns.{consumed_from, stamp_after, mails_to, effects_of}
use Rattle.ken_core.specs.Nodes.{Node, heap_pages}
use Rattle.ken_core.specs.Packets.{Packet}
use Rattle.ken_core.specs.Enabled.{Came, place_at, MaySeal}
use Rattle.ken_core.specs.declared.events.Event.TheVariants.{Seal, SealCut}
use Rattle.ken_core.specs.Steps.{sealed_node, NodeStep}
use Rattle.ken_core.specs.Clusters.{WasPut, IsBarred}
use Rattle.ken_core.specs.Sets.{has_at}
use Rattle.ken_core.specs.Machines.{turn_pages, image_pages}
use Rattle.ken_core.specs.Ledgers.{sent_to, IsLedger}
use Rattle.ken_core.specs.Groups.{Shown, shown, no_show, shown_at, node_in, group_of, IsKept, AreKept, made_by}
use Rattle.ken_core.specs.Sealings.{MakesTurn, IsSealing}
use Rattle.ken_core.specs.Seals.{IsRoomier, Seals, handed_image}
use Rattle.ken_core.specs.Next.{IsNext, IsReady, IsUnready}
use Rattle.ken_core.proofs.Keeps.{changed_within, with_up}
use Rattle.ken_core.proofs.Moves.{sum_by-set, slice_get-set_same, slice_get-set_other, before, quiet, barred, still_kept_many}
use Rattle.ken_core.proofs.Repaged.{IsPlayed, repaged_moved, pages_kept, same_group}
use Rattle.ken_core.proofs.Ledgers.{each_mail, each_at}
use Rattle.ken_core.proofs.Sealed.{same_ledger, sealed_ledger, still_sent, same_mail}

-- bounds of stamps
pub stamp_most : (b stamp : ℕ) (es : List Effects) → stamp ≤ b → AllByRecursion (λ (e : Effects). e.stamp ≤ b) es → stamp_after stamp es ≤ b
stamp_most b stamp [] most all = most
stamp_most b stamp (e ∷ es) most all = stamp_most b e.stamp es all.0 all.1

pub early_more : (a b : ℕ) (es : List Effects) → a ≤ b → AllByRecursion (λ (e : Effects). e.stamp ≤ a) es → AllByRecursion (λ (e : Effects). e.stamp ≤ b) es
early_more a b [] le all = tt
early_more a b (e ∷ es) le all = let h = all.0 in (omega arith, early_more a b es le all.1)

early_push : (b : ℕ) (es : List Effects) (e : Effects) → e.stamp ≤ b → AllByRecursion (λ (x : Effects). x.stamp ≤ b) es → AllByRecursion (λ (x : Effects). x.stamp ≤ b) (es ++ e ∷ [])
early_push b [] e le all = (le, tt)
early_push b (x ∷ es) e le all = (all.0, early_push b es e le all.1)

input_stamps : (v n : ℕ) (is : List Input) → AllByRecursion (λ (m : Message). m.stamp ≤ 0) (inputs_from v n is)
input_stamps v n [] = tt
input_stamps v n (i ∷ is) = one (i.node == v) (input_stamps v (n + 1) is) (input_stamps v n is)
  where
    one : (b : Bool) → AllByRecursion (λ (m : Message). m.stamp ≤ 0) (inputs_from v (n + 1) is) → AllByRecursion (λ (m : Message). m.stamp ≤ 0) (inputs_from v n is) → AllByRecursion (λ (m : Message). m.stamp ≤ 0) (if b then record { from = outside; to = i.node; number = n + 1; stamp = 0; bytes = i.text } ∷ inputs_from v (n + 1) is else inputs_from v n is)
    one true more less = (omega arith, more)
    one false more less = less

-- few turns are made in all
pub few_made : (g : Game) (ms : List Machine) → AreKept g ms → made_by ms + 1 < 2 ^ 64
few_made g ms kept =
    let most = sum_by-le (λ (m : Machine). length m.ledger.turns.items) 100000 ms (λ k d within. let one = (kept.each k (slice_index_or ms k d) (there ms k d within)).ledger.turns in let few = kept.limits.few_turns in omega arith) in
    let few = kept.limits.few_nodes in
    let width = kept.width in
    omega arith
  where
    there : (xs : List Machine) (k : ℕ) (d : Machine) → k < length xs → slice_get xs k ≡ Some (slice_index_or xs k d)
    there [] k d within = absurd (omega arith)
    there (x ∷ xs) zero d within = refl
    there (x ∷ xs) (suc k) d within = there xs k d (omega arith)

-- a node that has other room
remade : (m : Machine) (l : Ledger) (p : Pages) (es : List Effects) (t : TurnPages) (i : ImagePages) → l.turns.items ≡ es → turn_pages p ≡ t → image_pages p ≡ i
    → node_in (record m { ledger = l; pages = p }) ≡ record { turning = record { up = m.up; turns = es; pages = t; retired = m.retired.items; retired_outs = m.retired_outs }; patching = i; sending = record { acked = m.acked.items; emitted = m.emitted } }
remade m l p es t i turns turning image =
    ap (λ x. record { turning = record { up = m.up; turns = x; pages = turn_pages p; retired = m.retired.items; retired_outs = m.retired_outs }; patching = image_pages p; sending = record { acked = m.acked.items; emitted = m.emitted } }) turns
    ∙ ap (λ x. record { turning = record { up = m.up; turns = es; pages = x; retired = m.retired.items; retired_outs = m.retired_outs }; patching = image_pages p; sending = record { acked = m.acked.items; emitted = m.emitted } }) turning
    ∙ ap (λ x. record { turning = record { up = m.up; turns = es; pages = t; retired = m.retired.items; retired_outs = m.retired_outs }; patching = x; sending = record { acked = m.acked.items; emitted = m.emitted } }) image

pub roomier_node : (m m2 : Machine) → IsRoomier m m2 → node_in m2 ≡ node_in m
roomier_node m m2 same = ap node_in same.rest ∙ remade m m2.ledger m2.pages m.ledger.turns.items (turn_pages m.pages) (image_pages m.pages) same.ledger.turns same.turning same.patching

pub roomier_looks : (m m2 : Machine) → IsRoomier m m2 → shown m2 ≡ shown m
roomier_looks m m2 same =
    ap (λ (x : Machine). record { node = node_in m2; mail = (shown x).mail; answer = (shown x).answer }) same.rest
    ∙ ap (λ lists. record { node = node_in m2; mail = λ w number. if has_at m.mailed.items w number then slice_get (slice_index_or lists w []) (number - 1) else None; answer = (shown m).answer }) same.ledger.sent
    ∙ ap (λ (n : Node). record { node = n; mail = (shown m).mail; answer = (shown m).answer }) (roomier_node m m2 same)

pub roomier_kept : (g : Game) (made v : ℕ) (m m2 : Machine) → IsRoomier m m2 → IsKept g made v m → IsKept g made v m2
roomier_kept g made v m m2 same kept =
    subst (λ (x : Machine). IsKept g made v x) (sym same.rest) (record {
      ledger = same_ledger g v m.ledger m2.ledger same.ledger kept.ledger;
      pages = pages_kept (heap_pages g) m.up m2.pages (turn_pages m.pages) (image_pages m.pages) same.turning same.patching kept.pages.covers (same.widths.0 ∙ kept.pages.unclean) (same.widths.1 ∙ kept.pages.opened);
      acked = kept.acked;
      retired = kept.retired;
      mailed = kept.mailed;
      answered = kept.answered;
      put = λ w number has. subst (λ es. number - 1 < length (mails_to v w es)) (sym same.ledger.turns) (kept.put w number has);
      early = subst (λ es. AllByRecursion (λ (e : Effects). e.stamp ≤ made) es) (sym same.ledger.turns) kept.early;
    })

-- the stamp of a turn
pub turn_stamp : (g : Game) (v : ℕ) (p : Place) (draws : List ℕ) (m : Message) (t : Turn) → turn_at g v p draws m ≡ Some t → t.stamp ≡ max p.stamp m.stamp + 1
unfolding turn_at
turn_stamp g v p draws m t is = at (handled g v p.value m draws) is
  where
    at : (o : Option Effect) → option_map (λ (e : Effect). record { message = m; draws = draws; stamp = max p.stamp m.stamp + 1; effect = e }) o ≡ Some t → t.stamp ≡ max p.stamp m.stamp + 1
    at None h = absurd cc
    at (Some e) h = let same : record { message = m; draws = draws; stamp = max p.stamp m.stamp + 1; effect = e } ≡ t = cc in ap (λ (x : Turn). x.stamp) (sym same)

page_numbers : (turn : ℕ) (pages : List Page) → map (λ (c : Change). c.page.page) (changes_at turn pages) ≡ numbers pages
page_numbers turn [] = refl
page_numbers turn (e ∷ es) = ap (λ x. e.page ∷ x) (page_numbers turn es)

module _ (g : Game) (made v : ℕ) (m m2 : Machine) (x : Message) (draws : List ℕ) (pages : List Page) (s : Sealing) (kept : IsKept g made v m) (is : IsSealing g v (node_in m) x draws pages s) (seals : Seals s m m2) where
  es : List Effects
  es = m.ledger.turns.items

  at : ℕ
  at = length m.ledger.turns.items + 1

  turning_is : turn_pages m2.pages ≡ sealed_pages (length m.ledger.turns.items + 1) pages (turn_pages m.pages)
  turning_is =
      seals.turning ∙ ap (λ l. record { heap = overlay m.pages.heap (map (λ (c : Change). c.page) l.changes); live = m.pages.live.items ++ l ∷ [] }) is.live
      ∙ ap (λ ps. record { heap = overlay m.pages.heap ps; live = m.pages.live.items ++ record { turn = length m.ledger.turns.items + 1; changes = changes_at (length m.ledger.turns.items + 1) pages } ∷ [] }) (pages-changes_at (length m.ledger.turns.items + 1) pages)

  patching_is : image_pages m2.pages ≡ handed_pages (length m.ledger.turns.items + 1) pages (image_pages m.pages)
  patching_is =
      seals.patching ∙ ap (λ l. handed_image s.live l (image_pages m.pages)) is.ahead ∙ ap (λ l. handed_image l l (image_pages m.pages)) is.live
      ∙ ap (λ ps. record (image_pages m.pages) { ahead = m.pages.ahead.items ++ onto (length m.ledger.turns.items + 1) (changes_at (length m.ledger.turns.items + 1) pages) []; unclean = λ p. among ps p || (image_pages m.pages).unclean p }) (page_numbers (length m.ledger.turns.items + 1) pages)

  pub sealed_new : node_in m2 ≡ sealed_node v is.turn pages (node_in m)
  sealed_new =
      ap node_in seals.rest
      ∙ remade m m2.ledger m2.pages (m.ledger.turns.items ++ effects_of v m.ledger.turns.items is.turn ∷ []) (sealed_pages (length m.ledger.turns.items + 1) pages (turn_pages m.pages)) (handed_pages (length m.ledger.turns.items + 1) pages (image_pages m.pages))
      (seals.ledger.turns ∙ ap (λ e. m.ledger.turns.items ++ e ∷ []) is.effects) turning_is patching_is

  stamp_early : x.stamp ≤ made → is.turn.stamp ≤ made + 1
  stamp_early early =
      let stamp = turn_stamp g v _ draws x is.turn is.makes.made in
      let before = stamp_most made 0 m.ledger.turns.items (omega arith) kept.early in
      omega arith

  pub sealed_kept : (up : Bool) → g.nodes ≤ outside → x.stamp ≤ made → IsKept g (made + 1) v (record m2 { up = up })
  sealed_kept up few early =
      let ledger = subst (λ e. Rattle.ken_core.specs.Ledgers.IsSealed e s.mails.items s.outs.items m.ledger m2.ledger) is.effects seals.ledger in
      let covers = subst (λ b. Covers (heap_pages g) b (turn_pages m.pages) (image_pages m.pages)) is.makes.up kept.pages.covers in
      let after = seal_keeps_coverage (heap_pages g) up (turn_pages m.pages) (image_pages m.pages) (length m.ledger.turns.items + 1) pages (changed_within (heap_pages g) m.pages.heap pages kept.pages.covers.heap_size is.makes.changed.each) covers in
      record {
        ledger = sealed_ledger g v m.ledger m2.ledger is.turn s.mails.items s.outs.items kept.ledger ledger few is.makes.more is.mails is.outs;
        pages = pages_kept (heap_pages g) up m2.pages (sealed_pages (length m.ledger.turns.items + 1) pages (turn_pages m.pages)) (handed_pages (length m.ledger.turns.items + 1) pages (image_pages m.pages)) turning_is patching_is after (seals.widths.0 ∙ kept.pages.unclean) (seals.widths.1 ∙ kept.pages.opened);
        acked = ap (λ (k : Machine). length k.acked.items) seals.rest ∙ kept.acked;
        retired = ap (λ (k : Machine). length k.retired.items) seals.rest ∙ kept.retired;
        mailed = ap (λ (k : Machine). length k.mailed.items) seals.rest ∙ kept.mailed;
        answered = ap (λ (k : Machine). length k.answered.items) seals.rest ∙ kept.answered;
        put = λ w number has. still_sent g v m.ledger m2.ledger is.turn s.mails.items s.outs.items kept.ledger ledger few is.makes.more is.mails is.outs w number (kept.put w number (ap (λ (k : Machine). has_at k.mailed.items w number) (sym seals.rest) ∙ has));
        early = subst (λ ts. AllByRecursion (λ (e : Effects). e.stamp ≤ made + 1) ts) (sym (seals.ledger.turns ∙ ap (λ e. m.ledger.turns.items ++ e ∷ []) is.effects))
            (early_push (made + 1) m.ledger.turns.items (effects_of v m.ledger.turns.items is.turn) (stamp_early early) (early_more made (made + 1) m.ledger.turns.items (omega arith) kept.early));
      }

  put_within : (sets : List (List Bool)) (w k : ℕ) → has_at sets w k ≡ true → w < length sets
  put_within [] w k has = absurd cc
  put_within (b ∷ bs) zero k has = omega arith
  put_within (b ∷ bs) (suc w) k has = let h = put_within bs w k has in omega arith

  pub sealed_mail : (up : Bool) (w number : ℕ) → g.nodes ≤ outside → (shown (record m2 { up = up })).mail w number ≡ (shown m).mail w number
  sealed_mail up w number few =
      ap (λ (k : Machine). if has_at k.mailed.items w number then slice_get (sent_to m2.ledger w) (number - 1) else None) seals.rest
      ∙ at_put (has_at m.mailed.items w number) refl
    where
      at_put : (b : Bool) → has_at m.mailed.items w number ≡ b → (if b then slice_get (sent_to m2.ledger w) (number - 1) else None) ≡ (if b then slice_get (sent_to m.ledger w) (number - 1) else None)
      at_put false has = refl
      at_put true has =
          same_mail g v m.ledger m2.ledger is.turn s.mails.items s.outs.items kept.ledger (subst (λ e. Rattle.ken_core.specs.Ledgers.IsSealed e s.mails.items s.outs.items m.ledger m2.ledger) is.effects seals.ledger) few is.makes.more is.mails is.outs w (number - 1)
          (let h = put_within m.mailed.items w number has in omega (arith, h, kept.mailed)) (kept.put w number has)

  pub sealed_answer : (up : Bool) (w through : ℕ) → (shown (record m2 { up = up })).answer w through ≡ (shown m).answer w through
  sealed_answer up w through = ap (λ (k : Machine). has_at k.answered.items w through) seals.rest

-- what a node shows: it is a node of the group, or none
pub shown_cases : (g : Game) (ms : List Machine) (u : ℕ) → ((x : Machine) × (slice_get ms u ≡ Some x) × (shown_at g ms u ≡ shown x)) ⊎ (shown_at g ms u ≡ no_show g)
shown_cases g [] u = inr refl
shown_cases g (x ∷ xs) zero = inl (x, refl, refl)
shown_cases g (x ∷ xs) (suc u) = shown_cases g xs u

-- a mail that was put is one that its node sent
pub put_sent : (g : Game) (ms : List Machine) (u to number : ℕ) (m : Message) → (shown_at g ms u).mail to number ≡ Some m → (x : Machine) × (slice_get ms u ≡ Some x) × (has_at x.mailed.items to number ≡ true) × (slice_get (sent_to x.ledger to) (number - 1) ≡ Some m)
put_sent g ms u to number m is = ⊎_elim here none (shown_cases g ms u)
  where
    at_put : (b : Bool) (o : Option Message) → (if b then o else None) ≡ Some m → (b ≡ true) × (o ≡ Some m)
    at_put true o h = (refl, h)
    at_put false o h = absurd cc

    here : (x : Machine) × (slice_get ms u ≡ Some x) × (shown_at g ms u ≡ shown x) → (x : Machine) × (slice_get ms u ≡ Some x) × (has_at x.mailed.items to number ≡ true) × (slice_get (sent_to x.ledger to) (number - 1) ≡ Some m)
    here h =
        let there : (shown h.0).mail to number ≡ Some m = ap (λ (s : Shown). s.mail to number) (sym h.2) ∙ is in
        let parts = at_put (has_at h.0.mailed.items to number) (slice_get (sent_to h.0.ledger to) (number - 1)) there in
        (h.0, h.1, parts.0, parts.1)

    none : shown_at g ms u ≡ no_show g → (x : Machine) × (slice_get ms u ≡ Some x) × (has_at x.mailed.items to number ≡ true) × (slice_get (sent_to x.ledger to) (number - 1) ≡ Some m)
    none h = let there : None ≡ Some m = ap (λ (s : Shown). s.mail to number) (sym h) ∙ is in absurd cc

-- a message that comes next is early
pub next_early : (g : Game) (ms : List Machine) (es : List Emission) (v from count : ℕ) (m : Message) → AreKept g ms → v < g.nodes → IsNext g (WasPut (group_of g ms es)) v from count m → m.stamp ≤ made_by ms
next_early g ms es v from count m kept known next =
    ⊎_elim
    (λ put.
    let sent = put_sent g ms m.from m.to m.number m put in
    let mine = kept.each m.from sent.0 sent.1 in
    let receiver = next.receiver in
    let all = each_mail (λ (x : Message). x.stamp ≤ made_by ms) (λ (e : Effects). e.stamp ≤ made_by ms) m.from m.to sent.0.ledger.turns.items (λ e s early to. early) mine.early in
    each_at (λ (x : Message). x.stamp ≤ made_by ms) (mails_to m.from m.to sent.0.ledger.turns.items) (m.number - 1) m all (ap (λ xs. slice_get xs (m.number - 1)) (sym (mine.ledger.sent m.to (omega (arith, known, receiver)))) ∙ sent.3))
    (λ h. let e = each_at (λ (x : Message). x.stamp ≤ 0) (inputs_for g v) (m.number - 1) m (input_stamps v 0 g.inputs) h.1 in omega arith)
    next.came

-- a turn of the next message may be sealed, and one that may be is of that message
pub may_seal : (g : Game) (put : Packet → Type 0) (v : ℕ) (n : Node) (from : ℕ) (draws : List ℕ) (pages : List Page) (m : Message) (t : Turn) → IsNext g put v from (consumed_from from n.turning.turns) m → MakesTurn g v n m draws pages t → MaySeal g put v n from draws pages t
may_seal g put v n from draws pages m t next makes = record {
  up = makes.up;
  more = makes.more;
  sender = ap (λ (x : Message). x.from) makes.takes ∙ next.sender;
  receiver = ap (λ (x : Message). x.to) makes.takes ∙ next.receiver;
  number = ap (λ (x : Message). x.number) makes.takes ∙ next.number;
  came = subst (λ (x : Message). Came g put v x) (sym makes.takes) next.came;
  value = makes.value;
  reads = makes.reads;
  drawn = makes.drawn;
  made = ap (λ ds. turn_at g v (place_at n makes.value) ds t.message) makes.drawn ∙ ap (turn_at g v (place_at n makes.value) draws) makes.takes ∙ makes.made;
  changed = makes.changed;
  stands = makes.stands;
}

pub next_of : (g : Game) (put : Packet → Type 0) (v : ℕ) (n : Node) (from : ℕ) (draws : List ℕ) (pages : List Page) (t : Turn) → MaySeal g put v n from draws pages t → IsNext g put v from (consumed_from from n.turning.turns) t.message
next_of g put v n from draws pages t may = record { sender = may.sender; receiver = may.receiver; number = may.number; came = may.came }

pub makes_of : (g : Game) (put : Packet → Type 0) (v : ℕ) (n : Node) (from : ℕ) (draws : List ℕ) (pages : List Page) (m : Message) (t : Turn) → MaySeal g put v n from draws pages t → t.message ≡ m → MakesTurn g v n m draws pages t
makes_of g put v n from draws pages m t may same = record {
  up = may.up;
  more = may.more;
  takes = same;
  drawn = may.drawn;
  value = may.value;
  reads = may.reads;
  made = ap (λ ds. turn_at g v (place_at n may.value) ds m) (sym may.drawn) ∙ ap (turn_at g v (place_at n may.value) t.draws) (sym same) ∙ may.made;
  changed = may.changed;
  stands = may.stands;
}

-- the group where one node made a turn
pub grown_kept : (g : Game) (ms : List Machine) (v : ℕ) (m m2 : Machine) → AreKept g ms → slice_get ms v ≡ Some m → length m2.ledger.turns.items ≡ length m.ledger.turns.items + 1 → IsKept g (made_by ms + 1) v m2 → AreKept g (slice_set ms v m2)
grown_kept g ms v m m2 kept is longer mine =
    let more : made_by (slice_set ms v m2) ≡ made_by ms + 1 = omega (arith, sum_by-set (λ (x : Machine). length x.ledger.turns.items) ms v m m2 is, longer) in
    record {
      limits = kept.limits;
      width = length-set ms v m2 ∙ kept.width;
      each = λ u x there. subst (λ n. IsKept g n u x) (sym more)
          (⊎_elim
          (λ (e : u ≡ v). let here : m2 ≡ x = let two : Some m2 ≡ Some x = sym (slice_get-set_same ms v m2 (slice_get_within ms v m is)) ∙ subst (λ k. slice_get (slice_set ms v m2) k ≡ Some x) e there in cc in
          subst (λ k. IsKept g (made_by ms + 1) k x) (sym e) (subst (λ (y : Machine). IsKept g (made_by ms + 1) v y) here mine))
          (λ ne. older g (made_by ms) u x (kept.each u x (sym (slice_get-set_other ms v u m2 ne) ∙ there)))
          (cases_eq u v));
    }
  where
    older : (g : Game) (made u : ℕ) (x : Machine) → IsKept g made u x → IsKept g (made + 1) u x
    older g made u x old = record {
      ledger = old.ledger;
      pages = old.pages;
      acked = old.acked;
      retired = old.retired;
      mailed = old.mailed;
      answered = old.answered;
      put = old.put;
      early = early_more made (made + 1) x.ledger.turns.items (omega arith) old.early;
    }

module _ (g : Game) (ms : List Machine) (es : List Emission) (v k from : ℕ) (draws : List ℕ) (pages : List Page) (s : Sealing) (m : Machine) (kept : AreKept g ms) (is : slice_get ms v ≡ Some m) (same : k ≡ v) (known : v < g.nodes) (ready : IsReady g ms es v from draws pages s) where
  node_is : (shown_at g ms v).node ≡ node_in m
  node_is = ap (λ (x : Shown). x.node) (before g ms v m m is)

  few : g.nodes ≤ outside
  few = let h = kept.limits.few_nodes in omega arith

  pub here : IsSealing g v (node_in m) ready.message draws pages s
  here = subst (λ (n : Node). IsSealing g v n ready.message draws pages s) node_is ready.sealing

  pub next : IsNext g (WasPut (group_of g ms es)) v from (consumed_from from m.ledger.turns.items) ready.message
  next = subst (λ (n : Node). IsNext g (WasPut (group_of g ms es)) v from (consumed_from from n.turning.turns) ready.message) node_is ready.next

  may : MaySeal g (WasPut (group_of g ms es)) v (node_in m) from draws pages here.turn
  may = may_seal g (WasPut (group_of g ms es)) v (node_in m) from draws pages ready.message here.turn next here.makes

  module _ (m1 m2 : Machine) (roomier : IsRoomier m m1) (seals : Seals s m1 m2) where
    there : IsSealing g v (node_in m1) ready.message draws pages s
    there = subst (λ (n : Node). IsSealing g v n ready.message draws pages s) (sym (roomier_node m m1 roomier)) here

    kept_one : IsKept g (made_by ms) v m1
    kept_one = roomier_kept g (made_by ms) v m m1 roomier (kept.each v m is)

    new_is : (up : Bool) → node_in (record m2 { up = up }) ≡ with_up up (sealed_node v there.turn pages (node_in m))
    new_is up = ap (with_up up) (sealed_new g (made_by ms) v m1 m2 ready.message draws pages s kept_one there seals ∙ ap (sealed_node v there.turn pages) (roomier_node m m1 roomier))

    early : ready.message.stamp ≤ made_by ms
    early = next_early g ms es v from (consumed_from from m.ledger.turns.items) ready.message kept known next

    mail_is_same : (up : Bool) (w number : ℕ) → (shown (record m2 { up = up })).mail w number ≡ (shown m).mail w number
    mail_is_same up w number = sealed_mail g (made_by ms) v m1 m2 ready.message draws pages s kept_one there seals up w number few ∙ ap (λ (x : Shown). x.mail w number) (roomier_looks m m1 roomier)

    answer_is_same : (up : Bool) (w through : ℕ) → (shown (record m2 { up = up })).answer w through ≡ (shown m).answer w through
    answer_is_same up w through = sealed_answer g (made_by ms) v m1 m2 ready.message draws pages s kept_one there seals up w through ∙ ap (λ (x : Shown). x.answer w through) (roomier_looks m m1 roomier)

    longer : length m2.ledger.turns.items ≡ length m.ledger.turns.items + 1
    longer = omega (arith, ap length seals.ledger.turns, length_push m1.ledger.turns.items s.effects, ap length roomier.ledger.turns)

    kept_new : (up : Bool) → AreKept g (slice_set ms v (record m2 { up = up }))
    kept_new up = grown_kept g ms v m (record m2 { up = up }) kept is longer (sealed_kept g (made_by ms) v m1 m2 ready.message draws pages s kept_one there seals up few early)

    may_there : MaySeal g (WasPut (group_of g ms es)) v (node_in m) from draws pages there.turn
    may_there = may_seal g (WasPut (group_of g ms es)) v (node_in m) from draws pages ready.message there.turn next (subst (λ (n : Node). MakesTurn g v n ready.message draws pages there.turn) (roomier_node m m1 roomier) there.makes)

    -- a seal
    pub seal_played : IsPlayed g ms (slice_set ms k m2) es es (Seal v from draws pages) true
    seal_played =
        let up : m2.up ≡ m.up = ap (λ (x : Machine). x.up) seals.rest ∙ ap (λ (x : Machine). x.up) roomier.rest in
        let new : node_in m2 ≡ sealed_node v there.turn pages (node_in m) = sealed_new g (made_by ms) v m1 m2 ready.message draws pages s kept_one there seals ∙ ap (sealed_node v there.turn pages) (roomier_node m m1 roomier) in
        let step : NodeStep g (WasPut (group_of g ms es)) v (node_in m) (Seal v from draws pages) (node_in m2) = (there.turn, (may_there, new)) in
        subst (λ x. IsPlayed g ms (slice_set ms x m2) es es (Seal v from draws pages) true) (sym same)
        (record {
          plays = quiet g ms v m m2 is es es (Seal v from draws pages) refl known refl step (mail_is_same m2.up) (answer_is_same m2.up) refl;
          kept = kept_new m2.up;
        })

    -- and one that was cut and landed
    pub cut_played : IsPlayed g ms (slice_set ms k (record m2 { up = false })) es es (SealCut v from draws pages true) true
    cut_played =
        let step : NodeStep g (WasPut (group_of g ms es)) v (node_in m) (SealCut v from draws pages true) (node_in (record m2 { up = false })) = (there.turn, (may_there, new_is false)) in
        subst (λ x. IsPlayed g ms (slice_set ms x (record m2 { up = false })) es es (SealCut v from draws pages true) true) (sym same)
        (record {
          plays = quiet g ms v m (record m2 { up = false }) is es es (SealCut v from draws pages true) refl known refl step (mail_is_same false) (answer_is_same false) refl;
          kept = kept_new false;
        })

  -- one that was cut and didn't land
  pub lost_played : IsPlayed g ms (slice_set ms k (record m { up = false })) es es (SealCut v from draws pages false) true
  lost_played =
      let moved = repaged_moved g ms es (SealCut v from draws pages false) v k m false m.pages (turn_pages m.pages) (image_pages m.pages) kept is same known refl refl refl refl (refl, refl)
      (here.turn, (may, refl)) (down_keeps_coverage (heap_pages g) m.up (turn_pages m.pages) (image_pages m.pages) (kept.each v m is).pages.covers) in
      record { plays = moved.step; kept = moved.kept }

-- no seal
pub unready_barred : (g : Game) (ms : List Machine) (es : List Emission) (v from : ℕ) (draws : List ℕ) (pages : List Page) (m : Machine) → slice_get ms v ≡ Some m → IsUnready g ms es v from draws pages → IsBarred g (group_of g ms es) (Seal v from draws pages)
unready_barred g ms es v from draws pages m is none =
    barred g ms v m m is es es (Seal v from draws pages) refl (λ n2 step. none step.0 (subst (λ (n : Node). MaySeal g (WasPut (group_of g ms es)) v n from draws pages step.0) (sym (ap (λ (x : Shown). x.node) (before g ms v m m is))) step.1.0))

pub uncut_barred : (g : Game) (ms : List Machine) (es : List Emission) (v from : ℕ) (draws : List ℕ) (pages : List Page) (landed : Bool) (m : Machine) → slice_get ms v ≡ Some m → IsUnready g ms es v from draws pages → IsBarred g (group_of g ms es) (SealCut v from draws pages landed)
uncut_barred g ms es v from draws pages landed m is none =
    barred g ms v m m is es es (SealCut v from draws pages landed) refl (λ n2 step. none step.0 (subst (λ (n : Node). MaySeal g (WasPut (group_of g ms es)) v n from draws pages step.0) (sym (ap (λ (x : Shown). x.node) (before g ms v m m is))) step.1.0))

-- where room ran out
pub roomier_same : (g : Game) (ms : List Machine) (es : List Emission) (v k : ℕ) (m m2 : Machine) → AreKept g ms → slice_get ms v ≡ Some m → k ≡ v → IsRoomier m m2 → (group_of g (slice_set ms k m2) es ≡ group_of g ms es) × AreKept g (slice_set ms k m2)
roomier_same g ms es v k m m2 kept is same roomier =
    subst (λ x. (group_of g (slice_set ms x m2) es ≡ group_of g ms es) × AreKept g (slice_set ms x m2)) (sym same)
    (same_group g ms es v m m2 is (roomier_looks m m2 roomier), still_kept_many g ms v m m2 is kept (ap length roomier.ledger.turns) (roomier_kept g (made_by ms) v m m2 roomier (kept.each v m is)))
