-- A node and a group at the start.
use Rattle.std.proofs.Common.{◌≡◌, ℕ, zero, suc, ◌-◌, ◌*◌, ◌<◌, ◌≤◌, List, [], ◌∷◌, ◌++◌, map, length, replicate, slice_get, slice_index, slice_index_or, Vec, Global, Some, None, Bool, true, false, if◌then◌else◌, refl, sym, ap, ◌∙◌, subst, ⊎_elim, arith}
use Rattle.std.specs.List.{All, AllByRecursion}
use Rattle.std.proofs.Math.Path.{fun_ext}
use Rattle.std.proofs.lemmas.Bool.{cases_lt}
use Rattle.std.proofs.lemmas.List.Sums.{sum_by-cons}
use Rattle.std.proofs.lemmas.List.{length-replicate}
use Rattle.ken_model.specs.declared.messages.Message.{Message}
use Rattle.ken_model.specs.Game.{Game}
use Rattle.ken_model.specs.Limits.{IsWithinLimits}
use Rattle.ken_model.specs.Layout.{first_heap}
use Rattle.ken_model.specs.Network.{outside, inputs_for}
use Rattle.ken_cover.specs.Sides.{TurnPages, ImagePages, first_turn_pages, first_image_pages}
use Rattle.ken_cover.proofs.Keeps.{start_is_covered}
use Rattle.ken_record.specs.declared.effects.Effects.{Effects}
use Rattle.ken_core.specs.declared.ledger.Ledger.{Ledger}
use Rattle.ken_core.specs.declared.machine.Machine.{Machine}
use Rattle.ken_core.specs.declared.pages.Pages.{Pages}
use Rattle.ken_core.specs.Turns.{consumed_from, mails_to, outs_of}
use Rattle.ken_core.specs.Nodes.{Node, first_node, heap_pages}
use Rattle.ken_core.specs.Sets.{has, has_at}
use Rattle.ken_core.specs.Machines.{turn_pages, image_pages, ArePages}
use Rattle.ken_core.specs.Ledgers.{sent_to, IsLedger}
use Rattle.ken_core.specs.Clusters.{start}
use Rattle.ken_core.specs.Groups.{Shown, shown_at, node_in, group_of, IsKept, AreKept, made_by}
use Rattle.ken_core.specs.First.{IsFirst}
use Rattle.ken_core.proofs.Fits.{cleared, same_image}
use Rattle.ken_core.proofs.Played.{shown_cases}

-- what code makes of a ledger and of pages at the start
pub record IsFirstLedger (g : Game) (v : ℕ) (l : Ledger) : Type 0 where
  pub turns : l.turns.items ≡ []
  pub consumed : l.consumed.items ≡ replicate g.nodes 0
  pub inputs : l.inputs.items ≡ inputs_for g v
  pub inputs_consumed : l.inputs_consumed ≡ 0
  pub width : length l.sent.items ≡ g.nodes
  pub sent : All (λ list. list.items ≡ []) l.sent.items
  pub outs : l.outs.items ≡ []

pub record AreFirstPages (n : ℕ) (p : Pages) : Type 0 where
  pub heap : p.heap ≡ first_heap n
  pub image : p.image.items ≡ first_heap n
  pub live : p.live.items ≡ []
  pub ahead : p.ahead.items ≡ []
  pub unclean : p.unclean ≡ replicate n false
  pub opened : p.opened ≡ replicate n false

none_sent : (lists : List (Vec Message Global)) (w : ℕ) → All (λ list. list.items ≡ []) lists → slice_index_or (map (λ list. list.items) lists) w [] ≡ []
none_sent [] w all = refl
none_sent (x ∷ xs) zero all = all 0 x (omega arith)
none_sent (x ∷ xs) (suc w) all = none_sent xs w (λ k d within. all (suc k) d (omega arith))

pub none_at : (sets : List (List Bool)) (w k : ℕ) → All (λ set. set ≡ []) sets → has_at sets w k ≡ false
none_at [] w k all = refl
none_at (x ∷ xs) zero k all = ap (λ set. has set k) (all 0 x (omega arith))
none_at (x ∷ xs) (suc w) k all = none_at xs w k (λ j d within. all (suc j) d (omega arith))

zeros : (n k : ℕ) → slice_index (replicate n 0) k ≡ 0
zeros zero k = refl
zeros (suc n) zero = refl
zeros (suc n) (suc k) = zeros n k

first_ledger : (g : Game) (v : ℕ) (l : Ledger) → IsFirstLedger g v l → IsLedger g v l
first_ledger g v l is = record {
  turns = omega (arith, ap length is.turns);
  consumed_width = ap length is.consumed ∙ length-replicate g.nodes 0;
  consumed = λ u within. ap (λ xs. slice_index xs u) is.consumed ∙ zeros g.nodes u ∙ ap (consumed_from u) (sym is.turns);
  inputs = is.inputs;
  inputs_consumed = is.inputs_consumed ∙ ap (consumed_from outside) (sym is.turns);
  sent_width = is.width;
  sent = λ w within. none_sent l.sent.items w is.sent ∙ ap (mails_to v w) (sym is.turns);
  outs = is.outs ∙ ap outs_of (sym is.turns);
  numbered = λ w k m at. let none : None ≡ Some m = subst (λ ts. slice_get (mails_to v w ts) k ≡ Some m) is.turns at in absurd cc;
}

turning_first : (n : ℕ) (p : Pages) → AreFirstPages n p → turn_pages p ≡ first_turn_pages (first_heap n)
turning_first n p is = ap (λ x. record { heap = x; live = p.live.items }) is.heap ∙ ap (λ x. record { heap = first_heap n; live = x }) is.live

patching_first : (n : ℕ) (p : Pages) → AreFirstPages n p → image_pages p ≡ first_image_pages (first_heap n)
patching_first n p is = same_image (image_pages p) (first_image_pages (first_heap n)) is.ahead (λ k. ap (λ bits. has bits k) is.unclean ∙ cleared n k) is.image (λ k. ap (λ bits. has bits k) is.opened ∙ cleared n k)

first_pages : (n : ℕ) (p : Pages) → length (first_heap n) ≡ 256 * n → AreFirstPages n p → ArePages n true p
first_pages n p size is = record {
  covers = subst (λ (t : TurnPages). Rattle.ken_cover.specs.Covers.Covers n true t (image_pages p)) (sym (turning_first n p is)) (subst (λ (i : ImagePages). Rattle.ken_cover.specs.Covers.Covers n true (first_turn_pages (first_heap n)) i) (sym (patching_first n p is)) (start_is_covered n (first_heap n) size));
  unclean = ap length is.unclean ∙ length-replicate n false;
  opened = ap length is.opened ∙ length-replicate n false;
}

abbrev node_of_parts : List Effects → TurnPages → List ℕ → ImagePages → List ℕ → Node
node_of_parts ts t retired i acked = record { turning = record { up = true; turns = ts; pages = t; retired = retired; retired_outs = 0 }; patching = i; sending = record { acked = acked; emitted = 0 } }

pub first_is : (g : Game) (v : ℕ) (l : Ledger) (p : Pages) (retired acked : Vec ℕ Global) (m : Machine) → length (first_heap (heap_pages g)) ≡ 256 * heap_pages g → IsFirstLedger g v l → AreFirstPages (heap_pages g) p → retired.items ≡ replicate g.nodes 0 → acked.items ≡ replicate g.nodes 0
    → m ≡ record m { up = true; ledger = l; pages = p; retired = retired; retired_outs = 0; acked = acked; emitted = 0 } → length m.mailed.items ≡ g.nodes → All (λ set. set ≡ []) m.mailed.items → length m.answered.items ≡ g.nodes → All (λ set. set ≡ []) m.answered.items → IsFirst g v m
first_is g v l p retired acked m size ledger pages retired_is acked_is whole mailed_width mailed answered_width answered =
    let made : Machine = record m { up = true; ledger = l; pages = p; retired = retired; retired_outs = 0; acked = acked; emitted = 0 } in
    record {
      node = ap node_in whole ∙ ap (λ x. node_of_parts x (turn_pages p) retired.items (image_pages p) acked.items) ledger.turns ∙ ap (λ x. node_of_parts [] x retired.items (image_pages p) acked.items) (turning_first (heap_pages g) p pages)
          ∙ ap (λ x. node_of_parts [] (first_turn_pages (first_heap (heap_pages g))) x (image_pages p) acked.items) retired_is ∙ ap (λ x. node_of_parts [] (first_turn_pages (first_heap (heap_pages g))) (replicate g.nodes 0) x acked.items) (patching_first (heap_pages g) p pages)
          ∙ ap (λ x. node_of_parts [] (first_turn_pages (first_heap (heap_pages g))) (replicate g.nodes 0) (first_image_pages (first_heap (heap_pages g))) x) acked_is;
      kept = subst (λ (x : Machine). IsKept g 0 v x) (sym whole) (record {
        ledger = first_ledger g v l ledger;
        pages = first_pages (heap_pages g) p size pages;
        acked = ap length acked_is ∙ length-replicate g.nodes 0;
        retired = ap length retired_is ∙ length-replicate g.nodes 0;
        mailed = mailed_width;
        answered = answered_width;
        put = λ w number has. let none : false ≡ true = sym (none_at m.mailed.items w number mailed) ∙ has in absurd cc;
        early = subst (λ ts. AllByRecursion (λ (e : Effects). e.stamp ≤ 0) ts) (sym ledger.turns) tt;
      });
      unput = λ w number. none_at m.mailed.items w number mailed;
      unanswered = λ w through. none_at m.answered.items w through answered;
    }

-- all nodes
pub pushed_each : (g : Game) (ms : List Machine) (n : ℕ) (x : Machine) → length ms ≡ n → ((v : ℕ) (m : Machine) → slice_get ms v ≡ Some m → IsFirst g v m) → IsFirst g n x → (v : ℕ) (m : Machine) → slice_get (ms ++ x ∷ []) v ≡ Some m → IsFirst g v m
pushed_each g ms n x long each one v m is = ⊎_elim front back (cases_lt v (length ms))
  where
    front_at : (xs : List Machine) (j : ℕ) → j < length xs → slice_get (xs ++ x ∷ []) j ≡ slice_get xs j
    front_at [] j within = absurd (omega arith)
    front_at (y ∷ ys) zero within = refl
    front_at (y ∷ ys) (suc j) within = front_at ys j (omega arith)

    end_at : (xs : List Machine) (j : ℕ) → length xs ≤ j → slice_get (xs ++ x ∷ []) j ≡ Some m → (j ≡ length xs) × (x ≡ m)
    end_at [] zero past h = (refl, (let same : x ≡ m = cc in same))
    end_at [] (suc j) past h = absurd cc
    end_at (y ∷ ys) zero past h = absurd (omega arith)
    end_at (y ∷ ys) (suc j) past h = let e = end_at ys j (omega arith) h in (ap suc e.0, e.1)

    front : v < length ms → IsFirst g v m
    front within = each v m (sym (front_at ms v within) ∙ is)

    back : length ms ≤ v → IsFirst g v m
    back past = let e = end_at ms v past is in subst (λ (y : Machine). IsFirst g v y) e.1 (subst (λ k. IsFirst g k x) (sym (e.0 ∙ long)) one)

made_none : (g : Game) (ms : List Machine) → ((v : ℕ) (m : Machine) → slice_get ms v ≡ Some m → length m.ledger.turns.items ≡ 0) → made_by ms ≡ 0
made_none g [] each = refl
made_none g (x ∷ xs) each = sum_by-cons (λ (m : Machine). length m.ledger.turns.items) x xs ∙ (let first = each 0 x refl in let rest = made_none g xs (λ v m is. each (suc v) m is) in omega arith)

pub first_group : (g : Game) (ms : List Machine) → IsWithinLimits g → length ms ≡ g.nodes → ((v : ℕ) (m : Machine) → slice_get ms v ≡ Some m → IsFirst g v m) → AreKept g ms × (group_of g ms [] ≡ start g)
first_group g ms limits width each =
    let none : made_by ms ≡ 0 = made_none g ms (λ v m is. ap (λ (n : Node). length n.turning.turns) (each v m is).node) in
    let looks : (u : ℕ) → (shown_at g ms u).node ≡ first_node g = λ u. ⊎_elim (λ h. ap (λ (s : Shown). s.node) h.2 ∙ (each u h.0 h.1).node) (λ h. ap (λ (s : Shown). s.node) h) (shown_cases g ms u) in
    let mails : (u w number : ℕ) → (shown_at g ms u).mail w number ≡ None = λ u w number. ⊎_elim (λ h. ap (λ (s : Shown). s.mail w number) h.2 ∙ ap (λ b. if b then slice_get (sent_to h.0.ledger w) (number - 1) else None) ((each u h.0 h.1).unput w number)) (λ h. ap (λ (s : Shown). s.mail w number) h) (shown_cases g ms u) in
    let answers : (u w through : ℕ) → (shown_at g ms u).answer w through ≡ false = λ u w through. ⊎_elim (λ h. ap (λ (s : Shown). s.answer w through) h.2 ∙ (each u h.0 h.1).unanswered w through) (λ h. ap (λ (s : Shown). s.answer w through) h) (shown_cases g ms u) in (
      record { limits = limits; width = width; each = λ v m is. subst (λ n. IsKept g n v m) (sym none) (each v m is).kept },
      ap (λ f. record { node = f; mail = λ u w number. (shown_at g ms u).mail w number; answer = λ u w through. (shown_at g ms u).answer w through; emissions = [] }) (fun_ext looks)
          ∙ ap (λ f. record { node = λ u. first_node g; mail = f; answer = λ u w through. (shown_at g ms u).answer w through; emissions = [] }) (fun_ext (λ u. fun_ext (λ w. fun_ext (λ number. mails u w number))))
          ∙ ap (λ f. record { node = λ u. first_node g; mail = λ u w number. None; answer = f; emissions = [] }) (fun_ext (λ u. fun_ext (λ w. fun_ext (λ through. answers u w through)))),
    )
