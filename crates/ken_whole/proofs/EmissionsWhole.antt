-- What an externaliser emits, of a whole node.
use Rattle.std.proofs.Common.{◌≡◌, ℕ, List, [], ◌∷◌, ◌++◌, length, drop, Option, Result, Ok, Err, refl, sym, ap, subst, ◌∙◌, arith}
use Rattle.std.proofs.lemmas.List.{length-drop}
use Rattle.ken_disk.specs.Story.{Story}
use Rattle.ken_model.specs.declared.messages.Out.{Out}
use Rattle.ken_model.specs.Game.{Game}
use Rattle.ken_outbox.specs.Waiting.{Waiting}
use Rattle.ken_core.specs.Calls.{IsEmit, IsNone}
use Rattle.ken_core.specs.Nodes.{Node}
use Rattle.ken_core.specs.Packets.{nothing}
use Rattle.ken_core.specs.Steps.{emitted_node}
use Rattle.ken_core.specs.Turns.{outs_of}
use Rattle.ken_links.specs.declared.pop_end.PopEnd.{PopEnd}
use Rattle.ken_links.specs.Rings.{pushed, popped}
use Rattle.ken_ship.specs.declared.emit.Emit.{Emit}
use Rattle.ken_ship.specs.declared.emit.Emit.TheVariants.{Done, Refused, Nothing}
use Rattle.ken_ship.specs.declared.faults.NodeFault.{NodeFault}
use Rattle.ken_ship.specs.declared.faults.NodeFault.TheVariants.{Disk, Damaged, Outlet, Memory}
use Rattle.ken_ship.specs.declared.items.Told.{Told}
use Rattle.ken_ship.specs.declared.items.Sealed.{Sealed}
use Rattle.ken_ship.specs.declared.worker.SendWorker.{SendWorker}
use Rattle.ken_ship.specs.Emitting.{Emitted, after_emission}
use Rattle.ken_ship.specs.Handing.{told_in, with_turns}
use Rattle.ken_ship.specs.Laws.{IsDueOf}
use Rattle.ken_ship.specs.Parts.{Part, part_of}
use Rattle.ken_ship.specs.Parts.{IsSameWorker as IsSameSender}
use Rattle.ken_ship.proofs.Emissions.{emission_is_event}
use Rattle.ken_work.specs.News.{progress_told}
use Rattle.ken_work.specs.declared.patcher.PatchWorker.{PatchWorker}
use Rattle.ken_work.specs.declared.worker.TurnWorker.{TurnWorker}
use Rattle.ken_whole.specs.Whole.{HasReached, IsWhole, WereTold}
use Rattle.ken_whole.specs.WholeLaws.{LeadsTo, EmissionKeepsWhole, EmitsBy, SamePartKeepsWhole}
use Rattle.ken_whole.proofs.AcksWhole.{reached-now}
use Rattle.ken_whole.proofs.Queued.{queued_outs, with_turns-emission, with_turns-outs}
use Rattle.ken_whole.proofs.SendsWhole.{whole-sender}
use Rattle.ken_whole.proofs.Told.{told-by, told-last}

module _ {D : Type 0} (told : D → Option Story) (size : D → ℕ) where
  pub same_part_keeps_whole : SamePartKeepsWhole told size
  same_part_keeps_whole g v n t p s s2 whole same sealed part =
      let d = whole.workers.sends in
      whole-sender told size g v n t p s s2 n.sending whole same
      (record {
        queue = d.queue;
        ring = d.ring ∙ ap (λ (x : PopEnd Sealed). popped x ++ d.queue) (sym sealed);
        due = subst (λ (x : Part). IsDueOf g v n (with_turns v d.queue x.due)) (sym part) d.due;
        sent = record { acked = d.sent.acked; emitted = d.sent.emitted };
      })
      (subst (λ (x : Part). WereTold progress_told (HasReached g n) x.told (popped t.progress) t.told.progress) (sym part) whole.workers.progress)

  module _ (g : Game) (v : ℕ) (n : Node) (t : TurnWorker D) (p : PatchWorker D) (s s2 : SendWorker) (whole : IsWhole told size g v n t p s) (same : IsSameSender s s2) (sealed : s2.sealed ≡ s.sealed) where
    -- nothing was emitted
    none-emitted : (part_of s2).due ≡ (part_of s).due → (part_of s2).told ≡ (part_of s).told → LeadsTo told size g v [] IsNone n nothing t p s2
    none-emitted due tells =
        let d = whole.workers.sends in
        record {
          after = n;
          call = record { events = []; run = (refl, refl); which = refl };
          whole = whole-sender told size g v n t p s s2 n.sending whole same
              (record {
                queue = d.queue;
                ring = d.ring ∙ ap (λ (x : PopEnd Sealed). popped x ++ d.queue) (sym sealed);
                due = subst (λ (x : Waiting). IsDueOf g v n (with_turns v d.queue x)) (sym due) d.due;
                sent = record { acked = d.sent.acked; emitted = d.sent.emitted };
              })
              (subst (λ (xs : List Told). WereTold progress_told (HasReached g n) xs (popped t.progress) t.told.progress) (sym tells) whole.workers.progress);
        }

    one-emitted : (out : Out) (rest : List Out) → (part_of s).due.outs ≡ out ∷ rest → part_of s2 ≡ after_emission s.backlog.node out rest (part_of s) → LeadsTo told size g v [] (IsEmit v) n (record { puts = []; outs = out ∷ [] }) t p s2
    one-emitted out rest first now =
        let d = whole.workers.sends in
        let due : Waiting = (part_of s).due in
        let after : Node = emitted_node n in
        let all : (with_turns v d.queue due).outs ≡ out ∷ (rest ++ queued_outs d.queue) = with_turns-outs v d.queue due ∙ ap (λ (os : List Out). os ++ queued_outs d.queue) first in
        let event = emission_is_event g v n (with_turns v d.queue due) out (rest ++ queued_outs d.queue) d.due all in
        let new : (part_of s2).due ≡ record due { emitted = out.number; outs = rest } = ap (λ (x : Part). x.due) now in
        let due2 : IsDueOf g v after (with_turns v d.queue (part_of s2).due) =
        subst (IsDueOf g v after) (sym (ap (with_turns v d.queue) new ∙ with_turns-emission v d.queue due out.number rest)) event.due in
        let left : length (drop n.sending.emitted (outs_of n.turning.turns)) ≡ length (out ∷ (rest ++ queued_outs d.queue)) = ap length (sym d.due.outs ∙ all) in
        let count = length-drop n.sending.emitted (outs_of n.turning.turns) in
        let before : WereTold progress_told (HasReached g after) (pushed s.told) (popped t.progress) t.told.progress =
        told-by progress_told (HasReached g n) (HasReached g after) (pushed s.told) (popped t.progress) t.told.progress (λ x is. record { acked = is.acked; emitted = let old = is.emitted in omega (arith, old) }) whole.workers.progress in
        let tells : pushed s2.told ≡ pushed s.told ++ told_in (part_of s).handed (part_of s2).due ∷ [] = ap (λ (x : Part). x.told) now ∙ ap (λ (x : Waiting). pushed s.told ++ told_in (part_of s).handed x ∷ []) (sym new) in
        record {
          after = after;
          call = event.call;
          whole = whole-sender told size g v n t p s s2 after.sending whole same
              (record {
                queue = d.queue;
                ring = d.ring ∙ ap (λ (x : PopEnd Sealed). popped x ++ d.queue) (sym sealed);
                due = due2;
                sent = record { acked = d.sent.acked; emitted = omega (arith, left, count) };
              })
              (told-last progress_told (HasReached g after) (pushed s.told) (pushed s2.told) (popped t.progress) t.told.progress (told_in (part_of s).handed (part_of s2).due) tells before (reached-now g v after d.queue (part_of s2).due due2));
        }

    emitted-by : (result : Result Emit NodeFault) → Emitted s.backlog.node result (part_of s) (part_of s2) → EmitsBy told size result g v n t p s s2
    emitted-by (Ok (Done number)) is =
        record { out = is.0; rest = is.1.0; oldest = is.1.1.0; numbered = is.1.1.1; comes = one-emitted is.0 is.1.0 is.1.1.0 is.1.1.2 }
    emitted-by (Ok Refused) is = none-emitted (ap (λ (x : Part). x.due) is.2) (ap (λ (x : Part). x.told) is.2)
    emitted-by (Ok Nothing) is = none-emitted (ap (λ (x : Part). x.due) is.1) (ap (λ (x : Part). x.told) is.1)
    emitted-by (Err Outlet) is = none-emitted (ap (λ (x : Part). x.due) is.2) (ap (λ (x : Part). x.told) is.2)
    emitted-by (Err Memory) is = none-emitted (ap (λ (x : Part). x.due) is) (ap (λ (x : Part). x.told) is)
    emitted-by (Err Disk) is = absurd is
    emitted-by (Err (Damaged disk place)) is = absurd is

  pub emission_keeps_whole : EmissionKeepsWhole told size
  emission_keeps_whole g v n t p s s2 result whole same sealed is = emitted-by g v n t p s s2 whole same sealed result is
