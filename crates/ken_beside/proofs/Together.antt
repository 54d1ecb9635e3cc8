-- The steps of a node's three workers are a run of events of the node.
use Rattle.std.proofs.Common.{◌≡◌, ℕ, ◌+◌, ◌-◌, ◌<◌, ◌≤◌, List, [], ◌++◌, length, refl, sym, ap, subst, ◌∙◌, append-nil, append_assoc, arith}
use Rattle.std.specs.List.{Contains}
use Rattle.ken_disk.specs.declared.disk.Disk as disk
use Rattle.ken_app.specs.declared.oracle.Oracle as oracle
use Rattle.ken_model.specs.Game.{Game}
use Rattle.ken_net.specs.declared.net.Net as net
use Rattle.ken_net.specs.Puts.{Put}
use Rattle.ken_record.specs.declared.effects.Effects.{Effects}
use Rattle.ken_core.specs.Nodes.{Node}
use Rattle.ken_core.specs.Packets.{Packet, nothing}
use Rattle.ken_cover.specs.Overlay.{AreWithin}
use Rattle.ken_cover.specs.Sides.{pages_of}
use Rattle.ken_store.specs.Apart.{hand_all}
use Rattle.ken_links.specs.Rings.{pushed, popped}
use Rattle.ken_ship.specs.declared.items.Sealed.{Sealed}
use Rattle.ken_ship.specs.declared.items.Told.{Told}
use Rattle.ken_ship.specs.declared.outlet.Outlet as outlet
use Rattle.ken_ship.specs.Laws.{packets_from}
use Rattle.ken_ship.specs.Parts.{part_of}
use Rattle.ken_work.specs.declared.items.Frozen.{Frozen}
use Rattle.ken_work.specs.declared.items.Settled.{Settled}
use Rattle.ken_work.specs.declared.patcher.PatchWorker.{PatchWorker}
use Rattle.ken_work.specs.Meeting.{AreFronts}
use Rattle.ken_work.specs.Patches.{waits_of}
use Rattle.ken_weave.specs.Workers.{Counts, Ends, Tells, Waits}
use Rattle.ken_weave.specs.Laws.{HaveFronts, KeepRules}
use Rattle.ken_weave.specs.Orders.{Keeps}
use Rattle.ken_weave.proofs.Keeping.{kept}
use Rattle.ken_weave.proofs.Weave.{woven}
use Rattle.ken_beside.specs.Beside.{SideBySide}
use Rattle.ken_beside.specs.On.{IsOn}
use Rattle.ken_beside.specs.Puts.{none}
use Rattle.ken_beside.specs.Seats.{Handling, Sending}
use Rattle.ken_beside.proofs.Accounts.{has-sent, has-turned, synced-still}
use Rattle.ken_beside.proofs.Disks.{image-told, steps-told}
use Rattle.ken_beside.proofs.Given.{handler-gave, handler-given, sender-gave, sender-given}
use Rattle.ken_beside.proofs.Handled.{FitTurn, all-pushes, counts-pages, counts-sealed, longer, to-patcher, to-sender, turns-fit, waits-progress, waits-settled}
use Rattle.ken_beside.proofs.Numbered.{FollowOn, all-known, all-may, follow-numbered, frozen_turn, sealed_turn}
use Rattle.ken_beside.proofs.Patched.{FitPatch, patcher-counts, patcher-ends, patcher-tells, patches-fit}
use Rattle.ken_beside.proofs.Sent.{FitSend, sender-counts, sender-ends, sender-tells, sends-fit}
use Rattle.ken_beside.proofs.SoFar.{SoFar, handler-steps, patcher-steps, sender-steps}
use Rattle.ken_beside.proofs.Spelled.{none-put}
use Rattle.ken_beside.proofs.Taken.{TookStep, all-given, given-all, packets-left, packets-right, took-all}

-- a list that has more than another has it by whatever names they go
turns-more : (after now before start more : List Effects) → now ≡ after → now ≡ before ++ more → before ≡ start → after ≡ start ++ more
turns-more after now before start more kept grew was = sym kept ∙ grew ∙ ap (λ (ts : List Effects). ts ++ more) was

-- ---- rules of a step are those of one of which more is known

module _ {W K N : Type 0} (step narrow : W → W → Type 0) (plainly : (a b : W) → narrow a b → step a b) (ends : Ends W K N) where
  counts-by : Counts step ends → Counts narrow ends
  counts-by counts = record { turns = λ a b one. counts.turns a b (plainly a b one); news = λ a b one. counts.news a b (plainly a b one) }

  tells-by : (by : N → ℕ) → Tells step ends by → Tells narrow ends by
  tells-by by tells a b one = tells a b (plainly a b one)

  waits-by : (by : N → ℕ) → Waits step ends by → Waits narrow ends by
  waits-by by waits a b one = waits a b (plainly a b one)

module _ {D N O U : Type 0} (d : disk.Ghosts D) (e : net.Ghosts N) (o : oracle.Ghosts O) (u : outlet.Ghosts U)
    (put_still : (a : N) → e.put_between a a []) (put_joins : (a b c : N) (ps qs : List Put) → e.put_between a b ps → e.put_between b c qs → e.put_between a c (ps ++ qs)) where
  module _ (kind : Packet → Type 0) (g : Game) (v : ℕ) (n : Node) (t0 : Handling D N O) (s0 : Sending N U) (few : g.nodes ≤ 8) (known : v < g.nodes) where
    -- how many turns were pushed to each at the start, and how many were made
    abbrev pages : ℕ
    pages = length (pushed t0.worker.pages)

    abbrev sealed : ℕ
    sealed = length (pushed t0.worker.sealed)

    abbrev made : ℕ
    made = length t0.worker.turns.items

    -- news stand with the turns that were pushed by then
    abbrev settled_by : Settled → ℕ
    settled_by x = (x.by - made) + pages

    abbrev told_by : Told → ℕ
    told_by x = (x.by - made) + sealed

    abbrev Turning : Handling D N O → Handling D N O → Type 0
    Turning = FitTurn d e o g.handler pages sealed made

    abbrev Patching : PatchWorker D → PatchWorker D → Type 0
    Patching = FitPatch d pages made

    abbrev Sends : Sending N U → Sending N U → Type 0
    Sends = FitSend e u sealed made

    abbrev turning-given : (a b : Handling D N O) → Turning a b → List (List ℕ)
    turning-given a b fit = handler-given d e o g.handler a b fit.step

    abbrev sends-given : (a b : Sending N U) → Sends a b → List (List ℕ)
    sends-given a b fit = sender-given e u a b fit.step

    abbrev TurnStep : Handling D N O → Handling D N O → Type 0
    TurnStep = TookStep Turning turning-given g.nodes kind

    abbrev SendStep : Sending N U → Sending N U → Type 0
    SendStep = TookStep Sends sends-given g.nodes kind

    rules : KeepRules TurnStep Patching SendStep to-patcher patcher-ends to-sender sender-ends settled_by told_by
    rules = record {
      hands_pages = counts-by Turning TurnStep (λ a b one. one.0) to-patcher (counts-pages d e o g.handler pages sealed made);
      hands_sealed = counts-by Turning TurnStep (λ a b one. one.0) to-sender (counts-sealed d e o g.handler pages sealed made);
      patches = patcher-counts d pages made;
      sends = counts-by Sends SendStep (λ a b one. one.0) sender-ends (sender-counts e u sealed made);
      settled = patcher-tells d pages made;
      progress = tells-by Sends SendStep (λ a b one. one.0) sender-ends told_by (sender-tells e u sealed made);
    }

    hears-settled : Waits TurnStep to-patcher settled_by
    hears-settled = waits-by Turning TurnStep (λ a b one. one.0) to-patcher settled_by (waits-settled d e o g.handler pages sealed made)

    hears-progress : Waits TurnStep to-sender told_by
    hears-progress = waits-by Turning TurnStep (λ a b one. one.0) to-sender told_by (waits-progress d e o g.handler pages sealed made)

    abbrev Rings : Handling D N O → PatchWorker D → Sending N U → Type 0
    Rings = HaveFronts TurnStep Patching SendStep to-patcher patcher-ends to-sender sender-ends

    fronts-of : (t : Handling D N O) (p : PatchWorker D) (s : Sending N U) → Rings t p s → AreFronts t.worker p s.worker
    fronts-of t p s rings = record { pages = rings.0.handed; sealed = rings.1.handed; settled = rings.0.told; progress = rings.1.told }

    rings-of : (t : Handling D N O) (p : PatchWorker D) (s : Sending N U) → AreFronts t.worker p s.worker → Rings t p s
    rings-of t p s fronts = (record { handed = fronts.pages; told = fronts.settled }, record { handed = fronts.sealed; told = fronts.progress })

    abbrev Made : Handling D N O → PatchWorker D → Sending N U → Type 0
    Made = SoFar d e o u kind g v put_still put_joins few known n t0 s0

    keeps : Keeps TurnStep Patching SendStep Rings Made
    keeps = record {
      turns = λ t t2 p s one before after so. handler-steps d e o u kind g v put_still put_joins few known n t0 s0 t t2 p s so (fronts-of t2 p s after) one.0.step one.1;
      patches = λ t p p2 s fit before after so. patcher-steps d e o u kind g v put_still put_joins few known n t0 s0 t p p2 s so (fronts-of t p2 s after) fit.step;
      sends = λ t p s s2 one before after so. sender-steps d e o u kind g v put_still put_joins few known n t0 s0 t p s s2 so (fronts-of t p s2 after) one.0.step one.1;
    }

  -- ---- all steps

  module _ (given_still : (a : N) → e.given_between a a []) (given_joins : (a b c : N) (xs ys : List (List ℕ)) → e.given_between a b xs → e.given_between b c ys → e.given_between a c (xs ++ ys)) where
    pub side_by_side : SideBySide d e o u
    side_by_side g v n t t2 p p2 s s2 ts ps ss on by_t by_p by_s fronts =
        let known = on.known in
        let whole = on.whole in
        let few : g.nodes ≤ 8 = let most = t.worker.few in let nodes = whole.workers.of_run.nodes in omega (arith, most, nodes) in
        let start_pages : ℕ = length (pushed t.worker.pages) in
        let start_sealed : ℕ = length (pushed t.worker.sealed) in
        let made_before : ℕ = length t.worker.turns.items in
        let pushes = all-pushes d e o g.handler t t2 ts by_t in
        let fit_t = turns-fit d e o g.handler start_pages start_sealed made_before t t2 ts by_t (omega arith) (omega arith) (omega arith) in
        -- the turns that the patcher was handed, or may be
        let held = whole.pages in
        let heap : ℕ = p.side.image.pages in
        let to_patch : List Frozen = held.queue ++ pushes.pages in
        let all_pages : pushed t2.worker.pages ≡ popped p.pages ++ to_patch = pushes.pages_are ∙ ap (λ (fs : List Frozen). fs ++ pushes.pages) held.ring ∙ append_assoc (popped p.pages) held.queue pushes.pages in
        let size_pages : start_pages ≡ length (popped p.pages) + length held.queue = longer (popped p.pages) held.queue (pushed t.worker.pages) held.ring in
        let within : AreWithin heap (pages_of (hand_all (waits_of held.queue) held.image).ahead) =
        subst (λ (k : ℕ). AreWithin k (pages_of (hand_all (waits_of held.queue) held.image).ahead)) (sym held.apart.count) held.apart.covers.ahead_within in
        let follow : FollowOn heap made_before pushes.pages = subst (λ (k : ℕ). FollowOn k made_before pushes.pages) (sym held.apart.count) pushes.follow in
        let may = all-may heap p.side.known made_before held.queue pushes.pages held.image held.apart.waits within (held.apart.known ∙ sym whole.workers.working.count) follow in
        let known_pages = all-known frozen_turn start_pages made_before (length (popped p.pages)) p.side.known held.queue pushes.pages (sym size_pages) (follow-numbered heap made_before pushes.pages follow) in
        let fit_p = patches-fit d start_pages made_before heap p p2 ps (pushed t2.worker.pages) to_patch fronts.pages.0 by_p refl all_pages fronts.pages.1 may known_pages in
        -- and those of the externaliser
        let due = whole.workers.sends in
        let to_send : List Sealed = due.queue ++ pushes.sealed in
        let all_sealed : pushed t2.worker.sealed ≡ popped s.worker.sealed ++ to_send =
        pushes.sealed_are ∙ ap (λ (xs : List Sealed). xs ++ pushes.sealed) due.ring ∙ append_assoc (popped s.worker.sealed) due.queue pushes.sealed in
        let size_sealed : start_sealed ≡ length (popped s.worker.sealed) + length due.queue = longer (popped s.worker.sealed) due.queue (pushed t.worker.sealed) due.ring in
        let known_sealed = all-known sealed_turn start_sealed made_before (length (popped s.worker.sealed)) (part_of s.worker).handed due.queue pushes.sealed (sym size_sealed) pushes.numbered in
        let fit_s = sends-fit e u start_sealed made_before s s2 ss (pushed t2.worker.sealed) to_send fronts.sealed.0 by_s all_sealed fronts.sealed.1 known_sealed in
        -- what they were given
        let gave_t : List (List ℕ) = given-all (FitTurn d e o g.handler start_pages start_sealed made_before) (λ a b fit. handler-given d e o g.handler a b fit.step) t t2 ts fit_t in
        let gave_s : List (List ℕ) = given-all (FitSend e u start_sealed made_before) (λ a b fit. sender-given e u a b fit.step) s s2 ss fit_s in
        let kind : Packet → Type 0 = Contains (packets_from g.nodes (gave_t ++ gave_s)) in
        -- each step took what it was given
        let took_t = took-all (Turning kind g v n t s few known) (turning-given kind g v n t s few known) g.nodes kind t t2 ts fit_t (λ packet there. packets-left g.nodes gave_t gave_s packet there) in
        let took_s = took-all (Sends kind g v n t s few known) (sends-given kind g v n t s few known) g.nodes kind s s2 ss fit_s (λ packet there. packets-right g.nodes gave_t gave_s packet there) in
        -- so there is an order
        let starts = rings-of kind g v n t s few known t p s (record {
          pages = (held.queue, held.ring);
          sealed = (due.queue, due.ring);
          settled = (whole.workers.settled.queue, whole.workers.settled.ring);
          progress = (whole.workers.progress.queue, whole.workers.progress.ring);
        }) in
        let order = woven (TurnStep kind g v n t s few known) (Patching kind g v n t s few known) (SendStep kind g v n t s few known) to-patcher patcher-ends to-sender sender-ends (settled_by kind g v n t s few known) (told_by kind g v n t s few known)
        (rules kind g v n t s few known) (hears-settled kind g v n t s few known) (hears-progress kind g v n t s few known)
        t t2 p p2 s s2 ts ps ss took_t fit_p took_s (omega arith) (omega arith) starts (rings-of kind g v n t s few known t2 p2 s2 fronts) in
        let so = kept (TurnStep kind g v n t s few known) (Patching kind g v n t s few known) (SendStep kind g v n t s few known) (Rings kind g v n t s few known) (Made kind g v n t s few known) (keeps kind g v n t s few known) t t2 p p2 s s2 ts ps ss starts order
        (record {
          events = [];
          out = nothing;
          after = n;
          run = (refl, refl);
          calm = tt;
          whole = whole;
          tells = image-told d t.worker.side.which t.worker.side.log.disk p.side.image.disk t.worker.side.other on.tell;
          by_handler = [];
          by_sender = [];
          all = none;
          handler_puts = none-put g.nodes (e.put_between t.net t.net) (put_still t.net);
          sender_puts = none-put g.nodes (e.put_between s.net s.net) (put_still s.net);
          handler_acks = tt;
          sender_mails = tt;
          emissions = sym (append-nil (part_of s.worker).emissions);
          took = refl;
        }) in
        let now : IsOn d.told d.size g v so.after t2.worker p2 s2.worker = record { limits = on.limits; known = known; whole = so.whole; tell = steps-told d e o g.handler t t2 p p2 ts ps by_t by_p on.tell } in
        let turned = has-turned d e o g.handler t t2 ts by_t in
        let sent_on = has-sent e u s s2 ss by_s in
        record {
          events = so.events;
          out = so.out;
          after = so.after;
          handler_gave = gave_t;
          handler_given = all-given (FitTurn d e o g.handler start_pages start_sealed made_before) (λ a b fit. handler-given d e o g.handler a b fit.step) (λ a b. e.given_between a.net b.net) (λ a. given_still a.net) (λ a b c. given_joins a.net b.net c.net)
              (λ a b fit. handler-gave d e o g.handler a b fit.step) t t2 ts fit_t;
          sender_gave = gave_s;
          sender_given = all-given (FitSend e u start_sealed made_before) (λ a b fit. sender-given e u a b fit.step) (λ a b. e.given_between a.net b.net) (λ a. given_still a.net) (λ a b c. given_joins a.net b.net c.net)
              (λ a b fit. sender-gave e u given_still a b fit.step) s s2 ss fit_s;
          run = so.run;
          calm = so.calm;
          on = now;
          by_handler = so.by_handler;
          by_sender = so.by_sender;
          all = so.all;
          handler_puts = so.handler_puts;
          sender_puts = so.sender_puts;
          handler_acks = so.handler_acks;
          sender_mails = so.sender_mails;
          emissions = so.emissions;
          took = so.took;
          refusals = sent_on.refusals;
          turns = turned.turns;
          sealed = turns-more so.after.turning.turns t2.worker.turns.items t.worker.turns.items n.turning.turns turned.turns so.whole.workers.turns.kept turned.sealed whole.workers.turns.kept;
          drew = turned.drew;
          origin = turned.origin;
          synced = synced-still d e o g.handler g v n so.after t t2 p p2 s.worker s2.worker ts on by_t now;
          handler_end = turned.end;
          sender_end = sent_on.end;
        }
