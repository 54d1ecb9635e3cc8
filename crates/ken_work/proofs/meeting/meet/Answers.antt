use Rattle.std.proofs.Common.{◌≡◌, ◌++◌, ◌∙◌, ℕ, List, [], refl, sym, ap, subst, append-nil}
use Rattle.ken_links.specs.declared.pop_end.PopEnd.{PopEnd}
use Rattle.ken_links.specs.Rings.{known, popped, pushed}
use Rattle.ken_ship.specs.declared.items.Sealed.{Sealed}
use Rattle.ken_ship.specs.Handing.{with_turns, CountsTurns}
use Rattle.ken_ship.specs.Parts.{Part, part_of}
use Rattle.ken_work.specs.declared.worker.TurnWorker.{TurnWorker}
use Rattle.ken_ship.proofs.Handed.{none_counted}
use Rattle.ken_work.specs.declared.items.Settled.{Settled}
use Rattle.ken_work.specs.Meeting.{WasTold}
use Rattle.ken_work.specs.News.{turn_settled}
use Rattle.ken_work.proofs.SameFacts.{handler_met}
use Rattle.ken_work.proofs.meeting.meet.Goals as goal

pub returns-in_err-receive-clause-met : goal.returns-in_err-receive-clause-met
returns-in_err-receive-clause-met g c =
    let t : TurnWorker g.row.D.Denot = c.args.turns.now in
    let t2 : TurnWorker g.row.D.Denot = c.hear_progress.new.self in
    let heard = c.hear_progress.ensures in
    let ring : t2.settled ≡ c.tell_all.new.pop = ap (λ (w : TurnWorker g.row.D.Denot). w.settled) heard.rest in
    let same : pushed t2.sealed ≡ pushed t.sealed = ap (λ (w : TurnWorker g.row.D.Denot). pushed w.sealed) heard.rest in
    record {
      handler = handler_met t t2 c.receive.new.ring t2.sealed heard.rest;
      pages = c.receive.ensures.ring.0 ∙ ap (λ (w : TurnWorker g.row.D.Denot). pushed w.pages) heard.rest;
      sealed = same;
      settled = subst (λ (r : PopEnd Settled). WasTold turn_settled (popped t.settled) (popped r) t.told.settled t2.told.settled) (sym ring) (subst (λ (n : ℕ). WasTold turn_settled (popped t.settled) (popped c.tell_all.new.pop) t.told.settled n) (sym heard.settled) c.tell_all.ensures.told);
      progress = heard.told;
      patches = record { turns = c.receive.ensures.handed.turns; popped_are = c.receive.ensures.handed.popped_are; handed = c.receive.ensures.handed.handed };
      settles = ap pushed c.receive.ensures.settled ∙ c.tell_all.ensures.same.0;
      sends = record { turns = []; popped_are = ap popped heard.sealed ∙ sym (append-nil (popped c.args.sends.now.sealed)); waits = ap (λ (x : Part). x.due) heard.part };
      counts = subst (λ (n : ℕ). CountsTurns (popped c.args.sends.now.sealed) (popped c.hear_progress.new.sends.sealed) (part_of c.args.sends.now).handed n) (sym (ap (λ (x : Part). x.handed) heard.part)) (none_counted (popped c.args.sends.now.sealed) (popped c.hear_progress.new.sends.sealed) (part_of c.args.sends.now).handed (ap popped heard.sealed));
      rest = subst (λ (x : Part). part_of c.hear_progress.new.sends ≡ record x { due = (part_of c.hear_progress.new.sends).due; handed = (part_of c.hear_progress.new.sends).handed }) heard.part refl;
      fronts = λ f. record {
        pages = (known c.receive.new.self.pages, sym c.receive.ensures.queued);
        sealed = (f.sealed.0, same ∙ f.sealed.1 ∙ ap (λ (xs : List Sealed). xs ++ f.sealed.0) (sym (ap popped heard.sealed)));
        settled = ([], ap pushed c.receive.ensures.settled ∙ sym c.tell_all.ensures.emptied.all ∙ ap popped (sym ring) ∙ sym (append-nil (popped t2.settled)));
        progress = ([], sym heard.emptied.all ∙ sym (append-nil (popped t2.progress)));
      };
    }

pub returns-clause-met : goal.returns-clause-met
returns-clause-met g c =
    let t : TurnWorker g.row.D.Denot = c.args.turns.now in
    let t2 : TurnWorker g.row.D.Denot = c.hear_progress.new.self in
    let heard = c.hear_progress.ensures in
    let sent = c.receive-2.ensures in
    let ring : t2.settled ≡ c.tell_all.new.pop = ap (λ (w : TurnWorker g.row.D.Denot). w.settled) heard.rest in
    record {
      handler = handler_met t t2 c.receive.new.ring c.receive-2.new.ring heard.rest;
      pages = c.receive.ensures.ring.0 ∙ ap (λ (w : TurnWorker g.row.D.Denot). pushed w.pages) heard.rest;
      sealed = sent.same.0 ∙ ap (λ (w : TurnWorker g.row.D.Denot). pushed w.sealed) heard.rest;
      settled = subst (λ (r : PopEnd Settled). WasTold turn_settled (popped t.settled) (popped r) t.told.settled t2.told.settled) (sym ring) (subst (λ (n : ℕ). WasTold turn_settled (popped t.settled) (popped c.tell_all.new.pop) t.told.settled n) (sym heard.settled) c.tell_all.ensures.told);
      progress = heard.told;
      patches = record { turns = c.receive.ensures.handed.turns; popped_are = c.receive.ensures.handed.popped_are; handed = c.receive.ensures.handed.handed };
      settles = ap pushed c.receive.ensures.settled ∙ c.tell_all.ensures.same.0;
      sends = record {
        turns = sent.received.turns;
        popped_are = sent.received.popped_are ∙ ap (λ (xs : List Sealed). xs ++ sent.received.turns) (ap popped heard.sealed);
        waits = sent.received.waits ∙ ap (λ (v : ℕ). with_turns v sent.received.turns (part_of c.hear_progress.new.sends).due) heard.worker.node ∙ ap (λ (x : Part). with_turns c.args.sends.now.backlog.node sent.received.turns x.due) heard.part;
      };
      counts = subst (λ (n : ℕ). CountsTurns (popped c.args.sends.now.sealed) (popped c.receive-2.new.self.sealed) n (part_of c.receive-2.new.self).handed) (ap (λ (x : Part). x.handed) heard.part)
          (subst (λ (xs : List Sealed). CountsTurns xs (popped c.receive-2.new.self.sealed) (part_of c.hear_progress.new.sends).handed (part_of c.receive-2.new.self).handed) (ap popped heard.sealed) sent.number);
      rest = subst (λ (x : Part). part_of c.receive-2.new.self ≡ record x { due = (part_of c.receive-2.new.self).due; handed = (part_of c.receive-2.new.self).handed }) heard.part sent.part;
      fronts = λ f. record {
        pages = (known c.receive.new.self.pages, sym c.receive.ensures.queued);
        sealed = (known c.receive-2.new.self.sealed, sym sent.queued);
        settled = ([], ap pushed c.receive.ensures.settled ∙ sym c.tell_all.ensures.emptied.all ∙ ap popped (sym ring) ∙ sym (append-nil (popped t2.settled)));
        progress = ([], ap pushed sent.told ∙ sym heard.emptied.all ∙ sym (append-nil (popped t2.progress)));
      };
    }
