use Rattle.std.proofs.Common.{ℕ, List, sym, subst}
use Rattle.ken_outbox.specs.Waiting.{Waiting}
use Rattle.ken_ship.proofs.Lines.{IsSound, sound_turn}
use Rattle.ken_ship.proofs.backlog.Backlog.add_oldest.Goals as goal

pub invariant_of-self-in-Some : goal.invariant_of-self-in-Some
invariant_of-self-in-Some c =
    let v : ℕ = c.args.self.now.node in
    let acked : List ℕ = c.args.self.now.progress.acked in
    let emitted : ℕ = c.args.self.now.progress.emitted in
    let old : Waiting = c.args.self.now.outbox in
    let was : IsSound v acked emitted old = record { each = c.args.self.now.each; mails = c.args.self.now.mails; acked_is = c.args.self.now.acked; emitted_is = c.args.self.now.emitted } in
    let now = sound_turn v acked emitted old c.in-Some.turn.now c.args.self.now.low c.in-Some.turn.now.fits was in
    let is : IsSound v acked emitted c.add_turn.new.outbox = subst (λ (w : Waiting). IsSound v acked emitted w) (sym c.in_ok-add_turn.ensures.ok) now in
    record { low = c.args.self.now.low; each = is.each; mails = is.mails; acked = is.acked_is; emitted = is.emitted_is }
