use Rattle.std.proofs.Common.{◌≡◌, ℕ, List, max, get_or, slice_set, sym, ap, ◌∙◌, subst}
use Rattle.ken_outbox.specs.Waiting.{Waiting}
use Rattle.ken_ship.specs.declared.items.Progress.{Progress}
use Rattle.ken_ship.proofs.Lines.{IsSound, sound_acked}
use Rattle.ken_ship.proofs.backlog.Backlog.acknowledge.Goals as goal

pub invariant_of-self : goal.invariant_of-self
invariant_of-self c =
    let v : ℕ = c.args.self.now.node in
    let acked : List ℕ = c.args.self.now.progress.acked in
    let emitted : ℕ = c.args.self.now.progress.emitted in
    let old : Waiting = c.args.self.now.outbox in
    let was : IsSound v acked emitted old = record { each = c.args.self.now.each; mails = c.args.self.now.mails; acked_is = c.args.self.now.acked; emitted_is = c.args.self.now.emitted } in
    let now = sound_acked v acked emitted c.args.from c.args.through old c.requires.from was in
    let told : slice_set acked c.args.from (max (get_or acked c.args.from 0) c.args.through) ≡ c.raise.new.self.acked = ap (λ (p : Progress). p.acked) (sym c.raise.ensures) in
    let same : emitted ≡ c.raise.new.self.emitted = ap (λ (p : Progress). p.emitted) (sym c.raise.ensures) in
    let is : IsSound v (slice_set acked c.args.from (max (get_or acked c.args.from 0) c.args.through)) emitted c.acked.new.self = subst (λ (w : Waiting). IsSound v (slice_set acked c.args.from (max (get_or acked c.args.from 0) c.args.through)) emitted w) (sym c.acked.ensures) now in
    record { low = c.args.self.now.low; each = is.each; mails = is.mails; acked = is.acked_is ∙ told; emitted = is.emitted_is ∙ same }
