use Rattle.std.proofs.Common.{◌≡◌, ◌∙◌, sym, ap, subst}
use Rattle.ken_model.specs.declared.states.State.{State}
use Rattle.ken_outbox.specs.Waiting.{Waiting, resumed}
use Rattle.ken_ship.specs.declared.items.Progress.{Progress}
use Rattle.ken_ship.specs.Handing.{progress_in}
use Rattle.ken_ship.proofs.Lines.{IsSound}
use Rattle.ken_ship.proofs.Resumed.{sound_resumed}
use Rattle.ken_ship.proofs.backlog.Backlog.resume.Goals as goal

pub invariant_of-result : goal.invariant_of-result
invariant_of-result c =
    let s : State = c.args.state.now in
    let p : Progress = progress_in (resumed 8 s) in
    let now = sound_resumed c.args.node s c.requires.sent c.requires.mails in
    let is : IsSound c.args.node p.acked p.emitted c.in_ok-resume.field-0 = subst (λ (w : Waiting). IsSound c.args.node p.acked p.emitted w) (sym c.in_ok-resume.ensures.state) now in
    let told : p ≡ c.retired.result = sym c.retired.ensures in
    record { low = c.requires.low; each = is.each; mails = is.mails; acked = is.acked_is ∙ ap (λ (q : Progress). q.acked) told; emitted = is.emitted_is ∙ ap (λ (q : Progress). q.emitted) told }
