use Rattle.std.proofs.Common.{◌≡◌, ℕ, List, length, map, sym, subst}
use Rattle.std.specs.List.{All}
use Rattle.ken_model.specs.declared.messages.Message.{Message}
use Rattle.ken_record.specs.declared.sent.Sent.{Sent}
use Rattle.ken_outbox.specs.Waiting.{AreFor}
use Rattle.ken_core.specs.Turns.{mail_of}
use Rattle.ken_ship.specs.Fits.{IsMailFrom}
use Rattle.ken_ship.proofs.Lines.{mails_from, mails_for}
use Rattle.ken_ship.proofs.backlog.add_turn.Goals as goal

pub take_over-requires : goal.take_over-requires
take_over-requires c =
    let v : ℕ = c.args.node in
    let stamp : ℕ = c.args.turn.now.stamp in
    let sends : List Sent = c.args.turn.now.sends in
    let are : c.put_mails.new.mails.items ≡ map (mail_of v stamp) sends = cc (c.in_ok-put_mails.ensures, c.as_slice.ensures) in
    let each : All (IsMailFrom v) (map (mail_of v stamp) sends) = mails_from v stamp sends c.requires.low c.args.turn.now.fits in
    subst (λ (ms : List Message). AreFor (length c.args.outbox.now.lines) ms) (sym are) (mails_for v (map (mail_of v stamp) sends) (length c.args.outbox.now.lines) c.requires.each each)
