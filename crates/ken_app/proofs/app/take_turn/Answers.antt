use Rattle.std.proofs.Common.{◌≡◌, sym, subst}
use Rattle.ken_alloc.specs.Objects.{heap_in}
use Rattle.ken_app.specs.Turning.{Turning, turning, IsFresh, first_turning}
use Rattle.ken_app.proofs.Fresh.{is_fresh}
use Rattle.ken_app.proofs.app.take_turn.Goals as goal

pub on_message-requires : goal.on_message-requires
on_message-requires g c =
    let first : Turning = first_turning c.args.node c.args.nodes c.args.message.now (heap_in c.args.objects.now) in
    let seen : turning c.new-turn.result ≡ first = rw (c.new-made.ensures.0, c.new-made.ensures.1, c.new-made.ensures.2) at c.new-turn.ensures.turning in
    subst IsFresh (sym seen) (is_fresh c.args.node c.args.nodes c.args.message.now (heap_in c.args.objects.now) c.requires.placed c.stands.ensures.now c.requires.begun)
