use Rattle.std.proofs.Common.{arith}
use Rattle.ken_record.specs.Turns.{turn_pages, turn_record}
use Rattle.ken_record.proofs.Sizes.{fields_fit}
use Rattle.ken_record.proofs.turn.put_turn.Goals as goal

pub overflow_cast-fields_len : goal.overflow_cast-fields_len
overflow_cast-fields_len c =
    omega (arith, c.fields_len.ensures c.args.turn, fields_fit (turn_record c.args.turn c.args.effects.now (turn_pages c.args.pages.now)) c.requires)
