-- The devices of a run are given back, unless memory was short.
use Rattle.ken_drive.proofs.finishing.give_back.Goals as goal

pub returns-then-is_short-clause-given : goal.returns-then-is_short-clause-given
returns-then-is_short-clause-given g c = λ long. absurd (long (c.is_short.ensures.0 c.if-is_short.true))

pub finish-requires : goal.finish-requires
finish-requires g c = (c.type_bounds.send-W-Dev, (c.type_bounds.send-W-Luck, (c.type_bounds.send-W-Out, c.requires (λ is. (let yes = c.is_short.ensures.1 is in let not = c.if-is_short.false in absurd cc)))))

pub returns-clause-given : goal.returns-clause-given
returns-clause-given g c = λ long. record { given = c.finish.ensures.given; others = c.finish.ensures.others }

pub returns-clause-none : goal.returns-clause-none
returns-clause-none g c = λ is. (let yes = c.is_short.ensures.1 is in let not = c.if-is_short.false in absurd cc)
