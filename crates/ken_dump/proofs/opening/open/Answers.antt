use Rattle.std.proofs.Common.{lit<, refl, ◌∙◌}
use Rattle.ken_dump.proofs.Out.{none_out, one_more_out, no_more_out, one_put_back}
use Rattle.ken_dump.proofs.Refused.{OpensBy-refused}
use Rattle.ken_dump.proofs.opening.open.Goals as goal

pub returns-in-Err-clause-opens : goal.returns-in-Err-clause-opens
returns-in-Err-clause-opens g c =
    rw c.of_open.ensures
    (OpensBy-refused c.args.paths.now 0 c.in-Err.fault (lit< tt)
    c.in-Err.ensures.finds.cause refl refl
    (no_more_out (none_out _ _) c.in-Err.ensures.finds))

pub returns-in-Err-found-clause-opens : goal.returns-in-Err-found-clause-opens
returns-in-Err-found-clause-opens g c =
    let log = one_more_out (none_out _ _) tt (rw c.as_str.ensures.value at c.in-Ok.ensures.finds) in
    let no_image = no_more_out log c.in-Err-found.ensures.finds in
    rw c.of_open-in-Err-found.ensures
    (OpensBy-refused c.args.paths.now {new = g.W.Files.filing c.put_back.new.self} 1 c.in-Err-found.fault (lit< tt)
    c.in-Err-found.ensures.finds.cause c.in-Ok.ensures.finds.cause c.put_back.ensures.puts.failures
    (one_put_back no_image (rw c.as_str-in-Err-found.ensures.value at c.put_back.ensures.puts) refl))

pub returns-in-Err-found-2-clause-opens : goal.returns-in-Err-found-2-clause-opens
returns-in-Err-found-2-clause-opens g c =
    let log = one_more_out (none_out _ _) tt (rw c.as_str.ensures.value at c.in-Ok.ensures.finds) in
    let image = one_more_out log (c.requires.image, tt) (rw c.as_str-2.ensures.value at c.in-Ok-found.ensures.finds) in
    let no_second = no_more_out image c.in-Err-found-2.ensures.finds in
    let image_puts = rw c.as_str-in-Err-found-2.ensures.value at c.put_back-in-Err-found-2.ensures.puts in
    let log_puts = rw c.as_str-in-Err-found-2-2.ensures.value at c.put_back-in-Err-found-2-2.ensures.puts in
    rw c.of_open-in-Err-found-2.ensures
    (OpensBy-refused c.args.paths.now {new = g.W.Files.filing c.put_back-in-Err-found-2-2.new.self} 2
    c.in-Err-found-2.fault (lit< tt)
    c.in-Err-found-2.ensures.finds.cause (c.in-Ok-found.ensures.finds.cause ∙ c.in-Ok.ensures.finds.cause)
    (c.put_back-in-Err-found-2-2.ensures.puts.failures ∙ c.put_back-in-Err-found-2.ensures.puts.failures)
    (one_put_back (one_put_back no_second image_puts refl) log_puts refl))
