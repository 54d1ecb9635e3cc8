use Rattle.std.proofs.Common.{sym, subst}
use Rattle.ken_app.specs.Oracles.{HasAnswered}
use Rattle.ken_leases.proofs.Drawn.{no_answer, one_answer}
use Rattle.ken_leases.proofs.leases.LeasesService.on_message.Goals as goal

pub returns-then-message-clause-clocks_go_on : goal.returns-then-message-clause-clocks_go_on
returns-then-message-clause-clocks_go_on g c =
    let told = g.O.Oracle.telling.clocks in
    let before = told c.args.turn.now.oracle.now in
    subst (λ o. HasAnswered before (told o)) (sym c.send_text.ensures.oracle) (no_answer before)

pub returns-then-message-clause-words_go_on : goal.returns-then-message-clause-words_go_on
returns-then-message-clause-words_go_on g c =
    let told = g.O.Oracle.telling.words in
    let before = told c.args.turn.now.oracle.now in
    subst (λ o. HasAnswered before (told o)) (sym c.send_text.ensures.oracle) (no_answer before)

pub returns-in_default-command-clause-clocks_go_on : goal.returns-in_default-command-clause-clocks_go_on
returns-in_default-command-clause-clocks_go_on g c =
    let told = g.O.Oracle.telling.clocks in
    let before = told c.args.turn.now.oracle.now in
    subst (λ o. HasAnswered before (told o)) (sym c.output_text-in_default-command.ensures.oracle) (no_answer before)

pub returns-in_default-command-clause-words_go_on : goal.returns-in_default-command-clause-words_go_on
returns-in_default-command-clause-words_go_on g c =
    let told = g.O.Oracle.telling.words in
    let before = told c.args.turn.now.oracle.now in
    subst (λ o. HasAnswered before (told o)) (sym c.output_text-in_default-command.ensures.oracle) (no_answer before)

pub returns-clause-clocks_go_on : goal.returns-clause-clocks_go_on
returns-clause-clocks_go_on g c =
    let told = g.O.Oracle.telling.clocks in
    let before = told c.args.turn.now.oracle.now in
    subst (λ o. HasAnswered before (told o)) (sym c.send_text-2.ensures.oracle) (one_answer before (told c.clock.new.self.oracle.now) c.in-Ok.reading c.in-Ok.ensures.clocks)
