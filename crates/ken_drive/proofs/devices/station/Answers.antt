-- A station is born with devices of its own.
use Rattle.std.proofs.Common.{◌∙◌, refl, subst}
use Rattle.ken_net.specs.History.{AreNew}
use Rattle.ken_drive.proofs.devices.station.Goals as goal

pub returns-clause-born : goal.returns-clause-born
returns-clause-born g c = record { over = c.in_ok-uncreated.ensures.blank; no_restart = refl; no_line = c.new-3.ensures.items }

pub returns-clause-own : goal.returns-clause-own
returns-clause-own g c = record {
  clocks = c.oracle-luck.ensures.clocks;
  words = c.oracle-luck.ensures.words;
  oracle = c.oracle-luck.ensures.new;
  took_none = c.in_ok-out.ensures.took;
  no_faults = c.in_ok-out.ensures.faults;
  fated = c.in_ok-out.ensures.fate;
  mail = subst (λ acts. AreNew c.args.node c.args.script.now.facts.nodes acts c.in_ok-mail.mail) c.as_slice.ensures c.in_ok-mail.ensures;
  acks = subst (λ acts. AreNew c.args.node c.args.script.now.facts.nodes acts c.in_ok-acks.acks) c.as_slice-2.ensures c.in_ok-acks.ensures;
}

pub returns-clause-kept : goal.returns-clause-kept
returns-clause-kept g c = λ v. c.in_ok-uncreated.ensures.kept v ∙ c.oracle-luck.ensures.kept v ∙ c.in_ok-out.ensures.kept v

pub returns-clause-fresh : goal.returns-clause-fresh
returns-clause-fresh g c = λ b. c.in_ok-uncreated.ensures.fresh b.over
