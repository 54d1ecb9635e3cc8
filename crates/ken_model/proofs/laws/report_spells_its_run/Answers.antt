use Rattle.ken_model.proofs.Spelled as spelled
use Rattle.ken_model.proofs.laws.report_spells_its_run.Goals as goal

pub returns : goal.returns
returns c = spelled.report_spells_its_run
