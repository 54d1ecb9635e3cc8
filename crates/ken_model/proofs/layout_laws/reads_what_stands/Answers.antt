use Rattle.ken_model.proofs.ReadBack.{reads_what_stands}
use Rattle.ken_model.proofs.layout_laws.reads_what_stands.Goals as goal

pub returns : goal.returns
returns c = reads_what_stands
