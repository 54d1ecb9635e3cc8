use Rattle.ken_whole.proofs.ShortKinds.{kinds_keep_limits}
use Rattle.ken_drive.proofs.Texts.{kinds_keep_lines}
use Rattle.ken_drive.proofs.laws.kinds_serve.Goals as goal

pub returns : goal.returns
returns c script =
    let f = script.facts in
    record { keeps = kinds_keep_limits f.kind f.nodes f.size; lines = kinds_keep_lines f.kind f.nodes f.size }
