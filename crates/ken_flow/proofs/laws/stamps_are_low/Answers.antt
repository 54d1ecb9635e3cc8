use Rattle.ken_flow.proofs.Stamps.{stamps_are_low}
use Rattle.ken_flow.proofs.laws.stamps_are_low.Goals as goal

pub returns : goal.returns
returns c = stamps_are_low
