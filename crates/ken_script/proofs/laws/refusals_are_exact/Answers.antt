use Rattle.ken_script.proofs.Told.{kinds_language, service_language}
use Rattle.ken_script.proofs.laws.refusals_are_exact.Goals as goal

pub returns-clause-kinds : goal.returns-clause-kinds
returns-clause-kinds c = kinds_language

pub returns-clause-services : goal.returns-clause-services
returns-clause-services c = service_language
