use Rattle.cps_check.proofs.AgreementLemmas.{agrees}
use Rattle.cps_check.proofs.laws.a_check_agrees_with_batch.Goals as goal

pub returns : goal.returns
returns c = agrees
