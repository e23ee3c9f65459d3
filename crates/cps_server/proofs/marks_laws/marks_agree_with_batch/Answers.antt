use Rattle.cps_server.proofs.AgreementLemmas.{agrees}
use Rattle.cps_server.proofs.marks_laws.marks_agree_with_batch.Goals as goal

pub returns : goal.returns
returns c = agrees
