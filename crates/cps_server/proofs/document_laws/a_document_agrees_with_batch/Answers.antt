use Rattle.cps_server.proofs.SourceLemmas.{agrees}
use Rattle.cps_server.proofs.document_laws.a_document_agrees_with_batch.Goals as goal

pub returns : goal.returns
returns c = agrees
