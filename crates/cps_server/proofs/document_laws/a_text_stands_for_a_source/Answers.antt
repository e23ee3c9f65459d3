use Rattle.cps_server.proofs.SourceLemmas.{stands}
use Rattle.cps_server.proofs.document_laws.a_text_stands_for_a_source.Goals as goal

pub returns : goal.returns
returns c = stands
