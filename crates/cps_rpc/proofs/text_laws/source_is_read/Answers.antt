use Rattle.cps_rpc.proofs.SourceLemmas.{source-read, source-is_read}
use Rattle.cps_rpc.proofs.text_laws.source_is_read.Goals as goal

pub returns : goal.returns
returns c = λ text source. (source-read text source, source-is_read text source)
