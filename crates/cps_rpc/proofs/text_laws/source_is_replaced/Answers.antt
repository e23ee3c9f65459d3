use Rattle.cps_rpc.proofs.SourceLemmas.{source-replaced}
use Rattle.cps_rpc.proofs.text_laws.source_is_replaced.Goals as goal

pub returns : goal.returns
returns c = source-replaced
