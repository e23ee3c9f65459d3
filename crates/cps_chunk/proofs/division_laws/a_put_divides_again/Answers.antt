use Rattle.cps_chunk.proofs.PutLemmas.{puts}
use Rattle.cps_chunk.proofs.division_laws.a_put_divides_again.Goals as goal

pub returns : goal.returns
returns c = puts
